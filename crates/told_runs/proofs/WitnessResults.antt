-- A witness as it is printed: its tree, or that the requested pop is missing.
use Rattle.std.proofs.Common.{◌≡◌, ◌<◌, ◌≤◌, ℕ, true, false, List, length, Some, slice_get, Result, Ok, Err, IfOk, refl}
use Rattle.pop_model.specs.Families.{Family}
use Rattle.pop_model.specs.Logs.{LogRecord}
use Rattle.pop_log.specs.declared.names.Names.{Names}
use Rattle.pop_log.specs.Printed.{name_of}
use Rattle.witness_trees.specs.Pops.{Uses}
use Rattle.witness_trees.specs.Vertices.{Vertex}
use Rattle.witness_trees.specs.Trees.{IsTree}
use Rattle.witness_trees.specs.TreeTexts.{tree_text, no_witness_text}
use Rattle.told_runs.specs.declared.witness.LogText.{LogText}
use Rattle.told_runs.specs.Witnesses.{IsCursorNamed, TellsWitness}
use Rattle.told_runs.specs.Witnesses.Witness.{Missing, Shown}

-- the asked pop is missing
pub told_missing : {E : Type 0} (names : Names) (family : Family) (asked : ℕ × ℕ) (cursors : List ℕ) (log : List LogRecord)
    (c : ℕ) (r : Result LogText E) → IsCursorNamed names cursors asked.0 c → c ≤ asked.1
    → IfOk r (λ w. w.missing ≡ true) → IfOk r (λ w. w.bytes.items ≡ no_witness_text asked.0 asked.1 c)
    → IfOk r (λ w. TellsWitness names family (Some asked) cursors log w.missing w.bytes.items)
told_missing names family asked cursors log c (Ok w) named past missing text =
    record {
      witness = Missing asked.0 asked.1 c;
      is = (refl, refl, named, past);
      missing_is = missing;
      text_is = text;
    }
told_missing names family asked cursors log c (Err e) named past missing text = tt

-- its tree is told
pub told_tree : {E : Type 0} (names : Names) (family : Family) (asked : ℕ × ℕ) (cursors : List ℕ) (log : List LogRecord)
    (v t : ℕ) (p : LogRecord) (r : Result LogText E) → v < length cursors → name_of names v ≡ asked.0
    → slice_get log t ≡ Some p → Uses p v asked.1 → IfOk r (λ w. w.missing ≡ false)
    → IfOk r (λ w. (tree : List Vertex) × IsTree log t tree × (w.bytes.items ≡ tree_text names family tree))
    → IfOk r (λ w. TellsWitness names family (Some asked) cursors log w.missing w.bytes.items)
told_tree names family asked cursors log v t p (Ok w) below named record_is used there (tree, tree_is, text_is) =
    record {
      witness = Shown tree;
      is = record {
        v = v;
        below = below;
        named = named;
        t = t;
        r = p;
        record_is = record_is;
        used = used;
        tree_is = tree_is;
      };
      missing_is = there;
      text_is = text_is;
    }
told_tree names family asked cursors log v t p (Err e) below named record_is used there text = tt
