-- The texts of ends show a spanning tree if no cycle occurs, and otherwise the cycles that occur.
use Rattle.std.proofs.Common.{◌≡◌, ℕ, List, [], ◌∷◌, ◌++◌, length, codes, refl, sym, ap, subst, ◌∙◌, arith, append_assoc, append-nil}
use Rattle.std.proofs.lemmas.List.{length-map}
use Rattle.pop_model.specs.Popping.{values_at}
use Rattle.pop_model.specs.Families.Family.{Cycles}
use Rattle.pop_model.specs.Text.{line}
use Rattle.graph_read.specs.Grids.{grid_of}
use Rattle.cycle_popping.specs.Trees.{heads_of_tree}
use Rattle.pop_print.specs.declared.facts.Facts.TheVariants.{Tree}
use Rattle.pop_print.specs.Made.{grid_line, count_line, totals_line}
use Rattle.pop_print.specs.Output.{stuck_lines, tree_lines, used_line, pops_line}
use Rattle.printed_samples.specs.Stuck.{ShowsStuck}
use Rattle.printed_samples.specs.Laws.{numbers_of}
use Rattle.printed_samples.proofs.StuckNumbers.{empty_finished}
use Rattle.printed_samples.proofs.ShownEnds.{shows_stuck}
use Rattle.printed_samples.specs.Trees.{arrows_to}
use Rattle.printed_samples.specs.ArrowCycles.{IsArrowCycle}
use Rattle.printed_samples.specs.TreeLaws.{cycles_over, TreeShown, MadeShown}
use Rattle.printed_samples.proofs.TreeArrows.{tree_printed}
use Rattle.printed_samples.proofs.Leading.{printed_leads}
use Rattle.printed_samples.proofs.StuckCycles.{printed_cycles}

-- the law for trees
pub tree_shown : TreeShown
tree_shown g root s c pops [] is list =
    let head : List ℕ = line (codes "s SAMPLE") in
    let lines : List ℕ = tree_lines g root (values_at s c) in
    record {
      arrows = arrows_to g root (values_at s c);
      rest = used_line c ++ pops_line pops;
      out_is = append_assoc (head ++ lines) (used_line c) (pops_line pops)
          ∙ ap (λ l. (head ++ l) ++ (used_line c ++ pops_line pops)) (tree_printed g root (values_at s c));
      tree = printed_leads g root s c is (empty_finished (cycles_over s g root) c list);
    }
tree_shown g root s c pops (e ∷ stuck) is list =
    let out : List ℕ =
    ((line (codes "s EXHAUSTED") ++ stuck_lines (Tree g root) (Cycles (heads_of_tree g root)) (e ∷ stuck))
    ++ used_line c)
    ++ pops_line pops in
    subst (ShowsStuck (λ used numbers. IsArrowCycle (arrows_to g root (values_at s used)) numbers)) (append-nil out)
    (shows_stuck (Tree g root) (cycles_over s g root) c pops e stuck []
    (λ used numbers. IsArrowCycle (arrows_to g root (values_at s used)) numbers)
    (printed_cycles g root s c (e ∷ stuck) is list (omega arith)))

-- the law for made grids
pub made_shown : MadeShown
made_shown side s c pops [] is list =
    record {
      slots = values_at s c;
      used = c;
      pops = pops;
      out_is = refl;
      tree = printed_leads (grid_of side) 1 s c is (empty_finished (cycles_over s (grid_of side) 1) c list);
    }
made_shown side s c pops (e ∷ stuck) is list =
    let events : List (List ℕ) =
    numbers_of (Tree (grid_of side) 1) (Cycles (heads_of_tree (grid_of side) 1)) (e ∷ stuck) in
    let size : length (e ∷ stuck) ≡ length events =
    sym (length-map (e ∷ stuck) _) in
    record {
      events = events;
      used = c;
      pops = pops;
      out_is = ap (λ n. line (codes "s EXHAUSTED") ++ grid_line side ++ count_line n ++ totals_line c
          ++ pops_line pops) size;
      stuck = printed_cycles (grid_of side) 1 s c (e ∷ stuck) is list (omega arith);
    }
