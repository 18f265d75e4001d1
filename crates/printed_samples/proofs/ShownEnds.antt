-- The texts of ends show a sample if no event occurs, and otherwise the events that occur.
use Rattle.std.proofs.Common.{◌≡◌, ℕ, List, [], ◌∷◌, ◌++◌, length, map, codes, decimal, sym, ap, subst, ◌∙◌, arith, append_assoc, append-nil, sum, None}
use Rattle.std.specs.Prelude.{replicate}
use Rattle.std.proofs.lemmas.List.{length-replicate, get_or-replicate}
use Rattle.std.proofs.lemmas.List.Folds.{flat_map-map}
use Rattle.pop_model.specs.Stacks.{Origin, row_of}
use Rattle.pop_model.specs.Popping.{cursor, values_at}
use Rattle.pop_model.specs.Families.{Event, Family}
use Rattle.pop_model.specs.Families.Family.{Listed}
use Rattle.pop_model.specs.Instances.{Instance}
use Rattle.pop_model.specs.Text.{line, spaced}
use Rattle.pop_stacks.specs.Faults.{IsSound}
use Rattle.dimacs_read.specs.Cnf.{AreLiterals}
use Rattle.dimacs_read.specs.CnfText.{cnf_refusal, cnf_of}
use Rattle.dimacs_read.specs.Grammar.{IsCnfText}
use Rattle.dimacs_read.proofs.GrammarLaw.{sound}
use Rattle.dimacs_read.proofs.LiteralsLemmas.{body_literals}
use Rattle.pop_print.specs.declared.facts.Facts.{Facts}
use Rattle.pop_print.specs.declared.facts.Facts.TheVariants.{Formula, Orient}
use Rattle.pop_print.specs.Names.{event_names}
use Rattle.pop_print.specs.Output.{stuck_lines, sample_lines, used_line, pops_line}
use Rattle.printed_samples.specs.Assignments.{AreLiteralsOf}
use Rattle.printed_samples.specs.Orientations.{arrows_by}
use Rattle.printed_samples.specs.Stuck.{stuck_text, AreStuck, ShowsStuck, IsFalseClause, IsUnleft}
use Rattle.printed_samples.specs.Laws.{HaveBits, numbers_of, FormulaShown, OrientationShown}
use Rattle.printed_samples.proofs.SoundValues.{sound_values}
use Rattle.printed_samples.proofs.Literals.{words_at, are_literals}
use Rattle.printed_samples.proofs.Satisfied.{printed_satisfies}
use Rattle.printed_samples.proofs.Orienting.{orientation_printed, is_orientation, printed_leaves}
use Rattle.printed_samples.proofs.FalseClauses.{printed_false}
use Rattle.printed_samples.proofs.StuckSinks.{printed_sinks}
use Rattle.printed_samples.proofs.StuckNumbers.{empty_finished}

-- the literals of a text's formula are of its variables
pub literals_of_text : (text : List ℕ) → cnf_refusal text ≡ None
    → AreLiterals (cnf_of text).variables (cnf_of text).clauses
literals_of_text text none =
    let is : IsCnfText text (cnf_of text) = sound text none in
    subst (AreLiterals (cnf_of text).variables) (sym is.clauses)
    (body_literals (cnf_of text).variables is.others is.words)

-- the weights of a variable of two values
abbrev pub pair : List ℕ
pair = 1 ∷ 1 ∷ []

-- in stacks without a fault the values of variables of two values are 0 and 1
pub pair_bits : (origin : Origin) (n : ℕ) (c : List ℕ) → IsSound origin (replicate n pair)
    → HaveBits n (record { origin = origin; weights = replicate n pair }) c
pair_bits origin n c is v below =
    let row : row_of (replicate n pair) v ≡ pair = get_or-replicate n v pair [] below in
    let size : length (row_of (replicate n pair) v) ≡ 2 = ap (λ (r : List ℕ). length r) row in
    let total : sum (row_of (replicate n pair) v) ≡ 2 = ap sum row in
    let value = sound_values origin (replicate n pair) is v (cursor c v)
    (omega (arith, length-replicate n pair, below)) (omega (arith, total)) in
    omega (arith, value, size)

-- the lines of the events that occur are those of their numbers
pub stuck_printed : (facts : Facts) (family : Family) (stuck : List Event)
    → stuck_lines facts family stuck ≡ stuck_text (numbers_of facts family stuck)
stuck_printed facts family stuck =
    sym (flat_map-map (λ (numbers : List ℕ). line (codes "stuck" ++ spaced (map decimal numbers)))
    (event_names facts family) stuck)

-- a text of the events that occur, the cursors and more
pub shows_stuck_then : (facts : Facts) (i : Instance) (c : List ℕ) (e : Event) (stuck : List Event) (more : List ℕ)
    (Is : List ℕ → List ℕ → Type 0) → AreStuck (Is c) (numbers_of facts i.family (e ∷ stuck))
    → ShowsStuck Is (((line (codes "s EXHAUSTED") ++ stuck_lines facts i.family (e ∷ stuck)) ++ used_line c) ++ more)
shows_stuck_then facts i c e stuck more Is are =
    let head : List ℕ = line (codes "s EXHAUSTED") in
    record {
      events = numbers_of facts i.family (e ∷ stuck);
      used = c;
      rest = more;
      out_is = ap (λ l. ((head ++ l) ++ used_line c) ++ more) (stuck_printed facts i.family (e ∷ stuck));
      stuck = are;
    }

-- a text of the events that occur, the cursors, the pops and more
pub shows_stuck : (facts : Facts) (i : Instance) (c : List ℕ) (pops : ℕ) (e : Event) (stuck : List Event)
    (more : List ℕ)
    (Is : List ℕ → List ℕ → Type 0) → AreStuck (Is c) (numbers_of facts i.family (e ∷ stuck))
    → ShowsStuck Is ((((line (codes "s EXHAUSTED") ++ stuck_lines facts i.family (e ∷ stuck)) ++ used_line c)
    ++ pops_line pops) ++ more)
shows_stuck facts i c pops e stuck more Is are =
    let front : List ℕ = (line (codes "s EXHAUSTED") ++ stuck_lines facts i.family (e ∷ stuck)) ++ used_line c in
    subst (ShowsStuck Is) (sym (append_assoc front (pops_line pops) more))
    (shows_stuck_then facts i c e stuck (pops_line pops ++ more) Is are)

-- the law for formulas
pub formula_shown : FormulaShown
formula_shown f events s c [] more literals full are size bits list =
    record {
      words = words_at s c;
      rest = used_line c ++ more;
      out_is = append_assoc (line (codes "s SAMPLE") ++ sample_lines (Formula f.variables) (values_at s c))
          (used_line c) more;
      literals = subst (λ n. AreLiteralsOf n (words_at s c)) size (are_literals s c);
      satisfied = printed_satisfies f events s c literals full are size bits
          (empty_finished (record { stacks = s; family = Listed events }) c list);
    }
formula_shown f events s c (e ∷ stuck) more literals full are size bits list =
    shows_stuck_then (Formula f.variables) (record { stacks = s; family = Listed events }) c e stuck more
    (λ used numbers. IsFalseClause f (values_at s used) numbers)
    (printed_false f events s c (e ∷ stuck) literals full are size list (omega arith))

-- the law for orientations
pub orientation_shown : OrientationShown
orientation_shown g events s c pops [] touched are size bits list =
    let head : List ℕ = line (codes "s SAMPLE") in
    let lines : List ℕ = sample_lines (Orient g) (values_at s c) in
    record {
      arrows = arrows_by g (values_at s c);
      rest = used_line c ++ pops_line pops;
      out_is = append_assoc (head ++ lines) (used_line c) (pops_line pops)
          ∙ ap (λ l. (head ++ l) ++ (used_line c ++ pops_line pops)) (orientation_printed g (values_at s c));
      orientation = is_orientation g (values_at s c);
      leaves = printed_leaves g events s c touched are size bits
          (empty_finished (record { stacks = s; family = Listed events }) c list);
    }
orientation_shown g events s c pops (e ∷ stuck) touched are size bits list =
    let i : Instance = record { stacks = s; family = Listed events } in
    let out : List ℕ = ((line (codes "s EXHAUSTED") ++ stuck_lines (Orient g) (Listed events) (e ∷ stuck))
    ++ used_line c)
    ++ pops_line pops in
    subst (ShowsStuck (λ used numbers. IsUnleft g (arrows_by g (values_at s used)) numbers)) (append-nil out)
    (shows_stuck (Orient g) i c pops e stuck [] (λ used numbers. IsUnleft g (arrows_by g (values_at s used)) numbers)
    (printed_sinks g events s c (e ∷ stuck) touched are size bits list (omega arith)))
