-- The summary of an end, line by line.
use Rattle.std.proofs.Common.{◌≡◌, ℕ, ◌<◌, List, [], ◌∷◌, ◌++◌, length, codes, ap, ◌∙◌, arith, append_assoc}
use Rattle.pop_model.specs.Stacks.{StackTable}
use Rattle.pop_model.specs.Popping.{values_at}
use Rattle.pop_model.specs.Families.{Event}
use Rattle.pop_print.specs.Made.{grid_line, count_line, totals_line, sum_line, slot_sum}
use Rattle.pop_print.specs.Output.{pops_line, summary}

-- five pieces behind a text are their whole behind it
joined : (before a b c d e : List ℕ)
    → ((((before ++ a) ++ b) ++ c) ++ d) ++ e ≡ before ++ ((((a ++ b) ++ c) ++ d) ++ e)
joined before a b c d e = simp append_assoc

-- the lines where no event occurs
pub summary_sample : (side pops : ℕ) (s : StackTable) (c : List ℕ) (stuck : List Event)
    (before status grid totals popped out : List ℕ) → length stuck ≡ 0 → status ≡ before ++ codes "s SAMPLE\n"
    → grid ≡ status ++ grid_line side → totals ≡ grid ++ totals_line c → popped ≡ totals ++ pops_line pops
    → out ≡ popped ++ sum_line (slot_sum (values_at s c)) → out ≡ before ++ summary side s c pops stuck
summary_sample side pops s c [] before status grid totals popped out none e f g h i =
    i ∙ ap (λ l. l ++ sum_line (slot_sum (values_at s c))) (h ∙ ap (λ l. l ++ pops_line pops) (g ∙ ap (λ l. l ++ totals_line c)
    (f ∙ ap (λ l. l ++ grid_line side) e)))
    ∙ joined before (codes "s SAMPLE\n") (grid_line side) (totals_line c) (pops_line pops) (sum_line (slot_sum (values_at s c)))
summary_sample side pops s c (stuck ∷ more) before status grid totals popped out none e f g h i = absurd (omega arith)

-- the lines where some event occurs
pub summary_stuck : (side pops : ℕ) (s : StackTable) (c : List ℕ) (stuck : List Event)
    (before status grid count totals out : List ℕ) → 0 < length stuck → status ≡ before ++ codes "s EXHAUSTED\n"
    → grid ≡ status ++ grid_line side → count ≡ grid ++ count_line (length stuck) → totals ≡ count ++ totals_line c
    → out ≡ totals ++ pops_line pops → out ≡ before ++ summary side s c pops stuck
summary_stuck side pops s c [] before status grid count totals out some e f g h i = absurd (omega arith)
summary_stuck side pops s c (stuck ∷ more) before status grid count totals out some e f g h i =
    i ∙ ap (λ l. l ++ pops_line pops) (h ∙ ap (λ l. l ++ totals_line c) (g
    ∙ ap (λ l. l ++ count_line (length (stuck ∷ more))) (f ∙ ap (λ l. l ++ grid_line side) e)))
    ∙ joined before (codes "s EXHAUSTED\n") (grid_line side) (count_line (length (stuck ∷ more))) (totals_line c)
    (pops_line pops)
