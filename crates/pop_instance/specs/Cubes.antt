-- The order of cubes.
use Rattle.std.specs.Prelude.{ℕ}
use Rattle.std.specs.declared.cmp.Ordering.{Ordering}
use Rattle.std.specs.Ordering.{nat_cmp, on, then_cmp}
use Rattle.std.specs.Cmp.{IsTotalOrder}
use Rattle.std.specs.Cmp.Lexicographic.{slice_cmp}
use Rattle.std.proofs.lemmas.Cmp.{lists_total, then_total, on_total, nat_cmp_total}
use Rattle.pop_model.specs.Popping.{Cube}

-- pairs are ordered by variable, then by value
abbrev pub pair_cmp : ℕ × ℕ → ℕ × ℕ → Ordering
pair_cmp p q = then_cmp (on (λ r. r.0) nat_cmp) (on (λ r. r.1) nat_cmp) p q

-- cubes are ordered as lists of pairs
abbrev pub cube_cmp : Cube → Cube → Ordering
cube_cmp e f = slice_cmp pair_cmp e f

-- the order of pairs is total
pub pair_total : IsTotalOrder pair_cmp
pair_total = then_total (on_total (λ (r : ℕ × ℕ). r.0) nat_cmp_total)
    (on_total (λ (r : ℕ × ℕ). r.1) nat_cmp_total)

-- the order of cubes is total
pub cube_total : IsTotalOrder cube_cmp
cube_total = lists_total pair_total
