use Rattle.std.proofs.Common.{ℕ, ◌<◌, ◌^◌, List, All, length, map, replicate, sym, subst, arith, get_or}
use Rattle.std.proofs.lemmas.List.{length-map, length-replicate}
use Rattle.std.proofs.lemmas.List.Elements.{All-map}
use Rattle.pop_stacks.specs.Rows.{AreShort}
use Rattle.pop_stacks.proofs.rows.Rows.ones.Goals as goal

-- rows of ones of lengths below 2 ^ 31 are short
short_ones : (lengths : List ℕ) → length lengths < 2 ^ 31 → All (λ n. n < 2 ^ 31) lengths
    → AreShort (map (λ n. replicate n 1) lengths)
short_ones lengths few short = record {
  count = omega (arith, few, length-map lengths (λ n. replicate {A = ℕ} n 1));
  each = All-map (λ (row : List ℕ). length row < 2 ^ 31) (λ n. replicate {A = ℕ} n 1) lengths
      (λ k d below. omega (arith, short k d below, length-replicate {A = ℕ} (get_or lengths k d) 1));
}

pub invariant_of-result : goal.invariant_of-result
invariant_of-result c =
    subst AreShort (sym c.in_ok-ones.ensures) (short_ones c.args.lengths.items c.requires.few c.requires.short)
