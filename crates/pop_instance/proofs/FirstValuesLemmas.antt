-- The values of the first variables, as they become more.
use Rattle.std.proofs.Common.{◌≡◌, ℕ, ◌+◌, ◌<◌, ◌≤◌, List, [], ◌∷◌, ◌++◌, length, slice_index, take, sym, ap, ◌∙◌, arith}
use Rattle.std.proofs.lemmas.List.{take_all, length_push}
use Rattle.pop_model.specs.Stacks.{StackTable, variables_of, domain_of, value_at}
use Rattle.pop_model.specs.Popping.{cursor, values_at, AreValuesAt}
use Rattle.pop_model.proofs.ValuesLemmas.{length-values_at, values_more, values_below}
use Rattle.pop_instance.specs.FirstValues.{AreFirstValues}

-- the value of the next variable is added
pub first_more : (s : StackTable) (c old new : List ℕ) (x v : ℕ) → v < length c → length old ≡ v
    → AreFirstValues s c old → new ≡ old ++ x ∷ [] → x ≡ value_at s v (cursor c v) → x < domain_of s v
    → AreFirstValues s c new × (length new ≡ v + 1)
first_more s c old new x v below size first pushed is here =
    let longer : length new ≡ v + 1 = ap length pushed ∙ length_push old x ∙ ap (λ n. n + 1) size in
    let before : old ≡ take v (values_at s c) = first.are ∙ ap (λ n. take n (values_at s c)) size in
    let values : new ≡ take (length new) (values_at s c) =
    pushed ∙ ap (λ xs. xs ++ x ∷ []) before ∙ values_more s c v x below is ∙ ap (λ n. take n (values_at s c)) (sym longer) in
    let inside : (w : ℕ) → w < v → slice_index old w < domain_of s w =
    λ w less. first.within w (omega (arith, less, size)) in (
      record {
        are = values;
        within = λ w less. values_below s c v old new x below before pushed inside here w (omega (arith, less, longer));
      },
      longer,
    )

-- the values of all variables are the values at the cursors
pub first_all : (s : StackTable) (c values : List ℕ) → variables_of s ≡ length c → AreFirstValues s c values
    → length values ≡ variables_of s → AreValuesAt s c values
first_all s c values count first size =
    let most : length (values_at s c) ≤ length values = omega (arith, length-values_at s c, count, size) in
    record {
      are = first.are ∙ take_all (length values) (values_at s c) most;
      within = λ v below. first.within v (omega (arith, below, size));
    }
