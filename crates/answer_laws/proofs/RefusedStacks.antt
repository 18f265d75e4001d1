-- Stacks have at most one error, and none if they are valid and the number of samples is within its limit. They have
-- one first fault or are valid. The causes contradict one another in the order in which they are checked, and each is
-- at its lowest place.
use Rattle.std.proofs.Common.{◌≡◌, ℕ, List, length, sym, ap, ap₂, ◌∙◌, arith, inl, inr, Option, None, ◌⊎◌}
use Rattle.std.proofs.lemmas.Option.{none-some, same_Some}
use Rattle.pop_model.specs.Stacks.{Origin}
use Rattle.pop_model.specs.Stacks.Origin.{Given, Keyed}
use Rattle.pop_model.specs.Places.{IsLeast, IsLeastPair}
use Rattle.pop_model.proofs.Leasts.{one_least, one_least_pair}
use Rattle.pop_stacks.specs.declared.stack_fault.StackFault.{StackFault}
use Rattle.pop_stacks.specs.declared.stack_fault.StackFault.TheVariants.{RowCount, EmptyRow, ValueTooLarge, WeightSum, OutOfMemory}
use Rattle.pop_stacks.specs.Faults.{IsCause, IsSound, IsEmptyRow, IsTooLarge, IsTooHeavy, HaveEntries, HaveValues, AreLight}
use Rattle.pop_print.specs.declared.facts.Facts.{Facts}
use Rattle.job_subjects.specs.declared.refusal.Refusal.{Refusal}
use Rattle.job_subjects.specs.declared.refusal.Refusal.TheVariants.{TooMany}
use Rattle.job_subjects.specs.StackFaults.{unsound, AreFaulty, AreFew, AreTooMany, RefusesStacks}
use Rattle.job_subjects.specs.Subjects.{Subject}

-- ---- the first fault

-- no row is empty where each has an entry
no_empty : (rows : List (List ℕ)) (v : ℕ) → HaveEntries rows → IsLeast (IsEmptyRow rows) v → ⊥
no_empty rows v entries least = let some = entries v least.holds.0 in let none = least.holds.1 in absurd (omega arith)

-- no value is too large where each is one of its variable
no_large : (rows weights : List (List ℕ)) (v k : ℕ) → HaveValues rows weights
    → IsLeastPair (IsTooLarge rows weights) v k → ⊥
no_large rows weights v k values least =
    let fits = values v k least.holds.row least.holds.place in let large = least.holds.large in absurd (omega arith)

-- no sum is too heavy where all are light
no_heavy : (weights : List (List ℕ)) (v : ℕ) → AreLight weights → IsLeast (IsTooHeavy weights) v → ⊥
no_heavy weights v light least = let less = light v least.holds.0 in let more = least.holds.1 in absurd (omega arith)

-- a count of rows isn't wrong where it is right
no_count : (rows weights : List (List ℕ)) (g w : ℕ) → IsCause (Given rows) weights (RowCount g w)
    → length rows ≡ length weights → ⊥
no_count rows weights g w wrong same = wrong.2 (wrong.0 ∙ same ∙ sym wrong.1)

-- sound stacks have no fault
pub sound_has_none : (origin : Origin) (weights : List (List ℕ)) (fault : StackFault) → IsSound origin weights
    → IsCause origin weights fault → ⊥
sound_has_none (Given rows) weights (RowCount g w) sound cause =
    no_count rows weights g w cause sound.rows.count
sound_has_none (Given rows) weights (EmptyRow v) sound cause = no_empty rows v sound.rows.entries cause.1
sound_has_none (Given rows) weights (ValueTooLarge v k) sound cause =
    no_large rows weights v k sound.rows.values cause.2
sound_has_none (Given rows) weights (WeightSum v) sound cause = no_heavy weights v sound.light cause.1
sound_has_none (Given rows) weights OutOfMemory sound cause = cause
sound_has_none (Keyed key sample height) weights (WeightSum v) sound cause = no_heavy weights v sound.light cause.1
sound_has_none (Keyed key sample height) weights fault sound cause = cause

-- given rows have one first fault
one_given : (rows weights : List (List ℕ)) (a b : StackFault) → IsCause (Given rows) weights a
    → IsCause (Given rows) weights b → a ≡ b
one_given rows weights a OutOfMemory h h' = absurd h'
one_given rows weights (RowCount g w) (RowCount g' w') h h' = ap₂ RowCount (h.0 ∙ sym h'.0) (h.1 ∙ sym h'.1)
one_given rows weights (RowCount g w) (EmptyRow v) h h' = absurd (no_count rows weights g w h h'.0)
one_given rows weights (RowCount g w) (ValueTooLarge v k) h h' = absurd (no_count rows weights g w h h'.0)
one_given rows weights (RowCount g w) (WeightSum v) h h' = absurd (no_count rows weights g w h h'.0.count)
one_given rows weights (EmptyRow v) (RowCount g w) h h' = absurd (no_count rows weights g w h' h.0)
one_given rows weights (EmptyRow v) (EmptyRow v') h h' = ap EmptyRow (one_least (IsEmptyRow rows) v v' h.1 h'.1)
one_given rows weights (EmptyRow v) (ValueTooLarge v' k) h h' = absurd (no_empty rows v h'.1 h.1)
one_given rows weights (EmptyRow v) (WeightSum v') h h' = absurd (no_empty rows v h'.0.entries h.1)
one_given rows weights (ValueTooLarge v k) (RowCount g w) h h' = absurd (no_count rows weights g w h' h.0)
one_given rows weights (ValueTooLarge v k) (EmptyRow v') h h' = absurd (no_empty rows v' h.1 h'.1)
one_given rows weights (ValueTooLarge v k) (ValueTooLarge v' k') h h' =
    let same = one_least_pair (IsTooLarge rows weights) v k v' k' h.2 h'.2 in ap₂ ValueTooLarge same.0 same.1
one_given rows weights (ValueTooLarge v k) (WeightSum v') h h' = absurd (no_large rows weights v k h'.0.values h.2)
one_given rows weights (WeightSum v) (RowCount g w) h h' = absurd (no_count rows weights g w h' h.0.count)
one_given rows weights (WeightSum v) (EmptyRow v') h h' = absurd (no_empty rows v' h.0.entries h'.1)
one_given rows weights (WeightSum v) (ValueTooLarge v' k) h h' = absurd (no_large rows weights v' k h.0.values h'.2)
one_given rows weights (WeightSum v) (WeightSum v') h h' = ap WeightSum (one_least (IsTooHeavy weights) v v' h.1 h'.1)
one_given rows weights OutOfMemory b h h' = absurd h

-- and so has what comes of a key
pub one_cause : (origin : Origin) (weights : List (List ℕ)) (a b : StackFault)
    → IsCause origin weights a → IsCause origin weights b → a ≡ b
one_cause (Given rows) weights a b h h' = one_given rows weights a b h h'
one_cause (Keyed key sample height) weights (WeightSum v) (WeightSum v') h h' =
    ap WeightSum (one_least (IsTooHeavy weights) v v' h.1 h'.1)
one_cause (Keyed key sample height) weights (WeightSum v) b h h' = absurd h'
one_cause (Keyed key sample height) weights a b h h' = absurd h

-- ---- the refusal

-- there is at most one refusal
abbrev pub IsOneRefusal : (Refusal → Type 0) → Type 0
IsOneRefusal Refuses = (r s : Refusal) → Refuses r → Refuses s → r ≡ s

-- a subject can be run over stacks of this origin: they are sound, and the samples that are asked for are few
abbrev pub CanBeRun : Origin → Option ℕ → Subject → Type 0
CanBeRun origin asked s = IsSound origin s.weights × AreFew asked (length s.weights)

-- few samples aren't too many
not_many : (asked : Option ℕ) (variables : ℕ) (r : Refusal) → AreFew asked variables → AreTooMany asked variables r → ⊥
not_many asked variables r few h = let at = few h.count h.asked_is in let more = h.many in absurd (omega (arith, at, more))

-- where no number of samples is asked for, it isn't too great
pub no_count_few : (asked : Option ℕ) (variables : ℕ) → asked ≡ None → AreFew asked variables
no_count_few asked variables once count is = absurd (none-some count (sym once ∙ is))

-- too many are refused by how many they are
one_many : (asked : Option ℕ) (variables : ℕ) → IsOneRefusal (AreTooMany asked variables)
one_many asked variables r s h h' =
    h.is ∙ ap TooMany (same_Some h.count h'.count (sym h.asked_is ∙ h'.asked_is)) ∙ sym h'.is

-- and stacks with a fault by their first
one_faulty : (facts : Facts) (origin : Origin) (weights : List (List ℕ)) → IsOneRefusal (AreFaulty facts origin weights)
one_faulty facts origin weights r s h h' =
    h.is ∙ ap (unsound facts) (one_cause origin weights h.fault h'.fault h.cause h'.cause) ∙ sym h'.is

-- it is in one of two ways that are apart, where it is once in each
pub one_or : (A B : Refusal → Type 0) → IsOneRefusal A → IsOneRefusal B → ((r s : Refusal) → A r → B s → ⊥)
    → IsOneRefusal (λ r. A r ⊎ B r)
one_or A B one other apart r s (inl a) (inl a') = one r s a a'
one_or A B one other apart r s (inl a) (inr b) = absurd (apart r s a b)
one_or A B one other apart r s (inr b) (inl a) = absurd (apart s r a b)
one_or A B one other apart r s (inr b) (inr b') = other r s b b'

-- so stacks are refused in one way
pub one_stacks : (facts : Facts) (origin : Origin) (weights : List (List ℕ)) (asked : Option ℕ)
    → IsOneRefusal (RefusesStacks facts origin weights asked)
one_stacks facts origin weights asked =
    one_or (AreTooMany asked (length weights)) (λ r. AreFaulty facts origin weights r × AreFew asked (length weights))
    (one_many asked (length weights)) (λ r s a b. one_faulty facts origin weights r s a.0 b.0)
    (λ r s many faulty. not_many asked (length weights) r faulty.1 many)

-- and sound ones aren't, where few samples are asked for
pub sound_unrefused : (facts : Facts) (origin : Origin) (weights : List (List ℕ)) (asked : Option ℕ) (r : Refusal)
    → IsSound origin weights → AreFew asked (length weights) → RefusesStacks facts origin weights asked r → ⊥
sound_unrefused facts origin weights asked r sound few (inl many) = not_many asked (length weights) r few many
sound_unrefused facts origin weights asked r sound few (inr (faulty, few')) =
    sound_has_none origin weights faulty.fault sound faulty.cause
