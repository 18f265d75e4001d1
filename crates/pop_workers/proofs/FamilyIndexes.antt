-- The index of the family of an instance is the one that its workers look in.
use Rattle.std.proofs.Common.{◌≡◌, ℕ, List, Option, Some, None, refl, ap}
use Rattle.pop_model.specs.Families.{Family}
use Rattle.pop_model.specs.Families.Family.{Listed, Cycles}
use Rattle.pop_model.specs.Instances.{Instance}
use Rattle.pop_instance.specs.Index.{IsFamilyIndex}
use Rattle.claim_words.specs.Openings.{is_listed}
use Rattle.pop_workers.specs.Attempts.{IsIndexed}

-- the index of a family is that of each instance with this family
index_of : (i : Instance) (family : Family) → i.family ≡ family → (index : Option (List (List ℕ)))
    → IsFamilyIndex family index → IsIndexed i index
index_of i (Listed rows) is (Some index) of = (rows, is, of)
index_of i (Listed rows) is None of = absurd of
index_of i (Cycles heads) is (Some index) of = absurd of
index_of i (Cycles heads) is None of = ap is_listed is

-- the index of an instance's family is that of the instance
pub indexed : (i : Instance) (index : Option (List (List ℕ))) → IsFamilyIndex i.family index → IsIndexed i index
indexed i index of = index_of i i.family refl index of
