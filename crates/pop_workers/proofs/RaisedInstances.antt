-- Keyed stacks that are raised: they keep their key and their entries, and have the height to which they were raised.
use Rattle.std.proofs.Common.{◌≡◌, ℕ, List, refl, ap}
use Rattle.pop_model.specs.Stacks.{Origin, height_from, origin_raised, IsKeyed}
use Rattle.pop_model.specs.Stacks.Origin.{Given, Keyed}
use Rattle.pop_model.specs.Families.{Family}
use Rattle.pop_model.specs.Instances.{Instance, instance_raised}
use Rattle.confluence_core.specs.declared.reached.Reached.{Reached}
use Rattle.confluence_core.specs.declared.run.Run.{Run}
use Rattle.confluence_core.specs.Stretches.{IsTold}
use Rattle.pop_workers.specs.Stages.{height}

-- keyed stacks have one height
pub one_height : (o : Origin) (v w : ℕ) → IsKeyed o → height_from o v ≡ height_from o w
one_height (Given rows) v w keyed = absurd keyed
one_height (Keyed key sample h) v w keyed = refl

-- raised stacks have the height to which they were raised
pub raised_height : (o : Origin) (h v : ℕ) → IsKeyed o → height_from (origin_raised h o) v ≡ h
raised_height (Given rows) h v keyed = absurd keyed
raised_height (Keyed key sample was) h v keyed = refl

-- and the same key
pub raised_keyed : (o : Origin) (h : ℕ) → IsKeyed o → IsKeyed (origin_raised h o)
raised_keyed (Given rows) h keyed = absurd keyed
raised_keyed (Keyed key sample was) h keyed = tt

-- the last of two raises counts
origin_twice : (o : Origin) (h k : ℕ) → origin_raised h (origin_raised k o) ≡ origin_raised h o
origin_twice (Given rows) h k = refl
origin_twice (Keyed key sample was) h k = refl

-- a raise to the present height changes nothing
origin_same : (o : Origin) → IsKeyed o → origin_raised (height_from o 0) o ≡ o
origin_same (Given rows) keyed = absurd keyed
origin_same (Keyed key sample was) keyed = refl

-- the instance with entries of this origin
abbrev pub over : List (List ℕ) → Family → Origin → Instance
over weights family o = record { stacks = record { origin = o; weights = weights }; family = family }

pub raised_twice : (i : Instance) (h k : ℕ) → instance_raised h (instance_raised k i) ≡ instance_raised h i
raised_twice i h k = ap (over i.stacks.weights i.family) (origin_twice i.stacks.origin h k)

pub raised_same : (i : Instance) → IsKeyed i.stacks.origin → instance_raised (height i) i ≡ i
raised_same i keyed = ap (over i.stacks.weights i.family) (origin_same i.stacks.origin keyed)

-- what is told is told of the raised instance too, which has the same entries, whatever is suspected
pub told_raised : (weights : List (List ℕ)) (family : Family) (o : Origin) (h : ℕ) (reached : Reached) (us : List ℕ)
    (run : Run) → IsKeyed o → IsTold (over weights family o) reached run
    → IsTold (over weights family (origin_raised h o)) (record reached { suspects = us }) run
told_raised weights family (Given rows) h reached us run keyed told = absurd keyed
told_raised weights family (Keyed key sample was) h reached us run keyed told = record {
  are = told.are;
  stuck_list = record { rising = told.stuck_list.rising; exact = told.stuck_list.exact };
  values = record { are = told.values.are; within = told.values.within };
}
