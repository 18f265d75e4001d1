-- The search for the resampling set after its last step.
use Rattle.std.specs.Prelude.{◌≡◌, ◌↔◌, ◌≢◌, ℕ, ◌<◌, true, List, length, Contains}
use Rattle.pop_model.specs.Stacks.{StackTable}
use Rattle.pop_model.specs.Popping.{Cube, Occurs}
use Rattle.prs_rounds.specs.Values.{AreValues}
use Rattle.pop_model.specs.Instances.{Instance}
use Rattle.pop_instance.specs.Events.{cube_at}
use Rattle.prs_rounds.specs.Resampling.{IsResampled, IsResampledVariable}
use Rattle.prs_rounds.specs.Growth.{mark_of, is_covered, Meets}
use Rattle.prs_rounds.specs.declared.mark.Mark.TheVariants.{Free, Joined}
use Rattle.prs_rounds.specs.declared.growth.Growth.{Growth}

-- the values are the current ones, and the places are those of the events that occur
pub record StartsAt (s : StackTable) (rows : List (ℕ × Cube)) (c values places : List ℕ)
    : Type 0 where
  pub values_are : AreValues s c values
  pub known : (u : ℕ) → Contains places u → u < length rows
  pub exact : (u : ℕ) → u < length rows → Contains places u ↔ Occurs s c (cube_at rows u)

-- the events that joined are those of the resampling set, the covered variables are theirs, and
-- each event that names one of these has a mark
pub record IsGrown (i : Instance) (rows : List (ℕ × Cube)) (c : List ℕ) (g : Growth)
    : Type 0 where
  pub joined : (u : ℕ) → u < length rows
      → (mark_of g u ≡ Joined) ↔ IsResampled i c (record { unit = u; cube = cube_at rows u })
  pub covered : (v : ℕ) → (is_covered g v ≡ true) ↔ IsResampledVariable i c v
  pub met : (u : ℕ) → u < length rows → Meets g (cube_at rows u) → mark_of g u ≢ Free
