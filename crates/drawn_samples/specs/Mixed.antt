-- Batches in which some runs end with samples and others with none.
use Rattle.std.specs.Prelude.{◌≡◌, ℕ, ◌*◌, List, [], ◌∷◌, length, map, replicate, Option, None, Some, ⊤}
use Rattle.pop_model.specs.Extremal.{IsExtremal}
use Rattle.pop_model.specs.Families.{Event}
use Rattle.confluence_core.specs.declared.end.End.{End}
use Rattle.pop_batch.specs.Batches.{AreEnds}
use Rattle.prs_rounds.specs.Units.{IsListed}
use Rattle.pop_samples.specs.Frames.{Rows, Frame, IsFrame, IsSampleOf}
use Rattle.pop_samples.specs.Exchange.{Samples}
use Rattle.pop_samples.specs.Weights.{sample_weight}
use Rattle.round_samples.specs.Sampled.{Sampled}
use Rattle.key_samples.specs.Counts.{Count}
use Rattle.key_samples.specs.Keys.{batch_numbers, under_key}
use Rattle.key_samples.specs.Numbers.{AreNumbers, HaveWeights, Numbers, TableOf}
use Rattle.key_samples.specs.Shares.{all_shares}
use Rattle.drawn_samples.specs.Drawn.{TableEnds}

-- the rows of the table end with these values, or with none
abbrev pub EndsSo : (f : Frame) → (List ℕ → Rows → Type 0) → Option (List ℕ) → Numbers → Type 0
EndsSo f Kind (Some w) t = TableOf f (Kind w) t
EndsSo f Kind None t = AreNumbers f.heights t × (TableEnds f Kind t → ⊥)

-- the tables of the samples of a batch: each ends with its sample, or with none
abbrev pub BatchEndsSo : (f : Frame) → (List ℕ → Rows → Type 0) → List (Option (List ℕ))
    → List Numbers → Type 0
BatchEndsSo f Kind [] [] = ⊤
BatchEndsSo f Kind [] (t ∷ tables) = ⊥
BatchEndsSo f Kind (o ∷ ends) [] = ⊥
BatchEndsSo f Kind (o ∷ ends) (t ∷ tables) = EndsSo f Kind o t × BatchEndsSo f Kind ends tables

-- two batches with samples in the same places
abbrev pub AreAlike : Frame → List (Option (List ℕ)) → List (Option (List ℕ)) → Type 0
AreAlike f [] [] = ⊤
AreAlike f (Some w ∷ ends) (Some x ∷ others) = IsSampleOf f w × IsSampleOf f x × AreAlike f ends others
AreAlike f (None ∷ ends) (None ∷ others) = AreAlike f ends others
AreAlike f ends others = ⊥

-- the product of the weights of the samples among them
abbrev pub mixed_weight : List (List ℕ) → List (Option (List ℕ)) → ℕ
mixed_weight weights [] = 1
mixed_weight weights (Some w ∷ ends) = sample_weight weights w * mixed_weight weights ends
mixed_weight weights (None ∷ ends) = mixed_weight weights ends

-- Batches with these ends are finitely many. For two choices of their samples their numbers are in
-- the ratio of the products of the samples' shares. So whichever runs of a batch end with none,
-- the distribution of the others is unchanged.
pub record AreMixed (f : Frame) (Kind : List ℕ → Rows → Type 0) : Type 0 where
  pub counted : (ends : List (Option (List ℕ))) → AreAlike f ends ends
      → (n : ℕ) × Count (BatchEndsSo f Kind ends) n
  pub by_shares : (ends others : List (Option (List ℕ))) → AreAlike f ends others → (n m : ℕ)
      → Count (BatchEndsSo f Kind ends) n → Count (BatchEndsSo f Kind others) m
      → n * mixed_weight (all_shares f.weights) others ≡ m * mixed_weight (all_shares f.weights) ends

-- This holds for batches of the one-thread run, if the family is extremal.
abbrev pub MixedRuns : Type 0
MixedRuns = (f : Frame) → IsFrame f → HaveWeights f.weights → IsExtremal f.family
    → AreMixed f (Samples f)

-- This holds for batches of rounds.
abbrev pub MixedRounds : Type 0
MixedRounds = (f : Frame) → IsFrame f → HaveWeights f.weights → IsListed f.family
    → AreMixed f (Sampled f)

-- the values of an end, if no event is stuck
abbrev pub sample_if : List Event → List ℕ → Option (List ℕ)
sample_if [] values = Some values
sample_if (e ∷ stuck) values = None

-- the sample of an end, if it has one
abbrev pub sample_of : End → Option (List ℕ)
sample_of end = sample_if end.stuck end.values

-- The ends that `pop_batch` returns for a batch under a key, whether or not each has a sample, are
-- those of the key's own tables.
abbrev pub KeyedMixed : Type 0
KeyedMixed = (f : Frame) → IsFrame f → HaveWeights f.weights → IsExtremal f.family
    → (key : List ℕ) (height count : ℕ) → f.heights ≡ replicate (length f.weights) height
    → (ends : List End) → AreEnds (under_key f key 0 height) count ends
    → BatchEndsSo f (Samples f) (map sample_of ends)
    (batch_numbers key height (length f.weights) count)
