-- Theorems about the distribution of samples.
use Rattle.std.specs.Prelude.{ℕ, List}
use Rattle.pop_model.specs.Extremal.{IsExtremal}
use Rattle.prs_rounds.specs.Units.{IsListed}
use Rattle.pop_samples.specs.Frames.{IsFrame, Frame}
use Rattle.pop_samples.specs.Exchange.{Samples, SamplesAt}
use Rattle.round_samples.specs.Sampled.{Sampled, SampledBy}
use Rattle.key_samples.specs.Numbers.{HaveWeights}
use Rattle.drawn_samples.specs.Drawn.{AreDrawn}

-- The one-thread run draws from all samples by their shares, if the family is extremal.
abbrev pub DrawnSamples : Type 0
DrawnSamples = (f : Frame) → IsFrame f → HaveWeights f.weights → IsExtremal f.family
    → AreDrawn f (Samples f)

-- At any cursors at which some log finishes, the samples are drawn by their shares, for every
-- family.
abbrev pub DrawnSamplesAt : Type 0
DrawnSamplesAt = (f : Frame) → IsFrame f → HaveWeights f.weights
    → (c : List ℕ) → AreDrawn f (λ w. SamplesAt f w c)

-- Rounds draw from all samples by their shares, for any listed events.
abbrev pub DrawnRounds : Type 0
DrawnRounds = (f : Frame) → IsFrame f → HaveWeights f.weights → IsListed f.family
    → AreDrawn f (Sampled f)

-- For any number of rounds and any cursors at which they finish, the samples are drawn by their
-- shares.
abbrev pub DrawnRoundsBy : Type 0
DrawnRoundsBy = (f : Frame) → IsFrame f → HaveWeights f.weights → IsListed f.family
    → (c : List ℕ) (rounds : ℕ) → AreDrawn f (λ w. SampledBy f w c rounds)
