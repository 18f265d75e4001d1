-- Functions of a sample: a run ends with a value if and only if it ends with a sample that has it.
use Rattle.std.proofs.Common.{◌≡◌, ◌↔◌, ℕ, List, [], ◌∷◌, length, refl, ap, ◌∙◌}
use Rattle.rand_chacha.specs.ChaCha.{key_of}
use Rattle.pop_model.specs.Popping.{values_at}
use Rattle.pop_samples.specs.Frames.{Frame}
use Rattle.key_samples.specs.Keys.{numbers_of}
use Rattle.key_samples.specs.Numbers.{TableOf}
use Rattle.drawn_samples.specs.Statistics.{TableWith}
use Rattle.drawn_samples.specs.Where.{SamplesWhere}
use Rattle.drawn_samples.proofs.Statistics.{are_values_drawn}
use Rattle.told_runs.specs.Outcomes.{Outcome}
use Rattle.told_runs.specs.Outcomes.Outcome.{Refused, Extremal, Ended, Resampled, Rounded, Batched, Paused, Replayed}
use Rattle.top_call.specs.Answers.{last_height}
use Rattle.answer_laws.specs.KeyAnswers.{EndsWithSamples, keyed_frame}
use Rattle.answer_laws.specs.StatisticAnswers.{EndsWithValue, StatisticAnswers}
use Rattle.answer_laws.specs.StoppedAnswers.{IsRun, IsStoppedAnswer, is_within}
use Rattle.answer_laws.proofs.StoppedAnswers.{stopped_answers}

module _ (statistic : List ℕ → ℕ) (f : Frame) (Kind : List ℕ → List (List ℕ) → Type 0) (t : List (List ℕ)) where
  -- what a run ends with is counted by its value where it is by its sample
  value_exactly : (o : Outcome) → IsRun o → ((w : List ℕ) → EndsWithSamples o (w ∷ []) ↔ TableOf f (Kind w) t)
      → (value : ℕ) → EndsWithValue statistic o value ↔ TableWith f Kind statistic value t
  value_exactly (Ended facts i c pops stuck a) run ends value = (
    λ (none, is). record {
      values = values_at i.stacks c;
      table = (ends (values_at i.stacks c)).0 (none, refl);
      is = is;
    },
    λ g.
        let end = (ends g.values).1 g.table in
        let lists : values_at i.stacks c ∷ [] ≡ g.values ∷ [] = end.1 in
        let same : values_at i.stacks c ≡ g.values = cc in
        (end.0, ap statistic same ∙ g.is),
  )
  value_exactly (Paused j input facts i placed) run ends value =
      (λ none. absurd none, λ g. (ends g.values).1 g.table)
  value_exactly (Refused r) run ends value = absurd run
  value_exactly (Extremal n) run ends value = absurd run
  value_exactly (Resampled t i l s a) run ends value = absurd run
  value_exactly (Rounded t i c n s v) run ends value = absurd run
  value_exactly (Batched t i e) run ends value = absurd run
  value_exactly (Replayed i c n k) run ends value = absurd run

-- the law
pub statistic_answers : StatisticAnswers
statistic_answers statistic job key words ws text o has given asks comes run =
    let stopped : IsStoppedAnswer job key text o = stopped_answers job key words ws text o has given asks comes run in
    let f : Frame = keyed_frame stopped.subject (last_height job) in
    record {
      subject = stopped.subject;
      is = stopped.is;
      drawn = are_values_drawn f (SamplesWhere f (is_within job.pops)) stopped.drawn.drawn statistic;
      ends = value_exactly statistic f (SamplesWhere f (is_within job.pops))
          (numbers_of (key_of key) 0 (last_height job) (length stopped.subject.weights)) o run stopped.ends;
    }
