-- The values of a function of samples: the tables of a value are those that end with one of the samples that have it.
use Rattle.std.proofs.Common.{◌≢◌, ℕ, ◌==◌, Bool, List, eqb-true, eq-eqb}
use Rattle.std.proofs.lemmas.List.Elements.{All-filter, Contains-get_or}
use Rattle.std.proofs.lemmas.List.Kept.{AllPairs-filter}
use Rattle.prs_rounds.proofs.ShownLemmas.{filter_has, filter_keeps}
use Rattle.pop_samples.specs.Frames.{Frame, IsSampleOf, Rows}
use Rattle.pop_samples.specs.Lists.{AreAll}
use Rattle.pop_samples.specs.Weights.{sample_weight}
use Rattle.key_samples.specs.Counts.{Count}
use Rattle.key_samples.specs.Numbers.{Numbers}
use Rattle.key_samples.specs.Shares.{all_shares}
use Rattle.key_samples.proofs.Counting.{same_count}
use Rattle.drawn_samples.specs.Drawn.{AreDrawn, AreSome, DrawsSome, TableAmong}
use Rattle.drawn_samples.specs.Statistics.{AreValuesDrawn, DrawsValues, RoundStatistics, RunStatistics, TableWith, with_value}
use Rattle.drawn_samples.specs.Where.{SampledWhere, SamplesWhere}
use Rattle.drawn_samples.proofs.WantedRounds.{wanted_rounds}
use Rattle.drawn_samples.proofs.WantedRuns.{wanted_runs}

module _ (f : Frame) (Kind : List ℕ → Rows → Type 0) (drawn : AreDrawn f Kind) (statistic : List ℕ → ℕ) where
  -- the function has this value
  abbrev has : ℕ → List ℕ → Bool
  has value w = statistic w == value

  -- the samples that have a value are some
  are_some : (value : ℕ) (samples : List (List ℕ)) → AreAll (IsSampleOf f) samples
      → AreSome f (with_value statistic value samples)
  are_some value samples every = record {
    differ = AllPairs-filter (λ w x. w ≢ x) (has value) samples every.differ;
    samples = All-filter (has value) (IsSampleOf f) samples
        (λ k d less. (every.exact _).0 (Contains-get_or samples k d less));
  }

  -- a table of one of them is a table of the value
  to_value : (value : ℕ) (samples : List (List ℕ)) → (t : Numbers)
      → TableAmong f Kind (with_value statistic value samples) t → TableWith f Kind statistic value t
  to_value value samples t g = record {
    values = g.values;
    table = g.table;
    is = eqb-true (statistic g.values) value (filter_keeps (has value) samples g.values g.among).1;
  }

  -- and back
  of_value : (value : ℕ) (samples : List (List ℕ)) → AreAll (IsSampleOf f) samples → (t : Numbers)
      → TableWith f Kind statistic value t → TableAmong f Kind (with_value statistic value samples) t
  of_value value samples every t g = record {
    values = g.values;
    table = g.table;
    among = filter_has (has value) samples g.values ((every.exact g.values).1 (drawn.only g.values t g.table))
        (eq-eqb (statistic g.values) value g.is);
  }

  -- so values are drawn as some samples are
  draws_values : (weight : List ℕ → ℕ) → DrawsSome f Kind weight → DrawsValues f Kind statistic weight
  draws_values weight draws value samples every n all part whole =
      draws (with_value statistic value samples) samples (are_some value samples every) every n all
      (same_count (TableWith f Kind statistic value) (TableAmong f Kind (with_value statistic value samples)) n part
      (of_value value samples every) (to_value value samples))
      whole

  -- the law
  pub are_values_drawn : AreValuesDrawn f Kind statistic
  are_values_drawn =
      let every : Count (IsSampleOf f) drawn.samples.0 = drawn.samples.1 in
      record {
        counted = λ value.
            let some : List (List ℕ) = with_value statistic value every.list in
            let count = drawn.counted some (are_some value every.list every.all) in (
              count.0,
              same_count (TableAmong f Kind some) (TableWith f Kind statistic value) count.0 count.1
                  (to_value value every.list) (of_value value every.list every.all),
            );
        by_shares = draws_values (sample_weight (all_shares f.weights)) drawn.by_shares;
        by_weights = λ divide. draws_values (sample_weight f.weights) (drawn.by_weights divide);
      }

-- the law of the one-thread run
pub run_statistics : RunStatistics
run_statistics f frame have extremal wanted statistic =
    are_values_drawn f (SamplesWhere f wanted) (wanted_runs f frame have extremal wanted).drawn statistic

-- the law of rounds
pub round_statistics : RoundStatistics
round_statistics f frame have listed wanted statistic =
    are_values_drawn f (SampledWhere f wanted) (wanted_rounds f frame have listed wanted).drawn statistic
