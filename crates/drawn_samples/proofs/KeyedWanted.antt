-- A key's stacks have the entries of the rows that its numbers give. So a log that is the one-thread run of the ones is
-- that of the others.
use Rattle.std.proofs.Common.{◌≡◌, ℕ, Bool, List, length, replicate, refl, sym, ◌∙◌}
use Rattle.pop_model.specs.Extremal.{IsExtremal}
use Rattle.pop_model.specs.Instances.{Instance}
use Rattle.pop_model.specs.Logs.{LogRecord, replay}
use Rattle.pop_model.specs.Runs.{start_of}
use Rattle.pop_model.proofs.OneRun.{first_run_legal}
use Rattle.pop_samples.specs.Finishing.{FinishesBy}
use Rattle.pop_samples.specs.Frames.{Frame, IsFrame, Rows, over, stacks_of}
use Rattle.key_samples.specs.Keys.{numbers_of}
use Rattle.key_samples.specs.Numbers.{HaveWeights, TableOf}
use Rattle.key_samples.proofs.KeyedRuns as K
use Rattle.key_samples.proofs.SameEntries.{log_moves, log_suits, rounds_move, rounds_suit}
use Rattle.drawn_samples.specs.Where.{EndsWhere, SamplesWhere}
use Rattle.drawn_samples.specs.WhereLaws.{KeyedWantedRounds, KeyedWantedRuns}
use Rattle.drawn_samples.proofs.FirstRuns.{moved_first}

module _ (f : Frame) (frame : IsFrame f) (have : HaveWeights f.weights) (key : List ℕ) (sample height : ℕ)
    (high : f.heights ≡ replicate (length f.weights) height) where
  -- the instance of the key
  abbrev keyed : Instance
  keyed = K.keyed f frame have key sample height high

  -- the rows of its numbers
  abbrev rows : Rows
  rows = K.rows f frame have key sample height high

  -- a run of the key's stacks is one of the rows
  to_rows : IsExtremal f.family → (wanted : List LogRecord → Bool) (w : List ℕ) → EndsWhere keyed wanted w
      → TableOf f (SamplesWhere f wanted w) (numbers_of key sample height (length f.weights))
  to_rows extremal wanted w e =
      let c : List ℕ = replay (start_of keyed) e.log in
      let by : FinishesBy keyed e.log c =
      record { legal = first_run_legal keyed (start_of keyed) e.log e.run; leads = refl; finished = e.finished } in
      let to : FinishesBy (over f rows) e.log c =
      log_moves keyed.stacks (stacks_of f rows) (K.same f frame have key sample height high) f.family
      (K.key_fits f frame have key sample height high) e.log c by in
      let suit = log_suits keyed.stacks (stacks_of f rows) (K.same f frame have key sample height high) f.family
      (K.key_fits f frame have key sample height high) e.log c by in
      record {
        numbers = K.numbers f frame have key sample height high;
        rows = record {
          shape = K.shape f frame have key sample height high;
          log = e.log;
          run = moved_first keyed (stacks_of f rows) extremal (start_of keyed) e.log e.run to.legal
              (λ event is pop. to.finished event is pop.occurs);
          finished = to.finished;
          entries = sym (K.same_values f frame have key sample height high c suit) ∙ e.values;
          wanted_log = e.wanted_log;
        };
      }

  -- and back
  to_key : IsExtremal f.family → (wanted : List LogRecord → Bool) (w : List ℕ)
      → TableOf f (SamplesWhere f wanted w) (numbers_of key sample height (length f.weights))
      → EndsWhere keyed wanted w
  to_key extremal wanted w g =
      let s : SamplesWhere f wanted w rows = g.rows in
      let c : List ℕ = replay (start_of (over f rows)) s.log in
      let by : FinishesBy (over f rows) s.log c =
      record {
        legal = first_run_legal (over f rows) (start_of (over f rows)) s.log s.run;
        leads = refl;
        finished = s.finished;
      } in
      let to : FinishesBy keyed s.log c =
      log_moves (stacks_of f rows) keyed.stacks (K.back f frame have key sample height high) f.family
      (K.row_fits f frame have key sample height high) s.log c by in
      let suit = log_suits keyed.stacks (stacks_of f rows) (K.same f frame have key sample height high) f.family
      (K.key_fits f frame have key sample height high) s.log c to in
      record {
        log = s.log;
        run = moved_first (over f rows) keyed.stacks extremal (start_of (over f rows)) s.log s.run to.legal
            (λ event is pop. to.finished event is pop.occurs);
        finished = to.finished;
        values = K.same_values f frame have key sample height high c suit ∙ s.entries;
        wanted_log = s.wanted_log;
      }

-- the law of the one-thread run under a key
pub keyed_wanted_runs : KeyedWantedRuns
keyed_wanted_runs f frame have extremal key sample height high wanted w = (
  to_rows f frame have key sample height high extremal wanted w,
  to_key f frame have key sample height high extremal wanted w,
)

-- the law of rounds under a key: the number of rounds and the cursors are those of the rows
pub keyed_wanted_rounds : KeyedWantedRounds
keyed_wanted_rounds f frame have listed key sample height high wanted w = (
  λ e.
      let suit = rounds_suit (keyed f frame have key sample height high).stacks
      (stacks_of f (rows f frame have key sample height high)) (K.same f frame have key sample height high) f.family
      (K.key_fits f frame have key sample height high) e.rounds e.cursors e.end in
      record {
        numbers = K.numbers f frame have key sample height high;
        rows = record {
          cursors = e.cursors;
          rounds = e.rounds;
          by = record {
            shape = K.shape f frame have key sample height high;
            end = rounds_move (keyed f frame have key sample height high).stacks
                (stacks_of f (rows f frame have key sample height high)) (K.same f frame have key sample height high)
                f.family (K.key_fits f frame have key sample height high) listed e.rounds e.cursors e.end;
            entries = sym (K.same_values f frame have key sample height high e.cursors suit) ∙ e.values;
          };
          wanted_end = e.wanted_end;
        };
      },
  λ g.
      let s = g.rows in
      let end = rounds_move (stacks_of f (rows f frame have key sample height high))
      (keyed f frame have key sample height high).stacks (K.back f frame have key sample height high) f.family
      (K.row_fits f frame have key sample height high) listed s.rounds s.cursors s.by.end in
      let suit = rounds_suit (keyed f frame have key sample height high).stacks
      (stacks_of f (rows f frame have key sample height high)) (K.same f frame have key sample height high) f.family
      (K.key_fits f frame have key sample height high) s.rounds s.cursors end in
      record {
        cursors = s.cursors;
        rounds = s.rounds;
        end = end;
        values = K.same_values f frame have key sample height high s.cursors suit ∙ s.by.entries;
        wanted_end = s.wanted_end;
      },
)
