-- The one-thread run of an extremal instance has one end. It is a legal log to an end, and such logs have one replay
-- and one length; the stuck list of a vector rises by unit, so that its members determine it.
use Rattle.std.proofs.Common.{◌≡◌, ℕ, List, [], ◌∷◌, sym, subst, ◌∙◌}
use Rattle.pop_model.specs.Popping.{pop}
use Rattle.pop_model.specs.Families.{Event}
use Rattle.pop_model.specs.Instances.{Instance}
use Rattle.pop_model.specs.Extremal.{IsExtremal}
use Rattle.pop_model.specs.Logs.{LogRecord, IsLegal, replay}
use Rattle.pop_model.specs.Runs.{IsEnd, IsFirstRun, IsStuckList, IsFirstEnd, start_of}
use Rattle.pop_model.proofs.Rising.{same_rising}
use Rattle.pop_model.proofs.UniqueEnd.{SameRun, unique_run}

-- the one-thread run is legal
pub first_run_legal : (i : Instance) (c : List ℕ) (log : List LogRecord) → IsFirstRun i c log → IsLegal i c log
first_run_legal i c [] run = tt
first_run_legal i c (r ∷ log) run = (run.1, first_run_legal i (pop c r.event.cube) log run.2)

-- the one-thread run comes to an end
pub first_run_ends : (i : Instance) (c : List ℕ) (log : List LogRecord) → IsFirstRun i c log → IsEnd i (replay c log)
first_run_ends i c [] run = run
first_run_ends i c (r ∷ log) run = first_run_ends i (pop c r.event.cube) log run.2

-- a vector has one stuck list
pub one_stuck_list : (i : Instance) (c : List ℕ) (stuck other : List Event)
    → IsStuckList i c stuck → IsStuckList i c other → stuck ≡ other
one_stuck_list i c stuck other is is' =
    same_rising (λ (e : Event). e.unit) stuck other is.rising is'.rising
    (λ e has. (is'.exact e).1 ((is.exact e).0 has)) (λ e has. (is.exact e).1 ((is'.exact e).0 has))

-- two ends of one-thread runs
pub record SameEnd (c d : List ℕ) (n m : ℕ) (s t : List Event) : Type 0 where
  pub cursors : c ≡ d
  pub pops : n ≡ m
  pub stuck : s ≡ t

-- on an extremal instance the one-thread run has one end
pub one_first_end : (i : Instance) → IsExtremal i.family → (c d : List ℕ) (n m : ℕ) (s t : List Event)
    → IsFirstEnd i c n s → IsFirstEnd i d m t → SameEnd c d n m s t
one_first_end i extremal c d n m s t is is' =
    let log = is.run.0 in
    let other = is'.run.0 in
    let start = start_of i in
    let run : SameRun start log other =
    unique_run i extremal start log other (first_run_legal i start log is.run.1)
    (first_run_legal i start other is'.run.1) (first_run_ends i start log is.run.1)
    (first_run_ends i start other is'.run.1) in
    let cursors : c ≡ d = is.run.2 ∙ run.end ∙ sym is'.run.2 in
    record {
      cursors = cursors;
      pops = is.run.3 ∙ run.size ∙ sym is'.run.3;
      stuck = one_stuck_list i d s t (subst (λ v. IsStuckList i v s) cursors is.stuck_list) is'.stuck_list;
    }
