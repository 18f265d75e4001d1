-- A run that paused and is continued is one run: its log is that of both parts. Take a legal log on an extremal
-- instance, with a poppable event at its replay. It is shorter than a run to an end: each of its pops may come first
-- in the run.
use Rattle.std.proofs.Common.{◌≡◌, ℕ, ◌+◌, ◌<◌, List, [], ◌∷◌, ◌++◌, length, sym, subst, ◌∙◌, arith, length-append}
use Rattle.pop_model.specs.Popping.{IsPoppable, pop}
use Rattle.pop_model.specs.Families.{Event, IsEvent}
use Rattle.pop_model.specs.Instances.{Instance}
use Rattle.pop_model.specs.Extremal.{IsExtremal}
use Rattle.pop_model.specs.Logs.{LogRecord, IsLegal, replay}
use Rattle.pop_model.specs.Runs.{IsEnd}
use Rattle.pop_model.proofs.UniqueEnd.{pops_first, unique_run}
use Rattle.confluence_core.specs.Laws.{RunsToEnd}
use Rattle.confluence_core.proofs.LegalLogs.{legal_append, replay_append}

-- going on from a legal log comes to the end of every run
pub resumed : (i : Instance) → IsExtremal i.family → (c : List ℕ) (log rest other : List LogRecord) → IsLegal i c log
    → RunsToEnd i (replay c log) rest → RunsToEnd i c other
    → (replay (replay c log) rest ≡ replay c other) × (length log + length rest ≡ length other)
resumed i extremal c log rest other legal goes_on run =
    let whole = replay_append c log rest in
    let one = unique_run i extremal c (log ++ rest) other (legal_append i c log rest legal goes_on.legal) run.legal
    (subst (IsEnd i) (sym whole) goes_on.end) run.end in
    (sym whole ∙ one.end, sym (length-append log rest) ∙ one.size)

-- where an event is still poppable behind a legal log, it is shorter than a run to an end
pub open_shorter : (i : Instance) → IsExtremal i.family → (c : List ℕ) (log other : List LogRecord) → IsLegal i c log
    → (e : Event) → IsEvent i.family e → IsPoppable i.stacks (replay c log) e.cube
    → IsLegal i c other → IsEnd i (replay c other) → length log < length other
open_shorter i extremal c [] [] legal e is pop_e legal' end = absurd (end e is pop_e)
open_shorter i extremal c [] (q ∷ other) legal e is pop_e legal' end = omega arith
open_shorter i extremal c (r ∷ log) other legal e is pop_e legal' end =
    let first = pops_first i extremal c r.event legal.0.event legal.0.poppable other legal' end in
    let rest = open_shorter i extremal (pop c r.event.cube) log first.rest legal.1 e is pop_e first.legal
    (subst (IsEnd i) (sym first.end) end) in
    let size = first.size in
    omega (arith, rest, size)
