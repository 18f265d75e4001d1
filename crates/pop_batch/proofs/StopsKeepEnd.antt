-- A run that is stopped and goes on is one run: the logs of its parts, one behind another, are a legal log to the same
-- end. On an extremal instance that is the end of every run from where it began.
use Rattle.std.proofs.Common.{◌≡◌, ℕ, ◌+◌, List, [], ◌∷◌, ◌++◌, length, sym, ap, subst, ◌∙◌, arith, length-append}
use Rattle.std.specs.Prelude.{Option, None, Some}
use Rattle.std.proofs.lemmas.List.Sums.{sum_by-append}
use Rattle.pop_model.specs.Stacks.{stacks_for}
use Rattle.pop_model.specs.Popping.{values_at}
use Rattle.pop_model.specs.Families.{Event}
use Rattle.pop_model.specs.Instances.{Instance, instance_for}
use Rattle.pop_model.specs.Extremal.{IsExtremal}
use Rattle.pop_model.specs.Logs.{LogRecord, IsLegal, replay}
use Rattle.pop_model.specs.Runs.{IsEnd, IsStuckList}
use Rattle.pop_model.proofs.FirstRun.{first_run}
use Rattle.pop_model.proofs.OneRun.{first_run_legal, first_run_ends, one_stuck_list}
use Rattle.pop_model.proofs.UniqueEnd.{SameRun, unique_run}
use Rattle.confluence_core.specs.declared.end.End.{End}
use Rattle.confluence_core.proofs.LegalLogs.{legal_append, replay_append}
use Rattle.pop_batch.specs.Laws.{OnePartEnd, StopsKeepEnd}
use Rattle.pop_batch.specs.Parts.{GoesByStops, IsEndFrom, IsPartEnd, IsPartStop, IsStopFrom, pops_with, start_at}
use Rattle.pop_batch.proofs.StoppedRuns.{end_at, part_end}

-- an end from where a run was stopped, with the pops before it, is one from where that run began
joined_end : (i : Instance) (start : List ℕ) (stop end : End) → IsExtremal i.family → IsStopFrom i start stop
    → IsEndFrom i stop.cursors end → IsEndFrom i start (record end { pops = stop.pops + end.pops })
joined_end i start stop end extremal at is =
    let both = at.log ++ is.log in
    let here : stop.cursors ≡ replay start at.log = at.cursors_are in
    let behind : IsLegal i (replay start at.log) is.log =
    subst (λ c. IsLegal i c is.log) here (first_run_legal i stop.cursors is.log is.run) in
    let legal : IsLegal i start both = legal_append i start at.log is.log at.legal behind in
    let whole : replay start both ≡ end.cursors =
    replay_append start at.log is.log ∙ ap (λ c. replay c is.log) (sym here) ∙ sym is.cursors_are in
    let ends : IsEnd i (replay start both) =
    subst (IsEnd i) (sym is.cursors_are ∙ sym whole) (first_run_ends i stop.cursors is.log is.run) in
    let first = first_run i extremal start both legal ends in
    record {
      log = first.first;
      run = first.run;
      cursors_are = sym whole ∙ sym first.end;
      pops_are = omega (arith, first.size, length-append at.log is.log, at.pops_are, is.pops_are);
      stuck_list = is.stuck_list;
      over = record { count = is.over.count; within = is.over.within; values = is.over.values };
    }

-- more pops before the same end
more_pops : (i : Instance) (start : List ℕ) (end : End) (a b : ℕ) → a ≡ b → IsEndFrom i start (record end { pops = a })
    → IsEndFrom i start (record end { pops = b })
more_pops i start end a b same is = subst (λ n. IsEndFrom i start (record end { pops = n })) same is

-- by all stops
stops_end : (i : Instance) (j : ℕ) (from : Option (List ℕ)) (stops : List End) (end : End) → IsExtremal i.family
    → GoesByStops i j from stops end
    → IsEndFrom (instance_for j i) (start_at (instance_for j i) from) (record end { pops = pops_with stops end })
stops_end i j from [] end extremal is =
    more_pops (instance_for j i) (start_at (instance_for j i) from) end end.pops (pops_with [] end) (omega arith)
    (end_at i j from end is)
stops_end i j from (stop ∷ stops) end extremal is =
    let x = instance_for j i in
    let rest : IsEndFrom x stop.cursors (record end { pops = pops_with stops end }) =
    stops_end i j (Some stop.cursors) stops end extremal is.1 in
    let more = sum_by-append (λ (s : End). s.pops) (stop ∷ []) stops in
    more_pops x (start_at x from) end (stop.pops + pops_with stops end) (pops_with (stop ∷ stops) end)
    (omega (arith, more))
    (joined_end x (start_at x from) stop (record end { pops = pops_with stops end }) extremal is.0 rest)

pub stops_keep_end : StopsKeepEnd
stops_keep_end i j from stops end extremal is =
    part_end i j from (record end { pops = pops_with stops end }) (stops_end i j from stops end extremal is)

-- the end of these parts
abbrev end_of : List ℕ → ℕ → List Event → List ℕ → End
end_of cursors pops stuck values =
    record { cursors = cursors; pops = pops; stuck = stuck; values = values }

-- on an extremal instance there is one end from these cursors
one_end_from : (i : Instance) (start : List ℕ) (end other : End) → IsExtremal i.family → IsEndFrom i start end
    → IsEndFrom i start other → end ≡ other
one_end_from i start end other extremal is is' =
    let run : SameRun start is.log is'.log =
    unique_run i extremal start is.log is'.log (first_run_legal i start is.log is.run)
    (first_run_legal i start is'.log is'.run) (first_run_ends i start is.log is.run)
    (first_run_ends i start is'.log is'.run) in
    let cursors : end.cursors ≡ other.cursors = is.cursors_are ∙ run.end ∙ sym is'.cursors_are in
    let pops : end.pops ≡ other.pops = is.pops_are ∙ run.size ∙ sym is'.pops_are in
    let stuck : end.stuck ≡ other.stuck =
    one_stuck_list i other.cursors end.stuck other.stuck
    (subst (λ c. IsStuckList i c end.stuck) cursors is.stuck_list) is'.stuck_list in
    let values : end.values ≡ other.values =
    is.over.values.are ∙ ap (values_at i.stacks) cursors ∙ sym is'.over.values.are in
    let parts : end_of end.cursors end.pops end.stuck end.values
    ≡ end_of other.cursors other.pops other.stuck other.values = cc in
    parts

pub one_part_end : OnePartEnd
one_part_end i j from end other extremal is is' =
    one_end_from (instance_for j i) (start_at (instance_for j i) from) end other extremal (end_at i j from end is)
    (end_at i j from other is')
