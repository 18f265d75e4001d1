-- Runs that go on: stretches one behind another, what holds where a run has come, and what a run leaves that has come to
-- an end.
use Rattle.std.proofs.Common.{◌≡◌, ◌<◌, ℕ, ◌+◌, ◌^◌, Bool, true, false, cond, List, [], ◌∷◌, ◌++◌, length, map, get_or, Option, Some, None, refl, sym, ap, subst, ◌∙◌, arith}
use Rattle.std.proofs.lemmas.List.{append-nil, append_assoc, length-append}
use Rattle.std.specs.List.{range_with_len}
use Rattle.std.specs.Option.{is_some}
use Rattle.pop_model.specs.Stacks.{StackTable, variables_of, Extends}
use Rattle.pop_model.specs.Popping.{Cube, Occurs, NamesBelow, AreWithin, cursor, pop}
use Rattle.pop_model.specs.Families.{Event, Family, units_of}
use Rattle.pop_model.specs.Families.Family.{Listed, Cycles}
use Rattle.pop_model.specs.Instances.{Instance, IsInstance}
use Rattle.pop_model.specs.Extremal.{IsExtremal}
use Rattle.pop_model.specs.Logs.{LogRecord, IsLegalAt, IsLegal, replay}
use Rattle.pop_model.specs.Runs.{IsEnd, IsStuckList, IsFirstRun, IsFirstEnd, start_of}
use Rattle.pop_model.proofs.FirstRun.{first_run}
use Rattle.pop_model.proofs.Replays.{length-replay, start_count, start_within}
use Rattle.pop_model.proofs.Room.{left_from}
use Rattle.pop_model.proofs.TallerStacks.{legal_extends}
use Rattle.confluence_core.specs.Runs.{IsRunOf, ended}
use Rattle.confluence_core.specs.Stretches.{LeadsOn, CanGoOn, GoesOn, IsReached, HasCome, IsTold, before_pops, both_logs, joined, with_more}
use Rattle.confluence_core.specs.Suspects.{IsSuspected, MissesNone}
use Rattle.confluence_core.specs.declared.reached.Reached.{Reached}
use Rattle.confluence_core.specs.declared.run.Run.{Run}
use Rattle.confluence_core.proofs.EventVariables.{event_below, pops_fit}
use Rattle.confluence_core.proofs.LegalLogs.{replay_append, legal_append}
use Rattle.confluence_core.proofs.ShortLogs.{legal_room}
use Rattle.confluence_core.proofs.Suspects.{all_known, all_miss_none, unit_suspected, unit_known}

-- nothing stands behind a log
more_none : (kept : Option (List LogRecord)) → kept ≡ with_more kept []
more_none (Some log) = ap Some (sym (append-nil log))
more_none None = refl

-- one log behind another behind a third
more_twice : (kept : Option (List LogRecord)) (xs ys : List LogRecord)
    → with_more (with_more kept xs) ys ≡ with_more kept (xs ++ ys)
more_twice (Some log) xs ys = ap Some (append_assoc log xs ys)
more_twice None xs ys = refl

-- a stretch without a pop
pub leads_none : (i : Instance) (c : List ℕ) (n : ℕ) (kept : Option (List LogRecord)) (us vs : List ℕ)
    → LeadsOn i (record { cursors = c; pops = n; log = kept; suspects = us })
    (record { cursors = c; pops = n; log = kept; suspects = vs })
leads_none i c n kept us vs = record {
  log = [];
  legal = tt;
  cursors_are = refl;
  pops_are = omega arith;
  log_is = more_none kept;
}

-- a stretch of one pop
pub leads_pop : (i : Instance) (c : List ℕ) (n : ℕ) (kept : Option (List LogRecord)) (us vs : List ℕ) (r : LogRecord)
    → IsLegalAt i c r
    → LeadsOn i (record { cursors = c; pops = n; log = kept; suspects = us })
    (record { cursors = pop c r.event.cube; pops = n + 1; log = with_more kept (r ∷ []); suspects = vs })
leads_pop i c n kept us vs r legal = record {
  log = r ∷ [];
  legal = (legal, tt);
  cursors_are = refl;
  pops_are = omega arith;
  log_is = refl;
}

-- two stretches, of which the second begins where the first ended
pub leads_then : (i : Instance) (a b c : Reached) → LeadsOn i a b → LeadsOn i b c → LeadsOn i a c
leads_then i a b c first last = record {
  log = first.log ++ last.log;
  legal = legal_append i a.cursors first.log last.log first.legal
      (subst (λ d. IsLegal i d last.log) first.cursors_are last.legal);
  cursors_are = last.cursors_are ∙ ap (λ d. replay d last.log) first.cursors_are
      ∙ sym (replay_append a.cursors first.log last.log);
  pops_are = omega (arith, first.pops_are, last.pops_are, length-append first.log last.log);
  log_is = last.log_is ∙ ap (λ k. with_more k last.log) first.log_is ∙ more_twice a.log first.log last.log;
}

-- the suspects at either end of a stretch are not its own
pub leads_for : (i : Instance) (a b : Reached) (us vs : List ℕ) → LeadsOn i a b
    → LeadsOn i (record a { suspects = us }) (record b { suspects = vs })
leads_for i a b us vs leads = record {
  log = leads.log;
  legal = leads.legal;
  cursors_are = leads.cursors_are;
  pops_are = leads.pops_are;
  log_is = leads.log_is;
}

-- a log that stands behind nothing does so where it is to be kept
kept_behind : (keeps : Bool) (log : Option (List LogRecord)) (more : List LogRecord) → log ≡ with_more (Some []) more
    → cond keeps log None ≡ with_more (cond keeps (Some []) None) more
kept_behind true log more is = is
kept_behind false log more is = refl

-- with its log where it is to be kept, a run that kept it has come as far
pub leads_keeping : (i : Instance) (start : List ℕ) (keeps : Bool) (reached : Reached) (kept : Option (List LogRecord))
    (us : List ℕ) → kept ≡ cond keeps reached.log None → LeadsOn i (before_pops start true) reached
    → LeadsOn i (before_pops start keeps) (record reached { log = kept; suspects = us })
leads_keeping i start keeps reached kept us same leads = record {
  log = leads.log;
  legal = leads.legal;
  cursors_are = leads.cursors_are;
  pops_are = leads.pops_are;
  log_is = same ∙ kept_behind keeps reached.log leads.log leads.log_is;
}

-- a log that is kept exactly where another is stands behind it
both_kept : (kept : Option (List LogRecord)) (more : Option (List LogRecord)) (log : List LogRecord)
    → more ≡ with_more (cond (is_some kept) (Some []) None) log → both_logs kept more ≡ with_more kept log
both_kept (Some xs) more log is = ap (both_logs (Some xs)) is
both_kept None more log is = refl

-- a run that goes on by a stretch from where it had come, which keeps a log where the run does
pub joined_goes : (i : Instance) (old more : Reached) → IsReached i old.cursors (is_some old.log) more
    → GoesOn i old (joined old more)
joined_goes i old more is = record {
  leads = record {
    log = is.leads.log;
    legal = is.leads.legal;
    cursors_are = is.leads.cursors_are;
    pops_are = omega (arith, is.leads.pops_are);
    log_is = both_kept old.log more.log is.leads.log is.leads.log_is;
  };
  can = record {
    count = is.can.count;
    within = is.can.within;
    units = is.can.units;
    suspects = is.can.suspects;
  };
}

-- a run that goes on, and on
pub goes_then : (i : Instance) (a b c : Reached) → GoesOn i a b → GoesOn i b c → GoesOn i a c
goes_then i a b c first last = record { leads = leads_then i a b c first.leads last.leads; can = last.can }

-- a run that can go on has come where it is before its first pop
pub reached_none : (i : Instance) (start us : List ℕ) (keeps : Bool)
    → CanGoOn i (record (before_pops start keeps) { suspects = us })
    → IsReached i start keeps (record (before_pops start keeps) { suspects = us })
reached_none i start us keeps can =
    record { leads = leads_none i start 0 (cond keeps (Some []) None) [] us; can = can }

-- a run that can go on has gone on, without a pop
pub goes_nowhere : (i : Instance) (reached : Reached) → CanGoOn i reached → GoesOn i reached reached
goes_nowhere i reached can =
    record { leads = leads_none i reached.cursors reached.pops reached.log reached.suspects reached.suspects; can = can }

-- with all units as suspects a run can go on from any cursors below the heights, so it has come there before its first
-- pop
pub reached_starting : (i : Instance) (keeps : Bool) (start suspects : List ℕ) → variables_of i.stacks ≡ length start
    → AreWithin i.stacks start → suspects ≡ range_with_len 0 (units_of i.family)
    → IsReached i start keeps (record (before_pops start keeps) { suspects = suspects })
reached_starting i keeps start suspects count within all =
    reached_none i start suspects keeps (record {
      count = count;
      within = within;
      units = all_known (units_of i.family) suspects all;
      suspects = all_miss_none i start suspects all;
    })

-- and so it has at zeros
pub reached_opening : (i : Instance) (keeps : Bool) (zeros suspects : List ℕ) → IsInstance i → zeros ≡ start_of i
    → suspects ≡ range_with_len 0 (units_of i.family)
    → IsReached i (start_of i) keeps (record (before_pops zeros keeps) { suspects = suspects })
reached_opening i keeps zeros suspects instance are all =
    subst (λ c. IsReached i (start_of i) keeps (record (before_pops c keeps) { suspects = suspects })) (sym are)
    (reached_starting i keeps (start_of i) suspects (start_count i) (start_within i instance) all)

-- the pops made and those to come fit a count
pub come_room : (i : Instance) (reached : Reached) → IsInstance i → HasCome i reached
    → reached.pops + left_from i.stacks 0 reached.cursors < 2 ^ 62
come_room i reached instance (start, keeps, is) =
    let log = is.leads.log in
    let count : variables_of i.stacks ≡ length start =
    is.can.count ∙ ap length is.leads.cursors_are ∙ length-replay start log in
    let room = legal_room i start log instance count is.leads.legal in
    let fits = pops_fit i.stacks start instance.table count in
    let same = ap (left_from i.stacks 0) is.leads.cursors_are in
    omega (arith, room, fits, same, is.leads.pops_are)

-- a run that has come so far can go on
pub come_can : (i : Instance) (reached : Reached) → HasCome i reached → CanGoOn i reached
come_can i reached (start, keeps, is) = is.can

-- a stretch that was made apart may stand behind a run that has come so far
pub joined_come : (i : Instance) (old more : Reached) → HasCome i old → IsReached i old.cursors (is_some old.log) more
    → HasCome i (joined old more)
joined_come i old more (start, keeps, is) stretch =
    (start, keeps, goes_then i (before_pops start keeps) old (joined old more) is (joined_goes i old more stretch))

-- and the pops of both fit a count
pub joined_room : (i : Instance) (old more : Reached) → IsInstance i → HasCome i old
    → IsReached i old.cursors (is_some old.log) more → old.pops + more.pops < 2 ^ 62
joined_room i old more instance come stretch =
    let room = come_room i (joined old more) instance (joined_come i old more come stretch) in
    omega (arith, room)

-- where no unit is suspected, no event is poppable
pub unsuspected_end : (i : Instance) (c suspects : List ℕ) → suspects ≡ [] → MissesNone i c suspects → IsEnd i c
unsuspected_end i c suspects none misses e event poppable = nowhere i.family (misses e event poppable)
  where
    size : length suspects ≡ 0
    size = ap length none

    nowhere : (f : Family) → IsSuspected f suspects e → ⊥
    nowhere (Listed rows) has = omega (arith, size, has.1)
    nowhere (Cycles heads) has = omega (arith, size, has.2.1)

-- from zeros on an extremal instance it is the end of the one-thread run
pub first_end_of : (i : Instance) (start : List ℕ) (keeps : Bool) (reached : Reached) (stuck : List Event)
    → IsReached i start keeps reached → IsEnd i reached.cursors → IsStuckList i reached.cursors stuck
    → IsExtremal i.family → start ≡ start_of i → IsFirstEnd i reached.cursors reached.pops stuck
first_end_of i start keeps reached stuck is end list extremal zeros =
    let leads = is.leads in
    let first = first_run i extremal start leads.log leads.legal (subst (IsEnd i) leads.cursors_are end) in
    record {
      run = (
        first.first,
        subst (λ c. IsFirstRun i c first.first) zeros first.run,
        leads.cursors_are ∙ sym first.end ∙ ap (λ c. replay c first.first) zeros,
        omega (arith, leads.pops_are, first.size),
      );
      stuck_list = list;
    }

-- what is told of a run that has come to an end is what a run leaves
pub told_run : (i : Instance) (start : List ℕ) (keeps : Bool) (reached : Reached) (run : Run)
    → IsReached i start keeps reached → reached.suspects ≡ [] → IsTold i reached run → IsRunOf i start keeps run
told_run i start keeps reached run is none told =
    let here : Reached = record reached { suspects = [] } in
    let there : IsReached i start keeps here =
    subst (λ us. IsReached i start keeps (record reached { suspects = us })) none is in
    let end = unsuspected_end i reached.cursors reached.suspects none is.can.suspects in
    subst (IsRunOf i start keeps) (sym told.are) (record {
      reached = there;
      stuck_list = told.stuck_list;
      values = told.values;
      first = first_end_of i start keeps here run.end.stuck there end told.stuck_list;
    })

-- what is told of a run that went on from where it had come to an end
pub gone_run : (i : Instance) (start : List ℕ) (keeps : Bool) (reached new : Reached) (run : Run)
    → IsReached i start keeps reached → GoesOn i reached new → new.suspects ≡ [] → IsTold i new run
    → IsRunOf i start keeps run
gone_run i start keeps reached new run is on none told =
    told_run i start keeps new run (goes_then i (before_pops start keeps) reached new is on) none told

-- and the run went on to what is told
pub told_on : (i : Instance) (reached new : Reached) (run : Run) → GoesOn i reached new → new.suspects ≡ []
    → IsTold i new run → GoesOn i reached (ended run)
told_on i reached new run on none told =
    subst (GoesOn i reached) (sym (ap ended told.are))
    (subst (λ us. GoesOn i reached (record new { suspects = us })) none on)

-- what occurs over taller stacks at cursors of these occurs over these
occurs_lower : (s taller : StackTable) (c : List ℕ) (e : Cube) → Extends s taller → AreWithin s c
    → NamesBelow e (variables_of s) → Occurs taller c e → Occurs s c e
occurs_lower s taller c e extends within known occurs k d below =
    let p = get_or e k d in
    sym (extends.entries p.0 (cursor c p.0) (within p.0 (known k d below))) ∙ occurs k d below

module _ (i : Instance) (taller : StackTable) (extends : Extends i.stacks taller) where
  -- the instance over the taller stacks
  abbrev pub raised : Instance
  raised = record { stacks = taller; family = i.family }

  -- the units of what occurs miss nothing that is poppable over taller stacks
  pub stuck_misses_none : (c : List ℕ) (stuck : List Event) → IsInstance i → AreWithin i.stacks c
      → IsStuckList i c stuck → MissesNone raised c (map (λ e. e.unit) stuck)
  stuck_misses_none c stuck instance within list e is poppable =
      let occurs = occurs_lower i.stacks taller c e.cube extends within (event_below i e instance.fits is)
      poppable.occurs in
      unit_suspected i.family stuck e is ((list.exact e).1 (is, occurs))

  -- A run that has come so far has come so far over taller stacks too. At an end the units of what occurs are its
  -- suspects there.
  pub reached_raised : (start : List ℕ) (keeps : Bool) (reached : Reached) (stuck : List Event) → IsInstance i
      → IsReached i start keeps reached → IsStuckList i reached.cursors stuck
      → IsReached raised start keeps (record reached { suspects = map (λ e. e.unit) stuck })
  reached_raised start keeps reached stuck instance is list = record {
    leads = record {
      log = is.leads.log;
      legal = legal_extends i taller extends start is.leads.log is.leads.legal;
      cursors_are = is.leads.cursors_are;
      pops_are = is.leads.pops_are;
      log_is = is.leads.log_is;
    };
    can = record {
      count = extends.variables ∙ is.can.count;
      within = λ v below.
          let inside = is.can.within v (omega (arith, below, extends.variables)) in
          let more = extends.heights v in
          omega (arith, inside, more);
      units = unit_known i reached.cursors stuck list;
      suspects = stuck_misses_none reached.cursors stuck instance is.can.within list;
    };
  }
