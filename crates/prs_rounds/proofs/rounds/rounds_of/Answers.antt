use Rattle.std.proofs.Common.{◌≡◌, ◌⊎◌, inl, inr, ◌+◌, ◌<◌, ◌≤◌, ◌^◌, ℕ, suc, List, [], Option, None, Some, Result, Ok, Err, IfOk, length, sym, ap, subst, ◌∙◌, arith}
use Rattle.std.specs.Prelude.{MatchOption}
use Rattle.pop_model.specs.Stacks.{StackTable, IsTable, variables_of}
use Rattle.pop_model.proofs.Room.{left_from}
use Rattle.pop_model.specs.Popping.{AreWithin, Occurs, values_at}
use Rattle.pop_model.specs.Places.{IsLeast}
use Rattle.pop_model.specs.Instances.{Instance}
use Rattle.pop_model.specs.Runs.{IsFinished, IsStuckList}
use Rattle.confluence_core.proofs.Places.{listed, event_to}
use Rattle.prs_rounds.specs.declared.round_end.RoundEnd.{RoundEnd}
use Rattle.prs_rounds.specs.Rounds.{Rounds, HasNoNext, IsRound, LeavesStop}
use Rattle.prs_rounds.specs.declared.state.State.{State}
use Rattle.prs_rounds.specs.States.{IsAt, Turns}
use Rattle.prs_rounds.proofs.ShownLemmas.{values_are_at}
use Rattle.prs_rounds.proofs.RoundsLemmas.{rounds_more}
use Rattle.prs_rounds.proofs.RoundRoom.{round_falls, rounds_fit}
use Rattle.prs_rounds.proofs.rounds.rounds_of.Goals as goal

pub overflow_add-rounds : goal.overflow_add-rounds
overflow_add-rounds g c =
    let s = c.args.stacks.now in
    let from : List ℕ = c.in_ok-state.state.cursors in
    let fit = rounds_fit s from c.count-table.ensures.table (sym c.in_ok-state.ensures.at.count) in
    let room = c.rounds.invariant.room in
    omega (arith, fit, room)

pub rounds-smaller : goal.rounds-smaller
rounds-smaller g c =
    let s = c.args.stacks.now in
    let rows = c.args.events.now in
    let old = c.rounds.state in
    let new = c.turn.new.state in
    let turned : IsRound (listed s rows) old.cursors new.cursors × IsAt s rows new =
    subst (Turns s rows old new) c.in_default.is c.in_ok-v.ensures in
    let some : 0 < length old.found.items = omega (arith, c.rounds-test.true, c.len.ensures, old.found.ok) in
    let at = c.rounds.invariant.at in
    round_falls s rows old.cursors new.cursors old.values.items old.found.items c.count-events.ensures.events
    c.requires.fits at.count
    at.starts some turned.0

pub rounds-preserved : goal.rounds-preserved
rounds-preserved g c =
    let s = c.args.stacks.now in
    let rows = c.args.events.now in
    let old = c.rounds.state in
    let new = c.turn.new.state in
    let n = c.rounds.rounds in
    let turned : IsRound (listed s rows) old.cursors new.cursors × IsAt s rows new =
    subst (Turns s rows old new) c.in_default.is c.in_ok-v.ensures in
    let some : 0 < length old.found.items = omega (arith, c.rounds-test.true, c.len.ensures, old.found.ok) in
    let at = c.rounds.invariant.at in
    let falls = round_falls s rows old.cursors new.cursors old.values.items old.found.items
    c.count-events.ensures.events c.requires.fits at.count
    at.starts some turned.0 in
    let next : suc n ≡ n + 1 = omega arith in
    let from : List ℕ = c.in_ok-state.state.cursors in
    record {
      at = turned.1;
      run = subst (λ k. Rounds (listed s rows) k from new.cursors) next
          (rounds_more (listed s rows) n from old.cursors new.cursors c.rounds.invariant.run turned.0);
      room = omega (arith, falls, c.rounds.invariant.room);
      most = omega (arith, c.if-rounds-limit.false);
    }

pub returns : goal.returns
returns g c =
    let s = c.args.stacks.now in
    let rows = c.args.events.now in
    let state = c.rounds.state in
    let starts = c.rounds.invariant.at.starts in
    let none : length state.found.items ≡ 0 = omega (arith, c.rounds-test.false, c.len.ensures, state.found.ok) in
    let finished : IsFinished (listed s rows) state.cursors =
    λ e event occurs.
    let at = event_to rows e event in
    let has = (starts.exact e.unit at.within).1 (subst (Occurs s state.cursors) (sym at.cube) occurs) in
    omega (arith, has.1, none) in
    let empty : IsStuckList (listed s rows) state.cursors [] = record {
      rising = λ k h. absurd (omega arith);
      exact = λ e. (λ has. absurd (omega (arith, has.1)), λ there. absurd (finished e there.0 there.1));
    } in
    record {
      stop = record {
        run = subst (λ from. Rounds (listed s rows) c.rounds.rounds from state.cursors) c.in_ok-state.ensures.cursors
            c.rounds.invariant.run;
        end = inl finished;
        stuck_list = subst (IsStuckList (listed s rows) state.cursors) (sym c.new.ensures) empty;
        most = c.rounds.invariant.most;
        few =
            let fit = rounds_fit s c.in_ok-state.state.cursors c.count-table.ensures.table
            (sym c.in_ok-state.ensures.at.count) in
            omega (arith, fit, c.rounds.invariant.room);
      };
      count = sym c.rounds.invariant.at.count;
      within = c.rounds.invariant.at.within;
      values = values_are_at s state.cursors state.values.items starts.values_are;
    }

-- what is left where a run stops, by where it has come
stops : (i : Instance) (from cursors : List ℕ) (limit rounds : ℕ) (short : Option ℕ) (values : List ℕ)
    → Rounds i rounds from cursors → rounds ≤ limit → rounds < 2 ^ 62
    → MatchOption short (IsFinished i cursors ⊎ (rounds ≡ limit)) (IsLeast (HasNoNext i cursors))
    → variables_of i.stacks ≡ length cursors → AreWithin i.stacks cursors → values ≡ values_at i.stacks cursors
    → (left : RoundEnd) → left.cursors ≡ cursors → left.values.items ≡ values → left.rounds ≡ rounds
    → left.short ≡ short → IsStuckList i cursors left.stuck → LeavesStop i from limit left
stops i from cursors limit rounds short values run most few end count within are left at has made of stuck = record {
  stop = record {
    run = subst (λ n. Rounds i n from left.cursors) (sym made) (subst (Rounds i rounds from) (sym at) run);
    end = subst (λ o. MatchOption o (IsFinished i left.cursors ⊎ (left.rounds ≡ limit))
        (IsLeast (HasNoNext i left.cursors))) (sym of)
        (subst (λ n. MatchOption short (IsFinished i left.cursors ⊎ (n ≡ limit)) (IsLeast (HasNoNext i left.cursors)))
        (sym made)
        (subst (λ c. MatchOption short (IsFinished i c ⊎ (rounds ≡ limit)) (IsLeast (HasNoNext i c))) (sym at) end));
    stuck_list = subst (λ c. IsStuckList i c left.stuck) (sym at) stuck;
    most = omega (arith, made, most);
    few = omega (arith, made, few);
  };
  count = ap length at ∙ sym count;
  within = subst (AreWithin i.stacks) (sym at) within;
  values = has ∙ are ∙ ap (values_at i.stacks) (sym at);
}

-- the same of what a call leaves, if it leaves something
stops_by : {E : Type 0} (i : Instance) (from : List ℕ) (limit rounds : ℕ) (short : Option ℕ) (state : State)
    → Rounds i rounds from state.cursors → rounds ≤ limit → rounds < 2 ^ 62
    → MatchOption short (IsFinished i state.cursors ⊎ (rounds ≡ limit)) (IsLeast (HasNoNext i state.cursors))
    → variables_of i.stacks ≡ length state.cursors → AreWithin i.stacks state.cursors
    → state.values.items ≡ values_at i.stacks state.cursors → (r : Result RoundEnd E)
    → IfOk r (λ left. left.cursors ≡ state.cursors) → IfOk r (λ left. left.values ≡ state.values)
    → IfOk r (λ left. left.rounds ≡ rounds) → IfOk r (λ left. left.short ≡ short)
    → IfOk r (λ left. IsStuckList i state.cursors left.stuck) → IfOk r (LeavesStop i from limit)
stops_by i from limit rounds short state run most few end count within are (Ok left) at has made of stuck =
    stops i from state.cursors limit rounds short state.values.items run most few end count within are left at
    (ap (λ v. v.items) has) made of stuck
stops_by i from limit rounds short state run most few end count within are (Err e) at has made of stuck = tt

-- fewer rounds than 2 ^ 62 were made
few_rounds : (s : StackTable) (from cursors : List ℕ) (rounds : ℕ) → IsTable s → variables_of s ≡ length from
    → rounds + left_from s 0 cursors ≤ left_from s 0 from → rounds < 2 ^ 62
few_rounds s from cursors rounds table count room = let fit = rounds_fit s from table (sym count) in omega (arith, fit, room)

pub returns-then-rounds-limit : goal.returns-then-rounds-limit
returns-then-rounds-limit g c =
    let s = c.args.stacks.now in
    let rows = c.args.events.now in
    let i : Instance = listed s rows in
    let state = c.rounds.state in
    let known = c.rounds.invariant in
    let all : c.rounds.rounds ≡ c.args.limit = omega (arith, known.most, c.if-rounds-limit.true) in
    let done = c.stopped_at.ensures in
    stops_by i c.args.from c.args.limit c.rounds.rounds None state
    (subst (λ from. Rounds i c.rounds.rounds from state.cursors) c.in_ok-state.ensures.cursors known.run) known.most
    (few_rounds s c.in_ok-state.state.cursors state.cursors c.rounds.rounds c.count-table.ensures.table
    c.in_ok-state.ensures.at.count known.room)
    (inr all) known.at.count known.at.within
    (values_are_at s state.cursors state.values.items known.at.starts.values_are) c.stopped_at.result done.cursors
    done.values done.rounds done.short done.stuck

pub returns-in-Some : goal.returns-in-Some
returns-in-Some g c =
    let s = c.args.stacks.now in
    let rows = c.args.events.now in
    let i : Instance = listed s rows in
    let old = c.rounds.state in
    let new = c.turn.new.state in
    let stayed : Turns s rows old new (Some c.in-Some.v) = subst
    (Turns s rows old new) c.in-Some.is c.in_ok-v.ensures in
    let known = c.rounds.invariant in
    let done = c.stopped_at-in-Some.ensures in
    stops_by i c.args.from c.args.limit c.rounds.rounds (Some c.in-Some.v) new
    (subst (λ at. Rounds i c.rounds.rounds c.args.from at) (sym stayed.1)
    (subst (λ from. Rounds i c.rounds.rounds from old.cursors) c.in_ok-state.ensures.cursors known.run)) known.most
    (few_rounds s c.in_ok-state.state.cursors old.cursors c.rounds.rounds c.count-table.ensures.table
    c.in_ok-state.ensures.at.count known.room)
    (subst (λ at. IsLeast (HasNoNext i at) c.in-Some.v) (sym stayed.1) stayed.0)
    (known.at.count ∙ sym (ap length stayed.1)) (subst (AreWithin s) (sym stayed.1) known.at.within)
    (ap (λ v. v.items) stayed.2 ∙ values_are_at s old.cursors old.values.items known.at.starts.values_are
    ∙ ap (values_at s) (sym stayed.1)) c.stopped_at-in-Some.result done.cursors done.values done.rounds done.short
    done.stuck
