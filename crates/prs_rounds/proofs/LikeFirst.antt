-- On an extremal instance a run by rounds is a legal log, since each round pops the events that occur one after
-- another.
-- A run that finishes comes to an end, which is unique. Where a round lacks an entry, an event occurs that can't be
-- popped; nothing that shares a variable with it occurs, so it occurs at each end.
use Rattle.std.proofs.Common.{inl, inr, ◌≡◌, ℕ, zero, suc, ◌+◌, ◌<◌, ◌≤◌, true, false, List, [], ◌∷◌, ◌++◌, length, get_or, Option, None, Some, refl, sym, ap, subst, ◌∙◌, arith, Contains, ext_get_or}
use Rattle.std.proofs.lemmas.Bool.{cases_Bool, false≢true}
use Rattle.std.specs.List.{list_any}
use Rattle.std.proofs.lemmas.List.Elements.{All-contains, Contains-get_or}
use Rattle.std.proofs.lemmas.List.Folds.{Any-from_list_any, list_any-from_Any}
use Rattle.pop_model.specs.Stacks.{StackTable, value_at, height_of}
use Rattle.pop_model.specs.Popping.{Cube, Occurs, HasNext, cursor, names, pop}
use Rattle.pop_model.specs.Families.{Event, IsEvent}
use Rattle.pop_model.specs.Families.Family.{Listed}
use Rattle.pop_model.specs.Instances.{Instance}
use Rattle.pop_model.specs.Extremal.{IsExtremal}
use Rattle.pop_model.specs.Logs.{LogRecord, IsLegal, replay}
use Rattle.pop_model.specs.Runs.{IsEnd, IsFinished, IsStuckList, IsFirstEnd, start_of}
use Rattle.pop_model.proofs.Diamond.{Apart, named, names_it, apart_if_extremal, cursor_apart}
use Rattle.pop_model.proofs.Rising.{head_member}
use Rattle.pop_model.proofs.UniqueEnd.{same_event, pops_first, unique_run}
use Rattle.pop_model.proofs.OneRun.{first_run_legal, first_run_ends}
use Rattle.confluence_core.proofs.LegalLogs.{legal_append, replay_append}
use Rattle.prs_rounds.proofs.StuckEvents.{some_stuck}
use Rattle.prs_rounds.specs.Rounds.{IsRound, Rounds, IsRoundsEnd}
use Rattle.prs_rounds.specs.Laws.{EndsLikeFirst}
use Rattle.prs_rounds.proofs.OnlyOccurring.{resampled_occurs, occurs_resampled}
use Rattle.prs_rounds.proofs.PoppedTogether.{AreReady, pops_of, popped, pops_legal, pops_replay, length-popped, popped_other, popped_named}

-- a cube that is apart still occurs after a pop
occurs_apart : (s : StackTable) (c : List ℕ) (e f : Cube) → Apart e f → Occurs s c f → Occurs s (pop c e) f
occurs_apart s c e f apart occurs k d h =
    let p : ℕ × ℕ = get_or f k d in
    subst (λ n. value_at s p.0 n ≡ p.1) (cursor_apart c e f apart p (Contains-get_or f k d h)) (occurs k d h)

-- a legal log from one vector to another
pub record Leads (i : Instance) (c d : List ℕ) : Type 0 where
  pub log : List LogRecord
  pub legal : IsLegal i c log
  pub end : replay c log ≡ d

module _ (s : StackTable) (rows : List (ℕ × Cube)) (extremal : IsExtremal (Listed rows)) where
  -- the instance of these events
  abbrev i : Instance
  i = record { stacks = s; family = Listed rows }

  -- a round is a legal log
  round_leads : (c new : List ℕ) → IsRound i c new → Leads i c new
  round_leads c new round =
      let some = some_stuck s rows c in
      let events : List Event = some.0 in
      let list : IsStuckList i c events = some.1 in
      let ready : AreReady i c events = record {
        rising = list.rising;
        event = λ e has. ((list.exact e).0 has).0;
        poppable = λ e has. record {
          occurs = ((list.exact e).0 has).1;
          next = λ k d h. round.room _ (
            e,
            occurs_resampled i c e
                (record { event = ((list.exact e).0 has).0; occurs = ((list.exact e).0 has).1 }),
            at_place e k d h,
          );
        };
      } in
      record {
        log = pops_of c events;
        legal = pops_legal i extremal c events ready;
        end = pops_replay i extremal c events ∙ ext_get_or 0 (popped c events) new
            (length-popped i extremal c events ∙ sym round.count)
            (λ v h. same_cursor events list ready v (omega (arith, h, length-popped i extremal c events)));
      }
    where
      at_place : (e : Event) (k : ℕ) (d : ℕ × ℕ) → k < length e.cube → names e.cube (get_or e.cube k d).0 ≡ true
      at_place e k d h = names_it e.cube (get_or e.cube k d) (Contains-get_or e.cube k d h)

      same_cursor : (events : List Event) → IsStuckList i c events → AreReady i c events → (v : ℕ) → v < length c
          → cursor (popped c events) v ≡ cursor new v
      same_cursor events list ready v below = elim (cases_Bool (list_any (λ (e : Event). names e.cube v) events)) [
        | inl is ↦
            let found = Any-from_list_any (λ (e : Event). names e.cube v) events is in
            let has : Contains events found.1 = (found.0, found.2, found.3) in
            let there = (list.exact found.1).0 has in
            popped_named i extremal c events v ready below found.1 has found.4
            ∙ sym (round.moved v (
              found.1,
              occurs_resampled i c found.1
                  (record { event = there.0; occurs = there.1 }),
              found.4,
            ))
        | inr none ↦
            let unnamed : (e : Event) → Contains events e → names e.cube v ≡ false =
            λ e has. elim (cases_Bool (names e.cube v)) [
              | inl is ↦ absurd (false≢true (sym none ∙ list_any-from_Any (λ (x : Event). names x.cube v) events
                  (has.0, e, has.1, has.2, is)))
              | inr other ↦ other
            ] in
            popped_other i extremal c events v unnamed
            ∙ sym (round.kept v (λ (e, resampled, named_it).
            let occurs = resampled_occurs i extremal c e resampled in
            false≢true (sym (unnamed e ((list.exact e).1 (occurs.event, occurs.occurs))) ∙ named_it)))
      ]

  -- rounds are a legal log
  pub rounds_lead : (n : ℕ) (c d : List ℕ) → Rounds i n c d → Leads i c d
  rounds_lead zero c d run = record { log = []; legal = tt; end = run }
  rounds_lead (suc n) c d run =
      let first = round_leads c run.0 run.1 in
      let rest = rounds_lead n run.0 d run.2 in
      record {
        log = first.log ++ rest.log;
        legal = legal_append i c first.log rest.log first.legal
            (subst (λ x. IsLegal i x rest.log) (sym first.end) rest.legal);
        end = replay_append c first.log rest.log ∙ ap (λ x. replay x rest.log) first.end ∙ rest.end;
      }

  -- what is left of a log to an end behind any legal log
  after : (c : List ℕ) (log whole : List LogRecord) → IsLegal i c log → IsLegal i c whole → IsEnd i (replay c whole)
      → Leads i (replay c log) (replay c whole)
  after c [] whole legal legal' end = record { log = whole; legal = legal'; end = refl }
  after c (r ∷ log) whole legal legal' end =
      let first = pops_first i extremal c r.event legal.0.event legal.0.poppable whole legal' end in
      let rest = after (pop c r.event.cube) log first.rest legal.1 first.legal (subst (IsEnd i) (sym first.end) end) in
      record { log = rest.log; legal = rest.legal; end = rest.end ∙ first.end }

  -- an event that occurs and has a variable at its last entry stays
  stays : (c : List ℕ) (log : List LogRecord) (e : Event) (v : ℕ) → IsLegal i c log → IsEvent i.family e
      → Occurs s c e.cube → names e.cube v ≡ true → height_of s v ≤ cursor c v + 1 → Occurs s (replay c log) e.cube
  stays c [] e v legal is occurs named_it last = occurs
  stays c (r ∷ log) e v legal is occurs named_it last = elim (same_event r.event e) [
    | inl same ↦
        let x = named e.cube v named_it in
        let next = All-contains (λ (p : ℕ × ℕ). cursor c p.0 + 1 < height_of s p.0) e.cube (v, x.0)
        (subst (λ (f : Event). HasNext s c f.cube) same legal.0.poppable.next) x.1 in
        absurd (omega (arith, next, last))
    | inr other ↦
        let apart : Apart r.event.cube e.cube =
        apart_if_extremal i extremal c r.event e legal.0.event is other legal.0.poppable.occurs occurs in
        let x = named e.cube v named_it in
        let kept : cursor c v ≡ cursor (pop c r.event.cube) v =
        cursor_apart c r.event.cube e.cube apart (v, x.0) x.1 in
        stays (pop c r.event.cube) log e v legal.1 is (occurs_apart s c r.event.cube e.cube apart occurs) named_it
        (subst (λ n. height_of s v ≤ n + 1) kept last)
  ]

  -- where no event occurs, the stuck list is empty
  none_stuck : (c : List ℕ) (stuck : List Event) → IsFinished i c → IsStuckList i c stuck → stuck ≡ []
  none_stuck c [] finished list = refl
  none_stuck c (e ∷ stuck) finished list =
      let there = (list.exact e).0 (head_member e stuck) in absurd (finished e there.0 there.1)

  -- rounds are exhausted exactly where the one-thread run is, and where both finish, their cursors are equal
  pub ends_like_first : (c : List ℕ) (rounds : ℕ) (list : List Event) (short : Option ℕ)
      → IsRoundsEnd i c rounds list short
      → (firsts : List ℕ) (pops : ℕ) (stuck : List Event) → IsFirstEnd i firsts pops stuck
      → EndsLikeFirst c firsts short stuck
  ends_like_first c rounds list None is firsts pops stuck first =
      let start = start_of i in
      let lead = rounds_lead rounds start c is.run in
      let end : IsEnd i (replay start lead.log) =
      subst (IsEnd i) (sym lead.end) (λ e event pop. is.end e event pop.occurs) in
      let same = unique_run i extremal start lead.log first.run.0 lead.legal
      (first_run_legal i start first.run.0 first.run.1)
      end (first_run_ends i start first.run.0 first.run.1) in
      let cursors : c ≡ firsts = sym lead.end ∙ same.end ∙ sym first.run.2 in
      let none : stuck ≡ [] = none_stuck firsts stuck (subst (IsFinished i) cursors is.end) first.stuck_list in
      record {
        exhausted = (λ some. absurd (some refl), λ some. absurd (some none));
        finished = λ _. cursors;
      }
  ends_like_first c rounds list (Some v) is firsts pops stuck first =
      let start = start_of i in
      let lead = rounds_lead rounds start c is.run in
      let whole = first.run.0 in
      let rest = after start lead.log whole lead.legal (first_run_legal i start whole first.run.1)
      (first_run_ends i start whole first.run.1) in
      let short = is.end.holds in
      let e : Event = short.resampled.0 in
      let occurs = resampled_occurs i extremal c e short.resampled.1 in
      let there : Occurs s (replay c rest.log) e.cube =
      stays c rest.log e v (subst (λ x. IsLegal i x rest.log) lead.end rest.legal) occurs.event occurs.occurs
      short.resampled.2 short.last in
      let at_end : replay c rest.log ≡ firsts =
      ap (λ x. replay x rest.log) (sym lead.end) ∙ rest.end ∙ sym first.run.2 in
      let has : Contains stuck e = (first.stuck_list.exact e).1
      (occurs.event, subst (λ x. Occurs s x e.cube) at_end there) in
      record {
        exhausted = (λ _ none. empty_has (subst (λ xs. Contains xs e) none has), λ _ is_none. cc);
        finished = λ is_none. absurd (cc);
      }
    where
      empty_has : {e : Event} → Contains [] e → ⊥
      empty_has h = omega (arith, h.1)
