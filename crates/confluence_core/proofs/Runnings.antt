-- Walks that go on: what walks have left so far leads on to what they leave in the end.
use Rattle.std.proofs.Common.{◌≡◌, ◌<◌, ◌≤◌, ℕ, List, [], cond, ltb, length, refl, sym, ap, subst, ◌∙◌, arith}
use Rattle.std.specs.List.{range_with_len}
use Rattle.std.proofs.lemmas.Bool.{ltb-true}
use Rattle.std.proofs.lemmas.List.{nil_from_length}
use Rattle.pop_model.specs.Stacks.{variables_of}
use Rattle.pop_model.specs.Popping.{Cube, IsPoppable}
use Rattle.pop_model.specs.Families.{Event, IsEvent}
use Rattle.pop_model.specs.Logs.{replay}
use Rattle.pop_model.specs.Runs.{IsEnd}
use Rattle.confluence_core.specs.Records.{record_at}
use Rattle.confluence_core.specs.CycleTables.{CycleTable, AreCursors, cycles}
use Rattle.confluence_core.specs.Stretches.{GoesOn}
use Rattle.confluence_core.specs.Walks.{cycle_event}
use Rattle.confluence_core.specs.Steps.{RunsOn, reached_by, with_pop, with_stuck}
use Rattle.confluence_core.specs.declared.walked.Walked.{Walked}
use Rattle.confluence_core.proofs.Reaching.{leads_none, leads_pop, leads_then, leads_for}
use Rattle.confluence_core.proofs.Suspects.{none_or_all}

-- nothing is popped, but maybe a cycle noted
pub runs_none : {t : CycleTable} {w : Walked} (stuck : List Event) → RunsOn t w (record w { stuck = stuck })
runs_none {t} {w} stuck = record {
  leads = leads_none (cycles t) w.cursors w.pops w.log [] [];
  limit_is = refl;
  most = λ most. most;
}

pub runs_noted : {t : CycleTable} {w new : Walked} (e : Cube) → new ≡ with_stuck w e → RunsOn t w new
runs_noted {t} {w} e is = subst (RunsOn t w) (sym is) (runs_none (with_stuck w e).stuck)

-- a cycle is popped
pub runs_popped : {t : CycleTable} {w : Walked} {e : Cube} → w.pops < w.limit → IsEvent (cycles t).family (cycle_event e)
    → IsPoppable t.stacks w.cursors e → RunsOn t w (with_pop w e)
runs_popped {t} {w} {e} few event poppable = record {
  leads = leads_pop (cycles t) w.cursors w.pops w.log [] [] (record_at (cycle_event e).unit e w.cursors)
      (record { event = event; poppable = poppable; entries = refl });
  limit_is = refl;
  most = λ most. omega arith;
}

-- one after the other, along the same arrows
pub runs_then : {t u : CycleTable} {a b c : Walked} → u ≡ t → RunsOn t a b → RunsOn u b c → RunsOn t a c
runs_then {t} {u} {a} {b} {c} same first next =
    let last : RunsOn t b c = subst (λ x. RunsOn x b c) same next in
    record {
      leads = leads_then (cycles t) (reached_by a) (reached_by b) (reached_by c) first.leads last.leads;
      limit_is = last.limit_is ∙ first.limit_is;
      most = λ most. last.most (first.most most);
    }

-- a walk that may make no pop stays where it was
pub runs_nowhere : {t : CycleTable} {old new : Walked} → RunsOn t old new → old.pops ≡ 0 → old.limit ≡ 0
    → new.cursors ≡ old.cursors
runs_nowhere {old = old} {new} runs none limit =
    let most : new.pops ≤ new.limit = runs.most (omega (arith, none)) in
    let short : length runs.leads.log ≡ 0 = omega (arith, runs.leads.pops_are, most, runs.limit_is, limit) in
    runs.leads.cursors_are ∙ ap (replay old.cursors) (nil_from_length runs.leads.log short)

-- a run whose walks pop no more, or have come to an end, has gone on: it suspects each variable, or none
pub runs_go_on : {t : CycleTable} {old left : Walked} (us suspects : List ℕ) → length t.heads ≡ variables_of t.stacks
    → RunsOn t old left → AreCursors t left.cursors → (left.pops < left.limit → IsEnd (cycles t) left.cursors)
    → suspects ≡ cond (ltb left.pops left.limit) [] (range_with_len 0 (length t.heads))
    → GoesOn (cycles t) (record (reached_by old) { suspects = us }) (record (reached_by left) { suspects = suspects })
runs_go_on {t} {old} {left} us suspects fits runs are end is =
    let i = cycles t in
    let known = none_or_all i left.cursors suspects (ltb left.pops left.limit)
    (λ few. end (ltb-true left.pops left.limit few)) is in
    record {
      leads = leads_for i (reached_by old) (reached_by left) us suspects runs.leads;
      can = record {
        count = sym (are.count ∙ fits);
        within = are.within;
        units = known.0;
        suspects = known.1;
      };
    }
