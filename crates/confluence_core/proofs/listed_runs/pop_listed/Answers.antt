use Rattle.std.proofs.Common.{◌<◌, All, Contains, subst, ◌∙◌, arith}
use Rattle.std.proofs.lemmas.List.Elements.{All-contains}
use Rattle.confluence_core.proofs.Places.{listed}
use Rattle.confluence_core.proofs.Reaching.{leads_none, leads_for, come_room, come_can}
use Rattle.confluence_core.proofs.listed_runs.pop_listed.Goals as goal

pub of-requires : goal.of-requires
of-requires c =
    let can = come_can _ c.args.reached c.requires.reached in
    record { known = rw c.as_slice.ensures (rw c.count.ensures.count can.units) }

pub pop_waiting-requires-clause-waits : goal.pop_waiting-requires-clause-waits
pop_waiting-requires-clause-waits c =
    let i = listed c.args.stacks.now c.args.listed.events.now in
    let r = c.args.reached in
    let can = come_can i r c.requires.reached in
    let waits = rw c.as_slice.ensures at c.in_ok-work.ensures.waits in
    record {
      leads = leads_none i r.cursors r.pops r.log r.suspects r.suspects;
      count = can.count;
      within = can.within;
      most = λ most. most;
      room = come_room i r c.requires.instance c.requires.reached;
      units = c.in_ok-work.ensures.units ∙ c.count.ensures.count;
      covers = λ e is pop.
          All-contains (λ u. Contains c.in_ok-work.work.list u) r.suspects e.unit waits (can.suspects e is pop);
    }

pub returns : goal.returns
returns c =
    let i = listed c.args.stacks.now c.args.listed.events.now in
    let on = c.in_ok-pop_waiting.ensures.popped in
    let left = c.into_units.result in
    let left_is = c.into_units.ensures.units in
    record {
      on = record {
        leads = leads_for i c.args.reached c.pop_waiting.new.reached c.args.reached.suspects left on.leads;
        can = record {
          count = on.count;
          within = on.within;
          units = subst (λ n. All (λ u. u < n) left) on.units c.into_units.ensures.known;
          suspects = rw left_is on.covers;
        };
      };
      most = on.most;
      end = λ few. left_is ∙ c.in_ok-pop_waiting.ensures.end few;
      few = omega (arith, on.room);
      reader = c.pop_waiting.ensures.reader;
    }
