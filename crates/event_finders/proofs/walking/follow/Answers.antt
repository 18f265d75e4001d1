use Rattle.std.proofs.Common.{rules, sym, subst}
use Rattle.claim_words.specs.Passes.{view}
use Rattle.event_finders.specs.Trails.{Trail}
use Rattle.event_finders.specs.WalkSteps.{Stopped}
use Rattle.event_finders.proofs.WalkGains.{same_then}
use Rattle.event_finders.proofs.WalkSeen.{last_then, walked_then}
use Rattle.event_finders.proofs.WalkTraces.{trace_stop}
use Rattle.event_finders.proofs.walking.follow.Goals as goal

pub loop-stop-preserved : goal.loop-stop-preserved
loop-stop-preserved c =
    let i = c.loop-stop.invariant in
    let e = c.in_default.ensures in
    record {
      pass = e.pass;
      walking = e.walking;
      same = same_then _ _ _ i.same e.same;
      reader = search rules;
      walked = walked_then _ _ _ _ _ _ i.walked e.step.walked;
    }

pub returns-in-Some-clause-same : goal.returns-in-Some-clause-same
returns-in-Some-clause-same c = same_then _ _ _ c.loop-stop.invariant.same c.in-Some.ensures.same

pub returns-in-Some-clause-seen : goal.returns-in-Some-clause-seen
returns-in-Some-clause-seen c = last_then _ _ _ _ _ c.loop-stop.invariant.walked c.in-Some.ensures.step.seen

pub returns-in-Some-clause-traced : goal.returns-in-Some-clause-traced
returns-in-Some-clause-traced c n d t =
    let r = c.in-Some.ensures.step in
    subst (λ (x : Trail). Stopped n d (view c.step.new.pass) x.path c.in-Some.stop) (sym r.same)
    (trace_stop n d _ _ _ c.in-Some.stop (c.loop-stop.invariant.walked.traced n d t) r.seen r.found)
