use Rattle.std.proofs.Common.{rules, ap}
use Rattle.claim_words.specs.Openings.{count_in}
use Rattle.claim_words.specs.Passes.{view, count_of}
use Rattle.event_finders.proofs.IdleExactly.{idle_exactly}
use Rattle.event_finders.proofs.ListedEvents.{unit_event}
use Rattle.event_finders.proofs.unit_tries.try_unit.Goals as goal

pub returns-clause-answer : goal.returns-clause-answer
returns-clause-answer c = (
  c.cube.result.now,
  unit_event c.args.instance.now c.in-Listed.events c.args.unit c.cube.result.now (search rules) c.requires.known
      c.cube.ensures,
  c.try_event.ensures.tries.says,
)

pub returns-clause-marks : goal.returns-clause-marks
returns-clause-marks c = (
  c.cube.result.now,
  unit_event c.args.instance.now c.in-Listed.events c.args.unit c.cube.result.now (search rules) c.requires.known
      c.cube.ensures,
  c.try_event.ensures.tries.marks,
)

pub returns-clause-unmarked : goal.returns-clause-unmarked
returns-clause-unmarked c =
    idle_exactly (view c.args.pass.now) (view c.try_event.new.pass) c.args.unit c.try_event.ensures.tries.seen
    (count_of c.args.board.now) (ap count_in c.requires.pass.0.1) c.try_event.result c.try_event.ensures.tries.mark
