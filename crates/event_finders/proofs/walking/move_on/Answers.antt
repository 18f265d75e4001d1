use Rattle.std.proofs.Common.{arith}
use Rattle.event_finders.proofs.TrailLemmas.{last_off, last_below}
use Rattle.event_finders.proofs.walking.move_on.Goals as goal

pub push-requires-clause-known : goal.push-requires-clause-known
push-requires-clause-known c =
    omega (
      arith,
      last_below c.args.walker.now.count c.args.walker.now.path c.pop-v.new.self.path c.pop-v.result
          c.pop-v.ensures.path c.len-len.ensures.trail,
      c.pop-v.ensures.count,
    )

pub push-requires-clause-fresh : goal.push-requires-clause-fresh
push-requires-clause-fresh c =
    last_off c.args.walker.now.count c.args.walker.now.path c.pop-v.new.self.path c.pop-v.result c.pop-v.ensures.path
    c.len-len.ensures.trail
