use Rattle.confluence_core.proofs.Reaching.{come_can}
use Rattle.pop_workers.proofs.no_lock.NoLockLock.work.Goals as goal

pub opening_from-requires-clause-count : goal.opening_from-requires-clause-count
opening_from-requires-clause-count c =
    (come_can c.args.work.instance.now c.args.work.reached.now c.requires.may).count

pub opening_from-requires-clause-within : goal.opening_from-requires-clause-within
opening_from-requires-clause-within c =
    (come_can c.args.work.instance.now c.args.work.reached.now c.requires.may).within
