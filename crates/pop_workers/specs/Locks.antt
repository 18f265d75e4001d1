-- What workers add to a run that share a book under a lock.
use Rattle.std.specs.Option.{is_some}
use Rattle.confluence_core.specs.declared.reached.Reached.{Reached}
use Rattle.confluence_core.specs.Stretches.{HasCome, IsReached}
use Rattle.pop_workers.specs.declared.book_work.BookWork.{BookWork}

-- some run has reached the state from which the workers go on
abbrev pub MayWork : BookWork → Type 0
MayWork work = HasCome work.instance.now work.reached.now

-- a stretch of the run from that state, with a log if the run keeps one
abbrev pub IsWorkOf : BookWork → Reached → Type 0
IsWorkOf work more =
    IsReached work.instance.now work.reached.now.cursors (is_some work.reached.now.log) more
