use Rattle.std.proofs.Common.{length}
use Rattle.pop_words.proofs.ReportParts.{HasNamed}
use Rattle.pop_words.proofs.value.reports_in.Given as goal

-- the parts up to here are names of reports, each at most once, and these reports are asked for
abbrev pub invariant-loop-part : goal.invariant-loop-part
invariant-loop-part l = HasNamed l.word (length l.yielded) l.reports
