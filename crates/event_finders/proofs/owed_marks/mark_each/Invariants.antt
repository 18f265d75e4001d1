use Rattle.std.proofs.Common.{take}
use Rattle.claim_words.specs.Passes.{IsOf, view}
use Rattle.event_finders.specs.OwedMarks.{Marked}
use Rattle.event_finders.proofs.owed_marks.mark_each.Given as goal

-- the units before here are marked
abbrev pub invariant-loop-unit : goal.invariant-loop-unit
invariant-loop-unit l = record {
  pass : IsOf l.board l.pass;
  marked : Marked (take l.unit-index l.units) (view l.initial.pass) (view l.pass);
}
