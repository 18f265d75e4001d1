use Rattle.std.proofs.Common.{◌≡◌, ◌<◌, IfSome}
use Rattle.pop_model.specs.Families.{units_of}
use Rattle.pop_stacks.specs.Readers.{Belongs}
use Rattle.pop_workers.proofs.attempts.attempt_in_turns.Given as goal

abbrev pub invariant-loop-turn : goal.invariant-loop-turn
invariant-loop-turn g l = record {
  belongs : Belongs g.N.Site.instance.stacks l.reader;
  units : l.turns.units ≡ units_of g.N.Site.instance.family;
  known : IfSome l.next (λ unit. unit < l.turns.units);
}
