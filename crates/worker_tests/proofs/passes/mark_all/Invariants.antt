use Rattle.std.proofs.Common.{◌≡◌, []}
use Rattle.claim_words.specs.Maps.{Each}
use Rattle.claim_words.specs.Passes.{IsOf, view}
use Rattle.claim_words.proofs.HeldWhole.{Between}
use Rattle.worker_tests.proofs.passes.mark_all.Given as goal

-- what is owed is from here on
abbrev pub invariant-loop-unit : goal.invariant-loop-unit
invariant-loop-unit l = record {
  pass : IsOf l.board l.pass;
  taken : (view l.pass).taken ≡ [];
  owed : Each (Between l.unit l.marks) (view l.pass).owed;
  held : (view l.pass).held ≡ (view l.initial.pass).held;
  share : (view l.pass).share ≡ (view l.initial.pass).share;
}
