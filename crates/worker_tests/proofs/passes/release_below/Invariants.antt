use Rattle.std.proofs.Common.{◌≡◌, ◌-◌}
use Rattle.std.specs.List.{range_with_len}
use Rattle.pop_model.specs.Popping.{variables}
use Rattle.claim_words.specs.Passes.{IsOf, SameMarks, view}
use Rattle.worker_tests.proofs.passes.release_below.Given as goal

-- the variables from here on are held
abbrev pub invariant-loop-v : goal.invariant-loop-v
invariant-loop-v l = record {
  pass : IsOf l.board l.pass;
  held : variables (view l.pass).held ≡ range_with_len l.v (l.count - l.v);
  same : SameMarks l.initial.pass l.pass;
}
