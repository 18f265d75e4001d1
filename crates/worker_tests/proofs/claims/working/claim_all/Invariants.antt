use Rattle.std.proofs.Common.{◌≡◌, ◌+◌, ◌<◌, ◌≤◌, ℕ, length, get_or, vec_capacity}
use Rattle.std.specs.List.{enumerate_from}
use Rattle.claim_words.specs.Openings.{height}
use Rattle.claim_words.specs.Passes.{IsOf, SameMarks, view, spare, opening_of}
use Rattle.worker_tests.proofs.claims.working.claim_all.Given as goal

-- the variables before here are held, at these cursors
abbrev pub invariant-loop-v : goal.invariant-loop-v
invariant-loop-v g l = record {
  pass : IsOf l.board l.pass;
  same : SameMarks l.initial.pass l.pass;
  room : l.count ≤ spare l.pass + l.v;
  held : (view l.pass).held ≡ enumerate_from 0 l.cursors.items;
  len : length l.cursors.items ≡ l.v;
  capacity : l.count ≤ vec_capacity l.cursors;
  low : (u : ℕ) → u < l.v → get_or l.cursors.items u 0 < height (opening_of l.board) u;
}
