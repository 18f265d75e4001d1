use Rattle.std.proofs.Common.{◌≡◌, ◌+◌, ◌≤◌, take, length}
use Rattle.claim_words.specs.Maps.{Each}
use Rattle.claim_words.specs.Passes.{IsOf, view, spare, log_spare}
use Rattle.event_finders.specs.UnitLooks.{ClaimsFirst, HasValue}
use Rattle.event_finders.proofs.LeastAtLast.{LastSo}
use Rattle.event_finders.proofs.unit_claims.claim_unit.Given as goal

-- the variables before here are held, each with the event's value
abbrev pub invariant-loop-i : goal.invariant-loop-i
invariant-loop-i l = record {
  pass : IsOf l.board l.pass;
  first : ClaimsFirst (view l.fn.pass) (view l.pass) l.cube l.i l.i;
  values : Each (HasValue l.instance (view l.fn.pass) (view l.pass)) (take l.i l.cube);
  last : LastSo l.instance (view l.pass) (take l.i l.cube) l.last;
  room : length l.cube ≤ spare l.pass + l.i;
  log_spare : log_spare l.pass ≡ log_spare l.fn.pass;
  reader : l.reader ≡ l.fn.reader;
}
