use Rattle.std.proofs.Common.{◌≡◌, ◌<◌, IfSome}
use Rattle.claim_words.specs.Passes.{view, opening_of}
use Rattle.claim_words.specs.TicketLogs.{IsLegalFrom}
use Rattle.pop_workers.specs.AtWork.{KeepsTools, IsIdleOn}
use Rattle.pop_workers.specs.Attempts.{Goes}
use Rattle.pop_workers.proofs.working.work.Given as goal

-- the pass is idle, has its share and pops behind those it had; where it is sole, its records stay a legal log; and the
-- hint of a meeting is a unit
abbrev pub invariant-loop-turn : goal.invariant-loop-turn
invariant-loop-turn g l =
    IsIdleOn l.board l.pass × Goes (view l.initial.pass) (view l.pass)
    × ((view l.initial.pass).share ≡ 64 → IsLegalFrom (opening_of l.board) (view l.initial.pass).mine
    → IsLegalFrom (opening_of l.board) (view l.pass).mine)
    × KeepsTools l.shared.instance.now l.initial.tools l.tools
    × (l.meetings < 100) × IfSome l.met (λ unit. unit < g.W.Range.units)
