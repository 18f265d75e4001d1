-- A round over all units by a pass that is the only one. If it pops nothing, the records stay as they were. So what
-- was ruled out at one unit is still ruled out at the end of the round.
use Rattle.std.proofs.Common.{◌≡◌, ℕ, ◌-◌, ◌^◌, ◌<◌, true, false, length, arith, sym}
use Rattle.pop_model.specs.Families.{units_of}
use Rattle.pop_model.specs.Instances.{IsInstance}
use Rattle.pop_model.specs.Runs.{IsEnd}
use Rattle.claim_words.specs.declared.opening.Opening.{Opening}
use Rattle.claim_words.specs.declared.view.View.{View}
use Rattle.confluence_core.proofs.ShortLogs.{legal_short}
use Rattle.pop_log.proofs.PrintableLemmas.{unit_below}
use Rattle.claim_words.specs.Openings.{count}
use Rattle.claim_words.specs.TicketLogs.{vector, log_of}
use Rattle.claim_words.proofs.TicketsAreNumbered.{length-below}
use Rattle.pop_workers.specs.Attempts.{IsRound}

-- a round over all units that popped nothing has come to an end
pub round_ends : (k : Opening) (d e : View) (n : ℕ) → n ≡ units_of k.instance.value.family → IsRound k d e n true
    → IsEnd k.instance.value (vector k e.mine)
round_ends k d e n all round event is poppable =
    let known = unit_below k.instance.value.family event is in
    round.1 event.unit (omega (arith, known, all)) event.cube is poppable

-- behind a round that popped, fewer pops are left, since a legal log is short
pub fewer_left : (k : Opening) (d e : View) (n : ℕ) → IsInstance k.instance.value → length k.start.value ≡ count k
    → IsRound k d e n false → 2 ^ 62 - length e.mine < 2 ^ 62 - length d.mine
fewer_left k d e n instance counted round =
    let short = legal_short k.instance.value k.start.value (log_of e.mine) instance (sym counted) round.1 in
    let size = length-below e.mine (length e.mine) in
    omega (arith, short, size, round.0)
