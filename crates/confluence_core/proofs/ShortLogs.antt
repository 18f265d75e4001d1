-- Each pop takes from the room, so that a legal log is no longer than the room at its start.
use Rattle.std.proofs.Common.{◌≡◌, ℕ, ◌+◌, ◌*◌, ◌<◌, ◌≤◌, ◌^◌, List, [], ◌∷◌, length, sym, ◌∙◌, arith}
use Rattle.pop_model.specs.Stacks.{variables_of}
use Rattle.pop_model.specs.Popping.{pop}
use Rattle.pop_model.specs.Instances.{Instance, IsInstance}
use Rattle.pop_model.specs.Logs.{LogRecord, IsLegal, replay}
use Rattle.pop_model.proofs.PopLemmas.{length-pop}
use Rattle.pop_model.proofs.Room.{left_from, left_bound}
use Rattle.confluence_core.proofs.EventVariables.{event_falls}

-- a legal log takes its length from the room
pub legal_room : (i : Instance) (c : List ℕ) (log : List LogRecord) → IsInstance i → variables_of i.stacks ≡ length c
    → IsLegal i c log → length log + left_from i.stacks 0 (replay c log) ≤ left_from i.stacks 0 c
legal_room i c [] instance count legal = omega arith
legal_room i c (r ∷ log) instance count legal =
    let e = r.event.cube in
    let rest = legal_room i (pop c e) log instance (count ∙ sym (length-pop c e)) legal.1 in
    let falls = event_falls i r.event c instance.family instance.fits legal.0.event count legal.0.poppable.next in
    omega (arith, rest, falls)

-- so it has fewer than 2 ^ 62 records
pub legal_short : (i : Instance) (c : List ℕ) (log : List LogRecord) → IsInstance i → variables_of i.stacks ≡ length c
    → IsLegal i c log → length log < 2 ^ 62
legal_short i c log instance count legal =
    let room = legal_room i c log instance count legal in
    let most : left_from i.stacks 0 c ≤ length c * 2 ^ 31 = left_bound i.stacks instance.table.heights 0 c in
    let few = instance.table.count in
    omega (arith, room, most, count, few)
