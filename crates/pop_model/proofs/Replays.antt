-- What a run keeps: there is a cursor for each variable, and it is below its variable's height.
use Rattle.std.proofs.Common.{◌≡◌, ℕ, ◌<◌, ◌≤◌, List, [], ◌∷◌, length, refl, sym, ◌∙◌, arith}
use Rattle.std.proofs.lemmas.List.{length-replicate, get_or-replicate}
use Rattle.pop_model.specs.Stacks.{variables_of}
use Rattle.pop_model.specs.Popping.{AreWithin, cursor, pop}
use Rattle.pop_model.specs.Instances.{Instance, IsInstance}
use Rattle.pop_model.specs.Logs.{LogRecord, IsLegal, replay}
use Rattle.pop_model.specs.Runs.{start_of}
use Rattle.pop_model.proofs.PopLemmas.{length-pop}
use Rattle.pop_model.proofs.Room.{within_pop, not_lowered}

-- before any pop there is a cursor for each variable
pub length-start : (i : Instance) → length (start_of i) ≡ variables_of i.stacks
length-start i = length-replicate {A = ℕ} (variables_of i.stacks) 0

-- the same from the other side, as contracts of runs ask for it
pub start_count : (i : Instance) → variables_of i.stacks ≡ length (start_of i)
start_count i = sym (length-start i)

-- before any pop each cursor is below its height, since each stack has an entry
pub start_within : (i : Instance) → IsInstance i → AreWithin i.stacks (start_of i)
start_within i is v below =
    let zero' : cursor (start_of i) v ≡ 0 = get_or-replicate (variables_of i.stacks) v 0 0 below in
    let some = is.table.entries v below in
    omega (arith, zero', some)

-- a log leaves as many cursors as it found
pub length-replay : (c : List ℕ) (log : List LogRecord) → length (replay c log) ≡ length c
length-replay c [] = refl
length-replay c (r ∷ log) = length-replay (pop c r.event.cube) log ∙ length-pop c r.event.cube

-- and lowers no cursor
pub not_lowered_by : (c : List ℕ) (log : List LogRecord) (v : ℕ) → v < length c → cursor c v ≤ cursor (replay c log) v
not_lowered_by c [] v below = omega arith
not_lowered_by c (r ∷ log) v below =
    let e = r.event.cube in
    let here = not_lowered c e v below in
    let rest = not_lowered_by (pop c e) log v (omega (arith, below, length-pop c e)) in
    omega (arith, here, rest)

-- a legal log leaves each cursor below its height
pub replay_within : (i : Instance) (c : List ℕ) (log : List LogRecord) → variables_of i.stacks ≡ length c
    → AreWithin i.stacks c → IsLegal i c log → AreWithin i.stacks (replay c log)
replay_within i c [] count within legal = within
replay_within i c (r ∷ log) count within legal =
    let e = r.event.cube in
    replay_within i (pop c e) log (count ∙ sym (length-pop c e))
    (within_pop i.stacks c e count legal.0.poppable.next within) legal.1
