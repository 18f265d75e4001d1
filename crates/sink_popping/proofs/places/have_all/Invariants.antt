use Rattle.std.proofs.Common.{◌≡◌, ◌+◌, ◌<◌, ℕ}
use Rattle.pop_instance.specs.Events.{event_number}
use Rattle.sink_popping.proofs.places.have_all.Given as goal

-- the events before here count from 1
abbrev pub invariant-loop-place : goal.invariant-loop-place
invariant-loop-place l = (place : ℕ) → place < l.place → event_number l.events place ≡ place + 1
