use Rattle.std.proofs.Common.{◌≡◌, ◌+◌, length}
use Rattle.sink_popping.specs.SinkPlaces.{ArePlaces}
use Rattle.sink_popping.proofs.places.listed.Given as goal

-- the events before here have their places
abbrev pub invariant-loop-place : goal.invariant-loop-place
invariant-loop-place l = record {
  count : length l.places.items ≡ l.vertices + 1;
  are : ArePlaces l.events l.place l.places.items;
}
