use Rattle.std.proofs.Common.{◌≡◌, take}
use Rattle.prs_rounds.specs.Values.{shown_among}
use Rattle.prs_rounds.proofs.alone.AloneLooker.occurring.Given as goal

-- of the places up to here those are found that the values show
abbrev pub invariant-loop-place : goal.invariant-loop-place
invariant-loop-place l = l.found.items ≡ shown_among l.values l.events (take l.place-index l.places)
