use Rattle.std.proofs.Common.{length, ◌-◌, map, string_bytes}
use Rattle.pop_words.specs.Reading.{seen}
use Rattle.pop_words.proofs.OptionsSoFar.{IsUnderway}
use Rattle.pop_words.proofs.command_line.set_options.Given as goal

abbrev pub invariant-loop-place : goal.invariant-loop-place
invariant-loop-place l = IsUnderway l.command (map string_bytes l.words) (map seen l.chosen.items) l.job l.place

abbrev pub decreases-loop-place : goal.decreases-loop-place
decreases-loop-place l = length l.words - l.place
