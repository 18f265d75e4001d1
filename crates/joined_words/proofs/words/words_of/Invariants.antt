use Rattle.std.proofs.Common.{map, string_bytes}
use Rattle.joined_words.proofs.FoundWords.{IsFront}
use Rattle.joined_words.proofs.words.words_of.Given as goal

-- the words end where the next one begins, and no byte from there on is 0 so far
abbrev pub invariant-loop-at : goal.invariant-loop-at
invariant-loop-at l = IsFront l.bytes (map string_bytes l.words.items) l.start l.at
