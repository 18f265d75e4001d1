-- What every pass knows of the start of its board.
use Rattle.std.specs.Prelude.{◌≡◌, length, Some}
use Rattle.claim_words.specs.Openings.{count}
use Rattle.claim_words.specs.declared.view.View.{View}
use Rattle.claim_words.specs.declared.opening.Opening.{Opening}

-- the board of this view started from a cursor for each variable
abbrev pub IsCounted : View → Type 0
IsCounted d = (k : Opening) → d.opening ≡ Some k → length k.start.value ≡ count k
