-- What takes and marks did to the marks of units.
use Rattle.std.specs.Prelude.{ℕ, ◌+◌, ◌-◌, ◌==◌, cond, List}
use Rattle.claim_words.specs.Maps.{total}

-- a unit, the mark that a step found there, and the mark that it left
abbrev pub Change : Type 0
Change = ℕ × ℕ × ℕ

-- the mark that was found, if the unit is u
abbrev pub found_mark : ℕ → Change → ℕ
found_mark u c = cond (c.0 == u) c.1 0

-- the mark that was left, if the unit is u
abbrev pub left_mark : ℕ → Change → ℕ
left_mark u c = cond (c.0 == u) c.2 0

-- the mark of u after these changes, if it was set before them and nothing else changed it
abbrev pub mark_after : ℕ → List Change → ℕ
mark_after u cs = 1 + total (left_mark u) cs - total (found_mark u) cs
