-- The correct verdict on a listed family.
use Rattle.std.specs.Prelude.{ℕ, List}
use Rattle.pop_model.specs.Popping.{Cube}
use Rattle.pop_model.specs.Families.Family.{Listed}
use Rattle.pop_model.specs.Extremal.{IsExtremal}
use Rattle.pop_model.specs.Places.{IsLeastPair}
use Rattle.extremal_check.specs.Clashes.{AreClashing}
use Rattle.extremal_check.specs.declared.verdict.Verdict.{Verdict}
use Rattle.extremal_check.specs.declared.verdict.Verdict.TheVariants.{Extremal, Clash}

-- the family is extremal, or these are the numbers of the first pair that clashes
abbrev pub IsVerdict : List (ℕ × Cube) → Verdict → Type 0
IsVerdict rows Extremal = IsExtremal (Listed rows)
IsVerdict rows (Clash number other) = IsLeastPair (AreClashing rows) number other
