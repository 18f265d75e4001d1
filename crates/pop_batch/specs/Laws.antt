-- Theorems about batches.
use Rattle.std.specs.Prelude.{◌≡◌, ℕ, List, Option}
use Rattle.pop_model.specs.Instances.{Instance}
use Rattle.pop_model.specs.Extremal.{IsExtremal}
use Rattle.confluence_core.specs.declared.end.End.{End}
use Rattle.pop_batch.specs.Batches.{AreEnds}
use Rattle.pop_batch.specs.Parts.{GoesByStops, IsPartEnd, pops_with}

-- the first n samples of an extremal instance have at most one list of ends
abbrev pub OneBatch : Type 0
OneBatch = (i : Instance) (count : ℕ) (ends others : List End) → IsExtremal i.family
    → AreEnds i count ends → AreEnds i count others → ends ≡ others

-- The run of a sample of an extremal instance may be stopped anywhere and continued from there. It
-- reaches the end of the run that is not stopped, and the pops of all parts sum to those of that
-- run.
abbrev pub StopsKeepEnd : Type 0
StopsKeepEnd = (i : Instance) (j : ℕ) (from : Option (List ℕ)) (stops : List End) (end : End)
    → IsExtremal i.family → GoesByStops i j from stops end
    → IsPartEnd i j from (record end { pops = pops_with stops end })

-- a sample of an extremal instance has at most one end from given cursors
abbrev pub OnePartEnd : Type 0
OnePartEnd = (i : Instance) (j : ℕ) (from : Option (List ℕ)) (end other : End)
    → IsExtremal i.family → IsPartEnd i j from end → IsPartEnd i j from other → end ≡ other
