-- The instance to sample is extremal, except for `resample` and `rounds`. An input that is read is within the limit of
-- its length.
use Rattle.std.proofs.Common.{◌≡◌, ◌≢◌, ◌≤◌, ℕ, false, List, length, Option, Result, IfOk, refl, sym, subst}
use Rattle.std.proofs.lemmas.Result.{IfOk-weaker}
use Rattle.pop_model.specs.Stacks.{Origin}
use Rattle.pop_model.specs.Instances.{Instance}
use Rattle.pop_model.specs.Extremal.{IsExtremal}
use Rattle.pop_model.proofs.CycleFamily.{cycles_extremal}
use Rattle.pop_edge.specs.Lines.{text_limit}
use Rattle.pop_edge.proofs.AcceptedTexts.{accepted}
use Rattle.dimacs_read.specs.Cnf.{Cnf}
use Rattle.dimacs_read.specs.CnfText.{cnf}
use Rattle.graph_read.specs.Graphs.{GraphOf}
use Rattle.graph_read.specs.Grids.{grid_of}
use Rattle.graph_read.specs.GraphText.{graph}
use Rattle.sink_popping.proofs.OneDirection.{sinks_extremal}
use Rattle.cycle_popping.specs.Trees.{heads_of_tree}
use Rattle.pop_words.specs.declared.command.Command.{Command}
use Rattle.pop_words.specs.declared.command.Command.TheVariants.{Formula, Orient, Tree, Resample, Make, Rounds}
use Rattle.pop_print.specs.declared.facts.Facts.{Facts}
use Rattle.job_subjects.specs.declared.making.Made.{Made}
use Rattle.job_subjects.specs.declared.wanted.Wanted.{Wanted}
use Rattle.job_subjects.specs.Subjects.{Subject, AreAssignments, AreOrientations, AreArrows, AreGridArrows, IsSubjectOf}
use Rattle.job_subjects.specs.Made.{IsMadeOf, IsMade}

-- a subject whose family is extremal
abbrev pub HasExtremal : Subject → Type 0
HasExtremal s = IsExtremal s.family

-- so is that of one which is the same
same_subject : (s t : Subject) → s ≡ t → HasExtremal t → HasExtremal s
same_subject s t same extremal = subst HasExtremal (sym same) extremal

-- the events of a formula are, where they may not clash
pub assignments_extremal : (f : Cnf) (s : Subject) → AreAssignments false f s → HasExtremal s
assignments_extremal f s h = same_subject s _ h.is (h.extremal refl)

-- sinks are extremal
pub orientations_extremal : (g : GraphOf) (s : Subject) → AreOrientations g s → HasExtremal s
orientations_extremal g s h = same_subject s _ h.is (sinks_extremal g h.events h.of_graph)

-- so are cycles
pub arrows_extremal : (root : ℕ) (g : GraphOf) (s : Subject) → AreArrows root g s → HasExtremal s
arrows_extremal root g s h = same_subject s _ h.is (cycles_extremal (heads_of_tree g root))

-- and those of a grid
pub grid_arrows_extremal : (side : ℕ) (s : Subject) → AreGridArrows side s → HasExtremal s
grid_arrows_extremal side s h = same_subject s _ h.is (cycles_extremal (heads_of_tree (grid_of side) 1))

-- so is what a command samples, but where it is resampled, or by rounds
pub subject_extremal : (k : Command) (w : Wanted) (text : List ℕ) (s : Subject) → k ≢ Resample → k ≢ Rounds
    → IsSubjectOf k w text s → HasExtremal s
subject_extremal Formula w text s ordered run h = assignments_extremal h.formula s h.are
subject_extremal Orient w text s ordered run h = orientations_extremal h.graph s h.are
subject_extremal Tree w text s ordered run h = arrows_extremal w.root h.graph s h.are
subject_extremal Resample w text s ordered run h = absurd (ordered refl)
subject_extremal Make w text s ordered run h = grid_arrows_extremal w.side s h
subject_extremal Rounds w text s ordered run h = absurd (run refl)
subject_extremal k w text s ordered run h = absurd h

-- what is made of a subject has its family
pub made_extremal : (Are : Subject → Type 0) (origin : Origin) (asked : Option ℕ) (facts : Facts) (i : Instance)
    → ((s : Subject) → Are s → HasExtremal s) → IsMadeOf Are origin asked facts i → IsExtremal i.family
made_extremal Are origin asked facts i are_extremal made =
    subst (λ (j : Instance). IsExtremal j.family) (sym made.over.instance_is) (are_extremal made.subject made.are)

-- the same of a result
pub result_extremal : {E : Type 0} (Are : Subject → Type 0) (origin : Origin) (asked : Option ℕ) (r : Result Made E)
    → ((s : Subject) → Are s → HasExtremal s) → IfOk r (λ m. IsMadeOf Are origin asked m.facts m.instance)
    → IfOk r (λ m. IsExtremal m.instance.family)
result_extremal Are origin asked r are_extremal =
    IfOk-weaker r _ _ (λ m made. made_extremal Are origin asked m.facts m.instance are_extremal made)

-- a text that is read is within the limit
pub subject_short : (k : Command) (w : Wanted) (text : List ℕ) (s : Subject) → k ≢ Make → IsSubjectOf k w text s
    → length text ≤ text_limit
subject_short Formula w text s reads h = (accepted cnf text h.spelled.0).short
subject_short Orient w text s reads h = (accepted graph text h.spelled.0).short
subject_short Tree w text s reads h = (accepted graph text h.spelled.0).short
subject_short Resample w text s reads h = (accepted cnf text h.spelled.0).short
subject_short Make w text s reads h = absurd (reads refl)
subject_short Rounds w text s reads h = (accepted cnf text h.spelled.0).short
subject_short k w text s reads h = absurd h

pub made_short : (w : Wanted) (text : List ℕ) (facts : Facts) (i : Instance) → w.command ≢ Make
    → IsMade w text facts i → length text ≤ text_limit
made_short w text facts i reads made = subject_short w.command w text made.subject reads made.are
