-- What is shown of a subject: the text of its end, over valid stacks of any source, shows its sample, or the events
-- that still occur. The same holds for any text that begins with the result at an end of a formula's events and with
-- the cursors, and for the text of rounds.
use Rattle.std.proofs.Common.{◌≡◌, ℕ, Bool, List, [], ◌∷◌, ◌++◌, length, Ok, sym, subst, ◌∙◌, false, true, ap, arith, append-nil, Option, append_assoc}
use Rattle.std.proofs.lemmas.List.{length-replicate}
use Rattle.pop_model.specs.Stacks.{Origin, variables_of}
use Rattle.pop_model.specs.Families.{Event}
use Rattle.pop_model.specs.Instances.{Instance}
use Rattle.pop_model.specs.Runs.{IsStuckList, IsFirstEnd, start_of}
use Rattle.pop_model.specs.Logs.{LogRecord, replay}
use Rattle.pop_model.proofs.Replays.{length-replay}
use Rattle.pop_stacks.specs.Faults.{IsSound}
use Rattle.prs_rounds.specs.Rounds.{IsRoundsEnd}
use Rattle.prs_rounds.proofs.OneRun.{length-rounds}
use Rattle.pop_words.specs.declared.command.Command.TheVariants.{Formula, Resample, Rounds, Orient, Tree, Make}
use Rattle.pop_words.specs.declared.job.Job.{Job}
use Rattle.pop_words.specs.declared.command.Command.{Command}
use Rattle.dimacs_read.specs.Cnf.{Cnf, AreLiterals}
use Rattle.dimacs_read.specs.CnfText.{AnswersCnf, cnf_of}
use Rattle.graph_read.specs.Graphs.{GraphOf, IsGraph, IsVertex}
use Rattle.graph_read.specs.Grids.{grid_of}
use Rattle.graph_read.specs.Paths.{IsConnected}
use Rattle.graph_read.specs.GraphText.{graph_of}
use Rattle.graph_read.proofs.GridGraphs.{grid_is_graph, first_vertex}
use Rattle.graph_read.proofs.GridPaths.{grid_connected}
use Rattle.cycle_popping.specs.Trees.{weights_of_tree}
use Rattle.pop_watch.specs.Telling.{Watcher}
use Rattle.pop_print.specs.declared.facts.Facts.{Facts}
use Rattle.pop_print.specs.declared.facts.Facts.TheVariants.{Formula as FormulaFacts, Orient as OrientFacts, Tree as TreeFacts, Made as MadeFacts}
use Rattle.pop_print.specs.Output.{findings, used_line, pops_line, end_text}
use Rattle.pop_print.specs.Rounds.{rounds_line, short_line, rounds_text}
use Rattle.job_subjects.specs.declared.wanted.Wanted.{Wanted}
use Rattle.job_subjects.specs.Subjects.{Subject, pair_weights, instance_of, instance_over, assignments, AreAssignments, tree_instance, orientations, arrows_to, IsOfCnf, IsSubjectOf}
use Rattle.job_subjects.specs.Made.{IsMade}
use Rattle.job_subjects.proofs.MadeInstances.{count_of_weights}
use Rattle.told_runs.specs.Outcomes.Outcome.{Rounded}
use Rattle.top_call.specs.Answers.{wanted_by, ComesOf, origin_for}
use Rattle.printed_samples.specs.Laws.{ShowsFormula, ShowsOriented}
use Rattle.printed_samples.proofs.ShownEnds.{literals_of_text, pair_bits, formula_shown, orientation_shown}
use Rattle.printed_samples.specs.TreeLaws.{IsTreeState, ShowsTreeEnd, ShowsMadeEnd}
use Rattle.printed_samples.proofs.SoundSlots.{sound_slots}
use Rattle.printed_samples.proofs.ShownTrees.{tree_shown, made_shown}
use Rattle.answer_laws.specs.Shown.{stacks_by, ShowsEnd}
use Rattle.answer_laws.proofs.SubjectKinds.{graph_known}
use Rattle.answer_laws.proofs.ToldSubjects.{rounded_made}

-- ---- formulas

-- an end of a subject over sound stacks: as many cursors as variables, and the events that occur at them
pub record IsEndOver (origin : Origin) (c : List ℕ) (stuck : List Event) (s : Subject) : Type 0 where
  pub sound : IsSound origin s.weights
  pub size : length c ≡ length s.weights
  pub stuck_list : IsStuckList (instance_over origin s) c stuck

-- so is one of what is made
pub made_over : (w : Wanted) (text : List ℕ) (facts : Facts) (i : Instance) (c : List ℕ) (stuck : List Event)
    (made : IsMade w text facts i) → length c ≡ variables_of i.stacks → IsStuckList i c stuck
    → IsEndOver w.origin c stuck made.subject
made_over w text facts i c stuck made size list = record {
  sound = made.over.sound;
  size = subst (λ (k : Instance). length c ≡ variables_of k.stacks) made.over.instance_is size;
  stuck_list = subst (λ k. IsStuckList k c stuck) made.over.instance_is list;
}

-- what was found at an end of the formula that a text spells and its cursors, and what stands behind them
pub formula_end : (may_clash : Bool) (text : List ℕ) (f : Cnf) (origin : Origin) (s : Subject) (c : List ℕ)
    (stuck : List Event) (more : List ℕ) → AnswersCnf text (Ok f) → (are : AreAssignments may_clash f s)
    → IsEndOver origin c stuck s
    → ShowsFormula (cnf_of text) (stacks_by origin (pair_weights (cnf_of text).variables)) stuck
    ((findings (FormulaFacts f.variables) (instance_of origin f.variables are.events) c stuck ++ used_line c) ++ more)
formula_end may_clash text f origin s c stuck more spelled are end =
    let over : IsEndOver origin c stuck (assignments f are.events) = subst (IsEndOver origin c stuck) are.is end in
    let i : Instance = instance_of origin f.variables are.events in
    let out : List ℕ = (findings (FormulaFacts f.variables) i c stuck ++ used_line c) ++ more in
    let own : ShowsFormula f i.stacks stuck out =
    formula_shown f are.events i.stacks c stuck more
    (subst (λ (g : Cnf). AreLiterals g.variables g.clauses) (sym spelled.1) (literals_of_text text spelled.0)) spelled.2
    are.of_formula (over.size ∙ length-replicate f.variables (1 ∷ 1 ∷ [])) (pair_bits origin f.variables c over.sound)
    over.stuck_list in
    subst (λ (g : Cnf). ShowsFormula g (stacks_by origin (pair_weights g.variables)) stuck out) spelled.1 own

-- by the stuck list what is shown of a formula is what the commands show that read one
pub formula_shows : (job : Job) (origin : Origin) (text : List ℕ) (stuck : List Event) (out : List ℕ)
    → ShowsFormula (cnf_of text) (stacks_by origin (pair_weights (cnf_of text).variables)) stuck out
    → ShowsEnd Formula job origin text stuck out × ShowsEnd Resample job origin text stuck out
    × ShowsEnd Rounds job origin text stuck out
formula_shows job origin text [] out h = (h, h, h)
formula_shows job origin text (e ∷ stuck) out h = (h, h, h)

-- ---- whatever is sampled

-- as many cursors as variables, behind a log
pub log_size : (i : Instance) (log : List LogRecord) → length (replay (start_of i) log) ≡ variables_of i.stacks
log_size i log = length-replay (start_of i) log ∙ length-replicate (variables_of i.stacks) 0

-- so an end of the one-thread run is one of the subject
pub first_over : (origin : Origin) (s : Subject) (c : List ℕ) (pops : ℕ) (stuck : List Event) → IsSound origin s.weights
    → IsFirstEnd (instance_over origin s) c pops stuck → IsEndOver origin c stuck s
first_over origin s c pops stuck sound end =
    let (log, run, cursors, count) = end.run in
    record {
      sound = sound;
      size = ap length cursors ∙ log_size (instance_over origin s) log;
      stuck_list = end.stuck_list;
    }

-- the state of a graph's trees at an end
tree_state : (facts : Facts) (origin : Origin) (g : GraphOf) (root : ℕ) (c : List ℕ) (stuck : List Event) → IsGraph g
    → IsVertex g.vertices root → IsConnected g root → IsEndOver origin c stuck (arrows_to facts g root)
    → IsTreeState g root (tree_instance origin g root).stacks c
tree_state facts origin g root c stuck graph root_is joined end =
    let size : length c ≡ length (weights_of_tree g root) = end.size in
    let first = root_is.first in
    let last = root_is.last in
    record {
      graph = graph;
      root_is = root_is;
      joined = joined;
      count = omega (arith, size, count_of_weights g root, first, last);
      slots = sound_slots origin g root c graph root_is joined end.sound;
    }

-- what is shown of an orientation
oriented_shows : (job : Job) (origin : Origin) (text : List ℕ) (stuck : List Event) (out : List ℕ)
    → ShowsOriented (graph_of text) (stacks_by origin (pair_weights (length (graph_of text).edges))) stuck out
    → ShowsEnd Orient job origin text stuck out
oriented_shows job origin text [] out h = h
oriented_shows job origin text (e ∷ stuck) out h = h

-- of a tree
tree_shows : (job : Job) (origin : Origin) (text : List ℕ) (stuck : List Event) (out : List ℕ)
    → ShowsTreeEnd (graph_of text) job.root (stacks_by origin (weights_of_tree (graph_of text) job.root)) stuck out
    → ShowsEnd Tree job origin text stuck out
tree_shows job origin text [] out h = h
tree_shows job origin text (e ∷ stuck) out h = h

-- and of a made grid
made_shows : (job : Job) (origin : Origin) (text : List ℕ) (stuck : List Event) (out : List ℕ)
    → ShowsMadeEnd job.size (stacks_by origin (weights_of_tree (grid_of job.size) 1)) stuck out
    → ShowsEnd Make job origin text stuck out
made_shows job origin text [] out h = (out, [], sym (append-nil out), h)
made_shows job origin text (e ∷ stuck) out h = (out, [], sym (append-nil out), h)

-- what the text of an end of a subject shows
abbrev SubjectShows : Command → Job → Origin → List ℕ → List ℕ → ℕ → List Event → Subject → Type 0
SubjectShows command job origin text c pops stuck s =
    ShowsEnd command job origin text stuck (end_text s.facts (instance_over origin s) c pops stuck)

-- of assignments to the formula that a text spells
abbrev AssignmentsShow : Job → Origin → List ℕ → List ℕ → ℕ → List Event → Subject → Type 0
AssignmentsShow job origin text c pops stuck s =
    SubjectShows Formula job origin text c pops stuck s × SubjectShows Resample job origin text c pops stuck s
    × SubjectShows Rounds job origin text c pops stuck s

assignments_show : (may_clash : Bool) (job : Job) (origin : Origin) (text : List ℕ) (s : Subject)
    → IsOfCnf (AreAssignments may_clash) text s → (c : List ℕ) (pops : ℕ) (stuck : List Event)
    → IsEndOver origin c stuck s → AssignmentsShow job origin text c pops stuck s
assignments_show may_clash job origin text s is c pops stuck end =
    let f : Cnf = is.formula in
    let out : List ℕ =
    end_text (FormulaFacts f.variables) (instance_of origin f.variables is.are.events) c pops stuck in
    let shown : ShowsFormula (cnf_of text) (stacks_by origin (pair_weights (cnf_of text).variables)) stuck out =
    formula_end may_clash text f origin s c stuck (pops_line pops) is.spelled is.are end in
    subst (AssignmentsShow job origin text c pops stuck) (sym is.are.is) (formula_shows job origin text stuck out shown)

-- and of whatever a job samples
pub subject_shows : (command : Command) (job : Job) (origin : Origin) (text : List ℕ) (s : Subject)
    → IsSubjectOf command (wanted_by job) text s → (c : List ℕ) (pops : ℕ) (stuck : List Event)
    → IsEndOver origin c stuck s → SubjectShows command job origin text c pops stuck s
subject_shows Formula job origin text s is c pops stuck end =
    (assignments_show false job origin text s is c pops stuck end).0
subject_shows Orient job origin text s is c pops stuck end =
    let g : GraphOf = is.graph in
    let over : IsEndOver origin c stuck (orientations g is.are.events) =
    subst (IsEndOver origin c stuck) is.are.is end in
    let j : Instance = instance_of origin (length g.edges) is.are.events in
    let out : List ℕ = end_text (OrientFacts g) j c pops stuck in
    let own : ShowsOriented g j.stacks stuck out =
    orientation_shown g is.are.events j.stacks c pops stuck is.are.touched is.are.of_graph
    (over.size ∙ length-replicate (length g.edges) (1 ∷ 1 ∷ [])) (pair_bits origin (length g.edges) c over.sound)
    over.stuck_list in
    let shown : ShowsOriented (graph_of text) (stacks_by origin (pair_weights (length (graph_of text).edges))) stuck
    out =
    subst (λ (k : GraphOf). ShowsOriented k (stacks_by origin (pair_weights (length k.edges))) stuck out) is.spelled.1
    own in
    subst (SubjectShows Orient job origin text c pops stuck) (sym is.are.is)
    (oriented_shows job origin text stuck out shown)
subject_shows Tree job origin text s is c pops stuck end =
    let g : GraphOf = is.graph in
    let over : IsEndOver origin c stuck (arrows_to (TreeFacts g job.root) g job.root) =
    subst (IsEndOver origin c stuck) is.are.is end in
    let j : Instance = tree_instance origin g job.root in
    let out : List ℕ = end_text (TreeFacts g job.root) j c pops stuck in
    let own : ShowsTreeEnd g job.root j.stacks stuck out =
    tree_shown g job.root j.stacks c pops stuck
    (tree_state (TreeFacts g job.root) origin g job.root c stuck (graph_known text g is.spelled) is.are.root_is
    is.are.joined over) over.stuck_list in
    let shown : ShowsTreeEnd (graph_of text) job.root (stacks_by origin (weights_of_tree (graph_of text) job.root))
    stuck out =
    subst (λ (k : GraphOf). ShowsTreeEnd k job.root (stacks_by origin (weights_of_tree k job.root)) stuck out)
    is.spelled.1 own in
    subst (SubjectShows Tree job origin text c pops stuck) (sym is.are.is) (tree_shows job origin text stuck out shown)
subject_shows Resample job origin text s is c pops stuck end =
    (assignments_show true job origin text s is c pops stuck end).1
subject_shows Make job origin text s is c pops stuck end =
    let g : GraphOf = grid_of job.size in
    let over : IsEndOver origin c stuck (arrows_to (MadeFacts job.size) g 1) =
    subst (IsEndOver origin c stuck) is.is end in
    let j : Instance = tree_instance origin g 1 in
    let out : List ℕ = end_text (MadeFacts job.size) j c pops stuck in
    let shown : ShowsMadeEnd job.size j.stacks stuck out =
    made_shown job.size j.stacks c pops stuck
    (tree_state (MadeFacts job.size) origin g 1 c stuck (grid_is_graph job.size is.side_is)
    (first_vertex job.size is.side_is) (grid_connected job.size is.side_is) over) over.stuck_list in
    subst (SubjectShows Make job origin text c pops stuck) (sym is.is) (made_shows job origin text stuck out shown)
subject_shows Rounds job origin text s is c pops stuck end =
    (assignments_show true job origin text s is c pops stuck end).2
subject_shows command job origin text s is c pops stuck end = absurd is

-- ---- rounds

-- as many cursors as variables at the end of rounds
rounds_size : (i : Instance) (n : ℕ) (c : List ℕ) (stuck : List Event) (short : Option ℕ)
    → IsRoundsEnd i c n stuck short → length c ≡ variables_of i.stacks
rounds_size i n c stuck short end =
    length-rounds i n (start_of i) c end.run ∙ length-replicate (variables_of i.stacks) 0

-- what the text of an end of rounds of a subject shows
abbrev RoundsShow : Job → Origin → List ℕ → List ℕ → ℕ → List Event → Option ℕ → Subject → Type 0
RoundsShow job origin text c rounds stuck short s =
    ShowsEnd Rounds job origin text stuck (rounds_text s.facts (instance_over origin s) c rounds stuck short)

-- of assignments to the formula that a text spells, whose events may clash
rounds_of_assignments : (job : Job) (origin : Origin) (text : List ℕ) (s : Subject) → IsOfCnf (AreAssignments true) text s
    → (c : List ℕ) (rounds : ℕ) (stuck : List Event) (short : Option ℕ) → IsEndOver origin c stuck s
    → RoundsShow job origin text c rounds stuck short s
rounds_of_assignments job origin text s is c rounds stuck short end =
    let f : Cnf = is.formula in
    let j : Instance = instance_of origin f.variables is.are.events in
    let found : List ℕ = findings (FormulaFacts f.variables) j c stuck ++ used_line c in
    let last : List ℕ = short_line (FormulaFacts f.variables) short in
    let out : List ℕ = (found ++ rounds_line rounds) ++ last in
    let whole : ShowsFormula (cnf_of text) (stacks_by origin (pair_weights (cnf_of text).variables)) stuck
    (found ++ (rounds_line rounds ++ last)) =
    formula_end true text f origin s c stuck (rounds_line rounds ++ last) is.spelled is.are end in
    let shown : ShowsFormula (cnf_of text) (stacks_by origin (pair_weights (cnf_of text).variables)) stuck out =
    subst (ShowsFormula (cnf_of text) (stacks_by origin (pair_weights (cnf_of text).variables)) stuck)
    (sym (append_assoc found (rounds_line rounds) last)) whole in
    subst (RoundsShow job origin text c rounds stuck short) (sym is.are.is)
    (formula_shows job origin text stuck out shown).2

-- what the end of rounds shows
pub rounds_show : (job : Job) (ws : List Watcher) (text : List ℕ) (facts : Facts) (i : Instance) (c : List ℕ)
    (rounds : ℕ) (stuck : List Event) (short : Option ℕ) → ComesOf job ws text (Rounded facts i c rounds stuck short)
    → ShowsEnd job.command job (origin_for job) text stuck (rounds_text facts i c rounds stuck short)
rounds_show job ws text facts i c rounds stuck short h =
    let of = rounded_made job ws text facts i c rounds stuck short h in
    let s : Subject = of.made.subject in
    let over = of.made.over in
    let origin : Origin = origin_for job in
    let is : IsOfCnf (AreAssignments true) text s =
    subst (λ k. IsSubjectOf k (wanted_by job) text s) of.by of.made.are in
    let end : IsEndOver origin c stuck s =
    made_over (wanted_by job) text facts i c stuck of.made (rounds_size i rounds c stuck short of.end)
    of.end.stuck_list in
    subst (λ k. ShowsEnd k job origin text stuck (rounds_text facts i c rounds stuck short)) (sym of.by)
    (subst (λ t. ShowsEnd Rounds job origin text stuck (rounds_text t i c rounds stuck short)) (sym over.facts_are)
    (subst (λ k. ShowsEnd Rounds job origin text stuck (rounds_text s.facts k c rounds stuck short))
    (sym over.instance_is) (rounds_of_assignments job origin text s is c rounds stuck short end)))
