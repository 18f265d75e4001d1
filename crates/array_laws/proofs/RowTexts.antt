-- An answer to words that ask for a batch is the batch of what its text spells; so its texts tell the rows of arrays.
use Rattle.std.proofs.Common.{◌≡◌, ◌⊎◌, ℕ, ◌+◌, List, [], Contains, refl, sym, ap, ap₂, subst, ◌∙◌, arith}
use Rattle.rand_chacha.specs.ChaCha.{key_of}
use Rattle.pop_model.specs.Extremal.{IsExtremal}
use Rattle.pop_model.specs.Instances.{Instance}
use Rattle.pop_model.specs.Stacks.{Origin}
use Rattle.pop_model.specs.Stacks.Origin.{Keyed}
use Rattle.graph_read.specs.Ends.{graph_in}
use Rattle.graph_read.specs.Graphs.{GraphOf, IsVertex}
use Rattle.confluence_core.specs.declared.end.End.{End}
use Rattle.pop_batch.specs.Batches.{AreEnds, IsSampleEnd}
use Rattle.pop_words.specs.declared.command.Command.{Command}
use Rattle.pop_words.specs.declared.command.Command.TheVariants.{Orient, Tree}
use Rattle.pop_words.specs.declared.job.Job.{Job}
use Rattle.pop_words.specs.Options.{quiet}
use Rattle.pop_watch.specs.Telling.{Watcher}
use Rattle.pop_print.specs.declared.facts.Facts.{Facts}
use Rattle.pop_print.specs.declared.facts.Facts.TheVariants.{Orient as OrientFacts, Tree as TreeFacts}
use Rattle.pop_print.specs.Batches.{batch_text}
use Rattle.job_subjects.specs.Subjects.{AreOrientations, IsSubjectOf, Subject, arrows_to, instance_over, orientations}
use Rattle.told_runs.specs.Outcomes.{text_of}
use Rattle.top_call.specs.Answers.{IsAnswer, origin_for, wanted_by}
use Rattle.array_calls.specs.Trees.{trees_under}
use Rattle.answer_laws.proofs.BatchFront.{IsBatch, is_batch}
use Rattle.answer_laws.proofs.KeyAnswers.{keyed_origin}
use Rattle.answer_laws.proofs.OneOutcome.{line_comes}
use Rattle.answer_laws.proofs.OneSubject.{one_sinks}
use Rattle.answer_laws.proofs.SubjectKinds.{graph_known}
use Rattle.answer_laws.proofs.ToldSubjects.{ordered_extremal, quiet_line}
use Rattle.array_laws.specs.BatchTexts.{AskForBatch}
use Rattle.array_laws.specs.PrintedRows.{OrientationRowsPrinted, TreeRowsPrinted}
use Rattle.array_laws.proofs.BatchTexts.{AreSampleTexts, batch_texts, text_at}
use Rattle.array_laws.proofs.OrientationTexts.{orientation_told}
use Rattle.array_laws.proofs.TreeTexts.{tree_told}

-- an output that has the texts of the samples of what was made of a text
pub record AreTextsOf (job : Job) (key text : List ℕ) (height count : ℕ) (out : List ℕ) : Type 0 where
  pub subject : Subject
  pub is : IsSubjectOf job.command (wanted_by job) text subject
  pub texts : AreSampleTexts subject.facts (instance_over (Keyed (key_of key) 0 height) subject) count out

-- so is an answer that is no refusal
pub answer_texts : (words : List (List ℕ)) (ws : List Watcher) (text out key : List ℕ) (height count status : ℕ)
    (command : Command) (asked : AskForBatch words command key height count) → Contains quiet asked.job.command
    → IsAnswer words ws text status out → (status ≡ 0) ⊎ (status ≡ 1)
    → AreTextsOf asked.job key text height count out
answer_texts words ws text out key height count status command asked has (o, h, tells) low =
    let job : Job = asked.job in
    let batch : IsBatch job text count o =
    is_batch words job asked.asks count asked.count_is ws text o
    (line_comes words job ws text o asked.asks (quiet_line job.command has) h)
    (subst (λ n. (n ≡ 0) ⊎ (n ≡ 1)) tells.status_is low) in
    let s : Subject = batch.of.subject in
    let ends : List End = batch.ends in
    let i : Instance = instance_over (Keyed (key_of key) 0 height) s in
    let origin : origin_for job ≡ Keyed (key_of key) 0 height =
    keyed_origin job key asked.key_is ∙ ap (λ (h : ℕ). Keyed (key_of key) 0 h) asked.height_is in
    let extremal : IsExtremal i.family =
    ordered_extremal job.command (wanted_by job) text s batch.of.ordered batch.of.is in
    let are : AreEnds i count ends =
    subst (λ (q : Origin). AreEnds (instance_over q s) count ends) origin
    (subst (λ (n : ℕ). AreEnds (instance_over (origin_for job) s) n ends) batch.size batch.of.batch.are) in
    let out_is : out ≡ batch_text s.facts i ends =
    tells.out_is ∙ ap text_of batch.told
    ∙ ap₂ (λ (f : Facts) (k : Instance). batch_text f k ends) batch.of.facts_are
    (batch.of.instance_is ∙ ap (λ q. instance_over q s) origin) in
    record {
      subject = s;
      is = batch.of.is;
      texts = subst (AreSampleTexts s.facts i count) (sym out_is) (batch_texts s.facts i count ends extremal are);
    }

-- the law of trees
pub tree_rows_printed : TreeRowsPrinted
tree_rows_printed words ws text out n ends weights key root height count status asked at spelled answer low =
    let g : GraphOf = graph_in n ends weights in
    let job : Job = asked.job in
    let has : Contains quiet job.command = subst (Contains quiet) (sym asked.command_is) quiet_tree in
    let of = answer_texts words ws text out key height count status Tree asked has answer low in
    let is : IsSubjectOf Tree (wanted_by job) text of.subject =
    subst (λ k. IsSubjectOf k (wanted_by job) text of.subject) asked.command_is of.is in
    let same : is.graph ≡ g = is.spelled.1 ∙ sym spelled.1 in
    let subject_is : of.subject ≡ arrows_to (TreeFacts g (root + 1)) g (root + 1) =
    is.are.is ∙ ap₂ (λ (h : GraphOf) (r : ℕ). arrows_to (TreeFacts h r) h r) same at in
    let root_is : IsVertex g.vertices (root + 1) =
    subst (λ (r : ℕ). IsVertex g.vertices r) at (subst (λ (h : GraphOf). IsVertex h.vertices job.root) same is.are.root_is) in
    let texts : AreSampleTexts (TreeFacts g (root + 1)) (trees_under key height g (root + 1)) count out =
    subst (λ (s : Subject). AreSampleTexts s.facts (instance_over (Keyed (key_of key) 0 height) s) count out) subject_is
    of.texts in (
      texts.texts,
      texts.size,
      texts.out_is,
      λ first j parents edges useds counts told found some_edges some_useds row.
          tree_told g (graph_known text g spelled) (root + 1) root_is key height first j parents edges useds counts row
          some_edges some_useds told (texts.each (first + j) told row.end found row.of_sample),
    )
  where
    quiet_tree : Contains quiet Tree
    quiet_tree = (2, omega arith, refl)

-- the law of orientations
pub orientation_rows_printed : OrientationRowsPrinted
orientation_rows_printed words ws text out n ends key height count status asked spelled answer low =
    let g : GraphOf = graph_in n ends [] in
    let job : Job = asked.job in
    let has : Contains quiet job.command = subst (Contains quiet) (sym asked.command_is) quiet_orient in
    let of = answer_texts words ws text out key height count status Orient asked has answer low in
    let is : IsSubjectOf Orient (wanted_by job) text of.subject =
    subst (λ k. IsSubjectOf k (wanted_by job) text of.subject) asked.command_is of.is in
    let same : is.graph ≡ g = is.spelled.1 ∙ sym spelled.1 in
    let are : AreOrientations g of.subject = subst (λ (h : GraphOf). AreOrientations h of.subject) same is.are in
    let s : Subject = orientations g are.events in
    let texts : AreSampleTexts (OrientFacts g) (instance_over (Keyed (key_of key) 0 height) s) count out =
    subst (λ (s : Subject). AreSampleTexts s.facts (instance_over (Keyed (key_of key) 0 height) s) count out) are.is
    of.texts in (
      texts.texts,
      texts.size,
      texts.out_is,
      λ i first j directions useds counts told sinks found some row.
          let here : instance_over (Keyed (key_of key) 0 height) s ≡ i =
          ap (λ events. instance_over (Keyed (key_of key) 0 height) (orientations g events))
          (one_sinks g are.events sinks.events are.of_graph sinks.of_graph)
          ∙ sym sinks.is in
          orientation_told g key height i sinks first j directions useds counts row some told
          (subst (λ (k : Instance). told ≡ text_at (OrientFacts g) k (first + j) row.end) here
          (texts.each (first + j) told row.end found
          (subst (λ (k : Instance). IsSampleEnd k (first + j) row.end) (sym here) row.of_sample))),
    )
  where
    quiet_orient : Contains quiet Orient
    quiet_orient = (1, omega arith, refl)
