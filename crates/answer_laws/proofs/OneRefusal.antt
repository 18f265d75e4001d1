-- An input has at most one error: by its grammar, or for its only formula or graph. It has none if something is made
-- from it, or if its events are found to be extremal.
use Rattle.std.proofs.Common.{inl, inr, ◌≡◌, ◌⊎◌, ℕ, ◌+◌, List, Ok, Err, Some, None, sym, ap, ◌∙◌, subst, Result, true, false, Bool, Option, ap₂}
use Rattle.std.specs.Prelude.{option_map}
use Rattle.std.proofs.lemmas.Option.{none-some, same_Some}
use Rattle.pop_model.specs.Instances.{Instance}
use Rattle.pop_edge.specs.declared.refusal.ReadRefusal.{ReadRefusal}
use Rattle.pop_edge.specs.declared.refusal.ReadRefusal.TheVariants.{EmptyClause, ReadFault, OutOfMemory}
use Rattle.pop_words.specs.declared.command.Command.{Command}
use Rattle.pop_words.specs.declared.command.Command.TheVariants.{Formula, Orient, Tree, Resample, Check, Make, Rounds}
use Rattle.dimacs_read.specs.Cnf.{Cnf, first_empty}
use Rattle.dimacs_read.specs.CnfText.{AnswersCnf, cnf_refusal, cnf_of}
use Rattle.graph_read.specs.Graphs.{GraphOf}
use Rattle.graph_read.specs.GraphText.{AnswersGraph, graph_refusal}
use Rattle.pop_print.specs.declared.facts.Facts.{Facts}
use Rattle.job_subjects.specs.Refused.{IsOfText, IsUnread, IsClashing, RefusesFormula, RefusesOrienting, RefusesTree, RefusesCnf, RefusesGraph, RefusesBy, RefusesText}
use Rattle.job_subjects.specs.Refusals.{unread}
use Rattle.job_subjects.specs.declared.refusal.Refusal.{Refusal}
use Rattle.job_subjects.specs.declared.wanted.Wanted.{Wanted}
use Rattle.job_subjects.specs.Subjects.{Subject, IsSubjectOf}
use Rattle.job_subjects.specs.Made.{IsMade}
use Rattle.top_call.specs.Checks.{IsExtremalText}
use Rattle.answer_laws.proofs.RefusedStacks.{IsOneRefusal, one_or, CanBeRun}
use Rattle.answer_laws.proofs.RefusedSubjects.{one_clash, no_clash, one_formula_refusal, assignments_unrefused, one_orienting_refusal, orientations_unrefused, one_tree_refusal, arrows_unrefused, one_grid_refusal, grid_unrefused}

-- ---- grammars

-- the first refusal of a formula text: in its lines or as a whole, or for an empty clause
abbrev first_refusal : Option ReadRefusal → Option ℕ → Option ReadRefusal
first_refusal (Some r) empty = Some r
first_refusal None empty = option_map (λ k. EmptyClause (k + 1)) empty

cnf_refused : (text : List ℕ) (r : ReadRefusal) → IsOfText r → AnswersCnf text (Err r)
    → first_refusal (cnf_refusal text) (first_empty (cnf_of text)) ≡ Some r
cnf_refused text ReadFault of h = absurd of
cnf_refused text OutOfMemory of h = absurd of
cnf_refused text (EmptyClause n) of (none, (k, n_is, empty)) =
    ap₂ first_refusal none empty ∙ ap (λ m. Some (EmptyClause m)) (sym n_is)
cnf_refused text r of h = ap (λ o. first_refusal o (first_empty (cnf_of text))) h

-- a graph text is refused by its first refusal
graph_refused : (text : List ℕ) (r : ReadRefusal) → IsOfText r → AnswersGraph text (Err r)
    → graph_refusal text ≡ Some r
graph_refused text ReadFault of h = absurd of
graph_refused text OutOfMemory of h = absurd of
graph_refused text r of h = h

-- a grammar refuses in one way what it refuses, and none of what spells something, which is one thing
record IsGrammar {X : Type 0} (Answers : Result X ReadRefusal → Type 0) : Type 0 where
  once : (a b : ReadRefusal) → IsOfText a → IsOfText b → Answers (Err a) → Answers (Err b) → a ≡ b
  apart : (x : X) (a : ReadRefusal) → Answers (Ok x) → IsOfText a → Answers (Err a) → ⊥
  same : (x y : X) → Answers (Ok x) → Answers (Ok y) → x ≡ y

-- so it is where a text has a first refusal, or spells something
first_grammar : {X : Type 0} (Answers : Result X ReadRefusal → Type 0) (first : Option ReadRefusal)
    → ((r : ReadRefusal) → IsOfText r → Answers (Err r) → first ≡ Some r) → ((x : X) → Answers (Ok x) → first ≡ None)
    → ((x y : X) → Answers (Ok x) → Answers (Ok y) → x ≡ y) → IsGrammar Answers
first_grammar Answers first refused none same = record {
  once = λ a b of of' h h'. same_Some a b (sym (refused a of h) ∙ refused b of' h');
  apart = λ x a spelled of h. none-some a (sym (none x spelled) ∙ refused a of h);
  same = same;
}

cnf_grammar : (text : List ℕ) → IsGrammar (AnswersCnf text)
cnf_grammar text =
    first_grammar (AnswersCnf text) (first_refusal (cnf_refusal text) (first_empty (cnf_of text))) (cnf_refused text)
    (λ f spelled. ap₂ first_refusal spelled.0 (ap first_empty (sym spelled.1) ∙ spelled.2))
    (λ f g spelled spelled'. spelled.1 ∙ sym spelled'.1)

graph_grammar : (text : List ℕ) → IsGrammar (AnswersGraph text)
graph_grammar text =
    first_grammar (AnswersGraph text) (graph_refusal text) (graph_refused text) (λ g spelled. spelled.0)
    (λ g h spelled spelled'. spelled.1 ∙ sym spelled'.1)

module _ {X : Type 0} (Answers : Result X ReadRefusal → Type 0) (grammar : IsGrammar Answers)
    (Refuses : X → Refusal → Type 0) where
  -- by the grammar, or for what is spelled
  abbrev RefusesRead : Refusal → Type 0
  RefusesRead r = IsUnread (λ cause. Answers (Err cause)) r ⊎ ((x : X) × Answers (Ok x) × Refuses x r)

  -- a text that spells something isn't refused where this isn't
  read_unrefused : (x : X) (r : Refusal) → Answers (Ok x) → (Refuses x r → ⊥) → RefusesRead r → ⊥
  read_unrefused x r spelled none (inl u) = grammar.apart x u.cause spelled u.of_text u.refused
  read_unrefused x r spelled none (inr (y, spelled', h)) =
      none (subst (λ z. Refuses z r) (grammar.same y x spelled' spelled) h)

  -- and a text is refused in one way where this is
  one_read : ((x : X) → IsOneRefusal (Refuses x)) → IsOneRefusal RefusesRead
  one_read one =
      one_or (IsUnread (λ cause. Answers (Err cause))) (λ r. (x : X) × Answers (Ok x) × Refuses x r)
      (λ r s a b. a.is ∙ ap unread (grammar.once a.cause b.cause a.of_text b.of_text a.refused b.refused) ∙ sym b.is)
      (λ r s a b. one b.0 r s (subst (λ z. Refuses z r) (grammar.same a.0 b.0 a.1 b.1) a.2) b.2)
      (λ r s a b. grammar.apart b.0 a.cause b.1 a.of_text a.refused)

-- ---- texts

-- a text that spells a formula isn't refused where the formula isn't
pub cnf_unrefused : (Refuses : Cnf → Refusal → Type 0) (text : List ℕ) (f : Cnf) (r : Refusal) → AnswersCnf text (Ok f)
    → (Refuses f r → ⊥) → RefusesCnf Refuses text r → ⊥
cnf_unrefused Refuses text = read_unrefused (AnswersCnf text) (cnf_grammar text) Refuses

-- nor is one that spells a graph
pub graph_unrefused : (Refuses : GraphOf → Refusal → Type 0) (text : List ℕ) (g : GraphOf) (r : Refusal)
    → AnswersGraph text (Ok g) → (Refuses g r → ⊥) → RefusesGraph Refuses text r → ⊥
graph_unrefused Refuses text = read_unrefused (AnswersGraph text) (graph_grammar text) Refuses

-- a text is refused in one way where its formula is
one_formula : (may_clash : Bool) (w : Wanted) (text : List ℕ)
    → IsOneRefusal (RefusesCnf (RefusesFormula may_clash w.origin w.count) text)
one_formula may_clash w text =
    one_read (AnswersCnf text) (cnf_grammar text) (RefusesFormula may_clash w.origin w.count)
    (one_formula_refusal may_clash w.origin w.count)

-- so is the text of each command
one_by : (k : Command) (w : Wanted) (text : List ℕ) → IsOneRefusal (RefusesBy k w text)
one_by Formula w text = one_formula false w text
one_by Orient w text =
    one_read (AnswersGraph text) (graph_grammar text) (RefusesOrienting w.origin w.count)
    (one_orienting_refusal w.origin w.count)
one_by Tree w text =
    one_read (AnswersGraph text) (graph_grammar text) (RefusesTree w.origin w.count w.root)
    (one_tree_refusal w.origin w.count w.root)
one_by Resample w text = one_formula true w text
one_by Check w text = one_read (AnswersCnf text) (cnf_grammar text) IsClashing one_clash
one_by Make w text = one_grid_refusal w.origin w.count w.side
one_by Rounds w text = one_formula true w text
one_by k w text = λ r s h h'. absurd h

-- a text is refused in one way
pub one_text_refusal : (w : Wanted) (text : List ℕ) → IsOneRefusal (RefusesText w text)
one_text_refusal w text = one_by w.command w text

-- and not where what a command samples of it can be
pub subject_unrefused : (k : Command) (w : Wanted) (text : List ℕ) (s : Subject) (r : Refusal) → IsSubjectOf k w text s
    → CanBeRun w.origin w.count s → RefusesBy k w text r → ⊥
subject_unrefused Formula w text s r are can h =
    cnf_unrefused (RefusesFormula false w.origin w.count) text are.formula r are.spelled
    (assignments_unrefused false w.origin w.count are.formula s r are.are can) h
subject_unrefused Orient w text s r are can h =
    graph_unrefused (RefusesOrienting w.origin w.count) text are.graph r are.spelled
    (orientations_unrefused w.origin w.count are.graph s r are.are can) h
subject_unrefused Tree w text s r are can h =
    graph_unrefused (RefusesTree w.origin w.count w.root) text are.graph r are.spelled
    (arrows_unrefused w.origin w.count w.root are.graph s r are.are can) h
subject_unrefused Resample w text s r are can h =
    cnf_unrefused (RefusesFormula true w.origin w.count) text are.formula r are.spelled
    (assignments_unrefused true w.origin w.count are.formula s r are.are can) h
subject_unrefused Make w text s r are can h = grid_unrefused w.origin w.count w.side s r are can h
subject_unrefused Rounds w text s r are can h =
    cnf_unrefused (RefusesFormula true w.origin w.count) text are.formula r are.spelled
    (assignments_unrefused true w.origin w.count are.formula s r are.are can) h
subject_unrefused k w text s r are can h = absurd are

-- so it isn't where something is made of it
pub made_unrefused : (w : Wanted) (text : List ℕ) (facts : Facts) (i : Instance) (r : Refusal) → IsMade w text facts i
    → RefusesText w text r → ⊥
made_unrefused w text facts i r made h =
    subject_unrefused w.command w text made.subject r made.are (made.over.sound, made.over.few) h

-- nor where its events are extremal, and it is checked
pub extremal_unrefused : (w : Wanted) (text : List ℕ) (n : ℕ) (r : Refusal) → w.command ≡ Check
    → IsExtremalText text n → RefusesText w text r → ⊥
extremal_unrefused w text n r is h refuses =
    cnf_unrefused IsClashing text h.formula r h.spelled
    (λ clash. no_clash h.formula r clash h.verdict.events h.verdict.of_formula h.verdict.extremal)
    (subst (λ k. RefusesBy k w text r) is refuses)
