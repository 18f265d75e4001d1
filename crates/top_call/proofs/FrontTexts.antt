-- An input that is longer than the limit has the same error as its prefix up to the first byte too many. So the
-- outcome for the bytes that were read from a source is that for all of its bytes.
use Rattle.std.proofs.Common.{inl, inr, ◌≡◌, ◌≢◌, ◌⊎◌, ◌≤◌, ◌<◌, ℕ, ◌+◌, true, false, List, ◌++◌, length, take, nat_lt, Option, None, Some, Result, Ok, Err, IfOk, refl, sym, ap, ap₂, subst, ◌∙◌, arith, Contains}
use Rattle.std.specs.Io.KnownBytes.{IsAtEnd}
use Rattle.std.proofs.lemmas.Bool.{lt-ltb, false≢true}
use Rattle.std.proofs.lemmas.List.{take-append-le, length-append}
use Rattle.std.proofs.lemmas.Result.{IfOk-weaker}
use Rattle.pop_edge.specs.declared.refusal.ReadRefusal.{ReadRefusal}
use Rattle.pop_edge.specs.declared.refusal.ReadRefusal.TheVariants.{EmptyClause, Limit, ReadFault, OutOfMemory}
use Rattle.pop_edge.specs.Lines.{text_limit, lines_of, ended_lines, judged_lines}
use Rattle.pop_edge.specs.Refusals.{or_else, length_refusal}
use Rattle.pop_edge.specs.Judging.{Judgement, told_lines, text_refusal}
use Rattle.pop_edge.proofs.AcceptedTexts.{accepted}
use Rattle.dimacs_read.specs.Cnf.{Cnf}
use Rattle.dimacs_read.specs.CnfText.{cnf, AnswersCnf}
use Rattle.graph_read.specs.Graphs.{GraphOf}
use Rattle.graph_read.specs.GraphText.{graph, AnswersGraph}
use Rattle.pop_words.specs.declared.command.Command.{Command}
use Rattle.pop_words.specs.declared.command.Command.TheVariants.{Formula, Orient, Tree, Resample, Make}
use Rattle.pop_words.specs.declared.job.Job.{Job}
use Rattle.pop_words.specs.Options.{paused}
use Rattle.pop_watch.specs.Telling.{Watcher}
use Rattle.job_subjects.specs.declared.answer.Answer.{Answer}
use Rattle.job_subjects.specs.declared.refusal.Refusal.{Refusal}
use Rattle.top_call.specs.Whole.{IsReadTo}
use Rattle.told_runs.specs.Outcomes.{Outcome, HasRun}
use Rattle.told_runs.specs.Results.{IsResultOf}
use Rattle.job_subjects.specs.declared.wanted.Wanted.{Wanted}
use Rattle.job_subjects.specs.Refused.{IsOfText, IsUnread, RefusesFormula, RefusesOrienting, RefusesTree, RefusesCnf, RefusesGraph, RefusesBy}
use Rattle.top_call.specs.Answers.{wanted_by, ComesOf}
use Rattle.top_call.proofs.Carrying.{carried}
use Rattle.job_subjects.proofs.MadeExtremal.{made_short}
use Rattle.top_call.proofs.ReadCases.{read_cases}
use Rattle.top_call.proofs.PauseWords.{is_paused, paused_is}
use Rattle.top_call.proofs.ReadToEnd.{of_read}

-- what stands against a text past the limit
long_refusal : (j : Judgement) (text : List ℕ) → text_limit < length text
    → text_refusal j text ≡ or_else (j.of_lines (told_lines j (ended_lines (take text_limit text))))
    (Some (Limit 1 (length (ended_lines (take text_limit text)) + 1)))
long_refusal j text long =
    let test : nat_lt text_limit (length text) ≡ true = lt-ltb text_limit (length text) long in
    let judged : judged_lines text ≡ ended_lines (take text_limit text) = rw test refl in
    let past : length_refusal text ≡ Some (Limit 1 (length (judged_lines text) + 1)) = rw test refl in
    let rest : Option ReadRefusal = j.of_whole (length (lines_of text) + 1) (told_lines j (lines_of text)) in
    ap₂ or_else (ap (λ ls. j.of_lines (told_lines j ls)) judged)
    (ap (λ (r : Option ReadRefusal). or_else r rest) past ∙ ap (λ (ls : List (List ℕ)). Some (Limit 1 (length ls + 1))) judged)

-- it stands against its front
same_long : (j : Judgement) (front rest : List ℕ) → text_limit < length front
    → text_refusal j (front ++ rest) ≡ text_refusal j front
same_long j front rest long =
    let size : length (front ++ rest) ≡ length front + length rest = length-append front rest in
    let same : take text_limit (front ++ rest) ≡ take text_limit front =
    take-append-le text_limit front rest (omega (arith, long)) in
    long_refusal j (front ++ rest) (omega (arith, long, size))
    ∙ ap (λ (bytes : List ℕ). or_else (j.of_lines (told_lines j (ended_lines bytes)))
    (Some (Limit 1 (length (ended_lines bytes) + 1)))) same
    ∙ sym (long_refusal j front long)

-- such a text spells nothing
not_long : (j : Judgement) (text : List ℕ) → text_refusal j text ≡ None → text_limit < length text → ⊥
not_long j text none long = let short = (accepted j text none).short in absurd (omega (arith, short, long))

-- a refusal of the front is one of the text
cnf_more : (front rest : List ℕ) → text_limit < length front → (r : ReadRefusal) → IsOfText r → AnswersCnf front (Err r)
    → AnswersCnf (front ++ rest) (Err r)
cnf_more front rest long (EmptyClause n) of h = absurd (not_long cnf front h.0 long)
cnf_more front rest long ReadFault of h = absurd of
cnf_more front rest long OutOfMemory of h = absurd of
cnf_more front rest long r of h = same_long cnf front rest long ∙ h

graph_more : (front rest : List ℕ) → text_limit < length front → (r : ReadRefusal) → IsOfText r
    → AnswersGraph front (Err r) → AnswersGraph (front ++ rest) (Err r)
graph_more front rest long ReadFault of h = absurd of
graph_more front rest long OutOfMemory of h = absurd of
graph_more front rest long r of h = same_long graph front rest long ∙ h

-- what refuses what the front spells does so of nothing, since it spells none
spells_more : {X : Type 0} (Answers : List ℕ → Result X ReadRefusal → Type 0) (Refuses : X → Refusal → Type 0)
    (front text : List ℕ) → ((r : ReadRefusal) → IsOfText r → Answers front (Err r) → Answers text (Err r))
    → ((x : X) → Answers front (Ok x) → ⊥) → (r : Refusal)
    → IsUnread (λ cause. Answers front (Err cause)) r ⊎ ((x : X) × Answers front (Ok x) × Refuses x r)
    → IsUnread (λ cause. Answers text (Err cause)) r ⊎ ((x : X) × Answers text (Ok x) × Refuses x r)
spells_more Answers Refuses front text more none r (inl u) =
    inl (record { cause = u.cause; of_text = u.of_text; refused = more u.cause u.of_text u.refused; is = u.is })
spells_more Answers Refuses front text more none r (inr (x, spelled, h)) = absurd (none x spelled)

refuses_cnf_more : (Refuses : Cnf → Refusal → Type 0) (front rest : List ℕ) → text_limit < length front
    → (r : Refusal) → RefusesCnf Refuses front r → RefusesCnf Refuses (front ++ rest) r
refuses_cnf_more Refuses front rest long =
    spells_more AnswersCnf Refuses front (front ++ rest) (cnf_more front rest long)
    (λ f spelled. not_long cnf front spelled.0 long)

refuses_graph_more : (Refuses : GraphOf → Refusal → Type 0) (front rest : List ℕ) → text_limit < length front
    → (r : Refusal) → RefusesGraph Refuses front r → RefusesGraph Refuses (front ++ rest) r
refuses_graph_more Refuses front rest long =
    spells_more AnswersGraph Refuses front (front ++ rest) (graph_more front rest long)
    (λ g spelled. not_long graph front spelled.0 long)

-- by each command whose run may stop
refuses_more : (k : Command) → is_paused k ≡ true → (w : Wanted) (front rest : List ℕ) → text_limit < length front
    → (r : Refusal) → RefusesBy k w front r → RefusesBy k w (front ++ rest) r
refuses_more Formula is w front rest long r h =
    refuses_cnf_more (RefusesFormula false w.origin w.count) front rest long r h
refuses_more Orient is w front rest long r h =
    refuses_graph_more (RefusesOrienting w.origin w.count) front rest long r h
refuses_more Tree is w front rest long r h =
    refuses_graph_more (RefusesTree w.origin w.count w.root) front rest long r h
refuses_more Resample is w front rest long r h =
    refuses_cnf_more (RefusesFormula true w.origin w.count) front rest long r h
refuses_more k is w front rest long r h = absurd (false≢true is)

-- so what comes of the front comes of the text
front_comes : (job : Job) (ws : List Watcher) (front rest : List ℕ) → is_paused job.command ≡ true
    → text_limit < length front → (o : Outcome) → ComesOf job ws front o → ComesOf job ws (front ++ rest) o
front_comes job ws front rest is long o h = elim (read_cases job ws front o h) [
  | inl (r, o_is, refused) ↦
      subst (ComesOf job ws (front ++ rest)) (sym o_is)
      (refuses_more job.command is (wanted_by job) front rest long r refused)
  | inr (inl (n, o_is, check, verdict)) ↦ absurd (false≢true (sym (ap is_paused check) ∙ is))
  | inr (inr run) ↦
      let reads : job.command ≢ Make = λ make. false≢true (sym (ap is_paused make) ∙ is) in
      let short = made_short (wanted_by job) front run.facts run.instance reads run.made in
      absurd (omega (arith, short, long))
]

-- so the result to the bytes that were read of a source is that to all that it has
pub whole_result : (left left' : Option (List ℕ)) (job : Job) (ws : List Watcher) (text bytes input : List ℕ)
    (r : Result Answer Refusal) → left ≡ Some text → IsReadTo text_limit left left' bytes → input ≡ bytes
    → Contains paused job.command → IsResultOf (ComesOf job ws input) r → IsResultOf (ComesOf job ws text) r
whole_result left left' job ws text bytes input r known read same has comes =
    let own : IsResultOf (ComesOf job ws bytes) r = subst (λ b. IsResultOf (ComesOf job ws b) r) same comes in
    of_read (λ t. IsResultOf (ComesOf job ws t) r) text_limit left left' text bytes known read
    (λ rest long. carried (ComesOf job ws bytes) (ComesOf job ws (bytes ++ rest)) r
    (front_comes job ws bytes rest (paused_is job.command has) long) own) own

-- and with the status of a run the source is at its end
pub whole_end : (left left' : Option (List ℕ)) (bytes input : List ℕ) (r : Result Answer Refusal)
    → IsReadTo text_limit left left' bytes → input ≡ bytes
    → IfOk r (λ a. HasRun a.status → length input ≤ text_limit) → IfOk r (λ a. HasRun a.status → IsAtEnd left')
whole_end left left' bytes input r read same short =
    IfOk-weaker r _ _ (λ a few has. read.whole (subst (λ (l : List ℕ). length l ≤ text_limit) same (few has))) short
