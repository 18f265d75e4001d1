-- A text spells a formula or a graph, or it is refused: its first refusal is computed, and is that of a line or of a
-- count.
use Rattle.std.proofs.Common.{inl, inr, ◌≡◌, ◌⊎◌, ℕ, ◌+◌, Bool, true, false, cond, List, [], ◌∷◌, length, Option, None, Some, Ok, Err, refl}
use Rattle.pop_edge.specs.declared.refusal.ReadRefusal.{ReadRefusal}
use Rattle.pop_edge.specs.declared.refusal.ReadRefusal.TheVariants.{Malformed, Count, EmptyClause, Limit}
use Rattle.pop_edge.specs.Lines.{lines_of, judged_lines}
use Rattle.pop_edge.specs.Judging.{told_lines}
use Rattle.pop_edge.specs.Refusals.{MayBeOfLine, or_else, length_refusal}
use Rattle.dimacs_read.specs.Cnf.{Cnf, first_empty}
use Rattle.dimacs_read.specs.CnfText.{cnf, line_refusal, whole_refusal, cnf_refusal, cnf_of, AnswersCnf}
use Rattle.dimacs_read.proofs.AnsweredText.{cnf_in_order}
use Rattle.graph_read.specs.Graphs.{GraphOf}
use Rattle.graph_read.specs.GraphText.{graph, graph_refusal, graph_of, AnswersGraph}
use Rattle.graph_read.proofs.AnsweredText.{graph_in_order}
use Rattle.job_subjects.specs.declared.refusal.Refusal.{Refusal}
use Rattle.job_subjects.specs.Refusals.{unread}
use Rattle.job_subjects.specs.Refused.{IsOfText, IsUnread, RefusesCnf, RefusesGraph}
use Rattle.job_subjects.specs.Subjects.{Subject, IsOfCnf, IsOfGraph}
use Rattle.graph_read.specs.GraphText as graphs

-- the refusal of a line or of a count, or none
abbrev IsPlain : Option ReadRefusal → Type 0
IsPlain None = Unit {0}
IsPlain (Some (Malformed line code)) = Unit {0}
IsPlain (Some (Limit kind line)) = Unit {0}
IsPlain (Some (Count given wanted)) = Unit {0}
IsPlain (Some refusal) = ⊥

-- of two such the first, or else the second
plain_else : (a b : Option ReadRefusal) → IsPlain a → IsPlain b → IsPlain (or_else a b)
plain_else None b is is' = is'
plain_else (Some r) b is is' = is

-- the refusal of a line is such
plain_line : (o : Option ReadRefusal) → MayBeOfLine o → IsPlain o
plain_line None is = tt
plain_line (Some (Malformed line code)) is = tt
plain_line (Some (Limit kind line)) is = tt
plain_line (Some refusal) is = absurd is

-- so is that of the length of a text
plain_if : (t : Bool) (r : ReadRefusal) → IsPlain (Some r) → IsPlain (cond t (Some r) None)
plain_if true r is = is
plain_if false r is = tt

plain_length : (text : List ℕ) → IsPlain (length_refusal text)
plain_length text = plain_if _ (Limit 1 (length (judged_lines text) + 1)) tt

-- and that of the whole
plain_unless : (t : Bool) (r : ReadRefusal) → IsPlain (Some r) → IsPlain (cond t None (Some r))
plain_unless true r is = tt
plain_unless false r is = is

plain_whole : (line : ℕ) (lines : List (ℕ × List (List ℕ))) → IsPlain (whole_refusal line lines)
plain_whole line [] = tt
plain_whole line (header ∷ lines) = plain_unless _ (Count _ _) tt

plain_graph : (line : ℕ) (lines : List (ℕ × List (List ℕ))) → IsPlain (graphs.whole_refusal line lines)
plain_graph line [] = tt
plain_graph line (header ∷ lines) = tt

-- so is the first refusal of a text
cnf_plain : (text : List ℕ) → IsPlain (cnf_refusal text)
cnf_plain text =
    plain_else (line_refusal (told_lines cnf (judged_lines text))) _
    (plain_line _ (cnf_in_order.kinds (told_lines cnf (judged_lines text))))
    (plain_else (length_refusal text) _ (plain_length text)
    (plain_whole (length (lines_of text) + 1) (told_lines cnf (lines_of text))))

graph_plain : (text : List ℕ) → IsPlain (graph_refusal text)
graph_plain text =
    plain_else (graphs.line_refusal (told_lines graph (judged_lines text))) _
    (plain_line _ (graph_in_order.kinds (told_lines graph (judged_lines text))))
    (plain_else (length_refusal text) _ (plain_length text)
    (plain_graph (length (lines_of text) + 1) (told_lines graph (lines_of text))))

-- a text is refused with this cause
abbrev HasCause : (ReadRefusal → Type 0) → Type 0
HasCause Refused = (cause : ReadRefusal) × IsOfText cause × Refused cause

-- what is refused so is unread
pub unread_by : (Refused : ReadRefusal → Type 0) (cause : ReadRefusal) → IsOfText cause → Refused cause
    → IsUnread Refused (unread cause)
unread_by Refused cause of h = record { cause = cause; of_text = of; refused = h; is = refl }

-- a text spells a formula, or has a cause
pub reads_cnf : (text : List ℕ)
    → ((f : Cnf) × AnswersCnf text (Ok f)) ⊎ HasCause (λ cause. AnswersCnf text (Err cause))
reads_cnf text = by (cnf_refusal text) refl (cnf_plain text)
  where
    full : (o : Option ℕ) → cnf_refusal text ≡ None → first_empty (cnf_of text) ≡ o
        → ((f : Cnf) × AnswersCnf text (Ok f)) ⊎ HasCause (λ cause. AnswersCnf text (Err cause))
    full None is none = inl (cnf_of text, (is, refl, none))
    full (Some k) is at = inr (EmptyClause (k + 1), tt, (is, (k, refl, at)))

    by : (o : Option ReadRefusal) → cnf_refusal text ≡ o → IsPlain o
        → ((f : Cnf) × AnswersCnf text (Ok f)) ⊎ HasCause (λ cause. AnswersCnf text (Err cause))
    by None is plain = full (first_empty (cnf_of text)) is refl
    by (Some (Malformed line code)) is plain = inr (Malformed line code, tt, is)
    by (Some (Limit kind line)) is plain = inr (Limit kind line, tt, is)
    by (Some (Count given wanted)) is plain = inr (Count given wanted, tt, is)
    by (Some refusal) is plain = absurd plain

-- and so it is with a graph
pub reads_graph : (text : List ℕ)
    → ((g : GraphOf) × AnswersGraph text (Ok g)) ⊎ HasCause (λ cause. AnswersGraph text (Err cause))
reads_graph text = by (graph_refusal text) refl (graph_plain text)
  where
    by : (o : Option ReadRefusal) → graph_refusal text ≡ o → IsPlain o
        → ((g : GraphOf) × AnswersGraph text (Ok g)) ⊎ HasCause (λ cause. AnswersGraph text (Err cause))
    by None is plain = inl (graph_of text, (is, refl))
    by (Some (Malformed line code)) is plain = inr (Malformed line code, tt, is)
    by (Some (Limit kind line)) is plain = inr (Limit kind line, tt, is)
    by (Some (Count given wanted)) is plain = inr (Count given wanted, tt, is)
    by (Some refusal) is plain = absurd plain

-- something is, or it is refused
abbrev pub IsOrRefused : {S : Type 0} → (S → Type 0) → (Refusal → Type 0) → Type 0
IsOrRefused {S} Is Refuses = ((s : S) × Is s) ⊎ ((refusal : Refusal) × Refuses refusal)

-- what is asked of a formula is asked of the text that spells it
pub of_cnf : (Are : Cnf → Subject → Type 0) (Refuses : Cnf → Refusal → Type 0) (text : List ℕ)
    → ((f : Cnf) → AnswersCnf text (Ok f) → IsOrRefused (Are f) (Refuses f))
    → IsOrRefused (IsOfCnf Are text) (RefusesCnf Refuses text)
of_cnf Are Refuses text each = elim (reads_cnf text) [
  | inr (cause, of, h) ↦
      inr (unread cause, inl (unread_by (λ k. AnswersCnf text (Err k)) cause of h))
  | inl (f, spelled) ↦ elim (each f spelled) [
    | inl (s, are) ↦ inl (s, record { formula = f; spelled = spelled; are = are })
    | inr (refusal, refuses) ↦ inr (refusal, inr (f, spelled, refuses))
  ]
]

-- and so it is with a graph
pub of_graph : (Are : GraphOf → Subject → Type 0) (Refuses : GraphOf → Refusal → Type 0) (text : List ℕ)
    → ((g : GraphOf) → AnswersGraph text (Ok g) → IsOrRefused (Are g) (Refuses g))
    → IsOrRefused (IsOfGraph Are text) (RefusesGraph Refuses text)
of_graph Are Refuses text each = elim (reads_graph text) [
  | inr (cause, of, h) ↦
      inr (unread cause, inl (unread_by (λ k. AnswersGraph text (Err k)) cause of h))
  | inl (g, spelled) ↦ elim (each g spelled) [
    | inl (s, are) ↦ inl (s, record { graph = g; spelled = spelled; are = are })
    | inr (refusal, refuses) ↦ inr (refusal, inr (g, spelled, refuses))
  ]
]
