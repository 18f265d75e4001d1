-- What the lines of a text say of the whole is what the reader answers.
-- The format judges in the order of the text, so what pop_edge proves of every such grammar holds of it: the refusal of
-- a line given is the text's, and at the end the whole decides. Here that is brought into the words of the answer.
use Rattle.std.proofs.Common.{◌≡◌, inl, inr, ℕ, ◌+◌, List, [], ◌∷◌, ◌++◌, Option, None, Some, Result, Ok, Err, refl, sym, ap, ◌∙◌, append_assoc, append-nil}
use Rattle.std.proofs.lemmas.Bool.{cases_Bool}
use Rattle.pop_edge.specs.declared.refusal.ReadRefusal.{ReadRefusal}
use Rattle.pop_edge.specs.declared.refusal.ReadRefusal.TheVariants.{Malformed, Count, EmptyClause, Limit, ReadFault, OutOfMemory}
use Rattle.pop_edge.specs.Refusals.{MayBeOfLine, or_else, at_line, first_refusal}
use Rattle.pop_edge.specs.Judging.{HasTakenAll, IsInOrder, IsWhole}
use Rattle.pop_edge.proofs.RefusalsLemmas.{first_refusal-append, or_else_front, or_else_is, at_line_is, first_refusal_is}
use Rattle.pop_edge.proofs.AnsweredLines.{Allows}
use Rattle.dimacs_read.specs.declared.reader.Reader.{Reader}
use Rattle.dimacs_read.specs.declared.token.Token.{Token}
use Rattle.dimacs_read.specs.Cnf.{Cnf, first_empty}
use Rattle.dimacs_read.specs.CnfText.{AnswersCnf, body, cnf, cnf_of, formula_in, header_fault, line_refusal, token_fault, variables_in}
use Rattle.dimacs_read.specs.Reading.{Finishes, Knows}
use Rattle.dimacs_read.proofs.TakenLines.{body_no, body_yes, ends, words_at}

-- the words of a front are a front of the words
record IsFrontOf (xs ys : List (ℕ × Option Token)) : Type 0 where
  rest : List (ℕ × Option Token)
  whole : ys ≡ xs ++ rest

-- where more lines follow, the words of the first lines are a front of all words
body_front : (xs ys : List (ℕ × List (List ℕ))) → IsFrontOf (body xs) (body (xs ++ ys))
body_front [] ys = record { rest = body ys; whole = refl }
body_front (x ∷ xs) ys =
    elim (cases_Bool (ends x)) [
      | inl e ↦ record {
        rest = [];
        whole =
            body_no x (xs ++ ys) e ∙ sym (body_no x xs e) ∙ sym (append-nil (body (x ∷ xs)));
      }
      | inr e ↦ (let r = body_front xs ys in
          record {
            rest = r.rest;
            whole = body_yes x (xs ++ ys) e ∙ ap (λ ws. words_at x ++ ws) r.whole
                ∙ sym (append_assoc (words_at x) (body xs) r.rest) ∙ ap (λ ws. ws ++ r.rest) (sym (body_yes x xs e));
          })
    ]

-- a refusal among the first lines is the refusal of all
front_refusal : (xs ys : List (ℕ × List (List ℕ))) (e : ReadRefusal) → line_refusal xs ≡ Some e
    → line_refusal (xs ++ ys) ≡ Some e
front_refusal [] ys e h = absurd (cc)
front_refusal (x ∷ xs) ys e h =
    let front = body_front xs ys in
    let fault = token_fault (variables_in x.1) in
    let header : Option ReadRefusal = at_line x.0 (header_fault x.1) in
    ap (λ ws. or_else header (first_refusal fault [] ws)) front.whole
    ∙ ap (or_else header) (first_refusal-append fault [] (body xs) front.rest)
    ∙ or_else_front header (first_refusal fault [] (body xs)) _ e h

-- lines are refused by codes and limits
line_kinds : (xs : List (ℕ × List (List ℕ))) → MayBeOfLine (line_refusal xs)
line_kinds [] = tt
line_kinds (x ∷ xs) =
    or_else_is (at_line x.0 (header_fault x.1)) _ (at_line_is x.0 (header_fault x.1))
    (first_refusal_is (token_fault (variables_in x.1)) [] (body xs))

-- the format judges in the order of the text
pub cnf_in_order : IsInOrder cnf
cnf_in_order = record { front = front_refusal; kinds = line_kinds }

-- known lines have no refusal
pub knows_clean : (r : Reader) (lines : List (ℕ × List (List ℕ))) → Knows r lines → line_refusal lines ≡ None
knows_clean r [] k = refl
knows_clean r (x ∷ xs) k = k.clean

-- the refusal of a line of the text is what the reader is to answer, and so are a fault of the source and want of memory
pub cnf_allows : (text : List ℕ) → Allows cnf text (λ e. AnswersCnf text (Err e))
cnf_allows text = record { malformed = λ line code h. h; limit = λ kind line h. h; fault = tt; memory = tt }

-- at the end of the source the whole is answered
pub answers_whole : (r : Reader) (left : Option (List ℕ)) (line : ℕ) (result : Result Cnf ReadRefusal) (text : List ℕ)
    → HasTakenAll cnf (Knows r) left line → ((lines : List (ℕ × List (List ℕ))) → Knows r lines → Finishes line lines result)
    → left ≡ Some text → AnswersCnf text result
answers_whole r left line result text taken finish is = by result (finish taken.lines taken.knows)
  where
    whole : IsWhole cnf text taken.lines line
    whole = taken.whole text is

    formula : cnf_of text ≡ formula_in taken.lines
    formula = ap formula_in whole.all

    by : (x : Result Cnf ReadRefusal) → Finishes line taken.lines x → AnswersCnf text x
    by (Ok f) h = (whole.refusal ∙ h.0, h.1 ∙ sym formula, h.2)
    by (Err (EmptyClause k)) h = (whole.refusal ∙ h.0, (h.1.0, h.1.1, ap first_empty formula ∙ h.1.2))
    by (Err OutOfMemory) h = tt
    by (Err ReadFault) h = tt
    by (Err (Malformed a b)) h = whole.refusal ∙ h
    by (Err (Count a b)) h = whole.refusal ∙ h
    by (Err (Limit a b)) h = whole.refusal ∙ h
