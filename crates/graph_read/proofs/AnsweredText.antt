-- What the lines of a text say of the whole is what the reader answers.
-- The grammar judges in the order of the text, so what pop_edge proves of every such grammar holds of it: the refusal
-- of a line given is the text's, and at the end the whole decides. Here that is brought into the words of the answer.
use Rattle.std.proofs.Common.{◌≡◌, ℕ, List, [], ◌∷◌, ◌++◌, Option, None, Some, Result, Ok, Err, sym, ap, ◌∙◌}
use Rattle.pop_edge.specs.declared.refusal.ReadRefusal.{ReadRefusal}
use Rattle.pop_edge.specs.declared.refusal.ReadRefusal.TheVariants.{Malformed, Count, EmptyClause, Limit, ReadFault, OutOfMemory}
use Rattle.pop_edge.specs.Refusals.{MayBeOfLine, or_else, at_line, first_refusal}
use Rattle.pop_edge.specs.Judging.{HasTakenAll, IsInOrder, IsWhole}
use Rattle.pop_edge.proofs.RefusalsLemmas.{first_refusal-append, or_else_front, or_else_is, at_line_is, first_refusal_is}
use Rattle.pop_edge.proofs.AnsweredLines.{Allows}
use Rattle.graph_read.specs.declared.reader.Reader.{Reader}
use Rattle.graph_read.specs.Graphs.{GraphOf}
use Rattle.graph_read.specs.GraphText.{AnswersGraph, graph, graph_in, graph_of, header_fault, edge_fault, line_refusal, vertices_in}
use Rattle.graph_read.specs.Reading.{Finishes, Knows}

-- a refusal among the first lines is the refusal of all
front_refusal : (xs ys : List (ℕ × List (List ℕ))) (e : ReadRefusal) → line_refusal xs ≡ Some e
    → line_refusal (xs ++ ys) ≡ Some e
front_refusal [] ys e h = absurd (cc)
front_refusal (x ∷ xs) ys e h =
    let fault = edge_fault (vertices_in x.1) in
    let header : Option ReadRefusal = at_line x.0 (header_fault x.1) in
    ap (or_else header) (first_refusal-append fault [] xs ys) ∙ or_else_front header (first_refusal fault [] xs) _ e h

-- lines are refused by codes and limits
line_kinds : (xs : List (ℕ × List (List ℕ))) → MayBeOfLine (line_refusal xs)
line_kinds [] = tt
line_kinds (x ∷ xs) =
    or_else_is (at_line x.0 (header_fault x.1)) _ (at_line_is x.0 (header_fault x.1))
    (first_refusal_is (edge_fault (vertices_in x.1)) [] xs)

-- the grammar judges in the order of the text
pub graph_in_order : IsInOrder graph
graph_in_order = record { front = front_refusal; kinds = line_kinds }

-- known lines have no refusal
pub knows_clean : (r : Reader) (lines : List (ℕ × List (List ℕ))) → Knows r lines → line_refusal lines ≡ None
knows_clean r lines k = k.clean

-- the refusal of a line of the text is what the reader is to answer, and so are a fault of the source and want of memory
pub graph_allows : (text : List ℕ) → Allows graph text (λ e. AnswersGraph text (Err e))
graph_allows text = record { malformed = λ line code h. h; limit = λ kind line h. h; fault = tt; memory = tt }

-- at the end of the source the whole is answered
pub answers_whole : (r : Reader) (left : Option (List ℕ)) (line : ℕ) (result : Result GraphOf ReadRefusal) (text : List ℕ)
    → HasTakenAll graph (Knows r) left line → ((lines : List (ℕ × List (List ℕ))) → Knows r lines → Finishes line lines result)
    → left ≡ Some text → AnswersGraph text result
answers_whole r left line result text taken finish is = by result (finish taken.lines taken.knows)
  where
    whole : IsWhole graph text taken.lines line
    whole = taken.whole text is

    spelled : graph_of text ≡ graph_in taken.lines
    spelled = ap graph_in whole.all

    by : (x : Result GraphOf ReadRefusal) → Finishes line taken.lines x → AnswersGraph text x
    by (Ok g) h = (whole.refusal ∙ h.0, h.1 ∙ sym spelled)
    by (Err ReadFault) h = absurd h
    by (Err OutOfMemory) h = tt
    by (Err (Malformed a b)) h = whole.refusal ∙ h
    by (Err (Count a b)) h = whole.refusal ∙ h
    by (Err (EmptyClause a)) h = whole.refusal ∙ h
    by (Err (Limit a b)) h = whole.refusal ∙ h
