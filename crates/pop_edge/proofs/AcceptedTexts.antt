-- A text has no refusal exactly where it is short enough, none of its lines is refused, and neither is the whole.
use Rattle.std.proofs.Common.{◌≡◌, ℕ, ◌+◌, ◌≤◌, Bool, true, false, cond, List, length, nat_lt, None, Some, refl, sym, ap, ap₂, ◌∙◌}
use Rattle.std.proofs.lemmas.Bool.{le-ltb, ltb-false}
use Rattle.pop_edge.specs.declared.refusal.ReadRefusal.{ReadRefusal}
use Rattle.pop_edge.specs.Lines.{lines_of, judged_lines, text_limit}
use Rattle.pop_edge.specs.Refusals.{or_else, length_refusal}
use Rattle.pop_edge.specs.Judging.{Judgement, told_lines, text_refusal}
use Rattle.pop_edge.proofs.RefusalsLemmas.{or_else_none}

-- nothing stands against the text
pub record IsAccepted (j : Judgement) (text : List ℕ) : Type 0 where
  pub short : length text ≤ text_limit
  pub lines : j.of_lines (told_lines j (lines_of text)) ≡ None
  pub whole : j.of_whole (length (lines_of text) + 1) (told_lines j (lines_of text)) ≡ None

-- where a refusal isn't made, its cause isn't there
no_refusal : (t : Bool) (r : ReadRefusal) → cond t (Some r) None ≡ None → t ≡ false
no_refusal true r h = absurd (cc)
no_refusal false r h = refl

-- within the limit every line is judged
judged_all : (text : List ℕ) → length text ≤ text_limit → judged_lines text ≡ lines_of text
judged_all text h = let short : nat_lt text_limit (length text) ≡ false = le-ltb text_limit (length text) h in
    rw short refl

-- nothing stands against a text without a refusal
pub accepted : (j : Judgement) (text : List ℕ) → text_refusal j text ≡ None → IsAccepted j text
accepted j text h =
    let first = or_else_none (j.of_lines (told_lines j (judged_lines text))) _ h in
    let second = or_else_none (length_refusal text) _ first.1 in
    let short : length text ≤ text_limit = ltb-false text_limit (length text) (no_refusal _ _ second.0) in
    record {
      short = short;
      lines = ap (λ ls. j.of_lines (told_lines j ls)) (sym (judged_all text short)) ∙ first.0;
      whole = second.1;
    }

-- a text has no refusal where nothing stands against it
pub not_refused : (j : Judgement) (text : List ℕ) → IsAccepted j text → text_refusal j text ≡ None
not_refused j text a =
    let judged : j.of_lines (told_lines j (judged_lines text)) ≡ None =
    ap (λ ls. j.of_lines (told_lines j ls)) (judged_all text a.short) ∙ a.lines in
    let short : nat_lt text_limit (length text) ≡ false = le-ltb text_limit (length text) a.short in
    let fits : length_refusal text ≡ None = rw short refl in
    ap₂ or_else judged (ap₂ or_else fits a.whole)
