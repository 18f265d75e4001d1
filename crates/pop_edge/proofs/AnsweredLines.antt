-- What a reader answers where it stops before the end of the text.
-- A refusal of a line, or of a text that is too long, is the text's; want of memory and a fault of the source are
-- answers of their own. So a reader that passes on what it is told answers what its text demands.
use Rattle.std.proofs.Common.{◌≡◌, ◌⊎◌, inl, inr, ℕ, List, ◌++◌, Option, true, IfErr, IfNone, None, Some, Result, Ok, Err, refl, sym, ap, ◌∙◌, subst}
use Rattle.std.specs.Result.{IsErrAnd}
use Rattle.std.specs.Io.KnownBytes.{Consumes, IsAtEnd}
use Rattle.std.proofs.lemmas.Result.{err_from_is_err_and}
use Rattle.pop_edge.specs.declared.refusal.ReadRefusal.{ReadRefusal}
use Rattle.pop_edge.specs.declared.refusal.ReadRefusal.TheVariants.{Count, EmptyClause, Limit, Malformed, OutOfMemory, ReadFault}
use Rattle.pop_edge.specs.declared.next.Next.{Next}
use Rattle.pop_edge.specs.declared.next.Next.TheVariants.{Line, End}
use Rattle.pop_edge.specs.LineState.{LineState, IsNext, fresh}
use Rattle.pop_edge.specs.Words.{words_of}
use Rattle.pop_edge.specs.Refusals.{IsOfLine}
use Rattle.pop_edge.specs.Judging.{Judgement, IsInOrder, IsUnrefused, StopsEarly, told, told_lines, text_refusal}
use Rattle.pop_edge.proofs.JudgedLines.{IsReading, IsRefused, bad_line, bad_next, fault_next, no_fault, reading_line}

-- what a call says of lines that keep no refusal
next_of : (s t : LineState) (m n : Option (List ℕ)) (r : Result Next ReadRefusal) → s.kept ≡ None
    → IfNone s.kept (IsNext s (fresh t) m n r) → IsNext s (fresh t) m n r
next_of s t m n r kept h = by s.kept kept h
  where
    by : (o : Option ReadRefusal) → o ≡ None → IfNone o (IsNext s (fresh t) m n r) → IsNext s (fresh t) m n r
    by None e h = h
    by (Some x) e h = absurd (cc)

-- what a call says that gave a line
line_of : (s t : LineState) (m n : Option (List ℕ)) (x : Next) → s.kept ≡ None
    → IfNone s.kept (IsNext s (fresh t) m n (Ok x)) → x ≡ Line → IsNext s (fresh t) m n (Ok Line)
line_of s t m n x kept h is =
    subst (λ y. IsNext s (fresh t) m n (Ok y)) is (next_of s t m n (Ok x) kept h)

-- what a call says that gave none: the end
pub end_of : (s t : LineState) (m n : Option (List ℕ)) (x : Next) → s.kept ≡ None
    → IfNone s.kept (IsNext s (fresh t) m n (Ok x)) → (x ≡ Line → ⊥) → IsNext s (fresh t) m n (Ok End)
end_of s t m n x kept h other =
    subst (λ y. IsNext s (fresh t) m n (Ok y)) (by x other) (next_of s t m n (Ok x) kept h)
  where
    by : (y : Next) → (y ≡ Line → ⊥) → y ≡ End
    by Line h = absurd (h refl)
    by End h = refl

-- a refusal that is passed on is the answer
pub passed_on : {T : Type 0} (r : Result T ReadRefusal) (e : ReadRefusal) → IsErrAnd r (λ x. x ≡ e) → r ≡ Err e
passed_on r e h = let p = err_from_is_err_and r h in p.1 ∙ ap (λ x. Err x) p.2

-- the answers that a text allows: its refusal, a fault of the source, and want of memory
pub record Allows (j : Judgement) (text : List ℕ) (P : ReadRefusal → Type 0) : Type 0 where
  pub malformed : (line code : ℕ) → text_refusal j text ≡ Some (Malformed line code) → P (Malformed line code)
  pub limit : (kind line : ℕ) → text_refusal j text ≡ Some (Limit kind line) → P (Limit kind line)
  pub fault : P ReadFault
  pub memory : P OutOfMemory

-- an early answer is one that the text allows
pub early_allowed : (j : Judgement) (text : List ℕ) (P : ReadRefusal → Type 0) (e : ReadRefusal) → Allows j text P
    → StopsEarly j text e → P e
early_allowed j text P e allows (inl fault) = subst P (sym fault) allows.fault
early_allowed j text P e allows (inr (inl memory)) = subst P (sym memory) allows.memory
early_allowed j text P e allows (inr (inr refused)) = by e refused.0 refused.1
  where
    by : (x : ReadRefusal) → IsOfLine x → text_refusal j text ≡ Some x → P x
    by (Malformed line code) kind h = allows.malformed line code h
    by (Limit limit line) kind h = allows.limit limit line h
    by (Count d f) kind h = absurd kind
    by (EmptyClause n) kind h = absurd kind
    by ReadFault kind h = absurd kind
    by OutOfMemory kind h = absurd kind

-- a refusal that is passed on is an early answer where it is one itself
pub stopped : {T : Type 0} (j : Judgement) (left : Option (List ℕ)) (r : Result T ReadRefusal) (e : ReadRefusal) → r ≡ Err e
    → ((text : List ℕ) → left ≡ Some text → StopsEarly j text e)
    → IfErr r (λ x. (text : List ℕ) → left ≡ Some text → StopsEarly j text x)
stopped j left r e is early =
    subst (λ y. IfErr y (λ x. (text : List ℕ) → left ≡ Some text → StopsEarly j text x)) (sym is) early

-- want of memory and the refusal of a line are early answers
early : (j : Judgement) (left : Option (List ℕ)) (text : List ℕ) (e : ReadRefusal) → left ≡ Some text
    → (e ≡ OutOfMemory) ⊎ IsRefused j left e → StopsEarly j text e
early j left text e is (inl memory) = inr (inl memory)
early j left text e is (inr refused) = inr (inr (refused.kind, refused.text text is))

-- where the next line isn't given, the answer is an early one
pub next_early : (j : Judgement) (Knows : List (ℕ × List (List ℕ)) → Type 0) (s t : LineState)
    (l m n : Option (List ℕ)) (text : List ℕ) (e : ReadRefusal)
    → ((lines : List (ℕ × List (List ℕ))) → Knows lines → j.of_lines lines ≡ None) → IsReading j Knows l m s
    → s.kept ≡ None → IfNone s.kept (IsNext s (fresh t) m n (Err e)) → l ≡ Some text → StopsEarly j text e
next_early j Knows s t l m n text e clean reading kept next is =
    by (bad_next j Knows s t l m n e clean reading (next_of s t m n (Err e) kept next))
  where
    by : (e ≡ ReadFault) ⊎ ((e ≡ OutOfMemory) ⊎ IsRefused j l e) → StopsEarly j text e
    by (inl fault) = inl fault
    by (inr other) = early j l text e is other

-- and where it is a fault of the source, what was taken is within the limit, and no line is refused whose end was taken
pub next_at_fault : {T : Type 0} (j : Judgement) (Knows : List (ℕ × List (List ℕ)) → Type 0) (s t : LineState)
    (l m n : Option (List ℕ)) (e : ReadRefusal) (r : Result T ReadRefusal)
    → ((lines : List (ℕ × List (List ℕ))) → Knows lines → j.of_lines lines ≡ None) → IsReading j Knows l m s
    → s.kept ≡ None → IfNone s.kept (IsNext s (fresh t) m n (Err e)) → r ≡ Err e → r ≡ Err ReadFault
    → (taken : List ℕ) × Consumes l n taken × IsUnrefused j taken
next_at_fault {T} j Knows s t l m n e r clean reading kept next from h =
    let same : ◌≡◌ {A = Result T ReadRefusal} (Err e) (Err ReadFault) = sym from ∙ h in
    let fault : e ≡ ReadFault = cc in
    fault_next j Knows s t l m n clean reading
    (subst (λ x. IsNext s (fresh t) m n (Err x)) fault (next_of s t m n (Err e) kept next))

-- a line that is taken is known with those before it
pub line_known : (j : Judgement) (Knows Knows' : List (ℕ × List (List ℕ)) → Type 0) (s t : LineState)
    (l m n : Option (List ℕ)) (line : List ℕ) (number : ℕ) (x : Next) → IsReading j Knows l m s → s.kept ≡ None
    → IfNone s.kept (IsNext s (fresh t) m n (Ok x)) → x ≡ Line → t.kept ≡ None → line ≡ t.line → number ≡ t.number
    → ((lines : List (ℕ × List (List ℕ))) → Knows lines → Knows' (lines ++ told j number (words_of line)))
    → IsReading j Knows' l n t
line_known j Knows Knows' s t l m n line number x reading kept next is fresh_kept same place takes =
    reading_line j Knows Knows' s t l m n line number reading (line_of s t m n x kept next is) fresh_kept same place
    takes

-- where a line is refused, the answer is an early one
pub line_early : (j : Judgement) (Knows : List (ℕ × List (List ℕ)) → Type 0) (s t : LineState)
    (l m n : Option (List ℕ)) (line : List ℕ) (number : ℕ) (x : Next) (text : List ℕ) (e : ReadRefusal) → IsInOrder j
    → IsReading j Knows l m s → s.kept ≡ None → IfNone s.kept (IsNext s (fresh t) m n (Ok x)) → x ≡ Line
    → line ≡ t.line → number ≡ t.number
    → ((lines : List (ℕ × List (List ℕ))) → Knows lines
    → (e ≡ OutOfMemory) ⊎ (j.of_lines (lines ++ told j number (words_of line)) ≡ Some e))
    → (t.ended ≡ true → IsAtEnd n) → l ≡ Some text → StopsEarly j text e
line_early j Knows s t l m n line number x text e order reading kept next is same place takes end text_is =
    early j l text e text_is
    (bad_line j Knows s t l m n line number e order reading (line_of s t m n x kept next is) same place takes end)

-- and it is no fault of the source
pub line_no_fault : {T : Type 0} (j : Judgement) (Knows : List (ℕ × List (List ℕ)) → Type 0) (s : LineState)
    (l m : Option (List ℕ)) (line : List ℕ) (number : ℕ) (e : ReadRefusal) (r : Result T ReadRefusal) → IsInOrder j
    → IsReading j Knows l m s
    → ((lines : List (ℕ × List (List ℕ))) → Knows lines
    → (e ≡ OutOfMemory) ⊎ (j.of_lines (lines ++ told j number (words_of line)) ≡ Some e))
    → r ≡ Err e → r ≡ Err ReadFault → ⊥
line_no_fault {T} j Knows s l m line number e r order reading takes from h =
    let same : ◌≡◌ {A = Result T ReadRefusal} (Err e) (Err ReadFault) = sym from ∙ h in
    let fault : e ≡ ReadFault = cc in
    no_fault j (told_lines j reading.lines ++ told j number (words_of line)) e order
    (takes (told_lines j reading.lines) reading.knows) fault
