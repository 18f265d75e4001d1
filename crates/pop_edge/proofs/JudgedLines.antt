-- The lines given are judged as the whole text is.
-- As lines are given one by one, a reader knows those that aren't passed over, and that none is refused. The lines
-- given are always a front of the text's judged lines, whatever bytes are still to come. So a refusal of the lines
-- given is the text's. Where the limit of bytes was passed they are all judged lines, and at the end they are all
-- lines: then the text's refusal is that of its length, or that of the whole.
use Rattle.std.proofs.Common.{◌≡◌, ◌⊎◌, inl, inr, ℕ, ◌+◌, Bool, true, false, cond, not, List, [], ◌∷◌, ◌++◌, length, map, take, filter, nat_lt, Option, None, Some, Ok, Err, refl, sym, ap, ap₂, ◌∙◌, subst, arith, append-nil, length-append}
use Rattle.std.specs.List.{enumerate_from}
use Rattle.std.specs.Io.KnownBytes.{Consumes, IsAtEnd}
use Rattle.std.proofs.KnownBytes.{Consumes-trans}
use Rattle.std.proofs.lemmas.List.{map-append, take-append-le}
use Rattle.std.proofs.lemmas.List.Elements.{filter-append}
use Rattle.std.proofs.lemmas.Bool.{lt-ltb, le-ltb}
use Rattle.pop_edge.specs.declared.refusal.ReadRefusal.{ReadRefusal}
use Rattle.pop_edge.specs.declared.refusal.ReadRefusal.TheVariants.{Malformed, Count, EmptyClause, Limit, ReadFault, OutOfMemory}
use Rattle.pop_edge.specs.declared.next.Next.TheVariants.{Line, End}
use Rattle.pop_edge.specs.Lines.{lines_of, ended_lines, judged_lines, text_limit}
use Rattle.pop_edge.specs.Words.{words_of}
use Rattle.pop_edge.specs.LineState.{LineState, Follows, IsNext, fresh}
use Rattle.pop_edge.specs.Refusals.{IsOfLine, MayBeOfLine, or_else, length_refusal}
use Rattle.pop_edge.specs.Judging.{Judgement, IsInOrder, IsUnrefused, IsWhole, told, told_lines, text_refusal}
use Rattle.pop_edge.proofs.GivenLines.{follows_line, all_given, past_limit, at_fault, judged_front, IsFront, IsAll, IsPast}

-- places, of a list behind another
pub enumerate-append : {X : Type 0} (n : ℕ) (xs ys : List X)
    → enumerate_from n (xs ++ ys) ≡ enumerate_from n xs ++ enumerate_from (n + length xs) ys
enumerate-append n [] ys = ap (λ k. enumerate_from k ys) (let e : n ≡ n + 0 = omega arith in e)
enumerate-append n (x ∷ xs) ys =
    let e : n + 1 + length xs ≡ n + length (x ∷ xs) = omega arith in
    ap (λ zs. (n, x) ∷ zs)
    (enumerate-append (n + 1) xs ys ∙ ap (λ k. enumerate_from (n + 1) xs ++ enumerate_from k ys) e)

-- the lines that aren't passed over, of which the first has the number n
abbrev told_from : Judgement → ℕ → List (List ℕ) → List (ℕ × List (List ℕ))
told_from j n lines =
    filter (λ line. not (j.passes_over line.1)) (map (λ line. (line.0, words_of line.1)) (enumerate_from n lines))

-- of lines behind one another
pub told_lines-append : (j : Judgement) (xs ys : List (List ℕ))
    → told_lines j (xs ++ ys) ≡ told_lines j xs ++ told_from j (1 + length xs) ys
told_lines-append j xs ys =
    let keeps : ℕ × List (List ℕ) → Bool = λ line. not (j.passes_over line.1) in
    let by_words : ℕ × List ℕ → ℕ × List (List ℕ) = λ line. (line.0, words_of line.1) in
    ap (λ zs. filter keeps (map by_words zs)) (enumerate-append 1 xs ys)
    ∙ ap (filter keeps) (map-append by_words (enumerate_from 1 xs) (enumerate_from (1 + length xs) ys))
    ∙ filter-append keeps (map by_words (enumerate_from 1 xs)) (map by_words (enumerate_from (1 + length xs) ys))

-- one line is told by its words, where it isn't passed over
told_one : (j : Judgement) (n : ℕ) (line : List ℕ) → told_from j n (line ∷ []) ≡ told j n (words_of line)
told_one j n line = by (j.passes_over (words_of line))
  where
    by : (b : Bool) → cond {A = List (ℕ × List (List ℕ))} (not b) ((n, words_of line) ∷ []) []
        ≡ cond {A = List (ℕ × List (List ℕ))} b [] ((n, words_of line) ∷ [])
    by true = refl
    by false = refl

-- with a line more
pub told_lines_more : (j : Judgement) (xs : List (List ℕ)) (line : List ℕ) (n : ℕ) → n ≡ length xs + 1
    → told_lines j (xs ++ line ∷ []) ≡ told_lines j xs ++ told j n (words_of line)
told_lines_more j xs line n e =
    let place : 1 + length xs ≡ n = omega arith in
    told_lines-append j xs (line ∷ [])
    ∙ ap (λ zs. told_lines j xs ++ zs) (ap (λ m. told_from j m (line ∷ [])) place ∙ told_one j n line)

-- the lines so far are those of the bytes taken so far, and of those that aren't passed over something is known
pub record IsReading (j : Judgement) (Knows : List (ℕ × List (List ℕ)) → Type 0) (left left' : Option (List ℕ))
    (s : LineState)
    : Type 0 where
  pub bytes : List ℕ
  pub lines : List (List ℕ)
  pub consumed : Consumes left left' bytes
  pub follows : Follows s bytes lines
  pub knows : Knows (told_lines j lines)

-- with another kept refusal the state stands as it stood
follows_fresh : (s : LineState) (bytes : List ℕ) (lines : List (List ℕ)) → s.kept ≡ None → Follows (fresh s) bytes lines
    → Follows s bytes lines
follows_fresh s bytes lines e f = subst (λ k. Follows (record s { kept = k }) bytes lines) (sym e) f

-- the text that was given is what was taken and what is left
given : (l n : Option (List ℕ)) (bytes text : List ℕ) → Consumes l n bytes → l ≡ Some text
    → (more : List ℕ) × (n ≡ Some more) × (text ≡ bytes ++ more)
given None n bytes text c e = absurd (cc)
given (Some x) None bytes text c e = absurd c
given (Some x) (Some y) bytes text c e = let same : x ≡ text = cc in (y, refl, sym same ∙ c)

-- a line more
pub reading_line : (j : Judgement) (Knows Knows' : List (ℕ × List (List ℕ)) → Type 0) (s t : LineState)
    (l m n : Option (List ℕ)) (line : List ℕ) (number : ℕ) → IsReading j Knows l m s → IsNext s (fresh t) m n (Ok Line)
    → t.kept ≡ None → line ≡ t.line → number ≡ t.number
    → ((lines : List (ℕ × List (List ℕ))) → Knows lines → Knows' (lines ++ told j number (words_of line)))
    → IsReading j Knows' l n t
reading_line j Knows Knows' s t l m n line number i next kept same place takes =
    let f : Follows (fresh t) (i.bytes ++ next.taken) (i.lines ++ t.line ∷ []) =
    follows_line s (fresh t) m n i.bytes i.lines i.follows next in
    let size : number ≡ length i.lines + 1 = omega (arith, place, f.number, length-append i.lines (t.line ∷ [])) in
    record {
      bytes = i.bytes ++ next.taken;
      lines = i.lines ++ line ∷ [];
      consumed = Consumes-trans l m n i.bytes next.taken i.consumed next.takes.consumed;
      follows =
          follows_fresh t (i.bytes ++ next.taken) (i.lines ++ line ∷ []) kept
          (subst (λ x. Follows (fresh t) (i.bytes ++ next.taken) (i.lines ++ x ∷ [])) (sym same) f);
      knows = subst Knows' (sym (told_lines_more j i.lines line number size)) (takes (told_lines j i.lines) i.knows);
    }

-- a refusal of judged lines is the text's
of_judged : (j : Judgement) (text : List ℕ) (e : ReadRefusal) → j.of_lines (told_lines j (judged_lines text)) ≡ Some e
    → text_refusal j text ≡ Some e
of_judged j text e h =
    ap (λ a. or_else a (or_else (length_refusal text)
    (j.of_whole (length (lines_of text) + 1) (told_lines j (lines_of text))))) h

-- the refusal is that of any text that the source had
pub record IsRefused (j : Judgement) (left : Option (List ℕ)) (e : ReadRefusal) : Type 0 where
  pub kind : IsOfLine e
  pub text : (text : List ℕ) → left ≡ Some text → text_refusal j text ≡ Some e

-- the lines given, with one more, are a front of the text's judged lines
given_front : (s t : LineState) (l m n : Option (List ℕ)) (bytes : List ℕ) (lines : List (List ℕ)) (text : List ℕ)
    → Consumes l m bytes → Follows s bytes lines → IsNext s (fresh t) m n (Ok Line) → (t.ended ≡ true → IsAtEnd n)
    → l ≡ Some text → IsFront (lines ++ t.line ∷ []) (judged_lines text)
given_front s t l m n bytes lines text consumed follows next end is =
    let all =
    given l n (bytes ++ next.taken) text (Consumes-trans l m n bytes next.taken consumed next.takes.consumed) is in
    subst (λ whole. IsFront (lines ++ t.line ∷ []) (judged_lines whole)) (sym all.2)
    (judged_front (fresh t) (bytes ++ next.taken) all.0 (lines ++ t.line ∷ [])
    (follows_line s (fresh t) m n bytes lines follows next) (λ x. subst IsAtEnd all.1 (end x)))

-- the refusal of a line given is the text's
pub bad_line : (j : Judgement) (Knows : List (ℕ × List (List ℕ)) → Type 0) (s t : LineState) (l m n : Option (List ℕ))
    (line : List ℕ) (number : ℕ) (e : ReadRefusal) → IsInOrder j → IsReading j Knows l m s
    → IsNext s (fresh t) m n (Ok Line) → line ≡ t.line → number ≡ t.number
    → ((lines : List (ℕ × List (List ℕ))) → Knows lines
    → (e ≡ OutOfMemory) ⊎ (j.of_lines (lines ++ told j number (words_of line)) ≡ Some e))
    → (t.ended ≡ true → IsAtEnd n) → (e ≡ OutOfMemory) ⊎ IsRefused j l e
bad_line j Knows s t l m n line number e order i next same place takes end =
    let f : Follows (fresh t) (i.bytes ++ next.taken) (i.lines ++ t.line ∷ []) =
    follows_line s (fresh t) m n i.bytes i.lines i.follows next in
    let size : number ≡ length i.lines + 1 = omega (arith, place, f.number, length-append i.lines (t.line ∷ [])) in
    let given_lines : List (List ℕ) = i.lines ++ line ∷ [] in
    elim (takes (told_lines j i.lines) i.knows) [
      | inl memory ↦ inl memory
      | inr bad ↦ inr (record {
        kind = subst MayBeOfLine bad (order.kinds (told_lines j i.lines ++ told j number (words_of line)));
        text = λ text is.
            let front = given_front s t l m n i.bytes i.lines text i.consumed i.follows next end is in
            of_judged j text e
            (ap (λ ls. j.of_lines (told_lines j ls))
            (front.whole ∙ ap (λ x. (i.lines ++ x ∷ []) ++ front.rest) (sym same))
            ∙ ap j.of_lines (told_lines-append j given_lines front.rest)
            ∙ order.front (told_lines j given_lines) (told_from j (1 + length given_lines) front.rest) e
            (ap j.of_lines (told_lines_more j i.lines line number size) ∙ bad));
      })
    ]

-- a line is never refused as a fault of the source
pub no_fault : (j : Judgement) (lines : List (ℕ × List (List ℕ))) (e : ReadRefusal) → IsInOrder j
    → (e ≡ OutOfMemory) ⊎ (j.of_lines lines ≡ Some e) → e ≡ ReadFault → ⊥
no_fault j lines e order (inl memory) fault = cc
no_fault j lines e order (inr bad) fault = subst MayBeOfLine (bad ∙ ap (λ x. Some x) fault) (order.kinds lines)

-- the refusal of a text that is too long, of whose judged lines none is refused
too_long : (j : Judgement) (Knows : List (ℕ × List (List ℕ)) → Type 0) (s t : LineState) (l m n : Option (List ℕ))
    (kind line : ℕ) (text : List ℕ) → ((lines : List (ℕ × List (List ℕ))) → Knows lines → j.of_lines lines ≡ None)
    → IsReading j Knows l m s → IsNext s (fresh t) m n (Err (Limit kind line)) → l ≡ Some text
    → text_refusal j text ≡ Some (Limit kind line)
too_long j Knows s t l m n kind line text clean i next is =
    let past = past_limit s (fresh t) m n i.bytes i.lines kind line i.follows next in
    let p : IsPast (i.bytes ++ next.taken) i.lines = past.0 in
    let all =
    given l n (i.bytes ++ next.taken) text
    (Consumes-trans l m n i.bytes next.taken i.consumed next.takes.consumed) is in
    let size : length text ≡ length (i.bytes ++ next.taken) + length all.0 =
    ap length all.2 ∙ length-append (i.bytes ++ next.taken) all.0 in
    let long : nat_lt text_limit (length text) ≡ true =
    lt-ltb text_limit (length text) (omega (arith, p.long, size)) in
    let front : take text_limit text ≡ take text_limit (i.bytes ++ next.taken) =
    ap (take text_limit) all.2 ∙ take-append-le text_limit (i.bytes ++ next.taken) all.0 (omega (arith, p.long)) in
    let judged : judged_lines text ≡ i.lines = rw long (ap ended_lines front ∙ sym p.lines_are) in
    let none : j.of_lines (told_lines j (judged_lines text)) ≡ None =
    ap (λ ls. j.of_lines (told_lines j ls)) judged ∙ clean (told_lines j i.lines) i.knows in
    let refused : length_refusal text ≡ Some (Limit kind line) =
    ap (λ b. cond b (Some (Limit 1 (length (judged_lines text) + 1))) None) long
    ∙ ap₂ (λ k x. Some (Limit k x)) (sym past.1) (ap (λ ls. length ls + 1) judged ∙ sym past.2) in
    ap₂ (λ a b. or_else a (or_else b (j.of_whole (length (lines_of text) + 1) (told_lines j (lines_of text))))) none
    refused

-- why the next line wasn't given: the source failed, there was no memory, or the text is too long
pub bad_next : (j : Judgement) (Knows : List (ℕ × List (List ℕ)) → Type 0) (s t : LineState) (l m n : Option (List ℕ))
    (e : ReadRefusal) → ((lines : List (ℕ × List (List ℕ))) → Knows lines → j.of_lines lines ≡ None)
    → IsReading j Knows l m s → IsNext s (fresh t) m n (Err e)
    → (e ≡ ReadFault) ⊎ ((e ≡ OutOfMemory) ⊎ IsRefused j l e)
bad_next j Knows s t l m n (Malformed a b) clean i next = absurd next.answers
bad_next j Knows s t l m n (Count a b) clean i next = absurd next.answers
bad_next j Knows s t l m n (EmptyClause a) clean i next = absurd next.answers
bad_next j Knows s t l m n ReadFault clean i next = inl refl
bad_next j Knows s t l m n OutOfMemory clean i next = inr (inl refl)
bad_next j Knows s t l m n (Limit kind line) clean i next =
    inr (inr (record { kind = tt; text = λ text is. too_long j Knows s t l m n kind line text clean i next is }))

-- at a fault what was taken is within the limit, and no line is refused whose end was taken
pub fault_next : (j : Judgement) (Knows : List (ℕ × List (List ℕ)) → Type 0) (s t : LineState) (l m n : Option (List ℕ))
    → ((lines : List (ℕ × List (List ℕ))) → Knows lines → j.of_lines lines ≡ None)
    → IsReading j Knows l m s → IsNext s (fresh t) m n (Err ReadFault)
    → (taken : List ℕ) × Consumes l n taken × IsUnrefused j taken
fault_next j Knows s t l m n clean i next = (
  i.bytes ++ next.taken,
  Consumes-trans l m n i.bytes next.taken i.consumed next.takes.consumed,
  record {
    short = omega (arith, next.answers.1, next.takes.taken, i.follows.taken, length-append i.bytes next.taken);
    clean = ap (λ ls. j.of_lines (told_lines j ls)) (sym (at_fault s (fresh t) m n i.bytes i.lines i.follows next))
        ∙ clean (told_lines j i.lines) i.knows;
  },
)

-- once the end is answered, the whole text decides
pub whole_text : (j : Judgement) (Knows : List (ℕ × List (List ℕ)) → Type 0) (s t : LineState) (l m n : Option (List ℕ))
    (line : ℕ) (text : List ℕ) → ((lines : List (ℕ × List (List ℕ))) → Knows lines → j.of_lines lines ≡ None)
    → (i : IsReading j Knows l m s) → IsNext s (fresh t) m n (Ok End) → line ≡ t.number + 1 → IsAtEnd n → l ≡ Some text
    → IsWhole j text (told_lines j i.lines) line
whole_text j Knows s t l m n line text clean i next place end is =
    let g : IsAll (i.bytes ++ next.taken) i.lines = all_given s (fresh t) m n i.bytes i.lines i.follows next in
    let all = given l n (i.bytes ++ next.taken) text
    (Consumes-trans l m n i.bytes next.taken i.consumed next.takes.consumed) is in
    let whole : text ≡ i.bytes ++ next.taken =
    all.2 ∙ ap (λ xs. (i.bytes ++ next.taken) ++ xs) (subst IsAtEnd all.1 end) ∙ append-nil (i.bytes ++ next.taken) in
    let lines : lines_of text ≡ i.lines = ap lines_of whole ∙ sym g.all in
    let short : nat_lt text_limit (length text) ≡ false =
    le-ltb text_limit (length text) (omega (arith, ap length whole, g.short)) in
    let judged : judged_lines text ≡ i.lines = rw short lines in
    let number : length (lines_of text) + 1 ≡ line =
    omega (arith, ap length lines, i.follows.number, next.answers.number, place) in
    let none : j.of_lines (told_lines j (judged_lines text)) ≡ None =
    ap (λ ls. j.of_lines (told_lines j ls)) judged ∙ clean (told_lines j i.lines) i.knows in
    let size : length_refusal text ≡ None = rw short refl in
    record {
      all = ap (told_lines j) lines;
      refusal =
          ap₂ (λ a b. or_else a
          (or_else b (j.of_whole (length (lines_of text) + 1) (told_lines j (lines_of text))))) none size
          ∙ ap₂ (λ k ls. j.of_whole k (told_lines j ls)) number lines;
    }
