-- The lines that were given are those of the bytes that were taken.
-- As long as lines are given with their ends, the bytes within the limit are these lines and the rest. The last line
-- may have no end; then nothing is left, and the lines given are all.
use Rattle.std.proofs.Common.{◌≡◌, ◌⊎◌, inl, inr, ℕ, ◌+◌, ◌-◌, ◌<◌, ◌≤◌, true, false, List, [], ◌∷◌, ◌++◌, length, take, Option, Ok, Err, sym, ap, ap₂, ◌∙◌, arith, append_assoc, append-nil, length-append, nat_lt}
use Rattle.std.proofs.lemmas.List.{take_all}
use Rattle.std.proofs.lemmas.Bool.{le-ltb, ltb-false, cases_Bool}
use Rattle.pop_edge.specs.Lines.{lines_of, ended_lines, judged_lines, text_limit}
use Rattle.pop_edge.specs.LineState.{LineState, at_hand, GivesLine, GivesEnd, GivesNone, IsNext, Follows, IsCut, IsDone, closed}
use Rattle.pop_edge.specs.declared.next.Next.TheVariants.{Line, End}
use Rattle.pop_edge.specs.declared.refusal.ReadRefusal.TheVariants.{Limit, ReadFault}
use Rattle.pop_edge.proofs.LinesLemmas.{take_front, lines_closed, ended_closed, closed-append, AreLines-append, ended_only, one_line}

-- what is at hand behind the lines given
hand : (s : LineState) (bytes more : List ℕ) (lines : List (List ℕ)) → s.taken ≡ length bytes
    → closed lines ++ s.rest ≡ take text_limit bytes → closed lines ++ at_hand s more ≡ take text_limit (bytes ++ more)
hand s bytes more lines size e =
    sym (append_assoc (closed lines) s.rest (take (text_limit - s.taken) more))
    ∙ ap₂ (λ xs n. xs ++ take (text_limit - n) more) e size ∙ sym (take_front text_limit bytes more)

-- once everything was given, nothing is at hand
nothing_left : (s : LineState) (bytes more : List ℕ) (lines : List (List ℕ)) → IsDone s bytes lines → more ≡ []
    → at_hand s more ≡ []
nothing_left s bytes more lines d none = ap₂ (λ xs ys. xs ++ take (text_limit - s.taken) ys) d.rest none
    ∙ take_all (text_limit - s.taken) (let e : List ℕ = [] in e) (omega arith)

-- no test comes out both ways
true_false : true ≡ false → ⊥
true_false e = cc

-- a line more
cut_line : (s t : LineState) (bytes more : List ℕ) (lines : List (List ℕ)) → IsCut s bytes lines → GivesLine s t more
    → s.taken ≡ length bytes → t.taken ≡ length (bytes ++ more)
    → IsCut t (bytes ++ more) (lines ++ t.line ∷ []) ⊎ IsDone t (bytes ++ more) (lines ++ t.line ∷ [])
cut_line s t bytes more lines o g size taken =
    let here : closed lines ++ at_hand s more ≡ take text_limit (bytes ++ more) =
    hand s bytes more lines size o.front in
    elim g.front [
      | inl e ↦ inl (record {
        lines_are = AreLines-append lines t.line o.lines_are g.whole;
        front =
            closed-append lines t.line t.rest ∙ ap (λ xs. closed lines ++ xs) (sym e) ∙ here;
      })
      | inr e ↦ inr (record {
        all = ap (λ ls. lines ++ ls) (sym (one_line t.line g.whole e.2)) ∙ sym (lines_closed lines t.line o.lines_are)
            ∙ ap lines_of (ap (λ xs. closed lines ++ xs) (sym e.0) ∙ here
            ∙ take_all text_limit (bytes ++ more) (omega (arith, taken, e.4)));
        short = omega (arith, taken, e.4);
        rest = e.1;
        ended = e.3;
      })
    ]

-- once everything was given and no byte comes, no line is given
done_line : (s t : LineState) (bytes more : List ℕ) (lines : List (List ℕ)) → IsDone s bytes lines → GivesLine s t more
    → more ≡ [] → ⊥
done_line s t bytes more lines d g none =
    let empty : at_hand s more ≡ [] = nothing_left s bytes more lines d none in
    elim g.front [
      | inl e ↦ (let size : length (t.line ++ 10 ∷ t.rest) ≡ 0 = ap length (sym e ∙ empty) in
          omega (arith, length-append t.line (10 ∷ t.rest)))
      | inr e ↦ (let size : length t.line ≡ 0 = ap length (sym e.0 ∙ empty) in omega (arith, e.2))
    ]

-- a line more was given
pub follows_line : (s t : LineState) (l m : Option (List ℕ)) (bytes : List ℕ) (lines : List (List ℕ))
    → Follows s bytes lines → (n : IsNext s t l m (Ok Line)) → Follows t (bytes ++ n.taken) (lines ++ t.line ∷ [])
follows_line s t l m bytes lines f n =
    let more : List ℕ = n.taken in
    let gives : GivesLine s t more = n.answers in
    let taken : t.taken ≡ length (bytes ++ more) = omega (arith, n.takes.taken, f.taken, length-append bytes more) in
    record {
      taken = taken;
      number = gives.number ∙ omega (arith, f.number, length-append lines (t.line ∷ []));
      stands = elim f.stands [
        | inl o ↦ cut_line s t bytes more lines o gives f.taken taken
        | inr d ↦ absurd (done_line s t bytes more lines d gives (n.takes.at_end d.ended))
      ];
    }

-- at the end the lines given are those of all bytes taken
pub record IsAll (bytes : List ℕ) (lines : List (List ℕ)) : Type 0 where
  pub all : lines ≡ lines_of bytes
  pub short : length bytes ≤ text_limit

-- once the end is answered, every line was given
pub all_given : (s t : LineState) (l m : Option (List ℕ)) (bytes : List ℕ) (lines : List (List ℕ))
    → Follows s bytes lines → (n : IsNext s t l m (Ok End)) → IsAll (bytes ++ n.taken) lines
all_given s t l m bytes lines f n =
    let more : List ℕ = n.taken in
    let g : GivesEnd s t more = n.answers in
    let short : length (bytes ++ more) ≤ text_limit =
    omega (arith, n.takes.taken, f.taken, length-append bytes more, g.short) in
    elim f.stands [
      | inl o ↦ record {
        all = sym (append-nil lines) ∙ sym (lines_closed lines [] o.lines_are)
            ∙ ap lines_of (ap (λ xs. closed lines ++ xs) (sym g.nothing) ∙ hand s bytes more lines f.taken o.front
            ∙ take_all text_limit (bytes ++ more) short);
        short = short;
      }
      | inr d ↦ record {
        all =
            d.all ∙ ap lines_of (sym (ap (λ xs. bytes ++ xs) (n.takes.at_end d.ended) ∙ append-nil bytes));
        short = short;
      }
    ]

-- with no whole line at hand, the lines given are those that have their end
ended_given : (s t : LineState) (l m : Option (List ℕ)) (bytes more : List ℕ) (lines : List (List ℕ))
    → Follows s bytes lines → IsCut s bytes lines → GivesNone s t more
    → lines ≡ ended_lines (take text_limit (bytes ++ more))
ended_given s t l m bytes more lines f o g =
    sym (ended_only lines (at_hand s more) o.lines_are g.no_line)
    ∙ ap ended_lines (hand s bytes more lines f.taken o.front)

-- past the limit the judged lines were given, whatever else comes
pub record IsPast (bytes : List ℕ) (lines : List (List ℕ)) : Type 0 where
  pub long : text_limit < length bytes
  pub lines_are : lines ≡ ended_lines (take text_limit bytes)

-- once the limit is answered, the judged lines were given, and the next line is named
pub past_limit : (s t : LineState) (l m : Option (List ℕ)) (bytes : List ℕ) (lines : List (List ℕ)) (kind line : ℕ)
    → Follows s bytes lines → (n : IsNext s t l m (Err (Limit kind line)))
    → IsPast (bytes ++ n.taken) lines × (kind ≡ 1) × (line ≡ length lines + 1)
past_limit s t l m bytes lines kind line f n =
    let more : List ℕ = n.taken in
    let size = length-append bytes more in
    elim f.stands [
      | inl o ↦ (
        record {
          long = omega (arith, n.answers.1, n.takes.taken, f.taken, size);
          lines_are =
              ended_given s t l m bytes more lines f o n.answers.0;
        },
        n.answers.2,
        n.answers.3 ∙ ap (λ k. k + 1) f.number,
      )
      | inr d ↦ (let none : length more ≡ 0 = ap length (n.takes.at_end d.ended) in
          absurd (omega (arith, n.answers.1, n.takes.taken, f.taken, d.short)))
    ]

-- at a fault the lines given are those that have their end
pub at_fault : (s t : LineState) (l m : Option (List ℕ)) (bytes : List ℕ) (lines : List (List ℕ))
    → Follows s bytes lines → (n : IsNext s t l m (Err ReadFault)) → lines ≡ ended_lines (bytes ++ n.taken)
at_fault s t l m bytes lines f n =
    let more : List ℕ = n.taken in
    let size = length-append bytes more in
    elim f.stands [
      | inl o ↦ ended_given s t l m bytes more lines f o n.answers.0
          ∙ ap ended_lines (take_all text_limit (bytes ++ more)
          (omega (arith, n.answers.1, n.takes.taken, f.taken, size)))
      | inr d ↦ absurd (true_false (sym d.ended ∙ n.answers.2))
    ]

-- the lines given are a front of the judged lines, whatever else comes; at the end nothing else does
pub record IsFront (lines text_lines : List (List ℕ)) : Type 0 where
  pub rest : List (List ℕ)
  pub whole : text_lines ≡ lines ++ rest

-- the lines given so far are a front of those that are judged, whatever bytes come
cut_front : (s : LineState) (bytes more : List ℕ) (lines : List (List ℕ)) → IsCut s bytes lines
    → IsFront lines (judged_lines (bytes ++ more))
cut_front s bytes more lines o =
    let text : List ℕ = bytes ++ more in
    let behind : List ℕ = s.rest ++ take (text_limit - length bytes) more in
    let front : closed lines ++ behind ≡ take text_limit text =
    sym (append_assoc (closed lines) s.rest (take (text_limit - length bytes) more))
    ∙ ap (λ xs. xs ++ take (text_limit - length bytes) more) o.front ∙ sym (take_front text_limit bytes more) in
    elim (cases_Bool (nat_lt text_limit (length text))) [
      | inl long ↦ record {
        rest = ended_lines behind;
        whole =
            rw long (ap ended_lines (sym front) ∙ ended_closed lines behind o.lines_are);
      }
      | inr short ↦ record {
        rest = lines_of behind;
        whole = rw short (ap lines_of (sym (take_all text_limit text (ltb-false _ _ short)) ∙ sym front)
            ∙ lines_closed lines behind o.lines_are);
      }
    ]

-- whatever bytes are still to come, the lines given are a front of the judged lines
pub judged_front : (s : LineState) (bytes more : List ℕ) (lines : List (List ℕ)) → Follows s bytes lines
    → (s.ended ≡ true → more ≡ []) → IsFront lines (judged_lines (bytes ++ more))
judged_front s bytes more lines f end =
    elim f.stands [
      | inl o ↦ cut_front s bytes more lines o
      | inr d ↦ (let same : bytes ++ more ≡ bytes = ap (λ xs. bytes ++ xs) (end d.ended) ∙ append-nil bytes in
          let short : nat_lt text_limit (length (bytes ++ more)) ≡ false =
          le-ltb text_limit (length (bytes ++ more)) (omega (arith, ap length same, d.short)) in
          record { rest = []; whole = rw short (ap lines_of same ∙ sym d.all ∙ sym (append-nil lines)) })
    ]
