-- A text is cut into lines in one way. No line of the end of a formula's run begins with the letter with which a log
-- begins, so an output has one place at which its log begins. The log's first line has the number of its lines.
use Rattle.std.proofs.Common.{◌≡◌, ◌≢◌, ℕ, zero, suc, ◌+◌, ◌/◌, ◌%◌, ◌^◌, ◌<◌, ◌==◌, Bool, true, false, not, List, [], ◌∷◌, ◌++◌, length, map, flat_map, codes, decimal, eqb, if◌then◌else◌, refl, sym, ap, ap₂, ◌∙◌, arith, append_assoc, append-nil}
use Rattle.std.specs.Prelude.{nat_lt, ⊤}
use Rattle.std.specs.Fmt.{digits, digits_onto, digit_glyph}
use Rattle.std.specs.List.{AllByRecursion, enumerate_from, list_all}
use Rattle.std.proofs.lemmas.Bool.{and_parts, not-true, eqb-false}
use Rattle.std.proofs.lemmas.Fmt.{decimal_injective}
use Rattle.std.proofs.lemmas.List.{append_cancel_left}
use Rattle.std.proofs.lemmas.List.Concat.{flat_map-append}
use Rattle.pop_model.specs.Families.{Event, Family}
use Rattle.pop_model.specs.Instances.{Instance}
use Rattle.pop_model.specs.Popping.{values_at}
use Rattle.pop_model.specs.Text.{line, spaced}
use Rattle.pop_log.specs.Printed.{joined, record_words}
use Rattle.pop_log.specs.LayeredTexts.{Written, layered_head, layered_line, written_text}
use Rattle.pop_log.proofs.Fronts.{each_append}
use Rattle.pop_log.proofs.LogTextsLemmas.{tail_same}
use Rattle.pop_print.specs.declared.facts.Facts.{Facts}
use Rattle.pop_print.specs.declared.facts.Facts.TheVariants.{Formula}
use Rattle.pop_print.specs.Names.{event_names}
use Rattle.pop_print.specs.Output.{literal_of, literals_of, stuck_line, stuck_lines, found_lines, used_line, pops_line, end_text}
use Rattle.run_cert.proofs.Joined.{Lacks, lacks_append}

-- ---- bytes that end no line

-- literal bytes, by a test
plain : (bytes : List ℕ) → list_all (λ b. not (eqb b 10)) bytes ≡ true → Lacks 10 bytes
plain [] test = tt
plain (b ∷ bytes) test =
    let tests = and_parts (not (eqb b 10)) (list_all (λ c. not (eqb c 10)) bytes) test in
    (eqb-false b 10 (not-true (eqb b 10) tests.0), plain bytes tests.1)

-- a digit
digit_plain : (d : ℕ) → digit_glyph false d ≢ 10
digit_plain d = by_test (nat_lt d 10)
  where
    by_test : (low : Bool) → (if low then 48 + d else 87 + d) ≢ 10
    by_test true is = omega (arith, is)
    by_test false is = omega (arith, is)

-- digits of any number
digits_plain : (k n : ℕ) (behind : List ℕ) → Lacks 10 behind → Lacks 10 (digits_onto k 10 false n behind)
digits_plain zero n behind none = none
digits_plain (suc k) n behind none =
    let digit : ℕ = digit_glyph false (n % 10) in
    let more : Lacks 10 (digit ∷ behind) = (digit_plain (n % 10), none) in
    by_test (n / 10 == 0) digit more (digits_plain k (n / 10) (digit ∷ behind) more)
  where
    by_test : (last : Bool) (digit : ℕ) → Lacks 10 (digit ∷ behind) → Lacks 10 (digits_onto k 10 false (n / 10) (digit ∷ behind))
        → Lacks 10 (if last then digit ∷ behind else digits_onto k 10 false (n / 10) (digit ∷ behind))
    by_test true digit one more = one
    by_test false digit one more = more

number_plain : (n : ℕ) → Lacks 10 (decimal n)
unfolding digits
number_plain n = digits_plain 64 n [] tt

-- numbers
numbers_plain : (numbers : List ℕ) → AllByRecursion (Lacks 10) (map decimal numbers)
numbers_plain [] = tt
numbers_plain (n ∷ numbers) = (number_plain n, numbers_plain numbers)

-- words with a space before each
spaced_plain : (words : List (List ℕ)) → AllByRecursion (Lacks 10) words → Lacks 10 (spaced words)
spaced_plain [] none = tt
spaced_plain (word ∷ words) none =
    (λ is. omega (arith, is), lacks_append 10 word (spaced words) none.0 (spaced_plain words none.1))

-- literals
literals_plain : (ps : List (ℕ × ℕ)) → AllByRecursion (Lacks 10) (map (λ p. literal_of p.0 p.1) ps)
literals_plain [] = tt
literals_plain (p ∷ ps) = (by_sign (p.1 == 0), literals_plain ps)
  where
    by_sign : (negated : Bool) → Lacks 10 (if negated then 45 ∷ decimal (p.0 + 1) else decimal (p.0 + 1))
    by_sign true = (λ is. omega (arith, is), number_plain (p.0 + 1))
    by_sign false = number_plain (p.0 + 1)

-- pairs
pairs_plain : (ps : List (ℕ × ℕ)) → AllByRecursion (Lacks 10) (map (joined 58) ps)
pairs_plain [] = tt
pairs_plain (p ∷ ps) = (
  lacks_append 10 (decimal p.0) (58 ∷ decimal p.1) (number_plain p.0) (λ is. omega (arith, is), number_plain p.1),
  pairs_plain ps,
)

-- ---- lines

-- a line is cut off in one way
line_cut : (a b x y : List ℕ) → Lacks 10 a → Lacks 10 b → line a ++ x ≡ line b ++ y → (a ≡ b) × (x ≡ y)
line_cut [] [] x y none none' same = (refl, tail_same 10 10 x y same)
line_cut [] (c ∷ b) x y none none' same = let first : 10 ≡ c = cc in absurd (none'.0 (sym first))
line_cut (c ∷ a) [] x y none none' same = let first : c ≡ 10 = cc in absurd (none.0 first)
line_cut (c ∷ a) (d ∷ b) x y none none' same =
    let first : c ≡ d = cc in
    let later = line_cut a b x y none.1 none'.1 (tail_same c d (line a ++ x) (line b ++ y) same) in
    (ap₂ (λ (n : ℕ) (l : List ℕ). n ∷ l) first later.0, later.1)

-- the bytes don't begin as those of a log do
abbrev BeginsOtherwise : List ℕ → Type 0
BeginsOtherwise [] = ⊤
BeginsOtherwise (b ∷ bytes) = b ≢ 108

-- they do
abbrev pub BeginsLog : List ℕ → Type 0
BeginsLog [] = ⊥
BeginsLog (b ∷ bytes) = b ≡ 108

-- what stands in a line before a log
abbrev IsEarly : List ℕ → Type 0
IsEarly l = Lacks 10 l × BeginsOtherwise l

-- lines none of which begins as a log does
pub record IsFront (text : List ℕ) : Type 0 where
  lines : List (List ℕ)
  early : AllByRecursion IsEarly lines
  text_is : text ≡ flat_map line lines

-- a word before what stands in it
word_front : (word rest : List ℕ) → list_all (λ b. not (eqb b 10)) word ≡ true → BeginsOtherwise (word ++ rest)
    → Lacks 10 rest → IsFront (line (word ++ rest))
word_front word rest test other none =
    let is : IsEarly (word ++ rest) = (lacks_append 10 word rest (plain word test) none, other) in
    record { lines = (word ++ rest) ∷ []; early = (is, tt); text_is = sym (append-nil (line (word ++ rest))) }

-- and more
front_append : (a b : List ℕ) → IsFront a → IsFront b → IsFront (a ++ b)
front_append a b one more = record {
  lines = one.lines ++ more.lines;
  early = each_append IsEarly one.lines more.lines one.early more.early;
  text_is = ap₂ (λ (x y : List ℕ). x ++ y) one.text_is more.text_is ∙ sym (flat_map-append line one.lines more.lines);
}

-- such a line isn't where a log begins
no_line_there : (l x p : List ℕ) → IsEarly l → BeginsLog p → p ≡ line l ++ x → ⊥
no_line_there l x [] is begins same = begins
no_line_there [] x (b ∷ p) is begins same = let first : b ≡ 10 = cc in omega (arith, first, begins)
no_line_there (c ∷ l) x (b ∷ p) is begins same = let first : b ≡ c = cc in is.1 (sym first ∙ begins)

-- so behind such lines a log begins in one place
lines_cut : (ls ms : List (List ℕ)) (p q : List ℕ) → AllByRecursion IsEarly ls → AllByRecursion IsEarly ms
    → BeginsLog p → BeginsLog q → flat_map line ls ++ p ≡ flat_map line ms ++ q → p ≡ q
lines_cut [] [] p q early early' begins begins' same = same
lines_cut [] (m ∷ ms) p q early early' begins begins' same =
    absurd (no_line_there m (flat_map line ms ++ q) p early'.0 begins (same ∙ append_assoc (line m) (flat_map line ms) q))
lines_cut (l ∷ ls) [] p q early early' begins begins' same =
    absurd (no_line_there l (flat_map line ls ++ p) q early.0 begins'
    (sym same ∙ append_assoc (line l) (flat_map line ls) p))
lines_cut (l ∷ ls) (m ∷ ms) p q early early' begins begins' same =
    let rest = line_cut l m (flat_map line ls ++ p) (flat_map line ms ++ q) early.0.0 early'.0.0
    (sym (append_assoc (line l) (flat_map line ls) p) ∙ same ∙ append_assoc (line m) (flat_map line ms) q) in
    lines_cut ls ms p q early.1 early'.1 begins begins' rest.1

pub front_cut : (a b p q : List ℕ) → IsFront a → IsFront b → BeginsLog p → BeginsLog q → a ++ p ≡ b ++ q → p ≡ q
front_cut a b p q one other begins begins' same =
    lines_cut one.lines other.lines p q one.early other.early begins begins'
    (ap (λ l. l ++ p) (sym one.text_is) ∙ same ∙ ap (λ l. l ++ q) other.text_is)

-- ---- the end of a formula's run

-- an event that occurs
stuck_front : (facts : Facts) (family : Family) (e : Event) → IsFront (stuck_line facts family e)
stuck_front facts family e =
    let names = event_names facts family e in
    word_front (codes "stuck") (spaced (map decimal names)) refl (λ is. omega (arith, is))
    (spaced_plain (map decimal names) (numbers_plain names))

-- and all of them
all_stuck_front : (facts : Facts) (family : Family) (stuck : List Event) → IsFront (stuck_lines facts family stuck)
all_stuck_front facts family [] = record { lines = []; early = tt; text_is = refl }
all_stuck_front facts family (e ∷ stuck) =
    front_append (stuck_line facts family e) (stuck_lines facts family stuck) (stuck_front facts family e)
    (all_stuck_front facts family stuck)

-- what was found
found_front : (n : ℕ) (family : Family) (values : List ℕ) (stuck : List Event)
    → IsFront (found_lines (Formula n) family values stuck)
found_front n family values [] =
    let literals = literals_of values in
    front_append (line (codes "s SAMPLE")) (line (codes "v" ++ spaced literals ++ codes " 0"))
    (word_front (codes "s SAMPLE") [] refl (λ is. omega (arith, is)) tt)
    (word_front (codes "v") (spaced literals ++ codes " 0") refl (λ is. omega (arith, is))
    (lacks_append 10 (spaced literals) (codes " 0") (spaced_plain literals (literals_plain (enumerate_from 0 values)))
    (plain (codes " 0") refl)))
found_front n family values (e ∷ stuck) =
    front_append (line (codes "s EXHAUSTED")) (stuck_lines (Formula n) family (e ∷ stuck))
    (word_front (codes "s EXHAUSTED") [] refl (λ is. omega (arith, is)) tt)
    (all_stuck_front (Formula n) family (e ∷ stuck))

-- the cursors
used_front : (cursors : List ℕ) → IsFront (used_line cursors)
used_front cursors =
    word_front (codes "used") (spaced (map decimal cursors)) refl (λ is. omega (arith, is))
    (spaced_plain (map decimal cursors) (numbers_plain cursors))

-- the number of pops
pops_front : (pops : ℕ) → IsFront (pops_line pops)
pops_front pops = word_front (codes "pops ") (decimal pops) refl (λ is. omega (arith, is)) (number_plain pops)

-- the text of an end
pub end_front : (n : ℕ) (i : Instance) (c : List ℕ) (pops : ℕ) (stuck : List Event)
    → IsFront (end_text (Formula n) i c pops stuck)
end_front n i c pops stuck =
    let found : List ℕ = found_lines (Formula n) i.family (values_at i.stacks c) stuck in
    front_append (found ++ used_line c) (pops_line pops)
    (front_append found (used_line c) (found_front n i.family (values_at i.stacks c) stuck) (used_front c))
    (pops_front pops)

-- ---- a log before more

-- what stands in its lines
abbrev record_bytes : Written → List ℕ
record_bytes w = codes "pop " ++ decimal w.0 ++ 32 ∷ record_words w.1

record_plain : (w : Written) → Lacks 10 (record_bytes w)
record_plain w =
    let p = w.1 in
    lacks_append 10 (codes "pop ") (decimal w.0 ++ 32 ∷ record_words p) (plain (codes "pop ") refl)
    (lacks_append 10 (decimal w.0) (32 ∷ record_words p) (number_plain w.0) (
      λ is. omega (arith, is),
      lacks_append 10 (decimal p.number) (spaced (map (joined 58) p.pairs)) (number_plain p.number)
          (spaced_plain (map (joined 58) p.pairs) (pairs_plain p.pairs)),
    ))

-- as many lines before more are the same
records_cut : (ws us : List Written) (x y : List ℕ) → length ws ≡ length us
    → flat_map layered_line ws ++ x ≡ flat_map layered_line us ++ y
    → flat_map layered_line ws ≡ flat_map layered_line us
records_cut [] [] x y size same = refl
records_cut [] (u ∷ us) x y size same = absurd (omega (arith, size))
records_cut (w ∷ ws) [] x y size same = absurd (omega (arith, size))
records_cut (w ∷ ws) (u ∷ us) x y size same =
    let whole : line (record_bytes w) ++ (flat_map layered_line ws ++ x)
    ≡ line (record_bytes u) ++ (flat_map layered_line us ++ y) =
    sym (append_assoc (layered_line w) (flat_map layered_line ws) x) ∙ same
    ∙ append_assoc (layered_line u) (flat_map layered_line us) y in
    let first = line_cut (record_bytes w) (record_bytes u) (flat_map layered_line ws ++ x)
    (flat_map layered_line us ++ y) (record_plain w) (record_plain u) whole in
    ap₂ (λ (a b : List ℕ). line a ++ b) first.0 (records_cut ws us x y (omega (arith, size)) first.1)

-- so the texts of two logs are, where more stands behind them
pub written_cut : (ws us : List Written) (x y : List ℕ) → length ws < 2 ^ 64 → length us < 2 ^ 64
    → written_text ws ++ x ≡ written_text us ++ y → written_text ws ≡ written_text us
written_cut ws us x y few few' same =
    let log : List ℕ = codes "log 2 " in
    let n = length ws in
    let m = length us in
    let whole : line (log ++ decimal n) ++ (flat_map layered_line ws ++ x)
    ≡ line (log ++ decimal m) ++ (flat_map layered_line us ++ y) =
    sym (append_assoc (layered_head n) (flat_map layered_line ws) x) ∙ same
    ∙ append_assoc (layered_head m) (flat_map layered_line us) y in
    let head = line_cut (log ++ decimal n) (log ++ decimal m) (flat_map layered_line ws ++ x)
    (flat_map layered_line us ++ y) (lacks_append 10 log (decimal n) (plain log refl) (number_plain n))
    (lacks_append 10 log (decimal m) (plain log refl) (number_plain m)) whole in
    let size : n ≡ m = decimal_injective n m few few' (append_cancel_left log (decimal n) (decimal m) head.0) in
    ap₂ (λ (a b : List ℕ). line a ++ b) head.0 (records_cut ws us x y size head.1)
