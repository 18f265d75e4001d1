-- A log text is read in only one way: a number ends where a byte is not a digit, so the numbers of equal texts are
-- equal one by one.
use Rattle.std.proofs.Common.{inl, inr, ◌≡◌, ◌⊎◌, ℕ, suc, ◌+◌, ◌%◌, ◌^◌, ◌<◌, List, [], ◌∷◌, ◌++◌, length, map, flat_map, refl, sym, ap, ap₂, subst, ◌∙◌, arith, append_assoc, codes}
use Rattle.std.specs.Fmt.{decimal}
use Rattle.std.proofs.lemmas.Fmt.{decimal_by_steps, decimal_injective}
use Rattle.std.proofs.lemmas.Nat.{mod_below}
use Rattle.std.specs.List.{AllByRecursion}
use Rattle.pop_model.specs.Text.{spaced}
use Rattle.pop_log.specs.Decimals.{IsDigit, AreDigits, EndsNumber}
use Rattle.pop_log.specs.Printed.{Printed, joined}
use Rattle.pop_log.specs.LogTexts.{head_line, record_line}
use Rattle.pop_log.proofs.Fronts.{each_push}

-- a number is written in digits
pub decimal_digits : (n : ℕ) → n < 2 ^ 64 → AreDigits (decimal n)
decimal_digits n fits =
    decimal_by_steps (λ m ds. AreDigits ds) (λ m less. ((omega arith, omega arith), tt))
    (λ m ds most are. each_push IsDigit ds (48 + m % 10) are
    (let small : m % 10 < 10 = mod_below m 10 (omega arith) in (omega arith, omega (arith, small)))) n fits

-- a byte below or above the digits is none
pub sign : (b : ℕ) → (b < 48) ⊎ (57 < b) → IsDigit b → ⊥
sign b (inl low) digit = omega (arith, low, digit.0)
sign b (inr high) digit = omega (arith, high, digit.1)

-- digits before something else are determined
pub cut : (a b x y : List ℕ) → AreDigits a → AreDigits b → EndsNumber x → EndsNumber y → a ++ x ≡ b ++ y
    → (a ≡ b) × (x ≡ y)
cut [] [] x y da db ex ey same = (refl, same)
cut [] (c ∷ b) [] y da db ex ey same = absurd ex
cut [] (c ∷ b) (z ∷ x) y da db ex ey same = let first : c ≡ z = cc in absurd (ex (subst IsDigit first db.0))
cut (c ∷ a) [] x [] da db ex ey same = absurd ey
cut (c ∷ a) [] x (z ∷ y) da db ex ey same = let first : c ≡ z = cc in absurd (ey (subst IsDigit first da.0))
cut (c ∷ a) (d ∷ b) x y da db ex ey same =
    let first : c ≡ d = cc in
    let rest : a ++ x ≡ b ++ y = cc in
    let later = cut a b x y da.1 db.1 ex ey rest in
    (ap₂ (λ (m : ℕ) (l : List ℕ). m ∷ l) first later.0, later.1)

-- numbers of 64 bits
abbrev pub PairFits : ℕ × ℕ → Type 0
PairFits p = (p.0 < 2 ^ 64) × (p.1 < 2 ^ 64)

-- numbers of 64 bits
abbrev pub Fits64 : Printed → Type 0
Fits64 p = (p.number < 2 ^ 64) × AllByRecursion PairFits p.pairs

-- numbers before something else are determined, and so is what stands behind them
pub number_cut : (m n : ℕ) (x y : List ℕ) → m < 2 ^ 64 → n < 2 ^ 64 → EndsNumber x → EndsNumber y
    → decimal m ++ x ≡ decimal n ++ y → (m ≡ n) × (x ≡ y)
number_cut m n x y fm fn ex ey same =
    let parts = cut (decimal m) (decimal n) x y (decimal_digits m fm) (decimal_digits n fn) ex ey same in
    (decimal_injective m n fm fn parts.0, parts.1)

-- the text of pairs
abbrev pub pairs_text : List (ℕ × ℕ) → List ℕ
pairs_text ps = spaced (map (joined 58) ps)

-- behind a number, pairs and the end of the line begin with no digit
pub pairs_end : (ps : List (ℕ × ℕ)) (t : List ℕ) → EndsNumber (pairs_text ps ++ 10 ∷ t)
pairs_end [] t = sign 10 (inl (omega arith))
pairs_end (p ∷ ps) t = sign 32 (inl (omega arith))

-- the text of a pair before others, as its name and what stands behind the sign
pub pair_regroup : (a b s t : List ℕ) → ((a ++ 58 ∷ b) ++ s) ++ t ≡ a ++ 58 ∷ (b ++ (s ++ t))
pair_regroup a b s t = append_assoc (a ++ 58 ∷ b) s t ∙ append_assoc a (58 ∷ b) (s ++ t)

-- equal lists have equal tails
pub tail_same : (a b : ℕ) (x y : List ℕ) → a ∷ x ≡ b ∷ y → x ≡ y
tail_same a b x y same = cc

-- the pairs before the end of a line are determined, and so is the text behind it
pairs_same : (ps qs : List (ℕ × ℕ)) (t u : List ℕ) → AllByRecursion PairFits ps → AllByRecursion PairFits qs
    → pairs_text ps ++ 10 ∷ t ≡ pairs_text qs ++ 10 ∷ u → (ps ≡ qs) × (t ≡ u)
pairs_same [] [] t u fp fq same = (refl, cc)
pairs_same [] (q ∷ qs) t u fp fq same = let first : 10 ≡ suc 31 = cc in absurd (omega (arith, first))
pairs_same (p ∷ ps) [] t u fp fq same = let first : suc 31 ≡ 10 = cc in absurd (omega (arith, first))
pairs_same (p ∷ ps) (q ∷ qs) t u fp fq same =
    let behind : ((decimal p.0 ++ 58 ∷ decimal p.1) ++ pairs_text ps) ++ 10 ∷ t
    ≡ ((decimal q.0 ++ 58 ∷ decimal q.1) ++ pairs_text qs) ++ 10 ∷ u = cc in
    let even = sym (pair_regroup (decimal p.0) (decimal p.1) (pairs_text ps) (10 ∷ t)) ∙ behind
    ∙ pair_regroup (decimal q.0) (decimal q.1) (pairs_text qs) (10 ∷ u) in
    let name =
    number_cut p.0 q.0 (58 ∷ (decimal p.1 ++ (pairs_text ps ++ 10 ∷ t)))
    (58 ∷ (decimal q.1 ++ (pairs_text qs ++ 10 ∷ u))) fp.0.0 fq.0.0
    (sign 58 (inr (omega arith))) (sign 58 (inr (omega arith))) even in
    let after : decimal p.1 ++ (pairs_text ps ++ 10 ∷ t) ≡ decimal q.1 ++ (pairs_text qs ++ 10 ∷ u) =
    tail_same 58 58 (decimal p.1 ++ (pairs_text ps ++ 10 ∷ t)) (decimal q.1 ++ (pairs_text qs ++ 10 ∷ u)) name.1 in
    let entry = number_cut p.1 q.1 (pairs_text ps ++ 10 ∷ t) (pairs_text qs ++ 10 ∷ u) fp.0.1 fq.0.1
    (pairs_end ps t) (pairs_end qs u) after in
    let rest = pairs_same ps qs t u fp.1 fq.1 entry.1 in
    let pair : p ≡ q = ap₂ (λ (m n : ℕ). (m, n)) name.0 entry.0 in
    (ap₂ (λ (r : ℕ × ℕ) (l : List (ℕ × ℕ)). r ∷ l) pair rest.0, rest.1)

-- a printed record of these parts
abbrev made : ℕ → List (ℕ × ℕ) → Printed
made number pairs = record { number = number; pairs = pairs }

-- the text of a record before others, as its number and what stands behind it
record_regroup : (a s t : List ℕ) → ((codes "pop " ++ (a ++ s)) ++ 10 ∷ []) ++ t ≡ codes "pop " ++ (a ++ (s ++ 10 ∷ t))
record_regroup a s t = ap (λ l. codes "pop " ++ l) (append_assoc (a ++ s) (10 ∷ []) t ∙ append_assoc a s (10 ∷ t))

-- the records of a text are determined
pub records_same : (ps qs : List Printed) → AllByRecursion Fits64 ps → AllByRecursion Fits64 qs
    → flat_map record_line ps ≡ flat_map record_line qs → ps ≡ qs
records_same [] [] fp fq same = refl
records_same [] (q ∷ qs) fp fq same = absurd (cc)
records_same (p ∷ ps) [] fp fq same = absurd (cc)
records_same (p ∷ ps) (q ∷ qs) fp fq same =
    let t = flat_map record_line ps in
    let u = flat_map record_line qs in
    let even = sym (record_regroup (decimal p.number) (pairs_text p.pairs) t) ∙ same
    ∙ record_regroup (decimal q.number) (pairs_text q.pairs) u in
    let after : decimal p.number ++ (pairs_text p.pairs ++ 10 ∷ t)
    ≡ decimal q.number ++ (pairs_text q.pairs ++ 10 ∷ u) = cc in
    let number =
    number_cut p.number q.number (pairs_text p.pairs ++ 10 ∷ t) (pairs_text q.pairs ++ 10 ∷ u) fp.0.0 fq.0.0
    (pairs_end p.pairs t) (pairs_end q.pairs u) after in
    let pairs = pairs_same p.pairs q.pairs t u fp.0.1 fq.0.1 number.1 in
    ap₂ (λ (r : Printed) (l : List Printed). r ∷ l) (ap₂ made number.0 pairs.0) (records_same ps qs fp.1 fq.1 pairs.1)

-- the texts after their first lines
head_regroup : (n : ℕ) (t : List ℕ) → head_line n ++ t ≡ codes "log 1 " ++ (decimal n ++ 10 ∷ t)
head_regroup n t = ap (λ l. codes "log 1 " ++ l) (append_assoc (decimal n) (10 ∷ []) t)

-- a text is that of one list of records
pub text_determines : (ps qs : List Printed) → length ps < 2 ^ 64 → length qs < 2 ^ 64 → AllByRecursion Fits64 ps
    → AllByRecursion Fits64 qs
    → head_line (length ps) ++ flat_map record_line ps ≡ head_line (length qs) ++ flat_map record_line qs → ps ≡ qs
text_determines ps qs few few' fp fq same =
    let t = flat_map record_line ps in
    let u = flat_map record_line qs in
    let even = sym (head_regroup (length ps) t) ∙ same ∙ head_regroup (length qs) u in
    let after : decimal (length ps) ++ 10 ∷ t ≡ decimal (length qs) ++ 10 ∷ u = cc in
    let parts = number_cut (length ps) (length qs) (10 ∷ t) (10 ∷ u) few few'
    (sign 10 (inl (omega arith))) (sign 10 (inl (omega arith))) after in
    records_same ps qs fp fq (tail_same 10 10 t u parts.1)
