-- The words of a line, one after another.
-- A blank at the front makes no word, so blanks may be skipped. Bytes that begin with no blank begin with a word, which
-- goes up to the first blank, or to their end. The words behind it are those of the bytes behind that blank.
use Rattle.std.proofs.Common.{◌≡◌, ℕ, suc, zero, ◌+◌, ◌-◌, ◌<◌, ◌≤◌, Bool, true, false, cond, not, ◌==◌, nat_eq, List, [], ◌∷◌, ◌++◌, length, take, drop, get_or, filter, Option, None, Some, position, All, refl, sym, ap, ◌∙◌, arith, take-append-drop, length-take, length-drop, slice_range, IsTrue}
use Rattle.std.specs.List.{slice_split}
use Rattle.std.proofs.lemmas.List.{drop_more, get_or-take, get_or-drop, get_or_default, take_rest}
use Rattle.std.proofs.lemmas.List.Quantifiers.{position-Some}
use Rattle.std.proofs.lemmas.List.Sums.{fails_before_first}
use Rattle.std.proofs.lemmas.List.Splits.{slice_split_at, slice_split_none}
use Rattle.std.proofs.lemmas.Bool.{ltb-false, not-false, ne_eqb}
use Rattle.pop_edge.specs.Words.{is_blank, words_of}

-- a place that there is none of
pub none_from : (b : Bool) (n : ℕ) → ◌≡◌ {A = Option ℕ} (cond b (Some n) None) None → b ≡ false
none_from true n h = absurd (cc)
none_from false n h = refl

-- a blank at the front makes no word
pub skip_blank : (b : ℕ) (bs : List ℕ) → is_blank b ≡ true → words_of (b ∷ bs) ≡ words_of bs
skip_blank b bs e = rw e refl

-- and so do blanks
pub skip_blanks : (bs : List ℕ) (n : ℕ) → n ≤ length bs → ((k : ℕ) → k < n → not (is_blank (get_or bs k 0)) ≡ false)
    → words_of bs ≡ words_of (drop n bs)
skip_blanks bs zero l h = refl
skip_blanks [] (suc n) l h = absurd (omega arith)
skip_blanks (b ∷ bs) (suc n) l h = skip_blank b bs (not-false _ (h 0 (omega arith)))
    ∙ skip_blanks bs n (omega arith) (λ k j. h (suc k) (omega arith))

-- only blanks make no words
pub no_words : (bs : List ℕ) → ((k : ℕ) → k < length bs → not (is_blank (get_or bs k 0)) ≡ false) → words_of bs ≡ []
no_words [] h = refl
no_words (b ∷ bs) h = skip_blank b bs (not-false _ (h 0 (omega arith))) ∙ no_words bs (λ k j. h (suc k) (omega arith))

-- where only blanks are found, there is no word
pub no_words_none : (bs : List ℕ) → position (λ b. not (is_blank b)) bs ≡ None → words_of bs ≡ []
no_words_none bs e =
    let past = ltb-false _ _ (none_from _ _ e) in
    no_words bs (λ k l. fails_before_first (λ b. not (is_blank b)) bs k 0 (omega (arith, past)))

-- a word that isn't empty is one of the words
kept_word : (word : List ℕ) (words : List (List ℕ)) → 0 < length word
    → filter (λ w. not (length w == 0)) (word ∷ words) ≡ word ∷ filter (λ w. not (length w == 0)) words
kept_word [] words h = absurd (omega arith)
kept_word (b ∷ bs) words h = let some : nat_eq (suc (length bs)) 0 ≡ false =
    ne_eqb (suc (length bs)) 0 (λ e. absurd (omega arith)) in rw some refl

-- where none of the first n bytes is a blank, the front of n bytes has none
clear_front : (bs : List ℕ) (n : ℕ) → n ≤ length bs → ((k : ℕ) → k < n → is_blank (get_or bs k 0) ≡ false)
    → All (λ x. is_blank x ≡ false) (take n bs)
clear_front bs n l h k d j =
    let lt : k < n = omega (arith, length-take n bs) in
    let at : k < length bs = omega arith in
    ap is_blank (get_or-take n bs k d lt ∙ get_or_default bs k d 0 at) ∙ h k lt

-- a word ends at the first blank
pub word_some : (bs : List ℕ) (n : ℕ) → position is_blank bs ≡ Some n → 0 < n
    → (words_of bs ≡ take n bs ∷ words_of (drop (n + 1) bs)) × (n < length bs)
word_some bs n e more =
    let p = position-Some is_blank bs n 0 e in
    let within : n < length bs = p.0 in
    let clear = clear_front bs n (omega arith) (λ k l. p.2 k l) in
    let cut : bs ≡ take n bs ++ get_or bs n 0 ∷ drop (n + 1) bs = sym (take-append-drop n bs)
    ∙ ap (λ xs. take n bs ++ xs) (drop_more bs n 0 within) in
    let size : length (take n bs) ≡ n = rw length-take (omega arith) in (
      ap words_of cut ∙ ap (filter (λ w. not (length w == 0)))
          (slice_split_at is_blank (take n bs) (get_or bs n 0) (drop (n + 1) bs) clear p.1)
          ∙ kept_word (take n bs) (slice_split is_blank (drop (n + 1) bs)) (omega (arith, size)),
      within,
    )

-- or where there is none, at the end
pub word_none : (bs : List ℕ) → position is_blank bs ≡ None → 0 < length bs → words_of bs ≡ bs ∷ []
word_none bs e more =
    let past = ltb-false _ _ (none_from _ _ e) in
    ap (filter (λ w. not (length w == 0)))
    (slice_split_none is_blank bs
    (λ k d l. ap is_blank (get_or_default bs k d 0 l) ∙ fails_before_first is_blank bs k 0 (omega (arith, past))))
    ∙ kept_word bs [] more

-- what a front word leaves of the bytes
pub front_some : (bs : List ℕ) (n : ℕ) → position is_blank bs ≡ Some n → IsTrue (not (is_blank (get_or bs 0 0)))
    → words_of bs ≡ take n bs ∷ words_of (slice_range bs (n + 1) (length bs))
front_some bs n e first =
    let p = position-Some is_blank bs n 0 e in
    let more : 0 < n = positive n p.1 in
    (word_some bs n e more).0 ∙ ap (λ xs. take n bs ∷ words_of xs) (sym (take_rest bs (n + 1)))
  where
    clash : (t : Bool) → IsTrue (not t) → t ≡ true → ⊥
    clash true h k = absurd (cc)
    clash false h k = cc

    positive : (m : ℕ) → is_blank (get_or bs m 0) ≡ true → 0 < m
    positive zero h = absurd (clash _ first h)
    positive (suc m) h = omega arith

-- or the bytes are one word
pub front_none : (bs : List ℕ) → position is_blank bs ≡ None → 0 < length bs
    → words_of bs ≡ bs ∷ words_of (slice_range bs (length bs) (length bs))
front_none bs e more =
    let none : length bs - length bs ≡ 0 = omega arith in
    word_none bs e more ∙ ap (λ k. bs ∷ words_of (take k (drop (length bs) bs))) (sym none)

-- the bytes from the first that isn't a blank
pub skipped : (bs : List ℕ) (n : ℕ) → position (λ b. not (is_blank b)) bs ≡ Some n
    → (words_of bs ≡ words_of (slice_range bs n (length bs))) × (0 < length (slice_range bs n (length bs)))
    × IsTrue (not (is_blank (get_or (slice_range bs n (length bs)) 0 0)))
skipped bs n at =
    let p = position-Some (λ b. not (is_blank b)) bs n 0 at in
    let rest : slice_range bs n (length bs) ≡ drop n bs = take_rest bs n in
    let first : get_or (slice_range bs n (length bs)) 0 0 ≡ get_or bs n 0 = ap (λ xs. get_or xs 0 0) rest
    ∙ get_or-drop n bs 0 0 ∙ ap (λ k. get_or bs k 0) (let e : n + 0 ≡ n = omega arith in e) in (
      skip_blanks bs n (omega (arith, p.0)) (λ k l. p.2 k l) ∙ ap words_of (sym rest),
      omega (arith, ap length rest, length-drop n bs, p.0),
      ap (λ b. not (is_blank b)) first ∙ p.1,
    )

-- a word has a first byte
pub with_head : (word : List ℕ) → 0 < length word → word ≡ get_or word 0 0 ∷ drop 1 word
with_head [] h = absurd (omega arith)
with_head (b ∷ bs) h = refl
