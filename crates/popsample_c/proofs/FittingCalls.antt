-- Bytes have one list of words, since no byte of a word is 0. So two answers to the same bytes are answers to the same
-- words, and where these have one answer, its length is the one that was told.
use Rattle.std.proofs.Common.{◌≡◌, ◌≢◌, ℕ, List, [], ◌∷◌, ◌++◌, length, All, refl, sym, ap, ap₂, subst, ◌∙◌, arith}
use Rattle.std.specs.List.{flat_map}
use Rattle.std.proofs.lemmas.List.{append_assoc}
use Rattle.std.proofs.lemmas.List.Elements.{All-head, All-tail}
use Rattle.joined_words.specs.Joined.{IsPlain, ended}
use Rattle.top_call.specs.Answers.{IsAnswer}
use Rattle.popsample_c.specs.Told.{IsTold, fresh_watchers}
use Rattle.popsample_c.specs.Fits.{FitsThen, HaveOneAnswer}

-- two words that end at the first byte 0 of the same bytes, and what stands behind
record AreSplit (word other rest rest' : List ℕ) : Type 0 where
  same : word ≡ other
  behind : rest ≡ rest'

-- they are one word
first_word : (word other rest rest' : List ℕ) → IsPlain word → IsPlain other → word ++ 0 ∷ rest ≡ other ++ 0 ∷ rest'
    → AreSplit word other rest rest'
first_word [] [] rest rest' plain plain' same = record { same = refl; behind = cc }
first_word [] (b ∷ other) rest rest' plain plain' same =
    let is : b ≡ 0 = cc in absurd (All-head (λ (c : ℕ). c ≢ 0) b other plain' is)
first_word (b ∷ word) [] rest rest' plain plain' same =
    let is : b ≡ 0 = cc in absurd (All-head (λ (c : ℕ). c ≢ 0) b word plain is)
first_word (b ∷ word) (c ∷ other) rest rest' plain plain' same =
    let head : b ≡ c = cc in
    let tail : word ++ 0 ∷ rest ≡ other ++ 0 ∷ rest' = cc in
    let split =
    first_word word other rest rest' (All-tail (λ (d : ℕ). d ≢ 0) b word plain)
    (All-tail (λ (d : ℕ). d ≢ 0) c other plain') tail in
    record { same = ap₂ (λ (d : ℕ) (w : List ℕ). d ∷ w) head split.same; behind = split.behind }

-- the bytes of a word and of those behind it
joined_first : (word : List ℕ) (words : List (List ℕ))
    → flat_map ended (word ∷ words) ≡ word ++ 0 ∷ flat_map ended words
joined_first word words = append_assoc word (0 ∷ []) (flat_map ended words)

-- no words have no bytes
some_bytes : (word rest : List ℕ) → [] ≡ word ++ 0 ∷ rest → ⊥
some_bytes [] rest same = cc
some_bytes (b ∷ word) rest same = cc

-- words with the same bytes are the same
same_words : (words others : List (List ℕ)) → All IsPlain words → All IsPlain others
    → flat_map ended words ≡ flat_map ended others → words ≡ others
same_words [] [] plain plain' same = refl
same_words [] (other ∷ others) plain plain' same =
    absurd (some_bytes other (flat_map ended others) (same ∙ joined_first other others))
same_words (word ∷ words) [] plain plain' same =
    absurd (some_bytes word (flat_map ended words) (sym same ∙ joined_first word words))
same_words (word ∷ words) (other ∷ others) plain plain' same =
    let split =
    first_word word other (flat_map ended words) (flat_map ended others) (All-head IsPlain word words plain)
    (All-head IsPlain other others plain') (sym (joined_first word words) ∙ same ∙ joined_first other others) in
    ap₂ (λ (w : List ℕ) (ws : List (List ℕ)). w ∷ ws) split.same
    (same_words words others (All-tail IsPlain word words plain) (All-tail IsPlain other others plain') split.behind)

-- so two answers to bytes have one length, where the words in them have one answer
same_length : (bytes text : List ℕ) → HaveOneAnswer bytes text → (status other : ℕ) (out out' : List ℕ)
    → IsTold bytes text status out → IsTold bytes text other out' → length out ≡ length out'
same_length bytes text one status other out out' told told' =
    let same : told'.words ≡ told.words =
    same_words told'.words told.words told'.are_words.plain told.are_words.plain
    (sym told'.are_words.joined ∙ told.are_words.joined) in
    ap (λ (o : List ℕ). length o) (one told.words told.utf8 told.are_words status other out out' told.answer
    (subst (λ ws. IsAnswer ws fresh_watchers text other out') same told'.answer)).1

-- the law
pub fits_then : FitsThen
fits_then bytes text room count one long = record {
  size = λ status out told.
      same_length bytes text one status long.status out long.out told long.told ∙ sym long.count_is;
  room = λ again more enough longer.
      let same = same_length bytes text one longer.status long.status longer.out long.out longer.told long.told in
      let is = longer.count_is in
      let was = long.count_is in
      let less = longer.long in
      omega (arith, enough, same, is, was, less);
}
