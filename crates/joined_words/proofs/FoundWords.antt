-- Words that are found in bytes, one behind another.
use Rattle.std.proofs.Common.{◌≡◌, ◌≢◌, ℕ, ◌+◌, ◌-◌, ◌<◌, ◌≤◌, List, [], ◌∷◌, ◌++◌, length, take, drop, get_or, flat_map, inl, inr, refl, sym, ap, subst, ◌∙◌, arith, All}
use Rattle.std.specs.List.{slice_range}
use Rattle.std.proofs.lemmas.Bool.{cases_lt}
use Rattle.std.proofs.lemmas.Grind.{flat_map-append}
use Rattle.std.proofs.lemmas.List.{append_assoc, append-nil, take_more, get_or_default, length-take-le, length-drop, get_or-take, get_or-drop}
use Rattle.std.proofs.lemmas.List.Elements.{All-append, All-cons, All-nil}
use Rattle.std.proofs.Math.Seq.{take-add}
use Rattle.joined_words.specs.Joined.{ended, IsPlain, AreJoined}

-- the bytes up to a place are those of the words, and none from there to another place is 0
pub record IsFront (bytes : List ℕ) (words : List (List ℕ)) (start at : ℕ) : Type 0 where
  pub before : start ≤ at
  pub words_are : AreJoined (take start bytes) words
  pub word_is : (k : ℕ) → start ≤ k → k < at → get_or bytes k 0 ≢ 0

-- at the front there is no word
pub front_none : (bytes : List ℕ) → IsFront bytes [] 0 0
front_none bytes = record {
  before = omega arith;
  words_are = record { joined = refl; plain = All-nil IsPlain };
  word_is = λ k from to. absurd (omega arith);
}

-- a byte that isn't 0 goes on with the word
pub front_more : (bytes : List ℕ) (words : List (List ℕ)) (start at : ℕ) → IsFront bytes words start at
    → get_or bytes at 0 ≢ 0 → IsFront bytes words start (at + 1)
front_more bytes words start at front other = record {
  before = let b = front.before in omega (arith, b);
  words_are = front.words_are;
  word_is = λ k from to. elim (cases_lt k at) [
    | inl before ↦ front.word_is k from before
    | inr behind ↦ let here : k ≡ at = omega (arith, to, behind) in subst (λ n. get_or bytes n 0 ≢ 0) (sym here) other
  ];
}

-- the word between two places has no byte 0
pub word_plain : (bytes : List ℕ) (words : List (List ℕ)) (start at : ℕ) → IsFront bytes words start at
    → at < length bytes → IsPlain (slice_range bytes start at)
word_plain bytes words start at front within k d h =
    let word : List ℕ = slice_range bytes start at in
    let rest : length (drop start bytes) ≡ length bytes - start = length-drop start bytes in
    let size : length word ≡ at - start = length-take-le (at - start) (drop start bytes) (omega (arith, rest, within)) in
    let less : k < at - start = omega (arith, h, size) in
    let same : get_or word k 0 ≡ get_or bytes (start + k) 0 =
    get_or-take (at - start) (drop start bytes) k 0 less ∙ get_or-drop start bytes k 0 in
    let other : get_or bytes (start + k) 0 ≢ 0 = front.word_is (start + k) (omega arith) (omega (arith, less)) in
    subst (λ x. x ≢ 0) (sym same ∙ get_or_default word k 0 d h) other

-- the bytes up to a byte 0 are the words before it, and the one that it ends
pub front_bytes : (bytes : List ℕ) (words : List (List ℕ)) (start at : ℕ) → IsFront bytes words start at
    → at < length bytes → get_or bytes at 0 ≡ 0
    → take (at + 1) bytes ≡ flat_map ended words ++ ended (slice_range bytes start at)
front_bytes bytes words start at front within zero =
    let word : List ℕ = slice_range bytes start at in
    let b = front.before in
    let gap : start + (at - start) ≡ at = omega (arith, b) in
    let parts : take at bytes ≡ take start bytes ++ word =
    ap (λ n. take n bytes) (sym gap) ∙ take-add start (at - start) bytes in
    take_more bytes at 0 within ∙ ap (λ x. take at bytes ++ x ∷ []) zero ∙ ap (λ bs. bs ++ 0 ∷ []) parts
    ∙ append_assoc (take start bytes) word (0 ∷ []) ∙ ap (λ bs. bs ++ ended word) front.words_are.joined

-- a byte 0 ends the word
pub front_ended : (bytes : List ℕ) (words : List (List ℕ)) (start at : ℕ) → IsFront bytes words start at
    → at < length bytes → get_or bytes at 0 ≡ 0
    → IsFront bytes (words ++ slice_range bytes start at ∷ []) (at + 1) (at + 1)
front_ended bytes words start at front within zero =
    let word : List ℕ = slice_range bytes start at in
    let one : flat_map ended (word ∷ []) ≡ ended word = append-nil (ended word) in
    let joined : take (at + 1) bytes ≡ flat_map ended (words ++ word ∷ []) =
    front_bytes bytes words start at front within zero ∙ ap (λ bs. flat_map ended words ++ bs) (sym one)
    ∙ sym (flat_map-append ended words (word ∷ [])) in
    let plain : All IsPlain (words ++ word ∷ []) =
    All-append IsPlain words (word ∷ []) front.words_are.plain
    (All-cons IsPlain word [] (word_plain bytes words start at front within) (All-nil IsPlain)) in record {
      before = omega arith;
      words_are = record { joined = joined; plain = plain };
      word_is = λ k from to. absurd (omega (arith, from, to));
    }
