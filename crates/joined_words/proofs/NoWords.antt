-- Where bytes go on with what is no word, no words are in them. What words are in bytes is determined, since no byte of a
-- word is 0: any words begin with those that were found, and go on with those of the bytes behind them. There the next one
-- would be the bytes up to the next byte 0, which aren't UTF-8, or there is no such byte.
use Rattle.std.proofs.Common.{◌≡◌, ◌≢◌, ℕ, suc, ◌+◌, ◌-◌, ◌<◌, ◌≤◌, List, [], ◌∷◌, ◌++◌, length, drop, get_or, flat_map, refl, sym, ap, subst, ◌∙◌, arith, All}
use Rattle.std.specs.List.{slice_range}
use Rattle.std.specs.Str.{IsUtf8}
use Rattle.std.proofs.lemmas.List.{append_assoc, append_cancel_left, take-append-drop, length-append, length-drop, get_or-drop}
use Rattle.std.proofs.Math.Seq.{get_or-append_seam}
use Rattle.joined_words.specs.Joined.{ended, IsPlain, AreJoined, AreNoWords}
use Rattle.joined_words.proofs.FoundWords.{IsFront, word_plain, front_bytes}

-- what holds of all elements holds of those behind the first
all_behind : {X : Type 0} (P : X → Type 0) (x : X) (xs : List X) → All P (x ∷ xs) → All P xs
all_behind P x xs all k d h = all (suc k) d (omega (arith, h))

-- the bytes before the first byte 0 are determined, and so are those behind it
cut_at_zero : (a b x y : List ℕ) → IsPlain a → IsPlain b → a ++ 0 ∷ x ≡ b ++ 0 ∷ y → (a ≡ b) × (x ≡ y)
cut_at_zero [] [] x y p q same = (refl, cc)
cut_at_zero [] (c ∷ b) x y p q same = let first : c ≡ 0 = cc in absurd (q 0 0 (omega arith) first)
cut_at_zero (c ∷ a) [] x y p q same = let first : c ≡ 0 = cc in absurd (p 0 0 (omega arith) first)
cut_at_zero (c ∷ a) (d ∷ b) x y p q same =
    let first : c ≡ d = cc in
    let behind : a ++ 0 ∷ x ≡ b ++ 0 ∷ y = cc in
    let later = cut_at_zero a b x y (all_behind (λ n. n ≢ 0) c a p) (all_behind (λ n. n ≢ 0) d b q) behind in
    (ap (λ n. n ∷ a) first ∙ ap (λ l. d ∷ l) later.0, later.1)

-- the words begin with these, and the others are in these bytes
record GoOn (front : List (List ℕ)) (bytes : List ℕ) (words : List (List ℕ)) : Type 0 where
  others : List (List ℕ)
  words_are : words ≡ front ++ others
  joined : AreJoined bytes others

-- where the bytes begin with a word and its byte 0, so do the words
word_first : (word bytes : List ℕ) (words : List (List ℕ)) → IsPlain word → AreJoined (ended word ++ bytes) words
    → GoOn (word ∷ []) bytes words
word_first word bytes [] plain are =
    let none : length (ended word ++ bytes) ≡ 0 = ap length are.joined in
    absurd (omega (arith, none, length-append (ended word) bytes, length-append word (0 ∷ [])))
word_first word bytes (w ∷ ws) plain are =
    let same : word ++ 0 ∷ bytes ≡ w ++ 0 ∷ flat_map ended ws =
    sym (append_assoc word (0 ∷ []) bytes) ∙ are.joined ∙ append_assoc w (0 ∷ []) (flat_map ended ws) in
    let cut = cut_at_zero word w bytes (flat_map ended ws) plain (are.plain 0 [] (omega arith)) same in record {
      others = ws;
      words_are = ap (λ x. x ∷ ws) (sym cut.0);
      joined = record { joined = cut.1; plain = all_behind IsPlain w ws are.plain };
    }

-- where the bytes begin with those of some words, so do the words
words_first : (front : List (List ℕ)) (bytes : List ℕ) (words : List (List ℕ)) → All IsPlain front
    → AreJoined (flat_map ended front ++ bytes) words → GoOn front bytes words
words_first [] bytes words plain are = record { others = words; words_are = refl; joined = are }
words_first (w ∷ front) bytes words plain are =
    let one : GoOn (w ∷ []) (flat_map ended front ++ bytes) words =
    word_first w (flat_map ended front ++ bytes) words (plain 0 [] (omega arith))
    (subst (λ bs. AreJoined bs words) (append_assoc (ended w) (flat_map ended front) bytes) are) in
    let more : GoOn front bytes one.others =
    words_first front bytes one.others (all_behind IsPlain w front plain) one.joined in record {
      others = more.others;
      words_are = one.words_are ∙ ap (λ l. w ∷ l) more.words_are;
      joined = more.joined;
    }

-- any words begin with those that were found
found_first : (bytes : List ℕ) (found words : List (List ℕ)) (start at : ℕ) → IsFront bytes found start at
    → AreJoined bytes words → GoOn found (drop start bytes) words
found_first bytes found words start at front are =
    let split : bytes ≡ flat_map ended found ++ drop start bytes =
    sym (take-append-drop start bytes) ∙ ap (λ bs. bs ++ drop start bytes) front.words_are.joined in
    words_first found (drop start bytes) words front.words_are.plain (subst (λ bs. AreJoined bs words) split are)

-- the bytes up to a byte 0 aren't UTF-8
pub bad_word : (bytes : List ℕ) (found : List (List ℕ)) (start at : ℕ) → IsFront bytes found start at
    → at < length bytes → get_or bytes at 0 ≡ 0 → (IsUtf8 (slice_range bytes start at) → ⊥) → AreNoWords bytes
bad_word bytes found start at front within zero bad words utf8 are =
    let word : List ℕ = slice_range bytes start at in
    let on : GoOn found (drop start bytes) words = found_first bytes found words start at front are in
    let split : flat_map ended found ++ drop start bytes ≡ flat_map ended found ++ (ended word ++ drop (at + 1) bytes) =
    ap (λ bs. bs ++ drop start bytes) (sym front.words_are.joined) ∙ take-append-drop start bytes
    ∙ sym (take-append-drop (at + 1) bytes)
    ∙ ap (λ bs. bs ++ drop (at + 1) bytes) (front_bytes bytes found start at front within zero)
    ∙ append_assoc (flat_map ended found) (ended word) (drop (at + 1) bytes) in
    let rest : drop start bytes ≡ ended word ++ drop (at + 1) bytes =
    append_cancel_left (flat_map ended found) (drop start bytes) (ended word ++ drop (at + 1) bytes) split in
    let next : GoOn (word ∷ []) (drop (at + 1) bytes) on.others =
    word_first word (drop (at + 1) bytes) on.others (word_plain bytes found start at front within)
    (subst (λ bs. AreJoined bs on.others) rest on.joined) in
    let all : words ≡ found ++ word ∷ next.others = on.words_are ∙ ap (λ l. found ++ l) next.words_are in
    let size : length words ≡ length found + length (word ∷ next.others) =
    ap length all ∙ length-append found (word ∷ next.others) in
    let here : get_or words (length found) [] ≡ word =
    ap (λ l. get_or l (length found) []) all ∙ get_or-append_seam found word next.others [] in
    bad (subst IsUtf8 here (utf8 (length found) [] (omega (arith, size))))

-- no byte 0 is at the end
pub no_end : (bytes : List ℕ) (found : List (List ℕ)) (start at : ℕ) → IsFront bytes found start at → start < length bytes
    → length bytes ≤ at → AreNoWords bytes
no_end bytes found start at front some end words utf8 are =
    let on : GoOn found (drop start bytes) words = found_first bytes found words start at front are in
    no_others on.others on.joined where
      no_others : (others : List (List ℕ)) → AreJoined (drop start bytes) others → ⊥
      no_others [] joined = omega (arith, ap length joined.joined, length-drop start bytes)
      no_others (w ∷ ws) joined =
          let size : length (drop start bytes) ≡ length bytes - start = length-drop start bytes in
          let parts : length (drop start bytes) ≡ length (ended w) + length (flat_map ended ws) =
          ap length joined.joined ∙ length-append (ended w) (flat_map ended ws) in
          let same : drop start bytes ≡ w ++ 0 ∷ flat_map ended ws =
          joined.joined ∙ append_assoc w (0 ∷ []) (flat_map ended ws) in
          let zero : get_or bytes (start + length w) 0 ≡ 0 =
          sym (get_or-drop start bytes (length w) 0) ∙ ap (λ l. get_or l (length w) 0) same
          ∙ get_or-append_seam w 0 (flat_map ended ws) 0 in
          front.word_is (start + length w) (omega arith) (omega (arith, some, end, size, parts, length-append w (0 ∷ []))) zero
