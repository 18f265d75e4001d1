-- The meaning of the lines of a head: each line is that of one number, of one command or of one source of stacks.
use Rattle.std.proofs.Common.{◌≡◌, ◌≢◌, ℕ, zero, suc, ◌<◌, ◌^◌, Bool, true, false, List, [], ◌∷◌, ◌++◌, drop, Option, Some, None, Result, Ok, Err, slice_index, MatchOption, Bor, Contains, refl, sym, ap, subst, ◌∙◌, arith, append_assoc, codes, decimal}
use Rattle.std.specs.List.{AllByRecursion, find}
use Rattle.std.specs.Result.{result_ok}
use Rattle.std.specs.Str.{bytes_eq}
use Rattle.std.proofs.lemmas.Fmt.{decimal_injective}
use Rattle.std.proofs.lemmas.List.{append_cancel_left, append_cancel_right}
use Rattle.std.proofs.lemmas.Option.{same_Some}
use Rattle.std.proofs.lemmas.Slice.Eq.{bytes_eq-Decides}
use Rattle.hex.specs.Hex.{decode_sized, encode_lower}
use Rattle.hex.specs.declared.error.FromHexError.{FromHexError}
use Rattle.hex.proofs.HexLemmas.{decode_of-ok, decode_sized-encode_lower, decode_sized-ok, decode_sized-twice}
use Rattle.pop_model.specs.Text.{line}
use Rattle.pop_stacks.specs.declared.stack_spec.StackSpec.{StackSpec}
use Rattle.pop_stacks.specs.declared.stack_spec.StackSpec.TheVariants.{Key, Given}
use Rattle.pop_words.specs.declared.command.Command.{Command}
use Rattle.pop_words.specs.Options.{command_word, paused}
use Rattle.pop_words.specs.Values.{key_in, rows_in}
use Rattle.pop_words.proofs.ListTests.{found_is}
use Rattle.pop_words.proofs.TableFacts.{same_command}
use Rattle.run_cert.specs.Heads.{command_line, stacks_line, rows_text, IsHeight, MayBeStacks, MayBeHeight, MayBeRoot}
use Rattle.run_cert.specs.Certificates.{height_said, root_said}
use Rattle.run_cert.specs.HeadLines.{Says}
use Rattle.run_cert.proofs.SpelledRows.{rows_again}

-- ---- lines with labels

-- a line that doesn't begin with a label is none with it
pub behind_front : (l label : List ℕ) → ((rest : List ℕ) → l ≢ label ++ rest) → (body : List ℕ)
    → l ≡ line (label ++ body) → ⊥
behind_front l label none body is = none (body ++ 10 ∷ []) (is ∙ append_assoc label body (10 ∷ []))

-- one that does is one with it exactly where it ends
pub behind_end : (l label rest : List ℕ) (r : Option (Bor (List ℕ))) → l ≡ label ++ rest
    → MatchOption r ((front : List ℕ) → rest ≢ front ++ 10 ∷ []) (λ x. rest ≡ x.now ++ 10 ∷ [])
    → MatchOption r ((body : List ℕ) → l ≡ line (label ++ body) → ⊥) (λ body. l ≡ line (label ++ body.now))
behind_end l label rest None is none = λ body same.
    none body (append_cancel_left label rest (body ++ 10 ∷ [])
    (sym is ∙ same ∙ append_assoc label body (10 ∷ [])))
behind_end l label rest (Some x) is end =
    is ∙ ap (λ r. label ++ r) end ∙ sym (append_assoc label x.now (10 ∷ []))

-- a label stands before one text
pub label_same : (label a b : List ℕ) → line (label ++ a) ≡ line (label ++ b) → a ≡ b
label_same label a b same = append_cancel_left label a b (append_cancel_right (label ++ a) (label ++ b) (10 ∷ []) same)

-- and before one number
pub labeled_same : (label : List ℕ) (n m : ℕ) → n < 2 ^ 64 → m < 2 ^ 64
    → line (label ++ decimal n) ≡ line (label ++ decimal m) → n ≡ m
labeled_same label n m fits fits' same =
    decimal_injective n m fits fits' (label_same label (decimal n) (decimal m) same)

-- ---- the digits of keys

-- bytes are such at each place
all_bytes : (key : List ℕ) → AllByRecursion (λ b. b < 256) key → (i : ℕ) → slice_index key i < 256
all_bytes [] h i = omega arith
all_bytes (b ∷ key) h zero = h.0
all_bytes (b ∷ key) h (suc i) = all_bytes key h.1 i

-- and the other way round
bytes_all : (key : List ℕ) → ((i : ℕ) → slice_index key i < 256) → AllByRecursion (λ b. b < 256) key
bytes_all [] each = tt
bytes_all (b ∷ key) each = (each 0, bytes_all key (λ i. each (suc i)))

-- the digits of a key are read as the key
pub key_again : (digits key : List ℕ) → MayBeStacks (Key key) → digits ≡ encode_lower key → key_in digits ≡ Some key
key_again digits key may is =
    ap key_in is ∙ ap result_ok (decode_sized-encode_lower key 32 may.0 (all_bytes key may.1))

-- a key that was read may be written
pub key_read : (w key : List ℕ) → key_in w ≡ Some key → MayBeStacks (Key key)
key_read w key read = by_result (decode_sized w 32) refl read
  where
    by_result : (r : Result (List ℕ) FromHexError) → decode_sized w 32 ≡ r → result_ok r ≡ Some key
        → MayBeStacks (Key key)
    by_result (Ok bytes) is same =
        let one : bytes ≡ key = cc in
        let twice = decode_sized-ok w 32 bytes is in
        let ok = decode_of-ok w bytes (sym (decode_sized-twice w 32 twice) ∙ is) in
        let sizes = ok.2 in
        subst (λ k. MayBeStacks (Key k)) one (omega (arith, sizes, twice), bytes_all bytes ok.3)
    by_result (Err e) is same = absurd (cc)

-- ---- the first line of stacks

-- it is that of one origin, since its rows, or its key, are read again
pub stacks_same : (s z : StackSpec) → MayBeStacks s → MayBeStacks z → stacks_line s ≡ stacks_line z → s ≡ z
stacks_same (Given a) (Given b) may may' same =
    ap (λ (r : List (List ℕ)). Given r) (same_Some a b (sym (rows_again a may)
    ∙ ap (λ t. rows_in (drop 1 t)) (label_same (codes "stacks") (rows_text a) (rows_text b) same) ∙ rows_again b may'))
stacks_same (Given a) (Key b) may may' same = let first : suc 114 ≡ 107 = cc in absurd (omega (arith, first))
stacks_same (Key a) (Given b) may may' same = let first : 107 ≡ suc 114 = cc in absurd (omega (arith, first))
stacks_same (Key a) (Key b) may may' same =
    ap (λ (k : List ℕ). Key k) (same_Some a b (sym (key_again (encode_lower a) a may refl)
    ∙ key_again (encode_lower a) b may' (label_same (codes "key ") (encode_lower a) (encode_lower b) same)))

-- ---- the height and the root

-- a height of keyed stacks may be said of any, as it is said
pub height_may : (s : StackSpec) (h : ℕ) → IsHeight h → MayBeHeight s (height_said s h)
height_may (Key key) h bounds = bounds
height_may (Given rows) h bounds = refl

-- and a root of any command
pub root_may : (rooted : Bool) (r : ℕ) → MayBeRoot true r → MayBeRoot rooted (root_said rooted r)
root_may true r bounds = bounds
root_may false r bounds = refl

-- ---- the first line of all

-- it is that of one command
pub command_same : (c d : Command) → Contains paused c → Contains paused d → command_line c ≡ command_line d → c ≡ d
command_same c d may may' same =
    same_command c d (label_same (codes "cert 1 ") (command_word c) (command_word d) same)

-- the command of a word
abbrev named : List ℕ → Option Command
named word = find (λ c. bytes_eq (command_word c) word) paused

-- it is found again
named_again : (c : Command) → Contains paused c → named (command_word c) ≡ Some c
named_again c (zero, within, at) = subst (λ d. named (command_word d) ≡ Some d) at refl
named_again c (suc zero, within, at) = subst (λ d. named (command_word d) ≡ Some d) at refl
named_again c (suc (suc zero), within, at) = subst (λ d. named (command_word d) ≡ Some d) at refl
named_again c (suc (suc (suc zero)), within, at) = subst (λ d. named (command_word d) ≡ Some d) at refl
named_again c (suc (suc (suc (suc k))), within, at) = absurd (omega (arith, within))

-- a line whose word is found, or isn't, says the command of the word, or none
pub command_said : (l word : List ℕ) (r : Option Command) → l ≡ line (codes "cert 1 " ++ word) → r ≡ named word
    → Says (Contains paused) command_line l r
command_said l word None is found = λ c may same.
    let there : word ≡ command_word c = label_same (codes "cert 1 ") word (command_word c) (sym is ∙ same) in
    let one : named word ≡ Some c = ap named there ∙ named_again c may in absurd (cc)
command_said l word (Some c) is found =
    let one = found_is (λ d. bytes_eq (command_word d) word) paused c (sym found) in
    let same : command_word c ≡ word = (bytes_eq-Decides (command_word c) word).0 one.1 in
    (one.0, is ∙ ap (λ w. line (codes "cert 1 " ++ w)) (sym same))
