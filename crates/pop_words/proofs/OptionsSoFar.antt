-- The loop that reads options. What it has read so far leaves the rest to be read as the whole was, so what it finds at
-- its next name or value is what there is to find. It has read different options, so it has made few turns.
use Rattle.std.proofs.Common.{inl, inr, subst, ◌≡◌, ℕ, ◌+◌, ◌*◌, ◌<◌, ◌≤◌, false, List, [], ◌∷◌, ◌++◌, length, map, drop, get_or, string_bytes, String, Option, None, Some, option_map, Err, refl, sym, ap, ◌∙◌, arith, length-append, Contains}
use Rattle.std.specs.List.{IsDistinct, list_any}
use Rattle.std.proofs.lemmas.Bool.{false_from_ne_true}
use Rattle.std.proofs.lemmas.List.{drop_more, get_or-map, length-map}
use Rattle.std.proofs.lemmas.List.Elements.{Contains-push_cases}
use Rattle.std.proofs.lemmas.Map.Keys.{IsDistinct-push}
use Rattle.std.proofs.lemmas.Map.Made.{length-le_from_is_member}
use Rattle.pop_words.specs.declared.command.Command.{Command}
use Rattle.pop_words.specs.declared.field.Field.{Field}
use Rattle.pop_words.specs.declared.job.Job.{Job}
use Rattle.pop_words.specs.declared.setting.Setting.{Setting}
use Rattle.pop_words.specs.Options.{NamedOption, options, value_of, default_job}
use Rattle.pop_words.specs.Settings.{sets}
use Rattle.pop_words.specs.Reading.{behind, same_name, option_next, read_on, read_from}
use Rattle.pop_words.proofs.ListTests.{some_at, some_from}
use Rattle.pop_words.proofs.TableFacts.{same_name_is, same_name_laws}
use Rattle.pop_words.proofs.ReadingLemmas.{next_is}

-- so many words are read, with these options and this job
pub record IsUnderway (command : Command) (words : List (List ℕ)) (before : List NamedOption) (job : Job)
    (place : ℕ) : Type 0 where
  pub rest : read_from command before job place (drop place words) ≡ behind command words
  pub count : place ≡ 1 + 2 * length before
  pub listed : (o : NamedOption) → Contains before o → Contains options o
  pub different : IsDistinct same_name before
  pub few : place ≤ 1 + 2 * length options

-- behind the command word, before any option
pub underway_at_first : (command : Command) (words : List (List ℕ))
    → IsUnderway command words [] (default_job command) 1
unfolding IsDistinct
underway_at_first command words = record {
  rest = refl;
  count = refl;
  listed = λ o (k, within, at). absurd (omega arith);
  different = tt;
  few = omega arith;
}

-- different options of the table are at most all
few_options : (before : List NamedOption) → ((o : NamedOption) → Contains before o → Contains options o)
    → IsDistinct same_name before → length before ≤ length options
few_options before listed different = length-le_from_is_member same_name_laws before options different
    (λ o among. let one = some_from (same_name o) before among in
    some_at (same_name o) options one.0 (listed one.0 one.1) one.2)

-- the word at a place, and what is behind it
pub at_word : {A : Type 0} (words : List (String A)) (i : ℕ) (word : String A) → i < length words
    → word ≡ get_or words i word
    → drop i (map string_bytes words) ≡ string_bytes word ∷ drop (i + 1) (map string_bytes words)
at_word words i word within is =
    let inside : i < length (map string_bytes words) = omega (arith, length-map words string_bytes) in
    let at : get_or (map string_bytes words) i (string_bytes word) ≡ string_bytes word =
    get_or-map string_bytes words i word (string_bytes word) within ∙ ap string_bytes (sym is) in
    drop_more (map string_bytes words) i (string_bytes word) inside
    ∙ ap (λ w. w ∷ drop (i + 1) (map string_bytes words)) at

-- ---- what is read where a name and a value stand next

-- a name of no option that may stand next is the first bad word
pub name_refused : (command : Command) (words : List (List ℕ)) (before : List NamedOption) (job : Job) (place : ℕ)
    (name : List ℕ) (rest : List (List ℕ))
    → IsUnderway command words before job place → drop place words ≡ name ∷ rest
    → option_next command before name ≡ None
    → behind command words ≡ Err (place + 1)
name_refused command words before job place name rest underway next none =
    sym underway.rest ∙ ap (read_from command before job place) next ∙ refused rest
  where
    refused : (more : List (List ℕ)) → read_from command before job place (name ∷ more) ≡ Err (place + 1)
    refused [] = ap (λ f. read_on (place + 1) f (λ o. Err (place + 2))) none
    refused (word ∷ more) =
        ap (λ f. read_on (place + 1) f (λ o. read_on (place + 2) (value_of o.field word)
        (λ set. read_from command (before ++ o ∷ []) (set job) (place + 2) more))) none

-- what is read behind the name of an option
behind_name : (command : Command) (words : List (List ℕ)) (before : List NamedOption) (job : Job) (place : ℕ)
    (name word : List ℕ) (rest : List (List ℕ))
    (o : NamedOption) → IsUnderway command words before job place → drop place words ≡ name ∷ word ∷ rest
    → option_next command before name ≡ Some o
    → behind command words
    ≡ read_on (place + 2) (value_of o.field word) (λ set. read_from command (before ++ o ∷ []) (set job)
    (place + 2) rest)
behind_name command words before job place name word rest o underway next found =
    sym underway.rest ∙ ap (read_from command before job place) next
    ∙ ap (λ f. read_on (place + 1) f (λ p. read_on (place + 2) (value_of p.field word)
    (λ set. read_from command (before ++ p ∷ []) (set job) (place + 2) rest))) found

-- a word that is no value of its option is the first bad word
pub value_refused : (command : Command) (words : List (List ℕ)) (before : List NamedOption) (job : Job) (place : ℕ)
    (name word : List ℕ) (rest : List (List ℕ))
    (o : NamedOption) → IsUnderway command words before job place → drop place words ≡ name ∷ word ∷ rest
    → option_next command before name ≡ Some o
    → value_of o.field word ≡ None → behind command words ≡ Err (place + 2)
value_refused command words before job place name word rest o underway next found none =
    behind_name command words before job place name word rest o underway next found
    ∙ ap (λ v. read_on (place + 2) v (λ set. read_from command (before ++ o ∷ []) (set job) (place + 2) rest)) none

-- an option that may follow has the name of none before it
is_other : (before : List NamedOption) (o : NamedOption)
    → ((p : NamedOption) → Contains before p → p.name ≡ o.name → ⊥) → list_any (same_name o) before ≡ false
is_other before o other = false_from_ne_true (list_any (same_name o) before)
    (λ found. let one = some_from (same_name o) before found in
    other one.0 one.1 (sym (same_name_is o one.0 one.2)))

-- a name and its value are read: so many words more, with this option set
pub value_set : (command : Command) (words : List (List ℕ)) (before : List NamedOption) (job : Job) (place : ℕ)
    (name word : List ℕ) (rest : List (List ℕ))
    (o : NamedOption) (set : Job → Job) → IsUnderway command words before job place
    → drop place words ≡ name ∷ word ∷ rest → rest ≡ drop (place + 2) words
    → option_next command before name ≡ Some o → value_of o.field word ≡ Some set
    → IsUnderway command words (before ++ o ∷ []) (set job) (place + 2)
value_set command words before job place name word rest o set underway next later found some =
    let follows = (next_is command before name o found).1 in
    let listed : (p : NamedOption) → Contains (before ++ o ∷ []) p → Contains options p =
    λ p among. elim (Contains-push_cases before o p among) [
      | inl earlier ↦ underway.listed p earlier
      | inr last ↦ subst (Contains options) last follows.listed
    ] in
    let different = IsDistinct-push same_name_laws before o underway.different
    (is_other before o (λ p among is. (follows.compatible p among).different is)) in
    record {
      rest = sym (behind_name command words before job place name word rest o underway next found
          ∙ ap (λ v. read_on (place + 2) v (λ f. read_from command (before ++ o ∷ []) (f job) (place + 2) rest))
          some
          ∙ ap (read_from command (before ++ o ∷ []) (set job) (place + 2)) later);
      count = omega (arith, underway.count, length-append before (o ∷ []));
      listed = listed;
      different = different;
      few = omega (
        arith,
        underway.count,
        length-append before (o ∷ []),
        few_options (before ++ o ∷ []) listed different,
      );
    }

-- ---- what the calls answer, said of the words

-- the option that was found is that of the word
pub next_option_is : (command : Command) (before slice : List NamedOption) (name word : List ℕ)
    (found : Option NamedOption) → slice ≡ before → name ≡ word
    → found ≡ option_next command slice name → option_next command before word ≡ found
next_option_is command before slice name word found a b is = ap (λ l. option_next command l word) (sym a)
    ∙ ap (option_next command slice) (sym b) ∙ sym is

-- the value that was read is that of the word
pub value_is : (f : Field) (bytes word : List ℕ) (read : Option Setting) → bytes ≡ word
    → option_map sets read ≡ value_of f bytes → value_of f word ≡ option_map sets read
value_is f bytes word read same is = ap (value_of f) (sym same) ∙ sym is
