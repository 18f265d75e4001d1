-- The words read once, from left to right, give the job that they ask for or the place of their first bad word. Each
-- step reads a name or a value: where it finds none, the lemmas of BadPlaces show the place; where it finds one, the
-- words read so far are those of one option more.
use Rattle.std.proofs.Common.{inl, inr, ◌≡◌, ℕ, suc, ◌+◌, ◌*◌, true, false, not, ◌&&◌, List, [], ◌∷◌, ◌++◌, length, Option, None, Some, IsSome, is_some, unwrap_or, Result, Ok, Err, refl, sym, ap, subst, ◌∙◌, arith, append_assoc, length-append, if◌then◌else◌, Contains}
use Rattle.std.specs.List.{list_all}
use Rattle.std.proofs.lemmas.Bool.{and_from, and_parts, both_ways, false_from_ne_true, not-true, not_from_false}
use Rattle.std.proofs.lemmas.List.{append-nil}
use Rattle.pop_model.proofs.LanguagesLemmas.{regroup}
use Rattle.pop_words.specs.declared.command.Command.{Command}
use Rattle.pop_words.specs.declared.job.Job.{Job}
use Rattle.pop_words.specs.Options.{command_word, NamedOption, options, value_of, default_job}
use Rattle.pop_words.specs.CommandLines.{Choice, options_of, words_of, AreOptions, MayFollow, AreCompatible, Asks, IsBadPlace, job_from}
use Rattle.pop_words.specs.Reading.{option_named, command_named, same_name, allows, excludes, compatible, may_follow, option_next, is_complete, read_on, read_from, reading}
use Rattle.pop_words.proofs.ValuesLemmas.{passed, refused}
use Rattle.pop_words.proofs.ListTests.{all_at, all_from}
use Rattle.pop_words.proofs.TableFacts.{named, named_again, commanded, commanded_again, same_name_is, is_same_name, allows_from, allows_to, keeps_from, keeps_to}
use Rattle.pop_words.proofs.ChosenOptions.{are_listed, words-append, options-append, job-append, length-words_of, options_more}
use Rattle.pop_words.proofs.Completing.{complete_from, complete_to}
use Rattle.pop_words.proofs.BadPlaces.{bad_command, bad_name, bad_value, missing_value, missing_option}

-- ---- tests

-- what the test of two options says
compatible_from : (a b : NamedOption) → compatible a b ≡ true → AreCompatible a b
compatible_from a b test =
    let outer = and_parts (not (same_name a b) && not (excludes a b.name)) (not (excludes b a.name)) test in
    let inner = and_parts (not (same_name a b)) (not (excludes a b.name)) outer.0 in
    record {
      different = λ is. both_ways (same_name a b) (not-true _ inner.0) (is_same_name a b is);
      keeps = keeps_from a b.name (not-true _ inner.1);
      kept_by = keeps_from b a.name (not-true _ outer.1);
    }

-- two options that may stand together pass it
compatible_to : (a b : NamedOption) → AreCompatible a b → compatible a b ≡ true
compatible_to a b are =
    let apart : same_name a b ≡ false = false_from_ne_true (same_name a b)
    (λ test. are.different (same_name_is a b test)) in
    and_from _ _ (and_from _ _ (not_from_false _ apart) (not_from_false _ (keeps_to a b.name are.keeps)))
    (not_from_false _ (keeps_to b a.name are.kept_by))

-- what the test of the next option says of an option of the table
follow_from : (command : Command) (before : List NamedOption) (o : NamedOption) → Contains options o
    → may_follow command before o ≡ true → MayFollow command before o
follow_from command before o listed test =
    let parts = and_parts (allows o command) (list_all (λ other. compatible other o) before) test in
    record {
      listed = listed;
      allowed = allows_from o command parts.0;
      compatible = λ other among. compatible_from other o (all_at (λ p. compatible p o) before parts.1 other among);
    }

-- an option that may follow passes it
follow_to : (command : Command) (before : List NamedOption) (o : NamedOption) → MayFollow command before o
    → may_follow command before o ≡ true
follow_to command before o follows =
    and_from _ _ (allows_to o command follows.allowed) (all_from (λ p. compatible p o) before
    (λ other among. compatible_to other o (follows.compatible other among)))

-- the option that may stand next has its name, and may follow
pub next_is : (command : Command) (before : List NamedOption) (name : List ℕ) (o : NamedOption)
    → option_next command before name ≡ Some o
    → (o.name ≡ name) × MayFollow command before o
next_is command before name o found =
    let is = passed (may_follow command before) (option_named name) o found in
    let row = named name o is.0 in
    (row.1, follow_from command before o row.0 is.1)

-- where there is none, no option of this name may follow
none_next : (command : Command) (before : List NamedOption) (name : List ℕ) → option_next command before name ≡ None
    → (o : NamedOption) → o.name ≡ name → MayFollow command before o → ⊥
none_next command before name none o same follows =
    let found : option_named name ≡ Some o = ap option_named (sym same) ∙ named_again o follows.listed in
    let may = follow_to command before o follows in
    elim (refused (may_follow command before) (option_named name) none) [
      | inl unnamed ↦ (cc)
      | inr (p, is, may_not) ↦ let one : p ≡ o = cc in let may_too = ap (may_follow command before) one
          ∙ may in (cc)
    ]

-- ---- reading

-- what was read is right
abbrev pub IsReading : List (List ℕ) → Result Job ℕ → Type 0
IsReading words (Ok job) = Asks words job
IsReading words (Err place) = IsBadPlace words place

-- one step, by what it finds
step : {X : Type 0} (words : List (List ℕ)) (place : ℕ) (found : Option X) (next : X → Result Job ℕ)
    → (found ≡ None → IsBadPlace words place) → ((x : X) → found ≡ Some x → IsReading words (next x))
    → IsReading words (read_on place found next)
step words place None next none some = none refl
step words place (Some x) next none some = some x refl

-- the words so far
abbrev front : Command → List Choice → List (List ℕ)
front command chosen = command_word command ∷ words_of chosen

-- the words so far are one, and two for each option
length-front : (command : Command) (chosen : List Choice) → length (front command chosen) ≡ suc (2 * length chosen)
length-front command chosen = omega (arith, length-words_of chosen)

-- so long are they with a name behind them
length-front_name : (command : Command) (chosen : List Choice) (name : List ℕ)
    → length (front command chosen ++ name ∷ []) ≡ suc (2 * length chosen) + 1
length-front_name command chosen name = omega (
  arith,
  length-append (front command chosen)
      (name ∷ []),
  length-words_of chosen,
)

-- what is read of equal things
moved : (command : Command) (rest : List (List ℕ)) (l m : List (List ℕ)) (before names : List NamedOption)
    (job other : Job) (place at : ℕ)
    → l ≡ m → before ≡ names → job ≡ other → place ≡ at → IsReading l (read_from command before job place rest)
    → IsReading m (read_from command names other at rest)
moved command rest l m before names job other place at a b c d right =
    subst (λ x. IsReading x (read_from command names other at rest)) a
    (subst (λ x. IsReading l (read_from command x other at rest)) b
    (subst (λ x. IsReading l (read_from command before x at rest)) c
    (subst (λ x. IsReading l (read_from command before job x rest)) d right)))

-- a name of no option that may stand next is bad
bad_name_at : (command : Command) (chosen : List Choice) (name : List ℕ) (rest : List (List ℕ))
    → AreOptions command [] chosen
    → option_next command (options_of chosen) name ≡ None → IsBadPlace (front command chosen ++ name ∷ rest)
    (suc (2 * length chosen) + 1)
bad_name_at command chosen name rest options none =
    subst (IsBadPlace (front command chosen ++ name ∷ rest)) (omega (arith, length-front command chosen))
    (bad_name command chosen name rest options (none_next command (options_of chosen) name none))

-- a word that is no value of its option is bad
bad_value_at : (command : Command) (chosen : List Choice) (o : NamedOption) (word : List ℕ) (rest : List (List ℕ))
    → AreOptions command [] chosen
    → MayFollow command (options_of chosen) o → value_of o.field word ≡ None
    → IsBadPlace (front command chosen ++ o.name ∷ word ∷ rest) (suc (2 * length chosen) + 2)
bad_value_at command chosen o word rest options follows none =
    let bad = bad_value command chosen o word rest options follows
    (λ some. let t : is_some (value_of o.field word) ≡ false = ap is_some none in absurd (cc)) in
    let at : suc (length (front command chosen ++ o.name ∷ [])) ≡ suc (2 * length chosen) + 2 =
    omega (arith, length-front_name command chosen o.name) in
    subst (λ l. IsBadPlace l (suc (2 * length chosen) + 2))
    (sym (regroup (front command chosen) o.name (word ∷ rest)))
    (subst (IsBadPlace ((front command chosen ++ o.name ∷ []) ++ word ∷ rest)) at bad)

-- what is read behind options that were chosen
pub read_is : (command : Command) (chosen : List Choice) (rest : List (List ℕ)) → AreOptions command [] chosen
    → IsReading (front command chosen ++ rest) (read_from command (options_of chosen)
    (job_from (default_job command) chosen) (suc (2 * length chosen)) rest)
read_is command chosen [] options_are =
    (elim (is_complete command (options_of chosen)) as (λ b. is_complete command (options_of chosen) ≡ b
    → IsReading (front command chosen ++ []) (if b then Ok (job_from (default_job command) chosen) else Err
    (suc (2 * length chosen) + 1))) [
      | true ↦ λ test. record {
        command = command;
        chosen = chosen;
        words_are = append-nil (front command chosen);
        options = options_are;
        complete = complete_from command (options_of chosen) (are_listed command [] chosen options_are) test;
        job_is = refl;
      }
      | false ↦ λ test.
          subst (λ l. IsBadPlace l (suc (2 * length chosen) + 1)) (sym (append-nil (front command chosen)))
          (subst (IsBadPlace (front command chosen)) (omega (arith, length-front command chosen))
          (missing_option command chosen options_are (λ complete. let stands =
          complete_to command (options_of chosen) (are_listed command [] chosen options_are) complete in absurd (cc))))
    ]) refl
read_is command chosen (name ∷ []) options =
    step (front command chosen ++ name ∷ []) (suc (2 * length chosen) + 1)
    (option_next command (options_of chosen) name) (λ o. Err (suc (2 * length chosen) + 2))
    (bad_name_at command chosen name [] options)
    (λ o found.
    let is = next_is command (options_of chosen) name o found in
    let at : suc (length (front command chosen ++ o.name ∷ [])) ≡ suc (2 * length chosen) + 2 =
    omega (arith, length-front_name command chosen o.name) in
    subst (λ w. IsBadPlace (front command chosen ++ w ∷ []) (suc (2 * length chosen) + 2)) is.0
    (subst (IsBadPlace (front command chosen ++ o.name ∷ [])) at
    (missing_value command chosen o options is.1)))
read_is command chosen (name ∷ word ∷ rest) options =
    step (front command chosen ++ name ∷ word ∷ rest) (suc (2 * length chosen) + 1)
    (option_next command (options_of chosen) name)
    (λ o. read_on (suc (2 * length chosen) + 2) (value_of o.field word)
    (λ set. read_from command (options_of chosen ++ o ∷ []) (set (job_from (default_job command) chosen))
    (suc (2 * length chosen) + 2) rest))
    (bad_name_at command chosen name (word ∷ rest) options)
    (λ o found.
    let is = next_is command (options_of chosen) name o found in
    subst (λ w. IsReading (front command chosen ++ w ∷ word ∷ rest)
    (read_on (suc (2 * length chosen) + 2) (value_of o.field word)
    (λ set. read_from command (options_of chosen ++ o ∷ []) (set (job_from (default_job command) chosen))
    (suc (2 * length chosen) + 2) rest))) is.0
    (step (front command chosen ++ o.name ∷ word ∷ rest) (suc (2 * length chosen) + 2) (value_of o.field word)
    (λ set. read_from command (options_of chosen ++ o ∷ []) (set (job_from (default_job command) chosen))
    (suc (2 * length chosen) + 2) rest)
    (bad_value_at command chosen o word rest options is.1)
    (λ set read.
    let all = chosen ++ (o, word) ∷ [] in
    let value : IsSome (value_of o.field word) = ap is_some read in
    let words : front command all ++ rest ≡ front command chosen ++ o.name ∷ word ∷ rest =
    ap (λ l. command_word command ∷ (l ++ rest)) (words-append chosen ((o, word) ∷ []))
    ∙ ap (λ l. command_word command ∷ l) (append_assoc (words_of chosen) (o.name ∷ word ∷ []) rest) in
    let job : job_from (default_job command) all ≡ set (job_from (default_job command) chosen) =
    job-append (default_job command) chosen ((o, word) ∷ [])
    ∙ ap (λ (v : Option (Job → Job)). unwrap_or v (λ j. j) (job_from (default_job command) chosen)) read in
    let size : suc (2 * length all) ≡ suc (2 * length chosen) + 2 =
    omega (arith, length-append chosen ((o, word) ∷ [])) in
    moved command rest (front command all ++ rest) (front command chosen ++ o.name ∷ word ∷ rest)
    (options_of all) (options_of chosen ++ o ∷ [])
    (job_from (default_job command) all) (set (job_from (default_job command) chosen)) (suc (2 * length all))
    (suc (2 * length chosen) + 2)
    words (options-append chosen ((o, word) ∷ [])) job size
    (read_is command all rest (options_more command chosen o word options is.1 value)))))

-- each list of words is read right
pub reading_is : (words : List (List ℕ)) → IsReading words (reading words)
reading_is [] = bad_command [] (λ c h. cc)
reading_is (word ∷ rest) =
    step (word ∷ rest) 1 (command_named word) (λ c. read_from c [] (default_job c) 1 rest)
    (λ none. bad_command (word ∷ rest) (λ c first.
    let same : word ≡ command_word c = cc in
    let some : Some c ≡ None = sym (commanded_again c) ∙ ap command_named (sym same) ∙ none in cc))
    (λ c found. subst (λ w. IsReading (w ∷ rest) (read_from c [] (default_job c) 1 rest)) (commanded word c found)
    (read_is c [] rest tt))
