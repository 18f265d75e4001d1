-- Where a list of words leaves the grammar. Options that were chosen so far can always be completed to a command line,
-- so the first word that may not stand is bad, and a list that ends in the middle is bad behind its end. Names tell
-- options apart, so a command line that begins with these words chose these options first.
use Rattle.std.proofs.Common.{◌≡◌, ℕ, suc, List, [], ◌∷◌, ◌++◌, length, Some, IsSome, slice_get, refl, sym, ap, subst, ◌∙◌}
use Rattle.std.proofs.lemmas.List.{append-nil}
use Rattle.pop_model.specs.Languages.{Begins}
use Rattle.pop_model.proofs.LanguagesLemmas.{first_bad, ends_early, regroup}
use Rattle.pop_words.specs.declared.command.Command.{Command}
use Rattle.pop_words.specs.declared.command.Command.TheVariants.{Formula}
use Rattle.pop_words.specs.Options.{command_word, NamedOption, value_of, default_job}
use Rattle.pop_words.specs.CommandLines.{Choice, options_of, words_of, AreOptions, MayFollow, AreComplete, AreWords, IsBadPlace, job_from}
use Rattle.pop_words.proofs.TableFacts.{same_option, same_command, example, example_is_value}
use Rattle.pop_words.proofs.ChosenOptions.{words-append, options_more, options_behind, words_split}
use Rattle.pop_words.proofs.Completing.{completes}

-- their words begin a command line
pub chosen_begins : (command : Command) (chosen : List Choice) → AreOptions command [] chosen
    → Begins AreWords (command_word command ∷ words_of chosen)
chosen_begins command chosen options =
    let all = completes command chosen options in (
      words_of all.more,
      (
        job_from (default_job command) (chosen ++ all.more),
        record {
          command = command;
          chosen = chosen ++ all.more;
          words_are = ap (λ l. command_word command ∷ l) (sym (words-append chosen all.more));
          options = all.options;
          complete = all.complete;
          job_is = refl;
        },
      ),
    )

-- so do they with the name of an option that may follow
pub name_begins : (command : Command) (chosen : List Choice) (o : NamedOption) → AreOptions command [] chosen
    → MayFollow command (options_of chosen) o
    → Begins AreWords ((command_word command ∷ words_of chosen) ++ o.name ∷ [])
name_begins command chosen o options follows =
    let more = options_more command chosen o (example o.field) options follows (example_is_value o.field) in
    let begins = chosen_begins command (chosen ++ (o, example o.field) ∷ []) more in
    let front = command_word command ∷ words_of chosen in
    let longer : command_word command ∷ words_of (chosen ++ (o, example o.field) ∷ []) ≡
    (front ++ o.name ∷ []) ++ example o.field ∷ [] =
    ap (λ l. command_word command ∷ l) (words-append chosen ((o, example o.field) ∷ []))
    ∙ regroup front o.name (example o.field ∷ []) in
    let again : (command_word command ∷ words_of (chosen ++ (o, example o.field) ∷ [])) ++ begins.0 ≡
    (front ++ o.name ∷ []) ++ example o.field ∷ begins.0 =
    ap (λ l. l ++ begins.0) longer ∙ sym (regroup (front ++ o.name ∷ []) (example o.field) begins.0) in
    (example o.field ∷ begins.0, subst AreWords again begins.1)

-- a command line that begins with these words has these options first, and the words behind them are options too
pub record Behind (command : Command) (chosen : List Choice) (tail : List (List ℕ)) : Type 0 where
  pub more : List Choice
  pub words : tail ≡ words_of more
  pub options : AreOptions command (options_of chosen) more
  pub complete : AreComplete command (options_of (chosen ++ more))

-- what stands behind options that were chosen first
pub behind : (command : Command) (chosen : List Choice) (tail : List (List ℕ)) → AreOptions command [] chosen
    → AreWords ((command_word command ∷ words_of chosen) ++ tail) → Behind command chosen tail
behind command chosen tail chosen_are (job, asks) =
    let first : command_word command ≡ command_word asks.command = ap head asks.words_are in
    let rest : words_of chosen ++ tail ≡ words_of asks.chosen = ap rest_of asks.words_are in
    let same : asks.command ≡ command = sym (same_command command asks.command first) in
    let split = words_split command asks.command [] [] chosen asks.chosen tail chosen_are asks.options rest in
    let options : AreOptions command [] (chosen ++ split.more) =
    subst (λ c. AreOptions c [] (chosen ++ split.more)) same
    (subst (AreOptions asks.command []) split.whole asks.options) in
    record {
      more = split.more;
      words = split.rest;
      options = options_behind command [] chosen split.more options;
      complete = subst (λ c. AreComplete c (options_of (chosen ++ split.more))) same
          (subst (λ l. AreComplete asks.command (options_of l)) split.whole asks.complete);
    }
  where
    head : List (List ℕ) → List ℕ
    head [] = []
    head (w ∷ ws) = w

    rest_of : List (List ℕ) → List (List ℕ)
    rest_of [] = []
    rest_of (w ∷ ws) = ws

-- a word that is the name of no option that may follow is bad
pub bad_name : (command : Command) (chosen : List Choice) (name : List ℕ) (rest : List (List ℕ))
    → AreOptions command [] chosen
    → ((o : NamedOption) → o.name ≡ name → MayFollow command (options_of chosen) o → ⊥)
    → IsBadPlace ((command_word command ∷ words_of chosen) ++ name ∷ rest)
    (suc (length (command_word command ∷ words_of chosen)))
bad_name command chosen name rest options none =
    first_bad AreWords (command_word command ∷ words_of chosen) name rest (chosen_begins command chosen options)
    (λ more line. let b = behind command chosen (name ∷ more) options line in no_name b.more b.words b.options)
  where
    no_name : {more : List (List ℕ)} (next : List Choice) → name ∷ more ≡ words_of next
        → AreOptions command (options_of chosen) next → ⊥
    no_name [] same next = cc
    no_name (p ∷ ps) same next = let is : p.0.name ≡ name = cc in none p.0 is next.0

-- a word that is no value of its option is bad
pub bad_value : (command : Command) (chosen : List Choice) (o : NamedOption) (word : List ℕ) (rest : List (List ℕ))
    → AreOptions command [] chosen
    → MayFollow command (options_of chosen) o → (IsSome (value_of o.field word) → ⊥)
    → IsBadPlace (((command_word command ∷ words_of chosen) ++ o.name ∷ []) ++ word ∷ rest)
    (suc (length ((command_word command ∷ words_of chosen) ++ o.name ∷ [])))
bad_value command chosen o word rest options follows none =
    first_bad AreWords ((command_word command ∷ words_of chosen) ++ o.name ∷ []) word rest
    (name_begins command chosen o options follows)
    (λ more line. let b = behind command chosen (o.name ∷ word ∷ more) options
    (subst AreWords (sym (regroup (command_word command ∷ words_of chosen) o.name (word ∷ more))) line) in
    no_value b.more b.words b.options)
  where
    no_value : {more : List (List ℕ)} (next : List Choice) → o.name ∷ word ∷ more ≡ words_of next
        → AreOptions command (options_of chosen) next → ⊥
    no_value [] same next = cc
    no_value (p ∷ ps) same next =
        let name : p.0.name ≡ o.name = cc in
        let value : p.1 ≡ word = cc in
        none (subst (λ w. IsSome (value_of o.field w)) value (subst (λ x. IsSome (value_of x.field p.1))
        (same_option p.0 o next.0.listed follows.listed name) next.1))

-- the value of the last name is missing
pub missing_value : (command : Command) (chosen : List Choice) (o : NamedOption) → AreOptions command [] chosen
    → MayFollow command (options_of chosen) o
    → IsBadPlace ((command_word command ∷ words_of chosen) ++ o.name ∷ [])
    (suc (length ((command_word command ∷ words_of chosen) ++ o.name ∷ [])))
missing_value command chosen o options follows =
    ends_early AreWords ((command_word command ∷ words_of chosen) ++ o.name ∷ [])
    (name_begins command chosen o options follows)
    (λ line. let b = behind command chosen (o.name ∷ []) options line in no_value b.more b.words)
  where
    no_value : (next : List Choice) → o.name ∷ [] ≡ words_of next → ⊥
    no_value [] same = cc
    no_value (p ∷ ps) same = cc

-- a needed option is missing
pub missing_option : (command : Command) (chosen : List Choice) → AreOptions command [] chosen
    → (AreComplete command (options_of chosen) → ⊥)
    → IsBadPlace (command_word command ∷ words_of chosen) (suc (length (command_word command ∷ words_of chosen)))
missing_option command chosen options none =
    ends_early AreWords (command_word command ∷ words_of chosen) (chosen_begins command chosen options)
    (λ line. let b = behind command chosen [] options (subst AreWords
    (sym (append-nil (command_word command ∷ words_of chosen))) line) in none (no_more b.more b.words b.complete))
  where
    no_more : (more : List Choice) → [] ≡ words_of more → AreComplete command (options_of (chosen ++ more))
        → AreComplete command (options_of chosen)
    no_more [] same complete = subst (λ l. AreComplete command (options_of l)) (append-nil chosen) complete
    no_more (p ∷ ps) same complete = absurd (cc)

-- there is a command line
some_line : Begins AreWords []
some_line = let begins = chosen_begins Formula [] tt in (command_word Formula ∷ begins.0, begins.1)

-- no words, or a first word that is no command
pub bad_command : (words : List (List ℕ)) → ((c : Command) → slice_get words 0 ≡ Some (command_word c) → ⊥)
    → IsBadPlace words 1
bad_command [] none = ends_early AreWords [] some_line (λ (job, asks). none asks.command
    (ap (λ l. slice_get l 0) asks.words_are))
bad_command (w ∷ ws) none =
    first_bad AreWords [] w ws some_line (λ more (job, asks). none asks.command
    (ap (λ l. slice_get l 0) asks.words_are))
