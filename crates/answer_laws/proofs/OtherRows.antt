-- Other rows are put into the place of those that words ask for. The options and their names stay, and so do the values
-- of all fields but the stacks. The stacks become the other rows, since those of the words were set by `--stacks` last.
use Rattle.std.proofs.Common.{◌≡◌, ℕ, Bool, true, false, cond, List, [], ◌∷◌, ◌++◌, map, drop, Option, None, Some, unwrap_or, refl, sym, ap, subst, ◌∙◌, Contains}
use Rattle.std.specs.Prelude.{IsSome, option_map}
use Rattle.std.proofs.lemmas.Bool.{false≢true}
use Rattle.pop_stacks.specs.declared.stack_spec.StackSpec.TheVariants.{Key as KeyedStacks, Given}
use Rattle.pop_words.specs.declared.command.Command.{Command}
use Rattle.pop_words.specs.declared.field.Field.{Field}
use Rattle.pop_words.specs.declared.field.Field.TheVariants.{Stacks, Key}
use Rattle.pop_words.specs.declared.job.Job.{Job}
use Rattle.pop_words.specs.Values.{key_in}
use Rattle.pop_words.specs.Options.{NamedOption, command_word, default_job, value_of}
use Rattle.pop_words.specs.CommandLines.{AreOptions, Asks, Choice, job_from, options_of, words_of}
use Rattle.pop_words.proofs.StandingOptions.{has_rows}
use Rattle.pop_samples.specs.Frames.{Rows}
use Rattle.run_cert.specs.Heads.{rows_text, MayBeStacks}
use Rattle.run_cert.proofs.SpelledRows.{rows_again}
use Rattle.run_cert.proofs.AskedStacks.{asked_stacks}
use Rattle.answer_laws.specs.ExactAnswers.{over_rows}
use Rattle.answer_laws.specs.OtherRows.{AskedOthers}
use Rattle.answer_laws.proofs.OptionKinds.{dropped, of_stacks, option_sets}

-- the word of rows
abbrev word_of : Rows → List ℕ
word_of rows = drop 1 (rows_text rows)

-- the field is that of rows
abbrev is_rows : Field → Bool
is_rows Stacks = true
is_rows field = false

-- a choice with these rows in place of its own; another option keeps its value
abbrev put : Rows → Choice → Choice
put rows p = (p.0, cond (is_rows p.0.field) (word_of rows) p.1)

-- the options are the same
same_options : (rows : Rows) (chosen : List Choice) → options_of (map (put rows) chosen) ≡ options_of chosen
same_options rows [] = refl
same_options rows (p ∷ chosen) = ap (λ (os : List NamedOption). p.0 ∷ os) (same_options rows chosen)

-- what an option sets by a word
abbrev set : Field → List ℕ → Job → Job
set field word = unwrap_or (value_of field word) (λ (j : Job). j)

-- the second job is the first but for its stacks, which are the rows where the first has rows
record Follows (rows : Rows) (j k : Job) : Type 0 where
  rest : dropped of_stacks j ≡ dropped of_stacks k
  given : has_rows j.stacks ≡ true → k.stacks ≡ Given rows

-- a job with a key, if one is read
abbrev keyed : Option (List ℕ) → Job → Job
keyed read =
    unwrap_or (option_map (λ (key : List ℕ) (job : Job). record job { stacks = KeyedStacks key }) read) (λ (m : Job). m)

-- a key takes the place of rows in both
key_follows : (rows : Rows) (j k : Job) (read : Option (List ℕ)) → (has_rows j.stacks ≡ true → k.stacks ≡ Given rows)
    → has_rows (keyed read j).stacks ≡ true → (keyed read k).stacks ≡ Given rows
key_follows rows j k None given has = given has
key_follows rows j k (Some key) given has = absurd (false≢true has)

module _ (rows : Rows) (may : MayBeStacks (Given rows)) where
  -- the word of the rows is a value
  still_value : (field : Field) (word : List ℕ) → IsSome (value_of field word)
      → IsSome (value_of field (cond (is_rows field) (word_of rows) word))
  still_value Stacks word is = rw (rows_again rows may) refl
  still_value field word is = is

  -- so each option may still stand where it stands
  still_options : (command : Command) (before : List NamedOption) (chosen : List Choice)
      → AreOptions command before chosen → AreOptions command before (map (put rows) chosen)
  still_options command before [] are = tt
  still_options command before (p ∷ chosen) are = (
    are.0,
    still_value p.0.field p.1 are.1,
    still_options command (before ++ p.0 ∷ []) chosen are.2,
  )

  -- rows are put into the place of rows
  rows_follow : (word : List ℕ) (j k : Job) → Follows rows j k
      → Follows rows (set Stacks word j) (set Stacks (word_of rows) k)
  rows_follow word j k h = record {
    rest = (option_sets of_stacks refl Stacks word).own refl j ∙ h.rest
        ∙ sym ((option_sets of_stacks refl Stacks (word_of rows)).own refl k);
    given = λ has. rw (rows_again rows may) refl;
  }

  -- another option leaves the stacks, and sets the same in both
  other_follows : (field : Field) → of_stacks field ≡ false → (word : List ℕ) (j k : Job) → Follows rows j k
      → (leaves : (m : Job) → (set field word m).stacks ≡ m.stacks) → Follows rows (set field word j) (set field word k)
  other_follows field differs word j k h leaves =
      let sets = option_sets of_stacks refl field word in
      record {
        rest = sets.other differs j ∙ ap (set field word) h.rest ∙ sym (sets.other differs k);
        given = λ has. leaves k ∙ h.given (sym (ap has_rows (leaves j)) ∙ has);
      }

  -- so each choice leads from jobs that follow to jobs that follow
  follows : (field : Field) (word : List ℕ) (j k : Job) → Follows rows j k
      → Follows rows (set field word j) (set field (cond (is_rows field) (word_of rows) word) k)
  follows Stacks word j k h = rows_follow word j k h
  follows Key word j k h = record {
    rest = (option_sets of_stacks refl Key word).own refl j ∙ h.rest
        ∙ sym ((option_sets of_stacks refl Key word).own refl k);
    given = key_follows rows j k (key_in word) h.given;
  }
  follows field word j k h =
      other_follows field refl word j k h
      (λ m. ap (λ (n : Job). n.stacks) ((option_sets (λ g. cond (of_stacks g) false true) refl field word).own refl m))

  -- and so do choices one after another
  all_follow : (chosen : List Choice) (j k : Job) → Follows rows j k
      → Follows rows (job_from j chosen) (job_from k (map (put rows) chosen))
  all_follow [] j k h = h
  all_follow (p ∷ chosen) j k h =
      all_follow chosen (set p.0.field p.1 j) (set p.0.field (put rows p).1 k) (follows p.0.field p.1 j k h)

  -- so the words ask for these rows
  asked_rows : (job : Job) (old : Rows) (words : List (List ℕ)) (asks : Asks words (over_rows job old))
      → Asks (command_word asks.command ∷ words_of (map (put rows) asks.chosen)) (over_rows job rows)
  asked_rows job old words asks =
      let start : Job = default_job asks.command in
      let j : Job = job_from start asks.chosen in
      let k : Job = job_from start (map (put rows) asks.chosen) in
      let both : Follows rows j k =
      all_follow asks.chosen start start (record { rest = refl; given = λ has. absurd (false≢true has) }) in
      let given : k.stacks ≡ Given rows = both.given (ap (λ (m : Job). has_rows m.stacks) (sym asks.job_is)) in
      let rest : dropped of_stacks (over_rows job old) ≡ dropped of_stacks k =
      ap (dropped of_stacks) asks.job_is ∙ both.rest in
      record {
        command = asks.command;
        chosen = map (put rows) asks.chosen;
        words_are = refl;
        options = still_options asks.command [] asks.chosen asks.options;
        complete = λ option listed allowed needed.
            subst (λ (os : List NamedOption). Contains os option) (sym (same_options rows asks.chosen))
            (asks.complete option listed allowed needed);
        job_is = ap (λ (m : Job). over_rows m rows) rest ∙ ap (λ s. record k { stacks = s }) (sym given);
      }

-- the law
pub asked_others : AskedOthers
asked_others job old words asks = (
  λ rows. command_word asks.command ∷ words_of (map (put rows) asks.chosen),
  λ rows. (
    asked_stacks (command_word asks.command ∷ words_of (map (put rows) asks.chosen)) (over_rows job rows),
    λ may. asked_rows rows may job old words asks,
  ),
)
