-- The grammar leaves no choice: a list of words is the word of one command and the words of one list of options, and a
-- first bad place is one in every language.
use Rattle.std.proofs.Common.{inl, inr, ◌≡◌, ℕ, suc, ◌<◌, ◌≤◌, List, [], ◌∷◌, ◌++◌, length, take, drop, sym, ap, subst, ◌∙◌, arith, append_assoc, take-append-drop}
use Rattle.std.proofs.lemmas.List.{append-nil, take-take}
use Rattle.std.proofs.lemmas.Bool.{cases_lt}
use Rattle.pop_model.specs.Languages.{Begins, IsFirstBad}
use Rattle.pop_words.specs.declared.command.Command.{Command}
use Rattle.pop_words.specs.declared.job.Job.{Job}
use Rattle.pop_words.specs.Options.{command_word, default_job}
use Rattle.pop_words.specs.CommandLines.{Choice, words_of, AreOptions, Asks, job_from}
use Rattle.pop_words.proofs.TableFacts.{same_command}
use Rattle.pop_words.proofs.ChosenOptions.{words_split}

-- options with the same words are the same
same_chosen : (c d : Command) (xs zs : List Choice) → AreOptions c [] xs → AreOptions d [] zs
    → words_of xs ≡ words_of zs → xs ≡ zs
same_chosen c d xs zs left right same =
    let split = words_split c d [] [] xs zs [] left right (append-nil (words_of xs) ∙ same) in
    alone split.more split.rest split.whole
  where
    alone : (more : List Choice) → [] ≡ words_of more → zs ≡ xs ++ more → xs ≡ zs
    alone [] none whole = sym (whole ∙ append-nil xs)
    alone (p ∷ more) none whole = absurd (cc)

-- a list of words asks for one job
pub same_job : (words : List (List ℕ)) (a b : Job) → Asks words a → Asks words b → a ≡ b
same_job words a b left right =
    let both : command_word left.command ∷ words_of left.chosen
    ≡ command_word right.command ∷ words_of right.chosen = sym left.words_are ∙ right.words_are in
    let command : left.command ≡ right.command = same_command left.command right.command (cc) in
    let chosen : left.chosen ≡ right.chosen =
    same_chosen left.command right.command left.chosen right.chosen left.options right.options (cc) in
    left.job_is ∙ ap (λ c. job_from (default_job c) left.chosen) command
    ∙ ap (job_from (default_job right.command)) chosen ∙ sym right.job_is

-- what begins with more begins with less
begins_shorter : {X : Type 0} (In : List X → Type 0) (xs : List X) (m n : ℕ) → m ≤ n → Begins In (take n xs)
    → Begins In (take m xs)
begins_shorter In xs m n less (rest, member) =
    let shorter : take m (take n xs) ≡ take m xs = take-take m n xs less in
    let whole : take m xs ++ drop m (take n xs) ≡ take n xs = ap (λ l. l ++ drop m (take n xs)) (sym shorter)
    ∙ take-append-drop m (take n xs) in (
      drop m (take n xs) ++ rest,
      subst In (ap (λ l. l ++ rest) (sym whole)
          ∙ append_assoc (take m xs) (drop m (take n xs)) rest) member,
    )

-- no first bad place stands before another
none_before : {X : Type 0} (In : List X → Type 0) (xs : List X) (p q : ℕ) → IsFirstBad In xs p → IsFirstBad In xs q
    → p < q → ⊥
none_before In xs p q first other less =
    let k = other.place.0 in
    let last : q ≡ suc k = other.place.1 in
    let within : k ≤ length xs = other.place.2 in
    first.bad (omega arith) (begins_shorter In xs p k (omega arith) other.place.3)

-- there is one first bad place
pub same_first_bad : {X : Type 0} (In : List X → Type 0) (xs : List X) (p q : ℕ) → IsFirstBad In xs p
    → IsFirstBad In xs q → p ≡ q
same_first_bad In xs p q first other = elim (cases_lt p q) [
  | inl less ↦ absurd (none_before In xs p q first other less)
  | inr past ↦ elim (cases_lt q p) [
    | inl more ↦ absurd (none_before In xs q p other first more)
    | inr within ↦ omega arith
  ]
]
