-- What no command has by default was set by an option, which stands among those that were chosen. Of two options that
-- exclude each other only one does.
use Rattle.std.proofs.Common.{inl, inr, ◌≡◌, ℕ, Bool, true, false, not, List, [], ◌∷◌, ◌++◌, Option, None, Some, unwrap_or, refl, sym, subst, arith, append_assoc, Contains}
use Rattle.std.specs.List.{list_all}
use Rattle.std.specs.Option.{is_some}
use Rattle.std.proofs.lemmas.Bool.{false≢true, not-true, both_ways}
use Rattle.std.proofs.lemmas.List.{append-nil}
use Rattle.std.proofs.lemmas.List.Elements.{Contains-append_left, Contains-append_right, Contains-push_cases}
use Rattle.std.proofs.lemmas.Map.Views.{Contains-from_any}
use Rattle.std.proofs.lemmas.Slice.Eq.{bytes_eq-Decides}
use Rattle.pop_model.proofs.Rising.{head_member}
use Rattle.pop_stacks.specs.declared.stack_spec.StackSpec.{StackSpec}
use Rattle.pop_stacks.specs.declared.stack_spec.StackSpec.TheVariants.{Key as KeyedStacks, Given}
use Rattle.pop_words.specs.declared.command.Command.{Command}
use Rattle.pop_words.specs.declared.field.Field.{Field}
use Rattle.pop_words.specs.declared.field.Field.TheVariants.{Stacks, Key, Height, Grow, Count, Pops, Workers, Board, Log, Root, Witness, Reports, Size}
use Rattle.pop_words.specs.declared.job.Job.{Job}
use Rattle.pop_words.specs.Values.{rows_in, key_in}
use Rattle.pop_words.specs.Options.{NamedOption, options, value_of, default_job}
use Rattle.pop_words.specs.CommandLines.{Choice, options_of, AreOptions, Asks, MayFollow, set_option, job_from}
use Rattle.pop_words.specs.Reading.{excludes}
use Rattle.pop_words.proofs.ListTests.{all_at}
use Rattle.pop_words.proofs.JobsInRange.{of_map}

-- ---- what was set

-- rows are given
abbrev pub has_rows : StackSpec → Bool
has_rows (Given rows) = true
has_rows (KeyedStacks key) = false

-- an option that sets the field stands among these
abbrev pub Stands : Field → List NamedOption → Type 0
Stands field before = (o : NamedOption) × Contains before o × (o.field ≡ field)

-- given rows were set by an option among these, and so were a last height, a number of samples and one of pops
abbrev pub AreSet : List NamedOption → Job → Type 0
AreSet before job =
    (has_rows job.stacks ≡ true → Stands Stacks before) × (is_some job.grow ≡ true → Stands Grow before)
    × (is_some job.count ≡ true → Stands Count before) × (is_some job.pops ≡ true → Stands Pops before)

-- what stands among these stands among more
later : (field : Field) (before : List NamedOption) (o : NamedOption) → Stands field before
    → Stands field (before ++ o ∷ [])
later field before o stands = (stands.0, Contains-append_left before (o ∷ []) stands.0 stands.1, stands.2)

-- so does the last of them
last : (field : Field) (before : List NamedOption) (o : NamedOption) → o.field ≡ field
    → Stands field (before ++ o ∷ [])
last field before o is = (o, Contains-append_right before (o ∷ []) o (head_member o []), is)

-- what was set by options among these was set by options among more
set_later : (before : List NamedOption) (o : NamedOption) (job : Job) → AreSet before job
    → AreSet (before ++ o ∷ []) job
set_later before o job are = (
  λ given. later Stacks before o (are.0 given),
  λ grows. later Grow before o (are.1 grows),
  λ many. later Count before o (are.2 many),
  λ stops. later Pops before o (are.3 stops),
)

-- an option sets its field alone
set_more : (before : List NamedOption) (o : NamedOption) (word : List ℕ) (job : Job) (set : Job → Job)
    → value_of o.field word ≡ Some set → AreSet before job → AreSet (before ++ o ∷ []) (set job)
set_more before o word job set value are = by_field o.field refl value
  where
    now : AreSet (before ++ o ∷ []) job
    now = set_later before o job are

    by_field : (f : Field) → o.field ≡ f → value_of f word ≡ Some set → AreSet (before ++ o ∷ []) (set job)
    by_field Stacks is some = of_map (AreSet (before ++ o ∷ [])) job set _ (rows_in word)
        (λ rows read. (λ given. last Stacks before o is, now.1, now.2, now.3)) some
    by_field Key is some = of_map (AreSet (before ++ o ∷ [])) job set _ (key_in word)
        (λ key read. (λ given. absurd (false≢true given), now.1, now.2, now.3)) some
    by_field Height is some = of_map (AreSet (before ++ o ∷ [])) job set _ _ (λ x read. now) some
    by_field Grow is some = of_map (AreSet (before ++ o ∷ [])) job set _ _
        (λ x read. (now.0, λ grows. last Grow before o is, now.2, now.3)) some
    by_field Count is some = of_map (AreSet (before ++ o ∷ [])) job set _ _
        (λ x read. (now.0, now.1, λ many. last Count before o is, now.3)) some
    by_field Pops is some = of_map (AreSet (before ++ o ∷ [])) job set _ _
        (λ x read. (now.0, now.1, now.2, λ stops. last Pops before o is)) some
    by_field Workers is some = of_map (AreSet (before ++ o ∷ [])) job set _ _ (λ x read. now) some
    by_field Board is some = of_map (AreSet (before ++ o ∷ [])) job set _ _ (λ x read. now) some
    by_field Log is some = of_map (AreSet (before ++ o ∷ [])) job set _ _ (λ x read. now) some
    by_field Root is some = of_map (AreSet (before ++ o ∷ [])) job set _ _ (λ x read. now) some
    by_field Witness is some = of_map (AreSet (before ++ o ∷ [])) job set _ _ (λ x read. now) some
    by_field Reports is some = of_map (AreSet (before ++ o ∷ [])) job set _ _ (λ x read. now) some
    by_field Size is some = of_map (AreSet (before ++ o ∷ [])) job set _ _ (λ x read. now) some

-- so does a choice
choice_sets : (before : List NamedOption) (job : Job) (p : Choice) → AreSet before job
    → AreSet (before ++ p.0 ∷ []) (set_option job p)
choice_sets before job p are = by_value (value_of p.0.field p.1) refl
  where
    by_value : (value : Option (Job → Job)) → value_of p.0.field p.1 ≡ value
        → AreSet (before ++ p.0 ∷ []) (unwrap_or value (λ j. j) job)
    by_value None none = set_later before p.0 job are
    by_value (Some set) some = set_more before p.0 p.1 job set some are

-- so do choices one after another
choices_set : (before : List NamedOption) (job : Job) (chosen : List Choice) → AreSet before job
    → AreSet (before ++ options_of chosen) (job_from job chosen)
choices_set before job [] are = subst (λ os. AreSet os job) (sym (append-nil before)) are
choices_set before job (p ∷ chosen) are =
    subst (λ os. AreSet os (job_from (set_option job p) chosen)) (append_assoc before (p.0 ∷ []) (options_of chosen))
    (choices_set (before ++ p.0 ∷ []) (set_option job p) chosen (choice_sets before job p are))

-- no command sets rows, a last height, a number of samples or one of pops by default
none_set : (command : Command) → AreSet [] (default_job command)
none_set command = (
  λ given. absurd (false≢true given),
  λ grows. absurd (false≢true grows),
  λ many. absurd (false≢true many),
  λ stops. absurd (false≢true stops),
)

-- so what a job has was set by an option that was chosen
pub asked_set : (words : List (List ℕ)) (job : Job) (asks : Asks words job) → AreSet (options_of asks.chosen) job
asked_set words job asks = subst (AreSet (options_of asks.chosen)) (sym asks.job_is)
    (choices_set [] (default_job asks.command) asks.chosen (none_set asks.command))

-- ---- what stands together

-- each of these may stand beside each
abbrev pub AreApart : List NamedOption → Type 0
AreApart os = (a b : NamedOption) → Contains os a → Contains os b → excludes a b.name ≡ true → ⊥

-- no option excludes itself
none_excludes_itself : list_all (λ o. not (excludes o o.name)) options ≡ true
none_excludes_itself = refl

-- the test of excluded names finds them among those of the row
among_excluded : (o : NamedOption) (name : List ℕ) → excludes o name ≡ true → Contains o.excludes name
among_excluded o name test = Contains-from_any (λ a b. (bytes_eq-Decides a b).0) name o.excludes test

-- options stay apart with one more that may follow
apart_more : (command : Command) (before : List NamedOption) (o : NamedOption) → AreApart before
    → MayFollow command before o → AreApart (before ++ o ∷ [])
apart_more command before o apart follows a b a_in b_in test =
    elim (Contains-push_cases before o a a_in) [
      | inl a_before ↦ elim (Contains-push_cases before o b b_in) [
        | inl b_before ↦ apart a b a_before b_before test
        | inr b_last ↦ (follows.compatible a a_before).keeps
            (subst (λ p. Contains a.excludes p.name) (sym b_last) (among_excluded a b.name test))
      ]
      | inr a_last ↦ elim (Contains-push_cases before o b b_in) [
        | inl b_before ↦ (follows.compatible b b_before).kept_by
            (subst (λ p. Contains p.excludes b.name) (sym a_last) (among_excluded a b.name test))
        | inr b_last ↦ both_ways (excludes o o.name)
            (not-true _ (all_at (λ p. not (excludes p p.name)) options none_excludes_itself o follows.listed))
            (subst (λ p. excludes p o.name ≡ true) (sym a_last)
            (subst (λ p. excludes a p.name ≡ true) (sym b_last) test))
      ]
    ]

-- chosen options stand apart
chosen_apart : (command : Command) (before : List NamedOption) (chosen : List Choice)
    → AreOptions command before chosen → AreApart before → AreApart (before ++ options_of chosen)
chosen_apart command before [] are apart = subst AreApart (sym (append-nil before)) apart
chosen_apart command before (p ∷ chosen) are apart =
    subst AreApart (append_assoc before (p.0 ∷ []) (options_of chosen))
    (chosen_apart command (before ++ p.0 ∷ []) chosen are.2 (apart_more command before p.0 apart are.0))

-- the options of a command line stand apart
pub asked_apart : (words : List (List ℕ)) (job : Job) (asks : Asks words job) → AreApart (options_of asks.chosen)
asked_apart words job asks =
    chosen_apart asks.command [] asks.chosen asks.options (λ a b (k, within, at) b_in test. omega arith)
