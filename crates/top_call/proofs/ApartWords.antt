-- Options of two kinds that exclude each other: only options of one of these kinds are ever chosen. So either what the
-- first kind sets has its default. Or the command is one that allows the first kind, and what the second kind sets has
-- its default.
use Rattle.std.proofs.Common.{inl, inr, ◌≡◌, ◌⊎◌, ℕ, Bool, true, false, not, ◌||◌, List, [], ◌∷◌, ◌++◌, Option, None, Some, refl, sym, ap, subst, ◌∙◌, arith, Contains}
use Rattle.std.specs.Prelude.{unwrap_or, option_map}
use Rattle.std.specs.List.{list_all, list_any}
use Rattle.std.proofs.lemmas.Bool.{cases_Bool, or_cases, both_ways, not-true, false_from_ne_true}
use Rattle.std.proofs.lemmas.List.Elements.{Contains-append_cases, Contains-append_right}
use Rattle.pop_model.proofs.Rising.{only_member, head_member}
use Rattle.pop_words.specs.declared.command.Command.{Command}
use Rattle.pop_words.specs.declared.field.Field.{Field}
use Rattle.pop_words.specs.declared.field.Field.TheVariants.{Stacks}
use Rattle.pop_words.specs.declared.job.Job.{Job}
use Rattle.pop_words.specs.Values.{rows_in}
use Rattle.pop_words.specs.Options.{NamedOption, options, value_of, default_job}
use Rattle.pop_words.specs.CommandLines.{Choice, options_of, AreOptions, Asks, set_option, job_from}
use Rattle.pop_words.specs.Reading.{excludes}
use Rattle.pop_words.proofs.ListTests.{all_at, some_at, some_from}
use Rattle.pop_words.proofs.ChosenOptions.{are_listed}
use Rattle.pop_words.proofs.StandingOptions.{asked_apart}

-- what each value leaves is left
pub kept : {X Y : Type 0} (look : Job → Y) (put : X → Job → Job) → ((x : X) (j : Job) → look (put x j) ≡ look j)
    → (job : Job) (read : Option X) → look (unwrap_or (option_map put read) (λ j. j) job) ≡ look job
kept look put leaves job None = refl
kept look put leaves job (Some x) = leaves x job

-- an option leaves the command
keeps_command : (f : Field) (word : List ℕ) (job : Job) → false ≡ false
    → (unwrap_or (value_of f word) (λ j. j) job).command ≡ job.command
keeps_command Stacks word job other = kept (λ (j : Job). j.command) _ (λ x j. refl) job (rows_in word)
keeps_command f word job other = kept (λ (j : Job). j.command) _ (λ x j. refl) job _

-- what each option of no such kind leaves, options leave of which none is of the kind
all_keep : {Y : Type 0} (kind : Field → Bool) (look : Job → Y)
    → ((f : Field) (word : List ℕ) (job : Job) → kind f ≡ false
    → look (unwrap_or (value_of f word) (λ j. j) job) ≡ look job)
    → (job : Job) (chosen : List Choice) → ((o : NamedOption) → Contains (options_of chosen) o → kind o.field ≡ false)
    → look (job_from job chosen) ≡ look job
all_keep kind look leaves job [] none = refl
all_keep kind look leaves job (p ∷ chosen) none =
    all_keep kind look leaves (set_option job p) chosen
    (λ o later. none o (Contains-append_right (p.0 ∷ []) (options_of chosen) o later))
    ∙ leaves p.0.field p.1 job (none p.0 (head_member p.0 (options_of chosen)))

-- so the job has the command of its words
asked_command : (words : List (List ℕ)) (job : Job) (asks : Asks words job) → job.command ≡ asks.command
asked_command words job asks =
    ap (λ (j : Job). j.command) asks.job_is
    ∙ all_keep (λ f. false) (λ (j : Job). j.command) keeps_command (default_job asks.command) asks.chosen (λ o among. refl)

-- and what no chosen option sets is as it is by default
unset : {Y : Type 0} (kind : Field → Bool) (look : Job → Y)
    → ((f : Field) (word : List ℕ) (job : Job) → kind f ≡ false
    → look (unwrap_or (value_of f word) (λ j. j) job) ≡ look job)
    → (words : List (List ℕ)) (job : Job) (asks : Asks words job)
    → ((o : NamedOption) → Contains (options_of asks.chosen) o → kind o.field ≡ false)
    → look job ≡ look (default_job job.command)
unset kind look leaves words job asks none =
    ap look asks.job_is ∙ all_keep kind look leaves (default_job asks.command) asks.chosen none
    ∙ ap (λ k. look (default_job k)) (sym (asked_command words job asks))

-- the command allows each option that was chosen
are_allowed : (command : Command) (before : List NamedOption) (chosen : List Choice) → AreOptions command before chosen
    → (o : NamedOption) → Contains (options_of chosen) o → Contains o.commands command
are_allowed command before [] are o (k, within, at) = absurd (omega arith)
are_allowed command before (p ∷ chosen) are o among =
    elim (Contains-append_cases (p.0 ∷ []) (options_of chosen) o among) [
      | inl first ↦ subst (λ q. Contains q.commands command) (only_member p.0 o first) are.0.allowed
      | inr later ↦ are_allowed command (before ++ p.0 ∷ []) chosen are.2 o later
    ]

-- so it fits, where an option was chosen of a kind that only commands allow which fit
pub kind_fits : (kind : Field → Bool) (fits : Command → Bool)
    → list_all (λ o. not (kind o.field) || list_all fits o.commands) options ≡ true
    → (words : List (List ℕ)) (job : Job) (asks : Asks words job) (o : NamedOption)
    → Contains (options_of asks.chosen) o → kind o.field ≡ true → fits job.command ≡ true
kind_fits kind fits all_fit words job asks o among is =
    elim (or_cases _ _ (all_at (λ p. not (kind p.field) || list_all fits p.commands) options all_fit o
    (are_listed asks.command [] asks.chosen asks.options o among))) [
      | inl never ↦ absurd (both_ways (kind o.field) (not-true _ never) is)
      | inr all ↦ subst (λ k. fits k ≡ true) (sym (asked_command words job asks))
          (all_at fits o.commands all asks.command (are_allowed asks.command [] asks.chosen asks.options o among))
    ]

-- Two kinds of options, by the fields that they set, and what of a job each kind sets. Those of the one kind are allowed
-- by these commands alone, and exclude those of the other.
pub record AreKinds {A B : Type 0} (one other : Field → Bool) (look : Job → A) (see : Job → B)
    (fits : Command → Bool) : Type 0 where
  pub leaves : (f : Field) (word : List ℕ) (job : Job) → one f ≡ false
      → look (unwrap_or (value_of f word) (λ j. j) job) ≡ look job
  pub others_leave : (f : Field) (word : List ℕ) (job : Job) → other f ≡ false
      → see (unwrap_or (value_of f word) (λ j. j) job) ≡ see job
  pub apart : (f : Field) → one f ≡ true → other f ≡ false
  pub all_fit : list_all (λ o. not (one o.field) || list_all fits o.commands) options ≡ true
  pub all_keep_out : list_all (λ o. list_all (λ p. not (one o.field) || (not (other p.field) || excludes o p.name))
      options) options ≡ true

-- beside an option of the one kind none of the other was chosen
kept_out : {A B : Type 0} (one other : Field → Bool) (look : Job → A) (see : Job → B) (fits : Command → Bool)
    → AreKinds one other look see fits → (words : List (List ℕ)) (job : Job) (asks : Asks words job) (o p : NamedOption)
    → Contains (options_of asks.chosen) o → Contains (options_of asks.chosen) p → one o.field ≡ true
    → other p.field ≡ true → ⊥
kept_out one other look see fits kinds words job asks o p among also is is_other =
    let listed = are_listed asks.command [] asks.chosen asks.options in
    let each : list_all (λ q. not (one o.field) || (not (other q.field) || excludes o q.name)) options ≡ true =
    all_at (λ r. list_all (λ q. not (one r.field) || (not (other q.field) || excludes r q.name)) options) options
    kinds.all_keep_out o (listed o among) in
    elim (or_cases _ _ (all_at (λ q. not (one o.field) || (not (other q.field) || excludes o q.name)) options each p
    (listed p also))) [
      | inl never ↦ both_ways (one o.field) (not-true _ never) is
      | inr more ↦ elim (or_cases _ _ more) [
        | inl never ↦ both_ways (other p.field) (not-true _ never) is_other
        | inr excluded ↦ asked_apart words job asks o p among also excluded
      ]
    ]

-- what the one kind sets is as it is by default; or the command fits, and what the other sets is
pub settled : {A B : Type 0} (one other : Field → Bool) (look : Job → A) (see : Job → B) (fits : Command → Bool)
    → AreKinds one other look see fits → (words : List (List ℕ)) (job : Job) → Asks words job
    → (look job ≡ look (default_job job.command))
    ⊎ ((fits job.command ≡ true) × (see job ≡ see (default_job job.command)))
settled one other look see fits kinds words job asks =
    let of_one : NamedOption → Bool = λ o. one o.field in
    elim (cases_Bool (list_any of_one (options_of asks.chosen))) [
      | inl some ↦
          let (o, among, is) = some_from of_one (options_of asks.chosen) some in
          inr (
            kind_fits one fits kinds.all_fit words job asks o among is,
            unset other see kinds.others_leave words job asks (λ p also. false_from_ne_true (other p.field)
                (kept_out one other look see fits kinds words job asks o p among also is)),
          )
      | inr none ↦ inl (unset one look kinds.leaves words job asks (λ o among. false_from_ne_true (one o.field)
          (λ is. both_ways _ none (some_at of_one (options_of asks.chosen) o among is))))
    ]
