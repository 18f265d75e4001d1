-- Where rows are given, neither a last height nor a batch is asked for: the options of these and those of rows exclude each
-- other.
use Rattle.std.proofs.Common.{inl, inr, ◌≡◌, ℕ, Bool, true, false, not, ◌||◌, List, [], Option, None, Some, refl, ap, ◌∙◌}
use Rattle.std.specs.List.{list_all}
use Rattle.std.specs.Option.{is_some}
use Rattle.std.proofs.lemmas.Bool.{not-true, or_cases, both_ways}
use Rattle.pop_stacks.specs.declared.stack_spec.StackSpec.TheVariants.{Given}
use Rattle.pop_words.specs.declared.field.Field.{Field}
use Rattle.pop_words.specs.declared.field.Field.TheVariants.{Stacks, Grow, Count}
use Rattle.pop_words.specs.declared.job.Job.{Job}
use Rattle.pop_words.specs.Options.{NamedOption, options}
use Rattle.pop_words.specs.CommandLines.{options_of, Asks}
use Rattle.pop_words.specs.Reading.{excludes}
use Rattle.pop_words.proofs.ListTests.{all_at}
use Rattle.pop_words.proofs.ChosenOptions.{are_listed}
use Rattle.pop_words.proofs.StandingOptions.{has_rows, Stands, asked_set, asked_apart}

-- an option sets rows
abbrev is_of_rows : Field → Bool
is_of_rows Stacks = true
is_of_rows field = false

-- an option sets what no given rows have
abbrev is_of_keys : Field → Bool
is_of_keys Grow = true
is_of_keys Count = true
is_of_keys field = false

-- one of two options excludes the other, if one sets rows and the other what no given rows have
abbrev keep_apart : NamedOption → NamedOption → Bool
keep_apart rows keyed = not (is_of_rows rows.field) || (not (is_of_keys keyed.field)
    || (excludes rows keyed.name || excludes keyed rows.name))

-- of each two options that is computed
all_keep_apart : list_all (λ rows. list_all (keep_apart rows) options) options ≡ true
all_keep_apart = refl

-- so options of the two never stand together
never_both : (words : List (List ℕ)) (job : Job) (asks : Asks words job) (field : Field) → is_of_keys field ≡ true
    → Stands Stacks (options_of asks.chosen) → Stands field (options_of asks.chosen) → ⊥
never_both words job asks field is_keyed rows keyed =
    let apart = asked_apart words job asks in
    let listed = are_listed asks.command [] asks.chosen asks.options in
    let each : list_all (keep_apart rows.0) options ≡ true =
    all_at (λ o. list_all (keep_apart o) options) options all_keep_apart rows.0 (listed rows.0 rows.1) in
    let test : keep_apart rows.0 keyed.0 ≡ true =
    all_at (keep_apart rows.0) options each keyed.0 (listed keyed.0 keyed.1) in
    elim (or_cases _ _ test) [
      | inl no_rows ↦ both_ways (is_of_rows rows.0.field) (not-true _ no_rows) (ap is_of_rows rows.2)
      | inr more ↦ elim (or_cases _ _ more) [
        | inl no_keyed ↦ both_ways (is_of_keys keyed.0.field) (not-true _ no_keyed) (ap is_of_keys keyed.2 ∙ is_keyed)
        | inr excluded ↦ elim (or_cases _ _ excluded) [
          | inl by_rows ↦ apart rows.0 keyed.0 rows.1 keyed.1 by_rows
          | inr by_keyed ↦ apart keyed.0 rows.0 keyed.1 rows.1 by_keyed
        ]
      ]
    ]

-- what isn't there
none_of : {X : Type 0} (o : Option X) → (is_some o ≡ true → ⊥) → o ≡ None
none_of None never = refl
none_of (Some x) never = absurd (never refl)

-- where rows are given, neither a last height nor a batch is asked for
pub asked_alone : (words : List (List ℕ)) (job : Job) → Asks words job → (rows : List (List ℕ))
    → job.stacks ≡ Given rows → (job.grow ≡ None) × (job.count ≡ None)
asked_alone words job asks rows given =
    let are = asked_set words job asks in
    let stand = are.0 (ap has_rows given) in (
      none_of job.grow (λ grows. never_both words job asks Grow refl stand (are.1 grows)),
      none_of job.count (λ many. never_both words job asks Count refl stand (are.2 many)),
    )
