-- Options that were chosen can be completed to a command line. Of all options, each that is needed and missing is added
-- behind, with a word that it takes; it may follow, since a needed option excludes none.
use Rattle.std.proofs.Common.{inl, inr, ◌≡◌, ◌⊎◌, Bool, true, false, not, ◌&&◌, ◌||◌, List, [], ◌∷◌, ◌++◌, refl, sym, subst, arith, append_assoc, Contains}
use Rattle.std.specs.List.{list_any}
use Rattle.std.proofs.lemmas.List.{append-nil}
use Rattle.std.proofs.lemmas.List.Elements.{Contains-append_cases, Contains-append_left, Contains-append_right, Contains-push}
use Rattle.std.proofs.lemmas.Map.Views.{list_any-from_Contains}
use Rattle.pop_model.proofs.Rising.{only_member, head_member}
use Rattle.pop_words.specs.declared.command.Command.{Command}
use Rattle.pop_words.specs.Options.{NamedOption, options}
use Rattle.pop_words.specs.CommandLines.{Choice, options_of, AreOptions, MayFollow, AreComplete}
use Rattle.pop_words.specs.Reading.{same_name, allows, stands_if_needed, is_complete}
use Rattle.pop_words.proofs.ListTests.{all_at, all_from, some_from}
use Rattle.pop_words.proofs.TableFacts.{allows_from, allows_to, example, example_is_value, needed_is_compatible, same_name_is, same_name_laws, same_option}
use Rattle.pop_words.proofs.ChosenOptions.{are_listed, options-append, options_more}

-- ---- the test

-- an option stands where it is needed
record Stands (command : Command) (chosen : List NamedOption) (o : NamedOption) : Type 0 where
  pub stands : Contains o.commands command → o.needed ≡ true → Contains chosen o

-- it is allowed and needed, and is missing
record IsMissing (command : Command) (chosen : List NamedOption) (o : NamedOption) : Type 0 where
  pub allowed : Contains o.commands command
  pub needed : o.needed ≡ true
  pub missing : Contains chosen o → ⊥

-- these options are in the table
abbrev AreListed : List NamedOption → Type 0
AreListed chosen = (p : NamedOption) → Contains chosen p → Contains options p

-- an option whose name stands among those of others is one of them
is_among : (chosen : List NamedOption) (o : NamedOption) → AreListed chosen → Contains options o
    → list_any (same_name o) chosen ≡ true → Contains chosen o
is_among chosen o all_listed listed test =
    let one = some_from (same_name o) chosen test in
    subst (Contains chosen)
    (sym (same_option o one.0 listed (all_listed one.0 one.1) (same_name_is o one.0 one.2))) one.1

-- by the outcomes of its three tests
by_tests : (command : Command) (chosen : List NamedOption) (o : NamedOption) → AreListed chosen → Contains options o
    → (allowed needed among : Bool) → allows o command ≡ allowed
    → o.needed ≡ needed → list_any (same_name o) chosen ≡ among
    → (((not (allowed && needed) || among) ≡ true) × Stands command chosen o)
    ⊎ (((not (allowed && needed) || among) ≡ false) × IsMissing command chosen o)
by_tests command chosen o all_listed listed false needed among a n m = inl (
  refl,
  record {
    stands = λ yes_allowed yes_needed. let yes = allows_to o command yes_allowed in absurd
        (cc);
  },
)
by_tests command chosen o all_listed listed true false among a n m = inl (
  refl,
  record {
    stands = λ yes_allowed yes_needed. absurd
        (cc);
  },
)
by_tests command chosen o all_listed listed true true true a n m = inl (
  refl,
  record { stands = λ yes_allowed yes_needed. is_among chosen o all_listed listed m },
)
by_tests command chosen o all_listed listed true true false a n m = inr (
  refl,
  record {
    allowed = allows_from o command a;
    needed = n;
    missing = λ among.
        let found = list_any-from_Contains same_name_laws o chosen among in absurd (cc);
  },
)

-- an option stands where it is needed, or is missing
stands_or_missing : (command : Command) (chosen : List NamedOption) (o : NamedOption) → AreListed chosen
    → Contains options o
    → ((stands_if_needed command chosen o ≡ true) × Stands command chosen o)
    ⊎ ((stands_if_needed command chosen o ≡ false) × IsMissing command chosen o)
stands_or_missing command chosen o all_listed listed = by_tests command chosen o all_listed listed _ _ _ refl refl refl

-- where the test says so, no needed option is missing
pub complete_from : (command : Command) (chosen : List NamedOption) → AreListed chosen
    → is_complete command chosen ≡ true → AreComplete command chosen
complete_from command chosen all_listed test o listed allowed needed =
    elim (stands_or_missing command chosen o all_listed listed) [
      | inl stands ↦ stands.1.stands allowed needed
      | inr missing ↦ let stands = all_at (stands_if_needed command chosen) options test o listed in absurd
          (cc)
    ]

-- where no needed option is missing, the test says so
pub complete_to : (command : Command) (chosen : List NamedOption) → AreListed chosen → AreComplete command chosen
    → is_complete command chosen ≡ true
complete_to command chosen all_listed complete = all_from (stands_if_needed command chosen) options
    (λ o listed. elim (stands_or_missing command chosen o all_listed listed) [
      | inl stands ↦ stands.0
      | inr missing ↦ absurd (missing.1.missing (complete o listed missing.1.allowed missing.1.needed))
    ])

-- ---- completing

-- options behind the chosen ones, so that of some options none is missing
record Fills (command : Command) (chosen : List Choice) (os : List NamedOption) : Type 0 where
  pub more : List Choice
  pub options : AreOptions command [] (chosen ++ more)
  pub filled : (o : NamedOption) → Contains os o → Stands command (options_of (chosen ++ more)) o

-- each option that is needed and missing is added behind
fill : (command : Command) (chosen : List Choice) (os : List NamedOption) → AreListed os
    → AreOptions command [] chosen → Fills command chosen os
fill command chosen [] all_listed are =
    record {
      more = [];
      options = subst (AreOptions command []) (sym (append-nil chosen)) are;
      filled = λ o (k, within, at). absurd (omega arith);
    }
fill command chosen (o ∷ os) all_listed are =
    step (fill command chosen os (λ p later. all_listed p (Contains-append_right (o ∷ []) os p later)) are)
  where
    listed : Contains options o
    listed = all_listed o (head_member o os)

    missing_of : (rest : Fills command chosen os)
        → ((stands_if_needed command (options_of (chosen ++ rest.more)) o ≡ true)
        × Stands command (options_of (chosen ++ rest.more)) o)
        ⊎ ((stands_if_needed command (options_of (chosen ++ rest.more)) o ≡ false)
        × IsMissing command (options_of (chosen ++ rest.more)) o)
    missing_of rest = stands_or_missing command (options_of (chosen ++ rest.more)) o
        (are_listed command [] (chosen ++ rest.more) rest.options) listed

    step : Fills command chosen os → Fills command chosen (o ∷ os)
    step rest = elim (missing_of rest) [
      | inl stands ↦ record {
        more = rest.more;
        options = rest.options;
        filled = λ p among. elim (Contains-append_cases (o ∷ []) os p among) [
          | inl first ↦ subst (Stands command (options_of (chosen ++ rest.more))) (only_member o p first) stands.1
          | inr later ↦ rest.filled p later
        ];
      }
      | inr missing ↦
          let before = chosen ++ rest.more in
          let follows : MayFollow command (options_of before) o = record {
            listed = listed;
            allowed = missing.1.allowed;
            compatible = λ other among.
                let other_listed = are_listed command [] before rest.options other among in
                needed_is_compatible o other listed other_listed missing.1.needed
                (λ same. missing.1.missing (subst (Contains (options_of before))
                (same_option other o other_listed listed same) among));
          } in
          let longer : before ++ (o, example o.field) ∷ [] ≡ chosen ++ (rest.more ++ (o, example o.field) ∷ []) =
          append_assoc chosen rest.more ((o, example o.field) ∷ []) in
          let names : options_of (before ++ (o, example o.field) ∷ []) ≡ options_of before ++ o ∷ [] =
          options-append before ((o, example o.field) ∷ []) in
          record {
            more = rest.more ++ (o, example o.field) ∷ [];
            options = subst (AreOptions command []) longer
                (options_more command before o (example o.field) rest.options follows (example_is_value o.field));
            filled = λ p among. subst (λ l. Stands command (options_of l) p) longer
                (subst (λ l. Stands command l p) (sym names)
                (elim (Contains-append_cases (o ∷ []) os p among) [
                  | inl first ↦ record {
                    stands = λ allowed needed. subst (Contains (options_of before ++ o ∷ []))
                        (only_member o p first) (Contains-push (options_of before) o);
                  }
                  | inr later ↦ record {
                    stands = λ allowed needed.
                        Contains-append_left (options_of before) (o ∷ []) p
                        ((rest.filled p later).stands allowed needed);
                  }
                ]));
          }
    ]

-- the options can be completed by others
pub record Completes (command : Command) (chosen : List Choice) : Type 0 where
  pub more : List Choice
  pub options : AreOptions command [] (chosen ++ more)
  pub complete : AreComplete command (options_of (chosen ++ more))

-- options that were chosen can be completed
pub completes : (command : Command) (chosen : List Choice) → AreOptions command [] chosen → Completes command chosen
completes command chosen chosen_are =
    let all = fill command chosen options (λ o listed. listed) chosen_are in
    record {
      more = all.more;
      options = all.options;
      complete = λ o listed allowed needed. (all.filled o listed).stands allowed needed;
    }
