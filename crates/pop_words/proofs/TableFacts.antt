-- What the tables of commands and options show. What is tested of each row is computed; all else rests on that.
use Rattle.std.proofs.Common.{inl, inr, ◌≡◌, ◌≢◌, ℕ, Bool, true, false, not, ◌&&◌, ◌||◌, List, [], ◌∷◌, map, Some, IsSome, refl, sym, ap, ◌∙◌, arith, codes, Contains, cond}
use Rattle.std.specs.Cmp.{IsEquivalence}
use Rattle.std.specs.List.{find, list_all, list_any}
use Rattle.std.specs.Str.{bytes_eq}
use Rattle.std.proofs.lemmas.Bool.{and_parts, both_ways, false_from_ne_true, not-true, or_cases}
use Rattle.std.proofs.lemmas.List.Elements.{Contains-append_cases}
use Rattle.std.proofs.lemmas.Map.Views.{Contains-from_any}
use Rattle.std.proofs.lemmas.Slice.Eq.{bytes_eq-Decides}
use Rattle.hex.proofs.OnLiterals.{hex_on_literals}
use Rattle.std.specs.Cmp.Derive.{one_truth}
use Rattle.pop_model.proofs.Rising.{only_member}
use Rattle.pop_words.specs.declared.command.Command.{Command}
use Rattle.pop_words.specs.declared.command.Command.TheVariants.{Formula, Orient, Tree, Resample, Check, Make, Rounds, Replay, Resume}
use Rattle.pop_words.specs.declared.field.Field.{Field}
use Rattle.pop_words.specs.declared.field.Field.TheVariants.{Stacks, Key, Height, Grow, Count, Pops, Workers, Board, Log, Root, Witness, Reports, Size}
use Rattle.pop_words.specs.Values.{are_different}
use Rattle.pop_words.specs.Options.{commands, command_word, NamedOption, options, value_of}
use Rattle.pop_words.specs.CommandLines.{AreCompatible}
use Rattle.pop_words.specs.Reading.{option_named, command_named, same_name, same_word, allows, excludes}
use Rattle.pop_words.proofs.ListTests.{all_at, found_is, some_at}
use Rattle.pop_words.proofs.SeenLists.{list_any-map}

-- ---- what is computed of each row

-- its word stands for a command, and for no other
pub commanded_again : (c : Command) → command_named (command_word c) ≡ Some c
commanded_again Formula = refl
commanded_again Orient = refl
commanded_again Tree = refl
commanded_again Resample = refl
commanded_again Check = refl
commanded_again Make = refl
commanded_again Rounds = refl
commanded_again Replay = refl
commanded_again Resume = refl

-- the names of options
abbrev names : List NamedOption → List (List ℕ)
names os = map (λ o. o.name) os

-- no two options have one name
names_differ : are_different (names options) ≡ true
names_differ = refl

-- a word that each field takes as a value
abbrev pub example : Field → List ℕ
example Stacks = []
example Key = codes "0000000000000000000000000000000000000000000000000000000000000000"
example Height = codes "1"
example Grow = codes "1"
example Count = codes "1"
example Pops = codes "1"
example Workers = codes "1"
example Board = codes "lock"
example Log = codes "on"
example Root = codes "1"
example Witness = codes "1,0"
example Reports = codes "totals"
example Size = codes "1"

-- it is a value of it
pub example_is_value : (f : Field) → IsSome (value_of f (example f))
unfolding hex_on_literals
example_is_value Stacks = refl
example_is_value Key = refl
example_is_value Height = refl
example_is_value Grow = refl
example_is_value Count = refl
example_is_value Pops = refl
example_is_value Workers = refl
example_is_value Board = refl
example_is_value Log = refl
example_is_value Root = refl
example_is_value Witness = refl
example_is_value Reports = refl
example_is_value Size = refl

-- neither of two options excludes the other
abbrev keep_each_other : NamedOption → NamedOption → Bool
keep_each_other o other = not (excludes other o.name) && not (excludes o other.name)

-- an option that isn't needed, or that excludes none and that none excludes
abbrev is_free_or_lone : NamedOption → Bool
is_free_or_lone o = not o.needed || list_all (keep_each_other o) options

-- each option is such a one
are_free_or_lone : list_all is_free_or_lone options ≡ true
are_free_or_lone = refl

-- ---- names and words tell apart

-- where names differ, the name of an option finds it
found_again : (os : List NamedOption) → are_different (names os) ≡ true → (o : NamedOption) → Contains os o
    → find (λ p. bytes_eq p.name o.name) os ≡ Some o
found_again [] apart o (k, within, at) = absurd (omega arith)
found_again (p ∷ os) apart o among =
    let parts = and_parts _ _ apart in
    elim (Contains-append_cases (p ∷ []) os o among) [
      | inl first ↦ let is = only_member p o first in
          ap (λ b. cond b (Some p) (find (λ q. bytes_eq q.name o.name) os))
          ((bytes_eq-Decides p.name o.name).1 (ap (λ q. q.name) is)) ∙ ap Some is
      | inr later ↦
          let other : bytes_eq p.name o.name ≡ false = false_from_ne_true (bytes_eq p.name o.name)
          (λ same. both_ways (list_any (bytes_eq p.name) (names os)) (not-true _ parts.0)
          (list_any-map (bytes_eq p.name) (λ q. q.name) os
          ∙ some_at (λ q. bytes_eq p.name q.name) os o later same)) in
          ap (λ b. cond b (Some p) (find (λ q. bytes_eq q.name o.name) os)) other
          ∙ found_again os parts.1 o later
    ]

-- the name of an option stands for it
pub named_again : (o : NamedOption) → Contains options o → option_named o.name ≡ Some o
named_again o listed = found_again options names_differ o listed

-- options of one name are the same
pub same_option : (a b : NamedOption) → Contains options a → Contains options b → a.name ≡ b.name → a ≡ b
same_option a b a_listed b_listed same =
    let is : Some a ≡ Some b = sym (named_again a a_listed) ∙ ap option_named same ∙ named_again b b_listed in cc

-- commands of one word are the same
pub same_command : (a b : Command) → command_word a ≡ command_word b → a ≡ b
same_command a b same = let is : Some a ≡ Some b = sym (commanded_again a) ∙ ap command_named same
    ∙ commanded_again b in cc

-- the option of a name is in the table and has this name
pub named : (word : List ℕ) (o : NamedOption) → option_named word ≡ Some o → Contains options o × (o.name ≡ word)
named word o found =
    let one = found_is (λ p. bytes_eq p.name word) options o found in
    (one.0, (bytes_eq-Decides o.name word).0 one.1)

-- the command of a word has this word
pub commanded : (word : List ℕ) (c : Command) → command_named word ≡ Some c → command_word c ≡ word
commanded word c found = (bytes_eq-Decides (command_word c) word).0
    (found_is (λ p. bytes_eq (command_word p) word) commands c found).1

-- the test of names tells names apart
pub same_name_is : (a b : NamedOption) → same_name a b ≡ true → a.name ≡ b.name
same_name_is a b test = (bytes_eq-Decides a.name b.name).0 test

-- options of one name pass the test of names
pub is_same_name : (a b : NamedOption) → a.name ≡ b.name → same_name a b ≡ true
is_same_name a b is = (bytes_eq-Decides a.name b.name).1 is

-- to have one name is an equivalence
pub same_name_laws : IsEquivalence same_name
same_name_laws =
    record {
      refl = λ o. is_same_name o o refl;
      symm = λ a b. one_truth (same_name a b) (same_name b a)
          (λ test. is_same_name b a (sym (same_name_is a b test)))
          (λ test. is_same_name a b (sym (same_name_is b a test)));
      congr = λ a b o test. ap (λ n. bytes_eq n o.name) (same_name_is a b test);
    }

-- ---- the lists of a row

-- the test of commands says which allow an option
pub allows_from : (o : NamedOption) (command : Command) → allows o command ≡ true → Contains o.commands command
allows_from o command test = Contains-from_any
    (λ a b same. same_command a b ((bytes_eq-Decides (command_word a) (command_word b)).0 same))
    command o.commands test

-- a command that allows an option passes it
pub allows_to : (o : NamedOption) (command : Command) → Contains o.commands command → allows o command ≡ true
allows_to o command among = some_at (same_word command) o.commands command among
    ((bytes_eq-Decides (command_word command) (command_word command)).1 refl)

-- a name that isn't excluded stands in no list of excluded names
pub keeps_from : (o : NamedOption) (name : List ℕ) → excludes o name ≡ false → Contains o.excludes name → ⊥
keeps_from o name keeps among = both_ways (excludes o name) keeps
    (some_at (bytes_eq name) o.excludes name among ((bytes_eq-Decides name name).1 refl))

-- a name that stands in none isn't excluded
pub keeps_to : (o : NamedOption) (name : List ℕ) → (Contains o.excludes name → ⊥) → excludes o name ≡ false
keeps_to o name none = false_from_ne_true (excludes o name)
    (λ test. none (Contains-from_any (λ a b. (bytes_eq-Decides a b).0) name o.excludes test))

-- a needed option may stand beside each of another name
pub needed_is_compatible : (o other : NamedOption) → Contains options o → Contains options other → o.needed ≡ true
    → other.name ≢ o.name → AreCompatible other o
needed_is_compatible o other listed other_listed needed differ =
    elim (or_cases _ _ (all_at is_free_or_lone options are_free_or_lone o listed)) [
      | inl free ↦ absurd (both_ways o.needed (not-true _ free) needed)
      | inr lone ↦
          let keep = and_parts _ _ (all_at (keep_each_other o) options lone other other_listed) in
          record {
            different = differ;
            keeps = keeps_from other o.name (not-true _ keep.0);
            kept_by = keeps_from o other.name (not-true _ keep.1);
          }
    ]
