-- The values that the lines of a head state.
use Rattle.std.specs.Prelude.{◌≡◌, ℕ, ◌<◌, List, ◌∷◌, ◌++◌, length, Contains, Option, MatchOption}
use Rattle.std.specs.List.{concat}
use Rattle.pop_log.specs.TextLines.{lines_with_ends}
use Rattle.pop_stacks.specs.declared.stack_spec.StackSpec.{StackSpec}
use Rattle.pop_words.specs.declared.command.Command.{Command}
use Rattle.pop_words.specs.Options.{paused}
use Rattle.run_cert.specs.Heads.{command_line, stacks_line, MayBeStacks}
use denote.Ref.{Bor}

-- the value that bytes state, or None if they state no such value
abbrev pub Says : {X : Type 0} → (X → Type 0) → (X → List ℕ) → List ℕ → Option X → Type 0
Says {X} May spell bytes found =
    MatchOption found ((x : X) → May x → bytes ≡ spell x → ⊥) (λ x. May x × (bytes ≡ spell x))

-- bytes do not begin with a line that states such a value
pub record BeginsNone {X : Type 0} (May : X → Type 0) (spell : X → List (List ℕ)) (bytes : List ℕ)
    : Type 0 where
  pub first : List ℕ
  pub rest : List ℕ
  pub cut : 0 < length bytes → lines_with_ends bytes ≡ first ∷ lines_with_ends rest
  pub none : (x : X) (more others : List (List ℕ)) → May x → first ∷ more ≡ spell x ++ others → ⊥

-- bytes begin with this many lines, which state this value
pub record IsRead {X : Type 0} (May : X → Type 0) (spell : X → List (List ℕ)) (bytes : List ℕ)
    (x : X) (count : ℕ) (rest : List ℕ) : Type 0 where
  pub may : May x
  pub count_is : count ≡ length (spell x)
  pub bytes_are : bytes ≡ concat (spell x) ++ rest

-- the value that the first lines of bytes state, the number of these lines, and the bytes after
-- them; None if they state no such value
abbrev pub Reads : {X : Type 0} → (X → Type 0) → (X → List (List ℕ)) → List ℕ
    → Option (X × ℕ × Bor (List ℕ)) → Type 0
Reads {X} May spell bytes read =
    MatchOption read (BeginsNone May spell bytes) (λ r. IsRead May spell bytes r.0 r.1 r.2.now)

-- the bytes begin with the lines of a command and of stacks
pub record IsStart (bytes : List ℕ) (command : Command) (stacks : StackSpec) (rest : List ℕ)
    : Type 0 where
  pub may_command : Contains paused command
  pub may_stacks : MayBeStacks stacks
  pub bytes_are : bytes ≡ command_line command ++ (stacks_line stacks ++ rest)
