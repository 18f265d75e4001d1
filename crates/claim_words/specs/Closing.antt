-- The final state of a board.
use Rattle.std.specs.Prelude.{◌≡◌, ℕ, zero, suc, ◌==◌, Bool, cond, not, true, false, List, [], ◌∷◌, ◌++◌, length, slice_index, Contains}
use Rattle.pop_model.specs.Popping.{IsPoppable, cursor, names}
use Rattle.pop_model.specs.Families.{Event, IsEvent}
use Rattle.pop_model.specs.Tickets.{IsMerged}
use Rattle.confluence_core.specs.Runs.{MissesNone}
use Rattle.claim_words.specs.declared.view.View.{View}
use Rattle.claim_words.specs.declared.opening.Opening.{Opening}
use Rattle.claim_words.specs.Words.{word_of, mark_of, is_settled}
use Rattle.claim_words.specs.Maps.{Pairs, times}
use Rattle.claim_words.specs.Changes.{Change, mark_after}
use Rattle.claim_words.specs.Openings.{count, marks, is_listed}
use Rattle.claim_words.specs.TicketLogs.{Whole, log_of, IsLegalFrom, vector}

-- the history of a board: all tickets, which are a legal log, and its replay
pub record Closes (k : Opening) (d : View) (cursors : List ℕ) (pops : ℕ) : Type 0 where
  pub pops_are : pops ≡ length d.mine
  pub whole : Whole k d.mine pops (cursor cursors)
  pub merged : IsMerged d.mine (log_of d.mine)
  pub legal : IsLegalFrom k d.mine
  pub cursors_are : cursors ≡ vector k d.mine

-- the numbers below n that pass a test, rising
abbrev pub passing : (ℕ → Bool) → ℕ → List ℕ
passing f zero = []
passing f (suc n) = cond (f n) (passing f n ++ n ∷ []) (passing f n)

-- the units below n with a mark that is set, after the words of this many variables
abbrev pub set_marks : List ℕ → ℕ → ℕ → List ℕ
set_marks ws count n = passing (λ u. slice_index ws (mark_of count u) == 1) n

-- the variables below n that are not settled
abbrev pub unsettled : List ℕ → ℕ → List ℕ
unsettled ws n = passing (λ v. not (is_settled (slice_index ws (word_of v)))) n

-- the suspects by the words
abbrev pub suspects_in : Opening → List ℕ → List ℕ
suspects_in k ws = cond (is_listed k.instance.value.family)
    (set_marks ws (count k) (marks k)) (unsettled ws (count k))

-- the units below n with a mark that is set after these changes
abbrev pub set_after : List Change → ℕ → List ℕ
set_after cs n = passing (λ u. mark_after u cs == 1) n

-- the variables below n that are not among these
abbrev pub others : Pairs → ℕ → List ℕ
others settled n = passing (λ v. times v settled == 0) n

-- the suspects that a pass knows if it is the only one: the marked units of a listed family, or
-- the variables of a cycle family that are not settled
abbrev pub suspects_of : Opening → View → List ℕ
suspects_of k d = cond (is_listed k.instance.value.family)
    (set_after d.changes (marks k)) (others d.settled (count k))

-- The suspects after a board is closed by a pass with this view. They cover every poppable event,
-- and every variable of a poppable cycle is among them.
pub record Leaves (k : Opening) (d : View) (cursors suspects : List ℕ) : Type 0 where
  pub suspects_are : suspects ≡ suspects_of k d
  pub missed : MissesNone k.instance.value cursors suspects
  pub cycles : is_listed k.instance.value.family ≡ false → (e : Event)
      → IsEvent k.instance.value.family e → IsPoppable k.instance.value.stacks cursors e.cube
      → (v : ℕ) → names e.cube v ≡ true → Contains suspects v
