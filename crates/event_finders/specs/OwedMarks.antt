-- The units that are left to mark, and the variables that are left to release.
use Rattle.std.specs.Prelude.{◌≡◌, ℕ, List, [], ◌∷◌, ◌++◌}
use Rattle.claim_words.specs.Maps.{In, taken_out}
use Rattle.claim_words.specs.Changes.{Change}
use Rattle.claim_words.specs.declared.view.View.{View}

-- the list without these items
abbrev pub all_out : List ℕ → List ℕ → List ℕ
all_out [] l = l
all_out (u ∷ us) l = all_out us (taken_out u l)

-- the view after these units are marked
abbrev pub marked_with : List ℕ → View → View
marked_with us d = record d { taken = all_out us d.taken; owed = all_out us d.owed }

-- the view with these changes of marks
abbrev pub changing : List Change → View → View
changing cs d = record d { changes = cs }

-- the view that owes exactly these units
abbrev pub owing : List ℕ → View → View
owing us d = record d { owed = us }

-- the view that holds nothing
abbrev pub emptied : View → View
emptied d = record d { held = [] }

-- these changes set marks: at least one for each of these units, and for no others
pub record SetsJust (us : List ℕ) (cs : List Change) : Type 0 where
  pub each : (c : Change) → In c cs → In c.0 us × (c.2 ≡ 1)
  pub all : (u : ℕ) → In u us → (w : ℕ) × In (u, w, 1) cs

-- the changes that were added to those of the pass have the property `SetsJust`
abbrev pub SetsMarks : List ℕ → View → View → Type 0
SetsMarks us d e = (cs : List Change) × (e.changes ≡ d.changes ++ cs) × SetsJust us cs

-- these units are marked, and nothing else changed
pub record Marked (us : List ℕ) (d e : View) : Type 0 where
  pub view : e ≡ changing e.changes (marked_with us d)
  pub marks : SetsMarks us d e
