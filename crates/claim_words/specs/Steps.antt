-- The effect of each step on the view of the pass that makes it.
use Rattle.std.specs.Prelude.{ℕ, ◌+◌, ◌-◌, Bool, [], ◌∷◌, ◌++◌, suc, List, map, cond, ◌==◌, Option, Some, None}
use Rattle.std.specs.List.{list_any}
use Rattle.pop_model.specs.Popping.{Cube, names}
use Rattle.pop_model.specs.Families.{Family}
use Rattle.pop_model.specs.Families.Family.{Listed, Cycles}
use Rattle.pop_model.specs.Logs.{LogRecord}
use Rattle.claim_words.specs.Words.{word_of, mark_of, cursor_in, is_free, is_settled}
use Rattle.claim_words.specs.Maps.{Pairs, without, look, raise, raise_all, taken_out}
use Rattle.claim_words.specs.Openings.{count_in}
use Rattle.claim_words.specs.declared.view.View.{View}
use Rattle.claim_words.specs.declared.opening.Opening.{Opening}

-- a record under its ticket
abbrev pub Drawn : Type 0
Drawn = ℕ × LogRecord

-- the record of an event that is popped at these held cursors
abbrev pub record_held : ℕ → Cube → Pairs → LogRecord
record_held u cube held =
    record { event = record { unit = u; cube = cube }; entries = map (λ p. look p.0 held) cube }

-- the view of a pass that has ended
abbrev pub spent : View
spent = record {
  opening = None;
  share = 0;
  moves = 0;
  held = [];
  found = [];
  seen = [];
  settled = [];
  taken = [];
  owed = [];
  changes = [];
  due = [];
  mine = [];
}

-- the view of the first pass
abbrev pub fresh : Opening → View
fresh k = record spent { opening = Some k; share = 64 }

-- a claim that found the word free, or possibly settled
abbrev pub claim_with : Bool → Bool → View → ℕ → ℕ → View
claim_with free settled d v w = record d {
  held = cond free (d.held ++ (v, cursor_in w) ∷ []) d.held;
  found = cond free ((v, cursor_in w) ∷ d.found)
      (cond settled ((v, cursor_in w) ∷ d.found) d.found);
  settled = cond settled ((v, cursor_in w) ∷ d.settled) d.settled;
  seen = d.seen ++ (word_of v, w) ∷ [];
}

-- a claim of v that found this word: v is held if it was free, known if it was settled
abbrev pub claimed_by : View → ℕ → ℕ → View
claimed_by d v w = claim_with (is_free w) (is_settled w) d v w

-- a release of v
abbrev pub released_by : View → ℕ → View
released_by d v = record d { held = without v d.held }

-- the units, from n on, with an event that shares a variable with the cube
abbrev pub sharing_from : Cube → ℕ → List (ℕ × Cube) → List ℕ
sharing_from cube n [] = []
sharing_from cube n (r ∷ rows) = cond (list_any (λ p. names r.1 p.0) cube)
    (n ∷ sharing_from cube (suc n) rows) (sharing_from cube (suc n) rows)

-- the units of a listed family with an event that shares a variable with the cube
abbrev pub sharing : Family → Cube → List ℕ
sharing (Listed rows) cube = sharing_from cube 0 rows
sharing (Cycles heads) cube = []

-- the units of `sharing`, for the family of the board of a view
abbrev pub sharers : Option Opening → Cube → List ℕ
sharers None cube = []
sharers (Some k) cube = sharing k.instance.value.family cube

-- a ticket t for the event of u: the advances of its variables are due, and the marks of units
-- with events that share a variable are owed
abbrev pub drawn_by : View → ℕ → Cube → ℕ → View
drawn_by d u cube t = record d {
  taken = taken_out u d.taken;
  owed = d.owed ++ sharers d.opening cube;
  due = cube;
  mine = d.mine ++ (t, record_held u cube d.held) ∷ [];
}

-- an advance of v
abbrev pub advanced_by : View → ℕ → View
advanced_by d v = record d { held = raise v d.held; due = without v d.due }

-- all advances that are due
abbrev pub raised_by : View → Pairs → View
raised_by d cube = record d { held = raise_all cube d.held; due = [] }

-- a ticket t for the event of u, and an advance of each of its variables
abbrev pub popped_by : View → ℕ → Cube → ℕ → View
popped_by d u cube t = raised_by (drawn_by d u cube t) cube

-- a settle of v
abbrev pub settled_by : View → ℕ → View
settled_by d v = record d {
  held = without v d.held;
  settled = (v, look v d.held) ∷ d.settled;
}

-- a take of the mark of u, which found this
abbrev pub taken_by : View → ℕ → ℕ → View
taken_by d u w = record d {
  taken = cond (w == 1) (u ∷ d.taken) d.taken;
  seen = d.seen ++ (mark_of (count_in d.opening) u, w) ∷ [];
  changes = d.changes ++ (u, w, 0) ∷ [];
}

-- the mark of u was set, and this was found before
abbrev pub marked_by : View → ℕ → ℕ → View
marked_by d u w = record d {
  taken = taken_out u d.taken;
  owed = taken_out u d.owed;
  changes = d.changes ++ (u, w, 1) ∷ [];
}

-- the event of u is not poppable, so u needs no mark
abbrev pub cleared_by : View → ℕ → View
cleared_by d u = record d { taken = taken_out u d.taken }

-- the view of the pass that a split leaves
abbrev pub cut_left : View → ℕ → View
cut_left d part = record d { share = d.share - part; moves = d.moves + 1 }

-- the view of the pass that a split makes: it knows what was found, and what is settled
abbrev pub cut_right : View → ℕ → View
cut_right d part = record spent {
  opening = d.opening;
  share = part;
  found = d.found;
  settled = d.settled;
}

-- the view of two passes after a join
abbrev pub united : View → View → View
united d e = record d {
  share = d.share + e.share;
  moves = d.moves + 1;
  found = d.found ++ e.found;
  settled = d.settled ++ e.settled;
  changes = d.changes ++ e.changes;
  mine = d.mine ++ e.mine;
}
