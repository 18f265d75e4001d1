-- A work list covers the poppable events. After a pop of e, an event that is poppable and shares no variable with e was
-- poppable before, since its cursors are the same: so it stands in the list already. One that shares a variable stands
-- where the index has that variable, and is put into the list.
use Rattle.std.proofs.Common.{inl, inr, ◌≡◌, ℕ, ◌<◌, true, false, List, [], ◌∷◌, ◌++◌, length, get_or, refl, sym, ap, subst, ◌∙◌, All, Contains}
use Rattle.std.specs.List.{list_any}
use Rattle.std.proofs.lemmas.Bool.{cases_Bool, false≢true}
use Rattle.std.proofs.lemmas.List.Elements.{All-contains, Contains-get_or, Contains-push_cases}
use Rattle.std.proofs.lemmas.List.Folds.{Any-from_list_any, list_any-from_Any}
use Rattle.pop_model.specs.Stacks.{StackTable}
use Rattle.pop_model.specs.Popping.{Cube, IsPoppable, names, pop}
use Rattle.pop_model.specs.Families.{AreEvents}
use Rattle.pop_model.proofs.Diamond.{Apart, apart_from, named, names_it, poppable_before}
use Rattle.pop_instance.specs.Events.{cube_at}
use Rattle.pop_instance.specs.Index.{IsIndex}
use Rattle.confluence_core.specs.Search.{IsPoppableAt, Covers, IsNextPlace}
use Rattle.confluence_core.specs.WorkList.{Waiting, GainsSharing}
use Rattle.confluence_core.proofs.Places.{event_at, event_from, event_to}

-- a place that is not poppable may go
pub covers_rest : (s : StackTable) (c : List ℕ) (rows : List (ℕ × Cube)) (list : List ℕ) (place : ℕ)
    → Covers s c rows (list ++ place ∷ [])
    → (IsPoppableAt s c rows place → ⊥) → Covers s c rows list
covers_rest s c rows list place covers not e is pop =
    elim (Contains-push_cases list place e.unit (covers e is pop)) [
      | inl before ↦ before
      | inr here ↦
          let cube : e.cube ≡ cube_at rows place = sym (event_to rows e is).cube ∙ ap (cube_at rows) (sym here) in
          absurd (not (subst (IsPoppable s c) cube pop))
    ]

module _ {s : StackTable} {c : List ℕ} {rows : List (ℕ × Cube)} {index : List (List ℕ)} (place : ℕ) {old new : Waiting}
    (are : AreEvents rows) (indexed : IsIndex rows index) (next : IsNextPlace s c rows old.list place)
    (gains : GainsSharing old new index (cube_at rows place)) where
  -- an event that shares a variable is put into the list
  covers_sharing : (q : ℕ) → q < length rows → list_any (λ p. names (cube_at rows place) p.0) (cube_at rows q) ≡ true
      → Contains new.list q
  covers_sharing q within shares =
      let e : Cube = cube_at rows place in
      let f : Cube = cube_at rows q in
      let found = Any-from_list_any (λ (p : ℕ × ℕ). names e p.0) f shares in
      let p : ℕ × ℕ = found.1 in
      let in_f : Contains f p = (found.0, found.2, found.3) in
      let x = named e p.0 found.4 in
      let below : p.0 < length index = All-contains (λ (r : ℕ × ℕ). r.0 < length index) f p
      (indexed.below q (0, []) within) in_f in
      let there : Contains (get_or index p.0 []) q = (indexed.exact p.0 q below).1 (within, names_it f p in_f) in
      let all : All (Contains new.list) (get_or index p.0 []) =
      All-contains (λ (r : ℕ × ℕ). All (Contains new.list) (get_or index r.0 [])) e (p.0, x.0) gains.gained x.1 in
      All-contains (Contains new.list) (get_or index p.0 []) q all there

  -- no variable of an event that shares none is named
  unnamed : (f : Cube) → list_any (λ p. names (cube_at rows place) p.0) f ≡ false → (p : ℕ × ℕ) → Contains f p
      → names (cube_at rows place) p.0 ≡ false
  unnamed f none p has = elim (cases_Bool (names (cube_at rows place) p.0)) [
    | inl is ↦ absurd (false≢true (sym none ∙ list_any-from_Any (λ (r : ℕ × ℕ). names (cube_at rows place) r.0) f
        (has.0, p, has.1, has.2, is)))
    | inr is ↦ is
  ]

  -- an event that shares none stands in the list already
  covers_apart : (q : ℕ) → q < length rows → list_any (λ p. names (cube_at rows place) p.0) (cube_at rows q) ≡ false
      → IsPoppable s (pop c (cube_at rows place)) (cube_at rows q) → Contains new.list q
  covers_apart q within none after =
      let e : Cube = cube_at rows place in
      let f : Cube = cube_at rows q in
      let apart : Apart e f = apart_from e f (λ v is. let x = named f v is in unnamed f none (v, x.0) x.1) in
      elim (Contains-push_cases old.list place q (next.others (event_at rows q)
      (event_from rows (event_at rows q) within refl) (poppable_before s c e f apart after))) [
        | inl before ↦ gains.kept q before
        | inr is ↦
            let p : ℕ × ℕ = get_or f 0 (0, 0) in
            let first : Contains f p = Contains-get_or f 0 (0, 0) (are.cubes q (0, []) within).some in
            let same : names e p.0 ≡ names f p.0 = ap (λ k. names (cube_at rows k) p.0) is in
            absurd (false≢true (sym (unnamed f none p first) ∙ same ∙ names_it f p first))
      ]

  -- the list covers the events that are poppable after the pop
  pub covers_pop : Covers s (pop c (cube_at rows place)) rows new.list
  covers_pop e is after =
      let at = event_to rows e is in
      let there = subst (IsPoppable s (pop c (cube_at rows place))) (sym at.cube) after in
      elim (cases_Bool (list_any (λ p. names (cube_at rows place) p.0) (cube_at rows e.unit))) [
        | inl shares ↦ covers_sharing e.unit at.within shares
        | inr none ↦ covers_apart e.unit at.within none there
      ]
