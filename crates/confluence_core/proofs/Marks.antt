-- A work list with a mark for each unit that waits.
use Rattle.std.proofs.Common.{inl, inr, ◌≡◌, ◌≢◌, ℕ, ◌+◌, ◌<◌, Bool, true, List, [], ◌∷◌, ◌++◌, length, take, set, get_or, Some, slice_get, sym, ap, subst, ◌∙◌, arith, All, Contains, get_or-set_other}
use Rattle.std.proofs.lemmas.Bool.{cases_eq, cases_lt}
use Rattle.std.proofs.lemmas.List.{length-set, take_more}
use Rattle.std.proofs.lemmas.List.Elements.{All-push, All-weaker, All-head, Contains-push, Contains-append_left}
use Rattle.std.proofs.lemmas.Option.{slice_get-get_or, slice_get_past}
use Rattle.pop_model.specs.Popping.{Cube}
use Rattle.pop_model.proofs.Members.{all_more}
use Rattle.confluence_core.specs.WorkList.{Waiting, AreMarked, Gains, GainsSharing}

-- a write elsewhere changes no other element
slice_get-set_other : (xs : List Bool) (i j : ℕ) (y : Bool) → j ≢ i → slice_get (set xs i y) j ≡ slice_get xs j
slice_get-set_other xs i j y other = elim (cases_lt j (length xs)) [
  | inl within ↦
      slice_get-get_or (set xs i y) j y (omega (arith, length-set xs i y)) ∙ ap Some (get_or-set_other xs i j y y other)
      ∙ sym (slice_get-get_or xs j y within)
  | inr past ↦ slice_get_past (set xs i y) j (omega (arith, length-set xs i y)) ∙ sym (slice_get_past xs j past)
]

-- one unit more waits, and is marked
pub marked_more : (list : List ℕ) (marks : List Bool) (unit : ℕ) → unit < length marks → AreMarked list marks
    → AreMarked (list ++ unit ∷ []) (set marks unit true)
marked_more list marks unit within old = record {
  known = subst (λ n. All (λ u. u < n) (list ++ unit ∷ [])) (sym (length-set marks unit true))
      (All-push (λ u. u < length marks) list unit old.known within);
  waits = λ u is. elim (cases_eq u unit) [
    | inl here ↦ subst (Contains (list ++ unit ∷ [])) (sym here) (Contains-push list unit)
    | inr other ↦ Contains-append_left list (unit ∷ []) u
        (old.waits u (sym (slice_get-set_other marks unit u true other) ∙ is))
  ];
}

-- one unit more is gained
pub gains_more : {a b c : Waiting} (xs : List ℕ) (i d : ℕ) → i < length xs → Gains a b (take i xs)
    → Gains b c (get_or xs i d ∷ []) → Gains a c (take (i + 1) xs)
gains_more {b = b} {c} xs i d within old new = record {
  units = new.units ∙ old.units;
  kept = λ u has. new.kept u (old.kept u has);
  gained = subst (All (Contains c.list)) (sym (take_more xs i d within))
      (All-push (Contains c.list) (take i xs) (get_or xs i d)
      (All-weaker (Contains b.list) (Contains c.list) new.kept (take i xs) old.gained)
      (All-head (Contains c.list) (get_or xs i d) [] new.gained));
}

-- the units of one pair more are gained
pub gains_sharing_more : (a b c : Waiting) (index : List (List ℕ)) (e : Cube) (i : ℕ) (p : ℕ × ℕ)
    → slice_get e i ≡ Some p
    → GainsSharing a b index (take i e) → Gains b c (get_or index p.0 []) → GainsSharing a c index (take (i + 1) e)
gains_sharing_more a b c index e i p at old new = record {
  units = new.units ∙ old.units;
  kept = λ u has. new.kept u (old.kept u has);
  gained = all_more (λ (q : ℕ × ℕ). All (Contains c.list) (get_or index q.0 [])) e i p at
      (All-weaker (λ (q : ℕ × ℕ). All (Contains b.list) (get_or index q.0 []))
      (λ (q : ℕ × ℕ). All (Contains c.list) (get_or index q.0 []))
      (λ q all. All-weaker (Contains b.list) (Contains c.list) new.kept (get_or index q.0 []) all)
      (take i e) old.gained)
      new.gained;
}
