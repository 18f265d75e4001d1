-- Different events of an extremal family that occur together share no variable, so neither's pop disturbs the other.
use Rattle.std.proofs.Common.{inl, inr, ◌≡◌, ◌≢◌, ℕ, ◌+◌, ◌<◌, true, false, List, length, get_or, refl, sym, ap, subst, ◌∙◌, Contains, eqb-true, eq-eqb, ◌==◌}
use Rattle.std.proofs.lemmas.List.Elements.{All-contains, Contains-get_or}
use Rattle.std.proofs.lemmas.List.Folds.{Any-from_list_any, list_any-from_Any}
use Rattle.std.proofs.lemmas.Bool.{cases_Bool}
use Rattle.pop_model.specs.Stacks.{StackTable, value_at, height_of}
use Rattle.pop_model.specs.Popping.{Cube, Occurs, IsPoppable, cursor, names, pop}
use Rattle.pop_model.specs.Families.{Event, IsEvent}
use Rattle.pop_model.specs.Instances.{Instance}
use Rattle.pop_model.specs.Extremal.{Share, Exclude, IsExtremal}
use Rattle.pop_model.specs.Logs.{LogRecord, IsLegalAt}
use Rattle.pop_model.proofs.PopLemmas.{cursor-pop_other, entries_agree}

-- no variable is in both
pub Apart : Cube → Cube → Type 0
Apart e f = (v : ℕ) → names f v ≡ true → names e v ≡ false

-- a variable that a cube names stands in one of its pairs
pub named : (e : Cube) (v : ℕ) → names e v ≡ true → (x : ℕ) × Contains e (v, x)
named e v h =
    let found = Any-from_list_any (λ (p : ℕ × ℕ). p.0 == v) e h in
    let pair : ℕ × ℕ = found.1 in
    let same : ◌≡◌ {A = ℕ × ℕ} pair (v, pair.1) = ap (λ w. (w, pair.1)) (eqb-true pair.0 v found.4) in
    (pair.1, subst (λ q. Contains e q) same (found.0, found.2, found.3))

-- each pair's variable is named
pub names_it : (e : Cube) (p : ℕ × ℕ) → Contains e p → names e p.0 ≡ true
names_it e p h = list_any-from_Any (λ (q : ℕ × ℕ). q.0 == p.0) e (h.0, p, h.1, h.2, eq-eqb p.0 p.0 refl)

-- cubes that share no variable are apart
pub apart_unless_shared : (e f : Cube) → (Share e f → ⊥) → Apart e f
unfolding Apart
apart_unless_shared e f none v h = elim (cases_Bool (names e v)) [
  | inl there ↦ let x = named e v there in let y = named f v h in absurd (none (v, x.0, y.0, x.1, y.1))
  | inr not_there ↦ not_there
]

-- what occurs together excludes nothing
pub occur_together : (s : StackTable) (c : List ℕ) (e f : Cube) → Occurs s c e → Occurs s c f → Exclude e f → ⊥
occur_together s c e f he hf (v, x, y, in_e, in_f, differ) =
    let P : ℕ × ℕ → Type 0 = λ p. value_at s p.0 (cursor c p.0) ≡ p.1 in
    let at_e : value_at s v (cursor c v) ≡ x = All-contains P e (v, x) he in_e in
    let at_f : value_at s v (cursor c v) ≡ y = All-contains P f (v, y) hf in_f in
    differ (sym at_e ∙ at_f)

-- different events that occur together are apart
pub apart_if_extremal : (i : Instance) → IsExtremal i.family → (c : List ℕ) (e f : Event) → IsEvent i.family e
    → IsEvent i.family f → e ≢ f → Occurs i.stacks c e.cube → Occurs i.stacks c f.cube → Apart e.cube f.cube
apart_if_extremal i extremal c e f is_e is_f differ he hf =
    apart_unless_shared e.cube f.cube (λ shared. occur_together i.stacks c e.cube f.cube he hf (extremal e f is_e is_f differ shared))

-- a pop of e leaves the cursors of a cube that is apart
pub cursor_apart : (c : List ℕ) (e f : Cube) → Apart e f → (p : ℕ × ℕ) → Contains f p
    → cursor c p.0 ≡ cursor (pop c e) p.0
unfolding Apart
cursor_apart c e f apart p h = sym (cursor-pop_other c e p.0 (apart p.0 (names_it f p h)))

-- what holds of each member, by what its members are
pub all_by_members : (P : ℕ × ℕ → Type 0) (f : Cube) → ((p : ℕ × ℕ) → Contains f p → P p) → (k : ℕ) (d : ℕ × ℕ)
    → k < length f → P (get_or f k d)
all_by_members P f each k d h = each (get_or f k d) (Contains-get_or f k d h)

-- an event stays poppable after the pop of one apart from it
pub poppable_apart : (s : StackTable) (c : List ℕ) (e f : Cube) → Apart e f → IsPoppable s c f
    → IsPoppable s (pop c e) f
poppable_apart s c e f apart h =
    let P : ℕ × ℕ → Type 0 = λ p. value_at s p.0 (cursor c p.0) ≡ p.1 in
    let Q : ℕ × ℕ → Type 0 = λ p. cursor c p.0 + 1 < height_of s p.0 in
    record {
      occurs = λ k d below. all_by_members (λ p. value_at s p.0 (cursor (pop c e) p.0) ≡ p.1) f
          (λ p has. subst (λ n. value_at s p.0 n ≡ p.1) (cursor_apart c e f apart p has) (All-contains P f p h.occurs has)) k d below;
      next = λ k d below. all_by_members (λ p. cursor (pop c e) p.0 + 1 < height_of s p.0) f
          (λ p has. subst (λ n. n + 1 < height_of s p.0) (cursor_apart c e f apart p has) (All-contains Q f p h.next has)) k d below;
    }

-- a record that is legal stays so after the pop of an event that is apart
pub legal_apart : (i : Instance) (c : List ℕ) (e : Cube) (r : LogRecord) → Apart e r.event.cube → IsLegalAt i c r
    → IsLegalAt i (pop c e) r
legal_apart i c e r apart h =
    record {
      event = h.event;
      poppable = poppable_apart i.stacks c e r.event.cube apart h.poppable;
      entries = h.entries ∙ entries_agree c (pop c e) r.event.cube (cursor_apart c e r.event.cube apart);
    }

-- cubes are apart where the one names no variable of the other
pub apart_from : (e f : Cube) → ((v : ℕ) → names f v ≡ true → names e v ≡ false) → Apart e f
unfolding Apart
apart_from e f h = h

-- what is poppable after the pop of an event that is apart was poppable before it
pub poppable_before : (s : StackTable) (c : List ℕ) (e f : Cube) → Apart e f → IsPoppable s (pop c e) f
    → IsPoppable s c f
poppable_before s c e f apart h =
    let P : ℕ × ℕ → Type 0 = λ p. value_at s p.0 (cursor (pop c e) p.0) ≡ p.1 in
    let Q : ℕ × ℕ → Type 0 = λ p. cursor (pop c e) p.0 + 1 < height_of s p.0 in
    record {
      occurs = λ k d below. all_by_members (λ p. value_at s p.0 (cursor c p.0) ≡ p.1) f
          (λ p has. subst (λ n. value_at s p.0 n ≡ p.1) (sym (cursor_apart c e f apart p has)) (All-contains P f p h.occurs has)) k d below;
      next = λ k d below. all_by_members (λ p. cursor c p.0 + 1 < height_of s p.0) f
          (λ p has. subst (λ n. n + 1 < height_of s p.0) (sym (cursor_apart c e f apart p has)) (All-contains Q f p h.next has)) k d below;
    }
