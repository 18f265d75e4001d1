-- Units that are marked are no longer owed. A pop owes the marks of the units with events that share a variable with
-- the popped cube. The index has exactly these units in the rows of the cube's variables. So after the rows of the
-- first variables are marked, the units that are still owed share one of the other variables.
use Rattle.std.proofs.Common.{◌≡◌, ◌≢◌, ◌⊎◌, ℕ, ◌<◌, true, List, [], ◌∷◌, ◌++◌, length, slice_index_or, refl, sym, ap, ◌∙◌, subst, inl, inr, ⊎_elim, arith, append_assoc, append-nil}
use mathlib.Core.Logic.{dite}
use native.Mathlib.Decide.{ℕ_discrete}
use Rattle.pop_model.specs.Popping.{Cube, names}
use Rattle.pop_model.specs.Families.Family.{Listed}
use Rattle.pop_model.proofs.Diamond.{names_it}
use Rattle.pop_instance.specs.Index.{IsIndex}
use Rattle.pop_instance.specs.Events.{cube_at}
use Rattle.claim_words.specs.declared.view.View.{View}
use Rattle.claim_words.specs.Maps.{In, taken_out, is_at}
use Rattle.claim_words.specs.Changes.{Change}
use Rattle.claim_words.specs.Steps.{sharing, marked_by}
use Rattle.claim_words.proofs.HeldLemmas.{taken-hit, taken-miss}
use Rattle.claim_words.proofs.Totals.{is_at-yes}
use Rattle.claim_words.proofs.Memberships.{in_le, in_append, in_one, in_left, in_right, none_in}
use Rattle.claim_words.proofs.SharersAreOwed.{in_contains, shared_in, sharing_only}
use Rattle.confluence_core.proofs.Places.{event_from, event_to}
use Rattle.event_finders.specs.OwedMarks.{all_out, changing, owing, marked_with, Marked, SetsMarks}
use Rattle.event_finders.proofs.CubePrefixes.{contains_in, named_in}

-- more are taken out
all_out-append : (us vs l : List ℕ) → all_out (us ++ vs) l ≡ all_out vs (all_out us l)
all_out-append [] vs l = refl
all_out-append (u ∷ us) vs l = all_out-append us vs (taken_out u l)

-- nothing can be taken out of an empty list
all_out-none : (us : List ℕ) → all_out us [] ≡ []
all_out-none [] = refl
all_out-none (x ∷ xs) = all_out-none xs

-- what is left was there, and isn't what was taken out
kept : (w u : ℕ) (l : List ℕ) → In w (taken_out u l) → In w l × (w ≢ u)
kept w u [] i = absurd i
kept w u (x ∷ xs) i = dite (ℕ_discrete x u)
    (λ e. let t = kept w u xs (subst (In w) (taken-hit u x xs e) i) in (inr t.0, t.1))
    (λ ne. ⊎_elim (λ (q : x ≡ w). (inl q, λ z. ne (q ∙ z)))
    (λ (m : In w (taken_out u xs)). let t = kept w u xs m in (inr t.0, t.1))
    (subst (In w) (taken-miss u x xs ne) i))

-- the same for a list that was taken out
left : (w : ℕ) (us l : List ℕ) → In w (all_out us l) → In w l × (In w us → ⊥)
left w [] l i = (i, λ z. z)
left w (u ∷ us) l i = let t = left w us (taken_out u l) i in let k = kept w u l t.0 in
    (k.0, λ z. ⊎_elim (λ (e : u ≡ w). k.1 (sym e)) (λ (m : In w us). t.1 m) z)

-- so nothing is left of a list whose members were all taken out
all_out-all : (us l : List ℕ) → ((w : ℕ) → In w l → In w us) → all_out us l ≡ []
all_out-all us l all = empty (all_out us l) (λ w i. let t = left w us l i in t.1 (all w t.0))
  where
    empty : (m : List ℕ) → ((w : ℕ) → In w m → ⊥) → m ≡ []
    empty [] none = refl
    empty (x ∷ xs) none = absurd (none x (inl refl))

-- each of the units that were owed is marked, or its event shares a variable with the rest of the cube
abbrev pub Waits : List (ℕ × Cube) → Cube → List ℕ → List ℕ → Type 0
Waits rows rest us owed = (u : ℕ) → In u owed
    → In u us ⊎ ((u < length rows) × (p : ℕ × ℕ) × In p rest × (names (cube_at rows u) p.0 ≡ true))

-- what a pop owes shares a variable with the cube
pub first_waits : (rows : List (ℕ × Cube)) (cube : Cube) → Waits rows cube [] (sharing (Listed rows) cube)
first_waits rows cube u i = let t = sharing_only (Listed rows) cube u i in
    let event = t.2 in let share = t.3 in inr (
      t.1,
      (share.0, share.1),
      contains_in (share.0, share.1) cube share.3,
      ap (λ (e : Cube). names e share.0) (event_to rows (record { unit = u; cube = t.0 }) event).cube
          ∙ names_it t.0 (share.0, share.2) share.4,
    )

-- once the row of the first variable is marked, what is left shares one behind it
pub next_waits : (rows : List (ℕ × Cube)) (index : List (List ℕ)) (p : ℕ × ℕ) (rest : Cube) (us owed : List ℕ)
    → IsIndex rows index → p.0 < length index → Waits rows (p ∷ rest) us owed
    → Waits rows rest (us ++ slice_index_or index p.0 []) owed
next_waits rows index p rest us owed is near w u i =
    let row : List ℕ = slice_index_or index p.0 [] in
    let Shares : Cube → Type 0 = λ cube. (u < length rows) × (q : ℕ × ℕ) × In q cube
    × (names (cube_at rows u) q.0 ≡ true) in
    ⊎_elim
    (λ (old : In u us). inl (in_left u us row old))
    (λ (t : Shares (p ∷ rest)). ⊎_elim
    (λ (e : p ≡ t.1). inl (in_right u us row (contains_in u row ((is.exact p.0 u near).1
    (t.0, ap (λ (q : ℕ × ℕ). names (cube_at rows u) q.0) e ∙ t.3)))))
    (λ (m : In t.1 rest). inr (t.0, t.1, m, t.3)) t.2) (w u i)

-- no unit is marked
pub marked_none : (d : View) → Marked [] d d
marked_none d = record {
  view = refl;
  marks = ([], sym (append-nil d.changes), record { each = λ c i. absurd i; all = λ u i. absurd i });
}

-- one is
pub marked_one : (u w : ℕ) (x e : View) → e ≡ marked_by x u w → Marked (u ∷ []) x e
marked_one u w x e to = record {
  view = to ∙ ap (λ (l : List Change). changing l (marked_with (u ∷ []) x)) (sym (ap (λ (y : View). y.changes) to));
  marks = (
    (u, w, 1) ∷ [],
    ap (λ (y : View). y.changes) to,
    record {
      each = λ c i. let is : (u, w, 1) ≡ c = in_one c (u, w, 1) i in
          (inl (ap (λ (x : Change). x.0) is), sym (ap (λ (x : Change). x.2) is));
      all = λ v i. (w, inl (ap (λ (x : ℕ). (x, w, 1)) (in_one v u i)));
    },
  );
}

-- and others behind them
pub marked_then : (us vs : List ℕ) (d x e : View) → Marked us d x → Marked vs x e → Marked (us ++ vs) d e
marked_then us vs d x e a b =
    let old = a.marks in let new = b.marks in
    record {
      view = b.view ∙ ap (λ (y : View). changing e.changes (marked_with vs y)) a.view
          ∙ ap (λ (l : List ℕ). record d { taken = l; owed = all_out vs (all_out us d.owed); changes = e.changes })
          (sym (all_out-append us vs d.taken))
          ∙ ap (λ (l : List ℕ). record d { taken = all_out (us ++ vs) d.taken; owed = l; changes = e.changes })
          (sym (all_out-append us vs d.owed));
      marks = (
        old.0 ++ new.0,
        new.1 ∙ ap (λ (l : List Change). l ++ new.0) old.1 ∙ append_assoc d.changes old.0 new.0,
        record {
          each = λ c i. ⊎_elim
              (λ (m : In c old.0). let t = old.2.each c m in (in_left c.0 us vs t.0, t.1))
              (λ (m : In c new.0). let t = new.2.each c m in (in_right c.0 us vs t.0, t.1))
              (in_append c old.0 new.0 i);
          all = λ u i. ⊎_elim
              (λ (m : In u us). let t = old.2.all u m in (t.0, in_left (u, t.0, 1) old.0 new.0 t.1))
              (λ (m : In u vs). let t = new.2.all u m in (t.0, in_right (u, t.0, 1) old.0 new.0 t.1))
              (in_append u us vs i);
        },
      );
    }

-- the units of a variable's row share the variable with a cube that names it
pub row_shares : (rows : List (ℕ × Cube)) (index : List (List ℕ)) (p : ℕ × ℕ) (cube : Cube) → IsIndex rows index
    → p.0 < length index → In p cube → (u : ℕ) → In u (slice_index_or index p.0 []) → In u (sharing (Listed rows) cube)
row_shares rows index p cube is near there u i =
    let t = (is.exact p.0 u near).0 (in_contains u (slice_index_or index p.0 []) i) in
    let other : Cube = cube_at rows u in
    let x = named_in other p.0 t.1 in
    shared_in (Listed rows) cube other u t.0 (event_from rows (record { unit = u; cube = other }) t.0 refl)
    ((p.0, x.0), x.1, omega (arith, in_le (is_at p.0) p cube there, is_at-yes p.0 p refl))

-- where just the units that were owed are marked, and no row is left, nothing is owed
pub marked_all : (rows : List (ℕ × Cube)) (rest : Cube) (us : List ℕ) (d e : View) → Marked us d e
    → ((u : ℕ) → In u us → In u d.owed) → d.taken ≡ [] → rest ≡ [] → Waits rows rest us d.owed
    → (e ≡ changing e.changes (owing [] d)) × SetsMarks d.owed d e
marked_all rows rest us d e m sub free end waits =
    let marks = m.marks in
    let all : (u : ℕ) → In u d.owed → In u us = λ u i. ⊎_elim (λ z. z)
    (λ t. absurd (none_in t.1 rest end t.2)) (waits u i) in
    let same : all_out us d.taken ≡ d.taken = ap (all_out us) free ∙ all_out-none us ∙ sym free in (
      m.view ∙ ap (λ (l : List ℕ). changing e.changes (record d { taken = l; owed = all_out us d.owed })) same
          ∙ ap (λ (l : List ℕ). changing e.changes (owing l d)) (all_out-all us d.owed all),
      (
        marks.0,
        marks.1,
        record {
          each = λ c i. let t = marks.2.each c i in (sub c.0 t.0, t.1);
          all = λ u i. marks.2.all u (all u i);
        },
      ),
    )
