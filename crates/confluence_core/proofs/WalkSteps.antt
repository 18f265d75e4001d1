-- The steps of a walk keep what holds in it, and take from the work that is left: the walk goes on to a variable that it
-- hasn't met, a cycle that closes is popped, or the walk is over, and what it met is settled.
use Rattle.std.proofs.Common.{inl, inr, ◌≡◌, ℕ, suc, ◌+◌, ◌-◌, ◌*◌, ◌^◌, ◌<◌, ◌≤◌, false, List, length, take, get_or, Some, refl, sym, ap, subst, ◌∙◌, arith}
use Rattle.std.specs.List.{slice_range}
use Rattle.std.proofs.lemmas.Bool.{cases_Bool}
use Rattle.std.proofs.lemmas.Nat.{mul-le}
use Rattle.std.proofs.Math.Nat.{add-mul}
use Rattle.std.proofs.lemmas.List.{length-take-le, get_or-take}
use Rattle.pop_model.specs.Popping.{Cube, HasNext, names, pop}
use Rattle.pop_model.proofs.PopLemmas.{length-pop}
use Rattle.pop_model.proofs.Room.{left_from, room_falls, within_pop}
use Rattle.confluence_core.specs.CycleTables.{CycleTable}
use Rattle.confluence_core.specs.Loops.{Marks}
use Rattle.confluence_core.specs.Walks.{settled, IsSettled, AreSized, CanWalkOn, Closes}
use Rattle.confluence_core.proofs.LoopCubes.{cube_all}
use Rattle.confluence_core.proofs.PathsLemmas.{path_distinct, path_fits, settled_off}
use Rattle.confluence_core.proofs.ClosedLoops.{IsClosed, closed, closes_loop, loop_of}
use Rattle.confluence_core.proofs.DoneVariables.{arrow_kept}

-- what a path closes
module _ {t : CycleTable} {c marks path : List ℕ} {depth place : ℕ} (sized : AreSized t c marks path)
    (is : Closes t c marks path depth place) where
  -- is a loop
  pub closes_here : IsClosed t c path depth place (loop_of t c path depth place)
  closes_here =
      let fits = path_fits is.trail in
      closed t c path depth place (omega (arith, fits, sized.places_are)) (closes_loop is)

  -- and a short one
  pub closes_short : length (slice_range path place (depth + 1)) < 2 ^ 31
  closes_short =
      let fits = path_fits is.trail in
      let short = closes_here.short in
      let units = sized.instance.units in
      omega (arith, fits, short, units)

-- what is marked at the first places of a path
pub marks_front : (path : List ℕ) (end : ℕ) {mark : ℕ} {marks new : List ℕ} → end ≤ length path
    → Marks (take end path) (length (take end path)) mark marks new → Marks path end mark marks new
marks_front path end {mark} {new = new} within are =
    let size : length (take end path) ≡ end = length-take-le end path within in
    record {
      count = are.count;
      marked = λ k less.
          subst (λ v. get_or new v 0 ≡ mark) (get_or-take end path k 0 less) (are.marked k (omega (arith, size)));
      kept = λ v none. are.kept v (λ k less same.
          none k (omega (arith, size)) (sym (get_or-take end path k 0 (omega (arith, size))) ∙ same));
    }

-- a pop leaves the sizes as they are
pub sized_popped : {t : CycleTable} {c marks path : List ℕ} (e : Cube) → HasNext t.stacks c e
    → AreSized t c marks path → AreSized t (pop c e) marks path
sized_popped {t = t} {c = c} e next old = record {
  instance = old.instance;
  cursors = record {
    count = length-pop c e ∙ old.cursors.count;
    within = within_pop t.stacks c e (sym old.instance.fits.0 ∙ sym old.cursors.count) next old.cursors.within;
  };
  marks_are = old.marks_are;
  places_are = old.places_are;
}

-- and so does a new path
pub sized_same : {t : CycleTable} {c marks path new_marks new_path : List ℕ} → length new_marks ≡ length marks
    → length new_path ≡ length path → AreSized t c marks path → AreSized t c new_marks new_path
sized_same same_marks same_places old = record {
  instance = old.instance;
  cursors = old.cursors;
  marks_are = same_marks ∙ old.marks_are;
  places_are = same_places ∙ old.places_are;
}

-- a pop takes from the room
pub pop_falls : {t : CycleTable} {c path : List ℕ} {depth place : ℕ} {e : Cube} → length c ≡ length t.heads
    → IsClosed t c path depth place e → HasNext t.stacks c e
    → left_from t.stacks 0 (pop c e) < left_from t.stacks 0 c
pop_falls {t = t} {c = c} {e = e} count loop next =
    room_falls t.stacks c e loop.cycle.cube (cube_all t c _ e loop.cube (λ v. v < length c)
    (λ k d less. let known = loop.members.known k d less in omega (arith, known, count))) next

-- so it makes the work less, wherever the walk goes on
pub work_falls : (count before after depth place : ℕ) → after < before
    → after * (count + 1) + (count - place) < before * (count + 1) + (count - depth)
work_falls count before after depth place falls =
    let n = count + 1 in
    let most : (after + 1) * n ≤ before * n = mul-le (after + 1) n before n (omega arith) (omega arith) in
    let spread : (after + 1) * n ≡ after * n + 1 * n = add-mul after 1 n in
    omega (arith, most, spread)

module _ {t : CycleTable} {c marks path : List ℕ} {depth place : ℕ} {e : Cube} (few : depth + 1 < settled)
    (is : Closes t c marks path depth place) (loop : IsClosed t c path depth place e) where
  -- no settled variable is on the loop
  pub popped_off : (v : ℕ) → IsSettled marks v → names e v ≡ false
  popped_off v at = elim (cases_Bool (names e v)) [
    | inl there ↦
        let stands = loop.on_only v there in
        let below = stands.2 in
        absurd (settled_off is.trail v few at stands.0 (omega arith) stands.3)
    | inr other ↦ other
  ]

  -- a variable in front of the loop isn't on it
  front_off : (k : ℕ) → k < place → names e (get_or path k 0) ≡ false
  front_off k less = elim (cases_Bool (names e (get_or path k 0))) [
    | inl there ↦
        let at = loop.on_only (get_or path k 0) there in
        let low = at.1 in
        let below = at.2 in
        absurd (path_distinct is.trail k at.0 (omega arith) (omega arith) (omega arith) (sym at.3))
    | inr other ↦ other
  ]

  -- the walk goes on from where the cycle closed
  pub popped_goes_on : CanWalkOn t (pop c e) marks path place (get_or path place 0)
  popped_goes_on =
      let order = is.order in
      record {
        trail = record {
          leads = λ k less. arrow_kept t c e (get_or path k 0) (front_off k (omega arith))
              ∙ is.trail.leads k (omega arith);
          below = λ k less. is.trail.below k (omega arith);
          marked = λ k less. is.trail.marked k (omega arith);
        };
        fresh = λ met. elim met [
          | inl at ↦ settled_off is.trail (get_or path place 0) few at place (omega arith) refl
          | inr (k, less, same) ↦ path_distinct is.trail k place (omega arith) less (omega arith) same
        ];
        below = is.trail.below place (omega arith);
        last = λ d same.
            let next : suc d ≡ place = sym same in
            arrow_kept t c e (get_or path d 0) (front_off d (omega arith)) ∙ is.trail.leads d (omega arith)
            ∙ ap (λ j. Some (get_or path j 0)) next;
      }
