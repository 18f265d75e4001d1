-- The cursors of a path, as a list for all variables, and the loop that its last arrow closes.
use Rattle.std.proofs.Common.{◌≡◌, ℕ, suc, ◌+◌, ◌-◌, ◌<◌, List, length, map, drop, get_or, Some, refl, sym, ap, subst, ◌∙◌, arith, ext_get_or}
use Rattle.std.specs.List.{slice_range}
use Rattle.std.specs.List.Sorted.{IsPermutation, IsNonDecreasingBy}
use Rattle.std.proofs.lemmas.List.{length-map, get_or-map, get_or-drop, length-drop}
use Rattle.std.proofs.lemmas.List.FromFn.{get_or-map-range_with_len}
use Rattle.pop_model.specs.Stacks.{value_at}
use Rattle.pop_model.specs.Popping.{Cube, variables, cursor}
use Rattle.pop_model.specs.Cycles.{head_of}
use Rattle.pop_model.specs.Families.Family.{Cycles}
use Rattle.pop_model.specs.Instances.{FamilyFits}
use Rattle.confluence_core.specs.CycleTables.{CycleTable, current_head}
use Rattle.confluence_core.proofs.LoopCubes.{pair_of, cube_sorted}
use Rattle.confluence_core.proofs.ClosedLoops.{ClosesLoop, IsClosed, closed, loop_of, range_at, range_length}
use Rattle.claim_words.specs.Maps.{look}
use Rattle.claim_words.specs.Openings.{count}
use Rattle.claim_words.specs.Passes.{view}
use Rattle.claim_words.specs.declared.opening.Opening.{Opening}
use Rattle.claim_words.specs.declared.pass.Pass.{Pass}
use Rattle.event_finders.specs.Trails.{Trail, last_of, stand, Goes}
use Rattle.event_finders.specs.WalkSteps.{IsWalking, LeadsBack, IsLoopCube, laid, slot_pair}
use Rattle.event_finders.proofs.TrailLemmas.{variables_long, stand_variable, twice}
use Rattle.event_finders.proofs.TrailArrows.{look_at, board_head}

-- a walk leads back to a place of its path, where its last arrow does
abbrev pub back_to : {k : Opening} {pass : Pass} {g : CycleTable} {t : Trail} → IsWalking k pass g t → (place : ℕ)
    → place < length t.path → Goes k (last_of t.path) (get_or (variables t.path) place 0) → LeadsBack g t place
back_to {k = k} {pass = pass} walking place within closes = record {
  board = k;
  holder = view pass;
  table = walking.table;
  stands = walking.stands;
  within = within;
  closes = closes;
}

-- a path that leads back to a place of it
module _ {g : CycleTable} {t : Trail} {place : ℕ} (b : LeadsBack g t place) where
  -- the last place of the path
  abbrev pub depth : ℕ
  depth = length t.path - 1

  -- the variable at a place
  abbrev pub at : ℕ → ℕ
  at j = get_or (variables t.path) j 0

  -- the cursor at a place
  abbrev pub entry : ℕ → ℕ
  entry j = (stand t.path j).1

  -- it is what the path has for the variable
  pub looks : (j : ℕ) → j < length t.path → look (at j) t.path ≡ entry j
  looks j less =
      ap (λ (v : ℕ). look v t.path) (sym (stand_variable t.path j)) ∙ look_at t.path j b.stands.trail.once less

  -- and the list
  pub cursor_is : (j : ℕ) → j < length t.path → cursor (laid t) (at j) ≡ entry j
  cursor_is j less =
      get_or-map-range_with_len (λ (v : ℕ). look v t.path) 0 t.count (at j) (at j) 0 (b.stands.trail.below j less)
      (omega arith) ∙ looks j less

  -- its slot
  slot_is : (j : ℕ) → j < length t.path → slot_pair g (stand t.path j) ≡ pair_of g (laid t) (at j)
  slot_is j less =
      ap (λ (v : ℕ). (v, value_at g.stacks v (entry j))) (stand_variable t.path j)
      ∙ ap (λ (n : ℕ). (at j, value_at g.stacks (at j) n)) (sym (cursor_is j less))

  -- where its arrow leads
  head_is : (j : ℕ) → j < length t.path → (v : ℕ) → Goes b.board (stand t.path j) v
      → current_head g (laid t) (at j) ≡ Some v
  head_is j less v goes =
      let e : ℕ × ℕ = stand t.path j in
      ap (λ (n : ℕ). head_of g.heads (at j) (value_at g.stacks (at j) n)) (cursor_is j less)
      ∙ ap (λ (u : ℕ). head_of g.heads u (value_at g.stacks u e.1)) (sym (stand_variable t.path j))
      ∙ sym (board_head b.table e) ∙ goes.head

  -- there are as many arrows' variables as the board has
  heads_count : length g.heads ≡ count b.board
  heads_count =
      let fits : FamilyFits b.board.instance.value.stacks (Cycles g.heads) =
      subst (FamilyFits b.board.instance.value.stacks) b.table.family b.table.instance.fits in
      fits.0

  -- no variable stands at two places
  pub distinct : (i j : ℕ) → i < j → j < length t.path → at i ≡ at j → ⊥
  distinct i j less within same = absurd (omega (
    arith,
    twice (at j) (variables t.path) i j less (omega (arith, within, variables_long t.path)) same refl,
    b.stands.trail.once (at j),
  ))

  -- the arrows close a loop
  round : ClosesLoop g (laid t) (variables t.path) depth place
  round = record {
    order = omega (arith, b.within);
    below = λ j from less. omega
        (arith, b.stands.trail.below j (omega (arith, less, b.within)), b.stands.counts, heads_count);
    distinct = λ i j from less end. distinct i j less (omega (arith, end, b.within));
    leads = λ j from less. head_is j (omega (arith, less, b.within)) (at (suc j))
        (b.stands.led.on j (omega (arith, less, b.within)));
    back = head_is depth (omega (arith, b.within)) (at place) b.closes;
  }

  -- its variables
  abbrev pub members : List ℕ
  members = slice_range (variables t.path) place (depth + 1)

  -- how many they are
  size : length members ≡ depth + 1 - place
  size = range_length (variables t.path) place (depth + 1) (omega (arith, b.within, variables_long t.path))

  -- where they stand
  member_is : (j : ℕ) → j < length members → get_or members j 0 ≡ at (place + j)
  member_is j less = range_at (variables t.path) place (depth + 1) j (omega (arith, less, size))

  -- the cycle of the loop
  pub loop : IsClosed g (laid t) (variables t.path) depth place (loop_of g (laid t) (variables t.path) depth place)
  loop = closed g (laid t) (variables t.path) depth place (omega (arith, b.within, variables_long t.path)) round

  -- the pairs of what stands from the place on are those of the loop
  pairs_are : map (slot_pair g) (drop place t.path) ≡ map (pair_of g (laid t)) members
  pairs_are =
      let rest : length (drop place t.path) ≡ length t.path - place = length-drop place t.path in
      let long : length (map (slot_pair g) (drop place t.path)) ≡ length (map (pair_of g (laid t)) members) = omega (
        arith,
        length-map (drop place t.path) (slot_pair g),
        length-map members (pair_of g (laid t)),
        rest,
        size,
        b.within,
      ) in
      ext_get_or (0, 0) (map (slot_pair g) (drop place t.path)) (map (pair_of g (laid t)) members) long (λ j less.
      let near : j < length (drop place t.path) = omega
      (arith, less, length-map (drop place t.path) (slot_pair g)) in
      let inside : j < length members = omega (arith, near, rest, size, b.within) in
      get_or-map (slot_pair g) (drop place t.path) j (0, 0) (0, 0) near
      ∙ ap (slot_pair g) (get_or-drop place t.path j (0, 0)) ∙ slot_is (place + j) (omega (arith, near, rest))
      ∙ sym (get_or-map (pair_of g (laid t)) members j 0 (0, 0) inside ∙ ap (pair_of g (laid t)) (member_is j inside)))

  -- sorted they are its cube
  pub sorted_cube : (pairs sorted : Cube) → pairs ≡ map (slot_pair g) (drop place t.path) → IsPermutation pairs sorted
      → IsNonDecreasingBy (λ (p : ℕ × ℕ). p.0) sorted → IsLoopCube g t place sorted
  sorted_cube pairs sorted are moved up = cube_sorted g (laid t) members sorted loop.members
      (subst (λ xs. IsPermutation xs sorted) (are ∙ pairs_are) moved) up
