-- The vertices of a cycle that occurs are those of a cycle of the arrows, and each such cycle is one that occurs. From
-- one of its vertices the arrows lead on and back to it. So its variable is on a cycle that occurs, which has exactly
-- the variables to which the arrows lead from there.
use Rattle.std.proofs.Common.{◌≡◌, ℕ, zero, suc, ◌+◌, ◌-◌, ◌<◌, ◌≤◌, true, List, [], ◌∷◌, length, map, get_or, slice_index, Option, Some, refl, sym, ap, subst, ◌∙◌, arith, Contains}
use Rattle.std.specs.List.Sorted.{IsStrictlyIncreasing}
use Rattle.std.proofs.lemmas.List.{length-map, get_or-map}
use Rattle.std.proofs.lemmas.List.FromFn.{length-map-range_with_len}
use Rattle.std.proofs.lemmas.List.Elements.{Contains-get_or}
use Rattle.std.proofs.lemmas.Option.{same_Some}
use Rattle.pop_model.specs.Stacks.{StackTable, value_at}
use Rattle.pop_model.specs.Popping.{Cube, cursor, names, values_at, variables, Occurs}
use Rattle.pop_model.specs.Names.{vertex_of}
use Rattle.pop_model.specs.Cycles.{IsCycle, follow, arrow_at, first_of}
use Rattle.pop_model.specs.Families.{Event, IsEvent}
use Rattle.pop_model.specs.Families.Family.{Cycles}
use Rattle.pop_model.proofs.Diamond.{named, names_it}
use Rattle.pop_model.proofs.Following.{follow_more, follow_before, follow_last}
use Rattle.pop_model.proofs.Rising.{same_rising}
use Rattle.pop_model.proofs.TreeEnd.{head_within, stays_at, leads_at, follows_in}
use Rattle.confluence_core.specs.CycleTables.{CycleTable}
use Rattle.confluence_core.specs.ArrowWalks.{IsOnCycle}
use Rattle.confluence_core.proofs.PassedTwice.{back_on_cycle}
use Rattle.graph_read.specs.Graphs.{GraphOf}
use Rattle.graph_read.proofs.Numbering.{contains_map, contains_map_from}
use Rattle.cycle_popping.specs.Trees.{variable_of, heads_at, heads_of_tree}
use Rattle.cycle_popping.proofs.TreeRows.{variable_below}
use Rattle.pop_print.specs.declared.facts.Facts.TheVariants.{Tree}
use Rattle.pop_print.proofs.TreePlaces.{vertex_rises}
use Rattle.printed_samples.specs.Arrows.{Arrow}
use Rattle.printed_samples.specs.Trees.{slot_arrow, arrows_to, AreSteps}
use Rattle.printed_samples.specs.ArrowCycles.{IsArrowCycle}
use Rattle.printed_samples.specs.TreeLaws.{cycles_over, IsTreeState, PrintedCycles}
use Rattle.printed_samples.proofs.Vertices.{vertex_back, variable_back}
use Rattle.printed_samples.proofs.TreeArrows as over
use Rattle.printed_samples.proofs.StuckNumbers.{IsNamed, are_stuck}

-- the vertices of variables
abbrev pub vertices_of : ℕ → List ℕ → List ℕ
vertices_of root vs = map (vertex_of root) vs

-- they rise with the variables
rising_vertices : (root : ℕ) (vs : List ℕ) → IsStrictlyIncreasing vs → IsStrictlyIncreasing (vertices_of root vs)
rising_vertices root vs rising k within =
    let size = length-map vs (vertex_of root) in
    let here = get_or-map (vertex_of root) vs k 0 0 (omega (arith, size, within)) in
    let next = get_or-map (vertex_of root) vs (k + 1) 0 0 (omega (arith, size, within)) in
    let less = vertex_rises root (get_or vs k 0) (get_or vs (k + 1) 0) (rising k (omega (arith, size, within))) in
    omega (arith, here, next, less)

-- a variable has one vertex
one_variable : (root v w : ℕ) → 1 ≤ root → vertex_of root v ≡ vertex_of root w → v ≡ w
one_variable root v w some same =
    same_Some v w (sym (variable_back root v some) ∙ ap (variable_of root) same ∙ variable_back root w some)

-- a list that nothing is made of is the same
map_id : (xs : List ℕ) → map (λ (n : ℕ). n) xs ≡ xs
map_id [] = refl
map_id (x ∷ xs) = ap (λ (l : List ℕ). x ∷ l) (map_id xs)

-- the variables of a cube are those that it names
has_variable : (e : Cube) (v : ℕ) → names e v ≡ true → Contains (variables e) v
has_variable e v is =
    let (x, has) = named e v is in contains_map (λ (p : ℕ × ℕ). p.0) e (v, x) has

-- and no others
names_variable : (e : Cube) (v : ℕ) → Contains (variables e) v → names e v ≡ true
names_variable e v has =
    let (p, inside, is) = contains_map_from (λ (p : ℕ × ℕ). p.0) e (0, 0) v has in
    subst (λ u. names e u ≡ true) is (names_it e p inside)

module _ (g : GraphOf) (root : ℕ) (s : StackTable) (c : List ℕ) (is : IsTreeState g root s c) where
  -- so many variables
  abbrev size : ℕ
  size = g.vertices - 1

  -- the current slot of a variable, its arrow, all arrows
  abbrev slot : ℕ → ℕ
  slot v = value_at s v (cursor c v)

  abbrev arrow : ℕ → Arrow
  arrow v = slot_arrow g (vertex_of root v) (slot v)

  abbrev arrows : List Arrow
  arrows = arrows_to g root (values_at s c)

  -- the heads of the slots, where a variable's arrow leads, and both with the stacks
  abbrev heads : List (List (Option ℕ))
  heads = heads_of_tree g root

  abbrev step : ℕ → Option ℕ
  step = arrow_at heads s c

  abbrev table : CycleTable
  table = record { stacks = s; heads = heads }

  -- a variable whose arrow leads on is one of the tree's
  below_size : (v w : ℕ) → step v ≡ Some w → v < size
  below_size v w leads =
      let within = head_within heads v (slot v) w leads in
      omega (arith, within, length-map-range_with_len (heads_at g root) 0 size)

  -- where it leads is the variable of the arrow's head
  leads_to : (v w : ℕ) → step v ≡ Some w → (w < size) × (vertex_of root w ≡ (arrow v).head)
  leads_to v w leads =
      let below = below_size v w leads in
      let head = over.head_is g root s c is v below in
      let named_w : variable_of root (arrow v).head ≡ Some w = sym (over.step_is g root s c is v below) ∙ leads in (
        variable_below g.vertices root (arrow v).head w is.root_is head named_w,
        vertex_back g.vertices root (arrow v).head w is.root_is.first head named_w,
      )

  -- steps are a path along the arrows
  walk : (k v w : ℕ) → follow step k v ≡ Some w
      → (path : List Arrow) × AreSteps arrows (vertex_of root v) path (vertex_of root w)
  walk zero v w h = ([], ap (vertex_of root) (same_Some v w h))
  walk (suc k) v w h =
      let (next, at) = follow_before step 1 (suc k) v w (omega arith) h in
      let (less, same) = leads_to v next at in
      let sum : 1 + k ≡ suc k = omega arith in
      let rest : follow step k next ≡ Some w =
      sym (follow_more step 1 k v next at) ∙ ap (λ m. follow step m v) sum ∙ h in
      let (path, steps) = walk k next w rest in (
        arrow v ∷ path,
        (
          over.has_arrow g root s c is v (below_size v next at),
          refl,
          subst (λ u. AreSteps arrows u path (vertex_of root w)) same steps,
        ),
      )

  -- an arrow is that of the variable of its tail
  arrow_of : (a : Arrow) (v : ℕ) → Contains arrows a → a.tail ≡ vertex_of root v → (v < size) × (arrow v ≡ a)
  arrow_of a v has tail =
      let (u, below, same) = over.arrow_from g root s c is a has in
      let equal : u ≡ v =
      one_variable root u v is.root_is.first (ap (λ (b : Arrow). b.tail) same ∙ tail) in
      (subst (λ w. w < size) equal below, subst (λ w. arrow w ≡ a) equal same)

module _ (g : GraphOf) (root : ℕ) (s : StackTable) (c : List ℕ) (is : IsTreeState g root s c) (e : Cube)
    (cycle : IsCycle (heads_of_tree g root) e) (occurs : Occurs s c e) where
  -- the vertices of the cube
  abbrev numbers : List ℕ
  numbers = vertices_of root (variables e)

  -- the variable of a number
  named_by : (w : ℕ) → Contains numbers w → (v : ℕ) × (names e v ≡ true) × (vertex_of root v ≡ w)
  named_by w has =
      let (v, inside, same) = contains_map_from (vertex_of root) (variables e) 0 w has in
      (v, names_variable e v inside, same)

  -- each of its variables has a number
  number_of : (v : ℕ) → names e v ≡ true → Contains numbers (vertex_of root v)
  number_of v at = contains_map (vertex_of root) (variables e) v (has_variable e v at)

  -- a variable of a cycle has an arrow, to a variable of the cycle
  next_of : (v : ℕ) → names e v ≡ true → (next : ℕ) × (step g root s c is v ≡ Some next) × (names e next ≡ true)
  next_of v at =
      let on = stays_at (heads_of_tree g root) s c e v cycle occurs at in (on.next, on.leads, on.named)

  -- the vertices of a cycle that occurs are those of a cycle of the arrows
  pub to_arrow_cycle : IsArrowCycle (arrows g root s c is) numbers
  to_arrow_cycle = record {
    some = let some = cycle.cube.some in
        omega (arith, some, length-map (variables e) (vertex_of root), length-map e (λ (p : ℕ × ℕ). p.0));
    rising = rising_vertices root (variables e) cycle.cube.rising;
    goes_on = λ w has.
        let (v, at, same) = named_by w has in
        let (next, leads, on) = next_of v at in
        subst (Contains (map (λ (a : Arrow). a.tail) (arrows g root s c is))) same
        (contains_map (λ (a : Arrow). a.tail) (arrows g root s c is) (arrow g root s c is v)
        (over.has_arrow g root s c is v (below_size g root s c is v next leads)));
    stays = λ a inside has.
        let (v, at, tail) = named_by a.tail has in
        let (below, same) = arrow_of g root s c is a v inside (sym tail) in
        let (next, leads, on) = next_of v at in
        subst (Contains numbers)
        ((leads_to g root s c is v next leads).1 ∙ ap (λ (b : Arrow). b.head) same) (number_of next on);
    joined = λ u w has_u has_w.
        let (v, at_v, from) = named_by u has_u in
        let (x, at_x, to) = named_by w has_w in
        let (k, leads) = leads_at (heads_of_tree g root) s c e v x cycle occurs at_v at_x in
        subst (λ y. (path : List Arrow) × AreSteps (arrows g root s c is) y path w) from
        (subst (λ y. (path : List Arrow) × AreSteps (arrows g root s c is) (vertex_of root v) path y) to
        (walk g root s c is k v x leads));
  }

module _ (g : GraphOf) (root : ℕ) (s : StackTable) (c : List ℕ) (is : IsTreeState g root s c) (numbers : List ℕ)
    (ring : IsArrowCycle (arrows_to g root (values_at s c)) numbers) where
  -- where a variable's arrow leads
  abbrev to : ℕ → Option ℕ
  to = step g root s c is

  -- a vertex of the ring is that of a variable
  vertex_there : (w : ℕ) → Contains numbers w → (v : ℕ) × (vertex_of root v ≡ w)
  vertex_there w has =
      let (a, inside, tail) =
      contains_map_from (λ (b : Arrow). b.tail) (arrows g root s c is) (arrow g root s c is 0) w (ring.goes_on w has)
      in
      let (v, below, same) = over.arrow_from g root s c is a inside in
      (v, ap (λ (b : Arrow). b.tail) same ∙ tail)

  -- whose arrow leads to one of its vertices
  goes : (v : ℕ) → Contains numbers (vertex_of root v)
      → (next : ℕ) × (to v ≡ Some next) × Contains numbers (vertex_of root next)
  goes v has =
      let (a, inside, tail) =
      contains_map_from (λ (b : Arrow). b.tail) (arrows g root s c is) (arrow g root s c is v) (vertex_of root v)
      (ring.goes_on (vertex_of root v) has) in
      let (below, same) = arrow_of g root s c is a v inside tail in
      let there : Contains numbers a.head = ring.stays a inside (subst (Contains numbers) (sym tail) has) in
      let (next, at) = vertex_there a.head there in (
        next,
        over.step_is g root s c is v below ∙ ap (variable_of root) (ap (λ (b : Arrow). b.head) same ∙ sym at)
            ∙ variable_back root next is.root_is.first,
        subst (Contains numbers) (sym at) there,
      )

  -- a path from one of its vertices to another is steps
  back_walk : (path : List Arrow) (v w : ℕ) → Contains numbers (vertex_of root v)
      → AreSteps (arrows g root s c is) (vertex_of root v) path (vertex_of root w) → follow to (length path) v ≡ Some w
  back_walk [] v w has steps = ap (λ u. Some u) (one_variable root v w is.root_is.first steps)
  back_walk (a ∷ path) v w has (inside, tail, rest) =
      let (below, same) = arrow_of g root s c is a v inside tail in
      let (next, leads, at) = goes v has in
      let head : a.head ≡ vertex_of root next =
      sym ((leads_to g root s c is v next leads).1 ∙ ap (λ (b : Arrow). b.head) same) in
      let on : follow to (length path) next ≡ Some w =
      back_walk path next w at (subst (λ u. AreSteps (arrows g root s c is) u path (vertex_of root w)) head rest) in
      let sum : suc (length path) ≡ 1 + length path = omega arith in
      ap (λ m. follow to m v) sum ∙ follow_more to 1 (length path) v next leads ∙ on

  -- steps from one of them lead to one
  stays_on : (k v w : ℕ) → Contains numbers (vertex_of root v) → follow to k v ≡ Some w
      → Contains numbers (vertex_of root w)
  stays_on zero v w has h = subst (λ u. Contains numbers (vertex_of root u)) (same_Some v w h) has
  stays_on (suc k) v w has h =
      let (u, before, last) = follow_last to k v w h in
      let (next, leads, at) = goes u (stays_on k v u has before) in
      subst (λ x. Contains numbers (vertex_of root x)) (same_Some next w (sym leads ∙ last)) at

  -- its vertices are those of a cycle that occurs
  pub from_arrow_cycle : IsNamed (Tree g root) (cycles_over s g root) c numbers
  from_arrow_cycle =
      let w0 : ℕ = get_or numbers 0 0 in
      let first = vertex_there w0 (Contains-get_or numbers 0 0 ring.some) in
      let v0 : ℕ = first.0 in
      let has : Contains numbers (vertex_of root v0) =
      subst (Contains numbers) (sym first.1) (Contains-get_or numbers 0 0 ring.some) in
      let (next, leads, at) = goes v0 has in
      let (path, steps) = ring.joined (vertex_of root next) (vertex_of root v0) at has in
      let home : follow to (1 + length path) v0 ≡ Some v0 =
      follow_more to 1 (length path) v0 next leads ∙ back_walk path next v0 at steps in
      let on : IsOnCycle (table g root s c is) c v0 =
      back_on_cycle (table g root s c is) c v0 (1 + length path) v0 home (omega arith) refl in
      let e : Cube = on.cube in
      record {
        event = record { unit = first_of e; cube = e };
        event_is = (on.cycle, refl);
        occurs = on.occurs;
        numbers_are =
            same_rising (λ (n : ℕ). n) (vertices_of root (variables e)) numbers
            (subst IsStrictlyIncreasing (sym (map_id (vertices_of root (variables e))))
            (rising_vertices root (variables e) on.cycle.cube.rising))
            (subst IsStrictlyIncreasing (sym (map_id numbers)) ring.rising)
            (λ w inside.
            let (v, named_v, same) = named_by g root s c is e on.cycle on.occurs w inside in
            let (k, from) = leads_at (heads_of_tree g root) s c e v0 v on.cycle on.occurs on.named named_v in
            subst (Contains numbers) same (stays_on k v0 v has from))
            (λ w inside.
            let (v, same) = vertex_there w inside in
            let there : Contains numbers (vertex_of root v) = subst (Contains numbers) (sym same) inside in
            let (way, along) = ring.joined (vertex_of root v0) (vertex_of root v) has there in
            let named_v : names e v ≡ true =
            follows_in (heads_of_tree g root) s c e v0 (length way) v on.cycle on.occurs on.named
            (back_walk way v0 v has along) in
            subst (Contains (vertices_of root (variables e))) same
            (number_of g root s c is e on.cycle on.occurs v named_v));
      }

-- the first vertices rise with the units
first_vertices_rise : (root : ℕ) (heads : List (List (Option ℕ))) (e f : Event) → IsEvent (Cycles heads) e
    → IsEvent (Cycles heads) f → e.unit < f.unit
    → slice_index (vertices_of root (variables e.cube)) 0 < slice_index (vertices_of root (variables f.cube)) 0
first_vertices_rise root heads e f (cycle, unit) (other, unit') less =
    let some = cycle.cube.some in
    let some' = other.cube.some in
    let here = get_or-map (vertex_of root) (variables e.cube) 0 0 0
    (omega (arith, some, length-map e.cube (λ (p : ℕ × ℕ). p.0))) in
    let there = get_or-map (vertex_of root) (variables f.cube) 0 0 0
    (omega (arith, some', length-map f.cube (λ (p : ℕ × ℕ). p.0))) in
    let rises = vertex_rises root (first_of e.cube) (first_of f.cube) (omega (arith, unit, unit', less)) in
    omega (arith, here, there, rises)

-- the law
pub printed_cycles : PrintedCycles
printed_cycles g root s c stuck is list some =
    are_stuck (Tree g root) (cycles_over s g root) c stuck (IsArrowCycle (arrows_to g root (values_at s c)))
    (record {
      rise = first_vertices_rise root (heads_of_tree g root);
      there = λ e event occurs. to_arrow_cycle g root s c is e.cube event.0 occurs;
      back = λ numbers ring. from_arrow_cycle g root s c is numbers ring;
    })
    list some
