-- The events of an instance name variables that its stacks have; so a pop of one takes from the room, and all pops
-- that there is room for fit 64 bits.
use Rattle.std.proofs.Common.{◌≡◌, ℕ, ◌<◌, ◌-◌, ◌*◌, ◌≤◌, ◌^◌, List, length, get_or, refl, subst, arith, All}
use Rattle.pop_model.specs.Stacks.{StackTable, variables_of, IsTable}
use Rattle.pop_model.specs.Popping.{Cube, IsCube, HasNext, NamesBelow, cursor, pop}
use Rattle.pop_model.specs.Families.{Event, Family, IsEvent, IsFamily, AreEvents}
use Rattle.pop_model.specs.Families.Family.{Listed, Cycles}
use Rattle.pop_model.specs.Instances.{Instance, FamilyFits, FitsStacks}
use Rattle.pop_model.proofs.Members.{all_at}
use Rattle.pop_model.proofs.Room.{left_from, left_bound, room_falls}
use Rattle.pop_instance.specs.Events.{cube_at}
use Rattle.confluence_core.proofs.Places.{listed, event_at, event_from}
use Rattle.confluence_core.proofs.CycleVariables.{cycle_names_below}

-- an event's cube is a cube
pub event_cube : (family : Family) (e : Event) → IsFamily family → IsEvent family e → IsCube e.cube
event_cube (Listed rows) e are is = all_at (λ (r : ℕ × Cube). IsCube r.1) rows e.unit (is.0, e.cube) is.1 are.cubes
event_cube (Cycles heads) e are is = is.0.cube

-- an event names variables that the stacks have
pub event_below : (i : Instance) (e : Event) → FamilyFits i.stacks i.family → IsEvent i.family e
    → NamesBelow e.cube (variables_of i.stacks)
event_below i e fits is = below i.family fits is
  where
    below : (family : Family) → FamilyFits i.stacks family → IsEvent family e
        → NamesBelow e.cube (variables_of i.stacks)
    below (Listed rows) fits is =
        let fit = all_at (λ (r : ℕ × Cube). FitsStacks i.stacks r.1) rows e.unit (is.0, e.cube) is.1 fits in
        λ k d within. (fit k d within).0
    below (Cycles heads) fits is = λ k d within.
        let less = cycle_names_below heads e.cube is.0 k d within in
        let size = fits.0 in
        omega (arith, less, size)

-- and that have cursors
pub event_known : (i : Instance) (e : Event) (c : List ℕ) → FamilyFits i.stacks i.family → IsEvent i.family e
    → variables_of i.stacks ≡ length c → NamesBelow e.cube (length c)
event_known i e c fits is count = subst (NamesBelow e.cube) count (event_below i e fits is)

-- a pop takes from the room
pub event_falls : (i : Instance) (e : Event) (c : List ℕ) → IsFamily i.family → FamilyFits i.stacks i.family
    → IsEvent i.family e → variables_of i.stacks ≡ length c → HasNext i.stacks c e.cube
    → left_from i.stacks 0 (pop c e.cube) < left_from i.stacks 0 c
event_falls i e c are fits is count next =
    room_falls i.stacks c e.cube (event_cube i.family e are is) (event_known i e c fits is count) next

-- where variables have next entries, their cursors are below the greatest
pub next_low : (s : StackTable) (c : List ℕ) (e : Cube) → IsTable s → HasNext s c e
    → All (λ p. cursor c p.0 < 2 ^ 31 - 1) e
next_low s c e table next k d below =
    let p : ℕ × ℕ = get_or e k d in
    let more = next k d below in
    let height = table.heights p.0 in
    omega (arith, more, height)

-- there is room for fewer than 2 ^ 62 pops
pub pops_fit : (s : StackTable) (c : List ℕ) → IsTable s → variables_of s ≡ length c → left_from s 0 c < 2 ^ 62
pops_fit s c table count =
    let most : left_from s 0 c ≤ length c * 2 ^ 31 = left_bound s table.heights 0 c in
    let few = table.count in
    omega (arith, most, count, few)

-- a pop of a listed event takes from the room
pub listed_falls : (s : StackTable) (c : List ℕ) (rows : List (ℕ × Cube)) (place : ℕ) → place < length rows
    → HasNext s c (cube_at rows place) → AreEvents rows → All (λ r. FitsStacks s r.1) rows → variables_of s ≡ length c
    → left_from s 0 (pop c (cube_at rows place)) < left_from s 0 c
listed_falls s c rows place within next are fits count =
    event_falls (listed s rows) (event_at rows place) c are fits (event_from rows (event_at rows place) within refl) count
    next
