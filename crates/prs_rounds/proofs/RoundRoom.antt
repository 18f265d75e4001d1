-- How many rounds there is room for: each moves a cursor on.
use Rattle.std.proofs.Common.{inl, inr, ◌≡◌, ℕ, ◌+◌, ◌*◌, ◌^◌, ◌<◌, ◌≤◌, List, [], length, get_or, refl, sym, subst, arith, All}
use Rattle.std.proofs.lemmas.Bool.{cases_lt}
use Rattle.std.proofs.lemmas.List.Elements.{Contains-get_or}
use Rattle.pop_model.specs.Stacks.{StackTable, variables_of, height_of, IsTable}
use Rattle.pop_model.specs.Popping.{Cube, cursor}
use Rattle.pop_model.specs.Families.{AreEvents}
use Rattle.pop_model.specs.Instances.{Instance, FitsStacks}
use Rattle.pop_model.proofs.Room.{left_from, left_bound, left_falls_more}
use Rattle.pop_model.proofs.Diamond.{names_it}
use Rattle.pop_instance.specs.Events.{cube_at}
use Rattle.confluence_core.proofs.Places.{listed, event_at, event_from}
use Rattle.prs_rounds.specs.Resampling.{IsResampledVariable}
use Rattle.prs_rounds.specs.Rounds.{IsRound}
use Rattle.prs_rounds.specs.Grown.{StartsAt}
use Rattle.prs_rounds.proofs.OnlyOccurring.{occurs_resampled}

-- a round lowers no cursor
pub round_up : (i : Instance) (c new : List ℕ) → IsRound i c new → (v : ℕ) → cursor c v ≤ cursor new v
round_up i c new round v = elim (cases_lt (cursor new v) (cursor c v)) [
  | inr not_less ↦ not_less
  | inl less ↦ absurd (
      let none : IsResampledVariable i c v → ⊥ = λ h. let moved = round.moved v h in
      omega (arith, moved, less) in
      let kept = round.kept v none in omega (arith, kept, less))
]

-- a round that moves a variable on takes from the room
pub variable_falls : (i : Instance) (c new : List ℕ) → IsRound i c new → (v : ℕ) → v < length c
    → IsResampledVariable i c v → left_from i.stacks 0 new < left_from i.stacks 0 c
variable_falls i c new round v below variable =
    let moved = round.moved v variable in
    let room = round.room v variable in
    let same : v ≡ 0 + v = omega arith in
    left_falls_more i.stacks 0 c new v (sym round.count) (λ w h. round_up i c new round w) below (omega (arith, moved))
    (subst (λ w. cursor c v < height_of i.stacks w) same (omega (arith, room)))

-- each round takes from it
pub round_falls : (s : StackTable) (rows : List (ℕ × Cube)) (c new values found : List ℕ) → AreEvents rows
    → All (λ r. FitsStacks s r.1) rows → variables_of s ≡ length c → StartsAt s rows c values found → 0 < length found
    → IsRound (listed s rows) c new → left_from s 0 new < left_from s 0 c
round_falls s rows c new values found events fits count starts some round =
    let u : ℕ = get_or found 0 0 in
    let has = Contains-get_or found 0 0 some in
    let within : u < length rows = starts.known u has in
    let occurs = (starts.exact u within).0 has in
    let p : ℕ × ℕ = get_or (cube_at rows u) 0 (0, 0) in
    let first : 0 < length (cube_at rows u) = (events.cubes u (0, []) within).some in
    let in_cube = Contains-get_or (cube_at rows u) 0 (0, 0) first in
    let variable : IsResampledVariable (listed s rows) c p.0 = (
      event_at rows u,
      occurs_resampled (listed s rows) c (event_at rows u)
          (record { event = event_from rows (event_at rows u) within refl; occurs = occurs }),
      names_it (cube_at rows u) p in_cube,
    ) in
    let below : p.0 < length c = let fit = (fits u (0, []) within 0 (0, 0) first).0 in omega (arith, fit, count) in
    variable_falls (listed s rows) c new round p.0 below variable

-- there is room for fewer than 2 ^ 62 rounds
pub rounds_fit : (s : StackTable) (c : List ℕ) → IsTable s → length c ≡ variables_of s → left_from s 0 c < 2 ^ 62
rounds_fit s c table count =
    let most : left_from s 0 c ≤ length c * 2 ^ 31 = left_bound s table.heights 0 c in
    let few = table.count in
    omega (arith, most, count, few)
