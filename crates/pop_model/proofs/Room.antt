-- How many pops there is room for: each pop takes from it, so a run ends.
use Rattle.std.proofs.Common.{inl, inr, ◌≡◌, ℕ, zero, suc, add-zero, ◌+◌, ◌-◌, ◌*◌, ◌^◌, ◌<◌, ◌≤◌, true, cond, List, [], ◌∷◌, length, get_or, sym, ap, subst, ◌∙◌, arith}
use Rattle.std.proofs.lemmas.List.Elements.{Contains-get_or, All-contains}
use Rattle.std.proofs.lemmas.Bool.{cases_Bool}
use Rattle.pop_model.specs.Stacks.{StackTable, variables_of, height_of}
use Rattle.pop_model.specs.Popping.{Cube, IsCube, HasNext, NamesBelow, AreWithin, cursor, names, pop}
use Rattle.pop_model.proofs.PopLemmas.{length-pop, cursor-pop, cursor-pop_other}
use Rattle.pop_model.proofs.Diamond.{named, names_it}

-- the entries from the cursors on, of the variables from v on
abbrev pub left_from : StackTable → ℕ → List ℕ → ℕ
left_from s v [] = 0
left_from s v (k ∷ c) = height_of s v - k + left_from s (suc v) c

-- the lists have one length, and each number of c is at most that of d
abbrev pub Below : List ℕ → List ℕ → Type 0
Below c d = (w : ℕ) → w < length c → get_or c w 0 ≤ get_or d w 0

-- cursors that are no less leave no more room
pub left_falls : (s : StackTable) (v : ℕ) (c d : List ℕ) → length c ≡ length d → Below c d
    → left_from s v d ≤ left_from s v c
left_falls s v [] [] e h = omega arith
left_falls s v [] (y ∷ d) e h = absurd (omega arith)
left_falls s v (x ∷ c) [] e h = absurd (omega arith)
left_falls s v (x ∷ c) (y ∷ d) e h =
    let rest : left_from s (suc v) d ≤ left_from s (suc v) c =
    left_falls s (suc v) c d (omega arith) (λ w below. h (suc w) (omega arith)) in
    let head : x ≤ y = h 0 (omega arith) in
    omega arith

-- and there is less room where one of them is greater
pub left_falls_more : (s : StackTable) (v : ℕ) (c d : List ℕ) (at : ℕ) → length c ≡ length d → Below c d → at < length c
    → get_or c at 0 < get_or d at 0 → get_or c at 0 < height_of s (v + at) → left_from s v d < left_from s v c
left_falls_more s v [] d at e h within more room = absurd (omega arith)
left_falls_more s v (x ∷ c) [] at e h within more room = absurd (omega arith)
left_falls_more s v (x ∷ c) (y ∷ d) zero e h within more room =
    let rest : left_from s (suc v) d ≤ left_from s (suc v) c =
    left_falls s (suc v) c d (omega arith) (λ w below. h (suc w) (omega arith)) in
    let here : x < height_of s v = subst (λ w. x < height_of s w) (add-zero v) room in
    omega arith
left_falls_more s v (x ∷ c) (y ∷ d) (suc at) e h within more room =
    let there : v + suc at ≡ suc v + at = omega arith in
    let rest : left_from s (suc v) d < left_from s (suc v) c =
    left_falls_more s (suc v) c d at (omega arith) (λ w below. h (suc w) (omega arith)) (omega arith) more (subst (λ w. get_or c at 0 < height_of s w) there room) in
    let head : x ≤ y = h zero (omega arith) in
    omega arith

-- there is room for fewer than 2 ^ 31 pops a variable
pub left_bound : (s : StackTable) → ((v : ℕ) → height_of s v < 2 ^ 31) → (v : ℕ) (c : List ℕ)
    → left_from s v c ≤ length c * 2 ^ 31
left_bound s short v [] = omega arith
left_bound s short v (k ∷ c) = let rest = left_bound s short (suc v) c in let here =
    short v in omega (arith, rest, here)

-- a pop lowers no cursor
pub not_lowered : (c : List ℕ) (e : Cube) (w : ℕ) → w < length c → cursor c w ≤ cursor (pop c e) w
not_lowered c e w below = elim (cases_Bool (names e w)) [
  | inl is ↦ let at : cursor (pop c e) w ≡ cursor c w + 1 = cursor-pop c e w below
      ∙ ap (λ b. cond b (cursor c w + 1) (cursor c w)) is in omega arith
  | inr other ↦ let at : cursor (pop c e) w ≡ cursor c w = cursor-pop_other c e w other in omega arith
]

-- a pop takes from the room
pub room_falls : (s : StackTable) (c : List ℕ) (e : Cube) → IsCube e → NamesBelow e (length c) → HasNext s c e
    → left_from s 0 (pop c e) < left_from s 0 c
room_falls s c e cube below next =
    let p : ℕ × ℕ = get_or e 0 (0, 0) in
    let is : names e p.0 ≡ true = names_it e p (Contains-get_or e 0 (0, 0) cube.some) in
    let v_below : p.0 < length c = below 0 (0, 0) cube.some in
    let room : cursor c p.0 + 1 < height_of s p.0 = next 0 (0, 0) cube.some in
    let at : cursor (pop c e) p.0 ≡ cursor c p.0 + 1 = cursor-pop c e p.0 v_below
    ∙ ap (λ b. cond b (cursor c p.0 + 1) (cursor c p.0)) is in
    let same : p.0 ≡ 0 + p.0 = omega arith in
    left_falls_more s 0 c (pop c e) p.0 (sym (length-pop c e)) (λ w h. not_lowered c e w h) v_below (omega arith) (subst (λ w. cursor c p.0 < height_of s w) same (omega arith))

-- a pop of a cube with next entries leaves the cursors below the heights
pub within_pop : (s : StackTable) (c : List ℕ) (e : Cube) → variables_of s ≡ length c → HasNext s c e → AreWithin s c
    → AreWithin s (pop c e)
within_pop s c e count next within v below = elim (cases_Bool (names e v)) [
  | inl is ↦
      let x = named e v is in
      let room : cursor c v + 1 < height_of s v =
      All-contains (λ (p : ℕ × ℕ). cursor c p.0 + 1 < height_of s p.0) e (v, x.0) next x.1 in
      let at : cursor (pop c e) v ≡ cursor c v + 1 = cursor-pop c e v (omega arith)
      ∙ ap (λ b. cond b (cursor c v + 1) (cursor c v)) is in
      omega arith
  | inr other ↦
      let at : cursor (pop c e) v ≡ cursor c v = cursor-pop_other c e v other in
      let old : cursor c v < height_of s v = within v below in
      omega arith
]
