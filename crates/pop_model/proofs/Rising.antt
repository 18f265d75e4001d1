-- A list that rises strictly by a key is determined by its members: the heads of two such lists with the same members
-- are the same, since each is a member of the other list and neither is below the other, and so are the tails.
use Rattle.std.proofs.Common.{inl, inr, ◌≡◌, ◌⊎◌, ℕ, zero, suc, ◌+◌, ◌<◌, List, [], ◌∷◌, length, map, refl, sym, ap, ap₂, subst, ◌∙◌, arith, Contains, slice_index, get_or}
use Rattle.std.specs.List.Sorted.{IsStrictlyIncreasing}
use Rattle.std.proofs.lemmas.List.{length-map, get_or-map}
use Rattle.std.proofs.lemmas.List.Kept.{AllPairs-from_increasing}

-- a member of a list is its head or a member of its tail
pub member_cases : {X : Type 0} → (x : X) (xs : List X) (y : X) → Contains (x ∷ xs) y → (x ≡ y) ⊎ Contains xs y
member_cases x xs y (zero, within, same) = inl same
member_cases x xs y (suc k, within, same) = inr (k, omega (arith, within), same)

-- the head is a member
pub head_member : {X : Type 0} → (x : X) (xs : List X) → Contains (x ∷ xs) x
head_member x xs = (zero, omega arith, refl)

-- an empty list has no member
pub none_in : {X : Type 0} → (x : X) → Contains [] x → ⊥
none_in x (k, within, same) = omega (arith, within)

-- the member of a list of one
pub only_member : {X : Type 0} → (x y : X) → Contains (x ∷ []) y → x ≡ y
only_member x y (k, within, same) =
    let first : k ≡ 0 = omega (arith, within) in subst (λ n. get_or (x ∷ []) n y ≡ y) first same

-- a member of the tail is a member
pub tail_member : {X : Type 0} → (x : X) (xs : List X) (y : X) → Contains xs y → Contains (x ∷ xs) y
tail_member x xs y (k, within, same) = (suc k, omega (arith, within), same)

-- the key of the head is below that of each member of the tail
pub below_members : {X : Type 0} → (key : X → ℕ) (x : X) (xs : List X) (y : X)
    → IsStrictlyIncreasing (map key (x ∷ xs)) → Contains xs y → key x < key y
below_members key x xs y rising (k, within, same) =
    let keys : List ℕ = map key (x ∷ xs) in
    let size : length keys ≡ suc (length xs) = length-map (x ∷ xs) key in
    let less : slice_index keys 0 < slice_index keys (suc k) =
    AllPairs-from_increasing keys rising 0 (suc k) 0 (omega arith) (omega arith) in
    let there : slice_index keys (suc k) ≡ key y = get_or-map key xs k y 0 within ∙ ap key same in
    omega (arith, less, there)

-- the tail rises
pub rising_tail : {X : Type 0} → (key : X → ℕ) (x : X) (xs : List X)
    → IsStrictlyIncreasing (map key (x ∷ xs)) → IsStrictlyIncreasing (map key xs)
rising_tail key x xs rising k within =
    let next : suc k + 1 ≡ suc (k + 1) = omega arith in
    subst (λ j. slice_index (map key xs) k < slice_index (map key (x ∷ xs)) j) next (rising (suc k) (omega arith))

-- the members of the list are members of the other
abbrev pub AreMembers : {X : Type 0} → List X → List X → Type 0
AreMembers {X} xs ys = (z : X) → Contains xs z → Contains ys z

-- two heads that are each a member of the other list are the same
same_head : {X : Type 0} → (key : X → ℕ) (x : X) (xs : List X) (y : X) (ys : List X)
    → IsStrictlyIncreasing (map key (x ∷ xs)) → IsStrictlyIncreasing (map key (y ∷ ys))
    → Contains (y ∷ ys) x → Contains (x ∷ xs) y → x ≡ y
same_head key x xs y ys rising rising' x_in y_in = elim (member_cases y ys x x_in) [
  | inl same ↦ sym same
  | inr x_behind ↦ elim (member_cases x xs y y_in) [
    | inl same ↦ same
    | inr y_behind ↦
        let up : key x < key y = below_members key x xs y rising y_behind in
        let down : key y < key x = below_members key y ys x rising' x_behind in
        absurd (omega arith)
  ]
]

-- behind equal heads, the members of the one tail are members of the other
tail_members : {X : Type 0} → (key : X → ℕ) (x : X) (xs : List X) (y : X) (ys : List X)
    → IsStrictlyIncreasing (map key (x ∷ xs)) → x ≡ y → AreMembers (x ∷ xs) (y ∷ ys) → AreMembers xs ys
tail_members key x xs y ys rising same members z z_in =
    elim (member_cases y ys z (members z (tail_member x xs z z_in))) [
      | inl is ↦
          let up : key x < key z = below_members key x xs z rising z_in in
          let equal : key x ≡ key z = ap key (same ∙ is) in
          absurd (omega arith)
      | inr behind ↦ behind
    ]

-- two lists that rise by a key and have the same members are the same
pub same_rising : {X : Type 0} → (key : X → ℕ) (xs ys : List X)
    → IsStrictlyIncreasing (map key xs) → IsStrictlyIncreasing (map key ys)
    → AreMembers xs ys → AreMembers ys xs → xs ≡ ys
same_rising key [] [] rising rising' there back = refl
same_rising key [] (y ∷ ys) rising rising' there back =
    let none = back y (head_member y ys) in absurd (omega (arith, none.1))
same_rising key (x ∷ xs) [] rising rising' there back =
    let none = there x (head_member x xs) in absurd (omega (arith, none.1))
same_rising {X} key (x ∷ xs) (y ∷ ys) rising rising' there back =
    let same : x ≡ y =
    same_head key x xs y ys rising rising' (there x (head_member x xs)) (back y (head_member y ys)) in
    let rest : xs ≡ ys =
    same_rising key xs ys (rising_tail key x xs rising) (rising_tail key y ys rising')
    (tail_members key x xs y ys rising same there) (tail_members key y ys x xs rising' (sym same) back) in
    ap₂ (λ (z : X) (zs : List X). z ∷ zs) same rest
