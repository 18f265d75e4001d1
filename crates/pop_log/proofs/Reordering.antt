-- Two lists of which one results from the other by exchanges of neighbours that do not depend on one another: one
-- trace (Mazurkiewicz 1977; Cartier and Foata 1969). A property that such an exchange preserves is preserved by a
-- reordering. Two lists with the same members are reorderings of one another, if in both the members that depend are
-- in one order. The first of one list is in the other only after members that it does not depend on, and can be moved
-- to its front.
use Rattle.std.proofs.Common.{inl, inr, ◌≡◌, zero, suc, List, [], ◌∷◌, ◌++◌, map, get_or, refl, sym, ap, subst, arith, Contains, AllPairs}
use Rattle.std.proofs.lemmas.List.{map-append}
use Rattle.std.proofs.lemmas.List.Elements.{Contains-append_left, Contains-append_right, Contains-append_cases, Contains-get_or}
use Rattle.pop_model.proofs.Rising.{member_cases, head_member, tail_member, AreMembers}
use Rattle.pop_model.proofs.Members.{pairs_tail}

-- the other list comes from the first by exchanges of neighbours that don't depend on one another
pub data IsReordered {X : Type 0} (Depend : X → X → Type 0) : List X → List X → Type 0 where
  same : (xs : List X) → IsReordered Depend xs xs
  exchanged : (front back : List X) (x y : X) (other : List X) → (Depend x y → ⊥)
      → IsReordered Depend (front ++ y ∷ x ∷ back) other → IsReordered Depend (front ++ x ∷ y ∷ back) other

-- what an exchange of such neighbours keeps
abbrev pub IsKept : {X : Type 0} → (X → X → Type 0) → (List X → Type 0) → Type 0
IsKept {X} Depend P = (front back : List X) (x y : X) → (Depend x y → ⊥) → P (front ++ x ∷ y ∷ back)
    → P (front ++ y ∷ x ∷ back)

-- a reordering keeps it too
pub keeps : {X : Type 0} (Depend : X → X → Type 0) (P : List X → Type 0) → IsKept Depend P → (xs ys : List X)
    → IsReordered Depend xs ys → P xs → P ys
keeps Depend P step xs ys (same zs) holds = holds
keeps Depend P step xs ys (exchanged front back x y other apart rest) holds =
    keeps Depend P step (front ++ y ∷ x ∷ back) other rest (step front back x y apart holds)

-- behind one more
pub reordered_cons : {X : Type 0} (Depend : X → X → Type 0) (z : X) (xs ys : List X) → IsReordered Depend xs ys
    → IsReordered Depend (z ∷ xs) (z ∷ ys)
reordered_cons Depend z xs ys (same zs) = same (z ∷ zs)
reordered_cons Depend z xs ys (exchanged front back x y other apart rest) =
    exchanged (z ∷ front) back x y (z ∷ other) apart
    (reordered_cons Depend z (front ++ y ∷ x ∷ back) other rest)

-- one after the other
pub reordered_trans : {X : Type 0} (Depend : X → X → Type 0) (xs ys zs : List X) → IsReordered Depend xs ys
    → IsReordered Depend ys zs → IsReordered Depend xs zs
reordered_trans Depend xs ys zs (same us) second = second
reordered_trans Depend xs ys zs (exchanged front back x y other apart rest) second =
    exchanged front back x y zs apart (reordered_trans Depend (front ++ y ∷ x ∷ back) other zs rest second)

-- a member that depends on none before it is brought to the front
pub to_front : {X : Type 0} (Depend : X → X → Type 0) (a b : List X) (x : X)
    → ((y : X) → Contains a y → Depend y x → ⊥) → IsReordered Depend (a ++ x ∷ b) (x ∷ a ++ b)
to_front Depend [] b x apart = same (x ∷ b)
to_front Depend (y ∷ a) b x apart =
    reordered_trans Depend (y ∷ a ++ x ∷ b) (y ∷ x ∷ a ++ b) (x ∷ y ∷ a ++ b)
    (reordered_cons Depend y (a ++ x ∷ b) (x ∷ a ++ b)
    (to_front Depend a b x (λ z among. apart z (tail_member y a z among))))
    (exchanged [] (a ++ b) y x (x ∷ y ∷ a ++ b) (apart y (head_member y a)) (same (x ∷ y ∷ a ++ b)))

-- the image of a reordering
pub reordered_map : {X Y : Type 0} (Depend : Y → Y → Type 0) (f : X → Y) (xs ys : List X)
    → IsReordered (λ x y. Depend (f x) (f y)) xs ys → IsReordered Depend (map f xs) (map f ys)
reordered_map Depend f xs ys (same zs) = same (map f zs)
reordered_map Depend f xs ys (exchanged front back x y other apart rest) =
    let old = map-append f front (x ∷ y ∷ back) in
    let new = map-append f front (y ∷ x ∷ back) in
    let later = reordered_map Depend f (front ++ y ∷ x ∷ back) other rest in
    subst (λ l. IsReordered Depend l (map f other)) (sym old)
    (exchanged (map f front) (map f back) (f x) (f y) (map f other) apart
    (subst (λ l. IsReordered Depend l (map f other)) new later))

-- a list around one of its members
pub record IsAround {X : Type 0} (xs : List X) (x : X) : Type 0 where
  pub before : List X
  pub after : List X
  pub is : xs ≡ before ++ x ∷ after

-- a list is so around each of its members
pub around : {X : Type 0} (xs : List X) (x : X) → Contains xs x → IsAround xs x
around [] x among = absurd (omega (arith, among.1))
around (y ∷ xs) x among = elim (member_cases y xs x among) [
  | inl here ↦ record { before = []; after = xs; is = ap (λ z. z ∷ xs) here }
  | inr later ↦
      let rest = around xs x later in
      record { before = y ∷ rest.before; after = rest.after; is = ap (λ l. y ∷ l) rest.is }
]

-- what holds of all pairs holds of the head and each later one
pub pairs_head : {X : Type 0} (R : X → X → Type 0) (x : X) (xs : List X) → AllPairs R (x ∷ xs) → (y : X)
    → Contains xs y → R x y
pairs_head R x xs all y (k, within, is) =
    subst (R x) is (all 0 (suc k) y (omega arith) (omega (arith, within)))

-- and of all pairs where it holds of these two
pub pairs_cons : {X : Type 0} (R : X → X → Type 0) (x : X) (xs : List X) → ((y : X) → Contains xs y → R x y)
    → AllPairs R xs → AllPairs R (x ∷ xs)
pairs_cons R x xs first rest i zero d before within = absurd (omega arith)
pairs_cons R x xs first rest zero (suc j) d before within =
    first (get_or xs j d) (Contains-get_or xs j d (omega arith))
pairs_cons R x xs first rest (suc i) (suc j) d before within = rest i j d (omega arith) (omega arith)

-- all pairs of a part behind
pub pairs_behind : {X : Type 0} (R : X → X → Type 0) (a b : List X) → AllPairs R (a ++ b) → AllPairs R b
pairs_behind R [] b all = all
pairs_behind R (x ∷ a) b all = pairs_behind R a b (pairs_tail R x (a ++ b) all)

-- a member of the one part and one of the part behind it
pub pairs_across : {X : Type 0} (R : X → X → Type 0) (a b : List X) (x y : X) → AllPairs R (a ++ b) → Contains a x
    → Contains b y → R x y
pairs_across R [] b x y all in_a in_b = absurd (omega (arith, in_a.1))
pairs_across R (z ∷ a) b x y all in_a in_b = elim (member_cases z a x in_a) [
  | inl here ↦ subst (λ u. R u y) here (pairs_head R z (a ++ b) all y (Contains-append_right a b y in_b))
  | inr later ↦ pairs_across R a b x y (pairs_tail R z (a ++ b) all) later in_b
]

-- a member of a list that lacks one is a member of the whole list
pub with_one : {X : Type 0} (a b : List X) (x z : X) → Contains (a ++ b) z → Contains (a ++ x ∷ b) z
with_one a b x z among = elim (Contains-append_cases a b z among) [
  | inl in_a ↦ Contains-append_left a (x ∷ b) z in_a
  | inr in_b ↦ Contains-append_right a (x ∷ b) z (tail_member x b z in_b)
]

-- all pairs of a list that lacks one of its members
pub pairs_without : {X : Type 0} (R : X → X → Type 0) (a b : List X) (x : X) → AllPairs R (a ++ x ∷ b)
    → AllPairs R (a ++ b)
pairs_without R [] b x all = pairs_tail R x b all
pairs_without R (y ∷ a) b x all =
    pairs_cons R y (a ++ b)
    (λ z among. pairs_head R y (a ++ x ∷ b) all z (with_one a b x z among))
    (pairs_without R a b x (pairs_tail R y (a ++ x ∷ b) all))

-- an order of what depends: dependence goes both ways, and of two one alone is less than the other
pub record IsOrdered {X : Type 0} (Depend Less : X → X → Type 0) : Type 0 where
  pub flips : (x y : X) → Depend x y → Depend y x
  pub one_way : (x y : X) → Less x y → Less y x → ⊥

-- members that depend stand in the order
abbrev pub StandInOrder : {X : Type 0} → (X → X → Type 0) → (X → X → Type 0) → List X → Type 0
StandInOrder {X} Depend Less xs = AllPairs (λ x y. Depend x y → Less x y) xs

-- a list whose members are those of none
empty_from : {X : Type 0} (xs : List X) → AreMembers xs [] → xs ≡ []
empty_from [] there = refl
empty_from (x ∷ xs) there = let none = there x (head_member x xs) in absurd (omega (arith, none.1))

module _ {X : Type 0} (Depend Less : X → X → Type 0) (order : IsOrdered Depend Less) where
  -- a member that depends on itself stands in no list twice that is in order
  once : (y : X) (ys : List X) → Depend y y → StandInOrder Depend Less (y ∷ ys) → Contains ys y → ⊥
  once y ys own up among =
      let less = pairs_head (λ x z. Depend x z → Less x z) y ys up y among own in order.one_way y y less less

  -- the first of one list stands in the other behind members alone on which it doesn't depend
  module _ (y : X) (ys a b : List X) (own : Depend y y) (up : StandInOrder Depend Less (y ∷ ys))
      (all : StandInOrder Depend Less (a ++ y ∷ b)) (there : AreMembers (a ++ y ∷ b) (y ∷ ys))
      (back : AreMembers (y ∷ ys) (a ++ y ∷ b)) where
    -- it doesn't stand before itself
    not_before : Contains a y → ⊥
    not_before in_a =
        let less = pairs_across (λ x z. Depend x z → Less x z) a (y ∷ b) y y all in_a (head_member y b) own in
        order.one_way y y less less

    -- nor behind itself
    not_behind : Contains b y → ⊥
    not_behind in_b = once y b own (pairs_behind (λ x z. Depend x z → Less x z) a (y ∷ b) all) in_b

    -- what stands before it doesn't depend on it
    apart : (z : X) → Contains a z → Depend z y → ⊥
    apart z in_a depend =
        let less = pairs_across (λ x z. Depend x z → Less x z) a (y ∷ b) z y all in_a (head_member y b) depend in
        elim (member_cases y ys z (there z (Contains-append_left a (y ∷ b) z in_a))) [
          | inl is ↦ not_before (subst (Contains a) (sym is) in_a)
          | inr later ↦
              let more = pairs_head (λ x z. Depend x z → Less x z) y ys up z later (order.flips z y depend) in
              order.one_way z y less more
        ]

    -- without it the lists have the same members still
    fewer : AreMembers (a ++ b) ys
    fewer z among = elim (member_cases y ys z (there z (with_one a b y z among))) [
      | inl is ↦ absurd (elim (Contains-append_cases a b z among) [
        | inl in_a ↦ not_before (subst (Contains a) (sym is) in_a)
        | inr in_b ↦ not_behind (subst (Contains b) (sym is) in_b)
      ])
      | inr later ↦ later
    ]

    -- in both directions
    others : AreMembers ys (a ++ b)
    others z among = elim (Contains-append_cases a (y ∷ b) z (back z (tail_member y ys z among))) [
      | inl in_a ↦ Contains-append_left a b z in_a
      | inr behind ↦ elim (member_cases y b z behind) [
        | inl is ↦ absurd (once y ys own up (subst (Contains ys) (sym is) among))
        | inr in_b ↦ Contains-append_right a b z in_b
      ]
    ]

  -- lists with the same members, in both of which members that depend stand in the order
  pub reordered : (ys xs : List X) → StandInOrder Depend Less xs → StandInOrder Depend Less ys
      → ((x : X) → Contains xs x → Depend x x) → AreMembers xs ys → AreMembers ys xs → IsReordered Depend xs ys
  reordered [] xs up up' selves there back =
      subst (λ l. IsReordered Depend l []) (sym (empty_from xs there)) (same [])
  reordered (y ∷ ys) xs up up' selves there back =
      let place = around xs y (back y (head_member y ys)) in
      let a = place.before in
      let b = place.after in
      let own = selves y (back y (head_member y ys)) in
      let all : StandInOrder Depend Less (a ++ y ∷ b) = subst (StandInOrder Depend Less) place.is up in
      let there' : AreMembers (a ++ y ∷ b) (y ∷ ys) = subst (λ l. AreMembers l (y ∷ ys)) place.is there in
      let back' : AreMembers (y ∷ ys) (a ++ y ∷ b) = subst (λ l. AreMembers (y ∷ ys) l) place.is back in
      let rest : IsReordered Depend (a ++ b) ys =
      reordered ys (a ++ b) (pairs_without (λ x z. Depend x z → Less x z) a b y all)
      (pairs_tail (λ x z. Depend x z → Less x z) y ys up')
      (λ z among. selves z (subst (λ l. Contains l z) (sym place.is) (with_one a b y z among)))
      (fewer y ys a b own up' all there' back') (others y ys a b own up' all there' back') in
      subst (λ l. IsReordered Depend l (y ∷ ys)) (sym place.is)
      (reordered_trans Depend (a ++ y ∷ b) (y ∷ a ++ b) (y ∷ ys)
      (to_front Depend a b y (apart y ys a b own up' all there' back'))
      (reordered_cons Depend y (a ++ b) ys rest))
