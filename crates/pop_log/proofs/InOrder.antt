-- A list in a strict order is determined by its members. Take two such lists with the same members. Their heads are
-- equal, since each is a member of the other list and neither is less than the other. So their tails are equal too.
use Rattle.std.proofs.Common.{inl, inr, ◌≡◌, List, [], ◌∷◌, refl, sym, ap₂, subst, ◌∙◌, arith, Contains, AllPairs}
use Rattle.pop_model.proofs.Rising.{member_cases, head_member, tail_member, AreMembers}
use Rattle.pop_model.proofs.Members.{pairs_tail}
use Rattle.pop_log.proofs.Reordering.{pairs_head}

-- of two one alone is less than the other
abbrev pub IsOneWay : {X : Type 0} → (X → X → Type 0) → Type 0
IsOneWay {X} Less = (x y : X) → Less x y → Less y x → ⊥

-- the heads of two such lists, each of which is a member of the other, are the same
same_head : {X : Type 0} (Less : X → X → Type 0) → IsOneWay Less → (x : X) (xs : List X) (y : X) (ys : List X)
    → AllPairs Less (x ∷ xs) → AllPairs Less (y ∷ ys) → Contains (y ∷ ys) x → Contains (x ∷ xs) y → x ≡ y
same_head Less one_way x xs y ys up up' x_in y_in = elim (member_cases y ys x x_in) [
  | inl same ↦ sym same
  | inr x_behind ↦ elim (member_cases x xs y y_in) [
    | inl same ↦ same
    | inr y_behind ↦
        absurd (one_way x y (pairs_head Less x xs up y y_behind) (pairs_head Less y ys up' x x_behind))
  ]
]

-- behind equal heads, the members of the one tail are members of the other
tail_members : {X : Type 0} (Less : X → X → Type 0) → IsOneWay Less → (x : X) (xs : List X) (y : X) (ys : List X)
    → AllPairs Less (x ∷ xs) → x ≡ y → AreMembers (x ∷ xs) (y ∷ ys) → AreMembers xs ys
tail_members Less one_way x xs y ys up same members z z_in =
    elim (member_cases y ys z (members z (tail_member x xs z z_in))) [
      | inl is ↦
          let less : Less x x = subst (Less x) (sym (same ∙ is)) (pairs_head Less x xs up z z_in) in
          absurd (one_way x x less less)
      | inr behind ↦ behind
    ]

-- two lists in order that have the same members are the same
pub same_in_order : {X : Type 0} (Less : X → X → Type 0) → IsOneWay Less → (xs ys : List X) → AllPairs Less xs
    → AllPairs Less ys → AreMembers xs ys → AreMembers ys xs → xs ≡ ys
same_in_order Less one_way [] [] up up' there back = refl
same_in_order Less one_way [] (y ∷ ys) up up' there back =
    let none = back y (head_member y ys) in absurd (omega (arith, none.1))
same_in_order Less one_way (x ∷ xs) [] up up' there back =
    let none = there x (head_member x xs) in absurd (omega (arith, none.1))
same_in_order {X} Less one_way (x ∷ xs) (y ∷ ys) up up' there back =
    let same : x ≡ y =
    same_head Less one_way x xs y ys up up' (there x (head_member x xs)) (back y (head_member y ys)) in
    let rest : xs ≡ ys =
    same_in_order Less one_way xs ys (pairs_tail Less x xs up) (pairs_tail Less y ys up')
    (tail_members Less one_way x xs y ys up same there) (tail_members Less one_way y ys x xs up' (sym same) back) in
    ap₂ (λ (z : X) (zs : List X). z ∷ zs) same rest
