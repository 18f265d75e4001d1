-- What is one of finitely many is found by trying all: numbers below another, rows of them, lists that are short, and
-- members for which something holds.
use Rattle.std.proofs.Common.{inl, inr, ◌≡◌, ℕ, zero, suc, ◌≤◌, List, [], ◌∷◌, ◌++◌, length, take, take_all, refl, sym, ap₂, subst, ◌∙◌, arith, Contains}
use Rattle.std.specs.List.{AllByRecursion}
use Rattle.std.proofs.lemmas.Bool.{cases_lt}
use Rattle.std.proofs.lemmas.List.{append-nil}
use Rattle.pop_model.specs.Places.{IsLeast}
use Rattle.pop_model.proofs.Rising.{member_cases, head_member, tail_member, none_in}
use Rattle.pop_samples.proofs.Conses.{conses, conses_in}
use Rattle.pop_samples.proofs.AllRows.{IsRow, all_row, all_row_list}
use Rattle.prs_rounds.proofs.ClosedSets.{IsDecided}
use Rattle.round_samples.proofs.Moving.{least_below}
use Rattle.total_answers.proofs.Deciding.{known_member}

-- what holds of each member, by one member after another
pub each_by : {X : Type 0} → (P : X → Type 0) (xs : List X) → ((x : X) → Contains xs x → P x) → AllByRecursion P xs
each_by P [] each = tt
each_by P (x ∷ xs) each = (each x (head_member x xs), each_by P xs (λ y has. each y (tail_member x xs y has)))

pub each_of : {X : Type 0} → (P : X → Type 0) (xs : List X) → AllByRecursion P xs → (x : X) → Contains xs x → P x
each_of P [] all x has = absurd (none_in x has)
each_of P (y ∷ xs) all x has = elim (member_cases y xs x has) [
  | inl same ↦ subst P same all.0
  | inr behind ↦ each_of P xs all.1 x behind
]

-- it holds of each, or not
pub decide_each : {X : Type 0} → (P : X → Type 0) → ((x : X) → IsDecided (P x)) → (xs : List X)
    → IsDecided (AllByRecursion P xs)
decide_each P each [] = inl tt
decide_each P each (x ∷ xs) = elim (each x) [
  | inr not ↦ inr (λ all. not all.0)
  | inl here ↦ elim (decide_each P each xs) [
    | inr not ↦ inr (λ all. not all.1)
    | inl rest ↦ inl (here, rest)
  ]
]

-- a list that has all of a kind, and no other
pub record AreThese {X : Type 0} (P : X → Type 0) (xs : List X) : Type 0 where
  pub all : (x : X) → P x → Contains xs x
  pub only : (x : X) → Contains xs x → P x

-- of which one is such, or none
pub one_of : {X : Type 0} → (P Q : X → Type 0) (xs : List X) → AreThese P xs → ((x : X) → IsDecided (Q x))
    → IsDecided ((x : X) × P x × Q x)
one_of P Q xs these each = elim (known_member Q xs (λ x has. each x)) [
  | inl (x, has, q) ↦ inl (x, these.only x has, q)
  | inr none ↦ inr (λ (x, p, q). none x (these.all x p) q)
]

-- all rows of a length, of numbers below another
pub rows_listed : (d h : ℕ) → (rows : List (List ℕ)) × AreThese (IsRow d h) rows
rows_listed d h =
    let all = all_row d h in
    (all_row_list d h, record { all = λ row is. (all.exact row).1 is; only = λ row has. (all.exact row).0 has })

-- short lists of members of a list are in a list
pub short_lists : {X : Type 0} → (xs : List X) (n : ℕ)
    → (lists : List (List X))
    × ((l : List X) → length l ≤ n → ((x : X) → Contains l x → Contains xs x) → Contains lists l)
short_lists {X} xs zero = ([] ∷ [], only)
  where
    only : (l : List X) → length l ≤ 0 → ((x : X) → Contains l x → Contains xs x) → Contains ([] ∷ []) l
    only [] few among = head_member [] []
    only (x ∷ l) few among = absurd (omega (arith, few))
short_lists {X} xs (suc n) =
    let rest = short_lists xs n in
    ([] ∷ conses xs rest.0, has rest.0 rest.1)
  where
    has : (lists : List (List X))
        → ((l : List X) → length l ≤ n → ((x : X) → Contains l x → Contains xs x) → Contains lists l)
        → (l : List X) → length l ≤ suc n → ((x : X) → Contains l x → Contains xs x)
        → Contains ([] ∷ conses xs lists) l
    has lists rest [] few among = head_member [] (conses xs lists)
    has lists rest (x ∷ l) few among =
        tail_member [] (conses xs lists) (x ∷ l)
        (conses_in xs lists x l (among x (head_member x l))
        (rest l (omega (arith, few)) (λ y has'. among y (tail_member x l y has'))))

-- ---- fronts

-- one list begins the other, or not
pub decide_front : {X : Type 0} → ((x y : X) → IsDecided (x ≡ y)) → (xs ys : List X)
    → IsDecided ((rest : List X) × (ys ≡ xs ++ rest))
decide_front same [] ys = inl (ys, refl)
decide_front same (x ∷ xs) [] = inr (λ (rest, is). cc)
decide_front {X} same (x ∷ xs) (y ∷ ys) = elim (same y x) [
  | inr other ↦ inr (λ (rest, is). other (cc))
  | inl first ↦ elim (decide_front same xs ys) [
    | inl (rest, is) ↦ inl (rest, ap₂ (λ (z : X) (zs : List X). z ∷ zs) first is)
    | inr none ↦ inr (λ (rest, is). none (rest, cc))
  ]
]

-- two lists can go on alike, or not
pub decide_fit : {X : Type 0} → ((x y : X) → IsDecided (x ≡ y)) → (xs ys : List X)
    → IsDecided ((more : List X) × (rest : List X) × (xs ++ more ≡ ys ++ rest))
decide_fit same [] ys = inl (ys, [], sym (append-nil ys))
decide_fit same (x ∷ xs) [] = inl ([], (x ∷ xs) ++ [], refl)
decide_fit {X} same (x ∷ xs) (y ∷ ys) = elim (same x y) [
  | inr other ↦ inr (λ (more, rest, is). other (cc))
  | inl first ↦ elim (decide_fit same xs ys) [
    | inl (more, rest, is) ↦ inl (more, rest, ap₂ (λ (z : X) (zs : List X). z ∷ zs) first is)
    | inr none ↦ inr (λ (more, rest, is). none (more, rest, cc))
  ]
]

-- the least number such that so many first elements can't stand
pub record FailsAt {X : Type 0} (Stand : List X → Type 0) (xs : List X) (p : ℕ) : Type 0 where
  pub place : (k : ℕ) × (p ≡ suc k) × (k ≤ length xs) × Stand (take k xs)
  pub bad : p ≤ length xs → Stand (take p xs) → ⊥

pub first_fails : {X : Type 0} → (Stand : List X → Type 0) → ((xs : List X) → IsDecided (Stand xs)) → Stand []
    → (xs : List X) → (p : ℕ) × FailsAt Stand xs p
first_fails {X} Stand each none xs =
    elim (least_below (λ k. Stand (take k xs) → ⊥) (suc (length xs)) (λ k. fails (each (take k xs)))) [
      | inr all ↦ (
        suc (length xs),
        record {
          place = (length xs, refl, omega arith, stands (length xs) (all (length xs) (omega arith)));
          bad = λ within. absurd (omega (arith, within));
        },
      )
      | inl (p, least) ↦ (p, record { place = before p least; bad = λ within. least.holds })
    ]
  where
    fails : {P : Type 0} → IsDecided P → IsDecided (P → ⊥)
    fails (inl p) = inr (λ not. not p)
    fails (inr not) = inl not

    stands : (k : ℕ) → ((Stand (take k xs) → ⊥) → ⊥) → Stand (take k xs)
    stands k not_not = elim (each (take k xs)) [ inl is ↦ is | inr not ↦ absurd (not_not not) ]

    before : (p : ℕ) → IsLeast (λ k. Stand (take k xs) → ⊥) p
        → (k : ℕ) × (p ≡ suc k) × (k ≤ length xs) × Stand (take k xs)
    before zero least = absurd (least.holds none)
    before (suc k) least = elim (cases_lt (length xs) k) [
      | inl long ↦ absurd (least.none_before (length xs) (omega (arith, long)) (λ stand.
          least.holds (subst Stand
          (take_all (length xs) xs (omega arith) ∙ sym (take_all (suc k) xs (omega (arith, long)))) stand)))
      | inr low ↦ (k, refl, low, stands k (λ not. least.none_before k (omega arith) not))
    ]
