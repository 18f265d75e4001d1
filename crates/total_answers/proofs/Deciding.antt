-- What holds or doesn't, found by trying: of the members of a list, of the numbers below another, and of pairs.
use Rattle.std.proofs.Common.{inl, inr, ◌≡◌, ◌⊎◌, ℕ, ◌+◌, ◌<◌, ◌≤◌, List, [], ◌∷◌, Option, None, Some, refl, sym, ap, ap₂, subst, arith, Contains}
use Rattle.std.proofs.lemmas.Bool.{cases_eq, cases_lt}
use Rattle.pop_model.specs.Places.{IsLeast, IsLeastPair}
use Rattle.pop_model.proofs.Rising.{member_cases, head_member, tail_member, none_in}
use Rattle.prs_rounds.proofs.ClosedSets.{IsDecided, some_below}
use Rattle.round_samples.proofs.Moving.{least_below}

-- something is of this kind, or nothing is
abbrev pub Finds : {X : Type 0} → (X → Type 0) → Type 0
Finds {X} P = ((x : X) × P x) ⊎ ((x : X) → P x → ⊥)

-- so it is decided whether something is
pub some_or_none : {X : Type 0} → (P : X → Type 0) → Finds P → IsDecided ((x : X) × P x)
some_or_none P (inl found) = inl found
some_or_none P (inr none) = inr (λ (x, holds). none x holds)

-- what holds just where something else does is found as that is
pub decide_as : (P Q : Type 0) → (P → Q) → (Q → P) → IsDecided P → IsDecided Q
decide_as P Q to fro (inl p) = inl (to p)
decide_as P Q to fro (inr none) = inr (λ q. none (fro q))

-- one of two holds, or neither
pub decide_either : (P Q : Type 0) → IsDecided P → IsDecided Q → IsDecided (P ⊎ Q)
decide_either P Q (inl p) q = inl (inl p)
decide_either P Q (inr not_p) (inl q) = inl (inr q)
decide_either P Q (inr not_p) (inr not_q) = inr (λ either. elim either [ inl p ↦ not_p p | inr q ↦ not_q q ])

-- a number is below another, or not
pub decide_lt : (m n : ℕ) → IsDecided (m < n)
decide_lt m n = elim (cases_lt m n) [ inl less ↦ inl less | inr most ↦ inr (λ less. omega (arith, most, less)) ]

pub decide_le : (m n : ℕ) → IsDecided (m ≤ n)
decide_le m n = elim (cases_lt n m) [ inl more ↦ inr (λ most. omega (arith, most, more)) | inr most ↦ inl most ]

-- two pairs are the same, or not
pub same_pair : (p q : ℕ × ℕ) → IsDecided (p ≡ q)
same_pair p q = elim (cases_eq p.0 q.0) [
  | inr other ↦ inr (λ same. other (ap (λ (r : ℕ × ℕ). r.0) same))
  | inl first ↦ elim (cases_eq p.1 q.1) [
    | inr other ↦ inr (λ same. other (ap (λ (r : ℕ × ℕ). r.1) same))
    | inl second ↦ inl (ap₂ (λ (m n : ℕ). (m, n)) first second)
  ]
]

-- so are two lists, where it is found of their members
pub same_lists : {X : Type 0} → ((x y : X) → IsDecided (x ≡ y)) → (xs ys : List X) → IsDecided (xs ≡ ys)
same_lists each [] [] = inl refl
same_lists each [] (y ∷ ys) = inr (λ same. cc)
same_lists each (x ∷ xs) [] = inr (λ same. cc)
same_lists {X} each (x ∷ xs) (y ∷ ys) = elim (each x y) [
  | inr other ↦ inr (λ same. other (cc))
  | inl first ↦ elim (same_lists each xs ys) [
    | inr other ↦ inr (λ same. other (cc))
    | inl rest ↦ inl (ap₂ (λ (z : X) (zs : List X). z ∷ zs) first rest)
  ]
]

-- a member of the list is such, or none is, where it is found of each member
pub known_member : {X : Type 0} → (P : X → Type 0) (xs : List X) → ((x : X) → Contains xs x → IsDecided (P x))
    → ((x : X) × Contains xs x × P x) ⊎ ((x : X) → Contains xs x → P x → ⊥)
known_member P [] each = inr (λ x has holds. none_in x has)
known_member P (x ∷ xs) each = elim (each x (head_member x xs)) [
  | inl here ↦ inl (x, head_member x xs, here)
  | inr not_here ↦ elim (known_member P xs (λ y has. each y (tail_member x xs y has))) [
    | inl found ↦ inl (found.0, tail_member x xs found.0 found.1, found.2)
    | inr none ↦ inr (λ y has holds. elim (member_cases x xs y has) [
      | inl same ↦ not_here (subst P (sym same) holds)
      | inr behind ↦ none y behind holds
    ])
  ]
]

-- or of anything
pub some_member : {X : Type 0} → (P : X → Type 0) (xs : List X) → ((x : X) → IsDecided (P x))
    → ((x : X) × Contains xs x × P x) ⊎ ((x : X) → Contains xs x → P x → ⊥)
some_member P xs each = known_member P xs (λ x has. each x)

-- some number of a kind is such, or none is, where the kind is below another
pub found_below : (P : ℕ → Type 0) (n : ℕ) → ((k : ℕ) → IsDecided (P k)) → ((k : ℕ) → P k → k < n) → Finds P
found_below P n each low = elim (some_below P n (λ k less. each k)) [
  | inl found ↦ inl (found.0, found.2)
  | inr none ↦ inr (λ k holds. none k (low k holds) holds)
]

-- the least of these, or there is none
pub none_least : (P : ℕ → Type 0) (n : ℕ) → ((k : ℕ) → IsDecided (P k)) → ((k : ℕ) → P k → k < n)
    → ((k : ℕ) × IsLeast P k) ⊎ ((k : ℕ) → P k → ⊥)
none_least P n each low = elim (least_below P n each) [
  | inl found ↦ inl found
  | inr none ↦ inr (λ k holds. none k (low k holds) holds)
]

-- the least pair, or there is none, where both numbers are below others
pub least_pair : (P : ℕ → ℕ → Type 0) (n : ℕ) (m : ℕ → ℕ) → ((v k : ℕ) → IsDecided (P v k))
    → ((v k : ℕ) → P v k → (v < n) × (k < m v))
    → ((v : ℕ) × (k : ℕ) × IsLeastPair P v k) ⊎ ((v k : ℕ) → P v k → ⊥)
least_pair P n m each low =
    elim (none_least (λ v. (k : ℕ) × P v k) n
    (λ v. some_or_none (P v) (found_below (P v) (m v) (each v) (λ k holds. (low v k holds).1)))
    (λ v (k, holds). (low v k holds).0)) [
      | inr none ↦ inr (λ v k holds. none v (k, holds))
      | inl (v, first) ↦ elim (none_least (P v) (m v) (each v) (λ k holds. (low v k holds).1)) [
        | inr none ↦ absurd (none first.holds.0 first.holds.1)
        | inl (k, least) ↦ inl (
          v,
          k,
          record {
            holds = least.holds;
            none_before = λ w j before holds. elim before [
              | inl less ↦ first.none_before w less (j, holds)
              | inr (same, less) ↦ least.none_before j less (subst (λ (u : ℕ). P u j) same holds)
            ];
          },
        )
      ]
    ]

-- an option is none, or has a value
pub cases_option : {X : Type 0} (o : Option X) → (o ≡ None) ⊎ ((x : X) × (o ≡ Some x))
cases_option None = inl refl
cases_option (Some x) = inr (x, refl)

-- members of a list have keys below some number
pub keys_below : {X : Type 0} → (key : X → ℕ) (xs : List X) → (n : ℕ) × ((x : X) → Contains xs x → key x < n)
keys_below key [] = (0, λ x has. absurd (none_in x has))
keys_below key (x ∷ xs) =
    let rest = keys_below key xs in (
      rest.0 + (key x + 1),
      λ y has. elim (member_cases x xs y has) [
        | inl same ↦ (let e : key x ≡ key y = ap key same in omega (arith, e))
        | inr behind ↦ (let less = rest.1 y behind in omega (arith, less))
      ],
    )
