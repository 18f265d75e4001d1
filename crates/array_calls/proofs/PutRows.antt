-- Rows that are put into an array, number by number.
use Rattle.std.proofs.Common.{◌≡◌, ◌⊎◌, inl, inr, ℕ, ◌+◌, ◌*◌, ◌<◌, ◌≤◌, List, length, set, get_or, refl, sym, ap, subst, ◌∙◌, arith}
use Rattle.std.proofs.lemmas.Bool.{cases_eq}
use Rattle.std.proofs.lemmas.List.{length-set, get_or-set_same, get_or-set_other}
use Rattle.array_calls.specs.Rows.{HasRow, HasWanted, PutsRow, PutsWanted, StaysFrom}

-- no number is put
pub row_none : (at : ℕ) (number : ℕ → ℕ) (old : List ℕ) → PutsRow at 0 number old old
row_none at number old = record {
  size = refl;
  here = λ k less. absurd (omega (arith, less));
  others = λ k apart. refl;
}

-- with a number more
pub row_more : (at k x : ℕ) (number : ℕ → ℕ) (old cur : List ℕ) → at + k < length cur → x ≡ number (k + 1)
    → PutsRow at k number old cur → PutsRow at (k + 1) number old (set cur (at + k) x)
row_more at k x number old cur within is puts = record {
  size = length-set cur (at + k) x ∙ puts.size;
  here = λ m less. elim (cases_eq m k) [
    | inl same ↦
        ap (λ t. get_or (set cur (at + k) x) (at + t) 0) same
        ∙ get_or-set_same cur (at + k) x 0 within
        ∙ is
        ∙ ap (λ t. number (t + 1)) (sym same)
    | inr other ↦
        get_or-set_other cur (at + k) (at + m) x 0 (λ same. absurd (omega (arith, same, other)))
        ∙ puts.here m (omega (arith, less, other))
  ];
  others = λ m apart. elim apart [
    | inl low ↦
        get_or-set_other cur (at + k) m x 0 (λ same. absurd (omega (arith, same, low)))
        ∙ puts.others m (inl low)
    | inr high ↦
        get_or-set_other cur (at + k) m x 0 (λ same. absurd (omega (arith, same, high)))
        ∙ puts.others m (inr (omega (arith, high)))
  ];
}

-- a row that is put is there
pub wanted_row : (at n : ℕ) (number : ℕ → ℕ) (old new : List ℕ) → PutsWanted at n number old new
    → HasWanted at n number new
wanted_row at n number old new puts = λ some. elim puts [
  | inl none ↦ (let size = ap length none.1 in let empty = none.0 in absurd (omega (arith, some, size, empty)))
  | inr row ↦ row.here
]

-- a row before it stays
pub row_kept : (at n before m : ℕ) (number other : ℕ → ℕ) (old new : List ℕ) → before + m ≤ at
    → PutsRow at n number old new → HasRow before m other old → HasRow before m other new
row_kept at n before m number other old new low puts has =
    λ k less. puts.others (before + k) (inl (omega (arith, low, less))) ∙ has k less

pub wanted_kept : (at n before m : ℕ) (number other : ℕ → ℕ) (old new : List ℕ) → before + m ≤ at
    → PutsWanted at n number old new → HasWanted before m other old → HasWanted before m other new
wanted_kept at n before m number other old new low puts has = λ some. elim puts [
  | inl none ↦ (let size = ap length none.1 in let empty = none.0 in absurd (omega (arith, some, size, empty)))
  | inr row ↦ (let size = row.size in row_kept at n before m number other old new low row (has (omega (arith, some, size))))
]

-- an array keeps its length
pub wanted_size : (at n : ℕ) (number : ℕ → ℕ) (old new : List ℕ) → PutsWanted at n number old new
    → length new ≡ length old
wanted_size at n number old new puts = elim puts [
  | inl none ↦ ap length none.1
  | inr row ↦ row.size
]

-- nothing was put
pub stays_all : (at : ℕ) (numbers : List ℕ) → StaysFrom at numbers numbers
stays_all at numbers = record { size = refl; behind = λ k from. refl }

-- what lies behind a row that is put stays
pub stays_behind : (at n next : ℕ) (number : ℕ → ℕ) (first old new : List ℕ) → at + n ≤ next
    → PutsRow at n number old new → StaysFrom at first old → StaysFrom next first new
stays_behind at n next number first old new row puts stays = record {
  size = puts.size ∙ stays.size;
  behind = λ k from. puts.others k (inr (omega (arith, row, from))) ∙ stays.behind k (omega (arith, row, from));
}

-- what stays from a place on stays from a later one on
pub stays_later : (at next : ℕ) (old new : List ℕ) → at ≤ next → StaysFrom at old new → StaysFrom next old new
stays_later at next old new later stays = record {
  size = stays.size;
  behind = λ k from. stays.behind k (omega (arith, later, from));
}

pub wanted_stays : (at n next : ℕ) (number : ℕ → ℕ) (first old new : List ℕ) → at + n ≤ next
    → PutsWanted at n number old new → StaysFrom at first old → StaysFrom next first new
wanted_stays at n next number first old new row puts stays = elim puts [
  | inl none ↦ subst (StaysFrom next first) (sym none.1) (stays_later at next first old (omega (arith, row)) stays)
  | inr put ↦ stays_behind at n next number first old new row put stays
]

-- the counts of a row are there once they are put
pub counts_put : (j pops stuck : ℕ) (counts counts' : List ℕ) → 2 * j + 1 < length counts
    → counts' ≡ set (set counts (2 * j) pops) (2 * j + 1) stuck
    → (get_or counts' (2 * j) 0 ≡ pops) × (get_or counts' (2 * j + 1) 0 ≡ stuck)
counts_put j pops stuck counts counts' within are =
    let c1 = set counts (2 * j) pops in
    let size1 = length-set counts (2 * j) pops in (
      ap (λ cs. get_or cs (2 * j) 0) are
          ∙ get_or-set_other c1 (2 * j + 1) (2 * j) stuck 0 (λ same. absurd (omega (arith, same)))
          ∙ get_or-set_same counts (2 * j) pops 0 (omega (arith, within)),
      ap (λ cs. get_or cs (2 * j + 1) 0) are
          ∙ get_or-set_same c1 (2 * j + 1) stuck 0 (omega (arith, within, size1)),
    )

-- those of other rows stay
pub counts_kept : (j pops stuck k : ℕ) (counts counts' : List ℕ)
    → counts' ≡ set (set counts (2 * j) pops) (2 * j + 1) stuck → (k < 2 * j) ⊎ (2 * j + 1 < k)
    → get_or counts' k 0 ≡ get_or counts k 0
counts_kept j pops stuck k counts counts' are apart =
    let c1 = set counts (2 * j) pops in
    ap (λ cs. get_or cs k 0) are
    ∙ get_or-set_other c1 (2 * j + 1) k stuck 0 (λ same. elim apart [
      | inl low ↦ absurd (omega (arith, same, low))
      | inr high ↦ absurd (omega (arith, same, high))
    ])
    ∙ get_or-set_other counts (2 * j) k pops 0 (λ same. elim apart [
      | inl low ↦ absurd (omega (arith, same, low))
      | inr high ↦ absurd (omega (arith, same, high))
    ])

pub counts_size : (j pops stuck : ℕ) (counts counts' : List ℕ)
    → counts' ≡ set (set counts (2 * j) pops) (2 * j + 1) stuck → length counts' ≡ length counts
counts_size j pops stuck counts counts' are =
    ap length are ∙ length-set (set counts (2 * j) pops) (2 * j + 1) stuck ∙ length-set counts (2 * j) pops

-- and so do all behind it
pub counts_stay : (j pops stuck : ℕ) (first counts counts' : List ℕ)
    → counts' ≡ set (set counts (2 * j) pops) (2 * j + 1) stuck → StaysFrom (2 * j) first counts
    → StaysFrom (2 * (j + 1)) first counts'
counts_stay j pops stuck first counts counts' are stays = record {
  size = counts_size j pops stuck counts counts' are ∙ stays.size;
  behind = λ k from.
      counts_kept j pops stuck k counts counts' are (inr (omega (arith, from)))
      ∙ stays.behind k (omega (arith, from));
}
