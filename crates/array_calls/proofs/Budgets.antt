-- What is left of a budget, row by row.
use Rattle.std.proofs.Common.{inl, inr, ◌≡◌, ◌⊎◌, ℕ, zero, suc, ◌+◌, ◌-◌, ◌*◌, ◌^◌, ◌<◌, ◌≤◌, cond, ◌==◌, Bool, false, IsTrue, List, [], ◌∷◌, length, set, get_or, refl, sym, ap, subst, ◌∙◌, arith, ne_eqb}
use Rattle.std.specs.Prelude.{Option, None, Some, sum_by}
use Rattle.std.specs.List.{range_with_len}
use Rattle.std.proofs.lemmas.Bool.{cases_eq, false≢true}
use Rattle.std.proofs.lemmas.List.{length-set, map-id, get_or-set_same, get_or-set_other}
use Rattle.std.proofs.lemmas.List.FromFn.{sum_by-map-range_with_len_more}
use Rattle.pop_model.specs.Instances.{Instance}
use Rattle.pop_batch.specs.Parts.{CanStart}
use Rattle.array_calls.specs.Draws.{AreWithinBudget, given, less, pops_of, unlimited}

-- with a row more
pub pops_step : (k : ℕ) (counts : List ℕ) → pops_of (k + 1) counts ≡ pops_of k counts + get_or counts (2 * k) 0
pops_step k counts =
    let at : ℕ → ℕ = λ j. get_or counts (2 * j) 0 in
    let id : ℕ → ℕ = λ x. x in
    ap (sum_by at) (sym (map-id (range_with_len 0 (k + 1))))
    ∙ sum_by-map-range_with_len_more at id 0 k k (omega arith)
    ∙ ap (λ xs. sum_by at xs + at k) (map-id (range_with_len 0 k))

-- rows with the same pops
pub pops_same : (k : ℕ) (a b : List ℕ) → ((m : ℕ) → m < k → get_or b (2 * m) 0 ≡ get_or a (2 * m) 0)
    → pops_of k b ≡ pops_of k a
pops_same zero a b same = refl
pops_same (suc k) a b same =
    let more : suc k ≡ k + 1 = omega arith in
    let rest = pops_same k a b (λ m less. same m (omega (arith, less))) in
    let last = same k (omega arith) in
    ap (λ n. pops_of n b) more
    ∙ pops_step k b
    ∙ omega (arith, rest, last)
    ∙ sym (pops_step k a)
    ∙ ap (λ n. pops_of n a) (sym more)

-- after the counts of row j are put
pub pops_put : (j pops stuck : ℕ) (counts counts' : List ℕ) → 2 * j + 1 < length counts
    → counts' ≡ set (set counts (2 * j) pops) (2 * j + 1) stuck
    → pops_of (j + 1) counts' ≡ pops_of j counts + pops
pops_put j pops stuck counts counts' within are =
    let c1 = set counts (2 * j) pops in
    let here : get_or counts' (2 * j) 0 ≡ pops =
    ap (λ cs. get_or cs (2 * j) 0) are
    ∙ get_or-set_other c1 (2 * j + 1) (2 * j) stuck 0 (λ same. absurd (omega (arith, same)))
    ∙ get_or-set_same counts (2 * j) pops 0 (omega (arith, within)) in
    let before = pops_same j counts counts' (λ m less.
    ap (λ cs. get_or cs (2 * m) 0) are
    ∙ get_or-set_other c1 (2 * j + 1) (2 * m) stuck 0 (λ same. absurd (omega (arith, same)))
    ∙ get_or-set_other counts (2 * j) (2 * m) pops 0 (λ same. absurd (omega (arith, same, less)))) in
    let step = pops_step j counts' in
    omega (arith, step, before, here)

-- of a budget so much is left for the rows from row j on
abbrev pub Remains : ℕ → ℕ → ℕ → List ℕ → Type 0
Remains budget left j counts =
    ((budget ≡ unlimited) × (left ≡ unlimited))
    ⊎ ((budget < unlimited) × ((left < unlimited) × (left + pops_of j counts ≡ budget)))

-- at first all is
pub remains_all : (budget : ℕ) (counts : List ℕ) → budget ≤ unlimited → Remains budget budget 0 counts
remains_all budget counts most = elim (cases_eq budget unlimited) [
  | inl same ↦ inl (same, same)
  | inr other ↦ (
      let below : budget < unlimited = omega (arith, most, other) in
      let none : pops_of 0 counts ≡ 0 = refl in
      inr (below, (below, omega (arith, none)))
      )
]

-- a budget that is one falls by the pops
less_limited : (left pops : ℕ) → left < unlimited → less left pops ≡ left - pops
less_limited left pops below = elim (cases_eq left unlimited) [
  | inl same ↦ absurd (omega (arith, same, below))
  | inr other ↦ ap (λ b. cond b left (left - pops)) (ne_eqb left unlimited other)
]

-- and after a row
pub remains_less : (budget left j pops stuck : ℕ) (counts counts' : List ℕ) → 2 * j + 1 < length counts
    → counts' ≡ set (set counts (2 * j) pops) (2 * j + 1) stuck → pops ≤ left → Remains budget left j counts
    → Remains budget (less left pops) (j + 1) counts'
remains_less budget left j pops stuck counts counts' within are most remains = elim remains [
  | inl all ↦ inl (all.0, ap (λ n. less n pops) all.1)
  | inr some ↦ (
      let put = pops_put j pops stuck counts counts' within are in
      let below = some.1.0 in
      let sum = some.1.1 in
      let is : less left pops ≡ left - pops = less_limited left pops below in
      inr (some.0, (omega (arith, is, below), omega (arith, is, put, sum, most)))
      )
]

-- so the rows before here are within the budget
pub within_budget : (budget left j : ℕ) (counts : List ℕ) → Remains budget left j counts
    → AreWithinBudget budget j counts
within_budget budget left j counts remains = elim remains [
  | inl all ↦ inl all.0
  | inr some ↦ (let sum = some.1.1 in inr (omega (arith, sum)))
]

-- and where a row has all the pops that were left, the budget is one, and it is spent
pub budget_spent : (budget left j pops stuck : ℕ) (counts counts' : List ℕ) → 2 * j + 1 < length counts
    → counts' ≡ set (set counts (2 * j) pops) (2 * j + 1) stuck → pops ≡ left → pops < 2 ^ 63
    → Remains budget left j counts → (budget < unlimited) × (pops_of (j + 1) counts' ≡ budget)
budget_spent budget left j pops stuck counts counts' within are spent few remains = elim remains [
  | inl all ↦ (let no = all.1 in absurd (omega (arith, no, spent, few)))
  | inr some ↦ (
      let put = pops_put j pops stuck counts counts' within are in
      let sum = some.1.1 in
      (some.0, omega (arith, put, sum, spent))
      )
]

-- what is false isn't so
pub not_so : (b : Bool) → b ≡ false → IsTrue b → ⊥
not_so b is_false is_true = false≢true (sym is_false ∙ is_true)

-- so a call stops only where there is a budget
pub stop_limited : (budget left j pops : ℕ) (counts : List ℕ) → pops ≡ left → pops < 2 ^ 63
    → Remains budget left j counts → budget < unlimited
stop_limited budget left j pops counts spent few remains = elim remains [
  | inl all ↦ (let no = all.1 in absurd (omega (arith, no, spent, few)))
  | inr some ↦ some.0
]

-- a run of another row begins before its first pop
pub can_start_at : (i : Instance) (from : List ℕ) (j : ℕ) → CanStart i (given from 0) → CanStart i (given from j)
can_start_at i [] j can = tt
can_start_at i (k ∷ from) zero can = can
can_start_at i (k ∷ from) (suc j) can = tt
