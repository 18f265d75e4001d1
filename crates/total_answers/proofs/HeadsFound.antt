-- Whether some head of a certificate is such is found by trying all: commands, stacks, heights, roots and sizes are
-- finitely many.
use Rattle.std.proofs.Common.{inl, inr, ◌≡◌, ℕ, ◌^◌, ◌<◌, ◌≤◌, Bool, true, false, List, [], ◌∷◌, length, get_or, refl, sym, subst, ◌∙◌, arith, Contains}
use Rattle.std.specs.Prelude.{nat_le, sum_by}
use Rattle.std.specs.List.{AllByRecursion}
use Rattle.std.proofs.lemmas.Bool.{and_parts, cases_Bool, false≢true, leb-true}
use Rattle.std.proofs.lemmas.List.{get_or_default}
use Rattle.std.proofs.lemmas.List.Elements.{Contains-get_or}
use Rattle.std.proofs.lemmas.List.Sums.{get_or-le-sum_by}
use Rattle.pop_stacks.specs.declared.stack_spec.StackSpec.{StackSpec}
use Rattle.pop_stacks.specs.declared.stack_spec.StackSpec.TheVariants.{Key, Given}
use Rattle.pop_words.specs.declared.command.Command.{Command}
use Rattle.pop_words.specs.Options.{paused}
use Rattle.pop_words.specs.Values.{are_within}
use Rattle.run_cert.specs.Heads.{Head, has_root, IsHead, MayBeHeight, MayBeRoot, MayBeStacks}
use Rattle.pop_samples.proofs.AllRows.{IsRow, all_below, numbers_below}
use Rattle.pop_samples.proofs.Conses.{same_list}
use Rattle.prs_rounds.proofs.ClosedSets.{IsDecided, decide_both}
use Rattle.total_answers.proofs.Deciding.{decide_lt, found_below, same_lists, some_member}
use Rattle.total_answers.proofs.FiniteLists.{AreThese, decide_each, each_by, each_of, one_of, rows_listed, short_lists}

-- the numbers below another are in a list
numbers_listed : (n : ℕ) → (ns : List ℕ) × ((k : ℕ) → k < n → Contains ns k)
numbers_listed n = (numbers_below n, λ k less. ((all_below n).exact k).1 less)

-- a number below another is such, or none
below_one : (n : ℕ) (Q : ℕ → Type 0) → ((k : ℕ) → IsDecided (Q k)) → IsDecided ((k : ℕ) × (k < n) × Q k)
below_one n Q each = elim (found_below (λ k. (k < n) × Q k) n
    (λ k. decide_both (k < n) (Q k) (decide_lt k n) (each k)) (λ k h. h.0)) [
      | inl (k, (less, q)) ↦ inl (k, less, q)
      | inr none ↦ inr (λ (k, less, q). none k (less, q))
    ]

-- ---- stacks

-- a key
abbrev IsKey : List ℕ → Type 0
IsKey key = (length key ≡ 32) × AllByRecursion (λ b. b < 256) key

-- keys are the rows of 32 numbers below 256
keys_these : (rows : List (List ℕ)) → AreThese (IsRow 256 32) rows → AreThese IsKey rows
keys_these rows these = record {
  all = λ key is. these.all key (record {
    size = is.0;
    values = λ k within. each_of (λ b. b < 256) key is.1 (get_or key k 0) (Contains-get_or key k 0 within);
  });
  only = λ key has.
      let row = these.only key has in (
        row.size,
        each_by (λ b. b < 256) key (λ b (k, within, at).
            let value = row.values k within in
            let same = get_or_default key k 0 b within in
            omega (arith, value, same, at)),
      );
}

decide_key : (Q : StackSpec → Type 0) → ((s : StackSpec) → IsDecided (Q s))
    → IsDecided ((key : List ℕ) × IsKey key × Q (Key key))
decide_key Q each =
    let rows = rows_listed 256 32 in
    one_of IsKey (λ key. Q (Key key)) rows.0 (keys_these rows.0 rows.1) (λ key. each (Key key))

-- given rows may be said, or not
decide_rows : (rows : List (List ℕ)) → IsDecided (MayBeStacks (Given rows))
decide_rows rows = elim (same_lists same_list rows ([] ∷ [])) [
  | inl same ↦ inr (λ may. may.0 same)
  | inr other ↦ elim (cases_Bool (are_within rows)) [
    | inr over ↦ inr (λ may. false≢true (sym over ∙ may.1))
    | inl within ↦ elim (decide_each (AllByRecursion (λ n. n < 2 ^ 32))
        (λ row. decide_each (λ n. n < 2 ^ 32) (λ n. decide_lt n (2 ^ 32)) row) rows) [
          | inr not ↦ inr (λ may. not may.2)
          | inl small ↦ inl (other, within, small)
        ]
  ]
]

-- a row is no longer than all together
row_short : (rows : List (List ℕ)) (row : List ℕ) → Contains rows row → length row ≤ sum_by length rows
row_short rows row (k, within, at) =
    subst (λ (r : List ℕ). length r ≤ sum_by length rows) (get_or_default rows k [] row within ∙ at)
    (get_or-le-sum_by length rows k [] within)

-- rows that may be said are in a list
rows_found : (lists : List (List (List ℕ)))
    × ((rows : List (List ℕ)) → MayBeStacks (Given rows) → Contains lists rows)
rows_found =
    let numbers = numbers_listed (2 ^ 32) in
    let short = short_lists numbers.0 (2 ^ 20) in
    let all = short_lists short.0 (2 ^ 22) in (
      all.0,
      λ rows may.
          let parts = and_parts (nat_le (length rows) (2 ^ 22)) (nat_le (sum_by length rows) (2 ^ 20)) may.1 in
          let total = leb-true (sum_by length rows) (2 ^ 20) parts.1 in
          all.1 rows (leb-true (length rows) (2 ^ 22) parts.0) (λ row has.
          let few = row_short rows row has in
          short.1 row (omega (arith, few, total)) (λ n among.
          numbers.1 n (each_of (λ n. n < 2 ^ 32) row (each_of (AllByRecursion (λ n. n < 2 ^ 32)) rows may.2 row has) n
          among))),
    )

decide_given : (Q : StackSpec → Type 0) → ((s : StackSpec) → IsDecided (Q s))
    → IsDecided ((rows : List (List ℕ)) × MayBeStacks (Given rows) × Q (Given rows))
decide_given Q each = elim (some_member (λ rows. MayBeStacks (Given rows) × Q (Given rows)) rows_found.0
    (λ rows. decide_both (MayBeStacks (Given rows)) (Q (Given rows)) (decide_rows rows) (each (Given rows)))) [
      | inl (rows, has, both) ↦ inl (rows, both.0, both.1)
      | inr none ↦ inr (λ (rows, may, q). none rows (rows_found.1 rows may) (may, q))
    ]

-- so some stacks are such, or none
decide_stacks : (Q : StackSpec → Type 0) → ((s : StackSpec) → IsDecided (Q s))
    → IsDecided ((s : StackSpec) × MayBeStacks s × Q s)
decide_stacks Q each = elim (decide_key Q each) [
  | inl (key, is, q) ↦ inl (Key key, is, q)
  | inr no_key ↦ elim (decide_given Q each) [
    | inl (rows, may, q) ↦ inl (Given rows, may, q)
    | inr no_rows ↦ inr (λ (s, may, q). neither no_key no_rows s may q)
  ]
]
  where
    neither : (((key : List ℕ) × IsKey key × Q (Key key)) → ⊥)
        → (((rows : List (List ℕ)) × MayBeStacks (Given rows) × Q (Given rows)) → ⊥)
        → (s : StackSpec) → MayBeStacks s → Q s → ⊥
    neither no_key no_rows (Key key) may q = no_key (key, may, q)
    neither no_key no_rows (Given rows) may q = no_rows (rows, may, q)

-- ---- the other parts

decide_height : (s : StackSpec) (Q : ℕ → Type 0) → ((h : ℕ) → IsDecided (Q h))
    → IsDecided ((h : ℕ) × MayBeHeight s h × Q h)
decide_height (Key key) Q each = elim (below_one (2 ^ 31) (λ h. (0 < h) × Q h)
    (λ h. decide_both (0 < h) (Q h) (decide_lt 0 h) (each h))) [
      | inl (h, less, (some, q)) ↦ inl (h, (some, less), q)
      | inr none ↦ inr (λ (h, may, q). none (h, may.1, (may.0, q)))
    ]
decide_height (Given rows) Q each = elim (each (2 ^ 20)) [
  | inl q ↦ inl (2 ^ 20, refl, q)
  | inr not ↦ inr (λ (h, is, q). not (subst Q is q))
]

decide_root : (rooted : Bool) (Q : ℕ → Type 0) → ((r : ℕ) → IsDecided (Q r))
    → IsDecided ((r : ℕ) × MayBeRoot rooted r × Q r)
decide_root true Q each = elim (below_one (2 ^ 32) (λ r. (0 < r) × Q r)
    (λ r. decide_both (0 < r) (Q r) (decide_lt 0 r) (each r))) [
      | inl (r, less, (some, q)) ↦ inl (r, (some, less), q)
      | inr none ↦ inr (λ (r, may, q). none (r, may.1, (may.0, q)))
    ]
decide_root false Q each = elim (each 1) [
  | inl q ↦ inl (1, refl, q)
  | inr not ↦ inr (λ (r, is, q). not (subst Q is q))
]

-- ---- heads

-- a head of these parts
abbrev head_with : Command → StackSpec → ℕ → ℕ → ℕ → Head
head_with k s h r n = record { command = k; stacks = s; height = h; root = r; size = n }

-- some head is such, or none
pub decide_head : (Q : Head → Type 0) → ((h : Head) → IsDecided (Q h)) → IsDecided ((h : Head) × IsHead h × Q h)
decide_head Q each = elim (some_member
    (λ k. (s : StackSpec) × MayBeStacks s × ((h : ℕ) × MayBeHeight s h × ((r : ℕ) × MayBeRoot (has_root k) r
    × ((n : ℕ) × (n < 2 ^ 32) × Q (head_with k s h r n))))) paused (λ k.
    decide_stacks (λ s. (h : ℕ) × MayBeHeight s h × ((r : ℕ) × MayBeRoot (has_root k) r
    × ((n : ℕ) × (n < 2 ^ 32) × Q (head_with k s h r n)))) (λ s.
    decide_height s (λ h. (r : ℕ) × MayBeRoot (has_root k) r × ((n : ℕ) × (n < 2 ^ 32) × Q (head_with k s h r n))) (λ h.
    decide_root (has_root k) (λ r. (n : ℕ) × (n < 2 ^ 32) × Q (head_with k s h r n)) (λ r.
    below_one (2 ^ 32) (λ n. Q (head_with k s h r n)) (λ n. each (head_with k s h r n))))))) [
      | inl (k, has, (s, may, (h, high, (r, root, (n, small, q))))) ↦ inl (
        head_with k s h r n,
        record { command = has; stacks = may; height = high; root = root; size = small },
        q,
      )
      | inr none ↦ inr (λ (h, is, q).
          none h.command is.command
          (h.stacks, is.stacks, (h.height, is.height, (h.root, is.root, (h.size, is.size, q)))))
    ]
