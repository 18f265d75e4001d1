-- What is kept of entries after the values that a mark says took a line.
use Rattle.std.proofs.Common.{◌≡◌, ◌<◌, ◌≤◌, ◌+◌, ◌-◌, ◌*◌, ◌/◌, ◌%◌, ◌∙◌, ℕ, zero, suc, List, [], ◌∷◌, length, Option, Some, None, Bool, true, false, ltb, cond, arith, get_or, refl, sym, ap, subst, inl, inr}
use Rattle.std.proofs.lemmas.Bool.{cases_Bool, cases_lt, eqb-true, eqb-false, eq-eqb, ne_eqb, le-ltb, lt-ltb, ltb-true, cond-true, cond-false}
use Rattle.std.proofs.lemmas.Option.{cond_some, none-some, same_Some, slice_get_read}
use Rattle.std.specs.Prelude.{◌==◌, ◌⊎◌, slice_get, slice_index, slice_set}
use Rattle.std.specs.Option.{option_and_then, option_map}
use Rattle.pop_model.specs.Stacks.{StackTable, value_at, domain_of}
use Rattle.pop_stacks.specs.KeptValues.{KeepsValues, AreValuesOf, HasPlaces, Replaces, Appends, IsBehind, appended, kept_at, kept_in, place_in}
use Rattle.pop_stacks.specs.declared.kept_values.KeptValues.{KeptValues}

-- a value under a test is there where the test holds
cond_some_of : (b : Bool) (inner : Option ℕ) (i : ℕ) → cond b inner None ≡ Some i → (b ≡ true) × (inner ≡ Some i)
cond_some_of true inner i is = (refl, is)
cond_some_of false inner i is = absurd (none-some i is)

-- the entry at a place of a line
pub entry_at : (mark k i : ℕ) → place_in mark k ≡ Some i → (k / 8 < mark) × ((mark - 1) / 4 ≡ k / 32) × (i ≡ k % 32)
entry_at mark k i at =
    let outer = cond_some_of (ltb (k / 8) mark) (cond ((mark - 1) / 4 == k / 32) (Some (k % 32)) None) i at in
    let inner = cond_some ((mark - 1) / 4 == k / 32) (k % 32) i outer.1 in
    (ltb-true (k / 8) mark outer.0, eqb-true ((mark - 1) / 4) (k / 32) inner.0, sym inner.1)

-- the place of an entry that a line keeps
pub place_at : (mark k : ℕ) → k / 8 < mark → (mark - 1) / 4 ≡ k / 32 → place_in mark k ≡ Some (k % 32)
place_at mark k before same =
    let whole = cond ((mark - 1) / 4 == k / 32) (Some (k % 32)) None in
    cond-true (ltb (k / 8) mark) whole None (lt-ltb (k / 8) mark before)
    ∙ cond-true ((mark - 1) / 4 == k / 32) (Some (k % 32)) None (eq-eqb ((mark - 1) / 4) (k / 32) same)

-- the entry at a place of a group
pub group_entry : (group k i : ℕ) → place_in (4 * group + 4) k ≡ Some i → (k ≡ 32 * group + i) × (i < 32)
group_entry group k i at =
    let is = entry_at (4 * group + 4) k i at in
    (omega (arith, is.0, is.1, is.2), omega (arith, is.2))

-- the place of an entry in its group
pub place_in_group : (k : ℕ) → place_in (4 * (k / 32) + 4) k ≡ Some (k % 32)
place_in_group k = place_at (4 * (k / 32) + 4) k (omega arith) (omega arith)

-- values that are the same where a line has places are kept alike
same_at : (at : Option ℕ) (f g : ℕ → ℕ) → ((i : ℕ) → at ≡ Some i → f i ≡ g i) → option_map f at ≡ option_map g at
same_at None f g same = refl
same_at (Some i) f g same = ap Some (same i refl)

pub same_kept : (mark n k : ℕ) (f g : ℕ → ℕ) → HasPlaces mark n → ((i : ℕ) → i < n → f i ≡ g i)
    → kept_in mark f k ≡ kept_in mark g k
same_kept mark n k f g places same = same_at (place_in mark k) f g (λ i at. same i (places k i at))

-- what is kept stands at a place
kept_place : (at : Option ℕ) (f : ℕ → ℕ) (x : ℕ) → option_map f at ≡ Some x → (i : ℕ) × (at ≡ Some i) × (f i ≡ x)
kept_place None f x kept = absurd (none-some x kept)
kept_place (Some i) f x kept = (i, refl, same_Some (f i) x kept)

-- what a line of values of a variable keeps of an entry is its value
kept_is : (s : StackTable) (v mark k x : ℕ) (values : List ℕ) → AreValuesOf s v mark values
    → kept_in mark (slice_index values) k ≡ Some x → (x ≡ value_at s v k) × (x < domain_of s v)
kept_is s v mark k x values are kept =
    let at = kept_place (place_in mark k) (slice_index values) x kept in
    let is = are k at.0 at.1 in
    (sym at.2 ∙ is.0, subst (λ y. y < domain_of s v) at.2 is.1)

-- where values of a variable took a line, what is kept of an entry is its value
pub keeps_replaced : (s : StackTable) (old new : KeptValues) (v mark : ℕ) (values : List ℕ) → KeepsValues s old
    → Replaces old new v mark values → AreValuesOf s v mark values → KeepsValues s new
keeps_replaced s old new v mark values keeps replaces are u k x kept =
    let own = kept_in mark (slice_index values) k in
    elim (cases_Bool (u == v)) [
      | inl same ↦
          let here : own ≡ Some x = sym (cond-true (u == v) own (kept_at old u k) same) ∙ sym (replaces u k) ∙ kept in
          let is : v ≡ u = sym (eqb-true u v same) in
          kept_is s u mark k x values (subst (λ w. AreValuesOf s w mark values) is are) here
      | inr other ↦ keeps u k x (sym (cond-false (u == v) own (kept_at old u k) other) ∙ sym (replaces u k) ∙ kept)
    ]

-- a line that was written
written : {L : Type 0} (lines : List L) (v : ℕ) (line : L) → v < length lines
    → slice_get (slice_set lines v line) v ≡ Some line
written [] v line within = absurd (omega arith)
written (x ∷ lines) zero line within = refl
written (x ∷ lines) (suc v) line within = written lines v line (omega arith)

-- the other lines
unwritten : {L : Type 0} (lines : List L) (v u : ℕ) (line : L) → (u ≡ v → ⊥)
    → slice_get (slice_set lines v line) u ≡ slice_get lines u
unwritten [] v u line other = refl
unwritten (x ∷ lines) zero zero line other = absurd (other refl)
unwritten (x ∷ lines) zero (suc u) line other = refl
unwritten (x ∷ lines) (suc v) zero line other = refl
unwritten (x ∷ lines) (suc v) (suc u) line other = unwritten lines v u line (λ same. other (ap suc same))

-- what lines keep after one was written
pub line_written : {L : Type 0} (at : L → Option ℕ) (own : Option ℕ) (lines : List L) (v u : ℕ) (line : L)
    → v < length lines → at line ≡ own
    → option_and_then at (slice_get (slice_set lines v line) u)
    ≡ cond (u == v) own (option_and_then at (slice_get lines u))
line_written at own lines v u line within is =
    let rest = option_and_then at (slice_get lines u) in
    elim (cases_Bool (u == v)) [
      | inl same ↦
          let here : u ≡ v = eqb-true u v same in
          ap (λ w. option_and_then at (slice_get (slice_set lines v line) w)) here
          ∙ ap (option_and_then at) (written lines v line within) ∙ is ∙ sym (cond-true (u == v) own rest same)
      | inr other ↦
          ap (option_and_then at) (unwritten lines v u line (eqb-false u v other))
          ∙ sym (cond-false (u == v) own rest other)
    ]

-- what a line that was looked up keeps of an entry, by the place at which it is
pub kept_by_line : {L : Type 0} (lines : List L) (v : ℕ) (line : L) (mark : L → ℕ) (at : L → ℕ → ℕ) (k place x : ℕ)
    → v < length lines → line ≡ get_or lines v line → place_in (mark line) k ≡ Some place → x ≡ at line place
    → Some x ≡ option_and_then (λ l. kept_in (mark l) (at l) k) (slice_get lines v)
kept_by_line lines v line mark at k place x within read there is =
    ap Some is ∙ sym (ap (option_map (at line)) there)
    ∙ sym (ap (option_and_then (λ l. kept_in (mark l) (at l) k)) (slice_get_read lines (length lines) v line refl within read))

-- an entry whose block was not read has no place
no_block : (mark k : ℕ) → mark ≤ k / 8 → place_in mark k ≡ None
no_block mark k beyond =
    cond-false (ltb (k / 8) mark) (cond ((mark - 1) / 4 == k / 32) (Some (k % 32)) None) None (le-ltb (k / 8) mark beyond)

-- nor has one of another group
no_group : (mark k : ℕ) → ((mark - 1) / 4 ≡ k / 32 → ⊥) → place_in mark k ≡ None
no_group mark k other =
    let inner : cond ((mark - 1) / 4 == k / 32) (Some (k % 32)) None ≡ None =
    cond-false ((mark - 1) / 4 == k / 32) (Some (k % 32)) None (ne_eqb ((mark - 1) / 4) (k / 32) other) in
    elim (cases_Bool (ltb (k / 8) mark)) [
      | inl read ↦ cond-true (ltb (k / 8) mark) _ None read ∙ inner
      | inr unread ↦ cond-false (ltb (k / 8) mark) _ None unread
    ]

-- what a line keeps once the values of its next block stand behind those before
appended_kept : (block k : ℕ) (f g : ℕ → ℕ) (values : List ℕ) → IsBehind block f values g
    → kept_in (block + 1) g k ≡ appended block values k (kept_in block f k)
appended_kept block k f g values behind =
    let kept = kept_in block f k in
    let value = Some (slice_index values (k % 8)) in
    let rest = cond (k / 32 == block / 4) kept None in
    elim (cases_Bool (k / 8 == block)) [
      | inl same ↦
          let here : k / 8 ≡ block = eqb-true (k / 8) block same in
          let place : k % 32 ≡ 8 * (block % 4) + k % 8 = omega (arith, here) in
          ap (option_map g) (place_at (block + 1) k (omega (arith, here)) (omega (arith, here)))
          ∙ ap Some (ap g place ∙ behind.more (k % 8) (omega arith))
          ∙ sym (cond-true (k / 8 == block) value rest same)
      | inr differs ↦
          let other : k / 8 ≡ block → ⊥ = eqb-false (k / 8) block differs in
          let to : rest ≡ appended block values k kept = sym (cond-false (k / 8 == block) value rest differs) in
          elim (cases_Bool (k / 32 == block / 4)) [
            | inl near ↦
                let group : k / 32 ≡ block / 4 = eqb-true (k / 32) (block / 4) near in
                let there : kept ≡ rest = sym (cond-true (k / 32 == block / 4) kept None near) in
                elim (cases_lt (k / 8) block) [
                  | inl earlier ↦
                      ap (option_map g) (place_at (block + 1) k (omega (arith, earlier)) (omega (arith, group)))
                      ∙ ap Some (behind.first (k % 32) (omega (arith, earlier, group)))
                      ∙ sym (ap (option_map f) (place_at block k earlier (omega (arith, earlier, group))))
                      ∙ there ∙ to
                  | inr later ↦
                      let beyond : block < k / 8 = elim (cases_lt block (k / 8)) [
                        | inl more ↦ more
                        | inr less ↦ absurd (other (omega (arith, later, less)))
                      ] in
                      ap (option_map g) (no_block (block + 1) k (omega (arith, beyond)))
                      ∙ sym (ap (option_map f) (no_block block k later))
                      ∙ there ∙ to
                ]
            | inr far ↦
                let group : k / 32 ≡ block / 4 → ⊥ = eqb-false (k / 32) (block / 4) far in
                ap (option_map g) (no_group (block + 1) k (λ same. group (omega (arith, same))))
                ∙ sym (cond-false (k / 32 == block / 4) kept None far) ∙ to
          ]
    ]

-- what lines keep once a block was appended to one of them
pub line_appended : {L : Type 0} (mark : L → ℕ) (at : L → ℕ → ℕ) (lines : List L) (v u k block : ℕ) (old line : L)
    (values : List ℕ) → v < length lines → old ≡ get_or lines v old
    → option_map mark (slice_get lines v) ≡ Some block → mark line ≡ block + 1
    → IsBehind block (at old) values (at line)
    → option_and_then (λ l. kept_in (mark l) (at l) k) (slice_get (slice_set lines v line) u)
    ≡ cond (u == v) (appended block values k (option_and_then (λ l. kept_in (mark l) (at l) k) (slice_get lines u)))
    (option_and_then (λ l. kept_in (mark l) (at l) k) (slice_get lines u))
line_appended mark at lines v u k block old line values within is next now behind =
    let look = option_and_then (λ l. kept_in (mark l) (at l) k) in
    let rest = look (slice_get lines u) in
    let read : slice_get lines v ≡ Some old = slice_get_read lines (length lines) v old refl within is in
    let was : mark old ≡ block =
    same_Some (mark old) block (sym (ap (option_map mark) read) ∙ next) in
    let own : kept_in (mark line) (at line) k ≡ appended block values k (kept_in (mark old) (at old) k) =
    ap (λ m. kept_in m (at line) k) now ∙ appended_kept block k (at old) (at line) values behind
    ∙ ap (λ m. appended block values k (kept_in m (at old) k)) (sym was) in
    line_written (λ l. kept_in (mark l) (at l) k) (appended block values k (kept_in (mark old) (at old) k))
    lines v u line within own
    ∙ elim (cases_Bool (u == v)) [
      | inl same ↦
          let here : u ≡ v = eqb-true u v same in
          ap (λ (kept : Option ℕ). cond (u == v) (appended block values k kept) rest)
          (sym (ap look (ap (slice_get lines) here ∙ read)))
      | inr other ↦
          cond-false (u == v) (appended block values k (kept_in (mark old) (at old) k)) rest other
          ∙ sym (cond-false (u == v) (appended block values k rest) rest other)
    ]

-- what is kept of an entry once a block was appended: its value in the block, or what was kept
appended_is : (block k x : ℕ) (values : List ℕ) (kept : Option ℕ) → appended block values k kept ≡ Some x
    → (kept ≡ Some x) ⊎ ((k / 8 ≡ block) × (slice_index values (k % 8) ≡ x))
appended_is block k x values kept is =
    let value = Some (slice_index values (k % 8)) in
    let rest = cond (k / 32 == block / 4) kept None in
    elim (cases_Bool (k / 8 == block)) [
      | inl same ↦
          inr (
            eqb-true (k / 8) block same,
            same_Some (slice_index values (k % 8)) x (sym (cond-true (k / 8 == block) value rest same) ∙ is),
          )
      | inr other ↦
          inl (cond_some_of (k / 32 == block / 4) kept x (sym (cond-false (k / 8 == block) value rest other) ∙ is)).1
    ]

-- where the values of a block of a variable were appended, what is kept of an entry is its value
pub keeps_appended : (s : StackTable) (old new : KeptValues) (v block : ℕ) (values : List ℕ) → KeepsValues s old
    → Appends old new v block values
    → ((k : ℕ) → k / 8 ≡ block
    → (slice_index values (k % 8) ≡ value_at s v k) × (slice_index values (k % 8) < domain_of s v))
    → KeepsValues s new
keeps_appended s old new v block values keeps appends are u k x kept =
    let was = kept_at old u k in
    let now = sym (appends u k) ∙ kept in
    elim (cases_Bool (u == v)) [
      | inl same ↦
          elim (appended_is block k x values was (sym (cond-true (u == v) (appended block values k was) was same) ∙ now)) [
            | inl before ↦ keeps u k x before
            | inr gained ↦
                let is = are k gained.0 in
                subst (λ w. (x ≡ value_at s w k) × (x < domain_of s w)) (sym (eqb-true u v same))
                (sym gained.1 ∙ is.0, subst (λ y. y < domain_of s v) gained.1 is.1)
          ]
      | inr other ↦ keeps u k x (sym (cond-false (u == v) (appended block values k was) was other) ∙ now)
    ]
