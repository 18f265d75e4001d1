-- Event i is tried with the later events that share a variable with it, variable by variable. The
-- stamps tell which events were tried, and `least` is the least of these that clashes. A later place
-- that is passed over is not below it, or was tried. So when all variables of event i are done no
-- event that clashes stands below `least`, since an event that clashes is later and shares a
-- variable, and so stands in that variable's row behind event i.
use Rattle.std.proofs.Common.{inl, inr, ◌≡◌, ◌⊎◌, ◌↔◌, ℕ, ◌+◌, ◌<◌, ◌≤◌, List, [], length, set, slice_get, slice_index, slice_index_or, Contains, Some, refl, sym, ap, subst, ◌∙◌, arith}
use Rattle.std.proofs.lemmas.Bool.{cases_eq}
use Rattle.std.proofs.lemmas.List.{get_or_default, get_or-set_same, get_or-set_other, length-set}
use Rattle.std.proofs.lemmas.Option.{get_or_from_slice_get, slice_get_within, slice_get_read}
use Rattle.pop_model.specs.Popping.{Cube, NamesBelow, variables}
use Rattle.pop_model.specs.Extremal.{Exclude}
use Rattle.pop_model.proofs.Diamond.{named, names_it}
use Rattle.pop_model.proofs.Members.{variable_at}
use Rattle.pop_instance.specs.Events.{cube_at}
use Rattle.pop_instance.specs.Index.{IsIndex}
use Rattle.extremal_check.specs.Clashes.{ClashAt}
use Rattle.extremal_check.specs.Tries.{AreLaterSharing, IsLeastTried}

-- the variable of a pair that was read
variable_is : (e : Cube) (k : ℕ) (p : ℕ × ℕ) → slice_get e k ≡ Some p → slice_index (variables e) k ≡ p.0
variable_is e k p read =
    variable_at e k (slice_get_within e k p read) ∙ ap (λ (q : ℕ × ℕ). q.0) (get_or_from_slice_get e k p (0, 0) read)

-- the stamp of another event stays, and the one of event j is new
stamp_cases : (rows : List (ℕ × Cube)) (i j : ℕ) (stamps : List ℕ) → length stamps ≡ length rows → j < length rows
    → (k : ℕ) → ((k ≡ j) × (slice_index (set stamps j (i + 1)) k ≡ i + 1))
    ⊎ (slice_index (set stamps j (i + 1)) k ≡ slice_index stamps k)
stamp_cases rows i j stamps count within k = elim (cases_eq k j) [
  | inl same ↦
      let written = get_or-set_same stamps j (i + 1) 0 (omega arith) in
      inl (same, ap (slice_index (set stamps j (i + 1))) same ∙ written)
  | inr other ↦ inr (get_or-set_other stamps j k (i + 1) 0 other)
]

-- event j gets a stamp, where `least` is then not above j if it clashes
pub stamp_it : (rows : List (ℕ × Cube)) (i j : ℕ) (stamps : List ℕ) (least lower : ℕ) → IsLeastTried rows i stamps least
    → j < length rows → lower ≤ least → (lower < length rows → ClashAt rows i lower) → (ClashAt rows i j → lower ≤ j)
    → IsLeastTried rows i (set stamps j (i + 1)) lower
stamp_it rows i j stamps least lower tried within falls clash not_above = record {
  stamped = record {
    count = length-set stamps j (i + 1) ∙ tried.stamped.count;
    stamp = λ k. elim (stamp_cases rows i j stamps tried.stamped.count within k) [
      | inl here ↦ let new = here.1 in omega (arith, new)
      | inr kept ↦ let old = tried.stamped.stamp k in omega (arith, kept, old)
    ];
  };
  within = let old = tried.within in omega (arith, old, falls);
  clash = clash;
  none_below = λ k fresh clashes. elim (stamp_cases rows i j stamps tried.stamped.count within k) [
    | inl here ↦ let same = here.0 in let le =
        not_above (subst (ClashAt rows i) same clashes) in omega (arith, le, same)
    | inr kept ↦ let old = tried.none_below k (sym kept ∙ fresh) clashes in omega (arith, old, falls)
  ];
}

-- the later places in a row of the index are those of events that share its variable with event i
pub sharing_row : (rows : List (ℕ × Cube)) (index : List (List ℕ)) (i k : ℕ) (p : ℕ × ℕ) (later : List ℕ)
    → IsIndex rows index → slice_get (cube_at rows i) k ≡ Some p → p.0 < length index
    → ((j : ℕ) → Contains later j ↔ (Contains (slice_index_or index p.0 []) j × (i < j)))
    → AreLaterSharing rows i later
sharing_row rows index i k p later is read below holds j has =
    let from = (holds j).0 has in
    let there = (is.exact p.0 j below).0 from.0 in
    let other = named (cube_at rows j) p.0 there.1 in
    let here : Contains (cube_at rows i) p =
    (k, slice_get_within (cube_at rows i) k p read, get_or_from_slice_get (cube_at rows i) k p p read) in
    (from.1, there.0, (p.0, p.1, other.0, here, other.1))

-- the variables of event i have rows
pub has_row : (rows : List (ℕ × Cube)) (index : List (List ℕ)) (i k : ℕ) (p : ℕ × ℕ) → IsIndex rows index
    → i < length rows → slice_get (cube_at rows i) k ≡ Some p → p.0 < length index
has_row rows index i k p is within read =
    let below : NamesBelow (cube_at rows i) (length index) = is.below i (0, []) within in
    let at = below k p (slice_get_within (cube_at rows i) k p read) in
    subst (λ (q : ℕ × ℕ). q.0 < length index) (get_or_from_slice_get (cube_at rows i) k p p read) at

-- no place in the rows of the first variables of event i, up to so many, clashes below `least`
abbrev pub NoneBelow : List (ℕ × Cube) → List (List ℕ) → ℕ → ℕ → ℕ → Type 0
NoneBelow rows index i least count = (k : ℕ) → k < count → (j : ℕ)
    → Contains (slice_index_or index (slice_index (variables (cube_at rows i)) k) []) j → ClashAt rows i j → least ≤ j

-- with the row of one variable more
pub one_row_more : (rows : List (ℕ × Cube)) (index : List (List ℕ)) (i count least lower : ℕ) (p : ℕ × ℕ)
    → slice_get (cube_at rows i) count ≡ Some p → NoneBelow rows index i least count → lower ≤ least
    → ((j : ℕ) → Contains (slice_index_or index p.0 []) j → ClashAt rows i j → lower ≤ j)
    → NoneBelow rows index i lower (count + 1)
one_row_more rows index i count least lower p read before falls here k less j has clash = elim (cases_eq k count) [
  | inl same ↦
      let variable : slice_index (variables (cube_at rows i)) k ≡ p.0 =
      ap (slice_index (variables (cube_at rows i))) same ∙ variable_is (cube_at rows i) count p read in
      here j (subst (λ (v : ℕ). Contains (slice_index_or index v []) j) variable has) clash
  | inr other ↦ let old = before k (omega arith) j has clash in omega (arith, old, falls)
]

-- an event that clashes stands in the row of a variable of event i
pub not_below_least : (rows : List (ℕ × Cube)) (index : List (List ℕ)) (i least : ℕ) → IsIndex rows index
    → i < length rows → NoneBelow rows index i least (length (cube_at rows i)) → (j : ℕ) → ClashAt rows i j → least ≤ j
not_below_least rows index i least is within none j clash =
    let shared = clash.clash.share in
    let v : ℕ = shared.0 in
    let here = shared.3 in
    let there = shared.4 in
    let read : slice_get (cube_at rows i) here.0 ≡ Some (v, shared.1) =
    slice_get_read (cube_at rows i) (length (cube_at rows i)) here.0 (v, shared.1) refl here.1 (sym here.2) in
    let variable : slice_index (variables (cube_at rows i)) here.0 ≡ v =
    variable_is (cube_at rows i) here.0 (v, shared.1) read in
    let below : v < length index = has_row rows index i here.0 (v, shared.1) is within read in
    let named_there = names_it (cube_at rows j) (v, shared.2) there in
    let has : Contains (slice_index_or index v []) j = (is.exact v j below).1 (clash.within, named_there) in
    none here.0 here.1 j (subst (λ (w : ℕ). Contains (slice_index_or index w []) j) (sym variable) has) clash

-- events that exclude each other don't clash
pub excluded : (rows : List (ℕ × Cube)) (i j : ℕ) → Exclude (cube_at rows i) (cube_at rows j) → ClashAt rows i j → ⊥
excluded rows i j exclude clash = clash.clash.agree exclude

-- no place of a row clashes below `least`, where none of its first does and these are all
pub none_in_row : (rows : List (ℕ × Cube)) (i least : ℕ) (row : List ℕ) (count : ℕ)
    → ((k : ℕ) → k < count → ClashAt rows i (slice_index row k) → least ≤ slice_index row k) → length row ≤ count
    → (j : ℕ) → Contains row j → ClashAt rows i j → least ≤ j
none_in_row rows i least row count none far j (k, within, same) clash =
    let is : slice_index row k ≡ j = get_or_default row k 0 j within ∙ same in
    let le = none k (omega arith) (subst (ClashAt rows i) (sym is) clash) in
    omega (arith, le, is)
