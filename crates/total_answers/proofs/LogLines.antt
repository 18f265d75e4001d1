-- The lines of a log text may stand, or one is the first that can't: what may stand in a line is one of finitely many.
use Rattle.std.proofs.Common.{inl, inr, ◌≡◌, ◌⊎◌, ℕ, suc, ◌+◌, ◌^◌, ◌<◌, ◌≤◌, List, [], ◌∷◌, length, map, get_or, slice_index, Some, refl, sym, ap, ap₂, subst, ◌∙◌, arith, All}
use Rattle.std.specs.List.{AllByRecursion, zip}
use Rattle.std.specs.List.Sorted.{IsStrictlyIncreasing}
use Rattle.std.proofs.lemmas.Bool.{cases_lt}
use Rattle.std.proofs.lemmas.List.{get_or_default, length-map, get_or-map}
use Rattle.std.proofs.lemmas.Map.Keys.{sorted_from_strictly_increasing}
use Rattle.std.proofs.lemmas.Map.Views.{length-le_from_below}
use Rattle.std.proofs.lemmas.Option.{get_or_from_slice_get, slice_get-get_or, slice_get_within}
use Rattle.pop_model.specs.Popping.{Cube, variables}
use Rattle.pop_model.specs.Families.{Family}
use Rattle.pop_model.specs.Families.Family.{Listed, Cycles}
use Rattle.pop_samples.proofs.AllRows.{IsRow}
use Rattle.pop_samples.proofs.Conses.{same_list}
use Rattle.pop_log.specs.declared.names.Names.{Names}
use Rattle.pop_log.specs.declared.log_version.LogVersion.{LogVersion}
use Rattle.pop_log.specs.declared.log_version.LogVersion.TheVariants.{Ordered, Layered}
use Rattle.pop_log.specs.Printed.{Printed, name_of, HasVariables}
use Rattle.pop_log.specs.LayeredTexts.{Written}
use Rattle.pop_log.specs.LogVersions.{head_of, line_of, LayerFits, MayBeWritten, AreLogLines, MayStart, MayStand, AreWellFormed}
use Rattle.pop_log.specs.Refusals.{IsMalformedAt}
use Rattle.pop_log.specs.TextLines.{lines_with_ends}
use Rattle.pop_log.proofs.NamedVariables.{parts_zip, zip_parts}
use Rattle.prs_rounds.proofs.ClosedSets.{IsDecided, decide_both, some_below}
use Rattle.total_answers.proofs.Deciding.{Finds, decide_le, decide_lt, found_below, known_member}
use Rattle.total_answers.proofs.FiniteLists.{first_fails, one_of, rows_listed}

-- a layer that fits is such, or none
decide_layer : (version : LogVersion) (Q : ℕ → Type 0) → ((y : ℕ) → IsDecided (Q y))
    → IsDecided ((y : ℕ) × LayerFits version y × Q y)
decide_layer Ordered Q each = elim (each 0) [
  | inl q ↦ inl (0, refl, q)
  | inr not ↦ inr (λ (y, is, q). not (subst Q is q))
]
decide_layer Layered Q each = elim (found_below (λ y. LayerFits Layered y × Q y) (2 ^ 64)
    (λ y. decide_both (LayerFits Layered y) (Q y)
    (decide_both (0 < y) (y < 2 ^ 64) (decide_lt 0 y) (decide_lt y (2 ^ 64))) (each y)) (λ y h. h.0.1)) [
      | inl (y, both) ↦ inl (y, both.0, both.1)
      | inr none ↦ inr (λ (y, fits, q). none y (fits, q))
    ]

-- a list rises, or not
decide_rising : (xs : List ℕ) → IsDecided (IsStrictlyIncreasing xs)
decide_rising xs = elim (some_below (λ k. (k + 1 < length xs) × (slice_index xs (k + 1) ≤ slice_index xs k)) (length xs)
    (λ k less. decide_both (k + 1 < length xs) _ (decide_lt (k + 1) (length xs))
    (decide_le (slice_index xs (k + 1)) (slice_index xs k)))) [
      | inl (k, less, (within, falls)) ↦ inr (λ rising. let up = rising k within in omega (arith, up, falls))
      | inr none ↦ inl (λ k within. elim (cases_lt (slice_index xs k) (slice_index xs (k + 1))) [
        | inl up ↦ up
        | inr falls ↦ absurd (none k (omega (arith, within)) (within, falls))
      ])
    ]

-- numbers in a row of a list are below the same number
row_below : (d h : ℕ) (row : List ℕ) → IsRow d h row → All (λ v. v < d) row
row_below d h row is k e within =
    let same = get_or_default row k e 0 within in
    let value = is.values k within in
    omega (arith, same, value)

-- variables rise, and are such under the number of a cycle
abbrev AreCycle : Names → (ℕ → List ℕ → Type 0) → List ℕ → Type 0
AreCycle names Q vs = (0 < length vs) × IsStrictlyIncreasing vs × Q (name_of names (slice_index vs 0)) vs

decide_cycle : (names : Names) (Q : ℕ → List ℕ → Type 0) → ((number : ℕ) (vs : List ℕ) → IsDecided (Q number vs))
    → (vs : List ℕ) → IsDecided (AreCycle names Q vs)
decide_cycle names Q each vs = elim (decide_lt 0 (length vs)) [
  | inr none ↦ inr (λ is. none is.0)
  | inl some ↦ elim (decide_rising vs) [
    | inr falls ↦ inr (λ is. falls is.1)
    | inl rising ↦ elim (each (name_of names (slice_index vs 0)) vs) [
      | inr not ↦ inr (λ is. not is.2)
      | inl q ↦ inl (some, rising, q)
    ]
  ]
]

-- the variables of some event, under its number, are such, or those of none
decide_variables : (names : Names) (family : Family) (Q : ℕ → List ℕ → Type 0)
    → ((number : ℕ) (vs : List ℕ) → IsDecided (Q number vs))
    → IsDecided ((number : ℕ) × (vs : List ℕ) × HasVariables names family number vs × Q number vs)
decide_variables names (Listed rows) Q each =
    elim (known_member (λ (r : ℕ × Cube). Q r.0 (variables r.1)) rows (λ r has. each r.0 (variables r.1))) [
      | inl (r, (unit, within, at), q) ↦ inl (
        r.0,
        variables r.1,
        (unit, r.1, slice_get-get_or rows unit r within ∙ ap (λ (p : ℕ × Cube). Some p) at, refl),
        q,
      )
      | inr none ↦ inr (λ (number, vs, (unit, e, at, is), q).
          let row : ℕ × Cube = (number, e) in
          none row (unit, slice_get_within rows unit row at, get_or_from_slice_get rows unit row row at)
          (subst (Q number) is q))
    ]
decide_variables names (Cycles heads) Q each =
    let n : ℕ = length heads in
    elim (found_below (λ h. (vs : List ℕ) × IsRow n h vs × AreCycle names Q vs) (suc n)
    (λ h. one_of (IsRow n h) (AreCycle names Q) (rows_listed n h).0 (rows_listed n h).1 (decide_cycle names Q each))
    (λ h (vs, row, are).
    let few = length-le_from_below n vs (sorted_from_strictly_increasing vs are.1) (row_below n h vs row) in
    let size = row.size in
    omega (arith, few, size))) [
      | inl (h, (vs, row, (some, rising, q))) ↦ inl (
        name_of names (slice_index vs 0),
        vs,
        (some, rising, row_below n h vs row, refl),
        q,
      )
      | inr none ↦ inr (λ (number, vs, (some, rising, low, is), q).
          none (length vs) (
            vs,
            record { size = refl; values = λ k within. low k 0 within },
            (some, rising, subst (λ m. Q m vs) is q),
          ))
    ]

-- ---- a line

-- a printed record of these parts
abbrev printed_of : ℕ → List (ℕ × ℕ) → Printed
printed_of number pairs = record { number = number; pairs = pairs }

-- the second numbers of pairs
abbrev entries_of : List (ℕ × ℕ) → List ℕ
entries_of pairs = map (λ q. q.1) pairs

-- the line is written of variables under this number, with some layer and some entries
abbrev Spells : Names → LogVersion → List ℕ → ℕ → List ℕ → Type 0
Spells names version l number vs = (y : ℕ) × LayerFits version y
    × ((entries : List ℕ) × IsRow (2 ^ 32) (length vs) entries
    × (line_of version (y, printed_of number (zip (map (name_of names) vs) entries)) ≡ l))

decide_spells : (names : Names) (version : LogVersion) (l : List ℕ) (number : ℕ) (vs : List ℕ)
    → IsDecided (Spells names version l number vs)
decide_spells names version l number vs =
    let rows = rows_listed (2 ^ 32) (length vs) in
    decide_layer version (λ y. (entries : List ℕ) × IsRow (2 ^ 32) (length vs) entries
    × (line_of version (y, printed_of number (zip (map (name_of names) vs) entries)) ≡ l))
    (λ y. one_of (IsRow (2 ^ 32) (length vs))
    (λ entries. line_of version (y, printed_of number (zip (map (name_of names) vs) entries)) ≡ l) rows.0 rows.1
    (λ entries. same_list (line_of version (y, printed_of number (zip (map (name_of names) vs) entries))) l))

-- a pair's second number stands among the second numbers
entry_at : (pairs : List (ℕ × ℕ)) (k : ℕ) (d : ℕ × ℕ) → k < length pairs
    → get_or (entries_of pairs) k 0 ≡ (get_or pairs k d).1
entry_at pairs k d within = get_or-map (λ (q : ℕ × ℕ). q.1) pairs k d 0 within

module _ (names : Names) (family : Family) (version : LogVersion) where
  -- what is spelled may be written
  spelled : (l : List ℕ) (number : ℕ) (vs : List ℕ) → HasVariables names family number vs
      → Spells names version l number vs
      → (w : Written) × (MayBeWritten names family version w × (line_of version w ≡ l))
  spelled l number vs has (y, fits, (entries, row, is)) =
      let own : List ℕ = map (name_of names) vs in
      let pairs : List (ℕ × ℕ) = zip own entries in
      let named = length-map vs (name_of names) in
      let size = row.size in
      let parts = parts_zip own entries pairs (omega (arith, named, size)) refl in (
        (y, printed_of number pairs),
        (
          record {
            layer = fits;
            record_is = record {
              vs = vs;
              variables_are = has;
              names_are = sym parts.0;
              entries_fit = λ k d within.
                  let at = entry_at pairs k d within in
                  let same = ap (λ (l : List ℕ). get_or l k 0) parts.1 in
                  let long = ap (λ (l : List ℕ). length l) parts.1 in
                  let count = length-map pairs (λ (q : ℕ × ℕ). q.1) in
                  let value = row.values k (omega (arith, within, long, count)) in
                  omega (arith, at, same, value);
            };
          },
          is,
        ),
      )

  -- and what may be written is spelled
  spells : (l : List ℕ) (w : Written) (may : MayBeWritten names family version w) → line_of version w ≡ l
      → Spells names version l w.1.number may.record_is.vs
  spells l w may is =
      let p : Printed = w.1 in
      let vs : List ℕ = may.record_is.vs in
      let count = length-map p.pairs (λ (q : ℕ × ℕ). q.1) in
      let firsts = length-map p.pairs (λ (q : ℕ × ℕ). q.0) in
      let own = length-map vs (name_of names) in
      let same = ap (λ (l : List ℕ). length l) may.record_is.names_are in
      let pairs : zip (map (name_of names) vs) (entries_of p.pairs) ≡ p.pairs =
      ap (λ (l : List ℕ). zip l (entries_of p.pairs)) (sym may.record_is.names_are) ∙ zip_parts p.pairs in (
        w.0,
        may.layer,
        (
          entries_of p.pairs,
          record {
            size = omega (arith, count, firsts, own, same);
            values = λ k within.
                let at = entry_at p.pairs k (0, 0) (omega (arith, within, count)) in
                let small = may.record_is.entries_fit k (0, 0) (omega (arith, within, count)) in
                omega (arith, at, small);
          },
          ap (λ (l : List (ℕ × ℕ)). line_of version (w.0, printed_of p.number l)) pairs ∙ is,
        ),
      )

  -- so it is found whether a line may stand
  line_written : (l : List ℕ) → Finds (λ (w : Written). MayBeWritten names family version w × (line_of version w ≡ l))
  line_written l =
      elim (decide_variables names family (Spells names version l) (decide_spells names version l)) [
        | inl (number, vs, has, spelt) ↦ inl (spelled l number vs has spelt)
        | inr none ↦ inr (λ w (may, is).
            none (w.1.number, may.record_is.vs, may.record_is.variables_are, spells l w may is))
      ]

  -- the lines are those of such records
  abbrev AreWritten : List (List ℕ) → List Written → Type 0
  AreWritten ls ws = (ls ≡ map (line_of version) ws) × AllByRecursion (MayBeWritten names family version) ws

  lines_written : (ls : List (List ℕ)) → IsDecided ((ws : List Written) × AreWritten ls ws)
  lines_written [] = inl ([], (refl, tt))
  lines_written (l ∷ ls) = elim (line_written l) [
    | inr none ↦ inr (λ (ws, are). first ws are none)
    | inl (w, (may, is)) ↦ elim (lines_written ls) [
      | inl (ws, are) ↦
          inl (w ∷ ws, (ap₂ (λ (k : List ℕ) (ks : List (List ℕ)). k ∷ ks) (sym is) are.0, (may, are.1)))
      | inr none ↦ inr (λ (ws, are). none (rest ws are))
    ]
  ]
    where
      first : (ws : List Written) → AreWritten (l ∷ ls) ws
          → ((w : Written) → MayBeWritten names family version w × (line_of version w ≡ l) → ⊥) → ⊥
      first [] are none = let same = are.0 in cc
      first (w ∷ ws) are none =
          let all = are.0 in
          let same : line_of version w ≡ l = cc in
          none w (are.1.0, same)

      rest : (ws : List Written) → AreWritten (l ∷ ls) ws → (us : List Written) × AreWritten ls us
      rest [] are = absurd (let same = are.0 in cc)
      rest (w ∷ ws) are =
          let all = are.0 in
          let same : ls ≡ map (line_of version) ws = cc in
          (ws, (same, are.1.1))

  -- ---- lines

  -- the first line says how many may follow
  abbrev StartsAs : List ℕ → List (List ℕ) → Type 0
  StartsAs l ls = ((said : ℕ) × (said < 2 ^ 64) × (l ≡ head_of version said) × (length ls ≤ said))
      × ((ws : List Written) × AreWritten ls ws)

  starts_as : (l : List ℕ) (ls : List (List ℕ)) → IsDecided (StartsAs l ls)
  starts_as l ls = decide_both _ _ (elim (found_below
      (λ said. (said < 2 ^ 64) × ((l ≡ head_of version said) × (length ls ≤ said))) (2 ^ 64)
      (λ said. decide_both (said < 2 ^ 64) _ (decide_lt said (2 ^ 64))
      (decide_both (l ≡ head_of version said) _ (same_list l (head_of version said)) (decide_le (length ls) said)))
      (λ said h. h.0)) [
        | inl (said, (small, (is, few))) ↦ inl (said, small, is, few)
        | inr none ↦ inr (λ (said, small, is, few). none said (small, (is, few)))
      ]) (lines_written ls)

  -- it says how many do follow
  abbrev WholeAs : List ℕ → List (List ℕ) → Type 0
  WholeAs l ls = ((l ≡ head_of version (length ls)) × (length ls < 2 ^ 64)) × ((ws : List Written) × AreWritten ls ws)

  whole_as : (l : List ℕ) (ls : List (List ℕ)) → IsDecided (WholeAs l ls)
  whole_as l ls =
      decide_both _ _ (decide_both _ _ (same_list l (head_of version (length ls))) (decide_lt (length ls) (2 ^ 64)))
      (lines_written ls)

  -- written lines are as many as their records
  count_written : (ls : List (List ℕ)) (ws : List Written) → AreWritten ls ws → length ws ≡ length ls
  count_written ls ws are =
      sym (ap (λ (l : List (List ℕ)). length l) are.0 ∙ length-map ws (line_of version))

  as_start : (l : List ℕ) (ls : List (List ℕ)) → StartsAs l ls → MayStart names family l ls
  as_start l ls ((said, small, is, few), (ws, are)) =
      let count = count_written ls ws are in
      record {
        version = version;
        said = said;
        count = small;
        head = is;
        ws = ws;
        lines_are = are.0;
        records = are.1;
        few = omega (arith, few, count);
      }

  as_whole : (l : List ℕ) (ls : List (List ℕ)) → WholeAs l ls → AreWellFormed names family (l ∷ ls)
  as_whole l ls ((is, small), (ws, are)) =
      let count = count_written ls ws are in (
        version,
        ws,
        record {
          lines_are = ap₂ (λ (k : List ℕ) (ks : List (List ℕ)). k ∷ ks) (is ∙ ap (head_of version) (sym count)) are.0;
          count = omega (arith, count, small);
          records = are.1;
        },
      )

  from_whole : (l : List ℕ) (ls : List (List ℕ)) (ws : List Written)
      → AreLogLines names family version (l ∷ ls) ws → WholeAs l ls
  from_whole l ls ws are =
      let all = are.lines_are in
      let first : l ≡ head_of version (length ws) = cc in
      let rest : ls ≡ map (line_of version) ws = cc in
      let count = count_written ls ws (rest, are.records) in
      let small = are.count in
      ((first ∙ ap (head_of version) count, omega (arith, count, small)), (ws, (rest, are.records)))

-- one of the two versions
by_version : (P : LogVersion → Type 0) → IsDecided (P Ordered) → IsDecided (P Layered)
    → IsDecided ((version : LogVersion) × P version)
by_version P (inl p) q = inl (Ordered, p)
by_version P (inr not) (inl q) = inl (Layered, q)
by_version P (inr not) (inr neither) = inr none
  where
    none : (version : LogVersion) × P version → ⊥
    none (Ordered, p) = not p
    none (Layered, q) = neither q

module _ (names : Names) (family : Family) where
  -- so it is found whether lines may be the first of a log text
  decide_stand : (lines : List (List ℕ)) → IsDecided (MayStand names family lines)
  decide_stand [] = inl tt
  decide_stand (l ∷ ls) = elim (by_version (λ version. StartsAs names family version l ls)
      (starts_as names family Ordered l ls) (starts_as names family Layered l ls)) [
        | inl (version, starts) ↦ inl (as_start names family version l ls starts)
        | inr none ↦ inr (λ start. none (
          start.version,
          (
            (
              start.said,
              start.count,
              start.head,
              (let few = start.few in
                  let count = count_written names family start.version ls start.ws (start.lines_are, start.records) in
                  omega (arith, few, count)),
            ),
            (start.ws, (start.lines_are, start.records)),
          ),
        ))
      ]

  -- or all lines of one
  decide_whole : (lines : List (List ℕ)) → IsDecided (AreWellFormed names family lines)
  decide_whole [] = inr (λ (version, ws, are). let none = are.lines_are in cc)
  decide_whole (l ∷ ls) = elim (by_version (λ version. WholeAs names family version l ls)
      (whole_as names family Ordered l ls) (whole_as names family Layered l ls)) [
        | inl (version, whole) ↦ inl (as_whole names family version l ls whole)
        | inr none ↦ inr (λ (version, ws, are). none (version, from_whole names family version l ls ws are))
      ]

  -- a text is well formed, or has a first line that can't stand
  pub formed_or_malformed : (text : List ℕ)
      → AreWellFormed names family (lines_with_ends text) ⊎ ((l : ℕ) × IsMalformedAt names family text l)
  formed_or_malformed text = elim (decide_whole (lines_with_ends text)) [
    | inl whole ↦ inl whole
    | inr outside ↦
        let fails = first_fails (MayStand names family) decide_stand tt (lines_with_ends text) in
        inr (fails.0, record { outside = outside; place = fails.1.place; bad = fails.1.bad })
  ]
