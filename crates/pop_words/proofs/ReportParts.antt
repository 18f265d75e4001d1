-- The parts of the value of `--report`, read one after another. As long as each part is the name of a report that
-- didn't stand before, the reports so far are those whose names stand among the parts; a part that is no such name
-- decides that the word is no value, whatever stands behind it.
use Rattle.std.proofs.Common.{inl, inr, ◌≡◌, ◌⊎◌, ℕ, ◌+◌, ◌<◌, ◌≤◌, Bool, true, false, ◌||◌, if◌then◌else◌, List, [], ◌∷◌, ◌++◌, length, get_or, take, drop, None, Some, refl, sym, ap, ◌∙◌, take-append-drop}
use Rattle.std.specs.List.{list_any}
use Rattle.std.specs.Str.{bytes_eq}
use Rattle.std.proofs.lemmas.Bool.{both_ways, not-true, not_from_true, not_from_false, and_parts, and_from, and_left, and_right, or_cases, or_parts, or_from, or_left, or_right, false_from_ne_true}
use Rattle.std.proofs.lemmas.List.{take_more, drop_more, take_all}
use Rattle.std.proofs.lemmas.List.Folds.{list_all-append, list_any-append}
use Rattle.std.proofs.lemmas.Slice.Eq.{bytes_eq-Decides}
use Rattle.std.proofs.Math.Bool.{or-false}
use Rattle.pop_words.specs.declared.reports.Reports.{Reports}
use Rattle.pop_words.specs.Values.{comma_parts, totals_name, heights_name, layers_name, is_report, are_different, are_reports, reports_among, reports_in}

-- ---- parts that differ

-- a word is equal to another where that is equal to it
turned : (a b : List ℕ) → bytes_eq a b ≡ true → bytes_eq b a ≡ true
turned a b same = (bytes_eq-Decides b a).1 (sym ((bytes_eq-Decides a b).0 same))

-- nor is it where that isn't
turned_not : (a b : List ℕ) → bytes_eq a b ≡ false → bytes_eq b a ≡ false
turned_not a b other = false_from_ne_true (bytes_eq b a) (λ same. both_ways (bytes_eq a b) other (turned b a same))

-- one more behind parts that differ, and differ from it
different_more : (front : List (List ℕ)) (part : List ℕ) → are_different front ≡ true
    → list_any (bytes_eq part) front ≡ false → are_different (front ++ part ∷ []) ≡ true
different_more [] part all other = refl
different_more (x ∷ xs) part all other =
    let parts = and_parts _ _ all in
    let others = or_parts _ _ other in
    let apart : list_any (bytes_eq x) (xs ++ part ∷ []) ≡ false = list_any-append (bytes_eq x) xs (part ∷ [])
    ∙ or_from _ _ (not-true _ parts.0) (or_from _ _ (turned_not part x others.0) refl) in
    and_from _ _ (not_from_false _ apart) (different_more xs part parts.1 others.1)

-- one that stands before, whatever stands behind it
not_different : (front : List (List ℕ)) (part : List ℕ) (rest : List (List ℕ))
    → list_any (bytes_eq part) front ≡ true → are_different (front ++ part ∷ rest) ≡ false
not_different [] part rest among = absurd (cc)
not_different (x ∷ xs) part rest among = elim (or_cases _ _ among) [
  | inl same ↦
      let again : list_any (bytes_eq x) (xs ++ part ∷ rest) ≡ true = list_any-append (bytes_eq x) xs (part ∷ rest)
      ∙ or_right _ _ (or_left _ _ (turned part x same)) in
      and_left _ _ (not_from_true _ again)
  | inr later ↦ and_right _ _ (not_different xs part rest later)
]

-- ---- names of reports

-- the name of one more report
names_more : (front : List (List ℕ)) (name : List ℕ) → are_reports front ≡ true → is_report name ≡ true
    → list_any (bytes_eq name) front ≡ false → are_reports (front ++ name ∷ []) ≡ true
names_more front name all named other =
    let parts = and_parts _ _ all in
    and_from _ _ (list_all-append is_report front (name ∷ []) ∙ and_from _ _ parts.0 (and_from _ _ named refl))
    (different_more front name parts.1 other)

-- a part that is the name of no report, or of one that stood before, whatever stands behind it
no_names : (front : List (List ℕ)) (part : List ℕ) (rest : List (List ℕ))
    → (is_report part ≡ false) ⊎ (list_any (bytes_eq part) front ≡ true) → are_reports (front ++ part ∷ rest) ≡ false
no_names front part rest (inl other) = and_left _ _ (list_all-append is_report front (part ∷ rest)
    ∙ and_right _ _ (and_left _ _ other))
no_names front part rest (inr again) = and_right _ _ (not_different front part rest again)

-- a name is among the parts where it stands behind them
gained : (front : List (List ℕ)) (name : List ℕ) → bytes_eq name name ≡ true
    → list_any (bytes_eq name) (front ++ name ∷ []) ≡ true
gained front name same =
    list_any-append (bytes_eq name) front (name ∷ []) ∙ or_right _ _ (or_left _ _ same)

-- a name that differs from the one behind the parts is among them where it was
kept : (front : List (List ℕ)) (name other : List ℕ) → bytes_eq other name ≡ false
    → list_any (bytes_eq other) (front ++ name ∷ []) ≡ list_any (bytes_eq other) front
kept front name other differs =
    list_any-append (bytes_eq other) front (name ∷ [])
    ∙ ap (λ b. list_any (bytes_eq other) front || b) (or_from _ _ differs refl)
    ∙ or-false (list_any (bytes_eq other) front)

-- `totals` behind others
totals_behind : (front : List (List ℕ)) → reports_among (front ++ totals_name ∷ [])
    ≡ record (reports_among front) { totals = true }
totals_behind front =
    rw (
      gained front totals_name refl,
      kept front totals_name heights_name refl,
      kept front totals_name layers_name refl,
    ) refl

-- `heights` behind others
heights_behind : (front : List (List ℕ)) → reports_among (front ++ heights_name ∷ [])
    ≡ record (reports_among front) { heights = true }
heights_behind front =
    rw (
      kept front heights_name totals_name refl,
      gained front heights_name refl,
      kept front heights_name layers_name refl,
    ) refl

-- `layers` behind others
layers_behind : (front : List (List ℕ)) → reports_among (front ++ layers_name ∷ [])
    ≡ record (reports_among front) { layers = true }
layers_behind front =
    rw (
      kept front layers_name totals_name refl,
      kept front layers_name heights_name refl,
      gained front layers_name refl,
    ) refl

-- ---- part by part

-- the parts before a place are names of reports, each at most once, and these reports are asked for
pub record HasNamed (word : List ℕ) (n : ℕ) (reports : Reports) : Type 0 where
  pub names : are_reports (take n (comma_parts word)) ≡ true
  pub asked : reports ≡ reports_among (take n (comma_parts word))

-- a name that didn't stand before
named_more : (word : List ℕ) (n : ℕ) (reports after : Reports) (part name : List ℕ) → HasNamed word n reports
    → n < length (comma_parts word) → part ≡ get_or (comma_parts word) n part → bytes_eq part name ≡ true
    → is_report name ≡ true → list_any (bytes_eq name) (take n (comma_parts word)) ≡ false
    → after ≡ reports_among (take n (comma_parts word) ++ name ∷ []) → HasNamed word (n + 1) after
named_more word n reports after part name has within is same named other asked =
    let parts : take (n + 1) (comma_parts word) ≡ take n (comma_parts word) ++ name ∷ [] =
    take_more (comma_parts word) n part within
    ∙ ap (λ p. take n (comma_parts word) ++ p ∷ []) (sym is ∙ (bytes_eq-Decides part name).0 same) in
    record {
      names = ap are_reports parts ∙ names_more (take n (comma_parts word)) name has.names named other;
      asked = asked ∙ sym (ap reports_among parts);
    }

-- `totals`, where it didn't stand before
pub totals_more : (word : List ℕ) (n : ℕ) (reports : Reports) (part : List ℕ) → HasNamed word n reports
    → n < length (comma_parts word) → part ≡ get_or (comma_parts word) n part → bytes_eq part totals_name ≡ true
    → reports.totals ≡ false → HasNamed word (n + 1) (record reports { totals = true })
totals_more word n reports part has within is same fresh =
    named_more word n reports (record reports { totals = true }) part totals_name has within is same refl
    (sym (ap (λ r. r.totals) has.asked) ∙ fresh)
    (ap (λ (r : Reports). record r { totals = true }) has.asked ∙ sym (totals_behind (take n (comma_parts word))))

-- `heights`, where it didn't stand before
pub heights_more : (word : List ℕ) (n : ℕ) (reports : Reports) (part : List ℕ) → HasNamed word n reports
    → n < length (comma_parts word) → part ≡ get_or (comma_parts word) n part → bytes_eq part heights_name ≡ true
    → reports.heights ≡ false → HasNamed word (n + 1) (record reports { heights = true })
heights_more word n reports part has within is same fresh =
    named_more word n reports (record reports { heights = true }) part heights_name has within is same refl
    (sym (ap (λ r. r.heights) has.asked) ∙ fresh)
    (ap (λ (r : Reports). record r { heights = true }) has.asked ∙ sym (heights_behind (take n (comma_parts word))))

-- `layers`, where it didn't stand before
pub layers_more : (word : List ℕ) (n : ℕ) (reports : Reports) (part : List ℕ) → HasNamed word n reports
    → n < length (comma_parts word) → part ≡ get_or (comma_parts word) n part → bytes_eq part layers_name ≡ true
    → reports.layers ≡ false → HasNamed word (n + 1) (record reports { layers = true })
layers_more word n reports part has within is same fresh =
    named_more word n reports (record reports { layers = true }) part layers_name has within is same refl
    (sym (ap (λ r. r.layers) has.asked) ∙ fresh)
    (ap (λ (r : Reports). record r { layers = true }) has.asked ∙ sym (layers_behind (take n (comma_parts word))))

-- all parts are names
pub all_named : (word : List ℕ) (n : ℕ) (reports : Reports) → HasNamed word n reports
    → length (comma_parts word) ≤ n → reports_in word ≡ Some reports
all_named word n reports has past =
    let whole : take n (comma_parts word) ≡ comma_parts word = take_all n (comma_parts word) past in
    let names : are_reports (comma_parts word) ≡ true = ap are_reports (sym whole) ∙ has.names in
    ap (λ b. if b then Some (reports_among (comma_parts word)) else None) names
    ∙ ap Some (sym (has.asked ∙ ap reports_among whole))

-- ---- a part that decides

-- where one is the name of no report, or of one that stood before, the word is no value
refused_at : (word : List ℕ) (n : ℕ) (part : List ℕ) → n < length (comma_parts word)
    → part ≡ get_or (comma_parts word) n part
    → (is_report part ≡ false) ⊎ (list_any (bytes_eq part) (take n (comma_parts word)) ≡ true) → reports_in word ≡ None
refused_at word n part within is cause =
    let parts = comma_parts word in
    let whole : parts ≡ take n parts ++ part ∷ drop (n + 1) parts =
    sym (take-append-drop n parts) ∙ ap (λ l. take n parts ++ l) (drop_more parts n part within
    ∙ ap (λ p. p ∷ drop (n + 1) parts) (sym is)) in
    ap (λ b. if b then Some (reports_among parts) else None)
    (ap are_reports whole ∙ no_names (take n parts) part (drop (n + 1) parts) cause)

-- a part is no such name, or it is, and stood before
abbrev pub IsPast : List ℕ → List ℕ → Bool → Type 0
IsPast part name stood = (bytes_eq part name ≡ false) ⊎ ((bytes_eq part name ≡ true) × (stood ≡ true))

-- a part that is the name of a report that stood before
named_again : (word : List ℕ) (n : ℕ) (part name : List ℕ) → n < length (comma_parts word)
    → part ≡ get_or (comma_parts word) n part → bytes_eq part name ≡ true
    → list_any (bytes_eq name) (take n (comma_parts word)) ≡ true → reports_in word ≡ None
named_again word n part name within is same stood =
    refused_at word n part within is (inr (ap (λ p. list_any (bytes_eq p) (take n (comma_parts word)))
    ((bytes_eq-Decides part name).0 same) ∙ stood))

-- a part that is not the name of a report that is still to be named
pub not_fresh : (word : List ℕ) (n : ℕ) (reports : Reports) (part : List ℕ) → HasNamed word n reports
    → n < length (comma_parts word) → part ≡ get_or (comma_parts word) n part
    → IsPast part totals_name reports.totals → IsPast part heights_name reports.heights
    → IsPast part layers_name reports.layers → reports_in word ≡ None
not_fresh word n reports part has within is (inr (same, stood)) heights layers =
    named_again word n part totals_name within is same (sym (ap (λ r. r.totals) has.asked) ∙ stood)
not_fresh word n reports part has within is (inl totals) (inr (same, stood)) layers =
    named_again word n part heights_name within is same (sym (ap (λ r. r.heights) has.asked) ∙ stood)
not_fresh word n reports part has within is (inl totals) (inl heights) (inr (same, stood)) =
    named_again word n part layers_name within is same (sym (ap (λ r. r.layers) has.asked) ∙ stood)
not_fresh word n reports part has within is (inl totals) (inl heights) (inl layers) =
    refused_at word n part within is (inl (or_from _ _ totals (or_from _ _ heights (or_from _ _ layers refl))))
