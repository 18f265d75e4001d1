-- A text has at most one error, apart from a lack of memory. Of two lines one is before the other, and the lines up to
-- there may be there. Of two records that are not legal one is before the other, so that it is one of a legal log. The
-- same holds for the first that is not layered as it is written.
use Rattle.std.proofs.Common.{inl, inr, ◌≡◌, ◌≢◌, ℕ, zero, suc, ◌^◌, ◌<◌, ◌≤◌, List, [], ◌∷◌, ◌++◌, length, map, take, refl, sym, ap, ap₂, subst, ◌∙◌, arith}
use Rattle.std.specs.List.{AllByRecursion}
use Rattle.std.proofs.lemmas.Bool.{cases_lt}
use Rattle.std.proofs.lemmas.List.{length-map, length-take, take-map}
use Rattle.pop_model.specs.Families.{Family}
use Rattle.pop_model.specs.Instances.{Instance, IsInstance}
use Rattle.pop_model.specs.Logs.{LogRecord}
use Rattle.pop_model.specs.Runs.{start_of}
use Rattle.pop_log.specs.declared.names.Names.{Names}
use Rattle.pop_log.specs.declared.log_version.LogVersion.{LogVersion}
use Rattle.pop_log.specs.declared.log_version.LogVersion.TheVariants.{Layered}
use Rattle.pop_log.specs.declared.log_refusal.LogRefusal.{LogRefusal}
use Rattle.pop_log.specs.declared.log_refusal.LogRefusal.TheVariants.{Limit, Malformed, NotLegal, Unlayered, OutOfMemory}
use Rattle.pop_log.specs.Printed.{Printed, printed}
use Rattle.pop_log.specs.Candidates.{NumbersFit}
use Rattle.pop_log.specs.TextLines.{lines_with_ends}
use Rattle.pop_log.specs.Layers.{Placed}
use Rattle.pop_log.specs.Layered.{AreInLayers, IsFirstUnlayered}
use Rattle.pop_log.specs.LayeredTexts.{Written, written}
use Rattle.pop_log.specs.LogVersions.{line_of, MayBeWritten, AreLogLines, MayStart, MayStand}
use Rattle.pop_log.specs.Refusals.{IsMalformedAt, IsFirstIllegal, IsIllegalAt, IsUnlayeredAt, IsLogRefusal}
use Rattle.pop_log.proofs.LayeredTextsLemmas.{written_determines, written_records}
use Rattle.pop_log.proofs.LegalRecords.{next_legal}
use Rattle.pop_log.proofs.WrittenLines.{one_list, one_version}
use Rattle.pop_log.proofs.ExactReading.{IsWritten, follows_at, none_illegal}

-- what holds of each element holds of each of a front
each_taken : {X : Type 0} (P : X → Type 0) (k : ℕ) (xs : List X) → AllByRecursion P xs → AllByRecursion P (take k xs)
each_taken P zero xs all = tt
each_taken P (suc k) [] all = tt
each_taken P (suc k) (x ∷ xs) all = (all.0, each_taken P k xs all.1)

-- a shorter front is a front of the longer one
shorter_front : {X : Type 0} (k n : ℕ) (xs : List X) → k ≤ n → take k xs ≡ take k (take n xs)
shorter_front zero n xs less = refl
shorter_front (suc k) zero xs less = absurd (omega (arith, less))
shorter_front (suc k) (suc n) [] less = refl
shorter_front (suc k) (suc n) (x ∷ xs) less = ap (λ l. x ∷ l) (shorter_front k n xs (omega (arith, less)))

-- what may be the first lines of a text may be cut off
stands_shorter : (names : Names) (family : Family) (lines : List (List ℕ)) (k n : ℕ) → k ≤ n
    → MayStand names family (take n lines) → MayStand names family (take k lines)
stands_shorter names family lines zero n less stand = tt
stands_shorter names family lines (suc k) zero less stand = absurd (omega (arith, less))
stands_shorter names family [] (suc k) (suc n) less stand = tt
stands_shorter names family (l ∷ lines) (suc k) (suc n) less stand =
    let front = take k stand.ws in
    let size = length-take k stand.ws in
    let few = stand.few in
    let start : MayStart names family l (take k lines) = record {
      version = stand.version;
      said = stand.said;
      count = stand.count;
      head = stand.head;
      ws = front;
      lines_are = shorter_front k n lines (omega (arith, less)) ∙ ap (take k) stand.lines_are
          ∙ take-map (line_of stand.version) k stand.ws;
      records = each_taken (MayBeWritten names family stand.version) k stand.ws stand.records;
      few = omega (arith, size, few);
    } in
    start

-- a line isn't the first that can't stand there where a later one is
none_before : (names : Names) (family : Family) (text : List ℕ) (l m : ℕ) → IsMalformedAt names family text l
    → IsMalformedAt names family text m → l < m → ⊥
none_before names family text l m first other less =
    let (k, is, within, stand) = other.place in
    first.bad (omega (arith, less, is, within))
    (stands_shorter names family (lines_with_ends text) l k (omega (arith, less, is)) stand)

-- of two ways to cut a list at an element the shorter front ends before the other's end
front_of : {X : Type 0} (a b : List X) (p q : X) (r s : List X) → a ++ p ∷ r ≡ b ++ q ∷ s → length a < length b
    → (t : List X) × (b ≡ a ++ p ∷ t)
front_of [] [] p q r s same less = absurd (omega (arith, less))
front_of [] (y ∷ b) p q r s same less = let first : p ≡ y = cc in (b, ap (λ x. x ∷ b) (sym first))
front_of (x ∷ a) [] p q r s same less = absurd (omega (arith, less))
front_of (x ∷ a) (y ∷ b) p q r s same less =
    let first : x ≡ y = cc in
    let rest : a ++ p ∷ r ≡ b ++ q ∷ s = cc in
    let (t, is) = front_of a b p q r s rest (omega (arith, less)) in
    (t, ap₂ (λ z l. z ∷ l) (sym first) is)

module _ (names : Names) (i : Instance) (is : IsInstance i) (numbers : NumbersFit i.family) (text : List ℕ) where
  -- lines are those of one list of written records
  same_written : (version other : LogVersion) (ws us : List Written)
      → AreLogLines names i.family version (lines_with_ends text) ws
      → AreLogLines names i.family other (lines_with_ends text) us → ws ≡ us
  same_written version other ws us are are' =
      let lines = lines_with_ends text in
      let one = one_version names i.family version other lines ws us are are' in
      one_list names i version lines ws us is numbers are
      (subst (λ v. AreLogLines names i.family v lines us) (sym one) are')

  -- a record isn't the first that isn't legal where a later one is
  none_legal : (ps : List Printed) (k n : ℕ) → IsFirstIllegal names i ps k → IsFirstIllegal names i ps n → k < n → ⊥
  none_legal ps k n first other less =
      let f = printed names i.family in
      let place = first.place in
      let place' = other.place in
      let size = length-map first.log f in
      let size' = length-map other.log f in
      let (t, front) = front_of (map f first.log) (map f other.log) first.p other.p first.rest other.rest
      (sym first.records_are ∙ other.records_are) (omega (arith, less, place, place', size, size')) in
      next_legal names i (start_of i) first.log other.log first.p t is first.legal other.legal front first.illegal

  -- nor one the first that isn't layered
  none_layered : (placed : List Placed) (k n : ℕ) → IsFirstUnlayered placed k → IsFirstUnlayered placed n → k < n → ⊥
  none_layered placed k n first other less =
      let place = first.place in
      let place' = other.place in
      let (t, front) = front_of first.front other.front first.p other.p first.rest other.rest
      (sym first.placed_are ∙ other.placed_are) (omega (arith, less, place, place')) in
      first.unlayered (follows_at [] first.front first.p t (subst (AreInLayers []) front other.in_layers))

  -- one record is the first that isn't legal
  one_illegal : (k n : ℕ) → IsIllegalAt names i text k → IsIllegalAt names i text n → k ≡ n
  one_illegal k n at at' =
      let same = same_written at.version at'.version at.ws at'.ws at.lines at'.lines in
      let first : IsFirstIllegal names i (map (λ (w : Written). w.1) at'.ws) k =
      subst (λ (ws : List Written). IsFirstIllegal names i (map (λ w. w.1) ws) k) same at.first in
      let ps = map (λ (w : Written). w.1) at'.ws in
      elim (cases_lt k n) [
        | inl less ↦ absurd (none_legal ps k n first at'.first less)
        | inr past ↦ elim (cases_lt n k) [
          | inl more ↦ absurd (none_legal ps n k at'.first first more)
          | inr within ↦ omega (arith, past, within)
        ]
      ]

  -- one record is the first that isn't layered as it is written
  one_unlayered : (k n : ℕ) → IsUnlayeredAt names i text k → IsUnlayeredAt names i text n → k ≡ n
  one_unlayered k n at at' =
      let f = written names i.family in
      let same : at.placed ≡ at'.placed =
      written_determines names i is (start_of i) at.placed at'.placed at.legal at'.legal
      (same_written Layered Layered (map f at.placed) (map f at'.placed) at.lines at'.lines) in
      let first : IsFirstUnlayered at'.placed k = subst (λ l. IsFirstUnlayered l k) same at.first in
      elim (cases_lt k n) [
        | inl less ↦ absurd (none_layered at'.placed k n first at'.first less)
        | inr past ↦ elim (cases_lt n k) [
          | inl more ↦ absurd (none_layered at'.placed n k at'.first first more)
          | inr within ↦ omega (arith, past, within)
        ]
      ]

  -- where a record isn't legal, all aren't those of a legal log
  legal_or_not : (k n : ℕ) → length text ≤ 2 ^ 28 → IsIllegalAt names i text k → IsUnlayeredAt names i text n → ⊥
  legal_or_not k n short at at' =
      let log : List LogRecord = map (λ (p : Placed). p.0) at'.placed in
      let of : IsWritten names i text log Layered (map (written names i.family) at'.placed) = record {
        short = short;
        legal = at'.legal;
        lines = at'.lines;
        printed_are = written_records names i.family at'.placed;
      } in
      none_illegal names i is numbers text log Layered (map (written names i.family) at'.placed) of k at

  -- one line is the first that can't stand there
  one_line : (l m : ℕ) → IsMalformedAt names i.family text l → IsMalformedAt names i.family text m → l ≡ m
  one_line l m at at' = elim (cases_lt l m) [
    | inl less ↦ absurd (none_before names i.family text l m at at' less)
    | inr past ↦ elim (cases_lt m l) [
      | inl more ↦ absurd (none_before names i.family text m l at' at more)
      | inr within ↦ omega (arith, past, within)
    ]
  ]

  -- one refusal
  pub one_refusal : (a b : LogRefusal) → a ≢ OutOfMemory → b ≢ OutOfMemory → IsLogRefusal names i text a
      → IsLogRefusal names i text b → a ≡ b
  one_refusal OutOfMemory b some some' h h' = absurd (some refl)
  one_refusal a OutOfMemory some some' h h' = absurd (some' refl)
  one_refusal Limit Limit some some' h h' = refl
  one_refusal Limit (Malformed m) some some' h (short, at) = absurd (omega (arith, h, short))
  one_refusal Limit (NotLegal n) some some' h (short, at) = absurd (omega (arith, h, short))
  one_refusal Limit (Unlayered n) some some' h (short, at) = absurd (omega (arith, h, short))
  one_refusal (Malformed l) Limit some some' (short, at) h = absurd (omega (arith, h, short))
  one_refusal (Malformed l) (Malformed m) some some' (short, at) (short', at') = ap Malformed (one_line l m at at')
  one_refusal (Malformed l) (NotLegal n) some some' (short, at) (short', at') =
      absurd (at.outside (at'.version, at'.ws, at'.lines))
  one_refusal (Malformed l) (Unlayered n) some some' (short, at) (short', at') =
      absurd (at.outside (Layered, map (written names i.family) at'.placed, at'.lines))
  one_refusal (NotLegal k) Limit some some' (short, at) h = absurd (omega (arith, h, short))
  one_refusal (NotLegal k) (Malformed m) some some' (short, at) (short', at') =
      absurd (at'.outside (at.version, at.ws, at.lines))
  one_refusal (NotLegal k) (NotLegal n) some some' (short, at) (short', at') = ap NotLegal (one_illegal k n at at')
  one_refusal (NotLegal k) (Unlayered n) some some' (short, at) (short', at') =
      absurd (legal_or_not k n short at at')
  one_refusal (Unlayered k) Limit some some' (short, at) h = absurd (omega (arith, h, short))
  one_refusal (Unlayered k) (Malformed m) some some' (short, at) (short', at') =
      absurd (at'.outside (Layered, map (written names i.family) at.placed, at.lines))
  one_refusal (Unlayered k) (NotLegal n) some some' (short, at) (short', at') =
      absurd (legal_or_not n k short at' at)
  one_refusal (Unlayered k) (Unlayered n) some some' (short, at) (short', at') = ap Unlayered (one_unlayered k n at at')
