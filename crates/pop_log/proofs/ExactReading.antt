-- The text of a legal log is not rejected. It has the lines of its records, which may be written, so no line is
-- malformed. Suppose that one of its records is not legal. What is printed of legal records determines them, so the
-- records before it are those of the log, and it is the log's next, which is legal. In version 2 the records with
-- their layers are those that were written, so none is the first that is not layered.
use Rattle.std.proofs.Common.{inl, inr, ◌≡◌, ℕ, ◌^◌, ◌≤◌, List, [], ◌∷◌, ◌++◌, length, map, flat_map, refl, sym, ap, ap₂, subst, ◌∙◌, arith, append_assoc}
use Rattle.std.specs.List.{AllByRecursion}
use Rattle.std.proofs.lemmas.List.{length-map, append-nil}
use Rattle.pop_model.specs.Families.{Family}
use Rattle.pop_model.specs.Instances.{Instance, IsInstance}
use Rattle.pop_model.specs.Logs.{LogRecord, IsLegal}
use Rattle.pop_model.specs.Runs.{start_of}
use Rattle.pop_log.specs.declared.names.Names.{Names}
use Rattle.pop_log.specs.declared.log_version.LogVersion.{LogVersion}
use Rattle.pop_log.specs.declared.log_version.LogVersion.TheVariants.{Ordered, Layered}
use Rattle.pop_log.specs.declared.log_refusal.LogRefusal.{LogRefusal}
use Rattle.pop_log.specs.declared.log_refusal.LogRefusal.TheVariants.{Limit, Malformed, NotLegal, Unlayered, OutOfMemory}
use Rattle.pop_log.specs.Printed.{printed, MayBePrinted}
use Rattle.pop_log.specs.Candidates.{NumbersFit}
use Rattle.pop_log.specs.TextLines.{lines_with_ends}
use Rattle.pop_log.specs.Layers.{Placed}
use Rattle.pop_log.specs.Layered.{AreInLayers, FollowsInLayers}
use Rattle.pop_log.specs.LogTexts.{record_line, IsLogText}
use Rattle.pop_log.specs.LayeredTexts.{Written, written, IsReadLayered}
use Rattle.pop_log.specs.LogVersions.{head_of, line_of, MayBeWritten, AreLogLines, IsReadAs}
use Rattle.pop_log.specs.Refusals.{IsIllegalAt, IsUnlayeredAt, IsLogRefusal}
use Rattle.pop_log.proofs.PrintedLemmas.{one_reading}
use Rattle.pop_log.proofs.LayeredTextsLemmas.{map_of_map, written_determines, written_records}
use Rattle.pop_log.proofs.LegalRecords.{all_may, next_legal, placed_may}
use Rattle.pop_log.proofs.WrittenLines.{few_written, one_list, one_version, text_lines}

-- the lines of the text are those of these written records, which are printed of the log
pub record IsWritten (names : Names) (i : Instance) (text : List ℕ) (log : List LogRecord) (version : LogVersion)
    (ws : List Written) : Type 0 where
  pub short : length text ≤ 2 ^ 28
  pub legal : IsLegal i (start_of i) log
  pub lines : AreLogLines names i.family version (lines_with_ends text) ws
  pub printed_are : map (λ w. w.1) ws ≡ map (printed names i.family) log

-- a record as it is written in version 1
abbrev unlayered : Names → Family → LogRecord → Written
unlayered names family r = (0, printed names family r)

-- the text of a log by what is written in version 1
by_written : (names : Names) (family : Family) (log : List LogRecord)
    → flat_map (λ r. record_line (printed names family r)) log
    ≡ flat_map (line_of Ordered) (map (unlayered names family) log)
by_written names family [] = refl
by_written names family (r ∷ log) =
    ap (λ (l : List ℕ). record_line (printed names family r) ++ l) (by_written names family log)

-- what may be printed may be written in version 1
ordered_may : (names : Names) (family : Family) (log : List LogRecord)
    → AllByRecursion (MayBePrinted names family) (map (printed names family) log)
    → AllByRecursion (MayBeWritten names family Ordered) (map (unlayered names family) log)
ordered_may names family [] may = tt
ordered_may names family (r ∷ log) may =
    (record { layer = refl; record_is = may.0 }, ordered_may names family log may.1)

-- a record of a log that is layered as it stands follows those before it
pub follows_at : (before front : List Placed) (p : Placed) (rest : List Placed) → AreInLayers before (front ++ p ∷ rest)
    → FollowsInLayers (before ++ front) p
follows_at before [] p rest are = subst (λ l. FollowsInLayers l p) (sym (append-nil before)) are.0
follows_at before (q ∷ front) p rest are =
    subst (λ l. FollowsInLayers l p) (append_assoc before (q ∷ []) front)
    (follows_at (before ++ q ∷ []) front p rest are.1)

module _ (names : Names) (i : Instance) (is : IsInstance i) (numbers : NumbersFit i.family) (text : List ℕ)
    (log : List LogRecord) where
  -- a text of version 1
  ordered_written : IsLogText names i text log
      → IsWritten names i text log Ordered (map (unlayered names i.family) log)
  ordered_written of =
      let ws = map (unlayered names i.family) log in
      let size = length-map log (unlayered names i.family) in
      let text_is : text ≡ head_of Ordered (length ws) ++ flat_map (line_of Ordered) ws =
      of.text_is ∙ ap₂ (λ n (l : List ℕ). head_of Ordered n ++ l) (sym size) (by_written names i.family log) in
      let may = ordered_may names i.family log (all_may names i (start_of i) log is of.legal) in
      record {
        short = of.short;
        legal = of.legal;
        lines = text_lines names i Ordered text ws is numbers may (few_written Ordered text ws text_is of.short) text_is;
        printed_are = map_of_map (unlayered names i.family) (λ (w : Written). w.1) log;
      }

  -- a text of version 2
  layered_written : (of : IsReadLayered names i text log)
      → IsWritten names i text log Layered (map (written names i.family) of.placed)
  layered_written of =
      let f = written names i.family in
      let ws = map f of.placed in
      let few = few_written Layered text ws of.text_is of.short in
      let size = length-map of.placed f in
      let legal : IsLegal i (start_of i) (map (λ (p : Placed). p.0) of.placed) =
      subst (IsLegal i (start_of i)) of.records of.legal in
      let may = placed_may names i (start_of i) of.placed is legal of.in_layers (omega (arith, few, size)) in
      record {
        short = of.short;
        legal = of.legal;
        lines = text_lines names i Layered text ws is numbers may few of.text_is;
        printed_are = written_records names i.family of.placed ∙ ap (map (printed names i.family)) (sym of.records);
      }

  -- no record of a text is the first that isn't legal
  pub none_illegal : (version : LogVersion) (ws : List Written) → IsWritten names i text log version ws → (k : ℕ)
      → IsIllegalAt names i text k → ⊥
  none_illegal version ws of k illegal =
      let lines = lines_with_ends text in
      let one = one_version names i.family version illegal.version lines ws illegal.ws of.lines illegal.lines in
      let lines' : AreLogLines names i.family version lines illegal.ws =
      subst (λ v. AreLogLines names i.family v lines illegal.ws) (sym one) illegal.lines in
      let same = one_list names i version lines ws illegal.ws is numbers of.lines lines' in
      let first = illegal.first in
      next_legal names i (start_of i) first.log log first.p first.rest is first.legal of.legal
      (sym of.printed_are ∙ ap (map (λ (w : Written). w.1)) same ∙ first.records_are) first.illegal

  -- a text of legal records is too long, out of memory or unlayered, if it is refused
  refused : (version : LogVersion) (ws : List Written) → IsWritten names i text log version ws
      → ((k : ℕ) → IsUnlayeredAt names i text k → ⊥) → (refusal : LogRefusal) → IsLogRefusal names i text refusal
      → refusal ≡ OutOfMemory
  refused version ws of layered Limit long = let short = of.short in absurd (omega (arith, short, long))
  refused version ws of layered (Malformed l) (short, malformed) = absurd (malformed.outside (version, ws, of.lines))
  refused version ws of layered (NotLegal k) (short, illegal) = absurd (none_illegal version ws of k illegal)
  refused version ws of layered (Unlayered k) (short, unlayered) = absurd (layered k unlayered)
  refused version ws of layered OutOfMemory refusal = refl

  -- what a text is read as is written in it
  written_in : IsReadAs names i text log → (version : LogVersion) × (ws : List Written)
      × IsWritten names i text log version ws
  written_in (inl of) = (Ordered, map (unlayered names i.family) log, ordered_written of)
  written_in (inr of) = (Layered, map (written names i.family) of.placed, layered_written of)

  -- the text of a legal log is refused for want of memory alone
  pub exact_reading : IsReadAs names i text log → (refusal : LogRefusal) → IsLogRefusal names i text refusal
      → refusal ≡ OutOfMemory
  exact_reading (inl of) =
      refused Ordered (map (unlayered names i.family) log) (ordered_written of) (λ k record_k.
      let one : Ordered ≡ Layered = one_version names i.family Ordered Layered (lines_with_ends text)
      (map (unlayered names i.family) log) (map (written names i.family) record_k.placed) (ordered_written of).lines
      record_k.lines in
      cc (one))
  exact_reading (inr of) =
      refused Layered (map (written names i.family) of.placed) (layered_written of) (λ k record_k.
      let first = record_k.first in
      let f = written names i.family in
      let legal : IsLegal i (start_of i) (map (λ (p : Placed). p.0) of.placed) =
      subst (IsLegal i (start_of i)) of.records of.legal in
      let same = written_determines names i is (start_of i) of.placed record_k.placed legal record_k.legal
      (one_list names i Layered (lines_with_ends text) (map f of.placed) (map f record_k.placed) is numbers
      (layered_written of).lines record_k.lines) in
      first.unlayered (follows_at [] first.front first.p first.rest
      (subst (AreInLayers []) (same ∙ first.placed_are) of.in_layers)))

-- a text is read as one log
pub read_once : (names : Names) (i : Instance) → IsInstance i → NumbersFit i.family → (text : List ℕ)
    (log other : List LogRecord) → IsReadAs names i text log → IsReadAs names i text other → log ≡ other
read_once names i is numbers text log other as_log as_other =
    let (version, ws, of) = written_in names i is numbers text log as_log in
    let (version', us, of') = written_in names i is numbers text other as_other in
    let lines : List (List ℕ) = lines_with_ends text in
    let one : version ≡ version' = one_version names i.family version version' lines ws us of.lines of'.lines in
    let lines' : AreLogLines names i.family version lines us =
    subst (λ v. AreLogLines names i.family v lines us) (sym one) of'.lines in
    let same = one_list names i version lines ws us is numbers of.lines lines' in
    one_reading names i is (start_of i) log other of.legal of'.legal
    (sym of.printed_are ∙ ap (map (λ (w : Written). w.1)) same ∙ of'.printed_are)
