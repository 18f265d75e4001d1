-- The result after all lines of a log text were read: the lines joined are the text, so a text with lines that are all
-- read is that of its records.
use Rattle.std.proofs.Common.{inl, inr, ◌≡◌, ℕ, ◌^◌, ◌≤◌, true, false, None, Some, List, [], ◌∷◌, ◌++◌, length, map, zip, flat_map, sym, ap, ap₂, subst, refl, ◌∙◌, arith}
use Rattle.std.proofs.lemmas.List.{length-map}
use Rattle.pop_model.specs.Families.{Family}
use Rattle.pop_model.specs.Instances.{Instance}
use Rattle.pop_model.specs.Logs.{LogRecord, IsLegal}
use Rattle.pop_model.specs.Runs.{start_of}
use Rattle.pop_log.specs.declared.names.Names.{Names}
use Rattle.pop_log.specs.declared.progress.Progress.{Progress}
use Rattle.pop_log.specs.declared.log_version.LogVersion.{LogVersion}
use Rattle.pop_log.specs.declared.log_version.LogVersion.TheVariants.{Ordered, Layered}
use Rattle.pop_log.specs.declared.log_refusal.LogRefusal.{LogRefusal}
use Rattle.pop_log.specs.declared.log_refusal.LogRefusal.TheVariants.{Limit, Malformed, NotLegal, Unlayered, OutOfMemory}
use Rattle.pop_log.specs.Printed.{Printed, printed, words_line}
use Rattle.pop_log.specs.TextLines.{lines_with_ends}
use Rattle.pop_log.specs.Layered.{AreInLayers, IsFirstUnlayered}
use Rattle.pop_log.specs.LogTexts.{head_line, record_line, log_text, IsLogText}
use Rattle.pop_log.specs.LayeredTexts.{Written, written, layered_head, layered_line, written_text, IsReadLayered}
use Rattle.pop_log.specs.LogVersions.{head_of, line_of, AreLogLines, IsReadAs}
use Rattle.pop_log.specs.Refusals.{IsUnlayeredAt, IsLogRefusal}
use Rattle.pop_log.specs.RecordWords.{HasWords}
use Rattle.pop_log.specs.Reading.{HasRead, Takes, TakesLine, HasReadLines, AreSaid, IsLayerRefusal}
use Rattle.pop_log.proofs.JoinedLines.{join, join_front, join_lines, join_records}
use Rattle.pop_log.proofs.RecordWordsLemmas.{layer_fits, line_has_words, words_agree, words_make_line}

-- words that are a record's
pub takes_words : (names : Names) (i : Instance) (version : LogVersion) (l words : List ℕ) (y : ℕ) (s t : Progress)
    → HasWords version l y words → Takes names i words s t true → TakesLine names i version l s t (Some y)
takes_words names i version l words y s t has takes =
    let p : Printed = takes.0 in (
      (y, p),
      record { layer = layer_fits version l words y has; record_is = takes.1 },
      words_make_line version l words y p has takes.2,
      takes.3,
      refl,
    )

-- words that are none
pub takes_none : (names : Names) (i : Instance) (version : LogVersion) (l words : List ℕ) (y : ℕ) (s t : Progress)
    → HasWords version l y words → Takes names i words s t false → TakesLine names i version l s t None
takes_none names i version l words y s t has takes w may same =
    let own = line_has_words version l w may.layer same in
    takes w.1 may.record_is (words_agree version l y w.0 words (words_line w.1) has own).1

-- a line that has no words
pub takes_nothing : (names : Names) (i : Instance) (version : LogVersion) (l : List ℕ) (s t : Progress)
    → ((y : ℕ) (words : List ℕ) → HasWords version l y words → ⊥) → TakesLine names i version l s t None
takes_nothing names i version l s t none w may same =
    none w.0 (words_line w.1) (line_has_words version l w may.layer same)

-- the lines of version 1 are those of the printed records
ordered_lines : (ws : List Written) → map (line_of Ordered) ws ≡ map record_line (map (λ w. w.1) ws)
ordered_lines [] = refl
ordered_lines (w ∷ ws) = ap (λ (ls : List (List ℕ)). record_line w.1 ∷ ls) (ordered_lines ws)

-- what was written is what is printed of the log, with the layers that are said
written_back : (names : Names) (family : Family) (log : List LogRecord) (ws : List Written)
    → map (λ w. w.1) ws ≡ map (printed names family) log
    → map (written names family) (zip log (map (λ w. w.0) ws)) ≡ ws
written_back names family [] [] same = refl
written_back names family [] (w ∷ ws) same = absurd (cc)
written_back names family (r ∷ log) [] same = absurd (cc)
written_back names family (r ∷ log) (w ∷ ws) same =
    let one : w.1 ≡ printed names family r = cc in
    let rest : map (λ (u : Written). u.1) ws ≡ map (printed names family) log = cc in
    ap₂ (λ (x : Printed) (l : List Written). made w.0 x ∷ l) (sym one) (written_back names family log ws rest)
  where
    made : ℕ → Printed → Written
    made y p = (y, p)

-- the records of a log with as many layers
records_back : (log : List LogRecord) (ys : List ℕ) → length ys ≡ length log → map (λ p. p.0) (zip log ys) ≡ log
records_back [] ys same = refl
records_back (r ∷ log) [] same = absurd (omega (arith, same))
records_back (r ∷ log) (y ∷ ys) same = ap (λ (l : List LogRecord). r ∷ l) (records_back log ys (omega (arith, same)))

-- the lines of records of version 2 joined
layered_joined : (ws : List Written) → join (map layered_line ws) ≡ flat_map layered_line ws
unfolding join
layered_joined [] = refl
layered_joined (w ∷ ws) = ap (λ (l : List ℕ). layered_line w ++ l) (layered_joined ws)

-- the text of what was read in version 1
text_read : (names : Names) (i : Instance) (text : List ℕ) (log : List LogRecord) (ps : List Printed)
    → lines_with_ends text ≡ head_line (length ps) ∷ map record_line ps
    → ps ≡ map (printed names i.family) log → text ≡ log_text names i log
text_read names i text log ps lines read =
    sym (join_lines text)
    ∙ ap join (lines ∙ ap₂ (λ n ms. head_line n ∷ map record_line ms)
    (ap length read ∙ length-map log (printed names i.family)) read)
    ∙ join_front (head_line (length log)) (map record_line (map (printed names i.family) log))
    ∙ ap (λ (l : List ℕ). head_line (length log) ++ l) (join_records names i.family log)

-- there are as many layers said as records read
pub as_many : (names : Names) (i : Instance) (version : LogVersion) (text : List ℕ) (s : Progress) (said : List ℕ)
    → HasReadLines names i version text s said → s.stopped ≡ false → length said ≡ length s.log
as_many names i version text s said all legal =
    let read : map (λ (w : Written). w.1) all.ws ≡ map (printed names i.family) s.log =
    subst (HasRead names i (map (λ (w : Written). w.1) all.ws) s.log) legal all.read in
    let one = ap length read in
    let two = length-map all.ws (λ (w : Written). w.1) in
    let three = length-map s.log (printed names i.family) in
    let four = length-map all.ws (λ (w : Written). w.0) in
    let five = ap length all.said_are in
    omega (arith, one, two, three, four, five)

module _ (names : Names) (i : Instance) (text : List ℕ) (s : Progress) (said : List ℕ) where
  -- what was written is printed of the log
  read_printed : (version : LogVersion) (all : HasReadLines names i version text s said) → s.stopped ≡ false
      → map (λ w. w.1) all.ws ≡ map (printed names i.family) s.log
  read_printed version all legal =
      subst (HasRead names i (map (λ (w : Written). w.1) all.ws) s.log) legal all.read

  -- the log of a text of version 1
  ordered_read : length text ≤ 2 ^ 28 → HasReadLines names i Ordered text s said → s.stopped ≡ false
      → IsLogText names i text s.log
  ordered_read short all legal =
      let ps = map (λ (w : Written). w.1) all.ws in
      let size : length all.ws ≡ length ps = sym (length-map all.ws (λ (w : Written). w.1)) in
      record {
        short = short;
        legal = all.replayed.legal;
        text_is = text_read names i text s.log ps
            (all.lines.lines_are ∙ ap₂ (λ n ls. head_of Ordered n ∷ ls) size (ordered_lines all.ws))
            (read_printed Ordered all legal);
      }

  -- and with the layers that are said it is what was written
  written_are : (all : HasReadLines names i Layered text s said) → s.stopped ≡ false
      → map (written names i.family) (zip s.log said) ≡ all.ws
  written_are all legal =
      ap (λ ys. map (written names i.family) (zip s.log ys)) all.said_are
      ∙ written_back names i.family s.log all.ws (read_printed Layered all legal)

  -- the log of a text of version 2
  layered_read : length text ≤ 2 ^ 28 → HasReadLines names i Layered text s said → s.stopped ≡ false
      → AreInLayers [] (zip s.log said) → IsReadLayered names i text s.log
  layered_read short all legal layered =
      let lines : lines_with_ends text ≡ layered_head (length all.ws) ∷ map layered_line all.ws = all.lines.lines_are in
      record {
        placed = zip s.log said;
        short = short;
        records = sym (records_back s.log said (as_many names i Layered text s said all legal));
        legal = all.replayed.legal;
        in_layers = layered;
        text_is = sym (join_lines text) ∙ ap join lines
            ∙ join_front (layered_head (length all.ws)) (map layered_line all.ws)
            ∙ ap (λ (l : List ℕ). layered_head (length all.ws) ++ l) (layered_joined all.ws)
            ∙ ap written_text (sym (written_are all legal));
      }

  -- the log of a text
  pub read_as : (version : LogVersion) → length text ≤ 2 ^ 28 → HasReadLines names i version text s said
      → s.stopped ≡ false → AreSaid version s.log said → IsReadAs names i text s.log
  read_as Ordered short all legal are = inl (ordered_read short all legal)
  read_as Layered short all legal are = inr (layered_read short all legal are)

  -- a record isn't layered as it is said
  pub unlayered_read : (version : LogVersion) → HasReadLines names i version text s said → s.stopped ≡ false
      → (k : ℕ) → (version ≡ Layered) × IsFirstUnlayered (zip s.log said) k → IsUnlayeredAt names i text k
  unlayered_read version all legal k first =
      let all' : HasReadLines names i Layered text s said =
      subst (λ v. HasReadLines names i v text s said) first.0 all in
      record {
        placed = zip s.log said;
        lines = subst (AreLogLines names i.family Layered (lines_with_ends text)) (sym (written_are all' legal)) all'.lines;
        legal = subst (IsLegal i (start_of i))
            (sym (records_back s.log said (as_many names i Layered text s said all' legal))) all'.replayed.legal;
        first = first.1;
      }

  -- why a log is refused whose records are legal
  pub refusal_read : (version : LogVersion) → length text ≤ 2 ^ 28 → HasReadLines names i version text s said
      → s.stopped ≡ false → (refusal : LogRefusal) → IsLayerRefusal version s.log said refusal
      → IsLogRefusal names i text refusal
  refusal_read version short all legal Limit is = absurd is
  refusal_read version short all legal (Malformed l) is = absurd is
  refusal_read version short all legal (NotLegal k) is = absurd is
  refusal_read version short all legal (Unlayered k) is = (short, unlayered_read version all legal k is)
  refusal_read version short all legal OutOfMemory is = tt
