-- A run as it is printed: its end, and after it the requested parts of its log, by the layered log.
use Rattle.std.proofs.Common.{◌≡◌, ℕ, ◌++◌, Bool, true, false, ◌&&◌, ◌||◌, if◌then◌else◌, List, [], Option, None, Some, is_some, Result, Ok, Err, IfOk, length, zip, refl, sym, ap, ap₂, subst, ◌∙◌, append_assoc, true≢false, arith}
use Rattle.std.proofs.lemmas.Bool.{or_parts}
use Rattle.std.proofs.lemmas.List.{append-nil, length-map}
use Rattle.std.proofs.lemmas.List.Sorted.{length_permutation}
use Rattle.std.proofs.lemmas.Option.{none-some, same_Some}
use Rattle.pop_model.specs.Instances.{Instance, IsInstance}
use Rattle.pop_model.specs.Extremal.{IsExtremal}
use Rattle.pop_model.specs.Logs.{LogRecord, IsLegal, replay}
use Rattle.pop_model.specs.Runs.{IsEnd, IsStuckList, IsFirstEnd, start_of}
use Rattle.confluence_core.specs.Laws.{RunsToEnd}
use Rattle.confluence_core.specs.Runs.{IsRunOf}
use Rattle.confluence_core.specs.Stretches.{with_more}
use Rattle.confluence_core.specs.declared.run.Run.{Run}
use Rattle.confluence_core.proofs.Reaching.{unsuspected_end}
use Rattle.pop_log.specs.declared.names.Names.{Names}
use Rattle.pop_log.specs.Layers.{Placed}
use Rattle.pop_log.specs.Layered.{AreSorted, AreInLayers}
use Rattle.pop_log.proofs.UnitEvents.{family_cubes}
use Rattle.pop_log.proofs.LayeredLemmas.{zip_records}
use Rattle.pop_log.proofs.LayeredLaws.{layered_is_legal, placed_in_layers}
use Rattle.pop_words.specs.declared.reports.Reports.{Reports}
use Rattle.pop_watch.specs.Telling.{Watcher, log_told}
use Rattle.pop_print.specs.declared.facts.Facts.{Facts}
use Rattle.pop_print.specs.Output.{end_text}
use Rattle.told_runs.specs.declared.asked.Asked.{Asked}
use Rattle.told_runs.specs.declared.witness.LogText.{LogText}
use Rattle.told_runs.specs.Names.{names_for}
use Rattle.told_runs.specs.Reports.{reports_text, report_if, asks_report}
use Rattle.told_runs.specs.Witnesses.{IsWitness, witness_text}
use Rattle.told_runs.specs.Witnesses.Witness.{Unasked}
use Rattle.told_runs.specs.Tellings.{records_of, Continues, layered_text, LeadsToEnd, IsLogOf, TellsRecords, TellsLog, TellsRun, tells_watchers, looks_at_records, asks_for_log}
use Rattle.told_runs.specs.Outcomes.{AnswersBy, end_status}
use Rattle.told_runs.specs.Outcomes.Outcome.{Ended, Resampled}
use Rattle.told_runs.specs.Ends.{IsToldOfFirst, EndsWithin, IsEndOf, IsHistoryOf, IsHistoryWith}
use Rattle.told_runs.proofs.LayeredOrders.{layered_order}
use Rattle.told_runs.proofs.ToldOfFirst.{told_of_first}

-- a log that is kept is that of the pops
kept_same : (keeps : Bool) (log kept : List LogRecord) → Some kept ≡ with_more (if keeps then Some [] else None) log
    → log ≡ kept
kept_same true log kept is = sym (same_Some kept log is)
kept_same false log kept is = absurd (none-some kept (sym is))

-- and where none is kept, none is to be
unkept : (keeps : Bool) (log : List LogRecord) → None ≡ with_more (if keeps then Some [] else None) log
    → keeps ≡ false
unkept true log is = absurd (none-some log is)
unkept false log is = refl

-- the log of the pops by which a run came to its end
log_of : (i : Instance) (keeps : Bool) (run : Run) (of : IsRunOf i (start_of i) keeps run)
    → IsLogOf i run of.reached.leads.log
log_of i keeps run of =
    let leads = of.reached.leads in
    let end : IsEnd i run.end.cursors = unsuspected_end i run.end.cursors [] refl of.reached.can.suspects in
    record {
      leads = record {
        legal = leads.legal;
        end = subst (IsEnd i) leads.cursors_are end;
        stuck_list = subst (λ c. IsStuckList i c run.end.stuck) leads.cursors_are of.stuck_list;
      };
      cursors_are = leads.cursors_are;
      pops_are = omega (arith, leads.pops_are);
      kept = λ own is. kept_same keeps leads.log own (sym is ∙ leads.log_is);
    }

-- where no witness is asked for, none is told
unasked : (w : Option (ℕ × ℕ)) → is_some w ≡ false → (names : Names) (cursors : List ℕ) (log : List LogRecord)
    → IsWitness names w cursors log Unasked
unasked None none names cursors log = tt
unasked (Some asked) none names cursors log = absurd (true≢false none)

-- where no report is asked for, there is none
unreported : (asked : Reports) → asks_report asked ≡ false → (ws : List Watcher) → reports_text asked ws ≡ []
unreported asked none ws =
    let parts = or_parts asked.totals (asked.heights || asked.layers) none in
    let others = or_parts asked.heights asked.layers parts.1 in
    ap (λ a. (report_if a 1 ws ++ report_if asked.heights 2 ws) ++ report_if asked.layers 3 ws) parts.0
    ∙ ap₂ (λ a b. report_if a 2 ws ++ report_if b 3 ws) others.0 others.1

-- and so it is where the watchers aren't told
pub untold : (asked : Asked) → tells_watchers asked ≡ false → (ws : List Watcher) → reports_text asked.reports ws ≡ []
untold asked none ws = unreported asked.reports (or_parts asked.free (asks_report asked.reports) none).1 ws

-- where its records aren't looked at, nothing is told of a layered log behind its text
pub nothing_of_records : (asked : Asked) → looks_at_records asked ≡ false → (ws : List Watcher) (names : Names)
    (i : Instance) (log : List LogRecord) (missing : Bool) (text : List ℕ) → missing ≡ false → text ≡ []
    → TellsRecords asked ws names i log missing text
nothing_of_records asked none ws names i log missing text there empty =
    let parts = or_parts (is_some asked.witness) (tells_watchers asked) none in
    record {
      witness = Unasked;
      is = unasked asked.witness parts.0 names (replay (start_of i) log) log;
      missing_is = there;
      text_is = empty ∙ sym (untold asked parts.1 (log_told log ws));
    }

-- the layered log of a legal log is legal, with the same replay
pub in_order : (i : Instance) → IsInstance i → (log : List LogRecord) (placed : List Placed)
    → IsLegal i (start_of i) log → AreSorted log placed
    → IsLegal i (start_of i) (records_of placed)
    × (replay (start_of i) (records_of placed) ≡ replay (start_of i) log)
in_order i is log placed legal sorted =
    layered_is_legal i (family_cubes i.family is.family) (start_of i) log (records_of placed) legal
    (record { placed = placed; sorted = sorted; records = refl })

-- what is told of a log by the text of its layered log, and by what is told of that
pub told_log : (asked : Asked) (ws : List Watcher) (names : Names) (i : Instance) (log : List LogRecord)
    (placed : List Placed) (missing : Bool) (shown rest text : List ℕ) → AreSorted log placed
    → shown ≡ layered_text names i (if asked.log then Some placed else None)
    → TellsRecords asked ws names i (records_of placed) missing rest → text ≡ shown ++ rest
    → TellsLog asked ws names i log missing text
told_log asked ws names i log placed missing shown rest text sorted front t text_is =
    let kept : Option (List Placed) = if asked.log then Some placed else None in
    let reports : List ℕ = reports_text asked.reports (log_told (records_of placed) ws) in
    let witness : List ℕ = witness_text names i.family t.witness in
    record {
      placed = placed;
      sorted = sorted;
      telling = record { log = kept; witness = t.witness; reports = reports };
      is = record { log_is = refl; witness_is = t.is; reports_are = refl };
      missing_is = t.missing_is;
      text_is = text_is ∙ ap₂ (λ (a b : List ℕ). a ++ b) front t.text_is
          ∙ sym (append_assoc (layered_text names i kept) witness reports);
    }

-- it goes on behind the text that was at hand
pub told_behind : (asked : Asked) (ws : List Watcher) (names : Names) (i : Instance) (log : List LogRecord)
    (placed : List Placed) (missing : Bool) (before shown rest text : List ℕ) → AreSorted log placed
    → shown ≡ before ++ layered_text names i (if asked.log then Some placed else None)
    → TellsRecords asked ws names i (records_of placed) missing rest → text ≡ shown ++ rest
    → Continues before (TellsLog asked ws names i log missing) text
told_behind asked ws names i log placed missing before shown rest text sorted front t text_is =
    let own : List ℕ = layered_text names i (if asked.log then Some placed else None) in
    record {
      told = own ++ rest;
      says = told_log asked ws names i log placed missing own rest (own ++ rest) sorted refl t refl;
      text_is = text_is ∙ ap (λ l. l ++ rest) front ∙ append_assoc before own rest;
    }

-- what is told of the log that a run kept, behind the text that was at hand, is told of the run
pub kept_result : {E : Type 0} (asked : Asked) (ws : List Watcher) (names : Names) (i : Instance) (keeps : Bool)
    (run : Run) (log : List LogRecord) (before : List ℕ) (r : Result LogText E) → run.log ≡ Some log
    → IsRunOf i (start_of i) keeps run
    → IfOk r (λ t. Continues before (TellsLog asked ws names i log t.missing) t.bytes.items)
    → IfOk r (λ t. Continues before (TellsRun asked ws names i run t.missing) t.bytes.items)
kept_result asked ws names i keeps run log before (Ok t) is of on =
    let to = log_of i keeps run of in
    record {
      told = on.told;
      says = record {
        log = of.reached.leads.log;
        of = to;
        told = subst (λ l. TellsLog asked ws names i l t.missing on.told) (sym (to.kept log is)) on.says;
      };
      text_is = on.text_is;
    }
kept_result asked ws names i keeps run log before (Err e) is of on = tt

-- of a run that kept none, nothing is told behind it, since nothing of it is asked for
pub unkept_behind : (asked : Asked) (ws : List Watcher) (names : Names) (i : Instance) (run : Run) (before : List ℕ)
    → run.log ≡ None → IsRunOf i (start_of i) (asks_for_log asked) run
    → Continues before (TellsRun asked ws names i run false) before
unkept_behind asked ws names i run before is of =
    let leads = of.reached.leads in
    let log : List LogRecord = leads.log in
    let none = unkept (asks_for_log asked) log (sym is ∙ leads.log_is) in
    let parts = or_parts asked.log (looks_at_records asked) none in
    let order = layered_order log in
    let placed : List Placed = order.0 in
    record {
      told = [];
      says = record {
        log = log;
        of = log_of i (asks_for_log asked) run of;
        told = told_log asked ws names i log placed false [] [] [] order.1
            (rw parts.0 refl)
            (nothing_of_records asked parts.1 ws names i (records_of placed) false [] refl refl) refl;
      };
      text_is = sym (append-nil before);
    }

-- where the records aren't looked at, nothing is told of them
pub nothing_result : {E : Type 0} (asked : Asked) (ws : List Watcher) (names : Names) (i : Instance)
    (log : List LogRecord) (r : Result LogText E) → looks_at_records asked ≡ false → IfOk r (λ t. t.missing ≡ false)
    → IfOk r (λ t. t.bytes.items ≡ []) → IfOk r (λ t. TellsRecords asked ws names i log t.missing t.bytes.items)
nothing_result asked ws names i log (Ok t) none there empty =
    nothing_of_records asked none ws names i log t.missing t.bytes.items there empty
nothing_result asked ws names i log (Err e) none there empty = tt

-- the layered log has as many records
pub placed_size : (log : List LogRecord) (placed : List Placed) (sorted : AreSorted log placed) → length log ≡ length placed
placed_size log placed sorted =
    sym (ap (λ (l : List LogRecord). length l) (zip_records [] log sorted.layers sorted.are_layers))
    ∙ length-map (zip log sorted.layers) _
    ∙ sym (length_permutation (zip log sorted.layers) placed sorted.same_records)

-- a run is told: by the text of its end, and behind it what is told of its log
pub record IsToldSo (asked : Asked) (ws : List Watcher) (facts : Facts) (i : Instance) (run : Run) (status : ℕ)
    (out : List ℕ) : Type 0 where
  is : IsInstance i
  within : EndsWithin asked.pops run.end.pops
  first : IsExtremal i.family → IsFirstEnd i run.end.cursors run.end.pops run.end.stuck
  missing : Bool
  told : List ℕ
  says : TellsRun asked ws (names_for facts) i run missing told
  status_is : status ≡ (if asked.free && missing then 6 else end_status run.end.stuck)
  out_is : out ≡ end_text facts i run.end.cursors run.end.pops run.end.stuck ++ told

pub told_so : (asked : Asked) (ws : List Watcher) (facts : Facts) (i : Instance) (names : Names) (run : Run)
    (missing : Bool) (status : ℕ) (text out : List ℕ) → IsInstance i → EndsWithin asked.pops run.end.pops
    → IsRunOf i (start_of i) (asks_for_log asked) run → names ≡ names_for facts
    → text ≡ end_text facts i run.end.cursors run.end.pops run.end.stuck
    → Continues text (TellsRun asked ws names i run missing) out
    → status ≡ (if asked.free && missing then 6 else end_status run.end.stuck) → IsToldSo asked ws facts i run status out
told_so asked ws facts i names run missing status text out is within of names_are text_is on status_is = record {
  is = is;
  within = within;
  first = λ extremal. of.first extremal refl;
  missing = missing;
  told = on.told;
  says = subst (λ n. TellsRun asked ws n i run missing on.told) names_are on.says;
  status_is = status_is;
  out_is = on.text_is ∙ ap (λ l. l ++ on.told) text_is;
}

-- of an extremal instance that is told of the one-thread run
pub told_ended : {asked : Asked} {ws : List Watcher} {facts : Facts} {i : Instance} {run : Run} {status : ℕ}
    {out : List ℕ} → IsToldSo asked ws facts i run status out → asked.free ≡ false → asked.count ≡ None
    → IsExtremal i.family → AnswersBy (IsEndOf asked ws facts i) status out
told_ended {asked} {ws} {facts} {i} {run} so ordered once extremal =
    let t = so.says.told in
    let leads = so.says.of.leads in
    let end = so.first extremal in
    let runs : RunsToEnd i (start_of i) so.says.log = record { legal = leads.legal; end = leads.end } in
    let first : IsToldOfFirst asked ws (names_for facts) i t.telling =
    told_of_first asked ws (names_for facts) i (family_cubes i.family so.is.family) extremal so.says.log end.run.0 runs
    end.run.1 t.placed t.sorted t.telling t.is in (
      Ended facts i run.end.cursors run.end.pops run.end.stuck t.telling,
      (refl, refl, end, first, once, so.within),
      record {
        status_is = so.status_is ∙ ap (λ b. if b && so.missing then 6 else end_status run.end.stuck) ordered;
        out_is = so.out_is ∙ ap (λ l. end_text facts i run.end.cursors run.end.pops run.end.stuck ++ l) t.text_is;
      },
    )

-- and of the run itself where the order of pops is free, by its log
told_with : {asked : Asked} {ws : List Watcher} {facts : Facts} {i : Instance} {run : Run} {status : ℕ}
    {out : List ℕ} (so : IsToldSo asked ws facts i run status out) → asked.free ≡ true
    → AnswersBy (IsHistoryWith so.says.log asked ws facts i) status out
told_with {asked} {ws} {facts} {i} {run} so free =
    let t = so.says.told in
    let log = so.says.log in
    let to = so.says.of in
    let of = in_order i so.is log t.placed to.leads.legal t.sorted in
    let there : run.end.cursors ≡ replay (start_of i) (records_of t.placed) = to.cursors_are ∙ sym of.1 in
    let size : run.end.pops ≡ length t.placed = to.pops_are ∙ placed_size log t.placed t.sorted in
    let leads : LeadsToEnd i (records_of t.placed) run.end.stuck = record {
      legal = of.0;
      end = subst (IsEnd i) (sym of.1) to.leads.end;
      stuck_list = subst (λ c. IsStuckList i c run.end.stuck) (sym of.1) to.leads.stuck_list;
    } in
    let layered : AreInLayers [] t.placed = placed_in_layers i (family_cubes i.family so.is.family) (start_of i) log to.leads.legal
    t.placed t.sorted in (
      Resampled facts i t.placed run.end.stuck t.telling,
      ((refl, refl, leads, layered, t.is, subst (EndsWithin asked.pops) size so.within), t.sorted),
      record {
        status_is = so.status_is ∙ ap₂ (λ a b. if a && b then 6 else end_status run.end.stuck) free t.missing_is;
        out_is = so.out_is
            ∙ ap₂ (λ (a b : List ℕ). a ++ b) (ap₂ (λ c n. end_text facts i c n run.end.stuck) there size) t.text_is;
      },
    )

pub told_history : {asked : Asked} {ws : List Watcher} {facts : Facts} {i : Instance} {run : Run} {status : ℕ}
    {out : List ℕ} → IsToldSo asked ws facts i run status out → asked.free ≡ true
    → AnswersBy (IsHistoryOf asked ws facts i) status out
told_history so free = let (o, comes, tells) = told_with so free in (o, comes.0, tells)

-- which is the one that it kept
pub told_history_with : {asked : Asked} {ws : List Watcher} {facts : Facts} {i : Instance} {run : Run} {status : ℕ}
    {out : List ℕ} → IsToldSo asked ws facts i run status out → asked.free ≡ true → (log : List LogRecord)
    → run.log ≡ Some log → AnswersBy (IsHistoryWith log asked ws facts i) status out
told_history_with {asked} {ws} {facts} {i} {run} {status} {out} so free log is =
    subst (λ l. AnswersBy (IsHistoryWith l asked ws facts i) status out) (so.says.of.kept log is) (told_with so free)
