-- The events of what is made from an input have cubes. They are extremal if all orders of pops lead to one end, except
-- for rounds. The one-thread run of an extremal instance has one end, and so has each sample of a batch. Its runs to
-- an end by any orders have one layered log, so that they print the same. Rounds of an instance have one result. A run
-- of an extremal instance that stopped while an event is poppable has no end within as many pops. If the order of pops
-- is free, another outcome beside a pause is a run of the same instance.
use Rattle.std.proofs.Common.{◌≢◌, ℕ, List, sym, subst, ◌≡◌, ◌∙◌, ◌<◌, ◌≤◌, length, None, Some, refl, arith}
use Rattle.std.proofs.lemmas.Option.{none-some, same_Some}
use Rattle.std.proofs.lemmas.List.{length-map}
use Rattle.pop_model.specs.Instances.{Instance}
use Rattle.pop_model.specs.Extremal.{IsExtremal}
use Rattle.pop_model.specs.Runs.{IsStuckList, start_of}
use Rattle.pop_model.proofs.OneRun.{SameEnd, one_first_end, one_stuck_list}
use Rattle.pop_model.specs.Logs.{replay, LogRecord}
use Rattle.confluence_core.specs.Laws.{RunsToEnd}
use Rattle.prs_rounds.specs.Laws.{SameRoundsEnd}
use Rattle.prs_rounds.proofs.OneRun.{one_rounds_end}
use Rattle.pop_batch.specs.Batches.{AreEnds}
use Rattle.pop_batch.proofs.OneBatch.{one_batch}
use Rattle.pop_words.specs.declared.command.Command.{Command}
use Rattle.pop_words.specs.declared.command.Command.TheVariants.{Resample, Rounds}
use Rattle.pop_words.specs.declared.job.Job.{Job}
use Rattle.pop_log.proofs.UnitEvents.{HaveCubes, family_cubes}
use Rattle.pop_log.proofs.LayeredLaws.{one_layered_log}
use Rattle.pop_log.proofs.SortedInLayers.{sorted_in_layers}
use Rattle.pop_log.specs.Layers.{Placed}
use Rattle.pop_watch.specs.Telling.{Watcher}
use Rattle.run_cert.proofs.Resumed.{open_shorter}
use Rattle.pop_print.specs.declared.facts.Facts.{Facts}
use Rattle.job_subjects.specs.declared.wanted.Wanted.{Wanted}
use Rattle.job_subjects.specs.Subjects.{Subject, IsSubjectOf}
use Rattle.job_subjects.specs.Made.{IsMade}
use Rattle.job_subjects.proofs.MadeExtremal.{HasExtremal, subject_extremal, made_extremal}
use Rattle.told_runs.specs.declared.asked.Asked.{Asked}
use Rattle.told_runs.specs.Names.{names_for}
use Rattle.told_runs.specs.Tellings.{records_of, IsToldOf, LeadsToEnd}
use Rattle.told_runs.specs.Outcomes.{Outcome}
use Rattle.told_runs.specs.Outcomes.Outcome.{Ended, Batched, Rounded, Resampled, Paused}
use Rattle.told_runs.specs.Ends.{IsEndOf, IsRoundsEndOf, IsHistoryOf, EndsWithin}
use Rattle.told_runs.specs.Asking.{asked_by}
use Rattle.told_runs.proofs.ToldOfFirst.{first_runs}
use Rattle.top_call.specs.Pauses.{IsPause, Pauses}
use Rattle.top_call.specs.Answers.{wanted_by, EndsAs}
use Rattle.top_call.proofs.PauseWords.{paused_no_rounds}
use Rattle.top_call.proofs.ReadCases.{paused_as}
use Rattle.answer_laws.specs.Orders.{HasOneEnd}
use Rattle.answer_laws.proofs.SubjectKinds.{subject_family}
use Rattle.answer_laws.specs.Laws.{ReportAlike, AreHistories, EndsAndPauses}
use Rattle.answer_laws.proofs.ToldLogs.{one_first_telling, one_telling}

-- ---- the events of what is made

-- the events of what is made have cubes
pub made_cubes : (w : Wanted) (text : List ℕ) (facts : Facts) (i : Instance) → IsMade w text facts i
    → HaveCubes i.family
made_cubes w text facts i made =
    subst (λ (j : Instance). HaveCubes j.family) (sym made.over.instance_is)
    (family_cubes made.subject.family (subject_family w.command w text made.subject made.are).family)

-- they are extremal where no order of pops is free
pub made_unfree : (w : Wanted) (text : List ℕ) (facts : Facts) (i : Instance) → w.command ≢ Resample
    → w.command ≢ Rounds → IsMade w text facts i → IsExtremal i.family
made_unfree w text facts i ordered other made =
    made_extremal (IsSubjectOf w.command w text) w.origin w.count facts i
    (λ s. subject_extremal w.command w text s ordered other) made

-- and where all orders lead to one end
subject_ordered : (k : Command) (w : Wanted) (text : List ℕ) (s : Subject) → HasOneEnd k text → k ≢ Rounds
    → IsSubjectOf k w text s → HasExtremal s
subject_ordered Resample w text s ordered other h =
    subst HasExtremal (sym h.are.is) (ordered h.formula h.spelled h.are.events h.are.of_formula)
subject_ordered k w text s ordered other h = subject_extremal k w text s (λ is. absurd (cc)) other h

pub made_ordered : (w : Wanted) (text : List ℕ) (facts : Facts) (i : Instance) → HasOneEnd w.command text
    → w.command ≢ Rounds → IsMade w text facts i → IsExtremal i.family
made_ordered w text facts i ordered other made =
    made_extremal (IsSubjectOf w.command w text) w.origin w.count facts i
    (λ s. subject_ordered w.command w text s ordered other) made

-- ---- an end, or a batch

-- what comes so is one outcome
abbrev pub AreOne : (Outcome → Type 0) → (Outcome → Type 0) → Type 0
AreOne Comes Others = (o p : Outcome) → Comes o → Others p → o ≡ p

-- one thing comes of an extremal instance, with watchers that report alike
pub one_end : (asked : Asked) (ws vs : List Watcher) (facts : Facts) (i : Instance) → ReportAlike asked.reports ws vs
    → HaveCubes i.family → IsExtremal i.family → AreOne (IsEndOf asked ws facts i) (IsEndOf asked vs facts i)
one_end asked ws vs facts i alike cubes extremal (Ended t j c n s a) (Ended u k d m r b) h h' =
    let (told, same, end, of, once, within) = h in
    let (told', same', end', of', once', within') = h' in
    let ends : SameEnd c d n m s r = one_first_end i extremal c d n m s r end end' in
    let tellings : a ≡ b = one_first_telling asked ws vs (names_for facts) i cubes extremal a b alike of of' in
    let cursors = ends.cursors in
    let pops = ends.pops in
    let stuck = ends.stuck in
    cc
one_end asked ws vs facts i alike cubes extremal (Ended t j c n s a) (Batched u k ends) h h' =
    absurd (none-some _ (sym h.4 ∙ h'.2.asked_is))
one_end asked ws vs facts i alike cubes extremal (Batched t j ends) (Ended u k d m r b) h h' =
    absurd (none-some _ (sym h'.4 ∙ h.2.asked_is))
one_end asked ws vs facts i alike cubes extremal (Batched t j ends) (Batched u k others) h h' =
    let (told, same, batch) = h in
    let (told', same', batch') = h' in
    let count : batch.count ≡ batch'.count = same_Some _ _ (sym batch.asked_is ∙ batch'.asked_is) in
    let one : ends ≡ others =
    one_batch i batch'.count ends others extremal (subst (λ n. AreEnds i n ends) count batch.are) batch'.are in
    cc
one_end asked ws vs facts i alike cubes extremal (Ended t j c n s a) p h h' = absurd h'
one_end asked ws vs facts i alike cubes extremal (Batched t j ends) p h h' = absurd h'
one_end asked ws vs facts i alike cubes extremal o p h h' = absurd h

-- ---- rounds

-- rounds of one instance have one result
pub one_rounds : (facts : Facts) (i : Instance) → AreOne (IsRoundsEndOf facts i) (IsRoundsEndOf facts i)
one_rounds facts i (Rounded t j c n s v) (Rounded u k d m r w) h h' =
    let (told, same, end) = h in
    let (told', same', end') = h' in
    let ends : SameRoundsEnd c d n m s r v w = one_rounds_end i c d n m s r v w end end' in
    let cursors = ends.cursors in
    let rounds = ends.rounds in
    let stuck = ends.stuck in
    let short = ends.short in
    cc
one_rounds facts i (Rounded t j c n s v) p h h' = absurd h'
one_rounds facts i o p h h' = absurd h

-- ---- histories

-- two runs of one instance
pub two_histories : (asked : Asked) (ws vs : List Watcher) (facts : Facts) (i : Instance) (o p : Outcome)
    → IsHistoryOf asked ws facts i o → IsHistoryOf asked vs facts i p → AreHistories o p
two_histories asked ws vs facts i (Resampled t j l s a) (Resampled u k m r b) h h' = (
  h.0 ∙ sym h'.0,
  h.1 ∙ sym h'.1,
  subst (λ n. LeadsToEnd n (records_of l) s) (sym h.1) h.2,
  subst (λ n. LeadsToEnd n (records_of m) r) (sym h.1) h'.2,
)
two_histories asked ws vs facts i (Resampled t j l s a) p h h' = absurd h'
two_histories asked ws vs facts i o p h h' = absurd h

-- on an extremal instance the log in layers is one, and so is what is told of it
pub one_history : (asked : Asked) (ws vs : List Watcher) (facts : Facts) (i : Instance)
    → ReportAlike asked.reports ws vs → HaveCubes i.family → IsExtremal i.family
    → AreOne (IsHistoryOf asked ws facts i) (IsHistoryOf asked vs facts i)
one_history asked ws vs facts i alike cubes extremal (Resampled t j l s a) (Resampled u k m r b) h h' =
    let (told, same, leads, layered, of, within) = h in
    let (told', same', leads', layered', of', within') = h' in
    let logs : l ≡ m = one_layered_log i cubes extremal (start_of i) (records_of l) (records_of m)
    (record { legal = leads.legal; end = leads.end }) (record { legal = leads'.legal; end = leads'.end }) l m
    (sorted_in_layers l layered) (sorted_in_layers m layered') in
    let tellings : a ≡ b = one_telling asked ws vs (names_for facts) i m a b alike leads'.legal
    (subst (λ n. IsToldOf asked ws (names_for facts) i n a) logs of) of' in
    let lists : s ≡ r = one_stuck_list i (replay (start_of i) (records_of m)) s r
    (subst (λ n. IsStuckList i (replay (start_of i) (records_of n)) s) logs leads.stuck_list) leads'.stuck_list in
    cc
one_history asked ws vs facts i alike cubes extremal (Resampled t j l s a) p h h' = absurd h'
one_history asked ws vs facts i alike cubes extremal o p h h' = absurd h

-- ---- pauses

-- a pause has fewer pops than each run to an end
pub pause_shorter : (i : Instance) → IsExtremal i.family → (pops : ℕ) (placed : List Placed) → IsPause i pops placed
    → (log : List LogRecord) → RunsToEnd i (start_of i) log → pops < length log
pause_shorter i extremal pops placed pause log runs =
    let (e, is, still) = pause.poppable in
    let short =
    open_shorter i extremal (start_of i) (records_of placed) log pause.legal e is still runs.legal runs.end in
    let size : length (records_of placed) ≡ length placed = length-map placed (λ (p : Placed). p.0) in
    let count = pause.count in
    omega (arith, short, size, count)

-- so none of them ends within as many
no_end : (asked : Asked) (ws : List Watcher) (facts : Facts) (i : Instance) → IsExtremal i.family → (pops : ℕ)
    (placed : List Placed) → IsPause i pops placed → asked.count ≡ None → asked.pops ≡ Some pops → (o : Outcome)
    → IsEndOf asked ws facts i o → ⊥
no_end asked ws facts i extremal pops placed pause once stop (Ended t j c n s a) h =
    let (told, same, end, of, alone, within) = h in
    let log : List LogRecord = end.run.0 in
    let size : n ≡ length log = end.run.3 in
    let longer = pause_shorter i extremal pops placed pause log (first_runs i log end.run.1) in
    let most : n ≤ pops = subst (λ m. EndsWithin m n) stop within in
    omega (arith, longer, size, most)
no_end asked ws facts i extremal pops placed pause once stop (Batched t j ends) h =
    none-some h.2.count (sym once ∙ h.2.asked_is)
no_end asked ws facts i extremal pops placed pause once stop o h = h

-- an outcome is a run of the instance to an end, with no more pops than this pause
abbrev EndsBeside : Facts → Instance → List Placed → Outcome → Type 0
EndsBeside told j stopped (Resampled facts i placed stuck telling) =
    (facts ≡ told) × (i ≡ j) × EndsAndPauses i placed stuck stopped
EndsBeside told j stopped o = ⊥

-- so both are runs of it
beside_histories : (job : Job) (input : List ℕ) (told : Facts) (j : Instance) (stopped : List Placed) (o : Outcome)
    → EndsBeside told j stopped o
    → AreHistories (Paused job input told j stopped) o × AreHistories o (Paused job input told j stopped)
beside_histories job input told j stopped (Resampled facts i placed stuck telling) h = (h, h)
beside_histories job input told j stopped o h = absurd h

-- so is a run that may have so many pops
beside_history : (asked : Asked) (ws : List Watcher) (facts : Facts) (i : Instance) (pops : ℕ) (placed : List Placed)
    → IsPause i pops placed → asked.pops ≡ Some pops → (o : Outcome) → IsHistoryOf asked ws facts i o
    → EndsBeside facts i placed o
beside_history asked ws facts i pops placed pause stop (Resampled t j l s a)
    (told_is, j_is, leads, layered, told, within) =
    let most : length l ≤ pops = subst (λ m. EndsWithin m (length l)) stop within in
    let count = pause.count in (
      told_is,
      j_is,
      (
        subst (λ k. LeadsToEnd k (records_of l) s) (sym j_is) leads,
        omega (arith, most, count),
        subst (λ k. IsPause k (length placed) placed) (sym j_is)
            (subst (λ n. IsPause i n placed) (sym count) pause),
      ),
    )
beside_history asked ws facts i pops placed pause stop o h = absurd h

-- nothing else ends beside a pause
beside_end : (k : Command) (asked : Asked) (ws : List Watcher) (facts : Facts) (i : Instance) → k ≢ Rounds
    → (k ≢ Resample → IsExtremal i.family) → (pops : ℕ) (placed : List Placed) → IsPause i pops placed
    → asked.count ≡ None → asked.pops ≡ Some pops → (o : Outcome) → EndsAs k asked ws facts i o
    → EndsBeside facts i placed o
beside_end Resample asked ws facts i other extremal pops placed pause once stop o h =
    beside_history asked ws facts i pops placed pause stop o h
beside_end Rounds asked ws facts i other extremal pops placed pause once stop o h = absurd (other refl)
beside_end k asked ws facts i other extremal pops placed pause once stop o h =
    absurd (no_end asked ws facts i (extremal (λ is. absurd (cc))) pops placed pause once stop o h)

-- a pause of what a job makes, and an end of its run
pub pause_and_end : (job : Job) (ws : List Watcher) (text : List ℕ) (facts : Facts) (i : Instance) (o p : Outcome)
    → IsMade (wanted_by job) text facts i → Pauses job text facts i o → EndsAs job.command (asked_by job) ws facts i p
    → AreHistories o p × AreHistories p o
pause_and_end job ws text facts i o p made a end =
    let (placed, o_is, pause) = paused_as job text facts i a.pops o a.at in
    let other = paused_no_rounds job.command a.may.command in
    subst (λ q. AreHistories q p × AreHistories p q) (sym o_is)
    (beside_histories job text facts i placed p
    (beside_end job.command (asked_by job) ws facts i other
    (λ ordered. made_unfree (wanted_by job) text facts i ordered other made) a.pops placed pause a.may.once a.asked p
    end))

-- and two pauses, which come after as many pops
pub two_pauses : (job : Job) (text : List ℕ) (facts : Facts) (i : Instance) (o p : Outcome) → Pauses job text facts i o
    → Pauses job text facts i p → AreHistories o p
two_pauses job text facts i o p a b =
    let (placed, o_is, pause) = paused_as job text facts i a.pops o a.at in
    let (stopped, p_is, other) = paused_as job text facts i b.pops p b.at in
    let pops : a.pops ≡ b.pops = same_Some a.pops b.pops (sym a.asked ∙ b.asked) in
    subst (λ q. AreHistories q p) (sym o_is) (subst (AreHistories (Paused job text facts i placed)) (sym p_is) (
      refl,
      refl,
      refl,
      refl,
      subst (λ n. IsPause i n placed) (pops ∙ sym other.count) pause,
      subst (λ n. IsPause i n stopped) (sym other.count) other,
    ))
