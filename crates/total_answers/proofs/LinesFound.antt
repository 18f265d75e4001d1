-- What comes of a job by the line of its command: the run of what is made comes to an end, or to a pause, and what is
-- asked for of its log is told.
use Rattle.std.proofs.Common.{inl, inr, ◌≡◌, ◌≢◌, ◌⊎◌, ℕ, zero, suc, ◌-◌, ◌<◌, List, [], ◌∷◌, length, take, sum, Option, None, Some, refl, sym, subst, arith}
use Rattle.std.proofs.lemmas.Bool.{cases_lt}
use Rattle.std.proofs.lemmas.List.{get_or-replicate, length-replicate, length-take-le}
use Rattle.std.proofs.lemmas.List.FromFn.{length-map-range_with_len}
use Rattle.pop_model.specs.Stacks.{row_of}
use Rattle.pop_model.specs.Popping.{pop}
use Rattle.pop_model.specs.Instances.{Instance, IsInstance}
use Rattle.pop_model.specs.Extremal.{IsExtremal}
use Rattle.pop_model.specs.Logs.{LogRecord, IsLegal, replay}
use Rattle.pop_model.specs.Runs.{IsEnd, start_of}
use Rattle.pop_model.proofs.FirstRun.{first_run}
use Rattle.pop_model.proofs.OneRun.{first_run_legal}
use Rattle.pop_model.proofs.Replays.{length-start}
use Rattle.prs_rounds.specs.Units.{IsListed}
use Rattle.round_samples.proofs.RoundsEnd.{rounds_end}
use Rattle.pop_samples.proofs.Ending.{Ends}
use Rattle.graph_read.specs.Graphs.{GraphOf, IsGraph, IsVertex}
use Rattle.graph_read.specs.Paths.{IsConnected}
use Rattle.cycle_popping.specs.Trees.{weights_at, weights_of_tree}
use Rattle.cycle_popping.proofs.TreeRows.{some_slot, tree_weights}
use Rattle.pop_words.specs.declared.command.Command.{Command}
use Rattle.pop_words.specs.declared.command.Command.TheVariants.{Resample, Rounds}
use Rattle.pop_words.specs.declared.job.Job.{Job}
use Rattle.pop_log.proofs.LayeredLaws.{placed_in_layers}
use Rattle.pop_log.proofs.UnitEvents.{family_cubes}
use Rattle.pop_watch.specs.Telling.{Watcher}
use Rattle.run_cert.specs.Looks.{HasPoppable}
use Rattle.printed_samples.proofs.SoundSlots.{some_sum}
use Rattle.job_subjects.specs.declared.wanted.Wanted.{Wanted}
use Rattle.job_subjects.specs.Made.{IsMade}
use Rattle.job_subjects.specs.Subjects.{Subject, instance_over, pair_weights, IsSubjectOf}
use Rattle.job_subjects.proofs.MadeExtremal.{subject_extremal}
use Rattle.job_subjects.proofs.MadeInstances.{slots_of_weights}
use Rattle.told_runs.specs.Asking.{asked_by}
use Rattle.told_runs.specs.Ends.{EndsWithin}
use Rattle.told_runs.specs.Names.{names_for}
use Rattle.told_runs.specs.Outcomes.{Outcome}
use Rattle.told_runs.specs.Outcomes.Outcome.{Batched, Ended, Paused, Resampled, Rounded}
use Rattle.told_runs.specs.Tellings.{records_of}
use Rattle.told_runs.proofs.LayeredOrders.{layered_order}
use Rattle.told_runs.proofs.ToldRuns.{in_order, placed_size}
use Rattle.top_call.specs.Answers.{ComesOf, origin_for, wanted_by}
use Rattle.top_call.specs.Pauses.{MayStop}
use Rattle.top_call.specs.Resumes.{GoesOnFrom, IsJoined}
use Rattle.top_call.proofs.MadeComes.{end_comes, ordered_end}
use Rattle.answer_laws.proofs.MadeBounds.{AreShort, made_bounded}
use Rattle.answer_laws.proofs.SubjectKinds.{holds_of, with_arrows}
use Rattle.total_answers.proofs.BatchesFound.{HaveSums, ends_found}
use Rattle.total_answers.proofs.Making.{CanBeMade}
use Rattle.total_answers.proofs.StuckFound.{runs_out, stuck_found}
use Rattle.total_answers.proofs.TellingsFound.{told_found}

-- a legal log that is longer may stop after so many pops, with an event that is poppable
front_stops : (i : Instance) (n : ℕ) (log : List LogRecord) (c : List ℕ) → n < length log → IsLegal i c log
    → IsLegal i c (take n log) × HasPoppable i (replay c (take n log))
front_stops i n [] c less legal = absurd (omega (arith, less))
front_stops i zero (r ∷ log) c less legal = (tt, (r.event, legal.0.event, legal.0.poppable))
front_stops i (suc n) (r ∷ log) c less legal =
    let rest = front_stops i n log (pop c r.event.cube) (omega (arith, less)) legal.1 in ((legal.0, rest.0), rest.1)

-- weights of what is sampled add up to something
pair_sums : (n : ℕ) → HaveSums (pair_weights n)
pair_sums n v below =
    let count : length (pair_weights n) ≡ n = length-replicate n (1 ∷ 1 ∷ []) in
    let row : row_of (pair_weights n) v ≡ 1 ∷ 1 ∷ [] =
    get_or-replicate n v (1 ∷ 1 ∷ []) [] (omega (arith, below, count)) in
    subst (λ (ws : List ℕ). 0 < sum ws) (sym row) (omega arith)

tree_sums : (g : GraphOf) (root : ℕ) → IsGraph g → IsVertex g.vertices root → IsConnected g root
    → HaveSums (weights_of_tree g root)
tree_sums g root is root_is joined v below =
    let rows : length (weights_of_tree g root) ≡ g.vertices - 1 =
    length-map-range_with_len (weights_at g root) 0 (g.vertices - 1) in
    let low : v < g.vertices - 1 = omega (arith, below, rows) in
    let size = slots_of_weights g root v low in
    let some = some_slot g root is root_is joined v low in
    let weights = tree_weights g root is root_is joined in
    some_sum (row_of (weights_of_tree g root) v) (omega (arith, size, some)) (weights.positive v [] below)

subject_sums : (k : Command) (w : Wanted) (text : List ℕ) (s : Subject) → IsSubjectOf k w text s → HaveSums s.weights
subject_sums k w text s =
    holds_of text (λ t. HaveSums t.weights) (with_arrows text (λ t. HaveSums t.weights)
    (λ f events spelled are. pair_sums f.variables) (λ g events spelled are. pair_sums (length g.edges))
    (λ facts g root is root_is joined. tree_sums g root is root_is joined)) k w s

-- rounds are made of listed events
listed_subject : (w : Wanted) (text : List ℕ) (s : Subject) → IsSubjectOf Rounds w text s → IsListed s.family
listed_subject w text s is = subst (λ (t : Subject). IsListed t.family) (sym is.are.is) tt

module _ (job : Job) (ws : List Watcher) (text : List ℕ) (s : Subject)
    (can : CanBeMade job.command (wanted_by job) text s) (short : AreShort (origin_for job))
    (stop : (pops : ℕ) → job.pops ≡ Some pops → MayStop job) where
  -- the instance that is run
  abbrev i : Instance
  i = instance_over (origin_for job) s

  -- it is what is made of the text
  pub made : IsMade (wanted_by job) text s.facts i
  made = record {
    subject = s;
    are = can.0;
    over = record { facts_are = refl; instance_is = refl; sound = can.1.0; few = can.1.1 };
  }

  -- so it is an instance
  pub made_is : IsInstance i
  made_is = (made_bounded (wanted_by job) text s.facts i short made).0

  -- a run that has more pops than it may have is told by its pause
  paused : (log : List LogRecord) → IsLegal i (start_of i) log → (pops : ℕ) → job.pops ≡ Some pops → pops < length log
      → (o : Outcome) × ComesOf job ws text o
  paused log legal pops asked less =
      let front : List LogRecord = take pops log in
      let stops = front_stops i pops log (start_of i) less legal in
      let placed = layered_order front in
      let of = in_order i made_is front placed.0 stops.0 placed.1 in
      let size = length-take-le pops log (omega (arith, less)) in
      let same = placed_size front placed.0 placed.1 in (
        Paused job text s.facts i placed.0,
        record {
          facts = s.facts;
          instance = i;
          made = made;
          run = inr (record {
            may = stop pops asked;
            pops = pops;
            asked = asked;
            at = (
              refl,
              refl,
              refl,
              refl,
              record {
                legal = of.0;
                layered = placed_in_layers i (family_cubes i.family made_is.family) (start_of i) front stops.0
                    placed.0 placed.1;
                count = omega (arith, size, same);
                poppable = subst (HasPoppable i) (sym of.1) stops.1;
              },
            );
          });
        },
      )

  -- a run to an end has no more pops than it may have, or is told by its pause
  within_or_paused : (log : List LogRecord) → IsLegal i (start_of i) log
      → EndsWithin job.pops (length log) ⊎ ((o : Outcome) × ComesOf job ws text o)
  within_or_paused log legal = by job.pops refl
    where
      by : (most : Option ℕ) → job.pops ≡ most
          → EndsWithin most (length log) ⊎ ((o : Outcome) × ComesOf job ws text o)
      by None is = inl tt
      by (Some pops) is = elim (cases_lt pops (length log)) [
        | inl less ↦ inr (paused log legal pops is less)
        | inr most ↦ inl most
      ]

  -- some legal log leads to an end
  run_out : Ends i (start_of i)
  run_out = runs_out i made_is.family made_is.fits (start_of i) (length-start i)

  -- ---- the one-thread run

  module _ (ordered : job.command ≢ Resample) (popped : job.command ≢ Rounds) where
    -- its events are extremal
    extremal : IsExtremal i.family
    extremal = subject_extremal job.command (wanted_by job) text s ordered popped can.0

    -- it comes to an end, from which nothing goes on that isn't told
    pub record EndsOnce : Type 0 where
      pub outcome : Outcome
      pub comes : ComesOf job ws text outcome
      pub goes_on : (job.pops ≡ None) → (log : List LogRecord) → GoesOnFrom log outcome

    pub ended : job.count ≡ None → EndsOnce
    ended once =
        let start : List ℕ = start_of i in
        let first = first_run i extremal start run_out.log run_out.legal run_out.end in
        let log : List LogRecord = first.first in
        let legal : IsLegal i start log = first_run_legal i start log first.run in
        let stuck = stuck_found i (replay start log) in
        let placed = layered_order log in
        let told = told_found (asked_by job) ws (names_for s.facts) i made_is log legal placed.0 placed.1 in
        let o : Outcome = Ended s.facts i (replay start log) (length log) stuck.0 told.0 in
        by_pops job.pops refl o log legal (λ within.
        end_comes job job.command ws text s.facts i refl made o
        (ordered_end job.command ordered popped (asked_by job) ws s.facts i o (
          refl,
          refl,
          record { run = (log, first.run, refl, refl); stuck_list = stuck.1 },
          record { log = log; run = first.run; placed = placed.0; sorted = placed.1; told = told.1 },
          once,
          within,
        ))) (λ front. tt)
      where
        by_pops : (most : Option ℕ) → job.pops ≡ most → (o : Outcome) (log : List LogRecord)
            → IsLegal i (start_of i) log → (EndsWithin most (length log) → ComesOf job ws text o)
            → ((front : List LogRecord) → GoesOnFrom front o) → EndsOnce
        by_pops None is o log legal comes goes =
            record { outcome = o; comes = comes tt; goes_on = λ none front. goes front }
        by_pops (Some pops) is o log legal comes goes = elim (cases_lt pops (length log)) [
          | inr most ↦ record { outcome = o; comes = comes most; goes_on = λ none front. goes front }
          | inl less ↦
              let p = paused log legal pops is less in
              record { outcome = p.0; comes = p.1; goes_on = λ none front. absurd (cc) }
        ]

    -- so many samples of it come to ends
    pub batched : (count : ℕ) → job.count ≡ Some count → (o : Outcome) × ComesOf job ws text o
    batched count asked =
        let ends = ends_found i made_is extremal can.1.0
        (subject_sums job.command (wanted_by job) text s can.0) count in
        let o : Outcome = Batched s.facts i ends.0 in (
          o,
          end_comes job job.command ws text s.facts i refl made o
              (ordered_end job.command ordered popped (asked_by job) ws s.facts i o
              (refl, refl, record { count = count; asked_is = asked; are = ends.1 })),
        )

  -- ---- a resampling

  -- a log to an end is told as it is layered
  pub history : job.command ≡ Resample → (log : List LogRecord) → IsLegal i (start_of i) log
      → IsEnd i (replay (start_of i) log) → EndsWithin job.pops (length log)
      → (o : Outcome) × ComesOf job ws text o × ((first : List LogRecord) → IsJoined i first log → GoesOnFrom first o)
  history is_it log legal end within =
      let start : List ℕ = start_of i in
      let placed = layered_order log in
      let of = in_order i made_is log placed.0 legal placed.1 in
      let stuck = stuck_found i (replay start (records_of placed.0)) in
      let told = told_found (asked_by job) ws (names_for s.facts) i made_is log legal placed.0 placed.1 in
      let size = placed_size log placed.0 placed.1 in
      let o : Outcome = Resampled s.facts i placed.0 stuck.0 told.0 in (
        o,
        end_comes job Resample ws text s.facts i is_it made o (
          refl,
          refl,
          record { legal = of.0; end = subst (IsEnd i) (sym of.1) end; stuck_list = stuck.1 },
          placed_in_layers i (family_cubes i.family made_is.family) start log legal placed.0 placed.1,
          told.1,
          subst (EndsWithin job.pops) size within,
        ),
        λ first joined. (log, joined, placed.1),
      )

  pub resampled : job.command ≡ Resample → (o : Outcome) × ComesOf job ws text o
  resampled is_it = elim (within_or_paused run_out.log run_out.legal) [
    | inr stopped ↦ stopped
    | inl within ↦
        let told = history is_it run_out.log run_out.legal run_out.end within in (told.0, told.1)
  ]

  -- ---- rounds

  pub rounded : job.command ≡ Rounds → (o : Outcome) × ComesOf job ws text o
  rounded is_it =
      let subject : IsSubjectOf Rounds (wanted_by job) text s =
      subst (λ k. IsSubjectOf k (wanted_by job) text s) is_it can.0 in
      let end = rounds_end i made_is (listed_subject (wanted_by job) text s subject) in
      let o : Outcome = Rounded s.facts i end.cursors end.rounds end.stuck end.short in
      (o, end_comes job Rounds ws text s.facts i is_it made o (refl, refl, end.is_end))
