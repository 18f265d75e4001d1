-- The theorem of keys, stated for answers. The subject makes a frame for stacks of one height. Under a key its run,
-- its rounds or its batch ends with samples if and only if the key's tables are among those for them, which are
-- counted.
use Rattle.std.proofs.Common.{◌≡◌, ◌↔◌, ◌≤◌, ℕ, ◌<◌, ◌^◌, List, [], ◌∷◌, length, get_or, sum, replicate, All, Contains, Option, None, Some, unwrap_or, refl, sym, ap, subst, ◌∙◌, arith}
use Rattle.std.specs.Prelude.{IfSome}
use Rattle.std.proofs.lemmas.List.{length-replicate, get_or-replicate}
use Rattle.pop_model.specs.Stacks.Origin.{Keyed}
use Rattle.pop_model.specs.Popping.{values_at}
use Rattle.pop_model.specs.Families.{Event}
use Rattle.pop_model.specs.Instances.{Instance}
use Rattle.pop_model.specs.Extremal.{IsExtremal}
use Rattle.pop_model.specs.Runs.{IsFirstEnd}
use Rattle.pop_model.proofs.OneRun.{SameEnd, one_first_end}
use Rattle.pop_stacks.specs.declared.stack_spec.StackSpec.TheVariants.{Key}
use Rattle.pop_stacks.specs.Tables.{origin_of}
use Rattle.confluence_core.specs.declared.end.End.{End}
use Rattle.prs_rounds.specs.Rounds.{IsRoundsEnd}
use Rattle.prs_rounds.specs.Units.{IsListed}
use Rattle.prs_rounds.specs.Laws.{SameRoundsEnd}
use Rattle.prs_rounds.proofs.OneRun.{one_rounds_end}
use Rattle.pop_samples.specs.Frames.{Frame, IsFrame, Rows}
use Rattle.pop_samples.specs.Exchange.{Samples}
use Rattle.round_samples.specs.Sampled.{Sampled}
use Rattle.pop_batch.specs.Batches.{AreEnds}
use Rattle.key_samples.specs.Numbers.{HaveWeights, Numbers, TableOf}
use Rattle.key_samples.specs.Exact.{TablesOf}
use Rattle.key_samples.specs.Keys.{EndsWith, RoundsEndWith, batch_numbers, numbers_of, under_key}
use Rattle.key_samples.proofs.Exact.{exact_numbers, exact_round_numbers}
use Rattle.key_samples.proofs.KeyedRuns.{keyed_rounds, keyed_runs}
use Rattle.key_samples.proofs.KeyedEnds.{keyed_ends}
use Rattle.drawn_samples.proofs.Drawing as D
use Rattle.drawn_samples.proofs.Drawing.{drawn_samples}
use Rattle.pop_words.specs.declared.command.Command.{Command}
use Rattle.pop_words.specs.declared.command.Command.TheVariants.{Check}
use Rattle.pop_words.specs.declared.job.Job.{Job}
use Rattle.pop_words.specs.Options.{quiet}
use Rattle.pop_words.specs.CommandLines.{Asks}
use Rattle.pop_words.proofs.JobsInRange.{asked_grow, asked_height}
use Rattle.dimacs_read.specs.CnfText.{cnf_of}
use Rattle.graph_read.specs.Graphs.{GraphOf, IsGraph, IsVertex}
use Rattle.graph_read.specs.Paths.{IsConnected}
use Rattle.cycle_popping.specs.Trees.{weights_of_tree}
use Rattle.cycle_popping.proofs.TreeRows.{tree_weights}
use Rattle.pop_watch.specs.Telling.{Watcher}
use Rattle.pop_print.specs.declared.facts.Facts.{Facts}
use Rattle.job_subjects.specs.declared.wanted.Wanted.{Wanted}
use Rattle.job_subjects.specs.Subjects.{pair_weights, Subject, assignments, instance_over, IsSubjectOf}
use Rattle.told_runs.specs.Outcomes.{Outcome, end_status, status_of}
use Rattle.told_runs.specs.Outcomes.Outcome.{Refused, Extremal, Ended, Resampled, Rounded, Batched, Paused, Replayed}
use Rattle.told_runs.specs.Tellings.{Telling}
use Rattle.top_call.specs.Answers.{ComesOf, last_height, origin_for, wanted_by}
use Rattle.top_call.proofs.ReadCases.{no_replay}
use Rattle.printed_samples.proofs.SoundSlots.{some_sum}
use Rattle.answer_laws.specs.KeyAnswers.{IsDrawn, IsKeyedAnswer, IsKeyedRounds, KeyedAnswers, KeyedRoundAnswers, keyed_frame}
use Rattle.answer_laws.proofs.ToldSubjects.{IsBatchOfSubject, IsEndOfSubject, batched_subject, ended_subject, ordered_extremal, quiet_line, quiet_ordered, quiet_other, rounded_made, resampled_made}
use Rattle.answer_laws.proofs.OneOutcome.{line_comes}
use Rattle.answer_laws.proofs.RoundAnswers.{IsEndOfRounds, of_rounds, rounds_frame, rounds_line_of}
use Rattle.answer_laws.proofs.RoundOutputs.{finished_rounds}
use Rattle.answer_laws.proofs.SubjectKinds.{HasFamily, subject_family, subject_frame, holds_of, with_arrows}
use Rattle.answer_laws.proofs.RefusedOr.{refusal_high}
use Rattle.rand_chacha.specs.ChaCha.{key_of}

-- ---- stacks of one height under a key

-- the height of a key's stacks is above 0
pub height_some : (words : List (List ℕ)) (job : Job) → Asks words job → 0 < last_height job
height_some words job asks = by_grow job.grow (asked_grow words job asks)
  where
    by_grow : (grow : Option ℕ) → IfSome grow (λ last. (0 < last) × (last < 2 ^ 31)) → 0 < unwrap_or grow job.height
    by_grow None is = (asked_height words job asks).0
    by_grow (Some n) is = is.0

-- equal heights above 0
pub heights_above : (n height : ℕ) → 0 < height → All (λ h. 0 < h) (replicate n height)
heights_above n height some k d within =
    let size = length-replicate n height in
    let at = get_or-replicate n k height d (omega (arith, within, size)) in
    omega (arith, at, some)

-- two values of weight 1 have weights
pairs_have : (n : ℕ) → HaveWeights (pair_weights n)
pairs_have n k d within =
    let size = length-replicate {A = List ℕ} n (1 ∷ 1 ∷ []) in
    let total : sum (get_or (pair_weights n) k d) ≡ 2 =
    ap sum (get_or-replicate n k (1 ∷ 1 ∷ []) d (omega (arith, within, size))) in
    omega (arith, total)

-- so have the slots of vertices that are joined to the root
slots_have : (g : GraphOf) (root : ℕ) → IsGraph g → IsVertex g.vertices root → IsConnected g root
    → HaveWeights (weights_of_tree g root)
slots_have g root is at joined k d within =
    let weights = tree_weights g root is at joined in
    some_sum (get_or (weights_of_tree g root) k d) (weights.some k d within) (weights.positive k d within)

-- and so has whatever is sampled
pub subject_has : (k : Command) (w : Wanted) (text : List ℕ) (s : Subject) → IsSubjectOf k w text s → HaveWeights s.weights
subject_has k w text s =
    let Have : Subject → Type 0 = λ t. HaveWeights t.weights in
    holds_of text Have (with_arrows text Have (λ f events spelled are. pairs_have f.variables)
    (λ g events spelled are. pairs_have (length g.edges)) (λ facts g root is at joined. slots_have g root is at joined)) k w s

-- ---- what runs, rounds and batches end with

-- one table is that of one sample
one_table : (f : Frame) (Kind : List ℕ → Rows → Type 0) (t : Numbers) (samples : List (List ℕ))
    → TablesOf f Kind samples (t ∷ []) → (w : List ℕ) × (w ∷ [] ≡ samples) × TableOf f (Kind w) t
one_table f Kind t [] all = absurd all
one_table f Kind t (w ∷ []) all = (w, refl, all.0)
one_table f Kind t (w ∷ x ∷ samples) all = absurd all.1

module _ (f : Frame) (frame : IsFrame f) (have : HaveWeights f.weights) (key : List ℕ) (height : ℕ)
    (high : f.heights ≡ replicate (length f.weights) height) where
  -- the instance of the key
  abbrev i : Instance
  i = under_key f key 0 height

  -- the end of the one-thread run
  first_ends : IsExtremal f.family → (c : List ℕ) (pops : ℕ) (stuck : List Event) → IsFirstEnd i c pops stuck
      → (samples : List (List ℕ)) → ((stuck ≡ []) × (values_at i.stacks c ∷ [] ≡ samples))
      ↔ TablesOf f (Samples f) samples (batch_numbers key height (length f.weights) 1)
  first_ends extremal c pops stuck end samples = (
    λ (none, is). subst (λ ws. TablesOf f (Samples f) ws (batch_numbers key height (length f.weights) 1)) is (
      (keyed_runs f frame have extremal key 0 height high (values_at i.stacks c)).0 (record {
        cursors = c;
        pops = pops;
        end = subst (λ (s : List Event). IsFirstEnd i c pops s) none end;
        values = refl;
      }),
      tt,
    ),
    λ all.
        let (w, is, table) = one_table f (Samples f) (numbers_of key 0 height (length f.weights)) samples all in
        let x : EndsWith i w = (keyed_runs f frame have extremal key 0 height high w).1 table in
        let one : SameEnd c x.cursors pops x.pops stuck [] =
        one_first_end i extremal c x.cursors pops x.pops stuck [] end x.end in
        (one.stuck, ap (λ (d : List ℕ). values_at i.stacks d ∷ []) one.cursors ∙ ap (λ (v : List ℕ). v ∷ []) x.values ∙ is),
  )

  -- the end of rounds
  rounds_ends : IsListed f.family → (c : List ℕ) (rounds : ℕ) (stuck : List Event) (short : Option ℕ)
      → IsRoundsEnd i c rounds stuck short
      → (samples : List (List ℕ)) → ((stuck ≡ []) × (values_at i.stacks c ∷ [] ≡ samples))
      ↔ TablesOf f (Sampled f) samples (batch_numbers key height (length f.weights) 1)
  rounds_ends lists c rounds stuck short end samples = (
    λ (none, is). subst (λ ws. TablesOf f (Sampled f) ws (batch_numbers key height (length f.weights) 1)) is (
      (keyed_rounds f frame have lists key 0 height high (values_at i.stacks c)).0 (record {
        cursors = c;
        rounds = rounds;
        end =
            let both = finished_rounds i c rounds stuck short end (ap end_status none) in
            subst (λ (v : Option ℕ). IsRoundsEnd i c rounds [] v) both.1
            (subst (λ (s : List Event). IsRoundsEnd i c rounds s short) none end);
        values = refl;
      }),
      tt,
    ),
    λ all.
        let (w, is, table) = one_table f (Sampled f) (numbers_of key 0 height (length f.weights)) samples all in
        let x : RoundsEndWith i w = (keyed_rounds f frame have lists key 0 height high w).1 table in
        let one : SameRoundsEnd c x.cursors rounds x.rounds stuck [] short None =
        one_rounds_end i c x.cursors rounds x.rounds stuck [] short None end x.end in
        (one.stuck, ap (λ (d : List ℕ). values_at i.stacks d ∷ []) one.cursors ∙ ap (λ (v : List ℕ). v ∷ []) x.values ∙ is),
  )

-- ---- what is drawn

module _ (s : Subject) (family : HasFamily s) (extremal : IsExtremal s.family) (have : HaveWeights s.weights)
    (key : List ℕ) (height : ℕ) (some : 0 < height) where
  -- the frame
  abbrev f : Frame
  f = keyed_frame s height

  -- stacks of one height make it one
  frame : IsFrame f
  frame =
      subject_frame s family (replicate (length s.weights) height) (length-replicate (length s.weights) height)
      (heights_above (length s.weights) height some)

  -- the end of a run is drawn
  drawn_run : (facts : Facts) (i : Instance) (c : List ℕ) (pops : ℕ) (stuck : List Event) (a : Telling)
      → i ≡ instance_over (Keyed key 0 height) s → IsFirstEnd (instance_over (Keyed key 0 height) s) c pops stuck
      → IsDrawn f (Samples f) key height 1 (Ended facts i c pops stuck a)
  drawn_run facts i c pops stuck a is end = record {
    exact = exact_numbers f frame have extremal;
    from_all = drawn_samples f frame have extremal;
    ends = λ samples.
        subst (λ (j : Instance). ((stuck ≡ []) × (values_at j.stacks c ∷ [] ≡ samples))
        ↔ TablesOf f (Samples f) samples (batch_numbers key height (length f.weights) 1)) (sym is)
        (first_ends f frame have key height refl extremal c pops stuck end samples);
  }

  -- so are the ends of a batch
  drawn_batch : (facts : Facts) (i : Instance) (count : ℕ) (ends : List End)
      → AreEnds (instance_over (Keyed key 0 height) s) count ends
      → IsDrawn f (Samples f) key height count (Batched facts i ends)
  drawn_batch facts i count ends are = record {
    exact = exact_numbers f frame have extremal;
    from_all = drawn_samples f frame have extremal;
    ends = keyed_ends f frame have extremal key height count refl ends are;
  }

-- ---- what comes of a job

-- a job's stacks under a key
pub keyed_origin : (job : Job) (key : List ℕ) → job.stacks ≡ Key key
    → origin_for job ≡ Keyed (key_of key) 0 (last_height job)
keyed_origin job key given = ap (λ spec. origin_of spec (last_height job)) given

-- what holds of ends and of batches holds of what comes of a quiet command with status 0 or 1
pub of_low : (job : Job) → Contains quiet job.command → (ws : List Watcher) (text : List ℕ) (P : Outcome → Type 0)
    → ((facts : Facts) (i : Instance) (c : List ℕ) (pops : ℕ) (stuck : List Event) (a : Telling)
    → IsEndOfSubject job ws text facts i c pops stuck a → P (Ended facts i c pops stuck a))
    → ((facts : Facts) (i : Instance) (ends : List End) → IsBatchOfSubject job text facts i ends
    → P (Batched facts i ends)) → (o : Outcome) → ComesOf job ws text o → status_of o ≤ 1 → P o
of_low job has ws text P end batch (Ended facts i c pops stuck a) h low =
    end facts i c pops stuck a (ended_subject job ws text facts i c pops stuck a h)
of_low job has ws text P end batch (Batched facts i ends) h low =
    batch facts i ends (batched_subject job ws text facts i ends h)
of_low job has ws text P end batch (Resampled facts i placed stuck a) h low =
    absurd ((quiet_ordered job.command has).no_resampling (resampled_made job ws text facts i placed stuck a h).by)
of_low job has ws text P end batch (Rounded facts i c rounds stuck short) h low =
    absurd ((quiet_ordered job.command has).no_rounds (rounded_made job ws text facts i c rounds stuck short h).by)
of_low job has ws text P end batch (Extremal n) h low = absurd (quiet_other job.command Check has refl h.0)
of_low job has ws text P end batch (Replayed i c n k) h low = absurd (no_replay job ws text i c n k h)
of_low job has ws text P end batch (Refused r) h low = absurd (omega (arith, low, refusal_high r))
of_low job has ws text P end batch (Paused j w t i l) h low = absurd (omega (arith, low))

module _ (words : List (List ℕ)) (job : Job) (asks : Asks words job) (key : List ℕ) (given : job.stacks ≡ Key key)
    (ws : List Watcher) (text : List ℕ) where
  -- the height of the key's stacks, and the frame of a subject over them
  abbrev height : ℕ
  height = last_height job

  -- an end is drawn
  end_drawn : (facts : Facts) (i : Instance) (c : List ℕ) (pops : ℕ) (stuck : List Event) (a : Telling)
      → IsEndOfSubject job ws text facts i c pops stuck a → IsKeyedAnswer job key text (Ended facts i c pops stuck a)
  end_drawn facts i c pops stuck a of =
      let s : Subject = of.subject in
      let origin = keyed_origin job key given in
      let f : Frame = keyed_frame s height in
      record {
        subject = s;
        is = of.is;
        drawn = subst (λ n. IsDrawn f (Samples f) (key_of key) height n (Ended facts i c pops stuck a))
            (ap (λ (n : Option ℕ). unwrap_or n 1) (sym of.once))
            (drawn_run s (subject_family job.command (wanted_by job) text s of.is)
            (ordered_extremal job.command (wanted_by job) text s of.ordered of.is)
            (subject_has job.command (wanted_by job) text s of.is)
            (key_of key) height (height_some words job asks) facts i c pops stuck a
            (of.instance_is ∙ ap (λ o. instance_over o s) origin)
            (subst (λ o. IsFirstEnd (instance_over o s) c pops stuck) origin of.end));
      }

  -- so is a batch
  batch_drawn : (facts : Facts) (i : Instance) (ends : List End) → IsBatchOfSubject job text facts i ends
      → IsKeyedAnswer job key text (Batched facts i ends)
  batch_drawn facts i ends of =
      let s : Subject = of.subject in
      let f : Frame = keyed_frame s height in
      record {
        subject = s;
        is = of.is;
        drawn = subst (λ n. IsDrawn f (Samples f) (key_of key) height n (Batched facts i ends))
            (ap (λ (n : Option ℕ). unwrap_or n 1) (sym of.batch.asked_is))
            (drawn_batch s (subject_family job.command (wanted_by job) text s of.is)
            (ordered_extremal job.command (wanted_by job) text s of.ordered of.is)
            (subject_has job.command (wanted_by job) text s of.is)
            (key_of key) height (height_some words job asks) facts i of.batch.count ends
            (subst (λ o. AreEnds (instance_over o s) of.batch.count ends) (keyed_origin job key given) of.batch.are));
      }

-- the law
pub keyed_answers : KeyedAnswers
keyed_answers job key words ws text o has given asks comes =
    of_low job has ws text (IsKeyedAnswer job key text) (end_drawn words job asks key given ws text)
    (batch_drawn words job asks key given ws text) o
    (line_comes words job ws text o asks (quiet_line job.command has) comes)

-- ---- rounds

-- what comes of rounds under a key is drawn
drawn_rounds : (words : List (List ℕ)) (job : Job) → Asks words job → (key : List ℕ) → job.stacks ≡ Key key
    → (text : List ℕ) (facts : Facts) (i : Instance) (c : List ℕ) (rounds : ℕ) (stuck : List Event) (short : Option ℕ)
    → IsEndOfRounds (origin_for job) text facts i c rounds stuck short
    → IsKeyedRounds job key text (Rounded facts i c rounds stuck short)
drawn_rounds words job asks key given text facts i c rounds stuck short own =
    let height : ℕ = last_height job in
    let e : IsEndOfRounds (Keyed (key_of key) 0 height) text facts i c rounds stuck short =
    subst (λ o. IsEndOfRounds o text facts i c rounds stuck short) (keyed_origin job key given) own in
    let s : Subject = assignments (cnf_of text) e.events in
    let f : Frame = keyed_frame s height in
    let frame : IsFrame f = rounds_frame text e.events (replicate (length s.weights) height) e.spelled e.of_formula
    (length-replicate (length s.weights) height ∙ length-replicate {A = List ℕ} (cnf_of text).variables (1 ∷ 1 ∷ []))
    (heights_above (length s.weights) height (height_some words job asks)) in
    let have : HaveWeights f.weights = pairs_have (cnf_of text).variables in
    record {
      events = e.events;
      of_formula = e.of_formula;
      drawn = record {
        exact = exact_round_numbers f frame have tt;
        from_all = D.drawn_rounds f frame have tt;
        ends = λ samples.
            subst (λ (j : Instance). ((stuck ≡ []) × (values_at j.stacks c ∷ [] ≡ samples))
            ↔ TablesOf f (Sampled f) samples (batch_numbers (key_of key) height (length f.weights) 1)) (sym e.instance_is)
            (rounds_ends f frame have (key_of key) height refl tt c rounds stuck short e.end samples);
      };
    }

-- the law of rounds
pub keyed_round_answers : KeyedRoundAnswers
keyed_round_answers job key words ws text o by given asks comes =
    of_rounds job by ws text (λ o. status_of o ≤ 1 → IsKeyedRounds job key text o)
    (λ r refuses low. absurd (omega (arith, low, refusal_high r)))
    (λ facts i c rounds stuck short e low. drawn_rounds words job asks key given text facts i c rounds stuck short e) o
    (line_comes words job ws text o asks (rounds_line_of job.command by) comes)
