-- A certificate that `replay` accepts is not rejected. So an outcome of `resume` for it is one of the line of its
-- command. A certificate from a run is continued as that line, which is that of the arguments without `--pops`. Its
-- log is read as it was printed, so it is not rejected. The outcome of `resume` is one of this line and of the input.
use Rattle.std.proofs.Common.{inl, inr, ◌≡◌, ℕ, List, sym, ap, subst, Contains, ◌∙◌, ◌≤◌, ◌^◌, Bool, true, false, [], ◌∷◌, length, None, refl, arith}
use Rattle.std.proofs.lemmas.Option.{none-some}
use Rattle.pop_model.specs.Stacks.{Origin}
use Rattle.pop_model.specs.Families.{Event}
use Rattle.pop_model.specs.Instances.{Instance}
use Rattle.pop_words.specs.declared.command.Command.{Command}
use Rattle.pop_words.specs.declared.command.Command.TheVariants.{Replay, Resume, Tree}
use Rattle.pop_words.specs.declared.job.Job.{Job}
use Rattle.pop_words.specs.Options.{paused, default_job}
use Rattle.pop_words.specs.declared.field.Field.{Field}
use Rattle.pop_words.specs.declared.field.Field.TheVariants.{Pops}
use Rattle.pop_words.specs.CommandLines.{Asks}
use Rattle.pop_words.proofs.PausedAlone.{paused_alone}
use Rattle.pop_log.specs.Layers.{Placed}
use Rattle.pop_log.specs.LayeredTexts.{placed_text}
use Rattle.pop_watch.specs.Telling.{Watcher}
use Rattle.run_cert.specs.Certificates.{Certificate, IsCertOf, height_said, root_said, head_of, cert_of}
use Rattle.run_cert.proofs.OneText.{one_cert}
use Rattle.run_cert.specs.Heads.{has_root}
use Rattle.pop_print.specs.declared.facts.Facts.{Facts}
use Rattle.job_subjects.specs.declared.refusal.Refusal.{Refusal}
use Rattle.job_subjects.specs.Subjects.{Subject, IsSubjectOf}
use Rattle.job_subjects.specs.Refused.{RefusesBy}
use Rattle.told_runs.specs.Asking.{asked_by}
use Rattle.told_runs.specs.Outcomes.{Outcome, HasRun, status_of, text_of, end_status, resampled_status}
use Rattle.told_runs.specs.Names.{names_for}
use Rattle.told_runs.specs.Witnesses.{Witness as ToldWitness}
use Rattle.told_runs.specs.Witnesses.Witness.{Unasked, Missing, Shown}
use Rattle.told_runs.specs.Batches.{batch_status}
use Rattle.told_runs.specs.Tellings.{records_of}
use Rattle.told_runs.specs.Outcomes.Outcome.{Refused, Extremal, Ended, Resampled, Rounded, Batched, Paused, Replayed}
use Rattle.top_call.specs.Replays.{job_of, ComesOfCert, IsReplayed, HasLog}
use Rattle.top_call.specs.Answers.{wanted_by, ComesOf, ComesBy, IsOutcome, IsOfLine}
use Rattle.top_call.proofs.ByCommand.{by_line}
use Rattle.top_call.proofs.Lifting.{of_words}
use Rattle.top_call.proofs.PauseWords.{paused_line, stopped_may}
use Rattle.top_call.proofs.BatchEnds.{batch_low}
use Rattle.top_call.proofs.ReadCases.{no_replay}
use Rattle.answer_laws.specs.Resumed.{AskFor, AcceptsReplay, ResumedAlike}
use Rattle.answer_laws.proofs.AlikeWords.{AreAlike, StopAsOne, same_comes}
use Rattle.answer_laws.proofs.OneOutcome.{asked_comes, line_comes}
use Rattle.answer_laws.proofs.OneReplay.{accepted_or_refused}
use Rattle.answer_laws.proofs.RefusedOr.{refusal_no_run, replaying_cases, resuming_cases, refusal_not_ten, not_low}
use Rattle.answer_laws.specs.Unpaused.{tells_pops, DifferInPops, ResumedUnpaused}
use Rattle.answer_laws.proofs.MadeBounds.{legal_log}
use Rattle.answer_laws.proofs.OptionKinds.{dropped, all_left}
use Rattle.answer_laws.proofs.PausedCerts.{height_alike, IsPauseCert, paused_cert}

-- ---- certificates that are accepted

-- what comes of words that ask for a command comes by it
pub by_words : (words : List (List ℕ)) (ws : List Watcher) (text : List ℕ) (o : Outcome) (k : Command) → AskFor words k
    → IsOutcome words ws text o → (job : Job) × ComesBy k job ws text o
by_words words ws text o k (job, asks, is) h =
    (job, subst (λ c. ComesBy c job ws text o) is (asked_comes words job ws text o asks h))

-- bytes that `replay` accepts are a certificate that has a log
replayed : (bytes : List ℕ) → AcceptsReplay bytes → (o : Outcome) × ComesOfCert IsReplayed bytes o
replayed bytes accepts =
    let (o, comes, tells) = accepts.answer in
    let came = by_words accepts.words accepts.watchers bytes o Replay accepts.asks comes in
    elim (replaying_cases bytes o came.1) [
      | inl (r, o_is, refused) ↦
          absurd (refusal_no_run r (subst HasRun (tells.status_is ∙ ap status_of o_is) accepts.has_run))
      | inr b ↦ (o, b)
    ]

-- the law
pub resumed_alike : ResumedAlike
resumed_alike words others ws bytes cert status out accepts is asks (job, asks', line) (o, comes, tells) =
    let (p, b) = replayed bytes accepts in
    let came = by_words words ws bytes o Resume asks comes in
    elim (resuming_cases ComesOf ws bytes o came.1) [
      | inl (s, o_is, refused) ↦ absurd (accepted_or_refused bytes b.cert s b.short b.is b.comes.has refused)
      | inr r ↦
          let mine : Job = job_of cert.head in
          let own : ComesOf mine ws cert.input o =
          subst (λ (c : Certificate). ComesOf (job_of c.head) ws c.input o) (one_cert bytes r.cert cert r.is is)
          r.comes.comes in
          let alike : AreAlike mine job = record {
            wanted = sym (ap wanted_by line);
            asked = sym (ap asked_by line);
          } in
          let stop : StopAsOne mine job = λ pops some. absurd (none-some pops some) in
          let command : cert.head.command ≡ job.command = sym (ap (λ (j : Job). j.command) line) in (
            o,
            of_words others job ws cert.input asks' o (by_line job.command job ws cert.input o
                (paused_line job.command (subst (Contains paused) command is.is.head.command))
                (same_comes mine job alike stop ws cert.input o own)),
            tells,
          )
    ]

-- ---- the job without `--pops`

-- the field is the number of pops
abbrev is_of_pops : Field → Bool
is_of_pops Pops = true
is_of_pops field = false

-- the other words ask for the job whose run doesn't stop
other_unpaused : (words others : List (List ℕ)) (d : DifferInPops words others) → dropped is_of_pops d.job ≡ d.other
other_unpaused words others d =
    all_left tells_pops is_of_pops (record { all_agree = refl; one_field = refl }) words others d.job d.other d.asks
    d.asks_other d.command d.options refl

-- which has but its stacks, their height and its root
other_plain : (words others : List (List ℕ)) (d : DifferInPops words others)
    → d.other ≡ record (default_job d.job.command) {
      stacks = d.job.stacks;
      height = d.job.height;
      root = d.job.root;
    }
other_plain words others d =
    sym (other_unpaused words others d) ∙ ap (dropped is_of_pops) (paused_alone words d.job d.asks d.pops d.stops)

-- ---- a pause

-- no end has status 10
no_end_status : (stuck : List Event) → end_status stuck ≡ 10 → ⊥
no_end_status [] is = omega (arith, is)
no_end_status (e ∷ stuck) is = omega (arith, is)

no_resampled_status : (stuck : List Event) (w : ToldWitness) → resampled_status stuck w ≡ 10 → ⊥
no_resampled_status stuck Unasked is = no_end_status stuck is
no_resampled_status stuck (Missing name entry c) is = omega (arith, is)
no_resampled_status stuck (Shown tree) is = no_end_status stuck is

-- so what comes of a line with status 10 is a pause, whose text is a certificate
abbrev LeavesCert : Job → List ℕ → List ℕ → Type 0
LeavesCert job text out =
    (facts : Facts) × (i : Instance) × (placed : List Placed) × IsPauseCert job text out facts i placed

ten_leaves : (words : List (List ℕ)) (job : Job) → Asks words job → (ws : List Watcher) (text : List ℕ) (o : Outcome)
    → ComesOf job ws text o → status_of o ≡ 10 → LeavesCert job text (text_of o)
ten_leaves words job asks ws text (Refused r) h is = absurd (refusal_not_ten r is)
ten_leaves words job asks ws text (Extremal n) h is = absurd (omega (arith, is))
ten_leaves words job asks ws text (Ended t i c n s a) h is = absurd (no_end_status s is)
ten_leaves words job asks ws text (Resampled t i l s a) h is = absurd (no_resampled_status s a.witness is)
ten_leaves words job asks ws text (Rounded t i c n s v) h is = absurd (no_end_status s is)
ten_leaves words job asks ws text (Batched t i es) h is =
    absurd (not_low (batch_status es) (omega (arith, is)) (batch_low es))
ten_leaves words job asks ws text (Paused told input t i l) h is =
    (t, i, l, paused_cert words job asks ws text told input t i l h)
ten_leaves words job asks ws text (Replayed i c n k) h is = absurd (no_replay job ws text i c n k h)

-- ---- its certificate

-- the root of a line whose command has none tells nothing
any_root : (k : Command) (job : Job) (root : ℕ) (text : List ℕ) (s : Subject)
    → IsSubjectOf k (wanted_by (record job { root = root_said (has_root k) root })) text s
    → IsSubjectOf k (wanted_by (record job { root = root })) text s
any_root Tree job root text s h = h
any_root k job root text s h = h

root_refused : (k : Command) (job : Job) (root : ℕ) (text : List ℕ) (r : Refusal)
    → RefusesBy k (wanted_by (record job { root = root_said (has_root k) root })) text r
    → RefusesBy k (wanted_by (record job { root = root })) text r
root_refused Tree job root text r h = h
root_refused k job root text r h = h

of_root : (job : Job) (root : ℕ) (ws : List Watcher) (text : List ℕ) (o : Outcome) → job.pops ≡ None
    → ComesOf (record job { root = root_said (has_root job.command) root }) ws text o
    → ComesOf (record job { root = root }) ws text o
of_root job root ws text (Refused r) out h = root_refused job.command job root text r h
of_root job root ws text (Extremal n) out h = h
of_root job root ws text o out h = record {
  facts = h.facts;
  instance = h.instance;
  made = record {
    subject = h.made.subject;
    are = any_root job.command job root text h.made.subject h.made.are;
    over = h.made.over;
  };
  run = elim h.run [
    | inl end ↦ inl end
    | inr p ↦ absurd (none-some p.pops (sym out ∙ p.asked))
  ];
}

-- so what comes of the head's line comes of the words without `--pops`
of_other : (words others : List (List ℕ)) (d : DifferInPops words others) (n : ℕ) (ws : List Watcher) (text : List ℕ)
    (o : Outcome) → ComesOf (job_of (head_of d.job n)) ws text o → ComesOf d.other ws text o
of_other words others d n ws text o h =
    let line : Job = record (default_job d.job.command) {
      stacks = d.job.stacks;
      height = height_said d.job.stacks d.job.height;
    } in
    let plain : Job = record (default_job d.job.command) {
      stacks = d.job.stacks;
      height = d.job.height;
      root = d.job.root;
    } in
    let other_is : d.other ≡ plain = other_plain words others d in
    let alike : AreAlike (record line { root = d.job.root }) plain = record {
      wanted = ap (λ (from : Origin). record (wanted_by plain) { origin = from })
          (height_alike d.job.stacks d.job.height);
      asked = refl;
    } in
    let stop : StopAsOne (record line { root = d.job.root }) plain = λ pops some. absurd (none-some pops some) in
    subst (λ j. ComesOf j ws text o) (sym other_is)
    (same_comes (record line { root = d.job.root }) plain alike stop ws text o
    (of_root line d.job.root ws text o refl h))

-- the certificate has a legal log
cert_log : (job : Job) (text out : List ℕ) (facts : Facts) (i : Instance) (placed : List Placed)
    → IsPauseCert job text out facts i placed → length (placed_text (names_for facts) i placed) ≤ 2 ^ 28
    → HasLog (cert_of job text (placed_text (names_for facts) i placed))
cert_log job text out facts i placed leaves short =
    legal_log out (cert_of job text (placed_text (names_for facts) i placed)) leaves.is (record {
      facts = facts;
      instance = i;
      made = leaves.made;
      log = records_of placed;
      read = inr (record {
        placed = placed;
        short = short;
        records = refl;
        legal = leaves.legal;
        in_layers = leaves.layered;
        text_is = refl;
      });
    })

-- the law
pub resumed_unpaused : ResumedUnpaused
resumed_unpaused words resumes others ws vs text bytes status out d (o, comes, tells) short asks (o', comes', tells') =
    let may = stopped_may words d.job d.asks d.pops d.stops in
    let line : IsOfLine d.job.command = paused_line d.job.command may.command in
    let own : ComesOf d.job ws text o =
    line_comes words d.job ws text o d.asks line comes in
    let (facts, i, placed, leaves) = ten_leaves words d.job d.asks ws text o own (sym tells.status_is) in
    let cert : Certificate = cert_of d.job text (placed_text (names_for facts) i placed) in
    let there : IsCertOf bytes cert = subst (λ b. IsCertOf b cert) (sym tells.out_is) leaves.is in
    let has = cert_log d.job text (text_of o) facts i placed leaves (short.log_short cert there) in
    let came = by_words resumes vs bytes o' Resume asks comes' in
    elim (resuming_cases ComesOf vs bytes o' came.1) [
      | inl (r, is', refused) ↦ absurd (accepted_or_refused bytes cert r short.short there has refused)
      | inr r ↦
          let resumed : ComesOf (job_of cert.head) vs cert.input o' =
          subst (λ (c : Certificate). ComesOf (job_of c.head) vs c.input o') (one_cert bytes r.cert cert r.is there)
          r.comes.comes in
          let other : ComesOf d.other vs text o' = of_other words others d (length text) vs text o' resumed in
          let command : d.job.command ≡ d.other.command =
          ap (λ (j : Job). j.command) (other_unpaused words others d) in (
            o',
            of_words others d.other vs text d.asks_other o' (by_line d.other.command d.other vs text o'
                (subst IsOfLine command line) other),
            tells',
          )
    ]
