-- An output determines the log that it shows. If an input does not lead to a single end, its outcome is a run that is
-- resampled or one that stopped. The text of either has the text of its log. This log is legal and in layered order,
-- and so is determined by its text. A certificate says what it runs, so runs with the same certificate have one log,
-- whatever their arguments.
use Rattle.std.proofs.Common.{inl, inr, ◌≡◌, ℕ, ◌^◌, ◌<◌, Bool, true, None, Some, List, [], ◌∷◌, ◌++◌, length, map, refl, sym, ap, ap₂, subst, ◌∙◌, arith, append_assoc}
use Rattle.std.specs.Prelude.{if◌then◌else◌}
use Rattle.std.proofs.lemmas.List.{length-map}
use Rattle.pop_model.specs.Families.{Event}
use Rattle.pop_model.specs.Instances.{Instance}
use Rattle.pop_model.specs.Logs.{IsLegal, replay}
use Rattle.pop_model.specs.Runs.{start_of}
use Rattle.pop_model.proofs.Replays.{start_count}
use Rattle.confluence_core.proofs.ShortLogs.{legal_short}
use Rattle.pop_log.specs.declared.names.Names.{Names}
use Rattle.pop_log.specs.Layers.{Placed}
use Rattle.pop_log.specs.Layered.{AreInLayers}
use Rattle.pop_log.specs.LayeredTexts.{written, placed_text}
use Rattle.pop_log.proofs.OnePlaced.{one_placed}
use Rattle.pop_words.specs.declared.command.Command.TheVariants.{Resample}
use Rattle.pop_words.specs.declared.job.Job.{Job}
use Rattle.pop_words.specs.Options.{command_row}
use Rattle.pop_watch.specs.Telling.{Watcher}
use Rattle.pop_print.specs.declared.facts.Facts.{Facts}
use Rattle.pop_print.specs.declared.facts.Facts.TheVariants.{Formula as FormulaFacts}
use Rattle.pop_print.specs.Output.{end_text}
use Rattle.run_cert.specs.Certificates.{Certificate, cert_of}
use Rattle.run_cert.proofs.OneText.{one_cert}
use Rattle.told_runs.specs.Names.{names_for}
use Rattle.told_runs.specs.Witnesses.{witness_text}
use Rattle.told_runs.specs.Tellings.{Telling, records_of, layered_text, telling_text}
use Rattle.told_runs.specs.Outcomes.{Outcome, text_of}
use Rattle.told_runs.specs.Outcomes.Outcome.{Resampled, Paused}
use Rattle.job_subjects.specs.Subjects.{Subject, AreAssignments, IsOfCnf, IsSubjectOf}
use Rattle.job_subjects.specs.Made.{IsMade}
use Rattle.top_call.specs.Replays.{job_of, wanted_of}
use Rattle.top_call.specs.Answers.{origin_for, wanted_by, ComesOf, IsOutcome}
use Rattle.top_call.proofs.ByCommand.{by_kind}
use Rattle.answer_laws.specs.Laws.{Agree, shown_log}
use Rattle.answer_laws.specs.ShownLogs.{StopsBehind, AreOneRun, OneShownLog, OneStoppedRun}
use Rattle.answer_laws.proofs.MadeBounds.{AreShort, IsBounded, made_bounded, spec_short, job_short, cert_bounded}
use Rattle.answer_laws.proofs.CutLogs.{IsFront, end_front, front_cut, written_cut}
use Rattle.answer_laws.proofs.OneSubject.{one_made}
use Rattle.answer_laws.proofs.OneWords.{one_outcome}
use Rattle.answer_laws.proofs.PausedCerts.{IsPauseCert, paused_cert}
use Rattle.answer_laws.proofs.ToldSubjects.{resampled_made}
use Rattle.answer_laws.proofs.OptionKinds.{resampling_tells}

-- ---- a log and its text

-- the log is one of an instance: legal, and layered as it stands
record IsLogOf (i : Instance) (placed : List Placed) : Type 0 where
  bounded : IsBounded i
  legal : IsLegal i (start_of i) (records_of placed)
  layered : AreInLayers [] placed

-- such logs with one text are the same
one_text : (names : Names) (i : Instance) (placed another : List Placed) → IsLogOf i placed → IsLogOf i another
    → placed_text names i placed ≡ placed_text names i another → placed ≡ another
one_text names i placed another log other same =
    one_placed names i log.bounded.0 log.bounded.1 placed another log.legal other.legal log.layered other.layered same

-- it has few records
few_records : (names : Names) (i : Instance) (placed : List Placed) → IsLogOf i placed
    → length (map (written names i.family) placed) < 2 ^ 64
few_records names i placed log =
    let short = legal_short i (start_of i) (records_of placed) log.bounded.0 (start_count i) log.legal in
    let size = length-map placed (λ (p : Placed). p.0) in
    let more = length-map placed (written names i.family) in
    omega (arith, short, size, more)

-- and so are those before more
one_text_before : (names : Names) (i : Instance) (placed another : List Placed) (x y : List ℕ) → IsLogOf i placed
    → IsLogOf i another → placed_text names i placed ++ x ≡ placed_text names i another ++ y → placed ≡ another
one_text_before names i placed another x y log other same =
    one_text names i placed another log other
    (written_cut (map (written names i.family) placed) (map (written names i.family) another) x y
    (few_records names i placed log) (few_records names i another other) same)

-- ---- resamplings

-- a formula's run is told with its log
record IsToldRun (facts : Facts) (i : Instance) (placed : List Placed) (a : Telling) : Type 0 where
  n : ℕ
  facts_are : facts ≡ FormulaFacts n
  log : IsLogOf i placed
  told : a.log ≡ Some placed

-- so is what comes of a job, which resamples
told_by_line : (job : Job) → (job.command ≡ Resample → job.log ≡ true) → AreShort (origin_for job)
    → (ws : List Watcher) (text : List ℕ) (facts : Facts) (i : Instance) (placed : List Placed) (stuck : List Event)
    (a : Telling) → ComesOf job ws text (Resampled facts i placed stuck a) → IsToldRun facts i placed a
told_by_line job tells short ws text facts i placed stuck a h =
    let of = resampled_made job ws text facts i placed stuck a h in
    let s : Subject = of.made.subject in
    let is : IsOfCnf (AreAssignments true) text s =
    subst (λ k. IsSubjectOf k (wanted_by job) text s) of.by of.made.are in
    record {
      n = is.formula.variables;
      facts_are = of.made.over.facts_are ∙ ap (λ (t : Subject). t.facts) is.are.is;
      log = record {
        bounded = made_bounded (wanted_by job) text facts i short of.made;
        legal = of.leads.legal;
        layered = of.layered;
      };
      told = of.told.log_is ∙ ap (λ (asked : Bool). if asked then Some placed else None) (tells of.by);
    }

-- and what comes of words, also where a certificate is gone on with
told_run : (words : List (List ℕ)) (ws : List Watcher) (text : List ℕ) (facts : Facts) (i : Instance)
    (placed : List Placed) (stuck : List Event) (a : Telling)
    → IsOutcome words ws text (Resampled facts i placed stuck a) → IsToldRun facts i placed a
told_run words ws text facts i placed stuck a came =
    let job = came.job in
    elim (by_kind job.command job ws text (Resampled facts i placed stuck a) came.comes) [
      | inl (line, h) ↦
          told_by_line job (resampling_tells words job came.asks) (job_short words job came.asks) ws text facts i placed
          stuck a h
      | inr (inl (is, b)) ↦ let other = b.comes.is.told in absurd (cc)
      | inr (inr (is, r)) ↦
          let head = r.cert.head in
          told_by_line (job_of head) (λ (by : head.command ≡ Resample). ap (λ k. (command_row k).log) by)
          (spec_short head.stacks head.height r.is.is.head.stacks r.is.is.head.height) ws r.cert.input facts i placed
          stuck a r.comes.comes
    ]

-- what stands behind the log
abbrev behind_log : Facts → Instance → Telling → List ℕ
behind_log facts i a = witness_text (names_for facts) i.family a.witness ++ a.reports

-- the text of the log comes first in what is told of it
told_text : (facts : Facts) (i : Instance) (placed : List Placed) (a : Telling) → a.log ≡ Some placed
    → telling_text (names_for facts) i a ≡ placed_text (names_for facts) i placed ++ behind_log facts i a
told_text facts i placed a told =
    let witness : List ℕ = witness_text (names_for facts) i.family a.witness in
    ap (λ l. (layered_text (names_for facts) i l ++ witness) ++ a.reports) told
    ∙ append_assoc (placed_text (names_for facts) i placed) witness a.reports

-- the text before it has no line that begins as a log does
told_front : (facts : Facts) (i : Instance) (placed : List Placed) (a : Telling) (c : List ℕ) (pops : ℕ)
    (stuck : List Event) → IsToldRun facts i placed a → IsFront (end_text facts i c pops stuck)
told_front facts i placed a c pops stuck run =
    subst (λ f. IsFront (end_text f i c pops stuck)) (sym run.facts_are) (end_front run.n i c pops stuck)

-- where two such runs of one instance print one text, their logs are the same
one_told : (facts : Facts) (i : Instance) (placed another : List Placed) (s r : List Event) (a b : Telling)
    → IsToldRun facts i placed a → IsToldRun facts i another b
    → text_of (Resampled facts i placed s a) ≡ text_of (Resampled facts i another r b) → placed ≡ another
one_told facts i placed another s r a b run other same =
    let names = names_for facts in
    let c = replay (start_of i) (records_of placed) in
    let d = replay (start_of i) (records_of another) in
    let front : List ℕ = end_text facts i c (length placed) s in
    let front' : List ℕ = end_text facts i d (length another) r in
    let whole : front ++ (placed_text names i placed ++ behind_log facts i a)
    ≡ front' ++ (placed_text names i another ++ behind_log facts i b) =
    sym (ap (λ l. front ++ l) (told_text facts i placed a run.told)) ∙ same
    ∙ ap (λ l. front' ++ l) (told_text facts i another b other.told) in
    one_text_before names i placed another (behind_log facts i a) (behind_log facts i b) run.log other.log
    (front_cut front front' (placed_text names i placed ++ behind_log facts i a)
    (placed_text names i another ++ behind_log facts i b) (told_front facts i placed a c (length placed) s run)
    (told_front facts i another b d (length another) r other) refl refl whole)

-- ---- runs that stopped

-- the bytes are a certificate of this text and log
record HasRunOf (out text : List ℕ) (i : Instance) (placed : List Placed) : Type 0 where
  job : Job
  facts : Facts
  cert : IsPauseCert job text out facts i placed

-- what it holds
abbrev held_by : (out text : List ℕ) (i : Instance) (placed : List Placed) → HasRunOf out text i placed → Certificate
held_by out text i placed run = cert_of run.job text (placed_text (names_for run.facts) i placed)

-- the log is one of the instance
log_of : (out text : List ℕ) (i : Instance) (placed : List Placed) → HasRunOf out text i placed → IsLogOf i placed
log_of out text i placed run = record {
  bounded = cert_bounded out (held_by out text i placed run) run.cert.is run.facts i run.cert.made;
  legal = run.cert.legal;
  layered = run.cert.layered;
}

-- a pause that comes of words prints one
stopped_run : (words : List (List ℕ)) (ws : List Watcher) (text : List ℕ) (told : Job) (input : List ℕ) (facts : Facts)
    (i : Instance) (placed : List Placed) → IsOutcome words ws text (Paused told input facts i placed)
    → HasRunOf (text_of (Paused told input facts i placed)) text i placed
stopped_run words ws text told input facts i placed came =
    let job = came.job in
    elim (by_kind job.command job ws text (Paused told input facts i placed) came.comes) [
      | inl (line, h) ↦ record {
        job = job;
        facts = facts;
        cert = paused_cert words job came.asks ws text told input facts i placed h;
      }
      | inr (inl (is, b)) ↦ let other = b.comes.is.told in absurd (cc)
      | inr (inr (is, r)) ↦ absurd r.comes.goes_on
    ]

-- a certificate has one run
one_run : (out text input : List ℕ) (i j : Instance) (placed another : List Placed) → HasRunOf out text i placed
    → HasRunOf out input j another → AreOneRun text input i j placed another
one_run out text input i j placed another run other =
    let held : Certificate = held_by out text i placed run in
    let cert : Certificate = held_by out input j another other in
    let one : held ≡ cert = one_cert out held cert run.cert.is other.cert.is in
    let made : IsMade (wanted_of cert.head) cert.input run.facts i =
    subst (λ (c : Certificate). IsMade (wanted_of c.head) c.input run.facts i) one run.cert.made in
    let same = one_made (wanted_of cert.head) cert.input run.facts other.facts i j made other.cert.made in
    let log : IsLogOf j placed = subst (λ k. IsLogOf k placed) same.1 (log_of out text i placed run) in
    let texts : placed_text (names_for other.facts) j placed ≡ placed_text (names_for other.facts) j another =
    sym (ap₂ (λ (f : Facts) (k : Instance). placed_text (names_for f) k placed) same.0 same.1)
    ∙ ap (λ (c : Certificate). c.log_text) one in
    record {
      same_text = ap (λ (c : Certificate). c.input) one;
      same_instance = same.1;
      same_log = one_text (names_for other.facts) j placed another log (log_of out input j another other) texts;
    }

-- a run that is stopped prints the text of one that isn't nowhere
not_both : (facts : Facts) (i : Instance) (placed another : List Placed) (stuck : List Event) (a : Telling) (job : Job)
    (input : List ℕ) (told : Facts) (j : Instance) → IsToldRun facts i placed a
    → text_of (Resampled facts i placed stuck a) ≡ text_of (Paused job input told j another) → ⊥
not_both facts i placed another stuck a job input told j run same =
    let c = replay (start_of i) (records_of placed) in
    let rest : List ℕ = telling_text (names_for facts) i a in
    begins stuck c rest _
    (sym (ap (λ f. end_text f i c (length placed) stuck ++ rest) run.facts_are) ∙ same)
  where
    begins : (stuck : List Event) (c rest x : List ℕ) → end_text (FormulaFacts run.n) i c (length placed) stuck ++ rest ≡ 99 ∷ x
        → ⊥
    begins [] c rest x is = let first : ◌≡◌ {A = ℕ} 115 99 = cc in omega (arith, first)
    begins (e ∷ more) c rest x is = let first : ◌≡◌ {A = ℕ} 115 99 = cc in omega (arith, first)

-- ---- the laws

-- two outcomes of words, watchers and a text that print one text show one log
shown_once : (words : List (List ℕ)) (ws : List Watcher) (text : List ℕ) (o p : Outcome) → IsOutcome words ws text o
    → IsOutcome words ws text p → text_of o ≡ text_of p → Agree o p → shown_log o ≡ shown_log p
shown_once words ws text o p h h' same (inl is) = ap shown_log is
shown_once words ws text (Resampled t i l s a) (Resampled u j m r b) h h' same (inr runs) =
    let run = told_run words ws text t i l s a h in
    let other = told_run words ws text u j m r b h' in
    let facts : t ≡ u = runs.0 in
    let instance : i ≡ j = runs.1 in
    let moved : IsToldRun u j l a =
    subst (λ f. IsToldRun f j l a) facts (subst (λ k. IsToldRun t k l a) instance run) in
    let texts : text_of (Resampled u j l s a) ≡ text_of (Resampled u j m r b) =
    sym (ap₂ (λ (f : Facts) (k : Instance). text_of (Resampled f k l s a)) facts instance) ∙ same in
    ap (λ (n : List Placed). Some n) (one_told u j l m s r a b moved other texts)
shown_once words ws text (Resampled t i l s a) (Paused k x u j m) h h' same (inr runs) =
    absurd (not_both t i l m s a k x u j (told_run words ws text t i l s a h) same)
shown_once words ws text (Paused k x u j m) (Resampled t i l s a) h h' same (inr runs) =
    absurd (not_both t i l m s a k x u j (told_run words ws text t i l s a h') (sym same))
shown_once words ws text (Paused k x t i l) (Paused n y u j m) h h' same (inr runs) =
    let run = stopped_run words ws text k x t i l h in
    let other : HasRunOf (text_of (Paused k x t i l)) text j m =
    subst (λ out. HasRunOf out text j m) (sym same) (stopped_run words ws text n y u j m h') in
    ap (λ (n : List Placed). Some n) (one_run (text_of (Paused k x t i l)) text text i j l m run other).same_log
shown_once words ws text o p h h' same (inr runs) = absurd runs

-- so an output shows one
pub one_shown_log : OneShownLog
one_shown_log words ws text log another status other out (o, (comes, shows), tells) (p, (comes', shows'), tells') =
    sym shows ∙ shown_once words ws text o p comes comes' (sym tells.out_is ∙ tells'.out_is)
    (one_outcome words ws ws text o p (λ job asks plain log. refl) comes comes') ∙ shows'

-- an outcome of a run that stopped has it in its certificate
run_of : (words : List (List ℕ)) (ws : List Watcher) (text : List ℕ) (i : Instance) (placed : List Placed) (o : Outcome)
    → IsOutcome words ws text o → StopsBehind i placed o → HasRunOf (text_of o) text i placed
run_of words ws text i placed (Paused told input facts j stopped) h (instance, log) =
    subst (HasRunOf (text_of (Paused told input facts j stopped)) text i) log
    (subst (λ k. HasRunOf (text_of (Paused told input facts j stopped)) text k stopped) instance
    (stopped_run words ws text told input facts j stopped h))
run_of words ws text i placed o h stops = absurd stops

-- and so a certificate is that of one run
pub one_stopped_run : OneStoppedRun
one_stopped_run words others ws vs text input i j placed another status other out (o, (h, stops), tells)
    (p, (h', stops'), tells') =
    one_run out text input i j placed another
    (subst (λ x. HasRunOf x text i placed) (sym tells.out_is) (run_of words ws text i placed o h stops))
    (subst (λ x. HasRunOf x input j another) (sym tells'.out_is) (run_of others vs input j another p h' stops'))
