-- The outcome of a job by its command: by the command's line, or for a certificate that is replayed or resumed.
use Rattle.std.proofs.Common.{inl, inr, ◌≡◌, ◌≢◌, ◌⊎◌, ℕ, List, Result, refl, ap}
use Rattle.pop_words.specs.declared.command.Command.{Command}
use Rattle.pop_words.specs.declared.command.Command.TheVariants.{Replay, Resume}
use Rattle.pop_words.specs.declared.command.Input.TheVariants.{Certificate}
use Rattle.pop_words.specs.Options.{input_of}
use Rattle.pop_words.specs.declared.job.Job.{Job}
use Rattle.pop_watch.specs.Telling.{Watcher}
use Rattle.pop_log.specs.declared.log_refusal.LogRefusal.{LogRefusal}
use Rattle.pop_log.specs.declared.log_refusal.LogRefusal.TheVariants.{OutOfMemory as LogMemory}
use Rattle.run_cert.specs.Certificates.{Certificate as Cert}
use Rattle.job_subjects.specs.declared.answer.Answer.{Answer}
use Rattle.job_subjects.specs.declared.refusal.Refusal.{Refusal}
use Rattle.job_subjects.specs.Refusals.{IsRefusal, unlogged}
use Rattle.job_subjects.proofs.TextRefusals.{IsOfInput, of_same, of_text}
use Rattle.told_runs.specs.Outcomes.{Outcome}
use Rattle.told_runs.specs.Outcomes.Outcome.{Refused}
use Rattle.told_runs.specs.Results.{ComesRefused, IsResultOf}
use Rattle.top_call.specs.Replays.{wanted_of, IsRefusedCert, IsRefused, ComesOfReplaying}
use Rattle.top_call.specs.Resumes.{ComesOfResuming}
use Rattle.top_call.specs.Answers.{wanted_by, ComesOf, IsOfLine, ComesBy}
use Rattle.top_call.proofs.Carrying.{carried}

-- what comes of a command's line comes by the command, where it reads no certificate
pub by_line : (k : Command) (job : Job) (ws : List Watcher) (text : List ℕ) (o : Outcome) → IsOfLine k
    → ComesOf job ws text o → ComesBy k job ws text o
by_line Replay job ws text o line h = absurd line
by_line Resume job ws text o line h = absurd line
by_line k job ws text o line h = h

-- so does an answer to it
pub line_result : (k : Command) (job : Job) (ws : List Watcher) (text : List ℕ) (r : Result Answer Refusal) → IsOfLine k
    → IsResultOf (ComesOf job ws text) r → IsResultOf (ComesBy k job ws text) r
line_result k job ws text r line comes =
    carried (ComesOf job ws text) (ComesBy k job ws text) r (λ o h. by_line k job ws text o line h) comes

-- a command that neither replays nor resumes one reads no certificate
pub reads_no_cert : (k : Command) → (k ≡ Replay → ⊥) → (k ≡ Resume → ⊥) → IsOfLine k
reads_no_cert Replay other more = absurd (other refl)
reads_no_cert Resume other more = absurd (more refl)
reads_no_cert k other more = tt

-- a command reads one by its input
pub cert_line : (k : Command) → input_of k ≡ Certificate → IsOfLine k → ⊥
cert_line Replay cert line = line
cert_line Resume cert line = line
cert_line k cert line = absurd (cc)

pub line_by_input : (k : Command) → (input_of k ≡ Certificate → ⊥) → IsOfLine k
line_by_input k other =
    reads_no_cert k (λ is. other (ap input_of is)) (λ is. other (ap input_of is))

-- and one that does, and goes on with no run, replays it
pub is_replay : (k : Command) → input_of k ≡ Certificate → (k ≡ Resume → ⊥) → k ≡ Replay
is_replay Replay cert other = refl
is_replay Resume cert other = absurd (other refl)
is_replay k cert other = absurd (cert_line k cert tt)

-- what refuses a certificate comes by the command that reads it
pub cert_refused : (k : Command) (job : Job) (ws : List Watcher) (text : List ℕ) (r : Refusal)
    → input_of k ≡ Certificate → IsRefusal (IsRefused text) r → ComesRefused (ComesBy k job ws text) r
cert_refused Replay job ws text r cert h = h
cert_refused Resume job ws text r cert h = h
cert_refused k job ws text r cert h = absurd (cert_line k cert tt)

-- and the other way round: what comes by the command comes of the line
pub of_line : (k : Command) (job : Job) (ws : List Watcher) (text : List ℕ) (o : Outcome) → IsOfLine k
    → ComesBy k job ws text o → ComesOf job ws text o
of_line Replay job ws text o line h = absurd line
of_line Resume job ws text o line h = absurd line
of_line k job ws text o line h = h

-- it comes of the line, or of a certificate
abbrev pub Kinds : Command → Job → List Watcher → List ℕ → Outcome → Type 0
Kinds k job ws text o =
    (IsOfLine k × ComesOf job ws text o)
    ⊎ (((k ≡ Replay) × ComesOfReplaying text o) ⊎ ((k ≡ Resume) × ComesOfResuming ComesOf ws text o))

pub by_kind : (k : Command) (job : Job) (ws : List Watcher) (text : List ℕ) (o : Outcome) → ComesBy k job ws text o
    → Kinds k job ws text o
by_kind Replay job ws text o h = inr (inl (refl, h))
by_kind Resume job ws text o h = inr (inr (refl, h))
by_kind k job ws text o h = inl (tt, h)

-- a log text that is refused is told
log_input : (cause : LogRefusal) → cause ≢ LogMemory → IsOfInput (unlogged cause)
log_input LogMemory of = of refl
log_input cause of = tt

-- and so is what refuses a job's text
pub line_input : (job : Job) (ws : List Watcher) (text : List ℕ) (r : Refusal) → ComesOf job ws text (Refused r)
    → IsOfInput r
line_input job ws text r h = of_text (wanted_by job) text r h

-- a certificate is refused as its input is, or for its log, which is told
cert_input : (cert : Cert) (r : Refusal) → IsRefusedCert cert r → IsOfInput r
cert_input cert r (inl h) = of_text (wanted_of cert.head) cert.input r h
cert_input cert r (inr log) = of_same r (unlogged log.cause) log.is (log_input log.cause log.of_text)

-- and so are bytes that are none
pub refused_input : (bytes : List ℕ) (r : Refusal) → IsRefused bytes r → IsOfInput r
refused_input bytes r (inl (inl (long, is))) = of_same r _ is tt
refused_input bytes r (inl (inr (short, (l, code, bad, is)))) = of_same r _ is tt
refused_input bytes r (inr a) = cert_input a.cert r a.comes
