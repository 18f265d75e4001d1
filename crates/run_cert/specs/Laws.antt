-- Theorems about certificates, and about runs that are stopped and continued.
use Rattle.std.specs.Prelude.{◌≡◌, ◌≢◌, ◌+◌, ◌<◌, ◌^◌, ℕ, List, length, Contains}
use Rattle.pop_model.specs.Instances.{Instance}
use Rattle.pop_model.specs.Extremal.{IsExtremal}
use Rattle.pop_model.specs.Logs.{LogRecord, IsLegal, replay}
use Rattle.confluence_core.specs.Laws.{RunsToEnd}
use Rattle.pop_words.specs.declared.job.Job.{Job}
use Rattle.pop_words.specs.CommandLines.{Asks}
use Rattle.pop_words.specs.Options.{paused}
use Rattle.run_cert.specs.declared.cert_refusal.CertRefusal.{CertRefusal}
use Rattle.run_cert.specs.declared.cert_refusal.CertRefusal.TheVariants.{OutOfMemory}
use Rattle.run_cert.specs.Certificates.{Certificate, IsCertOf, cert_of, cert_text}
use Rattle.run_cert.specs.Looks.{HasPoppable}
use Rattle.run_cert.specs.Refusals.{IsCertRefusal}

-- bytes are the text of at most one certificate
abbrev pub OneCertificate : Type 0
OneCertificate = (bytes : List ℕ) (cert other : Certificate) → IsCertOf bytes cert
    → IsCertOf bytes other → cert ≡ other

-- the text of a certificate is rejected only if memory runs out
abbrev pub NotRefused : Type 0
NotRefused = (bytes : List ℕ) (cert : Certificate) → IsCertOf bytes cert
    → (refusal : CertRefusal) → IsCertRefusal bytes refusal → refusal ≡ OutOfMemory

-- bytes are rejected in one way only, unless memory runs out
abbrev pub OneRefusal : Type 0
OneRefusal = (bytes : List ℕ) (a b : CertRefusal) → a ≢ OutOfMemory → b ≢ OutOfMemory
    → IsCertRefusal bytes a → IsCertRefusal bytes b → a ≡ b

-- what is printed for a job that arguments specify is the text of its certificate
abbrev pub PrintedIsRead : Type 0
PrintedIsRead = (words : List (List ℕ)) (job : Job) (input log_text : List ℕ) → Asks words job
    → Contains paused job.command → length input < 2 ^ 32
    → IsCertOf (cert_text (cert_of job input log_text)) (cert_of job input log_text)

-- On an extremal instance a run that continues from the replay of a legal log reaches the end of
-- every run. The pops of both parts sum to those of that run.
abbrev pub ResumedRun : Type 0
ResumedRun = (i : Instance) → IsExtremal i.family → (c : List ℕ) (log rest other : List LogRecord)
    → IsLegal i c log → RunsToEnd i (replay c log) rest → RunsToEnd i c other
    → (replay (replay c log) rest ≡ replay c other) × (length log + length rest ≡ length other)

-- on an extremal instance a legal log is shorter than every run to an end if an event is poppable
-- after its replay
abbrev pub OpenShorter : Type 0
OpenShorter = (i : Instance) → IsExtremal i.family → (c : List ℕ) (log other : List LogRecord)
    → IsLegal i c log → RunsToEnd i c other → HasPoppable i (replay c log)
    → length log < length other
