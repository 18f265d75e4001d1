-- The outcome of a certificate that is replayed: it is rejected, or its log is legal and leads to
-- cursors.
use Rattle.std.specs.Prelude.{◌≡◌, ◌≢◌, ◌⊎◌, ℕ, ◌<◌, ◌≤◌, ◌^◌, List, length, None}
use Rattle.pop_model.specs.Instances.{Instance, IsInstance}
use Rattle.pop_model.specs.Logs.{LogRecord, replay}
use Rattle.pop_model.specs.Runs.{start_of}
use Rattle.pop_stacks.specs.Tables.{origin_of}
use Rattle.pop_log.specs.Candidates.{NumbersFit}
use Rattle.pop_log.specs.LogVersions.{IsReadAs}
use Rattle.pop_log.specs.Refusals.{IsLogRefusal}
use Rattle.pop_log.specs.declared.log_refusal.LogRefusal.{LogRefusal}
use Rattle.pop_log.specs.declared.log_refusal.LogRefusal.TheVariants.{OutOfMemory}
use Rattle.pop_words.specs.declared.job.Job.{Job}
use Rattle.pop_words.specs.Options.{default_job}
use Rattle.pop_print.specs.declared.facts.Facts.{Facts}
use Rattle.run_cert.specs.declared.cert_refusal.CertRefusal.TheVariants.{Malformed as MalformedCert}
use Rattle.run_cert.specs.declared.look_kind.Look.{Look}
use Rattle.run_cert.specs.Heads.{Head}
use Rattle.run_cert.specs.Certificates.{Certificate, IsCertOf}
use Rattle.run_cert.specs.Refusals.{IsCertRefusal}
use Rattle.run_cert.specs.Looks.{IsLook}
use Rattle.job_subjects.specs.declared.wanted.Wanted.{Wanted}
use Rattle.job_subjects.specs.declared.refusal.Refusal.{Refusal}
use Rattle.job_subjects.specs.declared.refusal.Refusal.TheVariants.{Limit, Malformed}
use Rattle.job_subjects.specs.Refusals.{unlogged}
use Rattle.told_runs.specs.Names.{names_for}
use Rattle.job_subjects.specs.Made.{IsMade}
use Rattle.job_subjects.specs.Refused.{RefusesText}
use Rattle.told_runs.specs.Outcomes.{Outcome}
use Rattle.told_runs.specs.Outcomes.Outcome.{Refused, Replayed}

-- the largest number of bytes of a certificate
abbrev pub cert_limit : ℕ
cert_limit = 2 ^ 29

-- the job of the command line with the command, the stacks, the height and the root of a head
abbrev pub job_of : Head → Job
job_of head =
    record (default_job head.command) {
      stacks = head.stacks;
      height = head.height;
      root = head.root;
    }

-- what is wanted of the input of a head: one run of its command
abbrev pub wanted_of : Head → Wanted
wanted_of head = record {
  command = head.command;
  origin = origin_of head.stacks head.height;
  count = None;
  root = head.root;
  side = 0;
}

-- the bytes are too many, or not a certificate
abbrev pub IsNoCert : List ℕ → Refusal → Type 0
IsNoCert bytes refusal =
    ((cert_limit < length bytes) × (refusal ≡ Limit 8 1))
    ⊎ ((length bytes ≤ cert_limit) × ((l code : ℕ) × IsCertRefusal bytes (MalformedCert l code)
    × (refusal ≡ Malformed l code)))

-- the bytes are a certificate with this outcome
pub record ComesOfCert {T : Type 0} (Comes : Certificate → T → Type 0) (bytes : List ℕ) (x : T)
    : Type 0 where
  pub short : length bytes ≤ cert_limit
  pub cert : Certificate
  pub is : IsCertOf bytes cert
  pub comes : Comes cert x

-- what the certificate's command runs, made of its input and its stacks; its events have numbers
-- of 32 bits
pub record IsCertified (cert : Certificate) (facts : Facts) (i : Instance) : Type 0 where
  pub made : IsMade (wanted_of cert.head) cert.input facts i
  pub is : IsInstance i
  pub numbers : NumbersFit i.family

-- the text of the log is rejected
pub record IsLogRefused (cert : Certificate) (refusal : Refusal) : Type 0 where
  pub facts : Facts
  pub instance : Instance
  pub certified : IsCertified cert facts instance
  pub cause : LogRefusal
  pub of_text : cause ≢ OutOfMemory
  pub refused : IsLogRefusal (names_for facts) instance cert.log_text cause
  pub is : refusal ≡ unlogged cause

-- A certificate is rejected for its input or for the text of its log.
abbrev pub IsRefusedCert : Certificate → Refusal → Type 0
IsRefusedCert cert refusal =
    RefusesText (wanted_of cert.head) cert.input refusal ⊎ IsLogRefused cert refusal

-- the bytes are not a certificate, or are one that is rejected
abbrev pub IsRefused : List ℕ → Refusal → Type 0
IsRefused bytes refusal = IsNoCert bytes refusal ⊎ ComesOfCert IsRefusedCert bytes refusal

-- the text of the log is that of a legal log
pub record HasLog (cert : Certificate) : Type 0 where
  pub facts : Facts
  pub instance : Instance
  pub certified : IsCertified cert facts instance
  pub log : List LogRecord
  pub read : IsReadAs (names_for facts) instance cert.log_text log

-- the cursors after the replay of a legal log, and the state of the run there
pub record IsReplay (i : Instance) (log : List LogRecord) (o : Outcome) : Type 0 where
  pub cursors : List ℕ
  pub cursors_are : cursors ≡ replay (start_of i) log
  pub look : Look
  pub is : IsLook i cursors look
  pub told : o ≡ Replayed i cursors (length log) look

-- the certificate is replayed
pub record IsReplayed (cert : Certificate) (o : Outcome) : Type 0 where
  pub has : HasLog cert
  pub is : IsReplay has.instance has.log o

-- the outcome of bytes that are replayed
abbrev pub ComesOfReplaying : List ℕ → Outcome → Type 0
ComesOfReplaying bytes (Refused refusal) = IsRefused bytes refusal
ComesOfReplaying bytes o = ComesOfCert IsReplayed bytes o
