-- The outcome of a certificate that is accepted, or rejected, is the outcome of its bytes.
use Rattle.std.proofs.Common.{inl, inr, ◌≡◌, ◌<◌, ℕ, List, length, Option, Some, Result, Ok, Err, IfOk, IfErr, IfSome, refl, sym, ap, subst, ◌∙◌, ◌++◌, arith, length-append}
use Rattle.std.specs.Result.{IsErrAnd, IsErrOf}
use Rattle.pop_model.specs.Instances.{Instance}
use Rattle.pop_log.specs.declared.log_refusal.LogRefusal.{LogRefusal}
use Rattle.pop_log.specs.declared.log_refusal.LogRefusal.TheVariants.{OutOfMemory}
use Rattle.pop_print.specs.declared.facts.Facts.{Facts}
use Rattle.pop_log.specs.LogVersions.{IsReadAs}
use Rattle.pop_log.specs.Refusals.{IsLogRefusal}
use Rattle.confluence_core.specs.declared.reached.Reached.{Reached}
use Rattle.run_cert.specs.declared.look_kind.Look.{Look}
use Rattle.run_cert.specs.Looks.{IsLook}
use Rattle.run_cert.specs.Certificates.{Certificate}
use Rattle.top_call.specs.declared.accepted.Accepted.{Accepted}
use Rattle.job_subjects.specs.declared.refusal.Refusal.{Refusal}
use Rattle.job_subjects.specs.declared.refusal.Refusal.TheVariants.{Stopped}
use Rattle.job_subjects.specs.declared.stop.Stop.TheVariants.{ReadFault}
use Rattle.told_runs.specs.Names.{names_for}
use Rattle.told_runs.specs.ReplayTexts.{look_status, replay_text}
use Rattle.told_runs.specs.Outcomes.{AnswersBy}
use Rattle.told_runs.specs.Outcomes.Outcome.{Replayed}
use Rattle.job_subjects.specs.declared.answer.Answer.{Answer}
use Rattle.job_subjects.specs.Refusals.{IsRefusal, IsPastWords, unlogged}
use Rattle.job_subjects.specs.Refused.{RefusesText}
use Rattle.top_call.specs.Replays.{cert_limit, wanted_of, IsCertified, IsRefusedCert, IsRefused, HasLog, ComesOfReplaying}
use Rattle.top_call.specs.Accepted.{IsHeldBy, IsAccepted, TellsReplay}
use Rattle.job_subjects.proofs.Carrying.{refused_by, refused_result_by, passed_on}
use Rattle.job_subjects.proofs.TextRefusals.{IsOfInput}
use Rattle.top_call.proofs.ByCommand.{refused_input}
use Rattle.top_call.proofs.Statuses.{past_words}
use Rattle.top_call.proofs.ReadToEnd.{of_read}
use Rattle.top_call.specs.Whole.{IsReadTo}

-- what refuses the input refuses the certificate
pub line_refused : (cert : Certificate) (r : Refusal) → IsRefusal (RefusesText (wanted_of cert.head) cert.input) r
    → IsRefusal (IsRefusedCert cert) r
line_refused cert r h =
    refused_by (RefusesText (wanted_of cert.head) cert.input) (IsRefusedCert cert) r (λ q bad. inl bad) h

-- so does what refuses its log text
pub text_refused : (cert : Certificate) (facts : Facts) (i : Instance) (r : Refusal) → IsCertified cert facts i
    → ((cause : LogRefusal) × IsLogRefusal (names_for facts) i cert.log_text cause × (r ≡ unlogged cause))
    → IsRefusal (IsRefusedCert cert) r
text_refused cert facts i r certified (OutOfMemory, refused, is) = inl is
text_refused cert facts i r certified (cause, refused, is) =
    inr (inr (record {
      facts = facts;
      instance = i;
      certified = certified;
      cause = cause;
      of_text = λ memory. absurd (cc);
      refused = refused;
      is = is;
    }))

-- bytes past the limit are refused as the longer text that they are a front of
front_refused : (front rest : List ℕ) → cert_limit < length front → (r : Refusal) → IsRefused front r
    → IsRefused (front ++ rest) r
front_refused front rest long r (inl (inl (past, is))) = inl (inl (omega (arith, long, length-append front rest), is))
front_refused front rest long r (inl (inr (short, bad))) = absurd (omega (arith, long, short))
front_refused front rest long r (inr comes) = let short = comes.short in absurd (omega (arith, long, short))

-- what was read of a text is accepted as it
pub read_accepted : (left left' : Option (List ℕ)) (text : List ℕ) (a : Accepted) → left ≡ Some text
    → ((bytes : List ℕ) × IsReadTo cert_limit left left' bytes × IsAccepted bytes a) → IsAccepted text a
read_accepted left left' text a known (bytes, read, h) =
    of_read (λ t. IsAccepted t a) cert_limit left left' text bytes known read
    (λ rest long. let short = h.short in absurd (omega (arith, long, short))) h

-- the log of a certificate that is accepted
abbrev pub held_log : (cert : Certificate) (a : Accepted) → IsHeldBy cert a → HasLog cert
held_log cert a held = record {
  facts = a.facts;
  instance = a.instance;
  certified = held.certified;
  log = held.run.leads.log;
  read = subst (λ kept. IfSome kept (IsReadAs (names_for a.facts) a.instance cert.log_text)) held.run.leads.log_is held.read;
}

-- what is told of how its run stands
pub look_told : {E : Type 0} (i : Instance) (reached : Reached) (look : Look) (r : Result Answer E)
    → IsLook i reached.cursors look → IfOk r (λ a. a.status ≡ look_status look)
    → IfOk r (λ a. a.text.items ≡ replay_text reached.pops reached.cursors look)
    → IfOk r (λ a. TellsReplay i reached a.status a.text.items)
look_told i reached look (Ok a) is status_is text_is =
    record { look = look; is = is; status_is = status_is; text_is = text_is }
look_told i reached look (Err e) is status_is text_is = tt

-- what is told of its replay
pub replay_told : (bytes : List ℕ) (a : Accepted) (status : ℕ) (out : List ℕ) → IsAccepted bytes a
    → TellsReplay a.instance a.reached status out → AnswersBy (ComesOfReplaying bytes) status out
replay_told bytes a status out h told =
    let leads = h.held.run.leads in
    let size : a.reached.pops ≡ length leads.log = omega (arith, leads.pops_are) in (
      Replayed a.instance a.reached.cursors (length leads.log) told.look,
      record {
        short = h.short;
        cert = h.cert;
        is = h.is;
        comes = record {
          has = held_log h.cert a h.held;
          is = record {
            cursors = a.reached.cursors;
            cursors_are = leads.cursors_are;
            look = told.look;
            is = told.is;
            told = refl;
          };
        };
      },
      record {
        status_is = told.status_is;
        out_is = told.text_is ∙ ap (λ n. replay_text n a.reached.cursors told.look) size;
      },
    )

-- what refuses the bytes that were read refuses the text of the source
pub read_result : {T : Type 0} (left left' : Option (List ℕ)) (text bytes input : List ℕ) (r : Result T Refusal)
    → left ≡ Some text → IsReadTo cert_limit left left' bytes → input ≡ bytes
    → IfErr r (IsRefusal (IsRefused input)) → IfErr r (IsRefusal (IsRefused text))
read_result left left' text bytes input r known read same refused =
    let own = subst (λ b. IfErr r (IsRefusal (IsRefused b))) same refused in
    of_read (λ t. IfErr r (IsRefusal (IsRefused t))) cert_limit left left' text bytes known read
    (λ rest long. refused_result_by (IsRefused bytes) (IsRefused (bytes ++ rest)) r (front_refused bytes rest long) own)
    own

-- it is no refusal of words
pub bytes_past_words : (bytes : List ℕ) (r : Refusal) → IsRefusal (IsRefused bytes) r → IsPastWords r
bytes_past_words bytes r (inl memory) = subst IsPastWords (sym memory) tt
bytes_past_words bytes r (inr h) = past_words r (refused_input bytes r h)

-- nor a fault of the source
pub bytes_unfailing : {T : Type 0} (bytes : List ℕ) (r : Result T Refusal)
    → IfErr r (IsRefusal (IsRefused bytes)) → IsErrOf r (Stopped ReadFault) → ⊥
bytes_unfailing bytes (Ok a) h is = absurd (cc)
bytes_unfailing bytes (Err e) (inl memory) is = let same : e ≡ Stopped ReadFault = cc in absurd (cc)
bytes_unfailing bytes (Err e) (inr h) is =
    let same : e ≡ Stopped ReadFault = cc in subst IsOfInput same (refused_input bytes e h)

-- a fault of the source that is passed on is one
pub same_fault : {T U : Type 0} (r : Result T Refusal) (e : Refusal) → IsErrAnd r (λ x. x ≡ e)
    → IsErrOf {T = U} (Err e) (Stopped ReadFault) → IsErrOf r (Stopped ReadFault)
same_fault {T} {U} r e is failed = let same : e ≡ Stopped ReadFault = cc in passed_on r e is ∙ ap (λ x. Err x) same
