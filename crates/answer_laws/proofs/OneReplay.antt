-- Bytes that are replayed or resumed have at most one outcome, except for the order of pops of `resample`. They are
-- too many, or they are no certificate with one error, or they are one certificate. What its command runs has one
-- error, or is made as one thing. Its log text has one error, or is that of one log.
use Rattle.std.proofs.Common.{inl, inr, ◌≡◌, ◌≤◌, ℕ, List, length, refl, sym, ap, ap₂, subst, ◌∙◌, arith, ◌<◌}
use Rattle.pop_model.specs.Instances.{Instance}
use Rattle.pop_model.specs.Logs.{LogRecord}
use Rattle.pop_log.specs.LogVersions.{IsReadAs}
use Rattle.pop_log.specs.Refusals.{IsLogRefusal}
use Rattle.pop_log.proofs.ExactReading.{exact_reading, read_once}
use Rattle.pop_log.proofs.OneRefusal.{one_refusal as log_refused_once}
use Rattle.pop_watch.specs.Telling.{Watcher}
use Rattle.run_cert.specs.declared.look_kind.Look.{Look}
use Rattle.run_cert.specs.declared.look_kind.Look.TheVariants.{Finished, Exhausted, Open}
use Rattle.run_cert.specs.declared.cert_refusal.CertRefusal.TheVariants.{Malformed as MalformedCert, OutOfMemory as CertMemory}
use Rattle.run_cert.specs.Certificates.{Certificate, IsCertOf}
use Rattle.run_cert.specs.Looks.{IsLook}
use Rattle.run_cert.proofs.OneText.{one_cert}
use Rattle.run_cert.proofs.Unrefused.{unrefused, one_refusal as cert_refused_once}
use Rattle.run_cert.specs.Refusals.{IsCertRefusal}
use Rattle.pop_print.specs.declared.facts.Facts.{Facts}
use Rattle.job_subjects.specs.declared.refusal.Refusal.{Refusal}
use Rattle.job_subjects.specs.declared.refusal.Refusal.TheVariants.{Malformed, Limit}
use Rattle.job_subjects.specs.Refusals.{unlogged}
use Rattle.job_subjects.specs.Refused.{RefusesText}
use Rattle.told_runs.specs.Names.{names_for}
use Rattle.told_runs.specs.Outcomes.{Outcome}
use Rattle.told_runs.specs.Outcomes.Outcome.{Replayed}
use Rattle.top_call.specs.Replays.{cert_limit, job_of, wanted_of, IsNoCert, IsCertified, IsLogRefused, IsRefusedCert, IsRefused, HasLog, IsReplay, IsReplayed, ComesOfReplaying, ComesOfCert}
use Rattle.top_call.specs.Resumes.{ComesOfResuming, IsResumed}
use Rattle.top_call.specs.Answers.{ComesOf}
use Rattle.answer_laws.specs.Orders.{HasOneEnd}
use Rattle.answer_laws.specs.Laws.{Agree}
use Rattle.answer_laws.proofs.RefusedStacks.{IsOneRefusal, one_or}
use Rattle.answer_laws.proofs.RefusedOr.{IsApart, alike_or, replaying_cases, resuming_cases}
use Rattle.answer_laws.proofs.OneSubject.{moved}
use Rattle.answer_laws.proofs.OneRefusal.{one_text_refusal, made_unrefused}
use Rattle.answer_laws.proofs.OneOutcome.{alike_read, one_read}

-- bytes that are no certificate are refused in one way
one_malformed : (bytes : List ℕ) → IsOneRefusal (λ r. (l code : ℕ) × IsCertRefusal bytes (MalformedCert l code)
    × (r ≡ Malformed l code))
one_malformed bytes r s (l, code, bad, is) (m, other, bad', is') =
    let same : MalformedCert l code ≡ MalformedCert m other =
    cert_refused_once bytes (MalformedCert l code) (MalformedCert m other) (λ is. absurd (cc)) (λ is. absurd (cc)) bad bad' in
    let line : l ≡ m = cc in
    let codes : code ≡ other = cc in
    is ∙ ap₂ Malformed line codes ∙ sym is'

one_no_cert : (bytes : List ℕ) → IsOneRefusal (IsNoCert bytes)
one_no_cert bytes =
    one_or (λ r. (cert_limit < length bytes) × (r ≡ Limit 8 1))
    (λ r. (length bytes ≤ cert_limit) × ((l code : ℕ) × IsCertRefusal bytes (MalformedCert l code)
    × (r ≡ Malformed l code)))
    (λ r s a b. a.1 ∙ sym b.1) (λ r s a b. one_malformed bytes r s a.1 b.1)
    (λ r s (long, is) (short, bad). omega (arith, long, short))

-- those that are one aren't
no_cert_or_cert : (bytes : List ℕ) (cert : Certificate) (r : Refusal) → length bytes ≤ cert_limit → IsCertOf bytes cert
    → IsNoCert bytes r → ⊥
no_cert_or_cert bytes cert r short is (inl (long, told)) = omega (arith, long, short)
no_cert_or_cert bytes cert r short is (inr (short', (l, code, bad, told))) =
    let memory : MalformedCert l code ≡ CertMemory = unrefused bytes cert is (MalformedCert l code) bad in absurd (cc)

-- what holds of what a certificate runs holds of it wherever it is certified
of_certified : (P : Facts → Instance → Type 0) (cert : Certificate) (facts told : Facts) (i j : Instance)
    → IsCertified cert facts i → IsCertified cert told j → P facts i → P told j
of_certified P cert facts told i j a b = moved P (wanted_of cert.head) cert.input facts told i j a.made b.made

-- a log text is refused in one way
one_log_refused : (cert : Certificate) → IsOneRefusal (IsLogRefused cert)
one_log_refused cert r s a b =
    let here : IsLogRefusal (names_for b.facts) b.instance cert.log_text a.cause =
    of_certified (λ t i. IsLogRefusal (names_for t) i cert.log_text a.cause) cert a.facts b.facts a.instance b.instance
    a.certified b.certified a.refused in
    a.is ∙ ap unlogged (log_refused_once (names_for b.facts) b.instance b.certified.is b.certified.numbers
    cert.log_text a.cause b.cause a.of_text b.of_text here b.refused) ∙ sym b.is

-- one that is that of a log isn't
log_or_refused : (cert : Certificate) (r : Refusal) → IsLogRefused cert r → HasLog cert → ⊥
log_or_refused cert r a b =
    let here : IsLogRefusal (names_for b.facts) b.instance cert.log_text a.cause =
    of_certified (λ t i. IsLogRefusal (names_for t) i cert.log_text a.cause) cert a.facts b.facts a.instance b.instance
    a.certified b.certified a.refused in
    a.of_text (exact_reading (names_for b.facts) b.instance b.certified.is b.certified.numbers cert.log_text b.log b.read
    a.cause here)

-- a certificate is refused in one way
one_refused_cert : (cert : Certificate) → IsOneRefusal (IsRefusedCert cert)
one_refused_cert cert =
    one_or (RefusesText (wanted_of cert.head) cert.input) (IsLogRefused cert)
    (one_text_refusal (wanted_of cert.head) cert.input) (one_log_refused cert)
    (λ r s h b. made_unrefused (wanted_of cert.head) cert.input b.facts b.instance r b.certified.made h)

-- and not where it has a log
log_or_refused_cert : (cert : Certificate) (r : Refusal) → IsRefusedCert cert r → HasLog cert → ⊥
log_or_refused_cert cert r (inl h) b =
    made_unrefused (wanted_of cert.head) cert.input b.facts b.instance r b.certified.made h
log_or_refused_cert cert r (inr a) b = log_or_refused cert r a b

-- bytes are refused in one way
one_refused : (bytes : List ℕ) → IsOneRefusal (IsRefused bytes)
one_refused bytes =
    one_or (IsNoCert bytes) (ComesOfCert IsRefusedCert bytes) (one_no_cert bytes)
    (λ r s a b. one_refused_cert b.cert r s
    (subst (λ c. IsRefusedCert c r) (one_cert bytes a.cert b.cert a.is b.is) a.comes) b.comes)
    (λ r s h b. no_cert_or_cert bytes b.cert r b.short b.is h)

-- and not where they are a certificate that has a log
pub accepted_or_refused : (bytes : List ℕ) (cert : Certificate) (r : Refusal) → length bytes ≤ cert_limit
    → IsCertOf bytes cert → HasLog cert → IsRefused bytes r → ⊥
accepted_or_refused bytes cert r short is has (inl h) = no_cert_or_cert bytes cert r short is h
accepted_or_refused bytes cert r short is has (inr a) =
    log_or_refused_cert cert r (subst (λ c. IsRefusedCert c r) (one_cert bytes a.cert cert a.is is) a.comes) has

-- a run stands in one way
one_look : (i : Instance) (c : List ℕ) (a b : Look) → IsLook i c a → IsLook i c b → a ≡ b
one_look i c Finished b h h' = sym (h'.finished_is.1 (h.finished_is.0 refl))
one_look i c Open b h h' = sym (h'.open_is.1 (h.open_is.0 refl))
one_look i c Exhausted Finished h h' = h.finished_is.1 (h'.finished_is.0 refl)
one_look i c Exhausted Open h h' = h.open_is.1 (h'.open_is.0 refl)
one_look i c Exhausted Exhausted h h' = refl

-- a log has one replay
one_replay : (i : Instance) (log : List LogRecord) (o p : Outcome) → IsReplay i log o → IsReplay i log p → o ≡ p
one_replay i log o p a b =
    let cursors = a.cursors_are ∙ sym b.cursors_are in
    let look = one_look i b.cursors a.look b.look (subst (λ c. IsLook i c a.look) cursors a.is) b.is in
    a.told ∙ ap₂ (λ c k. Replayed i c (length log) k) cursors look ∙ sym b.told

-- and a certificate one log
one_replayed : (cert : Certificate) (o p : Outcome) → IsReplayed cert o → IsReplayed cert p → o ≡ p
one_replayed cert o p a b =
    let x = a.has in
    let y = b.has in
    let here : IsReadAs (names_for y.facts) y.instance cert.log_text x.log =
    of_certified (λ t i. IsReadAs (names_for t) i cert.log_text x.log) cert x.facts y.facts x.instance y.instance
    x.certified y.certified x.read in
    let log = read_once (names_for y.facts) y.instance y.certified.is y.certified.numbers cert.log_text x.log y.log here
    y.read in
    one_replay y.instance y.log o p
    (subst (λ l. IsReplay y.instance l o) log
    (of_certified (λ t i. IsReplay i x.log o) cert x.facts y.facts x.instance y.instance x.certified y.certified a.is)) b.is

-- bytes that are replayed aren't refused
replayed_apart : (bytes : List ℕ) → IsApart (IsRefused bytes) (ComesOfCert IsReplayed bytes)
replayed_apart bytes r refused o b = accepted_or_refused bytes b.cert r b.short b.is b.comes.has refused

-- so they have one outcome
pub one_replaying : (bytes : List ℕ) (o p : Outcome) → ComesOfReplaying bytes o → ComesOfReplaying bytes p → o ≡ p
one_replaying bytes o p h h' =
    alike_or (λ o p. o ≡ p) (λ o p is. is) (IsRefused bytes) (one_refused bytes) (ComesOfCert IsReplayed bytes)
    (ComesOfCert IsReplayed bytes) (replayed_apart bytes) (replayed_apart bytes)
    (λ o p a b. one_replayed b.cert o p (subst (λ c. IsReplayed c o) (one_cert bytes a.cert b.cert a.is b.is) a.comes)
    b.comes) o p (replaying_cases bytes o h) (replaying_cases bytes p h')

-- those that are resumed aren't refused
resumed_apart : (ws : List Watcher) (bytes : List ℕ)
    → IsApart (IsRefused bytes) (ComesOfCert (IsResumed ComesOf ws) bytes)
resumed_apart ws bytes r refused o b = accepted_or_refused bytes b.cert r b.short b.is b.comes.has refused

-- their outcomes are alike where those of the line of the certificate's command are
pub alike_resumed : (Alike : Outcome → Outcome → Type 0) → ((o p : Outcome) → o ≡ p → Alike o p)
    → (ws vs : List Watcher) (bytes : List ℕ) → ((cert : Certificate) → IsCertOf bytes cert → (o p : Outcome)
    → ComesOf (job_of cert.head) ws cert.input o → ComesOf (job_of cert.head) vs cert.input p → Alike o p)
    → (o p : Outcome) → ComesOfResuming ComesOf ws bytes o → ComesOfResuming ComesOf vs bytes p → Alike o p
alike_resumed Alike same ws vs bytes alike o p h h' =
    alike_or Alike same (IsRefused bytes) (one_refused bytes) (ComesOfCert (IsResumed ComesOf ws) bytes)
    (ComesOfCert (IsResumed ComesOf vs) bytes) (resumed_apart ws bytes) (resumed_apart vs bytes)
    (λ o p a b. alike b.cert b.is o p
    (subst (λ (c : Certificate). ComesOf (job_of c.head) ws c.input o) (one_cert bytes a.cert b.cert a.is b.is)
    a.comes.comes) b.comes.comes) o p (resuming_cases ComesOf ws bytes o h) (resuming_cases ComesOf vs bytes p h')

-- so there is one, or two runs of one instance
pub alike_resuming : (ws vs : List Watcher) (bytes : List ℕ) (o p : Outcome) → ComesOfResuming ComesOf ws bytes o
    → ComesOfResuming ComesOf vs bytes p → Agree o p
alike_resuming ws vs bytes =
    alike_resumed Agree (λ o p is. inl is) ws vs bytes
    (λ cert is o p h h'. alike_read (job_of cert.head) ws vs cert.input o p (λ ordered log. refl) h h')

-- and one where all orders of the certificate's pops lead to one end
pub one_resuming : (ws vs : List Watcher) (bytes : List ℕ) (o p : Outcome)
    → ((cert : Certificate) → IsCertOf bytes cert → HasOneEnd cert.head.command cert.input)
    → ComesOfResuming ComesOf ws bytes o → ComesOfResuming ComesOf vs bytes p → o ≡ p
one_resuming ws vs bytes o p ordered h h' =
    alike_resumed (λ o p. o ≡ p) (λ o p is. is) ws vs bytes
    (λ cert is o p h h'. one_read (job_of cert.head) ws vs cert.input o p (ordered cert is) refl (λ log. refl) h h') o p
    h h'
