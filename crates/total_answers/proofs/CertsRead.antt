-- Bytes are a certificate, or they are refused; and a certificate has a legal log, or it is refused: for its input, or
-- for its log text. What comes of one that is replayed is where its log leads.
use Rattle.std.proofs.Common.{inl, inr, ◌≡◌, ◌⊎◌, ℕ, ◌^◌, ◌≤◌, true, List, [], ◌∷◌, ◌++◌, length, take, drop, refl, sym, ap, subst, ◌∙◌, arith, append_assoc, Contains}
use Rattle.std.specs.List.{concat}
use Rattle.std.proofs.lemmas.Bool.{cases_lt, false≢true}
use Rattle.std.proofs.lemmas.List.{append-nil, length-take-le, take-append-drop}
use Rattle.pop_model.specs.Instances.{Instance}
use Rattle.pop_model.specs.Languages.{Begins}
use Rattle.pop_model.specs.Logs.{LogRecord, replay}
use Rattle.pop_model.specs.Runs.{start_of}
use Rattle.pop_stacks.specs.declared.stack_spec.StackSpec.TheVariants.{Given}
use Rattle.pop_words.specs.declared.command.Command.{Command}
use Rattle.pop_words.specs.declared.command.Command.TheVariants.{Formula, Tree, Check, Replay, Resume}
use Rattle.pop_words.specs.Options.{paused}
use Rattle.pop_log.specs.TextLines.{lines_with_ends}
use Rattle.pop_log.specs.LogVersions.{IsReadAs}
use Rattle.pop_log.proofs.JoinedLines.{join, join_front, join_lines}
use Rattle.pop_samples.proofs.Conses.{same_list}
use Rattle.run_cert.specs.declared.cert_refusal.CertRefusal.TheVariants.{Malformed as MalformedCert}
use Rattle.run_cert.specs.Heads.{Head, has_root, head_lines, IsHead, MayBeRoot}
use Rattle.run_cert.specs.Certificates.{Certificate, IsCertOf}
use Rattle.run_cert.specs.Refusals.{HaveHead, IsCertRefusal}
use Rattle.job_subjects.specs.declared.refusal.Refusal.{Refusal}
use Rattle.job_subjects.specs.declared.refusal.Refusal.TheVariants.{Limit, Malformed}
use Rattle.job_subjects.specs.Refusals.{unlogged}
use Rattle.job_subjects.specs.Made.{IsMade}
use Rattle.job_subjects.specs.Subjects.{Subject, instance_over}
use Rattle.told_runs.specs.Names.{names_for}
use Rattle.told_runs.specs.Outcomes.{Outcome}
use Rattle.told_runs.specs.Outcomes.Outcome.{Refused, Replayed}
use Rattle.top_call.specs.Replays.{cert_limit, wanted_of, HasLog, IsCertified, IsRefused, IsRefusedCert, ComesOfReplaying}
use Rattle.top_call.proofs.PauseWords.{not_made, paused_is}
use Rattle.answer_laws.proofs.MadeBounds.{cert_bounded}
use Rattle.prs_rounds.proofs.ClosedSets.{IsDecided}
use Rattle.total_answers.proofs.Deciding.{decide_as}
use Rattle.total_answers.proofs.FiniteLists.{decide_fit, decide_front, first_fails}
use Rattle.total_answers.proofs.HeadsFound.{decide_head}
use Rattle.total_answers.proofs.LogsRead.{read_or_refused}
use Rattle.total_answers.proofs.LooksFound.{look_found}
use Rattle.total_answers.proofs.Making.{CanBeMade, Samples, made_or_refused}

-- ---- bytes

-- lines begin with those of a head, or not
decide_have : (lines : List (List ℕ)) → IsDecided (HaveHead lines)
decide_have lines = decide_as _ _ (λ (h, is, (rest, same)). (h, is, rest, same))
    (λ (h, is, rest, same). (h, is, (rest, same)))
    (decide_head (λ h. (rest : List (List ℕ)) × (lines ≡ head_lines h ++ rest))
    (λ h. decide_front same_list (head_lines h) lines))

-- or they may begin so, or not
decide_begins : (lines : List (List ℕ)) → IsDecided (Begins HaveHead lines)
decide_begins lines = decide_as _ _ (λ (h, is, (more, rest, same)). (more, (h, is, rest, same)))
    (λ (more, (h, is, rest, same)). (h, is, (more, rest, same)))
    (decide_head (λ h. (more : List (List ℕ)) × (rest : List (List ℕ)) × (lines ++ more ≡ head_lines h ++ rest))
    (λ h. decide_fit same_list lines (head_lines h)))

-- some head
some_head : Head
some_head = record { command = Formula; stacks = Given []; height = 2 ^ 20; root = 1; size = 0 }

some_is : IsHead some_head
unfolding some_head
some_is = record {
  command = (0, omega arith, refl);
  stacks = ((λ none. cc), refl, tt);
  height = refl;
  root = refl;
  size = omega arith;
}

-- so no lines may
none_begins : Begins HaveHead []
none_begins = (head_lines some_head, (some_head, some_is, [], sym (append-nil (head_lines some_head))))

-- lines joined behind others
join_append : (xs ys : List (List ℕ)) → join (xs ++ ys) ≡ concat xs ++ join ys
join_append [] ys = refl
join_append (x ∷ xs) ys =
    join_front x (xs ++ ys) ∙ ap (λ (l : List ℕ). x ++ l) (join_append xs ys)
    ∙ sym (append_assoc x (concat xs) (join ys))

-- bytes that begin with a head are a certificate, or cut short
headed : (bytes tail : List ℕ) (h : Head) → IsHead h → bytes ≡ concat (head_lines h) ++ tail
    → ((cert : Certificate) × IsCertOf bytes cert)
    ⊎ ((l : ℕ) × (code : ℕ) × IsCertRefusal bytes (MalformedCert l code))
headed bytes tail h is same = elim (cases_lt (length tail) h.size) [
  | inl few ↦ inr (
    length (head_lines h),
    22,
    inr (
      refl,
      record {
        h = h;
        is = is;
        rest = tail;
        bytes_are = same;
        few = few;
        line_is = refl;
      },
    ),
  )
  | inr enough ↦ inl (
    record { head = h; input = take h.size tail; log_text = drop h.size tail },
    record {
      is = record { head = is; size = length-take-le h.size tail enough };
      text_is = same ∙ ap (λ (l : List ℕ). concat (head_lines h) ++ l) (sym (take-append-drop h.size tail));
    },
  )
]

pub cert_or_none : (bytes : List ℕ)
    → ((cert : Certificate) × IsCertOf bytes cert)
    ⊎ ((l : ℕ) × (code : ℕ) × IsCertRefusal bytes (MalformedCert l code))
cert_or_none bytes = elim (decide_have (lines_with_ends bytes)) [
  | inr outside ↦
      let fails = first_fails (Begins HaveHead) decide_begins none_begins (lines_with_ends bytes) in
      inr (fails.0, 21, inl (refl, record { outside = outside; place = fails.1.place; bad = fails.1.bad }))
  | inl (h, is, rest, same) ↦
      headed bytes (join rest) h is (sym (join_lines bytes) ∙ ap join same ∙ join_append (head_lines h) rest)
]

-- ---- a certificate

-- the commands of certificates sample
paused_sample : (k : Command) → Contains paused k → Samples k
paused_sample Check has = absurd (false≢true (paused_is Check has))
paused_sample Replay has = absurd (false≢true (paused_is Replay has))
paused_sample Resume has = absurd (false≢true (paused_is Resume has))
paused_sample k has = tt

-- and a tree's root is there
root_there : (k : Command) (root : ℕ) → MayBeRoot (has_root k) root → k ≡ Tree → 1 ≤ root
root_there k root may is =
    let own : MayBeRoot true root = subst (λ c. MayBeRoot (has_root c) root) is may in
    let some = own.0 in
    omega (arith, some)

-- what the certificate samples, and its legal log
pub record Accepted (cert : Certificate) : Type 0 where
  pub subject : Subject
  pub can : CanBeMade cert.head.command (wanted_of cert.head) cert.input subject
  pub certified : IsCertified cert subject.facts (instance_over (wanted_of cert.head).origin subject)
  pub log : List LogRecord
  pub read : IsReadAs (names_for subject.facts) (instance_over (wanted_of cert.head).origin subject) cert.log_text log

-- a certificate has them, or is refused
pub accepted_or_refused : (bytes : List ℕ) (cert : Certificate) → IsCertOf bytes cert
    → Accepted cert ⊎ ((refusal : Refusal) × IsRefusedCert cert refusal)
accepted_or_refused bytes cert is =
    let head = is.is.head in
    elim (made_or_refused cert.head.command (wanted_of cert.head) cert.input
    (paused_sample cert.head.command head.command) (root_there cert.head.command cert.head.root head.root)
    (λ make. absurd (not_made cert.head.command head.command make))) [
      | inr (refusal, refuses) ↦ inr (refusal, inl refuses)
      | inl (s, can) ↦
          let i : Instance = instance_over (wanted_of cert.head).origin s in
          let made : IsMade (wanted_of cert.head) cert.input s.facts i = record {
            subject = s;
            are = can.0;
            over = record { facts_are = refl; instance_is = refl; sound = can.1.0; few = can.1.1 };
          } in
          let bounded = cert_bounded bytes cert is s.facts i made in
          let certified : IsCertified cert s.facts i =
          record { made = made; is = bounded.0; numbers = bounded.1 } in
          elim (read_or_refused (names_for s.facts) i cert.log_text) [
            | inl (log, read) ↦
                inl (record { subject = s; can = can; certified = certified; log = log; read = read })
            | inr (cause, of, refused) ↦ inr (
              unlogged cause,
              inr (record {
                facts = s.facts;
                instance = i;
                certified = certified;
                cause = cause;
                of_text = of;
                refused = refused;
                is = refl;
              }),
            )
          ]
    ]

-- so it has a log
abbrev pub accepted_log : (cert : Certificate) → Accepted cert → HasLog cert
accepted_log cert a = record {
  facts = a.subject.facts;
  instance = instance_over (wanted_of cert.head).origin a.subject;
  certified = a.certified;
  log = a.log;
  read = a.read;
}

-- ---- what comes of bytes

-- bytes are those of a certificate that is accepted, or refused
pub record AcceptedBytes (bytes : List ℕ) : Type 0 where
  pub short : length bytes ≤ cert_limit
  pub cert : Certificate
  pub is : IsCertOf bytes cert
  pub accepted : Accepted cert

pub bytes_or_refused : (bytes : List ℕ) → AcceptedBytes bytes ⊎ ((refusal : Refusal) × IsRefused bytes refusal)
bytes_or_refused bytes = elim (cases_lt cert_limit (length bytes)) [
  | inl long ↦ inr (Limit 8 1, inl (inl (long, refl)))
  | inr short ↦ elim (cert_or_none bytes) [
    | inr (l, code, bad) ↦ inr (Malformed l code, inl (inr (short, (l, code, bad, refl))))
    | inl (cert, is) ↦ elim (accepted_or_refused bytes cert is) [
      | inl accepted ↦ inl (record { short = short; cert = cert; is = is; accepted = accepted })
      | inr (refusal, refused) ↦
          inr (refusal, inr (record { short = short; cert = cert; is = is; comes = refused }))
    ]
  ]
]

-- so something comes of bytes that are replayed
pub replayed_comes : (bytes : List ℕ) → (o : Outcome) × ComesOfReplaying bytes o
replayed_comes bytes = elim (bytes_or_refused bytes) [
  | inr (refusal, refused) ↦ (Refused refusal, refused)
  | inl b ↦
      let a = b.accepted in
      let has : HasLog b.cert = accepted_log b.cert a in
      let i : Instance = instance_over (wanted_of b.cert.head).origin a.subject in
      let cursors : List ℕ = replay (start_of i) a.log in
      let look = look_found i a.certified.is.family cursors in (
        Replayed i cursors (length a.log) look.0,
        record {
          short = b.short;
          cert = b.cert;
          is = b.is;
          comes = record {
            has = has;
            is = record { cursors = cursors; cursors_are = refl; look = look.0; is = look.1; told = refl };
          };
        },
      )
]
