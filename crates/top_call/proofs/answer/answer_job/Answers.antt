use Rattle.std.proofs.Common.{inl, inr, ◌≡◌, Result, Ok, Err, refl, sym, ap, subst, ◌∙◌}
use Rattle.std.specs.Result.{IsErrAnd, IsErrOf}
use Rattle.std.proofs.lemmas.Result.{IfOk-weaker}
use Rattle.pop_words.specs.declared.command.Command.{Command}
use Rattle.pop_words.specs.declared.command.Command.TheVariants.{Check, Make}
use Rattle.pop_words.specs.declared.command.Input.TheVariants.{Certificate}
use Rattle.pop_words.specs.Options.{input_of}
use Rattle.told_runs.specs.Asking.{asked_by}
use Rattle.top_call.specs.Answers.{ComesOf, EndsAs, MayFailBehind, WasReadWhole, IsOfLine}
use Rattle.job_subjects.specs.declared.refusal.Refusal.{Refusal}
use Rattle.job_subjects.specs.declared.refusal.Refusal.TheVariants.{Stopped}
use Rattle.job_subjects.specs.declared.stop.Stop.TheVariants.{ReadFault}
use Rattle.job_subjects.specs.Refused.{HasNoBadLine}
use Rattle.job_subjects.proofs.Carrying.{passed_on}
use Rattle.top_call.proofs.ByCommand.{cert_line, line_result, line_by_input}
use Rattle.top_call.proofs.Carrying.{answered, stopped_result}
use Rattle.top_call.proofs.MadeComes.{end_comes}
use Rattle.told_runs.specs.Outcomes.Outcome.{Refused}
use Rattle.top_call.proofs.ReadCases.{is_end}
use Rattle.top_call.proofs.Statuses.{told_is}
use Rattle.top_call.proofs.PauseWords.{not_made, paused_line, cert_alone, line_behind, line_samples, line_whole, may_stop}
use Rattle.top_call.proofs.Verdicts.{verdict_result}
use Rattle.top_call.proofs.answer.answer_job.Goals as goal

-- the command of a certificate makes no grid
no_grid : (k : Command) → input_of k ≡ Certificate → k ≡ Make → ⊥
no_grid k cert make = cert_line k cert (subst IsOfLine (sym make) tt)

-- nor does a check
not_check : (k : Command) → k ≡ Check → k ≡ Make → ⊥
not_check k check make = absurd (cc)

check_line : (k : Command) → k ≡ Check → IsOfLine k
check_line k check = subst IsOfLine (sym check) tt

-- the run may stop, so the command is neither one that makes a grid nor one that reads a certificate
pub returns-in-Some-clause-answer : goal.returns-in-Some-clause-answer
returns-in-Some-clause-answer g c text input read =
    let paused = (may_stop c.args.job.now c.requires.asked c.in-Some.pops c.in-Some.is).command in
    elim input [
      | inl known ↦
          line_result c.args.job.now.command c.args.job.now _ text c.pause_or_tell.result (paused_line c.args.job.now.command paused)
          (c.pause_or_tell.ensures.answer text known read)
      | inr make ↦ absurd (not_made c.args.job.now.command paused make)
    ]

pub returns-in-Some-clause-unread : goal.returns-in-Some-clause-unread
returns-in-Some-clause-unread g c make =
    absurd (not_made c.args.job.now.command (may_stop c.args.job.now c.requires.asked c.in-Some.pops c.in-Some.is).command make)

pub returns-in-Some-clause-whole : goal.returns-in-Some-clause-whole
returns-in-Some-clause-whole g c =
    IfOk-weaker c.pause_or_tell.result _ _ (λ a whole has other. whole has) c.pause_or_tell.ensures.whole

pub returns-in-Some-clause-no_bad_line : goal.returns-in-Some-clause-no_bad_line
returns-in-Some-clause-no_bad_line g c failed =
    let short = c.pause_or_tell.ensures.short failed in
    (short.0, short.1, subst (λ p. MayFailBehind p c.args.job.now.command short.0) (sym c.in-Some.is) short.2)

pub returns-in-Some-clause-read : goal.returns-in-Some-clause-read
returns-in-Some-clause-read g c judged =
    subst (λ p. WasReadWhole p c.args.job.now.command (g.S.Source.left c.args.source.now)
    (g.S.Source.left c.pause_or_tell.new.source)) (sym c.in-Some.is) (c.pause_or_tell.ensures.read judged)

-- a certificate is replayed or resumed
pub returns-in-Certificate-clause-answer : goal.returns-in-Certificate-clause-answer
returns-in-Certificate-clause-answer g c text input read = elim input [
  | inl known ↦ c.answer_cert.ensures.answer text known read
  | inr make ↦ absurd (no_grid c.args.job.now.command (sym c.input.ensures ∙ c.in-Certificate.is) make)
]

pub returns-in-Certificate-clause-unread : goal.returns-in-Certificate-clause-unread
returns-in-Certificate-clause-unread g c make =
    absurd (no_grid c.args.job.now.command (sym c.input.ensures ∙ c.in-Certificate.is) make)

pub returns-in-Certificate-clause-whole : goal.returns-in-Certificate-clause-whole
returns-in-Certificate-clause-whole g c =
    IfOk-weaker c.answer_cert.result _ _ (λ a whole has other. whole) c.answer_cert.ensures.whole

pub returns-in-Certificate-clause-no_bad_line : goal.returns-in-Certificate-clause-no_bad_line
returns-in-Certificate-clause-no_bad_line g c failed =
    let short = c.answer_cert.ensures.short failed in (
      short.0,
      short.1,
      cert_alone (λ p k. MayFailBehind p k short.0) c.args.job.now (may_stop c.args.job.now c.requires.asked)
          (sym c.input.ensures ∙ c.in-Certificate.is) short.2 short.2,
    )

pub returns-in-Certificate-clause-read : goal.returns-in-Certificate-clause-read
returns-in-Certificate-clause-read g c judged =
    cert_alone (λ p k. WasReadWhole p k (g.S.Source.left c.args.source.now) (g.S.Source.left c.answer_cert.new.source))
    c.args.job.now (may_stop c.args.job.now c.requires.asked)
    (sym c.input.ensures ∙ c.in-Certificate.is) (c.answer_cert.ensures.read judged) (c.answer_cert.ensures.read judged)

-- or a formula checked
pub returns-in-Check-clause-answer : goal.returns-in-Check-clause-answer
returns-in-Check-clause-answer g c text input read = elim input [
  | inl known ↦
      line_result c.args.job.now.command c.args.job.now _ text c.check.result (check_line c.args.job.now.command c.in-Check.is)
      (verdict_result c.args.job.now _ text c.check.result c.in-Check.is (c.check.ensures.answer text known read))
  | inr make ↦ absurd (not_check c.args.job.now.command c.in-Check.is make)
]

pub returns-in-Check-clause-unread : goal.returns-in-Check-clause-unread
returns-in-Check-clause-unread g c make = absurd (not_check c.args.job.now.command c.in-Check.is make)

pub returns-in-Check-clause-whole : goal.returns-in-Check-clause-whole
returns-in-Check-clause-whole g c =
    IfOk-weaker c.check.result _ _ (λ a whole has other. whole) c.check.ensures.whole

pub returns-in-Check-clause-no_bad_line : goal.returns-in-Check-clause-no_bad_line
returns-in-Check-clause-no_bad_line g c failed =
    let front = c.check.ensures.no_bad_line failed in (
      front.0,
      front.1,
      line_behind c.args.job.now front.0 c.in_default.is (check_line c.args.job.now.command c.in-Check.is)
          (subst (λ k. HasNoBadLine k front.0) (sym c.in-Check.is) front.2),
    )

pub returns-in-Check-clause-read : goal.returns-in-Check-clause-read
returns-in-Check-clause-read g c judged =
    line_whole c.args.job.now _ _ c.in_default.is (check_line c.args.job.now.command c.in-Check.is)

-- any other command samples
pub made_for-requires-clause-command : goal.made_for-requires-clause-command
made_for-requires-clause-command g c =
    line_samples c.args.job.now.command c.in_default-command.not-Check
    (line_by_input c.args.job.now.command (λ is. c.in_default-input.not-Certificate (c.input.ensures ∙ is)))

-- a fault of the source that is passed on is one of what was made
fault_of : {T U : Type 0} (r : Result T Refusal) (e : Refusal) → IsErrAnd r (λ x. x ≡ e) → IsErrOf r (Stopped ReadFault)
    → IsErrOf {T = U} (Err e) (Stopped ReadFault)
fault_of {T} {U} r e is failed =
    let passed = passed_on r e is in
    let same : e ≡ Stopped ReadFault = cc in
    ap (λ x. Err x) same

-- nothing is made of the text
pub returns-in_err-made-clause-answer : goal.returns-in_err-made-clause-answer
returns-in_err-made-clause-answer g c text input read =
    let job = c.args.job.now in
    let e = c.in_err-made.field-0.0 in
    line_result job.command job _ text c.from_residual.result
    (line_by_input job.command (λ is. c.in_default-input.not-Certificate (c.input.ensures ∙ is)))
    (stopped_result (ComesOf job _ text) c.from_residual.result e c.from_residual.ensures.1
    (c.in_err-made.ensures.refused text input)
    (λ is. read (passed_on c.from_residual.result e c.from_residual.ensures.1 ∙ ap (λ x. Err x) is)))

pub returns-in_err-made-clause-no_bad_line : goal.returns-in_err-made-clause-no_bad_line
returns-in_err-made-clause-no_bad_line g c failed =
    let e = c.in_err-made.field-0.0 in
    let front = c.in_err-made.ensures.no_bad_line
    (fault_of c.from_residual.result e c.from_residual.ensures.1 failed) in (
      front.0,
      front.1,
      line_behind c.args.job.now front.0 c.in_default.is
          (line_by_input c.args.job.now.command (λ is. c.in_default-input.not-Certificate (c.input.ensures ∙ is)))
          front.2,
    )

pub returns-in_err-made-clause-read : goal.returns-in_err-made-clause-read
returns-in_err-made-clause-read g c judged =
    line_whole c.args.job.now _ _ c.in_default.is
    (line_by_input c.args.job.now.command (λ is. c.in_default-input.not-Certificate (c.input.ensures ∙ is)))

-- or the end of what is made is told
pub sample_made-told-requires-clause-told : goal.sample_made-told-requires-clause-told
sample_made-told-requires-clause-told g c = c.in_ok-made.ensures.told

pub returns-clause-answer : goal.returns-clause-answer
returns-clause-answer g c text input read =
    let job = c.args.job.now in
    let made = c.in_ok-made.made in
    let a = c.in_ok-told.field-0 in
    line_result job.command job _ text (Ok a)
    (line_by_input job.command (λ is. c.in_default-input.not-Certificate (c.input.ensures ∙ is)))
    (answered (EndsAs job.command (asked_by job) _ made.facts made.instance) (ComesOf job _ text) a.status a.text.items
    (end_comes job job.command _ text made.facts made.instance refl (c.in_ok-made.ensures.made text input))
    c.in_ok-told.ensures)

pub returns-clause-status : goal.returns-clause-status
returns-clause-status g c =
    let job = c.args.job.now in
    let made = c.in_ok-made.made in
    let a = c.in_ok-told.field-0 in
    told_is (EndsAs job.command (asked_by job) _ made.facts made.instance) a.status a.text.items
    (λ r end. absurd (is_end job.command (asked_by job) _ made.facts made.instance (Refused r) end))
    c.in_ok-told.ensures

pub returns-clause-read : goal.returns-clause-read
returns-clause-read g c judged =
    line_whole c.args.job.now _ _ c.in_default.is
    (line_by_input c.args.job.now.command (λ is. c.in_default-input.not-Certificate (c.input.ensures ∙ is)))
