-- Rounds that end with an assignment also end with it over taller stacks, after equally many rounds.
use Rattle.std.proofs.Common.{◌≡◌, ℕ, List, [], None, sym, ap, subst, ◌∙◌}
use Rattle.rand_chacha.specs.ChaCha.{key_of}
use Rattle.pop_model.specs.Stacks.{stacks_raised}
use Rattle.pop_model.specs.Stacks.Origin.{Keyed}
use Rattle.pop_model.specs.Popping.{values_at}
use Rattle.pop_model.specs.Instances.{Instance, IsInstance}
use Rattle.pop_model.proofs.TallerStacks.{raised_extends}
use Rattle.pop_stacks.specs.Faults.{IsSound}
use Rattle.pop_stacks.specs.declared.stack_spec.StackSpec.TheVariants.{Key}
use Rattle.prs_rounds.specs.Rounds.{IsRoundsEnd}
use Rattle.dimacs_read.specs.CnfText.{cnf_of}
use Rattle.drawn_samples.specs.WhereLaws.{RoundsEndAlike}
use Rattle.drawn_samples.proofs.Taller.{taller_rounds}
use Rattle.pop_words.specs.declared.command.Command.TheVariants.{Rounds}
use Rattle.pop_words.specs.declared.job.Job.{Job}
use Rattle.pop_print.specs.declared.facts.Facts.TheVariants.{Formula as FormulaFacts}
use Rattle.job_subjects.specs.Subjects.{Subject, assignments, instance_over, pair_weights}
use Rattle.told_runs.specs.Outcomes.{Outcome}
use Rattle.told_runs.specs.Outcomes.Outcome.{Rounded}
use Rattle.top_call.specs.Answers.{ComesOf, last_height, origin_for, wanted_by}
use Rattle.answer_laws.specs.RoundAnswers.{IsRoundedBy, IsRoundedOutput}
use Rattle.answer_laws.specs.TallerAnswers.{TallerRoundAnswers}
use Rattle.answer_laws.proofs.KeyAnswers.{keyed_origin}
use Rattle.answer_laws.proofs.MadeBounds.{job_short, made_bounded}
use Rattle.answer_laws.proofs.OneOutcome.{line_comes}
use Rattle.answer_laws.proofs.RoundAnswers.{IsEndOfRounds, answered_by, rounded_of, rounds_line_of}
use Rattle.answer_laws.proofs.RoundOutputs.{round_outputs}
use Rattle.answer_laws.proofs.ToldSubjects.{rounded_made}

-- the law
pub taller_round_answers : TallerRoundAnswers
taller_round_answers words others ws key text out d by given answer =
    let job : Job = d.job in
    let other : Job = d.other in
    let found : IsRoundedOutput words ws text out = (round_outputs job words ws text out by d.asks).0 answer in
    let c : List ℕ = found.cursors in
    let rounds : ℕ = found.rounds in
    let i : Instance = found.by.instance in
    let o : Outcome = Rounded (FormulaFacts (cnf_of text).variables) i c rounds [] None in
    let comes : ComesOf job ws text o =
    line_comes words job ws text o d.asks (rounds_line_of job.command by) found.by.outcome in
    let e : IsEndOfRounds (origin_for job) text (FormulaFacts (cnf_of text).variables) i c rounds [] None =
    (rounded_of job ws text (FormulaFacts (cnf_of text).variables) i c rounds [] None comes).1 in
    let s : Subject = assignments (cnf_of text) e.events in
    let low : ℕ = last_height job in
    let high : ℕ = last_height other in
    let origin : origin_for job ≡ Keyed (key_of key) 0 low = keyed_origin job key given in
    let given' : other.stacks ≡ Key key = sym (ap (λ (j : Job). j.stacks) d.same) ∙ given in
    let origin' : origin_for other ≡ Keyed (key_of key) 0 high = keyed_origin other key given' in
    let by' : other.command ≡ Rounds = sym (ap (λ (j : Job). j.command) d.same) ∙ by in
    let lower : Instance = instance_over (Keyed (key_of key) 0 low) s in
    let taller : Instance = instance_over (Keyed (key_of key) 0 high) s in
    let same : i ≡ lower = e.instance_is ∙ ap (λ q. instance_over q s) origin in
    let bounded = made_bounded (wanted_by job) text (FormulaFacts (cnf_of text).variables) i (job_short words job d.asks)
    (rounded_made job ws text (FormulaFacts (cnf_of text).variables) i c rounds [] None comes).made in
    let is : IsInstance lower = subst IsInstance same bounded.0 in
    let end : IsRoundsEnd lower c rounds [] None =
    subst (λ q. IsRoundsEnd (instance_over q s) c rounds [] None) origin e.end in
    let alike : RoundsEndAlike lower taller c rounds =
    taller_rounds lower is tt (stacks_raised high lower.stacks)
    (raised_extends (Keyed (key_of key) 0 low) s.weights high (λ v. d.no_lower)) c rounds end in
    let values = alike.values ∙ ap (λ (k : Instance). values_at k.stacks c) (sym same) ∙ found.by.sample in
    let again : IsRoundedBy others ws text found.values c rounds =
    answered_by others ws text other e.events found.values c rounds d.asks_other by' e.spelled e.of_formula
    (subst (λ o. IsSound o (pair_weights (cnf_of text).variables)) (sym origin')
    (record { rows = tt; light = e.sound.light }))
    (subst (λ q. IsRoundsEnd (instance_over q s) c rounds [] None) (sym origin') alike.end)
    (subst (λ q. values_at (instance_over q s).stacks c ≡ found.values) (sym origin') values) in
    (round_outputs other others ws text out by' d.asks_other).1 (record {
      values = found.values;
      cursors = c;
      rounds = rounds;
      by = again;
      satisfied = found.satisfied;
      out_is = found.out_is;
    })
