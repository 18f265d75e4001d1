-- What is made from an input, and the end of its run, is the outcome of the job that wants it made.
use Rattle.std.proofs.Common.{inl, ◌≡◌, ◌≢◌, ℕ, true, false, List, Result, Ok, Err, IfOk, refl, sym, ap, subst, ◌∙◌}
use Rattle.pop_model.specs.Stacks.{variables_of}
use Rattle.pop_model.specs.Instances.{Instance}
use Rattle.pop_words.specs.declared.command.Command.{Command}
use Rattle.pop_words.specs.declared.command.Command.TheVariants.{Resample, Rounds}
use Rattle.pop_words.specs.declared.job.Job.{Job}
use Rattle.pop_watch.specs.Telling.{Watcher}
use Rattle.pop_print.specs.declared.facts.Facts.{Facts}
use Rattle.pop_print.specs.declared.facts.Facts.TheVariants.{Formula as FormulaFacts}
use Rattle.pop_print.specs.Ends.{AreFactsOf, IsOfPairs}
use Rattle.job_subjects.specs.declared.answer.Answer.{Answer}
use Rattle.job_subjects.specs.Made.{IsMade}
use Rattle.told_runs.specs.declared.asked.Asked.{Asked}
use Rattle.told_runs.specs.Asking.{asked_by, has_free_order}
use Rattle.told_runs.specs.Outcomes.{Outcome, AnswersBy}
use Rattle.told_runs.specs.Ends.{IsEndOf, IsHistoryOf, IsRoundsEndOf}
use Rattle.top_call.specs.Answers.{wanted_by, EndsAs, ComesOf}
use Rattle.top_call.proofs.Carrying.{answers_more}
use Rattle.top_call.proofs.Lifting.{free_by}
use Rattle.top_call.proofs.ReadCases.{run_comes}

-- the end of its run comes of the job
pub end_comes : (job : Job) (k : Command) (ws : List Watcher) (text : List ℕ) (facts : Facts) (i : Instance)
    → job.command ≡ k → IsMade (wanted_by job) text facts i → (o : Outcome) → EndsAs k (asked_by job) ws facts i o
    → ComesOf job ws text o
end_comes job k ws text facts i is made o end =
    run_comes job ws text o (record {
      facts = facts;
      instance = i;
      made = made;
      run = inl (subst (λ c. EndsAs c (asked_by job) ws facts i o) (sym is) end);
    })

-- it is that of one thread, where the order of pops isn't free, and no rounds are made
pub ordered_end : (k : Command) → k ≢ Resample → k ≢ Rounds → (asked : Asked) (ws : List Watcher) (facts : Facts)
    (i : Instance) (o : Outcome) → IsEndOf asked ws facts i o → EndsAs k asked ws facts i o
ordered_end Resample ordered other asked ws facts i o end = absurd (ordered refl)
ordered_end Rounds ordered other asked ws facts i o end = absurd (other refl)
ordered_end k ordered other asked ws facts i o end = end

-- so what is told of an end comes of the job
pub ended_comes : {E : Type 0} (job : Job) (ws : List Watcher) (text : List ℕ) (facts : Facts) (i : Instance)
    (r : Result Answer E) → IsMade (wanted_by job) text facts i
    → IfOk r (λ a. AnswersBy (EndsAs job.command (asked_by job) ws facts i) a.status a.text.items)
    → IfOk r (λ a. AnswersBy (ComesOf job ws text) a.status a.text.items)
ended_comes job ws text facts i r made =
    answers_more (EndsAs job.command (asked_by job) ws facts i) (ComesOf job ws text) r
    (end_comes job job.command ws text facts i refl made)

-- what tells the end, or the history where the order of pops is free, tells how the run of a command ends
told_as : (k : Command) → k ≢ Rounds → (asked : Asked) (ws : List Watcher) (facts : Facts) (i : Instance) (status : ℕ)
    (out : List ℕ) → asked.free ≡ has_free_order k
    → (asked.free ≡ false → AnswersBy (IsEndOf asked ws facts i) status out)
    → (asked.free ≡ true → AnswersBy (IsHistoryOf asked ws facts i) status out)
    → AnswersBy (EndsAs k asked ws facts i) status out
told_as Resample other asked ws facts i status out free ended history = history free
told_as Rounds other asked ws facts i status out free ended history = absurd (other refl)
told_as k other asked ws facts i status out free ended history = ended free

pub ends_as : {E : Type 0} (job : Job) (ws : List Watcher) (facts : Facts) (i : Instance) (asked : Asked)
    (r : Result Answer E) → job.command ≢ Rounds → asked ≡ asked_by job
    → (asked.free ≡ false → IfOk r (λ a. AnswersBy (IsEndOf asked ws facts i) a.status a.text.items))
    → (asked.free ≡ true → IfOk r (λ a. AnswersBy (IsHistoryOf asked ws facts i) a.status a.text.items))
    → IfOk r (λ a. AnswersBy (EndsAs job.command (asked_by job) ws facts i) a.status a.text.items)
ends_as job ws facts i asked (Ok a) other asks ended history =
    subst (λ q. AnswersBy (EndsAs job.command q ws facts i) a.status a.text.items) asks
    (told_as job.command other asked ws facts i a.status a.text.items (free_by job asked job.command asks refl) ended
    history)
ends_as job ws facts i asked (Err e) other asks ended history = tt

-- so does what tells the batch, where the order of pops isn't free
pub batch_ends_as : {E : Type 0} (job : Job) (ws : List Watcher) (facts : Facts) (i : Instance) (asked : Asked)
    (r : Result Answer E) → job.command ≢ Resample → job.command ≢ Rounds → asked ≡ asked_by job
    → IfOk r (λ a. AnswersBy (IsEndOf asked ws facts i) a.status a.text.items)
    → IfOk r (λ a. AnswersBy (EndsAs job.command (asked_by job) ws facts i) a.status a.text.items)
batch_ends_as job ws facts i asked r ordered other asks told =
    answers_more (IsEndOf (asked_by job) ws facts i) (EndsAs job.command (asked_by job) ws facts i) r
    (ordered_end job.command ordered other (asked_by job) ws facts i)
    (subst (λ q. IfOk r (λ a. AnswersBy (IsEndOf q ws facts i) a.status a.text.items)) asks told)

-- what is made for rounds has as many variables as the formula
pub pairs_of : (facts : Facts) (i : Instance) (n : ℕ) → facts ≡ FormulaFacts n → AreFactsOf facts i
    → IsOfPairs (variables_of i.stacks) i
pairs_of facts i n same told =
    let pairs : IsOfPairs n i = subst (λ t. AreFactsOf t i) same told in
    subst (λ k. IsOfPairs k i) (sym pairs.count) pairs

-- and what tells their end tells how the run of the command ends
pub rounds_end_as : {E : Type 0} (job : Job) (ws : List Watcher) (facts : Facts) (i : Instance) (n : ℕ)
    (r : Result Answer E) → job.command ≡ Rounds → facts ≡ FormulaFacts n → AreFactsOf facts i
    → IfOk r (λ a. AnswersBy (IsRoundsEndOf (FormulaFacts (variables_of i.stacks)) i) a.status a.text.items)
    → IfOk r (λ a. AnswersBy (EndsAs job.command (asked_by job) ws facts i) a.status a.text.items)
rounds_end_as job ws facts i n r is same told ended =
    let pairs : IsOfPairs n i = subst (λ t. AreFactsOf t i) same told in
    let own : FormulaFacts (variables_of i.stacks) ≡ facts = ap FormulaFacts pairs.count ∙ sym same in
    answers_more (IsRoundsEndOf facts i) (EndsAs job.command (asked_by job) ws facts i) r
    (λ o end. subst (λ k. EndsAs k (asked_by job) ws facts i o) (sym is) end)
    (subst (λ t. IfOk r (λ a. AnswersBy (IsRoundsEndOf t i) a.status a.text.items)) own ended)
