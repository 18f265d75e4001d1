-- Arguments with the same outcomes. The outcome of a job depends on what it wants made, on what it asks to be printed,
-- and, if its run may stop, on the job. So the outcomes of arguments are those of other arguments with a similar job.
-- Arguments that differ only in `--workers` and `--board` have jobs that differ only in their crew, on which none of
-- this depends. Stages make no difference: the outcome is stated for stacks that have their last height, and those of
-- a run that may stop don't grow.
use Rattle.std.proofs.Common.{inl, inr, ◌≡◌, ℕ, Bool, true, false, List, Option, None, Some, unwrap_or, refl, sym, ap, ap₂, subst, ◌∙◌}
use Rattle.std.proofs.lemmas.Option.{none-some}
use Rattle.pop_words.specs.declared.command.Command.{Command}
use Rattle.pop_words.specs.declared.command.Command.TheVariants.{Replay, Resume}
use Rattle.pop_words.specs.declared.field.Field.{Field}
use Rattle.pop_words.specs.declared.field.Field.TheVariants.{Workers, Board, Height, Grow}
use Rattle.pop_words.specs.declared.job.Job.{Job}
use Rattle.pop_words.specs.CommandLines.{Asks}
use Rattle.pop_watch.specs.Telling.{Watcher}
use Rattle.job_subjects.specs.declared.wanted.Wanted.{Wanted}
use Rattle.job_subjects.specs.Made.{IsMade}
use Rattle.job_subjects.specs.Refused.{RefusesText}
use Rattle.told_runs.specs.declared.asked.Asked.{Asked}
use Rattle.told_runs.specs.Asking.{asked_by}
use Rattle.told_runs.specs.Outcomes.{Outcome}
use Rattle.told_runs.specs.Outcomes.Outcome.{Refused, Extremal}
use Rattle.top_call.specs.Pauses.{Pauses}
use Rattle.top_call.specs.Answers.{wanted_by, EndsAs, ComesOfRun, ComesOf, ComesBy, IsOutcome}
use Rattle.top_call.proofs.Lifting.{of_words}
use Rattle.top_call.proofs.PauseWords.{stopped_level}
use Rattle.answer_laws.specs.Workers.{tells_crew, WorkersAgree}
use Rattle.answer_laws.specs.Stages.{tells_height, at_last_height, GrownAlike, StagesAgree}
use Rattle.answer_laws.proofs.OptionKinds.{dropped, same_left}
use Rattle.answer_laws.proofs.OneOutcome.{asked_comes}
use Rattle.answer_laws.proofs.OneWords.{one_end, told_alike}

-- the jobs want the same made, and ask to be told the same
pub record AreAlike (job other : Job) : Type 0 where
  pub wanted : wanted_by job ≡ wanted_by other
  pub asked : asked_by job ≡ asked_by other

-- so they are of one command
one_command : (job other : Job) → AreAlike job other → job.command ≡ other.command
one_command job other alike = ap (λ (w : Wanted). w.command) alike.wanted

-- jobs whose runs may stop are one job
abbrev pub StopAsOne : Job → Job → Type 0
StopAsOne job other = (pops : ℕ) → job.pops ≡ Some pops → job ≡ other

-- a run of what one wants made is one of the other, if the jobs are one where it may stop
same_run : (job other : Job) → AreAlike job other → StopAsOne job other → (ws : List Watcher) (text : List ℕ)
    (o : Outcome) → ComesOfRun job ws text o → ComesOfRun other ws text o
same_run job other alike stop ws text o h = record {
  facts = h.facts;
  instance = h.instance;
  made = subst (λ w. IsMade w text h.facts h.instance) alike.wanted h.made;
  run = elim h.run [
    | inl end ↦ inl (subst (λ k. EndsAs k (asked_by other) ws h.facts h.instance o) (one_command job other alike)
        (subst (λ a. EndsAs job.command a ws h.facts h.instance o) alike.asked end))
    | inr pause ↦ inr (subst (λ j. Pauses j text h.facts h.instance o) (stop pause.pops pause.asked) pause)
  ];
}

-- so is what comes of it
pub same_comes : (job other : Job) → AreAlike job other → StopAsOne job other → (ws : List Watcher) (text : List ℕ)
    (o : Outcome) → ComesOf job ws text o → ComesOf other ws text o
same_comes job other alike stop ws text (Refused r) h = subst (λ w. RefusesText w text r) alike.wanted h
same_comes job other alike stop ws text (Extremal n) (check, verdict) =
    (sym (one_command job other alike) ∙ check, verdict)
same_comes job other alike stop ws text o h = same_run job other alike stop ws text o h

-- and by its command
same_kind : (k : Command) (job other : Job) → AreAlike job other → StopAsOne job other → (ws : List Watcher)
    (text : List ℕ) (o : Outcome) → ComesBy k job ws text o → ComesBy k other ws text o
same_kind Replay job other alike stop ws text o h = h
same_kind Resume job other alike stop ws text o h = h
same_kind k job other alike stop ws text o h = same_comes job other alike stop ws text o h

-- so what comes of words comes of others that ask for a job like theirs
pub comes_of_alike : (words others : List (List ℕ)) (job other : Job) → Asks words job → Asks others other
    → AreAlike job other → StopAsOne job other → (ws : List Watcher) (text : List ℕ) (o : Outcome)
    → IsOutcome words ws text o → IsOutcome others ws text o
comes_of_alike words others job other asks asks' alike stop ws text o h =
    of_words others other ws text asks' o (subst (λ k. ComesBy k other ws text o) (one_command job other alike)
    (same_kind job.command job other alike stop ws text o (asked_comes words job ws text o asks h)))

-- ---- any number of workers

-- the field is one of the crew
abbrev is_of_crew : Field → Bool
is_of_crew Workers = true
is_of_crew Board = true
is_of_crew field = false

-- the law
pub workers_agree : WorkersAgree
workers_agree words others ws vs text status other out out' d once like (o, comes, tells) (p, comes', tells') =
    let both : dropped is_of_crew d.other ≡ dropped is_of_crew d.job =
    sym (same_left tells_crew is_of_crew (record { all_agree = refl; one_field = refl }) words others d.job d.other d.asks
    d.asks_other d.command d.options) in
    let asked : asked_by d.other ≡ asked_by d.job = ap asked_by both in
    told_alike o p (one_end words ws vs text o p once like comes
    (comes_of_alike others words d.other d.job d.asks_other d.asks (record { wanted = ap wanted_by both; asked = asked })
    (λ pops is. absurd (none-some pops (sym (once d.job d.asks).1 ∙ sym (ap (λ (a : Asked). a.pops) asked) ∙ is)))
    vs text p comes')) tells tells'

-- ---- in stages or not

-- a job whose stacks don't grow has its last height from the start
level : (job : Job) → job.grow ≡ None → at_last_height job ≡ job
level job none =
    let given : at_last_height job ≡ record job { grow = None } =
    ap (λ g. record job { height = unwrap_or g job.height; grow = None }) none in
    given ∙ ap (λ (g : Option ℕ). record job { grow = g }) (sym none)

-- the law
pub grown_alike : GrownAlike
grown_alike words others ws text status out d (o, comes, tells) = (
  o,
  comes_of_alike words others d.job d.other d.asks d.asks_other
      (record { wanted = ap wanted_by d.same; asked = ap asked_by d.same })
      (λ pops is. sym (level d.job (stopped_level words d.job d.asks pops is)) ∙ d.same
      ∙ level d.other (stopped_level others d.other d.asks_other pops
      (sym (ap (λ (j : Job). j.pops) d.same) ∙ is))) ws text o comes,
  tells,
)

-- the field is a height
abbrev is_of_heights : Field → Bool
is_of_heights Height = true
is_of_heights Grow = true
is_of_heights field = false

-- so words that differ in these options alone agree where the last heights are equal
pub stages_agree : StagesAgree
stages_agree words others ws text status out d answer =
    grown_alike words others ws text status out (record {
      job = d.job;
      other = d.other;
      asks = d.asks;
      asks_other = d.asks_other;
      same = ap₂ (λ (h : ℕ) (j : Job). record j { height = h; grow = None }) d.last
          (same_left tells_height is_of_heights (record { all_agree = refl; one_field = refl }) words others d.job d.other
          d.asks d.asks_other d.command d.options);
    }) answer
