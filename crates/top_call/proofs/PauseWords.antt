-- Arguments that ask for a run that may stop. Their command has such runs, and they ask neither for a number of
-- samples nor for stacks that grow: few options go with the one that stops a run.
use Rattle.std.proofs.Common.{◌≡◌, ℕ, Bool, true, false, List, Option, None, Some, refl, sym, ap, subst, ◌∙◌, arith, Contains}
use Rattle.std.specs.Option.{is_some}
use Rattle.std.proofs.lemmas.Bool.{false≢true}
use Rattle.std.proofs.lemmas.Option.{none-some}
use Rattle.pop_words.specs.declared.command.Command.{Command}
use Rattle.pop_words.specs.declared.command.Command.TheVariants.{Formula, Orient, Tree, Resample, Check, Make, Rounds, Replay, Resume}
use Rattle.pop_words.specs.declared.field.Field.{Field}
use Rattle.pop_words.specs.declared.field.Field.TheVariants.{Pops}
use Rattle.pop_words.specs.declared.job.Job.{Job}
use Rattle.pop_words.specs.declared.command.Input.TheVariants.{Certificate}
use Rattle.pop_words.specs.Options.{input_of, paused, sampling}
use Rattle.pop_words.specs.CommandLines.{Asks}
use Rattle.pop_words.proofs.ListTests.{all_at}
use Rattle.pop_words.proofs.PausedAlone.{paused_alone}
use Rattle.pop_words.proofs.StandingOptions.{asked_set}
use Rattle.job_subjects.specs.Refused.{HasNoBadLine}
use Rattle.top_call.specs.Pauses.{MayStop}
use Rattle.top_call.specs.Answers.{IsAsked, IsOfLine, MayFailBehind, WasReadWhole}
use Rattle.top_call.proofs.ApartWords.{kind_fits}
use Rattle.top_call.proofs.ByCommand.{cert_line}

-- the commands whose runs may stop
abbrev pub is_paused : Command → Bool
is_paused Formula = true
is_paused Orient = true
is_paused Tree = true
is_paused Resample = true
is_paused command = false

-- the field is that of the number of pops
abbrev stops : Field → Bool
stops Pops = true
stops field = false

-- such a command is in the list
listed : (command : Command) → is_paused command ≡ true → Contains paused command
listed Formula is = (0, omega arith, refl)
listed Orient is = (1, omega arith, refl)
listed Tree is = (2, omega arith, refl)
listed Resample is = (3, omega arith, refl)
listed command is = absurd (false≢true is)

-- and of those in the list each is
pub paused_is : (command : Command) → Contains paused command → is_paused command ≡ true
paused_is command has = all_at is_paused paused refl command has

-- none makes a grid
pub not_made : (command : Command) → Contains paused command → command ≡ Make → ⊥
not_made command has is = false≢true (sym (ap is_paused is) ∙ paused_is command has)

-- nor reads a certificate
pub paused_line : (k : Command) → Contains paused k → IsOfLine k
paused_line Replay has = absurd (false≢true (paused_is Replay has))
paused_line Resume has = absurd (false≢true (paused_is Resume has))
paused_line k has = tt

-- the job of words that ask for a run that may stop is one that may
pub stopped_may : (words : List (List ℕ)) (job : Job) → Asks words job → (pops : ℕ) → job.pops ≡ Some pops → MayStop job
stopped_may words job asks pops is =
    let stands = (asked_set words job asks).3 (ap is_some is) in
    let alone = paused_alone words job asks pops is in
    record {
      command = listed job.command
          (kind_fits stops is_paused refl words job asks stands.0 stands.1 (ap stops stands.2));
      once = ap (λ (j : Job). j.count) alone;
      level = ap (λ (j : Job). j.grow) alone;
    }

-- so is one that some words ask for
pub may_stop : (job : Job) → IsAsked job → (pops : ℕ) → job.pops ≡ Some pops → MayStop job
may_stop job (words, asks) pops is = stopped_may words job asks pops is

-- so its stacks don't grow
pub stopped_level : (words : List (List ℕ)) (job : Job) → Asks words job → (pops : ℕ) → job.pops ≡ Some pops
    → job.grow ≡ None
stopped_level words job asks pops is = (stopped_may words job asks pops is).level

-- what is never there is none
pub none_of : {X : Type 0} (o : Option X) → ((x : X) → o ≡ Some x → ⊥) → o ≡ None
none_of None never = refl
none_of (Some x) never = absurd (never x refl)

-- where a number of samples is asked for, no run stops
pub counted_runs_out : (words : List (List ℕ)) (job : Job) → Asks words job → (count : ℕ) → job.count ≡ Some count
    → job.pops ≡ None
counted_runs_out words job asks count is =
    none_of job.pops (λ pops stop. none-some count (sym (stopped_may words job asks pops stop).once ∙ is))

-- no job of a certificate says after how many pops a run stops: what holds without of both its commands holds of it
pub cert_alone : (Holds : Option ℕ → Command → Type 0) (job : Job) → ((pops : ℕ) → job.pops ≡ Some pops → MayStop job)
    → input_of job.command ≡ Certificate → Holds None Replay → Holds None Resume → Holds job.pops job.command
cert_alone Holds job stops cert replays resumes =
    let none : job.pops ≡ None = none_of job.pops (λ pops stop.
    cert_line job.command cert (paused_line job.command (stops pops stop).command)) in
    subst (λ p. Holds p job.command) (sym none) (by_command job.command cert)
  where
    by_command : (k : Command) → input_of k ≡ Certificate → Holds None k
    by_command Replay is = replays
    by_command Resume is = resumes
    by_command k is = absurd (cert_line k is tt)

-- no other text is read whole, where no run may stop
pub line_whole : (job : Job) (left left' : Option (List ℕ)) → job.pops ≡ None → IsOfLine job.command
    → WasReadWhole job.pops job.command left left'
line_whole job left left' none line =
    subst (λ p. WasReadWhole p job.command left left') (sym none) (by_command job.command line)
  where
    by_command : (k : Command) → IsOfLine k → WasReadWhole None k left left'
    by_command Replay line = absurd line
    by_command Resume line = absurd line
    by_command k line = tt

-- and it is judged line by line
pub line_behind : (job : Job) (taken : List ℕ) → job.pops ≡ None → IsOfLine job.command
    → HasNoBadLine job.command taken → MayFailBehind job.pops job.command taken
line_behind job taken none line h =
    subst (λ p. MayFailBehind p job.command taken) (sym none) (by_command job.command line h)
  where
    by_command : (k : Command) → IsOfLine k → HasNoBadLine k taken → MayFailBehind None k taken
    by_command Replay line h = absurd line
    by_command Resume line h = absurd line
    by_command k line h = h

-- each command that reads no certificate samples, but a check
pub line_samples : (k : Command) → (k ≡ Check → ⊥) → IsOfLine k → Contains sampling k
line_samples Formula check line = (0, omega arith, refl)
line_samples Orient check line = (1, omega arith, refl)
line_samples Tree check line = (2, omega arith, refl)
line_samples Resample check line = (3, omega arith, refl)
line_samples Make check line = (4, omega arith, refl)
line_samples Rounds check line = (5, omega arith, refl)
line_samples Check check line = absurd (check refl)
line_samples k check line = absurd line

-- so does a command whose run may stop, and not by rounds
pub paused_samples : (k : Command) → Contains paused k → Contains sampling k
paused_samples k has =
    line_samples k (λ is. false≢true (sym (ap is_paused is) ∙ paused_is k has)) (paused_line k has)

pub paused_no_rounds : (k : Command) → Contains paused k → k ≡ Rounds → ⊥
paused_no_rounds k has is = false≢true (sym (ap is_paused is) ∙ paused_is k has)
