-- The error of arguments that are no command line.
use Rattle.std.proofs.Common.{inl, inr, ◌≡◌, ℕ, List, Err, sym, subst}
use Rattle.pop_words.specs.declared.fault.WordFault.{WordFault}
use Rattle.pop_words.specs.declared.fault.WordFault.TheVariants.{Usage as BadWord, OutOfMemory as WordMemory}
use Rattle.pop_words.specs.CommandLines.{Asks, IsBadPlace, IsWordFault}
use Rattle.pop_words.specs.declared.job.Job.{Job}
use Rattle.pop_watch.specs.Telling.{Watcher}
use Rattle.job_subjects.specs.declared.answer.Answer.{Answer}
use Rattle.job_subjects.specs.declared.stop.Stop.TheVariants.{ReadFault}
use Rattle.job_subjects.specs.declared.refusal.Refusal.{Refusal}
use Rattle.job_subjects.specs.declared.refusal.Refusal.TheVariants.{Usage, Stopped}
use Rattle.top_call.specs.Answers.{IsOutcome}
use Rattle.job_subjects.specs.Refusals.{unworded, IsJudged}
use Rattle.told_runs.specs.Results.{ComesRefused}
use Rattle.top_call.proofs.ToldRefusals.{IsOfWords}

-- bad words are refused at their first bad place
pub words_refused : (words : List (List ℕ)) (ws : List Watcher) (text : List ℕ) (fault : WordFault) (r : Refusal)
    → r ≡ unworded fault → IsWordFault words fault → ComesRefused (IsOutcome words ws text) r
words_refused words ws text (BadWord place) r is bad = inr (inl (record { place = place; bad = bad; is = is }))
words_refused words ws text WordMemory r is bad = inl is

-- and the place is bad that they are refused at
pub words_bad : (words : List (List ℕ)) (fault : WordFault) (r : Refusal) (place : ℕ) → r ≡ unworded fault
    → IsWordFault words fault → r ≡ Usage place → IsBadPlace words place
words_bad words (BadWord p) r place is bad usage = let same : p ≡ place = cc in subst (IsBadPlace words) same bad
words_bad words WordMemory r place is bad usage = absurd (cc)

-- no other refusal comes of words
pub words_only : (fault : WordFault) (r : Refusal) → r ≡ unworded fault → IsOfWords r
words_only (BadWord p) r is = subst IsOfWords (sym is) tt
words_only WordMemory r is = subst IsOfWords (sym is) tt

-- and none where they ask for a job, but want of memory
pub words_judged : (Q : Type 0) (words : List (List ℕ)) (job : Job) (fault : WordFault) (r : Refusal)
    → r ≡ unworded fault → IsWordFault words fault → Asks words job → IsJudged {T = Answer} (Err r) → Q
words_judged Q words job (BadWord p) r is bad asks judged = absurd (bad.outside (job, asks))
words_judged Q words job WordMemory r is bad asks judged =
    absurd (subst (λ q. IsJudged {T = Answer} (Err q)) is judged)

-- nor a fault of the source
pub words_no_fault : (fault : WordFault) (r : Refusal) → r ≡ unworded fault → r ≡ Stopped ReadFault → ⊥
words_no_fault (BadWord p) r is failed = absurd (cc)
words_no_fault WordMemory r is failed = absurd (cc)
