-- What is made from a formula or a graph is what is made from its input, and the error of one is the error of the
-- input.
use Rattle.std.proofs.Common.{inl, inr, ◌≡◌, ◌⊎◌, ℕ, List, Result, IfOk, IfErr, sym, subst}
use Rattle.std.proofs.lemmas.Result.{IfOk-weaker}
use Rattle.pop_words.specs.declared.command.Command.{Command}
use Rattle.pop_words.specs.declared.command.Command.TheVariants.{Formula, Orient, Tree, Resample, Make, Rounds}
use Rattle.job_subjects.specs.declared.making.Made.{Made}
use Rattle.job_subjects.specs.declared.refusal.Refusal.{Refusal}
use Rattle.job_subjects.specs.declared.wanted.Wanted.{Wanted}
use Rattle.job_subjects.specs.Refusals.{IsRefusal}
use Rattle.job_subjects.specs.Subjects.{Subject, IsSubjectOf}
use Rattle.job_subjects.specs.Made.{IsMadeOf, IsMade}
use Rattle.job_subjects.specs.Refused.{RefusesBy, RefusesText}
use Rattle.job_subjects.proofs.Carrying.{refused_result_by}

-- what is made of a subject of a command is made as it is wanted
pub made_by : {E : Type 0} (k : Command) (w : Wanted) (text : List ℕ) (Are : Subject → Type 0) (r : Result Made E)
    → w.command ≡ k → ((s : Subject) → Are s → IsSubjectOf k w text s)
    → IfOk r (λ m. IsMadeOf Are w.origin w.count m.facts m.instance) → IfOk r (λ m. IsMade w text m.facts m.instance)
made_by k w text Are r is lifts =
    IfOk-weaker r _ _ (λ m h. record {
      subject = h.subject;
      are = subst (λ c. IsSubjectOf c w text h.subject) (sym is) (lifts h.subject h.are);
      over = h.over;
    })

-- what refuses the text of a command refuses that of which it is wanted
pub refused_as : (k : Command) (w : Wanted) (text : List ℕ) (r : Refusal) → w.command ≡ k → RefusesBy k w text r
    → RefusesText w text r
refused_as k w text r is h = subst (λ c. RefusesBy c w text r) (sym is) h

pub refused_by_text : {X : Type 0} (k : Command) (w : Wanted) (text : List ℕ) (Refuses : Refusal → Type 0)
    (r : Result X Refusal) → w.command ≡ k → ((q : Refusal) → Refuses q → RefusesBy k w text q)
    → IfErr r (IsRefusal Refuses) → IfErr r (IsRefusal (RefusesText w text))
refused_by_text k w text Refuses r is lifts =
    refused_result_by Refuses (RefusesText w text) r (λ q h. refused_as k w text q is (lifts q h))

-- a command that reads a formula makes no grid, nor does one that reads a graph
pub cnf_no_grid : (k : Command) → (k ≡ Formula) ⊎ ((k ≡ Resample) ⊎ (k ≡ Rounds)) → k ≡ Make → ⊥
cnf_no_grid k (inl is) make = absurd (cc)
cnf_no_grid k (inr (inl is)) make = absurd (cc)
cnf_no_grid k (inr (inr is)) make = absurd (cc)

pub graph_no_grid : (k : Command) → (k ≡ Orient) ⊎ (k ≡ Tree) → k ≡ Make → ⊥
graph_no_grid k (inl is) make = absurd (cc)
graph_no_grid k (inr is) make = absurd (cc)
