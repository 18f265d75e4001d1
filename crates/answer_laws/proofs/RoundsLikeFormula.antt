-- Rounds of an extremal formula end as its run on one thread does. What is made from the input for one is made for the
-- other, over stacks of one source, so both have one instance. There rounds are exhausted if and only if the run is,
-- and if both finish, their cursors are equal. An event occurs at the end of rounds if and only if they are exhausted.
use Rattle.std.proofs.Common.{inl, inr, ◌≡◌, ◌≢◌, ◌⊎◌, ◌≤◌, ℕ, false, List, [], ◌∷◌, Option, None, Some, refl, sym, ap, subst, ◌∙◌, arith, append-nil, Contains, true}
use Rattle.std.proofs.lemmas.Option.{none-some}
use Rattle.pop_model.specs.Stacks.{StackTable}
use Rattle.pop_model.specs.Popping.{Cube}
use Rattle.pop_model.specs.Families.{Event}
use Rattle.pop_model.specs.Families.Family.{Listed}
use Rattle.pop_model.specs.Instances.{Instance}
use Rattle.pop_model.specs.Extremal.{IsExtremal}
use Rattle.pop_model.specs.Runs.{IsFinished, IsStuckList, IsFirstEnd}
use Rattle.pop_model.proofs.Rising.{head_member}
use Rattle.pop_stacks.specs.Faults.{IsSound}
use Rattle.prs_rounds.specs.Rounds.{IsRoundsEnd}
use Rattle.prs_rounds.proofs.OnlyOccurring.{resampled_occurs}
use Rattle.prs_rounds.proofs.LikeFirst.{ends_like_first}
use Rattle.pop_words.specs.declared.command.Command.TheVariants.{Formula, Rounds}
use Rattle.pop_words.specs.declared.job.Job.{Job}
use Rattle.pop_words.specs.Options.{quiet}
use Rattle.dimacs_read.specs.CnfText.{cnf_of}
use Rattle.pop_watch.specs.Telling.{Watcher}
use Rattle.pop_print.specs.declared.facts.Facts.{Facts}
use Rattle.pop_print.specs.declared.facts.Facts.TheVariants.{Formula as FormulaFacts}
use Rattle.pop_print.specs.Output.{findings}
use Rattle.job_subjects.specs.declared.wanted.Wanted.{Wanted}
use Rattle.job_subjects.specs.Subjects.{Subject, instance_over, IsSubjectOf, assignments}
use Rattle.told_runs.specs.Names.{names_for}
use Rattle.told_runs.specs.Tellings.{Telling, telling_text}
use Rattle.told_runs.specs.Outcomes.{Outcome, status_of, text_of, end_status}
use Rattle.told_runs.specs.Outcomes.Outcome.{Ended, Rounded}
use Rattle.top_call.specs.Answers.{origin_for, wanted_by, ComesOf, IsOfLine}
use Rattle.top_call.proofs.BatchWords.{is_batched, uncounted}
use Rattle.answer_laws.specs.RoundsLikeFormula.{AgreeUpToUsed, RoundsLikeFormula}
use Rattle.answer_laws.proofs.Finished.{finished}
use Rattle.answer_laws.proofs.OneOutcome.{line_comes}
use Rattle.answer_laws.proofs.OneRefusal.{made_unrefused}
use Rattle.answer_laws.proofs.OneSubject.{one_cnf_subject}
use Rattle.answer_laws.proofs.ToldSubjects.{IsEndOfSubject, ordered_extremal, one_is_made}
use Rattle.answer_laws.proofs.KeyAnswers.{of_low}
use Rattle.answer_laws.proofs.RoundAnswers.{IsEndOfRounds, of_rounds, rounds_subject}

-- how the end of a run stands beside that of rounds
record EndAlike (c : List ℕ) (stuck : List Event) (d : List ℕ) (rest : List Event) (short : Option ℕ) : Type 0 where
  statuses : end_status stuck ≡ end_status rest
  finish : end_status stuck ≡ 0 → (stuck ≡ []) × (rest ≡ []) × (short ≡ None) × (c ≡ d)

-- a list that isn't other than empty
emptied : (stuck : List Event) → (stuck ≢ [] → ⊥) → stuck ≡ []
emptied [] none = refl
emptied (e ∷ stuck) none = absurd (none (λ is. cc))

-- the status of some events
some_status : (stuck : List Event) → stuck ≢ [] → end_status stuck ≡ 1
some_status [] some = absurd (some refl)
some_status (e ∷ stuck) some = refl

-- where no event occurs, none is listed
none_listed : (i : Instance) (c : List ℕ) (stuck : List Event) → IsFinished i c → IsStuckList i c stuck → stuck ≡ []
none_listed i c [] none list = refl
none_listed i c (e ∷ stuck) none list = let there = (list.exact e).0 (head_member e stuck) in absurd (none e there.0 there.1)

-- on an extremal instance they stand alike
end_alike : (s : StackTable) (rows : List (ℕ × Cube)) → IsExtremal (Listed rows) → (c : List ℕ) (pops : ℕ)
    (stuck : List Event) → IsFirstEnd (record { stacks = s; family = Listed rows }) c pops stuck
    → (d : List ℕ) (n : ℕ) (rest : List Event) (short : Option ℕ)
    → IsRoundsEnd (record { stacks = s; family = Listed rows }) d n rest short → EndAlike c stuck d rest short
end_alike s rows extremal c pops stuck end d n rest None rounds =
    let i : Instance = record { stacks = s; family = Listed rows } in
    let like = ends_like_first s rows extremal d n rest None rounds c pops stuck end in
    let none : rest ≡ [] = none_listed i d rest rounds.end rounds.stuck_list in
    let empty : stuck ≡ [] = emptied stuck (λ some. like.exhausted.1 some refl) in
    record {
      statuses = ap end_status empty ∙ sym (ap end_status none);
      finish = λ zero. (empty, none, refl, sym (like.finished refl));
    }
end_alike s rows extremal c pops stuck end d n rest (Some v) rounds =
    let i : Instance = record { stacks = s; family = Listed rows } in
    let like = ends_like_first s rows extremal d n rest (Some v) rounds c pops stuck end in
    let some : stuck ≢ [] = like.exhausted.0 (λ is. cc) in
    let one : end_status stuck ≡ 1 = some_status stuck some in
    let resampled = rounds.end.holds.resampled in
    let occurs = resampled_occurs i extremal d resampled.0 resampled.1 in
    let more : rest ≢ [] = λ is.
    finished i d [] (subst (IsStuckList i d) is rounds.stuck_list) refl resampled.0 occurs.event occurs.occurs in
    record {
      statuses = one ∙ sym (some_status rest more);
      finish = λ zero. absurd (let both : 1 ≡ 0 = sym one ∙ zero in omega (arith, both));
    }

-- how the answers stand beside one another
abbrev AnswerAlike : Outcome → Outcome → Type 0
AnswerAlike o p = (status_of o ≡ status_of p) × (status_of o ≡ 0 → AgreeUpToUsed (text_of o) (text_of p))

-- the texts of a sample
texts_agree : (n : ℕ) (i : Instance) (c : List ℕ) (pops rounds : ℕ) (a : Telling)
    → AgreeUpToUsed (text_of (Ended (FormulaFacts n) i c pops [] a)) (text_of (Rounded (FormulaFacts n) i c rounds [] None))
texts_agree n i c pops rounds a =
    record {
      found = findings (FormulaFacts n) i c [];
      cursors = c;
      pops = pops;
      rounds = rounds;
      told = telling_text (names_for (FormulaFacts n)) i a;
      out_is = refl;
      other_is = append-nil _;
    }

-- so the answers do where the ends do
answers_alike : (n : ℕ) (i : Instance) (c d : List ℕ) (pops rounds : ℕ) (stuck rest : List Event) (a : Telling)
    (short : Option ℕ) → EndAlike c stuck d rest short
    → AnswerAlike (Ended (FormulaFacts n) i c pops stuck a) (Rounded (FormulaFacts n) i d rounds rest short)
answers_alike n i c d pops rounds stuck rest a short alike = (
  alike.statuses,
  λ zero.
      let (empty, none, whole, same) = alike.finish zero in
      let left : Ended (FormulaFacts n) i c pops [] a ≡ Ended (FormulaFacts n) i c pops stuck a = cc in
      let right : Rounded (FormulaFacts n) i c rounds [] None ≡ Rounded (FormulaFacts n) i d rounds rest short = cc in
      subst (λ o. AgreeUpToUsed (text_of o) (text_of (Rounded (FormulaFacts n) i d rounds rest short))) left
      (subst (λ p. AgreeUpToUsed (text_of (Ended (FormulaFacts n) i c pops [] a)) (text_of p)) right
      (texts_agree n i c pops rounds a)),
)

-- what is sampled of a formula is what its rounds are made of
for_rounds : (w v : Wanted) (text : List ℕ) (s : Subject) → IsSubjectOf Formula w text s → IsSubjectOf Rounds v text s
for_rounds w v text s h = record {
  formula = h.formula;
  spelled = h.spelled;
  are = record {
    events = h.are.events;
    of_formula = h.are.of_formula;
    extremal = λ may_not. absurd (cc);
    is = h.are.is;
  };
}

-- so the end of a formula's run stands beside that of its rounds, over stacks of one origin
ends_alike : (job other : Job) (ws : List Watcher) (text : List ℕ) (facts told : Facts) (i j : Instance) (c d : List ℕ)
    (pops rounds : ℕ) (stuck rest : List Event) (a : Telling) (short : Option ℕ) → job.command ≡ Formula
    → origin_for job ≡ origin_for other → IsEndOfSubject job ws text facts i c pops stuck a
    → IsEndOfRounds (origin_for other) text told j d rounds rest short
    → AnswerAlike (Ended facts i c pops stuck a) (Rounded told j d rounds rest short)
ends_alike job other ws text facts told i j c d pops rounds stuck rest a short is origin of r =
    let n : ℕ = (cnf_of text).variables in
    let s : Subject = assignments (cnf_of text) r.events in
    let k : Instance = instance_over (origin_for other) s in
    let same : of.subject ≡ s =
    one_cnf_subject false true text of.subject s (subst (λ m. IsSubjectOf m (wanted_by job) text of.subject) is of.is)
    (rounds_subject (wanted_by other) text r.events r.spelled r.of_formula) in
    let extremal : IsExtremal s.family =
    subst (λ (t : Subject). IsExtremal t.family) same
    (ordered_extremal job.command (wanted_by job) text of.subject of.ordered of.is) in
    let end : IsFirstEnd k c pops stuck =
    subst (λ o. IsFirstEnd (instance_over o s) c pops stuck) origin
    (subst (λ t. IsFirstEnd (instance_over (origin_for job) t) c pops stuck) same of.end) in
    let facts_are : facts ≡ FormulaFacts n = of.facts_are ∙ ap (λ (t : Subject). t.facts) same in
    let told_is : told ≡ FormulaFacts n = r.facts_are in
    let i_is : i ≡ k = of.instance_is ∙ ap (instance_over (origin_for job)) same ∙ ap (λ o. instance_over o s) origin in
    let j_is : j ≡ k = r.instance_is in
    let left : Ended (FormulaFacts n) k c pops stuck a ≡ Ended facts i c pops stuck a = cc in
    let right : Rounded (FormulaFacts n) k d rounds rest short ≡ Rounded told j d rounds rest short = cc in
    subst (λ o. AnswerAlike o (Rounded told j d rounds rest short)) left
    (subst (AnswerAlike (Ended (FormulaFacts n) k c pops stuck a)) right
    (answers_alike n k c d pops rounds stuck rest a short
    (end_alike k.stacks r.events extremal c pops stuck end d rounds rest short r.end)))

-- of two lines over one text
lines_alike : (job other : Job) (ws vs : List Watcher) (text : List ℕ) (o p : Outcome) → job.command ≡ Formula
    → other.command ≡ Rounds → job.count ≡ None → other.count ≡ None → origin_for job ≡ origin_for other
    → ComesOf job ws text o → ComesOf other vs text p → status_of o ≤ 1 → AnswerAlike o p
lines_alike job other ws vs text o p is is' once once' origin h h' =
    of_low job (subst (Contains quiet) (sym is) (0, omega arith, refl)) ws text (λ q. AnswerAlike q p)
    (λ facts i c pops stuck a of.
    let s : Subject = of.subject in
    let own : IsSubjectOf Formula (wanted_by job) text s = subst (λ k. IsSubjectOf k (wanted_by job) text s) is of.is in
    let made = one_is_made (wanted_by other) text s once' (subst (λ k. IsSubjectOf k (wanted_by other) text s) (sym is')
    (for_rounds (wanted_by job) (wanted_by other) text s own)) (subst (λ x. IsSound x s.weights) origin of.sound) in
    of_rounds other is' vs text (AnswerAlike (Ended facts i c pops stuck a))
    (λ r refuses.
    absurd (made_unrefused (wanted_by other) text s.facts (instance_over (origin_for other) s) r made refuses))
    (λ told j d n rest short r.
    ends_alike job other ws text facts told i j c d pops n stuck rest a short is origin of r) p h')
    (λ facts i ends of. absurd (none-some of.batch.count (sym once ∙ of.batch.asked_is))) o h

-- a status of a sample or an exhausted end
low_status : (n : ℕ) → (n ≡ 0) ⊎ (n ≡ 1) → n ≤ 1
low_status n (inl is) = omega (arith, is)
low_status n (inr is) = omega (arith, is)

-- the law
pub rounds_like_formula : RoundsLikeFormula
rounds_like_formula words others ws vs text status other out out' d (o, comes, tells) (p, comes', tells') low =
    let one : ComesOf d.job ws text o =
    line_comes words d.job ws text o d.asks (subst IsOfLine (sym d.command) tt) comes in
    let two : ComesOf d.other vs text p =
    line_comes others d.other vs text p d.asks_other (subst IsOfLine (sym d.by_rounds) tt) comes' in
    let alone : d.other.count ≡ None = uncounted others d.other d.asks_other (ap is_batched d.by_rounds) in
    let alike = lines_alike d.job d.other ws vs text o p d.command d.by_rounds d.once alone d.origin one two
    (subst (λ n. n ≤ 1) tells.status_is (low_status status low)) in (
      tells.status_is ∙ alike.0 ∙ sym tells'.status_is,
      λ zero. subst (λ x. AgreeUpToUsed x out') (sym tells.out_is) (subst (AgreeUpToUsed (text_of o)) (sym tells'.out_is)
          (alike.1 (sym tells.status_is ∙ zero))),
    )
