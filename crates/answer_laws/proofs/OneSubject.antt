-- An input has at most one formula or graph, and this has one list of events or one family of cycles. So each command
-- has at most one subject for an input, and at most one thing is made from it.
use Rattle.std.proofs.Common.{◌≡◌, ℕ, ℤ, List, Bool, true, false, sym, ap, subst, ◌∙◌}
use Rattle.pop_model.specs.Popping.{Cube}
use Rattle.pop_model.proofs.Rising.{same_rising}
use Rattle.pop_model.specs.Instances.{Instance}
use Rattle.pop_words.specs.declared.command.Command.{Command}
use Rattle.pop_words.specs.declared.command.Command.TheVariants.{Formula, Orient, Tree, Resample, Make, Rounds}
use Rattle.dimacs_read.specs.Falsifying.{AreEventsOf}
use Rattle.dimacs_read.specs.Cnf.{Cnf}
use Rattle.graph_read.specs.Graphs.{GraphOf}
use Rattle.sink_popping.specs.Sinks.{AreSinksOf}
use Rattle.pop_print.specs.declared.facts.Facts.{Facts}
use Rattle.job_subjects.specs.declared.wanted.Wanted.{Wanted}
use Rattle.job_subjects.specs.Subjects.{Subject, instance_over, assignments, orientations, AreAssignments, AreOrientations, AreArrows, IsOfCnf, IsOfGraph, IsSubjectOf}
use Rattle.job_subjects.specs.Made.{IsMade}

-- ---- events

-- clauses have one list of events
pub one_events : (clauses : List (List ℤ)) (a b : List (ℕ × Cube)) → AreEventsOf clauses a → AreEventsOf clauses b → a ≡ b
one_events clauses a b is is' =
    same_rising (λ (r : ℕ × Cube). r.0) a b is.rising is'.rising
    (λ r has. (is'.exact r.0 r.1).1 ((is.exact r.0 r.1).0 has)) (λ r has. (is.exact r.0 r.1).1 ((is'.exact r.0 r.1).0 has))

-- a graph has one list of sinks
pub one_sinks : (g : GraphOf) (a b : List (ℕ × Cube)) → AreSinksOf g a → AreSinksOf g b → a ≡ b
one_sinks g a b is is' =
    same_rising (λ (r : ℕ × Cube). r.0) a b is.rising is'.rising
    (λ r has. (is'.exact r.0 r.1).1 ((is.exact r.0 r.1).0 has)) (λ r has. (is.exact r.0 r.1).1 ((is'.exact r.0 r.1).0 has))

-- ---- subjects

-- a formula has one list of events, whether these may clash or not
pub one_assignments : (may_clash might : Bool) (f : Cnf) (s t : Subject) → AreAssignments may_clash f s
    → AreAssignments might f t → s ≡ t
one_assignments may_clash might f s t a b =
    a.is ∙ ap (assignments f) (one_events f.clauses a.events b.events a.of_formula b.of_formula) ∙ sym b.is

-- a graph has one list of sinks
one_orientations : (g : GraphOf) (s t : Subject) → AreOrientations g s → AreOrientations g t → s ≡ t
one_orientations g s t a b =
    a.is ∙ ap (orientations g) (one_sinks g a.events b.events a.of_graph b.of_graph) ∙ sym b.is

-- so a text has one subject where its formula has one
one_of_cnf : (Are Be : Cnf → Subject → Type 0) (text : List ℕ) (s t : Subject)
    → ((f : Cnf) → Are f s → Be f t → s ≡ t) → IsOfCnf Are text s → IsOfCnf Be text t → s ≡ t
one_of_cnf Are Be text s t one a b =
    one b.formula (subst (λ f. Are f s) (a.spelled.1 ∙ sym b.spelled.1) a.are) b.are

-- and where its graph has one
one_of_graph : (Are : GraphOf → Subject → Type 0) (text : List ℕ) (s t : Subject)
    → ((g : GraphOf) → Are g s → Are g t → s ≡ t) → IsOfGraph Are text s → IsOfGraph Are text t → s ≡ t
one_of_graph Are text s t one a b =
    one b.graph (subst (λ g. Are g s) (a.spelled.1 ∙ sym b.spelled.1) a.are) b.are

-- whether a formula's events may clash or not, its text has one list of them
pub one_cnf_subject : (may_clash might : Bool) (text : List ℕ) (s t : Subject)
    → IsOfCnf (AreAssignments may_clash) text s → IsOfCnf (AreAssignments might) text t → s ≡ t
one_cnf_subject may_clash might text s t =
    one_of_cnf (AreAssignments may_clash) (AreAssignments might) text s t
    (λ f. one_assignments may_clash might f s t)

-- one thing is sampled of a text
pub one_subject : (k : Command) (w : Wanted) (text : List ℕ) (s t : Subject) → IsSubjectOf k w text s
    → IsSubjectOf k w text t → s ≡ t
one_subject Formula w text s t a b = one_cnf_subject false false text s t a b
one_subject Orient w text s t a b = one_of_graph AreOrientations text s t (λ g. one_orientations g s t) a b
one_subject Tree w text s t a b = one_of_graph (AreArrows w.root) text s t (λ g h h'. h.is ∙ sym h'.is) a b
one_subject Resample w text s t a b = one_cnf_subject true true text s t a b
one_subject Make w text s t a b = a.is ∙ sym b.is
one_subject Rounds w text s t a b = one_cnf_subject true true text s t a b
one_subject k w text s t a b = absurd a

-- so one thing is made of it
pub one_made : (w : Wanted) (text : List ℕ) (facts told : Facts) (i j : Instance) → IsMade w text facts i
    → IsMade w text told j → (facts ≡ told) × (i ≡ j)
one_made w text facts told i j a b =
    let same : a.subject ≡ b.subject = one_subject w.command w text a.subject b.subject a.are b.are in (
      a.over.facts_are ∙ ap (λ (s : Subject). s.facts) same ∙ sym b.over.facts_are,
      a.over.instance_is ∙ ap (instance_over w.origin) same ∙ sym b.over.instance_is,
    )

-- and what holds of the one holds of the other
pub moved : (P : Facts → Instance → Type 0) (w : Wanted) (text : List ℕ) (facts told : Facts) (i j : Instance)
    → IsMade w text facts i → IsMade w text told j → P facts i → P told j
moved P w text facts told i j a b h =
    let same = one_made w text facts told i j a b in subst (P told) same.1 (subst (λ t. P t i) same.0 h)
