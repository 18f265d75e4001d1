-- What is printed tells the sample, but at loops of a graph that is oriented. So samples whose lines begin one text are
-- alike. Another sample stands for each of them, with the values of loops carried along.
use Rattle.std.proofs.Common.{◌≡◌, ℕ, ◌<◌, ◌^◌, List, ◌++◌, ◌*◌, length, get_or, refl, sym, ap, subst, ◌∙◌, arith, None, Ok}
use Rattle.std.proofs.lemmas.List.{get_or_default}
use Rattle.pop_model.specs.Popping.{Cube}
use Rattle.pop_samples.specs.Frames.{Frame, IsSampleOf}
use Rattle.pop_samples.specs.Weights.{sample_weight}
use Rattle.pop_words.specs.declared.command.Command.{Command}
use Rattle.dimacs_read.specs.Cnf.{Cnf}
use Rattle.dimacs_read.specs.CnfText.{AnswersCnf, cnf_of, cnf_refusal}
use Rattle.graph_read.specs.declared.edge.Edge.{Edge}
use Rattle.graph_read.specs.Graphs.{GraphOf, IsGraph, IsVertex}
use Rattle.graph_read.specs.Incidence.{is_loop}
use Rattle.sink_popping.specs.Sinks.{AreSinksOf}
use Rattle.pop_print.specs.declared.facts.Facts.{Facts}
use Rattle.pop_print.specs.declared.facts.Facts.TheVariants.{Formula as FormulaFacts, Orient as OrientFacts, Tree as TreeFacts}
use Rattle.pop_print.specs.Output.{sample_lines}
use Rattle.job_subjects.specs.declared.wanted.Wanted.{Wanted}
use Rattle.job_subjects.specs.Subjects.{pair_weights, Subject, assignments, arrows_to, orientations, IsSubjectOf}
use Rattle.job_subjects.proofs.MadeInstances.{count_of_weights, slots_of_weights}
use Rattle.answer_laws.specs.ExactAnswers.{frame_over}
use Rattle.answer_laws.specs.PrintedOnce.{AreBits, AreSlots}
use Rattle.answer_laws.specs.ExactOutputs.{AreTelling}
use Rattle.answer_laws.proofs.EverySample.{pair_values}
use Rattle.answer_laws.proofs.LoopedEdges.{DifferAtLoops, bits_weigh, carried, carried_alike, carried_back, carried_sample, same_lines}
use Rattle.answer_laws.proofs.PrintedApart.{assignments_apart, orientations_apart, trees_apart}
use Rattle.answer_laws.proofs.SubjectKinds.{graph_known, holds_of}
use Rattle.dimacs_read.proofs.GrammarLaw as cnf

-- a formula of a text has few variables
pub few_variables : (text : List ℕ) → cnf_refusal text ≡ None → (cnf_of text).variables < 2 ^ 32
few_variables text none = let fit = (cnf.sound text none).variables_fit in omega (arith, fit)

-- samples that print the same lines: they are the same, but at loops of a graph that is oriented
abbrev pub IsLike : Facts → List ℕ → List ℕ → Type 0
IsLike (OrientFacts g) x y = DifferAtLoops g.edges x y
IsLike facts x y = x ≡ y

-- so they do
pub like_lines : (facts : Facts) (x y : List ℕ) → IsLike facts x y → sample_lines facts x ≡ sample_lines facts y
like_lines (OrientFacts g) x y same = same_lines g x y same
like_lines facts x y same = ap (sample_lines facts) same

-- slots of a graph's trees
slots_of : (g : GraphOf) (root : ℕ) (heights x : List ℕ)
    → IsSampleOf (frame_over (arrows_to (TreeFacts g root) g root) heights) x → AreSlots g root x
slots_of g root heights x is =
    let count = is.count in
    let weights = count_of_weights g root in
    record {
      count = omega (arith, count, weights);
      places = λ v below.
          let value = is.values v below in
          let slots = slots_of_weights g root v (omega (arith, below, count, weights)) in
          omega (arith, value, slots);
    }

-- two samples of a subject, and the lines of them that begin one text
abbrev pub BeginOneText : List ℕ → List ℕ → List ℕ → List ℕ → List ℕ → Subject → Type 0
BeginOneText heights x y more other t =
    IsSampleOf (frame_over t heights) x × IsSampleOf (frame_over t heights) y
    × (sample_lines t.facts x ++ more ≡ sample_lines t.facts y ++ other)

-- what a subject's samples print tells them
abbrev pub LinesTell : Subject → Type 0
LinesTell s = AreTelling s.facts → (heights x y more other : List ℕ) → BeginOneText heights x y more other s
    → IsLike s.facts x y

-- so it is of assignments
assignments_tell : (text : List ℕ) (f : Cnf) (events : List (ℕ × Cube)) → AnswersCnf text (Ok f)
    → LinesTell (assignments f events)
assignments_tell text f events spelled tells heights x y more other both =
    let few : f.variables < 2 ^ 32 =
    subst (λ (g : Cnf). g.variables < 2 ^ 32) (sym spelled.1) (few_variables text spelled.0) in
    assignments_apart f.variables x y more other few
    (pair_values f.variables events (FormulaFacts f.variables) heights x both.0)
    (pair_values f.variables events (FormulaFacts f.variables) heights y both.1) both.2

-- of orientations
orientations_tell : (g : GraphOf) (events : List (ℕ × Cube)) → IsGraph g → LinesTell (orientations g events)
orientations_tell g events is tells heights x y more other both = λ j d less plain.
    let bits = pair_values (length g.edges) events (OrientFacts g) heights x both.0 in
    let bits' = pair_values (length g.edges) events (OrientFacts g) heights y both.1 in
    let none : Edge = record { u = 0; v = 0; weight = 0 } in
    let at : get_or g.edges j none ≡ get_or g.edges j d = get_or_default g.edges j none d less in
    orientations_apart g x y more other is bits bits' both.2 j less (ap is_loop at ∙ plain)

-- of arrows to a root
arrows_tell : (g : GraphOf) (root : ℕ) → IsGraph g → IsVertex g.vertices root
    → LinesTell (arrows_to (TreeFacts g root) g root)
arrows_tell g root is root_is tells heights x y more other both =
    trees_apart g root x y more other is root_is (slots_of g root heights x both.0) (slots_of g root heights y both.1)
    both.2

-- and of whatever is sampled
pub lines_tell : (k : Command) (w : Wanted) (text : List ℕ) (s : Subject) → IsSubjectOf k w text s → LinesTell s
lines_tell k w text s = holds_of text LinesTell (record {
  assignments_hold = λ f events spelled are. assignments_tell text f events spelled;
  orientations_hold = λ g events spelled are. orientations_tell g events (graph_known text g spelled);
  arrows_hold = λ g root spelled root_is joined. arrows_tell g root (graph_known text g spelled) root_is;
  grid_arrows_hold = λ side is tells. absurd tells;
}) k w s

-- ---- another sample, with the values of loops carried along

-- the sample that stands for x where u stands for w
abbrev pub carry : Facts → List ℕ → List ℕ → List ℕ
carry (OrientFacts g) u x = carried g.edges u x
carry facts u x = x

-- what is known of such values, for samples like w
pub record Carries (f : Frame) (Like : List ℕ → List ℕ → Type 0) (move : List ℕ → List ℕ → List ℕ) (w x : List ℕ)
    : Type 0 where
  pub made : (u : List ℕ) → IsSampleOf f u → Like u w → IsSampleOf f (move u x)
  pub like : (u : List ℕ) → IsSampleOf f u → Like u w → Like (move u x) x
  pub back : (u : List ℕ) → IsSampleOf f u → Like u w → move (move u x) w ≡ u
  pub weight : (u : List ℕ) → IsSampleOf f u → Like u w → (a b : ℕ)
      → a * sample_weight f.weights u ≡ b * sample_weight f.weights (move u x)
      → b * sample_weight f.weights x ≡ a * sample_weight f.weights w

-- so it is of a subject
abbrev pub CarriesOf : Subject → List ℕ → List ℕ → List ℕ → Type 0
CarriesOf s heights w x = Carries (frame_over s heights) (IsLike s.facts) (carry s.facts) w x

-- samples that are like themselves alone stand for themselves
plain : (f : Frame) (w x : List ℕ) → IsSampleOf f x → Carries f (λ u v. u ≡ v) (λ u v. v) w x
plain f w x is_x = record {
  made = λ u is same. is_x;
  like = λ u is same. refl;
  back = λ u is same. sym same;
  weight = λ u is same a b e. sym e ∙ ap (λ (v : List ℕ). a * sample_weight f.weights v) same;
}

-- orientations carry the values of loops, and weigh 1
oriented_carries : (g : GraphOf) (events : List (ℕ × Cube)) (heights w x : List ℕ) → AreSinksOf g events
    → IsSampleOf (frame_over (orientations g events) heights) w
    → IsSampleOf (frame_over (orientations g events) heights) x → CarriesOf (orientations g events) heights w x
oriented_carries g events heights w x are is_w is_x =
    let n : ℕ = length g.edges in
    let Of : List ℕ → Type 0 = IsSampleOf (frame_over (orientations g events) heights) in
    let bits : (u : List ℕ) → Of u → AreBits n u = λ u is. pair_values n events (OrientFacts g) heights u is in
    let one : (u : List ℕ) → Of u → sample_weight (pair_weights n) u ≡ 1 =
    λ u is. bits_weigh n u (bits u is).count_is (bits u is).bits in
    let made : (u : List ℕ) → Of u → Of (carried g.edges u x) =
    λ u is. carried_sample g events heights u x are (bits u is) (bits x is_x) is_x in
    record {
      made = λ u is same. made u is;
      like = λ u is same. carried_alike g.edges u x (bits u is).count_is (bits x is_x).count_is;
      back = λ u is same.
          carried_back g.edges u w x (bits u is).count_is (bits w is_w).count_is (bits x is_x).count_is same;
      weight = λ u is same a b e.
          ap (λ (k : ℕ). b * k) (one x is_x ∙ sym (one (carried g.edges u x) (made u is))) ∙ sym e
          ∙ ap (λ (k : ℕ). a * k) (one u is ∙ sym (one w is_w));
    }

-- another sample of a subject whose lines are printed may be carried so
abbrev pub AreCarried : Subject → Type 0
AreCarried s = AreTelling s.facts → (heights w x : List ℕ) → IsSampleOf (frame_over s heights) w
    → IsSampleOf (frame_over s heights) x → CarriesOf s heights w x

-- this may be done of each
pub carries : (k : Command) (w : Wanted) (text : List ℕ) (s : Subject) → IsSubjectOf k w text s → AreCarried s
carries k w text s = holds_of text AreCarried (record {
  assignments_hold = λ f events spelled are tells heights v x is_v is_x.
      plain (frame_over (assignments f events) heights) v x is_x;
  orientations_hold = λ g events spelled are tells heights v x is_v is_x.
      oriented_carries g events heights v x are is_v is_x;
  arrows_hold = λ g root spelled root_is joined tells heights v x is_v is_x.
      plain (frame_over (arrows_to (TreeFacts g root) g root) heights) v x is_x;
  grid_arrows_hold = λ side is tells. absurd tells;
}) k w s
