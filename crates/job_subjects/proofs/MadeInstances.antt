-- The instances that the program makes are those of the definitions, and can be printed.
use Rattle.std.proofs.Common.{◌≡◌, ℕ, zero, suc, ◌-◌, ◌*◌, ◌<◌, ◌≤◌, Bool, List, [], Option, Result, IfOk, length, get_or, refl, sym, ap, subst, ◌∙◌, arith, zero-add}
use Rattle.std.proofs.lemmas.List.{length-map}
use Rattle.std.proofs.lemmas.Result.{IfOk-weaker}
use Rattle.std.proofs.lemmas.List.FromFn.{length-map-range_with_len, get_or-map-range_with_len}
use Rattle.pop_model.specs.Stacks.{StackTable, Origin}
use Rattle.pop_model.specs.Families.Family.{Cycles}
use Rattle.pop_model.specs.Instances.{FamilyFits}
use Rattle.pop_model.specs.Names.{vertex_of}
use Rattle.dimacs_read.specs.Cnf.{Cnf}
use Rattle.graph_read.specs.Graphs.{GraphOf, IsVertex, edge_at}
use Rattle.graph_read.specs.Incidence.{edges_at, other_end}
use Rattle.cycle_popping.specs.Trees.{variable_of, heads_at, weights_at, heads_of_tree, weights_of_tree}
use Rattle.pop_print.specs.declared.facts.Facts.{Facts}
use Rattle.pop_print.specs.declared.facts.Facts.TheVariants.{Formula as FormulaFacts}
use Rattle.pop_print.specs.Ends.{AreFactsOf, IsOfTree}
use Rattle.job_subjects.specs.declared.making.Made.{Made}
use Rattle.job_subjects.specs.Subjects.{Subject, instance_over, cycles_instance, tree_instance, arrows_to, AreAssignments}
use Rattle.job_subjects.specs.Made.{IsInstanceOf, IsMadeOf}

-- cycles of arrows with these weights and heads
abbrev pub cycles_over : Facts → List (List ℕ) → List (List (Option ℕ)) → Subject
cycles_over facts weights heads = record { facts = facts; weights = weights; family = Cycles heads }

-- there are as many rows of weights as vertices but the root
pub count_of_weights : (g : GraphOf) (root : ℕ) → length (weights_of_tree g root) ≡ g.vertices - 1
count_of_weights g root = length-map-range_with_len (weights_at g root) 0 (g.vertices - 1)

-- a variable has a weight for each edge at its vertex
pub slots_of_weights : (g : GraphOf) (root v : ℕ) → v < g.vertices - 1
    → length (get_or (weights_of_tree g root) v []) ≡ length (edges_at g (vertex_of root v))
slots_of_weights g root v below =
    ap length (get_or-map-range_with_len (weights_at g root) 0 (g.vertices - 1) v v [] below (zero-add v))
    ∙ length-map (edges_at g (vertex_of root v)) (λ i. (edge_at g i).weight)

-- and a slot
slots_of_heads : (g : GraphOf) (root v : ℕ) → v < g.vertices - 1
    → length (get_or (heads_of_tree g root) v []) ≡ length (edges_at g (vertex_of root v))
slots_of_heads g root v below =
    ap length (get_or-map-range_with_len (heads_at g root) 0 (g.vertices - 1) v v [] below (zero-add v))
    ∙ length-map (edges_at g (vertex_of root v)) (λ i. variable_of root (other_end (edge_at g i) (vertex_of root v)))

-- the instance of a graph's cycles is one of a tree
tree_told : (origin : Origin) (g : GraphOf) (root : ℕ) → IsVertex g.vertices root
    → IsOfTree g root (tree_instance origin g root)
tree_told origin g root root_is =
    let count = count_of_weights g root in
    let first = root_is.first in
    let last = root_is.last in
    record {
      root_is = root_is;
      cycles = (heads_of_tree g root, refl);
      count = omega (arith, count);
      slots = λ v below. slots_of_weights g root v (omega (arith, count, below));
    }

-- each variable has a slot for each of its weights
pub tree_fits : (s : StackTable) (g : GraphOf) (root : ℕ) → s.weights ≡ weights_of_tree g root
    → FamilyFits s (Cycles (heads_of_tree g root))
tree_fits s g root same =
    let heads = length-map-range_with_len (heads_at g root) 0 (g.vertices - 1) in
    let weights = ap length same ∙ count_of_weights g root in (
      heads ∙ sym weights,
      λ v below.
          let less : v < g.vertices - 1 = omega (arith, heads, below) in
          slots_of_heads g root v less ∙ sym (slots_of_weights g root v less)
          ∙ ap (λ w. length (get_or w v [])) (sym same),
    )

-- arrows with the heads and weights of a graph's trees make an instance of these
pub told_tree : (origin : Origin) (g : GraphOf) (root : ℕ) (weights : List (List ℕ)) (heads : List (List (Option ℕ)))
    → IsVertex g.vertices root → weights ≡ weights_of_tree g root → heads ≡ heads_of_tree g root
    → IsOfTree g root (cycles_instance origin weights heads)
told_tree origin g root weights heads root_is weights_are heads_are =
    subst (λ h. IsOfTree g root (cycles_instance origin weights h)) (sym heads_are)
    (subst (λ w. IsOfTree g root (cycles_instance origin w (heads_of_tree g root))) (sym weights_are)
    (tree_told origin g root root_is))

-- and fit stacks of these weights
pub fits_tree : (s : StackTable) (g : GraphOf) (root : ℕ) (heads : List (List (Option ℕ)))
    → s.weights ≡ weights_of_tree g root → heads ≡ heads_of_tree g root → FamilyFits s (Cycles heads)
fits_tree s g root heads weights_are heads_are =
    subst (λ h. FamilyFits s (Cycles h)) (sym heads_are) (tree_fits s g root weights_are)

-- what is made of cycles is told by their facts
pub told_of_cycles : {E : Type 0} (r : Result Made E) (origin : Origin) (asked : Option ℕ) (s : Subject)
    → AreFactsOf s.facts (instance_over origin s) → IfOk r (λ m. IsInstanceOf origin asked s m.facts m.instance)
    → IfOk r (λ m. AreFactsOf m.facts m.instance)
told_of_cycles r origin asked s told =
    IfOk-weaker r _ _ (λ m over. subst (λ t. AreFactsOf t m.instance) (sym over.facts_are)
    (subst (AreFactsOf s.facts) (sym over.instance_is) told))

-- and is that of the arrows of a graph's trees, where it has their heads and weights
pub arrows_made : {E : Type 0} (r : Result Made E) (origin : Origin) (asked : Option ℕ) (Are : Subject → Type 0)
    (facts : Facts) (g : GraphOf) (root : ℕ) (weights : List (List ℕ)) (heads : List (List (Option ℕ)))
    → weights ≡ weights_of_tree g root → heads ≡ heads_of_tree g root → Are (arrows_to facts g root)
    → IfOk r (λ m. IsInstanceOf origin asked (cycles_over facts weights heads) m.facts m.instance)
    → IfOk r (λ m. IsMadeOf Are origin asked m.facts m.instance)
arrows_made r origin asked Are facts g root weights heads weights_are heads_are are =
    IfOk-weaker r _ _ (λ m over. record {
      subject = arrows_to facts g root;
      are = are;
      over = subst (λ h. IsInstanceOf origin asked (cycles_over facts (weights_of_tree g root) h) m.facts m.instance) heads_are
          (subst (λ w. IsInstanceOf origin asked (cycles_over facts w heads) m.facts m.instance) weights_are over);
    })

-- what is made of a formula is told by its facts
pub facts_of_formula : {E : Type 0} (may_clash : Bool) (f : Cnf) (origin : Origin) (asked : Option ℕ) (r : Result Made E)
    → IfOk r (λ m. IsMadeOf (AreAssignments may_clash f) origin asked m.facts m.instance)
    → IfOk r (λ m. (n : ℕ) × (m.facts ≡ FormulaFacts n))
facts_of_formula may_clash f origin asked r =
    IfOk-weaker r _ _ (λ m made. (f.variables, made.over.facts_are ∙ ap (λ (s : Subject). s.facts) made.are.is))

-- a grid has a first vertex
pub first_of_grid : (side : ℕ) → 1 ≤ side → IsVertex (side * side) 1
first_of_grid zero some = absurd (omega arith)
first_of_grid (suc k) some = record { first = omega arith; last = omega arith }
