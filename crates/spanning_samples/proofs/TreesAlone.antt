-- A sample of the cycles of a graph leads to the root: if no cycle occurs, no walk along the arrows is long.
use Rattle.std.proofs.Common.{◌≡◌, ℕ, zero, suc, ◌-◌, List, [], length, get_or, Option, Some, None, slice_index, refl, sym, ap, ◌∙◌, arith}
use Rattle.std.specs.Option.{option_and_then}
use Rattle.std.proofs.lemmas.List.FromFn.{length-map-range_with_len}
use Rattle.pop_model.specs.Stacks.{StackTable}
use Rattle.pop_model.specs.Stacks.Origin.{Given}
use Rattle.pop_model.specs.Cycles.{arrow_at, follow, head_of}
use Rattle.pop_model.specs.Runs.{IsFinished}
use Rattle.pop_model.proofs.TreeEnd.{tree, tree_end}
use Rattle.graph_read.specs.Graphs.{GraphOf, IsGraph, IsVertex}
use Rattle.graph_read.specs.Paths.{IsConnected}
use Rattle.cycle_popping.specs.Trees.{heads_at, heads_of_tree, weights_of_tree}
use Rattle.cycle_popping.proofs.TreeRows.{tree_arrows}
use Rattle.pop_print.specs.declared.facts.Facts.{Facts}
use Rattle.pop_samples.specs.Frames.{IsSampleOf}
use Rattle.job_subjects.specs.Subjects.{arrows_to}
use Rattle.job_subjects.proofs.MadeInstances.{count_of_weights, slots_of_weights}
use Rattle.answer_laws.specs.ExactAnswers.{frame_over}
use Rattle.answer_laws.specs.EverySample.{LeadsToRoot}
use Rattle.answer_laws.proofs.EverySample.{every_tree, first_entry, singles}
use Rattle.spanning_samples.specs.Converse.{TreesAlone}

-- steps that are alike lead alike
pub same_follow : (f g : ℕ → Option ℕ) → ((v : ℕ) → f v ≡ g v) → (k v : ℕ) → follow f k v ≡ follow g k v
same_follow f g same zero v = refl
same_follow f g same (suc k) v =
    ap (option_and_then f) (same_follow f g same k v) ∙ next (follow g k v)
  where
    -- the last step
    next : (o : Option ℕ) → option_and_then f o ≡ option_and_then g o
    next None = refl
    next (Some u) = same u

module _ (facts : Facts) (g : GraphOf) (root : ℕ) (heights x : List ℕ) (graph : IsGraph g)
    (root_is : IsVertex g.vertices root) (joined : IsConnected g root)
    (is : IsSampleOf (frame_over (arrows_to facts g root) heights) x) where
  -- the stacks of one entry each
  s : StackTable
  s = record { origin = Given (singles x); weights = weights_of_tree g root }

  -- no cycle occurs there
  finished : IsFinished (tree s (heads_of_tree g root)) []
  unfolding s
  finished e event occurs =
      is.sample e event (λ k d within. sym (first_entry x (get_or e.cube k d).0) ∙ occurs k d within)

  -- so the arrows lead to the root
  leads_to : LeadsToRoot g root x
  unfolding s
  leads_to =
      let heads : List (List (Option ℕ)) = heads_of_tree g root in
      let count : length x ≡ g.vertices - 1 = is.count ∙ count_of_weights g root in
      let many : length heads ≡ g.vertices - 1 = length-map-range_with_len (heads_at g root) 0 (g.vertices - 1) in
      record {
        count = count;
        places = λ v below.
            let value = is.values v below in
            let slots = slots_of_weights g root v (omega (arith, below, count)) in
            omega (arith, value, slots);
        reaches = λ v below.
            let reach = (tree_end s heads (tree_arrows g root graph root_is joined) []).0 finished v
            (omega (arith, below, count, many)) in (
              reach.0,
              sym (same_follow (arrow_at heads s []) (λ u. head_of heads u (slice_index x u))
                  (λ u. ap (head_of heads u) (first_entry x u)) reach.0 v) ∙ reach.1,
            );
      }

-- the law
pub trees_alone : TreesAlone
trees_alone facts g root heights x graph root_is joined = (
  λ is. leads_to facts g root heights x graph root_is joined is,
  λ leads. every_tree facts g root heights x leads,
)
