-- On an extremal instance two runs to ends are reorderings of one another. Exchanges preserve the tree of the record
-- that used an entry, which is one record. So the entry has the same tree in both.
use Rattle.std.proofs.Common.{◌≡◌, ℕ, ◌<◌, List, ◌∷◌, ◌++◌, length, Some, slice_get, sym, subst, ◌∙◌, arith, Contains}
use Rattle.std.proofs.lemmas.List.{length-replicate}
use Rattle.std.proofs.lemmas.List.Elements.{All-contains}
use Rattle.std.proofs.lemmas.Option.{same_Some, slice_get_within, get_or_from_slice_get}
use Rattle.pop_model.specs.Stacks.{variables_of}
use Rattle.pop_model.specs.Extremal.{IsExtremal}
use Rattle.pop_model.specs.Instances.{Instance, IsInstance}
use Rattle.pop_model.specs.Logs.{LogRecord, IsLegal}
use Rattle.pop_model.specs.Runs.{start_of}
use Rattle.pop_model.proofs.FirstRun.{legal_event}
use Rattle.confluence_core.specs.Laws.{RunsToEnd}
use Rattle.confluence_core.proofs.EventVariables.{event_below}
use Rattle.pop_log.specs.Layers.{Depend}
use Rattle.pop_log.proofs.Reordering.{IsKept, keeps}
use Rattle.pop_log.proofs.OneTrace.{one_trace}
use Rattle.witness_trees.specs.Vertices.{Vertex}
use Rattle.witness_trees.specs.Trees.{IsTree}
use Rattle.witness_trees.specs.Pops.{Uses, HasTree}
use Rattle.witness_trees.specs.Laws.{exchanged_place}
use Rattle.witness_trees.proofs.OneTree.{one_tree}
use Rattle.witness_trees.proofs.OneUse.{one_use}
use Rattle.witness_trees.proofs.ExchangedTrees.{tree_opened, tree_shut, tree_moved, place_read}

-- a variable of which a legal record used an entry has a stack
pub uses_below : (i : Instance) → IsInstance i → (c : List ℕ) (log : List LogRecord) → IsLegal i c log
    → (t : ℕ) (r : LogRecord) (v k : ℕ) → slice_get log t ≡ Some r → Uses r v k → v < variables_of i.stacks
uses_below i is c log legal t r v k at (j, (x, at-j, used)) =
    let among : Contains log r = (t, slice_get_within log t r at, get_or_from_slice_get log t r r at) in
    let below = event_below i r.event is.fits (legal_event i c log legal r among) in
    All-contains (λ (p : ℕ × ℕ). p.0 < variables_of i.stacks) r.event.cube (v, x) below
    (j, slice_get_within r.event.cube j (v, x) at-j, get_or_from_slice_get r.event.cube j (v, x) (v, x) at-j)

-- exchanges keep the tree of the record that used an entry
has_tree_kept : (v k : ℕ) (tree : List Vertex) → IsKept Depend (λ log. HasTree log v k tree)
has_tree_kept v k tree front back r q apart has =
    let log = front ++ q ∷ r ∷ back in
    let t = exchanged_place (length front) has.t in
    let opened = tree_opened (front ++ r ∷ q ∷ back) has.t tree has.tree_is in
    let last = has.tree_is.last in
    let moved = tree_moved front back r q apart has.t last tree opened in
    let same : has.r ≡ last = same_Some has.r last (sym has.record_is ∙ has.tree_is.last_is) in
    record {
      t = t;
      r = last;
      record_is = place_read log t last tree moved;
      used = subst (λ x. Uses x v k) same has.used;
      tree_is = tree_shut log t last tree moved;
    }

-- an entry has one tree in a legal log
pub tree_of_entry : (i : Instance) → IsInstance i → (log : List LogRecord) → IsLegal i (start_of i) log → (v k : ℕ)
    (tree another : List Vertex) → HasTree log v k tree → HasTree log v k another → tree ≡ another
tree_of_entry i is log legal v k tree another has has' =
    let start = start_of i in
    let within = uses_below i is start log legal has.t has.r v k has.record_is has.used in
    let size = length-replicate {A = ℕ} (variables_of i.stacks) 0 in
    let below : v < length start = omega (arith, within, size) in
    let same : has.t ≡ has'.t =
    one_use i start v below log legal has.t has'.t has.r has'.r k has.record_is has'.record_is has.used has'.used in
    one_tree log has'.t tree another (subst (λ t. IsTree log t tree) same has.tree_is) has'.tree_is

-- on an extremal instance an entry has one tree in all runs to ends
pub trees_agree : (i : Instance) → IsInstance i → IsExtremal i.family → (log other : List LogRecord)
    → RunsToEnd i (start_of i) log → RunsToEnd i (start_of i) other → (v k : ℕ) (tree another : List Vertex)
    → HasTree log v k tree → HasTree other v k another → tree ≡ another
trees_agree i is extremal log other run run' v k tree another has has' =
    let moved = one_trace i extremal (start_of i) log other run.legal run'.legal run.end run'.end in
    let has'' : HasTree log v k another =
    keeps Depend (λ l. HasTree l v k another) (has_tree_kept v k another) other log moved has' in
    tree_of_entry i is log run.legal v k tree another has has''
