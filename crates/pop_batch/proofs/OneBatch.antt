-- So many samples of an extremal instance have one list of ends: each end is that of a one-thread run, which has one, and
-- its values are those at its cursors.
use Rattle.std.proofs.Common.{◌≡◌, ℕ, List, length, get_or, sym, ap, ◌∙◌, arith}
use Rattle.std.proofs.lemmas.List.{same_lists}
use Rattle.std.proofs.lemmas.Option.{slice_get-get_or}
use Rattle.pop_model.specs.Stacks.{stacks_for}
use Rattle.pop_model.specs.Popping.{values_at}
use Rattle.pop_model.specs.Families.{Event}
use Rattle.pop_model.specs.Instances.{Instance, instance_for}
use Rattle.pop_model.specs.Extremal.{IsExtremal}
use Rattle.pop_model.proofs.OneRun.{SameEnd, one_first_end}
use Rattle.confluence_core.specs.declared.end.End.{End}
use Rattle.pop_batch.specs.Batches.{IsSampleEnd}
use Rattle.pop_batch.specs.Laws.{OneBatch}

-- the end of these parts
abbrev end_of : List ℕ → ℕ → List Event → List ℕ → End
end_of cursors pops stuck values =
    record { cursors = cursors; pops = pops; stuck = stuck; values = values }

-- a sample has one end
pub one_sample_end : (i : Instance) (j : ℕ) (end other : End) → IsExtremal i.family → IsSampleEnd i j end
    → IsSampleEnd i j other → end ≡ other
one_sample_end i j end other extremal is is' =
    let ends : SameEnd end.cursors other.cursors end.pops other.pops end.stuck other.stuck =
    one_first_end (instance_for j i) extremal end.cursors other.cursors end.pops other.pops end.stuck other.stuck is.first
    is'.first in
    let values : end.values ≡ other.values =
    is.over.values.are ∙ ap (values_at (stacks_for j i.stacks)) ends.cursors ∙ sym is'.over.values.are in
    let parts : end_of end.cursors end.pops end.stuck end.values
    ≡ end_of other.cursors other.pops other.stuck other.values = cc in
    parts

-- so many samples have one list of ends
pub one_batch : OneBatch
one_batch i count ends others extremal are are' =
    let size : length ends ≡ length others = are.count_is ∙ sym are'.count_is in
    same_lists ends others size (λ j d within.
    one_sample_end i j (get_or ends j d) (get_or others j d) extremal
    (are.each j (get_or ends j d) (slice_get-get_or ends j d within))
    (are'.each j (get_or others j d) (slice_get-get_or others j d (omega (arith, within, size)))))
