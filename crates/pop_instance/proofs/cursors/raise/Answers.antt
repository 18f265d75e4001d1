use Rattle.std.proofs.Common.{◌≡◌, ◌<◌, ◌-◌, ◌^◌, ℕ, List, Some, slice_get, ap, arith, length, ◌∙◌, take}
use Rattle.pop_model.specs.Popping.{Cube, NamesBelow, cursor}
use Rattle.pop_model.proofs.PopLemmas.{length-pop}
use Rattle.pop_model.proofs.Members.{all_at}
use Rattle.pop_instance.proofs.Raising.{pop_more, pop_none, cursor_before}
use Rattle.pop_instance.proofs.cursors.raise.Goals as goal

-- the variable of a pair is below the cursors' number
pair_below : (at : List ℕ) (e : Cube) (i : ℕ) (p : ℕ × ℕ) → slice_get e i ≡ Some p → NamesBelow e (length at)
    → p.0 < length at
pair_below at e i p here known = all_at (λ (q : ℕ × ℕ). q.0 < length at) e i p here known

pub loop-i-init : goal.loop-i-init
loop-i-init c = pop_none c.args.entries.now

pub bounds-entries-v : goal.bounds-entries-v
bounds-entries-v c =
    let at = c.args.entries.now in
    let e = c.args.cube.now in
    let below = pair_below at e c.loop-i.i c.pair-v.result c.pair-v.ensures c.requires.known in
    omega (arith, below, ap length c.loop-i.invariant, length-pop at (take c.loop-i.i e))

pub bounds-entries-v-in-loop-i : goal.bounds-entries-v-in-loop-i
bounds-entries-v-in-loop-i c =
    let at = c.args.entries.now in
    let e = c.args.cube.now in
    let below = pair_below at e c.loop-i.i c.pair-v.result c.pair-v.ensures c.requires.known in
    omega (arith, below, ap length c.loop-i.invariant, length-pop at (take c.loop-i.i e))

pub overflow_add-entries : goal.overflow_add-entries
overflow_add-entries c =
    let at = c.args.entries.now in
    let e = c.args.cube.now in
    let i = c.loop-i.i in
    let p = c.pair-v.result in
    let HasRoom : ℕ × ℕ → Type 0 = λ q. cursor at q.0 < 2 ^ 31 - 1 in
    let room : HasRoom p = all_at HasRoom e i p c.pair-v.ensures c.requires.room in
    let same : cursor c.loop-i.entries p.0 ≡ cursor at p.0 =
    ap (λ xs. cursor xs p.0) c.loop-i.invariant
    ∙ cursor_before at e i p c.len-i-end.ensures.cube.rising c.pair-v.ensures in
    omega (arith, room, same)

pub loop-i-preserved : goal.loop-i-preserved
loop-i-preserved c =
    let at = c.args.entries.now in
    let e = c.args.cube.now in
    let i = c.loop-i.i in
    let p = c.pair-v.result in
    let below = pair_below at e i p c.pair-v.ensures c.requires.known in
    rw c.loop-i.invariant (pop_more at e i p c.len-i-end.ensures.cube.rising c.pair-v.ensures below)
