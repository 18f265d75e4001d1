-- In a legal log an entry of a variable is used by at most one record: the cursor is at the entry there, and moves on.
use Rattle.std.proofs.Common.{◌≡◌, ℕ, zero, suc, ◌+◌, ◌<◌, ◌≤◌, true, cond, List, [], ◌∷◌, length, slice_get, Some, refl, ap, subst, ◌∙◌, arith}
use Rattle.std.specs.Option.{option_map}
use Rattle.std.proofs.lemmas.Option.{slice_get-map, slice_get_within, get_or_from_slice_get}
use Rattle.pop_model.specs.Popping.{Cube, names, cursor, pop}
use Rattle.pop_model.specs.Instances.{Instance}
use Rattle.pop_model.specs.Logs.{LogRecord, IsLegalAt, IsLegal, replay}
use Rattle.pop_model.proofs.Diamond.{names_it}
use Rattle.pop_model.proofs.PopLemmas.{length-pop, cursor-pop}
use Rattle.pop_model.proofs.Room.{not_lowered}
use Rattle.pop_model.proofs.Replays.{not_lowered_by}
use Rattle.witness_trees.specs.Pops.{Uses}

-- a record that uses an entry of a variable names it
uses_names : (r : LogRecord) (v k : ℕ) → Uses r v k → names r.event.cube v ≡ true
uses_names r v k (j, (x, at, used)) =
    names_it r.event.cube (v, x)
    (j, slice_get_within r.event.cube j (v, x) at, get_or_from_slice_get r.event.cube j (v, x) (v, x) at)

-- where it is legal, the entry is the current one
only_current : (i : Instance) (c : List ℕ) (r : LogRecord) (v k : ℕ) → IsLegalAt i c r → Uses r v k → k ≡ cursor c v
only_current i c r v k legal (j, (x, at, used)) =
    let there : slice_get r.entries j ≡ Some (cursor c v) =
    ap (λ l. slice_get l j) legal.entries ∙ slice_get-map (λ (p : ℕ × ℕ). cursor c p.0) r.event.cube j
    ∙ ap (option_map (λ (p : ℕ × ℕ). cursor c p.0)) at in
    cc

-- a pop moves the cursors of its variables on by one
moved_on : (c : List ℕ) (e : Cube) (v : ℕ) → v < length c → names e v ≡ true → cursor (pop c e) v ≡ cursor c v + 1
moved_on c e v below is = cursor-pop c e v below ∙ ap (λ b. cond b (cursor c v + 1) (cursor c v)) is

-- and leaves as many cursors
still_has : (c : List ℕ) (e : Cube) (v : ℕ) → v < length c → v < length (pop c e)
still_has c e v below = omega (arith, below, length-pop c e)

-- the records use entries from the current one on
from_current : (i : Instance) (c : List ℕ) (v : ℕ) → v < length c → (log : List LogRecord) → IsLegal i c log
    → (t : ℕ) (r : LogRecord) (k : ℕ) → slice_get log t ≡ Some r → Uses r v k → cursor c v ≤ k
from_current i c v below [] legal t r k at uses = absurd (cc)
from_current i c v below (q ∷ log) legal zero r k at uses =
    let same : r ≡ q = cc in
    let current = only_current i c q v k legal.0 (subst (λ x. Uses x v k) same uses) in
    omega (arith, current)
from_current i c v below (q ∷ log) legal (suc t) r k at uses =
    let up = not_lowered c q.event.cube v below in
    let rest =
    from_current i (pop c q.event.cube) v (still_has c q.event.cube v below) log legal.1 t r k at uses in
    omega (arith, up, rest)

-- behind a record that used an entry of a variable, no record uses it
not_again : (i : Instance) (c : List ℕ) (v : ℕ) → v < length c → (q : LogRecord) (log : List LogRecord)
    → IsLegal i c (q ∷ log) → (u : ℕ) (s : LogRecord) (k : ℕ) → Uses q v k → slice_get log u ≡ Some s → Uses s v k → ⊥
not_again i c v below q log legal u s k uses at again =
    let current = only_current i c q v k legal.0 uses in
    let next = moved_on c q.event.cube v below (uses_names q v k uses) in
    let rest =
    from_current i (pop c q.event.cube) v (still_has c q.event.cube v below) log legal.1 u s k at again in
    omega (arith, current, next, rest)

-- one record at most uses an entry
pub one_use : (i : Instance) (c : List ℕ) (v : ℕ) → v < length c → (log : List LogRecord) → IsLegal i c log
    → (t u : ℕ) (r s : LogRecord) (k : ℕ) → slice_get log t ≡ Some r → slice_get log u ≡ Some s → Uses r v k
    → Uses s v k → t ≡ u
one_use i c v below [] legal t u r s k at at' uses uses' = absurd (cc)
one_use i c v below (q ∷ log) legal zero zero r s k at at' uses uses' = refl
one_use i c v below (q ∷ log) legal zero (suc u) r s k at at' uses uses' =
    let same : r ≡ q = cc in
    absurd (not_again i c v below q log legal u s k (subst (λ x. Uses x v k) same uses) at' uses')
one_use i c v below (q ∷ log) legal (suc t) zero r s k at at' uses uses' =
    let same : s ≡ q = cc in
    absurd (not_again i c v below q log legal t r k (subst (λ x. Uses x v k) same uses') at uses)
one_use i c v below (q ∷ log) legal (suc t) (suc u) r s k at at' uses uses' =
    ap suc (one_use i (pop c q.event.cube) v (still_has c q.event.cube v below) log legal.1 t u r s k at at' uses uses')

-- an entry that is used is below the cursor at the log's end
pub used_below : (i : Instance) (c : List ℕ) (v : ℕ) → v < length c → (log : List LogRecord) → IsLegal i c log
    → (t : ℕ) (r : LogRecord) (k : ℕ) → slice_get log t ≡ Some r → Uses r v k → k < cursor (replay c log) v
used_below i c v below [] legal t r k at uses = absurd (cc)
used_below i c v below (q ∷ log) legal zero r k at uses =
    let same : r ≡ q = cc in
    let uses' : Uses q v k = subst (λ x. Uses x v k) same uses in
    let current = only_current i c q v k legal.0 uses' in
    let next = moved_on c q.event.cube v below (uses_names q v k uses') in
    let rest = not_lowered_by (pop c q.event.cube) log v (still_has c q.event.cube v below) in
    omega (arith, current, next, rest)
used_below i c v below (q ∷ log) legal (suc t) r k at uses =
    used_below i (pop c q.event.cube) v (still_has c q.event.cube v below) log legal.1 t r k at uses
