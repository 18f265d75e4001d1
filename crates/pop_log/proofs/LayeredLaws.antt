-- The layered log of a legal log is legal with the same replay, and is in layered order. All legal logs of an extremal
-- instance from the same cursors to ends have one layered log.
use Rattle.std.proofs.Common.{inl, inr, ◌≡◌, ℕ, List, [], ◌∷◌, ◌++◌, map, zip, sym, subst, arith, Contains, AllPairs}
use Rattle.std.proofs.lemmas.List.{append_assoc}
use Rattle.std.proofs.lemmas.List.Elements.{Contains-push}
use Rattle.pop_model.specs.Instances.{Instance}
use Rattle.pop_model.specs.Extremal.{IsExtremal}
use Rattle.pop_model.specs.Logs.{LogRecord, IsLegal, replay}
use Rattle.pop_model.proofs.Rising.{member_cases, head_member, tail_member, AreMembers}
use Rattle.pop_model.proofs.FirstRun.{legal_event}
use Rattle.confluence_core.specs.Laws.{RunsToEnd}
use Rattle.pop_log.specs.Layers.{Depend, Placed}
use Rattle.pop_log.specs.Layered.{AreSorted, IsLayered, ArePlaced, ComesBefore, AreInLayers}
use Rattle.pop_log.proofs.LayersLemmas.{layers_agree}
use Rattle.pop_log.proofs.Reordering.{IsReordered, keeps, reordered_map, pairs_across}
use Rattle.pop_log.proofs.InOrder.{same_in_order}
use Rattle.pop_log.proofs.OneTrace.{one_trace}
use Rattle.pop_log.proofs.UnitEvents.{HaveCubes, self_share, unit_share}
use Rattle.pop_log.proofs.Exchanges.{legal_reordered, replay_reordered, placed_kept, PlacedBehind, IsPlacedAs, placed_reordered}
use Rattle.pop_log.proofs.LayeredLemmas.{PlacedDepend, zip_records, zip_placed, sorted_there, sorted_back, sorted_moved, strictly}

-- a record with its layer is one of the log
pub zip_member : (log : List LogRecord) (ys : List ℕ) (p : Placed) → Contains (zip log ys) p → Contains log p.0
zip_member [] ys p (k, within, at) = absurd (omega (arith, within))
zip_member (r ∷ log) [] p (k, within, at) = absurd (omega (arith, within))
zip_member (r ∷ log) (y ∷ ys) p among = elim (member_cases (r, y) (zip log ys) p among) [
  | inl is ↦ subst (λ (x : Placed). Contains (r ∷ log) x.0) is (head_member r log)
  | inr later ↦ tail_member r log p.0 (zip_member log ys p later)
]

-- of two records one alone comes before the other
comes_one_way : (p q : Placed) → ComesBefore p q → ComesBefore q p → ⊥
comes_one_way p q (inl a) (inl b) = omega (arith, a, b)
comes_one_way p q (inl a) (inr (same, b)) = omega (arith, a, same)
comes_one_way p q (inr (same, a)) (inl b) = omega (arith, b, same)
comes_one_way p q (inr (same, a)) (inr (equal, b)) = omega (arith, a, b)

-- records that stand in their layers and come before one another are layered as they stand
in_layers : (before placed : List Placed) → PlacedBehind before placed → AllPairs ComesBefore (before ++ placed)
    → AreInLayers before placed
in_layers before [] are rising = tt
in_layers before (p ∷ placed) are rising = (
  record {
    layer = are.0;
    order = λ front q is.
        pairs_across ComesBefore before (p ∷ placed) q p rising
        (subst (λ l. Contains l q) (sym is) (Contains-push front q)) (head_member p placed);
  },
  in_layers (before ++ p ∷ []) placed are.1
      (subst (AllPairs ComesBefore) (sym (append_assoc before (p ∷ []) placed)) rising),
)

module _ (i : Instance) (cubes : HaveCubes i.family) (c : List ℕ) (log : List LogRecord) (legal : IsLegal i c log)
    (placed : List Placed) (sorted : AreSorted log placed) where
  -- a record depends on itself
  selves : (p : Placed) → Contains (zip log sorted.layers) p → PlacedDepend p p
  selves p among =
      self_share p.0.event.cube
      (cubes p.0.event (legal_event i c log legal p.0 (zip_member log sorted.layers p among)))

  -- records of one unit depend
  one_unit : (p q : Placed) → Contains placed p → Contains placed q → p.0.event.unit ≡ q.0.event.unit
      → PlacedDepend p q
  one_unit p q p_in q_in same =
      unit_share i.family cubes p.0.event q.0.event
      (legal_event i c log legal p.0 (zip_member log sorted.layers p (sorted_back log placed sorted p p_in)))
      (legal_event i c log legal q.0 (zip_member log sorted.layers q (sorted_back log placed sorted q q_in))) same

  -- the layered log is a reordering of the log
  pub moved_records : IsReordered Depend log (map (λ p. p.0) placed)
  moved_records =
      subst (λ l. IsReordered Depend l (map (λ (p : Placed). p.0) placed))
      (zip_records [] log sorted.layers sorted.are_layers)
      (reordered_map Depend (λ (p : Placed). p.0) (zip log sorted.layers) placed
      (sorted_moved log placed sorted selves))

  -- each record has its layer in it
  pub placed_layers : ArePlaced placed
  placed_layers = keeps PlacedDepend ArePlaced (λ front back p q none are. placed_kept front back p q none are)
      (zip log sorted.layers) placed (sorted_moved log placed sorted selves)
      (zip_placed log sorted.layers sorted.are_layers)

  -- layer and unit rise
  pub placed_rise : AllPairs ComesBefore placed
  placed_rise = strictly log placed sorted one_unit

  -- it is layered as it stands
  pub placed_in_layers : AreInLayers [] placed
  placed_in_layers = in_layers [] placed placed_layers placed_rise

-- a layered log is legal, with the same replay
pub layered_is_legal : (i : Instance) → HaveCubes i.family → (c : List ℕ) (log layered : List LogRecord)
    → IsLegal i c log → IsLayered log layered → IsLegal i c layered × (replay c layered ≡ replay c log)
layered_is_legal i cubes c log layered legal layers =
    let moved : IsReordered Depend log layered =
    subst (IsReordered Depend log) (sym layers.records)
    (moved_records i cubes c log legal layers.placed layers.sorted) in
    (legal_reordered i c log layered moved legal, replay_reordered c log layered moved)

-- reorderings of one legal log are sorted to one list
pub one_sorting : (i : Instance) → HaveCubes i.family → (c : List ℕ) (log other : List LogRecord) → IsLegal i c log
    → IsLegal i c other → IsReordered Depend other log → (placed another : List Placed) → AreSorted log placed
    → AreSorted other another → placed ≡ another
one_sorting i cubes c log other legal legal' moved placed another sorted sorted' =
    let own : IsPlacedAs [] (zip other sorted'.layers) other =
    record { ys = sorted'.layers; layers = sorted'.are_layers; there = λ z h. h; back = λ z h. h } in
    let again = placed_reordered (zip other sorted'.layers) other log moved own in
    let one : again.ys ≡ sorted.layers = layers_agree [] log again.ys sorted.layers again.layers sorted.are_layers in
    let there : AreMembers placed another = λ z among.
    sorted_there other another sorted' z
    (again.there z (subst (λ l. Contains (zip log l) z) (sym one) (sorted_back log placed sorted z among))) in
    let back : AreMembers another placed = λ z among.
    sorted_there log placed sorted z
    (subst (λ l. Contains (zip log l) z) one (again.back z (sorted_back other another sorted' z among))) in
    same_in_order ComesBefore comes_one_way placed another (placed_rise i cubes c log legal placed sorted)
    (placed_rise i cubes c other legal' another sorted') there back

-- on an extremal instance all legal logs from one vector to ends have one layered log, with one list of layers
pub one_layered_log : (i : Instance) → HaveCubes i.family → IsExtremal i.family → (c : List ℕ)
    (log other : List LogRecord) → RunsToEnd i c log → RunsToEnd i c other → (placed another : List Placed)
    → AreSorted log placed → AreSorted other another → placed ≡ another
one_layered_log i cubes extremal c log other run run' placed another sorted sorted' =
    one_sorting i cubes c log other run.legal run'.legal
    (one_trace i extremal c log other run.legal run'.legal run.end run'.end) placed another sorted sorted'
