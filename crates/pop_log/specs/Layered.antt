-- The layered log: by rising layer, then by rising unit, then in the order of the log (the Foata
-- normal form: Cartier and Foata 1969; that units order a layer is this project's choice).
use Rattle.std.specs.Prelude.{◌≡◌, ◌⊎◌, ℕ, zero, suc, ◌<◌, List, [], ◌∷◌, ◌++◌, length, map, slice_get, Some, IsPermutation, ⊤}
use Rattle.std.specs.List.{zip as zip_lists}
use Rattle.std.specs.List.Sorted.{IsSorted, IsStable}
use Rattle.std.specs.declared.cmp.Ordering.{Ordering}
use Rattle.std.specs.Ordering.{nat_cmp, on, then_cmp}
use Rattle.pop_model.specs.Logs.{LogRecord}
use Rattle.pop_log.specs.Layers.{Placed, IsLayer, AreLayers}

-- by layer, then by unit
abbrev pub placed_cmp : Placed → Placed → Ordering
placed_cmp p q = then_cmp (on (λ r. r.1) nat_cmp) (on (λ r. r.0.event.unit) nat_cmp) p q

-- the records of a log with their layers, sorted; those of one layer and unit stay in the order of
-- the log
pub record AreSorted (log : List LogRecord) (placed : List Placed) : Type 0 where
  pub layers : List ℕ
  pub are_layers : AreLayers log layers
  pub same_records : IsPermutation (zip_lists log layers) placed
  pub sorted : IsSorted placed_cmp placed
  pub in_order : IsStable placed_cmp (zip_lists log layers) placed

-- the layered log of a log
pub record IsLayered (log layered : List LogRecord) : Type 0 where
  pub placed : List Placed
  pub sorted : AreSorted log placed
  pub records : layered ≡ map (λ p. p.0) placed

-- the records of this log have these layers
abbrev pub ArePlaced : List Placed → Type 0
ArePlaced placed = AreLayers (map (λ p. p.0) placed) (map (λ p. p.1) placed)

-- the layer is larger, or it is the same and the unit is larger
abbrev pub ComesBefore : Placed → Placed → Type 0
ComesBefore p q = (p.1 < q.1) ⊎ ((p.1 ≡ q.1) × (p.0.event.unit < q.0.event.unit))

-- after these records: the record has its layer, and its layer and unit follow those of the last
-- record before it
pub record FollowsInLayers (before : List Placed) (p : Placed) : Type 0 where
  pub layer : IsLayer before p.0 p.1
  pub order : (front : List Placed) (q : Placed) → before ≡ front ++ q ∷ [] → ComesBefore q p

-- after these records, each record follows in layers: they are in layered order
abbrev pub AreInLayers : List Placed → List Placed → Type 0
AreInLayers before [] = ⊤
AreInLayers before (p ∷ placed) =
    FollowsInLayers before p × AreInLayers (before ++ p ∷ []) placed

-- layer and unit of the record at a place follow those of the record before it
abbrev pub FollowsAt : List Placed → ℕ → Type 0
FollowsAt placed zero = ⊤
FollowsAt placed (suc k) =
    (q p : Placed) → slice_get placed k ≡ Some q → slice_get placed (suc k) ≡ Some p
    → ComesBefore q p

-- record k is the first that does not follow in layers
pub record IsFirstUnlayered (placed : List Placed) (k : ℕ) : Type 0 where
  pub front : List Placed
  pub p : Placed
  pub rest : List Placed
  pub placed_are : placed ≡ front ++ p ∷ rest
  pub place : length front ≡ k
  pub in_layers : AreInLayers [] front
  pub unlayered : FollowsInLayers front p → ⊥
