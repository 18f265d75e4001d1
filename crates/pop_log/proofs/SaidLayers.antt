-- A log with stated layers is checked record by record. Up to here the layers are those of the log, and each record
-- follows the one before it. The layer of a record is one number, so if another is stated it is not its layer.
use Rattle.std.proofs.Common.{◌≡◌, ◌≢◌, ◌↔◌, ℕ, zero, suc, ◌+◌, ◌-◌, ◌<◌, ◌≤◌, List, [], ◌∷◌, ◌++◌, zip, length, take, drop, Some, slice_get, get_or, refl, sym, ap, subst, ◌∙◌, arith, append_assoc, take_all}
use Rattle.std.proofs.lemmas.List.{take-append-drop, drop_more, length-take-le, append-nil, same_from_push}
use Rattle.std.proofs.lemmas.Option.{same_Some, slice_get_within, get_or_from_slice_get, slice_get-get_or}
use Rattle.pop_model.specs.Logs.{LogRecord}
use Rattle.pop_model.proofs.Members.{read_at}
use Rattle.pop_log.specs.Layers.{Placed, IsLayer, LayersBehind, AreLayers}
use Rattle.pop_log.specs.Layered.{ComesBefore, FollowsInLayers, AreInLayers, FollowsAt, IsFirstUnlayered}
use Rattle.pop_log.proofs.Fronts.{take_push}
use Rattle.pop_log.proofs.LayersLemmas.{one_layer}
use Rattle.pop_log.proofs.PlacedRecordsLemmas.{zip_at, length-zip}

-- the layer of a record by its place
layer_here : (earlier : List Placed) (log : List LogRecord) (ys : List ℕ) → LayersBehind earlier log ys
    → (i : ℕ) (r : LogRecord) (y : ℕ) → slice_get log i ≡ Some r → slice_get ys i ≡ Some y
    → IsLayer (earlier ++ take i (zip log ys)) r y
layer_here earlier [] ys are i r y at at' = absurd (cc)
layer_here earlier (q ∷ log) [] are i r y at at' = absurd are
layer_here earlier (q ∷ log) (z ∷ ys) are zero r y at at' =
    let one : q ≡ r = cc in
    let two : z ≡ y = cc in
    subst (λ l. IsLayer l r y) (sym (append-nil earlier))
    (subst (IsLayer earlier r) two (subst (λ x. IsLayer earlier x z) one are.0))
layer_here earlier (q ∷ log) (z ∷ ys) are (suc i) r y at at' =
    subst (λ l. IsLayer l r y) (append_assoc earlier ((q, z) ∷ []) (take i (zip log ys)))
    (layer_here (earlier ++ (q, z) ∷ []) log ys are.1 i r y at at')

-- a record more that follows in layers
in_layers_push : (before placed : List Placed) (p : Placed) → AreInLayers before placed
    → FollowsInLayers (before ++ placed) p → AreInLayers before (placed ++ p ∷ [])
in_layers_push before [] p are follows = (subst (λ l. FollowsInLayers l p) (append-nil before) follows, tt)
in_layers_push before (q ∷ placed) p are follows = (
  are.0,
  in_layers_push (before ++ q ∷ []) placed p are.1
      (subst (λ l. FollowsInLayers l p) (sym (append_assoc before (q ∷ []) placed)) follows),
)

-- up to here the log is layered as it stands, with the layers that are said
pub record IsLayeredTo (log : List LogRecord) (ys said : List ℕ) (i : ℕ) : Type 0 where
  pub layers : AreLayers log ys
  pub in_layers : AreInLayers [] (take i (zip log said))
  pub same : take i (zip log said) ≡ take i (zip log ys)

module _ (log : List LogRecord) (ys said : List ℕ) (i : ℕ) (to : IsLayeredTo log ys said i) (r : LogRecord)
    (y z : ℕ) (at : slice_get log i ≡ Some r) (own : slice_get ys i ≡ Some y) (is_said : slice_get said i ≡ Some z) where
  -- the record with the layer that is said, at its place
  placed_at : slice_get (zip log said) i ≡ Some (r, z)
  placed_at = zip_at log said i r z at is_said

  -- and with its own layer
  layer_is : IsLayer (take i (zip log said)) r y
  layer_is = subst (λ l. IsLayer l r y) (sym to.same) (layer_here [] log ys to.layers i r y at own)

  -- what stands before this place
  last_is : (front : List Placed) (q : Placed) → take i (zip log said) ≡ front ++ q ∷ [] → FollowsAt (zip log said) i
      → ComesBefore q (r, z)
  last_is front q is follows = by i is follows placed_at
    where
      by : (i : ℕ) → take i (zip log said) ≡ front ++ q ∷ [] → FollowsAt (zip log said) i
          → slice_get (zip log said) i ≡ Some (r, z) → ComesBefore q (r, z)
      by zero is follows at = absurd (none front is)
        where
          none : (front : List Placed) → ◌≡◌ {A = List Placed} [] (front ++ q ∷ []) → ⊥
          none [] same = cc
          none (x ∷ front) same = cc
      by (suc k) is follows at =
          let placed = zip log said in
          let within : suc k < length placed = slice_get_within placed (suc k) (r, z) at in
          let x = get_or placed k q in
          let here : slice_get placed k ≡ Some x = slice_get-get_or placed k q (omega (arith, within)) in
          let next : k + 1 ≡ suc k = omega arith in
          let whole : take k placed ++ x ∷ [] ≡ front ++ q ∷ [] =
          sym (take_push placed k x here) ∙ ap (λ n. take n placed) next ∙ is in
          let same : x ≡ q = (same_from_push (take k placed) front x q whole).1 in
          follows q (r, z) (here ∙ ap (λ (p : Placed). Some p) same) at

  -- the record follows the one before it, and has the layer that is said
  pub layered_more : z ≡ y → FollowsAt (zip log said) i → IsLayeredTo log ys said (i + 1)
  layered_more equal follows =
      let front = take i (zip log said) in
      let all : take (i + 1) (zip log said) ≡ front ++ (r, z) ∷ [] = take_push (zip log said) i (r, z) placed_at in
      let all' : take (i + 1) (zip log ys) ≡ take i (zip log ys) ++ (r, y) ∷ [] =
      take_push (zip log ys) i (r, y) (zip_at log ys i r y at own) in
      record {
        layers = to.layers;
        in_layers = subst (AreInLayers []) (sym all) (in_layers_push [] front (r, z) to.in_layers (record {
          layer = subst (IsLayer front r) (sym equal) layer_is;
          order = λ before q is. last_is before q is follows;
        }));
        same = all ∙ ap (λ (l : List Placed). l ++ (r, z) ∷ []) to.same
            ∙ ap (λ n. take i (zip log ys) ++ (r, n) ∷ []) equal ∙ sym all';
      }

  -- it is the first that doesn't follow
  unlayered : (FollowsInLayers (take i (zip log said)) (r, z) → ⊥) → IsFirstUnlayered (zip log said) i
  unlayered not =
      let placed = zip log said in
      let within : i < length placed = slice_get_within placed i (r, z) placed_at in
      record {
        front = take i placed;
        p = (r, z);
        rest = drop (i + 1) placed;
        placed_are = sym (take-append-drop i placed) ∙ ap (λ l. take i placed ++ l) (drop_more placed i (r, z) within
            ∙ ap (λ (q : Placed). q ∷ drop (i + 1) placed) (get_or_from_slice_get placed i (r, z) (r, z) placed_at));
        place = length-take-le i placed (omega (arith, within));
        in_layers = to.in_layers;
        unlayered = not;
      }

  -- another layer is said
  pub other_layer : z ≢ y → IsFirstUnlayered (zip log said) i
  other_layer differ =
      unlayered (λ follows. differ (one_layer (take i (zip log said)) r z y follows.layer layer_is))

  -- layer and unit don't follow
  pub other_order : (FollowsAt (zip log said) i → ⊥) → IsFirstUnlayered (zip log said) i
  other_order not = unlayered (λ follows. not (at_place i follows.order placed_at))
    where
      at_place : (i : ℕ) → ((front : List Placed) (q : Placed) → take i (zip log said) ≡ front ++ q ∷ []
          → ComesBefore q (r, z)) → slice_get (zip log said) i ≡ Some (r, z) → FollowsAt (zip log said) i
      at_place zero order at = tt
      at_place (suc k) order at = λ q p here there.
          let placed = zip log said in
          let next : k + 1 ≡ suc k = omega arith in
          let same : p ≡ (r, z) = same_Some p (r, z) (sym there ∙ at) in
          let before = order (take k placed) q (ap (λ n. take n placed) (sym next) ∙ take_push placed k q here) in
          subst (ComesBefore q) (sym same) before

-- all records follow
pub layered_all : (log : List LogRecord) (ys said : List ℕ) (i : ℕ) → length said ≡ length log → length log ≤ i
    → IsLayeredTo log ys said i → AreInLayers [] (zip log said)
layered_all log ys said i same far to =
    subst (AreInLayers []) (take_all i (zip log said) (omega (arith, far, length-zip log said same))) to.in_layers

-- whether layer and unit follow, by the records and layers at the two places
pub follows_is : (log : List LogRecord) (said : List ℕ) (i : ℕ) (q r : LogRecord) → i ≢ 0 → length said ≡ length log
    → slice_get log (i - 1) ≡ Some q → slice_get log i ≡ Some r
    → ComesBefore (q, get_or said (i - 1) 0) (r, get_or said i 0) ↔ FollowsAt (zip log said) i
follows_is log said zero q r some same at at' = absurd (some refl)
follows_is log said (suc k) q r some same at at' =
    let before : suc k - 1 ≡ k = omega arith in
    let at_k : slice_get log k ≡ Some q = ap (slice_get log) (sym before) ∙ at in
    let within : suc k < length log = slice_get_within log (suc k) r at' in
    let one : slice_get (zip log said) k ≡ Some (q, get_or said k 0) =
    zip_at log said k q (get_or said k 0) at_k (slice_get-get_or said k 0 (omega (arith, within, same))) in
    let two : slice_get (zip log said) (suc k) ≡ Some (r, get_or said (suc k) 0) =
    zip_at log said (suc k) r (get_or said (suc k) 0) at' (slice_get-get_or said (suc k) 0 (omega (arith, within, same))) in
    let both : ComesBefore (q, get_or said k 0) (r, get_or said (suc k) 0) ↔ FollowsAt (zip log said) (suc k) = (
      λ h. λ x p here there.
          subst (λ z. ComesBefore z p) (same_Some (q, get_or said k 0) x (sym one ∙ here))
          (subst (ComesBefore (q, get_or said k 0)) (same_Some (r, get_or said (suc k) 0) p (sym two ∙ there)) h),
      λ f. f (q, get_or said k 0) (r, get_or said (suc k) 0) one two,
    ) in
    subst (λ n. ComesBefore (q, get_or said n 0) (r, get_or said (suc k) 0) ↔ FollowsAt (zip log said) (suc k)) (sym before) both

-- the turns of the check
module _ (log : List LogRecord) (ys said : List ℕ) (i : ℕ) (to : IsLayeredTo log ys said i) (within : i < length log)
    (own : length ys ≡ length log) (each : length said ≡ length log) (y : ℕ) (is : y ≡ get_or ys i y) where
  -- the record at this place
  record_here : (r : LogRecord) × (slice_get log i ≡ Some r)
  record_here = read_at log i within

  -- its own layer
  own_here : slice_get ys i ≡ Some y
  own_here = slice_get-get_or ys i y (omega (arith, within, own)) ∙ ap (λ (n : ℕ). Some n) (sym is)

  -- and the layer that is said of it
  said_here : slice_get said i ≡ Some (get_or said i 0)
  said_here = slice_get-get_or said i 0 (omega (arith, within, each))

  -- where another layer is said, it is the first that doesn't follow
  pub turn_other : get_or said i 0 ≢ y → IsFirstUnlayered (zip log said) i
  turn_other differ =
      other_layer log ys said i to record_here.0 y (get_or said i 0) record_here.1 own_here said_here differ

  -- and so it is where layer and unit don't follow
  pub turn_order : (FollowsAt (zip log said) i → ⊥) → IsFirstUnlayered (zip log said) i
  turn_order not = other_order log ys said i to record_here.0 y (get_or said i 0) record_here.1 own_here said_here not

  -- else the log is layered up to the next
  pub turn_more : get_or said i 0 ≡ y → FollowsAt (zip log said) i → IsLayeredTo log ys said (i + 1)
  turn_more equal follows =
      layered_more log ys said i to record_here.0 y (get_or said i 0) record_here.1 own_here said_here equal follows
