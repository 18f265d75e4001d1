-- Two neighbours that share no variable are exchanged: the log stays legal, and its replay and the layer of each
-- record stay the same. The layer of a record depends on the records before it and not on their order. Of two
-- neighbours that share no variable neither affects the layer of the other.
use Rattle.std.proofs.Common.{inl, inr, ◌≡◌, ℕ, List, [], ◌∷◌, ◌++◌, map, zip, refl, sym, ap, subst, ◌∙◌, Contains}
use Rattle.std.proofs.lemmas.List.Elements.{Contains-append_left, Contains-push, Contains-push_cases}
use Rattle.pop_model.specs.Popping.{Cube, pop}
use Rattle.pop_model.specs.Instances.{Instance}
use Rattle.pop_model.specs.Logs.{LogRecord, IsLegalAt, IsLegal, replay}
use Rattle.pop_model.proofs.PopLemmas.{pop_comm, entries_agree}
use Rattle.pop_model.proofs.Diamond.{Apart, apart_unless_shared, cursor_apart, legal_apart, poppable_before}
use Rattle.pop_model.proofs.Sharing.{Share-sym}
use Rattle.pop_model.proofs.Rising.{member_cases, head_member, tail_member, AreMembers}
use Rattle.pop_log.specs.Layers.{Depend, Placed, IsLayer, LayersBehind}
use Rattle.pop_log.specs.Layered.{ArePlaced}
use Rattle.pop_log.proofs.Reordering.{IsReordered, IsKept, keeps}

-- a record that is legal behind a pop that is apart was legal before it
legal_before : (i : Instance) (c : List ℕ) (e : Cube) (r : LogRecord) → Apart e r.event.cube → IsLegalAt i (pop c e) r
    → IsLegalAt i c r
legal_before i c e r apart h =
    record {
      event = h.event;
      poppable = poppable_before i.stacks c e r.event.cube apart h.poppable;
      entries = h.entries ∙ sym (entries_agree c (pop c e) r.event.cube (cursor_apart c e r.event.cube apart));
    }

-- two neighbours that share no variable are legal in the other order too
legal_exchange : (i : Instance) (c : List ℕ) (r q : LogRecord) (back : List LogRecord) → (Depend r q → ⊥)
    → IsLegal i c (r ∷ q ∷ back) → IsLegal i c (q ∷ r ∷ back)
legal_exchange i c r q back none legal =
    let e = r.event.cube in
    let f = q.event.cube in
    let first : Apart e f = apart_unless_shared e f none in
    let second : Apart f e = apart_unless_shared f e (λ h. none (Share-sym f e h)) in (
      legal_before i c e q first legal.1.0,
      (legal_apart i c f r second legal.0, subst (λ d. IsLegal i d back) (pop_comm c e f) legal.1.1),
    )

-- the log stays legal
pub legal_kept : (i : Instance) (c : List ℕ) → IsKept Depend (IsLegal i c)
legal_kept i c [] back r q none legal = legal_exchange i c r q back none legal
legal_kept i c (x ∷ front) back r q none legal =
    (legal.0, legal_kept i (pop c x.event.cube) front back r q none legal.1)

-- they leave the same cursors in either order
replay_exchanged : (c : List ℕ) (front back : List LogRecord) (r q : LogRecord)
    → replay c (front ++ r ∷ q ∷ back) ≡ replay c (front ++ q ∷ r ∷ back)
replay_exchanged c [] back r q = ap (λ d. replay d back) (pop_comm c r.event.cube q.event.cube)
replay_exchanged c (x ∷ front) back r q = replay_exchanged (pop c x.event.cube) front back r q

-- its replay stays
pub replay_kept : (c d : List ℕ) → IsKept Depend (λ log. replay c log ≡ d)
replay_kept c d front back r q none is = sym (replay_exchanged c front back r q) ∙ is

-- a reordering of a legal log is legal
pub legal_reordered : (i : Instance) (c : List ℕ) (log other : List LogRecord) → IsReordered Depend log other
    → IsLegal i c log → IsLegal i c other
legal_reordered i c log other moved legal = keeps Depend (IsLegal i c) (legal_kept i c) log other moved legal

-- with the same replay
pub replay_reordered : (c : List ℕ) (log other : List LogRecord) → IsReordered Depend log other
    → replay c other ≡ replay c log
replay_reordered c log other moved =
    keeps Depend (λ l. replay c l ≡ replay c log) (replay_kept c (replay c log)) log other moved refl

-- lists that stay members of one another
push_members : {X : Type 0} (xs ys : List X) (x : X) → AreMembers xs ys → AreMembers (xs ++ x ∷ []) (ys ++ x ∷ [])
push_members xs ys x there z among = elim (Contains-push_cases xs x z among) [
  | inl old ↦ Contains-append_left ys (x ∷ []) z (there z old)
  | inr is ↦ subst (Contains (ys ++ x ∷ [])) is (Contains-push ys x)
]

-- and with one more before them
pub cons_members : {X : Type 0} (x : X) (xs ys : List X) → AreMembers xs ys → AreMembers (x ∷ xs) (x ∷ ys)
cons_members x xs ys there z among = elim (member_cases x xs z among) [
  | inl is ↦ subst (Contains (x ∷ ys)) is (head_member x ys)
  | inr later ↦ tail_member x ys z (there z later)
]

-- two that change places behind others have the same members
last_two : {X : Type 0} (xs : List X) (x y : X) → AreMembers (xs ++ x ∷ [] ++ y ∷ []) (xs ++ y ∷ [] ++ x ∷ [])
last_two xs x y z among = elim (Contains-push_cases (xs ++ x ∷ []) y z among) [
  | inl early ↦ elim (Contains-push_cases xs x z early) [
    | inl old ↦ Contains-append_left (xs ++ y ∷ []) (x ∷ []) z (Contains-append_left xs (y ∷ []) z old)
    | inr is ↦ subst (Contains (xs ++ y ∷ [] ++ x ∷ [])) is (Contains-push (xs ++ y ∷ []) x)
  ]
  | inr is ↦
      subst (Contains (xs ++ y ∷ [] ++ x ∷ [])) is
      (Contains-append_left (xs ++ y ∷ []) (x ∷ []) y (Contains-push xs y))
]

-- and so have two that change places before others
pub first_two : {X : Type 0} (x y : X) (xs : List X) → AreMembers (x ∷ y ∷ xs) (y ∷ x ∷ xs)
first_two x y xs z among = elim (member_cases x (y ∷ xs) z among) [
  | inl is ↦ subst (Contains (y ∷ x ∷ xs)) is (tail_member y (x ∷ xs) x (head_member x xs))
  | inr later ↦ elim (member_cases y xs z later) [
    | inl is ↦ subst (Contains (y ∷ x ∷ xs)) is (head_member y (x ∷ xs))
    | inr rest ↦ tail_member y (x ∷ xs) z (tail_member x xs z rest)
  ]
]

-- a layer depends on what stands before, and not on its order
layer_from : (earlier others : List Placed) → AreMembers earlier others → AreMembers others earlier
    → (r : LogRecord) (y : ℕ) → IsLayer earlier r y → IsLayer others r y
layer_from earlier others there back r y is =
    record {
      reached = elim is.reached [
        | inl one ↦ inl one
        | inr (q, z, among, depend, next) ↦ inr (q, z, there (q, z) among, depend, next)
      ];
      greatest = λ q z among depend. is.greatest q z (back (q, z) among) depend;
    }

-- nor do the layers of all records behind it
layers_from : (earlier others : List Placed) → AreMembers earlier others → AreMembers others earlier
    → (log : List LogRecord) (ys : List ℕ) → LayersBehind earlier log ys → LayersBehind others log ys
layers_from earlier others there back [] [] are = tt
layers_from earlier others there back [] (y ∷ ys) are = absurd are
layers_from earlier others there back (r ∷ log) [] are = absurd are
layers_from earlier others there back (r ∷ log) (y ∷ ys) are = (
  layer_from earlier others there back r y are.0,
  layers_from (earlier ++ (r, y) ∷ []) (others ++ (r, y) ∷ []) (push_members earlier others (r, y) there)
      (push_members others earlier (r, y) back) log ys are.1,
)

-- the record without its layer
record_of : Placed → LogRecord
record_of p = p.0

-- a record on which another doesn't depend has no say in its layer
layer_without : (earlier : List Placed) (r : LogRecord) (y : ℕ) (q : LogRecord) (z : ℕ) → (Depend r q → ⊥)
    → IsLayer (earlier ++ (r, y) ∷ []) q z → IsLayer earlier q z
unfolding record_of
layer_without earlier r y q z none is =
    record {
      reached = elim is.reached [
        | inl one ↦ inl one
        | inr (x, w, among, depend, next) ↦ elim (Contains-push_cases earlier (r, y) (x, w) among) [
          | inl old ↦ inr (x, w, old, depend, next)
          | inr same ↦ absurd (none (subst (λ a. Depend a q) (sym (ap record_of same)) depend))
        ]
      ];
      greatest = λ x w among depend.
          is.greatest x w (Contains-append_left earlier ((r, y) ∷ []) (x, w) among) depend;
    }

-- nor does its layer change where such a record comes before it
layer_with : (earlier : List Placed) (r : LogRecord) (y : ℕ) (q : LogRecord) (z : ℕ) → (Depend r q → ⊥)
    → IsLayer earlier q z → IsLayer (earlier ++ (r, y) ∷ []) q z
unfolding record_of
layer_with earlier r y q z none is =
    record {
      reached = elim is.reached [
        | inl one ↦ inl one
        | inr (x, w, among, depend, next) ↦
            inr (x, w, Contains-append_left earlier ((r, y) ∷ []) (x, w) among, depend, next)
      ];
      greatest = λ x w among depend. elim (Contains-push_cases earlier (r, y) (x, w) among) [
        | inl old ↦ is.greatest x w old depend
        | inr same ↦ absurd (none (subst (λ a. Depend a q) (sym (ap record_of same)) depend))
      ];
    }

-- two neighbours with their layers
layers_exchange : (earlier : List Placed) (back : List LogRecord) (r q : LogRecord) (y z : ℕ) (ys : List ℕ)
    → (Depend r q → ⊥) → LayersBehind earlier (r ∷ q ∷ back) (y ∷ z ∷ ys)
    → LayersBehind earlier (q ∷ r ∷ back) (z ∷ y ∷ ys)
layers_exchange earlier back r q y z ys none are = (
  layer_without earlier r y q z none are.1.0,
  (
    layer_with earlier q z r y (λ h. none (Share-sym q.event.cube r.event.cube h)) are.0,
    layers_from (earlier ++ (r, y) ∷ [] ++ (q, z) ∷ []) (earlier ++ (q, z) ∷ [] ++ (r, y) ∷ [])
        (last_two earlier (r, y) (q, z)) (last_two earlier (q, z) (r, y)) back ys are.1.1,
  ),
)

-- records with their layers, behind others
abbrev pub PlacedBehind : List Placed → List Placed → Type 0
PlacedBehind earlier placed = LayersBehind earlier (map (λ p. p.0) placed) (map (λ p. p.1) placed)

-- the same behind a front
placed_exchanged : (earlier front back : List Placed) (p q : Placed) → (Depend p.0 q.0 → ⊥)
    → PlacedBehind earlier (front ++ p ∷ q ∷ back) → PlacedBehind earlier (front ++ q ∷ p ∷ back)
placed_exchanged earlier [] back p q none are =
    layers_exchange earlier (map (λ (x : Placed). x.0) back) p.0 q.0 p.1 q.1 (map (λ (x : Placed). x.1) back) none are
placed_exchanged earlier (x ∷ front) back p q none are =
    (are.0, placed_exchanged (earlier ++ x ∷ []) front back p q none are.1)

-- each record keeps its layer
pub placed_kept : (front back : List Placed) (p q : Placed) → (Depend p.0 q.0 → ⊥)
    → ArePlaced (front ++ p ∷ q ∷ back) → ArePlaced (front ++ q ∷ p ∷ back)
placed_kept front back p q none are = placed_exchanged [] front back p q none are

-- the log with its layers has these members
pub record IsPlacedAs (earlier members : List Placed) (log : List LogRecord) : Type 0 where
  pub ys : List ℕ
  pub layers : LayersBehind earlier log ys
  pub there : AreMembers (zip log ys) members
  pub back : AreMembers members (zip log ys)

-- an exchange, with the members of both logs
record IsExchanged (earlier : List Placed) (log other : List LogRecord) (ys : List ℕ) : Type 0 where
  zs : List ℕ
  layers : LayersBehind earlier other zs
  there : AreMembers (zip log ys) (zip other zs)
  back : AreMembers (zip other zs) (zip log ys)

-- two neighbours that share no variable are exchanged together with their layers
members_exchanged : (earlier : List Placed) (front back : List LogRecord) (r q : LogRecord) (ys : List ℕ)
    → (Depend r q → ⊥) → LayersBehind earlier (front ++ r ∷ q ∷ back) ys
    → IsExchanged earlier (front ++ r ∷ q ∷ back) (front ++ q ∷ r ∷ back) ys
members_exchanged earlier [] back r q [] none are = absurd are
members_exchanged earlier [] back r q (y ∷ []) none are = absurd are.1
members_exchanged earlier [] back r q (y ∷ z ∷ ys) none are =
    record {
      zs = z ∷ y ∷ ys;
      layers = layers_exchange earlier back r q y z ys none are;
      there = first_two (r, y) (q, z) (zip back ys);
      back = first_two (q, z) (r, y) (zip back ys);
    }
members_exchanged earlier (x ∷ front) back r q [] none are = absurd are
members_exchanged earlier (x ∷ front) back r q (y ∷ ys) none are =
    let rest = members_exchanged (earlier ++ (x, y) ∷ []) front back r q ys none are.1 in
    record {
      zs = y ∷ rest.zs;
      layers = (are.0, rest.layers);
      there = cons_members (x, y) (zip (front ++ r ∷ q ∷ back) ys) (zip (front ++ q ∷ r ∷ back) rest.zs) rest.there;
      back = cons_members (x, y) (zip (front ++ q ∷ r ∷ back) rest.zs) (zip (front ++ r ∷ q ∷ back) ys) rest.back;
    }

-- so an exchange keeps the records with their layers
placed_as_kept : (earlier members : List Placed) → IsKept Depend (IsPlacedAs earlier members)
placed_as_kept earlier members front back r q none is =
    let new = members_exchanged earlier front back r q is.ys none is.layers in
    record {
      ys = new.zs;
      layers = new.layers;
      there = λ z among. is.there z (new.back z among);
      back = λ z among. new.there z (is.back z among);
    }

-- a reordering has the same records with the same layers
pub placed_reordered : (members : List Placed) (log other : List LogRecord) → IsReordered Depend log other
    → IsPlacedAs [] members log → IsPlacedAs [] members other
placed_reordered members log other moved is =
    keeps Depend (IsPlacedAs [] members) (placed_as_kept [] members) log other moved is
