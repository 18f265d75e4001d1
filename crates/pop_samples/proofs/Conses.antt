-- Lists of all of a kind, without repetition: from all fronts and all rests, all lists of a front and a rest.
use Rattle.std.proofs.Common.{inl, inr, ◌≡◌, ◌≢◌, ◌⊎◌, ℕ, List, [], ◌∷◌, refl, sym, ap₂, subst, ◌∙◌, arith, Contains}
use Rattle.std.proofs.lemmas.Bool.{cases_eq}
use Rattle.pop_model.proofs.Rising.{member_cases, head_member, tail_member, none_in}
use Rattle.pop_samples.specs.Lists.{AreAll}
use Rattle.pop_samples.proofs.Matching.{Differ, cons_differs, head_differs, tail_differ}

-- two lists are equal or not
pub same_list : (xs ys : List ℕ) → (xs ≡ ys) ⊎ (xs ≢ ys)
same_list [] [] = inl refl
same_list [] (y ∷ ys) = inr (λ h. cc)
same_list (x ∷ xs) [] = inr (λ h. cc)
same_list (x ∷ xs) (y ∷ ys) = elim (cases_eq x y) [
  | inl a ↦ elim (same_list xs ys) [
    | inl b ↦ inl (ap₂ (λ (n : ℕ) (ns : List ℕ). n ∷ ns) a b)
    | inr b ↦ inr (λ h. b (cc))
  ]
  | inr a ↦ inr (λ h. a (cc))
]

-- the empty list repeats nothing
pub none_differ : {X : Type 0} → Differ {X = X} []
none_differ i j d less within = absurd (omega (arith, within))

-- the same kind in other words
pub same_kind : {X : Type 0} → (P Q : X → Type 0) (xs : List X) → AreAll P xs → ((x : X) → P x → Q x)
    → ((x : X) → Q x → P x) → AreAll Q xs
same_kind P Q xs all to fro = record {
  differ = all.differ;
  exact = λ x. (λ has. to x ((all.exact x).0 has), λ q. (all.exact x).1 (fro x q));
}

-- this one in front of each list, before the others
abbrev pub onto : {X : Type 0} → X → List (List X) → List (List X) → List (List X)
onto x [] others = others
onto x (ys ∷ yss) others = (x ∷ ys) ∷ onto x yss others

-- each of the first in front of each list
abbrev pub conses : {X : Type 0} → List X → List (List X) → List (List X)
conses [] yss = []
conses (x ∷ xs) yss = onto x yss (conses xs yss)

-- it has each list with this one in front
onto_first : {X : Type 0} → (x : X) (yss others : List (List X)) (ys : List X) → Contains yss ys
    → Contains (onto x yss others) (x ∷ ys)
onto_first x [] others ys has = absurd (none_in ys has)
onto_first {X} x (zs ∷ yss) others ys has = elim (member_cases zs yss ys has) [
  | inl is ↦ subst (λ (us : List X). Contains (onto x (zs ∷ yss) others) (x ∷ us)) is
      (head_member (x ∷ zs) (onto x yss others))
  | inr behind ↦ tail_member (x ∷ zs) (onto x yss others) (x ∷ ys) (onto_first x yss others ys behind)
]

-- and the others
onto_others : {X : Type 0} → (x : X) (yss others : List (List X)) (z : List X) → Contains others z
    → Contains (onto x yss others) z
onto_others x [] others z has = has
onto_others x (ys ∷ yss) others z has = tail_member (x ∷ ys) (onto x yss others) z (onto_others x yss others z has)

-- a list with a front of one list and a rest of the other
pub record Fronted {X : Type 0} (P : X → Type 0) (Q : List X → Type 0) (z : List X) : Type 0 where
  pub front : X
  pub rest : List X
  pub has_front : P front
  pub has_rest : Q rest
  pub is : z ≡ front ∷ rest

-- and nothing else
onto_cases : {X : Type 0} → (x : X) (yss others : List (List X)) (z : List X) → Contains (onto x yss others) z
    → ((ys : List X) × Contains yss ys × (z ≡ x ∷ ys)) ⊎ Contains others z
onto_cases x [] others z has = inr has
onto_cases x (ys ∷ yss) others z has = elim (member_cases (x ∷ ys) (onto x yss others) z has) [
  | inl is ↦ inl (ys, head_member ys yss, sym is)
  | inr behind ↦ elim (onto_cases x yss others z behind) [
    | inl found ↦ inl (found.0, tail_member ys yss found.0 found.1, found.2)
    | inr more ↦ inr more
  ]
]

-- each once
onto_differ : {X : Type 0} → (x : X) (yss others : List (List X)) → Differ yss → Differ others
    → ((ys : List X) → Contains others (x ∷ ys) → ⊥) → Differ (onto x yss others)
onto_differ x [] others a b apart = b
onto_differ {X} x (ys ∷ yss) others a b apart =
    cons_differs (x ∷ ys) (onto x yss others)
    (λ z has same. elim (onto_cases x yss others z has) [
      | inl found ↦
          let there : ◌≡◌ {A = List X} (x ∷ ys) (x ∷ found.0) = same ∙ found.2 in
          let equal : ys ≡ found.0 = cc in
          head_differs ys yss a found.0 found.1 equal
      | inr more ↦ apart ys (subst (λ (u : List X). Contains others u) (sym same) more)
    ])
    (onto_differ x yss others (tail_differ ys yss a) b apart)

-- it has each list of one of the fronts and one of the rests
pub conses_in : {X : Type 0} → (xs : List X) (yss : List (List X)) (x : X) (ys : List X) → Contains xs x → Contains yss ys
    → Contains (conses xs yss) (x ∷ ys)
conses_in [] yss x ys has at = absurd (none_in x has)
conses_in {X} (w ∷ xs) yss x ys has at = elim (member_cases w xs x has) [
  | inl is ↦ subst (λ (u : X). Contains (conses (w ∷ xs) yss) (u ∷ ys)) is (onto_first w yss (conses xs yss) ys at)
  | inr behind ↦ onto_others w yss (conses xs yss) (x ∷ ys) (conses_in xs yss x ys behind at)
]

-- and no other
conses_cases : {X : Type 0} → (xs : List X) (yss : List (List X)) (z : List X) → Contains (conses xs yss) z
    → Fronted (Contains xs) (Contains yss) z
conses_cases [] yss z has = absurd (none_in z has)
conses_cases (x ∷ xs) yss z has = elim (onto_cases x yss (conses xs yss) z has) [
  | inl found ↦ record { front = x; rest = found.0; has_front = head_member x xs; has_rest = found.1; is = found.2 }
  | inr more ↦
      let old = conses_cases xs yss z more in
      record {
        front = old.front;
        rest = old.rest;
        has_front = tail_member x xs old.front old.has_front;
        has_rest = old.has_rest;
        is = old.is;
      }
]

-- each once
conses_differ : {X : Type 0} → (xs : List X) (yss : List (List X)) → Differ xs → Differ yss → Differ (conses xs yss)
conses_differ [] yss a b = none_differ
conses_differ {X} (x ∷ xs) yss a b =
    onto_differ x yss (conses xs yss) b (conses_differ xs yss (tail_differ x xs a) b)
    (λ ys has.
    let found = conses_cases xs yss (x ∷ ys) has in
    let whole : ◌≡◌ {A = List X} (x ∷ ys) (found.front ∷ found.rest) = found.is in
    let equal : x ≡ found.front = cc in
    head_differs x xs a found.front found.has_front equal)

-- so all fronts and all rests make all lists of both
pub all_conses : {X : Type 0} → (P : X → Type 0) (Q : List X → Type 0) (xs : List X) (yss : List (List X))
    → AreAll P xs → AreAll Q yss → AreAll (Fronted P Q) (conses xs yss)
all_conses {X} P Q xs yss a b = record {
  differ = conses_differ xs yss a.differ b.differ;
  exact = λ z. (
    λ has. let found = conses_cases xs yss z has in record {
      front = found.front;
      rest = found.rest;
      is = found.is;
      has_front = (a.exact found.front).0 found.has_front;
      has_rest = (b.exact found.rest).0 found.has_rest;
    },
    λ made. subst (λ (u : List X). Contains (conses xs yss) u) (sym made.is)
        (conses_in xs yss made.front made.rest ((a.exact made.front).1 made.has_front)
        ((b.exact made.rest).1 made.has_rest)),
  );
}

-- a list that stands alone
pub one_alone : {X : Type 0} → (x : X) (P : X → Type 0) → P x → ((y : X) → P y → x ≡ y) → AreAll P (x ∷ [])
one_alone {X} x P here only = record {
  differ = cons_differs x [] (λ y has. absurd (none_in y has)) none_differ;
  exact = λ y. (
    λ has. elim (member_cases x [] y has) [ inl is ↦ subst P is here | inr none ↦ absurd (none_in y none) ],
    λ p. subst (λ (u : X). Contains (x ∷ []) u) (only y p) (head_member x []),
  );
}

-- the members of which it holds
pub record Kept {X : Type 0} (P : X → Type 0) (xs : List X) : Type 0 where
  pub list : List X
  pub differ : Differ list
  pub sound : (x : X) → Contains list x → Contains xs x × P x
  pub complete : (x : X) → Contains xs x → P x → Contains list x

-- of a list they can be picked, where it is found of each member whether it holds
pub kept : {X : Type 0} → (P : X → Type 0) (xs : List X) → Differ xs
    → ((x : X) → Contains xs x → P x ⊎ (P x → ⊥)) → Kept P xs
kept P [] differ each = record {
  list = [];
  differ = none_differ;
  sound = λ x has. absurd (none_in x has);
  complete = λ x has p. has;
}
kept {X} P (x ∷ xs) differ each =
    let old : Kept P xs = kept P xs (tail_differ x xs differ) (λ y has. each y (tail_member x xs y has)) in
    elim (each x (head_member x xs)) [
      | inl here ↦ record {
        list = x ∷ old.list;
        differ = cons_differs x old.list (λ y has. head_differs x xs differ y (old.sound y has).0) old.differ;
        sound = λ y has. elim (member_cases x old.list y has) [
          | inl is ↦ subst (λ (u : X). Contains (x ∷ xs) u × P u) is (head_member x xs, here)
          | inr behind ↦ let s = old.sound y behind in (tail_member x xs y s.0, s.1)
        ];
        complete = λ y has p. elim (member_cases x xs y has) [
          | inl is ↦ subst (λ (u : X). Contains (x ∷ old.list) u) is (head_member x old.list)
          | inr behind ↦ tail_member x old.list y (old.complete y behind p)
        ];
      }
      | inr not ↦ record {
        list = old.list;
        differ = old.differ;
        sound = λ y has. let s = old.sound y has in (tail_member x xs y s.0, s.1);
        complete = λ y has p. elim (member_cases x xs y has) [
          | inl is ↦ absurd (not (subst P (sym is) p))
          | inr behind ↦ old.complete y behind p
        ];
      }
    ]
