-- The samples of a frame are a finite list: of all values, those are kept at which no event occurs.
use Rattle.std.proofs.Common.{inl, inr, ◌≡◌, ◌⊎◌, ℕ, zero, suc, ◌<◌, List, [], ◌∷◌, length, map, get_or, refl, sym, ap, subst, ◌∙◌, arith}
use Rattle.std.proofs.lemmas.List.Elements.{Contains-get_or}
use Rattle.pop_model.specs.Stacks.{StackTable, row_of}
use Rattle.pop_model.specs.Families.{Family, IsFamily}
use Rattle.pop_model.specs.Families.Family.{Listed, Cycles}
use Rattle.pop_model.proofs.Diamond.{names_it}
use Rattle.pop_samples.specs.Frames.{Frame, IsFrame, IsSampleOf, Rows, stacks_of}
use Rattle.pop_samples.specs.Lists.{AreAll}
use Rattle.pop_samples.proofs.MovedLogs.{known_variable}
use Rattle.pop_samples.proofs.Conses.{Fronted, Kept, all_conses, conses, kept, one_alone, same_kind}
use Rattle.pop_samples.proofs.AllRows.{all_below, numbers_below}
use Rattle.pop_samples.proofs.Ending.{Found, found_listed}
use Rattle.pop_samples.proofs.FoundCycles.{found_cycles}
use Rattle.key_samples.specs.Counts.{Count}
use Rattle.key_samples.proofs.Weighing.{AreValues, behind}

-- all values of all variables
all_values_list : List (List ℕ) → List (List ℕ)
all_values_list [] = [] ∷ []
all_values_list (ws ∷ weights) = conses (numbers_below (length ws)) (all_values_list weights)

-- the list has all of them
all_values : (weights : List (List ℕ)) → AreAll (AreValues weights) (all_values_list weights)
unfolding all_values_list
all_values [] =
    one_alone [] (AreValues []) (record { count = refl; values = λ v less. absurd (omega (arith, less)) }) empty
  where
    empty : (y : List ℕ) → AreValues [] y → [] ≡ y
    empty [] p = refl
    empty (x ∷ y) p = absurd (let e = p.count in omega (arith, e))
all_values (ws ∷ weights) =
    same_kind (Fronted (λ (k : ℕ). k < length ws) (AreValues weights)) (AreValues (ws ∷ weights))
    (conses (numbers_below (length ws)) (all_values_list weights))
    (all_conses (λ (k : ℕ). k < length ws) (AreValues weights) (numbers_below (length ws)) (all_values_list weights)
    (all_below (length ws)) (all_values weights)) to fro
  where
    made : (x : ℕ) (w : List ℕ) → x < length ws → AreValues weights w → (v : ℕ) → v < length (x ∷ w)
        → get_or (x ∷ w) v 0 < length (row_of (ws ∷ weights) v)
    made x w low p zero less = low
    made x w low p (suc v) less = p.values v (omega (arith, less))

    to : (z : List ℕ) → Fronted (λ (k : ℕ). k < length ws) (AreValues weights) z → AreValues (ws ∷ weights) z
    to z f = subst (AreValues (ws ∷ weights)) (sym f.is) (record {
      count = ap suc f.has_rest.count;
      values = made f.front f.rest f.has_front f.has_rest;
    })

    fro : (z : List ℕ) → AreValues (ws ∷ weights) z → Fronted (λ (k : ℕ). k < length ws) (AreValues weights) z
    fro [] p = absurd (let e = p.count in omega (arith, e))
    fro (x ∷ w) p = record {
      front = x;
      rest = w;
      is = refl;
      has_front = p.values 0 (omega arith);
      has_rest = behind ws weights x w p;
    }

-- of every family it is found whether an event is poppable
pub found : (s : StackTable) (family : Family) → IsFamily family → (c : List ℕ)
    → Found (record { stacks = s; family = family }) c
found s (Listed events) is c = found_listed s events c
found s (Cycles heads) is c = found_cycles s heads is c

-- rows that have each value twice
abbrev twice : List ℕ → Rows
twice w = map (λ x. x ∷ x ∷ []) w

-- the entry is the value
twice_at : (w : List ℕ) (v : ℕ) → get_or (row_of (twice w) v) 0 0 ≡ get_or w v 0
twice_at [] v = refl
twice_at (x ∷ w) zero = refl
twice_at (x ∷ w) (suc v) = twice_at w v

-- and there is a next one
twice_high : (w : List ℕ) (v : ℕ) → v < length w → length (row_of (twice w) v) ≡ 2
twice_high [] v less = absurd (omega (arith, less))
twice_high (x ∷ w) zero less = refl
twice_high (x ∷ w) (suc v) less = twice_high w v (omega (arith, less))

-- values are a sample or aren't: so an event is poppable where each value is there twice
pub sample_or_not : (f : Frame) → IsFrame f → (w : List ℕ) → AreValues f.weights w → IsSampleOf f w ⊎ (IsSampleOf f w → ⊥)
sample_or_not f frame w are = elim (found (stacks_of f (twice w)) f.family frame.family []) [
  | inl some ↦ inr (λ is. is.sample some.0 some.1 (λ k d less.
      let p : ℕ × ℕ = get_or some.0.cube k d in
      sym (twice_at w p.0) ∙ some.2.occurs k d less))
  | inr none ↦ inl (record {
    count = are.count;
    values = are.values;
    sample = λ e is all. none e is (record {
      occurs = λ k d less. let p : ℕ × ℕ = get_or e.cube k d in twice_at w p.0 ∙ all k d less;
      next = λ k d less.
          let p : ℕ × ℕ = get_or e.cube k d in
          let known = known_variable (stacks_of f []) f.family frame.fits e is p.0
          (names_it e.cube p (Contains-get_or e.cube k d less)) in
          let count = are.count in
          let high = twice_high w p.0 (omega (arith, known, count)) in
          omega (arith, high);
    });
  })
]

-- all samples of a frame
pub sample_list : (f : Frame) → IsFrame f → (z : ℕ) × Count (IsSampleOf f) z
sample_list f frame =
    let every = all_values f.weights in
    let some : Kept (IsSampleOf f) (all_values_list f.weights) =
    kept (IsSampleOf f) (all_values_list f.weights) every.differ
    (λ w has. sample_or_not f frame w ((every.exact w).0 has)) in (
      length some.list,
      record {
        list = some.list;
        all = record {
          differ = some.differ;
          exact = λ w. (
            λ has. (some.sound w has).1,
            λ is. some.complete w ((every.exact w).1 (record { count = is.count; values = is.values })) is,
          );
        };
        size = refl;
      },
    )
