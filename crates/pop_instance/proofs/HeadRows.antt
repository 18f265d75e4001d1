-- Heads are arrows just where each row of them has a slot, and no head that is neither the root nor a variable.
use Rattle.std.proofs.Common.{inl, inr, ◌≡◌, ℕ, ◌<◌, List, [], length, get_or, Option, Some, None, Vec, IfSome, refl, sym, ap, ◌∙◌, arith, All}
use Rattle.std.specs.Bool.{⊤}
use Rattle.std.proofs.lemmas.Bool.{cases_lt}
use Rattle.std.proofs.lemmas.Option.{none-some, MatchOption-at_some}
use Rattle.std.proofs.lemmas.List.{get_or_default, get_or_past, get_or-map}
use Rattle.pop_model.specs.Cycles.{AreArrows}
use Rattle.pop_model.proofs.CycleFamily.{Heads}
use Rattle.pop_model.proofs.TreeEnd.{head_within}
use Rattle.pop_instance.specs.Arrows.{IsRow, heads_of}

-- the row of a variable, as it was read
pub row_is : {A : Type 0} (rows : List (Vec (Option ℕ) A)) (v : ℕ) (row : Vec (Option ℕ) A) → v < length rows
    → row ≡ get_or rows v row → get_or (heads_of rows) v [] ≡ row.items
row_is rows v row inside read = get_or-map (λ r. r.items) rows v row [] inside ∙ ap (λ r. r.items) (sym read)

-- what holds of a head, whichever variable it is
pub if_some : (P : ℕ → Type 0) (head : Option ℕ) → ((w : ℕ) → head ≡ Some w → P w) → IfSome head P
if_some P None holds = tt
if_some P (Some w) holds = holds w refl

-- a slot that has a head is there
slot_within : (row : List (Option ℕ)) (x w : ℕ) → get_or row x None ≡ Some w → x < length row
slot_within row x w is = elim (cases_lt x (length row)) [
  | inl inside ↦ inside
  | inr past ↦ absurd (none-some w (sym (get_or_past row x None past) ∙ is))
]

-- each row of arrows is sound
pub sound_rows : (heads : Heads) (count : ℕ) → length heads ≡ count → AreArrows heads → All (IsRow count) heads
sound_rows heads count size are k d inside = record {
  some = are.some k d inside;
  below = λ x e slot. if_some (λ w. w < count) (get_or (get_or heads k d) x e) (λ w is.
      let row = ap (λ (r : List (Option ℕ)). get_or r x None) (get_or_default heads k [] d inside) in
      let below = are.below k x w (row ∙ get_or_default (get_or heads k d) x None e slot ∙ is) in
      omega (arith, size, below));
}

-- sound rows are arrows
pub arrows_of_rows : (heads : Heads) (count : ℕ) → length heads ≡ count → All (IsRow count) heads → AreArrows heads
arrows_of_rows heads count size rows = record {
  some = λ k d inside. (rows k d inside).some;
  below = λ v x w is.
      let row = rows v [] (head_within heads v x w is) in
      let slot = slot_within (get_or heads v []) x w is in
      let below = MatchOption-at_some ⊤ (λ u. u < count) w is (row.below x None slot) in
      omega (arith, size, below);
}
