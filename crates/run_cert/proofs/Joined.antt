-- Tokens that are joined by a sign that is in none of them can be separated again.
use Rattle.std.proofs.Common.{inl, inr, ◌≡◌, ◌≢◌, ◌⊎◌, ℕ, zero, suc, ◌<◌, false, eqb, List, [], ◌∷◌, ◌++◌, refl, ap, ◌∙◌, arith, All}
use Rattle.std.specs.List.{AllByRecursion, join_with_byte, slice_split}
use Rattle.std.proofs.lemmas.Bool.{eq-eqb, ne_eqb}
use Rattle.std.proofs.lemmas.List.Splits.{slice_split_none, slice_split_at}
use Rattle.pop_log.specs.Decimals.{AreDigits}
use Rattle.pop_log.proofs.Fronts.{each_append}

-- the sign stands nowhere among these bytes
abbrev pub Lacks : ℕ → List ℕ → Type 0
Lacks sign bytes = AllByRecursion (λ b. b ≢ sign) bytes

-- nor among two of which it stands in neither
pub lacks_append : (sign : ℕ) (a b : List ℕ) → Lacks sign a → Lacks sign b → Lacks sign (a ++ b)
lacks_append sign a b none none' = each_append (λ c. c ≢ sign) a b none none'

-- digits lack every sign below and above them
pub digits_lack : (sign : ℕ) (bs : List ℕ) → (sign < 48) ⊎ (57 < sign) → AreDigits bs → Lacks sign bs
digits_lack sign [] other are = tt
digits_lack sign (b ∷ bs) other are = (differs other, digits_lack sign bs other are.1)
  where
    differs : (sign < 48) ⊎ (57 < sign) → b ≢ sign
    differs (inl low) same = omega (arith, low, are.0.0, same)
    differs (inr high) same = omega (arith, high, are.0.1, same)

-- so no byte passes the test of the sign
lacks_all : (sign : ℕ) (bs : List ℕ) → Lacks sign bs → All (λ b. eqb b sign ≡ false) bs
lacks_all sign [] none k d less = absurd (omega (arith, less))
lacks_all sign (b ∷ bs) none zero d less = ne_eqb b sign none.0
lacks_all sign (b ∷ bs) none (suc k) d less = lacks_all sign bs none.1 k d (omega (arith, less))

-- words that are joined by a sign which stands in none of them are split at it
pub split_joined : (sign : ℕ) (w : List ℕ) (ws : List (List ℕ)) → AllByRecursion (Lacks sign) (w ∷ ws)
    → slice_split (λ b. eqb b sign) (join_with_byte sign (w ∷ ws)) ≡ w ∷ ws
split_joined sign w [] none = slice_split_none (λ b. eqb b sign) w (lacks_all sign w none.0)
split_joined sign w (v ∷ ws) none =
    slice_split_at (λ b. eqb b sign) w sign (join_with_byte sign (v ∷ ws)) (lacks_all sign w none.0)
    (eq-eqb sign sign refl)
    ∙ ap (λ (l : List (List ℕ)). w ∷ l) (split_joined sign v ws none.1)

-- what joined words lack
pub joined_lacks : (sign other : ℕ) (ws : List (List ℕ)) → sign ≢ other → AllByRecursion (Lacks other) ws
    → Lacks other (join_with_byte sign ws)
joined_lacks sign other [] differ none = tt
joined_lacks sign other (w ∷ []) differ none = none.0
joined_lacks sign other (w ∷ v ∷ ws) differ none =
    lacks_append other w (sign ∷ join_with_byte sign (v ∷ ws)) none.0
    (differ, joined_lacks sign other (v ∷ ws) differ none.1)
