-- Hints that join or leave a deque leave units there.
use Rattle.std.proofs.Common.{ℕ, ◌<◌, All, List, [], ◌∷◌, ◌++◌, length, subst}
use lib.Seq.{take-append_seam, drop-append_seam}
use Rattle.std.proofs.lemmas.List.Elements.{All-take, All-drop}
use Rattle.crossbeam_deque.specs.Tasks.{Takes, Pops}

module _ (units : ℕ) where
  -- what lies in the deque are units
  abbrev pub Holds : List ℕ → List (Unit {0}) → Type 0
  Holds items _ = All (λ unit. unit < units) items

  -- the front of a list of units
  front : (xs ys : List ℕ) → All (λ unit. unit < units) (xs ++ ys) → All (λ unit. unit < units) xs
  front xs ys are =
      subst (All (λ unit. unit < units)) (take-append_seam xs ys) (All-take (λ unit. unit < units) (length xs) (xs ++ ys) are)

  -- what lies behind it
  behind : (xs ys : List ℕ) → All (λ unit. unit < units) (xs ++ ys) → All (λ unit. unit < units) ys
  behind xs ys are =
      subst (All (λ unit. unit < units)) (drop-append_seam xs ys) (All-drop (λ unit. unit < units) (length xs) (xs ++ ys) are)

  -- hints that leave at the front are units, and so are those that stay
  pub takes : (port : ℕ) (v : Unit {0}) (most : ℕ)
      → Takes Holds port v most (λ xs _. All (λ unit. unit < units) xs)
  takes port v most xs items views _ _ are _ = (tt, behind xs items are, front xs items are)

  -- a hint that leaves at the back is a unit, and those that stay are
  pub pops : (port : ℕ) (v : Unit {0}) → Pops Holds port v (λ xs _. All (λ unit. unit < units) xs)
  pops port v x items views are _ = (tt, front items (x ∷ []) are, behind items (x ∷ []) are)
