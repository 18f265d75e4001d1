-- The first refusal of items that stand behind one another, and which refusals it can be.
use Rattle.std.proofs.Common.{◌≡◌, ℕ, Bool, true, false, cond, List, [], ◌∷◌, ◌++◌, map, Option, None, Some, refl, sym, ap, ◌∙◌, append_assoc, append-nil}
use Rattle.pop_edge.specs.declared.refusal.ReadRefusal.{ReadRefusal}
use Rattle.pop_edge.specs.Refusals.{Fault, MayBeOfLine, or_else, at_line, first_refusal}
use Rattle.pop_edge.specs.Refusals.Fault.{Code, Passes}

-- the items without the numbers of their lines
abbrev pub items : {X : Type 0} → List (ℕ × X) → List X
items xs = map (λ x. x.1) xs

-- the first refusal of three is the same, however they are grouped
or_else_assoc : (a b c : Option ReadRefusal) → or_else a (or_else b c) ≡ or_else (or_else a b) c
or_else_assoc None b c = refl
or_else_assoc (Some a) b c = refl

-- a refusal before nothing
pub or_else-nothing : (a : Option ReadRefusal) → or_else a None ≡ a
or_else-nothing None = refl
or_else-nothing (Some a) = refl

-- the first refusal of two lists: that of the first, or else that of the second behind it
pub first_refusal-append : {X : Type 0} (fault : List X → X → Option Fault) (before : List X) (xs ys : List (ℕ × X))
    → first_refusal fault before (xs ++ ys)
    ≡ or_else (first_refusal fault before xs) (first_refusal fault (before ++ items xs) ys)
first_refusal-append fault before [] ys = ap (λ b. first_refusal fault b ys) (sym (append-nil before))
first_refusal-append fault before (x ∷ xs) ys =
    ap (or_else (at_line x.0 (fault before x.1)))
    (first_refusal-append fault (before ++ x.1 ∷ []) xs ys
    ∙ ap (λ b. or_else (first_refusal fault (before ++ x.1 ∷ []) xs) (first_refusal fault b ys))
    (append_assoc before (x.1 ∷ []) (items xs)))
    ∙ or_else_assoc (at_line x.0 (fault before x.1)) _ _

-- neither of two refuses
pub or_else_none : (a b : Option ReadRefusal) → or_else a b ≡ None → (a ≡ None) × (b ≡ None)
or_else_none None b h = (refl, h)
or_else_none (Some a) b h = absurd (cc)

-- one of the first two refuses, and so it does before a third
pub or_else_front : (a b c : Option ReadRefusal) (e : ReadRefusal) → or_else a b ≡ Some e
    → or_else a (or_else b c) ≡ Some e
or_else_front None None c e h = absurd (cc)
or_else_front None (Some b) c e h = h
or_else_front (Some a) b c e h = h

-- no refusal at a line comes of no fault
pub at_line_none : (n : ℕ) (fault : Option Fault) → at_line n fault ≡ None → fault ≡ None
at_line_none n None h = refl
at_line_none n (Some fault) h = absurd (cc)

-- a fault that a test chooses against none is none where the test fails
pub chosen_none : (t : Bool) (f : Fault) → cond t (Some f) None ≡ None → t ≡ false
chosen_none true f h = absurd (cc)
chosen_none false f h = refl

-- a fault chosen against another test's is none where the first test passes and the other is none
pub chosen_some : (t : Bool) (a : Option Fault) (f : Fault) → cond t a (Some f) ≡ None → (t ≡ true) × (a ≡ None)
chosen_some true a f h = (refl, h)
chosen_some false a f h = absurd (cc)

-- the same the other way round
pub chosen_else : (t : Bool) (f : Fault) (a : Option Fault) → cond t (Some f) a ≡ None → (t ≡ false) × (a ≡ None)
chosen_else true f a h = absurd (cc)
chosen_else false f a h = (refl, h)

-- what one fault refuses is of a line
pub at_line_is : (n : ℕ) (fault : Option Fault) → MayBeOfLine (at_line n fault)
at_line_is n None = tt
at_line_is n (Some (Code code)) = tt
at_line_is n (Some (Passes kind)) = tt

-- the first of two that are of lines is
pub or_else_is : (a b : Option ReadRefusal) → MayBeOfLine a → MayBeOfLine b → MayBeOfLine (or_else a b)
or_else_is None b first second = second
or_else_is (Some e) b first second = first

-- the first refusal of items is of a line
pub first_refusal_is : {X : Type 0} (fault : List X → X → Option Fault) (before : List X) (xs : List (ℕ × X))
    → MayBeOfLine (first_refusal fault before xs)
first_refusal_is fault before [] = tt
first_refusal_is fault before (x ∷ xs) =
    or_else_is (at_line x.0 (fault before x.1)) _ (at_line_is x.0 (fault before x.1))
    (first_refusal_is fault (before ++ x.1 ∷ []) xs)
