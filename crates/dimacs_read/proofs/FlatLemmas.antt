-- The parts of a flat list.
use Rattle.std.proofs.Common.{◌≡◌, ℕ, suc, zero, ◌<◌, ◌≤◌, ℤ, List, [], ◌∷◌, length, get_or, slice_range, refl, ap, arith}
use Rattle.dimacs_read.specs.Flat.{parts, Rises}

-- there are as many parts as ends
pub length-parts : (literals : List ℤ) (at : ℕ) (ends : List ℕ) → length (parts literals at ends) ≡ length ends
length-parts literals at [] = refl
length-parts literals at (end ∷ ends) = ap suc (length-parts literals end ends)

-- a part lies between two ends that follow one another
pub part_at : (literals : List ℤ) (at : ℕ) (ends : List ℕ) (i : ℕ) → i < length ends
    → get_or (parts literals at ends) i [] ≡ slice_range literals (get_or (at ∷ ends) i 0) (get_or ends i 0)
part_at literals at [] i h = absurd (omega arith)
part_at literals at (end ∷ ends) zero h = refl
part_at literals at (end ∷ ends) (suc i) h = part_at literals end ends i (omega arith)

-- ends that rise from a place end no earlier
rises_from : (at : ℕ) (ends : List ℕ) (last : ℕ) → Rises at ends last → at ≤ last
rises_from at [] last r = r
rises_from at (end ∷ ends) last r = omega (arith, r.0, rises_from end ends last r.1)

-- a part begins before it ends
pub rises_start : (at : ℕ) (ends : List ℕ) (last i : ℕ) → Rises at ends last → i < length ends
    → get_or (at ∷ ends) i 0 ≤ get_or ends i 0
rises_start at [] last i r h = absurd (omega arith)
rises_start at (end ∷ ends) last zero r h = r.0
rises_start at (end ∷ ends) last (suc i) r h = rises_start end ends last i r.1 (omega arith)

-- a part ends within the list
pub rises_end : (at : ℕ) (ends : List ℕ) (last i : ℕ) → Rises at ends last → i < length ends → get_or ends i 0 ≤ last
rises_end at [] last i r h = absurd (omega arith)
rises_end at (end ∷ ends) last zero r h = rises_from end ends last r.1
rises_end at (end ∷ ends) last (suc i) r h = rises_end end ends last i r.1 (omega arith)
