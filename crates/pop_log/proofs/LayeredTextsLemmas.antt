-- The written form of the records of a legal log with their layers determines them: layers are written as they are,
-- and what is printed of legal records determines these.
use Rattle.std.proofs.Common.{◌≡◌, ℕ, List, [], ◌∷◌, map, refl, sym, ap, ap₂, ◌∙◌}
use Rattle.pop_model.specs.Families.{Family}
use Rattle.pop_model.specs.Instances.{Instance, IsInstance}
use Rattle.pop_model.specs.Logs.{LogRecord, IsLegal}
use Rattle.pop_log.specs.declared.names.Names.{Names}
use Rattle.pop_log.specs.Printed.{printed}
use Rattle.pop_log.specs.Layers.{Placed}
use Rattle.pop_log.specs.LayeredTexts.{Written, written}
use Rattle.pop_log.proofs.PrintedLemmas.{one_reading}

-- the image of an image
pub map_of_map : {X Y Z : Type 0} (f : X → Y) (g : Y → Z) (xs : List X) → map g (map f xs) ≡ map (λ x. g (f x)) xs
map_of_map {X} {Y} {Z} f g [] = refl
map_of_map {X} {Y} {Z} f g (x ∷ xs) = ap (λ (l : List Z). g (f x) ∷ l) (map_of_map f g xs)

-- the same records with the same layers
placed_same : (placed other : List Placed) → map (λ p. p.0) placed ≡ map (λ p. p.0) other
    → map (λ p. p.1) placed ≡ map (λ p. p.1) other → placed ≡ other
placed_same [] [] records layers = refl
placed_same [] (q ∷ other) records layers = absurd (cc)
placed_same (p ∷ placed) [] records layers = absurd (cc)
placed_same (p ∷ placed) (q ∷ other) records layers =
    let one : p.0 ≡ q.0 = cc in
    let two : p.1 ≡ q.1 = cc in
    let rest : placed ≡ other = placed_same placed other (cc) (cc) in
    ap₂ (λ (x : Placed) (l : List Placed). x ∷ l) (ap₂ (λ (r : LogRecord) (y : ℕ). (r, y)) one two) rest

-- the layers that are written
written_layers : (names : Names) (family : Family) (placed : List Placed)
    → map (λ w. w.0) (map (written names family) placed) ≡ map (λ p. p.1) placed
written_layers names family placed = map_of_map (written names family) (λ (w : Written). w.0) placed

-- what is written without the layers is what is printed
pub written_records : (names : Names) (family : Family) (placed : List Placed)
    → map (λ w. w.1) (map (written names family) placed) ≡ map (printed names family) (map (λ p. p.0) placed)
written_records names family placed =
    map_of_map (written names family) (λ (w : Written). w.1) placed
    ∙ sym (map_of_map (λ (p : Placed). p.0) (printed names family) placed)

-- what is written determines the records of a legal log, and their layers
pub written_determines : (names : Names) (i : Instance) → IsInstance i → (c : List ℕ) (placed other : List Placed)
    → IsLegal i c (map (λ p. p.0) placed) → IsLegal i c (map (λ p. p.0) other)
    → map (written names i.family) placed ≡ map (written names i.family) other → placed ≡ other
written_determines names i is c placed other legal legal' same =
    let layers : map (λ (p : Placed). p.1) placed ≡ map (λ (p : Placed). p.1) other =
    sym (written_layers names i.family placed) ∙ ap (map (λ (w : Written). w.0)) same
    ∙ written_layers names i.family other in
    let printed_same = sym (written_records names i.family placed) ∙ ap (map (λ (w : Written). w.1)) same
    ∙ written_records names i.family other in
    placed_same placed other (one_reading names i is c (map (λ (p : Placed). p.0) placed)
    (map (λ (p : Placed). p.0) other) legal legal' printed_same) layers
