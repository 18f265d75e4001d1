-- The first watcher of a kind, found by going over the watchers from the front.
use Rattle.std.proofs.Common.{◌≡◌, ◌==◌, ℕ, Bool, if◌then◌else◌, Option, suc, ◌+◌, ◌<◌, List, ◌∷◌, length, drop, map, get_or, Some, sym, ap, ap₂, ◌∙◌, arith, drop-cons, eq-eqb}
use Rattle.std.specs.List.{find}
use Rattle.std.specs.Option.{option_map}
use Rattle.std.proofs.lemmas.Bool.{ne_eqb}
use Rattle.pop_watch.specs.Watching.{report_text}
use Rattle.pop_watch.specs.Telling.{Watcher, first_report}

-- the report of the first of a kind, by whether the first watcher has it
abbrev first_if : ℕ → Watcher → List Watcher → Bool → Option (List ℕ)
first_if kind w rest has = option_map (λ v. report_text v.0 v.1) (if has then Some w else find (λ v. v.0 == kind) rest)

-- a first watcher of another kind is passed over
first_other : (kind : ℕ) (w : Watcher) (rest : List Watcher) → (w.0 ≡ kind → ⊥)
    → first_report kind (w ∷ rest) ≡ first_report kind rest
first_other kind w rest other = ap (first_if kind w rest) (ne_eqb w.0 kind other)

-- and one of the kind reports
first_this : (kind : ℕ) (w : Watcher) (rest : List Watcher) → w.0 ≡ kind
    → first_report kind (w ∷ rest) ≡ Some (report_text w.0 w.1)
first_this kind w rest same = ap (first_if kind w rest) (eq-eqb w.0 kind same)

-- the members from i on are that at i and those behind it
cut : {A : Type 0} (ws : List A) (i : ℕ) (b : A) → i < length ws → b ≡ get_or ws i b → drop i ws ≡ b ∷ drop (i + 1) ws
cut ws i b within is =
    let next : suc i ≡ i + 1 = omega arith in
    drop-cons ws i b within ∙ ap₂ (λ x n. x ∷ drop n ws) (sym is) next

-- the watcher at i is of another kind
pub skipped : {A : Type 0} (f : A → Watcher) (ws : List A) (i kind : ℕ) (b : A)
    → i < length ws → b ≡ get_or ws i b → ((f b).0 ≡ kind → ⊥)
    → first_report kind (map f ws) ≡ first_report kind (map f (drop i ws))
    → first_report kind (map f ws) ≡ first_report kind (map f (drop (i + 1) ws))
skipped f ws i kind b within is other old =
    old ∙ ap (λ l. first_report kind (map f l)) (cut ws i b within is)
    ∙ first_other kind (f b) (map f (drop (i + 1) ws)) other

-- the watcher at i is of the kind
pub found : {A : Type 0} (f : A → Watcher) (ws : List A) (i kind : ℕ) (b : A)
    → i < length ws → b ≡ get_or ws i b → (f b).0 ≡ kind
    → first_report kind (map f ws) ≡ first_report kind (map f (drop i ws))
    → first_report kind (map f ws) ≡ Some (report_text (f b).0 (f b).1)
found f ws i kind b within is same old =
    old ∙ ap (λ l. first_report kind (map f l)) (cut ws i b within is)
    ∙ first_this kind (f b) (map f (drop (i + 1) ws)) same
