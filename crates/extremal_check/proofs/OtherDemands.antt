-- A rising cube demands at most one value of a variable, so the one that is looked up tells whether it demands another.
use Rattle.std.proofs.Common.{◌≡◌, ◌≢◌, ℕ, true, not, eqb, Some, None, sym, ap, ◌∙◌, eq-eqb, ne_eqb}
use Rattle.std.proofs.lemmas.Bool.{false≢true}
use Rattle.std.proofs.lemmas.Option.{none-some, same_Some}
use Rattle.pop_model.specs.Popping.{Cube}
use Rattle.pop_model.specs.Cycles.{demand}
use Rattle.pop_model.proofs.Following.{Rises, demand_contains, contains_demand, rising_demand}
use Rattle.extremal_check.specs.Clashes.{DemandsOther}

-- what the test of two values for difference tells
pub differ_test : (x y : ℕ) → (not (eqb x y) ≡ true → x ≢ y) × (x ≢ y → not (eqb x y) ≡ true)
differ_test x y =
    (λ test same. false≢true (sym (ap not (eq-eqb x y same)) ∙ test), λ differ. ap not (ne_eqb x y differ))

-- a demanded value that differs is another
pub demands_other_value : (e : Cube) (v value demanded : ℕ) → demand e v ≡ Some demanded → value ≢ demanded
    → DemandsOther e (v, value)
demands_other_value e v value demanded is differ = (demanded, demand_contains e v demanded is, differ)

-- one that is equal isn't, and there is no other
pub demands_that_value : (e : Cube) (v value demanded : ℕ) → Rises e → demand e v ≡ Some demanded
    → DemandsOther e (v, value) → value ≢ demanded
demands_that_value e v value demanded rises is (y, there, differ) same =
    let equal : demanded ≡ y = same_Some demanded y (sym is ∙ rising_demand e v y rises there) in
    differ (same ∙ equal)

-- where none is demanded there is no other
pub demands_none : (e : Cube) (v value : ℕ) → demand e v ≡ None → DemandsOther e (v, value) → ⊥
demands_none e v value is (y, there, differ) =
    let found = contains_demand e v y there in none-some found.0 (sym is ∙ found.1)
