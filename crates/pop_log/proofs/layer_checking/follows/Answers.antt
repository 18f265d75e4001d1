use Rattle.std.proofs.Common.{◌≡◌, ◌⊎◌, ◌↔◌, ◌<◌, ◌-◌, ℕ, get_or, subst, IsTrue}
use Rattle.pop_model.specs.Logs.{LogRecord}
use Rattle.pop_log.specs.Layered.{ComesBefore}
use Rattle.pop_log.proofs.SaidLayers.{follows_is}
use Rattle.pop_log.proofs.layer_checking.follows.Goals as goal

pub returns : goal.returns
returns c =
    let log = c.args.log.now in
    let said = c.args.said.now in
    let i = c.args.i in
    let q : LogRecord = c.at.result.now in
    let r : LogRecord = c.at-2.result.now in
    let y = get_or said (i - 1) 0 in
    let z = get_or said i 0 in
    let is = follows_is log said i q r c.if-i-eq0.false c.requires.each c.at.ensures c.at-2.ensures in
    let test : IsTrue c.comes_before.result ↔ ComesBefore (q, y) (r, z) =
    subst (λ (u : ℕ). IsTrue c.comes_before.result ↔ ((y < z) ⊎ ((y ≡ z) × (u < r.event.unit)))) c.unit-before.ensures
    (subst (λ (v : ℕ). IsTrue c.comes_before.result ↔ ((y < z) ⊎ ((y ≡ z) × (c.unit-before.result < v)))) c.unit.ensures
    c.comes_before.ensures) in
    (λ h. is.0 (test.0 h), λ h. test.1 (is.1 h))
