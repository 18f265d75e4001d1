use Rattle.std.proofs.Common.{rules, arith, ℕ, List, sym, subst, ◌≡◌, ◌<◌, ◌+◌, ◌-◌, length, map, drop, take, get_or}
use Rattle.pop_model.specs.Popping.{IsCube}
use Rattle.claim_words.specs.Maps.{Each}
use Rattle.claim_words.specs.KeptLogs.{Head, IsWhole}
use Rattle.claim_words.proofs.KeptLogsLemmas.{Left, left-turn}
use Rattle.claim_words.proofs.kept_log.KeptLog.put_tickets.Goals as goal

pub made_record-requires-clause-cube : goal.made_record-requires-clause-cube
made_record-requires-clause-cube c =
    let hs : List Head = c.deref-head-items.result.now in
    let us : List (ℕ × ℕ × ℕ) = c.deref.result.now in
    let j = c.loop-head.head-index in let at = c.loop-head.at in
    let inside : j < length hs = search rules in
    let h : Head = get_or hs j (0, 0, 0) in
    let old : Each IsWhole (Left hs us j at) = subst (λ (l : List Head). Each IsWhole (Left l us j at))
    (sym c.deref-head-items.ensures.value)
    (subst (λ (l : List (ℕ × ℕ × ℕ)). Each IsWhole (Left c.self.inside.heads.items l j at))
    (sym c.deref.ensures.value) c.loop-head.invariant.whole) in
    let whole = subst (Each IsWhole) (left-turn hs us j at (0, 0, 0) inside) old in
    let size : at + h.2 - at ≡ h.2 = omega arith in
    subst (λ (n : ℕ). IsCube (map (λ (e : ℕ × ℕ × ℕ). (e.0, e.1)) (take n (drop at us)))) (sym size) whole.0.0
