use Rattle.std.proofs.Common.{rules, arith, ℕ, List, [], ◌∷◌, ap, sym, ◌∙◌, subst, ◌≤◌, length}
use Rattle.std.proofs.lemmas.List.{length_push}
use Rattle.claim_words.specs.Maps.{Each}
use Rattle.claim_words.specs.KeptLogs.{Kept, IsWhole, tickets_of}
use Rattle.claim_words.proofs.KeptLogsLemmas.{tickets-more}
use Rattle.claim_words.proofs.kept_log.KeptLog.add.Goals as goal

pub invariant_of-self : goal.invariant_of-self
invariant_of-self c =
    let i = c.self.invariant in
    let hs = c.self.inside.heads.items in
    let us = c.self.inside.uses.items in
    let x : ℕ × ℕ × ℕ = (c.args.variable, c.args.value, c.args.entry) in
    let items = c.push_reserved.ensures.items in
    let some : 1 ≤ c.self.inside.spare = search rules in
    record {
      fit = omega (arith, i.fit, ap length items, length_push us x);
      whole = subst (λ (l : List (ℕ × ℕ × ℕ)). Each IsWhole (tickets_of hs l)) (sym items)
          (subst (Each IsWhole) (sym (tickets-more hs us (x ∷ []) i.fit)) i.whole);
      uses_room = omega (arith, i.uses_room, c.push_reserved.ensures.len, c.push_reserved.ensures.capacity, some);
      heads_room = omega (arith, i.heads_room, some);
    }

pub returns-clause-tickets : goal.returns-clause-tickets
returns-clause-tickets c =
    let hs = c.self.inside.heads.items in
    let us = c.self.inside.uses.items in
    let x : ℕ × ℕ × ℕ = (c.args.variable, c.args.value, c.args.entry) in
    ap (tickets_of hs) c.push_reserved.ensures.items ∙ tickets-more hs us (x ∷ []) c.self.invariant.fit
    ∙ ap (λ (k : Kept). k.tickets) c.self.view_is
