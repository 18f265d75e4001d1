use Rattle.std.proofs.Common.{rules, arith, ap, ap₂, sym, ◌∙◌, subst, ◌++◌, ◌≤◌, ◌+◌, length, vec_len, vec_capacity}
use Rattle.claim_words.specs.Maps.{Each}
use Rattle.claim_words.specs.KeptLogs.{Kept, IsWhole, tickets_of}
use Rattle.claim_words.proofs.Totals.{each-append}
use Rattle.claim_words.proofs.KeptLogsLemmas.{tickets-joined, loose-joined}
use Rattle.claim_words.proofs.kept_log.KeptLog.append.Goals as goal

pub invariant_of-self-2 : goal.invariant_of-self-2
invariant_of-self-2 c =
    let i = c.self.invariant in
    let none = ap (λ (k : Kept). length k.loose) c.self.view_is ∙ c.requires.0 in
    let tickets = tickets-joined _ _ _ _ _ _ _ _ c.reserve.ensures.items c.move_all.ensures.items c.reserve-2.ensures.items
    c.move_all-2.ensures.items i.fit none in
    let loose = loose-joined _ _ _ _ _ _ _ _ c.reserve.ensures.items c.move_all.ensures.items c.reserve-2.ensures.items
    c.move_all-2.ensures.items i.fit none c.other.invariant.fit
    (ap (λ (k : Kept). length k.loose) c.other.view_is ∙ c.requires.1) in
    let for_heads : vec_len c.move_all.new.to + c.self.inside.spare ≤ vec_capacity c.move_all.new.to = search rules in
    let for_uses : vec_len c.move_all-2.new.to
    + c.self.inside.spare ≤ vec_capacity c.move_all-2.new.to = search rules in
    record {
      fit = loose.0;
      whole = subst (Each IsWhole) (sym tickets) (each-append IsWhole (tickets_of _ _) (tickets_of _ _) i.whole
          c.other.invariant.whole);
      uses_room = omega (arith, for_uses);
      heads_room = omega (arith, for_heads, loose.1);
    }

pub returns-clause-tickets : goal.returns-clause-tickets
returns-clause-tickets c =
    tickets-joined _ _ _ _ _ _ _ _ c.reserve.ensures.items c.move_all.ensures.items c.reserve-2.ensures.items
    c.move_all-2.ensures.items c.self.invariant.fit (ap (λ (k : Kept). length k.loose) c.self.view_is ∙ c.requires.0)
    ∙ ap₂ (λ (k l : Kept). k.tickets ++ l.tickets) c.self.view_is c.other.view_is

pub returns-clause-loose : goal.returns-clause-loose
returns-clause-loose c =
    (loose-joined _ _ _ _ _ _ _ _ c.reserve.ensures.items c.move_all.ensures.items c.reserve-2.ensures.items
    c.move_all-2.ensures.items c.self.invariant.fit
    (ap (λ (k : Kept). length k.loose) c.self.view_is ∙ c.requires.0) c.other.invariant.fit
    (ap (λ (k : Kept). length k.loose) c.other.view_is ∙ c.requires.1)).1
