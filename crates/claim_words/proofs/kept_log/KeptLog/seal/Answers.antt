use Rattle.std.proofs.Common.{arith, ℕ, List, [], ◌∷◌, ◌++◌, ap, sym, ◌∙◌, subst, ◌≡◌, ◌<◌, length, map, drop, ◌^◌}
use Rattle.std.proofs.lemmas.List.{length-map, length-drop}
use Rattle.pop_model.specs.Popping.{IsCube}
use Rattle.claim_words.specs.Maps.{Each}
use Rattle.claim_words.specs.KeptLogs.{Kept, Head, IsWhole, tickets_of, many_uses, record_of}
use Rattle.claim_words.proofs.Totals.{total-append, each-append}
use Rattle.claim_words.proofs.KeptLogsLemmas.{tickets-seal, drop-seal}
use Rattle.claim_words.proofs.kept_log.KeptLog.seal.Goals as goal

pub invariant_of-self : goal.invariant_of-self
invariant_of-self c =
    let i = c.self.invariant in
    let hs = c.self.inside.heads.items in
    let us = c.self.inside.uses.items in
    let t = c.args.ticket in let u = c.args.unit in let n = c.args.pairs in
    let loose : List (ℕ × ℕ × ℕ) = drop (many_uses hs) us in
    let old : c.args.self.now.loose ≡ loose = sym (ap (λ (k : Kept). k.loose) c.self.view_is) in
    let is : n ≡ length loose = c.requires.pairs ∙ ap length old in
    let cube : IsCube (map (λ (e : ℕ × ℕ × ℕ). (e.0, e.1)) loose) = subst
    (λ (l : List (ℕ × ℕ × ℕ)). IsCube (map (λ (e : ℕ × ℕ × ℕ). (e.0, e.1)) l)) old c.requires.cube in
    let pair : ℕ × ℕ × ℕ → ℕ × ℕ = λ e. (e.0, e.1) in
    let size : length (map pair loose) ≡ length loose = length-map loose pair in
    let short : length loose < 2 ^ 31 = omega (arith, c.requires.short, ap length old) in
    let items = c.push_reserved.ensures.items in
    let none : length (drop (many_uses c.push_reserved.new.self.items) us) ≡ 0 = ap
    (λ (l : List Head). length (drop (many_uses l) us)) items ∙ ap length (drop-seal hs t u n us is) in
    record {
      fit = omega (
        arith,
        ap many_uses items,
        total-append (λ (h : Head). h.2) hs ((t, u, n) ∷ []),
        length-drop (many_uses hs) us,
        is,
      );
      whole = subst (λ (l : List Head). Each IsWhole (tickets_of l us)) (sym items)
          (subst (Each IsWhole) (sym (tickets-seal hs t u n us is))
          (each-append IsWhole (tickets_of hs us) ((t, record_of u loose) ∷ []) i.whole
          ((cube, omega (arith, size, short)), tt)));
      uses_room = i.uses_room;
      heads_room = omega (
        arith,
        i.heads_room,
        none,
        cube.some,
        size,
        c.push_reserved.ensures.len,
        c.push_reserved.ensures.capacity,
      );
    }

pub returns-clause-tickets : goal.returns-clause-tickets
returns-clause-tickets c =
    let hs = c.self.inside.heads.items in
    let us = c.self.inside.uses.items in
    let is : c.args.pairs ≡ length (drop (many_uses hs) us) = c.requires.pairs
    ∙ sym (ap (λ (k : Kept). length k.loose) c.self.view_is) in
    ap (λ (l : List Head). tickets_of l us) c.push_reserved.ensures.items
    ∙ tickets-seal hs c.args.ticket c.args.unit c.args.pairs us is
    ∙ ap (λ (k : Kept). k.tickets ++ (c.args.ticket, record_of c.args.unit k.loose) ∷ []) c.self.view_is

pub returns-clause-loose : goal.returns-clause-loose
returns-clause-loose c =
    let hs = c.self.inside.heads.items in
    let us = c.self.inside.uses.items in
    let is : c.args.pairs ≡ length (drop (many_uses hs) us) = c.requires.pairs
    ∙ sym (ap (λ (k : Kept). length k.loose) c.self.view_is) in
    ap (λ (l : List Head). drop (many_uses l) us) c.push_reserved.ensures.items
    ∙ drop-seal hs c.args.ticket c.args.unit c.args.pairs us is
