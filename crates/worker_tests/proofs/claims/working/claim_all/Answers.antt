use Rattle.std.proofs.Common.{rules, arith, ℕ, List, [], ◌∷◌, ◌++◌, ap, sym, subst, ◌∙◌, ◌+◌, ◌≡◌, ◌<◌, length, get_or}
use Rattle.std.specs.List.{enumerate_from, range_with_len}
use mathlib.Core.Logic.{dite}
use native.Mathlib.Decide.{ℕ_discrete}
use Rattle.pop_model.specs.Popping.{variables}
use Rattle.claim_words.specs.Openings.{height}
use Rattle.claim_words.specs.Passes.{opening_of}
use Rattle.claim_words.proofs.SoleHasAll.{last_of, before_last}
use Rattle.claim_words.proofs.TicketsAreNumbered.{enumerate-push}
use Rattle.claim_words.proofs.HeldWhole.{variables-enumerate}
use Rattle.worker_tests.proofs.claims.working.claim_all.Goals as goal

pub release_below-requires-clause-held : goal.release_below-requires-clause-held
release_below-requires-clause-held g c =
    let i = c.loop-v.invariant in
    let same = rw c.in_default.is at c.claim_next.ensures.held in
    ap variables (same ∙ i.held) ∙ variables-enumerate 0 c.loop-v.cursors.items ∙ ap (range_with_len 0) i.len

pub loop-v-preserved : goal.loop-v-preserved
loop-v-preserved g c =
    let i = c.loop-v.invariant in
    let v : ℕ = c.loop-v.v in
    let x : ℕ = c.in-Some.cursor in
    let old : List ℕ = c.loop-v.cursors.items in
    let to = c.push_reserved.ensures.items in
    let k = opening_of c.args.board.now in
    let place : v ≡ 0 + length old = omega (arith, i.len) in
    let more = rw c.in-Some.is at c.claim_next.ensures.held in
    let less = rw c.in-Some.is at c.claim_next.ensures.room in
    let low = rw c.in-Some.is at c.claim_next.ensures.low in
    record {
      pass = search rules;
      same = search rules;
      room = omega (arith, i.room, less);
      held = more ∙ ap (λ (l : List (ℕ × ℕ)). l ++ (v, x) ∷ []) i.held
          ∙ ap (λ (j : ℕ). enumerate_from 0 old ++ (j, x) ∷ []) place ∙ sym (enumerate-push 0 old x)
          ∙ ap (enumerate_from 0) (sym to);
      len = search rules;
      capacity = search rules;
      low = λ u h. dite (ℕ_discrete u v)
          (λ is. subst (λ (l : List ℕ). get_or l u 0 < height k u) (sym to)
          (subst (λ (y : ℕ). y < height k u) (sym (last_of old x u (is ∙ sym i.len)))
          (subst (λ (j : ℕ). x < height k j) (sym is) low)))
          (λ ne. subst (λ (l : List ℕ). get_or l u 0 < height k u) (sym to)
          (subst (λ (y : ℕ). y < height k u) (sym (before_last old x u (omega (arith, h, i.len)))) (i.low u (omega arith))));
    }
