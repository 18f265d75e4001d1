use Rattle.std.proofs.Common.{rules, arith, ℕ, suc, ◌+◌, ◌-◌, ◌∙◌, ◌≡◌, ap, sym}
use Rattle.std.specs.List.{range_with_len}
use Rattle.pop_model.specs.Popping.{variables}
use Rattle.claim_words.specs.declared.view.View.{View}
use Rattle.claim_words.specs.Maps.{times_in, taken_out}
use Rattle.claim_words.specs.Passes.{view}
use Rattle.claim_words.proofs.HeldLemmas.{times-variables, variables-without}
use Rattle.claim_words.proofs.HeldWhole.{range-first, range-without, variables-none}
use Rattle.worker_tests.proofs.passes.release_below.Goals as goal

pub release-requires-clause-held : goal.release-requires-clause-held
release-requires-clause-held c =
    let v : ℕ = c.loop-v.v in
    let d : View = view c.loop-v.pass in
    let more : c.args.count - v ≡ suc (c.args.count - (v + 1)) = omega arith in
    sym (times-variables v d.held) ∙ ap (times_in v) (c.loop-v.invariant.held ∙ ap (range_with_len v) more)
    ∙ range-first v (c.args.count - (v + 1))

pub loop-v-preserved : goal.loop-v-preserved
loop-v-preserved c =
    let v : ℕ = c.loop-v.v in
    let d : View = view c.loop-v.pass in
    let i = c.loop-v.invariant in
    let more : c.args.count - v ≡ suc (c.args.count - (v + 1)) = omega arith in
    record {
      pass = search rules;
      held = ap (λ (x : View). variables x.held) c.release.ensures.step ∙ variables-without v d.held
          ∙ ap (taken_out v) (i.held ∙ ap (range_with_len v) more) ∙ range-without v (c.args.count - (v + 1));
      same = search rules;
    }

pub returns-clause-held : goal.returns-clause-held
returns-clause-held c =
    let none : c.args.count - c.loop-v.v ≡ 0 = omega arith in
    variables-none (view c.loop-v.pass).held (c.loop-v.invariant.held ∙ ap (range_with_len c.loop-v.v) none)
