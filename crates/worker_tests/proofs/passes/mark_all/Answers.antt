use Rattle.std.proofs.Common.{rules, ℕ, ap, sym, subst, ◌∙◌, ◌+◌, ◌≡◌}
use Rattle.claim_words.specs.declared.view.View.{View}
use Rattle.claim_words.specs.Maps.{Each, taken_out}
use Rattle.claim_words.specs.Passes.{view}
use Rattle.claim_words.proofs.HeldWhole.{Between, between_all, between_next, between_none}
use Rattle.worker_tests.proofs.passes.mark_all.Goals as goal

pub loop-unit-init : goal.loop-unit-init
loop-unit-init c = record {
  pass = c.requires.pass;
  taken = c.requires.taken;
  owed = between_all c.args.marks (view c.args.pass.now).owed c.requires.owed;
  held = search rules;
  share = search rules;
}

pub loop-unit-preserved : goal.loop-unit-preserved
loop-unit-preserved c =
    let i = c.loop-unit.invariant in
    let u : ℕ = c.loop-unit.unit in
    let to = c.mark.ensures.step.1 in
    record {
      pass = search rules;
      taken = ap (λ (x : View). x.taken) to ∙ ap (taken_out u) i.taken;
      owed = subst (λ (x : View). Each (Between (u + 1) c.args.marks) x.owed) (sym to)
          (between_next u c.args.marks (view c.loop-unit.pass).owed i.owed);
      held = search rules;
      share = search rules;
    }

pub returns-clause-none : goal.returns-clause-none
returns-clause-none c =
    let i = c.loop-unit.invariant in
    let end : c.loop-unit.unit ≡ c.args.marks = search rules in (
      i.taken,
      between_none c.args.marks (view c.loop-unit.pass).owed
          (subst (λ (n : ℕ). Each (Between n c.args.marks) (view c.loop-unit.pass).owed) end i.owed),
    )
