use Rattle.std.proofs.Common.{sym, subst}
use Rattle.pop_model.specs.Stacks.{IsTable}
use Rattle.pop_stacks.specs.Tables.{sample_table}
use Rattle.pop_stacks.specs.declared.stack_spec.StackSpec.TheVariants.{Key}
use Rattle.pop_stacks.proofs.stacks.Stacks.for_sample.Goals as goal

-- counts and heights don't depend on the sample
pub invariant_of-result : goal.invariant_of-result
invariant_of-result c =
    let inside = c.self.inside in
    let key = c.in-Key.key in
    let old : IsTable (sample_table inside.sample (Key key) inside.height inside.sums) =
    subst (λ spec. IsTable (sample_table inside.sample spec inside.height inside.sums)) c.in-Key.is c.self.invariant.0 in
    let new : IsTable (sample_table c.args.j (Key key) inside.height inside.sums) =
    record { count = old.count; heights = old.heights; entries = old.entries } in
    (subst (λ sums. IsTable (sample_table c.args.j (Key key) inside.height sums)) (sym c.in_ok-sums.ensures) new, tt)
