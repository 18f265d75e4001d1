use Rattle.std.proofs.Common.{refl, subst, ◌∙◌}
use Rattle.pop_model.specs.Instances.{Instance}
use Rattle.pop_model.specs.Popping.{AreValuesAt}
use Rattle.confluence_core.specs.Stretches.{IsTold}
use Rattle.confluence_core.proofs.Reaching.{gone_run, told_on}
use Rattle.confluence_core.proofs.indexed.Indexed.run.Goals as goal

pub returns : goal.returns
returns c =
    let i = c.args.self.now in
    let so_far = c.args.reached in
    let left = c.in_ok-left.left in
    let gone = c.in_ok-left.ensures in
    let told : IsTold i left c.told.result = rw c.told.ensures (record {
      are = refl;
      stuck_list = gone.end.stuck_list;
      values = subst (λ (x : Instance). AreValuesAt x.stacks left.cursors c.in_ok-values.values) c.self.view_is
          c.in_ok-values.ensures.values;
    }) in
    record {
      on = told_on i so_far left c.told.result gone.on gone.end.none told;
      run = λ start keeps is. gone_run i start keeps so_far left c.told.result is gone.on gone.end.none told;
      reader = c.at.ensures.reader ∙ c.finish.ensures.reader;
    }
