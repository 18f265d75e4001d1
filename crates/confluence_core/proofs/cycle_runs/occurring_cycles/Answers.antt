use Rattle.std.proofs.Common.{◌≡◌, length, refl, sym, ap, ◌∙◌, arith}
use Rattle.pop_model.specs.Stacks.{StackTable, variables_of}
use Rattle.confluence_core.specs.CycleTables.{CycleTable}
use Rattle.confluence_core.proofs.EventVariables.{pops_fit}
use Rattle.confluence_core.proofs.Runnings.{runs_nowhere}
use Rattle.confluence_core.proofs.cycle_runs.occurring_cycles.Goals as goal

pub left_by_walks-requires-clause-cursors : goal.left_by_walks-requires-clause-cursors
left_by_walks-requires-clause-cursors c =
    rw c.of-current.ensures (rw c.in_ok-copy.ensures (record {
      count = sym c.requires.count ∙ sym c.requires.fits.0;
      within = c.requires.within;
    }))

pub left_by_walks-requires-clause-room : goal.left_by_walks-requires-clause-room
left_by_walks-requires-clause-room c =
    let stacks : StackTable = c.of-current.result.stacks in
    let same : stacks ≡ c.args.stacks.now = ap (λ (t : CycleTable). t.stacks) c.of-current.ensures in
    let fits = pops_fit stacks c.in_ok-copy.copy c.count-count.ensures.instance.table
    (ap variables_of same ∙ c.requires.count ∙ sym (ap length c.in_ok-copy.ensures)) in
    omega (arith, fits)

pub returns-clause-stuck_list : goal.returns-clause-stuck_list
returns-clause-stuck_list c =
    let same = runs_nowhere c.in_ok-left.ensures.runs refl refl ∙ c.in_ok-copy.ensures in
    rw same at (rw c.of-current.ensures at c.in_ok-left.ensures.stuck_list)
