use Rattle.std.proofs.Common.{ap, refl, ◌∙◌, arith}
use Rattle.std.specs.List.{range_with_len}
use Rattle.confluence_core.proofs.Suspects.{all_known, all_miss_none}
use Rattle.pop_model.specs.Families.{units_of}
use Rattle.pop_log.proofs.reading.read_run.Goals as goal

-- the cursors at the end of the text are those that its log leaves
pub returns-in-Ok-clause-reached : goal.returns-in-Ok-clause-reached
returns-in-Ok-clause-reached c =
    let i = c.args.instance.now in
    let read = c.in-Ok.ensures.replayed in
    let suspects = c.in_ok-suspects.suspects in
    let all = c.in_ok-suspects.ensures ∙ ap (range_with_len 0) c.units.ensures.units in
    record {
      leads = record {
        log = c.in-Ok.read.log;
        legal = read.legal;
        cursors_are = read.cursors_are;
        pops_are = omega (arith, c.len.ensures);
        log_is = refl;
      };
      can = record {
        count = read.count;
        within = read.within;
        units = all_known (units_of i.family) suspects all;
        suspects = all_miss_none i c.in-Ok.read.cursors suspects all;
      };
    }
