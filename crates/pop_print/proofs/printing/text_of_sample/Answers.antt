use Rattle.std.proofs.Common.{◌++◌, List, All, codes, ap, sym, subst, ◌∙◌, arith}
use Rattle.pop_model.specs.Families.{Event}
use Rattle.pop_print.specs.Stuck.{HasNames}
use Rattle.pop_print.proofs.EndLemmas.{values_count}
use Rattle.pop_print.proofs.OutputLemmas.{sample_told}
use Rattle.pop_print.proofs.printing.text_of_sample.Goals as goal

pub push_sample-requires-clause-end : goal.push_sample-requires-clause-end
push_sample-requires-clause-end c =
    let end = c.args.end.now in
    let at = c.requires.end in
    record {
      count = at.count;
      values = values_count c.args.of.value end.cursors end.stuck end.values at;
      within = λ v below. at.values.within v below;
      named = subst (λ (events : List Event). All (HasNames c.args.of.value.family) events) (sym c.requires.sample)
          (λ k d below. absurd (omega arith));
    }

pub returns : goal.returns
returns c =
    let end = c.args.end.now in
    c.into_bytes.ensures
    ∙ sample_told c.args.facts.now c.args.of.value end.cursors end.pops end.stuck end.values
    c.push.new.self c.push_sample.new.out c.push_used.new.out c.push_line.new.out
    c.requires.full c.requires.sample c.requires.end.values.are
    (c.in_ok-push.ensures ∙ ap (λ o. o ++ codes "s SAMPLE\n") c.in_ok-out.ensures)
    (c.in_ok-push_sample.ensures) (c.in_ok-push_used.ensures) (c.in_ok-push_line.ensures)
