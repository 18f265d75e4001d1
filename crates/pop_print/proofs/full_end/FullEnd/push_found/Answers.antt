use Rattle.std.proofs.Common.{◌++◌, All, sym, subst, ap, ◌∙◌, arith}
use Rattle.std.proofs.lemmas.Result.{on_ok_weaker}
use Rattle.pop_print.specs.Stuck.{HasNames}
use Rattle.pop_print.specs.Output.{stuck_lines}
use Rattle.pop_print.proofs.OutputLemmas.{found_some}
use Rattle.pop_print.proofs.full_end.FullEnd.push_found.Goals as goal

pub push_stuck-requires : goal.push_stuck-requires
push_stuck-requires c =
    subst (λ family. All (HasNames family) c.args.self.now.end.now.stuck) (sym c.family.ensures) c.requires.end.named

pub returns-in_ok-push-2 : goal.returns-in_ok-push-2
returns-in_ok-push-2 c =
    on_ok_weaker c.push_stuck.result
    (λ pushed. found_some c.args.self.now.facts.now c.args.self.now.instance.now.family c.args.self.now.end.now.values c.args.self.now.end.now.stuck
    c.args.out.now c.push-else-len-eq0.new.self c.push_stuck.new.out (omega arith) c.in_ok-push-2.ensures
    (pushed
    ∙ ap (λ f. c.push-else-len-eq0.new.self ++ stuck_lines c.args.self.now.facts.now f c.args.self.now.end.now.stuck) c.family.ensures))
    c.push_stuck.ensures
