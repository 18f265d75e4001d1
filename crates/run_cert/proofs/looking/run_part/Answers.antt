use Rattle.std.proofs.Common.{◌≡◌, true, length, Some, sym, ap, subst, ◌∙◌, arith}
use Rattle.std.proofs.lemmas.Option.{same_Some}
use Rattle.pop_model.specs.Runs.{IsStuckList, start_of}
use Rattle.confluence_core.specs.Stretches.{GoesOn, IsReached, before_pops}
use Rattle.confluence_core.proofs.Reaching.{goes_then, unsuspected_end}
use Rattle.run_cert.proofs.looking.run_part.Goals as goal

pub returns-clause-part : goal.returns-clause-part
returns-clause-part c =
    let i = c.args.instance.now in
    let opening = c.in_ok-opening.opening in
    let reached = c.in_ok-reached.reached in
    let left = c.in_ok-reached.ensures in
    let on : GoesOn i opening reached = subst (λ x. GoesOn x opening reached) c.of-indexed.ensures left.on in
    let whole : IsReached i (start_of i) true reached =
    goes_then i (before_pops (start_of i) true) opening reached c.in_ok-opening.ensures.reached on in
    let log : c.in-Some.log ≡ whole.leads.log = same_Some _ _ (sym c.in-Some.is ∙ whole.leads.log_is) in
    let most = left.most (omega (arith, c.in_ok-opening.ensures.none)) in
    let size : length c.in-Some.log ≡ reached.pops = omega (arith, ap length log, whole.leads.pops_are) in
    record {
      run = record {
        leads = record {
          log = whole.leads.log;
          legal = whole.leads.legal;
          cursors_are = whole.leads.cursors_are;
          pops_are = omega (arith, ap length log);
          log_is = ap Some log;
        };
        seen = record {
          look = c.look_of-look.ensures;
          stuck_list = subst (λ x. IsStuckList x reached.cursors c.in_ok-reached.stuck) c.of-indexed.ensures
              left.stuck_list;
        };
      };
      most = omega (arith, most, size);
      fewer = λ few still.
          let none = left.end (omega (arith, few, size)) in
          let end = unsuspected_end i reached.cursors reached.suspects none whole.can.suspects in
          let (e, is, poppable) = c.look_of-look.ensures.open_is.0 still in
          end e is poppable;
    }
