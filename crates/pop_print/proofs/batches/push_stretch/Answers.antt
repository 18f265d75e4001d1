use Rattle.std.proofs.Common.{◌≡◌, ◌++◌, ◌+◌, ◌-◌, ◌≤◌, ℕ, List, [], length, take, flat_map, Vec, Global, ap, ◌∙◌, append_assoc, arith}
use Rattle.std.specs.List.{enumerate_from}
use Rattle.std.proofs.lemmas.List.FromFn.{length-enumerate_from}
use Rattle.std.proofs.lemmas.Result.{on_ok_weaker}
use Rattle.confluence_core.specs.declared.end.End.{End}
use Rattle.pop_print.specs.Batches.{numbered_text}
use Rattle.pop_print.proofs.Stretches.{behind}
use Rattle.pop_print.proofs.batches.push_stretch.Goals as goal

pub returns : goal.returns
returns g c =
    let all = enumerate_from 0 c.args.ends.now in
    let size = length-enumerate_from 0 c.args.ends.now in
    let from = c.args.from in
    let n = c.args.to - from in
    let print : ℕ × End → List ℕ = numbered_text c.args.facts.now c.args.instance.now in
    let items : Vec ℕ Global → List ℕ = λ text. text.items in
    let nothing : ℕ × End = (0, record { cursors = []; pops = 0; stuck = []; values = [] }) in
    let whole : from + n ≡ c.args.to = omega (arith, c.requires.order) in
    let long : from + n ≤ length all = omega (arith, whole, size, c.requires.known) in
    let texts = c.in_ok-texts.texts.items in
    let front = flat_map print (take from all) in
    let told : front ++ flat_map items texts ≡ flat_map print (take (from + n) all) =
    behind print items nothing all from n texts long c.in_ok-texts.ensures in
    on_ok_weaker c.push_each.result (λ pushed before printed.
    pushed ∙ ap (λ o. o ++ flat_map items c.deref.result.now) printed
    ∙ append_assoc before front (flat_map items c.deref.result.now)
    ∙ ap (λ l. before ++ (front ++ flat_map items l)) c.deref.ensures.value
    ∙ ap (λ l. before ++ l) (told ∙ ap (λ k. flat_map print (take k all)) whole)) c.push_each.ensures
