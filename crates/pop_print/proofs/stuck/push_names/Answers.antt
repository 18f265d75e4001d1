use Rattle.std.proofs.Common.{ℕ, List, ◌∷◌, decimal, ◌∙◌, arith}
use Rattle.pop_text.proofs.PrintedMembers.{member_more}
use Rattle.pop_print.proofs.NamedCubes.{name_words, length-name_words, name_word_at}
use Rattle.pop_print.proofs.stuck.push_names.Goals as goal

pub loop-i-preserved : goal.loop-i-preserved
loop-i-preserved c =
    let words = name_words c.args.facts.now c.args.cube.now in
    let size = length-name_words c.args.facts.now c.args.cube.now in
    let spaces : List ℕ → List ℕ = λ word. 32 ∷ word in
    member_more spaces words c.loop-i.i (decimal c.from.result) c.args.out.now c.loop-i.out c.push_spaced.new.self
    (omega arith)
    (name_word_at c.args.facts.now c.args.cube.now c.loop-i.i c.pair-v.result.0 c.pair-v.result.1 c.from.result
    (decimal c.from.result) (omega arith) c.pair-v.ensures (c.from.ensures ∙ c.name.ensures))
    c.loop-i.invariant c.in_ok-push_spaced.ensures
