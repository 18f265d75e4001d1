use Rattle.std.proofs.Common.{◌∙◌, ap, sym, replicate, List, ℕ, [], ◌∷◌}
use Rattle.pop_stacks.proofs.WeightsBySums.{pairs_again}
use Rattle.pop_stacks.proofs.sums.Sums.of.Goals as goal

pub returns-in-None-clause-made : goal.returns-in-None-clause-made
returns-in-None-clause-made c =
    let row : List ℕ = 1 ∷ 1 ∷ [] in
    pairs_again c.count-count.result ∙ ap (λ n. replicate n row) c.count-count.ensures.count
    ∙ sym c.in-None.ensures.rows
