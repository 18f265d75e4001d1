use Rattle.std.proofs.Common.{◌∷◌, drop, ap, ◌∙◌}
use Rattle.pop_edge.specs.Words.{words_of}
use Rattle.pop_edge.proofs.WordsLemmas.{with_head}
use Rattle.dimacs_read.proofs.header.first_byte.Goals as goal

pub returns-in-Some : goal.returns-in-Some
returns-in-Some c =
    let e = c.in-Some.ensures in (
      drop 1 c.in-Some.word.now,
      words_of c.in-Some._rest.now,
      e.0 ∙ ap (λ w. w ∷ words_of c.in-Some._rest.now) (with_head c.in-Some.word.now e.1),
    )
