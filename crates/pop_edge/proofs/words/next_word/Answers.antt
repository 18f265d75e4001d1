use Rattle.std.proofs.Common.{sym, ◌∙◌, arith, length, length-take, length-drop, drop, ◌-◌}
use Rattle.pop_edge.proofs.WordsLemmas.{skipped, no_words_none}
use Rattle.pop_edge.proofs.words.next_word.Goals as goal

pub front_word-requires : goal.front_word-requires
front_word-requires c = let s =
    skipped c.args.line.now c.in-Some.start (sym c.in-Some.ensures) in record { some = s.1; no_blank = s.2 }

pub returns-in-None : goal.returns-in-None
returns-in-None c = no_words_none c.args.line.now (sym c.in-None.ensures)

pub returns-in-Some : goal.returns-in-Some
returns-in-Some c =
    let s = skipped c.args.line.now c.in-Some.start (sym c.in-Some.ensures) in
    let f = c.front_word.ensures in (
      s.0 ∙ f.word,
      f.not_empty,
      omega (
        arith,
        f.shorter,
        length-take (length c.args.line.now - c.in-Some.start) (drop c.in-Some.start c.args.line.now),
        length-drop c.in-Some.start c.args.line.now,
      ),
    )
