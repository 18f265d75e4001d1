use Rattle.std.proofs.Common.{sym}
use Rattle.pop_edge.proofs.WordsLemmas.{front_some, front_none}
use Rattle.pop_edge.proofs.words.front_word.Goals as goal

pub returns-in-Some-clause-word : goal.returns-in-Some-clause-word
returns-in-Some-clause-word c = front_some c.args.bytes.now c.in-Some.end (sym c.in-Some.ensures) c.requires.no_blank

pub returns-in-None-clause-word : goal.returns-in-None-clause-word
returns-in-None-clause-word c = front_none c.args.bytes.now (sym c.in-None.ensures) c.requires.some
