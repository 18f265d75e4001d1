-- Texts that say the same: but for lines that are passed over, as comments and empty lines are, their
-- lines have the same words. Blanks between words, and carriage returns before line ends, are no part
-- of a word.
use Rattle.std.specs.Prelude.{◌≡◌, ◌≤◌, ℕ, not, List, length, map}
use Rattle.std.specs.List.{filter}
use Rattle.pop_edge.specs.Lines.{lines_of, text_limit}
use Rattle.pop_edge.specs.Words.{words_of}
use Rattle.pop_edge.specs.Judging.{Judgement}
use Rattle.dimacs_read.specs.CnfText.{cnf}
use Rattle.graph_read.specs.GraphText.{graph}
use Rattle.answer_laws.specs.SameReading.{IsReadAs}

-- the words of the lines that a grammar doesn't pass over
abbrev pub said_lines : Judgement → List ℕ → List (List (List ℕ))
said_lines j text = filter (λ words. not (j.passes_over words)) (map words_of (lines_of text))

-- the texts say the same, as formulas and as graphs, and the other isn't too long
pub record SayTheSame (text other : List ℕ) : Type 0 where
  pub short : length other ≤ text_limit
  pub formula : said_lines cnf text ≡ said_lines cnf other
  pub graph_lines : said_lines graph text ≡ said_lines graph other

-- So what the one text is read as, the other is read as too.
abbrev pub SameLines : Type 0
SameLines = (text other : List ℕ) → SayTheSame text other → IsReadAs text other
