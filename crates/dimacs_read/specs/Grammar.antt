-- The grammar of formulas, without mentioning errors.
use Rattle.std.specs.Prelude.{◌≡◌, ℕ, ◌^◌, ◌≤◌, nat_abs, List, [], ◌∷◌, length, map, count_by, Option, None, Some, ⊤}
use Rattle.pop_edge.specs.Lines.{lines_of, text_limit}
use Rattle.dimacs_read.specs.declared.token.Token.{Token}
use Rattle.dimacs_read.specs.declared.token.Token.TheVariants.{Literal, End}
use Rattle.dimacs_read.specs.Cnf.{Cnf}
use Rattle.dimacs_read.specs.Tokens.{is_literal}
use Rattle.dimacs_read.specs.CnfText.{cnf_lines, declared, body, clauses_of}

-- the token is the end of a clause, or a literal of one of these variables
abbrev pub IsToken : ℕ → Option Token → Type 0
IsToken variables None = ⊥
IsToken variables (Some End) = ⊤
IsToken variables (Some (Literal l)) = nat_abs l ≤ variables

-- each of the tokens is the end of a clause, or a literal of one of these variables
abbrev pub AreTokens : ℕ → List (Option Token) → Type 0
AreTokens variables [] = ⊤
AreTokens variables (token ∷ tokens) = IsToken variables token × AreTokens variables tokens

-- The input is that of the formula: its header declares the formula's numbers of variables and
-- clauses, and the tokens after it are the clauses.
pub record IsCnfText (text : List ℕ) (f : Cnf) : Type 0 where
  pub short : length text ≤ text_limit
  pub header : ℕ × List (List ℕ)
  pub others : List (ℕ × List (List ℕ))
  pub lines : cnf_lines (lines_of text) ≡ header ∷ others
  pub declares : declared header.1 ≡ Some (f.variables, length f.clauses)
  pub four_words : length header.1 ≤ 4
  pub variables_fit : f.variables ≤ 2 ^ 22
  pub clauses_fit : length f.clauses ≤ 2 ^ 22
  pub words : AreTokens f.variables (map (λ word. word.1) (body others))
  pub literals_fit : count_by is_literal (map (λ word. word.1) (body others)) ≤ 2 ^ 25
  pub clauses : f.clauses ≡ clauses_of (map (λ word. word.1) (body others))
