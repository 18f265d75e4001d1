-- A text is accepted by the words of its lines, whatever the numbers of these lines are. So texts that say the same are
-- texts of the same formula, or of the same graph.
use Rattle.std.proofs.Common.{◌≡◌, ◌≤◌, ℕ, suc, ◌+◌, Bool, true, false, not, cond, List, [], ◌∷◌, ◌++◌, length, map, take, filter, Option, refl, sym, ap, ap₂, subst, ◌∙◌, ◌^◌, arith}
use Rattle.std.specs.Prelude.{count_by}
use Rattle.std.specs.List.{AllZip, enumerate_from, flat_map, prefix_len, take_while}
use Rattle.std.proofs.lemmas.List.{map-append}
use Rattle.pop_edge.specs.Lines.{lines_of, text_limit}
use Rattle.pop_edge.specs.Words.{begins_with, words_of}
use Rattle.pop_edge.specs.Judging.{Judgement}
use Rattle.dimacs_read.specs.declared.token.Token.{Token}
use Rattle.dimacs_read.specs.Cnf.{Cnf}
use Rattle.dimacs_read.specs.CnfText.{body, clauses_of, cnf, cnf_lines, declared}
use Rattle.dimacs_read.specs.Grammar.{AreTokens, IsCnfText}
use Rattle.dimacs_read.specs.Tokens.{is_literal, token_of}
use Rattle.dimacs_read.proofs.GrammarLaw as formulas
use Rattle.graph_read.specs.declared.edge.Edge.{Edge}
use Rattle.graph_read.specs.Graphs.{GraphOf}
use Rattle.graph_read.specs.Grammar.{IsGraphText, SpellsEdge}
use Rattle.graph_read.specs.GraphText.{declared as declared_vertices, graph, graph_lines}
use Rattle.graph_read.proofs.GrammarLaw as graphs
use Rattle.answer_laws.specs.SameLines.{SameLines, said_lines}

-- lines by their words, each under its number
abbrev Told : Type 0
Told = List (ℕ × List (List ℕ))

-- without their numbers
abbrev words_in : Told → List (List (List ℕ))
words_in lines = map (λ (line : ℕ × List (List ℕ)). line.1) lines

-- the lines that aren't passed over say what the text says
told_words : (j : Judgement) (n : ℕ) (lines : List (List ℕ))
    → words_in (filter (λ (line : ℕ × List (List ℕ)). not (j.passes_over line.1))
    (map (λ (line : ℕ × List ℕ). (line.0, words_of line.1)) (enumerate_from n lines)))
    ≡ filter (λ words. not (j.passes_over words)) (map words_of lines)
told_words j n [] = refl
told_words j n (line ∷ lines) = by (j.passes_over (words_of line)) (told_words j (n + 1) lines)
  where
    rest : Told
    rest = filter (λ (l : ℕ × List (List ℕ)). not (j.passes_over l.1))
        (map (λ (l : ℕ × List ℕ). (l.0, words_of l.1)) (enumerate_from (n + 1) lines))

    said : List (List (List ℕ))
    said = filter (λ words. not (j.passes_over words)) (map words_of lines)

    by : (passed : Bool) → words_in rest ≡ said
        → words_in (cond (not passed) ((n, words_of line) ∷ rest) rest) ≡ cond (not passed) (words_of line ∷ said) said
    by true later = later
    by false later = ap (λ (ws : List (List (List ℕ))). words_of line ∷ ws) later

-- a line that says these words, and behind it lines that say the others
record Parts (first : List (List ℕ)) (others : List (List (List ℕ))) (lines : Told) : Type 0 where
  head : ℕ × List (List ℕ)
  tail : Told
  lines_are : lines ≡ head ∷ tail
  head_says : head.1 ≡ first
  tail_says : words_in tail ≡ others

-- lines that say something have such parts
parts : (first : List (List ℕ)) (others : List (List (List ℕ))) (lines : Told) → words_in lines ≡ first ∷ others
    → Parts first others lines
parts first others [] same = absurd (cc)
parts first others (line ∷ lines) same =
    record { head = line; tail = lines; lines_are = refl; head_says = cc; tail_says = cc }

-- ---- formulas

-- the words behind the header, up to a line that begins with `%`
abbrev tokens_of : List (List (List ℕ)) → List (Option Token)
tokens_of lines = flat_map (λ words. map token_of words) (take_while (λ words. not (begins_with 37 words)) lines)

-- without the numbers of their lines
abbrev tokens_in : List (ℕ × Option Token) → List (Option Token)
tokens_in tokens = map (λ (token : ℕ × Option Token). token.1) tokens

-- one element more is taken
take_next : {X : Type 0} (n : ℕ) (x : X) (xs : List X) → take (1 + n) (x ∷ xs) ≡ x ∷ take n xs
take_next n x xs = let next : 1 + n ≡ suc n = omega arith in ap (λ m. take m (x ∷ xs)) next

-- the words of a line
line_tokens : (n : ℕ) (words : List (List ℕ)) → tokens_in (map (λ word. (n, token_of word)) words) ≡ map token_of words
line_tokens n [] = refl
line_tokens n (word ∷ words) = ap (λ (tokens : List (Option Token)). token_of word ∷ tokens) (line_tokens n words)

-- so the words behind a header hang on what the lines say
body_tokens : (lines : Told) → tokens_in (body lines) ≡ tokens_of (words_in lines)
body_tokens [] = refl
body_tokens (line ∷ lines) = by (begins_with 37 line.1) (body_tokens lines)
  where
    spoken : Told → List (ℕ × Option Token)
    spoken ls = flat_map (λ (l : ℕ × List (List ℕ)). map (λ word. (l.0, token_of word)) l.1) ls

    of_words : List (List (List ℕ)) → List (Option Token)
    of_words ls = flat_map (λ words. map token_of words) ls

    n : ℕ
    n = prefix_len (λ (l : ℕ × List (List ℕ)). not (begins_with 37 l.1)) lines

    m : ℕ
    m = prefix_len (λ words. not (begins_with 37 words)) (words_in lines)

    by : (ends : Bool) → tokens_in (body lines) ≡ tokens_of (words_in lines)
        → tokens_in (spoken (take (cond (not ends) (1 + n) 0) (line ∷ lines)))
        ≡ of_words (take (cond (not ends) (1 + m) 0) (line.1 ∷ words_in lines))
    by true later = refl
    by false later =
        ap (λ ls. tokens_in (spoken ls)) (take_next n line lines)
        ∙ map-append (λ (token : ℕ × Option Token). token.1) (map (λ word. (line.0, token_of word)) line.1)
        (spoken (take n lines))
        ∙ ap₂ (λ (xs ys : List (Option Token)). xs ++ ys) (line_tokens line.0 line.1) later
        ∙ sym (ap of_words (take_next m line.1 (words_in lines)))

-- the other text is that of the formula too
formula_too : (text other : List ℕ) → length other ≤ text_limit → said_lines cnf text ≡ said_lines cnf other → (f : Cnf)
    → IsCnfText text f → IsCnfText other f
formula_too text other short same f is =
    let says : words_in (cnf_lines (lines_of other)) ≡ is.header.1 ∷ words_in is.others =
    told_words cnf 1 (lines_of other) ∙ sym same ∙ sym (told_words cnf 1 (lines_of text)) ∙ ap words_in is.lines in
    let p = parts is.header.1 (words_in is.others) (cnf_lines (lines_of other)) says in
    let tokens : tokens_in (body is.others) ≡ tokens_in (body p.tail) =
    body_tokens is.others ∙ ap tokens_of (sym p.tail_says) ∙ sym (body_tokens p.tail) in
    record {
      short = short;
      header = p.head;
      others = p.tail;
      lines = p.lines_are;
      declares = ap declared p.head_says ∙ is.declares;
      four_words = subst (λ (words : List (List ℕ)). length words ≤ 4) (sym p.head_says) is.four_words;
      variables_fit = is.variables_fit;
      clauses_fit = is.clauses_fit;
      words = subst (AreTokens f.variables) tokens is.words;
      literals_fit = subst (λ (ts : List (Option Token)). count_by is_literal ts ≤ 2 ^ 25) tokens is.literals_fit;
      clauses = is.clauses ∙ ap clauses_of tokens;
    }

-- ---- graphs

-- lines that say the same spell the same edges
spelled_too : (lines others : Told) (edges : List Edge) → words_in others ≡ words_in lines
    → AllZip (λ (line : ℕ × List (List ℕ)) edge. SpellsEdge line.1 edge) lines edges
    → AllZip (λ (line : ℕ × List (List ℕ)) edge. SpellsEdge line.1 edge) others edges
spelled_too [] [] edges same spell = spell
spelled_too [] (other ∷ others) edges same spell = absurd (cc)
spelled_too (line ∷ lines) [] edges same spell = absurd (cc)
spelled_too (line ∷ lines) (other ∷ others) [] same spell = absurd spell
spelled_too (line ∷ lines) (other ∷ others) (edge ∷ edges) same spell =
    let first : line.1 ≡ other.1 = cc in
    let later : words_in others ≡ words_in lines = cc in
    (subst (λ words. SpellsEdge words edge) first spell.0, spelled_too lines others edges later spell.1)

-- the other text is that of the graph too
graph_too : (text other : List ℕ) → length other ≤ text_limit → said_lines graph text ≡ said_lines graph other
    → (g : GraphOf) → IsGraphText text g → IsGraphText other g
graph_too text other short same g is =
    let says : words_in (graph_lines (lines_of other)) ≡ is.header.1 ∷ words_in is.others =
    told_words graph 1 (lines_of other) ∙ sym same ∙ sym (told_words graph 1 (lines_of text)) ∙ ap words_in is.lines in
    let p = parts is.header.1 (words_in is.others) (graph_lines (lines_of other)) says in
    record {
      short = short;
      header = p.head;
      others = p.tail;
      lines = p.lines_are;
      declares = ap declared_vertices p.head_says ∙ is.declares;
      edges = spelled_too is.others p.tail g.edges p.tail_says is.edges;
      graph = is.graph;
    }

-- the law
pub same_lines : SameLines
same_lines text other same = record {
  formulas = λ f (none, is, some).
      let theirs = formulas.accepts_exactly other f in
      let mine = formulas.accepts_exactly text f in
      let (none', is') = theirs.0 (formula_too text other same.short same.formula f (mine.1 (none, is))) in
      (none', is', some);
  graphs = λ g spelled.
      (graphs.accepts_exactly other g).0
      (graph_too text other same.short same.graph_lines g ((graphs.accepts_exactly text g).1 spelled));
}
