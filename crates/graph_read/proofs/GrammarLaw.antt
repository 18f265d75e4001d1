-- A text has no refusal exactly where it is in the grammar, and then its graph is the one of the grammar. One way, each
-- part of the refusal is none: so the header declares the vertices, and each line behind it gives an edge of them. The
-- other way, lines that spell edges within the limits have no fault, and give just these edges.
use Rattle.std.proofs.Common.{◌≡◌, ℕ, ◌+◌, ◌^◌, ◌≤◌, false, cond, nat_lt, List, [], ◌∷◌, length, Option, None, Some, refl, sym, ap, ap₂, ◌∙◌, subst, arith}
use Rattle.std.specs.Option.{option_map_or}
use Rattle.std.specs.Prelude.{All}
use Rattle.std.proofs.lemmas.Bool.{ltb-false, le-ltb}
use Rattle.pop_edge.specs.Lines.{lines_of, text_limit}
use Rattle.pop_edge.specs.Refusals.{or_else, at_line}
use Rattle.pop_edge.specs.Refusals.Fault.{Code, Passes}
use Rattle.pop_edge.proofs.RefusalsLemmas.{or_else_none, at_line_none, chosen_none}
use Rattle.pop_edge.proofs.AcceptedTexts.{accepted, not_refused}
use Rattle.graph_read.specs.Graphs.{GraphOf, IsEdge}
use Rattle.graph_read.specs.GraphText.{graph, declared, vertices_in, header_fault, line_refusal, graph_lines, graph_in, whole_refusal, graph_refusal, graph_of}
use Rattle.graph_read.specs.Grammar.{IsGraphText}
use Rattle.graph_read.specs.Laws.{AcceptsExactly, HasOneGraph}
use Rattle.graph_read.proofs.EdgeLines.{edges_are, lines_give}

-- what a header without a fault declares
record Declares (words : List (List ℕ)) : Type 0 where
  is : declared words ≡ Some (vertices_in words)
  fit : vertices_in words ≤ 2 ^ 22

-- a header without a fault declares how many vertices there are, and they fit
declares : (words : List (List ℕ)) → header_fault words ≡ None → Declares words
declares words h = by (declared words) refl h
  where
    by : (d : Option ℕ) → declared words ≡ d
        → option_map_or (λ n. cond (nat_lt (2 ^ 22) n) (Some (Passes 2)) None) d (Some (Code 11)) ≡ None
        → Declares words
    by None e h = absurd (cc)
    by (Some n) e h =
        let is : vertices_in words ≡ n = ap (λ o. option_map_or (λ m. m) o 0) e in
        record {
          is = e ∙ ap (λ m. Some m) (sym is);
          fit = omega (arith, is, ltb-false (2 ^ 22) n (chosen_none (nat_lt (2 ^ 22) n) (Passes 2) h));
        }

-- a header that declares so many as fit has no fault
no_header_fault : (words : List (List ℕ)) (n : ℕ) → declared words ≡ Some n → n ≤ 2 ^ 22 → header_fault words ≡ None
no_header_fault words n e fit =
    let small : nat_lt (2 ^ 22) n ≡ false = le-ltb (2 ^ 22) n fit in
    ap (λ d. option_map_or (λ m. cond (nat_lt (2 ^ 22) m) (Some (Passes 2)) None) d (Some (Code 11))) e
    ∙ ap (λ b. cond b (Some (Passes 2)) None) small

-- A text without a refusal is in the grammar.
pub sound : (text : List ℕ) → graph_refusal text ≡ None → IsGraphText text (graph_of text)
sound text h =
    let a = accepted graph text h in by a.short (graph_lines (lines_of text)) refl a.lines a.whole
  where
    by : length text ≤ text_limit → (ls : List (ℕ × List (List ℕ))) → graph_lines (lines_of text) ≡ ls
        → line_refusal ls ≡ None → whole_refusal (length (lines_of text) + 1) ls ≡ None → IsGraphText text (graph_in ls)
    by short [] e a b = absurd (cc)
    by short (header ∷ others) e a b =
        let both = or_else_none (at_line header.0 (header_fault header.1)) _ a in
        let d : Declares header.1 = declares header.1 (at_line_none header.0 (header_fault header.1) both.0) in
        let lines = edges_are (vertices_in header.1) [] others both.1 (omega arith) in
        record {
          short = short;
          header = header;
          others = others;
          lines = e;
          declares = d.is;
          edges = lines.spell;
          graph = record {
            vertices_fit = d.fit;
            edges_fit = omega (arith, lines.size, lines.fit);
            edges_join = lines.join;
          };
        }

-- A text of the grammar has no refusal, and its graph is the one that the text spells.
pub complete : (text : List ℕ) (g : GraphOf) → IsGraphText text g → (graph_refusal text ≡ None) × (g ≡ graph_of text)
complete text g t =
    let n : vertices_in t.header.1 ≡ g.vertices = ap (λ o. option_map_or (λ m. m) o 0) t.declares in
    let header : header_fault t.header.1 ≡ None =
    no_header_fault t.header.1 g.vertices t.declares t.graph.vertices_fit in
    let join : All (IsEdge (vertices_in t.header.1)) g.edges =
    subst (λ m. All (IsEdge m) g.edges) (sym n) t.graph.edges_join in
    let give = lines_give (vertices_in t.header.1) [] t.others g.edges t.edges join
    (omega (arith, t.graph.edges_fit)) in
    let lines : line_refusal (t.header ∷ t.others) ≡ None =
    ap₂ (λ a b. or_else (at_line t.header.0 a) b) header give.clean in (
      not_refused graph text (record {
        short = t.short;
        lines = ap line_refusal t.lines ∙ lines;
        whole = ap (whole_refusal (length (lines_of text) + 1)) t.lines;
      }),
      ap₂ (λ m es. let f : GraphOf = record { vertices = m; edges = es } in f) (sym n) (sym give.same)
          ∙ ap graph_in (sym t.lines),
    )

-- a text is that of one graph at most
pub one_graph : HasOneGraph
one_graph text g h a b = (complete text g a).1 ∙ sym (complete text h b).1

-- the two definitions of the grammar say the same
pub accepts_exactly : AcceptsExactly
accepts_exactly text g = (complete text g, λ none. subst (IsGraphText text) (sym none.1) (sound text none.0))
