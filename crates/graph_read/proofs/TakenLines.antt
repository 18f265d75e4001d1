-- A line more behind the header.
-- The line is judged behind those before it, of which each gave an edge. So the edges of the graph are as many as those
-- lines, and with the edge of one line more they are those of all lines, or the line is refused as all lines are.
use Rattle.std.proofs.Common.{◌≡◌, inl, inr, ℕ, false, cond, List, [], ◌∷◌, ◌++◌, length, None, Some, Result, Ok, Err, sym, ap, ap₂, ◌∙◌, subst, arith}
use Rattle.std.specs.List.{cons_option}
use Rattle.std.specs.Result.{result_ok}
use Rattle.std.proofs.lemmas.List.{length-map}
use Rattle.std.proofs.lemmas.List.Elements.{filter_map-append}
use Rattle.pop_edge.specs.declared.refusal.ReadRefusal.{ReadRefusal}
use Rattle.pop_edge.specs.Refusals.{or_else, at_line, first_refusal}
use Rattle.pop_edge.specs.Refusals.Fault.{Passes}
use Rattle.pop_edge.specs.Judging.{TakesLine, told}
use Rattle.pop_edge.proofs.RefusalsLemmas.{items, first_refusal-append, or_else-nothing, or_else_none}
use Rattle.graph_read.specs.declared.reader.Reader.{Reader}
use Rattle.graph_read.specs.Graphs.{GraphOf}
use Rattle.graph_read.specs.GraphText.{graph, is_passed_over, header_fault, vertices_in, edge_in, fault_of, edge_fault, edges_in, line_refusal, graph_in}
use Rattle.graph_read.specs.Reading.{AddsLine, Knows}
use Rattle.graph_read.proofs.EdgeLines.{AreEdgeLines, edges_are}

-- lines by their words, each under its number
abbrev Lines : Type 0
Lines = List (ℕ × List (List ℕ))

-- any other line is told
told_line : (lines : Lines) (number : ℕ) (words : List (List ℕ)) → is_passed_over words ≡ false
    → lines ++ told graph number words ≡ lines ++ (number, words) ∷ []
told_line lines number words h = ap (λ b. lines ++ cond b [] ((number, words) ∷ [])) h

-- the refusal among the lines, with one more
refusal_more : (header x : ℕ × List (List ℕ)) (others : Lines) → line_refusal (header ∷ others) ≡ None
    → line_refusal (header ∷ others ++ x ∷ [])
    ≡ at_line x.0 (edge_fault (vertices_in header.1) (items others) x.1)
refusal_more header x others clean =
    let fault = edge_fault (vertices_in header.1) in
    let both = or_else_none (at_line header.0 (header_fault header.1)) (first_refusal fault [] others) clean in
    ap (λ r. or_else r (first_refusal fault [] (others ++ x ∷ []))) both.0
    ∙ first_refusal-append fault [] others (x ∷ [])
    ∙ ap (λ r. or_else r (first_refusal fault (items others) (x ∷ []))) both.1
    ∙ or_else-nothing (at_line x.0 (fault (items others) x.1))

-- the edge of a line is known with the others, or the line is refused
pub takes_edge : (a b : Reader) (lines : Lines) (number : ℕ) (words : List (List ℕ)) (g h : GraphOf)
    (result : Result (Unit {0}) ReadRefusal) → Knows a lines → a.graph ≡ Some g → is_passed_over words ≡ false
    → AddsLine g h number words result → b.graph ≡ Some h → TakesLine graph (Knows b) (lines ++ told graph number words) result
takes_edge a b [] number words g h result k some counts adds is = absurd (let e = sym k.graph ∙ some in cc)
takes_edge a b (header ∷ others) number words g h result k some counts adds is =
    subst (λ ls. TakesLine graph (Knows b) ls result) (sym (told_line (header ∷ others) number words counts)) (by result adds)
  where
    n : ℕ
    n = vertices_in header.1

    same : g ≡ graph_in (header ∷ others)
    same = let e : Some g ≡ Some (graph_in (header ∷ others)) = sym some ∙ k.graph in cc

    lines_are : AreEdgeLines (vertices_in header.1) 0 others
    lines_are =
        edges_are (vertices_in header.1) [] others
        (or_else_none (at_line header.0 (header_fault header.1)) _ k.clean).1 (omega arith)

    size : length (items others) ≡ length g.edges
    size = length-map others (λ x. x.1) ∙ sym lines_are.size ∙ ap (λ f. length f.edges) (sym same)

    refusal : line_refusal (header ∷ others ++ (number, words) ∷ [])
        ≡ at_line number (fault_of (edge_in g.vertices words) (length g.edges))
    refusal = refusal_more header (number, words) others k.clean
        ∙ ap₂ (λ m s. at_line number (fault_of (edge_in m words) s)) (ap (λ f. f.vertices) (sym same)) size

    by : (r : Result (Unit {0}) ReadRefusal) → AddsLine g h number words r
        → TakesLine graph (Knows b) (header ∷ others ++ (number, words) ∷ []) r
    by (Err e) adds = elim adds [ inl memory ↦ inl memory | inr bad ↦ inr (refusal ∙ bad) ]
    by (Ok u) adds =
        let here : edge_in (vertices_in header.1) words ≡ Ok adds.edge =
        ap (λ f. edge_in f.vertices words) (sym same) ∙ adds.spelled in
        let edges : edges_in (vertices_in header.1) (others ++ (number, words) ∷ []) ≡ g.edges ++ adds.edge ∷ [] =
        filter_map-append (λ line. result_ok (edge_in (vertices_in header.1) line.1)) others ((number, words) ∷ [])
        ∙ ap₂ (λ xs r. xs ++ cons_option (result_ok r) []) (ap (λ f. f.edges) (sym same)) here in
        let none : fault_of (edge_in g.vertices words) (length g.edges) ≡ None =
        ap (λ r. fault_of r (length g.edges)) adds.spelled ∙ ap (λ t. cond t None (Some (Passes 5))) adds.room in
        record {
          graph = is ∙ ap (λ f. Some f) (adds.added
              ∙ ap₂ (λ m es. let f : GraphOf = record { vertices = m; edges = es } in f) (ap (λ f. f.vertices) same)
              (sym edges));
          clean = refusal ∙ ap (at_line number) none;
        }
