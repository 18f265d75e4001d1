-- The edge that a line spells.
-- A line is read in steps, each of which gives a value or a fault, and the whole gives an edge exactly where each step
-- gives its value. So a line gives an edge exactly where its words are `e`, the two ends and perhaps the weight, and
-- these are within their bounds. Then each line behind a header without a refusal gives its edge.
use Rattle.std.proofs.Common.{◌≡◌, ℕ, ◌+◌, ◌^◌, ◌<◌, ◌≤◌, Bool, true, false, cond, ◌&&◌, nat_lt, nat_le, nat_eq, List, [], ◌∷◌, ◌++◌, length, codes, Option, None, Some, Result, Ok, Err, refl, sym, ap, ap₂, ◌∙◌, subst, arith, length-append, bytes_eq}
use Rattle.std.specs.Option.{ok_or}
use Rattle.std.specs.List.{AllZip, cons_option}
use Rattle.std.specs.Result.{result_ok}
use Rattle.std.specs.Prelude.{All}
use Rattle.std.proofs.lemmas.Bool.{and_parts, and_from, leb-true, le-leb, eqb-false, ne_eqb, ltb-true, lt-ltb}
use Rattle.std.proofs.lemmas.Slice.Eq.{bytes_eq-Decides}
use Rattle.std.proofs.lemmas.List.Elements.{All-nil, All-cons, All-head, All-tail}
use Rattle.std.proofs.lemmas.Option.{cond_some}
use Rattle.pop_edge.specs.Numbers.{number_of}
use Rattle.pop_edge.specs.Refusals.{Fault, or_else, at_line, first_refusal}
use Rattle.pop_edge.specs.Refusals.Fault.{Code, Passes}
use Rattle.pop_edge.proofs.RefusalsLemmas.{or_else_none, at_line_none, chosen_some}
use Rattle.pop_edge.proofs.NumbersLemmas.{number_small}
use Rattle.graph_read.specs.declared.edge.Edge.{Edge}
use Rattle.graph_read.specs.Graphs.{IsVertex, IsEdge}
use Rattle.graph_read.specs.GraphText.{◌>>=◌, number_in, end_in, weight_in, edge_words, edge_in, fault_of, edge_fault, edges_in}
use Rattle.graph_read.specs.Grammar.{SpellsEdge}

-- what comes of a value is a value only where both are
pub bind_ok : {A B : Type 0} (r : Result A Fault) (f : A → Result B Fault) (y : B) → (r >>= f) ≡ Ok y
    → (x : A) × (r ≡ Ok x) × (f x ≡ Ok y)
bind_ok (Ok x) f y h = (x, refl, h)
bind_ok (Err e) f y h = absurd (cc)

-- what comes of a value
pub bind_on : {A B : Type 0} (r : Result A Fault) (f : A → Result B Fault) (x : A) → r ≡ Ok x → (r >>= f) ≡ f x
bind_on r f x e = ap (λ s. s >>= f) e

-- a value that is there, and is no fault
some_of : {A : Type 0} (o : Option A) (f : Fault) (x : A) → ok_or o f ≡ Ok x → o ≡ Some x
some_of None f x h = absurd (cc)
some_of (Some y) f x h = let e : y ≡ x = cc in ap (λ z. Some z) e

-- a value that passed its test
passed : {A : Type 0} (t : Bool) (x y : A) (f : Fault) → cond t (Ok x) (Err f) ≡ Ok y → (t ≡ true) × (x ≡ y)
passed true x y f h = (refl, cc)
passed false x y f h = absurd (cc)

-- a value that no test stopped
not_stopped : {A : Type 0} (t : Bool) (x y : A) (f : Fault) → cond t (Err f) (Ok x) ≡ Ok y → (t ≡ false) × (x ≡ y)
not_stopped true x y f h = absurd (cc)
not_stopped false x y f h = (refl, cc)

-- what was read as the end of an edge
end_is : (n : ℕ) (word : List ℕ) (u : ℕ) → end_in n word ≡ Ok u → (number_of word ≡ Some u) × IsVertex n u
end_is n word u h =
    let keep : ℕ → Result ℕ Fault = λ a. cond (nat_le 1 a && nat_le a n) (Ok a) (Err (Code 13)) in
    let s = bind_ok (number_in word) keep u h in
    let t = passed (nat_le 1 s.0 && nat_le s.0 n) s.0 u (Code 13) s.2 in
    let both = and_parts (nat_le 1 s.0) (nat_le s.0 n) t.0 in (
      some_of (number_of word) (Code 12) s.0 s.1 ∙ ap (λ a. Some a) t.1,
      subst (IsVertex n) t.1 (record { first = leb-true 1 s.0 both.0; last = leb-true s.0 n both.1 }),
    )

-- a word that is the number of a vertex is read as an end
end_of : (n : ℕ) (word : List ℕ) (u : ℕ) → number_of word ≡ Some u → IsVertex n u → end_in n word ≡ Ok u
end_of n word u h v =
    let keep : ℕ → Result ℕ Fault = λ a. cond (nat_le 1 a && nat_le a n) (Ok a) (Err (Code 13)) in
    let number : number_in word ≡ Ok u = ap (λ o. ok_or o (Code 12)) h in
    let within : (nat_le 1 u && nat_le u n) ≡ true =
    and_from (nat_le 1 u) (nat_le u n) (le-leb 1 u v.first) (le-leb u n v.last) in
    bind_on (number_in word) keep u number ∙ ap (λ b. cond b (Ok u) (Err (Code 13))) within

-- the weight that is written, or 1
abbrev pub HasWeight : Option (List ℕ) → ℕ → Type 0
HasWeight None w = w ≡ 1
HasWeight (Some word) w = number_of word ≡ Some w

-- what was read as a weight
weight_is : (word : Option (List ℕ)) (w : ℕ) → weight_in word ≡ Ok w → HasWeight word w × (1 ≤ w) × (w < 2 ^ 32)
weight_is None w h = let one : 1 ≡ w = cc in (sym one, omega arith, omega arith)
weight_is (Some word) w h =
    let keep : ℕ → Result ℕ Fault = λ a. cond (nat_eq a 0) (Err (Code 14)) (Ok a) in
    let s = bind_ok (number_in word) keep w h in
    let t = not_stopped (nat_eq s.0 0) s.0 w (Code 14) s.2 in
    let number : number_of word ≡ Some w = some_of (number_of word) (Code 12) s.0 s.1 ∙ ap (λ a. Some a) t.1 in
    let some : s.0 ≡ 0 → ⊥ = eqb-false s.0 0 t.0 in
    (number, omega (arith, some, t.1), number_small word w number)

-- a weight that is written, or 1, is read as one
weight_of : (word : Option (List ℕ)) (w : ℕ) → HasWeight word w → 1 ≤ w → weight_in word ≡ Ok w
weight_of None w h some = ap (λ a. Ok a) (sym h)
weight_of (Some word) w h some =
    let keep : ℕ → Result ℕ Fault = λ a. cond (nat_eq a 0) (Err (Code 14)) (Ok a) in
    let number : number_in word ≡ Ok w = ap (λ o. ok_or o (Code 12)) h in
    let other : nat_eq w 0 ≡ false = ne_eqb w 0 (λ e. absurd (omega (arith, e, some))) in
    bind_on (number_in word) keep w number ∙ ap (λ b. cond b (Err (Code 14)) (Ok w)) other

-- the words of an edge's line
abbrev EdgeWords : Type 0
EdgeWords = List ℕ × List ℕ × Option (List ℕ)

-- these words are those of the edge
record AreOfEdge (words : EdgeWords) (edge : Edge) : Type 0 where
  from : number_of words.0 ≡ Some edge.u
  to : number_of words.1 ≡ Some edge.v
  weight : HasWeight words.2 edge.weight

-- a line with these words spells the edge
spells : (words : List (List ℕ)) (w : EdgeWords) (edge : Edge) → edge_words words ≡ Some w → AreOfEdge w edge
    → SpellsEdge words edge
spells [] w edge h a = absurd (cc)
spells (e ∷ []) w edge h a = absurd (cc)
spells (e ∷ u ∷ []) w edge h a = absurd (cc)
spells (e ∷ u ∷ v ∷ []) w edge h a =
    let t = cond_some (bytes_eq e (codes "e")) (u, v, None) w h in
    let b : AreOfEdge (u, v, None) edge = subst (λ x. AreOfEdge x edge) (sym t.1) a in
    ((bytes_eq-Decides e (codes "e")).0 t.0, b.from, b.to, b.weight)
spells (e ∷ u ∷ v ∷ x ∷ []) w edge h a =
    let t = cond_some (bytes_eq e (codes "e")) (u, v, Some x) w h in
    let b : AreOfEdge (u, v, Some x) edge = subst (λ y. AreOfEdge y edge) (sym t.1) a in
    ((bytes_eq-Decides e (codes "e")).0 t.0, b.from, b.to, b.weight)
spells (e ∷ u ∷ v ∷ x ∷ y ∷ words) w edge h a = absurd (cc)

-- the words of a line that spells the edge
spelled : (words : List (List ℕ)) (edge : Edge) → SpellsEdge words edge
    → (w : EdgeWords) × (edge_words words ≡ Some w) × AreOfEdge w edge
spelled [] edge h = absurd h
spelled (e ∷ []) edge h = absurd h
spelled (e ∷ u ∷ []) edge h = absurd h
spelled (e ∷ u ∷ v ∷ []) edge h =
    let is : bytes_eq e (codes "e") ≡ true = (bytes_eq-Decides e (codes "e")).1 h.0 in (
      (u, v, None),
      ap (λ b. cond b (Some (u, v, None)) None) is,
      record { from = h.1; to = h.2; weight = h.3 },
    )
spelled (e ∷ u ∷ v ∷ x ∷ []) edge h =
    let is : bytes_eq e (codes "e") ≡ true = (bytes_eq-Decides e (codes "e")).1 h.0 in (
      (u, v, Some x),
      ap (λ b. cond b (Some (u, v, Some x)) None) is,
      record { from = h.1; to = h.2; weight = h.3 },
    )
spelled (e ∷ u ∷ v ∷ x ∷ y ∷ words) edge h = absurd h

-- the steps behind the words of a line, of which the last is first here
abbrev after_ends : EdgeWords → ℕ → ℕ → Result Edge Fault
after_ends words u v = weight_in words.2 >>= λ w. Ok (record { u = u; v = v; weight = w })

-- the steps behind the first end
abbrev after_from : ℕ → EdgeWords → ℕ → Result Edge Fault
after_from n words u = end_in n words.1 >>= after_ends words u

-- all steps behind the words
abbrev after_words : ℕ → EdgeWords → Result Edge Fault
after_words n words = end_in n words.0 >>= after_from n words

-- A line gives an edge where it spells the edge, whose ends are vertices, and which has a weight.
pub edge_is : (n : ℕ) (words : List (List ℕ)) (edge : Edge) → edge_in n words ≡ Ok edge
    → SpellsEdge words edge × IsEdge n edge
edge_is n words edge h =
    let w = bind_ok (ok_or (edge_words words) (Code 15)) (after_words n) edge h in
    let u = bind_ok (end_in n w.0.0) (after_from n w.0) edge w.2 in
    let v = bind_ok (end_in n w.0.1) (after_ends w.0 u.0) edge u.2 in
    let x = bind_ok (weight_in w.0.2) (λ a. Ok (record { u = u.0; v = v.0; weight = a })) edge v.2 in
    by w.0 (some_of (edge_words words) (Code 15) w.0 w.1) u.0 (end_is n w.0.0 u.0 u.1) v.0 (end_is n w.0.1 v.0 v.1)
    x.0 (weight_is w.0.2 x.0 x.1) x.2
  where
    by : (w : EdgeWords) → edge_words words ≡ Some w → (u : ℕ) → (number_of w.0 ≡ Some u) × IsVertex n u → (v : ℕ)
        → (number_of w.1 ≡ Some v) × IsVertex n v → (x : ℕ) → HasWeight w.2 x × (1 ≤ x) × (x < 2 ^ 32)
        → ◌≡◌ {A = Result Edge Fault} (Ok (record { u = u; v = v; weight = x })) (Ok edge)
        → SpellsEdge words edge × IsEdge n edge
    by w is u from v to x weight e =
        let made : Edge = record { u = u; v = v; weight = x } in
        let same : made ≡ edge = cc in
        subst (λ (a : Edge). SpellsEdge words a × IsEdge n a) same (
          spells words w made is (record { from = from.0; to = to.0; weight = weight.0 }),
          record { from = from.1; to = to.1; some = weight.1; small = weight.2 },
        )

-- A line that spells an edge gives it.
pub edge_of : (n : ℕ) (words : List (List ℕ)) (edge : Edge) → SpellsEdge words edge → IsEdge n edge
    → edge_in n words ≡ Ok edge
edge_of n words edge h is =
    let w = spelled words edge h in
    let a : AreOfEdge w.0 edge = w.2 in
    bind_on (ok_or (edge_words words) (Code 15)) (after_words n) w.0 (ap (λ o. ok_or o (Code 15)) w.1)
    ∙ bind_on (end_in n w.0.0) (after_from n w.0) edge.u (end_of n w.0.0 edge.u a.from is.from)
    ∙ bind_on (end_in n w.0.1) (after_ends w.0 edge.u) edge.v (end_of n w.0.1 edge.v a.to is.to)
    ∙ bind_on (weight_in w.0.2) (λ x. Ok (record { u = edge.u; v = edge.v; weight = x })) edge.weight
    (weight_of w.0.2 edge.weight a.weight is.some)

-- a line without a fault gives an edge, and there is room for it
pub no_fault_is : (r : Result Edge Fault) (edges : ℕ) → fault_of r edges ≡ None
    → (edge : Edge) × (r ≡ Ok edge) × (nat_lt edges (2 ^ 23) ≡ true)
no_fault_is (Err f) edges h = absurd (cc)
no_fault_is (Ok edge) edges h = (edge, refl, (chosen_some (nat_lt edges (2 ^ 23)) None (Passes 5) h).0)

-- what holds of lines behind so many others in a graph of n vertices, where each gives an edge
pub record AreEdgeLines (n before : ℕ) (lines : List (ℕ × List (List ℕ))) : Type 0 where
  pub spell : AllZip (λ line edge. SpellsEdge line.1 edge) lines (edges_in n lines)
  pub join : All (IsEdge n) (edges_in n lines)
  pub size : length (edges_in n lines) ≡ length lines
  pub fit : before + length lines ≤ 2 ^ 23

-- lines without a refusal give each an edge
pub edges_are : (n : ℕ) (before : List (List (List ℕ))) (lines : List (ℕ × List (List ℕ)))
    → first_refusal (edge_fault n) before lines ≡ None → length before ≤ 2 ^ 23 → AreEdgeLines n (length before) lines
edges_are n before [] h k =
    record { spell = tt; join = All-nil (IsEdge n); size = refl; fit = omega (arith, k) }
edges_are n before (line ∷ lines) h k =
    let both = or_else_none (at_line line.0 (edge_fault n before line.1)) _ h in
    let here = no_fault_is (edge_in n line.1) (length before) (at_line_none line.0 _ both.0) in
    let is = edge_is n line.1 here.0 here.1 in
    let room : length before < 2 ^ 23 = ltb-true (length before) (2 ^ 23) here.2 in
    let more : length (before ++ line.1 ∷ []) ≡ length before + 1 = length-append before (line.1 ∷ []) in
    let rest = edges_are n (before ++ line.1 ∷ []) lines both.1 (omega (arith, more, room)) in
    let all : edges_in n (line ∷ lines) ≡ here.0 ∷ edges_in n lines =
    ap (λ r. cons_option (result_ok r) (edges_in n lines)) here.1 in
    record {
      spell = subst (λ (es : List Edge). AllZip (λ l edge. SpellsEdge l.1 edge) (line ∷ lines) es) (sym all)
          (is.0, rest.spell);
      join = subst (All (IsEdge n)) (sym all) (All-cons (IsEdge n) here.0 (edges_in n lines) is.1 rest.join);
      size = omega (arith, ap length all, rest.size);
      fit = omega (arith, rest.fit, more);
    }

-- what lines that spell edges give: just these edges, and no refusal
pub record Give (n : ℕ) (before : List (List (List ℕ))) (lines : List (ℕ × List (List ℕ))) (edges : List Edge)
    : Type 0 where
  pub clean : first_refusal (edge_fault n) before lines ≡ None
  pub same : edges_in n lines ≡ edges

-- lines that spell edges within the limit have no refusal
pub lines_give : (n : ℕ) (before : List (List (List ℕ))) (lines : List (ℕ × List (List ℕ))) (edges : List Edge)
    → AllZip (λ line edge. SpellsEdge line.1 edge) lines edges → All (IsEdge n) edges
    → length before + length edges ≤ 2 ^ 23 → Give n before lines edges
lines_give n before [] [] h all k = record { clean = refl; same = refl }
lines_give n before [] (e ∷ es) h all k = absurd h
lines_give n before (line ∷ lines) [] h all k = absurd h
lines_give n before (line ∷ lines) (edge ∷ edges) h all k =
    let more : length (before ++ line.1 ∷ []) ≡ length before + 1 = length-append before (line.1 ∷ []) in
    let one : length (edge ∷ edges) ≡ length edges + 1 = omega arith in
    let is : edge_in n line.1 ≡ Ok edge = edge_of n line.1 edge h.0 (All-head (IsEdge n) edge edges all) in
    let room : nat_lt (length before) (2 ^ 23) ≡ true = lt-ltb (length before) (2 ^ 23) (omega (arith, k, one)) in
    let none : edge_fault n before line.1 ≡ None =
    ap (λ r. fault_of r (length before)) is ∙ ap (λ b. cond b None (Some (Passes 5))) room in
    let rest = lines_give n (before ++ line.1 ∷ []) lines edges h.1 (All-tail (IsEdge n) edge edges all)
    (omega (arith, more, k, one)) in
    record {
      clean = ap₂ (λ f r. or_else (at_line line.0 f) r) none rest.clean;
      same = ap₂ (λ r es. cons_option (result_ok r) es) is rest.same;
    }
