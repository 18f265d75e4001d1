-- Loops of a graph that is oriented. A loop prints the same line at both its values, so orientations that differ only
-- at loops print the same lines. No event names a loop. So the values of loops may be copied from one sample to
-- another.
use Rattle.std.proofs.Common.{inl, inr, ◌≡◌, ℕ, zero, suc, ◌+◌, ◌*◌, ◌<◌, Bool, true, false, cond, ◌==◌, List, [], ◌∷◌, ◌++◌, length, flat_map, get_or, All, Contains, slice_index, refl, sym, ap, ap₂, subst, ◌∙◌, arith, eqb-true}
use Rattle.std.specs.List.{enumerate_from}
use Rattle.std.proofs.lemmas.Bool.{cases_Bool}
use Rattle.std.proofs.lemmas.Grind.{same_number_lists}
use Rattle.std.proofs.lemmas.List.{length-replicate, get_or_default}
use Rattle.std.proofs.lemmas.List.Elements.{Contains-get_or}
use Rattle.std.proofs.lemmas.Option.{slice_get_within, get_or_from_slice_get}
use Rattle.pop_model.specs.Popping.{Cube}
use Rattle.graph_read.specs.declared.edge.Edge.{Edge}
use Rattle.graph_read.specs.Graphs.{GraphOf}
use Rattle.graph_read.specs.Incidence.{is_loop}
use Rattle.sink_popping.specs.Sinks.{AreSinksOf}
use Rattle.sink_popping.proofs.SinkCubesLemmas.{touching_is_no_loop}
use Rattle.pop_samples.specs.Frames.{IsSampleOf}
use Rattle.pop_samples.specs.Weights.{sample_weight}
use Rattle.pop_print.specs.Output.{arrow_line, edge_line, orientation_lines, oriented_line}
use Rattle.job_subjects.specs.Subjects.{pair_weights, orientations}
use Rattle.answer_laws.specs.ExactAnswers.{frame_over}
use Rattle.answer_laws.specs.PrintedOnce.{AreBits}
use Rattle.answer_laws.proofs.EverySample.{row_there, bit_weighs}

-- values that are the same at each edge that isn't a loop
abbrev pub DifferAtLoops : List Edge → List ℕ → List ℕ → Type 0
DifferAtLoops edges u w = (j : ℕ) (d : Edge) → j < length edges → is_loop (get_or edges j d) ≡ false
    → slice_index u j ≡ slice_index w j

-- the line of a loop is one at all values
loop_line : (e : Edge) (n x : ℕ) → e.u ≡ e.v → oriented_line e n x ≡ arrow_line e.u e.v n
loop_line e n x same = by (x == 0)
  where
    by : (b : Bool) → cond b (arrow_line e.u e.v n) (arrow_line e.v e.u n) ≡ arrow_line e.u e.v n
    by true = refl
    by false = ap₂ (λ (t h : ℕ). arrow_line t h n) (sym same) same

-- so the lines from edge k on are the same
lines_same : (edges : List Edge) (k : ℕ) (u w : List ℕ)
    → ((j : ℕ) (d : Edge) → j < length edges → is_loop (get_or edges j d) ≡ false
    → slice_index u (k + j) ≡ slice_index w (k + j))
    → flat_map (edge_line u) (enumerate_from k edges) ≡ flat_map (edge_line w) (enumerate_from k edges)
lines_same [] k u w same = refl
lines_same (e ∷ edges) k u w same =
    let next : (j : ℕ) → k + suc j ≡ k + 1 + j = λ j. omega arith in
    let here : k + 0 ≡ k = omega arith in
    let head : oriented_line e (k + 1) (slice_index u k) ≡ oriented_line e (k + 1) (slice_index w k) =
    elim (cases_Bool (is_loop e)) [
      | inl loop ↦
          let ends : e.u ≡ e.v = eqb-true e.u e.v loop in
          loop_line e (k + 1) (slice_index u k) ends ∙ sym (loop_line e (k + 1) (slice_index w k) ends)
      | inr plain ↦
          ap (oriented_line e (k + 1)) (subst (λ (i : ℕ). slice_index u i ≡ slice_index w i) here (same 0 e (omega arith) plain))
    ] in
    ap₂ (λ (a b : List ℕ). a ++ b) head
    (lines_same edges (k + 1) u w (λ j d less plain.
    subst (λ (i : ℕ). slice_index u i ≡ slice_index w i) (next j) (same (suc j) d (omega (arith, less)) plain)))

-- and so are those of the whole graph
pub same_lines : (g : GraphOf) (u w : List ℕ) → DifferAtLoops g.edges u w → orientation_lines g u ≡ orientation_lines g w
same_lines g u w same =
    let zero_more : (j : ℕ) → j ≡ 0 + j = λ j. omega arith in
    lines_same g.edges 0 u w (λ j d less plain.
    subst (λ (i : ℕ). slice_index u i ≡ slice_index w i) (zero_more j) (same j d less plain))

-- the first values at loops, and the others elsewhere
abbrev pub carried : List Edge → List ℕ → List ℕ → List ℕ
carried [] u x = []
carried (e ∷ edges) [] x = []
carried (e ∷ edges) (a ∷ u) [] = []
carried (e ∷ edges) (a ∷ u) (b ∷ x) = cond (is_loop e) a b ∷ carried edges u x

-- there is one for each edge
pub length-carried : (edges : List Edge) (u x : List ℕ) → length u ≡ length edges → length x ≡ length edges
    → length (carried edges u x) ≡ length edges
length-carried [] u x size size' = refl
length-carried (e ∷ edges) [] x size size' = absurd (omega (arith, size))
length-carried (e ∷ edges) (a ∷ u) [] size size' = absurd (omega (arith, size'))
length-carried (e ∷ edges) (a ∷ u) (b ∷ x) size size' =
    ap suc (length-carried edges u x (omega (arith, size)) (omega (arith, size')))

-- that of an edge
pub carried-at : (edges : List Edge) (u x : List ℕ) → length u ≡ length edges → length x ≡ length edges → (j : ℕ)
    (d : Edge) → j < length edges
    → get_or (carried edges u x) j 0 ≡ cond (is_loop (get_or edges j d)) (get_or u j 0) (get_or x j 0)
carried-at [] u x size size' j d less = absurd (omega (arith, less))
carried-at (e ∷ edges) [] x size size' j d less = absurd (omega (arith, size))
carried-at (e ∷ edges) (a ∷ u) [] size size' j d less = absurd (omega (arith, size'))
carried-at (e ∷ edges) (a ∷ u) (b ∷ x) size size' zero d less = refl
carried-at (e ∷ edges) (a ∷ u) (b ∷ x) size size' (suc j) d less =
    carried-at edges u x (omega (arith, size)) (omega (arith, size')) j d (omega (arith, less))

-- elsewhere than at loops they are the others
pub carried_alike : (edges : List Edge) (u x : List ℕ) → length u ≡ length edges → length x ≡ length edges
    → DifferAtLoops edges (carried edges u x) x
carried_alike edges u x size size' j d less plain =
    carried-at edges u x size size' j d less ∙ ap (λ (b : Bool). cond b (get_or u j 0) (get_or x j 0)) plain

-- carried back they are the first again
pub carried_back : (edges : List Edge) (u w x : List ℕ) → length u ≡ length edges → length w ≡ length edges
    → length x ≡ length edges → DifferAtLoops edges u w → carried edges (carried edges u x) w ≡ u
carried_back edges u w x size size_w size_x alike =
    let v : List ℕ = carried edges u x in
    let long = length-carried edges u x size size_x in
    let again = length-carried edges v w long size_w in
    same_number_lists (carried edges v w) u (again ∙ sym size) (λ j less.
    let none : Edge = record { u = 0; v = 0; weight = 0 } in
    let inside : j < length edges = omega (arith, less, again) in
    let at = carried-at edges v w long size_w j none inside in
    let before = carried-at edges u x size size_x j none inside in
    elim (cases_Bool (is_loop (get_or edges j none))) [
      | inl loop ↦
          at ∙ ap (λ (b : Bool). cond b (get_or v j 0) (get_or w j 0)) loop
          ∙ before ∙ ap (λ (b : Bool). cond b (get_or u j 0) (get_or x j 0)) loop
      | inr plain ↦
          at ∙ ap (λ (b : Bool). cond b (get_or v j 0) (get_or w j 0)) plain ∙ sym (alike j none inside plain)
    ])

-- one of two values below 2
bit_of : (b : Bool) (x y : ℕ) → x < 2 → y < 2 → cond b x y < 2
bit_of true x y low low' = low
bit_of false x y low low' = low'

-- they are 0 and 1
pub carried_bits : (edges : List Edge) (u x : List ℕ) → AreBits (length edges) u → AreBits (length edges) x
    → AreBits (length edges) (carried edges u x)
carried_bits edges u x is is' =
    let long = length-carried edges u x is.count_is is'.count_is in
    let size = is.count_is in
    let size' = is'.count_is in
    record {
      count_is = long;
      bits = λ j d less.
          let none : Edge = record { u = 0; v = 0; weight = 0 } in
          let inside : j < length edges = omega (arith, less, long) in
          let at = carried-at edges u x size size' j none inside in
          let small = bit_of (is_loop (get_or edges j none)) (get_or u j 0) (get_or x j 0)
          (is.bits j 0 (omega (arith, inside, size))) (is'.bits j 0 (omega (arith, inside, size'))) in
          let there = get_or_default (carried edges u x) j d 0 less in
          omega (arith, at, small, there);
    }

-- a sample of an orientation is one with other values at loops
pub carried_sample : (g : GraphOf) (events : List (ℕ × Cube)) (heights u x : List ℕ) → AreSinksOf g events
    → AreBits (length g.edges) u → AreBits (length g.edges) x
    → IsSampleOf (frame_over (orientations g events) heights) x
    → IsSampleOf (frame_over (orientations g events) heights) (carried g.edges u x)
carried_sample g events heights u x are bits bits' is =
    let n : ℕ = length g.edges in
    let made = carried_bits g.edges u x bits bits' in
    let size = made.count_is in
    record {
      count = size ∙ sym (length-replicate {A = List ℕ} n (1 ∷ 1 ∷ []));
      values = bit_weighs n (carried g.edges u x) size made.bits;
      sample = λ e event all. is.sample e event (λ k d within.
          let p : ℕ × ℕ = get_or e.cube k d in
          let has : Contains events (event.0, e.cube) = row_there events e event in
          let sink = (are.exact event.0 e.cube).0 has in
          let points = (sink.sink.exact p.0 p.1).0 (Contains-get_or e.cube k d within) in
          let inside = slice_get_within g.edges p.0 points.edge points.edge_is in
          let plain = touching_is_no_loop g event.0 p.0 points.edge sink.no_loop points.edge_is points.touches_it in
          let at : get_or g.edges p.0 points.edge ≡ points.edge =
          get_or_from_slice_get g.edges p.0 points.edge points.edge points.edge_is in
          sym (carried_alike g.edges u x bits.count_is bits'.count_is p.0 points.edge inside
          (ap is_loop at ∙ plain)) ∙ all k d within);
    }

-- values of pairs weigh 1
pub bits_weigh : (n : ℕ) (x : List ℕ) → length x ≡ n → All (λ b. b < 2) x → sample_weight (pair_weights n) x ≡ 1
bits_weigh n [] size low = refl
bits_weigh zero (b ∷ x) size low = absurd (omega (arith, size))
bits_weigh (suc n) (b ∷ x) size low =
    let one : get_or {A = ℕ} (1 ∷ 1 ∷ []) b 0 ≡ 1 = of_bit b (low 0 0 (omega arith)) in
    let rest = bits_weigh n x (omega (arith, size)) (λ k d within. low (suc k) d (omega (arith, within))) in
    ap₂ (λ (a c : ℕ). a * c) one rest
  where
    of_bit : (b : ℕ) → b < 2 → get_or {A = ℕ} (1 ∷ 1 ∷ []) b 0 ≡ 1
    of_bit zero low = refl
    of_bit (suc zero) low = refl
    of_bit (suc (suc b)) low = absurd (omega (arith, low))
