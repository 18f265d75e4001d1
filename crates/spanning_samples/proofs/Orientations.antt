-- A sample of a graph's sinks leaves no vertex a sink: a loop leaves its vertex. For a vertex without a loop, the
-- pairs of its edges are an event, and the sample differs from one of them.
use Rattle.std.proofs.Common.{inl, inr, ◌≡◌, ◌≢◌, ◌⊎◌, ℕ, true, List, [], ◌∷◌, length, get_or, Some, All, slice_index, slice_get, sym, ap, ◌∙◌, arith, Contains}
use Rattle.std.proofs.lemmas.Bool.{and_parts, cases_Bool, cases_eq}
use Rattle.std.proofs.lemmas.List.Elements.{All-cons}
use Rattle.std.proofs.lemmas.List.Folds.{Any-from_list_any}
use Rattle.std.proofs.lemmas.Option.{slice_get-get_or}
use Rattle.pop_model.specs.Popping.{Cube}
use Rattle.pop_model.proofs.Rising.{head_member, tail_member}
use Rattle.graph_read.specs.declared.edge.Edge.{Edge}
use Rattle.graph_read.specs.Graphs.{GraphOf, IsVertex}
use Rattle.graph_read.specs.Incidence.{edges_at}
use Rattle.sink_popping.specs.Sinks.{AreSinksOf, HasSink, IsIsolated, has_loop}
use Rattle.sink_popping.specs.SinkCubes.{pairs_at}
use Rattle.sink_popping.proofs.SinkCubesLemmas.{lonely_is_isolated, pairs_are_sink}
use Rattle.pop_print.specs.declared.facts.Facts.TheVariants.{Orient as OrientFacts}
use Rattle.pop_samples.specs.Frames.{IsSampleOf}
use Rattle.job_subjects.specs.Subjects.{orientations}
use Rattle.answer_laws.specs.ExactAnswers.{frame_over}
use Rattle.answer_laws.specs.EverySample.{HasWayOut, LeavesEach}
use Rattle.answer_laws.proofs.EverySample.{every_orientation, pair_values}
use Rattle.spanning_samples.specs.Converse.{OrientationsAlone}

-- some pair of a cube isn't the value, or all are
differs_or_all : (x : List ℕ) (e : Cube)
    → ((p : ℕ × ℕ) × Contains e p × (slice_index x p.0 ≢ p.1)) ⊎ All (λ p. slice_index x p.0 ≡ p.1) e
differs_or_all x [] = inr (λ k d less. absurd (omega (arith, less)))
differs_or_all x (p ∷ e) = elim (cases_eq (slice_index x p.0) p.1) [
  | inr other ↦ inl (p, head_member p e, other)
  | inl here ↦ elim (differs_or_all x e) [
    | inl some ↦ inl (some.0, tail_member p e some.0 some.1, some.2)
    | inr all ↦ inr (All-cons (λ (q : ℕ × ℕ). slice_index x q.0 ≡ q.1) p e here all)
  ]
]

module _ (g : GraphOf) (events : List (ℕ × Cube)) (heights x : List ℕ) (are : AreSinksOf g events)
    (touched : (w : ℕ) → IsIsolated g w → ⊥) (is : IsSampleOf (frame_over (orientations g events) heights) x) where
  -- a loop is a way out
  by_loop : (w : ℕ) → has_loop g w ≡ true → HasWayOut g x w
  by_loop w loops =
      let (i, e, within, at, both) = Any-from_list_any (λ (e : Edge). _) g.edges loops in
      let parts = and_parts _ _ both in
      let there : slice_get g.edges i ≡ Some (get_or g.edges i e) = slice_get-get_or g.edges i e within in
      record {
        number = i;
        edge = e;
        is = there ∙ ap (λ (u : Edge). Some u) at;
        touches_it = parts.1;
        leaves = inl parts.0;
      }

  -- without one, some edge at the vertex doesn't point there
  by_edge : (w : ℕ) → IsVertex g.vertices w → HasSink g w (pairs_at g w) → HasWayOut g x w
  by_edge w vertex sink = elim (differs_or_all x (pairs_at g w)) [
    | inl some ↦
        let p : ℕ × ℕ = some.0 in
        let to = (sink.sink.exact p.0 p.1).0 some.1 in
        record {
          number = p.0;
          edge = to.edge;
          is = to.edge_is;
          touches_it = to.touches_it;
          leaves = inr (λ same. some.2 (same ∙ sym to.value));
        }
    | inr all ↦
        let row : ℕ × Cube = (w, pairs_at g w) in
        let has : Contains events row = (are.exact w (pairs_at g w)).1 sink in
        let there : slice_get events has.0 ≡ Some row =
        slice_get-get_or events has.0 row has.1 ∙ ap (λ (r : ℕ × Cube). Some r) has.2 in
        absurd (is.sample (record { unit = has.0; cube = pairs_at g w }) (w, there) all)
  ]

  -- so each vertex has a way out
  leaves_each : LeavesEach g x
  leaves_each =
      let values = pair_values (length g.edges) events (OrientFacts g) heights x is in
      record {
        count = values.count_is;
        bits = values.bits;
        each = λ w vertex. elim (cases_Bool (has_loop g w)) [
          | inl loops ↦ by_loop w loops
          | inr none ↦ elim (cases_eq (length (edges_at g w)) 0) [
            | inl few ↦ absurd (touched w (lonely_is_isolated g w vertex none few))
            | inr some ↦ by_edge w vertex (pairs_are_sink g w vertex none (omega (arith, some)))
          ]
        ];
      }

-- the law
pub orientations_alone : OrientationsAlone
orientations_alone g events heights x are touched = (
  λ is. leaves_each g events heights x are touched is,
  λ left. every_orientation g events heights x are left,
)
