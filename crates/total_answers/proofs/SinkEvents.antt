-- The events of a graph's sinks: a vertex has one, unless a loop or no edge touches it.
use Rattle.std.proofs.Common.{inl, inr, ◌≡◌, ◌⊎◌, ℕ, ◌+◌, true, List, length, refl, sym, ap₂, subst, ◌∙◌, arith}
use Rattle.std.proofs.lemmas.Bool.{cases_Bool, cases_lt, false≢true}
use Rattle.pop_model.specs.Popping.{Cube}
use Rattle.pop_model.specs.Places.{IsLeast}
use Rattle.graph_read.specs.Graphs.{GraphOf, IsVertex}
use Rattle.graph_read.specs.Incidence.{edges_at}
use Rattle.sink_popping.specs.Sinks.{has_loop, HasSink, IsIsolated, AreSinksOf}
use Rattle.sink_popping.specs.SinkCubes.{pairs_at}
use Rattle.sink_popping.proofs.SinkCubesLemmas.{pairs_are_sink, one_sink, sink_is_not_isolated, loop_is_not_isolated, lonely_is_isolated}
use Rattle.prs_rounds.proofs.ClosedSets.{IsDecided}
use Rattle.total_answers.proofs.Deciding.{Finds, decide_le, none_least}
use Rattle.total_answers.proofs.Numbered.{listed}

-- a number is that of a vertex, or not
pub decide_vertex : (n w : ℕ) → IsDecided (IsVertex n w)
decide_vertex n w = elim (decide_le 1 w) [
  | inr none ↦ inr (λ is. none is.first)
  | inl first ↦ elim (decide_le w n) [
    | inr past ↦ inr (λ is. past is.last)
    | inl last ↦ inl (record { first = first; last = last })
  ]
]

-- a vertex can be a sink, has a loop or is isolated
data Kind (g : GraphOf) (w : ℕ) : Type 0 where
  Sinks : (e : Cube) → HasSink g w e → Kind g w
  Loops : has_loop g w ≡ true → Kind g w
  Lonely : IsIsolated g w → Kind g w

kind_of : (g : GraphOf) (w : ℕ) → IsVertex g.vertices w → Kind g w
kind_of g w vertex = elim (cases_Bool (has_loop g w)) [
  | inl loops ↦ Loops loops
  | inr none ↦ elim (cases_lt 0 (length (edges_at g w))) [
    | inl some ↦ Sinks (pairs_at g w) (pairs_are_sink g w vertex none some)
    | inr few ↦ Lonely (lonely_is_isolated g w vertex none (omega (arith, few)))
  ]
]

-- whether it is isolated
decide_isolated : (g : GraphOf) (w : ℕ) → IsDecided (IsIsolated g w)
decide_isolated g w = elim (decide_vertex g.vertices w) [
  | inr none ↦ inr (λ is. none is.vertex)
  | inl vertex ↦ elim (kind_of g w vertex) [
    | Sinks e sink ↦ inr (sink_is_not_isolated g w e sink)
    | Loops loops ↦ inr (loop_is_not_isolated g w loops)
    | Lonely is ↦ inl is
  ]
]

-- the least vertex that is, or none is
pub isolated_or_none : (g : GraphOf) → ((w : ℕ) × IsLeast (IsIsolated g) w) ⊎ ((w : ℕ) → IsIsolated g w → ⊥)
isolated_or_none g =
    none_least (IsIsolated g) (g.vertices + 1) (decide_isolated g)
    (λ w is. let last = is.vertex.last in omega (arith, last))

-- whether it can be a sink
sink_at : (g : GraphOf) (w : ℕ) → Finds (HasSink g w)
sink_at g w = elim (decide_vertex g.vertices w) [
  | inr none ↦ inr (λ e is. none is.vertex)
  | inl vertex ↦ elim (kind_of g w vertex) [
    | Sinks e sink ↦ inl (e, sink)
    | Loops loops ↦ inr (λ e is. false≢true (sym is.no_loop ∙ loops))
    | Lonely lonely ↦ inr (λ e is. sink_is_not_isolated g w e is lonely)
  ]
]

-- so a graph has the events of its sinks
pub sink_events : (g : GraphOf) → (rows : List (ℕ × Cube)) × AreSinksOf g rows
sink_events g =
    let key : ℕ × Cube → ℕ = λ r. r.0 in
    let Is : ℕ × Cube → Type 0 = λ r. HasSink g r.0 r.1 in
    let one : (r q : ℕ × Cube) → Is r → Is q → r.0 ≡ q.0 → r ≡ q = λ r q is is' same.
    ap₂ (λ (n : ℕ) (e : Cube). (n, e)) same
    (one_sink g q.0 r.1 q.1 (subst (λ (n : ℕ). HasSink g n r.1) same is) is') in
    let all = listed key Is one (λ k. elim (sink_at g k) [
      | inl (e, sink) ↦ inl ((k, e), (sink, refl))
      | inr none ↦ inr (λ r (is, at). none r.1 (subst (λ (n : ℕ). HasSink g n r.1) at is))
    ]) (g.vertices + 1) in (
      all.0,
      record {
        rising = all.1.rising;
        exact = λ w e. (
          λ has. ((all.1.exact (w, e)).0 has).0,
          λ sink. (all.1.exact (w, e)).1 (sink, (let last = sink.vertex.last in omega (arith, last))),
        );
      },
    )
