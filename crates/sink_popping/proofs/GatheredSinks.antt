-- The events of a graph, gathered vertex by vertex. Those of the vertices below one stand there, by rising number, and
-- none of these vertices is isolated; the next vertex adds its event at the end, unless it has a loop.
use Rattle.std.proofs.Common.{inl, inr, ◌≡◌, ℕ, ◌+◌, ◌<◌, true, List, [], ◌∷◌, ◌++◌, length, map, get_or, Err, sym, ap, subst, ◌∙◌, arith, All, Contains}
use Rattle.std.specs.List.Sorted.{IsStrictlyIncreasing}
use Rattle.std.proofs.lemmas.Bool.{cases_lt, false≢true}
use Rattle.std.proofs.lemmas.List.{length-map, get_or-map, length_push, map_push}
use Rattle.std.proofs.lemmas.List.Elements.{All-map, All-push, All-weaker, Contains-get_or, Contains-append_left, Contains-push}
use Rattle.std.proofs.lemmas.List.Kept.{AllPairs-from_increasing}
use Rattle.std.proofs.lemmas.Option.{slice_get_within}
use Rattle.pop_model.specs.Popping.{Cube}
use Rattle.pop_model.specs.Places.{IsLeast}
use Rattle.pop_model.specs.Families.{AreEvents}
use Rattle.pop_instance.specs.Events.{FitVariables}
use Rattle.pop_instance.proofs.Increasing.{increasing_push}
use Rattle.graph_read.specs.Graphs.{GraphOf}
use Rattle.sink_popping.specs.declared.sink_fault.SinkFault.{SinkFault}
use Rattle.sink_popping.specs.declared.sink_fault.SinkFault.TheVariants.{Isolated, OutOfMemory}
use Rattle.sink_popping.specs.Sinks.{has_loop, HasSink, IsIsolated, IsSinkFault}
use Rattle.sink_popping.specs.SinkCubes.{ComesOfVertex}
use Rattle.sink_popping.proofs.SinkCubesLemmas.{pointing_small, one_sink, sinks_apart, sink_is_not_isolated, loop_is_not_isolated}

-- the events of the vertices below w, of which none is isolated
pub record SinksBelow (g : GraphOf) (w : ℕ) (rows : List (ℕ × Cube)) : Type 0 where
  pub rising : IsStrictlyIncreasing (map (λ r. r.0) rows)
  pub few : length rows < w
  pub below : All (λ r. r.0 < w) rows
  pub sinks : All (λ r. HasSink g r.0 r.1) rows
  pub all : (v : ℕ) (e : Cube) → v < w → HasSink g v e → Contains rows (v, e)
  pub touched : (v : ℕ) → v < w → IsIsolated g v → ⊥

module _ (g : GraphOf) (w : ℕ) (rows : List (ℕ × Cube)) (far : SinksBelow g w rows) where
  -- where the next vertex isn't isolated, none so far is
  touched_more : (IsIsolated g w → ⊥) → (v : ℕ) → v < w + 1 → IsIsolated g v → ⊥
  touched_more here v less isolated = elim (cases_lt v w) [
    | inl below ↦ far.touched v below isolated
    | inr last ↦ let same : v ≡ w = omega (arith, less, last) in here (subst (IsIsolated g) same isolated)
  ]

  -- a vertex with a loop has no event
  pub sinks_same : has_loop g w ≡ true → SinksBelow g (w + 1) rows
  sinks_same loops = record {
    rising = far.rising;
    few = let few = far.few in omega (arith, few);
    below = All-weaker (λ (r : ℕ × Cube). r.0 < w) (λ r. r.0 < w + 1) (λ r less. omega (arith, less)) rows far.below;
    sinks = far.sinks;
    all = λ v e less sink. elim (cases_lt v w) [
      | inl below ↦ far.all v e below sink
      | inr last ↦
          let same : v ≡ w = omega (arith, less, last) in
          absurd (false≢true (sym sink.no_loop ∙ ap (has_loop g) same ∙ loops))
    ];
    touched = touched_more (loop_is_not_isolated g w loops);
  }

  -- the event of the next vertex
  pub sinks_more : (e : Cube) → HasSink g w e → SinksBelow g (w + 1) (rows ++ (w, e) ∷ [])
  sinks_more e sink = record {
    rising = subst IsStrictlyIncreasing (sym (map_push (λ (r : ℕ × Cube). r.0) rows (w, e)))
        (increasing_push (map (λ (r : ℕ × Cube). r.0) rows) w far.rising
        (All-map (λ x. x < w) (λ (r : ℕ × Cube). r.0) rows far.below));
    few = let few = far.few in omega (arith, few, length_push rows (w, e));
    below = All-push (λ (r : ℕ × Cube). r.0 < w + 1) rows (w, e)
        (All-weaker (λ (r : ℕ × Cube). r.0 < w) (λ r. r.0 < w + 1) (λ r less. omega (arith, less)) rows far.below)
        (omega arith);
    sinks = All-push (λ (r : ℕ × Cube). HasSink g r.0 r.1) rows (w, e) far.sinks sink;
    all = λ v f less other. elim (cases_lt v w) [
      | inl below ↦ Contains-append_left rows ((w, e) ∷ []) (v, f) (far.all v f below other)
      | inr last ↦
          let same : w ≡ v = omega (arith, less, last) in
          let cube : e ≡ f = one_sink g v e f (subst (λ u. HasSink g u e) same sink) other in
          subst (λ (c : Cube). Contains (rows ++ (w, e) ∷ []) (v, c)) cube
          (subst (λ (u : ℕ). Contains (rows ++ (w, e) ∷ []) (u, e)) same (Contains-push rows (w, e)))
    ];
    touched = touched_more (sink_is_not_isolated g w e sink);
  }

  -- where the next vertex is isolated, it is the least that is
  least_isolated : IsIsolated g w → IsLeast (IsIsolated g) w
  least_isolated isolated = record { holds = isolated; none_before = λ v less other. far.touched v less other }

  -- why the next vertex is refused is why the graph is
  pub fault_of_next : (fault : SinkFault) → ComesOfVertex g w (Err fault) → IsSinkFault g fault
  fault_of_next (Isolated v) comes = subst (IsLeast (IsIsolated g)) (sym comes.0) (least_isolated comes.1)
  fault_of_next OutOfMemory comes = comes

-- the events of all vertices
module _ (g : GraphOf) (w : ℕ) (rows : List (ℕ × Cube)) (far : SinksBelow g w rows) (past : g.vertices < w) where
  -- no vertex is isolated
  pub none_isolated : (v : ℕ) → IsIsolated g v → ⊥
  none_isolated v isolated = let last = isolated.vertex.last in
      far.touched v (omega (arith, past, last)) isolated

  -- their cubes differ
  pub sinks_are_events : AreEvents rows
  sinks_are_events = record {
    rising = far.rising;
    different = λ i j d less within.
        let r : ℕ × Cube = get_or rows i d in
        let q : ℕ × Cube = get_or rows j d in
        let size = length-map rows (λ (r : ℕ × Cube). r.0) in
        let here = get_or-map (λ (r : ℕ × Cube). r.0) rows i d 0 (omega (arith, less, within)) in
        let there = get_or-map (λ (r : ℕ × Cube). r.0) rows j d 0 within in
        let up = AllPairs-from_increasing (map (λ (r : ℕ × Cube). r.0) rows) far.rising i j 0 less
        (omega (arith, size, within)) in
        sinks_apart g r.0 q.0 r.1 q.1 (λ same. omega (arith, here, there, up, same))
        (far.sinks i d (omega (arith, less, within))) (far.sinks j d within);
    cubes = λ k d within. (far.sinks k d within).sink.cube;
  }

  -- and their pairs are edges with values below 2
  pub sinks_fit : FitVariables (length g.edges) rows
  sinks_fit k d within j c inside =
      let r : ℕ × Cube = get_or rows k d in
      let p : ℕ × ℕ = get_or r.1 j c in
      let points = ((far.sinks k d within).sink.exact p.0 p.1).0 (Contains-get_or r.1 j c inside) in
      let value = points.value in
      let small = pointing_small points.edge r.0 in
      (slice_get_within g.edges p.0 points.edge points.edge_is, omega (arith, value, small))
