-- A layered log has one printed form for watchers that report the same. A legal log has one witness: that of the only
-- pop that used the entry, or that there is none. An extremal instance has one layered log, since all its runs to an
-- end have the same. If there was no pop, none used any entry.
use Rattle.std.proofs.Common.{inl, inr, ◌≡◌, ℕ, ◌<◌, ◌≤◌, List, Option, None, Some, length, refl, sym, ap, subst, ◌∙◌, arith, ◌⊎◌, zero, suc, if◌then◌else◌, [], replicate}
use Rattle.std.proofs.lemmas.Bool.{cases_eq}
use Rattle.std.proofs.lemmas.List.{length-replicate, get_or-replicate}
use Rattle.pop_model.specs.Popping.{cursor}
use Rattle.pop_model.specs.Instances.{Instance}
use Rattle.pop_model.specs.Logs.{LogRecord, IsLegal, replay}
use Rattle.pop_model.specs.Runs.{start_of, IsEnd}
use Rattle.pop_model.proofs.Replays.{length-replay}
use Rattle.pop_model.specs.Extremal.{IsExtremal}
use Rattle.pop_model.specs.Stacks.{variables_of}
use Rattle.pop_log.specs.declared.names.Names.{Names}
use Rattle.pop_log.proofs.PrintedLemmas.{same_variable}
use Rattle.pop_log.specs.Layers.{Placed}
use Rattle.pop_log.proofs.UnitEvents.{HaveCubes}
use Rattle.pop_log.proofs.LayeredLaws.{layered_is_legal, one_layered_log}
use Rattle.pop_log.specs.Printed.{name_of}
use Rattle.witness_trees.specs.Pops.{Uses}
use Rattle.witness_trees.specs.Vertices.{Vertex}
use Rattle.witness_trees.specs.Trees.{IsTree}
use Rattle.witness_trees.proofs.OneTree.{one_tree}
use Rattle.witness_trees.proofs.OneUse.{one_use, used_below}
use Rattle.pop_watch.specs.Telling.{Watcher, log_told}
use Rattle.told_runs.specs.Witnesses.{Witness, IsCursorNamed, IsWitnessTree, IsWitness}
use Rattle.told_runs.specs.Witnesses.Witness.{Unasked, Missing, Shown}
use Rattle.told_runs.specs.declared.asked.Asked.{Asked}
use Rattle.told_runs.specs.Tellings.{Telling, records_of, IsToldOf}
use Rattle.told_runs.specs.Ends.{IsToldOfFirst}
use Rattle.told_runs.proofs.ToldOfFirst.{first_runs}
use Rattle.told_runs.specs.Reports.{reports_text}
use Rattle.told_runs.proofs.LayeredOrders.{nothing_sorted}
use Rattle.answer_laws.specs.Laws.{ReportAlike}

-- ---- witnesses

-- a name has one cursor
one_cursor : (names : Names) (cursors : List ℕ) (name c d : ℕ) → IsCursorNamed names cursors name c
    → IsCursorNamed names cursors name d → c ≡ d
one_cursor names cursors name c d (inl (v, below, named, is)) (inl (w, below', named', is')) =
    is ∙ ap (cursor cursors) (same_variable names v w (named ∙ sym named')) ∙ sym is'
one_cursor names cursors name c d (inl (v, below, named, is)) (inr (none, is')) = absurd (none v below named)
one_cursor names cursors name c d (inr (none, is)) (inl (w, below', named', is')) = absurd (none w below' named')
one_cursor names cursors name c d (inr (none, is)) (inr (none', is')) = is ∙ sym is'

-- the pop that used an entry isn't missing
not_missing : (names : Names) (i : Instance) (log : List LogRecord) (name entry c : ℕ) (tree : List Vertex)
    → IsLegal i (start_of i) log → IsCursorNamed names (replay (start_of i) log) name c → c ≤ entry
    → IsWitnessTree names (replay (start_of i) log) log name entry tree → ⊥
not_missing names i log name entry c tree legal (inl (v, below, named, is)) past t =
    let same : v ≡ t.v = same_variable names v t.v (named ∙ sym t.named) in
    let within : t.v < length (start_of i) = omega (arith, t.below, length-replay (start_of i) log) in
    let used = used_below i (start_of i) t.v within log legal t.t t.r entry t.record_is t.used in
    let there : c ≡ cursor (replay (start_of i) log) t.v = is ∙ ap (cursor (replay (start_of i) log)) same in
    omega (arith, past, used, there)
not_missing names i log name entry c tree legal (inr (none, is)) past t = none t.v t.below t.named

-- two trees of pops that used an entry
same_witness_tree : (names : Names) (i : Instance) (log : List LogRecord) (name entry : ℕ) (a b : List Vertex)
    → IsLegal i (start_of i) log → IsWitnessTree names (replay (start_of i) log) log name entry a
    → IsWitnessTree names (replay (start_of i) log) log name entry b → a ≡ b
same_witness_tree names i log name entry a b legal h h' =
    let same : h.v ≡ h'.v = same_variable names h.v h'.v (h.named ∙ sym h'.named) in
    let within : h'.v < length (start_of i) = omega (arith, h'.below, length-replay (start_of i) log) in
    let used : Uses h.r h'.v entry = subst (λ v. Uses h.r v entry) same h.used in
    let place : h.t ≡ h'.t =
    one_use i (start_of i) h'.v within log legal h.t h'.t h.r h'.r entry h.record_is h'.record_is used h'.used in
    one_tree log h'.t a b (subst (λ t. IsTree log t a) place h.tree_is) h'.tree_is

-- a legal log has one witness
pub one_witness : (names : Names) (asked : Option (ℕ × ℕ)) (i : Instance) (log : List LogRecord) (w x : Witness)
    → IsLegal i (start_of i) log → IsWitness names asked (replay (start_of i) log) log w
    → IsWitness names asked (replay (start_of i) log) log x → w ≡ x
one_witness names None i log Unasked Unasked legal h h' = refl
one_witness names None i log Unasked (Missing n e c) legal h h' = absurd h'
one_witness names None i log Unasked (Shown b) legal h h' = absurd h'
one_witness names None i log (Missing n e c) x legal h h' = absurd h
one_witness names None i log (Shown a) x legal h h' = absurd h
one_witness names (Some asked) i log Unasked x legal h h' = absurd h
one_witness names (Some asked) i log (Missing n e c) Unasked legal h h' = absurd h'
one_witness names (Some asked) i log (Missing n e c) (Missing m f d) legal h h' =
    let name : n ≡ m = h.0 ∙ sym h'.0 in
    let entry : e ≡ f = h.1 ∙ sym h'.1 in
    let there : c ≡ d =
    one_cursor names (replay (start_of i) log) m c d
    (subst (λ k. IsCursorNamed names (replay (start_of i) log) k c) name h.2) h'.2 in
    cc
one_witness names (Some asked) i log (Missing n e c) (Shown b) legal h h' =
    absurd (not_missing names i log asked.0 asked.1 c b legal
    (subst (λ k. IsCursorNamed names (replay (start_of i) log) k c) h.0 h.2) (subst (λ k. c ≤ k) h.1 h.3) h')
one_witness names (Some asked) i log (Shown a) Unasked legal h h' = absurd h'
one_witness names (Some asked) i log (Shown a) (Missing m f d) legal h h' =
    absurd (not_missing names i log asked.0 asked.1 d a legal
    (subst (λ k. IsCursorNamed names (replay (start_of i) log) k d) h'.0 h'.2) (subst (λ k. d ≤ k) h'.1 h'.3) h)
one_witness names (Some asked) i log (Shown a) (Shown b) legal h h' =
    ap Shown (same_witness_tree names i log asked.0 asked.1 a b legal h h')

-- ---- what is told

-- what is told is made of its parts
parts_agree : (t u : Telling) → t.log ≡ u.log → t.witness ≡ u.witness → t.reports ≡ u.reports → t ≡ u
parts_agree t u logs witnesses reports =
    ap (λ (l : Option (List Placed)). record { log = l; witness = t.witness; reports = t.reports }) logs
    ∙ ap (λ (w : Witness). record { log = u.log; witness = w; reports = t.reports }) witnesses
    ∙ ap (λ (b : List ℕ). record { log = u.log; witness = u.witness; reports = b }) reports

-- one thing is told of a layered log that is legal
pub one_telling : (asked : Asked) (ws vs : List Watcher) (names : Names) (i : Instance) (placed : List Placed)
    (t u : Telling) → ReportAlike asked.reports ws vs → IsLegal i (start_of i) (records_of placed)
    → IsToldOf asked ws names i placed t → IsToldOf asked vs names i placed u → t ≡ u
one_telling asked ws vs names i placed t u alike legal h h' =
    parts_agree t u (h.log_is ∙ sym h'.log_is)
    (one_witness names asked.witness i (records_of placed) t.witness u.witness legal h.witness_is h'.witness_is)
    (h.reports_are ∙ alike (records_of placed) ∙ sym h'.reports_are)

-- one thing is told of the one-thread run
pub one_first_telling : (asked : Asked) (ws vs : List Watcher) (names : Names) (i : Instance) → HaveCubes i.family
    → IsExtremal i.family → (t u : Telling) → ReportAlike asked.reports ws vs → IsToldOfFirst asked ws names i t
    → IsToldOfFirst asked vs names i u → t ≡ u
one_first_telling asked ws vs names i cubes extremal t u alike h h' =
    let runs = first_runs i h.log h.run in
    let runs' = first_runs i h'.log h'.run in
    let one : h.placed ≡ h'.placed =
    one_layered_log i cubes extremal (start_of i) h.log h'.log runs runs' h.placed h'.placed h.sorted h'.sorted in
    let legal = (layered_is_legal i cubes (start_of i) h'.log (records_of h'.placed) runs'.legal
    (record { placed = h'.placed; sorted = h'.sorted; records = refl })).0 in
    one_telling asked ws vs names i h'.placed t u alike legal (subst (λ l. IsToldOf asked ws names i l t) one h.told)
    h'.told

-- ---- before any pop

-- some variable below a number has the name, or none has
pub named_or_not : (names : Names) (name n : ℕ) → ((v : ℕ) × (v < n) × (name_of names v ≡ name))
    ⊎ ((v : ℕ) → v < n → name_of names v ≡ name → ⊥)
named_or_not names name zero = inr (λ v below named. absurd (omega (arith, below)))
named_or_not names name (suc n) = elim (named_or_not names name n) [
  | inl (v, below, named) ↦ inl (v, omega (arith, below), named)
  | inr none ↦ elim (cases_eq (name_of names n) name) [
    | inl named ↦ inl (n, omega arith, named)
    | inr other ↦ inr (λ v below named. elim (cases_eq v n) [
      | inl last ↦ other (ap (name_of names) (sym last) ∙ named)
      | inr before ↦ none v (omega (arith, below, before)) named
    ])
  ]
]

-- the cursor of each name is 0
at_zero : (names : Names) (name n : ℕ) → IsCursorNamed names (replicate n 0) name 0
at_zero names name n = elim (named_or_not names name n) [
  | inl (v, below, named) ↦
      inl (v, omega (arith, below, length-replicate {A = ℕ} n 0), named, sym (get_or-replicate n v 0 0 below))
  | inr none ↦ inr (λ v below named. none v (omega (arith, below, length-replicate {A = ℕ} n 0)) named, refl)
]

-- so no pop used an entry
start_witness : (names : Names) (asked : Option (ℕ × ℕ)) (n : ℕ) → (w : Witness)
    × IsWitness names asked (replicate n 0) [] w
start_witness names None n = (Unasked, tt)
start_witness names (Some asked) n =
    (Missing asked.0 asked.1 0, (refl, refl, at_zero names asked.0 n, omega arith))

-- what is told where the start is an end
pub told_at_start : (asked : Asked) (ws : List Watcher) (names : Names) (i : Instance) → IsEnd i (start_of i)
    → (t : Telling) × IsToldOfFirst asked ws names i t
told_at_start asked ws names i end =
    let w = start_witness names asked.witness (variables_of i.stacks) in
    let none : List Placed = [] in (
      record {
        log = if asked.log then Some none else None;
        witness = w.0;
        reports = reports_text asked.reports (log_told [] ws);
      },
      record {
        log = [];
        run = end;
        placed = none;
        sorted = nothing_sorted;
        told = record { log_is = refl; witness_is = w.1; reports_are = refl };
      },
    )
