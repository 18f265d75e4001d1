use Rattle.std.proofs.Common.{arith, ℕ, suc, List, [], ◌++◌, ⊎_elim, ap, sym, subst, ◌∙◌, ◌≡◌, ◌<◌, ◌+◌, length, drop, All, slice_index_or, Option}
use Rattle.std.proofs.lemmas.List.{drop_all}
use Rattle.pop_model.specs.Popping.{Cube}
use Rattle.pop_model.specs.Families.{Family}
use Rattle.pop_model.specs.Families.Family.{Listed}
use Rattle.pop_model.proofs.Members.{all_at}
use Rattle.pop_instance.proofs.ListedEvents.{index_units}
use Rattle.claim_words.specs.declared.view.View.{View}
use Rattle.claim_words.specs.declared.opening.Opening.{Opening}
use Rattle.claim_words.specs.Passes.{view, marks_of}
use Rattle.claim_words.specs.Maps.{In}
use Rattle.claim_words.specs.Openings.{marks_in}
use Rattle.claim_words.specs.Steps.{sharers, sharing}
use Rattle.claim_words.proofs.DueAdvances.{turn}
use Rattle.claim_words.proofs.Memberships.{in_append}
use Rattle.event_finders.specs.OwedMarks.{Marked}
use Rattle.event_finders.proofs.OwedMarksLemmas.{Waits, first_waits, next_waits, row_shares, marked_none, marked_then, marked_all}
use Rattle.event_finders.proofs.CubePrefixes.{in_at}
use Rattle.event_finders.proofs.owed_marks.mark_sharers.Goals as goal

pub loop-i-init : goal.loop-i-init
loop-i-init c = let cube : Cube = c.args.cube.now in record {
  pass = c.requires.pass;
  units = [];
  marked = marked_none (view c.args.pass.now);
  owed = λ u i. absurd i;
  wait = λ rows is _. subst (Waits rows cube []) (sym (c.requires.owed
      ∙ ap (λ (x : Option Opening). sharers x cube) c.requires.pass.0.1 ∙ ap (λ (f : Family). sharing f cube) is))
      (first_waits rows cube);
}

pub at-requires : goal.at-requires
at-requires c = record {
  known = all_at (λ (p : ℕ × ℕ). p.0 < length c.args.index.now) c.args.cube.now c.loop-i.i c.pair-v.result
      c.pair-v.ensures c.requires.event;
}

pub mark_each-requires-clause-known : goal.mark_each-requires-clause-known
mark_each-requires-clause-known c =
    let t = c.requires.index in
    let near = all_at (λ (p : ℕ × ℕ). p.0 < length c.args.index.now) c.args.cube.now c.loop-i.i c.pair-v.result
    c.pair-v.ensures c.requires.event in
    subst (All (λ u. u < marks_of c.args.board.now)) (sym c.at.ensures)
    (subst (λ (n : ℕ). All (λ u. u < n) (slice_index_or c.args.index.now c.pair-v.result.0 []))
    (sym (ap marks_in t.1)) (index_units t.0 c.args.index.now t.2 c.pair-v.result.0 near))

pub loop-i-preserved : goal.loop-i-preserved
loop-i-preserved c =
    let i : ℕ = c.loop-i.i in
    let inv = c.loop-i.invariant in
    let d : View = view c.args.pass.now in
    let p : ℕ × ℕ = c.pair-v.result in
    let cube : Cube = c.args.cube.now in
    let near = all_at (λ (p : ℕ × ℕ). p.0 < length c.args.index.now) cube i p c.pair-v.ensures c.requires.event in
    let us : List ℕ = slice_index_or c.args.index.now p.0 [] in
    let next : suc i ≡ i + 1 = omega arith in
    let t = c.requires.index in
    let owed : d.owed ≡ sharing (Listed t.0) cube = c.requires.owed
    ∙ ap (λ (x : Option Opening). sharers x cube) c.requires.pass.0.1 ∙ ap (λ (f : Family). sharing f cube) t.1 in
    let e : View = view c.mark_each.new.pass in
    let marked = subst (λ (l : List ℕ). Marked l (view c.loop-i.pass) e) c.at.ensures c.mark_each.ensures.marked in
    record {
      pass = c.mark_each.ensures.pass;
      units = inv.units ++ us;
      marked = marked_then inv.units us d (view c.loop-i.pass) e inv.marked marked;
      owed = λ u there. ⊎_elim (λ (m : In u inv.units). inv.owed u m)
          (λ (m : In u us). subst (In u) (sym owed) (row_shares t.0 c.args.index.now p cube t.2 near
          (in_at cube i p c.pair-v.ensures) u m)) (in_append u inv.units us there);
      wait = λ rows is index. subst (λ (j : ℕ). Waits rows (drop j cube) (inv.units ++ us) d.owed) next
          (next_waits rows c.args.index.now p (drop (suc i) cube) inv.units d.owed index near
          (subst (λ (l : Cube). Waits rows l inv.units d.owed) (turn cube i p c.pair-v.ensures)
          (inv.wait rows is index)));
    }

pub returns-clause-view : goal.returns-clause-view
returns-clause-view c =
    let inv = c.loop-i.invariant in let t = c.requires.index in
    let end = drop_all c.loop-i.i c.args.cube.now (omega arith) in
    (marked_all t.0 _ inv.units _ _ inv.marked inv.owed c.requires.taken end (inv.wait t.0 t.1 t.2)).0

pub returns-clause-marks : goal.returns-clause-marks
returns-clause-marks c =
    let inv = c.loop-i.invariant in let t = c.requires.index in
    let end = drop_all c.loop-i.i c.args.cube.now (omega arith) in
    (marked_all t.0 _ inv.units _ _ inv.marked inv.owed c.requires.taken end (inv.wait t.0 t.1 t.2)).1
