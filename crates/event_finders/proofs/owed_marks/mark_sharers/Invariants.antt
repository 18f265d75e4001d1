use Rattle.std.proofs.Common.{◌≡◌, List, ℕ, drop}
use Rattle.pop_model.specs.Families.Family.{Listed}
use Rattle.pop_model.specs.Popping.{Cube}
use Rattle.pop_instance.specs.Index.{IsIndex}
use Rattle.claim_words.specs.Maps.{In}
use Rattle.claim_words.specs.Passes.{IsOf, view, instance_of}
use Rattle.event_finders.specs.OwedMarks.{Marked}
use Rattle.event_finders.proofs.OwedMarksLemmas.{Waits}
use Rattle.event_finders.proofs.owed_marks.mark_sharers.Given as goal

-- units that were owed are marked; what is owed still shares a variable with the pairs from here on
abbrev pub invariant-loop-i : goal.invariant-loop-i
invariant-loop-i l = record {
  pass : IsOf l.board l.pass;
  units : List ℕ;
  marked : Marked units (view l.initial.pass) (view l.pass);
  owed : (u : ℕ) → In u units → In u (view l.initial.pass).owed;
  wait : (rows : List (ℕ × Cube)) → (instance_of l.board).family ≡ Listed rows → IsIndex rows l.index
      → Waits rows (drop l.i l.cube) units (view l.initial.pass).owed;
}
