-- A pop whose record is put behind the log leaves a book.
use Rattle.std.proofs.Common.{◌≡◌, ℕ, true, List, [], ◌∷◌, ◌++◌, length, Some, refl, sym, ap, subst, ◌∙◌}
use Rattle.std.proofs.lemmas.List.{length-append}
use Rattle.pop_model.specs.Popping.{AreWithin, IsPoppable, pop}
use Rattle.pop_model.specs.Families.{Event, IsEvent}
use Rattle.pop_model.specs.Instances.{Instance}
use Rattle.pop_model.specs.Logs.{IsLegalAt}
use Rattle.pop_model.proofs.PopLemmas.{length-pop}
use Rattle.pop_model.proofs.Room.{within_pop}
use Rattle.confluence_core.specs.Records.{record_at}
use Rattle.confluence_core.specs.Stretches.{LeadsOn, before_pops, logged}
use Rattle.confluence_core.proofs.Reaching.{leads_then}
use Rattle.lock_board.specs.Books.{Progress, IsBook}

-- the pop of an event whose record is put behind the log
pub book_pop : (i : Instance) (start : List ℕ) (b new : Progress) (e : Event) → IsBook i start b → IsEvent i.family e
    → IsPoppable i.stacks b.cursors e.cube → new.log ≡ b.log ++ record_at e.unit e.cube b.cursors ∷ []
    → new.cursors ≡ pop b.cursors e.cube → IsBook i start new
book_pop i start b new e is event poppable log cursors =
    let r = record_at e.unit e.cube b.cursors in
    let at : IsLegalAt i b.cursors r = record { event = event; poppable = poppable; entries = refl } in
    let one : LeadsOn i (logged b.cursors b.log) (logged new.cursors new.log) = record {
      log = r ∷ [];
      legal = (at, tt);
      cursors_are = cursors;
      pops_are = ap length log ∙ length-append b.log (r ∷ []);
      log_is = ap Some log;
    } in
    record {
      leads = leads_then i (before_pops start true) (logged b.cursors b.log) (logged new.cursors new.log) is.leads one;
      count = is.count ∙ sym (ap length cursors ∙ length-pop b.cursors e.cube);
      within = subst (AreWithin i.stacks) (sym cursors)
          (within_pop i.stacks b.cursors e.cube is.count poppable.next is.within);
    }
