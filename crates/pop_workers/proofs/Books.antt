-- A shared book after its workers is a part of a run from its start, with every unit a suspect.
use Rattle.std.proofs.Common.{◌≡◌, ℕ, Bool, cond, List, length, Some, None, refl}
use Rattle.std.specs.List.{range_with_len}
use Rattle.pop_model.specs.Families.{units_of}
use Rattle.pop_model.specs.Instances.{Instance}
use Rattle.confluence_core.specs.Stretches.{IsReached, logged}
use Rattle.confluence_core.proofs.Reaching.{leads_keeping}
use Rattle.confluence_core.proofs.Suspects.{all_known, all_miss_none}
use Rattle.lock_board.specs.Books.{Progress, IsBook}

pub book_reached : (i : Instance) (start : List ℕ) (keeps : Bool) (b : Progress) (suspects : List ℕ) → IsBook i start b
    → suspects ≡ range_with_len 0 (units_of i.family) → IsReached i start keeps (record {
      cursors = b.cursors;
      pops = length b.log;
      log = cond keeps (Some b.log) None;
      suspects = suspects;
    })
book_reached i start keeps b suspects is all = record {
  leads = leads_keeping i start keeps (logged b.cursors b.log) (cond keeps (Some b.log) None) suspects refl is.leads;
  can = record {
    count = is.count;
    within = is.within;
    units = all_known (units_of i.family) suspects all;
    suspects = all_miss_none i b.cursors suspects all;
  };
}
