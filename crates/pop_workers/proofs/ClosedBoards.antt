-- A closed board gives a legal log from its start, and suspects that are units and miss no poppable event.
use Rattle.std.proofs.Common.{◌≡◌, ℕ, zero, suc, ◌<◌, ◌==◌, Bool, true, false, cond, List, [], ◌∷◌, ◌++◌, length, All, Option, Some, None, IfSome, refl, sym, ap, subst, arith}
use Rattle.std.specs.Prelude.{if◌then◌else◌}
use Rattle.std.proofs.lemmas.List.Elements.{All-push}
use Rattle.pop_model.specs.Stacks.{StackTable, variables_of}
use Rattle.pop_model.specs.Families.{Family, units_of}
use Rattle.pop_model.specs.Families.Family.{Listed, Cycles}
use Rattle.pop_model.specs.Instances.{Instance, IsInstance, FamilyFits}
use Rattle.pop_model.specs.Logs.{LogRecord}
use Rattle.pop_model.specs.Tickets.{AreNumbered}
use Rattle.confluence_core.specs.Stretches.{IsReached, with_more}
use Rattle.confluence_core.specs.Kept.{keeps_log}
use Rattle.confluence_core.specs.declared.reached.Reached.{Reached}
use Rattle.claim_words.specs.declared.closed.Closed.{Closed}
use Rattle.claim_words.specs.Maps.{Pairs, times}
use Rattle.claim_words.specs.Changes.{Change, mark_after}
use Rattle.claim_words.specs.Openings.{is_listed, marks_in}
use Rattle.claim_words.specs.Closing.{Closes, Leaves, set_after, others}
use Rattle.claim_words.specs.Passes.{count_of, instance_of, keep_of, kept_tickets, opening_of, view}
use Rattle.claim_words.specs.declared.board.Board.{Board}
use Rattle.claim_words.specs.declared.pass.Pass.{Pass}
use Rattle.claim_words.specs.TicketLogs.{log_of}
use Rattle.claim_words.proofs.TicketsAreNumbered.{length-below}
use Rattle.pop_workers.specs.Closings.{AreMerged, IsLeftBy}
use Rattle.pop_workers.proofs.OneMerged.{one_merged}

-- all that is below n is below n + 1, and so it is where n is put behind it
one_more : (b : Bool) (n : ℕ) (xs : List ℕ) → All (λ x. x < n) xs → All (λ x. x < suc n) (cond b (xs ++ n ∷ []) xs)
one_more true n xs below =
    All-push (λ x. x < suc n) xs n (λ k d inside. let low = below k d inside in omega (arith, low)) (omega arith)
one_more false n xs below = λ k d inside. let low = below k d inside in omega (arith, low)

-- the units below n whose mark is set are below n
marks_below : (cs : List Change) (n : ℕ) → All (λ u. u < n) (set_after cs n)
marks_below cs zero = λ k d inside. absurd (omega (arith, inside))
marks_below cs (suc n) = one_more (mark_after n cs == 1) n (set_after cs n) (marks_below cs n)

-- the variables below n that are not settled are below n
unset_below : (known : Pairs) (n : ℕ) → All (λ u. u < n) (others known n)
unset_below known zero = λ k d inside. absurd (omega (arith, inside))
unset_below known (suc n) = one_more (times n known == 0) n (others known n) (unset_below known n)

-- the suspects that a pass knows are units
suspects_known : (s : StackTable) (f : Family) (cs : List Change) (known : Pairs) → FamilyFits s f
    → All (λ u. u < units_of f) (cond (is_listed f) (set_after cs (marks_in f)) (others known (variables_of s)))
suspects_known s (Listed rows) cs known fits = marks_below cs (length rows)
suspects_known s (Cycles heads) cs known fits =
    subst (λ n. All (λ u. u < n) (others known (variables_of s))) (sym fits.0) (unset_below known (variables_of s))

module _ (board : Board) (pass : Pass) (closed : Closed)
    (closes : Closes (opening_of board) (view pass) closed.cursors closed.pops)
    (tickets : closed.log ≡ kept_tickets board pass) where
  -- the tickets that are kept are numbered
  pub tickets_numbered : IfSome closed.log AreNumbered
  tickets_numbered = subst (λ t. IfSome t AreNumbered) (sym tickets) (kept (keeps_log (keep_of board)))
    where
      kept : (k : Bool) → IfSome (if k then Some (view pass).mine else None) AreNumbered
      kept true = (log_of (view pass).mine, closes.merged)
      kept false = tt

  -- what was popped is a legal log, which is what the tickets are merged into
  pub closed_reached : (reached : Reached) → Leaves (opening_of board) (view pass) closed.cursors closed.suspects
      → length closed.cursors ≡ count_of board → IsInstance (instance_of board) → IsLeftBy closed reached
      → IsReached (instance_of board) (opening_of board).start.value (keeps_log (keep_of board)) reached
  closed_reached reached leaves count instance left =
      let i : Instance = instance_of board in
      subst (IsReached i (opening_of board).start.value (keeps_log (keep_of board))) (sym left.are) (record {
        leads = record {
          log = log_of (view pass).mine;
          legal = closes.legal;
          cursors_are = closes.cursors_are;
          pops_are = omega (arith, closes.pops_are, length-below (view pass).mine (length (view pass).mine));
          log_is = kept (keeps_log (keep_of board)) reached.log
              (subst (λ t. AreMerged t reached.log) tickets left.merged);
        };
        can = record {
          count = sym count;
          within = closes.whole.low;
          units = subst (All (λ u. u < units_of i.family)) (sym leaves.suspects_are)
              (suspects_known i.stacks i.family (view pass).changes (view pass).settled instance.fits);
          suspects = leaves.missed;
        };
      })
    where
      kept : (k : Bool) (l : Option (List LogRecord)) → AreMerged (if k then Some (view pass).mine else None) l
          → l ≡ with_more (if k then Some [] else None) (log_of (view pass).mine)
      kept true (Some xs) one = ap Some (one_merged (view pass).mine xs (log_of (view pass).mine) one closes.merged)
      kept true None one = absurd one
      kept false (Some xs) one = absurd one
      kept false None one = refl
