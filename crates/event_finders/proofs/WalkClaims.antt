-- How a claim of a variable changes the parts of a view that a walk reads.
use Rattle.std.proofs.Common.{inr, Bool, ◌≡◌, ◌≢◌, ℕ, ◌<◌, true, false, [], ◌∷◌, ◌++◌, length, cond, sym, ap, subst, ◌∙◌, arith}
use Rattle.pop_model.specs.Popping.{variables}
use Rattle.claim_words.specs.Words.{cursor_in, is_settled}
use Rattle.claim_words.specs.Maps.{Pairs, In, times_in}
use Rattle.claim_words.specs.Answers.{Claims}
use Rattle.claim_words.specs.declared.opening.Opening.{Opening}
use Rattle.claim_words.specs.declared.view.View.{View}
use Rattle.claim_words.specs.declared.pass.Pass.{Pass}
use Rattle.claim_words.specs.Passes.{view}
use Rattle.claim_words.specs.Tells.{SoleKnows}
use Rattle.confluence_core.specs.CycleTables.{CycleTable}
use Rattle.claim_words.specs.declared.claim.Claim.{Claim}
use Rattle.claim_words.specs.declared.claim.Claim.TheVariants.{Mine, Busy as Refused}
use Rattle.claim_words.proofs.ClaimKeepsRule.{held_after}
use Rattle.claim_words.proofs.HeldLemmas.{times-variables}
use Rattle.event_finders.specs.Walks.{IsBusy}
use Rattle.event_finders.specs.Trails.{Trail, Stands}
use Rattle.event_finders.specs.WalkSteps.{IsWalking, HasSpare, Same}

-- what was in a list is in it where a member may have come in
known_more : (b : Bool) (p x : ℕ × ℕ) (l : Pairs) → In p l → In p (cond b (x ∷ l) l)
known_more true p x l i = inr i
known_more false p x l i = i

module _ (d : View) (v : ℕ) (e : View) where
  -- it leaves share, marks and tickets
  pub claim_same : (claim : Claim) → Claims d v e claim → Same d e
  claim_same claim is = record {
    stays = record {
      share = ap (λ (x : View). x.share) is.1.view;
      moves = ap (λ (x : View). x.moves) is.1.view;
      taken = ap (λ (x : View). x.taken) is.1.view;
      owed = ap (λ (x : View). x.owed) is.1.view;
      changes = ap (λ (x : View). x.changes) is.1.view;
    };
    mine = ap (λ (x : View). x.mine) is.1.view;
    known = λ p i. subst (In p) (sym (ap (λ (x : View). x.settled) is.1.view))
        (known_more (is_settled is.0) p (v, cursor_in is.0) d.settled i);
  }

  -- a claim that was granted is held
  pub mine_held : (c : ℕ) → Claims d v e (Mine c) → e.held ≡ d.held ++ (v, c) ∷ []
  mine_held c is =
      held_after d e v is.0 is.1.view is.2.0 ∙ ap (λ (n : ℕ). d.held ++ (v, n) ∷ []) (sym is.2.1)

  -- a claim of a variable that isn't held was refused by another pass, so the pass isn't sole
  pub refused_shared : (w : ℕ) → Claims d v e (Refused w) → times_in v (variables d.held) ≡ 0 → e.share ≢ 64
  refused_shared w is free sole =
      let alone : d.share ≡ 64 = sym (ap (λ (x : View). x.share) is.1.view) ∙ sole in
      omega (arith, is.1.refused alone is.2.0 is.2.1, times-variables v d.held, free)

  -- and the word that it found is claimed
  pub refused_busy : (w : ℕ) → Claims d v e (Refused w) → IsBusy w
  refused_busy w is = subst IsBusy (sym is.2.2) (is.2.0, is.2.1)

-- a walk that stands somewhere, with room to go on, walks on
pub walks_on : {k : Opening} {pass next : Pass} {g : CycleTable} {old t : Trail} → IsWalking k pass g old
    → Stands k (view next) t → HasSpare next t → 0 < length t.path → SoleKnows (view next) → IsWalking k next g t
walks_on is stands spare some sole =
    record { table = is.table; stands = stands; spare = spare; some = some; sole = sole }
