-- What the results of finders say about a unit, if the pass is the only one.
use Rattle.std.proofs.Common.{◌≡◌, ℕ, ◌+◌, ◌<◌, ◌≤◌, true, false, inl, inr, List, [], ◌∷◌, ◌++◌, length, Some, arith, sym, ap, subst, ◌∙◌, length-append, append-nil}
use Rattle.std.proofs.lemmas.List.{length_push}
use Rattle.pop_model.specs.Popping.{Cube, names}
use Rattle.pop_model.specs.Families.{Family, IsEvent}
use Rattle.pop_model.specs.Families.Family.{Listed, Cycles}
use Rattle.pop_model.specs.Instances.{Instance}
use Rattle.pop_model.proofs.CycleFamily.{first_named}
use Rattle.claim_words.specs.declared.opening.Opening.{Opening}
use Rattle.claim_words.specs.declared.view.View.{View}
use Rattle.claim_words.specs.Maps.{In, times}
use Rattle.claim_words.specs.Openings.{is_listed}
use Rattle.claim_words.specs.Steps.{Drawn}
use Rattle.claim_words.proofs.SoleKnowsSettled.{true-false}
use Rattle.claim_words.proofs.Totals.{is_at-yes}
use Rattle.claim_words.specs.Tells.{NonePoppable, SoleKnows}
use Rattle.claim_words.specs.TicketLogs.{IsLegalFrom}
use Rattle.event_finders.specs.declared.tried.Tried.{Tried}
use Rattle.event_finders.specs.declared.tried.Tried.TheVariants.{Popped, Cleared, Stuck, Busy, Idle, OutOfMemory}
use Rattle.event_finders.specs.UnitAnswers.{IsTried, KeepsRecords, SoleLearns}
use Rattle.event_finders.specs.Walks.{PopsCycles, IsWalkAnswer}
use Rattle.pop_workers.specs.Attempts.{Goes, FindsAlone, found_in}

module _ (i : Instance) (k : Opening) (d e : View) (u : ℕ) (share : e.share ≡ d.share)
    (opening : e.opening ≡ Some k) where
  -- one record more
  one_more : (x : Drawn) → e.mine ≡ d.mine ++ x ∷ [] → length e.mine ≡ length d.mine + 1
  one_more x is = ap length is ∙ length_push d.mine x

  -- the records as they were
  none_more : e.mine ≡ d.mine → Goes d e
  none_more keeps = record { share = share; more = let same = ap length keeps in omega (arith, same) }

  -- a try at a unit adds no record, or one
  pub unit_goes : (answer : Tried) → IsTried i d e u answer → KeepsRecords d e answer → Goes d e
  unit_goes (Popped t) tried keeps = record {
    share = share;
    more = let one = one_more _ tried.2.mine in omega (arith, one);
  }
  unit_goes (Cleared v c) tried keeps = none_more keeps
  unit_goes (Stuck v c) tried keeps = none_more keeps
  unit_goes (Busy v w) tried keeps = none_more keeps
  unit_goes Idle tried keeps = none_more keeps
  unit_goes OutOfMemory tried keeps = none_more keeps

  -- what is ruled out, with the records as they were
  ruled_out : d.share ≡ 64 → e.mine ≡ d.mine → (e.share ≡ 64 → NonePoppable k e u) → (pops : ℕ)
      → NonePoppable k e u × (IsLegalFrom k d.mine → IsLegalFrom k e.mine) × (pops ≡ 1 → e.mine ≡ d.mine)
  ruled_out sole same out pops = (out (share ∙ sole), subst (IsLegalFrom k) (sym same), λ _. same)

  -- what a sole pass finds by a try at a unit
  pub unit_finds : (answer : Tried) → IsTried i d e u answer → KeepsRecords d e answer → SoleLearns k e u answer
      → d.share ≡ 64 → (pops : ℕ) → FindsAlone k d e u pops (found_in answer)
  unit_finds (Popped t) tried keeps sole all pops =
      (let one = one_more _ tried.2.mine in omega (arith, one), (sole k opening (share ∙ all)).0)
  unit_finds (Cleared v c) tried keeps sole all pops = ruled_out all keeps sole pops
  unit_finds (Stuck v c) tried keeps sole all pops = ruled_out all keeps sole pops
  unit_finds (Busy v w) tried keeps sole all pops = tried.2.shared all
  unit_finds Idle tried keeps sole all pops = ruled_out all keeps sole pops
  unit_finds OutOfMemory tried keeps sole all pops = tt

-- a variable that is known to be settled is known so at least once
settled_once : (v c : ℕ) (l : List (ℕ × ℕ)) → In (v, c) l → 1 ≤ times v l
settled_once v c [] there = absurd there
settled_once v c (p ∷ l) (inl is) = let here = is_at-yes v p (ap (λ (q : ℕ × ℕ). q.0) is) in omega (arith, here)
settled_once v c (p ∷ l) (inr later) = let rest = settled_once v c l later in omega (arith, rest)

-- a cycle has the variable that is its unit
has_unit : (f : Family) (v : ℕ) (cube : Cube) → is_listed f ≡ false → IsEvent f (record { unit = v; cube = cube })
    → names cube v ≡ true
has_unit (Listed rows) v cube cycles event = absurd (true-false cycles)
has_unit (Cycles heads) v cube cycles (cycle, unit) =
    subst (λ w. names cube w ≡ true) (sym unit) (first_named cube cycle.cube)

-- no cycle that is poppable has a settled variable, so none has one as its unit
settled_rules_out : (k : Opening) (e : View) (v c : ℕ) → is_listed k.instance.value.family ≡ false
    → e.opening ≡ Some k → e.share ≡ 64 → In (v, c) e.settled → SoleKnows e → NonePoppable k e v
settled_rules_out k e v c cycles opening all there knows cube event poppable =
    let none = (knows k opening all).1 (record { unit = v; cube = cube }) cycles event poppable v
    (has_unit k.instance.value.family v cube cycles event) in
    let some = settled_once v c e.settled there in
    omega (arith, none, some)

module _ (k : Opening) (d e : View) (start pops : ℕ) (share : e.share ≡ d.share) (opening : e.opening ≡ Some k)
    (cycles : is_listed k.instance.value.family ≡ false) (some : 1 ≤ pops) (all : d.share ≡ 64) where
  -- none popped where fewer than one was
  none_popped : (added : List Drawn) → e.mine ≡ d.mine ++ added → length added < pops → pops ≡ 1 → e.mine ≡ d.mine
  none_popped [] mine few one = mine ∙ append-nil d.mine
  none_popped (r ∷ added) mine few one = absurd (omega (arith, few, one))

  -- what a sole pass finds by a walk
  pub walk_finds : (answer : Tried) → PopsCycles k d e pops start answer → IsWalkAnswer k d e pops start answer
      → FindsAlone k d e start pops (found_in answer)
  walk_finds (Popped t) popped knows =
      let size = length-append d.mine popped.0 in
      let same = ap length popped.1.mine in
      (omega (arith, size, same, popped.2.3, some), (knows k opening (share ∙ all)).0)
  walk_finds (Cleared v c) popped says =
      let sole = share ∙ all in (
        subst (NonePoppable k e) says.0 (settled_rules_out k e v c cycles opening sole says.1 says.2),
        λ _. (says.2 k opening sole).0,
        none_popped popped.0 popped.1.mine popped.2,
      )
  walk_finds (Stuck v c) popped says = absurd says
  walk_finds (Busy v w) popped says = says.2 all
  walk_finds Idle popped says = absurd says
  walk_finds OutOfMemory popped says = tt
