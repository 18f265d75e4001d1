-- The words of a board at its start satisfy the rule, with the view of its first pass.
use Rattle.std.proofs.Common.{◌≡◌, ℕ, suc, ◌+◌, ◌^◌, ◌<◌, List, [], ◌∷◌, ◌++◌, length, get_or, sym, refl, ap, ◌∙◌, subst, inl, ⊎_elim, arith, replicate}
use mathlib.Core.Option.{some, some-ne-none}
use lib.ListN.{get_elem?}
use Rattle.std.proofs.lemmas.List.{length-append, length-replicate, get_or-append-add, get_or-replicate, get_or_append_left}
use Rattle.atomic_table.specs.Table.{opening}
use Rattle.atomic_table.proofs.Lists.{at_snoc}
use Rattle.pop_model.specs.Instances.{FamilyFits}
use Rattle.claim_words.specs.declared.view.View.{View}
use Rattle.claim_words.specs.declared.opening.Opening.{Opening}
use Rattle.claim_words.specs.Words.{cursor_in}
use Rattle.claim_words.specs.Maps.{In, below}
use Rattle.claim_words.specs.Openings.{count, height, begun, marks}
use Rattle.claim_words.specs.Steps.{Drawn, fresh}
use Rattle.claim_words.specs.Machine.{Agrees, Member, Sound, Opens}

-- the words of a start: no ticket, the cursors, and ones
pub opens : (k : Opening) (ws xs : List ℕ) → ws ≡ (0 ∷ xs) ++ replicate (marks k) 1 → k.start.value ≡ xs
    → length xs ≡ count k → count k < 2 ^ 31 → FamilyFits k.instance.value.stacks k.instance.value.family
    → ((v : ℕ) → v < count k → (get_or xs v 0 < height k v) × (height k v < 2 ^ 31)) → Opens k ws
opens k ws xs to from long narrow fits low = record {
  wide =
      let ones : List ℕ = replicate (marks k) 1 in
      let long_ones : length ones ≡ marks k = length-replicate {A = ℕ} (marks k) 1 in
      omega (arith, ap length to, length-append (0 ∷ xs) ones, long_ones);
  tickets = ap (λ (l : List ℕ). get_or l 0 0) to;
  narrow = narrow;
  fits = fits;
  counted = ap length from ∙ long;
  marked = λ u h. let here : 1 + count k + u ≡ length (0 ∷ xs) + u = omega (arith, long) in
      ap (λ (l : List ℕ). get_or l (1 + count k + u) 0) to
      ∙ ap (λ (i : ℕ). get_or ((0 ∷ xs) ++ replicate (marks k) 1) i 0) here
      ∙ get_or-append-add (0 ∷ xs) (replicate (marks k) 1) u 0 ∙ get_or-replicate (marks k) u 1 0 h;
  at = λ v h. let next : 1 + v ≡ suc v = omega arith in (
    ap (λ (l : List ℕ). get_or l (1 + v) 0) to
        ∙ get_or_append_left (0 ∷ xs) (replicate (marks k) 1) 0 (1 + v) (omega arith)
        ∙ ap (λ (i : ℕ). get_or (0 ∷ xs) i 0) next ∙ ap (λ (l : List ℕ). get_or l v 0) (sym from),
    subst (λ (l : List ℕ). get_or l v 0 < height k v) (sym from) (low v h).0,
    (low v h).1,
  );
}

module _ {S : Type 0} (k : Opening) (ws : List ℕ) (hs : List S) (o : Opens k ws) where
  -- no pass has a record
  no_member : (r : Drawn) → Member k (opening ws hs (fresh k)) r → ⊥
  no_member r m = ⊎_elim
      (λ (t : get_elem? [] m.0 ≡ some m.1). some-ne-none m.1 (sym t))
      (λ (t : fresh k ≡ m.1). let i : In r (fresh k).mine = subst (λ (x : View). In r x.mine) (sym t) m.3 in i)
      (at_snoc [] (fresh k) m.1 m.0 m.2)

  -- the view of the first pass agrees
  first_agrees : Agrees k ws (fresh k)
  first_agrees = record {
    live = inl (refl, omega arith);
    held = tt;
    found = tt;
    knows = tt;
    taken = tt;
    due = λ u. omega arith;
  }

  -- the rule holds at the start
  pub starts : Sound k (opening ws hs (fresh k))
  starts = record {
    wide = o.wide;
    formed = λ v h. let t = o.at v h in
        (omega (arith, t.0), omega (arith, t.0), omega (arith, t.0), omega (arith, t.0));
    heights = λ v h. (o.at v h).2;
    narrow = o.narrow;
    leads = λ v h q. let t = o.at v h in absurd (omega (arith, t.0));
    counted = o.counted;
    fits = o.fits;
    unsettled = λ _ v h. let t = o.at v h in omega (arith, t.0);
    marked = record {
      bits = λ u h. omega (arith, o.marked u h);
      counts = λ u h. omega (arith, o.marked u h);
      covers = λ u h p. inl (o.marked u h);
    };
    known = λ v h. let t = o.at v h in omega (arith, t.0);
    shares = refl;
    held_once = λ v h. let t = o.at v h in omega (arith, t.0);
    agree = λ j x at. ⊎_elim
        (λ (t : get_elem? [] j ≡ some x). absurd (some-ne-none x (sym t)))
        (λ (t : fresh k ≡ x). subst (Agrees k ws) t first_agrees)
        (at_snoc [] (fresh k) x j at);
    history = record {
      tickets = λ f. sym (ap (below f) o.tickets);
      entries = λ v h f. let t = o.at v h in
          let is : cursor_in (get_or ws (1 + v) 0) + 0 ≡ begun k v = omega (arith, t.0) in
          omega (arith, ap (below f) is);
      popped = λ r m. absurd (no_member r m);
      order = λ r q m n. absurd (no_member r m);
      low = λ v h. let t = o.at v h in omega (arith, t.0);
      few = omega (arith, o.tickets);
    };
  }
