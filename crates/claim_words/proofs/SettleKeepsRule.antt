-- A settle preserves the rule: from a variable that may be settled the arrows lead on through settled variables.
use Rattle.std.proofs.Common.{◌≡◌, ℕ, ◌+◌, ◌^◌, ◌<◌, ◌≤◌, List, length, get_or, set, sym, refl, ap, ◌∙◌, subst, inl, inr, arith, get_or-set_same, Some, None, false}
use Rattle.claim_words.specs.Plays.{SettleTold}
use mathlib.Core.Option.{some}
use lib.ListN.{get_elem?}
use Rattle.std.specs.Int.Bits.{bit_or}
use Rattle.atomic_table.specs.Table.{State, Me, keeps, Allows}
use Rattle.claim_words.specs.declared.view.View.{View}
use Rattle.claim_words.specs.declared.opening.Opening.{Opening}
use Rattle.claim_words.specs.Words.{variable_at, cursor_in, settled_bit, Formed}
use Rattle.claim_words.specs.Maps.{times, look}
use Rattle.claim_words.specs.Openings.{count, is_listed, head_at}
use Rattle.claim_words.specs.Steps.{settled_by}
use Rattle.claim_words.specs.Conditions.{MaySettle, last, root, known}
use Rattle.claim_words.specs.Machine.{IsHeldAt, IsSettledAt, Leads, Sound, at_last, to_root, goes_on}
use Rattle.claim_words.proofs.Bits.{or_settle}
use Rattle.claim_words.proofs.Totals.{each-look, times-none, at_word, is_at-yes, times-without_same, times-without_other, each-without}
use Rattle.claim_words.proofs.WordMoves.{Moved, one_moves, agree_here, moved, at_place, leads_move, within, share_kept, held_word, knows_after}

-- what may be settled leads on, once the words are new
leads_at : (k : Opening) (new : List ℕ) (d : View) (v : ℕ) → MaySettle k d v
    → look v d.held ≡ cursor_in (get_or new (1 + v) 0)
    → ((u : ℕ) → 1 ≤ times u d.settled
    → (u < count k) × (settled_bit (get_or new (1 + u) 0) ≡ 1) × Leads k new u) → Leads k new v
leads_at k new d v (last h) is known_at = at_last v (omega (arith, h, is))
leads_at k new d v (root h) is known_at = to_root v (subst (λ (x : ℕ). head_at k v x ≡ None) is h)
leads_at k new d v (known u h times) is known_at =
    let z = known_at u times in
    goes_on v u (subst (λ (x : ℕ). head_at k v x ≡ Some u) is h) z.0 z.1 z.2

module _ {S : Type 0} (k : Opening) (s : State S View) (o : Sound k s) (id v : ℕ) (d : View)
    (me : get_elem? s.views id ≡ some d) (live : d.opening ≡ Some k) (near : v < count k)
    (one : times v d.held ≡ 1) (clear : length d.due ≡ 0) (cycles : is_listed k.instance.value.family ≡ false)
    (may : MaySettle k d v) where
  -- the word that the step finds
  abbrev was : ℕ
  was = get_or s.words (1 + v) 0

  -- the word after it
  abbrev now : ℕ
  now = 2 ^ 63 + 2 ^ 62 + cursor_in was

  -- the words after it
  abbrev new : List ℕ
  new = set s.words (1 + v) now

  -- the word is claimed, and not settled
  is_held : was ≡ 2 ^ 63 + cursor_in was
  is_held =
      let f : Formed was = o.formed v near in let f₀ = f.0 in
      let bits = held_word k s o id v d me one in let set_bit = bits.1 in let unset = bits.2 in omega arith

  -- the held cursor is the word's
  held_cursor : look v d.held ≡ cursor_in (get_or new (1 + v) 0)
  held_cursor =
      let f : Formed was = o.formed v near in let f₁ = f.1 in let at = (held_word k s o id v d me one).3 in
      omega (arith, ap cursor_in (get_or-set_same s.words (1 + v) now 0 (within k s o v near)))

  -- the words of settled variables stay
  unchanged : (u : ℕ) → u < count k → settled_bit (get_or s.words (1 + u) 0) ≡ 1
      → get_or new (1 + u) 0 ≡ get_or s.words (1 + u) 0
  unchanged u h q =
      let unset = (held_word k s o id v d me one).2 in
      at_word s.words v now u (λ x. x ≡ get_or s.words (1 + u) 0) (within k s o v near)
      (λ same_v. absurd (omega (arith, ap (λ (x : ℕ). settled_bit (get_or s.words (1 + x) 0)) same_v)))
      (λ _. refl)

  -- v leads on
  leads_on : Leads k new v
  leads_on = leads_at k new d v may held_cursor (λ u times.
      let z = each-look (IsSettledAt k s.words) d.settled u times (o.agree id d me).knows in
      let eq = unchanged u z.0 z.1 in
      (z.0, ap settled_bit eq ∙ z.1, leads_move k s.words new unchanged u eq (o.leads u z.0 z.1)))

  -- the rule stays
  settled : Sound k (record { words = new; homes = s.homes; views = set s.views id (settled_by d v) })
  settled =
      let e : View = settled_by d v in
      let f : Formed was = o.formed v near in let f₀ = f.0 in let f₁ = f.1 in let f₂ = f.2 in let f₃ = f.3 in
      let held = is_held in let bits = held_word k s o id v d me one in let unset = bits.2 in
      let here : Moved k new d e 0 was now v = record {
        formed = (omega arith, omega arith, omega arith, omega arith);
        level = omega arith;
        grows = omega arith;
        holder = inr one;
        held = omega (arith, one, times-without_same v d.held);
        keeps = λ q. absurd (omega arith);
        settles = inr (cycles, leads_on);
        knows = omega (arith, is_at-yes v (v, look v d.held) refl);
      } in
      let each = one_moves k s o v now d e near here
      (λ u ne. (times-without_other v u d.held ne, omega arith, omega arith)) in
      let old = agree_here k s o id (1 + v) now d e me (λ _. 0) each (λ u. omega arith) in
      moved k s o id (1 + v) now d e me each (refl, refl) (record {
        live = inl (live, share_kept k s o id d me live);
        held = each-without (IsHeldAt k new) v d.held old.held;
        found = old.found;
        knows = (
          (near, omega (arith, ap settled_bit (get_or-set_same s.words (1 + v) now 0 (within k s o v near))), sym held_cursor),
          old.knows,
        );
        taken = old.taken;
        due = λ u. omega (arith, times-none d.due u clear);
      }) (omega arith) (omega arith) (refl, refl, refl)

  -- the settled bit is set
  becomes : bit_or was (2 ^ 62) ≡ now
  becomes =
      let f : Formed was = o.formed v near in let f₁ = f.1 in
      subst (λ (x : ℕ). bit_or x (2 ^ 62) ≡ now) (sym is_held) (or_settle (cursor_in was) (omega arith))

-- the settled bit may be set in the word of a variable that the pass holds
pub settles : {S : Type 0} (k : Opening) (slots id : ℕ) (m : Me S View) (i v : ℕ) → i ≡ 1 + v → v < count k
    → m.0.opening ≡ Some k → times v m.0.held ≡ 1 → length m.0.due ≡ 0
    → is_listed k.instance.value.family ≡ false → MaySettle k m.0 v
    → Allows (Sound k) slots id m i (λ x. bit_or x (2 ^ 62)) (λ r n. SettleTold m (variable_at i) r n)
settles k slots id m i v is near live one clear cycles may =
    at_place k slots id m (λ x. bit_or x (2 ^ 62)) (SettleTold m) i (1 + v) v (variable_at i) is (omega (arith, is))
    (λ s o _ me small.
    let w : ℕ = get_or s.words (1 + v) 0 in
    let e : View = settled_by m.0 v in
    let kept : Sound k (record {
      words = set s.words (1 + v)
          (bit_or w (2 ^ 62));
      homes = s.homes;
      views = set s.views id e;
    }) =
    subst (λ (x : ℕ). Sound k (record { words = set s.words (1 + v) x; homes = s.homes; views = set s.views id e }))
    (sym (becomes k s o id v m.0 me live near one clear cycles may))
    (settled k s o id v m.0 me live near one clear cycles may) in (
      e,
      keeps,
      tt,
      kept,
      (refl, knows_after k s o id m.0 e me live (set s.words (1 + v) (bit_or w (2 ^ 62))) kept),
    ))
