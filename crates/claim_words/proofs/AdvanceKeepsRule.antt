-- An advance preserves the rule: the word's cursor rises by 1, and one advance less is due.
use Rattle.std.proofs.Common.{◌≡◌, ℕ, ◌+◌, ◌%◌, ◌^◌, ◌<◌, List, get_or, set, sym, refl, ap, subst, inl, inr, arith, Some}
use Rattle.claim_words.specs.Plays.{AdvanceTold}
use mathlib.Core.Option.{some}
use lib.ListN.{get_elem?}
use Rattle.atomic_table.specs.Table.{State, Me, keeps, Allows}
use Rattle.claim_words.specs.declared.view.View.{View}
use Rattle.claim_words.specs.declared.opening.Opening.{Opening}
use Rattle.claim_words.specs.Words.{variable_at, cursor_in, Formed}
use Rattle.claim_words.specs.Maps.{times, without}
use Rattle.claim_words.specs.Openings.{count}
use Rattle.claim_words.specs.Steps.{advanced_by}
use Rattle.claim_words.specs.Machine.{IsHeldAt, IsFoundAt, IsSettledAt, Agrees, Sound}
use Rattle.claim_words.proofs.Totals.{each-raise, each-map, times-raise, term_le, times-without_same, times-without_other}
use Rattle.claim_words.proofs.WordMoves.{Moved, one_moves, moved, at_place, share_kept, held_word}

module _ {S : Type 0} (k : Opening) (s : State S View) (o : Sound k s) (id v : ℕ) (d : View)
    (me : get_elem? s.views id ≡ some d) (live : d.opening ≡ Some k) (near : v < count k)
    (one_due : times v d.due ≡ 1) where
  -- the word that the step finds
  abbrev was : ℕ
  was = get_or s.words (1 + v) 0

  -- the words after it
  abbrev new : List ℕ
  new = set s.words (1 + v) (was + 1)

  -- the view after it
  abbrev next : View
  next = advanced_by d v

  -- the pass holds the variable, once
  one_held : times v d.held ≡ 1
  one_held =
      let a = o.agree id d me in let f : Formed was = o.formed v near in let f₂ = f.2 in
      let le = term_le (λ (x : View). times v x.held) s.views id d me in
      omega (arith, one_due, a.due v, o.held_once v near)

  -- the word is a cursor more
  moves : Moved k new d next 0 was (was + 1) v
  moves =
      let f : Formed was = o.formed v near in let f₀ = f.0 in let f₁ = f.1 in let f₂ = f.2 in let f₃ = f.3 in
      let bits = held_word k s o id v d me one_held in let unset = bits.2 in
      let tall = o.heights v near in let low = o.history.low v near in
      let part = term_le (λ (x : View). times v x.due) s.views id d me in
      let one = one_due in
      let next : cursor_in (was + 1) ≡ cursor_in was + 1 = omega arith in record {
        formed = (omega arith, omega arith, omega arith, omega arith);
        level = omega (arith, times-without_same v d.due);
        grows = omega arith;
        holder = inr one_held;
        held = omega (arith, times-raise v v d.held);
        keeps = λ q. absurd (omega arith);
        settles = inl (omega arith);
        knows = omega arith;
      }

  -- so do all
  each : (u : ℕ) → u < count k → Moved k new d next 0 (get_or s.words (1 + u) 0) (get_or new (1 + u) 0) u
  each = one_moves k s o v (was + 1) d next near moves
      (λ u ne. (times-raise v u d.held, omega (arith, times-without_other v u d.due ne), omega arith))

  -- the view agrees with the words after the step
  agrees : Agrees k new next
  agrees =
      let a = o.agree id d me in record {
        live = inl (live, share_kept k s o id d me live);
        held = each-raise (IsHeldAt k s.words) (IsHeldAt k new) v d.held
            (λ p e h. (
              h.0,
              omega (
                arith,
                h.1,
                (each p.0 h.0).level,
                ap (λ (x : ℕ). times x (without v d.due)) e,
                times-without_same v d.due,
                ap (λ (x : ℕ). times x d.due) e,
                one_due,
              ),
            ))
            (λ p ne h. (h.0, omega (arith, h.1, (each p.0 h.0).level, times-without_other v p.0 d.due ne))) a.held;
        found = each-map (IsFoundAt k s.words) (IsFoundAt k new)
            (λ p h. (h.0, omega (arith, h.1, (each p.0 h.0).grows))) d.found a.found;
        knows = each-map (IsSettledAt k s.words) (IsSettledAt k new)
            (λ p h. let q = (each p.0 h.0).keeps h.1 in (h.0, omega (arith, h.1, q), omega (arith, h.2, ap cursor_in q)))
            d.settled a.knows;
        taken = a.taken;
        due = λ u. let old = a.due u in
            grind (arith, times-without_same v d.due, times-without_other v u d.due, times-raise v u d.held, old);
      }

-- 1 may be added to the word of a variable whose advance is due
pub advances : {S : Type 0} (k : Opening) (slots id : ℕ) (m : Me S View) (i v : ℕ) → i ≡ 1 + v → v < count k
    → m.0.opening ≡ Some k → times v m.0.due ≡ 1
    → Allows (Sound k) slots id m i (λ x. (x + 1) % 2 ^ 64) (λ r n. AdvanceTold m (variable_at i) r n)
advances k slots id m i v is near live one =
    at_place k slots id m (λ x. (x + 1) % 2 ^ 64) (AdvanceTold m) i (1 + v) v (variable_at i) is (omega (arith, is))
    (λ s o _ me small.
    let d : View = m.0 in let w : ℕ = get_or s.words (1 + v) 0 in let e : View = advanced_by d v in
    let held = held_word k s o id v d me (one_held k s o id v d me live near one) in
    let formed = (moves k s o id v d me live near one).formed in let f₀ = formed.0 in let f₁ = formed.1 in
    let f₂ = formed.2 in let f₃ = formed.3 in
    let wraps : (w + 1) % 2 ^ 64 ≡ w + 1 = omega arith in (
      e,
      keeps,
      tt,
      subst (λ (x : ℕ). Sound k (record { words = set s.words (1 + v) x; homes = s.homes; views = set s.views id e }))
          (sym wraps)
          (moved k s o id (1 + v) (w + 1) d e me (each k s o id v d me live near one) (refl, refl)
          (agrees k s o id v d me live near one) (omega arith) (omega arith) (refl, refl, refl)),
      (refl, held.3),
    ))
