-- A release preserves the rule.
use Rattle.std.proofs.Common.{◌≡◌, ℕ, ◌+◌, ◌-◌, ◌%◌, ◌^◌, ◌<◌, List, length, get_or, set, sym, refl, subst, inl, inr, arith, Some}
use Rattle.std.specs.Int.Bits.{bit_and}
use Rattle.atomic_table.specs.Table.{Me, keeps, Allows}
use Rattle.claim_words.specs.declared.view.View.{View}
use Rattle.claim_words.specs.declared.opening.Opening.{Opening}
use Rattle.claim_words.specs.Words.{variable_at, Formed}
use Rattle.claim_words.specs.Maps.{times}
use Rattle.claim_words.specs.Openings.{count}
use Rattle.claim_words.specs.Steps.{released_by}
use Rattle.claim_words.specs.Machine.{IsHeldAt, Sound}
use Rattle.claim_words.proofs.Bits.{and_low}
use Rattle.claim_words.proofs.Totals.{times-none, times-without_same, times-without_other, each-without}
use Rattle.claim_words.proofs.WordMoves.{Moved, one_moves, agree_here, moved, at_place, share_kept, held_word}

-- the claimed bit may be cleared in the word of a variable that the pass holds, where no advance is due
pub releases : {S : Type 0} (k : Opening) (slots id : ℕ) (m : Me S View) (i v : ℕ) → i ≡ 1 + v → v < count k
    → m.0.opening ≡ Some k → times v m.0.held ≡ 1 → length m.0.due ≡ 0
    → Allows (Sound k) slots id m i (λ x. bit_and x (2 ^ 63 - 1))
    (λ r n. n ≡ (released_by m.0 (variable_at i), m.1))
releases k slots id m i v is near live one clear =
    at_place k slots id m (λ x. bit_and x (2 ^ 63 - 1)) (λ u r n. n ≡ (released_by m.0 u, m.1)) i (1 + v) v
    (variable_at i) is (omega (arith, is))
    (λ s o _ me small.
    let d : View = m.0 in let w : ℕ = get_or s.words (1 + v) 0 in let n : ℕ = w % 2 ^ 63 in
    let f : Formed w = o.formed v near in let f₀ = f.0 in let f₁ = f.1 in let f₂ = f.2 in let f₃ = f.3 in
    let bits = held_word k s o id v d me one in let set_bit = bits.1 in let unset = bits.2 in
    let e : View = released_by d v in let new : List ℕ = set s.words (1 + v) n in
    let here : Moved k new d e 0 w n v = record {
      formed = (omega arith, omega arith, omega arith, omega arith);
      level = omega arith;
      grows = omega arith;
      holder = inr one;
      held = omega (arith, one, times-without_same v d.held);
      keeps = λ q. absurd (omega arith);
      settles = inl (omega arith);
      knows = omega arith;
    } in
    let each = one_moves k s o v n d e near here
    (λ u ne. (times-without_other v u d.held ne, omega arith, omega arith)) in
    let a = agree_here k s o id (1 + v) n d e me (λ _. 0) each (λ u. omega arith) in (
      e,
      keeps,
      tt,
      subst (λ (x : ℕ). Sound k (record { words = set s.words (1 + v) x; homes = s.homes; views = set s.views id e }))
          (sym (and_low w))
          (moved k s o id (1 + v) n d e me each (refl, refl) (record {
            live = inl (live, share_kept k s o id d me live);
            held = each-without (IsHeldAt k new) v d.held a.held;
            found = a.found;
            knows = a.knows;
            taken = a.taken;
            due = λ u. omega (arith, times-none d.due u clear);
          }) (omega arith) (omega arith) (refl, refl, refl)),
      refl,
    ))
