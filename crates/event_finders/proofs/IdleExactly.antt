-- `Idle` is the result if and only if the mark that was found is 0: the mark's word has at most one entry.
use Rattle.std.proofs.Common.{◌≡◌, ◌↔◌, ℕ, ◌≤◌, [], drop, length, refl, sym, ap, ◌∙◌, subst, inl, arith}
use Rattle.std.proofs.lemmas.List.{drop_all, drop_at}
use Rattle.claim_words.specs.declared.view.View.{View}
use Rattle.claim_words.specs.Words.{mark_of}
use Rattle.claim_words.specs.Maps.{In, times}
use Rattle.claim_words.specs.Openings.{count_in}
use Rattle.claim_words.proofs.Memberships.{none_in}
use Rattle.event_finders.proofs.CubePrefixes.{in_look}
use Rattle.event_finders.specs.Gains.{gained, SeesWithin}
use Rattle.event_finders.specs.UnitAnswers.{FindsMark}
use Rattle.event_finders.specs.declared.tried.Tried.{Tried}
use Rattle.event_finders.specs.declared.tried.Tried.TheVariants.{Idle, OutOfMemory}

module _ (d e : View) (u : ℕ) (once : SeesWithin 1 d e) where
  -- the word of the mark
  abbrev mark : ℕ
  mark = mark_of (count_in d.opening) u

  -- the entries that came are those that were gained
  added_is : once.added ≡ gained d e
  added_is = sym (ap (drop (length d.seen)) once.seen ∙ drop_at d.seen once.added (length d.seen) refl)

  -- a mark that was 1 was not 0
  not_both : In (mark, 1) (gained d e) → In (mark, 0) (gained d e) → ⊥
  not_both one none =
      let few : times mark (gained d e) ≤ 1 = omega (arith, ap (times mark) added_is, once.within mark) in
      absurd (omega (arith, in_look mark 1 (gained d e) few one, in_look mark 0 (gained d e) few none))

  -- by the answer
  exactly : (answer : Tried) → FindsMark d e u answer → (answer ≡ Idle) ↔ In (mark, 0) (gained d e)
  exactly Idle found = (λ _. subst (In (mark, 0)) (sym found) (inl refl), λ _. refl)
  exactly OutOfMemory same =
      let nothing : gained d e ≡ [] = ap (λ (x : View). drop (length d.seen) x.seen) same
      ∙ drop_all (length d.seen) d.seen (omega arith) in
      (λ is. absurd (cc), λ none. absurd (none_in (mark, 0) (gained d e) nothing none))
  exactly answer found = (λ is. absurd (cc), λ none. absurd (not_both found none))

  -- with the count of the board
  pub idle_exactly : (count : ℕ) → count_in d.opening ≡ count → (answer : Tried) → FindsMark d e u answer
      → (answer ≡ Idle) ↔ In (mark_of count u, 0) (gained d e)
  idle_exactly count is answer found =
      subst (λ (n : ℕ). (answer ≡ Idle) ↔ In (mark_of n u, 0) (gained d e)) is (exactly answer found)
