use Rattle.std.proofs.Common.{◌≡◌, ◌+◌, ◌<◌, ℕ, true, get_or, refl, subst, ◌∙◌, arith, length, take}
use Rattle.std.proofs.lemmas.Bool.{false≢true}
use Rattle.std.proofs.lemmas.List.{take_all}
use Rattle.std.proofs.lemmas.Option.{get_or_from_slice_get, slice_get_within}
use Rattle.pop_model.specs.Popping.{Cube, names, NamesBelow}
use Rattle.prs_rounds.specs.Growth.{CoversMore}
use Rattle.prs_rounds.proofs.CoveringLemmas.{covers_none, covers_both, covers_one, listed_one, fresh_one, count_one, names_split, names_left, names_right}
use Rattle.prs_rounds.proofs.growth.Growth.cover.Goals as goal

pub loop-i-init : goal.loop-i-init
loop-i-init c = record {
  covers = covers_none (λ v. names (take 0 c.args.cube.now) v ≡ true) (λ v is. false≢true is) c.args.self.now;
  count = refl;
  fresh = refl;
  listed = λ n count listed. listed;
}

-- the variable of a pair is below
pair_below : (e : Cube) (i n : ℕ) (p : ℕ × ℕ) → i < length e → get_or e i (0, 0) ≡ p → NamesBelow e n → p.0 < n
pair_below e i n p within at below = subst (λ (q : ℕ × ℕ). q.0 < n) at (below i (0, 0) within)

pub cover_variable-requires : goal.cover_variable-requires
cover_variable-requires c =
    let e = c.args.cube.now in
    let at = get_or_from_slice_get e c.loop-i.i c.pair-v.result (0, 0) c.pair-v.ensures in
    let within = slice_get_within e c.loop-i.i c.pair-v.result c.pair-v.ensures in
    let below = pair_below e c.loop-i.i (length c.args.self.now.covered.items) c.pair-v.result within at
    c.requires.known in
    record { known = omega (arith, below, c.loop-i.invariant.count) }

pub loop-i-preserved : goal.loop-i-preserved
loop-i-preserved c =
    let e = c.args.cube.now in
    let i = c.loop-i.i in
    let p : ℕ × ℕ = c.pair-v.result in
    let old = c.loop-i.invariant in
    let one = c.in_ok-cover_variable.ensures in
    let at = get_or_from_slice_get e i p (0, 0) c.pair-v.ensures in
    let within = slice_get_within e i p c.pair-v.ensures in
    let below = pair_below e i (length c.args.self.now.covered.items) p within at c.requires.known in
    let inside : p.0 < length c.loop-i.self.covered.items = omega (arith, below, old.count) in
    record {
      covers = covers_both (λ v. names (take i e) v ≡ true) (λ v. v ≡ p.0) (λ v. names (take (i + 1) e) v ≡ true)
          c.args.self.now c.loop-i.self c.cover_variable.new.self (names_split e i p at within) (names_left e i within)
          (names_right e i p at within) old.covers (covers_one p.0 c.loop-i.self c.cover_variable.new.self inside one);
      count = count_one p.0 c.loop-i.self c.cover_variable.new.self one ∙ old.count;
      fresh = fresh_one p.0 c.loop-i.self c.cover_variable.new.self one ∙ old.fresh;
      listed = λ n count listed. listed_one p.0 c.loop-i.self c.cover_variable.new.self inside one n count
          (old.listed n count listed);
    }

pub returns-clause-covers : goal.returns-clause-covers
returns-clause-covers c =
    let e = c.args.cube.now in
    subst (λ (f : Cube). CoversMore (λ v. names f v ≡ true) c.args.self.now c.loop-i.self)
    (take_all c.loop-i.i e (omega arith))
    c.loop-i.invariant.covers
