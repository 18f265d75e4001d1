use Rattle.std.proofs.Common.{◌≡◌, ◌++◌, ◌∷◌, [], ℕ, List, true, refl, sym, ap, subst, ◌∙◌, arith, length, append_assoc, append-nil, Vec, Global}
use Rattle.pop_model.specs.Popping.{Cube, names}
use Rattle.prs_rounds.specs.declared.growth.Growth.{Growth}
use Rattle.pop_instance.specs.Events.{cube_at}
use Rattle.prs_rounds.specs.Growth.{CoversMore, IsNamedBy}
use Rattle.prs_rounds.proofs.CoveringLemmas.{covers_none, covers_both, named_split, named_left, named_right, listed_fewer}
use Rattle.prs_rounds.proofs.growth.Growth.cover_fresh.Goals as goal

-- which events are fresh has no part in what is covered
covers_fewer : (Is : ℕ → Type 0) (old new : Growth) (fresh : Vec ℕ Global) → CoversMore Is old new
    → CoversMore Is old (record new { fresh = fresh })
covers_fewer Is old new fresh covers = record {
  marks = covers.marks;
  looked = covers.looked;
  kept = covers.kept;
  gained = covers.gained;
  only = covers.only;
  place = covers.place;
  size = covers.size;
  long = covers.long;
}

pub loop-u-init : goal.loop-u-init
loop-u-init c = record {
  done = [];
  parts = sym (append-nil c.args.self.now.fresh.items);
  covers = covers_none (IsNamedBy c.args.events.now []) (λ v is. let none = is.1 in omega (arith, none.1))
      c.args.self.now;
  listed = c.requires.listed;
}

pub loop-u-preserved : goal.loop-u-preserved
loop-u-preserved c =
    let rows = c.args.events.now in
    let old = c.loop-u.invariant in
    let u : ℕ = c.in-Some.u in
    let popped : Growth = record c.loop-u.self { fresh = c.pop.new.self } in
    let covers : CoversMore (λ v. names (cube_at rows u) v ≡ true) popped c.cover.new.self =
    subst (λ (e : Cube). CoversMore (λ v. names e v ≡ true) popped c.cover.new.self) c.cube.ensures
    c.in_ok-cover.ensures.covers in
    let before = covers_fewer (IsNamedBy rows old.done) c.args.self.now c.loop-u.self c.pop.new.self old.covers in
    record {
      done = u ∷ old.done;
      parts = old.parts ∙ ap (λ (xs : List ℕ). xs ++ old.done) c.in-Some.ensures.items
          ∙ append_assoc c.pop.new.self.items (u ∷ []) old.done
          ∙ ap (λ x. x.items ++ u ∷ old.done) (sym c.in_ok-cover.ensures.fresh);
      covers = covers_both (IsNamedBy rows old.done) (λ v. names (cube_at rows u) v ≡ true)
          (IsNamedBy rows (u ∷ old.done))
          c.args.self.now popped c.cover.new.self (named_split rows u old.done) (named_left rows u old.done)
          (named_right rows u old.done) before covers;
      listed = c.in_ok-cover.ensures.listed (length rows) (length c.args.self.now.covered.items)
          (listed_fewer (length rows) (length c.args.self.now.covered.items) c.loop-u.self u popped refl refl refl refl
          c.in-Some.ensures.items old.listed);
    }

-- a list of no length in front changes nothing
none_in_front : (xs ys : List ℕ) → length xs ≡ 0 → xs ++ ys ≡ ys
none_in_front [] ys none = refl
none_in_front (x ∷ xs) ys none = absurd (omega arith)

pub returns-clause-covers : goal.returns-clause-covers
returns-clause-covers c =
    let rows = c.args.events.now in
    let old = c.loop-u.invariant in
    let all : old.done ≡ c.args.self.now.fresh.items =
    sym (old.parts ∙ none_in_front c.loop-u.self.fresh.items old.done
    (omega (arith, c.in_default.ensures.cases.0, c.loop-u.self.fresh.ok))) in
    let now = covers_fewer (IsNamedBy rows old.done) c.args.self.now c.loop-u.self c.pop.new.self old.covers in
    subst (λ (us : List ℕ). CoversMore (IsNamedBy rows us) c.args.self.now
    (record c.loop-u.self { fresh = c.pop.new.self })) all now
