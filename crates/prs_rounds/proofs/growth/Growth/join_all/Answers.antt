use Rattle.std.proofs.Common.{◌≡◌, ◌≢◌, ◌+◌, ◌<◌, ◌++◌, ◌∷◌, [], ℕ, List, get_or, refl, sym, ap, subst, ◌∙◌, arith, length, take}
use Rattle.std.proofs.lemmas.List.{take_more, get_or_default}
use Rattle.prs_rounds.specs.Growth.{mark_of, AreJoined, AreListed}
use Rattle.prs_rounds.specs.declared.mark.Mark.TheVariants.{Free, Joined}
use Rattle.prs_rounds.specs.declared.growth.Growth.{Growth}
use Rattle.prs_rounds.proofs.GrowthLemmas.{listed_marked}
use Rattle.prs_rounds.proofs.JoinedLemmas.{joined_more, joined_same, joined_none, listed_none}
use Rattle.prs_rounds.proofs.growth.Growth.join_all.Goals as goal
use Rattle.prs_rounds.proofs.growth.Growth.join_all.Goals.{in-Free+in_ok-join, in_default}

pub loop-u-init : goal.loop-u-init
loop-u-init c = record {
  joined = joined_none (length c.args.events.now) (length c.args.self.now.covered.items) c.args.self.now
      c.requires.blank;
  listed = listed_none (length c.args.events.now) (length c.args.self.now.covered.items) c.args.self.now
      c.requires.blank;
  covered = refl;
  variables = refl;
}

pub loop-u-preserved : goal.loop-u-preserved
loop-u-preserved c =
    let n = length c.args.events.now in
    let count = length c.args.self.now.covered.items in
    let places = c.args.places.now in
    let k = c.loop-u.u-index in
    let u : ℕ = get_or places k 0 in
    let old = c.loop-u.invariant in
    let within : u < n = c.requires.known k 0 c.loop-u-test.true in
    let next : take (k + 1) places ≡ take k places ++ u ∷ [] = take_more places k 0 c.loop-u-test.true in
    elim c.match-index.branch [
      | in-Free+in_ok-join w ↦
          let free : mark_of c.loop-u.self u ≡ Free =
          get_or_default c.loop-u.self.marks.items u Free c.index.result.now (omega (arith, within, old.listed.marks))
          ∙ sym c.index.ensures ∙ w.in-Free.is in
          let marked = w.in_ok-join.ensures in
          let all : AreJoined (take (k + 1) places) w.join.new.self =
          subst (λ (us : List ℕ). AreJoined us w.join.new.self) (sym next)
          (joined_more n count (take k places) u c.loop-u.self w.join.new.self within old.listed marked old.joined) in
          let listed : AreListed n count w.join.new.self =
          listed_marked n count u Joined c.loop-u.self w.join.new.self within old.listed marked free in
          record {
            joined = subst (AreJoined (take (k + 1) places)) (sym w.self-is) all;
            listed = subst (AreListed n count) (sym w.self-is) listed;
            covered = ap (λ (g : Growth). g.covered) w.self-is ∙ marked.covered ∙ old.covered;
            variables = ap (λ (g : Growth). g.variables) w.self-is ∙ marked.variables ∙ old.variables;
          }
      | in_default w ↦
          let made : mark_of c.loop-u.self u ≢ Free = λ free. w.in_default.not-Free (c.index.ensures
          ∙ sym (get_or_default c.loop-u.self.marks.items u Free c.index.result.now
          (omega (arith, within, old.listed.marks))) ∙ free) in
          let all : AreJoined (take (k + 1) places) c.loop-u.self =
          subst (λ (us : List ℕ). AreJoined us c.loop-u.self) (sym next)
          (joined_same (take k places) u c.loop-u.self made old.joined) in
          record {
            joined = subst (AreJoined (take (k + 1) places)) (sym w.self-is) all;
            listed = subst (AreListed n count) (sym w.self-is) old.listed;
            covered = ap (λ (g : Growth). g.covered) w.self-is ∙ old.covered;
            variables = ap (λ (g : Growth). g.variables) w.self-is ∙ old.variables;
          }
    ]
