use Rattle.std.proofs.Common.{◌≡◌, ℕ, refl, sym, subst, ◌∙◌, length, List, get_or, ◌<◌, arith}
use Rattle.std.proofs.lemmas.Bool.{false≢true}
use Rattle.std.proofs.lemmas.Result.{on_ok_weaker}
use Rattle.pop_instance.specs.Events.{cube_at}
use Rattle.prs_rounds.specs.Growth.{MeetsOther}
use Rattle.std.proofs.lemmas.List.{get_or_default}
use Rattle.prs_rounds.specs.declared.mark.Mark.{Mark}
use Rattle.prs_rounds.specs.declared.mark.Mark.TheVariants.{Free, Joined, Excluded}
use Rattle.prs_rounds.proofs.GrowthLemmas.{listed_marked, judges_marked}
use Rattle.prs_rounds.proofs.growth.Growth.judge.Goals as goal

-- the mark that was read is that of the event
free : (marks : List Mark) (u : ℕ) (m : Mark) → u < length marks → m ≡ get_or marks u m → m ≡ Free
    → get_or marks u Free ≡ Free
free marks u m within read is = get_or_default marks u Free m within ∙ sym read ∙ is

pub returns-then-meets_other-clause-judges : goal.returns-then-meets_other-clause-judges
returns-then-meets_other-clause-judges c =
    let other : MeetsOther c.args.values.now c.args.self.now (cube_at c.args.events.now c.args.u) =
    subst (MeetsOther c.args.values.now c.args.self.now) c.cube.ensures (c.if-meets_other.ensures.0 refl) in
    on_ok_weaker c.exclude.result
    (λ marked. judges_marked (length c.args.events.now) (length c.args.values.now) c.args.u Excluded c.args.self.now
    c.exclude.new.self
    c.requires.known c.requires.listed marked c.args.events.now c.args.values.now
    (free c.args.self.now.marks.items c.args.u c.index.result.now
    (omega (arith, c.requires.known, c.requires.listed.marks)) c.index.ensures c.in-Free.is)
    (c.requires.meets, other)) c.exclude.ensures

pub returns-then-meets_other-clause-listed : goal.returns-then-meets_other-clause-listed
returns-then-meets_other-clause-listed c =
    on_ok_weaker c.exclude.result
    (λ marked. listed_marked (length c.args.events.now) (length c.args.values.now) c.args.u Excluded c.args.self.now
    c.exclude.new.self
    c.requires.known c.requires.listed marked (free c.args.self.now.marks.items c.args.u c.index.result.now
    (omega (arith, c.requires.known, c.requires.listed.marks)) c.index.ensures c.in-Free.is)) c.exclude.ensures

pub returns-else-meets_other-clause-judges : goal.returns-else-meets_other-clause-judges
returns-else-meets_other-clause-judges c =
    let none : MeetsOther c.args.values.now c.args.self.now (cube_at c.args.events.now c.args.u) → ⊥ =
    λ other. false≢true (c.if-meets_other.ensures.1 (subst (MeetsOther c.args.values.now c.args.self.now)
    (sym c.cube.ensures) other)) in
    on_ok_weaker c.join.result
    (λ marked. judges_marked (length c.args.events.now) (length c.args.values.now) c.args.u Joined c.args.self.now
    c.join.new.self
    c.requires.known c.requires.listed marked c.args.events.now c.args.values.now
    (free c.args.self.now.marks.items c.args.u c.index.result.now
    (omega (arith, c.requires.known, c.requires.listed.marks)) c.index.ensures c.in-Free.is)
    (c.requires.meets, none)) c.join.ensures

pub returns-else-meets_other-clause-listed : goal.returns-else-meets_other-clause-listed
returns-else-meets_other-clause-listed c =
    on_ok_weaker c.join.result
    (λ marked. listed_marked (length c.args.events.now) (length c.args.values.now) c.args.u Joined c.args.self.now
    c.join.new.self
    c.requires.known c.requires.listed marked (free c.args.self.now.marks.items c.args.u c.index.result.now
    (omega (arith, c.requires.known, c.requires.listed.marks)) c.index.ensures c.in-Free.is)) c.join.ensures
