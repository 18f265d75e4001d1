use Rattle.std.proofs.Common.{◌≢◌, ℕ, get_or, sym, subst, arith, take}
use Rattle.std.proofs.lemmas.List.{take_more, take_all}
use Rattle.std.proofs.lemmas.List.Elements.{All-push, All-weaker}
use Rattle.pop_instance.specs.Events.{cube_at}
use Rattle.prs_rounds.specs.Growth.{mark_of, AreJudged}
use Rattle.prs_rounds.specs.declared.mark.Mark.TheVariants.{Free}
use Rattle.prs_rounds.proofs.GrowthLemmas.{judges_both, stays_made, meets_after}
use Rattle.prs_rounds.proofs.growth.Growth.judge_row.Goals as goal

pub judge-requires-clause-meets : goal.judge-requires-clause-meets
judge-requires-clause-meets c =
    let row = c.args.row.now in
    let k = c.loop-u.u-index in
    let u : ℕ = get_or row k 0 in
    meets_after c.args.events.now c.args.values.now c.args.self.now c.loop-u.self c.loop-u.invariant.judges
    (cube_at c.args.events.now u)
    (c.requires.meets k 0 c.loop-u-test.true)

pub loop-u-preserved : goal.loop-u-preserved
loop-u-preserved c =
    let rows = c.args.events.now in
    let values = c.args.values.now in
    let row = c.args.row.now in
    let k = c.loop-u.u-index in
    let old = c.loop-u.invariant in
    record {
      judges = judges_both rows values c.args.self.now c.loop-u.self c.judge.new.self old.judges
          c.in_ok-judge.ensures.judges;
      judged = subst (AreJudged c.judge.new.self) (sym (take_more row k 0 c.loop-u-test.true))
          (All-push (λ u. mark_of c.judge.new.self u ≢ Free) (take k row) (get_or row k 0)
          (All-weaker (λ u. mark_of c.loop-u.self u ≢ Free) (λ u. mark_of c.judge.new.self u ≢ Free)
          (stays_made rows values c.args.self.now c.loop-u.self c.judge.new.self old.judges
          c.in_ok-judge.ensures.judges)
          (take k row) old.judged) c.in_ok-judge.ensures.judged);
      listed = c.in_ok-judge.ensures.listed;
    }

pub returns-clause-judged : goal.returns-clause-judged
returns-clause-judged c =
    subst (AreJudged c.loop-u.self) (take_all c.loop-u.u-index c.args.row.now (omega arith)) c.loop-u.invariant.judged
