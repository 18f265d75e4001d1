use Rattle.std.proofs.Common.{[], cond, ltb, length, sym, ap, subst, ◌∙◌, arith}
use Rattle.std.specs.List.{range_with_len}
use Rattle.std.proofs.lemmas.Bool.{lt-ltb}
use Rattle.confluence_core.specs.CycleTables.{CycleTable, cycles}
use Rattle.confluence_core.specs.Stretches.{HasCome}
use Rattle.confluence_core.specs.declared.walked.Walked.{Walked}
use Rattle.confluence_core.proofs.Reaching.{come_can, come_room}
use Rattle.confluence_core.proofs.Runnings.{runs_go_on}
use Rattle.confluence_core.proofs.cycle_runs.pop_cycles.Goals as goal

pub left_by_walks-requires-clause-cursors : goal.left_by_walks-requires-clause-cursors
left_by_walks-requires-clause-cursors c =
    let can = come_can _ c.args.reached c.requires.reached in
    rw c.of-current.ensures (record { count = sym can.count ∙ sym c.requires.fits.0; within = can.within })

pub left_by_walks-requires-clause-room : goal.left_by_walks-requires-clause-room
left_by_walks-requires-clause-room c =
    let come : HasCome (cycles c.of-current.result) c.args.reached =
    subst (λ t. HasCome (cycles t) c.args.reached) (sym c.of-current.ensures) c.requires.reached in
    let room = come_room (cycles c.of-current.result) c.args.reached c.count-count.ensures.instance come in
    omega (arith, room)

pub returns : goal.returns
returns c =
    let left : Walked = c.in_ok-left.left in
    let walks = c.in_ok-left.ensures in
    let none = c.in_ok-suspects.ensures in
    let all = none ∙ ap (λ n. cond (ltb left.pops left.limit) [] (range_with_len 0 n))
    (c.count.ensures.count ∙ sym (ap (λ (t : CycleTable). length t.heads) c.of-current.ensures)) in
    let goes = runs_go_on c.args.reached.suspects c.in_ok-suspects.suspects c.count-count.ensures.instance.fits.0
    walks.runs walks.cursors walks.end all in
    record {
      on = rw c.of-current.ensures at goes;
      stuck_list = rw c.of-current.ensures at walks.stuck_list;
      most = λ most. let last = walks.runs.most most in omega (arith, last, walks.runs.limit_is);
      end = λ few. none ∙ ap (λ b. cond b [] (range_with_len 0 c.count.result))
          (lt-ltb left.pops left.limit (omega (arith, few, walks.runs.limit_is)));
      few = omega (arith, walks.room);
      reader = c.left_by_walks.ensures.reader;
    }
