use Rattle.std.proofs.Common.{◌+◌, ◌<◌, ℕ, length, refl, sym, ap, subst, ◌∙◌, below_more, arith}
use Rattle.pop_model.specs.Runs.{IsEnd, IsStuckList}
use Rattle.pop_stacks.specs.Readers.{Belongs}
use Rattle.confluence_core.specs.CycleTables.{CycleTable, AreCursors, cycles}
use Rattle.confluence_core.specs.Walks.{IsSettled, HasRoom}
use Rattle.confluence_core.specs.Steps.{RunsOn}
use Rattle.confluence_core.proofs.WholeWalks.{walks_end, walks_stuck}
use Rattle.confluence_core.proofs.Runnings.{runs_none, runs_then}
use Rattle.confluence_core.proofs.walk.left_by_walks.Goals as goal

pub loop-v-init : goal.loop-v-init
loop-v-init c = record {
  stands = c.in_ok-walk.ensures.stands;
  settled = λ v less. absurd (omega arith);
  runs = subst (RunsOn c.args.current c.args.walked) (sym c.in_ok-walk.ensures.walked) (runs_none c.args.walked.stuck);
  current = c.in_ok-walk.ensures.current;
  reader = refl;
}

pub settle-requires-clause-belongs : goal.settle-requires-clause-belongs
settle-requires-clause-belongs c =
    let old = c.loop-v.invariant in
    subst (λ (t : CycleTable). Belongs t.stacks c.loop-v.reader) (sym old.current)
    (subst (Belongs c.args.current.stacks) (sym old.reader) c.requires.belongs)

pub loop-v-preserved : goal.loop-v-preserved
loop-v-preserved c =
    let old = c.loop-v.invariant in
    let walk = c.in_ok-settle.ensures in
    let settled : (v : ℕ) → v < c.loop-v.v + 1 → IsSettled c.settle.new.self.marks.items v =
    below_more _ _ (λ v less. walk.stay v (old.settled v less)) walk.settled in
    record {
      stands = walk.stands;
      settled = settled;
      runs = runs_then old.current old.runs walk.runs;
      current = walk.current ∙ old.current;
      reader = c.settle.ensures.reader ∙ old.reader;
    }

pub returns : goal.returns
returns c =
    let old = c.loop-v.invariant in
    let w = c.loop-v.walk in
    let t = c.args.current in
    let left = w.walked in
    let all : (v : ℕ) → v < length w.current.heads → IsSettled w.marks.items v =
    λ v below. old.settled v (omega (
      arith,
      below,
      c.count-v-end.ensures.count,
      c.loop-v-test.false,
      ap (λ (t : CycleTable). length t.heads) (old.current ∙ sym c.in_ok-walk.ensures.current),
    )) in
    record {
      runs = runs_then refl old.runs (runs_none c.sort.new.self);
      cursors = subst (λ t. AreCursors t left.cursors) old.current old.stands.sized.cursors;
      end = λ few. subst (λ t. IsEnd (cycles t) left.cursors) old.current
          (walks_end w.marks.items old.stands.done all (old.stands.last few));
      room = subst (λ t. HasRoom t left) old.current old.stands.room;
      stuck_list = subst (λ t. IsStuckList (cycles t) left.cursors c.sort.new.self) old.current
          (walks_stuck w.marks.items old.stands.done all c.sort.new.self c.sort.ensures.permutation
          c.sort.ensures.sorted);
      reader = old.reader;
    }
