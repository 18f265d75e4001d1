use Rattle.pop_workers.proofs.FamilyIndexes.{indexed}
use Rattle.pop_workers.proofs.words.work_by.Goals as goal

pub work_with-others-requires-clause-shared : goal.work_with-others-requires-clause-shared
work_with-others-requires-clause-shared g c κs within = record {
  instance = c.requires.board;
  indexed = indexed c.args.instance.now c.args.index.now c.requires.index;
  range = c.requires.range;
}
