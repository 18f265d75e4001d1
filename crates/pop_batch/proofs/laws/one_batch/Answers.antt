use Rattle.pop_batch.proofs.OneBatch as batches
use Rattle.pop_batch.proofs.laws.one_batch.Goals as goal

pub returns : goal.returns
returns c = batches.one_batch
