use Rattle.told_runs.proofs.batching.tell_batch.Goals as goal

pub returns : goal.returns
returns g c = (
  c.in_ok-ends.ends,
  c.in_ok-ends.ensures,
  record {
    status_is = c.status_of_batch-status.ensures;
    out_is = c.in_ok-text.ensures;
  },
)
