-- The printed form of a job that arguments specify is the text of its certificate: its stacks, their height and its
-- root may be written.
use Rattle.std.proofs.Common.{refl}
use Rattle.pop_words.proofs.JobsInRange.{asked_height, asked_root}
use Rattle.run_cert.specs.Heads.{has_root}
use Rattle.run_cert.specs.Laws.{PrintedIsRead}
use Rattle.run_cert.proofs.AskedStacks.{asked_stacks}
use Rattle.run_cert.proofs.HeadLinesLemmas.{height_may, root_may}

-- so the text is that of the certificate
pub printed_is_read : PrintedIsRead
printed_is_read words job input log_text asks may short = record {
  is = record {
    head = record {
      command = may;
      stacks = asked_stacks words job asks;
      height = height_may job.stacks job.height (asked_height words job asks);
      root = root_may (has_root job.command) job.root (asked_root words job asks);
      size = short;
    };
    size = refl;
  };
  text_is = refl;
}
