use Rattle.run_cert.proofs.PrintedCerts as printed
use Rattle.run_cert.proofs.laws.printed_is_read.Goals as goal

pub returns : goal.returns
returns c = printed.printed_is_read
