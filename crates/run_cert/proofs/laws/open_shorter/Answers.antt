use Rattle.run_cert.proofs.Resumed.{open_shorter as shorter}
use Rattle.run_cert.proofs.laws.open_shorter.Goals as goal

pub returns : goal.returns
returns c = λ i extremal c log other legal run (e, is, poppable).
    shorter i extremal c log other legal e is poppable run.legal run.end
