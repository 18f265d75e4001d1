use Rattle.top_call.proofs.ReplayedCerts.{line_refused, text_refused}
use Rattle.job_subjects.specs.Refusals.{IsRefusal}
use Rattle.top_call.specs.Replays.{IsRefusedCert}
use Rattle.job_subjects.proofs.Carrying.{refused_error}
use Rattle.top_call.proofs.replaying.accept.Goals as goal

-- what refuses the line of the certificate's command refuses it
pub returns-in_err-made-clause-refused : goal.returns-in_err-made-clause-refused
returns-in_err-made-clause-refused c =
    refused_error (IsRefusal (IsRefusedCert c.args.cert.now)) c.from_residual.result c.in_err-made.field-0.0
    c.from_residual.ensures.1 (line_refused c.args.cert.now c.in_err-made.field-0.0 c.in_err-made.ensures.refused)

-- so does what refuses its log text
pub returns-in_err-reached-clause-refused : goal.returns-in_err-reached-clause-refused
returns-in_err-reached-clause-refused c =
    refused_error (IsRefusal (IsRefusedCert c.args.cert.now)) c.from_residual-in_err-reached.result
    c.in_err-reached.field-0.0 c.from_residual-in_err-reached.ensures.1
    (text_refused c.args.cert.now c.in_ok-made.made.facts c.raised-instance.result c.in_err-reached.field-0.0
    (record {
      made = rw c.raised-instance.ensures c.in_ok-made.ensures.made;
      is = c.run_of.ensures.instance;
      numbers = c.run_of.ensures.numbers;
    })
    (rw c.log_text.ensures at c.in_err-reached.ensures.refused))

-- what the certificate holds
pub returns-clause-held : goal.returns-clause-held
returns-clause-held c = record {
  command_is = c.command.ensures;
  paused_is = c.requires.command;
  certified = record {
    made = rw c.raised-instance.ensures c.in_ok-made.ensures.made;
    is = c.run_of.ensures.instance;
    numbers = c.run_of.ensures.numbers;
  };
  read = rw c.log_text.ensures at c.in_ok-reached.ensures.read;
  told = rw c.raised-instance.ensures c.in_ok-made.ensures.told;
  extremal = λ ordered. rw c.raised-instance.ensures (c.in_ok-made.ensures.extremal ordered);
  run = c.in_ok-reached.ensures.run;
}
