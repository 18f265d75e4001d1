-- Certificates that are accepted: their log is legal.
use Rattle.std.specs.Prelude.{◌≡◌, ◌≢◌, ℕ, ◌≤◌, true, List, length, Contains, IfSome}
use Rattle.pop_model.specs.Extremal.{IsExtremal}
use Rattle.pop_model.specs.Runs.{start_of}
use Rattle.pop_model.specs.Instances.{Instance}
use Rattle.confluence_core.specs.declared.reached.Reached.{Reached}
use Rattle.confluence_core.specs.Stretches.{IsReached}
use Rattle.pop_log.specs.LogVersions.{IsReadAs}
use Rattle.pop_words.specs.declared.command.Command.TheVariants.{Resample}
use Rattle.pop_words.specs.Options.{paused}
use Rattle.pop_print.specs.Ends.{AreFactsOf}
use Rattle.run_cert.specs.Certificates.{Certificate, IsCertOf}
use Rattle.run_cert.specs.declared.look_kind.Look.{Look}
use Rattle.run_cert.specs.Looks.{IsLook}
use Rattle.told_runs.specs.ReplayTexts.{look_status, replay_text}
use Rattle.top_call.specs.declared.accepted.Accepted.{Accepted}
use Rattle.told_runs.specs.Names.{names_for}
use Rattle.top_call.specs.Replays.{cert_limit, IsCertified}

-- The certificate has this command, which has runs that may stop. It runs this instance, with
-- these facts. The log of the certificate is that by which the run reached this state from zeros.
pub record IsHeldBy (cert : Certificate) (a : Accepted) : Type 0 where
  pub command_is : a.command ≡ cert.head.command
  pub paused_is : Contains paused cert.head.command
  pub certified : IsCertified cert a.facts a.instance
  pub read : IfSome a.reached.log (IsReadAs (names_for a.facts) a.instance cert.log_text)
  pub told : AreFactsOf a.facts a.instance
  pub extremal : cert.head.command ≢ Resample → IsExtremal a.instance.family
  pub run : IsReached a.instance (start_of a.instance) true a.reached

-- the bytes are a certificate that is accepted with this result
pub record IsAccepted (bytes : List ℕ) (a : Accepted) : Type 0 where
  pub short : length bytes ≤ cert_limit
  pub cert : Certificate
  pub is : IsCertOf bytes cert
  pub held : IsHeldBy cert a

-- this status and this text print the state of the run
pub record TellsReplay (i : Instance) (reached : Reached) (status : ℕ) (text : List ℕ) : Type 0 where
  pub look : Look
  pub is : IsLook i reached.cursors look
  pub status_is : status ≡ look_status look
  pub text_is : text ≡ replay_text reached.pops reached.cursors look
