use Rattle.std.proofs.Common.{◌≡◌, ◌<◌, length, arith}
use Rattle.std.proofs.lemmas.Bool.{false≢true}
use Rattle.run_cert.specs.declared.look_kind.Look.TheVariants.{Finished, Exhausted, Open}
use Rattle.run_cert.proofs.StuckEvents.{stuck_some}
use Rattle.run_cert.proofs.looking.look_of.Goals as goal

exhausted_open : Exhausted ≡ Open → ⊥
exhausted_open same = cc

exhausted_finished : Exhausted ≡ Finished → ⊥
exhausted_finished same = cc

pub returns : goal.returns
returns c =
    let some : 0 < length c.args.stuck.now = omega (arith, c.len.ensures, c.if-len-eq0.false) in
    record {
      open_is = (
        λ same. absurd (exhausted_open same),
        λ has. absurd (false≢true (c.if-is_open.ensures.1 has)),
      );
      finished_is = (
        λ same. absurd (exhausted_finished same),
        λ finished. absurd
            (stuck_some c.args.instance.now c.args.cursors.now c.args.stuck.now c.requires.stuck_list some finished),
      );
    }
