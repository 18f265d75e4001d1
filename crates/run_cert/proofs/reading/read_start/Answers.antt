use Rattle.std.proofs.Common.{inl, refl, subst}
use Rattle.run_cert.specs.Heads.{stacks_line, MayBeStacks}
use Rattle.run_cert.specs.HeadLines.{Says}
use Rattle.run_cert.proofs.BadLines.{command_bad, stacks_bad}
use Rattle.run_cert.proofs.reading.read_start.Goals as goal

pub returns-in_default-clause-refusal : goal.returns-in_default-clause-refusal
returns-in_default-clause-refusal c =
    inl (
      refl,
      command_bad c.args.bytes.now c.cut_line.result.0.now c.cut_line.result.1.now c.cut_line.ensures.line
          c.in_default.ensures,
    )

pub returns-in_default-2-clause-refusal : goal.returns-in_default-2-clause-refusal
returns-in_default-2-clause-refusal c =
    let line = c.cut_line-2.result.0.now in
    inl (
      refl,
      stacks_bad c.args.bytes.now c.cut_line.result.0.now c.cut_line.result.1.now line
          c.cut_line-2.result.1.now c.in-Some.command c.cut_line.ensures.parts c.in-Some.ensures.0 c.in-Some.ensures.1
          c.cut_line-2.ensures.line
          (subst (Says MayBeStacks stacks_line line) c.in_default-2.is c.in_ok-stacks.ensures),
    )
