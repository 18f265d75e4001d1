use Rattle.pop_model.proofs.TallerStacks.{raised_extends}
use Rattle.pop_model.specs.Stacks.{stacks_raised}
use Rattle.confluence_core.proofs.Reaching.{goes_then, reached_raised}
use Rattle.confluence_core.proofs.laws.stretches_join.Goals as goal

pub returns-clause-joined : goal.returns-clause-joined
returns-clause-joined c i a b d first last = goes_then i a b d first last

pub returns-clause-raised : goal.returns-clause-raised
returns-clause-raised c i height instance higher start keeps reached stuck is list =
    reached_raised i (stacks_raised height i.stacks)
    (raised_extends i.stacks.origin i.stacks.weights height higher) start keeps reached stuck instance is list
