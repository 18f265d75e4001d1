use Rattle.pop_stacks.proofs.PlaneLemmas.{behind_first, behind_more}
use Rattle.pop_stacks.proofs.bit_planes.behind.Goals as goal

pub returns-clause-first : goal.returns-clause-first
returns-clause-first c i below = behind_first c.args.bits c.args.place c.args.more i c.requires below

pub returns-clause-more : goal.returns-clause-more
returns-clause-more c i below = behind_more c.args.bits c.args.place c.args.more i c.requires below
