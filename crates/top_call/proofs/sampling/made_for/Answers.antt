use Rattle.pop_words.proofs.JobsInRange.{asked_height, asked_grow, asked_root, asked_size}
use Rattle.top_call.proofs.sampling.made_for.Goals as goal

-- words ask for the job, so that its numbers are in their ranges
pub new-origin-requires-clause-some : goal.new-origin-requires-clause-some
new-origin-requires-clause-some g c =
    let (words, asks) = c.requires.asked in (asked_height words c.args.job.now asks).0

pub new-origin-requires-clause-short : goal.new-origin-requires-clause-short
new-origin-requires-clause-short g c =
    let (words, asks) = c.requires.asked in (asked_height words c.args.job.now asks).1

pub new-origin-requires-clause-grow : goal.new-origin-requires-clause-grow
new-origin-requires-clause-grow g c =
    let (words, asks) = c.requires.asked in asked_grow words c.args.job.now asks

pub made_of-requires-clause-root : goal.made_of-requires-clause-root
made_of-requires-clause-root g c =
    let (words, asks) = c.requires.asked in (asked_root words c.args.job.now asks).0

pub made_of-requires-clause-side : goal.made_of-requires-clause-side
made_of-requires-clause-side g c make =
    let (words, asks) = c.requires.asked in
    let range = asked_size words c.args.job.now asks in
    (range.1 make, range.0)

-- the stacks are those that it asks for
pub returns-clause-made : goal.returns-clause-made
returns-clause-made g c text input =
    rw (c.new-origin.ensures, c.in_ok-spec.ensures) at (c.made_of.ensures.made text input)

pub returns-clause-origin : goal.returns-clause-origin
returns-clause-origin g c = rw (c.new-origin.ensures, c.in_ok-spec.ensures) at c.made_of.ensures.origin

pub returns-clause-refused : goal.returns-clause-refused
returns-clause-refused g c text input =
    rw (c.new-origin.ensures, c.in_ok-spec.ensures) at (c.made_of.ensures.refused text input)
