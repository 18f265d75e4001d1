use Rattle.top_call.proofs.FrontTexts.{whole_result, whole_end}
use Rattle.top_call.proofs.PauseWords.{may_stop}
use Rattle.top_call.proofs.pausing.pause_or_tell.Goals as goal

pub returns-clause-answer : goal.returns-clause-answer
returns-clause-answer g c text known read =
    whole_result (g.S.Source.left c.args.source.now) (g.S.Source.left c.read_whole.new.source) c.args.job.now _ text
    c.in_ok-input.input.items c.deref.result.now c.judge_and_stop.result known c.in_ok-input.ensures.whole
    c.deref.ensures.value (may_stop c.args.job.now c.requires.asked c.args.pops c.requires.pops).command
    c.judge_and_stop.ensures.answer

pub returns-clause-whole : goal.returns-clause-whole
returns-clause-whole g c =
    whole_end (g.S.Source.left c.args.source.now) (g.S.Source.left c.read_whole.new.source) c.in_ok-input.input.items
    c.deref.result.now c.judge_and_stop.result c.in_ok-input.ensures.whole c.deref.ensures.value
    c.judge_and_stop.ensures.short

-- the source was read whole before
pub returns-clause-read : goal.returns-clause-read
returns-clause-read g c judged = (c.in_ok-input.input.items, c.in_ok-input.ensures.whole)
