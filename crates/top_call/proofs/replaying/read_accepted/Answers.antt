use Rattle.std.proofs.lemmas.Result.{IfErr-weaker}
use Rattle.top_call.proofs.ReplayedCerts.{read_result, bytes_past_words, bytes_unfailing}
use Rattle.top_call.proofs.replaying.read_accepted.Goals as goal

-- what refuses the bytes that were read refuses the text
pub returns-clause-refused : goal.returns-clause-refused
returns-clause-refused g c text known failed =
    read_result (g.S.Source.left c.args.source.now) (g.S.Source.left c.read_whole.new.source) text
    c.in_ok-bytes.bytes.items c.deref.result.now c.accept_bytes.result known c.in_ok-bytes.ensures.whole
    c.deref.ensures.value c.accept_bytes.ensures.refused

-- it is no refusal of words, and no fault of the source
pub returns-clause-past_words : goal.returns-clause-past_words
returns-clause-past_words g c =
    IfErr-weaker c.accept_bytes.result _ _ (bytes_past_words c.deref.result.now) c.accept_bytes.ensures.refused

pub returns-clause-read_fault : goal.returns-clause-read_fault
returns-clause-read_fault g c failed =
    absurd (bytes_unfailing c.deref.result.now c.accept_bytes.result c.accept_bytes.ensures.refused failed)
