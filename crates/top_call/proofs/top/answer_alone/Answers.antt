use Rattle.std.proofs.Common.{Some, map, string_bytes, sym, subst}
use Rattle.top_call.specs.Answers.{IsInput}
use Rattle.top_call.proofs.top.answer_alone.Goals as goal

-- the source has the bytes of the text
pub returns-in-Ok-clause-answer : goal.returns-in-Ok-clause-answer
returns-in-Ok-clause-answer g c input is =
    c.in-Ok.ensures.answer input
    (subst (λ bytes. IsInput (map string_bytes c.args.words.now) (Some bytes) input) (sym c.new-source.ensures) is)
