use Rattle.std.proofs.Common.{inl, inr, Err, map, string_bytes, ap, subst}
use Rattle.pop_edge.specs.Devices.{AppendsFront}
use Rattle.top_call.proofs.HeldAnswers.{held_answer, not_unwritten, delivered_status, delivered_run}
use Rattle.top_call.proofs.with_lock.run_with.Goals as goal

-- the sink took the answer's text
pub returns-in-Ok-clause-answer : goal.returns-in-Ok-clause-answer
returns-in-Ok-clause-answer g c text input unbroken = elim c.deliver.ensures.status [
  | inl same ↦
      held_answer (map string_bytes c.args.words.now) _ text c.in-Ok.answer.status c.deliver.result
      c.in-Ok.answer.text.items c.deref.result.now (g.K.Sink.holds c.args.sink.now)
      (g.K.Sink.holds c.deliver.new.sink) same c.deref.ensures.value (c.in-Ok.ensures.answer text input)
      (c.deliver.ensures.held (λ failed. unbroken (inr (inl failed))))
  | inr failed ↦ absurd (unbroken (inr (inl failed)))
]

-- the sink failed while it took it
pub returns-in-Ok-clause-cut : goal.returns-in-Ok-clause-cut
returns-in-Ok-clause-cut g c text known failed =
    record {
      out = c.in-Ok.answer.text.items;
      may = inl (c.in-Ok.answer.status, c.in-Ok.ensures.answer text known);
      held = subst (λ bytes. AppendsFront (g.K.Sink.holds c.args.sink.now) (g.K.Sink.holds c.deliver.new.sink) bytes)
          c.deref.ensures.value (c.deliver.ensures.cut failed);
    }

-- what words outside the grammar are told needs no source
pub returns-in-Ok-clause-cut_usage : goal.returns-in-Ok-clause-cut_usage
returns-in-Ok-clause-cut_usage g c outside failed =
    let told = c.in-Ok.ensures.usage (c.in-Ok.ensures.only_usage outside) in
    record {
      out = c.in-Ok.answer.text.items;
      may = inl told;
      held = subst (λ bytes. AppendsFront (g.K.Sink.holds c.args.sink.now) (g.K.Sink.holds c.deliver.new.sink) bytes)
          c.deref.ensures.value (c.deliver.ensures.cut failed);
    }

pub returns-in-Err-ReadFault-clause-read_fault : goal.returns-in-Err-ReadFault-clause-read_fault
returns-in-Err-ReadFault-clause-read_fault g c told =
    c.in-Err-ReadFault.ensures.read_fault (ap (λ stop. Err stop) c.in-Err-ReadFault.field-0-is)

-- the statuses
pub deliver-requires : goal.deliver-requires
deliver-requires g c = not_unwritten c.in-Ok.answer.status c.in-Ok.ensures.status

pub returns-in-Ok-clause-statuses : goal.returns-in-Ok-clause-statuses
returns-in-Ok-clause-statuses g c =
    delivered_status c.in-Ok.answer.status c.deliver.result c.in-Ok.ensures.status c.deliver.ensures.status

pub returns-in-Ok-clause-whole : goal.returns-in-Ok-clause-whole
returns-in-Ok-clause-whole g c has =
    c.in-Ok.ensures.whole (delivered_run c.in-Ok.answer.status c.deliver.result c.deliver.ensures.status has)
