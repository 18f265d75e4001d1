use Rattle.std.proofs.Common.{inl, ℕ, List, Some, Contains, sym, ap, subst, ◌∙◌}
use Rattle.pop_words.specs.Options.{paused}
use Rattle.job_subjects.specs.Refused.{RefusesText}
use Rattle.top_call.specs.Replays.{wanted_of}
use Rattle.job_subjects.proofs.RefusedTexts.{lent_result}
use Rattle.top_call.proofs.PauseWords.{not_made, paused_samples, paused_no_rounds}
use Rattle.top_call.proofs.replaying.made_by.Goals as goal

pub made_of-requires-clause-command : goal.made_of-requires-clause-command
made_of-requires-clause-command c =
    paused_samples c.command.result (subst (Contains paused) (sym c.command.ensures) c.requires.command)

pub made_of-requires-clause-side : goal.made_of-requires-clause-side
made_of-requires-clause-side c make =
    absurd (not_made c.args.cert.now.head.command c.requires.command (sym c.command.ensures ∙ make))

-- what is made is what the head wants
pub returns-clause-made : goal.returns-clause-made
returns-clause-made c =
    rw (c.new-origin.ensures, c.in_ok-spec.ensures, c.spec.ensures, c.height.ensures, c.command.ensures, c.root.ensures)
    at (c.made_of.ensures.made c.args.cert.now.input
    (inl (ap (λ (l : List ℕ). Some l) (c.new-source.ensures ∙ c.input.ensures))))

pub returns-clause-extremal : goal.returns-clause-extremal
returns-clause-extremal c ordered =
    c.made_of.ensures.extremal (λ is. ordered (sym c.command.ensures ∙ is))
    (λ is. paused_no_rounds c.args.cert.now.head.command c.requires.command (sym c.command.ensures ∙ is))

-- what refuses it is what refuses that, since the bytes are lent
pub returns-clause-refused : goal.returns-clause-refused
returns-clause-refused c =
    lent_result (RefusesText (wanted_of c.args.cert.now.head) c.args.cert.now.input) c.made_of.result
    c.made_of.ensures.fault
    (rw (c.new-origin.ensures, c.in_ok-spec.ensures, c.spec.ensures, c.height.ensures, c.command.ensures, c.root.ensures)
    at (c.made_of.ensures.refused c.args.cert.now.input
    (inl (ap (λ (l : List ℕ). Some l) (c.new-source.ensures ∙ c.input.ensures)))))
