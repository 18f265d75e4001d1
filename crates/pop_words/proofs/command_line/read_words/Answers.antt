use Rattle.std.proofs.Common.{◌≡◌, length, nat_eq, true, false, sym, ap, ◌∙◌, arith}
use Rattle.std.proofs.lemmas.Bool.Decides.{nat_tests}
use Rattle.pop_words.specs.Reading.{command_named}
use Rattle.pop_words.proofs.CommandWords.{answers_behind, no_command, no_words}
use Rattle.pop_words.proofs.command_line.read_words.Goals as goal

pub returns-then-is_empty-clause-fault : goal.returns-then-is_empty-clause-fault
returns-then-is_empty-clause-fault c =
    let empty : nat_eq (length c.args.words.now) 0 ≡ true = sym c.is_empty.ensures ∙ c.if-is_empty.true in
    no_words c.args.words.now (grind (arith, nat_tests))

pub returns-in-Some-clause-job : goal.returns-in-Some-clause-job
returns-in-Some-clause-job c =
    let some : nat_eq (length c.args.words.now) 0 ≡ false = sym c.is_empty.ensures ∙ c.if-is_empty.false in
    (answers_behind c.args.words.now c.index-words-0.result c.in-Some.command c.read_options.result
    (grind (arith, nat_tests)) c.index-words-0.is
    (ap command_named (sym c.as_str.ensures.value) ∙ sym c.in-Some.ensures) c.read_options.ensures).0

pub returns-in-Some-clause-fault : goal.returns-in-Some-clause-fault
returns-in-Some-clause-fault c =
    let some : nat_eq (length c.args.words.now) 0 ≡ false = sym c.is_empty.ensures ∙ c.if-is_empty.false in
    (answers_behind c.args.words.now c.index-words-0.result c.in-Some.command c.read_options.result
    (grind (arith, nat_tests)) c.index-words-0.is
    (ap command_named (sym c.as_str.ensures.value) ∙ sym c.in-Some.ensures) c.read_options.ensures).1

pub returns-in-None-clause-fault : goal.returns-in-None-clause-fault
returns-in-None-clause-fault c =
    let some : nat_eq (length c.args.words.now) 0 ≡ false = sym c.is_empty.ensures ∙ c.if-is_empty.false in
    no_command c.args.words.now c.index-words-0.result (grind (arith, nat_tests)) c.index-words-0.is
    (ap command_named (sym c.as_str.ensures.value) ∙ sym c.in-None.ensures)
