use Rattle.std.proofs.Common.{List, ℕ, subst}
use Rattle.pop_model.specs.Instances.{Instance}
use Rattle.pop_log.specs.Reading.{Takes}
use Rattle.pop_log.proofs.ReadLogs.{takes_none, takes_nothing, takes_words}
use Rattle.pop_log.proofs.reading.take_line.Goals as goal

pub returns-in_default-clause-takes : goal.returns-in_default-clause-takes
returns-in_default-clause-takes c =
    takes_nothing c.args.names.now c.args.instance.now c.args.version c.args.line.now c.args.progress.now
    c.args.progress.now c.in_default.ensures

pub returns-then-not-branch-clause-takes : goal.returns-then-not-branch-clause-takes
returns-then-not-branch-clause-takes c =
    let i : Instance = c.args.instance.now in
    let words : List ℕ = c.in-Some.words.now in
    let old = c.args.progress.now in
    let new = c.take.new.self in
    takes_none c.args.names.now i c.args.version c.args.line.now words c.in-Some.layer old new c.in-Some.ensures
    (subst (Takes c.args.names.now i words old new) c.if-not-branch.true c.in_ok-take.ensures.takes)

pub returns-clause-takes : goal.returns-clause-takes
returns-clause-takes c =
    let i : Instance = c.args.instance.now in
    let words : List ℕ = c.in-Some.words.now in
    let old = c.args.progress.now in
    let new = c.take.new.self in
    takes_words c.args.names.now i c.args.version c.args.line.now words c.in-Some.layer old new c.in-Some.ensures
    (subst (Takes c.args.names.now i words old new) c.if-not-branch.false c.in_ok-take.ensures.takes)
