use Rattle.std.proofs.Common.{◌≡◌, ap, ◌∙◌, arith, length, false, get_or}
use Rattle.std.proofs.lemmas.Result.{on_ok_weaker}
use Rattle.prs_rounds.specs.Growth.{uncovered}
use Rattle.prs_rounds.proofs.JoinedLemmas.{begins_from, count_all}
use Rattle.prs_rounds.proofs.growth.Growth.begin.Goals as goal

pub returns-clause-begins : goal.returns-clause-begins
returns-clause-begins c =
    let done = c.in_ok-join_all.ensures in
    on_ok_weaker c.cover_fresh.result
    (begins_from (length c.args.events.now) (length c.args.self.now.covered.items) c.args.events.now c.args.places.now
    c.join_all.new.self c.cover_fresh.new.self done.listed
    (λ v. ap (λ x. get_or x.items v false) done.covered ∙ c.requires.blank.none v) done.joined)
    c.cover_fresh.ensures.covers

pub returns-clause-size : goal.returns-clause-size
returns-clause-size c =
    let done = c.in_ok-join_all.ensures in
    let all = count_all c.args.self.now.covered.items c.requires.blank.none in
    let flags : uncovered c.join_all.new.self ≡ uncovered c.args.self.now =
    ap (λ x. uncovered (record c.args.self.now { covered = x })) done.covered in
    let none : length c.join_all.new.self.variables.items ≡ 0 = ap (λ x. length x.items) done.variables
    ∙ ap length c.requires.blank.variables in
    on_ok_weaker c.cover_fresh.result (λ covers. omega (arith, covers.size, all, flags, none))
    c.cover_fresh.ensures.covers
