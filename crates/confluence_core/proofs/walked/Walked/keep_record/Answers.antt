use Rattle.std.proofs.Common.{◌≡◌, ◌<◌, ◌++◌, ◌∷◌, [], List, Option, Some, length, ap, sym, ◌∙◌, arith}
use Rattle.pop_model.specs.Cycles.{first_of}
use Rattle.pop_model.specs.Logs.{LogRecord}
use Rattle.pop_model.proofs.Members.{first_read}
use Rattle.confluence_core.specs.Records.{record_at}
use Rattle.confluence_core.specs.Stretches.{with_more}
use Rattle.confluence_core.proofs.LoopCubes.{one_cube, cube_all}
use Rattle.confluence_core.proofs.walked.Walked.keep_record.Goals as goal

pub of-requires : goal.of-requires
of-requires c =
    let at = c.args.self.now.cursors in
    record {
      known = cube_all c.args.current.now at c.args.members.now c.in_ok-cube.cube c.in_ok-cube.ensures.cube
          (λ v. v < length at)
          (λ k d less. let known = c.requires.members.known k d less in omega (arith, known, c.requires.cursors.count));
    }

pub returns-in_ok-push-clause-kept : goal.returns-in_ok-push-clause-kept
returns-in_ok-push-clause-kept c e is =
    let w = c.args.self.now in
    let cube = c.in_ok-cube.cube in
    let same : e ≡ cube = one_cube c.args.current.now w.cursors c.args.members.now e cube is c.in_ok-cube.ensures.cube in
    let popped = c.in_ok-of.ensures
    ∙ ap (λ u. record_at u cube w.cursors) (sym (first_read cube c.pair-unit.result c.pair-unit.ensures))
    ∙ ap (λ f. record_at (first_of f) f w.cursors) (sym same) in
    let log : Some c.push.new.self ≡ with_more w.log (record_at (first_of e) e w.cursors ∷ []) =
    ap Some (c.in_ok-push.ensures.pushed ∙ ap (λ r. c.in-Some.log ++ r ∷ []) popped)
    ∙ ap (λ (kept : Option (List LogRecord)). with_more kept (record_at (first_of e) e w.cursors ∷ []))
    (sym c.in-Some.is) in
    ap (λ (kept : Option (List LogRecord)). record w { log = kept }) log

pub returns-in_default-clause-kept : goal.returns-in_default-clause-kept
returns-in_default-clause-kept c e is =
    let w = c.args.self.now in
    let none : w.log ≡ with_more w.log (record_at (first_of e) e w.cursors ∷ []) =
    c.in_default.is ∙ ap (λ (kept : Option (List LogRecord)). with_more kept (record_at (first_of e) e w.cursors ∷ []))
    (sym c.in_default.is) in
    ap (λ (kept : Option (List LogRecord)). record w { log = kept }) none
