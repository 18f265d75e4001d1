use Rattle.std.proofs.Common.{◌≡◌, length, cond, Some, None, sym, ap, subst, ◌∙◌}
use Rattle.std.specs.List.{range_with_len}
use Rattle.pop_model.specs.Instances.{Instance}
use Rattle.confluence_core.specs.Kept.{keeps_log}
use Rattle.confluence_core.specs.Stretches.{IsReached}
use Rattle.confluence_core.specs.declared.reached.Reached.{Reached}
use Rattle.lock_board.specs.Books.{IsBook}
use Rattle.pop_workers.proofs.Books.{book_reached}
use Rattle.pop_workers.proofs.locked.left_in.Goals as goal

pub returns : goal.returns
returns g c =
    let i : Instance = c.args.instance.now in
    let parts = c.into_parts-cursors.ensures in
    let left : Reached = record {
      cursors = c.args.book.cursors;
      pops = length c.args.book.log;
      log = cond (keeps_log c.args.keep) (Some c.args.book.log) None;
      suspects = c.in_ok-suspects.suspects;
    } in
    let result : Reached = record {
      cursors = c.into_parts-cursors.result.0;
      pops = c.len.result;
      log = c.kept.result;
      suspects = c.in_ok-suspects.suspects;
    } in
    let are : result ≡ left = cc in
    subst (IsReached i g.N.Site.start (keeps_log c.args.keep)) (sym are)
    (book_reached i g.N.Site.start (keeps_log c.args.keep) c.args.book c.in_ok-suspects.suspects
    (subst (λ (x : Instance). IsBook x g.N.Site.start c.args.book) (sym c.requires.site) parts.book)
    (c.in_ok-suspects.ensures ∙ ap (range_with_len 0) c.units-units.ensures.units))
