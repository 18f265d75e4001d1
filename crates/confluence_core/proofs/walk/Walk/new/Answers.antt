use Rattle.std.proofs.Common.{length, ap, ◌∙◌}
use Rattle.std.proofs.lemmas.List.{length-replicate}
use Rattle.confluence_core.proofs.WholeWalks.{walks_begin}
use Rattle.confluence_core.proofs.walk.Walk.new.Goals as goal

pub returns-clause-stands : goal.returns-clause-stands
returns-clause-stands c =
    let count = c.count-count.result in
    let zeros = c.in_ok-marks.ensures in
    walks_begin count
    (record {
      instance = c.count-count.ensures.instance;
      cursors = c.requires.cursors;
      marks_are = ap length zeros.first ∙ length-replicate count 0 ∙ c.count-count.ensures.count;
      places_are = ap length zeros.second ∙ length-replicate count 0 ∙ c.count-count.ensures.count;
    })
    zeros.first c.requires.none_stuck c.requires.room
