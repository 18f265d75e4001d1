use Rattle.std.proofs.Common.{◌∙◌, ap, refl}
use Rattle.pop_instance.specs.KeptHeads.{heads_kept}
use Rattle.pop_instance.proofs.NumberRows.{head_by_number}
use Rattle.pop_instance.proofs.kept_heads.KeptHeads.head.Goals as goal

pub returns-in-Flat : goal.returns-in-Flat
returns-in-Flat c =
    c.then_some.ensures
    ∙ head_by_number c.in-Flat.rows (heads_kept c.args.self.now) c.args.v c.args.slot c.count.result c.row.result.now _
    (ap heads_kept c.in-Flat.is) c.requires.known c.requires.slot c.count.ensures c.row.ensures.row refl

pub returns-in-Shifted : goal.returns-in-Shifted
returns-in-Shifted c =
    c.then_some-in-Shifted.ensures
    ∙ head_by_number c.in-Shifted.rows (heads_kept c.args.self.now) c.args.v c.args.slot c.count-in-Shifted.result _ _
    (ap heads_kept c.in-Shifted.is) c.requires.known c.requires.slot c.count-in-Shifted.ensures refl
    c.number-number.ensures
