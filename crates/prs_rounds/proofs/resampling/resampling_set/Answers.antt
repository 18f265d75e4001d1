use Rattle.std.proofs.Common.{◌≡◌, IfOk, sym, ap, ap₂, subst, ◌∙◌}
use Rattle.pop_model.specs.Stacks.{StackTable}
use Rattle.pop_model.specs.Families.{Family}
use Rattle.pop_model.specs.Instances.{Instance}
use Rattle.pop_instance.specs.Family.{family_of}
use Rattle.confluence_core.proofs.Places.{listed}
use Rattle.prs_rounds.specs.Resampling.{IsResampled}
use Rattle.prs_rounds.specs.Units.{AreUnitsOf}
use Rattle.prs_rounds.proofs.resampling.resampling_set.Goals as goal

-- the instance of these parts
abbrev instance_of : StackTable → Family → Instance
instance_of s family = record { stacks = s; family = family }

pub returns : goal.returns
returns g c =
    let same : listed c.stacks.result.now c.in-Listed.events ≡ c.args.instance.now =
    ap₂ instance_of c.stacks.ensures (ap family_of (sym c.in-Listed.is) ∙ c.family.ensures) in
    record {
      units = subst (λ i. IfOk c.set_of.result (AreUnitsOf (IsResampled i c.args.cursors.now))) same c.set_of.ensures;
    }
