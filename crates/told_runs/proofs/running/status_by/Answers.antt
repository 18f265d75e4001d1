use Rattle.std.proofs.Common.{◌≡◌, ◌<◌, List, [], ◌∷◌, length, refl, arith}
use Rattle.pop_model.specs.Families.{Event}
use Rattle.told_runs.specs.Outcomes.{end_status}
use Rattle.told_runs.proofs.running.status_by.Goals as goal

-- at an empty stuck list it is 0
none : (stuck : List Event) → length stuck ≡ 0 → 0 ≡ end_status stuck
none [] h = refl
none (e ∷ stuck) h = absurd (omega arith)

-- and else 1
some : (stuck : List Event) → 0 < length stuck → 1 ≡ end_status stuck
some [] h = absurd (omega arith)
some (e ∷ stuck) h = refl

pub returns-then-len-eq0 : goal.returns-then-len-eq0
returns-then-len-eq0 c = none c.args.stuck.now (omega (arith, c.len.ensures))

pub returns-else-len-eq0 : goal.returns-else-len-eq0
returns-else-len-eq0 c = some c.args.stuck.now (omega (arith, c.len.ensures))
