-- The names of variables in logs and witness trees, which are those in the printed end.
use Rattle.pop_log.specs.declared.names.Names.{Names}
use Rattle.pop_log.specs.declared.names.Names.TheVariants.{Plain, Tree as OfTree}
use Rattle.pop_print.specs.declared.facts.Facts.{Facts}
use Rattle.pop_print.specs.declared.facts.Facts.TheVariants.{Formula, Orient, Tree, Made}

-- the names of the variables, by what the input says
abbrev pub names_for : Facts → Names
names_for (Formula n) = Plain
names_for (Orient g) = Plain
names_for (Tree g root) = OfTree root
names_for (Made side) = OfTree 1
