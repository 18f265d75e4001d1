use Rattle.std.proofs.Common.{◌≡◌, ◌++◌, ℕ, List, length}
use Rattle.prs_rounds.specs.Growth.{AreListed, CoversMore, IsNamedBy}
use Rattle.prs_rounds.proofs.growth.Growth.cover_fresh.Given as goal

-- the variables of the events that were fresh, but for those that still are, are covered
abbrev pub invariant-loop-u : goal.invariant-loop-u
invariant-loop-u l = record {
  done : List ℕ;
  parts : l.fn.self.fresh.items ≡ l.self.fresh.items ++ done;
  covers : CoversMore (IsNamedBy l.events done) l.fn.self l.self;
  listed : AreListed (length l.events) (length l.fn.self.covered.items) l.self;
}

abbrev pub decreases-loop-u : goal.decreases-loop-u
decreases-loop-u l = length l.self.fresh.items
