use Rattle.dimacs_read.proofs.CubesOfClauses.{cube_found, no_cube}
use Rattle.dimacs_read.proofs.events.cube_of.Goals as goal

pub returns-in-None : goal.returns-in-None
returns-in-None c =
    no_cube c.args.literals.now c.in_ok-pairs.pairs.items _ c.dedup.new.self.items c.in_ok-pairs.ensures
    (record {
      moved = c.sort_unstable.ensures.permutation;
      order = c.sort_unstable.ensures.sorted;
      filtered = c.dedup.ensures.filtered;
    })
    c.in-None.ensures

pub returns-in-Some : goal.returns-in-Some
returns-in-Some c =
    cube_found c.args.literals.now c.in_ok-pairs.pairs.items _ c.dedup.new.self.items c.in-Some.cube
    c.in_ok-pairs.ensures
    (record {
      moved = c.sort_unstable.ensures.permutation;
      order = c.sort_unstable.ensures.sorted;
      filtered = c.dedup.ensures.filtered;
    })
    c.in-Some.ensures c.len-count.ensures.cube
