use Rattle.std.proofs.Common.{rules, sym, ◌∙◌, arith, ◌≡◌, ◌+◌, ◌-◌, length, take, drop, min}
use Rattle.pop_edge.proofs.Pieces.{taken, at_end}
use Rattle.pop_edge.proofs.slice_source.SliceSourceSource.read.Goals as goal

pub returns-clause-bytes : goal.returns-clause-bytes
returns-clause-bytes c =
    let at = c.self.inside.at in
    let n = c.min-count.result in
    let bytes = c.self.inside.bytes.now in
    let room = c.args.room.now in
    let copied = c.copy_from_slice.new.self in
    let copy : copied ≡ take (at + n - at) (drop at bytes) = c.copy_from_slice.ensures.after in
    let count : n ≡ min (length room) (length bytes - at) = search rules in (
      sym c.self.view_is ∙ taken bytes copied room at n copy c.self.invariant (omega (arith, count)),
      λ zero some. at_end bytes at n (length room) (length room) (omega (arith, count)) c.requires c.requires zero,
    )
