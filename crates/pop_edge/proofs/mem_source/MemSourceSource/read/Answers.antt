use Rattle.std.proofs.Common.{rules, ap, sym, ◌∙◌, arith, ◌≡◌, ◌+◌, ◌-◌, length, take, drop, min}
use Rattle.pop_edge.specs.Memory.{Input}
use Rattle.pop_edge.proofs.Pieces.{taken, at_end}
use Rattle.pop_edge.proofs.mem_source.MemSourceSource.read.Goals as goal

pub returns-clause-bytes : goal.returns-clause-bytes
returns-clause-bytes c =
    let at = c.self.inside.at in
    let n = c.min-count.result in
    let bytes = c.self.inside.bytes.items in
    let room = c.args.room.now in
    let copied = c.copy_from_slice.new.self in
    let copy : copied ≡ take (at + n - at) (drop at bytes) = c.copy_from_slice.ensures.after
    ∙ ap (λ xs. take (at + n - at) (drop at xs)) c.deref-2.ensures.value in
    let count : n ≡ min c.self.inside.piece (min (length room) (length bytes - at)) = search rules in (
      sym (ap (λ (s : Input). s.left) c.self.view_is)
          ∙ taken bytes copied room at n copy c.self.invariant.0 (omega (arith, count)),
      λ zero some. at_end bytes at n c.self.inside.piece (length room) count c.self.invariant.1 c.requires zero,
    )
