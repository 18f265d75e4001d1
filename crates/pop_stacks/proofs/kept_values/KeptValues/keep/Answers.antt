use Rattle.std.proofs.Common.{◌∙◌, arith, sym, ap, subst, cond}
use Rattle.std.specs.Prelude.{◌==◌, slice_index}
use Rattle.std.specs.Int.{bit_at}
use Rattle.pop_stacks.specs.KeptValues.{kept_at, CanKeep, kept_in, quad_in}
use Rattle.pop_stacks.proofs.KeptLemmas.{line_written, same_kept}
use Rattle.pop_stacks.proofs.kept_values.KeptValues.keep.Goals as goal

pub returns-in-Bits-clause-replaced : goal.returns-in-Bits-clause-replaced
returns-in-Bits-clause-replaced c u k =
    let known : CanKeep c.args.self.now c.args.v c.args.domain = c.requires.known in
    let room = subst (λ kept. CanKeep kept c.args.v c.args.domain) c.in-Bits.is known in
    let two = room.1 in
    let own = kept_in c.args.mark (slice_index c.args.values.now) k in
    line_written (λ l. kept_in l.mark (bit_at l.bits) k) own c.in-Bits.lines.items
    c.args.v u (record { mark = c.args.mark; bits = c.plane-bits.result }) room.0
    (same_kept c.args.mark 32 k (bit_at c.plane-bits.result) (slice_index c.args.values.now) c.requires.places
    (λ i within.
    let less = c.requires.below i within in omega (arith, c.plane-bits.ensures i within, less, two)))
    ∙ ap (λ kept. cond (u == c.args.v) own (kept_at kept u k)) (sym c.in-Bits.is)

pub returns-in-Quads-clause-replaced : goal.returns-in-Quads-clause-replaced
returns-in-Quads-clause-replaced c u k =
    let known : CanKeep c.args.self.now c.args.v c.args.domain = c.requires.known in
    let room = subst (λ kept. CanKeep kept c.args.v c.args.domain) c.in-Quads.is known in
    let own = kept_in c.args.mark (slice_index c.args.values.now) k in
    let line = c.of.result in
    line_written (λ l. kept_in l.mark (quad_in l.blocks) k) own c.in-Quads.lines.items c.args.v u line room.0
    (ap (λ mark. kept_in mark (quad_in line.blocks) k) c.of.ensures.mark
    ∙ same_kept c.args.mark 32 k (quad_in line.blocks) (slice_index c.args.values.now) c.requires.places
    c.of.ensures.values)
    ∙ ap (λ kept. cond (u == c.args.v) own (kept_at kept u k)) (sym c.in-Quads.is)

pub returns-in-Bytes-clause-replaced : goal.returns-in-Bytes-clause-replaced
returns-in-Bytes-clause-replaced c u k =
    let known : CanKeep c.args.self.now c.args.v c.args.domain = c.requires.known in
    let room = subst (λ kept. CanKeep kept c.args.v c.args.domain) c.in-Bytes.is known in
    let own = kept_in c.args.mark (slice_index c.args.values.now) k in
    let line = c.of-in-Bytes.result in
    line_written (λ l. kept_in l.mark (slice_index l.values) k) own c.in-Bytes.lines.items c.args.v u line room.0
    (ap (λ mark. kept_in mark (slice_index line.values) k) c.of-in-Bytes.ensures.mark
    ∙ same_kept c.args.mark 32 k (slice_index line.values) (slice_index c.args.values.now) c.requires.places
    c.of-in-Bytes.ensures.values)
    ∙ ap (λ kept. cond (u == c.args.v) own (kept_at kept u k)) (sym c.in-Bytes.is)
