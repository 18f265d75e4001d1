-- Each kind of line keeps the block after those of its group, by the contract of its `with`.
use Rattle.std.proofs.Common.{◌≡◌, ◌∙◌, Some, sym, ap, subst, cond, rules}
use Rattle.std.specs.Prelude.{◌==◌, slice_index}
use Rattle.std.specs.Int.{bit_at}
use Rattle.pop_stacks.specs.KeptValues.{kept_at, mark_at, appended, CanKeep, quad_in}
use Rattle.pop_stacks.proofs.KeptLemmas.{line_appended}
use Rattle.pop_stacks.proofs.kept_values.KeptValues.append.Goals as goal

pub returns-in-Bits-clause-appended : goal.returns-in-Bits-clause-appended
returns-in-Bits-clause-appended c u k =
    let block = c.args.block in
    let known : CanKeep c.args.self.now c.args.v c.args.domain = c.requires.known in
    let room = subst (λ kept. CanKeep kept c.args.v c.args.domain) c.in-Bits.is known in
    let next = subst (λ kept. mark_at kept c.args.v ≡ Some block) c.in-Bits.is c.requires.next in
    line_appended (λ l. l.mark) (λ l. bit_at l.bits) c.in-Bits.lines.items c.args.v u k block
    c.index.result.now c.with.result c.args.values.now room.0 (search rules) next
    c.with.ensures.mark c.with.ensures.values
    ∙ ap (λ kept. cond (u == c.args.v) (appended block c.args.values.now k (kept_at kept u k)) (kept_at kept u k))
    (sym c.in-Bits.is)

pub returns-in-Quads-clause-appended : goal.returns-in-Quads-clause-appended
returns-in-Quads-clause-appended c u k =
    let block = c.args.block in
    let known : CanKeep c.args.self.now c.args.v c.args.domain = c.requires.known in
    let room = subst (λ kept. CanKeep kept c.args.v c.args.domain) c.in-Quads.is known in
    let next = subst (λ kept. mark_at kept c.args.v ≡ Some block) c.in-Quads.is c.requires.next in
    line_appended (λ l. l.mark) (λ l. quad_in l.blocks) c.in-Quads.lines.items c.args.v u k block
    c.index-in-Quads.result.now c.with-in-Quads.result c.args.values.now room.0 (search rules) next
    c.with-in-Quads.ensures.mark c.with-in-Quads.ensures.values
    ∙ ap (λ kept. cond (u == c.args.v) (appended block c.args.values.now k (kept_at kept u k)) (kept_at kept u k))
    (sym c.in-Quads.is)

pub returns-in-Bytes-clause-appended : goal.returns-in-Bytes-clause-appended
returns-in-Bytes-clause-appended c u k =
    let block = c.args.block in
    let known : CanKeep c.args.self.now c.args.v c.args.domain = c.requires.known in
    let room = subst (λ kept. CanKeep kept c.args.v c.args.domain) c.in-Bytes.is known in
    let next = subst (λ kept. mark_at kept c.args.v ≡ Some block) c.in-Bytes.is c.requires.next in
    line_appended (λ l. l.mark) (λ l. slice_index l.values) c.in-Bytes.lines.items c.args.v u k block
    c.index-in-Bytes.result.now c.with-in-Bytes.result c.args.values.now room.0 (search rules) next
    c.with-in-Bytes.ensures.mark c.with-in-Bytes.ensures.values
    ∙ ap (λ kept. cond (u == c.args.v) (appended block c.args.values.now k (kept_at kept u k)) (kept_at kept u k))
    (sym c.in-Bytes.is)
