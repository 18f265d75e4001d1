use Rattle.std.proofs.Common.{◌≡◌, ◌≤◌, ◌+◌, ℕ, List, length, vec_len, Err, sym, ap, subst, ◌∙◌, arith, rules}
use Rattle.std.specs.Io.KnownBytes.{Consumes}
use Rattle.std.proofs.KnownBytes.{Consumes-nil}
use Rattle.job_subjects.specs.declared.stop.Stop.TheVariants.{ReadFault}
use Rattle.job_subjects.proofs.Carrying.{passed_on}
use Rattle.top_call.proofs.WholeReads.{taken_more, length_more, read_to_end, read_past, taken_short, same_err}
use Rattle.top_call.proofs.whole.read_whole.Goals as goal

pub loop-bytes-init : goal.loop-bytes-init
loop-bytes-init g c =
    let start = g.S.Source.left c.args.source.now in
    record {
      taken = subst (Consumes start start) (sym c.new-bytes.ensures.items) (Consumes-nil start);
      most = subst (λ (l : List ℕ). length l ≤ c.args.limit + 1) (sym c.new-bytes.ensures.items) (omega arith);
      later = omega arith;
      room = c.in_ok-room.ensures;
    }

pub returns-in_err-read_at_most-clause-short : goal.returns-in_err-read_at_most-clause-short
returns-in_err-read_at_most-clause-short g c failed =
    let e = c.in_err-read_at_most.field-0.0 in
    let is : e ≡ ReadFault =
    same_err e ReadFault (sym (passed_on c.from_residual-in_err-read_at_most.result e
    c.from_residual-in_err-read_at_most.ensures.1) ∙ failed) in
    let size : length c.loop-bytes.bytes.items ≡ vec_len c.loop-bytes.bytes = search rules in
    taken_short (g.S.Source.left c.args.source.now) (g.S.Source.left c.loop-bytes.source)
    (g.S.Source.left c.read_at_most.new.source) c.loop-bytes.bytes.items c.args.limit c.loop-bytes.invariant.taken
    (c.in_err-read_at_most.ensures.kept (ap (λ x. Err x) is)).0
    (omega (arith, size, c.len.ensures, c.loop-bytes-test.true))

pub returns-then-branch-eq0-clause-whole : goal.returns-then-branch-eq0-clause-whole
returns-then-branch-eq0-clause-whole g c =
    read_to_end (g.S.Source.left c.args.source.now) (g.S.Source.left c.loop-bytes.source)
    (g.S.Source.left c.read_at_most.new.source) c.loop-bytes.bytes.items c.read_at_most.new.bytes.items
    c.in_ok-read_at_most.field-0 c.args.limit c.loop-bytes.invariant.taken c.in_ok-read_at_most.ensures.taken
    (omega (arith, c.if-branch-eq0.true)) c.loop-bytes.invariant.most

pub loop-bytes-preserved : goal.loop-bytes-preserved
loop-bytes-preserved g c =
    let size : length c.loop-bytes.bytes.items ≡ vec_len c.loop-bytes.bytes = search rules in
    let short : length c.loop-bytes.bytes.items ≤ c.args.limit =
    omega (arith, size, c.len.ensures, c.loop-bytes-test.true) in
    record {
      taken = taken_more (g.S.Source.left c.args.source.now) (g.S.Source.left c.loop-bytes.source)
          (g.S.Source.left c.read_at_most.new.source) c.loop-bytes.bytes.items c.read_at_most.new.bytes.items
          c.in_ok-read_at_most.field-0 c.loop-bytes.invariant.taken c.in_ok-read_at_most.ensures.taken;
      most = length_more (g.S.Source.left c.loop-bytes.source) (g.S.Source.left c.read_at_most.new.source)
          c.loop-bytes.bytes.items c.read_at_most.new.bytes.items c.in_ok-read_at_most.field-0
          c.piece_of-wanted.result c.args.limit c.in_ok-read_at_most.ensures.taken c.in_ok-read_at_most.ensures.bound
          (omega (arith, size, c.len-in-loop-bytes.ensures, c.piece_of-wanted.ensures.few)) short;
      later = omega (arith, c.loop-bytes.invariant.later, c.in_ok-read_at_most.ensures.later);
      room = c.loop-bytes.invariant.room;
    }

pub returns-clause-whole : goal.returns-clause-whole
returns-clause-whole g c =
    let size : length c.loop-bytes.bytes.items ≡ vec_len c.loop-bytes.bytes = search rules in
    read_past (g.S.Source.left c.args.source.now) (g.S.Source.left c.loop-bytes.source) c.loop-bytes.bytes.items
    c.args.limit c.loop-bytes.invariant.taken c.loop-bytes.invariant.most
    (omega (arith, size, c.len.ensures, c.loop-bytes-test.false))
