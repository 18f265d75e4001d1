use Rattle.std.proofs.Common.{◌+◌, ◌<◌, length, sym, subst, ◌∙◌, arith}
use Rattle.std.proofs.lemmas.List.{drop_all, take_rest}
use Rattle.pop_edge.proofs.NumbersLemmas.{read_more}
use Rattle.graph_read.specs.Reading.{IsFront}
use Rattle.graph_read.proofs.FrontNumbers.{few_more, front_at_end, front_before_space}
use Rattle.graph_read.proofs.edge_line.front_number.Goals as goal

pub overflow_mul-value : goal.overflow_mul-value
overflow_mul-value c =
    let n = c.loop-count.count in
    let few : n < 9 = omega (arith, c.loop-count-test.true, c.min-end.ensures) in
    omega (arith, few_more n c.loop-count.value few c.loop-count.invariant.0.small)

pub overflow_add-value : goal.overflow_add-value
overflow_add-value c =
    let n = c.loop-count.count in
    let few : n < 9 = omega (arith, c.loop-count-test.true, c.min-end.ensures) in
    omega (
      arith,
      few_more n c.loop-count.value few c.loop-count.invariant.0.small,
      c.from.ensures,
      c.if-bytes-count-ge48.true,
      c.if-bytes-count-le57.true,
    )

pub loop-count-preserved : goal.loop-count-preserved
loop-count-preserved c =
    let bs = c.args.bytes.now in
    let within : c.loop-count.count < length bs = omega (arith, c.loop-count-test.true, c.min-end.ensures) in (
      rw c.from.ensures (read_more bs c.loop-count.count c.loop-count.value c.loop-count.invariant.0 within
          c.if-bytes-count-ge48.true c.if-bytes-count-le57.true),
      omega (arith, c.loop-count-test.true),
    )

pub returns-then-count-bytes : goal.returns-then-count-bytes
returns-then-count-bytes c =
    let bs = c.args.bytes.now in
    let n = c.loop-count.count in
    let whole = c.if-count-bytes.true in
    subst (IsFront bs c.loop-count.value) (sym (take_rest bs n ∙ drop_all n bs (omega (arith, whole))))
    (front_at_end bs n c.loop-count.value c.loop-count.invariant.0 (omega (arith, c.if-count-eq0.false))
    (omega (arith, c.loop-count.invariant.1, c.min-end.ensures)) whole)

pub returns : goal.returns
returns c =
    let bs = c.args.bytes.now in
    let n = c.loop-count.count in
    let within : n < length bs =
    omega (arith, c.loop-count.invariant.1, c.min-end.ensures, c.if-count-bytes.false) in
    subst (IsFront bs c.loop-count.value) (sym (take_rest bs (n + 1)))
    (front_before_space bs n c.loop-count.value c.loop-count.invariant.0 (omega (arith, c.if-count-eq0.false))
    (omega (arith, c.loop-count.invariant.1, c.min-end.ensures)) within c.if-bytes-count-ne32.false)
