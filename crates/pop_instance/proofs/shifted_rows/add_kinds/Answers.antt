use Rattle.std.proofs.Common.{ℕ, List, length, ap, sym, subst, arith}
use Rattle.std.proofs.lemmas.List.{length_push}
use Rattle.pop_instance.specs.ShiftedRows.{IsKind}
use Rattle.pop_instance.proofs.ShiftedRowsLemmas.{HaveKinds, kinds_more, rows_by_kinds, kinds_known}
use Rattle.pop_instance.proofs.shifted_rows.add_kinds.Goals as goal

pub loop-v-preserved : goal.loop-v-preserved
loop-v-preserved c =
    let rows : List (List ℕ) = c.args.rows.now in
    let kinds : List ℕ = c.loop-v.kinds.items in
    let new : List (List ℕ) = c.kind_in.new.patterns in
    let v : ℕ = c.loop-v.v in
    let kind : ℕ = c.in-Some.kind in
    let here : IsKind v c.row.result.now new kind = rw c.in-Some.is at c.in_ok-kind.ensures.kind in
    let pushed = c.in_ok-push.ensures.items in
    record {
      size = omega (arith, ap length pushed, length_push kinds kind, c.loop-v.invariant.size);
      have = subst (λ ks. HaveKinds rows ks new) (sym pushed)
          (kinds_more rows kinds c.loop-v.patterns new v kind c.loop-v.invariant.have c.in_ok-kind.ensures.kept
          c.loop-v.invariant.size (subst (λ row. IsKind v row new kind) c.row.ensures.row here));
    }

pub returns-clause-few : goal.returns-clause-few
returns-clause-few c =
    kinds_known c.args.rows.now c.loop-v.kinds.items c.loop-v.patterns
    (omega (arith, c.loop-v.invariant.size, c.loop-v.auto.v-end, c.count-v-end.type_inv))
    c.loop-v.invariant.have

pub returns-clause-rows : goal.returns-clause-rows
returns-clause-rows c =
    rows_by_kinds c.args.rows.now c.loop-v.kinds.items c.loop-v.patterns
    (omega (arith, c.loop-v.invariant.size, c.loop-v.auto.v-end, c.loop-v-test.false, c.count-v-end.ensures))
    c.loop-v.invariant.have
