use Rattle.std.proofs.Common.{ℕ, ◌<◌, ◌^◌, List, length, Vec, Global, arith}
use Rattle.std.proofs.lemmas.List.{length-map}
use Rattle.std.proofs.lemmas.List.Elements.{All-map}
use Rattle.test_instances.proofs.given.rows.Goals as goal

pub of-requires : goal.of-requires
of-requires c =
    let rows = c.loop-row.rows.items in
    let items : Vec ℕ Global → List ℕ = λ v. v.items in
    let size = length-map rows items in
    record {
      count = omega (arith, size);
      each = All-map (λ (row : List ℕ). length row < 2 ^ 31) items rows c.loop-row.invariant;
    }
