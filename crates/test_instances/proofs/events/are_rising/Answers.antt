use Rattle.std.proofs.Common.{◌≡◌, ℕ, ◌+◌, ◌<◌, [], length, map, arith}
use Rattle.std.proofs.lemmas.List.{length-map, get_or-map}
use Rattle.pop_model.specs.Popping.{Cube}
use Rattle.test_instances.proofs.events.are_rising.Goals as goal

pub returns : goal.returns
returns c = λ k within.
    let rows = c.args.rows.now in
    let size : length (map (λ (r : ℕ × Cube). r.0) rows) ≡ length rows = length-map rows (λ (r : ℕ × Cube). r.0) in
    let below : k + 1 < length rows = omega (arith, size, within) in
    let here = get_or-map (λ (r : ℕ × Cube). r.0) rows k (0, []) 0 (omega arith) in
    let next = get_or-map (λ (r : ℕ × Cube). r.0) rows (k + 1) (0, []) 0 below in
    let rising = c.loop-i.invariant k (omega arith) in
    omega (arith, here, next, rising)
