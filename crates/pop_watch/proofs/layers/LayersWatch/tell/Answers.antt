use Rattle.std.proofs.Common.{◌≡◌, ℕ, List, length, map, drop, ap, ◌∙◌, arith}
use Rattle.std.specs.List.{range_with_len}
use Rattle.std.proofs.lemmas.List.{take_at, length-map}
use Rattle.std.proofs.lemmas.List.FromFn.{length-range_with_len}
use Rattle.pop_model.specs.Popping.{Cube}
use Rattle.pop_watch.specs.Watching.{places_with, layer_at, layer_put}
use Rattle.pop_watch.proofs.LayerSteps.{room_in_long, some_in_long, step_is, long_is, no_fewer}
use Rattle.pop_watch.proofs.layers.LayersWatch.tell.Goals as goal

pub put_layer-requires-clause-room : goal.put_layer-requires-clause-room
put_layer-requires-clause-room c =
    let e : Cube = c.cube-cube.result.now in
    let s = c.args.self.now.places.items in
    let size = c.size_with-size.result in
    let sized : size ≡ places_with s e = c.size_with-size.ensures ∙ ap (λ (l : List ℕ). places_with l e) c.deref-2.ensures.value in
    room_in_long s c.deref_mut.result.now size c.args.self.now.places.len e c.args.self.now.places.ok.0 sized
    (c.deref_mut.ensures.value ∙ c.in_ok-resize.ensures.items)

pub put_layer-requires-clause-some : goal.put_layer-requires-clause-some
put_layer-requires-clause-some c =
    some_in_long c.deref_mut.result.now c.cube-cube.result.now c.len-len.ensures.cube.some (put_layer-requires-clause-room c)

pub returns-clause-told : goal.returns-clause-told
returns-clause-told c =
    let e : Cube = c.cube-cube.result.now in
    let s = c.args.self.now.places.items in
    let count = c.args.self.now.places.len in
    let size = c.size_with-size.result in
    let long = c.deref_mut.result.now in
    let now = c.put_layer.new.places in
    let sized : size ≡ places_with s e = c.size_with-size.ensures ∙ ap (λ (l : List ℕ). places_with l e) c.deref-2.ensures.value in
    let layer_is = c.layer_of-layer.ensures ∙ ap (λ (l : List ℕ). layer_at l e) c.deref.ensures.value in
    let is = c.deref_mut.ensures.value ∙ c.in_ok-resize.ensures.items in
    let step : now ≡ map (layer_put s e (layer_at s e)) (range_with_len 0 (places_with s e)) =
    step_is s long now size count c.layer_of-layer.result e c.args.self.now.places.ok.0 sized layer_is is c.put_layer.ensures in
    let low = no_fewer s e in
    let long_size = (long_is s long size count c.args.self.now.places.ok.0 (omega (arith, low, sized)) is).1 in
    let one = ap length c.put_layer.ensures in
    let two = length-map (range_with_len 0 (length long)) (layer_put long e c.layer_of-layer.result) in
    let three = length-range_with_len 0 (length long) in
    let len = c.in_ok-resize.ensures.len in
    let same : length now ≡ c.resize.new.self.len = omega (arith, one, two, three, long_size, len) in
    take_at now (drop (length now) c.resize.new.self.items) c.resize.new.self.len same ∙ step
    ∙ ap (λ (f : Cube). map (layer_put s f (layer_at s f)) (range_with_len 0 (places_with s f))) c.cube-cube.ensures.cube
