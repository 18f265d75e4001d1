use Rattle.std.proofs.Common.{rules, ◌≡◌, ◌<◌, ℕ, length, get_or, vec_capacity, sym, ap, subst, ◌∙◌, arith}
use Rattle.std.proofs.lemmas.List.{get_or_default}
use Rattle.pop_model.specs.Popping.{variables}
use Rattle.claim_words.specs.Maps.{Pairs, times_in}
use Rattle.event_finders.specs.Trails.{Trail}
use Rattle.event_finders.proofs.TrailLemmas.{stand_variable}
use Rattle.event_finders.proofs.TrailMarks.{unmarked_off}
use Rattle.event_finders.proofs.walker.Walker.place.Goals as goal

pub returns-then-place-len : goal.returns-then-place-len
returns-then-place-len c =
    let marks = c.self.inside.marks.items in
    let path : Pairs = c.self.inside.path.items in
    let near : c.args.v < length marks = search rules in
    let mark = c.index.ensures ∙ get_or_default marks c.args.v c.index.result.now 0 near in
    let long : c.len.result ≡ length path = search rules in
    ap (λ (t : Trail). times_in c.args.v (variables t.path)) (sym c.self.view_is)
    ∙ unmarked_off marks path (vec_capacity c.self.inside.path) c.self.invariant c.args.v
    (λ less same. absurd (omega (arith, less, mark, long, c.if-place-len.true)))

pub returns-then-index-v : goal.returns-then-index-v
returns-then-index-v c =
    let marks = c.self.inside.marks.items in
    let path : Pairs = c.self.inside.path.items in
    let place : ℕ = c.index.result.now in
    let near : c.args.v < length marks = search rules in
    let mark = c.index.ensures ∙ get_or_default marks c.args.v place 0 near in
    let within : place < length path = search rules in
    let there = c.index-2.ensures ∙ get_or_default path place c.index-2.result.now (0, 0) within in
    ap (λ (t : Trail). times_in c.args.v (variables t.path)) (sym c.self.view_is)
    ∙ unmarked_off marks path (vec_capacity c.self.inside.path) c.self.invariant c.args.v
    (λ less same. c.if-index-v.true (ap (λ (e : ℕ × ℕ). e.0) there ∙ stand_variable path place
    ∙ ap (λ (j : ℕ). get_or (variables path) j 0) mark ∙ same))

pub returns : goal.returns
returns c =
    let path : Pairs = c.self.inside.path.items in
    let place : ℕ = c.index.result.now in
    let within : place < length path = search rules in
    let there = c.index-2.ensures ∙ get_or_default path place c.index-2.result.now (0, 0) within in
    subst (λ (t : Trail). (place < length t.path) × (get_or (variables t.path) place 0 ≡ c.args.v)) c.self.view_is
    (within, sym (stand_variable path place) ∙ sym (ap (λ (e : ℕ × ℕ). e.0) there) ∙ c.if-index-v.false)
