use Rattle.std.proofs.Common.{rules, ◌≡◌, ◌++◌, ◌∷◌, [], vec_capacity, subst}
use Rattle.claim_words.specs.Maps.{Pairs}
use Rattle.event_finders.specs.Trails.{IsKept}
use Rattle.event_finders.proofs.TrailMarks.{shrunk}
use Rattle.event_finders.proofs.walker.Walker.pop.Goals as goal

pub invariant_of-self : goal.invariant_of-self
invariant_of-self c =
    let marks = c.self.inside.marks.items in
    let is : c.self.inside.path.items ≡ c.pop.new.self.items ++ c.in-Some.last ∷ [] = c.in-Some.ensures.items in
    let room : vec_capacity c.self.inside.path ≡ vec_capacity c.pop.new.self = search rules in
    subst (IsKept _ _) room (shrunk marks c.pop.new.self.items c.in-Some.last (vec_capacity c.self.inside.path)
    (subst (λ (p : Pairs). IsKept marks p (vec_capacity c.self.inside.path)) is c.self.invariant))

pub returns-clause-trail : goal.returns-clause-trail
returns-clause-trail c =
    let marks = c.self.inside.marks.items in
    let is : c.self.inside.path.items ≡ c.pop.new.self.items ++ c.in-Some.last ∷ [] = c.in-Some.ensures.items in
    (shrunk marks c.pop.new.self.items c.in-Some.last (vec_capacity c.self.inside.path)
    (subst (λ (p : Pairs). IsKept marks p (vec_capacity c.self.inside.path)) is c.self.invariant)).trail
