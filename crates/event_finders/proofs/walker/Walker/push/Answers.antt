use Rattle.std.proofs.Common.{rules, ◌<◌, length, vec_capacity}
use Rattle.event_finders.proofs.TrailLemmas.{room_more}
use Rattle.event_finders.proofs.TrailMarks.{pushed}
use Rattle.event_finders.proofs.walker.Walker.push.Goals as goal

pub push_reserved-requires : goal.push_reserved-requires
push_reserved-requires c =
    let is = c.self.invariant in
    let marks = c.self.inside.marks.items in
    let path = c.self.inside.path.items in
    let more : length path < length marks = room_more (length marks) path (c.args.v, c.args.cursor) is.trail
    (search rules) (search rules) in
    let room = is.roomy in
    search rules

pub invariant_of-self : goal.invariant_of-self
invariant_of-self c =
    pushed c.self.inside.marks.items c.self.inside.path.items (vec_capacity c.self.inside.path) c.self.invariant
    (c.args.v, c.args.cursor) (search rules) (search rules) _ _ (vec_capacity c.push_reserved.new.self)
    (search rules) c.push_reserved.ensures.items (search rules)

pub returns-clause-trail : goal.returns-clause-trail
returns-clause-trail c =
    (pushed c.self.inside.marks.items c.self.inside.path.items (vec_capacity c.self.inside.path) c.self.invariant
    (c.args.v, c.args.cursor) (search rules) (search rules) _ _ (vec_capacity c.push_reserved.new.self)
    (search rules) c.push_reserved.ensures.items (search rules)).trail
