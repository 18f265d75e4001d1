use Rattle.std.proofs.Common.{rules, ◌≡◌, ◌-◌, ◌<◌, length, get_or, sym, ◌∙◌, arith}
use Rattle.std.proofs.lemmas.List.{get_or_default}
use Rattle.confluence_core.proofs.PathsLemmas.{path_fits, off_other}
use Rattle.confluence_core.proofs.walk.Walk.place_of.Goals as goal

pub index-requires-2 : goal.index-requires-2
index-requires-2 c =
    let fits = path_fits c.requires.trail in
    let h : c.index.result.now - 1 < length c.args.self.now.path.items =
    omega (arith, fits, c.requires.sized.places_are, c.if-mark-self.false) in
    search rules

pub returns-then-index-variable : goal.returns-then-index-variable
returns-then-index-variable c =
    let w = c.args.self.now in
    let m = c.index.result.now in
    let mark : m ≡ get_or w.marks.items c.args.variable 0 =
    c.index.ensures ∙ get_or_default w.marks.items c.args.variable m 0
    (omega (arith, c.requires.known, c.requires.sized.marks_are)) in
    let fits = path_fits c.requires.trail in
    let there : c.index-2.result.now ≡ get_or w.path.items (m - 1) 0 =
    c.index-2.ensures ∙ get_or_default w.path.items (m - 1) c.index-2.result.now 0
    (omega (arith, fits, c.requires.sized.places_are, c.if-mark-self.false)) in
    off_other c.requires.trail c.args.variable m mark (λ same. c.if-index-variable.true (there ∙ same))

pub returns : goal.returns
returns c =
    let w = c.args.self.now in
    let m = c.index.result.now in
    let fits = path_fits c.requires.trail in
    let there : c.index-2.result.now ≡ get_or w.path.items (m - 1) 0 =
    c.index-2.ensures ∙ get_or_default w.path.items (m - 1) c.index-2.result.now 0
    (omega (arith, fits, c.requires.sized.places_are, c.if-mark-self.false)) in
    (omega (arith, c.if-mark-self.false), sym there ∙ c.if-index-variable.false)
