-- What an output shows does not depend on what follows it. Its status says whether events still occur.
use Rattle.std.proofs.Common.{◌≡◌, ℕ, List, [], ◌∷◌, ◌++◌, codes, ap, ◌∙◌, append_assoc, arith, zero, suc}
use Rattle.pop_model.specs.Stacks.{Origin}
use Rattle.pop_model.specs.Families.{Event}
use Rattle.pop_model.specs.Text.{line, spaced}
use Rattle.pop_words.specs.declared.command.Command.{Command}
use Rattle.pop_words.specs.declared.command.Command.TheVariants.{Formula, Orient, Tree, Resample, Make, Rounds}
use Rattle.pop_words.specs.declared.job.Job.{Job}
use Rattle.dimacs_read.specs.Cnf.{Cnf}
use Rattle.dimacs_read.specs.CnfText.{cnf_of}
use Rattle.graph_read.specs.Graphs.{GraphOf}
use Rattle.graph_read.specs.GraphText.{graph_of}
use Rattle.pop_print.specs.Output.{used_line}
use Rattle.told_runs.specs.Outcomes.{end_status}
use Rattle.printed_samples.specs.Arrows.{lines_of}
use Rattle.printed_samples.specs.Assignments.{ShowsAssignment}
use Rattle.printed_samples.specs.Orientations.{ShowsOrientation}
use Rattle.printed_samples.specs.Stuck.{stuck_text, ShowsStuck}
use Rattle.printed_samples.specs.Trees.{ShowsTree}
use Rattle.answer_laws.specs.Shown.{BeginsWith, ShowsSample, ShowsExhausted, ShowsEnd}

-- a text of a front and a rest, with more behind it
behind : (out front rest more : List ℕ) → out ≡ front ++ rest → out ++ more ≡ front ++ (rest ++ more)
behind out front rest more is = ap (λ l. l ++ more) is ∙ append_assoc front rest more

-- an assignment
assignment_more : (f : Cnf) (out more : List ℕ) → ShowsAssignment f out → ShowsAssignment f (out ++ more)
assignment_more f out more h = record {
  words = h.words;
  rest = h.rest ++ more;
  out_is = behind out (line (codes "s SAMPLE") ++ line (codes "v" ++ spaced h.words ++ codes " 0")) h.rest more h.out_is;
  literals = h.literals;
  satisfied = h.satisfied;
}

-- an orientation
orientation_more : (g : GraphOf) (out more : List ℕ) → ShowsOrientation g out → ShowsOrientation g (out ++ more)
orientation_more g out more h = record {
  arrows = h.arrows;
  rest = h.rest ++ more;
  out_is = behind out (line (codes "s SAMPLE") ++ lines_of h.arrows) h.rest more h.out_is;
  orientation = h.orientation;
  leaves = h.leaves;
}

-- a tree
tree_more : (g : GraphOf) (root : ℕ) (out more : List ℕ) → ShowsTree g root out → ShowsTree g root (out ++ more)
tree_more g root out more h = record {
  arrows = h.arrows;
  rest = h.rest ++ more;
  out_is = behind out (line (codes "s SAMPLE") ++ lines_of h.arrows) h.rest more h.out_is;
  tree = h.tree;
}

-- events that occur
stuck_more : (Is : List ℕ → List ℕ → Type 0) (out more : List ℕ) → ShowsStuck Is out → ShowsStuck Is (out ++ more)
stuck_more Is out more h = record {
  events = h.events;
  used = h.used;
  rest = h.rest ++ more;
  out_is = behind out (line (codes "s EXHAUSTED") ++ stuck_text h.events ++ used_line h.used) h.rest more h.out_is;
  stuck = h.stuck;
}

-- whatever a text begins with
begins_more : (Shows : List ℕ → Type 0) (out more : List ℕ) → BeginsWith Shows out → BeginsWith Shows (out ++ more)
begins_more Shows out more (front, rest, is, shows) =
    (front, rest ++ more, behind out front rest more is, shows)

-- of each command the sample
sample_more : (command : Command) (job : Job) (text out more : List ℕ) → ShowsSample command job text out
    → ShowsSample command job text (out ++ more)
sample_more Formula job text out more h = assignment_more (cnf_of text) out more h
sample_more Orient job text out more h = orientation_more (graph_of text) out more h
sample_more Tree job text out more h = tree_more (graph_of text) job.root out more h
sample_more Resample job text out more h = assignment_more (cnf_of text) out more h
sample_more Make job text out more h = begins_more _ out more h
sample_more Rounds job text out more h = assignment_more (cnf_of text) out more h
sample_more command job text out more h = h

-- and the events that occur
exhausted_more : (command : Command) (job : Job) (origin : Origin) (text out more : List ℕ)
    → ShowsExhausted command job origin text out → ShowsExhausted command job origin text (out ++ more)
exhausted_more Formula job origin text out more h = stuck_more _ out more h
exhausted_more Orient job origin text out more h = stuck_more _ out more h
exhausted_more Tree job origin text out more h = stuck_more _ out more h
exhausted_more Resample job origin text out more h = stuck_more _ out more h
exhausted_more Make job origin text out more h = begins_more _ out more h
exhausted_more Rounds job origin text out more h = stuck_more _ out more h
exhausted_more command job origin text out more h = h

-- so an end
pub end_more : (command : Command) (job : Job) (origin : Origin) (text : List ℕ) (stuck : List Event)
    (out more : List ℕ) → ShowsEnd command job origin text stuck out
    → ShowsEnd command job origin text stuck (out ++ more)
end_more command job origin text [] out more h = sample_more command job text out more h
end_more command job origin text (e ∷ stuck) out more h = exhausted_more command job origin text out more h

-- what a text shows with this status, of a sample, or else of an end at which events occur
abbrev pub ShowsBy : ℕ → Command → Job → Origin → List ℕ → List ℕ → Type 0
ShowsBy zero command job origin text out = ShowsSample command job text out
ShowsBy (suc status) command job origin text out = ShowsExhausted command job origin text out

-- an end with status 0 has no event, and one with status 1 has some
pub as_told : (status : ℕ) (command : Command) (job : Job) (origin : Origin) (text : List ℕ) (stuck : List Event)
    (out : List ℕ) → end_status stuck ≡ status → ShowsEnd command job origin text stuck out
    → ShowsBy status command job origin text out
as_told zero command job origin text [] out is h = h
as_told zero command job origin text (e ∷ stuck) out is h = absurd (omega (arith, is))
as_told (suc status) command job origin text [] out is h = absurd (omega (arith, is))
as_told (suc status) command job origin text (e ∷ stuck) out is h = h
