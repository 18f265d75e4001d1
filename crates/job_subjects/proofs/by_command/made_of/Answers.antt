use Rattle.std.proofs.Common.{inl, inr}
use Rattle.pop_words.specs.declared.command.Command.TheVariants.{Make}
use Rattle.job_subjects.specs.Subjects.{AreGridArrows}
use Rattle.job_subjects.specs.Refused.{RefusesText}
use Rattle.job_subjects.proofs.MadeExtremal.{grid_arrows_extremal, result_extremal}
use Rattle.job_subjects.proofs.MadeTexts.{made_by, cnf_no_grid, graph_no_grid}
use Rattle.job_subjects.proofs.RefusedTexts.{stop_or_refused}
use Rattle.job_subjects.proofs.by_command.made_of.Goals as goal

-- the formula is that of the text
pub returns-in_ok-formula_of-in-Formula-clause-made : goal.returns-in_ok-formula_of-in-Formula-clause-made
returns-in_ok-formula_of-in-Formula-clause-made g c text input = elim input [
  | inl known ↦
      c.made_of_formula-in-Formula.ensures.made text (c.in_ok-formula_of-in-Formula.ensures.text text known)
  | inr make ↦ absurd (cnf_no_grid c.args.wanted.command c.in-Formula.is make)
]

pub returns-in_ok-formula_of-in-Formula-clause-refused : goal.returns-in_ok-formula_of-in-Formula-clause-refused
returns-in_ok-formula_of-in-Formula-clause-refused g c text input = elim input [
  | inl known ↦
      stop_or_refused (RefusesText c.args.wanted text) c.made_of_formula-in-Formula.result
      (c.made_of_formula-in-Formula.ensures.refused text
      (c.in_ok-formula_of-in-Formula.ensures.text text known))
  | inr make ↦ absurd (cnf_no_grid c.args.wanted.command c.in-Formula.is make)
]

-- the graph is that of the text
pub returns-in_ok-graph_of-in-Orient-clause-made : goal.returns-in_ok-graph_of-in-Orient-clause-made
returns-in_ok-graph_of-in-Orient-clause-made g c text input = elim input [
  | inl known ↦ c.made_of_graph.ensures.made text (c.in_ok-graph_of-in-Orient.ensures.text text known)
  | inr make ↦ absurd (graph_no_grid c.args.wanted.command c.in-Orient.is make)
]

pub returns-in_ok-graph_of-in-Orient-clause-refused : goal.returns-in_ok-graph_of-in-Orient-clause-refused
returns-in_ok-graph_of-in-Orient-clause-refused g c text input = elim input [
  | inl known ↦
      stop_or_refused (RefusesText c.args.wanted text) c.made_of_graph.result
      (c.made_of_graph.ensures.refused text (c.in_ok-graph_of-in-Orient.ensures.text text known))
  | inr make ↦ absurd (graph_no_grid c.args.wanted.command c.in-Orient.is make)
]

-- the grid is what the command samples
pub returns-in-Make-clause-made : goal.returns-in-Make-clause-made
returns-in-Make-clause-made g c text input =
    made_by Make c.args.wanted text (AreGridArrows c.args.wanted.side) c.make_grid.result c.in-Make.is (λ s are. are)
    c.make_grid.ensures.made

-- cycles are extremal
pub returns-in-Make-clause-extremal : goal.returns-in-Make-clause-extremal
returns-in-Make-clause-extremal g c ordered run =
    let w = c.args.wanted in
    result_extremal (AreGridArrows w.side) w.origin w.count c.make_grid.result (grid_arrows_extremal w.side)
    c.make_grid.ensures.made
