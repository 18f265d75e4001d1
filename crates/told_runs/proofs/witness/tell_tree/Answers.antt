use Rattle.pop_model.specs.Runs.{start_of}
use Rattle.witness_trees.proofs.Labels.{tree_labels}
use Rattle.told_runs.proofs.witness.tell_tree.Goals as goal

-- the labels of the tree are events
pub print_tree-text-requires : goal.print_tree-text-requires
print_tree-text-requires c =
    tree_labels c.args.instance.now (start_of c.args.instance.now) c.args.log.now c.args.t c.in_ok-tree.tree
    c.requires.legal c.in_ok-tree.ensures
