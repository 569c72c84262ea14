-- What the trees of the code are.
use Rattle.dart_tree.proofs.Rows.{view_omitted, view_given}

pub ruleset value_trees = (view_omitted, view_given)
