-- What the trees of the code are.
use Rattle.dart_tree.proofs.Rows.{view_the_function}

pub ruleset trees = (view_the_function)
