-- What the trees of the code are.
use Rattle.dart_tree.proofs.Rows.{view_omitted, view_given, view_the_variables, view_the_function, view_the_parameters}

pub ruleset trees = (view_omitted, view_given, view_the_variables, view_the_function, view_the_parameters)
