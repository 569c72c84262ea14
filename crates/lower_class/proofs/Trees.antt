-- What the trees of the code are.
use Rattle.dart_tree.proofs.Rows.{view_omitted, view_given, view_the_variables, view_the_function, view_the_parameters}
use Rattle.dart_tree.proofs.Rows.{view_arrow_body, view_block_body, view_no_body, view_plain_parameter, view_function_parameter}

pub ruleset trees = (view_omitted, view_given, view_the_variables, view_the_function, view_the_parameters)

pub ruleset body_trees = (view_arrow_body, view_block_body, view_no_body)

pub ruleset parameter_trees = (view_plain_parameter, view_function_parameter)
