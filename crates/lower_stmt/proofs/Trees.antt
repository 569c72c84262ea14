-- What the trees of the code are.
use Rattle.dart_tree.proofs.Rows.{view_labelled, view_block_stmt, view_variables_stmt, view_function_stmt, view_if_stmt, view_if_else, view_loop, view_switch_stmt, view_try_stmt, view_return_stmt, view_jump, view_expression_stmt, view_for_loop, view_for_variables, view_for_in, view_while_loop, view_do_loop, view_arrow_body, view_block_body, view_no_body, view_the_function, view_omitted, view_given, view_the_variables}

pub ruleset stmt_trees = (view_labelled, view_block_stmt, view_variables_stmt, view_function_stmt, view_if_stmt, view_if_else, view_loop, view_switch_stmt, view_try_stmt, view_return_stmt, view_jump, view_expression_stmt)

pub ruleset loop_trees = (view_for_loop, view_for_variables, view_for_in, view_while_loop, view_do_loop)

pub ruleset body_trees = (view_arrow_body, view_block_body, view_no_body, view_the_function)

pub ruleset value_trees = (view_omitted, view_given)

pub ruleset variable_trees = (view_omitted, view_given, view_the_variables)
