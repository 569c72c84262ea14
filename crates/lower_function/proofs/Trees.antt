-- What the trees of the code are.
use Rattle.dart_tree.proofs.Rows.{view_assign, view_plain, view_throw, view_conditional, view_binary, view_is_type, view_as_type, view_prefix, view_postfix, view_primary, view_super_access, view_bare_super, view_atom, view_text, view_list_literal, view_map_literal, view_new_object, view_function_literal, view_parenthesized, view_omitted, view_given, view_plain_parameter, view_function_parameter, view_the_parameters, view_the_parameter}

pub ruleset trees = (view_assign, view_plain, view_throw, view_conditional, view_binary, view_is_type, view_as_type, view_prefix, view_postfix, view_primary, view_super_access, view_bare_super, view_atom, view_text, view_list_literal, view_map_literal, view_new_object, view_function_literal, view_parenthesized, view_omitted, view_given, view_plain_parameter, view_function_parameter, view_the_parameters, view_the_parameter)
