-- Small facts of erasure.
use Rattle.std.proofs.Common.{◌≡◌, Option, None, Some, refl}
use Rattle.dart_base.specs.declared.place.Place.{Place}
use Rattle.dart_tree.specs.declared.expression.Creation.{Creation}
use Rattle.dart_tree.specs.declared.identifier.Identifier.{Identifier}
use Rattle.dart_tree.specs.declared.identifier.DotName.{DotName}
use Rattle.dart_tree.specs.declared.parameter.ThisDot.{ThisDot}
use Rattle.dart_tree.specs.Places.{place_of}
use Rattle.dart_tree.specs.Tree as t
use Rattle.dart_tree.specs.Types as y
use Rattle.dart_erase.specs.Erased as erased

pub new_kept : (creation : Creation) (class : y.TypeNode) (name : Option DotName) (given : t.Arguments) → erased.primary (t.new_object creation class name given) ≡ t.new_object creation class name (erased.arguments given)
unfolding erased.primary
new_kept creation class name given = refl

pub function_parameter_bare : (kind : Option y.ResultType) (this_dot : Option ThisDot) (name : Identifier) (given : t.Parameters) → erased.parameter_kind (t.function_parameter kind this_dot name given) ≡ t.plain_parameter y.no_kind this_dot name
unfolding erased.parameter_kind
function_parameter_bare kind this_dot name given = refl

pub var_once : (place semicolon : Place) (name : Identifier) (of : y.TypeNode) (value : t.Value) (more : t.MoreVariables) → erased.variables (t.the_variables (y.final_kind place (Some of)) name value more semicolon) ≡ t.the_variables (y.final_kind place None) name (erased.value value) (erased.more_variables more) semicolon
unfolding erased.variables
var_once place semicolon name of value more = refl

pub const_kept : (place semicolon : Place) (name : Identifier) (of : y.TypeNode) (value : t.Value) (more : t.MoreVariables) → erased.variables (t.the_variables (y.const_kind place (Some of)) name value more semicolon) ≡ t.the_variables (y.const_kind place None) name (erased.value value) (erased.more_variables more) semicolon
unfolding erased.variables
const_kept place semicolon name of value more = refl

pub var_put : (semicolon : Place) (name : Identifier) (of : y.TypeNode) (value : t.Value) (more : t.MoreVariables) → erased.variables (t.the_variables (y.typed_kind of) name value more semicolon) ≡ t.the_variables (y.var_kind (place_of name)) name (erased.value value) (erased.more_variables more) semicolon
unfolding erased.variables
var_put semicolon name of value more = refl
