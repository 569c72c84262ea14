-- What contracts see of operators.
use Rattle.std.specs.Prelude.{Option, Some, None}
use Rattle.dart_base.specs.declared.name.Name.{Name}
use Rattle.dart_token.specs.declared.sign.Sign.{Sign}
use Rattle.dart_token.specs.Sign.{sign_text}
use Rattle.translation.specs.Surroundings.{Text}
use Rattle.translation.specs.Expressions as e
use Rattle.lower_leaf.specs.Around.{Around, text}
use Rattle.lower_operand.specs.declared.operator.Operation.{Operation}
use Rattle.lower_operand.specs.declared.operator.Operation.TheVariants as k
use Rattle.lower_operand.specs.declared.operator.Prefix.{Prefix}
use Rattle.lower_operand.specs.declared.operator.Prefix.TheVariants as p

abbrev pub operation : Around → Operation → e.Operation
operation a k.Conjunction = e.conjunction
operation a k.Disjunction = e.disjunction
operation a k.Equality = e.equality
operation a k.Inequality = e.inequality
operation a (k.Method name) = e.method (text a name)

abbrev pub prefix : Around → Prefix → e.Prefix
prefix a p.Negation = e.negation
prefix a (p.Step name) = e.step (text a name)
prefix a (p.Unary name) = e.unary (text a name)

abbrev pub name_option : Around → Option Name → Option Text
name_option a None = None
name_option a (Some name) = Some (text a name)

abbrev pub sign_name : Option Sign → Option Text
sign_name None = None
sign_name (Some sign) = Some (sign_text sign)
