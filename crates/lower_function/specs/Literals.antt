-- What contracts see of literals.
use Rattle.dart_ir.specs.declared.value.Value.{Value}
use Rattle.dart_pieces.specs.Numbers as numbers
use Rattle.translation.specs.Statements as s
use Rattle.lower_function.specs.declared.literal.Literal.{Literal}
use Rattle.lower_function.specs.declared.literal.Literal.TheVariants as k

abbrev pub literal : Literal → s.Literal
literal k.Missing = s.no_literal
literal k.Null = s.a_null
literal (k.Bool truth) = s.a_bool truth
literal (k.Integer text) = s.an_integer (numbers.integer_value text.now)
literal (k.Negative text) = s.a_negative (numbers.integer_value text.now)
literal (k.Text units) = s.a_string units

abbrev pub value : Value → Value
value x = x
