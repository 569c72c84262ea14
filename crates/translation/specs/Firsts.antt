-- The place of a node: that of its first token, among those that erasure keeps.
use Rattle.dart_base.specs.declared.place.Place.{Place}
use Rattle.dart_tree.specs.declared.identifier.Identifier.{Identifier}
use Rattle.dart_tree.specs.declared.operator.Operator.{Operator}
use Rattle.dart_tree.specs.declared.operator.Operator.TheVariants as o
use Rattle.dart_tree.specs.declared.expression.Atom.{Atom}
use Rattle.dart_tree.specs.declared.expression.Atom.TheVariants as a
use Rattle.dart_tree.specs.declared.expression.Creation.{Creation}
use Rattle.dart_tree.specs.declared.expression.Creation.TheVariants as n
use Rattle.dart_tree.specs.Places.{place_of}
use Rattle.dart_tree.specs.Types as y
use Rattle.dart_tree.specs.Tree as t

abbrev pub place_of_operator : Operator → Place
place_of_operator (o.Sign place sign) = place
place_of_operator (o.ShiftRight first second) = first
place_of_operator (o.ShiftRightAssign first second) = first

abbrev pub place_of_atom : Atom → Place
place_of_atom (a.This place) = place
place_of_atom (a.Null place) = place
place_of_atom (a.True place) = place
place_of_atom (a.False place) = place
place_of_atom (a.Integer place text) = place
place_of_atom (a.Name name) = place_of name

abbrev pub place_of_creation : Creation → Place
place_of_creation (n.New place) = place
place_of_creation (n.Const place) = place

abbrev pub first_of_type : y.TypeNode → Place
first_of_type (y.dynamic_type place) = place
first_of_type (y.named_type name dot arguments) = place_of name

-- of a literal that begins with its type arguments, where it has some
abbrev pub first_of_arguments : y.TypeArguments → Place → Place
first_of_arguments y.no_types place = place
first_of_arguments (y.listed_types opening types closing) place = opening

-- A string has a piece.
abbrev pub first_of_pieces : t.Pieces → Place
first_of_pieces t.no_pieces = record { unit = 0; line = 0; column = 0 }
first_of_pieces (t.piece kind place text value rest) = place

abbrev pub first_of_parameters : t.Parameters → Place
first_of_parameters (t.the_parameters opening required brackets optional closing) = opening

abbrev mutual
  pub first_of_expr : t.Expr → Place
  first_of_expr (t.assign target operator value) = first_of_operand target
  first_of_expr (t.plain operand more) = first_of_operand operand
  first_of_expr (t.throw word value) = word

  pub first_of_operand : t.Operand → Place
  first_of_operand (t.conditional condition question first colon second) = first_of_operand condition
  first_of_operand (t.binary first more) = first_of_operand first
  first_of_operand (t.is_type operand word bang of) = first_of_operand operand
  first_of_operand (t.as_type operand word of) = first_of_operand operand
  first_of_operand (t.prefix operator operand) = place_of_operator operator
  first_of_operand (t.postfix primary more operator) = first_of_primary primary
  first_of_operand (t.primary primary) = first_of_primary primary

  pub first_of_primary : t.Primary → Place
  first_of_primary (t.super_access word selector) = word
  first_of_primary (t.bare_super word) = word
  first_of_primary (t.atom atom) = place_of_atom atom
  first_of_primary (t.text pieces) = first_of_pieces pieces
  first_of_primary (t.list_literal types opening all comma closing) = first_of_arguments types opening
  first_of_primary (t.map_literal types opening all comma closing) = first_of_arguments types opening
  first_of_primary (t.new_object creation of constructor arguments) = place_of_creation creation
  first_of_primary (t.function_literal parameters body) = first_of_parameters parameters
  first_of_primary (t.parenthesized opening value closing) = opening

-- of variables: their word, or the first name where only a type stands before it, since there erasure puts `var`
abbrev pub first_of_variables : y.VariableKind → Identifier → Place
first_of_variables y.no_kind name = place_of name
first_of_variables (y.var_kind place) name = place
first_of_variables (y.final_kind place of) name = place
first_of_variables (y.const_kind place of) name = place
first_of_variables (y.typed_kind of) name = place_of name
