-- The first token of a node stands in the same line once annotations and columns are forgotten.
use Rattle.std.proofs.Common.{◌≡◌, refl}
use Rattle.dart_base.specs.declared.place.Place.{Place}
use Rattle.dart_tree.specs.declared.identifier.Identifier.{Identifier}
use Rattle.dart_tree.specs.declared.identifier.Identifier.TheVariants as i
use Rattle.dart_tree.specs.declared.operator.Operator.{Operator}
use Rattle.dart_tree.specs.declared.operator.Operator.TheVariants as o
use Rattle.dart_tree.specs.declared.expression.Atom.{Atom}
use Rattle.dart_tree.specs.declared.expression.Atom.TheVariants as a
use Rattle.dart_tree.specs.declared.expression.Creation.{Creation}
use Rattle.dart_tree.specs.declared.expression.Creation.TheVariants as n
use Rattle.dart_tree.specs.Places.{place_of}
use Rattle.dart_tree.specs.Types as y
use Rattle.dart_tree.specs.Tree as t
use Rattle.dart_erase.specs.Erased as erased
use Rattle.laws_translation.specs.LinedLeaf as leaf
use Rattle.laws_translation.specs.Lined as lined
use Rattle.translation.specs.Firsts as first
use Rattle.laws_translation.proofs.Kept.{line}

pub place_line : (x : Identifier) → place_of (leaf.identifier x) ≡ line (place_of x)
place_line (i.Name place text) = refl
place_line (i.Get place) = refl
place_line (i.Set place) = refl

pub operator_line : (x : Operator) → first.place_of_operator (leaf.operator x) ≡ line (first.place_of_operator x)
operator_line (o.Sign place sign) = refl
operator_line (o.ShiftRight first second) = refl
operator_line (o.ShiftRightAssign first second) = refl

pub atom_line : (x : Atom) → first.place_of_atom (leaf.atom x) ≡ line (first.place_of_atom x)
atom_line (a.This place) = refl
atom_line (a.Null place) = refl
atom_line (a.True place) = refl
atom_line (a.False place) = refl
atom_line (a.Integer place text) = refl
atom_line (a.Name name) = place_line name

pub creation_line : (x : Creation) → first.place_of_creation (leaf.creation x) ≡ line (first.place_of_creation x)
creation_line (n.New place) = refl
creation_line (n.Const place) = refl

pub type_line : (x : y.TypeNode) → first.first_of_type (leaf.type_node x) ≡ line (first.first_of_type x)
type_line (y.dynamic_type place) = refl
type_line (y.named_type name dot given) = place_line name

pub arguments_line : (x : y.TypeArguments) (place : Place) →
    first.first_of_arguments (leaf.type_arguments x) (line place) ≡ line (first.first_of_arguments x place)
arguments_line y.no_types place = refl
arguments_line (y.listed_types opening types closing) place = refl

pub pieces_line : (x : t.Pieces) → first.first_of_pieces (lined.pieces (erased.pieces x)) ≡ line (first.first_of_pieces x)
unfolding erased.pieces lined.pieces
pieces_line t.no_pieces = refl
pieces_line (t.piece kind place text value rest) = refl

pub parameters_line : (x : t.Parameters) → first.first_of_parameters (lined.parameters (erased.parameters x)) ≡ line (first.first_of_parameters x)
unfolding erased.parameters lined.parameters
parameters_line (t.the_parameters opening required brackets optional closing) = refl

mutual
  unfolding erased.expr erased.operand erased.primary lined.expr lined.operand lined.primary

  pub expr_line : (x : t.Expr) → first.first_of_expr (lined.expr (erased.expr x)) ≡ line (first.first_of_expr x)
  expr_line (t.assign target operator value) = operand_line target
  expr_line (t.plain operand _) = operand_line operand
  expr_line (t.throw word value) = refl

  pub operand_line : (x : t.Operand) → first.first_of_operand (lined.operand (erased.operand x)) ≡ line (first.first_of_operand x)
  operand_line (t.conditional condition question first colon second) = operand_line condition
  operand_line (t.binary first more) = operand_line first
  operand_line (t.is_type operand word bang of) = operand_line operand
  operand_line (t.as_type operand word of) = operand_line operand
  operand_line (t.prefix operator operand) = operator_line operator
  operand_line (t.postfix primary _ operator) = primary_line primary
  operand_line (t.primary primary) = primary_line primary

  pub primary_line : (x : t.Primary) → first.first_of_primary (lined.primary (erased.primary x)) ≡ line (first.first_of_primary x)
  primary_line (t.super_access word selector) = refl
  primary_line (t.bare_super word) = refl
  primary_line (t.atom atom) = atom_line atom
  primary_line (t.text pieces) = pieces_line pieces
  primary_line (t.list_literal types opening items comma closing) = arguments_line types opening
  primary_line (t.map_literal types opening _ comma closing) = arguments_line types opening
  primary_line (t.new_object creation of constructor arguments) = creation_line creation
  primary_line (t.function_literal parameters body) = parameters_line parameters
  primary_line (t.parenthesized opening value closing) = refl

pub variables_line : (name : Identifier) (x : y.VariableKind) →
    first.first_of_variables (leaf.variable_kind (erased.variable_kind name x)) (leaf.identifier name) ≡ line (first.first_of_variables x name)
variables_line name y.no_kind = place_line name
variables_line name (y.var_kind place) = refl
variables_line name (y.final_kind place of) = refl
variables_line name (y.const_kind place of) = refl
variables_line name (y.typed_kind of) = refl
