-- To erase and to forget columns is the same in either order.
use Rattle.std.proofs.Common.{◌≡◌, refl, ap, map, List, [], ◌∷◌, Option, None, Some}
use Rattle.core_program.specs.Alike.{line}
use Rattle.dart_tree.specs.UnitView.{maybe}
use Rattle.dart_tree.specs.declared.identifier.Identifier.{Identifier}
use Rattle.dart_erase.specs.Erased as erased
use Rattle.dart_tree.specs.Types as y
use Rattle.dart_tree.specs.Tree as t
use Rattle.laws_translation.specs.LinedLeaf as l
use Rattle.laws_translation.specs.Lined as lined
use Rattle.dart_tree.specs.Unit as u
use Rattle.dart_erase.specs.UnitErased as unit_erased
use Rattle.laws_translation.specs.LinedUnit as w
use Rattle.laws_translation.proofs.Firsts.{place_line}

kind_either : (name : Identifier) (k : y.VariableKind) → erased.variable_kind (l.identifier name) (l.variable_kind k) ≡ l.variable_kind (erased.variable_kind name k)
kind_either name y.no_kind = refl
kind_either name (y.var_kind place) = refl
kind_either name (y.final_kind place x) = refl
kind_either name (y.const_kind place x) = refl
kind_either name (y.typed_kind x) = ap y.var_kind (place_line name)

type_either : (k : y.VariableKind) → erased.parameter_type (l.variable_kind k) ≡ l.variable_kind (erased.parameter_type k)
type_either y.no_kind = refl
type_either (y.var_kind place) = refl
type_either (y.final_kind place x) = refl
type_either (y.const_kind place x) = refl
type_either (y.typed_kind x) = refl

mutual
  unfolding erased.expr lined.expr erased.operand lined.operand erased.primary lined.primary erased.selector lined.selector erased.value lined.value erased.parameter_kind lined.parameter_kind erased.stmt lined.stmt erased.loop lined.loop erased.body lined.body erased.arguments lined.arguments erased.parameters lined.parameters erased.parameter lined.parameter erased.annotation lined.annotation erased.variables lined.variables erased.function lined.function erased.block lined.block erased.tails lined.tails erased.pieces lined.pieces erased.selectors lined.selectors erased.cascades lined.cascades erased.items lined.items erased.entries lined.entries erased.parameter_list lined.parameter_list erased.metadata lined.metadata erased.stmts lined.stmts erased.more_variables lined.more_variables erased.switch_parts lined.switch_parts erased.try_parts lined.try_parts

  pub either_expr : (x : t.Expr) → erased.expr (lined.expr x) ≡ lined.expr (erased.expr x)
  either_expr (t.assign x0 x1 x2) = λ i. t.assign (either_operand x0 i) (l.operator x1) (either_expr x2 i)
  either_expr (t.plain x0 x1) = λ i. t.plain (either_operand x0 i) (either_cascades x1 i)
  either_expr (t.throw x0 x1) = λ i. t.throw (line x0) (either_expr x1 i)

  pub either_operand : (x : t.Operand) → erased.operand (lined.operand x) ≡ lined.operand (erased.operand x)
  either_operand (t.conditional x0 x1 x2 x3 x4) = λ i. t.conditional (either_operand x0 i) (line x1) (either_expr x2 i) (line x3) (either_expr x4 i)
  either_operand (t.binary x0 x1) = λ i. t.binary (either_operand x0 i) (either_tails x1 i)
  either_operand (t.is_type x0 x1 x2 x3) = λ i. t.is_type (either_operand x0 i) (line x1) (maybe line x2) (l.type_node x3)
  either_operand (t.as_type x0 x1 x2) = λ i. t.as_type (either_operand x0 i) (line x1) (l.type_node x2)
  either_operand (t.prefix x0 x1) = λ i. t.prefix (l.operator x0) (either_operand x1 i)
  either_operand (t.postfix x0 x1 x2) = λ i. t.postfix (either_primary x0 i) (either_selectors x1 i) (maybe l.operator x2)
  either_operand (t.primary x0) = λ i. t.primary (either_primary x0 i)

  pub either_primary : (x : t.Primary) → erased.primary (lined.primary x) ≡ lined.primary (erased.primary x)
  either_primary (t.super_access x0 x1) = λ i. t.super_access (line x0) (either_selector x1 i)
  either_primary (t.bare_super x0) = refl
  either_primary (t.atom x0) = refl
  either_primary (t.text x0) = λ i. t.text (either_pieces x0 i)
  either_primary (t.list_literal x0 x1 x2 x3 x4) = λ i. t.list_literal (l.type_arguments x0) (line x1) (either_items x2 i) (maybe line x3) (line x4)
  either_primary (t.map_literal x0 x1 x2 x3 x4) = λ i. t.map_literal (l.type_arguments x0) (line x1) (either_entries x2 i) (maybe line x3) (line x4)
  either_primary (t.new_object x0 x1 x2 x3) = λ i. t.new_object (l.creation x0) (l.type_node x1) (maybe l.dot_name x2) (either_arguments x3 i)
  either_primary (t.function_literal x0 x1) = λ i. t.function_literal (either_parameters x0 i) (either_body x1 i)
  either_primary (t.parenthesized x0 x1 x2) = λ i. t.parenthesized (line x0) (either_expr x1 i) (line x2)

  pub either_selector : (x : t.Selector) → erased.selector (lined.selector x) ≡ lined.selector (erased.selector x)
  either_selector (t.member x0 x1) = refl
  either_selector (t.index x0 x1 x2) = λ i. t.index (line x0) (either_expr x1 i) (line x2)
  either_selector (t.call x0) = λ i. t.call (either_arguments x0 i)

  pub either_value : (x : t.Value) → erased.value (lined.value x) ≡ lined.value (erased.value x)
  either_value t.omitted = refl
  either_value (t.given x0 x1) = λ i. t.given (maybe l.operator x0) (either_expr x1 i)

  pub either_parameter_kind : (x : t.ParameterKind) → erased.parameter_kind (lined.parameter_kind x) ≡ lined.parameter_kind (erased.parameter_kind x)
  either_parameter_kind (t.plain_parameter x0 x1 x2) = λ i. t.plain_parameter (type_either x0 i) (maybe l.this_dot x1) (l.identifier x2)
  either_parameter_kind (t.function_parameter x0 x1 x2 x3) = refl

  pub either_stmt : (x : t.Stmt) → erased.stmt (lined.stmt x) ≡ lined.stmt (erased.stmt x)
  either_stmt (t.labelled x0 x1) = λ i. t.labelled (l.label x0) (either_stmt x1 i)
  either_stmt (t.block_stmt x0) = λ i. t.block_stmt (either_block x0 i)
  either_stmt (t.variables_stmt x0) = λ i. t.variables_stmt (either_variables x0 i)
  either_stmt (t.function_stmt x0) = λ i. t.function_stmt (either_function x0 i)
  either_stmt (t.if_stmt x0 x1 x2 x3 x4) = λ i. t.if_stmt (line x0) (line x1) (either_expr x2 i) (line x3) (either_stmt x4 i)
  either_stmt (t.if_else x0 x1 x2 x3 x4 x5 x6) = λ i. t.if_else (line x0) (line x1) (either_expr x2 i) (line x3) (either_stmt x4 i) (line x5) (either_stmt x6 i)
  either_stmt (t.loop x0) = λ i. t.loop (either_loop x0 i)
  either_stmt (t.switch_stmt x0 x1 x2 x3 x4 x5 x6) = λ i. t.switch_stmt (line x0) (line x1) (either_expr x2 i) (line x3) (line x4) (either_switch_parts x5 i) (line x6)
  either_stmt (t.try_stmt x0 x1 x2) = λ i. t.try_stmt (line x0) (either_block x1 i) (either_try_parts x2 i)
  either_stmt (t.return_stmt x0 x1 x2) = λ i. t.return_stmt (line x0) (either_value x1 i) (line x2)
  either_stmt (t.jump x0) = refl
  either_stmt (t.expression_stmt x0 x1) = λ i. t.expression_stmt (either_value x0 i) (line x1)

  pub either_loop : (x : t.Loop) → erased.loop (lined.loop x) ≡ lined.loop (erased.loop x)
  either_loop (t.for_loop x0 x1 x2 x3 x4 x5 x6 x7 x8) = λ i. t.for_loop (line x0) (line x1) (either_value x2 i) (line x3) (either_value x4 i) (line x5) (either_items x6 i) (line x7) (either_stmt x8 i)
  either_loop (t.for_variables x0 x1 x2 x3 x4 x5 x6 x7) = λ i. t.for_variables (line x0) (line x1) (either_variables x2 i) (either_value x3 i) (line x4) (either_items x5 i) (line x6) (either_stmt x7 i)
  either_loop (t.for_in x0 x1 x2 x3 x4 x5 x6 x7) = λ i. t.for_in (line x0) (line x1) (kind_either x3 x2 i) (l.identifier x3) (line x4) (either_expr x5 i) (line x6) (either_stmt x7 i)
  either_loop (t.while_loop x0 x1 x2 x3 x4) = λ i. t.while_loop (line x0) (line x1) (either_expr x2 i) (line x3) (either_stmt x4 i)
  either_loop (t.do_loop x0 x1 x2 x3 x4 x5 x6) = λ i. t.do_loop (line x0) (either_stmt x1 i) (line x2) (line x3) (either_expr x4 i) (line x5) (line x6)

  pub either_body : (x : t.Body) → erased.body (lined.body x) ≡ lined.body (erased.body x)
  either_body (t.arrow_body x0 x1 x2) = λ i. t.arrow_body (line x0) (either_expr x1 i) (maybe line x2)
  either_body (t.block_body x0) = λ i. t.block_body (either_block x0 i)
  either_body (t.no_body x0) = refl

  pub either_arguments : (x : t.Arguments) → erased.arguments (lined.arguments x) ≡ lined.arguments (erased.arguments x)
  either_arguments (t.the_arguments x0 x1 x2) = λ i. t.the_arguments (line x0) (either_items x1 i) (line x2)

  pub either_parameters : (x : t.Parameters) → erased.parameters (lined.parameters x) ≡ lined.parameters (erased.parameters x)
  either_parameters (t.the_parameters x0 x1 x2 x3 x4) = λ i. t.the_parameters (line x0) (either_parameter_list x1 i) (maybe l.brackets x2) (either_parameter_list x3 i) (line x4)

  pub either_parameter : (x : t.Parameter) → erased.parameter (lined.parameter x) ≡ lined.parameter (erased.parameter x)
  either_parameter (t.the_parameter x0 x1 x2 x3) = λ i. t.the_parameter (maybe line x0) (either_metadata x1 i) (either_parameter_kind x2 i) (either_value x3 i)

  pub either_annotation : (x : t.Annotation) → erased.annotation (lined.annotation x) ≡ lined.annotation (erased.annotation x)
  either_annotation (t.the_annotation x0 x1 x2 x3 x4) = λ i. t.the_annotation (line x0) (l.identifier x1) (map l.dot_name x2) (maybe l.parentheses x3) (either_items x4 i)

  pub either_variables : (x : t.Variables) → erased.variables (lined.variables x) ≡ lined.variables (erased.variables x)
  either_variables (t.the_variables x0 x1 x2 x3 x4) = λ i. t.the_variables (kind_either x1 x0 i) (l.identifier x1) (either_value x2 i) (either_more_variables x3 i) (line x4)

  pub either_function : (x : t.Function) → erased.function (lined.function x) ≡ lined.function (erased.function x)
  either_function (t.the_function x0 x1 x2 x3 x4) = λ i. t.the_function (maybe line x0) None (l.identifier x2) (either_parameters x3 i) (either_body x4 i)

  pub either_block : (x : t.Block) → erased.block (lined.block x) ≡ lined.block (erased.block x)
  either_block (t.the_block x0 x1 x2) = λ i. t.the_block (line x0) (either_stmts x1 i) (line x2)

  pub either_tails : (x : t.Tails) → erased.tails (lined.tails x) ≡ lined.tails (erased.tails x)
  either_tails t.no_tails = refl
  either_tails (t.tail x0 x1 x2) = λ i. t.tail (l.operator x0) (either_operand x1 i) (either_tails x2 i)

  pub either_pieces : (x : t.Pieces) → erased.pieces (lined.pieces x) ≡ lined.pieces (erased.pieces x)
  either_pieces t.no_pieces = refl
  either_pieces (t.piece x0 x1 x2 x3 x4) = λ i. t.piece x0 (line x1) x2 (either_value x3 i) (either_pieces x4 i)

  pub either_selectors : (x : t.Selectors) → erased.selectors (lined.selectors x) ≡ lined.selectors (erased.selectors x)
  either_selectors t.no_selectors = refl
  either_selectors (t.selector x0 x1) = λ i. t.selector (either_selector x0 i) (either_selectors x1 i)

  pub either_cascades : (x : t.Cascades) → erased.cascades (lined.cascades x) ≡ lined.cascades (erased.cascades x)
  either_cascades t.no_cascades = refl
  either_cascades (t.cascade x0 x1 x2 x3) = λ i. t.cascade (line x0) (either_selectors x1 i) (either_value x2 i) (either_cascades x3 i)

  pub either_items : (x : t.Items) → erased.items (lined.items x) ≡ lined.items (erased.items x)
  either_items t.no_items = refl
  either_items (t.item x0 x1 x2 x3) = λ i. t.item (maybe line x0) (maybe l.label x1) (either_expr x2 i) (either_items x3 i)

  pub either_entries : (x : t.Entries) → erased.entries (lined.entries x) ≡ lined.entries (erased.entries x)
  either_entries t.no_entries = refl
  either_entries (t.entry x0 x1 x2 x3 x4) = λ i. t.entry (maybe line x0) (either_expr x1 i) (line x2) (either_expr x3 i) (either_entries x4 i)

  pub either_parameter_list : (x : t.ParameterList) → erased.parameter_list (lined.parameter_list x) ≡ lined.parameter_list (erased.parameter_list x)
  either_parameter_list t.no_parameters = refl
  either_parameter_list (t.parameter x0 x1) = λ i. t.parameter (either_parameter x0 i) (either_parameter_list x1 i)

  pub either_metadata : (x : t.Metadata) → erased.metadata (lined.metadata x) ≡ lined.metadata (erased.metadata x)
  either_metadata t.no_metadata = refl
  either_metadata (t.annotation x0 x1) = λ i. t.annotation (either_annotation x0 i) (either_metadata x1 i)

  pub either_stmts : (x : t.Stmts) → erased.stmts (lined.stmts x) ≡ lined.stmts (erased.stmts x)
  either_stmts t.no_stmts = refl
  either_stmts (t.stmt x0 x1) = λ i. t.stmt (either_stmt x0 i) (either_stmts x1 i)

  pub either_more_variables : (x : t.MoreVariables) → erased.more_variables (lined.more_variables x) ≡ lined.more_variables (erased.more_variables x)
  either_more_variables t.no_variables = refl
  either_more_variables (t.variable x0 x1 x2 x3) = λ i. t.variable (line x0) (l.identifier x1) (either_value x2 i) (either_more_variables x3 i)

  pub either_switch_parts : (x : t.SwitchParts) → erased.switch_parts (lined.switch_parts x) ≡ lined.switch_parts (erased.switch_parts x)
  either_switch_parts t.no_switch_parts = refl
  either_switch_parts (t.switch_part x0 x1 x2 x3 x4 x5) = λ i. t.switch_part (map l.label x0) (line x1) (either_value x2 i) (line x3) (either_stmts x4 i) (either_switch_parts x5 i)

  pub either_try_parts : (x : t.TryParts) → erased.try_parts (lined.try_parts x) ≡ lined.try_parts (erased.try_parts x)
  either_try_parts t.no_try_parts = refl
  either_try_parts (t.try_part x0 x1 x2) = λ i. t.try_part (l.try_kind x0) (either_block x1 i) (either_try_parts x2 i)

-- ---- units

type_parameter_either : (x : u.TypeParameter) → unit_erased.type_parameter (w.type_parameter x) ≡ w.type_parameter (unit_erased.type_parameter x)
type_parameter_either x = λ i. record (w.type_parameter x) { metadata = either_metadata x.metadata i }

type_parameters_all : (xs : List u.TypeParameter) → map unit_erased.type_parameter (map w.type_parameter xs) ≡ map w.type_parameter (map unit_erased.type_parameter xs)
type_parameters_all [] = refl
type_parameters_all (x ∷ xs) = λ i. type_parameter_either x i ∷ type_parameters_all xs i

type_parameters_either : (x : Option u.TypeParameters) → maybe unit_erased.type_parameters (maybe w.type_parameters x) ≡ maybe w.type_parameters (maybe unit_erased.type_parameters x)
type_parameters_either None = refl
type_parameters_either (Some x) = λ i. Some (record { opening = line x.opening; items = type_parameters_all x.items i; closing = line x.closing })

init_kind_either : (x : u.InitKind) → unit_erased.init_kind (w.init_kind x) ≡ w.init_kind (unit_erased.init_kind x)
init_kind_either (u.super_init word name given) = λ i. u.super_init (line word) (maybe l.dot_name name) (either_arguments given i)
init_kind_either (u.field_init this_dot name equals base more) = λ i. u.field_init (maybe l.this_dot this_dot) (l.identifier name) (line equals) (either_operand base i) (either_cascades more i)

inits_all : (xs : List u.Init) → map unit_erased.init (map w.init xs) ≡ map w.init (map unit_erased.init xs)
inits_all [] = refl
inits_all (x ∷ xs) = λ i. record { comma = maybe line x.comma; kind = init_kind_either x.kind i } ∷ inits_all xs i

inits_either : (x : Option u.Initializers) → maybe unit_erased.initializers (maybe w.initializers x) ≡ maybe w.initializers (maybe unit_erased.initializers x)
inits_either None = refl
inits_either (Some x) = λ i. Some (record { colon = line x.colon; items = inits_all x.items i })

constructor_either : (x : u.Constructor) → unit_erased.constructor (w.constructor x) ≡ w.constructor (unit_erased.constructor x)
constructor_either (u.generative constant name given inits body) =
    λ i. u.generative (maybe line constant) (w.constructor_name name) (either_parameters given i) (inits_either inits i) (either_body body i)
constructor_either (u.redirecting name given colon this other handed semicolon) =
    λ i. u.redirecting (w.constructor_name name) (either_parameters given i) (line colon) (line this) (maybe l.dot_name other) (either_arguments handed i) (line semicolon)
constructor_either (u.factory external word name given body) = λ i. u.factory (maybe line external) (line word) (w.constructor_name name) (either_parameters given i) (either_body body i)
constructor_either (u.redirecting_factory external word name given equals target other semicolon) =
    λ i. u.redirecting_factory (maybe line external) (line word) (w.constructor_name name) (either_parameters given i) (line equals) (l.type_node target) (maybe l.dot_name other) (line semicolon)

accessor_kind_either : (x : u.AccessorKind) → unit_erased.accessor_kind (w.accessor_kind x) ≡ w.accessor_kind (unit_erased.accessor_kind x)
accessor_kind_either (u.getter place name) = refl
accessor_kind_either (u.setter place name given) = λ i. u.setter (line place) (l.identifier name) (either_parameters given i)

accessor_either : (x : u.Accessor) → unit_erased.accessor (w.accessor x) ≡ w.accessor (unit_erased.accessor x)
accessor_either x = λ i. record { external = maybe line x.external; result_type = None; kind = accessor_kind_either x.kind i; body = either_body x.body i }

operator_either : (x : u.OperatorMember) → unit_erased.operator_member (w.operator_member x) ≡ w.operator_member (unit_erased.operator_member x)
operator_either x = λ i. record {
  external = maybe line x.external;
  result_type = None;
  word = line x.word;
  name = w.operator_name x.name;
  parameters = either_parameters x.parameters i;
  body = either_body x.body i;
}

member_kind_either : (x : u.MemberKind) → unit_erased.member_kind (w.member_kind x) ≡ w.member_kind (unit_erased.member_kind x)
member_kind_either (u.constructor_member x) = ap u.constructor_member (constructor_either x)
member_kind_either (u.function_member x) = ap u.function_member (either_function x)
member_kind_either (u.accessor_member x) = ap u.accessor_member (accessor_either x)
member_kind_either (u.variables_member x) = ap u.variables_member (either_variables x)
member_kind_either (u.operator_member x) = ap u.operator_member (operator_either x)

members_all : (xs : List u.Member) → map unit_erased.member (map w.member xs) ≡ map w.member (map unit_erased.member xs)
members_all [] = refl
members_all (x ∷ xs) = λ i. record { metadata = either_metadata x.metadata i; modifier = w.modifier x.modifier; kind = member_kind_either x.kind i } ∷ members_all xs i

class_kind_either : (x : u.ClassKind) → unit_erased.class_kind (w.class_kind x) ≡ w.class_kind (unit_erased.class_kind x)
class_kind_either (u.declared_class above interfaces opening members closing) =
    λ i. u.declared_class (maybe w.superclass above) (maybe w.type_clause interfaces) (line opening) (members_all members i) (line closing)
class_kind_either (u.mixed_class equals above mixins interfaces semicolon) = refl

class_either : (x : u.Class) → unit_erased.class (w.class x) ≡ w.class (unit_erased.class x)
class_either x = λ i. record {
  abstracted = maybe line x.abstracted;
  word = line x.word;
  name = l.identifier x.name;
  parameters = type_parameters_either x.parameters i;
  kind = class_kind_either x.kind i;
}

alias_either : (x : u.Alias) → unit_erased.alias (w.alias x) ≡ w.alias (unit_erased.alias x)
alias_either x = λ i. record {
  word = line x.word;
  result_type = None;
  name = l.identifier x.name;
  type_parameters = type_parameters_either x.type_parameters i;
  parameters = either_parameters x.parameters i;
  semicolon = line x.semicolon;
}

kind_of_decl : (x : u.DeclKind) → unit_erased.decl_kind (w.decl_kind x) ≡ w.decl_kind (unit_erased.decl_kind x)
kind_of_decl (u.class_decl x) = ap u.class_decl (class_either x)
kind_of_decl (u.alias_decl x) = ap u.alias_decl (alias_either x)
kind_of_decl (u.function_decl x) = ap u.function_decl (either_function x)
kind_of_decl (u.accessor_decl x) = ap u.accessor_decl (accessor_either x)
kind_of_decl (u.variables_decl x) = ap u.variables_decl (either_variables x)
kind_of_decl (u.enum_decl x) = refl

pub decls_either : (xs : List u.Decl) → map unit_erased.decl (map w.decl xs) ≡ map w.decl (map unit_erased.decl xs)
decls_either [] = refl
decls_either (x ∷ xs) = λ i. record { metadata = either_metadata x.metadata i; kind = kind_of_decl x.kind i } ∷ decls_either xs i
