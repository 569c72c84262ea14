-- What a unit declares for its library, name by name in the order of its tokens (ECMA-408, 18 Libraries and Scripts).
use Rattle.std.specs.Prelude.{ℕ, ◌+◌, List, [], ◌∷◌, flat_map, min}
use Rattle.dart_tree.specs.Tree as t
use Rattle.dart_tree.specs.Unit as u
use Rattle.scope_space.specs.declared.declaration.Kind.{Kind}
use Rattle.scope_space.specs.declared.declaration.Kind.TheVariants as k

abbrev pub parameter_count : t.ParameterList → ℕ
parameter_count t.no_parameters = 0
parameter_count (t.parameter x rest) = parameter_count rest + 1

-- how many required positional parameters there are, as far as a declaration tells (9.2.1 Required Formals)
abbrev pub required : t.Parameters → ℕ
required (t.the_parameters opening positional brackets optional closing) = min (parameter_count positional) 4294967295

abbrev pub function_kind : t.Function → Kind
function_kind (t.the_function external result_type name parameters body) = k.Function (required parameters)

abbrev pub accessor_kind : u.AccessorKind → Kind
accessor_kind (u.getter word name) = k.Getter
accessor_kind (u.setter word name parameters) = k.Setter

abbrev pub more_kinds : t.MoreVariables → List Kind
more_kinds t.no_variables = []
more_kinds (t.variable comma name value rest) = k.Variable ∷ more_kinds rest

abbrev pub variable_kinds : t.Variables → List Kind
variable_kinds (t.the_variables kind name value more semicolon) = k.Variable ∷ more_kinds more

-- an enum stands for a class (13 Enums)
abbrev pub decl_kinds : u.DeclKind → List Kind
decl_kinds (u.class_decl x) = k.Class ∷ []
decl_kinds (u.alias_decl x) = k.Alias ∷ []
decl_kinds (u.function_decl x) = function_kind x ∷ []
decl_kinds (u.accessor_decl x) = accessor_kind x.kind ∷ []
decl_kinds (u.variables_decl x) = variable_kinds x
decl_kinds (u.enum_decl x) = k.Class ∷ []

-- the kinds of what a unit declares for its library
abbrev pub unit_kinds : u.UnitTree → List Kind
unit_kinds x = flat_map (λ d. decl_kinds d.kind) x.declarations
