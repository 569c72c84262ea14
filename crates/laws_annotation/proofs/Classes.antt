-- The classes of an erased program are those of the program, with their members erased.
use Rattle.std.proofs.Common.{◌≡◌, refl, sym, ◌∙◌, ℕ, ◌+◌, ◌*◌, ◌||◌, if◌then◌else◌, List, [], ◌∷◌, ◌++◌, map, Option, None, Some}
use Rattle.std.specs.Prelude.{fold}
use Rattle.std.specs.List.{list_any}
use Rattle.std.proofs.lemmas.List.{map-append}
use Rattle.dart_tree.specs.declared.identifier.Identifier.{Identifier}
use Rattle.dart_tree.specs.UnitView.{maybe}
use Rattle.dart_tree.specs.Places.{place_of}
use Rattle.dart_tree.specs.Types as y
use Rattle.dart_tree.specs.Tree as t
use Rattle.dart_tree.specs.Unit as u
use Rattle.dart_erase.specs.Erased as erased
use Rattle.dart_erase.specs.UnitErased as of_unit
use Rattle.scope_declared.specs.declared.declaration.Declared.{Declared}
use Rattle.scope_class.specs.Constructors.{constructor_making, member_makings, makings}
use Rattle.translation.specs.Surroundings.{Text}
use Rattle.translation.specs.Types.{text_of, is_final}
use Rattle.translation.specs.Classes.{is_static}
use Rattle.translation.specs.ClassBodies.{is_constructor, has_constructor, members_of, is_mixed}
use Rattle.scope_program.specs.Classes.{number_at, parameters_of, has_bound, class_scope, declared_scope, unit_scopes, class_scopes, more_count, variable_accessors, kind_accessors, member_accessors, accessor_count}
use Rattle.laws_annotation.specs.Erased.{erased_class}
use Rattle.laws_annotation.proofs.Mapped.{flat_same, map_same, any_same, flat_to}

-- ---- headers

abbrev parameter_text : u.TypeParameter → Text
parameter_text p = text_of p.name

parameters_same : (o : Option u.TypeParameters) → map parameter_text (parameters_of (maybe of_unit.type_parameters o)) ≡ map parameter_text (parameters_of o)
parameters_same None = refl
parameters_same (Some x) = map_same of_unit.type_parameter parameter_text (λ p. refl) x.items

bounded_same : (o : Option u.TypeParameters) → list_any has_bound (parameters_of (maybe of_unit.type_parameters o)) ≡ list_any has_bound (parameters_of o)
bounded_same None = refl
bounded_same (Some x) = any_same of_unit.type_parameter has_bound (λ p. refl) x.items

pub mixed_same : (x : u.ClassKind) → is_mixed (of_unit.class_kind x) ≡ is_mixed x
mixed_same (u.declared_class above interfaces opening members closing) = refl
mixed_same (u.mixed_class equals above mixins interfaces semicolon) = refl

pub members_same : (x : u.ClassKind) → members_of (of_unit.class_kind x) ≡ map of_unit.member (members_of x)
members_same (u.declared_class above interfaces opening members closing) = refl
members_same (u.mixed_class equals above mixins interfaces semicolon) = refl

module _ (numbered : List Declared) where
  class_same : (library : ℕ) (x : u.Class) → class_scope numbered library (of_unit.class x) ≡ erased_class (class_scope numbered library x)
  class_same library x = λ i. record {
    library = library;
    declaration = number_at numbered (place_of x.name);
    name = text_of x.name;
    parameters = parameters_same x.parameters i;
    is_bounded = bounded_same x.parameters i;
    is_mixed = mixed_same x.kind i;
    members = members_same x.kind i;
  }

  declared_same : (library : ℕ) (x : u.DeclKind) → declared_scope numbered library (of_unit.decl_kind x) ≡ map erased_class (declared_scope numbered library x)
  declared_same library (u.class_decl x) = λ i. class_same library x i ∷ []
  declared_same library (u.alias_decl x) = refl
  declared_same library (u.function_decl x) = refl
  declared_same library (u.accessor_decl x) = refl
  declared_same library (u.variables_decl x) = refl
  declared_same library (u.enum_decl x) = refl

  unit_same : (library : ℕ) (all : List u.Decl) → unit_scopes numbered library (map of_unit.decl all) ≡ map erased_class (unit_scopes numbered library all)
  unit_same library all = flat_to of_unit.decl erased_class (λ (x : u.Decl). declared_scope numbered library x.kind) (λ x. declared_same library x.kind) all

  pub classes_same : (homes : List ℕ) (units : List u.UnitTree) → class_scopes numbered homes (map of_unit.unit units) ≡ map erased_class (class_scopes numbered homes units)
  classes_same [] units = refl
  classes_same (home ∷ homes) [] = refl
  classes_same (home ∷ homes) (x ∷ units) = (λ i. unit_same home x.declarations i ++ classes_same homes units i)
      ∙ sym (map-append erased_class (unit_scopes numbered home x.declarations) (class_scopes numbered homes units))

-- ---- members

making_same : (x : u.Constructor) → constructor_making (of_unit.constructor x) ≡ constructor_making x
making_same (u.generative constant name given inits inner) = refl
making_same (u.redirecting name given colon this other handed semicolon) = refl
making_same (u.factory external word name given inner) = refl
making_same (u.redirecting_factory external word name given equals target other semicolon) = refl

member_makings_same : (x : u.MemberKind) → member_makings (of_unit.member_kind x) ≡ member_makings x
member_makings_same (u.constructor_member x) = λ i. making_same x i ∷ []
member_makings_same (u.function_member x) = refl
member_makings_same (u.accessor_member x) = refl
member_makings_same (u.variables_member x) = refl
member_makings_same (u.operator_member x) = refl

pub makings_same : (members : List u.Member) → makings (map of_unit.member members) ≡ makings members
makings_same members = flat_same of_unit.member (λ (x : u.Member). member_makings x.kind) (λ x. member_makings_same x.kind) members

pub constructor_kind_same : (x : u.MemberKind) → is_constructor (of_unit.member_kind x) ≡ is_constructor x
constructor_kind_same (u.constructor_member x) = refl
constructor_kind_same (u.function_member x) = refl
constructor_kind_same (u.accessor_member x) = refl
constructor_kind_same (u.variables_member x) = refl
constructor_kind_same (u.operator_member x) = refl

pub has_constructor_same : (members : List u.Member) → has_constructor (map of_unit.member members) ≡ has_constructor members
has_constructor_same [] = refl
has_constructor_same (x ∷ xs) = λ i. constructor_kind_same x.kind i || has_constructor_same xs i

pub final_same : (name : Identifier) (kind : y.VariableKind) → is_final (erased.variable_kind name kind) ≡ is_final kind
final_same name y.no_kind = refl
final_same name (y.var_kind place) = refl
final_same name (y.final_kind place of) = refl
final_same name (y.const_kind place of) = refl
final_same name (y.typed_kind of) = refl

more_count_same : (x : t.MoreVariables) → more_count (erased.more_variables x) ≡ more_count x
unfolding erased.more_variables
more_count_same t.no_variables = refl
more_count_same (t.variable comma name value rest) = λ i. more_count_same rest i + 1

variable_accessors_same : (x : t.Variables) → variable_accessors (erased.variables x) ≡ variable_accessors x
unfolding erased.variables
variable_accessors_same (t.the_variables kind name value more semicolon) = λ i. (more_count_same more i + 1) * (if final_same name kind i then 1 else 2)

kind_accessors_same : (x : u.MemberKind) → kind_accessors (of_unit.member_kind x) ≡ kind_accessors x
kind_accessors_same (u.constructor_member x) = refl
kind_accessors_same (u.function_member x) = refl
kind_accessors_same (u.accessor_member x) = refl
kind_accessors_same (u.variables_member x) = variable_accessors_same x
kind_accessors_same (u.operator_member x) = refl

member_accessors_same : (x : u.Member) → member_accessors (of_unit.member x) ≡ member_accessors x
member_accessors_same x = λ i. if is_static x.modifier then 0 else kind_accessors_same x.kind i

counted_from : (n : ℕ) (members : List u.Member) → fold (λ (a : ℕ) (x : u.Member). a + member_accessors x) n (map of_unit.member members) ≡ fold (λ (a : ℕ) (x : u.Member). a + member_accessors x) n members
counted_from n [] = refl
counted_from n (x ∷ xs) = λ i. counted_from (n + member_accessors_same x i) xs i

pub accessor_count_same : (members : List u.Member) → accessor_count (map of_unit.member members) ≡ accessor_count members
accessor_count_same members = counted_from 0 members
