-- Erasure keeps where in a unit there is no instance.
use Rattle.std.proofs.Common.{◌≡◌, refl, Option, None, Some}
use Rattle.std.specs.Option.{option_to_list}
use Rattle.dart_tree.specs.declared.declaration.Modifier.{Modifier}
use Rattle.dart_tree.specs.declared.declaration.Modifier.TheVariants as m
use Rattle.dart_tree.specs.UnitView.{maybe}
use Rattle.dart_tree.specs.Tree as t
use Rattle.dart_tree.specs.Unit as u
use Rattle.dart_erase.specs.Erased as erased
use Rattle.dart_erase.specs.UnitErased as of_unit
use Rattle.scope_table.specs.Instance.{stretch, body_first, constructor_last, member_last, initializers_stretch, constructor_stretch, variables_stretch, object_member_stretch, member_kind_stretch, member_stretches, class_kind_stretches, decl_kind_stretches, decl_stretches, unit_stretches}
use Rattle.laws_annotation.proofs.Mapped.{flat_same}
use Rattle.laws_annotation.proofs.Lasts.{body_end, function_end, variables_end}

first_same : (x : t.Body) → body_first (erased.body x) ≡ body_first x
unfolding erased.body erased.block
first_same (t.arrow_body arrow given semicolon) = refl
first_same (t.block_body (t.the_block opening statements closing)) = refl
first_same (t.no_body semicolon) = refl

constructor_end : (x : u.Constructor) → constructor_last (of_unit.constructor x) ≡ constructor_last x
constructor_end (u.generative constant name given inits inner) = body_end inner
constructor_end (u.redirecting name given colon this other handed semicolon) = refl
constructor_end (u.factory external word name given inner) = body_end inner
constructor_end (u.redirecting_factory external word name given equals target other semicolon) = refl

member_end : (x : u.MemberKind) → member_last (of_unit.member_kind x) ≡ member_last x
member_end (u.constructor_member x) = constructor_end x
member_end (u.function_member x) = function_end x
member_end (u.accessor_member x) = body_end x.body
member_end (u.variables_member x) = variables_end x
member_end (u.operator_member x) = body_end x.body

initializers_same : (o : Option u.Initializers) (x : t.Body) → initializers_stretch (maybe of_unit.initializers o) (erased.body x) ≡ initializers_stretch o x
initializers_same None x = refl
initializers_same (Some o) x = λ i. Some (stretch o.colon (first_same x i))

constructor_same : (x : u.Constructor) → constructor_stretch (of_unit.constructor x) ≡ constructor_stretch x
constructor_same (u.generative constant name given inits inner) = initializers_same inits inner
constructor_same (u.redirecting name given colon this other handed semicolon) = refl
constructor_same (u.factory external word name given inner) = λ i. Some (stretch word (body_end inner i))
constructor_same (u.redirecting_factory external word name given equals target other semicolon) = refl

variables_same : (x : t.Variables) → variables_stretch (erased.variables x) ≡ variables_stretch x
unfolding erased.variables
variables_same (t.the_variables kind name value more semicolon) = refl

object_member_same : (x : u.MemberKind) → object_member_stretch (of_unit.member_kind x) ≡ object_member_stretch x
object_member_same (u.constructor_member x) = constructor_same x
object_member_same (u.function_member x) = refl
object_member_same (u.accessor_member x) = refl
object_member_same (u.variables_member x) = λ i. Some (variables_same x i)
object_member_same (u.operator_member x) = refl

member_kind_same : (modifier : Modifier) (x : u.MemberKind) → member_kind_stretch modifier (of_unit.member_kind x) ≡ member_kind_stretch modifier x
member_kind_same m.Omitted x = object_member_same x
member_kind_same (m.Static word) x = λ i. Some (stretch word (member_end x i))
member_kind_same (m.ExternalStatic external word) x = λ i. Some (stretch word (member_end x i))

member_same : (x : u.Member) → member_stretches (of_unit.member x) ≡ member_stretches x
member_same x = λ i. option_to_list (member_kind_same x.modifier x.kind i)

class_kind_same : (x : u.ClassKind) → class_kind_stretches (of_unit.class_kind x) ≡ class_kind_stretches x
class_kind_same (u.declared_class above interfaces opening members closing) = flat_same of_unit.member member_stretches member_same members
class_kind_same (u.mixed_class equals above mixins interfaces semicolon) = refl

decl_kind_same : (x : u.DeclKind) → decl_kind_stretches (of_unit.decl_kind x) ≡ decl_kind_stretches x
decl_kind_same (u.class_decl x) = class_kind_same x.kind
decl_kind_same (u.alias_decl x) = refl
decl_kind_same (u.function_decl x) = refl
decl_kind_same (u.accessor_decl x) = refl
decl_kind_same (u.variables_decl x) = refl
decl_kind_same (u.enum_decl x) = refl

pub stretches_same : (x : u.UnitTree) → unit_stretches (of_unit.unit x) ≡ unit_stretches x
unfolding unit_stretches
stretches_same x = flat_same of_unit.decl decl_stretches (λ d. decl_kind_same d.kind) x.declarations
