-- Tests of members and type parameters, as their trees are seen.
use Rattle.std.proofs.Common.{◌≡◌, ◌∙◌, ◌||◌, Option, Some, None, List, [], ◌∷◌, map, refl, ap}
use Rattle.std.specs.List.{list_any}
use Rattle.std.specs.Option.{is_some}
use Rattle.dart_tree.specs.UnitView as view
use Rattle.dart_tree.specs.declared.declaration.Member.{Member}
use Rattle.dart_tree.specs.declared.declaration.TypeParameter.{TypeParameter}
use Rattle.translation.specs.ClassBodies as bodies
use Rattle.scope_program.specs.Classes.{has_bound}

pub has-constructor : (all : List Member) → list_any (λ (x : Member). bodies.is_constructor (view.member_kind x.kind)) all ≡ bodies.has_constructor (map view.member all)
has-constructor [] = refl
has-constructor (x ∷ xs) = ap (λ b. bodies.is_constructor (view.member_kind x.kind) || b) (has-constructor xs)

maybe-some : {A B : Type 0} (f : A → B) (o : Option A) → is_some o ≡ is_some (view.maybe f o)
maybe-some f None = refl
maybe-some f (Some x) = refl

pub bounded : (all : List TypeParameter) → list_any (λ (x : TypeParameter). is_some x.bound) all ≡ list_any has_bound (map view.type_parameter all)
bounded [] = refl
bounded (x ∷ xs) = ap (λ b. b || list_any (λ (y : TypeParameter). is_some y.bound) xs) (maybe-some view.bound x.bound) ∙ ap (λ b. is_some (view.maybe view.bound x.bound) || b) (bounded xs)
