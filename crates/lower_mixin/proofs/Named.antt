-- Named parameters of the type `dynamic`.
use Rattle.std.proofs.Common.{◌≡◌, ◌∙◌, ℕ, List, [], ◌∷◌, map, refl, ap}
use Rattle.core_program.specs.Named as with_names
use Rattle.core_program.specs.Program as p
use Rattle.core_program.specs.ProgramView.{text_at}
use Rattle.dart_base.specs.declared.name.Name.{Name}
use Rattle.dart_ir.specs.Ty.{NamedTysOf, dynamic, named}
use Rattle.dart_ir.specs.Ty as dart
use Rattle.dart_ir.specs.declared.types.NamedType.{NamedType, roll-NamedType}
use Rattle.dart_ir.specs.declared.types.TypeRef as k
use Rattle.dart_ir.proofs.View.{ty_dynamic, named_roll}
use Rattle.translation.specs.Applications as apps
use Rattle.translation.specs.Surroundings.{Text, Ty}
use Rattle.lower_leaf.specs.Around.{Around, text}
use Rattle.lower_leaf.specs.Kept.{in_order, named_type}

abbrev pub with_dynamic : p.Parameter Text → Text × Ty
with_dynamic q = (q.name, dynamic)

pub named_listed : (qs : List (p.Parameter Text)) → in_order (map with_dynamic qs) ≡ apps.named_dynamic qs
named_listed [] = refl
named_listed (q ∷ qs) = ap (λ (rest : NamedTysOf Text). named q.name dynamic rest) (named_listed qs)

pub named_seen : (a : Around) (name : Name) → named_type a (roll-NamedType (record { name = name; of = k.Dynamic })) ≡ (text a name, dynamic)
unfolding named_type
named_seen a name =
    ap (λ (n : ℕ × dart.Ty). let one : Text × Ty = (text_at a.texts n.0, with_names.ty (text_at a.texts) n.1) in one)
    (named_roll (record { name = name; of = k.Dynamic }) ∙ ap (λ (t : dart.Ty). let one : ℕ × dart.Ty = (name.0, t) in one) ty_dynamic)
