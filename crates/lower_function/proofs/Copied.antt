-- Equal types have equal texts.
use Rattle.std.proofs.Common.{◌≡◌, List, map, sym, ap, ◌∙◌}
use Rattle.dart_ir.specs.Ty.{Ty, ty}
use Rattle.dart_ir.specs.declared.types.TypeRef.{TypeRef}
use Rattle.core_program.specs.Named as with_names
use Rattle.core_program.specs.ProgramView.{text_at}
use Rattle.lower_leaf.specs.Around.{Around, types}
use Rattle.lower_leaf.specs.Around as around
use Rattle.lower_leaf.proofs.FormLaws.{types_named}

pub types_copied : (a : Around) (xs ys : List TypeRef) → map ty xs ≡ map ty ys → types a xs ≡ types a ys
unfolding around.ty
types_copied a xs ys same = sym (types_named (text_at a.texts) xs) ∙ ap (map (with_names.ty (text_at a.texts))) same ∙ types_named (text_at a.texts) ys

pub ruleset copied = (types_copied)
