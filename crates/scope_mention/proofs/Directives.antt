-- What the definitions come to for what the code looks at.
use Rattle.std.proofs.Common.{◌≡◌, ◌≢◌, List, [], ◌∷◌, Some, slice_get, length, refl, sym, ap, ◌∙◌}
use Rattle.dart_base.specs.declared.place.Place.{Place}
use Rattle.dart_tree.specs.declared.expression.StringPiece.{StringPiece}
use Rattle.dart_tree.specs.declared.parameter.Annotation.{Annotation, out-Annotation}
use Rattle.dart_tree.specs.Lists.{metadata_of, pieces_of}
use Rattle.dart_tree.specs.View as view
use Rattle.dart_tree.proofs.Rows.{view_the_annotation}
use Rattle.scope_mention.specs.declared.mention.Uri.TheVariants.{Unclear}
use Rattle.scope_mention.specs.Mention.{annotation_place, metadata_place, uri_of}

place_of_annotation : (a : Annotation) → annotation_place (view.annotation a) ≡ (out-Annotation a).at
place_of_annotation a = ap annotation_place (view_the_annotation a)

some_is : {A : Type 0} (x y : A) → Some x ≡ Some y → x ≡ y
some_is x y e = cc

pub first_annotation : (all : List Annotation) (a : Annotation) (behind : Place) → slice_get all 0 ≡ Some a → (out-Annotation a).at ≡ metadata_place (metadata_of all) behind
first_annotation [] a behind e = cc
first_annotation (x ∷ more) a behind e = ap (λ y. (out-Annotation y).at) (sym (some_is x a e)) ∙ sym (place_of_annotation x)

pub other_pieces : (pieces : List StringPiece) → length pieces ≢ 1 → Unclear ≡ uri_of (pieces_of pieces)
other_pieces [] ne = refl
other_pieces (x ∷ []) ne = absurd (ne refl)
other_pieces (x ∷ y ∷ more) ne = refl
