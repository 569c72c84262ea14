-- Erasure keeps what the directives of a unit say.
use Rattle.std.proofs.Common.{◌≡◌, refl, ap, ◌∙◌, ℕ, ◌+◌, List, [], ◌∷◌, map, Option, None, Some, is_some}
use Rattle.dart_base.specs.declared.place.Place.{Place}
use Rattle.dart_tree.specs.UnitView.{maybe}
use Rattle.dart_tree.specs.Tree as t
use Rattle.dart_tree.specs.Unit as u
use Rattle.dart_erase.specs.Erased as erased
use Rattle.dart_erase.specs.UnitErased as of_unit
use Rattle.scope_mention.specs.declared.mention.MentionKind.{MentionKind}
use Rattle.scope_mention.specs.declared.mention.MentionKind.TheVariants.{Import, Export, Part}
use Rattle.scope_mention.specs.Head.{first_kind, kind_part_place, part_place, is_part, names_library, kind_is_part_of, is_part_of}
use Rattle.scope_mention.specs.Mention.{uri_of, kind_place, metadata_place, directive_place, named, mention_by, mention_of, before, mentions_from, mentions_of}

-- ---- the first directive

first_same : (xs : List u.Directive) → first_kind (map of_unit.directive xs) ≡ maybe of_unit.directive_kind (first_kind xs)
first_same [] = refl
first_same (x ∷ xs) = refl

kind_part_same : (o : Option u.DirectiveKind) → kind_part_place (maybe of_unit.directive_kind o) ≡ kind_part_place o
kind_part_same None = refl
kind_part_same (Some (u.part_of_directive word of_word name more)) = refl
kind_part_same (Some (u.library_directive word name more)) = refl
kind_part_same (Some (u.import_directive word uri prefix combinators)) = refl
kind_part_same (Some (u.export_directive word uri combinators)) = refl
kind_part_same (Some (u.part_directive word uri)) = refl

pub part_place_same : (x : u.UnitTree) → part_place (of_unit.unit x) ≡ part_place x
part_place_same x = ap kind_part_place (first_same x.directives) ∙ kind_part_same (first_kind x.directives)

pub part_same : (x : u.UnitTree) → is_part (of_unit.unit x) ≡ is_part x
part_same x = λ i. is_some (part_place_same x i)

names_library_same : (o : Option u.DirectiveKind) (names : List (List ℕ)) → names_library (maybe of_unit.directive_kind o) names ≡ names_library o names
names_library_same None names = refl
names_library_same (Some (u.part_of_directive word of_word own owns)) names = refl
names_library_same (Some (u.library_directive word own owns)) names = refl
names_library_same (Some (u.import_directive word uri prefix combinators)) names = refl
names_library_same (Some (u.export_directive word uri combinators)) names = refl
names_library_same (Some (u.part_directive word uri)) names = refl

kind_part_of_same : (o library : Option u.DirectiveKind) → kind_is_part_of (maybe of_unit.directive_kind o) (maybe of_unit.directive_kind library) ≡ kind_is_part_of o library
kind_part_of_same None library = refl
kind_part_of_same (Some (u.part_of_directive word of_word name more)) library = names_library_same library _
kind_part_of_same (Some (u.library_directive word own owns)) library = refl
kind_part_of_same (Some (u.import_directive word uri prefix combinators)) library = refl
kind_part_of_same (Some (u.export_directive word uri combinators)) library = refl
kind_part_of_same (Some (u.part_directive word uri)) library = refl

pub part_of_same : (x library : u.UnitTree) → is_part_of (of_unit.unit x) (of_unit.unit library) ≡ is_part_of x library
part_of_same x library = (λ i. kind_is_part_of (first_same x.directives i) (first_same library.directives i))
    ∙ kind_part_of_same (first_kind x.directives) (first_kind library.directives)

-- ---- mentions of other units

uri_same : (x : t.Pieces) → uri_of (erased.pieces x) ≡ uri_of x
unfolding erased.pieces
uri_same t.no_pieces = refl
uri_same (t.piece kind place text term t.no_pieces) = refl
uri_same (t.piece kind place text term (t.piece other at more put_in others)) = refl

metadata_place_same : (x : t.Metadata) (behind : Place) → metadata_place (erased.metadata x) behind ≡ metadata_place x behind
unfolding erased.metadata erased.annotation
metadata_place_same t.no_metadata behind = refl
metadata_place_same (t.annotation (t.the_annotation at name more call all) rest) behind = refl

kind_place_same : (x : u.DirectiveKind) → kind_place (of_unit.directive_kind x) ≡ kind_place x
kind_place_same (u.part_of_directive word of_word name more) = refl
kind_place_same (u.library_directive word name more) = refl
kind_place_same (u.import_directive word uri prefix combinators) = refl
kind_place_same (u.export_directive word uri combinators) = refl
kind_place_same (u.part_directive word uri) = refl

directive_place_same : (x : u.Directive) → directive_place (of_unit.directive x) ≡ directive_place x
directive_place_same x = λ i. metadata_place_same x.metadata (kind_place_same x.kind i) i

named_same : (kind : MentionKind) (number : ℕ) (place : Place) (uri : t.Pieces) → named kind number place (erased.pieces uri) ≡ named kind number place uri
named_same kind number place uri = λ i. record { kind = kind; directive = number; place = place; uri = uri_same uri i }

mention_by_same : (number : ℕ) (place : Place) (x : u.DirectiveKind) → mention_by number place (of_unit.directive_kind x) ≡ mention_by number place x
mention_by_same number place (u.part_of_directive word of_word name more) = refl
mention_by_same number place (u.library_directive word name more) = refl
mention_by_same number place (u.import_directive word uri prefix combinators) = λ i. Some (named_same Import number place uri i)
mention_by_same number place (u.export_directive word uri combinators) = λ i. Some (named_same Export number place uri i)
mention_by_same number place (u.part_directive word uri) = λ i. Some (named_same Part number place uri i)

mention_of_same : (number : ℕ) (x : u.Directive) → mention_of number (of_unit.directive x) ≡ mention_of number x
mention_of_same number x = λ i. mention_by_same number (directive_place_same x i) x.kind i

mentions_from_same : (number : ℕ) (xs : List u.Directive) → mentions_from number (map of_unit.directive xs) ≡ mentions_from number xs
mentions_from_same number [] = refl
mentions_from_same number (x ∷ xs) = λ i. before (mention_of_same number x i) (mentions_from_same (number + 1) xs i)

pub mentions_same : (x : u.UnitTree) → mentions_of (of_unit.unit x) ≡ mentions_of x
mentions_same x = mentions_from_same 0 x.directives
