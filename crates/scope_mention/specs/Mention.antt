-- The units that a unit mentions (ECMA-408, 18.1 Imports, 18.2 Exports, 18.3 Parts and 18.5 URIs). A URI is one string without interpolation. The profile has `dart:core` and `dart:isolate`,
-- and files of one folder.
use Rattle.std.specs.Prelude.{ℕ, ◌+◌, ◌==◌, List, [], ◌∷◌, Bool, ◌||◌, Option, None, Some, if◌then◌else◌, bytes_eq, codes, nat_eq}
use Rattle.std.specs.List.{list_any, starts_with}
use Rattle.std.specs.Str.{byte}
use Rattle.dart_base.specs.declared.place.Place.{Place}
use Rattle.dart_base.specs.declared.feature.Feature.TheVariants.{Uris, Libraries}
use Rattle.dart_tree.specs.declared.expression.PieceKind.{PieceKind}
use Rattle.dart_tree.specs.declared.expression.PieceKind.TheVariants as p
use Rattle.dart_tree.specs.Tree as t
use Rattle.dart_tree.specs.Unit as u
use Rattle.scope_mention.specs.Text.{literal_text}
use Rattle.scope_mention.specs.declared.mention.MentionKind.{MentionKind}
use Rattle.scope_mention.specs.declared.mention.MentionKind.TheVariants.{Import, Export, Part}
use Rattle.scope_mention.specs.declared.mention.Uri.{Uri}
use Rattle.scope_mention.specs.declared.mention.Uri.TheVariants.{Unclear, LeftOut, Core, Isolate, File}
use Rattle.scope_mention.specs.declared.mention.Mention.{Mention}

-- a slash or a colon stands in the text
abbrev pub has_mark : List ℕ → Bool
has_mark text = list_any (λ b. (b == byte "/") || (b == byte ":")) text

-- what the text of a string at a place names
abbrev pub uri_at : Place → List ℕ → Uri
uri_at place text = if bytes_eq text (codes "dart:core") then Core
    else if bytes_eq text (codes "dart:isolate") then Isolate
    else if starts_with nat_eq text (codes "dart:") then LeftOut place Libraries
    else if has_mark text then LeftOut place Uris else File text

abbrev pub uri_or : Place → Option (List ℕ) → Uri
uri_or place None = Unclear
uri_or place (Some text) = uri_at place text

abbrev pub uri_of_piece : PieceKind → Place → List ℕ → Uri
uri_of_piece p.Whole place text = uri_or place (literal_text text)
uri_of_piece (p.Head quote) place text = Unclear
uri_of_piece p.Middle place text = Unclear
uri_of_piece p.Tail place text = Unclear

-- what the pieces of a string name: adjacent strings and strings with interpolations name nothing
abbrev pub uri_of : t.Pieces → Uri
uri_of t.no_pieces = Unclear
uri_of (t.piece kind place text value t.no_pieces) = uri_of_piece kind place text
uri_of (t.piece kind place text value (t.piece other at more put_in others)) = Unclear

abbrev pub kind_place : u.DirectiveKind → Place
kind_place (u.part_of_directive word of_word name more) = word
kind_place (u.library_directive word name more) = word
kind_place (u.import_directive word uri prefix combinators) = word
kind_place (u.export_directive word uri combinators) = word
kind_place (u.part_directive word uri) = word

abbrev pub annotation_place : t.Annotation → Place
annotation_place (t.the_annotation at name more call items) = at

abbrev pub metadata_place : t.Metadata → Place → Place
metadata_place t.no_metadata behind = behind
metadata_place (t.annotation one more) behind = annotation_place one

-- the place of the directive's first token
abbrev pub directive_place : u.Directive → Place
directive_place directive = metadata_place directive.metadata (kind_place directive.kind)

abbrev pub named : MentionKind → ℕ → Place → t.Pieces → Mention
named kind number place pieces = record { kind = kind; directive = number; place = place; uri = uri_of pieces }

-- the mention by the directive of this number, whose first token stands here
abbrev pub mention_by : ℕ → Place → u.DirectiveKind → Option Mention
mention_by number place (u.import_directive word uri prefix combinators) = Some (named Import number place uri)
mention_by number place (u.export_directive word uri combinators) = Some (named Export number place uri)
mention_by number place (u.part_directive word uri) = Some (named Part number place uri)
mention_by number place (u.part_of_directive word of_word name more) = None
mention_by number place (u.library_directive word name more) = None

abbrev pub mention_of : ℕ → u.Directive → Option Mention
mention_of number directive = mention_by number (directive_place directive) directive.kind

abbrev pub before : Option Mention → List Mention → List Mention
before None mentions = mentions
before (Some mention) mentions = mention ∷ mentions

-- the mentions by directives that are numbered from here
abbrev pub mentions_from : ℕ → List u.Directive → List Mention
mentions_from number [] = []
mentions_from number (directive ∷ directives) = before (mention_of number directive) (mentions_from (number + 1) directives)

-- the mentions of other units by a unit, in order
abbrev pub mentions_of : u.UnitTree → List Mention
mentions_of unit = mentions_from 0 unit.directives
