-- Readers of units and their directives (ECMA-408, 18 Libraries and Scripts), and what is answered
-- on a list of tokens.
use Rattle.std.specs.Prelude.{ℕ, nat_lt, Bool, true, false, ◌&&◌, if◌then◌else◌, List, [], ◌∷◌, drop, length, Option, Some, None, Result, Ok, Err}
use Rattle.dart_base.specs.declared.feature.Feature.{Feature}
use Rattle.dart_base.specs.declared.limit.TheConstants.{TREE_DEPTH, FURTHER_TREE_DEPTH}
use Rattle.dart_base.specs.declared.place.Place.{Place}
use Rattle.dart_token.specs.declared.token.Token.{Token}
use Rattle.dart_token.specs.declared.sign.Sign.TheVariants as s
use Rattle.dart_token.specs.declared.word.Word.TheVariants as w
use Rattle.dart_tree.specs.declared.identifier.DotName.{DotName}
use Rattle.dart_tree.specs.declared.identifier.Identifier.{Identifier}
use Rattle.dart_tree.specs.declared.unit.CombinatorKind.{CombinatorKind}
use Rattle.dart_tree.specs.declared.unit.CombinatorKind.TheVariants as k
use Rattle.dart_tree.specs.declared.unit.Prefix.{Prefix}
use Rattle.dart_tree.specs.Depth.{metadata_height}
use Rattle.dart_tree.specs.Tree.{Expr, Metadata}
use Rattle.dart_tree.specs.Unit as d
use Rattle.dart_tree.specs.Unit.{Combinator, DirectiveKind, Directive, Decl, UnitTree}
use Rattle.grammar_laws.specs.Depth.{is_below}
use Rattle.grammar_laws.specs.Readers.{Reader, always, mapped, both_by, starts_two, either, option, many, many_from, by_first}
use Rattle.grammar_laws.specs.Wholes.{answer}
use Rattle.dart_syntax.specs.Syntax.{SyntaxReason, left_out_at, syntax_at, too_deep_at, left_out, behind}
use Rattle.token_codes.specs.Codes.{class_of, of_code, show_code, hide_code, sign_code, word_code, these, this_word}
use Rattle.token_codes.specs.Leaves.{sign, word, identifier, plain_identifier, contextual, dot_name, comma_name}
use Rattle.syntax_readers.specs.Combinators.{◌~◌, made₂, made₃, made₄, only_if}
use Rattle.syntax_readers.specs.Types.{type_first}
use Rattle.syntax_readers.specs.Primaries.{strings}
use Rattle.syntax_readers.specs.Parameters.{metadata}
use Rattle.syntax_readers.specs.Statements.{stage, closed}
use Rattle.syntax_readers.specs.Declarations.{node, decl_kind}

-- ---- directives, behind their metadata

-- dottedIdentifierList: id {. id}
unfoldable pub dotted : Reader Token (Identifier × List DotName)
dotted = identifier ~ many class_of always (these s.Dot) dot_name

-- combinator: (show | hide) id {, id} (18.1 Imports)
unfoldable pub combinator_as : CombinatorKind → ℕ → Reader Token Combinator
combinator_as kind code =
    made₃ (λ word first more. record { kind = kind; word = word; first = first; more = more })
    (contextual code ~ identifier ~ many class_of always (these s.Comma) comma_name)

unfoldable pub combinators : Reader Token (List Combinator)
combinators = many class_of always (show_code ∷ hide_code ∷ [])
    (by_first class_of (show_code ∷ []) (combinator_as k.Show show_code)
    (combinator_as k.Hide hide_code))

-- as id
unfoldable pub prefix : Reader Token Prefix
prefix = made₂ (λ word name. record { word = word; name = name }) (word w.As ~ plain_identifier)

-- partHeader: metadata part of id {. id} ; (18.3 Parts)
unfoldable pub part_of : Reader Token DirectiveKind
part_of = made₄ d.part_of_directive (word w.Part ~ contextual of_code ~ dotted)

-- libraryName: metadata library dottedIdentifierList ;
unfoldable pub library : Reader Token DirectiveKind
library = made₃ d.library_directive (word w.Library ~ dotted)

-- libraryImport: metadata import uri [as id] {combinator} ; (18.1 Imports)
unfoldable pub import : Reader Token Expr → Reader Token DirectiveKind
import expr = made₄ d.import_directive (word w.Import ~ strings expr ~ option class_of
    (this_word w.As) prefix ~ combinators)

-- libraryExport: metadata export uri {combinator} ; (18.2 Exports)
unfoldable pub export : Reader Token Expr → Reader Token DirectiveKind
export expr = made₃ d.export_directive (word w.Export ~ strings expr ~ combinators)

-- partDirective: metadata part stringLiteral ; (18.3 Parts)
unfoldable pub part : Reader Token Expr → Reader Token DirectiveKind
part expr = made₂ d.part_directive (word w.Part ~ strings expr)

-- ---- the items of a unit: directives and declarations

pub data Item : Type 0 where
  a_directive : Directive → Item
  a_decl : Decl → Item

-- which directives may still come: all, those behind the library's name, parts, none
pub data Still : Type 0 where
  all_directives : Still
  imports_and_parts : Still
  only_parts : Still
  no_directives : Still

abbrev pub may_begin : Still → Bool
may_begin all_directives = true
may_begin x = false

abbrev pub may_import : Still → Bool
may_import all_directives = true
may_import imports_and_parts = true
may_import x = false

abbrev pub may_have_parts : Still → Bool
may_have_parts no_directives = false
may_have_parts x = true

abbrev pub behind_directive : DirectiveKind → Still
behind_directive (d.part_of_directive word of name more) = no_directives
behind_directive (d.part_directive word uri) = only_parts
behind_directive x = imports_and_parts

abbrev pub still_behind : Still → Item → Still
still_behind still (a_decl x) = no_directives
still_behind still (a_directive x) = behind_directive x.kind

-- a directive, where one may stand: it is a node, so that its metadata has one node less than a
-- declaration's
unfoldable pub directive : ℕ → Metadata → Bool → (Reader Token Expr → Reader Token DirectiveKind) →
    Reader Token Item
directive n metadata may kind = only_if (may && is_below metadata_height n metadata)
    (made₂ (λ kind semicolon. a_directive (record {
      metadata =
          metadata;
      kind = kind;
      semicolon = semicolon;
    }))
    (node (λ m. kind (closed (stage m).nodes.exprs)) n ~ sign s.Semicolon))

-- the header of a part comes
abbrev pub part_of_comes : List Token → Bool
part_of_comes ts = starts_two class_of (this_word w.Part) (of_code ∷ []) ts

unfoldable pub part_or_header : ℕ → Metadata → Still → Reader Token Item
part_or_header n metadata still = either (λ ts. may_begin still && part_of_comes ts)
    (directive n metadata true (λ expr. part_of)) (directive n metadata (may_have_parts still) part)

-- what stands behind metadata
unfoldable pub item_behind : ℕ → Still → Metadata → Reader Token Item
item_behind n still metadata =
    by_first class_of (this_word w.Library)
    (directive n metadata (may_begin still) (λ expr. library))
    (by_first class_of (this_word w.Import) (directive n metadata (may_import still) import)
    (by_first class_of (this_word w.Export) (directive n metadata (may_import still) export)
    (by_first class_of (this_word w.Part) (part_or_header n metadata still)
    (mapped (λ kind. a_decl (record { metadata = metadata; kind = kind })) (decl_kind n)))))

unfoldable pub item : ℕ → Still → Reader Token Item
item n still = mapped (λ x. x.1) (both_by (metadata (stage n).nodes.exprs) (item_behind n still))

-- what begins one
abbrev pub item_first : List ℕ
item_first = sign_code s.AtSign ∷ word_code w.Library ∷ word_code w.Import ∷ word_code w.Export
    ∷ word_code w.Part
    ∷ word_code w.Abstract ∷ word_code w.Class ∷ word_code w.Typedef ∷ word_code w.Enum
    ∷ word_code w.External
    ∷ word_code w.Var ∷ word_code w.Final ∷ word_code w.Const ∷ word_code w.Void ∷ type_first

-- ---- units

abbrev pub directives_of : List Item → List Directive
directives_of [] = []
directives_of (a_directive x ∷ more) = x ∷ directives_of more
directives_of (a_decl x ∷ more) = directives_of more

abbrev pub decls_of : List Item → List Decl
decls_of [] = []
decls_of (a_directive x ∷ more) = decls_of more
decls_of (a_decl x ∷ more) = x ∷ decls_of more

abbrev pub to_unit : List Item → UnitTree
to_unit items = record { directives = directives_of items; declarations = decls_of items }

-- partDeclaration: partHeader {topLevelDefinition}
-- libraryDefinition: [libraryName] {importOrExport} {partDirective} {topLevelDefinition}
unfoldable pub unit_over : ℕ → Reader Token UnitTree
unit_over n = mapped to_unit (many_from class_of (λ still. item_first) (item n)
    (λ still x. true) still_behind all_directives)

-- a unit with at most so many nodes above one another
unfoldable pub unit_reader : ℕ → Reader Token UnitTree
unit_reader n = node unit_over n

-- ---- what is answered on a list of tokens

-- the number of the first token with which a list begins no unit, or of all tokens
abbrev pub reached : ℕ → Result UnitTree ℕ → ℕ
reached count (Ok unit) = count
reached count (Err at) = at

-- the place behind the last token of a list
abbrev pub end_place : Token → List Token → Place
end_place t [] = behind t
end_place t (u ∷ ts) = end_place u ts

-- a token that a deeper reader passes is too deep
abbrev pub reason_at : Bool → Place → List Token → SyntaxReason
reason_at deeper end [] = syntax_at end
reason_at deeper end (t ∷ ts) = if deeper then too_deep_at t.place else syntax_at t.place

abbrev pub found_or_refused : ℕ → List Token → Place → Result UnitTree ℕ →
    Result UnitTree SyntaxReason
found_or_refused further tokens end (Ok unit) = Ok unit
found_or_refused further tokens end (Err at) =
    Err (reason_at (nat_lt at (reached (length tokens) (answer (unit_reader further) tokens))) end
    (drop at tokens))

abbrev pub unless_left_out : Option (Place × Feature) → Result UnitTree SyntaxReason →
    Result UnitTree SyntaxReason
unless_left_out None other = other
unless_left_out (Some (place, feature)) other = Err (left_out_at place feature)

-- the unit that a list spells within a depth, or why there is none: what is left out before all
-- else, and else the first
-- token that is wrong or, where a further depth passes it, too deep
abbrev pub found_within : ℕ → ℕ → List Token → Result UnitTree SyntaxReason
found_within depth further [] = Ok (record { directives = []; declarations = [] })
found_within depth further (t ∷ ts) = unless_left_out (left_out (t ∷ ts))
    (found_or_refused further (t ∷ ts) (end_place t ts) (answer (unit_reader depth) (t ∷ ts)))

unfoldable pub found : List Token → Result UnitTree SyntaxReason
found tokens = found_within TREE_DEPTH FURTHER_TREE_DEPTH tokens
