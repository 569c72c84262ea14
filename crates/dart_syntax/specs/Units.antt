-- Units and their directives.
use Rattle.std.specs.Prelude.{ℕ, zero, suc, List, [], ◌∷◌, ◌++◌, Option, None, Some}
use Rattle.dart_token.specs.declared.sign.Sign.TheVariants as s
use Rattle.dart_token.specs.declared.word.Word.TheVariants as w
use Rattle.dart_tree.specs.declared.identifier.Identifier.{Identifier}
use Rattle.dart_tree.specs.declared.identifier.DotName.{DotName}
use Rattle.dart_tree.specs.declared.unit.CombinatorKind.{CombinatorKind}
use Rattle.dart_tree.specs.declared.unit.CombinatorKind.TheVariants as k
use Rattle.dart_tree.specs.declared.unit.Prefix.{Prefix}
use Rattle.dart_tree.specs.Unit as d
use Rattle.dart_tree.specs.Unit.{Combinator, DirectiveKind, Directive, Decl, UnitTree}
use Rattle.dart_tree.specs.UnitTokens.{of_text, combinator_text, combinator_tokens, prefix_tokens, directive_kind_tokens, directive_tokens, unit_tokens}
use Rattle.dart_syntax.specs.Phrases.{Phrase, ◌~◌, ◌<|>◌, opt, many, made₂, made₃, made₄, no_room}
use Rattle.dart_syntax.specs.Leaves.{sign, word, named, identifier, plain_identifier, dot_name, comma_name}
use Rattle.dart_syntax.specs.Expressions.{ExprNodes, strings}
use Rattle.dart_syntax.specs.Statements.{within, metadata_of}
use Rattle.dart_syntax.specs.Declarations.{decl_within}

-- dottedIdentifierList: id {. id}
abbrev pub dotted : Phrase (Identifier × List DotName)
dotted = identifier ~ many dot_name

-- combinator: (show | hide) id {, id} (18.1 Imports)
abbrev pub combinator_as : CombinatorKind → Phrase Combinator
combinator_as kind = made₃ combinator_tokens
    (λ word first more. record { kind = kind; word = word; first = first; more = more })
    (named (combinator_text kind) ~ identifier ~ many comma_name)

abbrev pub combinator : Phrase Combinator
combinator = combinator_as k.Show <|> combinator_as k.Hide

-- as id
abbrev pub prefix : Phrase Prefix
prefix = made₂ prefix_tokens (λ word name. record { word = word; name = name })
    (word w.As ~ plain_identifier)

module _ (inner : ExprNodes) where
  open inner use {expr}

  -- metadata before what a directive says, and a semicolon behind it
  abbrev pub directive_over : Phrase DirectiveKind → Phrase Directive
  directive_over kind = made₃ directive_tokens
      (λ metadata kind semicolon. record {
        metadata = metadata;
        kind = kind;
        semicolon = semicolon;
      })
      (metadata_of inner ~ kind ~ sign s.Semicolon)

  -- partHeader: metadata part of id {. id} ; (18.3 Parts)
  abbrev pub part_of_over : Phrase Directive
  part_of_over =
      directive_over
      (made₄ directive_kind_tokens d.part_of_directive (word w.Part ~ named of_text ~ dotted))

  -- libraryName: metadata library dottedIdentifierList ; (18 Libraries and Scripts)
  abbrev pub library_over : Phrase Directive
  library_over =
      directive_over (made₃ directive_kind_tokens d.library_directive (word w.Library ~ dotted))

  -- libraryImport: metadata import uri [as id] {combinator} ; (18.1 Imports)
  -- uri: stringLiteral (18.5 URIs)
  abbrev pub import_over : Phrase Directive
  import_over = directive_over (made₄ directive_kind_tokens d.import_directive
      (word w.Import ~ strings expr ~ opt prefix ~ many combinator))

  -- libraryExport: metadata export uri {combinator} ; (18.2 Exports)
  abbrev pub export_over : Phrase Directive
  export_over = directive_over (made₃ directive_kind_tokens d.export_directive
      (word w.Export ~ strings expr ~ many combinator))

  -- partDirective: metadata part stringLiteral ; (18.3 Parts)
  abbrev pub part_over : Phrase Directive
  part_over =
      directive_over (made₂ directive_kind_tokens d.part_directive (word w.Part ~ strings expr))

-- a directive with at most so many nodes above one another
abbrev pub directive_within : (ExprNodes → Phrase Directive) → ℕ → Phrase Directive
directive_within over zero = no_room directive_tokens
directive_within over (suc n) = over (within n).nodes.expr_nodes

-- importOrExport: libraryImport | libraryExport
abbrev pub imports_and_exports : ExprNodes → Phrase Directive
imports_and_exports inner = import_over inner <|> export_over inner

abbrev pub optional : Option Directive → List Directive
optional None = []
optional (Some x) = x ∷ []

-- partDeclaration: partHeader {topLevelDefinition}
-- libraryDefinition: [libraryName] {importOrExport} {partDirective} {topLevelDefinition}, over what
-- is one node less deep (18 Libraries and Scripts)
abbrev pub unit_over : ℕ → Phrase UnitTree
unit_over n =
    made₂ unit_tokens
    (λ header declarations. record { directives = header ∷ []; declarations = declarations })
    (directive_within part_of_over n ~ many (decl_within n))
    <|> made₄ unit_tokens (λ name imports parts declarations.
    record { directives = optional name ++ (imports ++ parts); declarations = declarations })
    (opt (directive_within library_over n) ~ many (directive_within imports_and_exports n)
    ~ many (directive_within part_over n) ~ many (decl_within n))

-- a unit with at most so many nodes above one another
unfoldable pub unit_within : ℕ → Phrase UnitTree
unit_within zero = no_room unit_tokens
unit_within (suc n) = unit_over n
