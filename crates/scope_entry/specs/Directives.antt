-- What the directives of a library say of what it imports and exports (ECMA-408, 18.1 Imports and 18.2 Exports).
use Rattle.std.specs.Prelude.{◌≡◌, ℕ, ◌==◌, List, [], ◌∷◌, map, Bool, not, Option, None, Some, slice_get, option_map}
use Rattle.std.specs.List.{list_any, list_all}
use Rattle.dart_base.specs.declared.name.Name.{Name}
use Rattle.dart_tree.specs.declared.identifier.Identifier.{Identifier}
use Rattle.dart_tree.specs.declared.unit.Prefix.{Prefix}
use Rattle.dart_tree.specs.declared.unit.CombinatorKind.{CombinatorKind}
use Rattle.dart_tree.specs.declared.unit.CombinatorKind.TheVariants.{Show, Hide}
use Rattle.dart_tree.specs.Unit as u
use Rattle.scope_mention.specs.Head.{identifier_text}
use Rattle.scope_library.specs.declared.library.Edge.{Edge}
use Rattle.scope_space.specs.Library.{passes}
use Rattle.scope_space.specs.declared.library.Import.{Import}
use Rattle.scope_space.specs.declared.library.Export.{Export}

-- what the directive says from which an import or export comes
abbrev pub directive_kind_in : Option u.UnitTree → ℕ → Option u.DirectiveKind
directive_kind_in None number = None
directive_kind_in (Some unit) number = option_map (λ directive. directive.kind) (slice_get unit.directives number)

abbrev pub directive_kind_of : Option u.UnitTree → Option ℕ → Option u.DirectiveKind
directive_kind_of unit None = None
directive_kind_of unit (Some number) = directive_kind_in unit number

abbrev pub directive_prefix : u.DirectiveKind → Option Prefix
directive_prefix (u.import_directive word uri prefix combinators) = prefix
directive_prefix (u.export_directive word uri combinators) = None
directive_prefix (u.part_directive word uri) = None
directive_prefix (u.part_of_directive word of_word name more) = None
directive_prefix (u.library_directive word name more) = None

abbrev pub directive_combinators : u.DirectiveKind → List u.Combinator
directive_combinators (u.import_directive word uri prefix combinators) = combinators
directive_combinators (u.export_directive word uri combinators) = combinators
directive_combinators (u.part_directive word uri) = []
directive_combinators (u.part_of_directive word of_word name more) = []
directive_combinators (u.library_directive word name more) = []

abbrev pub combinators_in : Option u.DirectiveKind → List u.Combinator
combinators_in None = []
combinators_in (Some kind) = directive_combinators kind

module _ (number : List ℕ → ℕ) where
  -- the name of an identifier of the library
  abbrev pub name_of : Identifier → Name
  name_of x = record { 0 = number (identifier_text x) }

  abbrev pub combinator_names : u.Combinator → List Name
  combinator_names x = name_of x.first ∷ map (λ c. name_of c.name) x.more

  abbrev pub lets_by : CombinatorKind → ℕ → List Name → Bool
  lets_by Show name names = list_any (λ one. one.0 == name) names
  lets_by Hide name names = not (list_any (λ one. one.0 == name) names)

  -- `show` lets the names through that it lists, `hide` all others
  abbrev pub written_lets : ℕ → u.Combinator → Bool
  written_lets name x = lets_by x.kind name (combinator_names x)

  -- all combinators that are written let the name through
  abbrev pub written_passes : ℕ → List u.Combinator → Bool
  written_passes name combinators = list_all (written_lets name) combinators

  abbrev pub prefix_name : Option Prefix → Option Name
  prefix_name None = None
  prefix_name (Some prefix) = Some (name_of prefix.name)

  abbrev pub prefix_in : Option u.DirectiveKind → Option Name
  prefix_in None = None
  prefix_in (Some kind) = prefix_name (directive_prefix kind)

  -- an import as its directive writes it; one without a directive is whole and has no prefix
  pub record IsImport (unit : Option u.UnitTree) (edge : Edge) (import : Import) : Type 0 where
    pub target : import.target ≡ edge.library
    pub prefix : import.prefix ≡ prefix_in (directive_kind_of unit edge.directive)
    pub through : (name : ℕ) → passes name import.combinators.items ≡ written_passes name (combinators_in (directive_kind_of unit edge.directive))

  -- an export as its directive writes it
  pub record IsExport (unit : Option u.UnitTree) (edge : Edge) (export : Export) : Type 0 where
    pub target : export.target ≡ edge.library
    pub through : (name : ℕ) → passes name export.combinators.items ≡ written_passes name (combinators_in (directive_kind_of unit edge.directive))
