-- What contracts see of directives, declarations and items, and their readers by the number of nodes above one another.
use Rattle.std.specs.Prelude.{ℕ, max, true, List, [], ◌∷◌, ◌++◌}
use Rattle.dart_base.specs.declared.place.Place.{Place}
use Rattle.dart_token.specs.declared.sign.Sign.TheVariants as s
use Rattle.dart_token.specs.declared.token.Token.{Token}
use Rattle.dart_token.specs.declared.word.Word.TheVariants as w
use Rattle.dart_tree.specs.Depth as height
use Rattle.dart_tree.specs.Depth.{highest}
use Rattle.dart_tree.specs.Tree as t
use Rattle.dart_tree.specs.Unit as d
use Rattle.dart_tree.specs.UnitView as view
use Rattle.grammar_laws.specs.Readers.{Reader, mapped, many_from}
use Rattle.parse_nest.specs.Stages.{exprs_at}
use Rattle.syntax_readers.specs.Combinators.{◌~◌, made₂}
use Rattle.syntax_readers.specs.Declarations as decl
use Rattle.syntax_readers.specs.Units as spec
use Rattle.token_codes.specs.Codes.{class_of, word_code}
use Rattle.token_codes.specs.Leaves.{sign}
use Rattle.parse_decl.specs.declared.directive.DirectiveForm.{DirectiveForm}
use Rattle.parse_decl.specs.declared.directive.DirectiveForm.TheVariants as f
use Rattle.parse_decl.specs.declared.order.Item.{Item}
use Rattle.parse_decl.specs.declared.order.Item.TheVariants as i
use Rattle.parse_decl.specs.declared.order.Still.{Still}
use Rattle.parse_decl.specs.declared.order.Still.TheVariants as l

-- ---- what comes

-- the words that begin directives
abbrev pub directive_first : List ℕ
directive_first = word_code w.Library ∷ word_code w.Import ∷ word_code w.Export ∷ word_code w.Part ∷ []

-- the words that begin only declarations other than variables
abbrev pub declaring_first : List ℕ
declaring_first = word_code w.Abstract ∷ word_code w.Class ∷ word_code w.Typedef ∷ word_code w.Enum ∷ word_code w.External ∷ []

-- the words that begin classes
abbrev pub class_first : List ℕ
class_first = word_code w.Abstract ∷ word_code w.Class ∷ []

-- ---- declarations, which are nodes

abbrev pub class_at : ℕ → Reader Token d.Class
class_at = decl.node decl.class_over

abbrev pub alias_at : ℕ → Reader Token d.Alias
alias_at = decl.node (λ m. decl.alias (exprs_at m))

abbrev pub enum_at : ℕ → Reader Token d.Enum
enum_at = decl.node (λ m. decl.enum)

abbrev pub function_at : ℕ → Reader Token t.Function
function_at = decl.function decl.external_or_none

abbrev pub accessor_at : ℕ → Reader Token d.Accessor
accessor_at = decl.accessor decl.external_or_none

-- in an enum no node stands
abbrev pub one_height : d.Enum → ℕ
one_height x = 1

-- ---- directives

-- what a directive of this form says
abbrev pub form_reader : DirectiveForm → Reader Token t.Expr → Reader Token d.DirectiveKind
form_reader f.PartOf = λ expr. spec.part_of
form_reader f.Library = λ expr. spec.library
form_reader f.Import = spec.import
form_reader f.Export = spec.export
form_reader f.Part = spec.part

abbrev pub directive_item : t.Metadata → d.DirectiveKind → Place → spec.Item
directive_item metadata kind semicolon = spec.a_directive (record {
  metadata = metadata;
  kind = kind;
  semicolon = semicolon;
})

-- a directive behind its metadata, over what stands inside
abbrev pub directive_over : t.Metadata → Reader Token d.DirectiveKind → Reader Token spec.Item
directive_over metadata kind = made₂ (directive_item metadata) (kind ~ sign s.Semicolon)

-- ---- items

abbrev pub decl_item : t.Metadata → d.DeclKind → spec.Item
decl_item metadata kind = spec.a_decl (record { metadata = metadata; kind = kind })

abbrev pub item_of : Item → spec.Item
item_of (i.Directive x) = spec.a_directive (view.directive x)
item_of (i.Decl x) = spec.a_decl (view.decl x)

abbrev pub item_height : spec.Item → ℕ
item_height (spec.a_directive x) = height.directive_height x
item_height (spec.a_decl x) = height.decl_height x

-- which directives may still come, and which behind an item
abbrev pub still_of : Still → spec.Still
still_of l.AllDirectives = spec.all_directives
still_of l.ImportsAndParts = spec.imports_and_parts
still_of l.OnlyParts = spec.only_parts
still_of l.NoDirectives = spec.no_directives

abbrev pub behind_item : spec.Item → spec.Still
behind_item (spec.a_directive x) = spec.behind_directive x.kind
behind_item (spec.a_decl x) = spec.no_directives

-- ---- units

-- a unit with one item more, behind the others of its kind
abbrev pub with_item : d.UnitTree → spec.Item → d.UnitTree
with_item unit (spec.a_directive x) = record { directives = unit.directives ++ x ∷ []; declarations = unit.declarations }
with_item unit (spec.a_decl x) = record { directives = unit.directives; declarations = unit.declarations ++ x ∷ [] }

abbrev pub items_height : d.UnitTree → ℕ
items_height x = max (highest height.directive_height x.directives) (highest height.decl_height x.declarations)

-- the items of a unit
abbrev pub items_at : ℕ → Reader Token d.UnitTree
items_at n = mapped spec.to_unit
    (many_from class_of (λ still. spec.item_first) (spec.item n) (λ still x. true) spec.still_behind spec.all_directives)
