-- What contracts see of names in lists, and readers that several heads share.
use Rattle.std.specs.Prelude.{ℕ, List, [], ◌∷◌, map, Option}
use Rattle.std.specs.Global.{Vec}
use Rattle.dart_base.specs.declared.place.Place.{Place}
use Rattle.dart_token.specs.declared.token.Token.{Token}
use Rattle.dart_token.specs.declared.sign.Sign.TheVariants as s
use Rattle.dart_token.specs.declared.word.Word.{Word}
use Rattle.dart_token.specs.declared.word.Word.TheVariants as w
use Rattle.dart_tree.specs.declared.identifier.CommaName.{CommaName}
use Rattle.dart_tree.specs.declared.identifier.DotName.{DotName}
use Rattle.dart_tree.specs.declared.identifier.Identifier.{Identifier}
use Rattle.dart_tree.specs.declared.unit.Combinator.{Combinator}
use Rattle.dart_tree.specs.declared.unit.CombinatorKind.TheVariants as k
use Rattle.dart_tree.specs.declared.declaration.OperatorName.{OperatorName}
use Rattle.dart_tree.specs.declared.identifier.Identifier.TheVariants as i
use Rattle.dart_tree.specs.Types.{TypeList}
use Rattle.dart_tree.specs.Unit as u
use Rattle.dart_tree.specs.UnitView as view
use Rattle.grammar_laws.specs.Readers.{Reader, mapped, by_first, option, many, trailed, always}
use Rattle.token_codes.specs.Codes.{class_of, names, these, word_code, show_code, hide_code}
use Rattle.token_codes.specs.Leaves.{sign, word, identifier, plain_identifier, dot_name, comma_name, named}
use Rattle.syntax_readers.specs.Combinators.{◌~◌, made₂}
use Rattle.syntax_readers.specs.Units.{combinator_as}
use Rattle.syntax_readers.specs.Declarations.{shift_or_greater, index_or_assign, to_names}

-- types behind this word
abbrev pub clause_of : Word → Reader Token TypeList → Reader Token u.TypeClause
clause_of which types = made₂ (λ word items. record { word = word; types = items }) (word which ~ types)

-- names behind commas and behind dots
abbrev pub comma_names : Reader Token (List CommaName)
comma_names = many class_of always (these s.Comma) comma_name

abbrev pub dot_names : Reader Token (List DotName)
dot_names = many class_of always (these s.Dot) dot_name

-- the same behind commas, of which the last may have no name behind it
abbrev pub trailed_names : Reader Token (List (Place × Identifier) × Option Place)
trailed_names = trailed class_of (these s.Comma) names (sign s.Comma) identifier

abbrev pub items_of : {X : Type 0} → Vec X → List X
items_of v = v.items

abbrev pub pair_of : CommaName → Place × Identifier
pair_of x = (x.comma, x.name)

abbrev pub trailed_of : Vec CommaName × Option Place → List (Place × Identifier) × Option Place
trailed_of x = (map pair_of x.0.items, x.1)

-- a name with names behind dots
abbrev pub dotted_of : Identifier × Vec DotName → Identifier × List DotName
dotted_of x = (x.0, x.1.items)

abbrev pub combinators_of : Vec Combinator → List u.Combinator
combinators_of v = map view.combinator v.items

-- the name of this class
abbrev pub class_named : List ℕ → Reader Token Identifier
class_named class = mapped (λ place. i.Name place class) (named class)

-- `>` or `> >`, and `[ ]` or `[ ] =`
abbrev pub greater_reader : Reader Token OperatorName
greater_reader = mapped shift_or_greater (sign s.Greater ~ option class_of (these s.Greater) (sign s.Greater))

abbrev pub index_reader : Reader Token OperatorName
index_reader = mapped index_or_assign
    ((sign s.LeftBracket ~ sign s.RightBracket) ~ option class_of (these s.Assign) (sign s.Assign))

-- one combinator
abbrev pub combinator_reader : Reader Token u.Combinator
combinator_reader = by_first class_of (show_code ∷ []) (combinator_as k.Show show_code) (combinator_as k.Hide hide_code)

-- the words of accessors
abbrev pub accessor_words : List ℕ
accessor_words = word_code w.Get ∷ word_code w.Set ∷ []

-- an enum behind its word
abbrev pub enum_of : Place → Identifier × (Place × (Identifier × ((List (Place × Identifier) × Option Place) × Place))) → u.Enum
enum_of word (name, (opening, (first, (more, closing)))) = record {
  word = word;
  name = name;
  opening = opening;
  first = first;
  more = to_names more.0;
  comma = more.1;
  closing = closing;
}

abbrev pub enum_behind : Place → Reader Token u.Enum
enum_behind word = mapped (enum_of word)
    (plain_identifier ~ sign s.LeftBrace ~ identifier ~ trailed_names ~ sign s.RightBrace)
