-- Phrases of one token, and of the names and lists that many productions share.
use Rattle.std.specs.Prelude.{ℕ, Bool, true, false, List, [], ◌∷◌, Some}
use Rattle.dart_base.specs.declared.place.Place.{Place}
use Rattle.dart_token.specs.declared.token.Token.{Token}
use Rattle.dart_token.specs.declared.token.TokenKind.{TokenKind}
use Rattle.dart_token.specs.declared.token.TokenKind.TheVariants as tk
use Rattle.dart_token.specs.declared.sign.Sign.{Sign}
use Rattle.dart_token.specs.declared.sign.Sign.TheVariants as s
use Rattle.dart_token.specs.declared.word.Word.{Word}
use Rattle.dart_tree.specs.declared.identifier.Identifier.{Identifier}
use Rattle.dart_tree.specs.declared.identifier.Identifier.TheVariants as i
use Rattle.dart_tree.specs.declared.identifier.DotName.{DotName}
use Rattle.dart_tree.specs.declared.identifier.CommaName.{CommaName}
use Rattle.dart_tree.specs.declared.identifier.Label.{Label}
use Rattle.dart_tree.specs.declared.operator.Operator.{Operator}
use Rattle.dart_tree.specs.declared.operator.Operator.TheVariants as o
use Rattle.dart_tree.specs.declared.expression.Atom.{Atom}
use Rattle.dart_tree.specs.declared.expression.Creation.{Creation}
use Rattle.dart_tree.specs.declared.expression.PieceKind.{PieceKind}
use Rattle.dart_tree.specs.declared.parameter.ThisDot.{ThisDot}
use Rattle.dart_tree.specs.LeafTokens.{sign_at, word_at, operator_tokens, dot_name_tokens, identifier_tokens, atom_tokens, creation_token, label_tokens, piece_token, maybe_this}
pub use Rattle.dart_tree.specs.UnitTokens.{comma_name_tokens}
use Rattle.dart_syntax.specs.Phrases.{Phrase, ◌~◌, ◌<|>◌, leaf, many, made, made₂, no_room}

abbrev pub sign_tokens : Sign → Place → List Token
sign_tokens which place = sign_at place which ∷ []

abbrev pub sign : Sign → Phrase Place
sign which = leaf (sign_tokens which)

abbrev pub word_tokens : Word → Place → List Token
word_tokens which place = word_at place which ∷ []

abbrev pub word : Word → Phrase Place
word which = leaf (word_tokens which)

-- an identifier that is written so, as `on`, `of`, `show` and `hide`, which are no words
abbrev pub named_tokens : List ℕ → Place → List Token
named_tokens text place = record { kind = tk.Identifier; place = place; lexeme = text } ∷ []

abbrev pub named : List ℕ → Phrase Place
named text = leaf (named_tokens text)

abbrev pub identifier : Phrase Identifier
identifier = leaf identifier_tokens

-- the name of a class, an alias, a type parameter or a prefix, which is not `get` or `set`
abbrev pub plain_identifier : Phrase Identifier
plain_identifier = made₂ identifier_tokens i.Name (leaf (λ x. identifier_tokens (i.Name x.0 x.1)))

abbrev pub atom : Phrase Atom
atom = leaf atom_tokens

-- new | const
abbrev pub creation_tokens : Creation → List Token
creation_tokens x = creation_token x ∷ []

abbrev pub creation : Phrase Creation
creation = leaf creation_tokens

abbrev pub dot_name : Phrase DotName
dot_name = made₂ dot_name_tokens (λ dot name. record { dot = dot; name = name })
    (sign s.Dot ~ identifier)

-- label: id : (17.13 Labels)
abbrev pub label : Phrase Label
label = made₂ label_tokens (λ name colon. record { name = name; colon = colon })
    (identifier ~ sign s.Colon)

abbrev pub comma_name : Phrase CommaName
comma_name =
    made₂ comma_name_tokens (λ comma name. record { comma = comma; name = name })
    (sign s.Comma ~ identifier)

-- a piece of a string, with its text
abbrev pub piece : PieceKind → Phrase (Place × List ℕ)
piece kind = leaf (λ x. piece_token kind x.0 x.1 ∷ [])

-- `this.`
abbrev pub this_dot_tokens : ThisDot → List Token
this_dot_tokens x = maybe_this (Some x)

-- an operator of one sign, one of these
abbrev pub one_of : List Sign → Phrase Operator
one_of [] = no_room operator_tokens
one_of (x ∷ more) = made operator_tokens (λ place. o.Sign place x) (sign x) <|> one_of more

-- items with commas between them
abbrev pub commas : {A : Type 0} → Phrase A → Phrase (A × List (Place × A))
commas p = p ~ many (sign s.Comma ~ p)

-- the list begins with no opening brace
abbrev pub is_no_brace : TokenKind → Bool
is_no_brace (tk.Sign s.LeftBrace) = false
is_no_brace kind = true

abbrev pub begins_with_no_brace : List Token → Bool
begins_with_no_brace [] = true
begins_with_no_brace (t ∷ ts) = is_no_brace t.kind
