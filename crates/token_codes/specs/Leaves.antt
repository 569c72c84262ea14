-- Readers of one token, and of the names that many productions share.
use Rattle.std.specs.Prelude.{ℕ, Bool, false, ◌&&◌, List, [], ◌∷◌}
use Rattle.std.specs.Str.{bytes_eq}
use Rattle.dart_base.specs.declared.place.Place.{Place}
use Rattle.dart_token.specs.declared.token.Token.{Token}
use Rattle.dart_token.specs.declared.token.TokenKind.{TokenKind}
use Rattle.dart_token.specs.declared.token.TokenKind.TheVariants as tk
use Rattle.dart_token.specs.declared.token.Quote.{Quote}
use Rattle.dart_token.specs.declared.token.Quote.TheVariants as q
use Rattle.dart_token.specs.declared.sign.Sign.{Sign}
use Rattle.dart_token.specs.declared.sign.Sign.TheVariants as s
use Rattle.dart_token.specs.declared.word.Word.{Word}
use Rattle.dart_token.specs.declared.word.Word.TheVariants as w
use Rattle.dart_tree.specs.declared.expression.Atom.{Atom}
use Rattle.dart_tree.specs.declared.expression.Atom.TheVariants as a
use Rattle.dart_tree.specs.declared.expression.Creation.{Creation}
use Rattle.dart_tree.specs.declared.expression.Creation.TheVariants as c
use Rattle.dart_tree.specs.declared.identifier.CommaName.{CommaName}
use Rattle.dart_tree.specs.declared.identifier.DotName.{DotName}
use Rattle.dart_tree.specs.declared.identifier.Identifier.{Identifier}
use Rattle.dart_tree.specs.declared.identifier.Identifier.TheVariants as i
use Rattle.dart_tree.specs.declared.identifier.Label.{Label}
use Rattle.dart_tree.specs.declared.operator.Operator.{Operator}
use Rattle.dart_tree.specs.declared.operator.Operator.TheVariants as o
use Rattle.dart_tree.specs.declared.parameter.ThisDot.{ThisDot}
use Rattle.grammar_laws.specs.Codes.{has}
use Rattle.grammar_laws.specs.Readers.{Reader, nothing, mapped, both, one, by_first, either}
use Rattle.token_codes.specs.Codes.{class_of, names, plain_names, atoms, heads, these, this_word, creations}

abbrev pub place_of : Token → Place
place_of t = t.place

-- ---- signs, words and operators

unfoldable pub sign : Sign → Reader Token Place
sign which = mapped place_of (one class_of (these which))

unfoldable pub word : Word → Reader Token Place
word which = mapped place_of (one class_of (this_word which))

-- an operator of one sign, one of these
unfoldable pub signed : Sign → Reader Token Operator
signed which = mapped (λ place. o.Sign place which) (sign which)

unfoldable pub one_of : List Sign → Reader Token Operator
one_of [] = nothing
one_of (x ∷ xs) = by_first class_of (these x) (signed x) (one_of xs)

-- `new` or `const` before the class of an object
abbrev pub created_by : TokenKind → Place → Creation
created_by (tk.Word w.Const) place = c.Const place
created_by kind place = c.New place

abbrev pub created : Token → Creation
created t = created_by t.kind t.place

unfoldable pub creation : Reader Token Creation
creation = mapped created (one class_of creations)

-- ---- identifiers

abbrev pub named_by : TokenKind → Place → List ℕ → Identifier
named_by (tk.Word w.Get) place text = i.Get place
named_by (tk.Word w.Set) place text = i.Set place
named_by kind place text = i.Name place text

abbrev pub name_of : Token → Identifier
name_of t = named_by t.kind t.place t.lexeme

unfoldable pub identifier : Reader Token Identifier
identifier = mapped name_of (one class_of names)

-- one that is not `get` or `set`
unfoldable pub plain_identifier : Reader Token Identifier
plain_identifier = mapped name_of (one class_of plain_names)

-- an identifier of this code, which `on`, `of`, `show` and `hide` have
unfoldable pub contextual : ℕ → Reader Token Place
contextual code = mapped place_of (one class_of (code ∷ []))

-- an identifier that is written so
abbrev pub is_named : List ℕ → List Token → Bool
is_named text [] = false
is_named text (t ∷ ts) = has plain_names (class_of t) && bytes_eq t.lexeme text

unfoldable pub named : List ℕ → Reader Token Place
named text = either (is_named text) (mapped place_of (one class_of plain_names)) nothing

unfoldable pub dot_name : Reader Token DotName
dot_name = mapped (λ x. record { dot = x.0; name = x.1 }) (both (sign s.Dot) identifier)

unfoldable pub label : Reader Token Label
label = mapped (λ x. record { name = x.0; colon = x.1 }) (both identifier (sign s.Colon))

unfoldable pub comma_name : Reader Token CommaName
comma_name = mapped (λ x. record { comma = x.0; name = x.1 }) (both (sign s.Comma) identifier)

-- `this.`
unfoldable pub this_dot : Reader Token ThisDot
this_dot = mapped (λ x. record { this = x.0; dot = x.1 }) (both (word w.This) (sign s.Dot))

-- ---- literals

abbrev pub atom_by : TokenKind → Place → List ℕ → Atom
atom_by (tk.Word w.This) place text = a.This place
atom_by (tk.Word w.Null) place text = a.Null place
atom_by (tk.Word w.True) place text = a.True place
atom_by (tk.Word w.False) place text = a.False place
atom_by (tk.Word w.Get) place text = a.Name (i.Get place)
atom_by (tk.Word w.Set) place text = a.Name (i.Set place)
atom_by tk.Integer place text = a.Integer place text
atom_by kind place text = a.Name (i.Name place text)

abbrev pub atom_of : Token → Atom
atom_of t = atom_by t.kind t.place t.lexeme

unfoldable pub atom : Reader Token Atom
atom = mapped atom_of (one class_of atoms)

-- a piece of a string, of this code, with its text
abbrev pub placed_text : Token → Place × List ℕ
placed_text t = (t.place, t.lexeme)

unfoldable pub piece : ℕ → Reader Token (Place × List ℕ)
piece code = mapped placed_text (one class_of (code ∷ []))

-- the first piece of a string with expressions, with its quote
abbrev pub quote_by : TokenKind → Quote
quote_by (tk.Head quote) = quote
quote_by kind = q.Single

abbrev pub headed : Token → Quote × (Place × List ℕ)
headed t = (quote_by t.kind, placed_text t)

unfoldable pub head : Reader Token (Quote × (Place × List ℕ))
head = mapped headed (one class_of heads)
