-- What contracts see of the parts of literals, and the readers of them by the number of nodes above one another.
use Rattle.std.specs.Prelude.{ℕ, max, List, [], ◌∷◌, Option, None, Some}
use Rattle.std.specs.Global.{Vec}
use Rattle.dart_base.specs.declared.place.Place.{Place}
use Rattle.dart_token.specs.declared.sign.Sign.TheVariants as s
use Rattle.dart_token.specs.declared.token.Quote.{Quote}
use Rattle.dart_token.specs.declared.token.Token.{Token}
use Rattle.dart_tree.specs.declared.expression.Expr.{Expr}
use Rattle.dart_tree.specs.declared.expression.Entry.{Entry}
use Rattle.dart_tree.specs.declared.expression.Item.{Item}
use Rattle.dart_tree.specs.declared.expression.PieceKind.TheVariants as pk
use Rattle.dart_tree.specs.declared.expression.StringPiece.{StringPiece}
use Rattle.dart_tree.specs.Depth as height
use Rattle.dart_tree.specs.Lists.{pieces_of, items_of, entries_of}
use Rattle.dart_tree.specs.Tree as t
use Rattle.dart_tree.specs.View as view
use Rattle.dart_syntax.specs.Expressions.{middles}
use Rattle.grammar_laws.specs.Readers.{Reader, mapped, both, many, always, trailed}
use Rattle.token_codes.specs.Codes.{class_of, sign_code, middle_code, these}
use Rattle.token_codes.specs.Leaves.{head, piece, sign}
use Rattle.token_cursor.specs.declared.cursor.HeadText.{HeadText}
use Rattle.token_cursor.specs.declared.cursor.PieceText.{PieceText}
use Rattle.token_cursor.specs.Views.{head_of, text_of}
use Rattle.syntax_readers.specs.Primaries.{expr_first, entry, to_list, to_map}

-- what begins an operand that a bracket or an operator begins
abbrev pub bracket_first : List ℕ
bracket_first = sign_code s.LeftParenthesis ∷ sign_code s.LeftBracket ∷ sign_code s.LeftBrace ∷ sign_code s.Less ∷ []

abbrev pub prefix_first : List ℕ
prefix_first = sign_code s.Minus ∷ sign_code s.Tilde ∷ sign_code s.Bang ∷ sign_code s.PlusPlus ∷ sign_code s.MinusMinus ∷ []

-- ---- strings

abbrev pub view_pieces : Vec StringPiece → t.Pieces
view_pieces v = pieces_of v.items

-- a piece with the expression behind it
abbrev pub HeadPart : Type 0
HeadPart = (Quote × (Place × List ℕ)) × t.Expr

abbrev pub TextPart : Type 0
TextPart = (Place × List ℕ) × t.Expr

abbrev pub head_part_of : HeadText × Expr → HeadPart
head_part_of x = (head_of x.0, view.expr x.1)

abbrev pub head_part_height : HeadPart → ℕ
head_part_height x = height.expr_height x.1

abbrev pub text_part_of : PieceText × Expr → TextPart
text_part_of x = (text_of x.0, view.expr x.1)

abbrev pub text_part_height : TextPart → ℕ
text_part_height x = height.expr_height x.1

-- a string with expressions, without its last piece
abbrev pub begun_string : HeadPart → List TextPart → t.Pieces
begun_string x more = t.piece (pk.Head x.0.0) x.0.1.0 x.0.1.1 (t.given None x.1) (middles more t.no_pieces)

abbrev pub begun_text : Reader Token t.Expr → Reader Token t.Pieces
begun_text expr = mapped (λ x. begun_string x.0 x.1)
    (both (both head expr) (many class_of always (middle_code ∷ []) (both (piece middle_code) expr)))

-- ---- lists and maps

abbrev pub view_items : Vec Item → t.Items
view_items v = items_of v.items

abbrev pub items_and_comma : Vec Item × Option Place → t.Items × Option Place
items_and_comma x = (view_items x.0, x.1)

abbrev pub items_and_comma_height : t.Items × Option Place → ℕ
items_and_comma_height x = height.items_height x.0

abbrev pub entries_and_comma : Vec Entry × Option Place → t.Entries × Option Place
entries_and_comma x = (entries_of x.0.items, x.1)

abbrev pub entries_and_comma_height : t.Entries × Option Place → ℕ
entries_and_comma_height x = height.entries_height x.0

abbrev pub entry_of : Expr × (Place × Expr) → t.Expr × (Place × t.Expr)
entry_of x = (view.expr x.0, (x.1.0, view.expr x.1.1))

abbrev pub entry_height : t.Expr × (Place × t.Expr) → ℕ
entry_height x = max (height.expr_height x.0) (height.expr_height x.1.1)

-- one item or entry at least
abbrev pub some_items : Reader Token t.Expr → Reader Token (t.Items × Option Place)
some_items expr = mapped (λ x. to_list (Some x))
    (both expr (trailed class_of (these s.Comma) expr_first (sign s.Comma) expr))

abbrev pub some_entries : Reader Token t.Expr → Reader Token (t.Entries × Option Place)
some_entries expr = mapped (λ x. to_map (Some x))
    (both (entry expr) (trailed class_of (these s.Comma) expr_first (sign s.Comma) (entry expr)))
