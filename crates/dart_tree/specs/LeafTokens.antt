-- The tokens of what holds no expression.
use Rattle.std.specs.Prelude.{ℕ, List, [], ◌∷◌, ◌++◌, flat_map, codes, Option, None, Some}
use Rattle.dart_base.specs.declared.place.Place.{Place}
use Rattle.dart_token.specs.declared.token.Token.{Token}
use Rattle.dart_token.specs.declared.token.TokenKind.{TokenKind}
use Rattle.dart_token.specs.declared.token.TokenKind.TheVariants as tk
use Rattle.dart_token.specs.declared.sign.Sign.{Sign}
use Rattle.dart_token.specs.declared.sign.Sign.TheVariants as s
use Rattle.dart_token.specs.declared.word.Word.{Word}
use Rattle.dart_token.specs.declared.word.Word.TheVariants as w
use Rattle.dart_token.specs.Sign.{sign_text}
use Rattle.dart_token.specs.Word.{word_text}
use Rattle.dart_tree.specs.declared.identifier.Identifier.{Identifier}
use Rattle.dart_tree.specs.declared.identifier.Identifier.TheVariants as i
use Rattle.dart_tree.specs.declared.identifier.DotName.{DotName}
use Rattle.dart_tree.specs.declared.identifier.Label.{Label}
use Rattle.dart_tree.specs.declared.operator.Operator.{Operator}
use Rattle.dart_tree.specs.declared.operator.Operator.TheVariants as o
use Rattle.dart_tree.specs.declared.expression.Atom.{Atom}
use Rattle.dart_tree.specs.declared.expression.Atom.TheVariants as a
use Rattle.dart_tree.specs.declared.expression.Creation.{Creation}
use Rattle.dart_tree.specs.declared.expression.Creation.TheVariants as c
use Rattle.dart_tree.specs.declared.expression.PieceKind.{PieceKind}
use Rattle.dart_tree.specs.declared.expression.PieceKind.TheVariants as p
use Rattle.dart_tree.specs.declared.parameter.Brackets.{Brackets}
use Rattle.dart_tree.specs.declared.parameter.BracketKind.{BracketKind}
use Rattle.dart_tree.specs.declared.parameter.BracketKind.TheVariants as b
use Rattle.dart_tree.specs.declared.parameter.Parentheses.{Parentheses}
use Rattle.dart_tree.specs.declared.parameter.ThisDot.{ThisDot}
use Rattle.dart_tree.specs.declared.statement.Jump.{Jump}
use Rattle.dart_tree.specs.declared.statement.Jump.TheVariants as j
use Rattle.dart_tree.specs.declared.statement.Catch.{Catch}
use Rattle.dart_tree.specs.declared.identifier.CommaName.{CommaName}
use Rattle.dart_tree.specs.Types.{TypeNode, TypeArguments, TypeList, ResultType, VariableKind}
use Rattle.dart_tree.specs.Types.{TryKind, dynamic_type, named_type, no_types, listed_types}
use Rattle.dart_tree.specs.Types.{no_more_types, type_more, void_result, typed_result, no_kind}
use Rattle.dart_tree.specs.Types.{var_kind, final_kind, const_kind, typed_kind, on_part, catch_part}
use Rattle.dart_tree.specs.Types.{finally_part}

-- a sign, and a word
abbrev pub sign_at : Place → Sign → Token
sign_at place sign = record { kind = tk.Sign sign; place = place; lexeme = sign_text sign }

abbrev pub word_at : Place → Word → Token
word_at place which = record { kind = tk.Word which; place = place; lexeme = word_text which }

abbrev pub maybe_sign : Option Place → Sign → List Token
maybe_sign None sign = []
maybe_sign (Some place) sign = sign_at place sign ∷ []

abbrev pub maybe_word : Option Place → Word → List Token
maybe_word None which = []
maybe_word (Some place) which = word_at place which ∷ []

abbrev pub identifier_tokens : Identifier → List Token
identifier_tokens (i.Name place text) =
    record { kind = tk.Identifier; place = place; lexeme = text } ∷ []
identifier_tokens (i.Get place) = word_at place w.Get ∷ []
identifier_tokens (i.Set place) = word_at place w.Set ∷ []

abbrev pub maybe_identifier : Option Identifier → List Token
maybe_identifier None = []
maybe_identifier (Some name) = identifier_tokens name

abbrev pub dot_name_tokens : DotName → List Token
dot_name_tokens d = sign_at d.dot s.Dot ∷ identifier_tokens d.name

abbrev pub maybe_dot_name : Option DotName → List Token
maybe_dot_name None = []
maybe_dot_name (Some d) = dot_name_tokens d

abbrev pub dot_names_tokens : List DotName → List Token
dot_names_tokens ds = flat_map dot_name_tokens ds

abbrev pub label_tokens : Label → List Token
label_tokens l = identifier_tokens l.name ++ sign_at l.colon s.Colon ∷ []

abbrev pub maybe_label : Option Label → List Token
maybe_label None = []
maybe_label (Some l) = label_tokens l

abbrev pub labels_tokens : List Label → List Token
labels_tokens ls = flat_map label_tokens ls

abbrev pub operator_tokens : Operator → List Token
operator_tokens (o.Sign place sign) = sign_at place sign ∷ []
operator_tokens (o.ShiftRight first second) =
    sign_at first s.Greater ∷ sign_at second s.Greater ∷ []
operator_tokens (o.ShiftRightAssign first second) =
    sign_at first s.Greater ∷ sign_at second s.GreaterEqual ∷ []

abbrev pub maybe_operator : Option Operator → List Token
maybe_operator None = []
maybe_operator (Some x) = operator_tokens x

abbrev pub atom_tokens : Atom → List Token
atom_tokens (a.This place) = word_at place w.This ∷ []
atom_tokens (a.Null place) = word_at place w.Null ∷ []
atom_tokens (a.True place) = word_at place w.True ∷ []
atom_tokens (a.False place) = word_at place w.False ∷ []
atom_tokens (a.Integer place digits) =
    record { kind = tk.Integer; place = place; lexeme = digits } ∷ []
atom_tokens (a.Name name) = identifier_tokens name

abbrev pub creation_token : Creation → Token
creation_token (c.New place) = word_at place w.New
creation_token (c.Const place) = word_at place w.Const

abbrev pub piece_kind : PieceKind → TokenKind
piece_kind p.Whole = tk.Whole
piece_kind (p.Head quote) = tk.Head quote
piece_kind p.Middle = tk.Middle
piece_kind p.Tail = tk.Tail

abbrev pub piece_token : PieceKind → Place → List ℕ → Token
piece_token kind place text = record { kind = piece_kind kind; place = place; lexeme = text }

abbrev pub maybe_this : Option ThisDot → List Token
maybe_this None = []
maybe_this (Some x) = word_at x.this w.This ∷ sign_at x.dot s.Dot ∷ []

abbrev pub left_of : BracketKind → Sign
left_of b.Square = s.LeftBracket
left_of b.Curly = s.LeftBrace

abbrev pub right_of : BracketKind → Sign
right_of b.Square = s.RightBracket
right_of b.Curly = s.RightBrace

abbrev pub opening_bracket : Option Brackets → List Token
opening_bracket None = []
opening_bracket (Some x) = maybe_sign x.comma s.Comma ++ sign_at x.opening (left_of x.kind) ∷ []

abbrev pub closing_bracket : Option Brackets → List Token
closing_bracket None = []
closing_bracket (Some x) = sign_at x.closing (right_of x.kind) ∷ []

abbrev pub opening_parenthesis : Option Parentheses → List Token
opening_parenthesis None = []
opening_parenthesis (Some x) = sign_at x.opening s.LeftParenthesis ∷ []

abbrev pub closing_parenthesis : Option Parentheses → List Token
closing_parenthesis None = []
closing_parenthesis (Some x) = sign_at x.closing s.RightParenthesis ∷ []

abbrev pub jump_tokens : Jump → List Token
jump_tokens (j.Break place label semicolon) =
    word_at place w.Break ∷ (maybe_identifier label ++ sign_at semicolon s.Semicolon ∷ [])
jump_tokens (j.Continue place label semicolon) =
    word_at place w.Continue ∷ (maybe_identifier label ++ sign_at semicolon s.Semicolon ∷ [])
jump_tokens (j.Rethrow place semicolon) =
    word_at place w.Rethrow ∷ sign_at semicolon s.Semicolon ∷ []

abbrev pub trace_tokens : Option CommaName → List Token
trace_tokens None = []
trace_tokens (Some x) = sign_at x.comma s.Comma ∷ identifier_tokens x.name

abbrev pub catch_tokens : Catch → List Token
catch_tokens c =
    word_at c.word w.Catch ∷ sign_at c.opening s.LeftParenthesis ∷
    (identifier_tokens c.exception ++ (trace_tokens c.trace ++
    sign_at c.closing s.RightParenthesis ∷ []))

abbrev pub maybe_catch : Option Catch → List Token
maybe_catch None = []
maybe_catch (Some c) = catch_tokens c

-- `on` is no word
abbrev pub on_text : List ℕ
on_text = codes "on"

-- types
abbrev mutual
  pub type_tokens : TypeNode → List Token
  type_tokens (dynamic_type place) = word_at place w.Dynamic ∷ []
  type_tokens (named_type name member arguments) =
      identifier_tokens name ++ (maybe_dot_name member ++ type_arguments_tokens arguments)

  pub type_arguments_tokens : TypeArguments → List Token
  type_arguments_tokens no_types = []
  type_arguments_tokens (listed_types opening listed closing) =
      sign_at opening s.Less ∷ (type_list_tokens listed ++ sign_at closing s.Greater ∷ [])

  pub type_list_tokens : TypeList → List Token
  type_list_tokens no_more_types = []
  type_list_tokens (type_more comma argument rest) =
      maybe_sign comma s.Comma ++ (type_tokens argument ++ type_list_tokens rest)

abbrev pub maybe_type : Option TypeNode → List Token
maybe_type None = []
maybe_type (Some x) = type_tokens x

abbrev pub result_tokens : ResultType → List Token
result_tokens (void_result place) = word_at place w.Void ∷ []
result_tokens (typed_result x) = type_tokens x

abbrev pub maybe_result : Option ResultType → List Token
maybe_result None = []
maybe_result (Some x) = result_tokens x

abbrev pub kind_tokens : VariableKind → List Token
kind_tokens no_kind = []
kind_tokens (var_kind place) = word_at place w.Var ∷ []
kind_tokens (final_kind place x) = word_at place w.Final ∷ maybe_type x
kind_tokens (const_kind place x) = word_at place w.Const ∷ maybe_type x
kind_tokens (typed_kind x) = type_tokens x

abbrev pub try_kind_tokens : TryKind → List Token
try_kind_tokens (on_part place x c) =
    record { kind = tk.Identifier; place = place; lexeme = on_text } ∷
    (type_tokens x ++ maybe_catch c)
try_kind_tokens (catch_part c) = catch_tokens c
try_kind_tokens (finally_part place) = word_at place w.Finally ∷ []
