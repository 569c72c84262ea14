-- Readers of types, and of what stands before the name of a variable or a function (ECMA-408, 19.1
-- Static Types).
use Rattle.std.specs.Prelude.{ℕ, zero, suc, Bool, ◌||◌, List, [], ◌∷◌, ◌++◌, Option}
use Rattle.dart_token.specs.declared.token.Token.{Token}
use Rattle.dart_token.specs.declared.sign.Sign.TheVariants as s
use Rattle.dart_token.specs.declared.word.Word.TheVariants as w
use Rattle.dart_tree.specs.Types.{TypeNode, TypeArguments, TypeList, ResultType, VariableKind, dynamic_type, named_type, void_result, typed_result, var_kind, final_kind, const_kind, typed_kind}
use Rattle.grammar_laws.specs.Readers.{Reader, nothing, mapped, starts, starts_two, option, separated, by_first}
use Rattle.dart_syntax.specs.Types.{type_list, pair_of_types, in_angles}
use Rattle.token_codes.specs.Codes.{class_of, names, sign_code, word_code, these, this_word}
use Rattle.token_codes.specs.Leaves.{sign, word, identifier, dot_name}
use Rattle.syntax_readers.specs.Combinators.{◌~◌, made₂, made₃, option_where, past_name}

-- what begins a type
abbrev pub type_first : List ℕ
type_first = word_code w.Dynamic ∷ names

-- typeList: type {, type}
unfoldable pub types : Reader Token TypeNode → Reader Token TypeList
types type = mapped type_list (separated class_of (these s.Comma) type (sign s.Comma))

-- type , type
unfoldable pub two_types : Reader Token TypeNode → Reader Token TypeList
two_types type = mapped pair_of_types (type ~ sign s.Comma ~ type)

-- [typeArguments], where typeArguments: < typeList >
unfoldable pub type_arguments : Reader Token TypeList → Reader Token TypeArguments
type_arguments inner = mapped in_angles
    (option class_of (these s.Less) (sign s.Less ~ inner ~ sign s.Greater))

-- type: dynamic | id [. id] [typeArguments]
unfoldable pub type_over : Reader Token TypeNode → Reader Token TypeNode
type_over inner = by_first class_of (this_word w.Dynamic) (mapped dynamic_type (word w.Dynamic))
    (made₃ named_type
    (identifier ~ option class_of (these s.Dot) dot_name ~ type_arguments (types inner)))

-- a type with at most so many nodes above one another
unfoldable pub type_reader : ℕ → Reader Token TypeNode
type_reader zero = nothing
type_reader (suc n) = type_over (type_reader n)

-- ---- before a name

-- an identifier with one of these behind it is a type's name
abbrev pub behind_type_name : List ℕ
behind_type_name = names ++ sign_code s.Dot ∷ sign_code s.Less ∷ word_code w.This
    ∷ word_code w.Operator ∷ []

-- a type comes, and not only the name
abbrev pub type_comes : List Token → Bool
type_comes ts =
    starts class_of (this_word w.Dynamic) ts || starts_two class_of names behind_type_name ts

-- returnType: void | type (9 Functions)
unfoldable pub result : Reader Token TypeNode → Reader Token ResultType
result type = by_first class_of (this_word w.Void) (mapped void_result (word w.Void))
    (mapped typed_result type)

abbrev pub result_comes : List Token → Bool
result_comes ts = starts class_of (this_word w.Void) ts || type_comes ts

-- [returnType] and [type] before a name
unfoldable pub result_before_name : Reader Token TypeNode → Reader Token (Option ResultType)
result_before_name type = option_where result_comes (past_name (result type))

unfoldable pub type_before_name : Reader Token TypeNode → Reader Token (Option TypeNode)
type_before_name type = option_where type_comes (past_name type)

-- finalConstVarOrType: var | final [type] | type (8 Variables)
unfoldable pub kind : Reader Token TypeNode → Reader Token VariableKind
kind type = by_first class_of (this_word w.Var) (mapped var_kind (word w.Var))
    (by_first class_of (this_word w.Final) (made₂ final_kind (word w.Final ~ type_before_name type))
    (mapped typed_kind type))

-- the same of variables that are declared, which may be constant: or const [type]
unfoldable pub variables_kind : Reader Token TypeNode → Reader Token VariableKind
variables_kind type = by_first class_of (this_word w.Const)
    (made₂ const_kind (word w.Const ~ type_before_name type)) (kind type)
