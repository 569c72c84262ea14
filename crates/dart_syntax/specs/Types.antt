-- Types, and what stands before the name of a variable or a function.
use Rattle.std.specs.Prelude.{ℕ, zero, suc, Bool, true, false, List, [], ◌∷◌, Option, None, Some}
use Rattle.dart_base.specs.declared.place.Place.{Place}
use Rattle.dart_token.specs.declared.sign.Sign.TheVariants as s
use Rattle.dart_token.specs.declared.word.Word.TheVariants as w
use Rattle.dart_tree.specs.declared.identifier.Identifier.TheVariants as i
use Rattle.dart_tree.specs.LeafTokens.{type_tokens, type_arguments_tokens, type_list_tokens, result_tokens, kind_tokens}
use Rattle.dart_tree.specs.Types.{TypeNode, TypeArguments, TypeList, ResultType, VariableKind, dynamic_type, named_type, no_types, listed_types, no_more_types, type_more, void_result, typed_result, no_kind, var_kind, final_kind, const_kind, typed_kind}
use Rattle.dart_syntax.specs.Phrases.{Phrase, ◌~◌, ◌<|>◌, opt, made, made₂, made₃, no_room, exactly}
use Rattle.dart_syntax.specs.Leaves.{sign, word, identifier, dot_name, commas}

-- ---- the lists of the trees

abbrev pub more_types : List (Place × TypeNode) → TypeList
more_types [] = no_more_types
more_types ((comma, x) ∷ more) = type_more (Some comma) x (more_types more)

abbrev pub type_list : TypeNode × List (Place × TypeNode) → TypeList
type_list (first, more) = type_more None first (more_types more)

abbrev pub pair_of_types : TypeNode × (Place × TypeNode) → TypeList
pair_of_types (first, (comma, second)) =
    type_more None first (type_more (Some comma) second no_more_types)

abbrev pub in_angles : Option (Place × (TypeList × Place)) → TypeArguments
in_angles None = no_types
in_angles (Some (opening, (types, closing))) = listed_types opening types closing

-- ---- productions, over the types that stand inside (19.1 Static Types)

-- typeList: type {, type}
abbrev pub types : Phrase TypeNode → Phrase TypeList
types inner = made type_list_tokens type_list (commas inner)

-- [typeArguments], where typeArguments: < typeList >
abbrev pub type_arguments : Phrase TypeList → Phrase TypeArguments
type_arguments inner = made type_arguments_tokens in_angles
    (opt (sign s.Less ~ inner ~ sign s.Greater))

-- type: dynamic | id [. id] [typeArguments]
abbrev pub type_over : Phrase TypeNode → Phrase TypeNode
type_over inner = made type_tokens dynamic_type (word w.Dynamic)
    <|> made₃ type_tokens named_type (identifier ~ opt dot_name ~ type_arguments (types inner))

-- a type with at most so many nodes above one another
unfoldable pub type_within : ℕ → Phrase TypeNode
type_within zero = no_room type_tokens
type_within (suc n) = type_over (type_within n)

-- returnType: void | type (9 Functions)
abbrev pub result_over : Phrase TypeNode → Phrase ResultType
result_over inner =
    made result_tokens void_result (word w.Void) <|> made result_tokens typed_result inner

-- finalConstVarOrType without `const`, as parameters and the variable of a for-in have it
abbrev pub kind_over : Phrase TypeNode → Phrase VariableKind
kind_over inner = made kind_tokens var_kind (word w.Var)
    <|> made₂ kind_tokens final_kind (word w.Final ~ opt inner)
    <|> made kind_tokens typed_kind inner

-- finalConstVarOrType: var | final [type] | const [type] | type (8 Variables)
abbrev pub variables_kind_over : Phrase TypeNode → Phrase VariableKind
variables_kind_over inner = kind_over inner
    <|> made₂ kind_tokens const_kind (word w.Const ~ opt inner)

-- nothing
abbrev pub without_kind : Phrase VariableKind
without_kind = exactly kind_tokens no_kind

-- ---- `get` and `set` before an identifier are the words of accessors

abbrev pub is_no_accessor : TypeNode → Bool
is_no_accessor (named_type (i.Get place) None no_types) = false
is_no_accessor (named_type (i.Set place) None no_types) = false
is_no_accessor x = true

-- an identifier may follow
abbrev pub kind_leaves_name : VariableKind → Bool
kind_leaves_name (typed_kind x) = is_no_accessor x
kind_leaves_name x = true

abbrev pub result_leaves_name : Option ResultType → Bool
result_leaves_name (Some (typed_result x)) = is_no_accessor x
result_leaves_name x = true
