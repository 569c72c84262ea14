-- What is proved of the readers of types.
use Rattle.std.specs.Prelude.{ℕ, true, false, ◌∷◌}
use Rattle.dart_token.specs.declared.sign.Sign.TheVariants as s
use Rattle.dart_token.specs.declared.word.Word.TheVariants as w
use Rattle.dart_tree.specs.LeafTokens.{type_list_tokens}
use Rattle.dart_syntax.specs.Phrases.{Phrase, ◌~◌, made}
use Rattle.dart_syntax.specs.Leaves as p
use Rattle.dart_syntax.specs.Types as y
use Rattle.dart_syntax.specs.Types.{type_within, pair_of_types}
use Rattle.dart_tree.specs.Types.{TypeNode, TypeList}
use Rattle.token_codes.specs.Codes.{word_code, these}
use Rattle.token_codes.specs.Reads.{Reads}
use Rattle.syntax_readers.specs.Types.{type_first, types, two_types, type_arguments, type_reader, result}
use Rattle.laws_type.specs.Nexts.{after_type, after_types, after_two, after_arguments, after_result}

-- type , type, as a map's type arguments are
abbrev pub two_over : Phrase TypeNode → Phrase TypeList
two_over inner = made type_list_tokens pair_of_types (inner ~ p.sign s.Comma ~ inner)

-- types with at most n nodes above one another, and what is made of them
pub record TypesReadAt (n : ℕ) : Type 0 where
  pub type : Reads (type_reader n) (type_within n) type_first after_type false
  pub list : Reads (types (type_reader n)) (y.types (type_within n)) type_first after_types false
  pub two : Reads (two_types (type_reader n)) (two_over (type_within n)) type_first after_two false
  pub arguments : Reads (type_arguments (types (type_reader n)))
      (y.type_arguments (y.types (type_within n))) (these s.Less) after_arguments true
  pub two_arguments : Reads (type_arguments (two_types (type_reader n)))
      (y.type_arguments (two_over (type_within n))) (these s.Less) after_arguments true
  pub result : Reads (result (type_reader n)) (y.result_over (type_within n))
      (word_code w.Void ∷ type_first) after_result false

abbrev pub TypesRead : Type 0
TypesRead = (n : ℕ) → TypesReadAt n
