-- What may go on behind a type, by its tree.
use Rattle.std.specs.Prelude.{ℕ, List, [], ◌∷◌, None, Some}
use Rattle.dart_token.specs.declared.sign.Sign.TheVariants as s
use Rattle.dart_tree.specs.Types.{TypeNode, TypeArguments, TypeList, ResultType, dynamic_type, named_type, no_types, listed_types, void_result, typed_result}
use Rattle.token_codes.specs.Codes.{sign_code, these}

abbrev pub after_arguments : TypeArguments → List ℕ
after_arguments no_types = these s.Less
after_arguments (listed_types opening listed closing) = []

-- `<` behind a name, and `.` behind a name alone
abbrev pub after_type : TypeNode → List ℕ
after_type (dynamic_type place) = []
after_type (named_type name None no_types) = sign_code s.Less ∷ sign_code s.Dot ∷ []
after_type (named_type name (Some member) no_types) = these s.Less
after_type (named_type name member (listed_types opening listed closing)) = []

abbrev pub after_result : ResultType → List ℕ
after_result (void_result place) = []
after_result (typed_result x) = after_type x

-- behind a list of types, whatever its last is
abbrev pub after_types : TypeList → List ℕ
after_types x = sign_code s.Comma ∷ sign_code s.Less ∷ sign_code s.Dot ∷ []

-- behind two types
abbrev pub after_two : TypeList → List ℕ
after_two x = sign_code s.Less ∷ sign_code s.Dot ∷ []
