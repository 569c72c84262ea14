-- What the next token tells of members.
use Rattle.std.proofs.Common.{◌≡◌, ℕ, Bool, ◌||◌, List, ◌++◌, ap, ◌∙◌}
use Rattle.dart_token.specs.declared.token.Token.{Token}
use Rattle.grammar_laws.specs.Readers.{starts}
use Rattle.token_codes.specs.Codes.{class_of, names}
use Rattle.syntax_readers.specs.Declarations.{member_first}
use Rattle.parse_class.specs.Views.{modifier_first}
use Rattle.parse_parameter.specs.Views.{declaring_first}
use Rattle.parse_type.proofs.Looking.{starts_either}

abbrev from_declaring : List ℕ
from_declaring = declaring_first ++ names

pub member_first_is : (ts : List Token) → starts class_of member_first ts
    ≡ (starts class_of modifier_first ts || (starts class_of declaring_first ts || starts class_of names ts))
member_first_is ts =
    starts_either modifier_first from_declaring ts
    ∙ ap (λ (b : Bool). starts class_of modifier_first ts || b) (starts_either declaring_first names ts)
