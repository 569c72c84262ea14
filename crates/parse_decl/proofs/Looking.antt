-- What the next token tells of the items of a unit.
use Rattle.std.proofs.Common.{◌≡◌, ℕ, Bool, ◌||◌, List, ◌∷◌, ◌++◌, ap, ◌∙◌}
use Rattle.dart_token.specs.declared.sign.Sign.TheVariants as s
use Rattle.dart_token.specs.declared.token.Token.{Token}
use Rattle.dart_token.specs.declared.word.Word.TheVariants as w
use Rattle.grammar_laws.specs.Readers.{starts}
use Rattle.parse_decl.specs.Views.{declaring_first, directive_first}
use Rattle.parse_parameter.specs.Views.{variables_first}
use Rattle.parse_type.proofs.Looking.{starts_either}
use Rattle.syntax_readers.specs.Types.{type_first}
use Rattle.syntax_readers.specs.Units.{item_first}
use Rattle.token_codes.specs.Codes.{class_of, names, these, this_word, word_code}

pub type_first_is : (ts : List Token) → starts class_of type_first ts ≡ (starts class_of (this_word w.Dynamic) ts || starts class_of names ts)
type_first_is ts = starts_either (this_word w.Dynamic) names ts

abbrev from_void : List ℕ
from_void = word_code w.Void ∷ type_first

abbrev from_variables : List ℕ
from_variables = variables_first ++ from_void

abbrev from_declaring : List ℕ
from_declaring = declaring_first ++ from_variables

abbrev from_directive : List ℕ
from_directive = directive_first ++ from_declaring

pub item_first_is : (ts : List Token) → starts class_of item_first ts
    ≡ (starts class_of (these s.AtSign) ts || (starts class_of directive_first ts || (starts class_of declaring_first ts || (starts class_of variables_first ts || (starts class_of (this_word w.Void) ts || starts class_of type_first ts)))))
item_first_is ts =
    starts_either (these s.AtSign) from_directive ts
    ∙ ap (λ (b : Bool). starts class_of (these s.AtSign) ts || b) (starts_either directive_first from_declaring ts
    ∙ ap (λ (b : Bool). starts class_of directive_first ts || b) (starts_either declaring_first from_variables ts
    ∙ ap (λ (b : Bool). starts class_of declaring_first ts || b) (starts_either variables_first from_void ts
    ∙ ap (λ (b : Bool). starts class_of variables_first ts || b) (starts_either (this_word w.Void) type_first ts))))
