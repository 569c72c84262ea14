-- What the next token tells of parameters.
use Rattle.std.proofs.Common.{◌≡◌, Bool, true, false, ◌||◌, List, ◌∷◌, refl, ap, ◌∙◌}
use Rattle.dart_token.specs.declared.token.Token.{Token}
use Rattle.dart_token.specs.declared.sign.Sign.TheVariants as s
use Rattle.dart_token.specs.declared.word.Word.TheVariants as w
use Rattle.grammar_laws.specs.Readers.{starts}
use Rattle.token_codes.specs.Codes.{class_of, names, word_code, these, this_word}
use Rattle.syntax_readers.specs.Parameters.{parameter_first, kind_comes}
use Rattle.syntax_readers.specs.Types.{type_first, type_comes}
use Rattle.parse_type.proofs.Looking.{starts_either}

or_assoc : (a b c : Bool) → ((a || b) || c) ≡ (a || (b || c))
or_assoc true b c = refl
or_assoc false b c = refl

pub starts_parameter : (ts : List Token) → starts class_of parameter_first ts ≡ (starts class_of (these s.AtSign) ts || (starts class_of (this_word w.Var) ts || (starts class_of (this_word w.Final) ts || (starts class_of (this_word w.Void) ts || (starts class_of (this_word w.This) ts || (starts class_of (this_word w.Dynamic) ts || starts class_of names ts))))))
starts_parameter ts =
    starts_either (these s.AtSign) (word_code w.Var ∷ word_code w.Final ∷ word_code w.Void ∷ word_code w.This ∷ type_first) ts
    ∙ ap (λ (b : Bool). starts class_of (these s.AtSign) ts || b) (starts_either (this_word w.Var) (word_code w.Final ∷ word_code w.Void ∷ word_code w.This ∷ type_first) ts
    ∙ ap (λ (b : Bool). starts class_of (this_word w.Var) ts || b) (starts_either (this_word w.Final) (word_code w.Void ∷ word_code w.This ∷ type_first) ts
    ∙ ap (λ (b : Bool). starts class_of (this_word w.Final) ts || b) (starts_either (this_word w.Void) (word_code w.This ∷ type_first) ts
    ∙ ap (λ (b : Bool). starts class_of (this_word w.Void) ts || b) (starts_either (this_word w.This) type_first ts
    ∙ ap (λ (b : Bool). starts class_of (this_word w.This) ts || b) (starts_either (this_word w.Dynamic) names ts)))))

pub kind_starts : (ts : List Token) → kind_comes ts ≡ (starts class_of (this_word w.Var) ts || (starts class_of (this_word w.Final) ts || type_comes ts))
kind_starts ts =
    ap (λ (b : Bool). b || type_comes ts) (starts_either (this_word w.Var) (this_word w.Final) ts)
    ∙ or_assoc (starts class_of (this_word w.Var) ts) (starts class_of (this_word w.Final) ts) (type_comes ts)
