-- What the next tokens tell of where a constructor's own body begins.
use Rattle.std.proofs.Common.{◌≡◌, ℕ, suc, ◌+◌, ◌-◌, ◌≤◌, ◌<◌, Bool, true, false, ◌||◌, if◌then◌else◌, List, [], ◌∷◌, ◌++◌, drop, length, refl, ap, ◌∙◌, arith}
use Rattle.dart_token.specs.declared.token.Token.{Token}
use Rattle.grammar_laws.specs.Readers.{starts}
use Rattle.token_codes.specs.Codes.{class_of}
use Rattle.syntax_readers.specs.Combinators.{opening, closing}
use Rattle.syntax_readers.specs.Declarations.{behind_init, is_body, before_body}
use Rattle.parse_type.proofs.Looking.{starts_either}
use Rattle.parse_constructor.specs.Views.{open_after, selecting_first, arithmetic_first, relational_first, testing_first, enclosing_first}

abbrev from_testing : List ℕ
from_testing = testing_first ++ enclosing_first

abbrev from_relational : List ℕ
from_relational = relational_first ++ from_testing

abbrev from_arithmetic : List ℕ
from_arithmetic = arithmetic_first ++ from_relational

pub behind_init_is : (ts : List Token) → starts class_of behind_init ts
    ≡ (starts class_of selecting_first ts || (starts class_of arithmetic_first ts ||
    (starts class_of relational_first ts || (starts class_of testing_first ts || starts class_of enclosing_first ts))))
behind_init_is ts =
    starts_either selecting_first from_arithmetic ts
    ∙ ap (λ (b : Bool). starts class_of selecting_first ts || b) (starts_either arithmetic_first from_relational ts
    ∙ ap (λ (b : Bool). starts class_of arithmetic_first ts || b) (starts_either relational_first from_testing ts
    ∙ ap (λ (b : Bool). starts class_of relational_first ts || b) (starts_either testing_first enclosing_first ts)))

-- ---- at a token

pub here : (n : ℕ) (ts : List Token) → is_body n ts ≡ true → before_body n ts ≡ 0
here n [] on = refl
here n (t ∷ ts) on = ap (λ (b : Bool). if b then 0 else suc (before_body (open_after n (t ∷ ts)) ts)) on

pub further : (n : ℕ) (ts : List Token) → is_body n ts ≡ false → 0 < length ts → before_body n ts ≡ suc (before_body (open_after n ts) (drop 1 ts))
further n [] off some = absurd (omega (arith, some))
further n (t ∷ ts) off some = ap (λ (b : Bool). if b then 0 else suc (before_body (open_after n (t ∷ ts)) ts)) off

pub none_left : (n : ℕ) (ts : List Token) → length ts ≤ 0 → before_body n ts ≡ 0
none_left n [] none = refl
none_left n (t ∷ ts) none = absurd (omega (arith, none))

bound_by : (a b : Bool) (n : ℕ) → (if a then n + 1 else if b then n - 1 else n) ≤ n + 1
bound_by true b n = omega arith
bound_by false true n = omega arith
bound_by false false n = omega arith

pub one_more_open : (n : ℕ) (ts : List Token) → open_after n ts ≤ n + 1
one_more_open n ts = bound_by (starts class_of opening ts) (starts class_of closing ts) n

pub shorter : (ts : List Token) → 0 < length ts → length (drop 1 ts) + 1 ≡ length ts
shorter [] some = absurd (omega (arith, some))
shorter (t ∷ ts) some = omega arith
