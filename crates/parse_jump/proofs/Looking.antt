-- What the next tokens tell of statements.
use Rattle.std.proofs.Common.{◌≡◌, ℕ, ◌+◌, ◌≤◌, Bool, true, false, not, ◌&&◌, ◌||◌, List, [], ◌∷◌, ◌++◌, drop, length, refl, ap, ◌∙◌, arith}
use Rattle.dart_token.specs.declared.token.Token.{Token}
use Rattle.dart_token.specs.declared.sign.Sign.TheVariants as s
use Rattle.grammar_laws.specs.Codes.{has}
use Rattle.grammar_laws.specs.Readers.{starts, starts_two}
use Rattle.token_codes.specs.Codes.{class_of, names, these}
use Rattle.syntax_readers.specs.Combinators.{behind_brackets}
use Rattle.syntax_readers.specs.Primaries.{expr_first, body_comes}
use Rattle.syntax_readers.specs.Statements.{compound_first, jump_first, stmt_first, declaration_first, part_first, label_comes, part_comes, calls}
use Rattle.parse_jump.specs.Views.{case_first}
use Rattle.parse_parameter.specs.Views.{declaring_first}
use Rattle.parse_type.proofs.Looking.{starts_either}

pub declaration_first_is : (ts : List Token) → starts class_of declaration_first ts ≡ (starts class_of declaring_first ts || starts class_of names ts)
declaration_first_is ts = starts_either declaring_first names ts

pub part_first_is : (ts : List Token) → starts class_of part_first ts ≡ (starts class_of case_first ts || starts class_of names ts)
part_first_is ts = starts_either case_first names ts

abbrev from_semicolon : List ℕ
from_semicolon = these s.Semicolon ++ expr_first

abbrev from_declaring : List ℕ
from_declaring = declaring_first ++ from_semicolon

abbrev from_jump : List ℕ
from_jump = jump_first ++ from_declaring

pub stmt_first_is : (ts : List Token) → starts class_of stmt_first ts
    ≡ (starts class_of compound_first ts || (starts class_of jump_first ts || (starts class_of declaring_first ts || (starts class_of (these s.Semicolon) ts || starts class_of expr_first ts))))
stmt_first_is ts =
    starts_either compound_first from_jump ts
    ∙ ap (λ (b : Bool). starts class_of compound_first ts || b) (starts_either jump_first from_declaring ts
    ∙ ap (λ (b : Bool). starts class_of jump_first ts || b) (starts_either declaring_first from_semicolon ts
    ∙ ap (λ (b : Bool). starts class_of declaring_first ts || b) (starts_either (these s.Semicolon) expr_first ts)))

-- ---- behind labels

dead : (a b p : Bool) → (a && b) ≡ false → (a && b && p) ≡ false
dead true true p h = absurd cc
dead true false p h = refl
dead false b p h = refl

live : (a b p : Bool) → (a && b) ≡ true → (a && b && p) ≡ p
live true true p h = refl
live true false p h = absurd cc
live false b p h = absurd cc

pub case_now : (ts : List Token) → starts class_of case_first ts ≡ true → part_comes ts ≡ true
case_now [] h = absurd cc
case_now (t ∷ []) h = h
case_now (t ∷ u ∷ ts) h = ap (λ (b : Bool). b || (has names (class_of t) && has (these s.Colon) (class_of u) && part_comes ts)) h

pub none_now : (ts : List Token) → starts class_of case_first ts ≡ false → label_comes ts ≡ false → part_comes ts ≡ false
none_now [] h n = refl
none_now (t ∷ []) h n = h
none_now (t ∷ u ∷ ts) h n =
    ap (λ (b : Bool). b || (has names (class_of t) && has (these s.Colon) (class_of u) && part_comes ts)) h
    ∙ dead (has names (class_of t)) (has (these s.Colon) (class_of u)) (part_comes ts) n

pub label_now : (ts : List Token) → starts class_of case_first ts ≡ false → label_comes ts ≡ true → part_comes ts ≡ part_comes (drop 1 (drop 1 ts))
label_now [] h n = absurd cc
label_now (t ∷ []) h n = absurd cc
label_now (t ∷ u ∷ ts) h n =
    ap (λ (b : Bool). b || (has names (class_of t) && has (these s.Colon) (class_of u) && part_comes ts)) h
    ∙ live (has names (class_of t)) (has (these s.Colon) (class_of u)) (part_comes ts) n

pub label_shortens : (ts : List Token) → label_comes ts ≡ true → length (drop 1 (drop 1 ts)) + 2 ≡ length ts
label_shortens [] n = absurd cc
label_shortens (t ∷ []) n = absurd cc
label_shortens (t ∷ u ∷ ts) n = omega arith

pub none_left : (ts : List Token) → length ts ≤ 0 → part_comes ts ≡ false
none_left [] n = refl
none_left (t ∷ ts) n = absurd (omega arith)

-- ---- calls

pub calls_not : (ts : List Token) → starts_two class_of names (these s.LeftParenthesis) ts ≡ false → calls ts ≡ false
calls_not [] h = refl
calls_not (t ∷ ts) h = ap (λ (b : Bool). b && not (body_comes (behind_brackets ts))) h

pub calls_if : (ts : List Token) → starts_two class_of names (these s.LeftParenthesis) ts ≡ true → calls ts ≡ not (body_comes (behind_brackets (drop 1 ts)))
calls_if [] h = absurd cc
calls_if (t ∷ ts) h = ap (λ (b : Bool). b && not (body_comes (behind_brackets ts))) h
