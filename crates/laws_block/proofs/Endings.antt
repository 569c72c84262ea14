-- No declaration and no expression statement is a name, or a name and a type's name: a semicolon ends it, or a bracket stands in it.
use Rattle.std.proofs.Common.{◌≡◌, ℕ, true, inl, inr, List, [], ◌∷◌, ◌++◌, refl, sym, ap, subst, ◌∙◌, append_assoc}
use Rattle.dart_base.specs.declared.place.Place.{Place}
use Rattle.dart_token.specs.declared.token.Token.{Token}
use Rattle.dart_token.specs.declared.sign.Sign.{Sign}
use Rattle.dart_token.specs.declared.sign.Sign.TheVariants as s
use Rattle.dart_token.specs.declared.word.Word.TheVariants as w
use Rattle.dart_tree.specs.LeafTokens.{sign_at, kind_tokens, identifier_tokens, maybe_word, maybe_result}
use Rattle.dart_tree.specs.Tree as t
use Rattle.dart_tree.specs.Tree.{Stmt, Variables, Function, Value}
use Rattle.dart_tree.specs.Tokens.{stmt_tokens, value_tokens, variables_tokens, more_variables_tokens, function_tokens, parameters_tokens, body_tokens}
use Rattle.grammar_laws.specs.Codes.{has, Apart}
use Rattle.grammar_laws.proofs.Codes.{apart}
use Rattle.dart_syntax.specs.Statements as p
use Rattle.dart_syntax.specs.Statements.{within}
use Rattle.dart_syntax.proofs.AgreeingTypes.{one_name}
use Rattle.token_codes.specs.Codes.{class_of, names, these}
use Rattle.token_codes.proofs.Only.{sign_has}
use Rattle.syntax_readers.specs.Types.{type_first}

-- ---- lists of one token and of two

not_empty : (v : List Token) (t : Token) (z : List Token) → v ++ t ∷ z ≡ [] → ⊥
not_empty [] t z e = absurd cc
not_empty (x ∷ v) t z e = absurd cc

last_one : (v : List Token) (t a : Token) → v ++ t ∷ [] ≡ a ∷ [] → t ≡ a
last_one [] t a e = cc
last_one (x ∷ v) t a e = let tails : v ++ t ∷ [] ≡ [] = cc in absurd (not_empty v t [] tails)

last_two : (v : List Token) (t a b : Token) → v ++ t ∷ [] ≡ a ∷ b ∷ [] → t ≡ b
last_two [] t a b e = absurd cc
last_two (x ∷ []) t a b e = cc
last_two (x ∷ y ∷ v) t a b e = let tails : v ++ t ∷ [] ≡ [] = cc in absurd (not_empty v t [] tails)

inner_one : (v : List Token) (t u : Token) (z : List Token) (a : Token) → v ++ t ∷ u ∷ z ≡ a ∷ [] → ⊥
inner_one [] t u z a e = absurd cc
inner_one (x ∷ v) t u z a e = let tails : v ++ t ∷ u ∷ z ≡ [] = cc in not_empty v t (u ∷ z) tails

inner_two : (v : List Token) (t u : Token) (z : List Token) (a b : Token) → v ++ t ∷ u ∷ z ≡ a ∷ b ∷ [] → u ≡ b
inner_two [] t u z a b e = cc
inner_two (x ∷ []) t u z a b e = absurd cc
inner_two (x ∷ y ∷ v) t u z a b e = let tails : v ++ t ∷ u ∷ z ≡ [] = cc in absurd (not_empty v t (u ∷ z) tails)

no_sign : (which : Sign) (place : Place) (codes : List ℕ) (a : Token) → Apart codes (these which) → sign_at place which ≡ a → has codes (class_of a) ≡ true → ⊥
no_sign which place codes a off e on = off.never_both (class_of a) on (subst (λ (t : Token). has (these which) (class_of t) ≡ true) e (sign_has which place))

-- ---- what ends in a semicolon

abbrev Ended : List Token → Type 0
Ended ts = (v : List Token) × (semicolon : Place) × (ts ≡ v ++ sign_at semicolon s.Semicolon ∷ [])

ended_one : (ts : List Token) (a : Token) → Ended ts → ts ≡ a ∷ [] → has names (class_of a) ≡ true → ⊥
ended_one ts a (v, semicolon, e) is on = no_sign s.Semicolon semicolon names a (apart refl) (last_one v (sign_at semicolon s.Semicolon) a (sym e ∙ is)) on

ended_two : (ts : List Token) (a b : Token) → Ended ts → ts ≡ a ∷ b ∷ [] → has type_first (class_of b) ≡ true → ⊥
ended_two ts a b (v, semicolon, e) is on = no_sign s.Semicolon semicolon type_first b (apart refl) (last_two v (sign_at semicolon s.Semicolon) a b (sym e ∙ is)) on

variables_ended : (x : Variables) → Ended (variables_tokens x)
unfolding variables_tokens
variables_ended (t.the_variables kind name value more semicolon) = (kind_tokens kind ++ (identifier_tokens name ++ (value_tokens value ++ more_variables_tokens more)), semicolon, simp append_assoc)

-- ---- what has a bracket behind a name

abbrev Called : List Token → Type 0
Called ts = (v : List Token) × (name : Token) × (opening : Place) × (z : List Token) × (ts ≡ v ++ name ∷ sign_at opening s.LeftParenthesis ∷ z)

called_one : (ts : List Token) (a : Token) → Called ts → ts ≡ a ∷ [] → ⊥
called_one ts a (v, name, opening, z, e) is = inner_one v name (sign_at opening s.LeftParenthesis) z a (sym e ∙ is)

called_two : (ts : List Token) (a b : Token) → Called ts → ts ≡ a ∷ b ∷ [] → has type_first (class_of b) ≡ true → ⊥
called_two ts a b (v, name, opening, z, e) is on = no_sign s.LeftParenthesis opening type_first b (apart refl) (inner_two v name (sign_at opening s.LeftParenthesis) z a b (sym e ∙ is)) on

parameters_open : (x : t.Parameters) → (opening : Place) × (z : List Token) × (parameters_tokens x ≡ sign_at opening s.LeftParenthesis ∷ z)
unfolding parameters_tokens
parameters_open (t.the_parameters opening required brackets optional closing) = (opening, _, refl)

function_called : (x : Function) → Called (function_tokens x)
unfolding function_tokens
function_called (t.the_function external result name given body) =
    let one = one_name name in
    let open_at = parameters_open given in (
      maybe_word external w.External ++ maybe_result result,
      one.0,
      open_at.0,
      open_at.1 ++ body_tokens body,
      ap (λ (m : List Token). maybe_word external w.External ++ (maybe_result result ++ (m ++ (parameters_tokens given ++ body_tokens body)))) one.1
          ∙ ap (λ (m : List Token). maybe_word external w.External ++ (maybe_result result ++ (one.0 ∷ (m ++ body_tokens body)))) open_at.2
          ∙ sym (append_assoc (maybe_word external w.External) (maybe_result result) (one.0 ∷ sign_at open_at.0 s.LeftParenthesis ∷ (open_at.1 ++ body_tokens body))),
    )

-- ---- statements

pub declared_one : (n : ℕ) (x : Stmt) (a : Token) → (p.declaration_of (within n).nodes).Fits x → stmt_tokens x ≡ a ∷ [] → has names (class_of a) ≡ true → ⊥
unfolding stmt_tokens
declared_one n x a (inl (y, fits, e)) is on = ended_one (variables_tokens y) a (variables_ended y) (ap stmt_tokens e ∙ is) on
declared_one n x a (inr (y, fits, e)) is on = called_one (function_tokens y) a (function_called y) (ap stmt_tokens e ∙ is)

pub declared_two : (n : ℕ) (x : Stmt) (a b : Token) → (p.declaration_of (within n).nodes).Fits x → stmt_tokens x ≡ a ∷ b ∷ [] → has type_first (class_of b) ≡ true → ⊥
unfolding stmt_tokens
declared_two n x a b (inl (y, fits, e)) is on = ended_two (variables_tokens y) a b (variables_ended y) (ap stmt_tokens e ∙ is) on
declared_two n x a b (inr (y, fits, e)) is on = called_two (function_tokens y) a b (function_called y) (ap stmt_tokens e ∙ is) on

expression_ended : (n : ℕ) (x : Stmt) → (p.expression_of (within n).nodes).Fits x → Ended (stmt_tokens x)
unfolding stmt_tokens
expression_ended n x ((y, fits, e), free) = subst (λ (z : Stmt). Ended (stmt_tokens z)) e (value_tokens y.0, y.1, refl)

pub expression_one : (n : ℕ) (x : Stmt) (a : Token) → (p.expression_of (within n).nodes).Fits x → stmt_tokens x ≡ a ∷ [] → has names (class_of a) ≡ true → ⊥
expression_one n x a fits is on = ended_one (stmt_tokens x) a (expression_ended n x fits) is on

pub expression_two : (n : ℕ) (x : Stmt) (a b : Token) → (p.expression_of (within n).nodes).Fits x → stmt_tokens x ≡ a ∷ b ∷ [] → has type_first (class_of b) ≡ true → ⊥
expression_two n x a b fits is on = ended_two (stmt_tokens x) a b (expression_ended n x fits) is on
