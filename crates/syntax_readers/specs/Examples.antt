-- Lists of tokens that show where a body behind `=>` ends.
use Rattle.std.specs.Prelude.{◌≡◌, ℕ, List, [], ◌∷◌, codes, Some, None, Result, Ok, Err}
use Rattle.dart_base.specs.declared.place.Place.{Place}
use Rattle.dart_token.specs.declared.token.Token.{Token}
use Rattle.dart_token.specs.declared.token.TokenKind.TheVariants as tk
use Rattle.dart_token.specs.declared.sign.Sign.{Sign}
use Rattle.dart_token.specs.declared.sign.Sign.TheVariants as s
use Rattle.dart_token.specs.declared.word.Word.TheVariants as w
use Rattle.dart_tree.specs.declared.expression.Atom.TheVariants as a
use Rattle.dart_tree.specs.declared.identifier.Identifier.{Identifier}
use Rattle.dart_tree.specs.declared.identifier.Identifier.TheVariants as i
use Rattle.dart_tree.specs.declared.operator.Operator.TheVariants as o
use Rattle.dart_tree.specs.LeafTokens.{sign_at, word_at}
use Rattle.dart_tree.specs.Types as y
use Rattle.dart_tree.specs.Tree as t
use Rattle.dart_tree.specs.Unit as u
use Rattle.dart_tree.specs.Unit.{UnitTree}
use Rattle.dart_syntax.specs.Syntax.{SyntaxReason, syntax_at}
use Rattle.syntax_readers.specs.Units.{found_within}

-- the n-th token of a list stands in the n-th column of the first line
abbrev pub at : ℕ → Place
at n = record { unit = 0; line = 1; column = n }

abbrev pub name_token : ℕ → List ℕ → Token
name_token n text = record { kind = tk.Identifier; place = at n; lexeme = text }

-- var x = ( parameter ) =>
abbrev pub var_x : List ℕ → List Token → List Token
var_x parameter body =
    word_at (at 1) w.Var ∷ name_token 2 (codes "x") ∷ sign_at (at 3) s.Assign
    ∷ sign_at (at 4) s.LeftParenthesis ∷ name_token 5 parameter
    ∷ sign_at (at 6) s.RightParenthesis ∷ sign_at (at 7) s.Arrow ∷ body

-- var x = (q) => x is a < b;
abbrev pub tested_body : List Token
tested_body = var_x (codes "q")
    (name_token 8 (codes "x") ∷ word_at (at 9) w.Is ∷ name_token 10 (codes "a")
    ∷ sign_at (at 11) s.Less ∷ name_token 12 (codes "b") ∷ sign_at (at 13) s.Semicolon ∷ [])

-- var x = (q) => ++f();
abbrev pub stepped_call : List Token
stepped_call = var_x (codes "q")
    (sign_at (at 8) s.PlusPlus ∷ name_token 9 (codes "f") ∷ sign_at (at 10) s.LeftParenthesis
    ∷ sign_at (at 11) s.RightParenthesis ∷ sign_at (at 12) s.Semicolon ∷ [])

-- var x = (a) => b == c == d;
abbrev pub compared_body : List Token
compared_body = var_x (codes "a")
    (name_token 8 (codes "b") ∷ sign_at (at 9) s.EqualEqual ∷ name_token 10 (codes "c")
    ∷ sign_at (at 11) s.EqualEqual ∷ name_token 12 (codes "d") ∷ sign_at (at 13) s.Semicolon ∷ [])

-- ---- the unit of the last list

abbrev pub name : ℕ → List ℕ → t.Operand
name n text = t.primary (t.atom (a.Name (i.Name (at n) text)))

-- x == y, with the operator at this place
abbrev pub equal : t.Operand → ℕ → t.Operand → t.Operand
equal x n y = t.binary x (t.tail (o.Sign (at n) s.EqualEqual) y t.no_tails)

abbrev pub alone : t.Operand → t.Expr
alone x = t.plain x t.no_cascades

-- (a) => body
abbrev pub literal : t.Expr → t.Operand
literal body = t.primary (t.function_literal
    (t.the_parameters (at 4) (t.parameter (t.the_parameter None t.no_metadata
    (t.plain_parameter y.no_kind None (i.Name (at 5) (codes "a"))) t.omitted) t.no_parameters)
    None t.no_parameters (at 6))
    (t.arrow_body (at 7) body None))

-- ((a) => b == c) == d
abbrev pub compared_literal : t.Operand
compared_literal = equal (literal (alone (equal (name 8 (codes "b")) 9 (name 10 (codes "c"))))) 11
    (name 12 (codes "d"))

-- a unit of this one variable
abbrev pub of_x : t.Expr → UnitTree
of_x value = record {
  directives = [];
  declarations = record {
    metadata = t.no_metadata;
    kind = u.variables_decl (t.the_variables (y.var_kind (at 1)) (i.Name (at 2) (codes "x"))
        (t.given (Some (o.Sign (at 3) s.Assign)) value) t.no_variables (at 13));
  } ∷ [];
}

-- ---- what is found on each, in trees of a small depth: the lists are no deeper

abbrev pub found : List Token → Result UnitTree SyntaxReason
found tokens = found_within 12 13 tokens

-- a type's name opens its arguments
abbrev pub TestOpens : Type 0
TestOpens = found tested_body ≡ Err (syntax_at (at 13))

-- a call is no target
abbrev pub CallIsNoTarget : Type 0
CallIsNoTarget = found stepped_call ≡ Err (syntax_at (at 12))

-- an equality in the body takes no second operator
abbrev pub EqualityIsSpent : Type 0
EqualityIsSpent = found compared_body ≡ Ok (of_x (alone compared_literal))
