-- The updates of a `for`: none, or some.
use Rattle.std.proofs.Common.{◌≡◌, true, false, List, Ok, sym, subst}
use Rattle.dart_token.specs.declared.token.Token.{Token}
use Rattle.dart_token.specs.declared.sign.Sign.TheVariants as s
use Rattle.dart_tree.specs.Tree as t
use Rattle.grammar_laws.specs.Readers.{Reader, separated, starts}
use Rattle.token_codes.specs.Codes.{class_of, these}
use Rattle.token_codes.specs.Leaves.{sign}
use Rattle.syntax_readers.specs.Primaries.{expr_first}
use Rattle.syntax_readers.specs.Statements as spec
use Rattle.parse_literal.proofs.Listings.{option_off, option_on}
use Rattle.parse_stmt.specs.Views.{some_updates}

pub no_updates : (expr : Reader Token t.Expr) (ts : List Token) (l : t.Items) → starts class_of expr_first ts ≡ false → l ≡ t.no_items → spec.updates_over expr ts ≡ Ok (l, ts)
unfolding spec.updates_over
no_updates expr ts l off is =
    subst (λ (x : t.Items). spec.updates_over expr ts ≡ Ok (x, ts)) (sym is)
    (option_off spec.items_of expr_first (separated class_of (these s.Comma) expr (sign s.Comma)) ts off)

pub some_updates_are : (expr : Reader Token t.Expr) (ts : List Token) → starts class_of expr_first ts ≡ true → spec.updates_over expr ts ≡ some_updates expr ts
unfolding spec.updates_over
some_updates_are expr ts on = option_on spec.items_of expr_first (separated class_of (these s.Comma) expr (sign s.Comma)) ts on
