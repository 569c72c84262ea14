-- Further variables, as a list that each variable makes longer.
use Rattle.std.proofs.Common.{◌≡◌, max, List, [], ◌∷◌, ◌++◌, map, Ok, Err, refl, sym, ap, ◌∙◌, arith}
use Rattle.std.proofs.lemmas.List.{map-append}
use Rattle.dart_base.specs.declared.place.Place.{Place}
use Rattle.dart_token.specs.declared.token.Token.{Token}
use Rattle.dart_token.specs.declared.sign.Sign.TheVariants as s
use Rattle.dart_tree.specs.declared.identifier.Identifier.{Identifier}
use Rattle.dart_tree.specs.declared.statement.Variable.{Variable}
use Rattle.dart_tree.specs.Depth as height
use Rattle.dart_tree.specs.Lists.{more_variables_of}
use Rattle.dart_tree.specs.Tree as t
use Rattle.dart_tree.specs.View as view
use Rattle.dart_syntax.specs.Statements.{more_variables}
use Rattle.grammar_laws.specs.Readers.{Reader, Outcome, and_then, mapped, many, always}
use Rattle.syntax_readers.specs.Combinators.{◌~◌}
use Rattle.syntax_readers.specs.Parameters as spec
use Rattle.syntax_readers.specs.Parameters.{after_sign}
use Rattle.token_codes.specs.Codes.{class_of, these}
use Rattle.token_codes.specs.Leaves.{sign, identifier}
use Rattle.parse_loop.specs.Lists.{Growing}
use Rattle.parse_parameter.specs.Views.{variable_of, variable_height, more_height}

abbrev pub Row : Type 0
Row = Place × (Identifier × t.Value)

abbrev pub snoc : List Row → Row → List Row
snoc l x = l ++ x ∷ []

pub taller : (l : List Row) (x : Row) → more_height (snoc l x) ≡ max (more_height l) (variable_height x)
unfolding height.more_variables_height
taller [] x = omega arith
taller (y ∷ l) x = let e = taller l x in omega arith

abbrev pub variables_list : Reader Token t.Expr → Growing (Unit {0}) Row (List Row)
variables_list expr = record {
  codes = these s.Comma;
  item = sign s.Comma ~ identifier ~ after_sign s.Assign expr;
  give = λ first items. items;
  snoc = snoc;
  high = more_height;
  tall = variable_height;
  grows = λ first items y. refl;
  taller = taller;
}

pub pushed : (items new : List Variable) (x : Variable) → new ≡ items ++ x ∷ [] → map variable_of new ≡ snoc (map variable_of items) (variable_of x)
pushed items new x e = ap (map variable_of) e ∙ map-append variable_of items (x ∷ [])

pub rows_are : (items : List Variable) → more_variables (map variable_of items) ≡ more_variables_of items
rows_are [] = refl
rows_are (x ∷ items) = ap (t.variable x.comma x.name (view.value x.value)) (rows_are items)

unmapped : (o : Outcome Token (List Row)) → o ≡ and_then o (λ a rest. Ok (a, rest))
unmapped (Ok x) = refl
unmapped (Err rest) = refl

-- before the first turn
pub more_unmapped : (expr : Reader Token t.Expr) (ts : List Token) → spec.more_variables expr ts ≡ mapped (λ x. x) (many class_of always (these s.Comma) (sign s.Comma ~ identifier ~ after_sign s.Assign expr)) ts
unfolding spec.more_variables
more_unmapped expr ts = unmapped (many class_of always (these s.Comma) (sign s.Comma ~ identifier ~ after_sign s.Assign expr) ts)

pub none_high : (l : List Row) → l ≡ [] → 0 ≡ more_height l
unfolding height.more_variables_height
none_high l is = ap more_height (sym is)
