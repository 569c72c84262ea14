-- What contracts see of a tree that may end in an operand, with the half of an operator that was read behind it.
use Rattle.std.specs.Prelude.{ℕ, Option}
use Rattle.dart_base.specs.declared.place.Place.{Place}
use Rattle.dart_tree.specs.declared.expression.Expr.{Expr}
use Rattle.dart_tree.specs.Depth as height
use Rattle.dart_tree.specs.Tree as t
use Rattle.dart_tree.specs.View as view
use Rattle.syntax_readers.specs.Combinators.{Open}

-- the view of the tree beside the half
abbrev pub opened : {X A : Type 0} → (X → A) → X × Option Place → Open A
opened view x = (view x.0, x.1)

-- the height of the tree
abbrev pub open_height : {A : Type 0} → (A → ℕ) → Open A → ℕ
open_height height x = height x.0

abbrev pub open_expr : Expr × Option Place → Open t.Expr
open_expr = opened view.expr

abbrev pub open_expr_height : Open t.Expr → ℕ
open_expr_height = open_height height.expr_height
