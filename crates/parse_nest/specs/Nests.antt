-- Functions that are handed in and read the nodes inside, at each depth up to a limit.
use Rattle.std.specs.Prelude.{ℕ, ◌≤◌, List, Bool, Option, Result}
use Rattle.std.specs.declared.alloc.Global.{Global}
use denote.Ref.{MutBor}
use Rattle.dart_base.specs.declared.place.Place.{Place}
use Rattle.dart_token.specs.declared.token.Token.{Token}
use Rattle.dart_tree.specs.declared.expression.Expr.{Expr}
use Rattle.dart_tree.specs.declared.parameter.Parameters.{Parameters}
use Rattle.dart_tree.specs.declared.statement.Block.{Block}
use Rattle.dart_tree.specs.declared.statement.Stmt.{Stmt}
use Rattle.dart_tree.specs.Depth as height
use Rattle.dart_tree.specs.Lists.{block_of}
use Rattle.dart_tree.specs.View as view
use Rattle.token_cursor.specs.declared.error.ReadFault.{ReadFault}
use Rattle.token_cursor.specs.Gives.{GivesHigh}
use Rattle.parse_nest.specs.Open.{open_expr, open_expr_height}
use Rattle.parse_nest.specs.Stages.{expr_at, parameters_at, block_at, stmt_at}

-- it reads expressions, with cascades or without
pub record NestsExpr (limit : ℕ) (pre : Global → MutBor (List Token) → ℕ → Bool → Type 0)
    (post : Global → MutBor (List Token) → ℕ → Bool → Result ((Expr × Option Place) × ℕ) ReadFault → MutBor (List Token) → Type 0) : Type 0 where
  pub callable : (alloc : Global) (old : MutBor (List Token)) (depth : ℕ) (cascades : Bool) → depth ≤ limit → pre alloc old depth cascades
  pub reads : (alloc : Global) (old new : MutBor (List Token)) (depth : ℕ) (cascades : Bool)
      (result : Result ((Expr × Option Place) × ℕ) ReadFault) → post alloc old depth cascades result new →
      GivesHigh open_expr open_expr_height depth (expr_at depth cascades old.now) result new.now

-- it reads the parameters of a function
pub record NestsParameters (limit : ℕ) (pre : Global → MutBor (List Token) → ℕ → Type 0)
    (post : Global → MutBor (List Token) → ℕ → Result (Parameters × ℕ) ReadFault → MutBor (List Token) → Type 0) : Type 0 where
  pub callable : (alloc : Global) (old : MutBor (List Token)) (depth : ℕ) → depth ≤ limit → pre alloc old depth
  pub reads : (alloc : Global) (old new : MutBor (List Token)) (depth : ℕ) (result : Result (Parameters × ℕ) ReadFault) →
      post alloc old depth result new →
      GivesHigh view.parameters height.parameters_height depth (parameters_at depth old.now) result new.now

-- it reads blocks
pub record NestsBlock (limit : ℕ) (pre : Global → MutBor (List Token) → ℕ → Type 0)
    (post : Global → MutBor (List Token) → ℕ → Result (Block × ℕ) ReadFault → MutBor (List Token) → Type 0) : Type 0 where
  pub callable : (alloc : Global) (old : MutBor (List Token)) (depth : ℕ) → depth ≤ limit → pre alloc old depth
  pub reads : (alloc : Global) (old new : MutBor (List Token)) (depth : ℕ) (result : Result (Block × ℕ) ReadFault) →
      post alloc old depth result new →
      GivesHigh block_of height.block_height depth (block_at depth old.now) result new.now

-- it reads statements
pub record NestsStmt (limit : ℕ) (pre : Global → MutBor (List Token) → ℕ → Type 0)
    (post : Global → MutBor (List Token) → ℕ → Result (Stmt × ℕ) ReadFault → MutBor (List Token) → Type 0) : Type 0 where
  pub callable : (alloc : Global) (old : MutBor (List Token)) (depth : ℕ) → depth ≤ limit → pre alloc old depth
  pub reads : (alloc : Global) (old new : MutBor (List Token)) (depth : ℕ) (result : Result (Stmt × ℕ) ReadFault) →
      post alloc old depth result new →
      GivesHigh view.stmt height.stmt_height depth (stmt_at depth old.now) result new.now
