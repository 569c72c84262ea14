-- A function that reads an operand of each row, with at most so many nodes above one another.
use Rattle.std.specs.Prelude.{ℕ, List, Option, Result}
use denote.Ref.{MutBor}
use Rattle.dart_base.specs.declared.place.Place.{Place}
use Rattle.dart_token.specs.declared.token.Token.{Token}
use Rattle.dart_tree.specs.declared.expression.Operand.{Operand}
use Rattle.token_cursor.specs.declared.error.ReadFault.{ReadFault}
use Rattle.token_cursor.specs.Gives.{GivesHigh}
use Rattle.parse_unary.specs.Views.{open_operand, open_operand_height, row_reader}

pub record ReadsRows (depth : ℕ) (pre : MutBor (List Token) → ℕ → Type 0)
    (post : MutBor (List Token) → ℕ → Result ((Operand × Option Place) × ℕ) ReadFault → MutBor (List Token) → Type 0) : Type 0 where
  pub callable : (old : MutBor (List Token)) (row : ℕ) → pre old row
  pub reads : (old new : MutBor (List Token)) (row : ℕ) (result : Result ((Operand × Option Place) × ℕ) ReadFault) →
      post old row result new → GivesHigh open_operand open_operand_height depth (row_reader depth row old.now) result new.now
