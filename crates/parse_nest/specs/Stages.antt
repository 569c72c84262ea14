-- The readers of the nodes that stand inside others, by the number of nodes above one another.
use Rattle.std.specs.Prelude.{ℕ, Bool, true, false}
use Rattle.dart_token.specs.declared.token.Token.{Token}
use Rattle.dart_tree.specs.Tree as t
use Rattle.grammar_laws.specs.Readers.{Reader}
use Rattle.grammar_laws.specs.Halves.{strict}
use Rattle.syntax_readers.specs.Combinators.{Open}
use Rattle.syntax_readers.specs.Levels.{LevelReaders}
use Rattle.syntax_readers.specs.Primaries.{ExprReaders}
use Rattle.syntax_readers.specs.Statements.{StmtReaders, stage}

-- the nodes that statements and declarations are made of, and those that expressions are made of
abbrev pub nodes_at : ℕ → StmtReaders
nodes_at n = (stage n).nodes

abbrev pub exprs_at : ℕ → ExprReaders
exprs_at n = (stage n).nodes.exprs

-- the operands of these expressions
abbrev pub levels_at : ℕ → LevelReaders
levels_at n = (stage n).levels

-- an expression, with cascades or without
abbrev pub expr_at : ℕ → Bool → Reader Token (Open t.Expr)
expr_at n true = (stage n).nodes.exprs.expr
expr_at n false = (stage n).nodes.exprs.without

-- an expression behind which no half of an operator stands
abbrev pub closed_at : ℕ → Reader Token t.Expr
closed_at n = strict (expr_at n true)

abbrev pub parameters_at : ℕ → Reader Token t.Parameters
parameters_at n = (stage n).nodes.exprs.parameters

abbrev pub block_at : ℕ → Reader Token t.Block
block_at n = (stage n).nodes.exprs.block

abbrev pub stmt_at : ℕ → Reader Token t.Stmt
stmt_at n = (stage n).stmt
