-- What is proved of the readers of statements that hold statements: at each depth, where those of the statements inside find theirs.
use Rattle.std.specs.Prelude.{ℕ, suc}
use Rattle.dart_token.specs.declared.word.Word.TheVariants as w
use Rattle.dart_tree.specs.Tokens.{stmt_tokens}
use Rattle.dart_tree.specs.Tree as t
use Rattle.grammar_laws.specs.Readers.{mapped}
use Rattle.dart_syntax.specs.Phrases.{made}
use Rattle.dart_syntax.specs.Statements as p
use Rattle.dart_syntax.specs.Statements.{within}
use Rattle.token_codes.specs.Codes.{this_word}
use Rattle.syntax_readers.specs.Statements as i
use Rattle.syntax_readers.specs.Statements.{stage, closed, stmt_first, compound_first}
use Rattle.laws_expr.specs.Statements.{OthersReadAt, ExpressionsReadAt}
use Rattle.laws_stmt.specs.Statements.{BlockReadAt, ParametersReadAt, DeclaredReadAt}
use Rattle.laws_stmt.specs.Besides.{SinglesReadAt, ConditionReadAt, CatchReadAt, ForPartsReadAt, BesidesReadAt}
use Rattle.laws_apart.specs.Statements.{ApartAt, HeadsApartAt}
use Rattle.laws_block.specs.Begun.{level_of, still_of, ReadsBegun, StmtReads, Partless}

-- ---- what is asked of a depth

-- statements, with what is begun behind them, and that none begins as a part of a `try` does
pub record StatementsReadAt (n : ℕ) : Type 0 where
  pub reads : StmtReads n (stage n).stmt (within n).stmt stmt_first
  pub partless : Partless (within n).stmt

-- ---- what holds then, with one node more

-- of blocks (17.1 Blocks)
abbrev pub BlocksRead : Type 0
BlocksRead = (n : ℕ) → StatementsReadAt n → BlockReadAt (suc n)

-- of `if` (17.5 If), `while` (17.7 While) and `do` (17.8 Do), as statements
pub record HoldersReadAt (n : ℕ) : Type 0 where
  pub choice : ReadsBegun (i.if_over (closed (stage n).nodes.exprs) (stage n).stmt) (p.if_over (within n)) (this_word w.If) (level_of (suc n)) (still_of (suc n))
  pub while_loop : ReadsBegun (mapped t.loop (i.while_over (closed (stage n).nodes.exprs) (stage n).stmt)) (made stmt_tokens t.loop (p.while_over (within n)))
      (this_word w.While) (level_of (suc n)) (still_of (suc n))
  pub do_loop : ReadsBegun (mapped t.loop (i.do_over n (closed (stage n).nodes.exprs) (stage n).stmt)) (made stmt_tokens t.loop (p.do_over (within n)))
      (this_word w.Do) (level_of (suc n)) (still_of (suc n))

abbrev pub HoldersRead : Type 0
HoldersRead = (n : ℕ) → StatementsReadAt n → ConditionReadAt n → HoldersReadAt n

-- of `try` (17.11 Try)
abbrev pub TryReadAt : ℕ → Type 0
TryReadAt n = ReadsBegun (i.try_over (stage n).nodes) (p.try_over (within n)) (this_word w.Try) (level_of (suc n)) (still_of (suc n))

abbrev pub TriesRead : Type 0
TriesRead = (n : ℕ) → BlockReadAt n → CatchReadAt n → TryReadAt n

-- ---- one of them: `for` (17.6 For) and `switch` (17.9 Switch) too

abbrev pub ForReadAt : ℕ → Type 0
ForReadAt n = ReadsBegun (mapped t.loop (i.for_over (stage n).nodes (stage n).stmt)) (made stmt_tokens t.loop (p.for_over (within n))) (this_word w.For) (level_of (suc n)) (still_of (suc n))

abbrev pub SwitchReadAt : ℕ → Type 0
SwitchReadAt n = ReadsBegun (i.switch_over n (closed (stage n).nodes.exprs) (stage n).stmt) (p.switch_over (within n)) (this_word w.Switch) (level_of (suc n)) (still_of (suc n))

abbrev pub CompoundReadAt : ℕ → Type 0
CompoundReadAt n = ReadsBegun (stage n).nodes.compound (within n).nodes.compound compound_first (level_of n) (still_of n)

abbrev pub CompoundsRead : Type 0
CompoundsRead = (n : ℕ) → ForReadAt n → HoldersReadAt n → SwitchReadAt n → TryReadAt n → CompoundReadAt (suc n)

-- ---- all statements

abbrev pub StatementsRead : Type 0
StatementsRead = (n : ℕ) → SinglesReadAt n → BlockReadAt n → CompoundReadAt n → ApartAt n → StatementsReadAt n

-- ---- `for` (17.6 For)

abbrev pub ForsRead : Type 0
ForsRead = (n : ℕ) → StatementsReadAt n → ForPartsReadAt n → HeadsApartAt n → ForReadAt n

-- ---- `switch` (17.9 Switch)

-- with what is asked of the statements inside
abbrev pub SwitchesRead : Type 0
SwitchesRead = (n : ℕ) → BesidesReadAt n → BlockReadAt n → CompoundReadAt n → ApartAt n → SwitchReadAt n

-- ---- at every depth

-- expressions (16), a parameter, and parameters in their parentheses with one node more (9.2), such parameters and blocks (17.1), variables and
-- functions in functions with one node more, bodies (8, 17.4, 9), and statements (17)
pub record AllReadAt (n : ℕ) : Type 0 where
  pub expressions : ExpressionsReadAt n
  pub parameters : ParametersReadAt n
  pub others : OthersReadAt n
  pub declared : DeclaredReadAt n
  pub compound : CompoundReadAt n
  pub statements : StatementsReadAt n

abbrev pub AllRead : Type 0
AllRead = (n : ℕ) → AllReadAt n
