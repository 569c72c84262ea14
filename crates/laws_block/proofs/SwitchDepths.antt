-- The law of `switch` at each depth (ECMA-408, 17.9 Switch).
use Rattle.std.proofs.Common.{◌≡◌, ℕ, suc, false, None, sym, ap}
use Rattle.dart_token.specs.declared.word.Word.TheVariants as w
use Rattle.dart_tree.specs.Tree.{Stmt}
use Rattle.dart_syntax.specs.Agreement.{WithinAgrees}
use Rattle.dart_syntax.specs.Statements as p
use Rattle.dart_syntax.specs.Statements.{within}
use Rattle.dart_syntax.proofs.AgreeingStages.{within_agrees}
use Rattle.grammar_laws.specs.Codes.{nowhere}
use Rattle.grammar_laws.proofs.Codes.{within_none}
use Rattle.token_codes.specs.Codes.{this_word}
use Rattle.token_codes.specs.Reads.{Reads}
use Rattle.syntax_readers.specs.Statements as i
use Rattle.syntax_readers.specs.Statements.{stage, closed, open_try}
use Rattle.laws_stmt.specs.Statements.{BlockReadAt}
use Rattle.laws_block.specs.Begun.{level_of, still_of}
use Rattle.laws_stmt.specs.Besides.{BesidesReadAt}
use Rattle.laws_apart.specs.Statements.{ApartAt}
use Rattle.laws_block.specs.Statements.{StatementsReadAt, CompoundReadAt, SwitchReadAt}
use Rattle.laws_block.proofs.Combined.{plain_begun}
use Rattle.laws_block.proofs.Lists.{stmts_laws}
use Rattle.laws_block.proofs.Switches.{switch_laws}
use Rattle.laws_block.proofs.Whole.{statements_at, parted_at}

module _ (n : ℕ) (R : BesidesReadAt n) (B : BlockReadAt n) (C : CompoundReadAt n) (P : ApartAt n) where
  A : WithinAgrees (within n)
  A = within_agrees n

  S : StatementsReadAt n
  S = statements_at n R.singles B C P

  whole : Reads (i.switch_over n (closed (stage n).nodes.exprs) (stage n).stmt) (p.switch_over (within n)) (this_word w.Switch) nowhere false
  unfolding i.switch_over
  whole = switch_laws n S.reads S.partless (stmts_laws n S.reads S.partless) (closed (stage n).nodes.exprs) (within n).nodes.expr_nodes.expr R.case_value
      (parted_at n R.singles B C P) A A.stmt A.nodes.expr_nodes.expr R.condition

  -- a `switch` ends in no `try`
  never : (x : Stmt) → (p.switch_over (within n)).Fits x → level_of (suc n) x ≡ None
  unfolding open_try
  never x ((word, ((opening, (value, closing)), (left, (parts, right)))), fits, e) = ap (level_of (suc n)) (sym e)

  pub switches_at : SwitchReadAt n
  switches_at = plain_begun whole (level_of (suc n)) (still_of (suc n)) never (λ x fits. within_none _)
