-- The law of blocks, over any reader of statements (ECMA-408, 17.1 Blocks).
use Rattle.std.proofs.Common.{◌≡◌, ℕ, false, List, [], refl}
use Rattle.dart_base.specs.declared.place.Place.{Place}
use Rattle.dart_token.specs.declared.token.Token.{Token}
use Rattle.dart_token.specs.declared.sign.Sign.TheVariants as s
use Rattle.dart_tree.specs.Tree as t
use Rattle.dart_tree.specs.Tree.{Stmt, Block}
use Rattle.dart_tree.specs.Tokens.{block_tokens}
use Rattle.grammar_laws.specs.Codes.{nowhere}
use Rattle.grammar_laws.specs.Readers.{Reader}
use Rattle.grammar_laws.proofs.Codes.{apart, apart_none, within_none}
use Rattle.grammar_laws.proofs.Restated.{made_laws}
use Rattle.grammar_laws.proofs.Combined.{both_laws, both_any_laws}
use Rattle.dart_syntax.specs.Phrases.{◌~◌, many}
use Rattle.dart_syntax.specs.Agreement.{WithinAgrees}
use Rattle.dart_syntax.specs.Leaves as l
use Rattle.dart_syntax.specs.Statements as p
use Rattle.dart_syntax.specs.Statements.{Within, to_stmts}
use Rattle.dart_syntax.proofs.Agreeing.{parts_say, seq_agrees, many_agrees}
use Rattle.dart_syntax.proofs.AgreeingTypes.{sign_agrees}
use Rattle.dart_syntax.proofs.AgreeingStages.{said_stmts}
use Rattle.token_codes.specs.Codes.{these}
use Rattle.token_codes.specs.Reads.{Reads}
use Rattle.token_codes.proofs.Leaves.{sign_reads}
use Rattle.syntax_readers.specs.Statements as i
use Rattle.syntax_readers.specs.Statements.{stmt_first}
use Rattle.laws_block.specs.Begun.{StmtReads, Partless}
use Rattle.laws_block.proofs.Lists.{stmts_laws}

module _ {inner : Within} (A : WithinAgrees inner) (n : ℕ) {stmt : Reader Token Stmt} (S : StmtReads n stmt inner.stmt stmt_first) (N : Partless inner.stmt) where
  abbrev to_block : Place × (List Stmt × Place) → Block
  to_block x = t.the_block x.0 (to_stmts x.1.0) x.1.1

  block_said : (x : Place × (List Stmt × Place)) → (l.sign s.LeftBrace ~ (many inner.stmt ~ l.sign s.RightBrace)).Fits x → block_tokens (to_block x) ≡ (l.sign s.LeftBrace ~ (many inner.stmt ~ l.sign s.RightBrace)).spelling x
  unfolding block_tokens
  block_said = parts_say block_tokens to_block (seq_agrees (sign_agrees s.LeftBrace) (seq_agrees (many_agrees A.stmt) (sign_agrees s.RightBrace))) (λ x fits. simp said_stmts)

  pub block_laws : Reads (i.block_over n stmt) (p.block_over inner) (these s.LeftBrace) nowhere false
  unfolding i.block_over
  block_laws = made_laws (both_laws (sign_reads s.LeftBrace) (both_any_laws (stmts_laws n S N) (sign_reads s.RightBrace) (λ xs fits. apart refl)) (λ place fits. apart_none _)) to_block block_tokens nowhere block_said (λ x fits. within_none [])
