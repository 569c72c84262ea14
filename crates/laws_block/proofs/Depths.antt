-- The laws of each depth.
use Rattle.std.proofs.Common.{◌≡◌, ℕ, zero, suc, refl, sym, subst}
use Rattle.dart_token.specs.declared.token.Token.{Token}
use Rattle.dart_token.specs.declared.word.Word.TheVariants as w
use Rattle.dart_tree.specs.Types.{TypeNode}
use Rattle.grammar_laws.specs.Readers.{Reader}
use Rattle.dart_syntax.specs.Phrases.{Phrase}
use Rattle.dart_syntax.specs.Types.{type_within}
use Rattle.dart_syntax.specs.Statements as p
use Rattle.dart_syntax.specs.Statements.{within}
use Rattle.dart_syntax.proofs.AgreeingStages.{within_agrees}
use Rattle.token_codes.specs.Codes.{this_word}
use Rattle.syntax_readers.specs.Types.{type_reader}
use Rattle.syntax_readers.specs.Statements as i
use Rattle.syntax_readers.specs.Statements.{stage, closed}
use Rattle.laws_block.specs.Begun.{level_of, still_of, ReadsBegun}
use Rattle.laws_stmt.specs.Statements.{BlockReadAt}
use Rattle.laws_stmt.specs.Besides.{ConditionReadAt, CatchReadAt}
use Rattle.laws_block.specs.Statements.{StatementsReadAt, HoldersReadAt, TryReadAt, ForReadAt, SwitchReadAt, CompoundReadAt}
use Rattle.laws_block.proofs.Blocks.{block_laws}
use Rattle.laws_block.proofs.Choices.{if_begun}
use Rattle.laws_block.proofs.Compounds.{compound_begun}
use Rattle.laws_block.proofs.Levels.{loop_begun}
use Rattle.laws_block.proofs.Loops.{while_begun, do_begun}
use Rattle.laws_block.proofs.Parts.{with_reader, with_types}
use Rattle.laws_block.proofs.Trying.{try_begun}

-- the types of a depth
type_at : (n : ℕ) → (stage n).nodes.exprs.type ≡ type_reader n
unfolding i.stage i.nodes_over type_reader
type_at zero = refl
type_at (suc n) = refl

types_at : (n : ℕ) → (within n).nodes.expr_nodes.type ≡ type_within n
unfolding p.within p.nodes_over type_within
types_at zero = refl
types_at (suc n) = refl

pub blocks_at : (n : ℕ) → StatementsReadAt n → BlockReadAt (suc n)
unfolding i.stage i.nodes_over p.within p.nodes_over
blocks_at n S = block_laws (within_agrees n) n S.reads S.partless

pub holders_at : (n : ℕ) → StatementsReadAt n → ConditionReadAt n → HoldersReadAt n
holders_at n S C = record {
  choice = if_begun (within_agrees n) (closed (stage n).nodes.exprs) C n S.reads;
  while_loop = loop_begun (suc n) (while_begun (within_agrees n) (closed (stage n).nodes.exprs) C n S.reads) (λ x fits. refl);
  do_loop = loop_begun (suc n) (do_begun (within_agrees n) (closed (stage n).nodes.exprs) C n S.reads) (λ x fits. refl);
}

pub tries_at : (n : ℕ) → BlockReadAt n → CatchReadAt n → TryReadAt n
tries_at n B K =
    let A = within_agrees n in
    let at : ReadsBegun (i.try_over (with_reader (type_reader n) (stage n).nodes)) (p.try_over (with_types (type_within n) (within n))) (this_word w.Try) (level_of (suc n)) (still_of (suc n))
    = try_begun n (stage n).nodes (within n) B K A.nodes.expr_nodes.block A.nodes.catch_clause in
    subst (λ (q : Phrase TypeNode). ReadsBegun (i.try_over (stage n).nodes) (p.try_over (with_types q (within n))) (this_word w.Try) (level_of (suc n)) (still_of (suc n))) (sym (types_at n))
    (subst (λ (r : Reader Token TypeNode). ReadsBegun (i.try_over (with_reader r (stage n).nodes)) (p.try_over (with_types (type_within n) (within n))) (this_word w.Try) (level_of (suc n)) (still_of (suc n))) (sym (type_at n)) at)

pub compounds_at : (n : ℕ) → ForReadAt n → HoldersReadAt n → SwitchReadAt n → TryReadAt n → CompoundReadAt (suc n)
unfolding i.stage i.nodes_over p.within p.nodes_over
compounds_at n F H W T = compound_begun n F H W T
