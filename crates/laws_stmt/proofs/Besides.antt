-- All that statements are made of beside statements, at each depth, where the readers of blocks find theirs up to there.
use Rattle.std.proofs.Common.{◌≡◌, ℕ, zero, suc, ◌≤◌, Bool, true, false, if◌then◌else◌, List, [], ◌∷◌, length, inl, inr, refl, ltb, arith}
use Rattle.dart_token.specs.declared.token.Token.{Token}
use Rattle.dart_token.specs.declared.sign.Sign.TheVariants as s
use Rattle.dart_token.specs.declared.word.Word.TheVariants as w
use Rattle.dart_tree.specs.Tree.{Stmt}
use Rattle.dart_tree.specs.LeafTokens.{catch_tokens}
use Rattle.dart_tree.specs.Tokens.{stmt_tokens, variables_tokens}
use Rattle.grammar_laws.specs.Codes.{nowhere}
use Rattle.grammar_laws.specs.Readers.{starts}
use Rattle.grammar_laws.proofs.Codes.{apart, inside, within_none, within_self}
use Rattle.grammar_laws.proofs.Cuts.{failed}
use Rattle.grammar_laws.proofs.Restated.{nothing_laws, restated, reread}
use Rattle.dart_syntax.specs.Agreement.{WithinAgrees}
use Rattle.dart_syntax.specs.Statements as gs
use Rattle.dart_syntax.specs.Statements.{within}
use Rattle.dart_syntax.proofs.AgreeingStages.{within_agrees}
use Rattle.token_codes.specs.Codes.{class_of, word_code, this_word}
use Rattle.token_codes.specs.Reads.{Reads}
use Rattle.token_codes.proofs.Leaves.{identifier_reads}
use Rattle.syntax_readers.specs.Types.{behind_type_name}
use Rattle.syntax_readers.specs.Statements as rs
use Rattle.syntax_readers.specs.Statements.{stage, closed, declaration_first}
use Rattle.laws_stmt.specs.Statements.{ExpressionRead, JumpsReadAt, BlockReadAt, ReadOverBlocksAt, DeclaredReadAt, variable_first}
use Rattle.laws_stmt.specs.Besides.{SinglesReadAt, CatchReadAt, ForPartsReadAt, BesidesReadAt}
use Rattle.laws_stmt.proofs.Depths.{jumps_at, type_goes_at}
use Rattle.laws_stmt.proofs.Expression.{expression_refused}
use Rattle.laws_stmt.proofs.Jumps.{behind_value, maybe_laws, before_sign_laws}
use Rattle.laws_stmt.proofs.Named.{name_begins, name_ends}
use Rattle.laws_stmt.proofs.Recursion.{read_over_blocks}
use Rattle.laws_stmt.proofs.Sorts.{kind_name_laws}
use Rattle.laws_stmt.proofs.Updates.{behind_updates, updates_laws}

abbrev BlocksTo : ℕ → Type 0
BlocksTo n = (m : ℕ) → m ≤ n → BlockReadAt m

below : (n : ℕ) → BlocksTo (suc n) → BlocksTo n
below n blocks m le = blocks m (omega (arith, le))

over_blocks : (n : ℕ) → BlocksTo n → ReadOverBlocksAt n
over_blocks n blocks = read_over_blocks n (λ m lt. blocks m (omega (arith, lt)))

declared_to : (n : ℕ) → BlocksTo n → DeclaredReadAt n
declared_to n blocks = (over_blocks n blocks).declared (blocks n (omega arith))

-- ---- where there is no room for a node, nothing is declared

none_either : (c d : Bool) (ts : List Token) → (if c then failed {Token = Token} {A = Stmt} ts else (if d then failed ts else failed ts)) ≡ failed ts
none_either true d ts = refl
none_either false true ts = refl
none_either false false ts = refl

no_declarations : Reads (rs.declaration (stage zero).nodes) (gs.declaration_of (within zero).nodes) declaration_first nowhere false
unfolding rs.stage gs.within rs.declaration
no_declarations = reread (restated (nothing_laws stmt_tokens declaration_first nowhere false) (λ x none. absurd none) out (λ ts f. inl f) into
    (within_self declaration_first) (λ x none. within_none []) (λ h. h))
    (λ ts. none_either (starts class_of (word_code w.Var ∷ word_code w.Final ∷ word_code w.Const ∷ []) ts) (ltb (length ts) (length ts)) ts) where
      out : (x : Stmt) → (gs.declaration_of gs.no_nodes).Fits x → ⊥
      out x (inl (y, none, e)) = none
      out x (inr (y, none, e)) = none

      into : (ts : List Token) → (gs.declaration_of gs.no_nodes).front ts → ts ≡ []
      into ts (inl e) = e
      into ts (inr e) = e

no_variables : Reads (stage zero).nodes.variables (within zero).nodes.variables variable_first nowhere false
unfolding rs.stage gs.within
no_variables = nothing_laws variables_tokens variable_first nowhere false

no_catch : CatchReadAt zero
unfolding rs.stage gs.within
no_catch = nothing_laws catch_tokens (this_word w.Catch) nowhere false

-- ---- at each depth

declarations_at : (n : ℕ) → BlocksTo n → Reads (rs.declaration (stage n).nodes) (gs.declaration_of (within n).nodes) declaration_first nowhere false
declarations_at zero blocks = no_declarations
declarations_at (suc n) blocks = (declared_to n (below n blocks)).declaration

variables_at : (n : ℕ) → BlocksTo n → Reads (stage n).nodes.variables (within n).nodes.variables variable_first nowhere false
variables_at zero blocks = no_variables
variables_at (suc n) blocks = (declared_to n (below n blocks)).variables

catch_at : (n : ℕ) → BlocksTo n → CatchReadAt n
catch_at zero blocks = no_catch
catch_at (suc n) blocks = (jumps_at n (over_blocks n (below n blocks)).expressions.expr).catch_clause

module _ (n : ℕ) (blocks : BlocksTo n) where
  A : WithinAgrees (within n)
  A = within_agrees n

  R : ReadOverBlocksAt n
  R = over_blocks n blocks

  E : ExpressionRead n
  E = R.expressions.expr

  J : JumpsReadAt n
  J = jumps_at n E

  singles : SinglesReadAt n
  singles = record {
    declaration = declarations_at n blocks;
    jump = J.jump;
    expression = J.expression;
    refused = expression_refused (closed (stage n).nodes.exprs) (within n).nodes E A.nodes.expr_nodes.expr;
  }

  for_parts : ForPartsReadAt n
  for_parts = record {
    behind_value = behind_value;
    value = maybe_laws E A.nodes.expr_nodes.expr;
    value_off = apart refl;
    behind_updates = behind_updates;
    updates = updates_laws E A.nodes.expr_nodes.expr;
    updates_off = apart refl;
    variables = variables_at n blocks;
    iterated = before_sign_laws E A.nodes.expr_nodes.expr s.RightParenthesis (apart refl);
    behind_name = behind_type_name;
    kind_name = kind_name_laws R.expressions.type A.nodes.expr_nodes.type (type_goes_at n) identifier_reads (inside refl) (apart refl) (apart refl)
        (λ t h. name_begins t h) (λ t u ts h f. name_ends t u ts f) (apart refl) (apart refl);
    kind_off = apart refl;
  }

  pub besides_at : BesidesReadAt n
  besides_at = record {
    singles = singles;
    for_parts = for_parts;
    condition = J.condition;
    case_value = before_sign_laws E A.nodes.expr_nodes.expr s.Colon (apart refl);
    catch_clause = catch_at n blocks;
  }
