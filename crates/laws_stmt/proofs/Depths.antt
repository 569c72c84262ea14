-- The laws of the nodes of each depth.
use Rattle.std.proofs.Common.{ℕ, zero, suc, ◌<◌, ◌≤◌, false, arith}
use Rattle.dart_syntax.specs.Statements as gs
use Rattle.dart_syntax.specs.Statements.{within}
use Rattle.dart_syntax.proofs.AgreeingStages.{within_agrees}
use Rattle.grammar_laws.proofs.Restated.{nothing_laws}
use Rattle.token_codes.specs.Reads.{Reads}
use Rattle.syntax_readers.specs.Parameters.{parameter_first}
use Rattle.syntax_readers.specs.Statements as rs
use Rattle.syntax_readers.specs.Statements.{stage}
use Rattle.laws_expr.specs.Statements.{OthersReadAt, ExpressionsReadAt}
use Rattle.laws_expr.proofs.Recursion.{expressions_at}
use Rattle.laws_stmt.specs.Statements.{ExpressionRead, JumpsReadAt, behind_parameter, ParametersReadAt, DeclaredReadAt}
use Rattle.laws_stmt.proofs.Jumps.{jump_laws, condition_laws, catch_laws}
use Rattle.laws_stmt.proofs.Expression.{expression_laws}
use Rattle.laws_stmt.proofs.Named.{Goes, type_goes}
use Rattle.laws_stmt.proofs.Parameter.{parameter_laws}
use Rattle.laws_stmt.proofs.Parameters.{parameters_laws}
use Rattle.laws_stmt.proofs.Variables.{variables_laws}
use Rattle.laws_stmt.proofs.Bodies.{body_laws}
use Rattle.laws_stmt.proofs.Local.{function_laws}
use Rattle.laws_stmt.proofs.Declared.{declaration_laws}

-- where those of the expressions inside hold
pub jumps_at : (n : ℕ) → ExpressionRead n → JumpsReadAt n
unfolding rs.stage gs.within rs.nodes_over gs.nodes_over
jumps_at n E = record {
  jump = jump_laws (rs.closed (stage n).nodes.exprs) (within n).nodes E (within_agrees n).nodes.expr_nodes.expr;
  condition = condition_laws E (within_agrees n).nodes.expr_nodes.expr;
  catch_clause = catch_laws (within n).nodes;
  expression = expression_laws (rs.closed (stage n).nodes.exprs) (within n).nodes E (within_agrees n).nodes.expr_nodes.expr;
}

pub type_goes_at : (n : ℕ) → Goes (within n).nodes.expr_nodes.type
unfolding gs.within gs.nodes_over
type_goes_at zero t u ts h f = absurd cc
type_goes_at (suc n) t u ts h f = type_goes (suc n) t u ts h f

parameter_at : (n : ℕ) → ((m : ℕ) → m < n → OthersReadAt m) → Reads (stage n).nodes.parameter (within n).nodes.parameter parameter_first (λ x. behind_parameter) false
unfolding rs.stage gs.within rs.nodes_over gs.nodes_over
parameter_at zero others = nothing_laws _ parameter_first (λ x. behind_parameter) false
parameter_at (suc n) others =
    let E : ExpressionsReadAt n = expressions_at n (λ m lt. others m (omega (arith, lt))) in
    parameter_laws (stage n).nodes.exprs (within n).nodes E.type (type_goes_at n) (within_agrees n).nodes E.arguments (others n (omega arith)).parameters

-- where those of parameters and blocks hold at the smaller depths
pub parameters_at : (n : ℕ) → ((m : ℕ) → m < n → OthersReadAt m) → ParametersReadAt n
unfolding rs.stage gs.within rs.nodes_over gs.nodes_over
parameters_at n others = record {
  parameter = parameter_at n others;
  parameters = parameters_laws (within n).nodes (parameter_at n others) (expressions_at n others).expr (within_agrees n).nodes;
}

-- where they hold up to there
pub declared_at : (n : ℕ) → ((m : ℕ) → m ≤ n → OthersReadAt m) → DeclaredReadAt n
unfolding rs.stage gs.within rs.nodes_over gs.nodes_over rs.declaration
declared_at n others =
    let E : ExpressionsReadAt n = expressions_at n (λ m lt. others m (omega (arith, lt))) in
    let O : OthersReadAt n = others n (omega arith) in
    record {
      variables = variables_laws (within n).nodes E.type (type_goes_at n) E.expr (within_agrees n).nodes;
      local_function = function_laws (stage n).nodes.exprs (within n).nodes E.type (type_goes_at n) (within_agrees n).nodes E.expr O.parameters O.block;
      body = body_laws (stage n).nodes.exprs (within n).nodes.expr_nodes (within_agrees n).nodes.expr_nodes E.expr O.block;
      declaration = declaration_laws (stage n).nodes.exprs (within n).nodes E.type (type_goes_at n) (within_agrees n).nodes E.expr O.parameters O.block;
    }
