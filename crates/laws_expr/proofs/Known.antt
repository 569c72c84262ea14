-- What is known of the readers of the nodes that stand inside, where half an operator is refused.
use Rattle.std.proofs.Common.{false}
use Rattle.dart_token.specs.declared.sign.Sign.TheVariants as s
use Rattle.grammar_laws.specs.Codes.{nowhere}
use Rattle.grammar_laws.specs.Halves.{strict}
use Rattle.dart_syntax.specs.Agreement.{ExprsAgree}
use Rattle.dart_syntax.specs.Expressions.{ExprNodes}
use Rattle.token_codes.specs.Codes.{these}
use Rattle.token_codes.specs.Reads.{Reads}
use Rattle.syntax_readers.specs.Types.{type_first}
use Rattle.syntax_readers.specs.Primaries.{ExprReaders, expr_first}
use Rattle.laws_type.specs.Nexts.{after_type}
use Rattle.laws_expr.specs.Nexts.{after_expr}

pub record ClosedRead (here : ExprReaders) (nodes : ExprNodes) : Type 0 where
  pub type : Reads here.type nodes.type type_first after_type false
  pub expr : Reads (strict here.expr) nodes.expr expr_first after_expr false
  pub arguments : Reads here.arguments nodes.arguments (these s.LeftParenthesis) nowhere false
  pub agrees : ExprsAgree nodes
