-- Statements, and all that stands within a depth, agree with their tokens.
use Rattle.std.proofs.Common.{◌≡◌, ℕ, zero, suc, true, List, [], ◌∷◌, ◌++◌, Option, None, Some, refl, ap, append_assoc, flat_map}
use Rattle.std.proofs.lemmas.List.{append-nil}
use Rattle.grammar_laws.specs.Fronts.{both_spelling, option_spelling}
use Rattle.dart_base.specs.declared.place.Place.{Place}
use Rattle.dart_token.specs.declared.token.Token.{Token}
use Rattle.dart_token.specs.declared.sign.Sign.TheVariants as s
use Rattle.dart_token.specs.declared.word.Word.TheVariants as w
use Rattle.dart_tree.specs.declared.identifier.Label.{Label}
use Rattle.dart_tree.specs.LeafTokens.{label_tokens, type_tokens, catch_tokens, on_text}
use Rattle.dart_tree.specs.Tree as t
use Rattle.dart_tree.specs.Tree.{Expr, Stmt, Block, SwitchParts, TryParts}
use Rattle.dart_tree.specs.Tokens.{expr_tokens, operand_tokens, primary_tokens, arguments_tokens, parameters_tokens, stmt_tokens, loop_tokens, block_tokens, stmts_tokens, items_tokens, variables_tokens, function_tokens, switch_parts_tokens, try_parts_tokens}
use Rattle.dart_syntax.specs.Phrases.{made}
use Rattle.dart_syntax.specs.Leaves.{sign_tokens, word, word_tokens, begins_with_no_brace}
use Rattle.dart_syntax.specs.Statements.{StmtNodes, Within, to_stmts, to_default, to_cases, to_finally, is_shut, condition_over, block_over, if_over, updates_over, for_over, while_over, do_over, switch_parts_over, switch_over, try_part_over, append_parts, join_parts, finally_over, try_over, compound_over, jump_of, expression_of, unlabelled_of, stmt_of, nodes_over, no_nodes, within}
use Rattle.dart_syntax.specs.Agreement.{Agrees, StmtsAgree, WithinAgrees, section_tokens, bare_parameter_tokens}
use Rattle.dart_syntax.proofs.Agreeing.{no_room_agrees, seq_agrees, seq_if_agrees, opt_agrees, many_agrees, some_agrees, either_agrees, rather_agrees, perhaps_agrees, made_agrees, such_tokens_agrees}
use Rattle.dart_syntax.proofs.AgreeingTypes.{sign_agrees, word_agrees, named_agrees, identifier_agrees, types_within_agree}
use Rattle.dart_syntax.proofs.AgreeingExpressions.{label_agrees, maybe_expr_agrees, plain_list_agrees, arguments_agree, literal_agrees, cascade_agrees}
use Rattle.dart_syntax.proofs.AgreeingLevels.{expr_agrees, without_agrees, levels_agree, flat_agrees}
use Rattle.dart_syntax.proofs.AgreeingStatements.{parameter_agrees, parameters_agree, variables_agree, local_function_agrees, catch_agrees, some_kind_agrees}

-- ---- the lists of the trees

pub said_stmts : (xs : List Stmt) → stmts_tokens (to_stmts xs) ≡ flat_map stmt_tokens xs
unfolding stmts_tokens
said_stmts [] = refl
said_stmts (x ∷ xs) = ap (λ l. stmt_tokens x ++ l) (said_stmts xs)

pub said_labels : (xs : List Label) (x : Stmt) → stmt_tokens (t.with_labels xs x) ≡ flat_map label_tokens xs ++ stmt_tokens x
unfolding stmt_tokens
said_labels [] x = refl
said_labels (y ∷ ys) x = simp (said_labels ys x, append_assoc)

abbrev pub case_tokens : List Label × (Place × (Expr × (Place × List Stmt))) → List Token
case_tokens = both_spelling (flat_map label_tokens) (both_spelling (word_tokens w.Case) (both_spelling expr_tokens (both_spelling (sign_tokens s.Colon) (flat_map stmt_tokens))))

abbrev pub default_tokens : List Label × (Place × (Place × List Stmt)) → List Token
default_tokens = both_spelling (flat_map label_tokens) (both_spelling (word_tokens w.Default) (both_spelling (sign_tokens s.Colon) (flat_map stmt_tokens)))

pub said_cases : (xs : List (List Label × (Place × (Expr × (Place × List Stmt))))) (rest : SwitchParts) → switch_parts_tokens (to_cases xs rest) ≡ flat_map case_tokens xs ++ switch_parts_tokens rest
unfolding switch_parts_tokens
said_cases [] rest = refl
said_cases (x ∷ xs) rest = simp (said_cases xs rest, said_stmts, append_assoc)

pub said_default : (x : Option (List Label × (Place × (Place × List Stmt)))) → switch_parts_tokens (to_default x) ≡ option_spelling default_tokens x
unfolding switch_parts_tokens
said_default None = refl
said_default (Some x) = simp (said_stmts, append-nil)

pub said_switch_parts : (cases : List (List Label × (Place × (Expr × (Place × List Stmt))))) (rest : Option (List Label × (Place × (Place × List Stmt)))) → switch_parts_tokens (to_cases cases (to_default rest)) ≡ flat_map case_tokens cases ++ option_spelling default_tokens rest
said_switch_parts cases rest = simp (said_cases, said_default)

abbrev finally_tokens : Place × Block → List Token
finally_tokens = both_spelling (word_tokens w.Finally) block_tokens

pub said_finally : (x : Option (Place × Block)) → try_parts_tokens (to_finally x) ≡ option_spelling finally_tokens x
unfolding try_parts_tokens
said_finally None = refl
said_finally (Some x) = simp append-nil

pub said_append : (x rest : TryParts) → try_parts_tokens (append_parts x rest) ≡ try_parts_tokens x ++ try_parts_tokens rest
unfolding try_parts_tokens
said_append t.no_try_parts rest = refl
said_append (t.try_part kind block more) rest = simp (said_append more rest, append_assoc)

pub said_parts : (xs : List TryParts) (rest : TryParts) → try_parts_tokens (join_parts xs rest) ≡ flat_map try_parts_tokens xs ++ try_parts_tokens rest
unfolding try_parts_tokens
said_parts [] rest = refl
said_parts (x ∷ xs) rest = simp (said_append, said_parts xs rest, append_assoc)

-- ---- statements that hold statements

module _ {inner : Within} (I : WithinAgrees inner) where
  condition_agrees : Agrees (both_spelling (sign_tokens s.LeftParenthesis) (both_spelling expr_tokens (sign_tokens s.RightParenthesis))) (condition_over inner)
  condition_agrees = seq_agrees (sign_agrees s.LeftParenthesis) (seq_agrees I.nodes.expr_nodes.expr (sign_agrees s.RightParenthesis))

  block_agrees : Agrees block_tokens (block_over inner)
  unfolding block_tokens
  block_agrees = made_agrees block_tokens _ (seq_agrees (sign_agrees s.LeftBrace) (seq_agrees (many_agrees I.stmt) (sign_agrees s.RightBrace))) (λ x fits. simp said_stmts)

  if_agrees : Agrees stmt_tokens (if_over inner)
  unfolding stmt_tokens
  if_agrees = either_agrees (made_agrees stmt_tokens _ (seq_agrees (word_agrees w.If) (seq_agrees condition_agrees I.stmt)) (λ x fits. simp append_assoc))
      (made_agrees stmt_tokens _ (seq_agrees (word_agrees w.If) (seq_agrees condition_agrees (seq_if_agrees I.stmt (seq_agrees (word_agrees w.Else) I.stmt) is_shut))) (λ x fits. simp append_assoc))

  updates_agree : Agrees (both_spelling items_tokens (both_spelling (sign_tokens s.RightParenthesis) stmt_tokens)) (updates_over inner)
  unfolding items_tokens
  updates_agree = seq_agrees (perhaps_agrees t.no_items refl (plain_list_agrees I.nodes.expr_nodes.expr)) (seq_agrees (sign_agrees s.RightParenthesis) I.stmt)

  for_agrees : Agrees loop_tokens (for_over inner)
  unfolding loop_tokens
  for_agrees = either_agrees
      (made_agrees loop_tokens _ (seq_agrees (word_agrees w.For) (seq_agrees (sign_agrees s.LeftParenthesis) (seq_agrees (maybe_expr_agrees I.nodes.expr_nodes.expr) (seq_agrees (sign_agrees s.Semicolon) (seq_agrees (maybe_expr_agrees I.nodes.expr_nodes.expr) (seq_agrees (sign_agrees s.Semicolon) updates_agree)))))) (λ x fits. refl))
      (either_agrees
      (made_agrees loop_tokens _ (seq_agrees (word_agrees w.For) (seq_agrees (sign_agrees s.LeftParenthesis) (seq_agrees I.nodes.variables (seq_agrees (maybe_expr_agrees I.nodes.expr_nodes.expr) (seq_agrees (sign_agrees s.Semicolon) updates_agree))))) (λ x fits. refl))
      (made_agrees loop_tokens _ (seq_agrees (word_agrees w.For) (seq_agrees (sign_agrees s.LeftParenthesis) (seq_agrees (some_kind_agrees I.nodes.expr_nodes) (seq_agrees identifier_agrees (seq_agrees (word_agrees w.In) (seq_agrees I.nodes.expr_nodes.expr (seq_agrees (sign_agrees s.RightParenthesis) I.stmt))))))) (λ x fits. refl)))

  while_agrees : Agrees loop_tokens (while_over inner)
  unfolding loop_tokens
  while_agrees = made_agrees loop_tokens _ (seq_agrees (word_agrees w.While) (seq_agrees condition_agrees I.stmt)) (λ x fits. simp append_assoc)

  do_agrees : Agrees loop_tokens (do_over inner)
  unfolding loop_tokens
  do_agrees = made_agrees loop_tokens _ (seq_agrees (word_agrees w.Do) (seq_agrees I.stmt (seq_agrees (word_agrees w.While) (seq_agrees condition_agrees (sign_agrees s.Semicolon))))) (λ x fits. simp append_assoc)

  switch_parts_agree : Agrees switch_parts_tokens (switch_parts_over inner)
  switch_parts_agree = made_agrees switch_parts_tokens _ (seq_agrees
      (many_agrees (seq_agrees (many_agrees label_agrees) (seq_agrees (word_agrees w.Case) (seq_agrees I.nodes.expr_nodes.expr (seq_agrees (sign_agrees s.Colon) (many_agrees I.stmt))))))
      (opt_agrees (seq_agrees (many_agrees label_agrees) (seq_agrees (word_agrees w.Default) (seq_agrees (sign_agrees s.Colon) (many_agrees I.stmt))))))
      (λ x fits. said_switch_parts x.0 x.1)

  switch_agrees : Agrees stmt_tokens (switch_over inner)
  unfolding stmt_tokens
  switch_agrees = made_agrees stmt_tokens _ (seq_agrees (word_agrees w.Switch) (seq_agrees condition_agrees (seq_agrees (sign_agrees s.LeftBrace) (seq_agrees switch_parts_agree (sign_agrees s.RightBrace))))) (λ x fits. simp append_assoc)

  try_part_agrees : Agrees try_parts_tokens (try_part_over inner)
  unfolding try_parts_tokens
  try_part_agrees = either_agrees
      (made_agrees try_parts_tokens _ (seq_agrees (named_agrees on_text) (seq_agrees I.nodes.expr_nodes.type (seq_agrees (opt_agrees I.nodes.catch_clause) I.nodes.expr_nodes.block))) (λ x fits. simp (append_assoc, append-nil)))
      (made_agrees try_parts_tokens _ (seq_agrees I.nodes.catch_clause I.nodes.expr_nodes.block) (λ x fits. simp append-nil))

  finally_agrees : Agrees finally_tokens (finally_over inner)
  finally_agrees = seq_agrees (word_agrees w.Finally) I.nodes.expr_nodes.block

  try_agrees : Agrees stmt_tokens (try_over inner)
  unfolding stmt_tokens try_parts_tokens
  try_agrees = made_agrees stmt_tokens _ (seq_agrees (word_agrees w.Try) (seq_agrees I.nodes.expr_nodes.block (either_agrees
      (made_agrees try_parts_tokens _ (seq_agrees (some_agrees try_part_agrees) (opt_agrees finally_agrees)) (λ x fits. simp (said_append, said_parts, said_finally, append_assoc)))
      (made_agrees try_parts_tokens _ finally_agrees (λ x fits. simp append-nil))))) (λ x fits. refl)

  compound_agrees : Agrees stmt_tokens (compound_over inner)
  unfolding stmt_tokens
  compound_agrees = either_agrees if_agrees (either_agrees (made_agrees stmt_tokens t.loop (either_agrees for_agrees (either_agrees while_agrees do_agrees)) (λ x fits. refl)) (either_agrees switch_agrees try_agrees))

-- ---- statements of the same depth

no_brace : (x y : List Token) → begins_with_no_brace (x ++ y) ≡ true → begins_with_no_brace x ≡ true
no_brace [] y ok = refl
no_brace (t ∷ x) y ok = ok

module _ {here : StmtNodes} (H : StmtsAgree here) where
  jump_agrees : Agrees stmt_tokens (jump_of here)
  unfolding stmt_tokens
  jump_agrees = either_agrees (made_agrees stmt_tokens _ (seq_agrees (word_agrees w.Return) (seq_agrees (maybe_expr_agrees H.expr_nodes.expr) (sign_agrees s.Semicolon))) (λ x fits. refl))
      (either_agrees (made_agrees stmt_tokens _ (seq_agrees (word_agrees w.Break) (seq_agrees (opt_agrees identifier_agrees) (sign_agrees s.Semicolon))) (λ x fits. refl))
      (either_agrees (made_agrees stmt_tokens _ (seq_agrees (word_agrees w.Continue) (seq_agrees (opt_agrees identifier_agrees) (sign_agrees s.Semicolon))) (λ x fits. refl))
      (made_agrees stmt_tokens _ (seq_agrees (word_agrees w.Rethrow) (sign_agrees s.Semicolon)) (λ x fits. refl))))

  expression_agrees : Agrees stmt_tokens (expression_of here)
  unfolding stmt_tokens
  expression_agrees = such_tokens_agrees begins_with_no_brace refl no_brace (made_agrees stmt_tokens _ (seq_agrees (maybe_expr_agrees H.expr_nodes.expr) (sign_agrees s.Semicolon)) (λ x fits. refl))

  unlabelled_agrees : Agrees stmt_tokens (unlabelled_of here)
  unfolding stmt_tokens
  unlabelled_agrees = rather_agrees (either_agrees (made_agrees stmt_tokens t.variables_stmt H.variables (λ x fits. refl)) (made_agrees stmt_tokens t.function_stmt H.local_function (λ x fits. refl)))
      (either_agrees (made_agrees stmt_tokens t.block_stmt H.expr_nodes.block (λ x fits. refl)) (either_agrees H.compound (either_agrees jump_agrees expression_agrees)))

  pub stmt_agrees : Agrees stmt_tokens (stmt_of here)
  stmt_agrees = made_agrees stmt_tokens _ (seq_agrees (many_agrees label_agrees) unlabelled_agrees) (λ x fits. said_labels x.0 x.1)

-- ---- the whole, by depth

bare_agrees : Agrees operand_tokens (made operand_tokens (λ x. t.primary (t.bare_super x)) (word w.Super))
unfolding operand_tokens
bare_agrees = made_agrees operand_tokens _ (word_agrees w.Super) (λ x fits. refl)

nodes_agree : (n : ℕ) (inner : Within) → WithinAgrees inner → StmtsAgree (nodes_over n inner)
unfolding nodes_over
nodes_agree n inner I = record {
  expr_nodes = record {
    type = types_within_agree (suc n);
    expr = expr_agrees I.levels I.nodes.expr_nodes;
    without = without_agrees I.levels I.nodes.expr_nodes;
    cascade = cascade_agrees I.nodes.expr_nodes;
    bare = bare_agrees;
    literal = literal_agrees I.nodes.expr_nodes;
    arguments = arguments_agree I.nodes.expr_nodes;
    parameters = parameters_agree I.nodes;
    block = block_agrees I;
  };
  variables = variables_agree I.nodes;
  local_function = local_function_agrees I.nodes;
  parameter = parameter_agrees I.nodes;
  catch_clause = catch_agrees I.nodes;
  compound = compound_agrees I;
}

no_nodes_agree : StmtsAgree no_nodes
no_nodes_agree = record {
  expr_nodes = record {
    type = no_room_agrees type_tokens;
    expr = no_room_agrees expr_tokens;
    without = no_room_agrees expr_tokens;
    cascade = no_room_agrees section_tokens;
    bare = no_room_agrees operand_tokens;
    literal = no_room_agrees primary_tokens;
    arguments = no_room_agrees arguments_tokens;
    parameters = no_room_agrees parameters_tokens;
    block = no_room_agrees block_tokens;
  };
  variables = no_room_agrees variables_tokens;
  local_function = no_room_agrees function_tokens;
  parameter = no_room_agrees bare_parameter_tokens;
  catch_clause = no_room_agrees catch_tokens;
  compound = no_room_agrees stmt_tokens;
}

pub within_agrees : (n : ℕ) → WithinAgrees (within n)
unfolding within
within_agrees zero = record { nodes = no_nodes_agree; levels = flat_agrees no_nodes.expr_nodes no_nodes_agree.expr_nodes; stmt = stmt_agrees no_nodes_agree }
within_agrees (suc n) =
    let below : WithinAgrees (within n) = within_agrees n in
    let nodes : StmtsAgree (nodes_over n (within n)) = nodes_agree n (within n) below in
    record {
      nodes = nodes;
      levels = levels_agree (nodes_over n (within n)).expr_nodes (within n).nodes.expr_nodes (within n).levels nodes.expr_nodes below.nodes.expr_nodes below.levels;
      stmt = stmt_agrees nodes;
    }
