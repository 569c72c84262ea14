-- Variables and local functions lead to where no expression is, and nothing that begins one leads to where no declaration is.
use Rattle.std.proofs.Common.{ℕ, zero, suc, Bool, [], ◌∷◌, None, refl, append_assoc}
use Rattle.dart_token.specs.declared.sign.Sign.TheVariants as s
use Rattle.dart_token.specs.declared.word.Word.TheVariants as w
use Rattle.dart_tree.specs.Tree as t
use Rattle.dart_tree.specs.Tokens.{stmt_tokens, value_tokens, body_tokens, parameters_tokens, variables_tokens, function_tokens, block_tokens}
use Rattle.grammar_laws.specs.Fronts.{option_spelling}
use Rattle.dart_syntax.specs.Leaves.{word_tokens}
use Rattle.dart_syntax.specs.Types.{kind_leaves_name, result_leaves_name}
use Rattle.dart_syntax.specs.Expressions.{after_sign}
use Rattle.dart_syntax.specs.Statements.{StmtNodes, whole_body, variables_over, local_function_over, declaration_of, nodes_over, within}
use Rattle.dart_syntax.specs.Agreement.{StmtsAgree}
use Rattle.dart_syntax.proofs.Agreeing.{seq_agrees, many_agrees}
use Rattle.dart_syntax.proofs.AgreeingTypes.{sign_agrees}
use Rattle.dart_syntax.proofs.AgreeingStatements.{said_variables, said_word}
use Rattle.dart_syntax.proofs.AgreeingStages.{said_stmts, within_agrees}
use Rattle.laws_apart.proofs.Telling.{State, named, called, opened, shut, typing, typed, known, free, wrong, neither, among, outside}
use Rattle.laws_apart.proofs.Judges.{none_leads, empty_leads, the_sign, an_identifier, seq_leads, seq_if_leads, either_leads, perhaps_leads, made_leads}
use Rattle.laws_apart.proofs.Judges.{many_leads, eased, absorbs, Parenthesized}
use Rattle.laws_apart.proofs.Leading.{Leads, parenthesized_leads}
use Rattle.laws_apart.proofs.Types.{at_begin, behind_any_kind, behind_variables_kind, TypesLead, types_lead, variables_kind_leads, result_leads}

-- what no beginning of a declaration leads to
abbrev pub declared_fine : State → Bool
declared_fine = outside (free ∷ neither ∷ [])

abbrev pub at_wrong : State → Bool
at_wrong = among (wrong ∷ [])

-- behind a variable's name, and behind its value too
abbrev behind_variable : State → Bool
behind_variable = among (typed ∷ known ∷ shut ∷ wrong ∷ [])

abbrev behind_comma : State → Bool
behind_comma = among (typing ∷ opened ∷ wrong ∷ [])

abbrev behind_function_name : State → Bool
behind_function_name = among (named ∷ typed ∷ known ∷ [])

abbrev behind_parameters : State → Bool
behind_parameters = among (called ∷ wrong ∷ [])

module _ {inner : StmtNodes} (A : StmtsAgree inner) (T : TypesLead inner.expr_nodes.type) where
  value_leads : Leads declared_fine behind_variable behind_variable value_tokens (after_sign s.Assign inner.expr_nodes.expr)
  unfolding value_tokens
  value_leads = perhaps_leads (made_leads
      (seq_leads (the_sign declared_fine behind_variable at_wrong s.Assign refl)
      (eased (absorbs declared_fine at_wrong refl A.expr_nodes.expr) declared_fine at_wrong behind_variable refl)) value_tokens _ (λ x. refl)) t.omitted refl
      refl refl

  pub variables_lead : Leads declared_fine at_begin at_wrong variables_tokens (variables_over inner)
  unfolding variables_tokens
  variables_lead = made_leads (seq_leads (seq_if_leads (eased (variables_kind_leads T) declared_fine at_begin behind_variables_kind refl)
      (an_identifier declared_fine behind_variables_kind behind_variable refl) kind_leaves_name)
      (seq_leads value_leads (seq_leads
      (many_leads (seq_leads (the_sign declared_fine behind_variable behind_comma s.Comma refl)
      (seq_leads (an_identifier declared_fine behind_comma behind_variable refl) value_leads)))
      (the_sign declared_fine behind_variable at_wrong s.Semicolon refl)))) variables_tokens _ (λ x. simp (said_variables, append_assoc))

  module _ (P : Parenthesized parameters_tokens inner.expr_nodes.parameters)
      (B : Leads declared_fine behind_parameters at_wrong block_tokens inner.expr_nodes.block) where
    body_leads : Leads declared_fine behind_parameters at_wrong body_tokens (whole_body inner.expr_nodes)
    unfolding body_tokens
    body_leads = either_leads
        (made_leads (seq_leads (the_sign declared_fine behind_parameters at_wrong s.Arrow refl)
        (absorbs declared_fine at_wrong refl (seq_agrees A.expr_nodes.expr (sign_agrees s.Semicolon)))) body_tokens _ (λ x. refl))
        (made_leads B body_tokens t.block_body (λ x. refl))

    pub function_leads : Leads declared_fine at_begin at_wrong function_tokens (local_function_over inner)
    unfolding function_tokens
    function_leads = made_leads (seq_leads (empty_leads declared_fine at_begin at_begin (option_spelling (word_tokens w.External)) refl
        (option_spelling (word_tokens w.External)) (λ x. refl) None refl refl)
        (seq_leads (seq_if_leads (eased (result_leads T) declared_fine at_begin behind_any_kind refl)
        (an_identifier declared_fine behind_any_kind behind_function_name refl) result_leaves_name)
        (seq_leads (parenthesized_leads declared_fine behind_function_name behind_parameters P refl) body_leads))) function_tokens _
        (λ x. simp (said_word, append_assoc))

-- ---- by depth

blocks_lead : (n : ℕ) → Leads declared_fine behind_parameters at_wrong block_tokens (within n).nodes.expr_nodes.block
unfolding within nodes_over block_tokens
blocks_lead zero = none_leads declared_fine behind_parameters at_wrong block_tokens refl
blocks_lead (suc n) = made_leads (seq_leads (the_sign declared_fine behind_parameters at_wrong s.LeftBrace refl)
    (absorbs declared_fine at_wrong refl (seq_agrees (many_agrees (within_agrees n).stmt) (sign_agrees s.RightBrace)))) block_tokens _ (λ x. simp said_stmts)

pub variables_lead_at : (n : ℕ) → Leads declared_fine at_begin at_wrong variables_tokens (within n).nodes.variables
unfolding within nodes_over
variables_lead_at zero = none_leads declared_fine at_begin at_wrong variables_tokens refl
variables_lead_at (suc n) = variables_lead (within_agrees n).nodes (types_lead n)

module _ (P : (n : ℕ) → Parenthesized parameters_tokens (within n).nodes.expr_nodes.parameters) where
  functions_lead : (n : ℕ) → Leads declared_fine at_begin at_wrong function_tokens (within n).nodes.local_function
  unfolding within nodes_over
  functions_lead zero = none_leads declared_fine at_begin at_wrong function_tokens refl
  functions_lead (suc n) = function_leads (within_agrees n).nodes (types_lead n) (P n) (blocks_lead n)

  pub declarations_lead : (n : ℕ) → Leads declared_fine at_begin at_wrong stmt_tokens (declaration_of (within n).nodes)
  unfolding stmt_tokens
  declarations_lead n = either_leads (made_leads (variables_lead_at n) stmt_tokens t.variables_stmt (λ x. refl))
      (made_leads (functions_lead n) stmt_tokens t.function_stmt (λ x. refl))
