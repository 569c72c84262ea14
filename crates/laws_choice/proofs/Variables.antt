-- Variables lead to where nothing else is, and nothing that begins them leads to where a function or an accessor is.
use Rattle.std.proofs.Common.{◌≡◌, ℕ, zero, suc, Bool, true, [], ◌∷◌, inl, inr, refl, ap, ◌∙◌, subst, append_assoc}
use Rattle.dart_token.specs.declared.sign.Sign.TheVariants as s
use Rattle.dart_token.specs.declared.word.Word.TheVariants as w
use Rattle.dart_tree.specs.LeafTokens.{type_tokens, kind_tokens}
use Rattle.dart_tree.specs.Types.{VariableKind, var_kind, final_kind, const_kind, typed_kind}
use Rattle.dart_tree.specs.Tree as t
use Rattle.dart_tree.specs.Tokens.{value_tokens, variables_tokens}
use Rattle.dart_tree.specs.Unit as d
use Rattle.dart_tree.specs.UnitTokens.{decl_kind_tokens}
use Rattle.dart_syntax.specs.Phrases.{◌~◌, opt, made, made₂}
use Rattle.dart_syntax.specs.Leaves.{word}
use Rattle.dart_syntax.specs.Types.{variables_kind_over, kind_leaves_name}
use Rattle.dart_syntax.specs.Expressions.{after_sign}
use Rattle.dart_syntax.specs.Statements.{StmtNodes, variables_over, nodes_over, within}
use Rattle.dart_syntax.specs.Agreement.{StmtsAgree}
use Rattle.dart_syntax.proofs.Agreeing.{opt_agrees}
use Rattle.dart_syntax.proofs.AgreeingStatements.{said_variables}
use Rattle.dart_syntax.proofs.AgreeingStages.{within_agrees}
use Rattle.laws_apart.proofs.Judges.{through_more, none_leads, the_sign, the_word, an_identifier, seq_leads, seq_narrow_leads, either_leads, perhaps_leads}
use Rattle.laws_apart.proofs.Judges.{made_leads, many_leads, eased, absorbs}
use Rattle.laws_unit.specs.Statements.{variables_decl}
use Rattle.laws_choice.proofs.Judging.{State, lone, typed, known, known_word, calling, accessing, holding, among, outside}
use Rattle.laws_choice.proofs.Leading.{Through, Leads, judging}
use Rattle.laws_choice.proofs.Types.{at_begin, at_typed, TypesLead, types_lead}

-- what no beginning of variables leads to
abbrev pub variable_fine : State → Bool
variable_fine = outside (calling ∷ accessing ∷ [])

abbrev pub at_holding : State → Bool
at_holding = among (holding ∷ [])

abbrev any_kind : State → Bool
any_kind = among (lone ∷ typed ∷ holding ∷ [])

-- behind a kind that leaves a name
abbrev behind_kind : State → Bool
behind_kind = among (typed ∷ holding ∷ [])

-- behind a variable's name, and behind its value too
abbrev behind_variable : State → Bool
behind_variable = among (known ∷ known_word ∷ holding ∷ [])

module _ {inner : StmtNodes} (A : StmtsAgree inner) (T : TypesLead inner.expr_nodes.type) where
  var_leads : Leads variable_fine at_begin behind_kind kind_tokens (made kind_tokens var_kind (word w.Var))
  var_leads = made_leads (the_word variable_fine at_begin behind_kind w.Var refl) kind_tokens var_kind (λ x. refl)

  final_leads : Leads variable_fine at_begin behind_kind kind_tokens (made₂ kind_tokens final_kind (word w.Final ~ opt inner.expr_nodes.type))
  final_leads = made_leads (seq_leads (the_word variable_fine at_begin at_holding w.Final refl)
      (eased (absorbs variable_fine at_holding refl (opt_agrees A.expr_nodes.type)) variable_fine at_holding behind_kind refl)) kind_tokens _ (λ x. refl)

  const_leads : Leads variable_fine at_begin behind_kind kind_tokens (made₂ kind_tokens const_kind (word w.Const ~ opt inner.expr_nodes.type))
  const_leads = made_leads (seq_leads (the_word variable_fine at_begin at_holding w.Const refl)
      (eased (absorbs variable_fine at_holding refl (opt_agrees A.expr_nodes.type)) variable_fine at_holding behind_kind refl)) kind_tokens _ (λ x. refl)

  kind_leads : Leads variable_fine at_begin any_kind kind_tokens (variables_kind_over inner.expr_nodes.type)
  kind_leads = either_leads (either_leads (eased var_leads variable_fine at_begin any_kind refl)
      (either_leads (eased final_leads variable_fine at_begin any_kind refl)
      (made_leads (eased T.first variable_fine at_begin any_kind refl) kind_tokens typed_kind (λ x. refl))))
      (eased const_leads variable_fine at_begin any_kind refl)

  kind_narrow : (x : VariableKind) → (variables_kind_over inner.expr_nodes.type).Fits x → kind_leaves_name x ≡ true → (z : State) → at_begin z ≡ true →
      Through behind_kind z (kind_tokens x)
  kind_narrow x (inl (inl fits)) h z from = var_leads.ends x fits z from
  kind_narrow x (inl (inr (inl fits))) h z from = final_leads.ends x fits z from
  kind_narrow x (inl (inr (inr (y, fits, is)))) h z from = subst (λ (c : VariableKind). Through behind_kind z (kind_tokens c)) is
      (through_more judging at_typed behind_kind refl z (type_tokens y) (T.narrow y fits (ap kind_leaves_name is ∙ h) z from))
  kind_narrow x (inr fits) h z from = const_leads.ends x fits z from

  value_leads : Leads variable_fine behind_variable behind_variable value_tokens (after_sign s.Assign inner.expr_nodes.expr)
  unfolding value_tokens
  value_leads = perhaps_leads (made_leads
      (seq_leads (the_sign variable_fine behind_variable at_holding s.Assign refl)
      (eased (absorbs variable_fine at_holding refl A.expr_nodes.expr) variable_fine at_holding behind_variable refl)) value_tokens _ (λ x. refl)) t.omitted
      refl refl refl

  variables_lead : Leads variable_fine at_begin at_holding variables_tokens (variables_over inner)
  unfolding variables_tokens
  variables_lead = made_leads (seq_leads (seq_narrow_leads kind_leads
      (an_identifier variable_fine behind_kind behind_variable refl) kind_leaves_name kind_narrow)
      (seq_leads value_leads (seq_leads
      (many_leads (seq_leads (the_sign variable_fine behind_variable at_holding s.Comma refl)
      (seq_leads (an_identifier variable_fine at_holding behind_variable refl) value_leads)))
      (the_sign variable_fine behind_variable at_holding s.Semicolon refl)))) variables_tokens _ (λ x. simp (said_variables, append_assoc))

-- ---- by depth

variables_lead_at : (n : ℕ) → Leads variable_fine at_begin at_holding variables_tokens (within n).nodes.variables
unfolding within nodes_over
variables_lead_at zero = none_leads variable_fine at_begin at_holding variables_tokens refl
variables_lead_at (suc n) = variables_lead (within_agrees n).nodes (types_lead n)

pub variables_decl_leads : (n : ℕ) → Leads variable_fine at_begin at_holding decl_kind_tokens (variables_decl n)
variables_decl_leads n = made_leads (variables_lead_at n) decl_kind_tokens d.variables_decl (λ x. refl)
