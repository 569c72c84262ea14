-- Functions and accessors lead to where nothing else is, and nothing that begins one of them leads to where another declaration is.
use Rattle.std.proofs.Common.{ℕ, zero, suc, Bool, [], ◌∷◌, refl, append_assoc}
use Rattle.dart_token.specs.declared.word.Word.TheVariants as w
use Rattle.dart_tree.specs.Tokens.{parameters_tokens, function_tokens}
use Rattle.dart_tree.specs.Unit as d
use Rattle.dart_tree.specs.UnitTokens.{accessor_kind_tokens, accessor_tokens, decl_kind_tokens}
use Rattle.dart_syntax.specs.Types.{result_leaves_name}
use Rattle.dart_syntax.specs.Statements.{StmtNodes, body_of, function_over}
use Rattle.dart_syntax.specs.Declarations.{external_or_none, function_within, accessor_within, accessor_kind_over, accessor_over}
use Rattle.dart_syntax.specs.Agreement.{StmtsAgree}
use Rattle.dart_syntax.proofs.AgreeingStatements.{said_word, body_agrees}
use Rattle.dart_syntax.proofs.AgreeingStages.{within_agrees}
use Rattle.laws_apart.proofs.Judges.{Parenthesized, none_leads, the_word, an_identifier, seq_leads, seq_narrow_leads, either_leads, opt_leads, made_leads}
use Rattle.laws_apart.proofs.Judges.{eased, absorbs}
use Rattle.laws_choice.proofs.Leading.{Leads, parenthesized_leads}
use Rattle.laws_apart.proofs.Bracketed.{brackets}
use Rattle.laws_unit.specs.Statements.{function_decls, accessor_decls}
use Rattle.laws_choice.proofs.Judging.{State, lone, typed, known, known_word, calling, accessing, holding, among, outside}
use Rattle.laws_choice.proofs.Types.{at_begin, any_result, begun_or_typed, TypesLead, types_lead, result_leads, result_narrow}

-- what no beginning of a function leads to, and none of an accessor
abbrev pub function_fine : State → Bool
function_fine = outside (accessing ∷ holding ∷ [])

abbrev pub accessor_fine : State → Bool
accessor_fine = outside (calling ∷ holding ∷ [])

abbrev pub at_calling : State → Bool
at_calling = among (calling ∷ [])

abbrev pub at_accessing : State → Bool
at_accessing = among (accessing ∷ [])

-- behind a function's name
abbrev behind_name : State → Bool
behind_name = among (lone ∷ typed ∷ known ∷ known_word ∷ [])

-- behind the `get` or `set` of an accessor
abbrev behind_word : State → Bool
behind_word = among (lone ∷ known_word ∷ [])

module _ {inner : StmtNodes} (A : StmtsAgree inner) (T : TypesLead inner.expr_nodes.type) where
  function_leads : Parenthesized parameters_tokens inner.expr_nodes.parameters → Leads function_fine at_begin at_calling function_tokens
      (function_over inner external_or_none (body_of inner.expr_nodes))
  unfolding function_tokens
  function_leads P = made_leads (seq_leads (opt_leads (the_word function_fine at_begin at_begin w.External refl) (λ z h. h))
      (seq_leads (seq_narrow_leads (eased (result_leads T) function_fine at_begin any_result refl)
      (an_identifier function_fine begun_or_typed behind_name refl) result_leaves_name (result_narrow T))
      (seq_leads (parenthesized_leads function_fine behind_name at_calling P refl refl) (absorbs function_fine at_calling refl (body_agrees A.expr_nodes)))))
      function_tokens _ (λ x. simp (said_word, append_assoc))

  accessor_kind_leads : Leads accessor_fine begun_or_typed at_accessing accessor_kind_tokens (accessor_kind_over inner)
  accessor_kind_leads = either_leads
      (made_leads (seq_leads (the_word accessor_fine begun_or_typed behind_word w.Get refl) (an_identifier accessor_fine behind_word at_accessing refl))
      accessor_kind_tokens _ (λ x. refl))
      (made_leads (seq_leads (the_word accessor_fine begun_or_typed behind_word w.Set refl)
      (seq_leads (an_identifier accessor_fine behind_word at_accessing refl) (absorbs accessor_fine at_accessing refl A.expr_nodes.parameters)))
      accessor_kind_tokens _ (λ x. refl))

  accessor_leads : Leads accessor_fine at_begin at_accessing accessor_tokens (accessor_over inner external_or_none)
  accessor_leads = made_leads (seq_leads (opt_leads (the_word accessor_fine at_begin at_begin w.External refl) (λ z h. h))
      (seq_leads (seq_narrow_leads (eased (result_leads T) accessor_fine at_begin any_result refl) accessor_kind_leads result_leaves_name (result_narrow T))
      (absorbs accessor_fine at_accessing refl (body_agrees A.expr_nodes)))) accessor_tokens _ (λ x. simp (said_word, append_assoc))

-- ---- by depth

functions_lead : (n : ℕ) → Leads function_fine at_begin at_calling function_tokens (function_within external_or_none n)
functions_lead zero = none_leads function_fine at_begin at_calling function_tokens refl
functions_lead (suc n) = function_leads (within_agrees n).nodes (types_lead n) (brackets.parameters n)

accessors_lead : (n : ℕ) → Leads accessor_fine at_begin at_accessing accessor_tokens (accessor_within external_or_none n)
accessors_lead zero = none_leads accessor_fine at_begin at_accessing accessor_tokens refl
accessors_lead (suc n) = accessor_leads (within_agrees n).nodes (types_lead n)

pub function_decls_lead : (n : ℕ) → Leads function_fine at_begin at_calling decl_kind_tokens (function_decls n)
function_decls_lead n = made_leads (functions_lead n) decl_kind_tokens d.function_decl (λ x. refl)

pub accessor_decls_lead : (n : ℕ) → Leads accessor_fine at_begin at_accessing decl_kind_tokens (accessor_decls n)
accessor_decls_lead n = made_leads (accessors_lead n) decl_kind_tokens d.accessor_decl (λ x. refl)
