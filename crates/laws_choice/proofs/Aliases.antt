-- No list of tokens leaves a choice between an alias with a result and one without.
use Rattle.std.proofs.Common.{ℕ, Bool, [], ◌∷◌, ◌++◌, None, Some, refl, append_assoc}
use Rattle.dart_token.specs.declared.sign.Sign.TheVariants as s
use Rattle.dart_token.specs.declared.word.Word.TheVariants as w
use Rattle.dart_tree.specs.LeafTokens.{identifier_tokens, result_tokens}
use Rattle.dart_tree.specs.Tokens.{annotation_tokens, metadata_tokens}
use Rattle.dart_tree.specs.UnitTokens.{bound_tokens, type_parameters_tokens, alias_tokens}
use Rattle.grammar_laws.specs.Fronts.{both_spelling, option_spelling}
use Rattle.dart_syntax.specs.Phrases.{◌~◌, opt, many, made}
use Rattle.dart_syntax.specs.Leaves.{sign, identifier, plain_identifier, dot_name}
use Rattle.dart_syntax.specs.Statements.{StmtNodes, within, to_metadata, to_annotation, metadata_of}
use Rattle.dart_syntax.specs.Declarations.{bound_over, type_parameters_over}
use Rattle.dart_syntax.specs.Agreement.{StmtsAgree}
use Rattle.dart_syntax.proofs.Agreeing.{seq_agrees, opt_agrees, many_agrees}
use Rattle.dart_syntax.proofs.AgreeingTypes.{sign_agrees, identifier_agrees, dot_name_agrees}
use Rattle.dart_syntax.proofs.AgreeingStatements.{said_metadata, said_annotation}
use Rattle.dart_syntax.proofs.AgreeingDeclarations.{said_parameters}
use Rattle.dart_syntax.proofs.AgreeingStages.{within_agrees}
use Rattle.laws_apart.proofs.Judges.{empty_leads, the_sign, the_word, seq_leads, opt_leads, made_leads, many_leads, eased, absorbs, absorbs_own, refuted}
use Rattle.laws_apart.proofs.Judges.{distinct}
use Rattle.laws_apart.proofs.Bracketed.{brackets}
use Rattle.laws_unit.specs.Statements.{alias_with, some_result, no_result, AliasesApartAt}
use Rattle.laws_choice.proofs.Judging.{State, begun, named, listing, listed, closed, resulting, bare, among, outside, included}
use Rattle.laws_choice.proofs.Leading.{Leads, a_plain_identifier, parenthesized_leads, judging}
use Rattle.laws_choice.proofs.Types.{at_begin, at_aliased, at_resulting, result_fine, behind_result, types_lead, aliased_result_leads}

-- what no alias without a result leads to
abbrev bare_fine : State → Bool
bare_fine = outside (resulting ∷ [])

abbrev at_bare : State → Bool
at_bare = among (bare ∷ [])

abbrev at_named : State → Bool
at_named = among (named ∷ [])

-- where a type parameter is due, behind one, behind all, and behind all or none
abbrev listing_or_bare : State → Bool
listing_or_bare = among (listing ∷ bare ∷ [])

abbrev listed_or_bare : State → Bool
listed_or_bare = among (listed ∷ bare ∷ [])

abbrev closed_or_bare : State → Bool
closed_or_bare = among (closed ∷ bare ∷ [])

abbrev behind_parameters : State → Bool
behind_parameters = among (named ∷ closed ∷ bare ∷ [])

-- ---- type parameters

module _ {inner : StmtNodes} (A : StmtsAgree inner) where
  annotation_leads : Leads bare_fine listing_or_bare listing_or_bare annotation_tokens
      (made annotation_tokens to_annotation (sign s.AtSign ~ identifier ~ many dot_name ~ opt inner.expr_nodes.arguments))
  annotation_leads = made_leads (seq_leads (the_sign bare_fine listing_or_bare at_bare s.AtSign refl)
      (eased (absorbs bare_fine at_bare refl (seq_agrees identifier_agrees (seq_agrees (many_agrees dot_name_agrees) (opt_agrees A.expr_nodes.arguments))))
      bare_fine at_bare listing_or_bare refl)) annotation_tokens to_annotation said_annotation

  metadata_leads : Leads bare_fine listing_or_bare listing_or_bare metadata_tokens (metadata_of inner.expr_nodes)
  metadata_leads = made_leads (many_leads annotation_leads) metadata_tokens to_metadata said_metadata

  bound_leads : Leads bare_fine listed_or_bare listed_or_bare bound_tokens (bound_over inner)
  bound_leads = made_leads (seq_leads (the_word bare_fine listed_or_bare at_bare w.Extends refl)
      (eased (absorbs bare_fine at_bare refl A.expr_nodes.type) bare_fine at_bare listed_or_bare refl)) bound_tokens _ (λ x. refl)

  type_parameter_leads : Leads bare_fine listing_or_bare listed_or_bare (both_spelling metadata_tokens (both_spelling identifier_tokens
      (option_spelling bound_tokens))) (metadata_of inner.expr_nodes ~ plain_identifier ~ opt (bound_over inner))
  type_parameter_leads = seq_leads metadata_leads (seq_leads (a_plain_identifier bare_fine listing_or_bare listed_or_bare refl)
      (opt_leads bound_leads (λ z h. h)))

  type_parameters_lead : Leads bare_fine at_named closed_or_bare type_parameters_tokens (type_parameters_over inner)
  type_parameters_lead = made_leads (seq_leads (the_sign bare_fine at_named listing_or_bare s.Less refl) (seq_leads
      (seq_leads type_parameter_leads (many_leads (seq_leads (the_sign bare_fine listed_or_bare listing_or_bare s.Comma refl) type_parameter_leads)))
      (the_sign bare_fine listed_or_bare closed_or_bare s.Greater refl))) type_parameters_tokens _ (λ x. simp (said_parameters, append_assoc))

-- ---- aliases

module _ (n : ℕ) where
  abbrev A : StmtsAgree (within n).nodes
  A = (within_agrees n).nodes

  typed_leads : Leads result_fine at_begin at_resulting alias_tokens (alias_with n (some_result n))
  typed_leads = made_leads (seq_leads (the_word result_fine at_begin at_aliased w.Typedef refl)
      (seq_leads (made_leads (aliased_result_leads (types_lead n)) (option_spelling result_tokens) (λ x. Some x) (λ x. refl))
      (seq_leads (a_plain_identifier result_fine behind_result at_resulting refl)
      (seq_leads (absorbs_own result_fine at_resulting refl (opt (type_parameters_over (within n).nodes)))
      (absorbs result_fine at_resulting refl (seq_agrees A.expr_nodes.parameters (sign_agrees s.Semicolon))))))) alias_tokens _ (λ x. refl)

  bare_leads : Leads bare_fine at_begin at_bare alias_tokens (alias_with n no_result)
  bare_leads = made_leads (seq_leads (the_word bare_fine at_begin at_aliased w.Typedef refl)
      (seq_leads (empty_leads bare_fine at_aliased at_aliased (option_spelling result_tokens) refl (option_spelling result_tokens) (λ x. refl) None refl refl)
      (seq_leads (a_plain_identifier bare_fine at_aliased at_named refl)
      (seq_leads (opt_leads (eased (type_parameters_lead A) bare_fine at_named behind_parameters refl) (included at_named behind_parameters refl))
      (seq_leads (parenthesized_leads bare_fine behind_parameters at_bare (brackets.parameters n) refl refl)
      (the_sign bare_fine at_bare at_bare s.Semicolon refl))))))
      alias_tokens _ (λ x. refl)

  pub aliases_apart_at : AliasesApartAt n
  aliases_apart_at = record {
    over_typed = λ a t ts fits f. refuted judging begun bare_fine at_resulting refl (alias_tokens a) (t ∷ ts) (typed_leads.ends a fits begun refl)
        (bare_leads.holds (alias_tokens a ++ t ∷ ts) f begun refl);
    over_bare = λ a t ts fits f. refuted judging begun result_fine at_bare refl (alias_tokens a) (t ∷ ts) (bare_leads.ends a fits begun refl)
        (typed_leads.holds (alias_tokens a ++ t ∷ ts) f begun refl);
    never_both = λ a b fits other same. distinct judging begun bare_fine at_resulting at_bare refl refl (alias_tokens a) (alias_tokens b)
        (typed_leads.ends a fits begun refl) (bare_leads.ends b other begun refl) same;
  }
