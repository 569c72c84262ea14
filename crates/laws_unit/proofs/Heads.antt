-- The laws of what the heads of classes and aliases are made of, over metadata and types (ECMA-408, 10 Classes, 14 Generics).
use Rattle.std.proofs.Common.{ℕ, false, List, [], ◌∷◌, ◌++◌, Option, refl, ap, append_assoc}
use Rattle.dart_base.specs.declared.place.Place.{Place}
use Rattle.dart_token.specs.declared.sign.Sign.TheVariants as s
use Rattle.dart_token.specs.declared.word.Word.TheVariants as w
use Rattle.dart_tree.specs.declared.identifier.Identifier.{Identifier}
use Rattle.dart_tree.specs.LeafTokens.{type_tokens, type_list_tokens}
use Rattle.dart_tree.specs.Types.{TypeNode, TypeList}
use Rattle.dart_tree.specs.Tree.{Metadata}
use Rattle.dart_tree.specs.Unit.{Bound, TypeClause, TypeParameters, Superclass}
use Rattle.dart_tree.specs.UnitTokens.{bound_tokens, clause_tokens, superclass_tokens, type_parameters_tokens}
use Rattle.grammar_laws.specs.Codes.{nowhere}
use Rattle.grammar_laws.specs.Readers.{both, option}
use Rattle.grammar_laws.proofs.Codes.{apart, apart_none, inside, within_self, within_none}
use Rattle.grammar_laws.proofs.Restated.{made_laws, wider}
use Rattle.grammar_laws.proofs.Combined.{both_laws, both_any_laws}
use Rattle.grammar_laws.proofs.Followed.{option_plain_laws}
use Rattle.grammar_laws.proofs.Separated.{separated_plain_laws}
use Rattle.dart_syntax.specs.Phrases.{◌~◌, opt}
use Rattle.dart_syntax.specs.Agreement.{Agrees, StmtsAgree}
use Rattle.dart_syntax.specs.Leaves as l
use Rattle.dart_syntax.specs.Types as y
use Rattle.dart_syntax.specs.Statements.{StmtNodes, metadata_of}
use Rattle.dart_syntax.specs.Declarations as p
use Rattle.dart_syntax.specs.Declarations.{to_type_parameters}
use Rattle.dart_syntax.proofs.Agreeing.{parts_say, made_agrees, seq_agrees, opt_agrees}
use Rattle.dart_syntax.proofs.AgreeingTypes.{sign_agrees, word_agrees, commas_agree, said_more, types_agree}
use Rattle.dart_syntax.proofs.AgreeingStatements.{metadata_agrees}
use Rattle.dart_syntax.proofs.AgreeingDeclarations.{plain_identifier_agrees, said_parameters}
use Rattle.token_codes.specs.Codes.{class_of, plain_names, sign_code, word_code, these, this_word}
use Rattle.token_codes.specs.Leaves.{plain_identifier}
use Rattle.token_codes.specs.Reads.{Reads}
use Rattle.token_codes.proofs.Leaves.{sign_reads, word_reads}
use Rattle.syntax_readers.specs.Types.{type_first, types}
use Rattle.syntax_readers.specs.Primaries.{ExprReaders}
use Rattle.syntax_readers.specs.Parameters.{metadata}
use Rattle.syntax_readers.specs.Declarations as i
use Rattle.laws_unit.specs.Statements.{behind_type, behind_types, MetadataReads, TypeReads}
use Rattle.laws_unit.proofs.Names.{plain_identifier_reads}

abbrev to_bound : Place × TypeNode → Bound
to_bound x = record { word = x.0; bound = x.1 }

abbrev to_clause : Place × TypeList → TypeClause
to_clause x = record { word = x.0; types = x.1 }

abbrev to_superclass : Place × (TypeNode × Option TypeClause) → Superclass
to_superclass x = record { word = x.0; superclass = x.1.0; mixins = x.1.1 }

abbrev Parameter : Type 0
Parameter = Metadata × (Identifier × Option Bound)

abbrev parameters_of : Place × ((Parameter × List (Place × Parameter)) × Place) → TypeParameters
parameters_of x = record { opening = x.0; items = to_type_parameters x.1.0; closing = x.1.1 }

module _ (here : ExprReaders) (nodes : StmtNodes) (A : StmtsAgree nodes) (T : TypeReads here nodes) where
  -- ---- lists of types, and what begins with them

  pub types_laws : Reads (types here.type) (y.types nodes.expr_nodes.type) type_first (λ x. behind_types) false
  unfolding types
  types_laws = made_laws (separated_plain_laws T (sign_reads s.Comma) {codes = behind_type} (λ a fits. within_self behind_type) (apart refl) (λ x fits. apart_none type_first)) y.type_list type_list_tokens (λ x. behind_types)
      (parts_say type_list_tokens y.type_list (commas_agree A.expr_nodes.type) (λ x fits. ap (λ l. type_tokens x.0 ++ l) (said_more x.1))) (λ x fits. within_self behind_types)

  pub bound_laws : Reads (i.bound here.type) (p.bound_over nodes) (this_word w.Extends) (λ x. behind_type) false
  unfolding i.bound
  bound_laws = made_laws (both_laws (word_reads w.Extends) T (λ place fits. apart_none type_first)) to_bound bound_tokens (λ x. behind_type)
      (parts_say bound_tokens to_bound (seq_agrees (word_agrees w.Extends) A.expr_nodes.type) (λ x fits. refl)) (λ x fits. within_self behind_type)

  bound_agrees : Agrees bound_tokens (p.bound_over nodes)
  bound_agrees = made_agrees bound_tokens to_bound (seq_agrees (word_agrees w.Extends) A.expr_nodes.type) (λ x fits. refl)

  pub mixins_laws : Reads (i.mixins here.type) (p.mixins_over nodes) (this_word w.With) (λ x. behind_types) false
  unfolding i.mixins
  mixins_laws = made_laws (both_laws (word_reads w.With) types_laws (λ place fits. apart_none type_first)) to_clause (clause_tokens w.With) (λ x. behind_types)
      (parts_say (clause_tokens w.With) to_clause (seq_agrees (word_agrees w.With) (types_agree A.expr_nodes.type)) (λ x fits. refl)) (λ x fits. within_self behind_types)

  pub mixins_agree : Agrees (clause_tokens w.With) (p.mixins_over nodes)
  mixins_agree = made_agrees (clause_tokens w.With) to_clause (seq_agrees (word_agrees w.With) (types_agree A.expr_nodes.type)) (λ x fits. refl)

  pub interfaces_laws : Reads (i.interfaces here.type) (p.interfaces_over nodes) (this_word w.Implements) (λ x. behind_types) false
  unfolding i.interfaces
  interfaces_laws = made_laws (both_laws (word_reads w.Implements) types_laws (λ place fits. apart_none type_first)) to_clause (clause_tokens w.Implements) (λ x. behind_types)
      (parts_say (clause_tokens w.Implements) to_clause (seq_agrees (word_agrees w.Implements) (types_agree A.expr_nodes.type)) (λ x fits. refl)) (λ x fits. within_self behind_types)

  pub interfaces_agree : Agrees (clause_tokens w.Implements) (p.interfaces_over nodes)
  interfaces_agree = made_agrees (clause_tokens w.Implements) to_clause (seq_agrees (word_agrees w.Implements) (types_agree A.expr_nodes.type)) (λ x fits. refl)

  pub superclass_laws : Reads (i.superclass here.type) (p.superclass_over nodes) (this_word w.Extends) (λ x. word_code w.With ∷ behind_types) false
  unfolding i.superclass
  superclass_laws = made_laws (both_laws (word_reads w.Extends) (both_any_laws T (option_plain_laws mixins_laws {codes = word_code w.With ∷ behind_types} (inside refl) (λ x fits. inside refl)) (λ x fits. apart refl)) (λ place fits. apart_none _))
      to_superclass superclass_tokens (λ x. word_code w.With ∷ behind_types)
      (parts_say superclass_tokens to_superclass (seq_agrees (word_agrees w.Extends) (seq_agrees A.expr_nodes.type (opt_agrees mixins_agree))) (λ x fits. refl)) (λ x fits. inside refl)

  pub superclass_agrees : Agrees superclass_tokens (p.superclass_over nodes)
  superclass_agrees = made_agrees superclass_tokens to_superclass (seq_agrees (word_agrees w.Extends) (seq_agrees A.expr_nodes.type (opt_agrees mixins_agree))) (λ x fits. refl)

  -- ---- type parameters

  module _ (M : MetadataReads here nodes) where
    abbrev after_parameter : List ℕ
    after_parameter = word_code w.Extends ∷ behind_type

    parameter_laws : Reads (both (metadata here) (both plain_identifier (option class_of (this_word w.Extends) (i.bound here.type)))) (metadata_of nodes.expr_nodes ~ l.plain_identifier ~ opt (p.bound_over nodes)) (sign_code s.AtSign ∷ plain_names) (λ x. after_parameter) false
    parameter_laws = wider (both_any_laws M (both_any_laws plain_identifier_reads (option_plain_laws bound_laws {codes = after_parameter} (inside refl) (λ x fits. inside refl)) (λ x fits. apart_none (this_word w.Extends))) (λ x fits. apart refl)) (inside refl) (λ x fits. inside refl)

    pub type_parameters_laws : Reads (i.type_parameters here) (p.type_parameters_over nodes) (these s.Less) nowhere false
    unfolding i.type_parameters
    type_parameters_laws = made_laws (both_laws (sign_reads s.Less) (both_laws (separated_plain_laws parameter_laws (sign_reads s.Comma) {codes = after_parameter} (λ a fits. within_self after_parameter) (apart refl) (λ x fits. apart_none _)) (sign_reads s.Greater) (λ x fits. apart refl)) (λ place fits. apart_none _))
        parameters_of type_parameters_tokens nowhere
        (parts_say type_parameters_tokens parameters_of (seq_agrees (sign_agrees s.Less) (seq_agrees (commas_agree (seq_agrees (metadata_agrees A.expr_nodes) (seq_agrees plain_identifier_agrees (opt_agrees bound_agrees)))) (sign_agrees s.Greater))) (λ x fits. simp (said_parameters, append_assoc))) (λ x fits. within_none [])
