-- The law of classes, over their members (ECMA-408, 10 Classes, 12.1 Mixin Application).
use Rattle.std.proofs.Common.{ℕ, false, List, [], ◌∷◌, ◌++◌, Option, ◌⊎◌, inl, inr, refl, append_assoc}
use Rattle.dart_base.specs.declared.place.Place.{Place}
use Rattle.dart_token.specs.declared.sign.Sign.TheVariants as s
use Rattle.dart_token.specs.declared.word.Word.TheVariants as w
use Rattle.dart_tree.specs.Types.{TypeNode}
use Rattle.dart_tree.specs.Unit as d
use Rattle.dart_tree.specs.Unit.{TypeClause, Superclass, Member, ClassKind, Class}
use Rattle.dart_tree.specs.UnitTokens.{class_kind_tokens, class_tokens}
use Rattle.grammar_laws.specs.Codes.{nowhere}
use Rattle.grammar_laws.proofs.Codes.{apart, apart_none, inside, within_self, within_none}
use Rattle.grammar_laws.proofs.Restated.{made_laws, restated, wider}
use Rattle.grammar_laws.proofs.Combined.{both_laws, both_any_laws, both_by_laws}
use Rattle.grammar_laws.proofs.Followed.{option_plain_laws}
use Rattle.grammar_laws.proofs.Repeated.{many_plain_laws}
use Rattle.grammar_laws.proofs.Chosen.{by_first_laws}
use Rattle.dart_syntax.specs.Phrases.{Phrase, ◌~◌, opt, many, made₅}
use Rattle.dart_syntax.specs.Agreement.{StmtsAgree}
use Rattle.dart_syntax.specs.Leaves as l
use Rattle.dart_syntax.specs.Statements.{StmtNodes, within}
use Rattle.dart_syntax.specs.Declarations as c
use Rattle.dart_syntax.specs.Declarations.{ClassHeader, a_class, class_name}
use Rattle.dart_syntax.proofs.Agreeing.{parts_say, seq_agrees, opt_agrees, many_agrees}
use Rattle.dart_syntax.proofs.AgreeingTypes.{sign_agrees}
use Rattle.dart_syntax.proofs.AgreeingStatements.{said_word}
use Rattle.dart_syntax.proofs.AgreeingDeclarations.{member_agrees}
use Rattle.dart_syntax.proofs.AgreeingStages.{within_agrees}
use Rattle.token_codes.specs.Codes.{word_code, these, this_word}
use Rattle.token_codes.specs.Reads.{Reads}
use Rattle.token_codes.proofs.Leaves.{sign_reads, word_reads}
use Rattle.syntax_readers.specs.Primaries.{ExprReaders}
use Rattle.syntax_readers.specs.Statements.{stage}
use Rattle.syntax_readers.specs.Declarations as r
use Rattle.syntax_readers.specs.Declarations.{behind_init}
use Rattle.laws_unit.specs.Statements.{behind_types, HeadPartsReadAt, MembersReadAt, ClassReadAt}
use Rattle.laws_unit.proofs.Names.{plain_identifier_reads}
use Rattle.laws_unit.proofs.Heads.{mixins_laws, mixins_agree, interfaces_laws, interfaces_agree, superclass_laws, superclass_agrees, type_parameters_laws}

abbrev to_declared : Option Superclass × (Option TypeClause × (Place × (List Member × Place))) → ClassKind
to_declared x = d.declared_class x.0 x.1.0 x.1.1.0 x.1.1.1.0 x.1.1.1.1

abbrev to_mixed : Place × (TypeNode × (TypeClause × (Option TypeClause × Place))) → ClassKind
to_mixed x = d.mixed_class x.0 x.1.0 x.1.1.0 x.1.1.1.0 x.1.1.1.1

abbrev to_class : ClassHeader × ClassKind → Class
to_class x = a_class x.0 x.1

swap : {P Q : Type 0} → P ⊎ Q → Q ⊎ P
swap (inl p) = inr p
swap (inr q) = inl q

module _ (n : ℕ) (H : HeadPartsReadAt n) (M : MembersReadAt n) where
  abbrev nodes : StmtNodes
  nodes = (within n).nodes

  abbrev here : ExprReaders
  here = (stage n).nodes.exprs

  abbrev A : StmtsAgree nodes
  A = (within_agrees n).nodes

  -- ---- what stands behind a class's name

  abbrev interface_codes : List ℕ
  interface_codes = word_code w.Implements ∷ behind_types

  abbrev above_codes : List ℕ
  above_codes = word_code w.Extends ∷ word_code w.With ∷ behind_types

  abbrev mixed : Phrase ClassKind
  mixed = made₅ class_kind_tokens d.mixed_class (l.sign s.Assign ~ nodes.expr_nodes.type ~ c.mixins_over nodes ~ opt (c.interfaces_over nodes) ~ l.sign s.Semicolon)

  mixed_laws : Reads (r.mixed_class n) mixed (these s.Assign) nowhere false
  unfolding r.mixed_class
  mixed_laws = made_laws (both_laws (sign_reads s.Assign) (both_laws H.type (both_laws (mixins_laws here nodes A H.type)
      (both_any_laws (option_plain_laws (interfaces_laws here nodes A H.type) {codes = interface_codes} (inside refl) (λ x fits. inside refl)) (sign_reads s.Semicolon) (λ x fits. apart refl))
      (λ x fits. apart refl)) (λ x fits. apart refl)) (λ x fits. apart_none _))
      to_mixed class_kind_tokens nowhere
      (parts_say class_kind_tokens to_mixed (seq_agrees (sign_agrees s.Assign) (seq_agrees A.expr_nodes.type (seq_agrees (mixins_agree here nodes A H.type) (seq_agrees (opt_agrees (interfaces_agree here nodes A H.type)) (sign_agrees s.Semicolon))))) (λ x fits. refl))
      (λ x fits. within_none [])

  module _ (class : List ℕ) where
    abbrev declared : Phrase ClassKind
    declared = made₅ class_kind_tokens d.declared_class (opt (c.superclass_over nodes) ~ opt (c.interfaces_over nodes) ~ l.sign s.LeftBrace ~ many (c.member_within n class) ~ l.sign s.RightBrace)

    abbrev declared_first : List ℕ
    declared_first = word_code w.Extends ∷ word_code w.Implements ∷ these s.LeftBrace

    declared_laws : Reads (r.declared_class n class) declared declared_first nowhere false
    unfolding r.declared_class
    declared_laws = made_laws (both_any_laws (option_plain_laws (superclass_laws here nodes A H.type) {codes = above_codes} (inside refl) (λ x fits. inside refl))
        (both_any_laws (option_plain_laws (interfaces_laws here nodes A H.type) {codes = interface_codes} (inside refl) (λ x fits. inside refl))
        (both_laws (sign_reads s.LeftBrace) (both_any_laws (many_plain_laws (M class) {codes = behind_init} (λ x fits. within_self behind_init) (apart refl)) (sign_reads s.RightBrace) (λ x fits. apart refl)) (λ x fits. apart_none _))
        (λ x fits. apart refl)) (λ x fits. apart refl))
        to_declared class_kind_tokens nowhere
        (parts_say class_kind_tokens to_declared (seq_agrees (opt_agrees (superclass_agrees here nodes A H.type)) (seq_agrees (opt_agrees (interfaces_agree here nodes A H.type)) (seq_agrees (sign_agrees s.LeftBrace) (seq_agrees (many_agrees (member_agrees n class)) (sign_agrees s.RightBrace))))) (λ x fits. refl))
        (λ x fits. within_none [])

    abbrev kind_first : List ℕ
    kind_first = these s.Assign ++ declared_first

    kind_laws : Reads (r.class_kind n class) (c.class_kind_within n class) kind_first nowhere false
    unfolding r.class_kind
    kind_laws = restated (by_first_laws mixed_laws declared_laws (apart refl)) (λ x. swap) (λ x. swap) (λ ts. swap) (λ ts. swap) (within_self _) (λ x fits. within_none []) (λ h. h)

  -- ---- classes

  header_laws : Reads (r.class_header n) (opt (l.word w.Abstract) ~ l.word w.Class ~ l.plain_identifier ~ opt (c.type_parameters_over nodes)) (word_code w.Abstract ∷ word_code w.Class ∷ []) (λ x. these s.Less) false
  unfolding r.class_header
  header_laws = wider (both_any_laws (option_plain_laws (word_reads w.Abstract) {codes = this_word w.Abstract} (within_self (this_word w.Abstract)) (λ x fits. within_none (this_word w.Abstract)))
      (both_laws (word_reads w.Class) (both_any_laws plain_identifier_reads (option_plain_laws (type_parameters_laws here nodes A H.type H.metadata) {codes = these s.Less} (within_self (these s.Less)) (λ x fits. within_none (these s.Less))) (λ x fits. apart_none (these s.Less)))
      (λ x fits. apart_none _)) (λ x fits. apart refl)) (inside refl) (λ x fits. inside refl)

  pub class_laws : ClassReadAt n
  unfolding r.class_over
  class_laws = made_laws (both_by_laws header_laws (λ header fits. kind_laws (class_name header)) (λ header fits. apart refl)) to_class class_tokens nowhere (λ x fits. simp (said_word, append_assoc)) (λ x fits. within_none [])

pub classes_at : (n : ℕ) → HeadPartsReadAt n → MembersReadAt n → ClassReadAt n
classes_at n H M = class_laws n H M
