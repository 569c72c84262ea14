-- Classes, their members and the other declarations agree with their tokens.
use Rattle.std.proofs.Common.{◌≡◌, ℕ, zero, suc, List, [], ◌∷◌, Option, None, refl, append_assoc, flat_map}
use Rattle.grammar_laws.specs.Fronts.{both_spelling, option_spelling}
use Rattle.dart_base.specs.declared.place.Place.{Place}
use Rattle.dart_token.specs.declared.token.Token.{Token}
use Rattle.dart_token.specs.declared.sign.Sign.{Sign}
use Rattle.dart_token.specs.declared.sign.Sign.TheVariants as s
use Rattle.dart_token.specs.declared.word.Word.TheVariants as w
use Rattle.dart_tree.specs.declared.identifier.Identifier.{Identifier}
use Rattle.dart_tree.specs.declared.identifier.Identifier.TheVariants as i
use Rattle.dart_tree.specs.declared.declaration.Modifier.TheVariants as m
use Rattle.dart_tree.specs.declared.declaration.OperatorName.TheVariants as o
use Rattle.dart_tree.specs.LeafTokens.{identifier_tokens}
use Rattle.dart_tree.specs.Tree as t
use Rattle.dart_tree.specs.Tree.{Metadata}
use Rattle.dart_tree.specs.Tokens.{body_tokens, function_tokens, metadata_tokens}
use Rattle.dart_tree.specs.Unit as d
use Rattle.dart_tree.specs.Unit.{Bound, TypeClause, InitKind, MemberKind}
use Rattle.dart_tree.specs.UnitTokens.{clause_tokens, bound_tokens, type_parameter_tokens, type_parameters_tokens, superclass_tokens, alias_tokens, accessor_kind_tokens, accessor_tokens, operator_name_tokens, operator_member_tokens, constructor_name_tokens, init_kind_tokens, init_tokens, initializers_tokens, constructor_tokens, modifier_tokens, member_kind_tokens, member_tokens, class_kind_tokens, class_tokens, enum_tokens, decl_kind_tokens, decl_tokens}
use Rattle.dart_syntax.specs.Phrases.{Phrase, exactly}
use Rattle.dart_syntax.specs.Leaves.{sign_tokens, word_tokens, plain_identifier}
use Rattle.dart_syntax.specs.Types.{result_leaves_name}
use Rattle.dart_syntax.specs.Statements.{StmtNodes, Within, within}
use Rattle.dart_syntax.specs.Declarations.{more_type_parameters, more_inits, text_of, target_takes_names, bound_over, type_parameters_over, mixins_over, interfaces_over, superclass_over, alias_over, accessor_kind_over, accessor_over, signs_of, operator_signs, operator_name_over, operator_member_over, constructor_name_over, init_over, init_within, initializers_over, generative_over, constant_over, redirecting_over, factory_over, constructor_over, constructor_within, external_or_none, without_external, function_within, accessor_within, alias_within, callable_within, variables_within, member_within, class_kind_within, class_over, class_within, enum_within, decl_within}
use Rattle.dart_syntax.specs.Agreement.{Agrees, StmtsAgree, WithinAgrees, DeclarationsAgree}
use Rattle.dart_syntax.proofs.Agreeing.{leaf_agrees, exactly_agrees, no_room_agrees, seq_agrees, seq_if_agrees, seq_by_agrees, opt_agrees, many_agrees, either_agrees, rather_agrees, made_agrees, such_agrees}
use Rattle.dart_syntax.proofs.AgreeingTypes.{sign_agrees, word_agrees, named_agrees, identifier_agrees, dot_name_agrees, commas_agree, types_agree, result_agrees}
use Rattle.dart_syntax.proofs.AgreeingExpressions.{said_sign, said_cascades}
use Rattle.dart_syntax.proofs.AgreeingLevels.{cascaded_agrees}
use Rattle.dart_syntax.proofs.AgreeingStatements.{said_word, comma_name_agrees, metadata_agrees, this_dot_agrees, body_agrees, function_agrees}
use Rattle.dart_syntax.proofs.AgreeingStages.{within_agrees}

-- ---- the lists of the trees

abbrev parameter_tokens : Metadata × (Identifier × Option Bound) → List Token
parameter_tokens = both_spelling metadata_tokens (both_spelling identifier_tokens (option_spelling bound_tokens))

pub said_parameters : (xs : List (Place × (Metadata × (Identifier × Option Bound)))) → flat_map type_parameter_tokens (more_type_parameters xs) ≡ flat_map (both_spelling (sign_tokens s.Comma) parameter_tokens) xs
said_parameters [] = refl
said_parameters (x ∷ xs) = simp (said_parameters xs, append_assoc)

pub said_inits : (xs : List (Place × InitKind)) → flat_map init_tokens (more_inits xs) ≡ flat_map (both_spelling (sign_tokens s.Comma) init_kind_tokens) xs
said_inits [] = refl
said_inits (x ∷ xs) = simp (said_inits xs)

pub plain_identifier_agrees : Agrees identifier_tokens plain_identifier
plain_identifier_agrees = made_agrees identifier_tokens _ (leaf_agrees (λ x. identifier_tokens (i.Name x.0 x.1)) (λ x. (_, refl))) (λ x fits. refl)

-- ---- parts of declarations

module _ {inner : StmtNodes} (I : StmtsAgree inner) where
  bound_agrees : Agrees bound_tokens (bound_over inner)
  bound_agrees = made_agrees bound_tokens _ (seq_agrees (word_agrees w.Extends) I.expr_nodes.type) (λ x fits. refl)

  type_parameters_agree : Agrees type_parameters_tokens (type_parameters_over inner)
  type_parameters_agree = made_agrees type_parameters_tokens _ (seq_agrees (sign_agrees s.Less) (seq_agrees (commas_agree (seq_agrees (metadata_agrees I.expr_nodes) (seq_agrees plain_identifier_agrees (opt_agrees bound_agrees)))) (sign_agrees s.Greater)))
      (λ x fits. simp (said_parameters, append_assoc))

  mixins_agree : Agrees (clause_tokens w.With) (mixins_over inner)
  mixins_agree = made_agrees (clause_tokens w.With) _ (seq_agrees (word_agrees w.With) (types_agree I.expr_nodes.type)) (λ x fits. refl)

  interfaces_agree : Agrees (clause_tokens w.Implements) (interfaces_over inner)
  interfaces_agree = made_agrees (clause_tokens w.Implements) _ (seq_agrees (word_agrees w.Implements) (types_agree I.expr_nodes.type)) (λ x fits. refl)

  superclass_agrees : Agrees superclass_tokens (superclass_over inner)
  superclass_agrees = made_agrees superclass_tokens _ (seq_agrees (word_agrees w.Extends) (seq_agrees I.expr_nodes.type (opt_agrees mixins_agree))) (λ x fits. refl)

  alias_agrees : Agrees alias_tokens (alias_over inner)
  alias_agrees = made_agrees alias_tokens _ (seq_agrees (word_agrees w.Typedef) (seq_agrees (opt_agrees (result_agrees I.expr_nodes.type)) (seq_agrees plain_identifier_agrees (seq_agrees (opt_agrees type_parameters_agree) (seq_agrees I.expr_nodes.parameters (sign_agrees s.Semicolon))))))
      (λ x fits. refl)

  accessor_kind_agrees : Agrees accessor_kind_tokens (accessor_kind_over inner)
  accessor_kind_agrees = either_agrees (made_agrees accessor_kind_tokens _ (seq_agrees (word_agrees w.Get) identifier_agrees) (λ x fits. refl))
      (made_agrees accessor_kind_tokens _ (seq_agrees (word_agrees w.Set) (seq_agrees identifier_agrees I.expr_nodes.parameters)) (λ x fits. refl))

  accessor_agrees : {external : Phrase (Option Place)} → Agrees (option_spelling (word_tokens w.External)) external → Agrees accessor_tokens (accessor_over inner external)
  accessor_agrees E = made_agrees accessor_tokens _ (seq_agrees E (seq_agrees (seq_if_agrees (opt_agrees (result_agrees I.expr_nodes.type)) accessor_kind_agrees result_leaves_name) (body_agrees I.expr_nodes)))
      (λ x fits. simp (said_word, append_assoc))

  signs_agree : (xs : List Sign) → Agrees operator_name_tokens (signs_of inner xs)
  signs_agree [] = no_room_agrees operator_name_tokens
  signs_agree (x ∷ xs) = either_agrees (made_agrees operator_name_tokens (λ place. o.Sign place x) (sign_agrees x) (λ place fits. refl)) (signs_agree xs)

  operator_name_agrees : Agrees operator_name_tokens (operator_name_over inner)
  operator_name_agrees = either_agrees (signs_agree operator_signs)
      (either_agrees (made_agrees operator_name_tokens _ (seq_agrees (sign_agrees s.Greater) (sign_agrees s.Greater)) (λ x fits. refl))
      (either_agrees (made_agrees operator_name_tokens _ (seq_agrees (sign_agrees s.LeftBracket) (sign_agrees s.RightBracket)) (λ x fits. refl))
      (made_agrees operator_name_tokens _ (seq_agrees (sign_agrees s.LeftBracket) (seq_agrees (sign_agrees s.RightBracket) (sign_agrees s.Assign))) (λ x fits. refl))))

  operator_member_agrees : Agrees operator_member_tokens (operator_member_over inner)
  operator_member_agrees = made_agrees operator_member_tokens _ (seq_agrees (opt_agrees (word_agrees w.External)) (seq_agrees (opt_agrees (result_agrees I.expr_nodes.type)) (seq_agrees (word_agrees w.Operator) (seq_agrees operator_name_agrees (seq_agrees I.expr_nodes.parameters (body_agrees I.expr_nodes))))))
      (λ x fits. simp said_word)

  constructor_name_agrees : (class : List ℕ) → Agrees constructor_name_tokens (constructor_name_over inner class)
  constructor_name_agrees class = made_agrees constructor_name_tokens _ (seq_agrees (made_agrees identifier_tokens _ (named_agrees class) (λ x fits. refl)) (opt_agrees dot_name_agrees)) (λ x fits. refl)

-- ---- constructors

init_agrees : {inner : Within} → WithinAgrees inner → Agrees init_kind_tokens (init_over inner)
init_agrees I = either_agrees
    (made_agrees init_kind_tokens _ (seq_agrees (word_agrees w.Super) (seq_agrees (opt_agrees dot_name_agrees) I.nodes.expr_nodes.arguments)) (λ x fits. refl))
    (made_agrees init_kind_tokens _ (seq_agrees (opt_agrees (this_dot_agrees I.nodes.expr_nodes)) (seq_agrees identifier_agrees (seq_agrees (sign_agrees s.Assign) (cascaded_agrees I.levels I.nodes.expr_nodes)))) (λ x fits. simp said_cascades))

inits_agree : (n : ℕ) → Agrees init_kind_tokens (init_within n)
inits_agree zero = no_room_agrees init_kind_tokens
inits_agree (suc n) = init_agrees (within_agrees n)

module _ {inner : StmtNodes} (I : StmtsAgree inner) {init : Phrase InitKind} (N : Agrees init_kind_tokens init) (class : List ℕ) where
  initializers_agree : Agrees initializers_tokens (initializers_over inner init class)
  initializers_agree = made_agrees initializers_tokens _ (seq_agrees (sign_agrees s.Colon) (commas_agree N)) (λ x fits. simp said_inits)

  generative_agrees : Agrees constructor_tokens (generative_over inner init class)
  unfolding body_tokens
  generative_agrees = made_agrees constructor_tokens _ (seq_agrees (constructor_name_agrees I class) (seq_agrees I.expr_nodes.parameters (seq_agrees
      (opt_agrees initializers_agree)
      (either_agrees (made_agrees body_tokens t.block_body I.expr_nodes.block (λ x fits. refl)) (made_agrees body_tokens t.no_body (sign_agrees s.Semicolon) (λ x fits. refl))))))
      (λ x fits. refl)

  constant_agrees : Agrees constructor_tokens (constant_over inner init class)
  unfolding body_tokens
  constant_agrees = made_agrees constructor_tokens _ (seq_agrees (word_agrees w.Const) (seq_agrees (constructor_name_agrees I class) (seq_agrees I.expr_nodes.parameters (seq_agrees (opt_agrees initializers_agree) (sign_agrees s.Semicolon)))))
      (λ x fits. refl)

  redirecting_agrees : Agrees constructor_tokens (redirecting_over inner init class)
  redirecting_agrees = made_agrees constructor_tokens _ (seq_agrees (constructor_name_agrees I class) (seq_agrees I.expr_nodes.parameters (seq_agrees (sign_agrees s.Colon) (seq_agrees (word_agrees w.This) (seq_agrees (opt_agrees dot_name_agrees) (seq_agrees I.expr_nodes.arguments (sign_agrees s.Semicolon)))))))
      (λ x fits. refl)

  factory_agrees : Agrees constructor_tokens (factory_over inner init class)
  factory_agrees = either_agrees
      (made_agrees constructor_tokens _ (seq_agrees (opt_agrees (word_agrees w.External)) (seq_agrees (word_agrees w.Factory) (seq_agrees (constructor_name_agrees I class) (seq_agrees I.expr_nodes.parameters (body_agrees I.expr_nodes)))))
      (λ x fits. simp said_word))
      (made_agrees constructor_tokens _ (seq_agrees (opt_agrees (word_agrees w.External)) (seq_agrees (word_agrees w.Factory) (seq_agrees (constructor_name_agrees I class) (seq_agrees I.expr_nodes.parameters (seq_agrees (sign_agrees s.Assign)
      (such_agrees target_takes_names (seq_agrees I.expr_nodes.type (seq_agrees (opt_agrees dot_name_agrees) (sign_agrees s.Semicolon)))))))))
      (λ x fits. simp said_word))

  constructor_agrees : Agrees constructor_tokens (constructor_over inner init class)
  constructor_agrees = either_agrees generative_agrees (either_agrees constant_agrees (either_agrees redirecting_agrees factory_agrees))

pub constructors_agree : (class : List ℕ) (n : ℕ) → Agrees constructor_tokens (constructor_within class n)
constructors_agree class zero = no_room_agrees constructor_tokens
constructors_agree class (suc n) = constructor_agrees (within_agrees n).nodes (inits_agree n) class

-- ---- functions and accessors that are declared

external_agrees : Agrees (option_spelling (word_tokens w.External)) external_or_none
external_agrees = opt_agrees (word_agrees w.External)

without_external_agrees : Agrees (option_spelling (word_tokens w.External)) without_external
without_external_agrees = exactly_agrees (option_spelling (word_tokens w.External)) external_or_none.spelling None (λ x. refl) refl

module _ {external : Phrase (Option Place)} (E : Agrees (option_spelling (word_tokens w.External)) external) where
  functions_agree : (n : ℕ) → Agrees function_tokens (function_within external n)
  functions_agree zero = no_room_agrees function_tokens
  functions_agree (suc n) = function_agrees (within_agrees n).nodes E (body_agrees (within_agrees n).nodes.expr_nodes)

  accessors_agree : (n : ℕ) → Agrees accessor_tokens (accessor_within external n)
  accessors_agree zero = no_room_agrees accessor_tokens
  accessors_agree (suc n) = accessor_agrees (within_agrees n).nodes E

  callable_agrees : (n : ℕ) → Agrees member_kind_tokens (callable_within n external)
  callable_agrees n = either_agrees (made_agrees member_kind_tokens d.function_member (functions_agree n) (λ x fits. refl)) (made_agrees member_kind_tokens d.accessor_member (accessors_agree n) (λ x fits. refl))

aliases_agree : (n : ℕ) → Agrees alias_tokens (alias_within n)
aliases_agree zero = no_room_agrees alias_tokens
aliases_agree (suc n) = alias_agrees (within_agrees n).nodes

-- ---- members and classes

module _ (n : ℕ) where
  abbrev nodes : StmtsAgree (within n).nodes
  nodes = (within_agrees n).nodes

  field_agrees : Agrees member_kind_tokens (variables_within n)
  field_agrees = made_agrees member_kind_tokens d.variables_member nodes.variables (λ x fits. refl)

  unmodified_agrees : Agrees modifier_tokens (exactly modifier_tokens m.Omitted)
  unmodified_agrees = exactly_agrees modifier_tokens modifier_tokens m.Omitted (λ x. refl) refl

  pub member_agrees : (class : List ℕ) → Agrees member_tokens (member_within n class)
  member_agrees class = made_agrees member_tokens _ (seq_agrees (metadata_agrees nodes.expr_nodes) (rather_agrees
      (seq_agrees unmodified_agrees (made_agrees member_kind_tokens d.constructor_member (constructors_agree class n) (λ x fits. refl)))
      (either_agrees (seq_agrees unmodified_agrees (either_agrees (callable_agrees external_agrees n) (either_agrees field_agrees (made_agrees member_kind_tokens d.operator_member (operator_member_agrees nodes) (λ x fits. refl)))))
      (either_agrees (seq_agrees (made_agrees modifier_tokens m.Static (word_agrees w.Static) (λ x fits. refl)) (either_agrees (callable_agrees without_external_agrees n) field_agrees))
      (seq_agrees (made_agrees modifier_tokens _ (seq_agrees (word_agrees w.External) (word_agrees w.Static)) (λ x fits. refl)) (callable_agrees without_external_agrees n)))))) (λ x fits. refl)

  class_kind_agrees : (class : List ℕ) → Agrees class_kind_tokens (class_kind_within n class)
  class_kind_agrees class = either_agrees
      (made_agrees class_kind_tokens _ (seq_agrees (opt_agrees (superclass_agrees nodes)) (seq_agrees (opt_agrees (interfaces_agree nodes)) (seq_agrees (sign_agrees s.LeftBrace) (seq_agrees (many_agrees (member_agrees class)) (sign_agrees s.RightBrace))))) (λ x fits. refl))
      (made_agrees class_kind_tokens _ (seq_agrees (sign_agrees s.Assign) (seq_agrees nodes.expr_nodes.type (seq_agrees (mixins_agree nodes) (seq_agrees (opt_agrees (interfaces_agree nodes)) (sign_agrees s.Semicolon))))) (λ x fits. refl))

  class_agrees : Agrees class_tokens (class_over n)
  class_agrees = made_agrees class_tokens _ (seq_by_agrees class_kind_tokens _ (seq_agrees (opt_agrees (word_agrees w.Abstract)) (seq_agrees (word_agrees w.Class) (seq_agrees plain_identifier_agrees (opt_agrees (type_parameters_agree nodes)))))
      (λ header. class_kind_agrees (text_of header.1.1.0))) (λ x fits. simp (said_word, append_assoc))

pub classes_agree : (n : ℕ) → Agrees class_tokens (class_within n)
classes_agree zero = no_room_agrees class_tokens
classes_agree (suc n) = class_agrees n

pub enums_agree : (n : ℕ) → Agrees enum_tokens (enum_within n)
enums_agree zero = no_room_agrees enum_tokens
enums_agree (suc n) = made_agrees enum_tokens _ (seq_agrees (word_agrees w.Enum) (seq_agrees plain_identifier_agrees (seq_agrees (sign_agrees s.LeftBrace) (seq_agrees identifier_agrees (seq_agrees (many_agrees comma_name_agrees) (seq_agrees (opt_agrees (sign_agrees s.Comma)) (sign_agrees s.RightBrace)))))))
    (λ x fits. simp said_sign)

pub decl_agrees : (n : ℕ) → Agrees decl_tokens (decl_within n)
decl_agrees n = made_agrees decl_tokens _ (seq_agrees (metadata_agrees (within_agrees n).nodes.expr_nodes)
    (either_agrees (made_agrees decl_kind_tokens d.class_decl (classes_agree n) (λ x fits. refl))
    (either_agrees (made_agrees decl_kind_tokens d.alias_decl (aliases_agree n) (λ x fits. refl))
    (either_agrees (made_agrees decl_kind_tokens d.function_decl (functions_agree external_agrees n) (λ x fits. refl))
    (either_agrees (made_agrees decl_kind_tokens d.accessor_decl (accessors_agree external_agrees n) (λ x fits. refl))
    (either_agrees (made_agrees decl_kind_tokens d.variables_decl (within_agrees n).nodes.variables (λ x fits. refl))
    (made_agrees decl_kind_tokens d.enum_decl (enums_agree n) (λ x fits. refl)))))))) (λ x fits. refl)

pub declarations_agree : (n : ℕ) → DeclarationsAgree n
declarations_agree n = record {
  declaration = decl_agrees n;
  class = classes_agree n;
  member = member_agrees n;
  constructor = λ class. constructors_agree class n;
  alias = aliases_agree n;
  enum = enums_agree n;
  function = functions_agree external_agrees n;
  accessor = accessors_agree external_agrees n;
}
