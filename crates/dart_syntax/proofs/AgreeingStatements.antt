-- Parameters, functions, variables and statements agree with their tokens.
use Rattle.std.proofs.Common.{◌≡◌, List, [], ◌∷◌, ◌++◌, Option, None, Some, refl, ap, append_assoc, flat_map}
use Rattle.std.proofs.lemmas.List.{append-nil}
use Rattle.grammar_laws.specs.Fronts.{both_spelling, option_spelling}
use Rattle.dart_base.specs.declared.place.Place.{Place}
use Rattle.dart_token.specs.declared.token.Token.{Token}
use Rattle.dart_token.specs.declared.sign.Sign.{Sign}
use Rattle.dart_token.specs.declared.sign.Sign.TheVariants as s
use Rattle.dart_token.specs.declared.word.Word.{Word}
use Rattle.dart_token.specs.declared.word.Word.TheVariants as w
use Rattle.dart_tree.specs.declared.identifier.Identifier.{Identifier}
use Rattle.dart_tree.specs.declared.identifier.DotName.{DotName}
use Rattle.dart_tree.specs.declared.parameter.BracketKind.{BracketKind}
use Rattle.dart_tree.specs.declared.parameter.BracketKind.TheVariants as b
use Rattle.dart_tree.specs.LeafTokens.{maybe_word, identifier_tokens, dot_name_tokens, left_of, right_of, catch_tokens, kind_tokens}
use Rattle.dart_tree.specs.Types.{no_kind}
use Rattle.dart_tree.specs.Tree as t
use Rattle.dart_tree.specs.Tree.{Expr, Value, ParameterKind, Stmt, Body, Arguments, Parameters, Annotation, Variables, Function, Block, ParameterList, Metadata, SwitchParts, TryParts}
use Rattle.dart_tree.specs.Tokens.{value_tokens, parameter_kind_tokens, body_tokens, arguments_tokens, parameters_tokens, annotation_tokens, variables_tokens, function_tokens, parameter_list_tokens, metadata_tokens, more_variables_tokens}
use Rattle.dart_syntax.specs.Phrases.{Phrase, either}
use Rattle.dart_syntax.specs.Leaves.{sign_tokens, word_tokens, this_dot_tokens, comma_name_tokens, comma_name}
use Rattle.dart_syntax.specs.Types.{without_kind, kind_leaves_name, kind_over, result_leaves_name}
use Rattle.dart_syntax.specs.Expressions.{ExprNodes}
use Rattle.dart_syntax.specs.Statements.{StmtNodes, to_metadata, to_annotation, more_required, to_required, more_optional, to_optional, with_optional, more_variables, metadata_of, this_dot, whole_body, body_of, parameter_over, required_over, optional_over, required_before, bracketed_over, parameters_over, variables_over, function_over, local_function_over, catch_over}
use Rattle.dart_syntax.specs.Agreement.{Agrees, ExprsAgree, StmtsAgree, bare_parameter_tokens}
use Rattle.dart_syntax.proofs.Agreeing.{exactly_agrees, seq_agrees, seq_if_agrees, opt_agrees, many_agrees, either_agrees, perhaps_agrees, made_agrees}
use Rattle.dart_syntax.proofs.AgreeingTypes.{sign_agrees, word_agrees, identifier_agrees, dot_name_agrees, commas_agree, kind_agrees, variables_kind_agrees, result_agrees}
use Rattle.dart_syntax.proofs.AgreeingExpressions.{after_sign_agrees, said_sign}

-- ---- what may be missing

pub said_word : (which : Word) (x : Option Place) → maybe_word x which ≡ option_spelling (word_tokens which) x
said_word which None = refl
said_word which (Some x) = refl

-- ---- the lists of the trees

pub said_metadata : (xs : List Annotation) → metadata_tokens (to_metadata xs) ≡ flat_map annotation_tokens xs
unfolding metadata_tokens
said_metadata [] = refl
said_metadata (x ∷ xs) = ap (λ l. annotation_tokens x ++ l) (said_metadata xs)

pub said_annotation : (x : Place × (Identifier × (List DotName × Option Arguments))) → annotation_tokens (to_annotation x) ≡ both_spelling (sign_tokens s.AtSign) (both_spelling identifier_tokens (both_spelling (flat_map dot_name_tokens) (option_spelling arguments_tokens))) x
unfolding annotation_tokens
said_annotation (at, (name, (more, None))) = refl
said_annotation (at, (name, (more, Some (t.the_arguments opening items closing)))) = refl

pub said_required : (xs : List (Place × (Metadata × ParameterKind))) → parameter_list_tokens (more_required xs) ≡ flat_map (both_spelling (sign_tokens s.Comma) bare_parameter_tokens) xs
unfolding parameter_list_tokens
said_required [] = refl
said_required (x ∷ xs) = simp (said_required xs, append-nil)

pub said_optional : (xs : List (Place × ((Metadata × ParameterKind) × Value))) → parameter_list_tokens (more_optional xs) ≡ flat_map (both_spelling (sign_tokens s.Comma) (both_spelling bare_parameter_tokens value_tokens)) xs
unfolding parameter_list_tokens
said_optional [] = refl
said_optional (x ∷ xs) = simp (said_optional xs, append_assoc)

pub said_variables : (xs : List (Place × (Identifier × Value))) → more_variables_tokens (more_variables xs) ≡ flat_map (both_spelling (sign_tokens s.Comma) (both_spelling identifier_tokens value_tokens)) xs
unfolding more_variables_tokens
said_variables [] = refl
said_variables (x ∷ xs) = simp (said_variables xs, append_assoc)

-- ---- metadata and bodies

module _ {here : ExprNodes} (H : ExprsAgree here) where
  pub metadata_agrees : Agrees metadata_tokens (metadata_of here)
  metadata_agrees = made_agrees metadata_tokens to_metadata
      (many_agrees (made_agrees annotation_tokens to_annotation (seq_agrees (sign_agrees s.AtSign) (seq_agrees identifier_agrees (seq_agrees (many_agrees dot_name_agrees) (opt_agrees H.arguments)))) (λ x fits. said_annotation x)))
      (λ x fits. said_metadata x)

  pub this_dot_agrees : Agrees this_dot_tokens (this_dot here)
  this_dot_agrees = made_agrees this_dot_tokens _ (seq_agrees (word_agrees w.This) (sign_agrees s.Dot)) (λ x fits. refl)

  pub whole_body_agrees : Agrees body_tokens (whole_body here)
  unfolding body_tokens
  whole_body_agrees = either_agrees (made_agrees body_tokens _ (seq_agrees (sign_agrees s.Arrow) (seq_agrees H.expr (sign_agrees s.Semicolon))) (λ x fits. refl)) (made_agrees body_tokens t.block_body H.block (λ x fits. refl))

  pub body_agrees : Agrees body_tokens (body_of here)
  unfolding body_tokens
  body_agrees = either_agrees whole_body_agrees (made_agrees body_tokens t.no_body (sign_agrees s.Semicolon) (λ x fits. refl))

-- ---- parameters

without_kind_agrees : Agrees kind_tokens without_kind
without_kind_agrees = exactly_agrees kind_tokens kind_tokens no_kind (λ x. refl) refl

pub comma_name_agrees : Agrees comma_name_tokens comma_name
comma_name_agrees = made_agrees comma_name_tokens _ (seq_agrees (sign_agrees s.Comma) identifier_agrees) (λ x fits. refl)

pub some_kind_agrees : {here : ExprNodes} → ExprsAgree here → Agrees kind_tokens (either without_kind (kind_over here.type))
some_kind_agrees H = either_agrees without_kind_agrees (kind_agrees H.type)

module _ {inner : StmtNodes} (I : StmtsAgree inner) where
  pub parameter_agrees : Agrees bare_parameter_tokens (parameter_over inner)
  unfolding parameter_kind_tokens
  parameter_agrees = seq_agrees (metadata_agrees I.expr_nodes) (either_agrees
      (made_agrees parameter_kind_tokens _ (seq_agrees (some_kind_agrees I.expr_nodes) (seq_agrees (opt_agrees (this_dot_agrees I.expr_nodes)) identifier_agrees)) (λ x fits. refl))
      (made_agrees parameter_kind_tokens _ (seq_agrees (opt_agrees (result_agrees I.expr_nodes.type)) (seq_agrees (opt_agrees (this_dot_agrees I.expr_nodes)) (seq_agrees identifier_agrees I.expr_nodes.parameters))) (λ x fits. refl)))

  required_agrees : Agrees parameter_list_tokens (required_over inner)
  unfolding parameter_list_tokens
  required_agrees = made_agrees parameter_list_tokens to_required (commas_agree I.parameter) (λ x fits. simp (said_required, append-nil))

  optional_agrees : (kind : BracketKind) (before : Sign) → Agrees (both_spelling (sign_tokens (left_of kind)) (both_spelling parameter_list_tokens (sign_tokens (right_of kind)))) (optional_over inner kind before)
  unfolding parameter_list_tokens
  optional_agrees kind before = seq_agrees (sign_agrees (left_of kind)) (seq_agrees
      (made_agrees parameter_list_tokens to_optional (commas_agree (seq_agrees I.parameter (after_sign_agrees I.expr_nodes.expr before))) (λ x fits. simp (said_optional, append_assoc)))
      (sign_agrees (right_of kind)))

  abbrev before_tokens : ParameterList × Option Place → List Token
  before_tokens = both_spelling parameter_list_tokens (option_spelling (sign_tokens s.Comma))

  required_before_agrees : Agrees before_tokens (required_before inner)
  unfolding parameter_list_tokens
  required_before_agrees = perhaps_agrees (t.no_parameters, None) refl (made_agrees before_tokens _ (seq_agrees required_agrees (sign_agrees s.Comma)) (λ x fits. refl))

  bracketed_agrees : (kind : BracketKind) (before : Sign) → Agrees parameters_tokens (bracketed_over inner kind before)
  unfolding parameters_tokens
  bracketed_agrees kind before = made_agrees parameters_tokens (with_optional kind) (seq_agrees (sign_agrees s.LeftParenthesis) (seq_agrees required_before_agrees (seq_agrees (optional_agrees kind before) (sign_agrees s.RightParenthesis))))
      (λ x fits. simp (said_sign, append_assoc))

  pub parameters_agree : Agrees parameters_tokens (parameters_over inner)
  unfolding parameters_tokens
  parameters_agree = either_agrees
      (made_agrees parameters_tokens _ (seq_agrees (sign_agrees s.LeftParenthesis) (seq_agrees (perhaps_agrees t.no_parameters refl required_agrees) (sign_agrees s.RightParenthesis))) (λ x fits. refl))
      (either_agrees (bracketed_agrees b.Square s.Assign) (bracketed_agrees b.Curly s.Colon))

  -- ---- variables and functions

  pub variables_agree : Agrees variables_tokens (variables_over inner)
  unfolding variables_tokens
  variables_agree = made_agrees variables_tokens _ (seq_agrees (seq_if_agrees (variables_kind_agrees I.expr_nodes.type) identifier_agrees kind_leaves_name)
      (seq_agrees (after_sign_agrees I.expr_nodes.expr s.Assign) (seq_agrees (many_agrees (seq_agrees (sign_agrees s.Comma) (seq_agrees identifier_agrees (after_sign_agrees I.expr_nodes.expr s.Assign)))) (sign_agrees s.Semicolon))))
      (λ x fits. simp (said_variables, append_assoc))

  pub function_agrees : {external : Phrase (Option Place)} {body : Phrase Body} → Agrees (option_spelling (word_tokens w.External)) external → Agrees body_tokens body → Agrees function_tokens (function_over inner external body)
  unfolding function_tokens
  function_agrees E B = made_agrees function_tokens _ (seq_agrees E (seq_agrees (seq_if_agrees (opt_agrees (result_agrees I.expr_nodes.type)) identifier_agrees result_leaves_name) (seq_agrees I.expr_nodes.parameters B)))
      (λ x fits. simp (said_word, append_assoc))

  pub local_function_agrees : Agrees function_tokens (local_function_over inner)
  local_function_agrees = function_agrees (exactly_agrees (option_spelling (word_tokens w.External)) (option_spelling (word_tokens w.External)) None (λ x. refl) refl) (whole_body_agrees I.expr_nodes)

  pub catch_agrees : Agrees catch_tokens (catch_over inner)
  catch_agrees = made_agrees catch_tokens _ (seq_agrees (word_agrees w.Catch) (seq_agrees (sign_agrees s.LeftParenthesis) (seq_agrees identifier_agrees (seq_agrees (opt_agrees comma_name_agrees) (sign_agrees s.RightParenthesis)))))
      (λ x fits. refl)
