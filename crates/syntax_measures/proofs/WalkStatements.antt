-- The walk over parameters, functions and variables.
use Rattle.std.proofs.Common.{◌≡◌, ℕ, suc, max, arith, true, List, [], ◌∷◌, Option, None, Some, refl, ap, append_assoc}
use Rattle.std.proofs.lemmas.List.{append-nil}
use Rattle.grammar_laws.specs.Fronts.{both_spelling, option_spelling}
use Rattle.dart_base.specs.declared.place.Place.{Place}
use Rattle.dart_token.specs.declared.token.Token.{Token}
use Rattle.dart_token.specs.declared.sign.Sign.{Sign}
use Rattle.dart_token.specs.declared.sign.Sign.TheVariants as s
use Rattle.dart_token.specs.declared.word.Word.TheVariants as w
use Rattle.dart_tree.specs.declared.identifier.Identifier.{Identifier}
use Rattle.dart_tree.specs.declared.identifier.DotName.{DotName}
use Rattle.dart_tree.specs.declared.identifier.CommaName.{CommaName}
use Rattle.dart_tree.specs.declared.parameter.BracketKind.{BracketKind}
use Rattle.dart_tree.specs.declared.parameter.BracketKind.TheVariants as b
use Rattle.dart_tree.specs.declared.parameter.ThisDot.{ThisDot}
use Rattle.dart_tree.specs.declared.statement.Catch.{Catch}
use Rattle.dart_tree.specs.LeafTokens.{left_of, right_of, catch_tokens}
use Rattle.dart_tree.specs.Types.{ResultType}
use Rattle.dart_tree.specs.Tree as t
use Rattle.dart_tree.specs.Tree.{Value, ParameterKind, Body, Arguments, Parameters, Annotation, Variables, Function, ParameterList, Metadata}
use Rattle.dart_tree.specs.Tokens.{parameter_kind_tokens, body_tokens, parameters_tokens, annotation_tokens, variables_tokens, function_tokens, parameter_list_tokens, metadata_tokens}
use Rattle.dart_tree.specs.Depth as height
use Rattle.dart_tree.specs.Depth.{height_if, highest, result_height}
use Rattle.dart_syntax.specs.Phrases.{Phrase, perhaps, ◌~◌, made}
use Rattle.dart_syntax.specs.Leaves.{sign_tokens, word_tokens, this_dot_tokens, comma_name_tokens, comma_name, commas}
use Rattle.dart_syntax.specs.Types.{kind_leaves_name, result_leaves_name}
use Rattle.dart_syntax.specs.Expressions.{ExprNodes, after_sign}
use Rattle.dart_syntax.specs.Statements.{StmtNodes, to_metadata, to_annotation, more_required, to_required, more_optional, to_optional, with_optional, more_variables, metadata_of, this_dot, whole_body, body_of, parameter_over, required_over, optional_over, required_before, bracketed_over, parameters_over, variables_over, function_over, local_function_over, catch_over}
use Rattle.dart_syntax.specs.Agreement.{bare_parameter_tokens}
use Rattle.dart_syntax.proofs.AgreeingExpressions.{said_sign}
use Rattle.dart_syntax.proofs.AgreeingStatements.{said_word, said_metadata, said_annotation, said_required, said_optional, said_variables}
use Rattle.syntax_measures.specs.Relations.{Relation, ExprsRelate, StmtsRelate, written_result_height, written_catch_height, bare_parameter_height}
use Rattle.syntax_measures.proofs.BracketKinds.{Bracket, parentheses, squares, braces, is_plain}
use Rattle.syntax_measures.proofs.Walk.{Walk, flat}
use Rattle.syntax_measures.proofs.Walking.{the_sign, the_word, the_empty, an_identifier, a_dot_name, after, before, before_if, closed, closing_after, maybe_flat, all_flat, with_commas, enclosed}
use Rattle.syntax_measures.proofs.WalkTypes.{walk_result, walk_variables_kind, walk_some_kind}
use Rattle.syntax_measures.proofs.WalkExpressions.{walk_after_sign}

-- ---- heights

pub high_result : (x : Option ResultType) → result_height x ≡ height_if written_result_height x
high_result None = refl
high_result (Some x) = refl

high_annotation : (x : Place × (Identifier × (List DotName × Option Arguments))) → height.annotation_height (to_annotation x) ≡ height_if height.arguments_height x.1.1.1
unfolding height.annotation_height height.arguments_height
high_annotation (at, (name, (more, None))) = refl
high_annotation (at, (name, (more, Some (t.the_arguments opening items closing)))) = refl

high_metadata : (xs : List Annotation) → height.metadata_height (to_metadata xs) ≡ highest height.annotation_height xs
unfolding height.metadata_height
high_metadata [] = refl
high_metadata (x ∷ xs) = ap (λ (k : ℕ). max (height.annotation_height x) k) (high_metadata xs)

high_required : (xs : List (Place × (Metadata × ParameterKind))) → height.parameter_list_height (more_required xs) ≡ highest (λ x. bare_parameter_height x.1) xs
unfolding height.parameter_list_height height.parameter_height height.value_height
high_required [] = refl
high_required (x ∷ xs) = omega (arith, high_required xs)

high_optional : (xs : List (Place × ((Metadata × ParameterKind) × Value))) → height.parameter_list_height (more_optional xs) ≡ highest (λ x. max (bare_parameter_height x.1.0) (height.value_height x.1.1)) xs
unfolding height.parameter_list_height height.parameter_height
high_optional [] = refl
high_optional (x ∷ xs) = omega (arith, high_optional xs)

high_variables : (xs : List (Place × (Identifier × Value))) → height.more_variables_height (more_variables xs) ≡ highest (λ x. height.value_height x.1.1) xs
unfolding height.more_variables_height
high_variables [] = refl
high_variables (x ∷ xs) = ap (λ (k : ℕ). max (height.value_height x.1.1) k) (high_variables xs)

-- required parameters before others, and optional ones in their brackets
abbrev before_tokens : ParameterList × Option Place → List Token
before_tokens = both_spelling parameter_list_tokens (option_spelling (sign_tokens s.Comma))

abbrev optional_tokens : BracketKind → Place × (ParameterList × Place) → List Token
optional_tokens kind = both_spelling (sign_tokens (left_of kind)) (both_spelling parameter_list_tokens (sign_tokens (right_of kind)))

module _ {R : ℕ → Relation} {C : Bracket → ℕ → Relation} {Pair : ℕ → ℕ → Type 0} (W : Walk R C Pair) {m : ℕ} where
  -- ---- metadata and bodies

  module _ {p q : ExprNodes} (H : ExprsRelate (R m) p q) where
    pub walk_metadata : R m Metadata height.metadata_height metadata_tokens (metadata_of p) (metadata_of q)
    walk_metadata = W.make metadata_tokens height.metadata_height to_metadata
        (W.all (W.make annotation_tokens height.annotation_height to_annotation (after W (the_sign W s.AtSign refl) (after W (an_identifier W) (after W (all_flat W (a_dot_name W)) (W.maybe H.arguments)))) said_annotation high_annotation))
        said_metadata high_metadata

    pub walk_this_dot : R m ThisDot flat this_dot_tokens (this_dot p) (this_dot q)
    walk_this_dot = W.make this_dot_tokens flat _ (after W (the_word W w.This) (the_sign W s.Dot refl)) (λ x. refl) (λ x. refl)

    walk_whole_body : R m Body height.body_height body_tokens (whole_body p) (whole_body q)
    unfolding body_tokens height.body_height
    walk_whole_body = W.one (W.make body_tokens height.body_height _ (after W (the_sign W s.Arrow refl) (before W H.expr (the_sign W s.Semicolon refl))) (λ x. refl) (λ x. refl)) (W.make body_tokens height.body_height t.block_body H.block (λ x. refl) (λ x. refl))

    pub walk_body : R m Body height.body_height body_tokens (body_of p) (body_of q)
    unfolding body_tokens height.body_height
    walk_body = W.one walk_whole_body (W.make body_tokens height.body_height t.no_body (the_sign W s.Semicolon refl) (λ x. refl) (λ x. refl))

  pub a_comma_name : R m CommaName flat comma_name_tokens comma_name comma_name
  a_comma_name = W.make comma_name_tokens flat _ (after W (the_sign W s.Comma refl) (an_identifier W)) (λ x. refl) (λ x. refl)

  module _ {p q : StmtNodes} (I : StmtsRelate (R m) p q) where
    -- ---- parameters

    pub walk_parameter : R (suc m) (Metadata × ParameterKind) bare_parameter_height bare_parameter_tokens (parameter_over p) (parameter_over q)
    unfolding parameter_kind_tokens height.parameter_kind_height
    walk_parameter = W.node (W.both (walk_metadata I.expr_nodes) (W.one
        (W.make parameter_kind_tokens height.parameter_kind_height _ (before W (walk_some_kind W I.expr_nodes.type) (after W (maybe_flat W (walk_this_dot I.expr_nodes)) (an_identifier W))) (λ x. refl) (λ x. refl))
        (W.make parameter_kind_tokens height.parameter_kind_height _ (W.both (W.maybe (walk_result W I.expr_nodes.type)) (after W (maybe_flat W (walk_this_dot I.expr_nodes)) (after W (an_identifier W) I.expr_nodes.parameters))) (λ x. refl) (λ x. omega (arith, high_result x.0)))))

    walk_required : R m ParameterList height.parameter_list_height parameter_list_tokens (required_over p) (required_over q)
    unfolding parameter_list_tokens height.parameter_list_height height.parameter_height height.value_height
    walk_required = W.make parameter_list_tokens height.parameter_list_height to_required (with_commas W I.parameter) (λ x. simp (said_required, append-nil)) (λ x. omega (arith, high_required x.1))

    pub walk_no_or_required : R m ParameterList height.parameter_list_height parameter_list_tokens (perhaps t.no_parameters (required_over p)) (perhaps t.no_parameters (required_over q))
    unfolding parameter_list_tokens height.parameter_list_height
    walk_no_or_required = W.or_none t.no_parameters refl refl walk_required

    -- optional parameters, which may have defaults
    abbrev defaulted_of : StmtNodes → Sign → Phrase ParameterList
    defaulted_of nodes which = made parameter_list_tokens to_optional (commas (nodes.parameter ~ after_sign which nodes.expr_nodes.expr))

    walk_defaulted : (which : Sign) → is_plain which ≡ true → R m ParameterList height.parameter_list_height parameter_list_tokens (defaulted_of p which) (defaulted_of q which)
    unfolding parameter_list_tokens height.parameter_list_height height.parameter_height
    walk_defaulted which plain = W.make parameter_list_tokens height.parameter_list_height to_optional (with_commas W (W.both I.parameter (walk_after_sign W I.expr_nodes.expr which plain))) (λ x. simp (said_optional, append_assoc)) (λ x. omega (arith, high_optional x.1))

    pub walk_optional : (kind : BracketKind) (which : Sign) → is_plain which ≡ true → R m (Place × (ParameterList × Place)) (λ x. height.parameter_list_height x.1.0) (optional_tokens kind) (optional_over p kind which) (optional_over q kind which)
    unfolding parameter_list_tokens height.parameter_list_height height.parameter_height
    walk_optional b.Square which plain = enclosed W squares (walk_defaulted which plain)
    walk_optional b.Curly which plain = enclosed W braces (walk_defaulted which plain)

    pub walk_required_before : R m (ParameterList × Option Place) (λ x. height.parameter_list_height x.0) before_tokens (required_before p) (required_before q)
    unfolding parameter_list_tokens height.parameter_list_height
    walk_required_before = W.or_none (t.no_parameters, None) refl refl (W.make before_tokens (λ x. height.parameter_list_height x.0) _ (before W walk_required (the_sign W s.Comma refl)) (λ x. refl) (λ x. refl))

    walk_in_brackets : (kind : BracketKind) (which : Sign) → is_plain which ≡ true → R (suc m) Parameters height.parameters_height parameters_tokens (bracketed_over p kind which) (bracketed_over q kind which)
    unfolding parameters_tokens height.parameters_height
    walk_in_brackets kind which plain = W.make parameters_tokens height.parameters_height (with_optional kind) (W.node (W.left parentheses (W.closing walk_required_before (closed W parentheses (walk_optional kind which plain))))) (λ x. simp (said_sign, append_assoc)) (λ x. refl)

    pub walk_parameters : R (suc m) Parameters height.parameters_height parameters_tokens (parameters_over p) (parameters_over q)
    unfolding parameters_tokens height.parameters_height parameter_list_tokens height.parameter_list_height
    walk_parameters = W.one
        (W.make parameters_tokens height.parameters_height _ (W.node (enclosed W parentheses walk_no_or_required)) (λ x. refl) (λ x. omega arith))
        (W.one (walk_in_brackets b.Square s.Assign refl) (walk_in_brackets b.Curly s.Colon refl))

    -- ---- variables and functions

    pub walk_variables : R (suc m) Variables height.variables_height variables_tokens (variables_over p) (variables_over q)
    unfolding variables_tokens height.variables_height
    walk_variables = W.make variables_tokens height.variables_height _ (W.node (W.both (before_if W kind_leaves_name (walk_variables_kind W I.expr_nodes.type) (an_identifier W))
        (W.both (walk_after_sign W I.expr_nodes.expr s.Assign refl) (before W (W.all (after W (the_sign W s.Comma refl) (after W (an_identifier W) (walk_after_sign W I.expr_nodes.expr s.Assign refl)))) (the_sign W s.Semicolon refl)))))
        (λ x. simp (said_variables, append_assoc)) (λ x. simp high_variables)

    pub walk_function : {external : Phrase (Option Place)} {body other : Phrase Body} → R m (Option Place) flat (option_spelling (word_tokens w.External)) external external → R m Body height.body_height body_tokens body other → R (suc m) Function height.function_height function_tokens (function_over p external body) (function_over q external other)
    unfolding function_tokens height.function_height
    walk_function E B = W.make function_tokens height.function_height _ (W.node (after W E (W.both (before_if W result_leaves_name (W.maybe (walk_result W I.expr_nodes.type)) (an_identifier W)) (W.both I.expr_nodes.parameters B))))
        (λ x. simp (said_word, append_assoc)) (λ x. omega (arith, high_result x.1.0.0))

    pub walk_local_function : R (suc m) Function height.function_height function_tokens (local_function_over p) (local_function_over q)
    walk_local_function = walk_function (the_empty W (option_spelling (word_tokens w.External)) None refl refl) (walk_whole_body I.expr_nodes)

    pub walk_catch : R (suc m) Catch written_catch_height catch_tokens (catch_over p) (catch_over q)
    walk_catch = W.make catch_tokens written_catch_height _ (W.node (after W (the_word W w.Catch) (W.left parentheses (closing_after W (an_identifier W) (closed W parentheses (maybe_flat W a_comma_name)))))) (λ x. refl) (λ x. refl)
