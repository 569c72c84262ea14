-- The walk over classes, their members and the other declarations.
use Rattle.std.proofs.Common.{◌≡◌, ℕ, zero, suc, max, ◌≤◌, arith, true, List, [], ◌∷◌, Option, None, refl, ap, subst, inl, append_assoc, ◌⊎◌, inr}
use Rattle.grammar_laws.specs.Fronts.{Alone, option_spelling}
use Rattle.dart_base.specs.declared.place.Place.{Place}
use Rattle.dart_token.specs.declared.token.Token.{Token}
use Rattle.dart_token.specs.declared.sign.Sign.{Sign}
use Rattle.dart_token.specs.declared.sign.Sign.TheVariants as s
use Rattle.dart_token.specs.declared.word.Word.TheVariants as w
use Rattle.dart_tree.specs.declared.identifier.Identifier.{Identifier}
use Rattle.dart_tree.specs.declared.identifier.Identifier.TheVariants as i
use Rattle.dart_tree.specs.declared.declaration.Modifier.{Modifier}
use Rattle.dart_tree.specs.declared.declaration.Modifier.TheVariants as modifier
use Rattle.dart_tree.specs.declared.declaration.OperatorName.{OperatorName}
use Rattle.dart_tree.specs.declared.declaration.OperatorName.TheVariants as o
use Rattle.dart_tree.specs.declared.declaration.ConstructorName.{ConstructorName}
use Rattle.dart_tree.specs.LeafTokens.{identifier_tokens}
use Rattle.dart_tree.specs.Tree as t
use Rattle.dart_tree.specs.Tree.{Body, Function, Metadata}
use Rattle.dart_tree.specs.Tokens.{body_tokens, function_tokens}
use Rattle.dart_tree.specs.Unit as d
use Rattle.dart_tree.specs.Unit.{Bound, TypeClause, TypeParameters, Superclass, Alias, AccessorKind, Accessor, OperatorMember, InitKind, Initializers, Constructor, MemberKind, Member, ClassKind, Class, Enum, Decl}
use Rattle.dart_tree.specs.UnitTokens.{clause_tokens, bound_tokens, type_parameters_tokens, superclass_tokens, alias_tokens, accessor_kind_tokens, accessor_tokens, operator_name_tokens, operator_member_tokens, constructor_name_tokens, init_kind_tokens, initializers_tokens, constructor_tokens, modifier_tokens, member_kind_tokens, member_tokens, class_kind_tokens, class_tokens, enum_tokens, decl_kind_tokens, decl_tokens}
use Rattle.dart_tree.specs.Depth as height
use Rattle.dart_tree.specs.Depth.{height_if, highest, bound_height, type_parameter_height, type_parameters_height, clause_height, superclass_height, init_kind_height, init_height, initializers_height, constructor_height, accessor_kind_height, accessor_height, operator_height, member_kind_height, member_height, class_kind_height, class_height, alias_height, decl_kind_height, decl_height}
use Rattle.dart_syntax.specs.Phrases.{Phrase, exactly}
use Rattle.dart_syntax.specs.Leaves.{word_tokens, plain_identifier}
use Rattle.dart_syntax.specs.Types.{result_leaves_name}
use Rattle.dart_syntax.specs.Statements.{StmtNodes, Within, within}
use Rattle.dart_syntax.specs.Declarations.{more_type_parameters, more_inits, class_name, target_takes_names, bound_over, type_parameters_over, mixins_over, interfaces_over, superclass_over, alias_over, accessor_kind_over, accessor_over, signs_of, operator_signs, operator_name_over, operator_member_over, constructor_name_over, init_over, init_within, initializers_over, generative_over, constant_over, redirecting_over, factory_over, constructor_over, constructor_within, external_or_none, without_external, function_within, accessor_within, alias_within, callable_within, variables_within, constructor_member, other_member, member_within, class_kind_within, class_over, class_within, enum_over, enum_within, decl_within}
use Rattle.dart_syntax.proofs.AgreeingExpressions.{said_sign, said_cascades}
use Rattle.dart_syntax.proofs.AgreeingStatements.{said_word}
use Rattle.dart_syntax.proofs.AgreeingDeclarations.{said_parameters, said_inits, constructors_agree, classes_agree, enums_agree, declarations_agree}
use Rattle.syntax_measures.specs.Relations.{Relation, StmtsRelate, WithinRelate, DeclarationsRelate, enum_height}
use Rattle.syntax_measures.specs.Readings.{bare_member_tokens}
use Rattle.syntax_measures.proofs.Scanning.{both_true}
use Rattle.syntax_measures.proofs.BracketKinds.{Bracket, squares, braces, is_plain, Single}
use Rattle.syntax_measures.proofs.Walk.{Walk, flat}
use Rattle.syntax_measures.proofs.Walking.{emptied, the_sign, the_word, the_name, the_empty, an_identifier, a_dot_name, after, before, maybe_flat, all_flat, with_commas, one_name_plain, enclosed, closing_after}
use Rattle.syntax_measures.proofs.WalkTypes.{walk_types, walk_result}
use Rattle.syntax_measures.proofs.WalkExpressions.{high_cascades, all_plain}
use Rattle.syntax_measures.proofs.WalkLevels.{walk_cascaded}
use Rattle.syntax_measures.proofs.WalkStatements.{high_result, walk_metadata, a_comma_name, walk_this_dot, walk_body, walk_function}
use Rattle.syntax_measures.proofs.WalkStages.{function_high}

-- ---- heights

high_parameters : (xs : List (Place × (Metadata × (Identifier × Option Bound)))) → highest type_parameter_height (more_type_parameters xs) ≡ highest (λ x. max (height.metadata_height x.1.0) (height_if bound_height x.1.1.1)) xs
high_parameters [] = refl
high_parameters (x ∷ xs) = ap (λ (k : ℕ). max (max (height.metadata_height x.1.0) (height_if bound_height x.1.1.1)) k) (high_parameters xs)

-- an initializer without its comma, which is a node
abbrev bare_init_height : InitKind → ℕ
bare_init_height x = suc (init_kind_height x)

high_inits : (xs : List (Place × InitKind)) → highest init_height (more_inits xs) ≡ highest (λ x. bare_init_height x.1) xs
high_inits [] = refl
high_inits (x ∷ xs) = ap (λ (k : ℕ). max (bare_init_height x.1) k) (high_inits xs)

constructor_high : (x : Constructor) → constructor_height x ≤ 0 → ⊥
constructor_high (d.generative constant name given inits inner) low = omega arith
constructor_high (d.redirecting name given colon this other handed semicolon) low = omega arith
constructor_high (d.factory external word name given inner) low = omega arith
constructor_high (d.redirecting_factory external word name given equals target other semicolon) low = omega arith

-- ---- parts of declarations

identifier_begun : (ts : List Token) → plain_identifier.front ts → (ts ≡ []) ⊎ ((x : Identifier) × plain_identifier.Fits x × (ts ≡ identifier_tokens x))
identifier_begun ts (inl e) = inl e
identifier_begun ts (inr (x, e)) = inr (i.Name x.0 x.1, (x, tt, refl), e)

single_identifier : Single identifier_tokens plain_identifier
single_identifier = record { spells = λ x. refl; plain = λ x fits. one_name_plain x; begun = identifier_begun }

abbrev external_tokens : Option Place → List Token
external_tokens = option_spelling (word_tokens w.External)

module _ {R : ℕ → Relation} {C : Bracket → ℕ → Relation} {Pair : ℕ → ℕ → Type 0} (W : Walk R C Pair) {m : ℕ} where
  pub a_plain_identifier : R m Identifier flat identifier_tokens plain_identifier plain_identifier
  a_plain_identifier = W.same plain_identifier (λ x fits. refl) single_identifier

  a_declared_name : (p q : StmtNodes) (class : List ℕ) → R m ConstructorName flat constructor_name_tokens (constructor_name_over p class) (constructor_name_over q class)
  a_declared_name p q class = W.make constructor_name_tokens flat _ (after W (W.make identifier_tokens flat _ (the_name W class) (λ x. refl) (λ x. refl)) (maybe_flat W (a_dot_name W))) (λ x. refl) (λ x. refl)

  the_external : R m (Option Place) flat external_tokens external_or_none external_or_none
  the_external = maybe_flat W (the_word W w.External)

  no_external : R m (Option Place) flat external_tokens without_external without_external
  no_external = the_empty W external_tokens None refl refl

  module _ (p q : StmtNodes) where
    some_signs : (xs : List Sign) → all_plain xs ≡ true → R m OperatorName flat operator_name_tokens (signs_of p xs) (signs_of q xs)
    some_signs [] plain = W.empty (λ a. refl) refl
    some_signs (x ∷ xs) plain =
        let both : (is_plain x ≡ true) × (all_plain xs ≡ true) = both_true (is_plain x) (all_plain xs) plain in
        W.one (W.make operator_name_tokens flat (λ place. o.Sign place x) (the_sign W x both.0) (λ place. refl) (λ place. refl)) (some_signs xs both.1)

    an_operator_name : R m OperatorName flat operator_name_tokens (operator_name_over p) (operator_name_over q)
    an_operator_name = W.one (some_signs operator_signs refl)
        (W.one (W.make operator_name_tokens flat _ (after W (the_sign W s.Greater refl) (the_sign W s.Greater refl)) (λ x. refl) (λ x. refl))
        (W.one (W.make operator_name_tokens flat _ (W.left squares (W.right squares)) (λ x. refl) (λ x. refl))
        (W.make operator_name_tokens flat _ (W.left squares (W.right_then squares (the_sign W s.Assign refl))) (λ x. refl) (λ x. refl))))

  module _ {p q : StmtNodes} (I : StmtsRelate (R m) p q) where
    walk_bound : R m Bound bound_height bound_tokens (bound_over p) (bound_over q)
    walk_bound = W.make bound_tokens bound_height _ (after W (the_word W w.Extends) I.expr_nodes.type) (λ x. refl) (λ x. refl)

    walk_type_parameters : R m TypeParameters type_parameters_height type_parameters_tokens (type_parameters_over p) (type_parameters_over q)
    walk_type_parameters = W.make type_parameters_tokens type_parameters_height _ (after W (the_sign W s.Less refl) (before W (with_commas W (W.both (walk_metadata W I.expr_nodes) (after W a_plain_identifier (W.maybe walk_bound)))) (the_sign W s.Greater refl)))
        (λ x. simp (said_parameters, append_assoc)) (λ x. simp high_parameters)

    walk_mixins : R m TypeClause clause_height (clause_tokens w.With) (mixins_over p) (mixins_over q)
    walk_mixins = W.make (clause_tokens w.With) clause_height _ (after W (the_word W w.With) (walk_types W I.expr_nodes.type)) (λ x. refl) (λ x. refl)

    walk_interfaces : R m TypeClause clause_height (clause_tokens w.Implements) (interfaces_over p) (interfaces_over q)
    walk_interfaces = W.make (clause_tokens w.Implements) clause_height _ (after W (the_word W w.Implements) (walk_types W I.expr_nodes.type)) (λ x. refl) (λ x. refl)

    walk_superclass : R m Superclass superclass_height superclass_tokens (superclass_over p) (superclass_over q)
    walk_superclass = W.make superclass_tokens superclass_height _ (after W (the_word W w.Extends) (W.both I.expr_nodes.type (W.maybe walk_mixins))) (λ x. refl) (λ x. refl)

    walk_alias : R (suc m) Alias alias_height alias_tokens (alias_over p) (alias_over q)
    walk_alias = W.make alias_tokens alias_height _ (W.node (after W (the_word W w.Typedef) (W.both (W.maybe (walk_result W I.expr_nodes.type)) (after W a_plain_identifier (W.both (W.maybe walk_type_parameters) (before W I.expr_nodes.parameters (the_sign W s.Semicolon refl)))))))
        (λ x. refl) (λ x. omega (arith, high_result x.1.0))

    walk_accessor_kind : R m AccessorKind accessor_kind_height accessor_kind_tokens (accessor_kind_over p) (accessor_kind_over q)
    walk_accessor_kind = W.one (W.make accessor_kind_tokens accessor_kind_height _ (after W (the_word W w.Get) (an_identifier W)) (λ x. refl) (λ x. refl))
        (W.make accessor_kind_tokens accessor_kind_height _ (after W (the_word W w.Set) (after W (an_identifier W) I.expr_nodes.parameters)) (λ x. refl) (λ x. refl))

    walk_accessor : {external : Phrase (Option Place)} → R m (Option Place) flat external_tokens external external → R (suc m) Accessor accessor_height accessor_tokens (accessor_over p external) (accessor_over q external)
    walk_accessor E = W.make accessor_tokens accessor_height _ (W.node (after W E (W.both (W.both_if result_leaves_name (W.maybe (walk_result W I.expr_nodes.type)) walk_accessor_kind) (walk_body W I.expr_nodes))))
        (λ x. simp (said_word, append_assoc)) (λ x. omega (arith, high_result x.1.0.0))

    walk_operator : R m OperatorMember operator_height operator_member_tokens (operator_member_over p) (operator_member_over q)
    walk_operator = W.make operator_member_tokens operator_height _ (after W the_external (W.both (W.maybe (walk_result W I.expr_nodes.type)) (after W (the_word W w.Operator) (after W (an_operator_name p q) (W.both I.expr_nodes.parameters (walk_body W I.expr_nodes))))))
        (λ x. simp said_word) (λ x. omega (arith, high_result x.1.0))

  -- ---- constructors

  walk_init : {p q : Within} → WithinRelate (R m) p q → R (suc m) InitKind bare_init_height init_kind_tokens (init_over p) (init_over q)
  walk_init I = W.one (W.make init_kind_tokens bare_init_height _ (W.node (after W (the_word W w.Super) (after W (maybe_flat W (a_dot_name W)) I.nodes.expr_nodes.arguments))) (λ x. refl) (λ x. refl))
      (W.make init_kind_tokens bare_init_height _ (W.node (after W (maybe_flat W (walk_this_dot W I.nodes.expr_nodes)) (after W (an_identifier W) (after W (the_sign W s.Assign refl) (walk_cascaded W I.nodes.expr_nodes I.levels))))) (λ x. simp said_cascades) (λ x. simp high_cascades))

  module _ {p q : StmtNodes} (I : StmtsRelate (R m) p q) {init other : Phrase InitKind} (N : R m InitKind bare_init_height init_kind_tokens init other) (class : List ℕ) where
    walk_initializers : R m Initializers initializers_height initializers_tokens (initializers_over p init class) (initializers_over q other class)
    walk_initializers = W.make initializers_tokens initializers_height _ (after W (the_sign W s.Colon refl) (with_commas W N)) (λ x. simp said_inits) (λ x. simp high_inits)

    walk_generative : R (suc m) Constructor constructor_height constructor_tokens (generative_over p init class) (generative_over q other class)
    unfolding body_tokens height.body_height
    walk_generative = W.make constructor_tokens constructor_height _ (W.node (after W (a_declared_name p q class) (W.both I.expr_nodes.parameters (W.both
        (W.maybe walk_initializers)
        (W.one (W.make body_tokens height.body_height t.block_body I.expr_nodes.block (λ x. refl) (λ x. refl)) (W.make body_tokens height.body_height t.no_body (the_sign W s.Semicolon refl) (λ x. refl) (λ x. refl)))))))
        (λ x. refl) (λ x. refl)

    walk_constant : R (suc m) Constructor constructor_height constructor_tokens (constant_over p init class) (constant_over q other class)
    unfolding body_tokens height.body_height
    walk_constant = W.make constructor_tokens constructor_height _ (W.node (after W (the_word W w.Const) (after W (a_declared_name p q class) (W.both I.expr_nodes.parameters (before W (W.maybe walk_initializers) (the_sign W s.Semicolon refl))))))
        (λ x. refl) (λ x. omega arith)

    walk_redirecting : R (suc m) Constructor constructor_height constructor_tokens (redirecting_over p init class) (redirecting_over q other class)
    walk_redirecting = W.make constructor_tokens constructor_height _ (W.node (after W (a_declared_name p q class) (W.both I.expr_nodes.parameters (after W (the_sign W s.Colon refl) (after W (the_word W w.This) (after W (maybe_flat W (a_dot_name W)) (before W I.expr_nodes.arguments (the_sign W s.Semicolon refl))))))))
        (λ x. refl) (λ x. refl)

    walk_factory : R (suc m) Constructor constructor_height constructor_tokens (factory_over p init class) (factory_over q other class)
    walk_factory = W.one
        (W.make constructor_tokens constructor_height _ (W.node (after W the_external (after W (the_word W w.Factory) (after W (a_declared_name p q class) (W.both I.expr_nodes.parameters (walk_body W I.expr_nodes))))))
        (λ x. simp said_word) (λ x. refl))
        (W.make constructor_tokens constructor_height _ (W.node (after W the_external (after W (the_word W w.Factory) (after W (a_declared_name p q class) (W.both I.expr_nodes.parameters (after W (the_sign W s.Assign refl)
        (W.good target_takes_names (before W I.expr_nodes.type (after W (maybe_flat W (a_dot_name W)) (the_sign W s.Semicolon refl))))))))))
        (λ x. simp said_word) (λ x. refl))

    walk_constructor : R (suc m) Constructor constructor_height constructor_tokens (constructor_over p init class) (constructor_over q other class)
    walk_constructor = W.one walk_generative (W.one walk_constant (W.one walk_redirecting walk_factory))

-- ---- by depth

-- where no constructor has the tokens of another member at one depth, none has at the other
abbrev pub StillOthers : (ℕ → ℕ → Type 0) → Type 0
StillOthers Pair = (class : List ℕ) (n m : ℕ) → Pair n m → (x : Modifier × MemberKind) → (other_member n).Fits x → Alone bare_member_tokens (constructor_member n class).Fits x → Alone bare_member_tokens (constructor_member m class).Fits x

module _ {R : ℕ → Relation} {C : Bracket → ℕ → Relation} {Pair : ℕ → ℕ → Type 0} (W : Walk R C Pair) (below : (n m : ℕ) → Pair n m → WithinRelate (R m) (within n) (within m)) (still : StillOthers Pair) where
  walk_inits : (n m : ℕ) → Pair n m → R m InitKind bare_init_height init_kind_tokens (init_within n) (init_within m)
  walk_inits zero zero pair = W.empty (λ a. refl) refl
  walk_inits zero (suc m) pair = W.empty (λ a. refl) (inl (inl (inl refl)))
  walk_inits (suc n) zero pair = W.high pair (λ x fits low. omega arith)
  walk_inits (suc n) (suc m) pair = walk_init W (below n m (W.under pair))

  walk_constructors : (class : List ℕ) (n m : ℕ) → Pair n m → R m Constructor constructor_height constructor_tokens (constructor_within class n) (constructor_within class m)
  walk_constructors class zero m pair = emptied W (constructors_agree class m)
  walk_constructors class (suc n) zero pair = W.high pair (λ x fits low. constructor_high x low)
  walk_constructors class (suc n) (suc m) pair = walk_constructor W (below n m (W.under pair)).nodes (walk_inits n m (W.under pair)) class

  module _ {external : Phrase (Option Place)} (E : (m : ℕ) → R m (Option Place) flat external_tokens external external) (none : external.front []) where
    walk_functions : (n m : ℕ) → Pair n m → R m Function height.function_height function_tokens (function_within external n) (function_within external m)
    walk_functions zero zero pair = W.empty (λ a. refl) refl
    walk_functions zero (suc m) pair = W.empty (λ a. refl) (inl none)
    walk_functions (suc n) zero pair = W.high pair (λ x fits low. function_high x low)
    walk_functions (suc n) (suc m) pair =
        let nodes : StmtsRelate (R m) (within n).nodes (within m).nodes = (below n m (W.under pair)).nodes in
        walk_function W nodes (E m) (walk_body W nodes.expr_nodes)

    walk_accessors : (n m : ℕ) → Pair n m → R m Accessor accessor_height accessor_tokens (accessor_within external n) (accessor_within external m)
    walk_accessors zero zero pair = W.empty (λ a. refl) refl
    walk_accessors zero (suc m) pair = W.empty (λ a. refl) (inl none)
    walk_accessors (suc n) zero pair = W.high pair (λ x fits low. omega arith)
    walk_accessors (suc n) (suc m) pair = walk_accessor W (below n m (W.under pair)).nodes (E m)

    walk_callable : (n m : ℕ) → Pair n m → R m MemberKind member_kind_height member_kind_tokens (callable_within n external) (callable_within m external)
    walk_callable n m pair = W.one (W.make member_kind_tokens member_kind_height d.function_member (walk_functions n m pair) (λ x. refl) (λ x. refl)) (W.make member_kind_tokens member_kind_height d.accessor_member (walk_accessors n m pair) (λ x. refl) (λ x. refl))

  walk_aliases : (n m : ℕ) → Pair n m → R m Alias alias_height alias_tokens (alias_within n) (alias_within m)
  walk_aliases zero m pair = emptied W (declarations_agree m).alias
  walk_aliases (suc n) zero pair = W.high pair (λ x fits low. omega arith)
  walk_aliases (suc n) (suc m) pair = walk_alias W (below n m (W.under pair)).nodes

  module _ (n m : ℕ) (pair : Pair n m) where
    abbrev nodes : StmtsRelate (R m) (within n).nodes (within m).nodes
    nodes = (below n m pair).nodes

    walk_field : R m MemberKind member_kind_height member_kind_tokens (variables_within n) (variables_within m)
    walk_field = W.make member_kind_tokens member_kind_height d.variables_member nodes.variables (λ x. refl) (λ x. refl)

    walk_unmodified : R m Modifier flat modifier_tokens (exactly modifier_tokens modifier.Omitted) (exactly modifier_tokens modifier.Omitted)
    walk_unmodified = the_empty W modifier_tokens modifier.Omitted refl refl

    walk_others : R m (Modifier × MemberKind) (λ x. member_kind_height x.1) bare_member_tokens (other_member n) (other_member m)
    walk_others = W.one (after W walk_unmodified (W.one (walk_callable (λ m. the_external W) (inl refl) n m pair) (W.one walk_field (W.make member_kind_tokens member_kind_height d.operator_member (walk_operator W nodes) (λ x. refl) (λ x. refl)))))
        (W.one (after W (W.make modifier_tokens flat modifier.Static (the_word W w.Static) (λ x. refl) (λ x. refl)) (W.one (walk_callable (λ m. no_external W) refl n m pair) walk_field))
        (after W (W.make modifier_tokens flat _ (after W (the_word W w.External) (the_word W w.Static)) (λ x. refl) (λ x. refl)) (walk_callable (λ m. no_external W) refl n m pair)))

    walk_member : (class : List ℕ) → R m Member member_height member_tokens (member_within n class) (member_within m class)
    walk_member class = W.make member_tokens member_height _ (W.both (walk_metadata W nodes.expr_nodes) (W.first (still class n m pair)
        (after W walk_unmodified (W.make member_kind_tokens member_kind_height d.constructor_member (walk_constructors class n m pair) (λ x. refl) (λ x. refl))) walk_others)) (λ x. refl) (λ x. refl)

    walk_class_kind : (class : List ℕ) → R m ClassKind class_kind_height class_kind_tokens (class_kind_within n class) (class_kind_within m class)
    walk_class_kind class = W.one
        (W.make class_kind_tokens class_kind_height _ (W.both (W.maybe (walk_superclass W nodes)) (W.both (W.maybe (walk_interfaces W nodes)) (enclosed W braces (W.all (walk_member class))))) (λ x. refl) (λ x. refl))
        (W.make class_kind_tokens class_kind_height _ (after W (the_sign W s.Assign refl) (W.both nodes.expr_nodes.type (W.both (walk_mixins W nodes) (before W (W.maybe (walk_interfaces W nodes)) (the_sign W s.Semicolon refl))))) (λ x. refl) (λ x. refl))

    walk_class : R (suc m) Class class_height class_tokens (class_over n) (class_over m)
    walk_class = W.make class_tokens class_height _ (W.node (W.both_by class_kind_tokens
        (after W (maybe_flat W (the_word W w.Abstract)) (after W (the_word W w.Class) (after W (a_plain_identifier W) (W.maybe (walk_type_parameters W nodes)))))
        (λ header. walk_class_kind (class_name header)))) (λ x. simp (said_word, append_assoc)) (λ x. refl)

  walk_classes : (n m : ℕ) → Pair n m → R m Class class_height class_tokens (class_within n) (class_within m)
  walk_classes zero m pair = emptied W (classes_agree m)
  walk_classes (suc n) zero pair = W.high pair (λ x fits low. omega arith)
  walk_classes (suc n) (suc m) pair = walk_class n m (W.under pair)

  walk_enum : {m : ℕ} → R (suc m) Enum enum_height enum_tokens enum_over enum_over
  walk_enum = W.make enum_tokens enum_height _ (W.node (after W (the_word W w.Enum) (after W (a_plain_identifier W) (W.left braces (closing_after W (an_identifier W)
      (closing_after W (all_flat W (a_comma_name W)) (closing_after W (maybe_flat W (the_sign W s.Comma refl)) (W.right braces))))))))
      (λ x. simp said_sign) (λ x. refl)

  walk_enums : (n m : ℕ) → Pair n m → R m Enum enum_height enum_tokens (enum_within n) (enum_within m)
  walk_enums zero m pair = emptied W (enums_agree m)
  walk_enums (suc n) zero pair = W.high pair (λ x fits low. omega arith)
  walk_enums (suc n) (suc m) pair = walk_enum

  pub walk_declaration : (n m : ℕ) → Pair n m → R m Decl decl_height decl_tokens (decl_within n) (decl_within m)
  walk_declaration n m pair = W.make decl_tokens decl_height _ (W.both (walk_metadata W (below n m pair).nodes.expr_nodes)
      (W.one (W.make decl_kind_tokens decl_kind_height d.class_decl (walk_classes n m pair) (λ x. refl) (λ x. refl))
      (W.one (W.make decl_kind_tokens decl_kind_height d.alias_decl (walk_aliases n m pair) (λ x. refl) (λ x. refl))
      (W.one (W.make decl_kind_tokens decl_kind_height d.function_decl (walk_functions (λ m. the_external W) (inl refl) n m pair) (λ x. refl) (λ x. refl))
      (W.one (W.make decl_kind_tokens decl_kind_height d.accessor_decl (walk_accessors (λ m. the_external W) (inl refl) n m pair) (λ x. refl) (λ x. refl))
      (W.one (W.make decl_kind_tokens decl_kind_height d.variables_decl (below n m pair).nodes.variables (λ x. refl) (λ x. refl))
      (W.make decl_kind_tokens decl_kind_height d.enum_decl (walk_enums n m pair) (λ x. refl) (λ x. refl)))))))) (λ x. refl) (λ x. refl)

  pub walk_declarations : (n m : ℕ) → Pair n m → DeclarationsRelate (R m) n m
  walk_declarations n m pair = record {
    declaration = walk_declaration n m pair;
    class = walk_classes n m pair;
    member = walk_member n m pair;
    constructor = λ class. walk_constructors class n m pair;
    alias = walk_aliases n m pair;
    function = walk_functions (λ m. the_external W) (inl refl) n m pair;
    enum = walk_enums n m pair;
    accessor = walk_accessors (λ m. the_external W) (inl refl) n m pair;
  }

pub others_at_same : StillOthers (λ n m. n ≡ m)
others_at_same class n m same x fits alone = subst (λ k. Alone bare_member_tokens (constructor_member k class).Fits x) same alone
