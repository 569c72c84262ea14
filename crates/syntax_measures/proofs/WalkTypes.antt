-- The walk over types.
use Rattle.std.proofs.Common.{◌≡◌, ℕ, zero, suc, max, ◌≤◌, arith, List, [], ◌∷◌, ◌++◌, Option, None, Some, refl, ap}
use Rattle.std.proofs.lemmas.List.{append-nil}
use Rattle.dart_base.specs.declared.place.Place.{Place}
use Rattle.dart_token.specs.declared.sign.Sign.TheVariants as s
use Rattle.dart_token.specs.declared.word.Word.TheVariants as w
use Rattle.dart_tree.specs.LeafTokens.{type_tokens, type_arguments_tokens, type_list_tokens, result_tokens, kind_tokens}
use Rattle.dart_tree.specs.Types.{TypeNode, TypeList, TypeArguments, ResultType, VariableKind, type_more, no_more_types, dynamic_type, named_type, void_result, typed_result, no_kind, var_kind, typed_kind}
use Rattle.dart_tree.specs.Depth.{height_if, highest, type_height, type_list_height, type_arguments_height, type_option_height, kind_height}
use Rattle.dart_syntax.specs.Phrases.{Phrase, either, made, seq}
use Rattle.dart_syntax.specs.Leaves.{sign}
use Rattle.dart_syntax.specs.Types.{more_types, type_list, in_angles, types, type_arguments, type_over, type_within, result_over, kind_over, variables_kind_over, without_kind, pair_of_types}
use Rattle.dart_syntax.proofs.AgreeingTypes.{said_more, said_angles, types_within_agree}
use Rattle.syntax_measures.specs.Relations.{Relation, TypesRelate, written_result_height}
use Rattle.syntax_measures.proofs.Walk.{Walk}
use Rattle.syntax_measures.proofs.Walking.{emptied, the_sign, the_word, the_empty, an_identifier, a_dot_name, after, before, maybe_flat, with_commas}
use Rattle.syntax_measures.proofs.BracketKinds.{Bracket}

-- ---- heights of the lists of the trees

high_more : (xs : List (Place × TypeNode)) → type_list_height (more_types xs) ≡ highest (λ x. type_height x.1) xs
high_more [] = refl
high_more (x ∷ xs) = ap (λ (k : ℕ). max (type_height x.1) k) (high_more xs)

high_angles : (x : Option (Place × (TypeList × Place))) → type_arguments_height (in_angles x) ≡ height_if (λ x. type_list_height x.1.0) x
high_angles None = refl
high_angles (Some x) = refl

high_option : (x : Option TypeNode) → type_option_height x ≡ height_if type_height x
high_option None = refl
high_option (Some x) = refl

pub some_height : (x : TypeNode) → type_height x ≤ 0 → ⊥
some_height (dynamic_type place) low = omega arith
some_height (named_type name member given) low = omega arith

module _ {R : ℕ → Relation} {C : Bracket → ℕ → Relation} {Pair : ℕ → ℕ → Type 0} (W : Walk R C Pair) {m : ℕ} where
  pub walk_arguments : {p q : Phrase TypeList} → R m TypeList type_list_height type_list_tokens p q → R m TypeArguments type_arguments_height type_arguments_tokens (type_arguments p) (type_arguments q)
  walk_arguments P = W.make type_arguments_tokens type_arguments_height in_angles (W.maybe (after W (the_sign W s.Less refl) (before W P (the_sign W s.Greater refl)))) said_angles high_angles

  module _ {p q : Phrase TypeNode} (P : R m TypeNode type_height type_tokens p q) where
    pub walk_types : R m TypeList type_list_height type_list_tokens (types p) (types q)
    walk_types = W.make type_list_tokens type_list_height type_list (with_commas W P) (λ x. ap (λ l. type_tokens x.0 ++ l) (said_more x.1)) (λ x. ap (λ (k : ℕ). max (type_height x.0) k) (high_more x.1))

    -- one type, and two with a comma between them, as the type arguments of a literal are
    pub walk_one_type : R m TypeList type_list_height type_list_tokens (made type_list_tokens (λ x. type_more None x no_more_types) p) (made type_list_tokens (λ x. type_more None x no_more_types) q)
    walk_one_type = W.make type_list_tokens type_list_height _ P (λ x. append-nil (type_tokens x)) (λ x. omega arith)

    pub walk_two_types : R m TypeList type_list_height type_list_tokens (made type_list_tokens pair_of_types (seq p (seq (sign s.Comma) p))) (made type_list_tokens pair_of_types (seq q (seq (sign s.Comma) q)))
    walk_two_types = W.make type_list_tokens type_list_height pair_of_types (W.both P (after W (the_sign W s.Comma refl) P)) (λ x. simp append-nil) (λ x. omega arith)

    pub walk_result : R m ResultType written_result_height result_tokens (result_over p) (result_over q)
    walk_result = W.one (W.make result_tokens written_result_height void_result (the_word W w.Void) (λ x. refl) (λ x. refl)) (W.make result_tokens written_result_height typed_result P (λ x. refl) (λ x. refl))

    pub walk_kind : R m VariableKind kind_height kind_tokens (kind_over p) (kind_over q)
    walk_kind = W.one (W.make kind_tokens kind_height var_kind (the_word W w.Var) (λ x. refl) (λ x. refl))
        (W.one (W.make kind_tokens kind_height _ (after W (the_word W w.Final) (W.maybe P)) (λ x. refl) (λ x. high_option x.1))
        (W.make kind_tokens kind_height typed_kind P (λ x. refl) (λ x. refl)))

    pub walk_variables_kind : R m VariableKind kind_height kind_tokens (variables_kind_over p) (variables_kind_over q)
    walk_variables_kind = W.one walk_kind (W.make kind_tokens kind_height _ (after W (the_word W w.Const) (W.maybe P)) (λ x. refl) (λ x. high_option x.1))

    pub walk_some_kind : R m VariableKind kind_height kind_tokens (either without_kind (kind_over p)) (either without_kind (kind_over q))
    walk_some_kind = W.one (the_empty W kind_tokens no_kind refl refl) walk_kind

    walk_type : R (suc m) TypeNode type_height type_tokens (type_over p) (type_over q)
    walk_type = W.one (W.make type_tokens type_height dynamic_type (W.node (the_word W w.Dynamic)) (λ x. refl) (λ x. refl))
        (W.make type_tokens type_height _ (W.node (after W (an_identifier W) (after W (maybe_flat W (a_dot_name W)) (walk_arguments walk_types)))) (λ x. refl) (λ x. refl))

module _ {R : ℕ → Relation} {C : Bracket → ℕ → Relation} {Pair : ℕ → ℕ → Type 0} (W : Walk R C Pair) where
  pub walk_type_within : (n m : ℕ) → Pair n m → R m TypeNode type_height type_tokens (type_within n) (type_within m)
  unfolding type_within
  walk_type_within zero m pair = emptied W (types_within_agree m)
  walk_type_within (suc n) zero pair = W.high pair (λ x fits low. some_height x low)
  walk_type_within (suc n) (suc m) pair = walk_type W (walk_type_within n m (W.under pair))

  pub walk_all_types : (n m : ℕ) → Pair n m → TypesRelate (R m) (type_within n) (type_within m)
  walk_all_types n m pair =
      let type : R m TypeNode type_height type_tokens (type_within n) (type_within m) = walk_type_within n m pair in
      record { type = type; list = walk_types W type; arguments = walk_arguments W (walk_types W type); result = walk_result W type; kind = walk_kind W type; variables_kind = walk_variables_kind W type }
