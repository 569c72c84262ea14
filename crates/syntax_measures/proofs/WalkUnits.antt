-- The walk over directives and units.
use Rattle.std.proofs.Common.{◌≡◌, ℕ, zero, suc, max, arith, List, [], ◌∷◌, ◌++◌, Option, None, Some, refl, append_assoc, flat_map}
use Rattle.std.proofs.lemmas.Grind.{flat_map-append}
use Rattle.std.proofs.lemmas.List.{append-nil}
use Rattle.grammar_laws.specs.Fronts.{both_spelling}
use Rattle.dart_token.specs.declared.sign.Sign.TheVariants as s
use Rattle.dart_token.specs.declared.word.Word.TheVariants as w
use Rattle.dart_tree.specs.declared.identifier.Identifier.{Identifier}
use Rattle.dart_tree.specs.declared.identifier.DotName.{DotName}
use Rattle.dart_tree.specs.declared.unit.CombinatorKind.{CombinatorKind}
use Rattle.dart_tree.specs.declared.unit.CombinatorKind.TheVariants as k
use Rattle.dart_tree.specs.declared.unit.Prefix.{Prefix}
use Rattle.dart_tree.specs.LeafTokens.{identifier_tokens, dot_name_tokens}
use Rattle.dart_tree.specs.Unit.{Combinator, Directive, DirectiveKind, UnitTree}
use Rattle.dart_tree.specs.UnitTokens.{of_text, combinator_text, combinator_tokens, prefix_tokens, directive_kind_tokens, directive_tokens, unit_tokens}
use Rattle.dart_tree.specs.Depth.{height_if, highest, uri_height, directive_height, unit_height}
use Rattle.dart_syntax.specs.Phrases.{Phrase}
use Rattle.dart_syntax.specs.Expressions.{ExprNodes}
use Rattle.dart_syntax.specs.Statements.{within}
use Rattle.dart_syntax.specs.Units.{dotted, combinator_as, combinator, prefix, directive_over, part_of_over, library_over, import_over, export_over, part_over, directive_within, imports_and_exports, optional, unit_over, unit_within}
use Rattle.dart_syntax.specs.Agreement.{Agrees}
use Rattle.dart_syntax.proofs.AgreeingUnits.{said_optional, units_agree}
use Rattle.syntax_measures.specs.Relations.{Relation, ExprsRelate, WithinRelate, UnitsRelate}
use Rattle.syntax_measures.proofs.Walk.{Walk, flat}
use Rattle.syntax_measures.proofs.Walking.{emptied, the_sign, the_word, the_name, an_identifier, a_dot_name, after, before, maybe_flat, all_flat}
use Rattle.syntax_measures.proofs.WalkExpressions.{walk_strings}
use Rattle.syntax_measures.proofs.WalkStatements.{a_comma_name, walk_metadata}
use Rattle.syntax_measures.proofs.WalkDeclarations.{StillOthers, a_plain_identifier, walk_declaration}
use Rattle.syntax_measures.proofs.BracketKinds.{Bracket}

-- ---- heights

high_optional : (x : Option Directive) → highest directive_height (optional x) ≡ height_if directive_height x
high_optional None = refl
high_optional (Some x) = omega arith

high_append : (xs ys : List Directive) → highest directive_height (xs ++ ys) ≡ max (highest directive_height xs) (highest directive_height ys)
high_append [] ys = omega arith
high_append (x ∷ xs) ys = omega (arith, high_append xs ys)

module _ {R : ℕ → Relation} {C : Bracket → ℕ → Relation} {Pair : ℕ → ℕ → Type 0} (W : Walk R C Pair) {m : ℕ} where
  some_dotted : R m (Identifier × List DotName) flat (both_spelling identifier_tokens (flat_map dot_name_tokens)) dotted dotted
  some_dotted = after W (an_identifier W) (all_flat W (a_dot_name W))

  a_combinator_as : (kind : CombinatorKind) → R m Combinator flat combinator_tokens (combinator_as kind) (combinator_as kind)
  a_combinator_as kind = W.make combinator_tokens flat _ (after W (the_name W (combinator_text kind)) (after W (an_identifier W) (all_flat W (a_comma_name W)))) (λ x. refl) (λ x. refl)

  a_combinator : R m Combinator flat combinator_tokens combinator combinator
  a_combinator = W.one (a_combinator_as k.Show) (a_combinator_as k.Hide)

  a_prefix : R m Prefix flat prefix_tokens prefix prefix
  a_prefix = W.make prefix_tokens flat _ (after W (the_word W w.As) (a_plain_identifier W)) (λ x. refl) (λ x. refl)

  -- ---- directives

  module _ {p q : ExprNodes} (I : ExprsRelate (R m) p q) where
    walk_directive : {kind other : Phrase DirectiveKind} → R m DirectiveKind uri_height directive_kind_tokens kind other → R (suc m) Directive directive_height directive_tokens (directive_over p kind) (directive_over q other)
    walk_directive K = W.make directive_tokens directive_height _ (W.node (W.both (walk_metadata W I) (before W K (the_sign W s.Semicolon refl)))) (λ x. refl) (λ x. refl)

    walk_part_of : R (suc m) Directive directive_height directive_tokens (part_of_over p) (part_of_over q)
    walk_part_of = walk_directive (W.make directive_kind_tokens uri_height _ (after W (the_word W w.Part) (after W (the_name W of_text) some_dotted)) (λ x. refl) (λ x. refl))

    walk_library : R (suc m) Directive directive_height directive_tokens (library_over p) (library_over q)
    walk_library = walk_directive (W.make directive_kind_tokens uri_height _ (after W (the_word W w.Library) some_dotted) (λ x. refl) (λ x. refl))

    walk_import : R (suc m) Directive directive_height directive_tokens (import_over p) (import_over q)
    walk_import = walk_directive (W.make directive_kind_tokens uri_height _ (after W (the_word W w.Import) (before W (walk_strings W I.expr) (after W (maybe_flat W a_prefix) (all_flat W a_combinator)))) (λ x. refl) (λ x. refl))

    walk_export : R (suc m) Directive directive_height directive_tokens (export_over p) (export_over q)
    walk_export = walk_directive (W.make directive_kind_tokens uri_height _ (after W (the_word W w.Export) (before W (walk_strings W I.expr) (all_flat W a_combinator))) (λ x. refl) (λ x. refl))

    walk_part : R (suc m) Directive directive_height directive_tokens (part_over p) (part_over q)
    walk_part = walk_directive (W.make directive_kind_tokens uri_height _ (after W (the_word W w.Part) (walk_strings W I.expr)) (λ x. refl) (λ x. refl))

    walk_imports_and_exports : R (suc m) Directive directive_height directive_tokens (imports_and_exports p) (imports_and_exports q)
    walk_imports_and_exports = W.one walk_import walk_export

-- ---- by depth

module _ {R : ℕ → Relation} {C : Bracket → ℕ → Relation} {Pair : ℕ → ℕ → Type 0} (W : Walk R C Pair) (below : (n m : ℕ) → Pair n m → WithinRelate (R m) (within n) (within m)) (still : StillOthers Pair) where
  module _ (over : ExprNodes → Phrase Directive) (walk : (m : ℕ) (p q : ExprNodes) → ExprsRelate (R m) p q → R (suc m) Directive directive_height directive_tokens (over p) (over q)) (agree : (m : ℕ) → Agrees directive_tokens (directive_within over m)) where
    walk_directives : (n m : ℕ) → Pair n m → R m Directive directive_height directive_tokens (directive_within over n) (directive_within over m)
    walk_directives zero m pair = emptied W (agree m)
    walk_directives (suc n) zero pair = W.high pair (λ x fits low. omega arith)
    walk_directives (suc n) (suc m) pair = walk m (within n).nodes.expr_nodes (within m).nodes.expr_nodes (below n m (W.under pair)).nodes.expr_nodes

  module _ (n m : ℕ) (pair : Pair n m) where
    walk_parts_of : R m Directive directive_height directive_tokens (directive_within part_of_over n) (directive_within part_of_over m)
    walk_parts_of = walk_directives part_of_over (λ m p q I. walk_part_of W I) (λ m. (units_agree m).part_of) n m pair

    walk_libraries : R m Directive directive_height directive_tokens (directive_within library_over n) (directive_within library_over m)
    walk_libraries = walk_directives library_over (λ m p q I. walk_library W I) (λ m. (units_agree m).library) n m pair

    walk_imports : R m Directive directive_height directive_tokens (directive_within imports_and_exports n) (directive_within imports_and_exports m)
    walk_imports = walk_directives imports_and_exports (λ m p q I. walk_imports_and_exports W I) (λ m. (units_agree m).import_or_export) n m pair

    walk_parts : R m Directive directive_height directive_tokens (directive_within part_over n) (directive_within part_over m)
    walk_parts = walk_directives part_over (λ m p q I. walk_part W I) (λ m. (units_agree m).part) n m pair

    walk_unit : R (suc m) UnitTree unit_height unit_tokens (unit_over n) (unit_over m)
    walk_unit = W.one
        (W.make unit_tokens unit_height _ (W.node (W.both walk_parts_of (W.all (walk_declaration W below still n m pair)))) (λ x. simp append-nil) (λ x. omega arith))
        (W.make unit_tokens unit_height _ (W.node (W.both (W.maybe walk_libraries) (W.both (W.all walk_imports) (W.both (W.all walk_parts) (W.all (walk_declaration W below still n m pair))))))
        (λ x. simp (flat_map-append, said_optional, append_assoc)) (λ x. omega (arith, high_append (optional x.0) (x.1.0 ++ x.1.1.0), high_append x.1.0 x.1.1.0, high_optional x.0)))

  walk_units_within : (n m : ℕ) → Pair n m → R m UnitTree unit_height unit_tokens (unit_within n) (unit_within m)
  unfolding unit_within
  walk_units_within zero m pair = emptied W (units_agree m).unit
  walk_units_within (suc n) zero pair = W.high pair (λ x fits low. omega arith)
  walk_units_within (suc n) (suc m) pair = walk_unit n m (W.under pair)

  pub walk_units : (n m : ℕ) → Pair n m → UnitsRelate (R m) n m
  walk_units n m pair = record {
    unit = walk_units_within n m pair;
    part_of = walk_parts_of n m pair;
    library = walk_libraries n m pair;
    import_or_export = walk_imports n m pair;
    part = walk_parts n m pair;
  }
