-- Directives and units agree with their tokens, at every depth.
use Rattle.std.proofs.Common.{◌≡◌, ℕ, zero, suc, Option, None, Some, refl, append_assoc, flat_map}
use Rattle.std.proofs.lemmas.Grind.{flat_map-append}
use Rattle.std.proofs.lemmas.List.{append-nil}
use Rattle.grammar_laws.specs.Fronts.{both_spelling, option_spelling}
use Rattle.dart_token.specs.declared.sign.Sign.TheVariants as s
use Rattle.dart_token.specs.declared.word.Word.TheVariants as w
use Rattle.dart_tree.specs.declared.unit.CombinatorKind.{CombinatorKind}
use Rattle.dart_tree.specs.declared.unit.CombinatorKind.TheVariants as k
use Rattle.dart_tree.specs.LeafTokens.{identifier_tokens, dot_name_tokens}
use Rattle.dart_tree.specs.Unit.{Directive, DirectiveKind}
use Rattle.dart_tree.specs.UnitTokens.{of_text, combinator_text, combinator_tokens, prefix_tokens, directive_kind_tokens, directive_tokens, unit_tokens}
use Rattle.dart_syntax.specs.Phrases.{Phrase}
use Rattle.dart_syntax.specs.Expressions.{ExprNodes}
use Rattle.dart_syntax.specs.Statements.{within}
use Rattle.dart_syntax.specs.Units.{dotted, combinator_as, combinator, prefix, directive_over, part_of_over, library_over, import_over, export_over, part_over, directive_within, imports_and_exports, optional, unit_over, unit_within}
use Rattle.dart_syntax.specs.Agreement.{Agrees, ExprsAgree, UnitsAgree}
use Rattle.dart_syntax.proofs.Agreeing.{no_room_agrees, seq_agrees, opt_agrees, many_agrees, either_agrees, made_agrees}
use Rattle.dart_syntax.proofs.AgreeingTypes.{sign_agrees, word_agrees, named_agrees, identifier_agrees, dot_name_agrees}
use Rattle.dart_syntax.proofs.AgreeingExpressions.{strings_agree}
use Rattle.dart_syntax.proofs.AgreeingStatements.{comma_name_agrees, metadata_agrees}
use Rattle.dart_syntax.proofs.AgreeingStages.{within_agrees}
use Rattle.dart_syntax.proofs.AgreeingDeclarations.{plain_identifier_agrees, decl_agrees}

dotted_agrees : Agrees (both_spelling identifier_tokens (flat_map dot_name_tokens)) dotted
dotted_agrees = seq_agrees identifier_agrees (many_agrees dot_name_agrees)

combinator_as_agrees : (kind : CombinatorKind) → Agrees combinator_tokens (combinator_as kind)
combinator_as_agrees kind = made_agrees combinator_tokens _ (seq_agrees (named_agrees (combinator_text kind)) (seq_agrees identifier_agrees (many_agrees comma_name_agrees))) (λ x fits. refl)

combinator_agrees : Agrees combinator_tokens combinator
combinator_agrees = either_agrees (combinator_as_agrees k.Show) (combinator_as_agrees k.Hide)

prefix_agrees : Agrees prefix_tokens prefix
prefix_agrees = made_agrees prefix_tokens _ (seq_agrees (word_agrees w.As) plain_identifier_agrees) (λ x fits. refl)

-- ---- directives

module _ {inner : ExprNodes} (I : ExprsAgree inner) where
  directive_agrees : {kind : Phrase DirectiveKind} → Agrees directive_kind_tokens kind → Agrees directive_tokens (directive_over inner kind)
  directive_agrees K = made_agrees directive_tokens _ (seq_agrees (metadata_agrees I) (seq_agrees K (sign_agrees s.Semicolon))) (λ x fits. refl)

  part_of_agrees : Agrees directive_tokens (part_of_over inner)
  part_of_agrees = directive_agrees (made_agrees directive_kind_tokens _ (seq_agrees (word_agrees w.Part) (seq_agrees (named_agrees of_text) dotted_agrees)) (λ x fits. refl))

  library_agrees : Agrees directive_tokens (library_over inner)
  library_agrees = directive_agrees (made_agrees directive_kind_tokens _ (seq_agrees (word_agrees w.Library) dotted_agrees) (λ x fits. refl))

  import_agrees : Agrees directive_tokens (import_over inner)
  import_agrees = directive_agrees (made_agrees directive_kind_tokens _ (seq_agrees (word_agrees w.Import) (seq_agrees (strings_agree I.expr) (seq_agrees (opt_agrees prefix_agrees) (many_agrees combinator_agrees)))) (λ x fits. refl))

  export_agrees : Agrees directive_tokens (export_over inner)
  export_agrees = directive_agrees (made_agrees directive_kind_tokens _ (seq_agrees (word_agrees w.Export) (seq_agrees (strings_agree I.expr) (many_agrees combinator_agrees))) (λ x fits. refl))

  part_agrees : Agrees directive_tokens (part_over inner)
  part_agrees = directive_agrees (made_agrees directive_kind_tokens _ (seq_agrees (word_agrees w.Part) (strings_agree I.expr)) (λ x fits. refl))

  imports_and_exports_agree : Agrees directive_tokens (imports_and_exports inner)
  imports_and_exports_agree = either_agrees import_agrees export_agrees

directives_agree : (over : ExprNodes → Phrase Directive) → ((inner : ExprNodes) → ExprsAgree inner → Agrees directive_tokens (over inner)) → (n : ℕ) → Agrees directive_tokens (directive_within over n)
directives_agree over agree zero = no_room_agrees directive_tokens
directives_agree over agree (suc n) = agree (within n).nodes.expr_nodes (within_agrees n).nodes.expr_nodes

-- ---- units

pub said_optional : (x : Option Directive) → flat_map directive_tokens (optional x) ≡ option_spelling directive_tokens x
said_optional None = refl
said_optional (Some x) = append-nil (directive_tokens x)

unit_agrees : (n : ℕ) → Agrees unit_tokens (unit_over n)
unit_agrees n = either_agrees
    (made_agrees unit_tokens _ (seq_agrees (directives_agree part_of_over (λ inner I. part_of_agrees I) n) (many_agrees (decl_agrees n))) (λ x fits. simp append-nil))
    (made_agrees unit_tokens _ (seq_agrees (opt_agrees (directives_agree library_over (λ inner I. library_agrees I) n)) (seq_agrees (many_agrees (directives_agree imports_and_exports (λ inner I. imports_and_exports_agree I) n)) (seq_agrees (many_agrees (directives_agree part_over (λ inner I. part_agrees I) n)) (many_agrees (decl_agrees n)))))
    (λ x fits. simp (flat_map-append, said_optional, append_assoc)))

units_within_agree : (n : ℕ) → Agrees unit_tokens (unit_within n)
unfolding unit_within
units_within_agree zero = no_room_agrees unit_tokens
units_within_agree (suc n) = unit_agrees n

pub units_agree : (n : ℕ) → UnitsAgree n
units_agree n = record {
  unit = units_within_agree n;
  part_of = directives_agree part_of_over (λ inner I. part_of_agrees I) n;
  library = directives_agree library_over (λ inner I. library_agrees I) n;
  import_or_export = directives_agree imports_and_exports (λ inner I. imports_and_exports_agree I) n;
  part = directives_agree part_over (λ inner I. part_agrees I) n;
}
