-- The laws of the readers of strings (ECMA-408, 16.5 Strings).
use Rattle.std.proofs.Common.{ℕ, false, List, [], ◌∷◌, ◌++◌, refl, ap, ◌∙◌}
use Rattle.dart_base.specs.declared.place.Place.{Place}
use Rattle.dart_token.specs.declared.token.Token.{Token}
use Rattle.dart_tree.specs.LeafTokens.{piece_token}
use Rattle.dart_tree.specs.Tree.{Expr}
use Rattle.dart_tree.specs.declared.expression.PieceKind.{PieceKind}
use Rattle.dart_tree.specs.declared.expression.PieceKind.TheVariants as pk
use Rattle.dart_tree.specs.Tokens.{expr_tokens, pieces_tokens}
use Rattle.grammar_laws.specs.Codes.{nowhere}
use Rattle.grammar_laws.specs.Readers.{Reader}
use Rattle.grammar_laws.proofs.Codes.{apart, apart_none, apart_smaller, inside, within_self}
use Rattle.grammar_laws.proofs.Restated.{made_laws}
use Rattle.grammar_laws.proofs.Combined.{both_laws, both_any_laws}
use Rattle.grammar_laws.proofs.Repeated.{many_plain_laws}
use Rattle.grammar_laws.proofs.Chosen.{by_first_laws}
use Rattle.dart_syntax.specs.Phrases.{Phrase}
use Rattle.dart_syntax.specs.Leaves.{piece}
use Rattle.dart_syntax.specs.Agreement.{Agrees}
use Rattle.dart_syntax.specs.Expressions as g
use Rattle.dart_syntax.specs.Expressions.{whole_string, string_parts, join_pieces, joined}
use Rattle.dart_syntax.proofs.Agreeing.{parts_say, leaf_agrees, seq_agrees, many_agrees, some_agrees}
use Rattle.dart_syntax.proofs.AgreeingExpressions.{head_agrees, one_string_agrees, said_middles, said_append, said_joined}
use Rattle.token_codes.specs.Reads.{Reads}
use Rattle.syntax_readers.specs.Primaries.{string_first, expr_first, whole_text, parted_text, one_string, strings}
use Rattle.laws_expr.specs.Nexts.{after_expr, after_strings}
use Rattle.laws_expr.proofs.Leaves.{whole_reads, middle_reads, tail_reads, head_reads}
use Rattle.laws_expr.proofs.Behind.{behind_exprs, under_expr}

abbrev piece_tokens : PieceKind → Place × List ℕ → List Token
piece_tokens kind x = piece_token kind x.0 x.1 ∷ []

piece_agrees : (kind : PieceKind) → Agrees (piece_tokens kind) (piece kind)
piece_agrees kind = leaf_agrees (piece_tokens kind) (λ x. (_, refl))

module _ {expr : Reader Token Expr} {p : Phrase Expr} (E : Reads expr p expr_first after_expr false) (A : Agrees expr_tokens p) where
  one_string_laws : Reads (one_string expr) (g.one_string p) string_first nowhere false
  unfolding one_string whole_text parted_text pieces_tokens
  one_string_laws = by_first_laws (made_laws whole_reads whole_string pieces_tokens nowhere (λ x fits. refl) (λ x fits. within_self []))
      (made_laws (both_laws (both_laws head_reads E (λ x fits. apart refl))
      (both_any_laws (many_plain_laws (both_laws middle_reads E (λ x fits. apart refl)) {codes = behind_exprs} (λ x fits. under_expr x.1) (apart refl)) tail_reads (λ x fits. apart refl))
      (λ x fits. apart_smaller (under_expr x.1) (apart refl)))
      (λ x. string_parts x.0 x.1) pieces_tokens nowhere
      (parts_say pieces_tokens (λ x. string_parts x.0 x.1) (seq_agrees (seq_agrees head_agrees A) (seq_agrees (many_agrees (seq_agrees (piece_agrees pk.Middle) A)) (piece_agrees pk.Tail))) (λ x fits. simp said_middles))
      (λ x fits. within_self []))
      (apart refl)

  pub strings_laws : Reads (strings expr) (g.strings p) string_first after_strings false
  unfolding strings
  strings_laws = made_laws (both_any_laws one_string_laws (many_plain_laws one_string_laws {codes = []} (λ x fits. within_self []) (apart_none _)) (λ x fits. apart_none _))
      join_pieces pieces_tokens after_strings
      (parts_say pieces_tokens join_pieces (some_agrees (one_string_agrees A)) (λ x fits. said_append x.0 (joined x.1) ∙ ap (λ l. pieces_tokens x.0 ++ l) (said_joined x.1)))
      (λ x fits. inside refl)
