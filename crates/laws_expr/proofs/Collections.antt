-- The laws of the readers of lists and maps (ECMA-408, 16.7 Lists, 16.8 Maps).
use Rattle.std.proofs.Common.{true, false, [], ◌∷◌, ◌++◌, None, refl, append_assoc}
use Rattle.std.proofs.lemmas.List.{append-nil}
use Rattle.dart_token.specs.declared.sign.Sign.TheVariants as s
use Rattle.dart_tree.specs.LeafTokens.{type_tokens, type_list_tokens}
use Rattle.dart_tree.specs.Types.{TypeNode, TypeArguments, TypeList, no_types, listed_types, type_more, no_more_types}
use Rattle.dart_tree.specs.Tree as t
use Rattle.dart_tree.specs.Tokens.{primary_tokens, items_tokens, entries_tokens}
use Rattle.grammar_laws.specs.Codes.{Apart, nowhere}
use Rattle.grammar_laws.specs.Readers.{mapped}
use Rattle.grammar_laws.specs.Halves.{strict}
use Rattle.grammar_laws.proofs.Codes.{apart, apart_none, apart_smaller, within_self}
use Rattle.grammar_laws.proofs.Restated.{made_laws}
use Rattle.grammar_laws.proofs.Combined.{both_laws, both_any_laws}
use Rattle.dart_syntax.specs.Phrases.{Phrase, ◌~◌, perhaps, opt, made}
use Rattle.dart_syntax.specs.Types as y
use Rattle.dart_syntax.specs.Expressions as g
use Rattle.dart_syntax.specs.Expressions.{plain_items, to_entries, a_list, a_map}
use Rattle.dart_syntax.specs.Leaves as l
use Rattle.dart_syntax.proofs.Agreeing.{parts_say, seq_agrees, opt_agrees, perhaps_agrees, made_agrees}
use Rattle.dart_syntax.proofs.AgreeingTypes.{sign_agrees, commas_agree, one_type_agrees, two_types_agree, type_arguments_agree}
use Rattle.dart_syntax.proofs.AgreeingExpressions.{plain_list_agrees, said_sign, said_items, said_entries}
use Rattle.token_codes.specs.Codes.{sign_code, these}
use Rattle.token_codes.specs.Reads.{Reads}
use Rattle.token_codes.proofs.Leaves.{sign_reads}
use Rattle.syntax_readers.specs.Types.{two_types, type_arguments}
use Rattle.syntax_readers.specs.Primaries.{ExprReaders, expr_first, to_list, to_map, list_items, entry, map_entries, list_over, map_over}
use Rattle.laws_type.specs.Nexts.{after_arguments, after_two}
use Rattle.laws_type.specs.Statements.{two_over}
use Rattle.laws_type.proofs.Types.{under_type, arguments_laws, two_arguments_laws}
use Rattle.laws_expr.specs.Nexts.{after_expr}
use Rattle.laws_expr.proofs.Behind.{behind_exprs, under_expr}
use Rattle.laws_expr.proofs.Known.{ClosedRead}
use Rattle.laws_expr.proofs.Listed.{listing_laws}

abbrev pub one_type : TypeNode → TypeList
one_type x = type_more None x no_more_types

abbrev pub one_over : Phrase TypeNode → Phrase TypeList
one_over type = made type_list_tokens one_type type

opens_bracket : (x : TypeArguments) → Apart (after_arguments x) (these s.LeftBracket)
opens_bracket no_types = apart refl
opens_bracket (listed_types opening listed closing) = apart refl

opens_brace : (x : TypeArguments) → Apart (after_arguments x) (these s.LeftBrace)
opens_brace no_types = apart refl
opens_brace (listed_types opening listed closing) = apart refl

module _ {here : ExprReaders} {nodes : g.ExprNodes} (N : ClosedRead here nodes) where
  pub one_arguments_laws : Reads (type_arguments (mapped one_type here.type)) (y.type_arguments (one_over nodes.type)) (these s.Less) after_arguments true
  one_arguments_laws = arguments_laws (made_laws N.type one_type type_list_tokens after_two (parts_say type_list_tokens one_type N.agrees.type (λ x fits. append-nil (type_tokens x))) (λ x fits. under_type x))
      (one_type_agrees N.agrees.type) (λ x fits. apart refl)

  pub two_arguments : Reads (type_arguments (two_types here.type)) (y.type_arguments (two_over nodes.type)) (these s.Less) after_arguments true
  two_arguments = two_arguments_laws N.type N.agrees.type

  list_items_laws : Reads (list_items (strict here.expr)) (perhaps (t.no_items, None) (g.plain_list nodes.expr ~ opt (l.sign s.Comma))) expr_first (λ x. these s.Comma ++ (expr_first ++ behind_exprs)) true
  unfolding list_items items_tokens
  list_items_laws = listing_laws N.expr behind_exprs (λ a fits. under_expr a) (apart refl) items_tokens plain_items t.no_items refl
      (parts_say items_tokens plain_items (commas_agree N.agrees.expr) (λ x fits. simp (said_items, append-nil))) to_list refl (λ x. refl)

  pub list_laws : Reads (list_over here.type (strict here.expr)) (g.list_over nodes) (sign_code s.Less ∷ these s.LeftBracket) nowhere false
  unfolding list_over primary_tokens items_tokens
  list_laws = made_laws (both_any_laws one_arguments_laws (both_laws (sign_reads s.LeftBracket) (both_any_laws list_items_laws (sign_reads s.RightBracket) (λ x fits. apart refl)) (λ place fits. apart_none _)) (λ x fits. opens_bracket x))
      (λ x. a_list x.0 x.1.0 x.1.1.0 x.1.1.1) primary_tokens nowhere
      (parts_say primary_tokens (λ x. a_list x.0 x.1.0 x.1.1.0 x.1.1.1) (seq_agrees (type_arguments_agree (one_type_agrees N.agrees.type))
      (seq_agrees (sign_agrees s.LeftBracket) (seq_agrees (perhaps_agrees (t.no_items, None) refl (seq_agrees (plain_list_agrees N.agrees.expr) (opt_agrees (sign_agrees s.Comma)))) (sign_agrees s.RightBracket))))
      (λ x fits. simp (said_sign, append_assoc)))
      (λ x fits. within_self [])

  entry_laws : Reads (entry (strict here.expr)) (nodes.expr ~ l.sign s.Colon ~ nodes.expr) expr_first (λ x. after_expr x.1.1) false
  unfolding entry
  entry_laws = both_laws N.expr (both_laws (sign_reads s.Colon) N.expr (λ place fits. apart_none _)) (λ x fits. apart_smaller (under_expr x) (apart refl))

  map_entries_laws : Reads (map_entries (strict here.expr)) (perhaps (t.no_entries, None) (g.entries_over nodes ~ opt (l.sign s.Comma))) expr_first (λ x. these s.Comma ++ (expr_first ++ behind_exprs)) true
  unfolding map_entries entry entries_tokens
  map_entries_laws = listing_laws entry_laws behind_exprs (λ a fits. under_expr a.1.1) (apart refl) entries_tokens to_entries t.no_entries refl
      (parts_say entries_tokens to_entries (commas_agree (seq_agrees N.agrees.expr (seq_agrees (sign_agrees s.Colon) N.agrees.expr))) (λ x fits. simp (said_entries, append_assoc))) to_map refl (λ x. refl)

  pub map_laws : Reads (map_over here.type (strict here.expr)) (g.map_over nodes) (sign_code s.Less ∷ these s.LeftBrace) nowhere false
  unfolding map_over primary_tokens entries_tokens
  map_laws = made_laws (both_any_laws two_arguments (both_laws (sign_reads s.LeftBrace) (both_any_laws map_entries_laws (sign_reads s.RightBrace) (λ x fits. apart refl)) (λ place fits. apart_none _)) (λ x fits. opens_brace x))
      (λ x. a_map x.0 x.1.0 x.1.1.0 x.1.1.1) primary_tokens nowhere
      (parts_say primary_tokens (λ x. a_map x.0 x.1.0 x.1.1.0 x.1.1.1) (seq_agrees (type_arguments_agree (two_types_agree N.agrees.type))
      (seq_agrees (sign_agrees s.LeftBrace) (seq_agrees (perhaps_agrees (t.no_entries, None) refl (seq_agrees (made_agrees entries_tokens to_entries (commas_agree (seq_agrees N.agrees.expr (seq_agrees (sign_agrees s.Colon) N.agrees.expr))) (λ x fits. simp (said_entries, append_assoc))) (opt_agrees (sign_agrees s.Comma)))) (sign_agrees s.RightBrace))))
      (λ x fits. simp (said_sign, append_assoc)))
      (λ x fits. within_self [])
