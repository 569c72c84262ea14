-- The laws of the readers of selectors (ECMA-408, 16.14 to 16.18), and of what a cascade begins with.
use Rattle.std.proofs.Common.{◌≡◌, false, [], ◌++◌, None, Some, refl, ap, sym, flat_map}
use Rattle.std.specs.List.{AllByRecursion}
use Rattle.dart_token.specs.declared.token.Token.{Token}
use Rattle.dart_token.specs.declared.sign.Sign.TheVariants as s
use Rattle.dart_tree.specs.Tree as t
use Rattle.dart_tree.specs.Tree.{Expr, Selector}
use Rattle.dart_tree.specs.Tokens.{expr_tokens, selector_tokens, selectors_tokens}
use Rattle.grammar_laws.specs.Codes.{nowhere, is_empty}
use Rattle.grammar_laws.specs.Readers.{Reader, always, mapped, by_first}
use Rattle.grammar_laws.specs.Halves.{strict}
use Rattle.grammar_laws.specs.Fronts.{Several}
use Rattle.grammar_laws.specs.Laws.{Laws}
use Rattle.grammar_laws.proofs.Codes.{apart, apart_none, apart_smaller, inside, within_self}
use Rattle.grammar_laws.proofs.Restated.{made_laws}
use Rattle.grammar_laws.proofs.Combined.{both_laws, both_any_laws}
use Rattle.grammar_laws.proofs.Repeated.{some_plain_laws, many_plain_laws}
use Rattle.grammar_laws.proofs.Chosen.{by_first_laws}
use Rattle.dart_syntax.specs.Phrases.{Phrase, ◌~◌, made₃}
use Rattle.dart_syntax.specs.Leaves as l
use Rattle.dart_syntax.specs.Agreement.{Agrees}
use Rattle.dart_syntax.specs.Expressions as g
use Rattle.dart_syntax.specs.Expressions.{one_or_more_selectors}
use Rattle.dart_syntax.proofs.Agreeing.{parts_say, seq_agrees, many_agrees, either_agrees, made_agrees}
use Rattle.dart_syntax.proofs.AgreeingTypes.{sign_agrees, identifier_agrees}
use Rattle.dart_syntax.proofs.AgreeingExpressions.{member_agrees, said_selectors}
use Rattle.token_codes.specs.Codes.{class_of, names, these}
use Rattle.token_codes.specs.Reads.{Reads}
use Rattle.token_codes.proofs.Leaves.{sign_reads, identifier_reads}
use Rattle.syntax_readers.specs.Primaries.{ExprReaders, expr_first, selector_first, index, member, selector, selectors, section_over}
use Rattle.laws_expr.specs.Nexts.{after_expr}
use Rattle.laws_expr.proofs.Behind.{under_expr}
use Rattle.laws_expr.proofs.Known.{ClosedRead}

abbrev pub index_over : Phrase Expr → Phrase Selector
index_over expr = made₃ selector_tokens t.index (l.sign s.LeftBracket ~ expr ~ l.sign s.RightBracket)

pub member_laws : Reads member g.member (these s.Dot) nowhere false
unfolding member selector_tokens
member_laws = made_laws (both_laws (sign_reads s.Dot) identifier_reads (λ place fits. apart refl)) (λ x. t.member (Some x.0) x.1) selector_tokens nowhere (λ x fits. refl) (λ x fits. within_self [])

module _ {expr : Reader Token Expr} {p : Phrase Expr} (E : Reads expr p expr_first after_expr false) (A : Agrees expr_tokens p) where
  pub index_laws : Reads (index expr) (index_over p) (these s.LeftBracket) nowhere false
  unfolding index selector_tokens
  index_laws = made_laws (both_laws (sign_reads s.LeftBracket) (both_laws E (sign_reads s.RightBracket) (λ x fits. apart_smaller (under_expr x) (apart refl))) (λ place fits. apart refl))
      (λ x. t.index x.0 x.1.0 x.1.1) selector_tokens nowhere
      (parts_say selector_tokens (λ x. t.index x.0 x.1.0 x.1.1) (seq_agrees (sign_agrees s.LeftBracket) (seq_agrees A (sign_agrees s.RightBracket))) (λ x fits. refl))
      (λ x fits. within_self [])

index_agrees : {p : Phrase Expr} → Agrees expr_tokens p → Agrees selector_tokens (index_over p)
unfolding selector_tokens
index_agrees A = made_agrees selector_tokens _ (seq_agrees (sign_agrees s.LeftBracket) (seq_agrees A (sign_agrees s.RightBracket))) (λ x fits. refl)

module _ {here : ExprReaders} {nodes : g.ExprNodes} (N : ClosedRead here nodes) where
  -- [ expression ] | arguments
  abbrev bracketed : Reader Token Selector
  bracketed = by_first class_of (these s.LeftBracket) (index (strict here.expr)) (mapped t.call here.arguments)

  pub bracketed_laws : Reads bracketed (g.bracketed_of nodes) (these s.LeftBracket ++ these s.LeftParenthesis) nowhere false
  unfolding selector_tokens
  bracketed_laws = by_first_laws (index_laws N.expr N.agrees.expr) (made_laws N.arguments t.call selector_tokens nowhere (λ x fits. sym (N.agrees.arguments.spells x)) (λ x fits. within_self [])) (apart refl)

  pub selector_laws : Reads (selector here) (g.selector_of nodes) selector_first nowhere false
  unfolding selector selector_tokens
  selector_laws = by_first_laws member_laws bracketed_laws (apart refl)

  selector_agree : Agrees selector_tokens (g.selector_of nodes)
  unfolding selector_tokens
  selector_agree = either_agrees member_agrees (either_agrees (index_agrees N.agrees.expr) (made_agrees selector_tokens t.call N.agrees.arguments (λ x fits. refl)))

  pub selectors_laws : Laws class_of (selectors here) (flat_map (g.selector_of nodes).spelling) (λ all. (is_empty all ≡ false) × AllByRecursion (g.selector_of nodes).Fits all)
      (Several (g.selector_of nodes).spelling (g.selector_of nodes).Fits always (g.selector_of nodes).front) selector_first (λ all. selector_first) false
  unfolding selectors
  selectors_laws = some_plain_laws selector_laws {codes = []} (λ x fits. within_self []) (apart_none _)

  pub section_laws : Reads (section_over here) (g.section_over nodes) (names ++ these s.LeftBracket) (λ x. selector_first) false
  unfolding section_over selectors_tokens selector_tokens
  section_laws = made_laws (both_any_laws (by_first_laws (made_laws identifier_reads (λ name. t.member None name) selector_tokens nowhere (λ x fits. refl) (λ x fits. within_self [])) (index_laws N.expr N.agrees.expr) (apart refl))
      (many_plain_laws selector_laws {codes = []} (λ x fits. within_self []) (apart_none _)) (λ x fits. apart_none _))
      one_or_more_selectors selectors_tokens (λ x. selector_first)
      (parts_say selectors_tokens one_or_more_selectors (seq_agrees (either_agrees (made_agrees selector_tokens _ identifier_agrees (λ x fits. refl)) (index_agrees N.agrees.expr)) (many_agrees selector_agree)) (λ x fits. ap (λ m. selector_tokens x.0 ++ m) (said_selectors x.1)))
      (λ x fits. inside refl)
