-- The law of a list of expressions or none, as the head of `for` has it last (ECMA-408, 17.6.1 For Loop).
use Rattle.std.proofs.Common.{◌≡◌, ℕ, true, false, List, [], ◌++◌, Option, None, Some, inl, inr, refl, sym, subst}
use Rattle.std.proofs.lemmas.List.{append-nil}
use Rattle.dart_base.specs.declared.place.Place.{Place}
use Rattle.dart_token.specs.declared.token.Token.{Token}
use Rattle.dart_token.specs.declared.sign.Sign.TheVariants as s
use Rattle.dart_tree.specs.Tree as t
use Rattle.dart_tree.specs.Tree.{Expr, Items}
use Rattle.dart_tree.specs.Tokens.{expr_tokens, items_tokens}
use Rattle.grammar_laws.specs.Codes.{Within, after_option}
use Rattle.grammar_laws.specs.Readers.{Reader, separated}
use Rattle.grammar_laws.specs.Fronts.{OptionFit, option_spelling}
use Rattle.grammar_laws.proofs.Codes.{apart, apart_none, within_left, within_right}
use Rattle.grammar_laws.proofs.Restated.{mapped_laws, refront}
use Rattle.grammar_laws.proofs.Followed.{option_laws}
use Rattle.grammar_laws.proofs.Separated.{separated_plain_laws}
use Rattle.dart_syntax.specs.Phrases.{Phrase, perhaps}
use Rattle.dart_syntax.specs.Agreement.{Agrees}
use Rattle.dart_syntax.specs.Leaves.{commas}
use Rattle.dart_syntax.specs.Expressions.{plain_items, plain_list}
use Rattle.dart_syntax.proofs.Agreeing.{parts_say}
use Rattle.dart_syntax.proofs.AgreeingTypes.{commas_agree}
use Rattle.dart_syntax.proofs.AgreeingExpressions.{said_items}
use Rattle.token_codes.specs.Codes.{class_of, these}
use Rattle.token_codes.specs.Leaves.{sign}
use Rattle.token_codes.specs.Reads.{Reads}
use Rattle.token_codes.proofs.Leaves.{sign_reads}
use Rattle.syntax_readers.specs.Primaries.{expr_first}
use Rattle.syntax_readers.specs.Statements.{items_of, updates_over}
use Rattle.laws_expr.specs.Nexts.{after_expr}
use Rattle.laws_expr.proofs.Behind.{behind_exprs, under_expr}

abbrev behind_items : List ℕ
behind_items = these s.Comma ++ behind_exprs

abbrev pub behind_updates : List ℕ
behind_updates = expr_first ++ behind_items

module _ {expr : Reader Token Expr} {q : Phrase Expr} (E : Reads expr q expr_first after_expr false) (A : Agrees expr_tokens q) where
  abbrev Several : Type 0
  Several = Expr × List (Place × Expr)

  several_laws : Reads (separated class_of (these s.Comma) expr (sign s.Comma)) (commas q) expr_first (λ x. behind_items) false
  several_laws = separated_plain_laws E (sign_reads s.Comma) {codes = behind_exprs} (λ x fits. under_expr x) (apart refl) (λ place fits. apart_none expr_first)

  several_said : (x : Several) → (commas q).Fits x → items_tokens (plain_items x) ≡ (commas q).spelling x
  unfolding items_tokens
  several_said = parts_say items_tokens plain_items (commas_agree A) (λ x fits. simp (said_items, append-nil))

  none_said : items_tokens t.no_items ≡ []
  unfolding items_tokens
  none_said = refl

  abbrev Updates : Phrase Items
  Updates = perhaps t.no_items (plain_list q)

  forth : (x : Option Several) → OptionFit (commas q).Fits x →
      Updates.Fits (items_of x) × (items_tokens (items_of x) ≡ option_spelling (commas q).spelling x)
      × Within (after_option expr_first (λ y. behind_items) x) behind_updates
  forth None fits = (inl refl, none_said, within_left expr_first behind_items)
  forth (Some x) fits = (inr (x, fits, refl), several_said x fits, within_right expr_first behind_items)

  back : (v : Items) → Updates.Fits v → (x : Option Several) × OptionFit (commas q).Fits x × (items_of x ≡ v)
  back v (inl is) = (None, tt, sym is)
  back v (inr (x, fits, is)) = (Some x, fits, is)

  into : (ts : List Token) → Updates.front ts → (commas q).front ts
  into ts (inl is) = subst (commas q).front (sym is) several_laws.none
  into ts (inr f) = f

  pub updates_laws : Reads (updates_over expr) Updates expr_first (λ v. behind_updates) true
  unfolding updates_over
  updates_laws = refront (mapped_laws (option_laws several_laws) items_of items_tokens {Fits_q = Updates.Fits} (λ v. behind_updates) forth back)
      (λ ts f. inr f) into
