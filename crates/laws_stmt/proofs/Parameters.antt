-- The law of parameters in their parentheses, over one parameter and expressions (ECMA-408, 9.2 Formal Parameters).
use Rattle.std.proofs.Common.{◌≡◌, ℕ, true, false, List, [], ◌++◌, Option, None, Some, ◌⊎◌, inl, inr, refl, ap, sym, ◌∙◌, subst, append_assoc}
use Rattle.std.proofs.lemmas.List.{append-nil}
use Rattle.dart_base.specs.declared.place.Place.{Place}
use Rattle.dart_token.specs.declared.token.Token.{Token}
use Rattle.dart_token.specs.declared.sign.Sign.{Sign}
use Rattle.dart_token.specs.declared.sign.Sign.TheVariants as s
use Rattle.dart_tree.specs.declared.parameter.BracketKind.{BracketKind}
use Rattle.dart_tree.specs.declared.parameter.BracketKind.TheVariants as b
use Rattle.dart_tree.specs.LeafTokens.{left_of, right_of}
use Rattle.dart_tree.specs.Tree as t
use Rattle.dart_tree.specs.Tree.{Expr, Value, ParameterKind, Parameters, ParameterList, Metadata}
use Rattle.dart_tree.specs.Tokens.{expr_tokens, value_tokens, parameters_tokens, parameter_list_tokens}
use Rattle.grammar_laws.specs.Codes.{Apart, Within, nowhere, after_option, after_followed}
use Rattle.grammar_laws.specs.Readers.{Reader, always, mapped, both, separated, continued}
use Rattle.grammar_laws.specs.Fronts.{Front, Joint, Either, EitherFit, OptionFit, Made, ContinuedFit, both_spelling, option_spelling, joined_spelling}
use Rattle.grammar_laws.specs.Laws.{Laws}
use Rattle.grammar_laws.proofs.Codes.{apart, apart_none, within_self, within_none, within_union, within_then, within_left, within_right, within_given}
use Rattle.grammar_laws.proofs.Restated.{made_laws, mapped_laws, refit, refront, wider}
use Rattle.grammar_laws.proofs.Combined.{both_laws, both_any_laws}
use Rattle.grammar_laws.proofs.Continued.{continued_any_laws}
use Rattle.grammar_laws.proofs.Followed.{option_laws}
use Rattle.grammar_laws.proofs.Separated.{separated_plain_laws}
use Rattle.grammar_laws.proofs.Chosen.{by_first_laws}
use Rattle.dart_syntax.specs.Phrases.{Phrase, ◌~◌, perhaps, made, opt}
use Rattle.dart_syntax.specs.Agreement.{Agrees, StmtsAgree}
use Rattle.dart_syntax.specs.Leaves as l
use Rattle.dart_syntax.specs.Leaves.{sign_tokens, commas}
use Rattle.dart_syntax.specs.Expressions as g
use Rattle.dart_syntax.specs.Statements as p
use Rattle.dart_syntax.specs.Statements.{to_required, to_optional, more_required}
use Rattle.dart_syntax.proofs.Agreeing.{parts_say, seq_agrees}
use Rattle.dart_syntax.proofs.AgreeingTypes.{commas_agree}
use Rattle.dart_syntax.proofs.AgreeingExpressions.{after_sign_agrees, said_sign}
use Rattle.dart_syntax.proofs.AgreeingStatements.{said_required, said_optional}
use Rattle.token_codes.specs.Codes.{class_of, these}
use Rattle.token_codes.specs.Leaves.{sign}
use Rattle.token_codes.specs.Reads.{Reads}
use Rattle.token_codes.proofs.Leaves.{sign_reads}
use Rattle.syntax_readers.specs.Primaries.{expr_first}
use Rattle.syntax_readers.specs.Parameters as r
use Rattle.syntax_readers.specs.Parameters.{Optional, Required, parameter_first, optional_first, required_of, has_comma, allows_optional, the_parameters, value_behind}
use Rattle.laws_expr.specs.Nexts.{after_expr}
use Rattle.laws_expr.proofs.Behind.{behind_exprs, under_expr}
use Rattle.laws_expr.proofs.Listed.{listing_laws}
use Rattle.laws_stmt.specs.Statements.{behind_parameter}

-- ---- a value behind a sign, or none

abbrev pub behind_values : Sign → List ℕ
behind_values which = these which ++ behind_exprs

module _ {expr : Reader Token Expr} {q : Phrase Expr} (E : Reads expr q expr_first after_expr false) (A : Agrees expr_tokens q) (which : Sign) where
  abbrev spelled : Place × Expr → List Token
  spelled = both_spelling (sign_tokens which) q.spelling

  abbrev after_value : Option (Place × Expr) → List ℕ
  after_value = after_option (these which) (λ x. after_expr x.1)

  value_forth : (x : Option (Place × Expr)) → OptionFit (l.sign which ~ q).Fits x → (g.after_sign which q).Fits (value_behind which x) × (value_tokens (value_behind which x) ≡ option_spelling spelled x) × Within (after_value x) (behind_values which)
  unfolding value_tokens
  value_forth None fits = (inl refl, refl, within_left (these which) behind_exprs)
  value_forth (Some (place, e)) fits = (inr ((place, e), fits, refl), ap (λ (m : List Token). sign_tokens which place ++ m) (sym (A.spells e)), within_then (under_expr e) (within_right (these which) behind_exprs))

  value_back : (v : Value) → (g.after_sign which q).Fits v → (x : Option (Place × Expr)) × OptionFit (l.sign which ~ q).Fits x × (value_behind which x ≡ v)
  value_back v (inl is) = (None, tt, sym is)
  value_back v (inr (x, fits, is)) = (Some x, fits, is)

  value_into : (ts : List Token) → (g.after_sign which q).front ts → (l.sign which ~ q).front ts
  value_into ts (inl is) = subst (l.sign which ~ q).front (sym is) (inl (inl refl))
  value_into ts (inr f) = f

  pub after_sign_laws : Reads (r.after_sign which expr) (g.after_sign which q) (these which) (λ v. behind_values which) true
  unfolding r.after_sign
  after_sign_laws = refront (mapped_laws (option_laws (both_laws (sign_reads which) E (λ place fits. apart_none expr_first))) (value_behind which) value_tokens {Fits_q = (g.after_sign which q).Fits} (λ v. behind_values which) value_forth value_back) (λ ts f. inr f) value_into

-- the sign before a default
abbrev mark : BracketKind → Sign
mark b.Square = s.Assign
mark b.Curly = s.Colon

abbrev Bare : Type 0
Bare = Metadata × ParameterKind

module _ {parameter : Reader Token Bare} {expr : Reader Token Expr} (inner : p.StmtNodes) (P : Reads parameter inner.parameter parameter_first (λ x. behind_parameter) false) (E : Reads expr inner.expr_nodes.expr expr_first after_expr false) (A : StmtsAgree inner) where
  -- ---- required parameters

  abbrev Req : Phrase Required
  Req = perhaps (t.no_parameters, None) (p.required_over inner ~ opt (l.sign s.Comma))

  abbrev behind_required : List ℕ
  behind_required = these s.Comma ++ (parameter_first ++ behind_parameter)

  said_list : (x : Bare × List (Place × Bare)) → (commas inner.parameter).Fits x → parameter_list_tokens (to_required x) ≡ (commas inner.parameter).spelling x
  unfolding parameter_list_tokens
  said_list = parts_say parameter_list_tokens to_required (commas_agree A.parameter) (λ x fits. simp (said_required, append-nil))

  none_said : parameter_list_tokens t.no_parameters ≡ []
  unfolding parameter_list_tokens
  none_said = refl

  required_laws : Reads (r.required parameter) Req parameter_first (λ x. behind_required) true
  unfolding r.required
  required_laws = listing_laws P behind_parameter (λ x fits. within_self behind_parameter) (apart refl) parameter_list_tokens to_required t.no_parameters none_said said_list required_of refl (λ x. refl)

  -- ---- optional parameters in their brackets

  abbrev behind_item : Sign → List ℕ
  behind_item before = behind_values before ++ behind_parameter

  item_laws : (before : Sign) → Apart behind_parameter (these before) → Reads (both parameter (r.after_sign before expr)) (inner.parameter ~ g.after_sign before inner.expr_nodes.expr) parameter_first (λ x. behind_item before) false
  item_laws before off = wider (both_any_laws P (after_sign_laws E A.expr_nodes.expr before) (λ x fits. off)) (within_union (within_self parameter_first) (within_none parameter_first)) (λ x fits. within_self (behind_item before))

  list_laws : (before : Sign) → Apart behind_parameter (these before) → Apart (behind_item before) (these s.Comma) →
      Reads (mapped to_optional (separated class_of (these s.Comma) (both parameter (r.after_sign before expr)) (sign s.Comma))) (made parameter_list_tokens to_optional (commas (inner.parameter ~ g.after_sign before inner.expr_nodes.expr))) parameter_first (λ x. these s.Comma ++ behind_item before) false
  unfolding parameter_list_tokens
  list_laws before off comma = made_laws (separated_plain_laws (item_laws before off) (sign_reads s.Comma) {codes = behind_item before} (λ x fits. within_self (behind_item before)) comma (λ place fits. apart_none parameter_first)) to_optional parameter_list_tokens (λ x. these s.Comma ++ behind_item before)
      (parts_say parameter_list_tokens to_optional (commas_agree (seq_agrees A.parameter (after_sign_agrees A.expr_nodes.expr before))) (λ x fits. simp (said_optional, append_assoc))) (λ x fits. within_self (these s.Comma ++ behind_item before))

  abbrev optional_tokens : Optional → List Token
  optional_tokens x = sign_tokens (left_of x.0) x.1.0 ++ (parameter_list_tokens x.1.1.0 ++ sign_tokens (right_of x.0) x.1.1.1)

  abbrev Opt : BracketKind → Phrase (Place × (ParameterList × Place))
  Opt kind = p.optional_over inner kind (mark kind)

  abbrev OptFits : Optional → Type 0
  OptFits x = (Opt x.0).Fits x.1

  abbrev with_kind : BracketKind → Place × (ParameterList × Place) → Optional
  with_kind kind x = (kind, x)

  bracket_laws : (kind : BracketKind) → Apart behind_parameter (these (mark kind)) → Apart (behind_item (mark kind)) (these s.Comma) → Apart (these s.Comma ++ behind_item (mark kind)) (these (right_of kind)) →
      Laws class_of (r.optional_as kind (mark kind) parameter expr) optional_tokens (Made (with_kind kind) (Opt kind).Fits) (Opt kind).front (these (left_of kind)) nowhere false
  unfolding r.optional_as
  bracket_laws kind off comma right = made_laws (both_laws (sign_reads (left_of kind)) (both_laws (list_laws (mark kind) off comma) (sign_reads (right_of kind)) (λ x fits. right)) (λ place fits. apart_none parameter_first)) (with_kind kind) optional_tokens nowhere (λ x fits. refl) (λ x fits. within_none [])

  abbrev opt_front : Front Token
  opt_front = Either (Opt b.Square).front (Opt b.Curly).front

  optional_laws : Laws class_of (r.optional_over parameter expr) optional_tokens OptFits opt_front optional_first nowhere false
  unfolding r.optional_over
  optional_laws = refit (by_first_laws (bracket_laws b.Square (apart refl) (apart refl) (apart refl)) (bracket_laws b.Curly (apart refl) (apart refl) (apart refl)) (apart refl)) forth back where
    forth : (x : Optional) → EitherFit (Made (with_kind b.Square) (Opt b.Square).Fits) (Made (with_kind b.Curly) (Opt b.Curly).Fits) x → OptFits x
    forth x (inl (y, fits, e)) = subst OptFits e fits
    forth x (inr (y, fits, e)) = subst OptFits e fits

    back : (x : Optional) → OptFits x → EitherFit (Made (with_kind b.Square) (Opt b.Square).Fits) (Made (with_kind b.Curly) (Opt b.Curly).Fits) x
    back (b.Square, y) fits = inl (y, fits, refl)
    back (b.Curly, y) fits = inr (y, fits, refl)

  of_kind : (kind : BracketKind) (ts : List Token) → (Opt kind).front ts → opt_front ts
  of_kind b.Square ts f = inl f
  of_kind b.Curly ts f = inr f

  -- ---- both, in parentheses

  abbrev Lists : Type 0
  Lists = Required × Option Optional

  abbrev ListsFit : Lists → Type 0
  ListsFit = ContinuedFit Req.Fits has_comma allows_optional OptFits

  abbrev lists_tokens : Lists → List Token
  lists_tokens = joined_spelling Req.spelling optional_tokens

  abbrev lists_front : Front Token
  lists_front = Joint Req.spelling Req.Fits allows_optional Req.front opt_front

  comma_allows : (x : Required) → has_comma x ≡ true → allows_optional x ≡ true
  comma_allows (t.no_parameters, comma) e = refl
  comma_allows (t.parameter x more, comma) e = e

  abbrev behind_lists : List ℕ
  behind_lists = behind_required ++ optional_first

  lists_laws : Laws class_of (continued class_of has_comma allows_optional optional_first (r.required parameter) (r.optional_over parameter expr)) lists_tokens ListsFit lists_front (parameter_first ++ optional_first) (λ x. behind_lists) true
  lists_laws = wider (continued_any_laws required_laws optional_laws has_comma allows_optional comma_allows (λ x fits on. apart refl)) (within_self (parameter_first ++ optional_first)) (λ x fits. under x) where
    under : (x : Lists) → Within (after_followed (λ y. behind_required) allows_optional optional_first (nowhere {A = Optional}) x) behind_lists
    under (x, None) = within_union (within_left behind_required optional_first) (within_given (allows_optional x) (λ e. within_right behind_required optional_first))
    under (x, Some y) = within_none behind_lists

  abbrev Parts : Type 0
  Parts = Place × (Lists × Place)

  abbrev to_parameters : Parts → Parameters
  to_parameters x = the_parameters x.0 x.1.0 x.1.1

  abbrev parts_tokens : Parts → List Token
  parts_tokens = both_spelling (sign_tokens s.LeftParenthesis) (both_spelling lists_tokens (sign_tokens s.RightParenthesis))

  abbrev PartsFit : Parts → Type 0
  PartsFit x = Unit {0} × (ListsFit x.1.0 × Unit {0})

  abbrev rest_front : Front Token
  rest_front = Joint lists_tokens ListsFit always lists_front (l.sign s.RightParenthesis).front

  abbrev parts_front : Front Token
  parts_front = Joint (sign_tokens s.LeftParenthesis) (l.sign s.LeftParenthesis).Fits always (l.sign s.LeftParenthesis).front rest_front

  parts_laws : Laws class_of (both (sign s.LeftParenthesis) (both (continued class_of has_comma allows_optional optional_first (r.required parameter) (r.optional_over parameter expr)) (sign s.RightParenthesis))) parts_tokens PartsFit parts_front (these s.LeftParenthesis) nowhere false
  parts_laws = both_laws (sign_reads s.LeftParenthesis) (both_any_laws lists_laws (sign_reads s.RightParenthesis) (λ x fits. apart refl)) (λ place fits. apart_none _)

  -- ---- the same trees

  abbrev Plain : Phrase Parameters
  Plain = made parameters_tokens (λ x. t.the_parameters x.0 x.1.0 None t.no_parameters x.1.1) (l.sign s.LeftParenthesis ~ (perhaps t.no_parameters (p.required_over inner) ~ l.sign s.RightParenthesis))

  abbrev Whole : Phrase Parameters
  Whole = p.parameters_over inner

  in_brackets : (kind : BracketKind) (y : Parameters) → (p.bracketed_over inner kind (mark kind)).Fits y → Whole.Fits y
  in_brackets b.Square y fits = inr (inl fits)
  in_brackets b.Curly y fits = inr (inr fits)

  no_comma : (list : ParameterList) → has_comma (list, None) ≡ false
  no_comma t.no_parameters = refl
  no_comma (t.parameter x more) = refl

  with_comma : (list : ParameterList) (comma : Place) → allows_optional (list, Some comma) ≡ true
  with_comma t.no_parameters comma = refl
  with_comma (t.parameter x more) comma = refl

  required_comma : (list : ParameterList) (comma : Place) → (p.required_over inner).Fits list → has_comma (list, Some comma) ≡ true
  required_comma list comma (((notes, kind), more), fits, e) = subst (λ (m : ParameterList). has_comma (m, Some comma) ≡ true) e refl

  no_empty : (list : ParameterList) → (p.required_over inner).Fits list → allows_optional (list, None) ≡ true → ⊥
  no_empty list (((notes, kind), more), fits, e) on = let bad : false ≡ true = subst (λ (m : ParameterList). allows_optional (m, None) ≡ true) (sym e) on in absurd cc

  -- what no others follow has no comma
  alone : (list : ParameterList) (comma : Option Place) → Req.Fits (list, comma) → has_comma (list, comma) ≡ false → (perhaps t.no_parameters (p.required_over inner)).Fits list × (comma ≡ None)
  alone list comma (inl e) n = (inl (ap (λ (x : Required). x.0) e), ap (λ (x : Required). x.1) e)
  alone list None (inr fits) n = (inr fits.0, refl)
  alone list (Some comma) (inr fits) n = let bad : true ≡ false = sym (required_comma list comma fits.0) ∙ n in absurd cc

  -- what others follow has one, or is nothing
  led : (list : ParameterList) (comma : Option Place) → Req.Fits (list, comma) → allows_optional (list, comma) ≡ true → (p.required_before inner).Fits (list, comma)
  led list comma (inl e) on = inl e
  led list None (inr fits) on = absurd (no_empty list fits.0 on)
  led list (Some comma) (inr fits) on = inr ((list, comma), (fits.0, tt), refl)

  unled : (x : Required) → (p.required_before inner).Fits x → Req.Fits x × (allows_optional x ≡ true)
  unled x (inl e) = (inl e, subst (λ (y : Required). allows_optional y ≡ true) (sym e) refl)
  unled x (inr ((list, comma), fits, e)) = (subst Req.Fits e (inr (fits.0, tt)), subst (λ (y : Required). allows_optional y ≡ true) e (with_comma list comma))

  plain_said : (opening : Place) (list : ParameterList) (comma : Option Place) (closing : Place) → comma ≡ None → parameters_tokens (t.the_parameters opening list None t.no_parameters closing) ≡ parts_tokens (opening, (((list, comma), None), closing))
  unfolding parameters_tokens parameter_list_tokens
  plain_said opening list comma closing e = rw e (simp append-nil)

  bracketed_said : (opening : Place) (list : ParameterList) (comma : Option Place) (kind : BracketKind) (left : Place) (more : ParameterList) (right closing : Place) → parameters_tokens (to_parameters (opening, (((list, comma), Some (kind, (left, (more, right)))), closing))) ≡ parts_tokens (opening, (((list, comma), Some (kind, (left, (more, right)))), closing))
  unfolding parameters_tokens
  bracketed_said opening list comma kind left more right closing = simp (said_sign, append_assoc)

  forth : (x : Parts) → PartsFit x → Whole.Fits (to_parameters x) × (parameters_tokens (to_parameters x) ≡ parts_tokens x) × Within [] []
  forth (opening, (((list, comma), None), closing)) (u, (fits, v)) =
      let w = alone list comma fits.0 fits.1 in
      (inl ((opening, (list, closing)), (tt, (w.0, tt)), refl), plain_said opening list comma closing w.1, within_none [])
  forth (opening, (((list, comma), Some (kind, (left, (more, right)))), closing)) (u, (fits, v)) =
      (in_brackets kind _ ((opening, ((list, comma), ((left, (more, right)), closing))), (tt, (led list comma fits.0 fits.1.0, (fits.1.1, tt))), refl), bracketed_said opening list comma kind left more right closing, within_none [])

  bracketed_back : (kind : BracketKind) (y : Parameters) → (p.bracketed_over inner kind (mark kind)).Fits y → (x : Parts) × PartsFit x × (to_parameters x ≡ y)
  bracketed_back kind y ((opening, (list, ((left, (more, right)), closing))), (u, (before, (fits, v))), e) =
      let w = unled list before in ((opening, ((list, Some (kind, (left, (more, right)))), closing)), (tt, ((w.0, (w.1, fits)), tt)), e)

  back : (y : Parameters) → Whole.Fits y → (x : Parts) × PartsFit x × (to_parameters x ≡ y)
  back y (inl ((opening, (list, closing)), (u, (inl is, v)), e)) = ((opening, (((list, None), None), closing)), (tt, ((inl (ap (λ (m : ParameterList). (m, None)) is), no_comma list), tt)), e)
  back y (inl ((opening, (list, closing)), (u, (inr fits, v)), e)) = ((opening, (((list, None), None), closing)), (tt, ((inr (fits, tt), no_comma list), tt)), e)
  back y (inr (inl fits)) = bracketed_back b.Square y fits
  back y (inr (inr fits)) = bracketed_back b.Curly y fits

  -- ---- the same fronts

  bracket_front : (kind : BracketKind) (ts : List Token) → (p.bracketed_over inner kind (mark kind)).front ts → Whole.front ts
  bracket_front b.Square ts f = inr (inl f)
  bracket_front b.Curly ts f = inr (inr f)

  -- behind the opening parenthesis
  abbrev Behind : BracketKind → Front Token
  Behind kind = (p.required_before inner ~ (Opt kind ~ l.sign s.RightParenthesis)).front

  abbrev BehindPlain : Front Token
  BehindPlain = (perhaps t.no_parameters (p.required_over inner) ~ l.sign s.RightParenthesis).front

  abbrev Behinds : List Token → Type 0
  Behinds ts = BehindPlain ts ⊎ ((kind : BracketKind) × Behind kind ts)

  rest_out : (ts : List Token) → rest_front ts → Behinds ts
  rest_out ts (inl (inl (inl e))) = inl (inl (inl e))
  rest_out ts (inl (inl (inr (inl f)))) = inl (inl (inr f))
  rest_out ts (inl (inl (inr (inr f)))) = inr (b.Square, inl (inr (inr f)))
  rest_out ts (inl (inr ((list, comma), more, fits, on, e, inl f))) = inr (b.Square, inr ((list, comma), more, led list comma fits on, refl, e, inl f))
  rest_out ts (inl (inr ((list, comma), more, fits, on, e, inr f))) = inr (b.Curly, inr ((list, comma), more, led list comma fits on, refl, e, inl f))
  rest_out ts (inr (((list, comma), None), more, fits, on, e, f)) =
      let w = alone list comma fits.0 fits.1 in
      inl (inr (list, more, w.0, refl, e ∙ ap (λ (c : Option Place). ((parameter_list_tokens list ++ option_spelling (sign_tokens s.Comma) c) ++ []) ++ more) w.1 ∙ ap (λ (m : List Token). m ++ more) (append-nil (parameter_list_tokens list ++ []) ∙ append-nil (parameter_list_tokens list)), f))
  rest_out ts (inr (((list, comma), Some (kind, y)), more, fits, on, e, f)) =
      inr (kind, inr ((list, comma), (Opt kind).spelling y ++ more, led list comma fits.0 fits.1.0, refl, e ∙ append_assoc (Req.spelling (list, comma)) ((Opt kind).spelling y) more, inr (y, more, fits.1.1, refl, refl, f)))

  rest_into : (kind : BracketKind) (ts : List Token) → Behind kind ts → rest_front ts
  rest_into kind ts (inl (inl e)) = inl (inl (inl e))
  rest_into kind ts (inl (inr f)) = inl (inl (inr f))
  rest_into kind ts (inr (x, more, fits, on, e, inl f)) = let w = unled x fits in inl (inr (x, more, w.0, w.1, e, of_kind kind more f))
  rest_into kind ts (inr (x, more, fits, on, e, inr (y, rest, at, go, is, f))) =
      let w = unled x fits in
      inr ((x, Some (kind, y)), rest, (w.0, (w.1, at)), refl, e ∙ ap (λ (m : List Token). Req.spelling x ++ m) is ∙ sym (append_assoc (Req.spelling x) ((Opt kind).spelling y) rest), f)

  plain_into : (ts : List Token) → BehindPlain ts → rest_front ts
  plain_into ts (inl (inl e)) = inl (inl (inl e))
  plain_into ts (inl (inr f)) = inl (inl (inr (inl f)))
  plain_into ts (inr (list, more, inl is, on, e, f)) = inr (((list, None), None), more, (inl (ap (λ (m : ParameterList). (m, None)) is), no_comma list), refl, e ∙ ap (λ (m : List Token). m ++ more) (sym (append-nil (parameter_list_tokens list ++ []) ∙ append-nil (parameter_list_tokens list))), f)
  plain_into ts (inr (list, more, inr fits, on, e, f)) = inr (((list, None), None), more, (inr (fits, tt), no_comma list), refl, e ∙ ap (λ (m : List Token). m ++ more) (sym (append-nil (parameter_list_tokens list ++ []) ∙ append-nil (parameter_list_tokens list))), f)

  behind_out : (ts : List Token) (place : Place) (more : List Token) → ts ≡ sign_tokens s.LeftParenthesis place ++ more → Behinds more → Whole.front ts
  behind_out ts place more e (inl f) = inl (inr (place, more, tt, refl, e, f))
  behind_out ts place more e (inr (kind, f)) = bracket_front kind ts (inr (place, more, tt, refl, e, f))

  out : (ts : List Token) → parts_front ts → Whole.front ts
  out ts (inl f) = inl (inl f)
  out ts (inr (place, more, u, on, e, f)) = behind_out ts place more e (rest_out more f)

  into : (ts : List Token) → Whole.front ts → parts_front ts
  into ts (inl (inl f)) = inl f
  into ts (inl (inr (place, more, u, on, e, f))) = inr (place, more, tt, refl, e, plain_into more f)
  into ts (inr (inl (inl f))) = inl f
  into ts (inr (inl (inr (place, more, u, on, e, f)))) = inr (place, more, tt, refl, e, rest_into b.Square more f)
  into ts (inr (inr (inl f))) = inl f
  into ts (inr (inr (inr (place, more, u, on, e, f)))) = inr (place, more, tt, refl, e, rest_into b.Curly more f)

  pub parameters_laws : Reads (r.parameters_over parameter expr) Whole (these s.LeftParenthesis) nowhere false
  unfolding r.parameters_over
  parameters_laws = refront (mapped_laws parts_laws to_parameters parameters_tokens {Fits_q = Whole.Fits} nowhere forth back) out into
