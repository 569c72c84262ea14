-- The law of members that are no constructors: functions, accessors, variables and operators, with `static`, `external` or neither (ECMA-408,
-- 10 Classes).
use Rattle.std.proofs.Common.{◌≡◌, ℕ, suc, true, false, ◌&&◌, List, [], ◌∷◌, ◌++◌, Option, None, Some, inl, inr, refl, sym, ap, ◌∙◌, subst, append_assoc}
use Rattle.dart_base.specs.declared.place.Place.{Place}
use Rattle.dart_token.specs.declared.token.Token.{Token}
use Rattle.dart_token.specs.declared.word.Word.{Word}
use Rattle.dart_token.specs.declared.word.Word.TheVariants as w
use Rattle.dart_tree.specs.declared.declaration.Modifier.{Modifier}
use Rattle.dart_tree.specs.declared.declaration.Modifier.TheVariants as m
use Rattle.dart_tree.specs.declared.declaration.OperatorName.{OperatorName}
use Rattle.dart_tree.specs.LeafTokens.{word_at, identifier_tokens, result_tokens}
use Rattle.dart_tree.specs.Tree.{Body, Function, Parameters}
use Rattle.dart_tree.specs.Tokens.{function_tokens}
use Rattle.dart_tree.specs.Unit.{Accessor, MemberKind, OperatorMember}
use Rattle.dart_tree.specs.UnitTokens.{accessor_kind_tokens, accessor_tokens, modifier_tokens, operator_name_tokens, operator_member_tokens, member_kind_tokens}
use Rattle.grammar_laws.specs.Codes.{has, Apart, Within, nowhere}
use Rattle.grammar_laws.specs.Readers.{always}
use Rattle.grammar_laws.specs.Fronts.{Front, Joint, Either, EitherFit, both_spelling, option_spelling}
use Rattle.grammar_laws.proofs.Codes.{apart, apart_none, clash, inside, and_both, and_true, not_true, within_none}
use Rattle.grammar_laws.proofs.Cuts.{both_empty}
use Rattle.grammar_laws.proofs.Restated.{made_laws, restated}
use Rattle.grammar_laws.proofs.Combined.{both_laws, both_any_laws}
use Rattle.grammar_laws.proofs.Chosen.{by_first_laws, by_two_laws}
use Rattle.dart_syntax.specs.Phrases.{Phrase, ◌~◌, ◌<|>◌, opt}
use Rattle.dart_syntax.specs.Leaves as l
use Rattle.dart_syntax.specs.Statements as p
use Rattle.dart_syntax.specs.Statements.{within}
use Rattle.dart_syntax.specs.Declarations as c
use Rattle.token_codes.specs.Codes.{class_of, names, this_word}
use Rattle.token_codes.specs.Leaves.{name_of}
use Rattle.token_codes.specs.Reads.{Reads}
use Rattle.token_codes.proofs.Leaves.{word_reads, name_said}
use Rattle.token_codes.proofs.Only.{only_word, word_has}
use Rattle.syntax_readers.specs.Declarations as r
use Rattle.laws_unit.specs.Statements.{declared_first, variable_first}
use Rattle.laws_unit.specs.Members.{operator_beside, plain_first, OtherPartsReadAt, OtherMembersReadAt}
use Rattle.laws_unit.proofs.Accessors as accessors
use Rattle.laws_unit.proofs.Given.{given_laws}
use Rattle.laws_unit.proofs.Ends.{two_tokens}
use Rattle.laws_unit.proofs.Callables as call
use Rattle.laws_unit.proofs.Choices.{with_external_choice, without_external_choice}
use Rattle.laws_unit.proofs.FieldsAndFunctions.{result_first, variables_laws, plain_kinds, static_kinds, static_callable}
use Rattle.laws_unit.proofs.OperatorMembers as o
use Rattle.laws_unit.proofs.Operators.{operator_name_laws}

-- ---- `external`, and what may stand behind it

no_more : (which : Word) (t u : Token) (ts : List Token) → (l.word which).front (t ∷ u ∷ ts) → ⊥
no_more which t u ts (inl e) = absurd cc
no_more which t u ts (inr (place, e)) = absurd cc

behind_external : (front : Front Token) (first : List ℕ) → ((t : Token) (ts : List Token) → front (t ∷ ts) → has first (class_of t) ≡ true) → Apart (this_word w.External) first →
    (t u : Token) (ts : List Token) → has (this_word w.External) (class_of t) ≡ true → Joint c.external_or_none.spelling c.external_or_none.Fits always c.external_or_none.front front (t ∷ u ∷ ts) → has first (class_of u) ≡ true
behind_external front first firsts off t u ts h (inl f) = absurd (no_more w.External t u ts f)
behind_external front first firsts off t u ts h (inr (None, more, fits, on, e, f)) = absurd (off.never_both (class_of t) h (firsts t (u ∷ ts) (subst front (sym e) f)))
behind_external front first firsts off t u ts h (inr (Some place, more, fits, on, e, f)) = let tails : u ∷ ts ≡ more = cc in firsts u ts (subst front (sym tails) f)

two_words : (t u : Token) (ts more : List Token) (a b : Place) → t ∷ u ∷ ts ≡ word_at a w.External ∷ word_at b w.Static ∷ more → (has (this_word w.External) (class_of t) && has (this_word w.Static) (class_of u)) ≡ true
two_words t u ts more a b e =
    let head : word_at a w.External ≡ t = cc in
    let next : word_at b w.Static ≡ u = cc in
    and_true (has (this_word w.External) (class_of t)) (has (this_word w.Static) (class_of u))
    (subst (λ (z : Token). has (this_word w.External) (class_of z) ≡ true) head (word_has w.External a)) (subst (λ (z : Token). has (this_word w.Static) (class_of z) ≡ true) next (word_has w.Static b))

module _ (n : ℕ) (O : OtherPartsReadAt n) where
  -- ---- with neither

  begun : (x : Option Place) (t : Token) → c.external_or_none.Fits x → has names (class_of t) ≡ true → (operator_beside (suc n)).front (c.external_or_none.spelling x ++ t ∷ [])
  begun x t fits h = inl (inl (inr (x, t ∷ [], fits, refl, refl, inl (inr (None, t ∷ [], tt, refl, refl, inr (name_of t, sym (name_said t h)))))))

  abbrev Plain : Phrase MemberKind
  Plain = c.callable_within (suc n) c.external_or_none <|> c.variables_within (suc n) <|> c.operator_within (suc n)

  plain_laws : Reads (r.plain_member (suc n)) (c.unmodified (suc n) Plain) plain_first nowhere false
  unfolding r.plain_member
  plain_laws = both_any_laws (given_laws modifier_tokens m.Omitted refl)
      (o.unmodified_laws (suc n) O.operators (plain_kinds n O.parts O.type O.goes O.variables (with_external_choice (suc n) O.call_choice O.callable_apart)) begun O.operator_apart) (λ x fits. apart_none plain_first)

  -- ---- with `static`, and with `external static`

  abbrev Static : Phrase MemberKind
  Static = c.callable_within (suc n) c.without_external <|> c.variables_within (suc n)

  static_laws : Reads (r.static_member (suc n)) (c.static (suc n) Static) (this_word w.Static) nowhere false
  unfolding r.static_member
  static_laws = both_laws (made_laws (word_reads w.Static) m.Static modifier_tokens nowhere (λ x fits. refl) (λ x fits. within_none []))
      (static_kinds n O.parts O.type O.goes O.variables (without_external_choice (suc n) O.call_choice O.callable_apart)) (λ x fits. apart_none _)

  abbrev to_external_static : Place × Place → Modifier
  to_external_static x = m.ExternalStatic x.0 x.1

  abbrev Outside : Phrase (Modifier × MemberKind)
  Outside = c.external_static (suc n) (c.callable_within (suc n) c.without_external)

  outside_laws : Reads (r.external_static_member (suc n)) Outside (this_word w.External) nowhere false
  unfolding r.external_static_member
  outside_laws = both_laws (made_laws (both_laws (word_reads w.External) (word_reads w.Static) (λ place fits. apart_none (this_word w.Static))) to_external_static modifier_tokens nowhere (λ x fits. refl) (λ x fits. within_none []))
      (static_callable n O.parts O.type O.goes O.variables (without_external_choice (suc n) O.call_choice O.callable_apart)) (λ x fits. apart_none _)

  -- ---- what the next two tokens tell

  abbrev Inside : Phrase (Modifier × MemberKind)
  Inside = c.unmodified (suc n) Plain

  outside_one : (t : Token) → has (this_word w.External) (class_of t) ≡ true → Outside.front (t ∷ [])
  outside_one t h = inl (inl (inr (t.place, ap (λ (x : Token). x ∷ []) (sym (only_word w.External t h)))))

  inside_one : (t : Token) → Outside.front (t ∷ []) → Inside.front (t ∷ [])
  inside_one t f = inr (m.Omitted, t ∷ [], refl, refl, refl, inr (inr (inl (inr (t.place, ap (λ (x : Token). x ∷ []) (sym (only_word w.External t (outside_laws.firsts t [] f))))))))

  outside_two : (t u : Token) (ts : List Token) → Outside.front (t ∷ u ∷ ts) → (has (this_word w.External) (class_of t) && has (this_word w.Static) (class_of u)) ≡ true
  outside_two t u ts (inl (inl f)) = absurd (no_more w.External t u ts f)
  outside_two t u ts (inl (inr (place, more, fits, on, e, inl f))) = let tails : u ∷ ts ≡ more = cc in let none : u ∷ ts ≡ [] = tails ∙ f in absurd cc
  outside_two t u ts (inl (inr (place, more, fits, on, e, inr (second, f)))) = two_words t u ts [] place second (e ∙ ap (λ (z : List Token). word_at place w.External ∷ z) f)
  outside_two t u ts (inr (x, more, ((a, b), fits, is), on, e, f)) = two_words t u ts more a b (e ∙ ap (λ (z : Modifier). modifier_tokens z ++ more) (sym is))

  abbrev seconds : List ℕ
  seconds = declared_first ++ this_word w.Operator

  kinds_second : (t u : Token) (ts : List Token) → has (this_word w.External) (class_of t) ≡ true → Plain.front (t ∷ u ∷ ts) → has seconds (class_of u) ≡ true
  kinds_second t u ts h (inl (inl f)) = (inside {xs = declared_first} {ys = seconds} refl).in_second (class_of u)
      (behind_external (call.named n O.parts O.type O.goes).front declared_first (call.named_laws n O.parts O.type O.goes).firsts (apart refl) t u ts h f)
  kinds_second t u ts h (inl (inr f)) = (inside {xs = result_first} {ys = seconds} refl).in_second (class_of u)
      (behind_external (call.whole_kind n O.parts O.type O.goes).front result_first (call.whole_kind_laws n O.parts O.type O.goes).firsts (apart refl) t u ts h f)
  kinds_second t u ts h (inr (inl f)) = absurd ((apart {xs = this_word w.External} {ys = variable_first} refl).never_both (class_of t) h ((variables_laws n O.parts O.type O.goes O.variables).firsts t (u ∷ ts) f))
  kinds_second t u ts h (inr (inr f)) = (inside {xs = result_first ++ this_word w.Operator} {ys = seconds} refl).in_second (class_of u) (behind_external (opt (o.R (suc n) O.operators) ~ o.tail (suc n) O.operators).front (result_first ++ this_word w.Operator) (o.exact_laws (suc n) O.operators).firsts (apart refl) t u ts h f)

  inside_second : (t u : Token) (ts : List Token) → has (this_word w.External) (class_of t) ≡ true → Inside.front (t ∷ u ∷ ts) → has seconds (class_of u) ≡ true
  inside_second t u ts h (inl e) = absurd cc
  inside_second t u ts h (inr (x, more, is, on, e, f)) = kinds_second t u ts h (subst Plain.front (sym (e ∙ ap (λ (z : Modifier). modifier_tokens z ++ more) is)) f)

  inside_two : (t u : Token) (ts : List Token) → Inside.front (t ∷ u ∷ ts) → (has (this_word w.External) (class_of t) && has (this_word w.Static) (class_of u)) ≡ false
  inside_two t u ts f = not_true (has (this_word w.External) (class_of t) && has (this_word w.Static) (class_of u)) (λ h.
      let v = and_both (has (this_word w.External) (class_of t)) (has (this_word w.Static) (class_of u)) h in
      (apart {xs = seconds} {ys = this_word w.Static} refl).never_both (class_of u) (inside_second t u ts v.0 f) v.1)

  -- ---- none of them has one token alone, if that is `external`

  outside_long : (a : Modifier × MemberKind) (t : Token) → Outside.Fits a → Outside.spelling a ≡ t ∷ [] → ⊥
  outside_long a t (((x, z), at, is), own) e = let whole : word_at x w.External ∷ word_at z w.Static ∷ member_kind_tokens a.1 ≡ t ∷ [] = ap (λ (y : Modifier). modifier_tokens y ++ member_kind_tokens a.1) is ∙ e in absurd cc

  parts_empty : (x : Parameters) (z : Body) → (within n).nodes.expr_nodes.parameters.Fits x → (within n).nodes.expr_nodes.parameters.spelling x ++ (p.body_of (within n).nodes.expr_nodes).spelling z ≡ [] → ⊥
  parts_empty x z fits e = clash false (O.parts.parameters.empties x fits (both_empty ((within n).nodes.expr_nodes.parameters.spelling x) ((p.body_of (within n).nodes.expr_nodes).spelling z) e).0) refl

  function_long : (x : Function) (t : Token) → (c.function_within c.external_or_none (suc n)).Fits x → function_tokens x ≡ t ∷ [] → ⊥
  function_long x t ((external, (name, (given, inside))), fits, is) e = two_tokens (c.external_or_none.spelling external) (both_spelling (option_spelling result_tokens) identifier_tokens name) ((within n).nodes.expr_nodes.parameters.spelling given ++ (p.body_of (within n).nodes.expr_nodes).spelling inside) t
      (λ none. clash false (O.parts.result_name.empties name fits.1.0 none) refl) (parts_empty given inside fits.1.1.0)
      (sym (call.function_said n O.parts O.type O.goes c.external_or_none call.external_agrees (external, (name, (given, inside))) fits) ∙ ap function_tokens is ∙ e)

  accessor_long : (x : Accessor) (t : Token) → (c.accessor_within c.external_or_none (suc n)).Fits x → accessor_tokens x ≡ t ∷ [] → ⊥
  accessor_long x t ((external, (kind, inside)), fits, is) e = two_tokens (c.external_or_none.spelling external) (both_spelling (option_spelling result_tokens) accessor_kind_tokens kind) ((p.body_of (within n).nodes.expr_nodes).spelling inside) t
      (λ none. clash false ((accessors.either_laws n O.type O.parts.parameters O.goes).empties kind fits.1.0 none) refl) (λ none. clash false (O.parts.body.empties inside fits.1.1 none) refl)
      (sym (call.accessor_said n O.parts O.type O.goes c.external_or_none call.external_agrees (external, (kind, inside)) fits) ∙ ap accessor_tokens is ∙ e)

  abbrev named : Phrase (OperatorName × (Parameters × Body))
  named = c.operator_name_over (within (suc n)).nodes ~ (within (suc n)).nodes.expr_nodes.parameters ~ p.body_of (within (suc n)).nodes.expr_nodes

  named_empty : (x : OperatorName × (Parameters × Body)) → named.Fits x → named.spelling x ≡ [] → ⊥
  named_empty x fits e = clash false ((operator_name_laws (within (suc n)).nodes).empties x.0 fits.0 (both_empty (operator_name_tokens x.0) (both_spelling (within (suc n)).nodes.expr_nodes.parameters.spelling (p.body_of (within (suc n)).nodes.expr_nodes).spelling x.1) e).0) refl

  word_empty : (place : Place) → (l.word w.Operator).spelling place ≡ [] → ⊥
  word_empty place e = absurd cc

  operator_long : (x : OperatorMember) (t : Token) → (c.operator_member_over (within (suc n)).nodes).Fits x → operator_member_tokens x ≡ t ∷ [] → ⊥
  operator_long x t ((external, (result, (place, rest))), fits, is) e = two_tokens (c.external_or_none.spelling external ++ option_spelling result_tokens result) ((l.word w.Operator).spelling place) (named.spelling rest) t
      (word_empty place) (named_empty rest fits.1.1.1)
      (append_assoc (c.external_or_none.spelling external) (option_spelling result_tokens result) ((l.word w.Operator).spelling place ++ named.spelling rest) ∙ sym (o.operator_said (suc n) O.operators (external, (result, (place, rest))) fits) ∙ ap operator_member_tokens is ∙ e)

  plain_long : (k : MemberKind) (t : Token) → Plain.Fits k → member_kind_tokens k ≡ t ∷ [] → has (this_word w.External) (class_of t) ≡ true → ⊥
  plain_long k t (inl (inl (x, fits, is))) e h = function_long x t fits (ap member_kind_tokens is ∙ e)
  plain_long k t (inl (inr (x, fits, is))) e h = accessor_long x t fits (ap member_kind_tokens is ∙ e)
  plain_long k t (inr (inl own)) e h = (apart {xs = this_word w.External} {ys = variable_first} refl).never_both (class_of t) h
      ((variables_laws n O.parts O.type O.goes O.variables).firsts t [] (subst (c.variables_within (suc n)).front e ((variables_laws n O.parts O.type O.goes O.variables).whole k own)))
  plain_long k t (inr (inr (x, fits, is))) e h = operator_long x t fits (ap member_kind_tokens is ∙ e)

  inside_alone : (a : Modifier × MemberKind) (t : Token) → Inside.Fits a → Inside.spelling a ≡ t ∷ [] → has (this_word w.External) (class_of t) ≡ true → Within (this_word w.Static) []
  inside_alone a t fits e h = absurd (plain_long a.1 t fits.1 (sym (ap (λ (z : Modifier). modifier_tokens z ++ member_kind_tokens a.1) fits.0) ∙ e) h)

  -- ---- all of them

  abbrev Fixed : Phrase (Modifier × MemberKind)
  Fixed = c.static (suc n) Static

  abbrev Whole : Phrase (Modifier × MemberKind)
  Whole = c.other_member (suc n)

  forth : (a : Modifier × MemberKind) → EitherFit Fixed.Fits (EitherFit Outside.Fits Inside.Fits) a → Whole.Fits a
  forth a (inl f) = inr (inl f)
  forth a (inr (inl f)) = inr (inr f)
  forth a (inr (inr f)) = inl f

  back : (a : Modifier × MemberKind) → Whole.Fits a → EitherFit Fixed.Fits (EitherFit Outside.Fits Inside.Fits) a
  back a (inl f) = inr (inr f)
  back a (inr (inl f)) = inl f
  back a (inr (inr f)) = inr (inl f)

  out : (ts : List Token) → Either Fixed.front (Either Outside.front Inside.front) ts → Whole.front ts
  out ts (inl f) = inr (inl f)
  out ts (inr (inl f)) = inr (inr f)
  out ts (inr (inr f)) = inl f

  into : (ts : List Token) → Whole.front ts → Either Fixed.front (Either Outside.front Inside.front) ts
  into ts (inl f) = inr (inr f)
  into ts (inr (inl f)) = inl f
  into ts (inr (inr f)) = inr (inl f)

  pub other_laws : OtherMembersReadAt (suc n)
  unfolding r.other_member
  other_laws = restated (by_first_laws static_laws (by_two_laws outside_laws plain_laws (this_word w.External) (this_word w.Static) outside_one inside_one outside_two inside_two outside_long inside_alone) (apart refl))
      forth back out into (inside refl) (λ a fits. within_none []) (λ e. e)

pub others_at : (n : ℕ) → OtherPartsReadAt n → OtherMembersReadAt (suc n)
others_at n O = other_laws n O
