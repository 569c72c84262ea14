-- The law of what begins with a parenthesis (ECMA-408, 16 Expressions, 16.10 Function Expressions): a function literal, or an expression in
-- parentheses. What stands behind the bracket that closes tells which of them comes, and of a list that is neither, how far it goes.
use Rattle.std.proofs.Common.{◌≡◌, ℕ, ◌≤◌, ◌<◌, Bool, true, false, if◌then◌else◌, List, [], ◌∷◌, ◌++◌, length, None, Some, Ok, Err, ◌⊎◌, inl, inr, refl, sym, ap, ◌∙◌, subst, append_assoc, arith}
use Rattle.std.specs.Prelude.{nat_lt}
use Rattle.std.proofs.lemmas.Bool.{ltb-true, le-ltb, lt-ltb}
use Rattle.std.proofs.lemmas.List.{append-nil, length-append}
use Rattle.dart_base.specs.declared.place.Place.{Place}
use Rattle.dart_token.specs.declared.token.Token.{Token}
use Rattle.dart_token.specs.declared.sign.Sign.TheVariants as s
use Rattle.dart_tree.specs.LeafTokens.{sign_at}
use Rattle.dart_tree.specs.Tree as t
use Rattle.dart_tree.specs.Tree.{Expr, Primary, Body}
use Rattle.dart_tree.specs.Tokens.{expr_tokens, primary_tokens, body_tokens, parameters_tokens}
use Rattle.grammar_laws.specs.Codes.{has}
use Rattle.grammar_laws.specs.Readers.{Outcome, Reader, starts, farther, deeper, tried, sought}
use Rattle.grammar_laws.specs.Halves.{strict}
use Rattle.grammar_laws.specs.Fronts.{Front, Either, EitherFit}
use Rattle.grammar_laws.specs.Laws.{Laws}
use Rattle.grammar_laws.proofs.Codes.{apart, apart_none, apart_smaller, clash, within_none, within_self, within_union}
use Rattle.grammar_laws.proofs.Cuts.{cut, same, longer, shorter}
use Rattle.grammar_laws.proofs.Joints.{begins}
use Rattle.grammar_laws.proofs.Restated.{made_laws, reread, wider}
use Rattle.grammar_laws.proofs.Combined.{both_laws}
use Rattle.grammar_laws.proofs.Sought.{sought_laws}
use Rattle.dart_syntax.specs.Phrases.{Phrase}
use Rattle.dart_syntax.specs.Agreement.{Agrees}
use Rattle.dart_syntax.specs.Expressions as g
use Rattle.dart_syntax.proofs.Agreeing.{parts_say, seq_agrees}
use Rattle.dart_syntax.proofs.AgreeingTypes.{sign_agrees}
use Rattle.token_codes.specs.Codes.{class_of, these, sign_codes}
use Rattle.token_codes.specs.Reads.{Reads}
use Rattle.token_codes.proofs.Leaves.{sign_reads}
use Rattle.syntax_readers.specs.Combinators.{Open, shut, behind_brackets}
use Rattle.syntax_readers.specs.Primaries.{ExprReaders, expr_first, parenthesized, is_function, parenthesis}
use Rattle.laws_expr.specs.Nexts.{primary_alone, after_expr, after_primary}
use Rattle.laws_expr.proofs.Behind.{under_expr}
use Rattle.laws_expr.proofs.Begun.{none_or}
use Rattle.laws_expr.proofs.Bracketed.{Bracketed, parenthesized_of}
use Rattle.laws_expr.proofs.Functions.{half_primary}
use Rattle.laws_expr.proofs.Open.{OpenLaws, Whole, open_spelling, half_tokens, after_open, shut_laws, Settled, stops_before}
use Rattle.laws_expr.proofs.Primaries.{alone_on, is_arrow, primary_closed}

-- what begins the body of a function
abbrev pub body_signs : List ℕ
body_signs = sign_codes (s.Arrow ∷ s.LeftBrace ∷ [])

-- ---- function literals: behind their parameters comes a body

pub record Bodied (F : Primary → Type 0) (front : Front Token) : Type 0 where
  pub ends : (x : Primary) → F x → (rest : List Token) → is_function (primary_tokens x ++ rest) ≡ true
  pub begins : (ts : List Token) → front ts → (behind_brackets ts ≡ []) ⊎ (is_function ts ≡ true)

module _ (nodes : g.ExprNodes) (P : Bracketed parameters_tokens nodes.parameters) (A : Agrees parameters_tokens nodes.parameters)
    {body : Reader Token (Open Body)} {next half : Body → List ℕ} (L : OpenLaws body body_tokens (g.literal_body_over nodes).Fits (g.literal_body_over nodes).front body_signs next half) where
  body_begins : (x : Body) → (g.literal_body_over nodes).Fits x → (rest : List Token) → starts class_of body_signs (body_tokens x ++ rest) ≡ true
  body_begins x fits rest = ap (λ (m : List Token). starts class_of body_signs (m ++ rest)) (sym (append-nil (body_tokens x))) ∙ begins L.laws (x, None) rest (L.none_in x fits)

  function_ends : (x : Primary) → (g.function_literal_over nodes).Fits x → (rest : List Token) → is_function (primary_tokens x ++ rest) ≡ true
  unfolding primary_tokens
  function_ends x ((given, inside), fits, is) rest = subst (λ (y : Primary). is_function (primary_tokens y ++ rest) ≡ true) is
      (ap (starts class_of body_signs) (ap behind_brackets (append_assoc (parameters_tokens given) (body_tokens inside) rest) ∙ P.ends given fits.0 (body_tokens inside ++ rest)) ∙ body_begins inside fits.1 rest)

  front_behind : (ts more : List Token) → behind_brackets ts ≡ more → (more ≡ []) ⊎ (starts class_of body_signs more ≡ true) → (behind_brackets ts ≡ []) ⊎ (is_function ts ≡ true)
  front_behind ts more at (inl none) = inl (at ∙ none)
  front_behind ts more at (inr on) = inr (ap (starts class_of body_signs) at ∙ on)

  function_begins : (ts : List Token) → (g.function_literal_over nodes).front ts → (behind_brackets ts ≡ []) ⊎ (is_function ts ≡ true)
  function_begins ts (inl f) = inl (P.begins ts f)
  function_begins ts (inr (given, more, fits, on, e, f)) =
      front_behind ts more (ap behind_brackets (e ∙ ap (λ (m : List Token). m ++ more) (A.spells given)) ∙ P.ends given fits more) (none_or body_signs (g.literal_body_over nodes).front L.laws.firsts more f)

  pub function_bodied : Bodied (g.function_literal_over nodes).Fits (g.function_literal_over nodes).front
  function_bodied = record { ends = function_ends; begins = function_begins }

-- ---- one or the other

module _ (here : ExprReaders) {expr : Phrase Expr} (E : Reads (strict here.expr) expr expr_first after_expr false) (A : Agrees expr_tokens expr) (B : Bracketed primary_tokens (parenthesized_of expr))
    {F : Primary → Type 0} {front : Front Token} (L : OpenLaws here.function primary_tokens F front (these s.LeftParenthesis) after_primary half_primary) (K : Bodied F front) where
  abbrev Parenthesized : Phrase Primary
  Parenthesized = parenthesized_of expr

  pub parenthesized_laws : Reads (parenthesized (strict here.expr)) Parenthesized (these s.LeftParenthesis) after_primary false
  unfolding parenthesized primary_tokens
  parenthesized_laws = made_laws (both_laws (sign_reads s.LeftParenthesis) (both_laws E (sign_reads s.RightParenthesis) (λ x fits. apart_smaller (under_expr x) (apart refl))) (λ place fits. apart_none expr_first))
      (λ x. t.parenthesized x.0 x.1.0 x.1.1) primary_tokens after_primary
      (parts_say primary_tokens (λ x. t.parenthesized x.0 x.1.0 x.1.1) (seq_agrees (sign_agrees s.LeftParenthesis) (seq_agrees A (sign_agrees s.RightParenthesis))) (λ x fits. refl)) (λ x fits. within_none _)

  abbrev parenthesized_open : OpenLaws (shut (parenthesized (strict here.expr))) primary_tokens Parenthesized.Fits Parenthesized.front (these s.LeftParenthesis) after_primary half_primary
  parenthesized_open = shut_laws parenthesized_laws half_primary

  abbrev spelled : Open Primary → List Token
  spelled = open_spelling primary_tokens

  -- behind the tokens of a function's parameters comes a body, behind those of an expression in parentheses what follows
  is_literal : (x : Open Primary) (rest : List Token) → L.Fits x → is_function (spelled x ++ rest) ≡ true
  is_literal (x, None) rest fits = ap is_function (append_assoc (primary_tokens x) [] rest) ∙ K.ends x (L.none_out x fits) rest
  is_literal (x, Some g) rest fits = ap is_function (append_assoc (primary_tokens x) (half_tokens g) rest) ∙ K.ends x (L.some_out x g fits) (half_tokens g ++ rest)

  parenthesized_ends : (y : Open Primary) (rest : List Token) → Whole Parenthesized.Fits y → behind_brackets (spelled y ++ rest) ≡ rest
  parenthesized_ends (y, None) rest fits = ap behind_brackets (append_assoc (primary_tokens y) [] rest) ∙ B.ends y fits rest
  parenthesized_ends (y, Some g) rest fits = absurd fits

  no_function : (ts : List Token) → behind_brackets ts ≡ [] → is_function ts ≡ false
  no_function ts none = ap (starts class_of body_signs) none

  never_both : (x y : Open Primary) → L.Fits x → Whole Parenthesized.Fits y → spelled x ≡ spelled y → ⊥
  never_both x y fits others e =
      let list : List Token = spelled x ++ [] in
      clash (is_function list) (is_literal x [] fits) (no_function list (ap (λ (m : List Token). behind_brackets (m ++ [])) e ∙ parenthesized_ends y [] others))

  over_literal : (x : Open Primary) (u : Token) (ts : List Token) → L.Fits x → Parenthesized.front (spelled x ++ u ∷ ts) → ⊥
  over_literal x u ts fits f = clash (is_function (spelled x ++ u ∷ ts)) (is_literal x (u ∷ ts) fits) (no_function (spelled x ++ u ∷ ts) (B.begins (spelled x ++ u ∷ ts) f))

  -- what goes on behind an expression in parentheses, where a literal may begin so, is the body of a function
  body_next : (y : Open Primary) (u : Token) (ts : List Token) → Whole Parenthesized.Fits y → front (spelled y ++ u ∷ ts) → has body_signs (class_of u) ≡ true
  body_next y u ts fits f = elim (K.begins (spelled y ++ u ∷ ts) f) [
    | inl none ↦ let bad : u ∷ ts ≡ [] = sym (parenthesized_ends y (u ∷ ts) fits) ∙ none in absurd cc
    | inr on ↦ ap (starts class_of body_signs) (sym (parenthesized_ends y (u ∷ ts) fits)) ∙ on
  ]

  body_goes_on : (y : Primary) (u : Token) → Parenthesized.Fits y → has body_signs (class_of u) ≡ true → has (after_primary y) (class_of u) ≡ true
  unfolding primary_alone
  body_goes_on y u (parts, fits, is) on = subst (λ (z : Primary). has (after_primary z) (class_of u) ≡ true) is ((alone_on (t.parenthesized parts.0 parts.1.0 parts.1.1)).in_second (class_of u) on)

  over_parenthesized : (y : Open Primary) (u : Token) (ts : List Token) → Whole Parenthesized.Fits y → front (spelled y ++ u ∷ ts) → has (after_open after_primary half_primary y) (class_of u) ≡ true
  over_parenthesized (y, None) u ts fits f = body_goes_on y u fits (body_next (y, None) u ts fits f)
  over_parenthesized (y, Some g) u ts fits f = absurd fits

  either_first : Laws class_of (sought here.function (shut (parenthesized (strict here.expr)))) (open_spelling primary_tokens) (EitherFit L.Fits (Whole Parenthesized.Fits)) (Either front Parenthesized.front) (these s.LeftParenthesis ++ these s.LeftParenthesis) (after_open after_primary half_primary) false
  either_first = sought_laws L.laws parenthesized_open.laws never_both over_literal over_parenthesized

  -- ---- which is tried first makes no difference

  abbrev two : Bool → List Token → Outcome Token (Open Primary)
  two c ts = if c then sought here.function (shut (parenthesized (strict here.expr))) ts else tried (shut (parenthesized (strict here.expr))) here.function ts

  -- a literal that is no tree is at fault no farther than an expression in parentheses goes, where no body comes behind it
  not_past : (ts d rest : List Token) (y : Open Primary) → is_function ts ≡ false → here.function ts ≡ Err d → shut (parenthesized (strict here.expr)) ts ≡ Ok (y, rest) → length rest ≤ length d
  not_past ts d rest y off e f =
      let l = parenthesized_open.laws.sound ts y rest f in
      let k = L.laws.fault ts d e in
      elim (cut (spelled y) rest k.0 d (sym l.1 ∙ k.1)) as (λ _. length rest ≤ length d) [
        | same x z ↦ omega (arith, ap length z)
        | longer u z x w ↦ clash (is_function ts) (ap (λ (m : List Token). starts class_of body_signs (behind_brackets m)) l.1 ∙ ap (starts class_of body_signs) (parenthesized_ends y rest l.0 ∙ w) ∙ body_next y u z l.0 (subst front x k.2)) off
        | shorter u z x w ↦ omega (arith, ap length w, length-append z rest)
      ]

  -- two faults at places that are equally far are one
  one_fault : (ts d e : List Token) → here.function ts ≡ Err d → shut (parenthesized (strict here.expr)) ts ≡ Err e → (length d < length e → ⊥) → (length e < length d → ⊥) → e ≡ d
  one_fault ts d e f h off other =
      let k = L.laws.fault ts d f in
      let l = parenthesized_open.laws.fault ts e h in
      elim (cut k.0 d l.0 e (sym k.1 ∙ l.1)) as (λ _. e ≡ d) [
        | same x z ↦ sym z
        | longer u z x w ↦ absurd (other (omega (arith, ap length w, length-append z e)))
        | shorter u z x w ↦ absurd (off (omega (arith, ap length w, length-append z d)))
      ]

  abbrev at_last : Bool → List Token → List Token → Outcome Token (Open Primary)
  at_last c d e = if c then Err d else Err e

  both_fail : (ts d e : List Token) (c m : Bool) → nat_lt (length d) (length e) ≡ c → nat_lt (length e) (length d) ≡ m → here.function ts ≡ Err d → shut (parenthesized (strict here.expr)) ts ≡ Err e → at_last m e d ≡ at_last c d e
  both_fail ts d e true true f h p q = absurd (omega (arith, ltb-true (length d) (length e) f, ltb-true (length e) (length d) h))
  both_fail ts d e true false f h p q = refl
  both_fail ts d e false true f h p q = refl
  both_fail ts d e false false f h p q = ap (λ (m : List Token). at_last false m m) (sym (one_fault ts d e p q (λ lt. clash (nat_lt (length d) (length e)) (lt-ltb (length d) (length e) lt) f) (λ lt. clash (nat_lt (length e) (length d)) (lt-ltb (length e) (length d) lt) h)))

  one_or_other : (ts : List Token) (r o : Outcome Token (Open Primary)) → is_function ts ≡ false → here.function ts ≡ r → shut (parenthesized (strict here.expr)) ts ≡ o → farther o r ≡ deeper r o
  one_or_other ts (Ok (x, rest)) o off e f = let l = L.laws.sound ts x rest e in clash (is_function ts) (ap is_function l.1 ∙ is_literal x rest l.0) off
  one_or_other ts (Err d) (Ok (y, rest)) off e f = ap (λ (c : Bool). if c then Err d else Ok (y, rest)) (sym (le-ltb (length d) (length rest) (not_past ts d rest y off e f)))
  one_or_other ts (Err d) (Err r) off e f = both_fail ts d r (nat_lt (length d) (length r)) (nat_lt (length r) (length d)) refl refl e f

  same_two : (ts : List Token) (c : Bool) → is_function ts ≡ c → two c ts ≡ two true ts
  same_two ts true e = refl
  same_two ts false e = one_or_other ts (here.function ts) (shut (parenthesized (strict here.expr)) ts) e refl refl

  none_in : (x : Primary) → EitherFit F Parenthesized.Fits x → EitherFit L.Fits (Whole Parenthesized.Fits) (x, None)
  none_in x (inl fits) = inl (L.none_in x fits)
  none_in x (inr fits) = inr fits

  none_out : (x : Primary) → EitherFit L.Fits (Whole Parenthesized.Fits) (x, None) → EitherFit F Parenthesized.Fits x
  none_out x (inl fits) = inl (L.none_out x fits)
  none_out x (inr fits) = inr fits

  some_out : (x : Primary) (g : Place) → EitherFit L.Fits (Whole Parenthesized.Fits) (x, Some g) → EitherFit F Parenthesized.Fits x
  some_out x g (inl fits) = inl (L.some_out x g fits)
  some_out x g (inr fits) = absurd fits

  pub parenthesis_laws : OpenLaws (parenthesis here) primary_tokens (EitherFit F Parenthesized.Fits) (Either front Parenthesized.front) (these s.LeftParenthesis) after_primary half_primary
  unfolding parenthesis
  parenthesis_laws = record {
    Fits = EitherFit L.Fits (Whole Parenthesized.Fits);
    none_in = none_in;
    none_out = none_out;
    some_out = some_out;
    laws = reread (wider either_first (within_union (within_self (these s.LeftParenthesis)) (within_self (these s.LeftParenthesis))) (λ x fits. within_self (after_open after_primary half_primary x))) (λ ts. same_two ts (is_function ts) refl);
  }

  -- a `>` behind a function literal is given as a half, or stopped before, and one behind an expression in parentheses is stopped before
  pub literal_settled : (x : Primary) → F x → Settled L x → Settled parenthesis_laws x
  unfolding parenthesis parenthesis_laws
  literal_settled x fits (inl known) = inl (λ g. inl (known g))
  literal_settled x fits (inr stays) = inr (λ g ts.
      let list : List Token = spelled (x, None) ++ sign_at g s.Greater ∷ ts in
      same_two list (is_function list) refl ∙ ap (λ (o : Outcome Token (Open Primary)). deeper o (shut (parenthesized (strict here.expr)) list)) (stays g ts))

  pub parenthesized_settled : (x : Primary) → Parenthesized.Fits x → Settled parenthesis_laws x
  parenthesized_settled x (parts, fits, is) = stops_before parenthesis_laws x (inr (parts, fits, is)) (primary_closed x (ap is_arrow (sym is)))
