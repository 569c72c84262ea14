-- No list of tokens leaves a choice: where the tokens of a declaration lead, nothing that begins an expression does, and the other way
-- round.
use Rattle.std.proofs.Common.{◌≡◌, ℕ, Bool, true, false, List, [], ◌∷◌, ◌++◌, inl, inr, refl, sym, ap, ◌∙◌, subst, append_assoc}
use Rattle.dart_base.specs.declared.place.Place.{Place}
use Rattle.dart_token.specs.declared.token.Token.{Token}
use Rattle.dart_token.specs.declared.sign.Sign.{Sign}
use Rattle.dart_token.specs.declared.sign.Sign.TheVariants as s
use Rattle.dart_token.specs.declared.word.Word.{Word}
use Rattle.dart_token.specs.declared.word.Word.TheVariants as w
use Rattle.dart_tree.specs.declared.identifier.Identifier.{Identifier}
use Rattle.dart_tree.specs.declared.identifier.Identifier.TheVariants as i
use Rattle.dart_tree.specs.LeafTokens.{word_at, identifier_tokens, kind_tokens}
use Rattle.dart_tree.specs.Tree as t
use Rattle.dart_tree.specs.Tree.{Value, Variables}
use Rattle.dart_tree.specs.Types.{VariableKind}
use Rattle.dart_tree.specs.Tokens.{stmt_tokens, value_tokens, variables_tokens}
use Rattle.grammar_laws.specs.Codes.{has}
use Rattle.grammar_laws.specs.Fronts.{both_spelling}
use Rattle.grammar_laws.proofs.Codes.{clash, has_cases}
use Rattle.dart_syntax.specs.Phrases.{◌<|>◌}
use Rattle.dart_syntax.specs.Leaves.{sign_tokens, begins_with_no_brace}
use Rattle.dart_syntax.specs.Statements as p
use Rattle.dart_syntax.specs.Statements.{within}
use Rattle.token_codes.specs.Codes.{class_of, names, sign_code, these, this_word}
use Rattle.token_codes.specs.Leaves.{name_of}
use Rattle.token_codes.proofs.Only.{only_sign, only_word}
use Rattle.token_codes.proofs.Leaves.{name_said}
use Rattle.syntax_readers.specs.Types.{type_first}
use Rattle.laws_stmt.specs.Besides.{kind_name_of}
use Rattle.laws_apart.specs.Statements.{body_codes, behind_on_name, start_of, ApartAt, HeadsApartAt}
use Rattle.laws_apart.proofs.Telling.{Sort, name, dynamic, dot, less, colon, body, other, State, begun, named, second, called, typed, known, free, neither}
use Rattle.laws_apart.proofs.Telling.{sign_sort, word_sort, kind_sort, step, calls, judge, judge_by, among, under, stays}
use Rattle.laws_apart.proofs.Judges as j
use Rattle.laws_apart.proofs.Judges.{refuses, distinct, through_both, the_sign, an_identifier, seq_leads, made_leads, perhaps_leads, such_tokens_leads, eased}
use Rattle.laws_apart.proofs.Leading.{telling, Through, Leads, one_through}
use Rattle.laws_apart.proofs.Types.{kind_fine, at_begin, behind_any_kind, types_lead, any_kind_leads}
use Rattle.laws_apart.proofs.Declared.{declared_fine, at_wrong, variables_lead_at, declarations_lead}
use Rattle.laws_apart.proofs.Operands.{fine, at_free}
use Rattle.laws_apart.proofs.Rows.{exprs_lead}
use Rattle.laws_apart.proofs.Bracketed.{brackets}

-- ---- what leads to a state that no token changes is no beginning of what never leads there

refuted : (good f : State → Bool) → under f (refuses telling good) ≡ true → (xs ts : List Token) → Through f begun xs → good (judge begun (xs ++ ts)) ≡ true → ⊥
refuted = j.refuted telling begun

-- ---- tokens by their codes

sign_said : (which : Sign) (t : Token) → has (these which) (class_of t) ≡ true → kind_sort t.kind ≡ sign_sort which
sign_said which t h = ap (λ (u : Token). kind_sort u.kind) (sym (only_sign which t h))

word_said : (which : Word) (t : Token) → has (this_word which) (class_of t) ≡ true → kind_sort t.kind ≡ word_sort which
word_said which t h = ap (λ (u : Token). kind_sort u.kind) (sym (only_word which t h))

abbrev first_sort : List Token → Sort
first_sort [] = other
first_sort (t ∷ ts) = kind_sort t.kind

named_sort : (x : Identifier) → first_sort (identifier_tokens x) ≡ name
named_sort (i.Name place text) = refl
named_sort (i.Get place) = refl
named_sort (i.Set place) = refl

name_sort : (t : Token) → has names (class_of t) ≡ true → kind_sort t.kind ≡ name
name_sort t h = sym (ap first_sort (name_said t h)) ∙ named_sort (name_of t)

-- a name leads behind a name
after_name : (a : Token) (ts : List Token) → has names (class_of a) ≡ true → judge begun (a ∷ ts) ≡ judge named ts
after_name a ts h = judge_by begun a ts name (name_sort a h) refl

to_neither : (z : State) (c : Token) (ts : List Token) (x : Sort) → kind_sort c.kind ≡ x → calls z x ≡ false → step z x ≡ neither → judge z (c ∷ ts) ≡ neither
to_neither z c ts x is off leads = judge_by z c ts x is off ∙ ap (λ (y : State). judge y ts) leads ∙ stays neither refl ts

-- what begins with a label leads to neither, and so does what begins as another part of a `try`
label_leads : (a c : Token) (ts : List Token) → has names (class_of a) ≡ true → has (these s.Colon) (class_of c) ≡ true → judge begun (a ∷ c ∷ ts) ≡ neither
label_leads a c ts n h = after_name a (c ∷ ts) n ∙ to_neither named c ts colon (sign_said s.Colon c h) refl refl

behind_known : (c : Token) (ts : List Token) → has behind_on_name (class_of c) ≡ true → judge known (c ∷ ts) ≡ neither
behind_known c ts h = elim (has_cases (these s.Less) (sign_code s.Dot ∷ body_codes) (class_of c) h) as (λ _. judge known (c ∷ ts) ≡ neither) [
  | inl k ↦ to_neither known c ts less (sign_said s.Less c k) refl refl
  | inr k ↦ elim (has_cases (these s.Dot) body_codes (class_of c) k) as (λ _. judge known (c ∷ ts) ≡ neither) [
    | inl k ↦ to_neither known c ts dot (sign_said s.Dot c k) refl refl
    | inr k ↦ elim (has_cases (this_word w.Catch) (these s.LeftBrace) (class_of c) k) as (λ _. judge known (c ∷ ts) ≡ neither) [
      | inl k ↦ to_neither known c ts other (word_said w.Catch c k) refl refl
      | inr k ↦ to_neither known c ts body (sign_said s.LeftBrace c k) refl refl
    ]
  ]
]

part_leads : (a b c : Token) (ts : List Token) → has names (class_of a) ≡ true → has type_first (class_of b) ≡ true → has behind_on_name (class_of c) ≡ true →
    judge begun (a ∷ b ∷ c ∷ ts) ≡ neither
part_leads a b c ts n h k = after_name a (b ∷ c ∷ ts) n ∙ elim (has_cases (this_word w.Dynamic) names (class_of b) h) as
    (λ _. judge named (b ∷ c ∷ ts) ≡ neither) [
      | inl d ↦ to_neither named b (c ∷ ts) dynamic (word_said w.Dynamic b d) refl refl
      | inr d ↦ judge_by named b (c ∷ ts) name (name_sort b d) refl ∙ behind_known c ts k
    ]

module _ (n : ℕ) where
  -- ---- statements

  declared : Leads declared_fine at_begin at_wrong stmt_tokens (p.declaration_of (within n).nodes)
  declared = declarations_lead brackets.parameters n

  abbrev start_tokens : Value × Place → List Token
  start_tokens = both_spelling value_tokens (sign_tokens s.Semicolon)

  abbrev begun_or_loose : State → Bool
  begun_or_loose = among (begun ∷ named ∷ called ∷ free ∷ second ∷ [])

  started : Leads fine at_begin at_free start_tokens (start_of n)
  unfolding value_tokens
  started = seq_leads (perhaps_leads (made_leads (eased (exprs_lead brackets n) fine at_begin begun_or_loose refl) value_tokens _ (λ x. refl)) t.omitted
      refl refl refl) (the_sign fine begun_or_loose at_free s.Semicolon refl)

  acted : Leads fine at_begin at_free stmt_tokens (p.expression_of (within n).nodes)
  unfolding stmt_tokens
  acted = such_tokens_leads (made_leads started stmt_tokens _ (λ x. refl)) begins_with_no_brace

  neither_begins : (ts : List Token) → judge begun ts ≡ neither → (p.declaration_of (within n).nodes <|> p.expression_of (within n).nodes).front ts → ⊥
  neither_begins ts leads (inl f) = clash (declared_fine (judge begun ts)) (declared.holds ts f begun refl) (ap declared_fine leads)
  neither_begins ts leads (inr f) = clash (fine (judge begun ts)) (acted.holds ts f begun refl) (ap fine leads)

  pub apart_at : ApartAt n
  apart_at = record {
    over_declaration = λ a t ts fits f. refuted fine at_wrong refl (stmt_tokens a) (t ∷ ts) (declared.ends a fits begun refl)
        (acted.holds (stmt_tokens a ++ t ∷ ts) f begun refl);
    over_expression = λ b t ts fits f. refuted declared_fine at_free refl (stmt_tokens b) (t ∷ ts) (acted.ends b fits begun refl)
        (declared.holds (stmt_tokens b ++ t ∷ ts) f begun refl);
    never_both = λ a b fits acts same. distinct telling begun fine at_wrong at_free refl refl (stmt_tokens a) (stmt_tokens b)
        (declared.ends a fits begun refl) (acted.ends b acts begun refl) same;
    no_label = λ a c ts n h. neither_begins (a ∷ c ∷ ts) (label_leads a c ts n h);
    no_part = λ a b c ts n h k. neither_begins (a ∷ b ∷ c ∷ ts) (part_leads a b c ts n h k);
  }

  -- ---- heads of `for`

  abbrev behind_name : State → Bool
  behind_name = among (named ∷ typed ∷ known ∷ [])

  abbrev at_neither : State → Bool
  at_neither = among (neither ∷ [])

  kind_named : Leads kind_fine at_begin behind_name (both_spelling kind_tokens identifier_tokens) (kind_name_of n)
  kind_named = seq_leads (any_kind_leads (types_lead n)) (an_identifier kind_fine behind_any_kind behind_name refl)

  varied : Leads declared_fine at_begin at_wrong variables_tokens (within n).nodes.variables
  varied = variables_lead_at n

  in_through : (x : VariableKind × Identifier) (u : Token) → (kind_name_of n).Fits x → has (this_word w.In) (class_of u) ≡ true → Through at_neither begun
      ((kind_name_of n).spelling x ++ u ∷ [])
  in_through x u fits h = subst (λ (v : Token). Through at_neither begun ((kind_name_of n).spelling x ++ v ∷ [])) (only_word w.In u h)
      (through_both telling behind_name at_neither begun ((kind_name_of n).spelling x) (word_at u.place w.In ∷ []) (kind_named.ends x fits begun refl)
      (one_through behind_name at_neither (word_at u.place w.In) refl))

  -- behind a name no head goes on with `in`, but that of a for-in
  in_refuted : (good : State → Bool) → under at_neither (refuses telling good) ≡ true → (x : VariableKind × Identifier) (u : Token) (ts : List Token) →
      (kind_name_of n).Fits x → has (this_word w.In) (class_of u) ≡ true →
      good (judge begun ((kind_name_of n).spelling x ++ u ∷ ts)) ≡ true → ⊥
  in_refuted good off x u ts fits h begins = refuted good at_neither off ((kind_name_of n).spelling x ++ u ∷ []) ts (in_through x u fits h)
      (ap (λ (l : List Token). good (judge begun l)) (append_assoc ((kind_name_of n).spelling x) (u ∷ []) ts) ∙ begins)

  varied_ends : (v : Variables) → (within n).nodes.variables.Fits v → Through at_wrong begun ((within n).nodes.variables.spelling v)
  varied_ends v fits = subst (Through at_wrong begun) (sym (varied.same v)) (varied.ends v fits begun refl)

  started_ends : (x : Value × Place) → (start_of n).Fits x → Through at_free begun ((start_of n).spelling x)
  started_ends x fits = subst (Through at_free begun) (sym (started.same x)) (started.ends x fits begun refl)

  pub heads_apart_at : HeadsApartAt n
  heads_apart_at = record {
    variables_in = λ x u ts fits h f. in_refuted declared_fine refl x u ts fits h (varied.holds _ f begun refl);
    value_in = λ x u ts fits h f. in_refuted fine refl x u ts fits h (started.holds _ f begun refl);
    kind_variables = λ v ts fits f. refuted kind_fine at_wrong refl ((within n).nodes.variables.spelling v) ts (varied_ends v fits)
        (kind_named.holds _ f begun refl);
    kind_value = λ x ts fits f. refuted kind_fine at_free refl ((start_of n).spelling x) ts (started_ends x fits) (kind_named.holds _ f begun refl);
    value_variables = λ v ts fits f. refuted fine at_wrong refl ((within n).nodes.variables.spelling v) ts (varied_ends v fits) (started.holds _ f begun refl);
    variables_value = λ x ts fits f. refuted declared_fine at_free refl ((start_of n).spelling x) ts (started_ends x fits) (varied.holds _ f begun refl);
  }
