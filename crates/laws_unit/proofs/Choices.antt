-- What leaves no choice between functions, accessors and variables of a unit leaves none between those of a class, with `external` or without.
use Rattle.std.proofs.Common.{◌≡◌, ℕ, zero, suc, List, ◌∷◌, ◌++◌, Option, None, Some, inl, inr, refl, sym, ap, ◌∙◌, subst}
use Rattle.dart_base.specs.declared.place.Place.{Place}
use Rattle.dart_token.specs.declared.token.Token.{Token}
use Rattle.dart_tree.specs.Tree.{Function}
use Rattle.dart_tree.specs.Tokens.{function_tokens, variables_tokens}
use Rattle.dart_tree.specs.Unit as d
use Rattle.dart_tree.specs.Unit.{Accessor, MemberKind}
use Rattle.dart_tree.specs.UnitTokens.{accessor_tokens, member_kind_tokens}
use Rattle.dart_syntax.specs.Phrases.{Phrase, made}
use Rattle.dart_syntax.specs.Declarations as c
use Rattle.laws_unit.specs.Statements.{CallChoiceAt, CallableApartAt}

abbrev pub member_accessors : ℕ → Phrase (Option Place) → Phrase MemberKind
member_accessors n e = made member_kind_tokens d.accessor_member (c.accessor_within e n)

abbrev pub member_functions : ℕ → Phrase (Option Place) → Phrase MemberKind
member_functions n e = made member_kind_tokens d.function_member (c.function_within e n)

-- no list of tokens is one of these and begins another past that, and none is two of them
pub record ChoiceOf (n : ℕ) (e : Phrase (Option Place)) : Type 0 where
  pub over_accessor : (a : MemberKind) (t : Token) (ts : List Token) → (member_accessors n e).Fits a → (member_functions n e).front (member_kind_tokens a ++ t ∷ ts) → ⊥
  pub over_function : (a : MemberKind) (t : Token) (ts : List Token) → (member_functions n e).Fits a → (member_accessors n e).front (member_kind_tokens a ++ t ∷ ts) → ⊥
  pub never_two : (a b : MemberKind) → (member_accessors n e).Fits a → (member_functions n e).Fits b → member_kind_tokens a ≡ member_kind_tokens b → ⊥
  pub over_callable : (a : MemberKind) (t : Token) (ts : List Token) → (c.callable_within n e).Fits a → (c.variables_within n).front (member_kind_tokens a ++ t ∷ ts) → ⊥
  pub over_variables : (a : MemberKind) (t : Token) (ts : List Token) → (c.variables_within n).Fits a → (c.callable_within n e).front (member_kind_tokens a ++ t ∷ ts) → ⊥
  pub never_both : (a b : MemberKind) → (c.callable_within n e).Fits a → (c.variables_within n).Fits b → member_kind_tokens a ≡ member_kind_tokens b → ⊥

-- `e` is `external` or none, or less
module _ (n : ℕ) (C : CallChoiceAt n) (V : CallableApartAt n) (e : Phrase (Option Place))
    (function_fits : (x : Function) → (c.function_within e n).Fits x → (c.function_within c.external_or_none n).Fits x)
    (function_begins : (ts : List Token) → (c.function_within e n).front ts → (c.function_within c.external_or_none n).front ts)
    (accessor_fits : (x : Accessor) → (c.accessor_within e n).Fits x → (c.accessor_within c.external_or_none n).Fits x)
    (accessor_begins : (ts : List Token) → (c.accessor_within e n).front ts → (c.accessor_within c.external_or_none n).front ts) where
  over_accessor : (a : MemberKind) (t : Token) (ts : List Token) → (member_accessors n e).Fits a → (member_functions n e).front (member_kind_tokens a ++ t ∷ ts) → ⊥
  over_accessor a t ts (x, fits, is) f = C.over_accessor (d.accessor_decl x) t ts (x, accessor_fits x fits, refl)
      (function_begins (accessor_tokens x ++ t ∷ ts) (subst (c.function_within e n).front (ap (λ (z : MemberKind). member_kind_tokens z ++ t ∷ ts) (sym is)) f))

  over_function : (a : MemberKind) (t : Token) (ts : List Token) → (member_functions n e).Fits a → (member_accessors n e).front (member_kind_tokens a ++ t ∷ ts) → ⊥
  over_function a t ts (x, fits, is) f = C.over_function (d.function_decl x) t ts (x, function_fits x fits, refl)
      (accessor_begins (function_tokens x ++ t ∷ ts) (subst (c.accessor_within e n).front (ap (λ (z : MemberKind). member_kind_tokens z ++ t ∷ ts) (sym is)) f))

  never_two : (a b : MemberKind) → (member_accessors n e).Fits a → (member_functions n e).Fits b → member_kind_tokens a ≡ member_kind_tokens b → ⊥
  never_two a b (x, fits, is) (y, own, so) same = C.never_both (d.accessor_decl x) (d.function_decl y) (x, accessor_fits x fits, refl) (y, function_fits y own, refl) (ap member_kind_tokens is ∙ same ∙ sym (ap member_kind_tokens so))

  over_callable : (a : MemberKind) (t : Token) (ts : List Token) → (c.callable_within n e).Fits a → (c.variables_within n).front (member_kind_tokens a ++ t ∷ ts) → ⊥
  over_callable a t ts (inl (x, fits, is)) f = V.over_callable (d.function_decl x) t ts (inl (x, function_fits x fits, refl)) (subst (c.variables_within n).front (ap (λ (z : MemberKind). member_kind_tokens z ++ t ∷ ts) (sym is)) f)
  over_callable a t ts (inr (x, fits, is)) f = V.over_callable (d.accessor_decl x) t ts (inr (x, accessor_fits x fits, refl)) (subst (c.variables_within n).front (ap (λ (z : MemberKind). member_kind_tokens z ++ t ∷ ts) (sym is)) f)

  over_variables : (a : MemberKind) (t : Token) (ts : List Token) → (c.variables_within n).Fits a → (c.callable_within n e).front (member_kind_tokens a ++ t ∷ ts) → ⊥
  over_variables a t ts (x, fits, is) (inl f) = V.over_variables (d.variables_decl x) t ts (x, fits, refl) (inl (function_begins (variables_tokens x ++ t ∷ ts) (subst (c.function_within e n).front (ap (λ (z : MemberKind). member_kind_tokens z ++ t ∷ ts) (sym is)) f)))
  over_variables a t ts (x, fits, is) (inr f) = V.over_variables (d.variables_decl x) t ts (x, fits, refl) (inr (accessor_begins (variables_tokens x ++ t ∷ ts) (subst (c.accessor_within e n).front (ap (λ (z : MemberKind). member_kind_tokens z ++ t ∷ ts) (sym is)) f)))

  never_both : (a b : MemberKind) → (c.callable_within n e).Fits a → (c.variables_within n).Fits b → member_kind_tokens a ≡ member_kind_tokens b → ⊥
  never_both a b (inl (x, fits, is)) (y, own, so) same = V.never_both (d.function_decl x) (d.variables_decl y) (inl (x, function_fits x fits, refl)) (y, own, refl) (ap member_kind_tokens is ∙ same ∙ sym (ap member_kind_tokens so))
  never_both a b (inr (x, fits, is)) (y, own, so) same = V.never_both (d.accessor_decl x) (d.variables_decl y) (inr (x, accessor_fits x fits, refl)) (y, own, refl) (ap member_kind_tokens is ∙ same ∙ sym (ap member_kind_tokens so))

  pub choice_of : ChoiceOf n e
  choice_of = record { over_accessor = over_accessor; over_function = over_function; never_two = never_two; over_callable = over_callable; over_variables = over_variables; never_both = never_both }

-- ---- without `external`

maybe : (y : Option Place) → c.without_external.Fits y → c.external_or_none.Fits y
maybe None same = tt
maybe (Some place) same = tt

function_fits : (n : ℕ) (x : Function) → (c.function_within c.without_external n).Fits x → (c.function_within c.external_or_none n).Fits x
function_fits zero x fits = fits
function_fits (suc n) x ((external, rest), fits, is) = ((external, rest), (maybe external fits.0, fits.1), is)

function_begins : (n : ℕ) (ts : List Token) → (c.function_within c.without_external n).front ts → (c.function_within c.external_or_none n).front ts
function_begins zero ts f = f
function_begins (suc n) ts (inl f) = inl (inl f)
function_begins (suc n) ts (inr (external, more, fits, on, is, f)) = inr (external, more, maybe external fits, on, is, f)

accessor_fits : (n : ℕ) (x : Accessor) → (c.accessor_within c.without_external n).Fits x → (c.accessor_within c.external_or_none n).Fits x
accessor_fits zero x fits = fits
accessor_fits (suc n) x ((external, rest), fits, is) = ((external, rest), (maybe external fits.0, fits.1), is)

accessor_begins : (n : ℕ) (ts : List Token) → (c.accessor_within c.without_external n).front ts → (c.accessor_within c.external_or_none n).front ts
accessor_begins zero ts f = f
accessor_begins (suc n) ts (inl f) = inl (inl f)
accessor_begins (suc n) ts (inr (external, more, fits, on, is, f)) = inr (external, more, maybe external fits, on, is, f)

pub with_external_choice : (n : ℕ) → CallChoiceAt n → CallableApartAt n → ChoiceOf n c.external_or_none
with_external_choice n C V = choice_of n C V c.external_or_none (λ x fits. fits) (λ ts f. f) (λ x fits. fits) (λ ts f. f)

pub without_external_choice : (n : ℕ) → CallChoiceAt n → CallableApartAt n → ChoiceOf n c.without_external
without_external_choice n C V = choice_of n C V c.without_external (function_fits n) (function_begins n) (accessor_fits n) (accessor_begins n)
