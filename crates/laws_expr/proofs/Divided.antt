-- The laws of the operators of two tokens, `> >` and `> >=`: the first token is read with the operand before it, as half an operator.
use Rattle.std.proofs.Common.{◌≡◌, ℕ, false, List, [], ◌∷◌, ◌++◌, Option, None, Some, Ok, Err, inl, inr, refl, ap, sym, subst}
use Rattle.dart_base.specs.declared.place.Place.{Place}
use Rattle.dart_token.specs.declared.token.Token.{Token}
use Rattle.dart_token.specs.declared.sign.Sign.{Sign}
use Rattle.dart_token.specs.declared.sign.Sign.TheVariants as s
use Rattle.dart_tree.specs.declared.operator.Operator.{Operator}
use Rattle.dart_tree.specs.declared.operator.Operator.TheVariants as o
use Rattle.dart_tree.specs.LeafTokens.{sign_at, operator_tokens}
use Rattle.grammar_laws.specs.Codes.{nowhere}
use Rattle.grammar_laws.specs.Readers.{Outcome, Reader, and_then}
use Rattle.grammar_laws.specs.Fronts.{Front, Made, option_spelling}
use Rattle.grammar_laws.specs.Laws.{Laws}
use Rattle.grammar_laws.proofs.Codes.{apart, within_self}
use Rattle.grammar_laws.proofs.Restated.{mapped_laws, made_laws, reread, refit, refront}
use Rattle.dart_syntax.specs.Phrases.{Anything}
use Rattle.dart_syntax.specs.Leaves as l
use Rattle.dart_syntax.specs.Expressions as g
use Rattle.dart_syntax.specs.Expressions.{assignment_signs}
use Rattle.dart_syntax.specs.Levels.{level}
use Rattle.token_codes.specs.Codes.{class_of}
use Rattle.token_codes.specs.Leaves.{signed}
use Rattle.token_codes.proofs.Leaves.{Distinct, sign_reads, one_of_reads}
use Rattle.syntax_readers.specs.Levels.{shift_codes, shift_operator}
use Rattle.syntax_readers.specs.Expressions.{assign_codes, assignment_operator}
use Rattle.laws_expr.proofs.Open.{half_tokens}

-- the tokens behind the half, and the half
abbrev pub second_tokens : Operator → List Token
second_tokens (o.ShiftRight first second) = sign_at second s.Greater ∷ []
second_tokens (o.ShiftRightAssign first second) = sign_at second s.GreaterEqual ∷ []
second_tokens x = operator_tokens x

abbrev pub first_half : Operator → Option Place
first_half (o.ShiftRight first second) = Some first
first_half x = None

-- ---- the same reader, where trees that fit have these tokens too

unchanged : {T A : Type 0} (r : Outcome T A) → r ≡ and_then r (λ a rest. Ok (a, rest))
unchanged (Ok x) = refl
unchanged (Err x) = refl

pub respelled : {A : Type 0} {p : Reader Token A} {spell : A → List Token} {Fits : A → Type 0} {front : Front Token} {first : List ℕ} {next : A → List ℕ} → Laws class_of p spell Fits front first next false →
    (other : A → List Token) → ((a : A) → Fits a → other a ≡ spell a) → Laws class_of p other Fits front first next false
respelled {p = p} {next = next} P other said = reread (mapped_laws P (λ a. a) other next (λ a fits. (fits, said a fits, within_self (next a))) (λ a fits. (a, fits, refl))) (λ ts. unchanged (p ts))

-- ---- of shifts (16.26 Shift)

abbrev pub ShiftFits : Option Place → Operator → Type 0
ShiftFits None = (l.one_of (s.ShiftLeft ∷ [])).Fits
ShiftFits (Some first) = Made (o.ShiftRight first) Anything

abbrev pub shift_front : Option Place → Front Token
shift_front None = (l.one_of (s.ShiftLeft ∷ [])).front
shift_front (Some first) = (l.sign s.Greater).front

only_left : (x : Operator) → (l.one_of (s.ShiftLeft ∷ [])).Fits x → Made (λ place. o.Sign place s.ShiftLeft) Anything x
only_left x (inl fits) = fits
only_left x (inr none) = absurd none

left_begun : (ts : List Token) → (l.one_of (s.ShiftLeft ∷ [])).front ts → (l.sign s.ShiftLeft).front ts
left_begun ts (inl f) = f
left_begun ts (inr e) = inl e

pub shift_operator_laws : (h : Option Place) → Laws class_of (shift_operator h) second_tokens (ShiftFits h) (shift_front h) (shift_codes h) nowhere false
unfolding shift_operator signed
shift_operator_laws None = refront (refit (made_laws (sign_reads s.ShiftLeft) (λ place. o.Sign place s.ShiftLeft) second_tokens nowhere (λ place fits. refl) (λ place fits. within_self [])) (λ x fits. inl fits) only_left) (λ ts f. inl f) left_begun
shift_operator_laws (Some first) = made_laws (sign_reads s.Greater) (o.ShiftRight first) second_tokens nowhere (λ place fits. refl) (λ place fits. within_self [])

pub shift_said : (h : Option Place) (x : Operator) → ShiftFits h x → option_spelling half_tokens h ++ second_tokens x ≡ operator_tokens x
shift_said None x (inl (place, fits, is)) = subst (λ z. second_tokens z ≡ operator_tokens z) is refl
shift_said None x (inr none) = absurd none
shift_said (Some first) x (second, fits, is) = subst (λ z. half_tokens first ++ second_tokens z ≡ operator_tokens z) is refl

pub shift_out : (h : Option Place) (x : Operator) → ShiftFits h x → g.shifting.Fits x
shift_out None x fits = inl fits
shift_out (Some first) x (second, fits, is) = inr ((first, second), (tt, tt), is)

pub shift_of : (x : Operator) → g.shifting.Fits x → ShiftFits (first_half x) x
shift_of x (inl (inl (place, fits, is))) = subst (λ z. ShiftFits (first_half z) z) is (inl (place, fits, refl))
shift_of x (inl (inr none)) = absurd none
shift_of x (inr ((first, second), fits, is)) = subst (λ z. ShiftFits (first_half z) z) is (second, tt, refl)

pub shift_level : (x : Operator) → g.shifting.Fits x → level x ≡ 9
shift_level x (inl (inl (place, fits, is))) = ap level (sym is)
shift_level x (inl (inr none)) = absurd none
shift_level x (inr (places, fits, is)) = ap level (sym is)

-- ---- of assignments (16.19 Assignment)

abbrev pub AssignFits : Option Place → Operator → Type 0
AssignFits None = (l.one_of assignment_signs).Fits
AssignFits (Some first) = Made (o.ShiftRightAssign first) Anything

abbrev pub assign_front : Option Place → Front Token
assign_front None = (l.one_of assignment_signs).front
assign_front (Some first) = (l.sign s.GreaterEqual).front

pub one_of_said : (signs : List Sign) (x : Operator) → (l.one_of signs).Fits x → second_tokens x ≡ operator_tokens x
one_of_said [] x fits = absurd fits
one_of_said (y ∷ more) x (inl (place, fits, is)) = subst (λ z. second_tokens z ≡ operator_tokens z) is refl
one_of_said (y ∷ more) x (inr fits) = one_of_said more x fits

pub assign_out : (h : Option Place) (x : Operator) → AssignFits h x → g.assigning.Fits x
assign_out None x fits = inl fits
assign_out (Some first) x (second, at, is) = inr ((first, second), (tt, tt), is)

distinct_signs : Distinct assignment_signs
distinct_signs = (apart refl, (apart refl, (apart refl, (apart refl, (apart refl, (apart refl, (apart refl, (apart refl, (apart refl, (apart refl, (apart refl, tt)))))))))))

pub assign_operator_laws : (h : Option Place) → Laws class_of (assignment_operator h) second_tokens (AssignFits h) (assign_front h) (assign_codes h) nowhere false
unfolding assignment_operator
assign_operator_laws None = respelled (one_of_reads assignment_signs distinct_signs) second_tokens (λ x fits. one_of_said assignment_signs x fits)
assign_operator_laws (Some first) = made_laws (sign_reads s.GreaterEqual) (o.ShiftRightAssign first) second_tokens nowhere (λ place fits. refl) (λ place fits. within_self [])
