-- Lists by the brackets that are open behind their tokens.
use Rattle.std.proofs.Common.{◌≡◌, ℕ, zero, suc, ◌+◌, ◌-◌, ◌≤◌, arith, Bool, true, false, if◌then◌else◌, List, [], ◌∷◌, ◌++◌, length, Option, None, Some, refl, sym, ap, ap₂, ◌∙◌, append_assoc}
use Rattle.std.proofs.lemmas.List.{append-nil, length-append}
use Rattle.dart_base.specs.declared.place.Place.{Place}
use Rattle.dart_token.specs.declared.token.Token.{Token}
use Rattle.dart_token.specs.declared.sign.Sign.TheVariants as s
use Rattle.dart_tree.specs.LeafTokens.{sign_at}
use Rattle.grammar_laws.specs.Codes.{has}
use Rattle.grammar_laws.specs.Readers.{starts}
use Rattle.grammar_laws.proofs.Codes.{inside}
use Rattle.grammar_laws.proofs.Cuts.{both_empty}
use Rattle.token_codes.specs.Codes.{class_of, these}
use Rattle.syntax_readers.specs.Combinators.{opening, closing, open_behind, behind_open, behind_brackets}
use Rattle.syntax_measures.proofs.BracketKinds.{braces}
use Rattle.laws_expr.proofs.Enclosed.{Even, right_step}
use Rattle.laws_unit.specs.Mending.{is_free, or_here, last_brace}

-- ---- one token

abbrev by_tests : ℕ → Bool → Bool → ℕ
by_tests n opens closes = if opens then n + 1 else if closes then n - 1 else n

pub opened : (n code : ℕ) → has opening code ≡ true → open_behind n code ≡ suc n
opened n code h = let step : n + 1 ≡ suc n = omega arith in ap (λ (b : Bool). by_tests n b (has closing code)) h ∙ step

shut : (n code : ℕ) → has opening code ≡ false → has closing code ≡ true → open_behind (suc n) code ≡ n
shut n code h k = let step : suc n - 1 ≡ n = omega arith in ap₂ (λ (a b : Bool). by_tests (suc n) a b) h k ∙ step

shut_none : (code : ℕ) → has opening code ≡ false → has closing code ≡ true → open_behind 0 code ≡ 0
shut_none code h k = let step : 0 - 1 ≡ 0 = omega arith in ap₂ (λ (a b : Bool). by_tests 0 a b) h k ∙ step

kept : (n code : ℕ) → has opening code ≡ false → has closing code ≡ false → open_behind n code ≡ n
kept n code h k = ap₂ (λ (a b : Bool). by_tests n a b) h k

-- from one bracket more than p on: none is open behind it, or one more than q
data Step (p code : ℕ) : Type 0 where
  ends : open_behind (suc p) code ≡ 0 → Step p code
  goes : (q : ℕ) → open_behind p code ≡ q → open_behind (suc p) code ≡ suc q → open_behind (suc (suc p)) code ≡ suc (suc q) → Step p code

step_by : (p code : ℕ) (a b : Bool) → has opening code ≡ a → has closing code ≡ b → Step p code
step_by p code true b h k = goes (suc p) (opened p code h) (opened (suc p) code h) (opened (suc (suc p)) code h)
step_by zero code false true h k = ends (shut 0 code h k)
step_by (suc p) code false true h k = goes p (shut p code h k) (shut (suc p) code h k) (shut (suc (suc p)) code h k)
step_by p code false false h k = goes p (kept p code h k) (kept (suc p) code h k) (kept (suc (suc p)) code h k)

step : (p code : ℕ) → Step p code
step p code = step_by p code (has opening code) (has closing code) refl refl

-- ---- lists

-- from p open brackets to j, and never fewer than none
abbrev pub Steps : ℕ → List Token → ℕ → Type 0
Steps p [] j = p ≡ j
Steps p (t ∷ l) j = (q : ℕ) × (open_behind p (class_of t) ≡ q) × (open_behind (suc p) (class_of t) ≡ suc q) × (open_behind (suc (suc p)) (class_of t) ≡ suc (suc q)) × Steps q l j

data Walks (p : ℕ) (l : List Token) : Type 0 where
  shuts : (z : List Token) → ((rest : List Token) → behind_open (suc p) (l ++ rest) ≡ z ++ rest) → Walks p l
  stays : (j : ℕ) → Steps p l j → Walks p l

walks : (p : ℕ) (l : List Token) → Walks p l
walks p [] = stays p refl
walks p (t ∷ l) = elim (step p (class_of t)) [
  | ends e ↦ shuts l (λ rest. ap (λ (n : ℕ). behind_open n (l ++ rest)) e)
  | goes q a b c ↦ elim (walks q l) [
    | shuts z f ↦ shuts z (λ rest. ap (λ (n : ℕ). behind_open n (l ++ rest)) b ∙ f rest)
    | stays j w ↦ stays j (q, a, b, c, w)
  ]
]

behind_steps : (p : ℕ) (l : List Token) (j : ℕ) (rest : List Token) → Steps p l j → behind_open (suc p) (l ++ rest) ≡ behind_open (suc j) rest
behind_steps p [] j rest e = ap (λ (n : ℕ). behind_open (suc n) rest) e
behind_steps p (t ∷ l) j rest (q, a, b, c, w) = ap (λ (n : ℕ). behind_open n (l ++ rest)) b ∙ behind_steps q l j rest w

behind_more : (p : ℕ) (l : List Token) (j : ℕ) (rest : List Token) → Steps p l j → behind_open (suc (suc p)) (l ++ rest) ≡ behind_open (suc (suc j)) rest
behind_more p [] j rest e = ap (λ (n : ℕ). behind_open (suc (suc n)) rest) e
behind_more p (t ∷ l) j rest (q, a, b, c, w) = ap (λ (n : ℕ). behind_open n (l ++ rest)) c ∙ behind_more q l j rest w

-- ---- how many are open is told by what closes them

nothing_left : (n : ℕ) → behind_open n [] ≡ []
nothing_left zero = refl
nothing_left (suc n) = refl

module _ (place : Place) where
  abbrev right : Token
  right = sign_at place s.RightBrace

  one_left : behind_open 1 (right ∷ right ∷ []) ≡ right ∷ []
  one_left = right_step braces place 0 (right ∷ [])

  none_left : (i : ℕ) → behind_open (suc (suc i)) (right ∷ right ∷ []) ≡ []
  none_left i = right_step braces place (suc i) (right ∷ []) ∙ right_step braces place i [] ∙ nothing_left i

  not_more : (i : ℕ) → ((rest : List Token) → behind_open (suc (suc i)) rest ≡ behind_open 1 rest) → ⊥
  not_more i same = let bad : [] ≡ right ∷ [] = sym (none_left i) ∙ same (right ∷ right ∷ []) ∙ one_left in absurd cc

  not_shut : (z : List Token) → z ++ right ∷ [] ≡ behind_open 1 (right ∷ []) → ⊥
  not_shut z e = let none : z ++ right ∷ [] ≡ [] = e ∙ right_step braces place 0 [] in let bad : right ∷ [] ≡ [] = (both_empty z (right ∷ []) none).1 in absurd cc

  only_one : (l : List Token) (j : ℕ) → Even l → Steps 0 l j → Steps 0 l 0
  only_one l zero even w = w
  only_one l (suc i) even w = absurd (not_more i (λ rest. sym (behind_steps 0 l (suc i) rest w) ∙ even 0 rest))

  steps_of : (l : List Token) → Even l → Steps 0 l 0
  steps_of l even = elim (walks 0 l) [
    | shuts z f ↦ absurd (not_shut z (sym (f (right ∷ [])) ∙ even 0 (right ∷ [])))
    | stays j w ↦ only_one l j even w
  ]

-- what closes all that it opens never has fewer open than before it
pub even_steps : (l : List Token) → Even l → Steps 0 l 0
even_steps [] even = refl
even_steps (t ∷ l) even = steps_of t.place (t ∷ l) even

-- and what begins with a brace closes it
pub even_closes : (m rest : List Token) → Even m → starts class_of (these s.LeftBrace) m ≡ true → behind_brackets (m ++ rest) ≡ behind_brackets m ++ rest
even_closes [] rest even h = absurd cc
even_closes (u ∷ l) rest even h = elim (walks 0 l) [
  | shuts z f ↦
      let own : behind_open 1 l ≡ z = ap (behind_open 1) (sym (append-nil l)) ∙ f [] ∙ append-nil z in
      f rest ∙ ap (λ (k : List Token). k ++ rest) (sym own)
  | stays j w ↦ absurd (not_more u.place j (λ more. sym (behind_more 0 l j more w) ∙ sym (ap (λ (n : ℕ). behind_open n (l ++ more)) (opened 1 (class_of u) ((inside {xs = these s.LeftBrace} {ys = opening} refl).in_second (class_of u) h))) ∙ even 0 more))
]

pub even_rest : (x m y : List Token) → Even x → Even y → y ≡ x ++ m → Even m
even_rest x m y even_x even_y e k rest = sym (even_x k (m ++ rest)) ∙ ap (behind_open (suc k)) (sym (append_assoc x m rest) ∙ ap (λ (z : List Token). z ++ rest) (sym e)) ∙ even_y k rest

-- ---- the last brace outside all brackets

pub last_steps : (p : ℕ) (l : List Token) (j : ℕ) → Steps p l j → (w : List Token) (k i n o : ℕ) → last_brace j k w ≡ Some i → n ≡ length l + k → o ≡ length l + i → last_brace p n (l ++ w) ≡ Some o
last_steps p [] j e w k i n o h count at =
    let n_is : n ≡ k = omega (arith, count) in
    let o_is : o ≡ i = omega (arith, at) in
    ap₂ (λ (a b : ℕ). last_brace a b w) e n_is ∙ h ∙ ap (λ (z : ℕ). Some z) (sym o_is)
last_steps p (t ∷ l) j v w k i zero o h count at = absurd (omega (arith, count))
last_steps p (t ∷ l) j v w k i (suc n) zero h count at = absurd (omega (arith, at))
last_steps p (t ∷ l) j (q, a, b, c, v) w k i (suc n) (suc o) h count at =
    ap (λ (z : Option ℕ). or_here z (is_free p t)) (ap (λ (d : ℕ). last_brace d n (l ++ w)) a ∙ last_steps q l j v w k i n o h (omega (arith, count)) (omega (arith, at)))

none_at : (l rest : List Token) (k d : ℕ) → ((p : ℕ) → behind_open (suc p) l ≡ [] → k ≤ length l → last_brace (suc p) k (l ++ rest) ≡ None) → behind_open d l ≡ [] → k ≤ length l → last_brace d k (l ++ rest) ≡ None
none_at l rest zero zero more e le = refl
none_at [] rest (suc k) zero more e le = absurd (omega (arith, le))
none_at (t ∷ l) rest (suc k) zero more e le = absurd cc
none_at l rest k (suc p) more e le = more p e le

-- within what has not closed its bracket there is none
pub none_inside : (l rest : List Token) (k p : ℕ) → behind_open (suc p) l ≡ [] → k ≤ length l → last_brace (suc p) k (l ++ rest) ≡ None
none_inside l rest zero p e le = refl
none_inside [] rest (suc k) p e le = absurd (omega (arith, le))
none_inside (t ∷ l) rest (suc k) p e le = ap (λ (z : Option ℕ). or_here z false) (none_at l rest k (open_behind (suc p) (class_of t)) (λ q h few. none_inside l rest k q h few) e (omega (arith, le)))

-- nor with one token more that is no brace
one_more_none : (rest : List Token) → starts class_of (these s.LeftBrace) rest ≡ false → last_brace 0 1 rest ≡ None
one_more_none [] off = refl
one_more_none (v ∷ rest) off = ap (or_here None) off

nothing_before : (l rest : List Token) → l ++ rest ≡ rest → l ≡ []
nothing_before [] rest e = refl
nothing_before (t ∷ l) rest e = absurd (omega (arith, ap length e, length-append (t ∷ l) rest))

behind_at : (l rest : List Token) (d : ℕ) → ((p : ℕ) → behind_open (suc p) (l ++ rest) ≡ rest → last_brace (suc p) (suc (length l)) (l ++ rest) ≡ None) → behind_open d (l ++ rest) ≡ rest → starts class_of (these s.LeftBrace) rest ≡ false → last_brace d (suc (length l)) (l ++ rest) ≡ None
behind_at l rest zero more e off = ap (λ (z : List Token). last_brace 0 (suc (length z)) (z ++ rest)) (nothing_before l rest e) ∙ one_more_none rest off
behind_at l rest (suc p) more e off = more p e

pub none_behind : (l rest : List Token) (p : ℕ) → behind_open (suc p) (l ++ rest) ≡ rest → starts class_of (these s.LeftBrace) rest ≡ false → last_brace (suc p) (suc (length l)) (l ++ rest) ≡ None
none_behind [] [] p e off = refl
none_behind [] (v ∷ rest) p e off = refl
none_behind (t ∷ l) rest p e off = ap (λ (z : Option ℕ). or_here z false) (behind_at l rest (open_behind (suc p) (class_of t)) (λ q h. none_behind l rest q h off) e off)
