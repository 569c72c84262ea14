-- The laws of the readers of unary expressions (ECMA-408, 16.29 Unary Expressions), from those of their operands.
use Rattle.std.proofs.Common.{◌≡◌, ℕ, max, ◌≤◌, ◌<◌, Bool, true, List, [], ◌∷◌, ◌++◌, ◌⊎◌, inl, inr, refl, ap, arith, not, sym, subst, ◌||◌}
use Rattle.std.proofs.lemmas.Bool.{cases_lt}
use Rattle.dart_token.specs.declared.token.Token.{Token}
use Rattle.dart_token.specs.declared.sign.Sign.{Sign}
use Rattle.dart_token.specs.declared.sign.Sign.TheVariants as s
use Rattle.dart_token.specs.declared.word.Word.TheVariants as w
use Rattle.dart_tree.specs.declared.operator.Operator.{Operator}
use Rattle.dart_tree.specs.LeafTokens.{operator_tokens}
use Rattle.dart_tree.specs.Types.{TypeNode}
use Rattle.dart_tree.specs.Tree as t
use Rattle.dart_tree.specs.Tree.{Operand}
use Rattle.dart_tree.specs.Tokens.{operand_tokens}
use Rattle.grammar_laws.specs.Codes.{Within}
use Rattle.grammar_laws.specs.Readers.{Reader, always}
use Rattle.grammar_laws.specs.Fronts.{Front, Joint, Either, EitherFit, BothFit, Made}
use Rattle.grammar_laws.proofs.Codes.{apart, apart_none, or_left, or_right, within_then, within_union, within_left, within_right, or_false}
use Rattle.dart_syntax.specs.Leaves as l
use Rattle.dart_syntax.specs.Edges.{selects, binds_between, operand_takes, nowhere, opens_nothing, leaves}
use Rattle.token_codes.specs.Codes.{atoms, creations, word_code, these, sign_codes}
use Rattle.token_codes.proofs.Leaves.{Distinct, one_of_reads}
use Rattle.syntax_readers.specs.Combinators.{Open}
use Rattle.syntax_readers.specs.Primaries.{string_first}
use Rattle.syntax_readers.specs.Levels.{prefixed, negating, step_signs, whole, unary}
use Rattle.laws_expr.specs.Nexts.{Taking, nexts, taken, operand_alone, after_operand}
use Rattle.laws_expr.proofs.Open.{OpenLaws, prefix_laws, open_by_first_laws, Settled, prefix_settled, first_settled, second_settled}
use Rattle.laws_expr.proofs.Edges.{operand_moves, taken_moves}
use Rattle.laws_expr.proofs.Chain.{half_operand, half_moves}
use Rattle.laws_expr.proofs.Sets.{not_false}

-- what goes on with an operand behind its operator goes on with the two
tight : (next : ℕ) → (next ≡ 12) ⊎ ((next < 12) ⊎ (13 ≤ next))
tight next = elim (cases_lt next 12) [
  | inl lt ↦ inr (inl lt)
  | inr ge ↦ elim (cases_lt next 13) [
    | inl lt ↦ inl (omega (arith, lt, ge))
    | inr above ↦ inr (inr above)
  ]
]

prefix_takes : (o : Operator) (x : Operand) (next : ℕ) (opens : TypeNode → Bool) → operand_takes next opens 12 x ≡ true → operand_takes next opens 12 (t.prefix o x) ≡ true
unfolding operand_takes
prefix_takes o x next opens h = elim (tight next) [
  | inl e ↦ or_left (binds_between next opens 12 selects) (operand_takes next opens (max 12 selects) x) (ap (λ (m : ℕ). binds_between m opens 12 selects) e)
  | inr m ↦ or_right (binds_between next opens 12 selects) (operand_takes next opens (max 12 selects) x) (operand_moves next opens x 12 13 (inr m) h)
]

prefix_on : (o : Operator) (x : Operand) → Within (after_operand 12 x) (after_operand 12 (t.prefix o x))
unfolding operand_alone
prefix_on o x =
    let takes : Taking = λ next opens. operand_takes next opens 12 (t.prefix o x) in
    within_union (within_then (taken_moves nexts (λ next opens. operand_takes next opens 12 x) takes (prefix_takes o x)) (within_left (taken takes) (operand_alone x))) (within_right (taken takes) (operand_alone x))

prefix_on_half : (o : Operator) (x : Operand) → Within (half_operand 12 x) (half_operand 12 (t.prefix o x))
unfolding operand_alone
prefix_on_half o x = half_moves (λ next opens. operand_takes next opens 12 x) (λ next opens. operand_takes next opens 12 (t.prefix o x)) (operand_alone x) (prefix_takes o x)

-- what a unary expression leaves its operand leaves
operand_leaves : (next : ℕ) (o : Operator) (x : Operand) → leaves next (t.prefix o x) ≡ true → leaves next x ≡ true
unfolding operand_takes
operand_leaves next o x left = ap not (or_false (binds_between next opens_nothing nowhere selects) (operand_takes next opens_nothing nowhere x) (not_false (binds_between next opens_nothing nowhere selects || operand_takes next opens_nothing nowhere x) left)).1

module _ (signs : List Sign) (distinct : Distinct signs) {operand : Reader Token (Open Operand)} {F : Operand → Type 0} {front : Front Token} {first : List ℕ} (P : OpenLaws operand operand_tokens F front first (after_operand 12) (half_operand 12)) where
  abbrev Prefixed : Operand → Type 0
  Prefixed = Made (λ (x : Operator × Operand). t.prefix x.0 x.1) (BothFit (l.one_of signs).Fits F)

  abbrev prefixed_front : Front Token
  prefixed_front = Joint operator_tokens (l.one_of signs).Fits always (l.one_of signs).front front

  -- an operator of one sign before an operand
  pub prefixed_laws : OpenLaws (prefixed signs operand) operand_tokens Prefixed prefixed_front (sign_codes signs) (after_operand 12) (half_operand 12)
  unfolding prefixed operand_tokens
  prefixed_laws = prefix_laws (one_of_reads signs distinct) P (λ o fits. apart_none first) t.prefix operand_tokens (after_operand 12) (half_operand 12) (λ o x at fits. refl) (λ o x at fits. prefix_on o x) (λ o x at fits. prefix_on_half o x)

  -- a `>` behind it is given as a half, or stopped before, as behind the operand
  pub prefixed_settled : (o : Operator) (x : Operand) → (l.one_of signs).Fits o → F x → Settled P x → Settled prefixed_laws (t.prefix o x)
  unfolding prefixed operand_tokens prefixed_laws
  prefixed_settled o x at fits settled = prefix_settled (one_of_reads signs distinct) P (λ o fits. apart_none first) t.prefix operand_tokens (after_operand 12) (half_operand 12) (λ o x at fits. refl) (λ o x at fits. prefix_on o x) (λ o x at fits. prefix_on_half o x) o x at fits settled

  pub kind_settled : (next : ℕ) → ((x : Operand) → F x → leaves next x ≡ true → Settled P x) → (x : Operand) → Prefixed x → leaves next x ≡ true → Settled prefixed_laws x
  kind_settled next known x ((o, y), (at, fits), e) left = subst (Settled prefixed_laws) e (prefixed_settled o y at fits (known y fits (operand_leaves next o y (subst (λ z. leaves next z ≡ true) (sym e) left))))

-- what begins a postfix expression
abbrev pub primary_first : List ℕ
primary_first = atoms ++ string_first ++ word_code w.Super ∷ creations ++ sign_codes (s.LeftParenthesis ∷ s.LeftBracket ∷ s.LeftBrace ∷ s.Less ∷ [])

-- of operands one node less deep: those of the row with `super` alone, those without, and targets
module _ {postfix lower target : Reader Token (Open Operand)} {P L W T : Operand → Type 0} {pfront lfront wfront tfront : Front Token} {first_l first_w first_t : List ℕ}
    (Postfix : OpenLaws postfix operand_tokens P pfront primary_first (after_operand 12) (half_operand 12))
    (Lower : OpenLaws lower operand_tokens L lfront first_l (after_operand 12) (half_operand 12))
    (Target : OpenLaws target operand_tokens T tfront first_t (after_operand 12) (half_operand 12))
    (Whole : OpenLaws (whole lower) operand_tokens W wfront first_w (after_operand 12) (half_operand 12)) where
  pub unary_laws : OpenLaws (unary postfix lower target) operand_tokens
      (EitherFit (Prefixed negating (apart refl, (apart refl, tt)) Lower) (EitherFit (Prefixed (s.Bang ∷ []) (apart refl, tt) Whole) (EitherFit (Prefixed step_signs (apart refl, (apart refl, tt)) Target) P)))
      (Either (prefixed_front negating (apart refl, (apart refl, tt)) Lower) (Either (prefixed_front (s.Bang ∷ []) (apart refl, tt) Whole) (Either (prefixed_front step_signs (apart refl, (apart refl, tt)) Target) pfront)))
      (sign_codes negating ++ (these s.Bang ++ (sign_codes step_signs ++ primary_first))) (after_operand 12) (half_operand 12)
  unfolding unary
  unary_laws = open_by_first_laws (prefixed_laws negating (apart refl, (apart refl, tt)) Lower) (open_by_first_laws (prefixed_laws (s.Bang ∷ []) (apart refl, tt) Whole)
      (open_by_first_laws (prefixed_laws step_signs (apart refl, (apart refl, tt)) Target) Postfix (apart refl)) (apart refl)) (apart refl)

  pub unary_settled : (next : ℕ) → ((x : Operand) → L x → leaves next x ≡ true → Settled Lower x) → ((x : Operand) → W x → leaves next x ≡ true → Settled Whole x) → ((x : Operand) → T x → leaves next x ≡ true → Settled Target x) → ((x : Operand) → P x → leaves next x ≡ true → Settled Postfix x) →
      (x : Operand) → EitherFit (Prefixed negating (apart refl, (apart refl, tt)) Lower) (EitherFit (Prefixed (s.Bang ∷ []) (apart refl, tt) Whole) (EitherFit (Prefixed step_signs (apart refl, (apart refl, tt)) Target) P)) x → leaves next x ≡ true → Settled unary_laws x
  unfolding unary unary_laws
  unary_settled next low plain named known x (inl fits) left =
      let steps = prefixed_laws step_signs (apart refl, (apart refl, tt)) Target in
      let bangs = prefixed_laws (s.Bang ∷ []) (apart refl, tt) Whole in
      let signs = prefixed_laws negating (apart refl, (apart refl, tt)) Lower in
      let last = open_by_first_laws steps Postfix (apart refl) in
      let rest = open_by_first_laws bangs last (apart refl) in
      first_settled signs rest (apart refl) x fits (kind_settled negating (apart refl, (apart refl, tt)) Lower next low x fits left)
  unary_settled next low plain named known x (inr (inl fits)) left =
      let steps = prefixed_laws step_signs (apart refl, (apart refl, tt)) Target in
      let bangs = prefixed_laws (s.Bang ∷ []) (apart refl, tt) Whole in
      let signs = prefixed_laws negating (apart refl, (apart refl, tt)) Lower in
      let last = open_by_first_laws steps Postfix (apart refl) in
      let rest = open_by_first_laws bangs last (apart refl) in
      second_settled signs rest (apart refl) x (inl fits) (first_settled bangs last (apart refl) x fits (kind_settled (s.Bang ∷ []) (apart refl, tt) Whole next plain x fits left))
  unary_settled next low plain named known x (inr (inr (inl fits))) left =
      let steps = prefixed_laws step_signs (apart refl, (apart refl, tt)) Target in
      let bangs = prefixed_laws (s.Bang ∷ []) (apart refl, tt) Whole in
      let signs = prefixed_laws negating (apart refl, (apart refl, tt)) Lower in
      let last = open_by_first_laws steps Postfix (apart refl) in
      let rest = open_by_first_laws bangs last (apart refl) in
      second_settled signs rest (apart refl) x (inr (inl fits)) (second_settled bangs last (apart refl) x (inl fits) (first_settled steps Postfix (apart refl) x fits (kind_settled step_signs (apart refl, (apart refl, tt)) Target next named x fits left)))
  unary_settled next low plain named known x (inr (inr (inr fits))) left =
      let steps = prefixed_laws step_signs (apart refl, (apart refl, tt)) Target in
      let bangs = prefixed_laws (s.Bang ∷ []) (apart refl, tt) Whole in
      let signs = prefixed_laws negating (apart refl, (apart refl, tt)) Lower in
      let last = open_by_first_laws steps Postfix (apart refl) in
      let rest = open_by_first_laws bangs last (apart refl) in
      second_settled signs rest (apart refl) x (inr (inr fits)) (second_settled bangs last (apart refl) x (inr fits) (second_settled steps Postfix (apart refl) x fits (known x fits left)))
