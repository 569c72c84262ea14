-- The law of a row of which one operator may stand behind an operand (ECMA-408, 16.23 Equality).
use Rattle.std.proofs.Common.{◌≡◌, ℕ, suc, max, ◌<◌, Bool, true, false, not, List, ◌∷◌, ◌++◌, None, Some, Ok, ◌⊎◌, inl, inr, refl, ap, ◌∙◌, append_assoc, arith}
use Rattle.std.proofs.lemmas.List.{append-nil}
use Rattle.dart_base.specs.declared.place.Place.{Place}
use Rattle.dart_token.specs.declared.token.Token.{Token}
use Rattle.dart_token.specs.declared.sign.Sign.{Sign}
use Rattle.dart_token.specs.declared.sign.Sign.TheVariants as s
use Rattle.dart_tree.specs.declared.operator.Operator.{Operator}
use Rattle.dart_tree.specs.LeafTokens.{operator_tokens}
use Rattle.dart_tree.specs.Depth.{operand_height}
use Rattle.dart_tree.specs.Types.{TypeNode}
use Rattle.dart_tree.specs.Tree as t
use Rattle.dart_tree.specs.Tree.{Expr, Operand}
use Rattle.dart_tree.specs.Tokens.{expr_tokens, operand_tokens}
use Rattle.dart_tree.specs.LeafTokens.{sign_at}
use Rattle.grammar_laws.specs.Codes.{has, Within, nowhere, disjoint, within}
use Rattle.grammar_laws.specs.Readers.{Reader, always}
use Rattle.grammar_laws.specs.Fronts.{Front, Joint, Either, EitherFit, BothFit, GoesOn, GoodFit, Made, both_spelling}
use Rattle.grammar_laws.specs.Laws.{Laws}
use Rattle.grammar_laws.proofs.Codes.{apart, apart_none, apart_smaller, not_true, or_right, within_then, within_union, within_left, within_right}
use Rattle.grammar_laws.specs.Halves.{strict}
use Rattle.grammar_laws.proofs.Joints.{begins}
use Rattle.grammar_laws.proofs.Tried.{stops_nowhere}
use Rattle.grammar_laws.proofs.Combined.{both_laws}
use Rattle.dart_syntax.specs.Phrases.{Anything}
use Rattle.dart_syntax.specs.Leaves.{sign_tokens}
use Rattle.dart_syntax.specs.Leaves as l
use Rattle.dart_syntax.specs.Edges.{binds_between, opens_nothing, question, operand_takes, tails_take, expr_takes, leaves}
use Rattle.dart_syntax.specs.Levels.{level}
use Rattle.token_codes.specs.Codes.{class_of, sign_code, these, sign_codes}
use Rattle.token_codes.specs.Leaves.{sign, one_of}
use Rattle.token_codes.proofs.Leaves.{sign_reads}
use Rattle.syntax_readers.specs.Combinators.{◌~◌, Open, with_half}
use Rattle.syntax_readers.specs.Primaries.{expr_first}
use Rattle.syntax_readers.specs.Levels.{Item, is_bare, joined_once, joined_conditional, whole, once, conditional}
use Rattle.laws_expr.specs.Nexts.{Taking, nexts, taken, operand_alone, expr_alone, after_operand, after_without}
use Rattle.laws_expr.proofs.Behind.{alone, under_without}
use Rattle.laws_expr.proofs.Open.{OpenLaws, Settled, stops_first, checked_settled, open_spelling, after_open, open_checked_laws, open_strict_laws, tree_fits}
use Rattle.laws_expr.proofs.Edges.{at, codes_at, others_apart, within_at, taken_moves}
use Rattle.laws_expr.proofs.Chain.{half_of, half_operand, half_moves, looser, looser_half, left_apart, last_takes}
use Rattle.laws_expr.proofs.Joined.{joined_laws, first_settled, part_settled}

abbrev item_spell : Item → List Token
item_spell = both_spelling operator_tokens (open_spelling operand_tokens)

abbrev item_drop : Item → Operator × Operand
item_drop x = (x.0, x.1.0)

abbrev item_keep : Operator × Operand → Item
item_keep x = (x.0, (x.1, None))

abbrev item_node : Operand → Operator × Operand → Operand
item_node x p = t.binary x (t.tail p.0 p.1 t.no_tails)

abbrev item_join : Operand → Item → Open Operand
item_join x i = with_half (λ z. t.binary x (t.tail i.0 z t.no_tails)) i.1

item_said : (x : Operand) (i : Item) → open_spelling operand_tokens (item_join x i) ≡ operand_tokens x ++ item_spell i
unfolding operand_tokens
item_said x (o, (y, h)) = simp (append_assoc, append-nil)

item_on : (loose : ℕ) (x : Operand) (i : Item) → level i.0 ≡ loose → Within (after_open (after_operand (suc loose)) (half_operand (suc loose)) i.1) (after_open (after_operand loose) (half_operand loose) (item_join x i))
unfolding operand_takes operand_alone
item_on loose x (o, (y, None)) e =
    let takes : Taking = λ next opens. tails_take next opens loose (t.tail o y t.no_tails) in
    within_union (within_then (taken_moves nexts (λ next opens. operand_takes next opens (suc loose) y) takes (last_takes loose o y e)) (within_left (taken takes) (operand_alone y))) (within_right (taken takes) (operand_alone y))
item_on loose x (o, (y, Some greater)) e = half_moves (λ next opens. operand_takes next opens (suc loose) y) (λ next opens. tails_take next opens loose (t.tail o y t.no_tails)) (operand_alone y) (last_takes loose o y e)

module _ (loose : ℕ) (n : ℕ) (signs : List Sign) (row : ℕ)
    (others : others_apart row nexts (sign_codes signs) ≡ true) (own : within (sign_codes signs) (codes_at row nexts) ≡ true) (here_row : (takes : Taking) → at row nexts takes ≡ takes loose opens_nothing)
    (apart_alone : disjoint alone (sign_codes signs) ≡ true)
    {Of : Operator → Type 0} {ofront : Front Token} (O : Laws class_of (one_of signs) operator_tokens Of ofront (sign_codes signs) nowhere false) (leveled : (o : Operator) → Of o → level o ≡ loose)
    {here : Reader Token (Open Operand)} {F : Operand → Type 0} {front : Front Token} {first : List ℕ} (H : OpenLaws here operand_tokens F front first (after_operand (suc loose)) (half_operand (suc loose)))
    (lower : Reader Token (Open Operand)) {U : Operand → Type 0} {ufront : Front Token} {ufirst : List ℕ} (L : OpenLaws (whole lower) operand_tokens U ufront ufirst (after_operand (suc loose)) (half_operand (suc loose)))
    {D : Operand → Type 0} {dfront : Front Token}
    (down : (x : Operand) → F x → operand_height x < n → D x) (up : (x : Operand) → D x → F x × (operand_height x < n)) (rise : (ts : List Token) → dfront ts → front ts)
    (rises : (x : Operand) → F x → operand_takes loose opens_nothing loose x ≡ true) where
  own_codes : (x : Operand) → F x → Within (sign_codes signs) (after_operand loose x)
  own_codes x fits = within_then (within_at row nexts (sign_codes signs) (λ next opens. operand_takes next opens loose x) own (here_row (λ next opens. operand_takes next opens loose x) ∙ rises x fits)) (within_left (taken (λ next opens. operand_takes next opens loose x)) (operand_alone x))

  abbrev Node : Operand → Type 0
  Node = Made (λ (x : Operand × (Operator × Operand)). item_node x.0 x.1) (BothFit (GoesOn D (leaves loose)) (BothFit Of U))

  abbrev NodeFront : Front Token
  NodeFront = Joint operand_tokens D (leaves loose) dfront (Joint operator_tokens Of always ofront ufront)

  pub once_laws : OpenLaws (once loose n signs here lower) operand_tokens (GoodFit (EitherFit F Node) (λ x. not (is_bare x))) (Either front NodeFront) first (after_operand loose) (half_operand loose)
  unfolding once whole
  once_laws = open_checked_laws (joined_laws loose n (sign_codes signs) H (both_laws O L.laws (λ o fits. apart_none ufirst)) down up rise
      (λ x fits left. left_apart loose (suc loose) row (sign_codes signs) x (omega arith) others here_row apart_alone left)
      (BothFit Of U) item_node item_join item_drop item_keep (λ x p. refl) (λ x b. refl) (λ b fits. (fits.0, tree_fits L b.1 fits.1)) (λ p fits. (fits.0, L.none_in p.1 fits.1))
      (λ x b fits. item_said x b) (after_operand loose) (half_operand loose) (λ x fits. looser (suc loose) loose x (omega arith)) (λ x fits. looser_half (suc loose) loose x (omega arith)) own_codes
      (λ x b fits. item_on loose x b (leveled b.0 fits.0)) joined_once (λ x. refl) (λ x b. refl)) (λ x. not (is_bare x))

  -- ---- a `>` behind it is given as a half, or stopped before, as behind the last operand

  no_greater : has (sign_codes signs) (sign_code s.Greater) ≡ false
  no_greater = not_true (has (sign_codes signs) (sign_code s.Greater)) (λ h. (apart {xs = alone} {ys = sign_codes signs} apart_alone).never_both (sign_code s.Greater) refl h)

  pub once_operand_settled : (x : Operand) → F x → is_bare x ≡ false → Settled H x → Settled once_laws x
  unfolding once whole once_laws
  once_operand_settled x fits plain settled = checked_settled (joined_laws loose n (sign_codes signs) H (both_laws O L.laws (λ o fits. apart_none ufirst)) down up rise
      (λ x fits left. left_apart loose (suc loose) row (sign_codes signs) x (omega arith) others here_row apart_alone left)
      (BothFit Of U) item_node item_join item_drop item_keep (λ x p. refl) (λ x b. refl) (λ b fits. (fits.0, tree_fits L b.1 fits.1)) (λ p fits. (fits.0, L.none_in p.1 fits.1))
      (λ x b fits. item_said x b) (after_operand loose) (half_operand loose) (λ x fits. looser (suc loose) loose x (omega arith)) (λ x fits. looser_half (suc loose) loose x (omega arith)) own_codes
      (λ x b fits. item_on loose x b (leveled b.0 fits.0)) joined_once (λ x. refl) (λ x b. refl)) (λ x. not (is_bare x)) x (ap not plain)
      (first_settled loose n (sign_codes signs) H (both_laws O L.laws (λ o fits. apart_none ufirst)) down up rise
      (λ x fits left. left_apart loose (suc loose) row (sign_codes signs) x (omega arith) others here_row apart_alone left)
      (BothFit Of U) item_node item_join item_drop item_keep (λ x p. refl) (λ x b. refl) (λ b fits. (fits.0, tree_fits L b.1 fits.1)) (λ p fits. (fits.0, L.none_in p.1 fits.1))
      (λ x b fits. item_said x b) (after_operand loose) (half_operand loose) (λ x fits. looser (suc loose) loose x (omega arith)) (λ x fits. looser_half (suc loose) loose x (omega arith)) own_codes
      (λ x b fits. item_on loose x b (leveled b.0 fits.0)) joined_once (λ x. refl) (λ x b. refl) no_greater x fits settled)

  item_settled : (x : Operand) (o : Operator) (y : Operand) → Of o → U y → Settled L y →
      ((g : Place) → (c : Item) × BothFit Of L.Fits c × (item_join x c ≡ ((item_join x (o, (y, None))).0, Some g))) ⊎ ((g : Place) (ts : List Token) → (one_of signs ~ whole lower) (item_spell (o, (y, None)) ++ sign_at g s.Greater ∷ ts) ≡ Ok ((o, (y, None)), sign_at g s.Greater ∷ ts))
  item_settled x o y known fits (inl half) = inl (λ g. ((o, (y, Some g)), (known, half g), refl))
  item_settled x o y known fits (inr stays) = inr (λ g ts.
      ap (one_of signs ~ whole lower) (append_assoc (operator_tokens o) (open_spelling operand_tokens (y, None)) (sign_at g s.Greater ∷ ts))
      ∙ rw (O.complete o (open_spelling operand_tokens (y, None) ++ sign_at g s.Greater ∷ ts) known (stops_nowhere class_of (open_spelling operand_tokens (y, None) ++ sign_at g s.Greater ∷ ts)), stays g ts) refl)

  pub once_node_settled : (x : Operand) (o : Operator) (y : Operand) → D x → leaves loose x ≡ true → Of o → U y → Settled L y → Settled once_laws (t.binary x (t.tail o y t.no_tails))
  unfolding once whole once_laws
  once_node_settled x o y d on known fits settled = checked_settled (joined_laws loose n (sign_codes signs) H (both_laws O L.laws (λ o fits. apart_none ufirst)) down up rise
      (λ x fits left. left_apart loose (suc loose) row (sign_codes signs) x (omega arith) others here_row apart_alone left)
      (BothFit Of U) item_node item_join item_drop item_keep (λ x p. refl) (λ x b. refl) (λ b fits. (fits.0, tree_fits L b.1 fits.1)) (λ p fits. (fits.0, L.none_in p.1 fits.1))
      (λ x b fits. item_said x b) (after_operand loose) (half_operand loose) (λ x fits. looser (suc loose) loose x (omega arith)) (λ x fits. looser_half (suc loose) loose x (omega arith)) own_codes
      (λ x b fits. item_on loose x b (leveled b.0 fits.0)) joined_once (λ x. refl) (λ x b. refl)) (λ x. not (is_bare x)) (t.binary x (t.tail o y t.no_tails)) refl
      (part_settled loose n (sign_codes signs) H (both_laws O L.laws (λ o fits. apart_none ufirst)) down up rise
      (λ x fits left. left_apart loose (suc loose) row (sign_codes signs) x (omega arith) others here_row apart_alone left)
      (BothFit Of U) item_node item_join item_drop item_keep (λ x p. refl) (λ x b. refl) (λ b fits. (fits.0, tree_fits L b.1 fits.1)) (λ p fits. (fits.0, L.none_in p.1 fits.1))
      (λ x b fits. item_said x b) (after_operand loose) (half_operand loose) (λ x fits. looser (suc loose) loose x (omega arith)) (λ x fits. looser_half (suc loose) loose x (omega arith)) own_codes
      (λ x b fits. item_on loose x b (leveled b.0 fits.0)) joined_once (λ x. refl) (λ x b. refl) x (o, (y, None)) d on (known, L.none_in y fits) refl (item_settled x o y known fits settled))

-- ---- conditional expressions (16.20 Conditional)

abbrev pub half_without : Expr → List ℕ
half_without x = half_of (λ next opens. expr_takes next opens question x) (expr_alone x)

abbrev branch_node : Operand → Place × (Expr × (Place × Expr)) → Operand
branch_node x p = t.conditional x p.0 p.1.0 p.1.1.0 p.1.1.1

abbrev branch_join : Operand → Place × (Expr × (Place × Open Expr)) → Open Operand
branch_join x b = with_half (t.conditional x b.0 b.1.0 b.1.1.0) b.1.1.1

abbrev branch_drop : Place × (Expr × (Place × Open Expr)) → Place × (Expr × (Place × Expr))
branch_drop b = (b.0, (b.1.0, (b.1.1.0, b.1.1.1.0)))

abbrev branch_keep : Place × (Expr × (Place × Expr)) → Place × (Expr × (Place × Open Expr))
branch_keep p = (p.0, (p.1.0, (p.1.1.0, (p.1.1.1, None))))

abbrev branch_spell : Place × (Expr × (Place × Open Expr)) → List Token
branch_spell = both_spelling (sign_tokens s.Question) (both_spelling expr_tokens (both_spelling (sign_tokens s.Colon) (open_spelling expr_tokens)))

branch_said : (x : Operand) (b : Place × (Expr × (Place × Open Expr))) → open_spelling operand_tokens (branch_join x b) ≡ operand_tokens x ++ branch_spell b
unfolding operand_tokens
branch_said x (mark, (first, (colon, (second, h)))) = simp append_assoc

branch_takes : (x : Operand) (mark : Place) (first : Expr) (colon : Place) (second : Expr) (next : ℕ) (opens : TypeNode → Bool) → expr_takes next opens question second ≡ true → operand_takes next opens question (t.conditional x mark first colon second) ≡ true
unfolding operand_takes
branch_takes x mark first colon second next opens h = or_right (binds_between next opens question question) (expr_takes next opens (max question question) second) h

branch_on : (x : Operand) (b : Place × (Expr × (Place × Open Expr))) → Within (after_open after_without half_without b.1.1.1) (after_open (after_operand question) (half_operand question) (branch_join x b))
unfolding operand_alone
branch_on x (mark, (first, (colon, (second, None)))) =
    let takes : Taking = λ next opens. operand_takes next opens question (t.conditional x mark first colon second) in
    within_union (within_then (taken_moves nexts (λ next opens. expr_takes next opens question second) takes (branch_takes x mark first colon second)) (within_left (taken takes) (expr_alone second))) (within_right (taken takes) (expr_alone second))
branch_on x (mark, (first, (colon, (second, Some greater)))) = half_moves (λ next opens. expr_takes next opens question second) (λ next opens. operand_takes next opens question (t.conditional x mark first colon second)) (expr_alone second) (branch_takes x mark first colon second)

module _ (n : ℕ) {without : Reader Token (Open Expr)} {E : Expr → Type 0} {efront : Front Token} (W : OpenLaws without expr_tokens E efront expr_first after_without half_without)
    {here : Reader Token (Open Operand)} {F : Operand → Type 0} {front : Front Token} {first : List ℕ} (H : OpenLaws here operand_tokens F front first (after_operand (suc question)) (half_operand (suc question)))
    {D : Operand → Type 0} {dfront : Front Token}
    (down : (x : Operand) → F x → operand_height x < n → D x) (up : (x : Operand) → D x → F x × (operand_height x < n)) (rise : (ts : List Token) → dfront ts → front ts)
    (rises : (x : Operand) → F x → operand_takes question opens_nothing question x ≡ true) where
  own_question : (x : Operand) → F x → Within (these s.Question) (after_operand question x)
  own_question x fits = within_then (within_at 1 nexts (these s.Question) (λ next opens. operand_takes next opens question x) refl (rises x fits)) (within_left (taken (λ next opens. operand_takes next opens question x)) (operand_alone x))

  abbrev BranchesFit : Place × (Expr × (Place × Expr)) → Type 0
  BranchesFit = BothFit Anything (BothFit E (BothFit Anything E))

  abbrev Choice : Operand → Type 0
  Choice = Made (λ (x : Operand × (Place × (Expr × (Place × Expr)))). branch_node x.0 x.1) (BothFit (GoesOn D (leaves question)) BranchesFit)

  abbrev ChoiceFront : Front Token
  ChoiceFront = Joint operand_tokens D (leaves question) dfront
      (Joint (sign_tokens s.Question) Anything always (l.sign s.Question).front (Joint expr_tokens E always efront (Joint (sign_tokens s.Colon) Anything always (l.sign s.Colon).front efront)))

  pub conditional_laws : OpenLaws (conditional n without here) operand_tokens (EitherFit F Choice) (Either front ChoiceFront) first (after_operand question) (half_operand question)
  unfolding conditional
  conditional_laws = joined_laws question n (these s.Question) H
      (both_laws (sign_reads s.Question) (both_laws (open_strict_laws W) (both_laws (sign_reads s.Colon) W.laws (λ place fits. apart_none expr_first)) (λ e fits. apart_smaller (under_without e) (apart refl))) (λ place fits. apart_none expr_first)) down up rise
      (λ x fits left. left_apart question (suc question) 1 (these s.Question) x (omega arith) refl (λ takes. refl) refl left)
      BranchesFit branch_node branch_join branch_drop branch_keep (λ x p. refl) (λ x b. refl) (λ b fits. (fits.0, (fits.1.0, (fits.1.1.0, tree_fits W b.1.1.1 fits.1.1.1)))) (λ p fits. (fits.0, (fits.1.0, (fits.1.1.0, W.none_in p.1.1.1 fits.1.1.1))))
      (λ x b fits. branch_said x b) (after_operand question) (half_operand question) (λ x fits. looser (suc question) question x (omega arith)) (λ x fits. looser_half (suc question) question x (omega arith)) own_question
      (λ x b fits. branch_on x b) joined_conditional (λ x. refl) (λ x b. refl)

  pub choice_operand_settled : (x : Operand) → F x → Settled H x → Settled conditional_laws x
  unfolding conditional conditional_laws
  choice_operand_settled x fits settled = first_settled question n (these s.Question) H
      (both_laws (sign_reads s.Question) (both_laws (open_strict_laws W) (both_laws (sign_reads s.Colon) W.laws (λ place fits. apart_none expr_first)) (λ e fits. apart_smaller (under_without e) (apart refl))) (λ place fits. apart_none expr_first)) down up rise
      (λ x fits left. left_apart question (suc question) 1 (these s.Question) x (omega arith) refl (λ takes. refl) refl left)
      BranchesFit branch_node branch_join branch_drop branch_keep (λ x p. refl) (λ x b. refl) (λ b fits. (fits.0, (fits.1.0, (fits.1.1.0, tree_fits W b.1.1.1 fits.1.1.1)))) (λ p fits. (fits.0, (fits.1.0, (fits.1.1.0, W.none_in p.1.1.1 fits.1.1.1))))
      (λ x b fits. branch_said x b) (after_operand question) (half_operand question) (λ x fits. looser (suc question) question x (omega arith)) (λ x fits. looser_half (suc question) question x (omega arith)) own_question
      (λ x b fits. branch_on x b) joined_conditional (λ x. refl) (λ x b. refl) refl x fits settled

  branches_settled : (x : Operand) (mark : Place) (first : Expr) (colon : Place) (second : Expr) → E first → E second → Settled W second →
      ((g : Place) → (c : Place × (Expr × (Place × Open Expr))) × BothFit Anything (BothFit E (BothFit Anything W.Fits)) c × (branch_join x c ≡ ((branch_join x (mark, (first, (colon, (second, None))))).0, Some g)))
      ⊎ ((g : Place) (ts : List Token) → (sign s.Question ~ strict without ~ sign s.Colon ~ without) (branch_spell (mark, (first, (colon, (second, None)))) ++ sign_at g s.Greater ∷ ts) ≡ Ok ((mark, (first, (colon, (second, None)))), sign_at g s.Greater ∷ ts))
  branches_settled x mark first colon second fits last (inl half) = inl (λ g. ((mark, (first, (colon, (second, Some g)))), (tt, (fits, (tt, half g))), refl))
  branches_settled x mark first colon second fits last (inr stays) = inr (λ g ts.
      let third : List Token = open_spelling expr_tokens (second, None) ++ sign_at g s.Greater ∷ ts in
      let rest : List Token = sign_tokens s.Colon colon ++ third in
      let grouped : branch_spell (mark, (first, (colon, (second, None)))) ++ sign_at g s.Greater ∷ ts ≡ sign_tokens s.Question mark ++ (expr_tokens first ++ rest) = simp append_assoc in
      ap (sign s.Question ~ strict without ~ sign s.Colon ~ without) grouped
      ∙ rw ((sign_reads s.Question).complete mark (expr_tokens first ++ rest) tt (stops_nowhere class_of (expr_tokens first ++ rest)), (open_strict_laws W).complete first rest fits (stops_first (after_without first) (these s.Colon) rest (apart_smaller (under_without first) (apart refl)) (begins (sign_reads s.Colon) colon third tt)), (sign_reads s.Colon).complete colon third tt (stops_nowhere class_of third), stays g ts) refl)

  pub choice_node_settled : (x : Operand) (mark : Place) (first : Expr) (colon : Place) (second : Expr) → D x → leaves question x ≡ true → E first → E second → Settled W second → Settled conditional_laws (t.conditional x mark first colon second)
  unfolding conditional conditional_laws
  choice_node_settled x mark first colon second d on fits last settled = part_settled question n (these s.Question) H
      (both_laws (sign_reads s.Question) (both_laws (open_strict_laws W) (both_laws (sign_reads s.Colon) W.laws (λ place fits. apart_none expr_first)) (λ e fits. apart_smaller (under_without e) (apart refl))) (λ place fits. apart_none expr_first)) down up rise
      (λ x fits left. left_apart question (suc question) 1 (these s.Question) x (omega arith) refl (λ takes. refl) refl left)
      BranchesFit branch_node branch_join branch_drop branch_keep (λ x p. refl) (λ x b. refl) (λ b fits. (fits.0, (fits.1.0, (fits.1.1.0, tree_fits W b.1.1.1 fits.1.1.1)))) (λ p fits. (fits.0, (fits.1.0, (fits.1.1.0, W.none_in p.1.1.1 fits.1.1.1))))
      (λ x b fits. branch_said x b) (after_operand question) (half_operand question) (λ x fits. looser (suc question) question x (omega arith)) (λ x fits. looser_half (suc question) question x (omega arith)) own_question
      (λ x b fits. branch_on x b) joined_conditional (λ x. refl) (λ x b. refl)
      x (mark, (first, (colon, (second, None)))) d on (tt, (fits, (tt, W.none_in second last))) refl (branches_settled x mark first colon second fits last settled)
