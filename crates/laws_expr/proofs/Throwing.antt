-- The laws of the readers of `throw`, and of expressions without cascade from those of conditional ones (ECMA-408, 16 Expressions).
use Rattle.std.proofs.Common.{◌≡◌, ℕ, Bool, true, false, List, ◌∷◌, ◌++◌, length, Option, None, Some, Ok, Err, inl, inr, refl, ap, sym, ◌∙◌, subst, append_assoc}
use Rattle.std.proofs.lemmas.List.{append-nil}
use Rattle.dart_base.specs.declared.place.Place.{Place}
use Rattle.dart_token.specs.declared.token.Token.{Token}
use Rattle.dart_token.specs.declared.sign.Sign.TheVariants as s
use Rattle.dart_token.specs.declared.word.Word.TheVariants as w
use Rattle.dart_tree.specs.declared.operator.Operator.{Operator}
use Rattle.dart_tree.specs.declared.expression.Atom.TheVariants as a
use Rattle.dart_tree.specs.LeafTokens.{sign_at, operator_tokens}
use Rattle.dart_tree.specs.Tree as t
use Rattle.dart_tree.specs.Tree.{Expr, Operand}
use Rattle.dart_tree.specs.Tokens.{expr_tokens, operand_tokens, cascades_tokens}
use Rattle.grammar_laws.specs.Codes.{has, Apart, Within, given, after_followed_by}
use Rattle.grammar_laws.specs.Readers.{Outcome, Reader, and_then, always, never, mapped, when, starts, continued_by}
use Rattle.grammar_laws.specs.Fronts.{Front, Joint, Either, EitherFit, BothFit, Made, option_spelling}
use Rattle.grammar_laws.specs.Laws.{Laws}
use Rattle.grammar_laws.proofs.Codes.{apart, apart_none, apart_union, apart_smaller, has_right, within_none, within_then, within_union, within_given, within_self, within_left, within_right}
use Rattle.grammar_laws.proofs.Restated.{made_laws, reread, refront}
use Rattle.dart_syntax.specs.Phrases.{Anything}
use Rattle.dart_syntax.specs.Leaves as l
use Rattle.dart_syntax.specs.Leaves.{word_tokens}
use Rattle.dart_syntax.specs.Edges.{question, compares, opens_nothing, expr_takes, operand_takes}
use Rattle.dart_syntax.specs.Levels.{sign_level}
use Rattle.dart_syntax.specs.Expressions as g
use Rattle.dart_syntax.specs.Expressions.{assignment_signs, selectors_assign, rows}
use Rattle.token_codes.specs.Codes.{class_of, sign_code, these, this_word, sign_codes}
use Rattle.token_codes.proofs.Leaves.{word_reads}
use Rattle.syntax_readers.specs.Combinators.{Open, with_half, halved}
use Rattle.syntax_readers.specs.Primaries.{ExprReaders, operand_first, expr_first}
use Rattle.syntax_readers.specs.Levels.{LevelReaders, assigns}
use Rattle.syntax_readers.specs.Expressions.{Assigned, Behind, assigned, an_expr, assign_codes, assignment, opened, throw, without_over}
use Rattle.laws_expr.specs.Nexts.{Taking, nexts, taken, assigning, stepping, expr_alone, operand_alone, after_expr, after_without, after_operand}
use Rattle.laws_expr.proofs.Open.{OpenLaws, Settled, open_spelling, half_tokens, after_open, bare, tree, no_some, prefix_laws, prefix_settled, open_by_first_laws, first_settled, second_settled, tree_fits}
use Rattle.laws_expr.proofs.Edges.{within_at, apart_all}
use Rattle.laws_expr.proofs.Chain.{half_of, half_operand}
use Rattle.laws_expr.proofs.Once.{half_without}
use Rattle.laws_expr.proofs.Functions.{half_expr}
use Rattle.laws_expr.proofs.Halved.{halved_laws, halved_settled}
use Rattle.laws_expr.proofs.Refined.{reads_half, half_read, sharp, sharp_stops, refined_open}
use Rattle.laws_expr.proofs.Assigning.{parts, same_parts, parts_spell, PartsFit, Said, parts_laws}
use Rattle.laws_expr.proofs.Sets.{given_more, given_misses, apart_when}
use Rattle.laws_expr.proofs.Divided.{AssignFits, second_tokens, one_of_said, assign_out}

-- ---- what goes on behind a target

target_alone : (x : Operand) → assigns x ≡ true → Within (operand_alone x) stepping
unfolding operand_alone
target_alone (t.primary (t.atom (a.Name name))) e = within_union (within_self stepping) (within_none stepping)
target_alone (t.primary (t.super_access word selector)) e = within_union (within_given _ (λ h. within_self stepping)) (within_none stepping)
target_alone (t.postfix x behind None) e = within_given (selectors_assign behind) (λ h. within_self stepping)
target_alone x e = absurd cc

target_takes : (x : Operand) → assigns x ≡ true → operand_takes compares opens_nothing question x ≡ true
unfolding operand_takes
target_takes (t.primary (t.atom (a.Name name))) e = refl
target_takes (t.primary (t.super_access word selector)) e = refl
target_takes (t.postfix x behind None) e = refl
target_takes x e = absurd cc

-- behind a target stand no other sign of an assignment and, behind its half, no rest of one
pub target_assign : (x : Operand) → assigns x ≡ true → Apart (after_operand question x ++ given (assigns x) (these s.Greater)) (sign_codes assignment_signs)
target_assign x on = apart_union (apart_union (apart_all nexts (sign_codes assignment_signs) (λ next opens. operand_takes next opens question x) refl) (apart_smaller (target_alone x on) (apart refl))) (apart_smaller (within_given (assigns x) (λ e. within_self (these s.Greater))) (apart refl))

pub target_equal : (x : Operand) → assigns x ≡ true → Apart (half_operand question x) (these s.GreaterEqual)
target_equal x on =
    let takes : Taking = λ next opens. operand_takes next opens question x in
    apart_union (apart_when (takes (sign_level s.ShiftLeft) opens_nothing) (λ e. apart refl)) (apart_union (apart_when (takes compares opens_nothing) (λ e. apart refl)) (off (has (operand_alone x) (sign_code s.Assign)) refl)) where
      off : (b : Bool) → has (operand_alone x) (sign_code s.Assign) ≡ b → Apart (given b (these s.GreaterEqual)) (these s.GreaterEqual)
      off false e = apart_none (these s.GreaterEqual)
      off true e = let bad : has stepping (sign_code s.Assign) ≡ true = (target_alone x on).in_second (sign_code s.Assign) e in absurd cc

-- ---- throw

module _ (inner : ExprReaders) {E : Expr → Type 0} {efront : Front Token} (X : OpenLaws inner.expr expr_tokens E efront expr_first after_expr half_expr) where
  abbrev pub Throwing : Expr → Type 0
  Throwing = Made (λ (x : Place × Expr). t.throw x.0 x.1) (BothFit Anything E)

  abbrev pub throwing_front : Front Token
  throwing_front = Joint (word_tokens w.Throw) Anything always (l.word w.Throw).front efront

  pub throw_laws : OpenLaws (throw inner) expr_tokens Throwing throwing_front (this_word w.Throw) after_without half_without
  unfolding throw expr_tokens expr_takes expr_alone
  throw_laws = prefix_laws (word_reads w.Throw) X (λ place fits. apart_none expr_first) t.throw expr_tokens after_without half_without (λ place x at fits. refl) (λ place x at fits. within_self (after_expr x)) (λ place x at fits. within_self (half_expr x))

  pub throw_settled : (word : Place) (e : Expr) → E e → Settled X e → Settled throw_laws (t.throw word e)
  unfolding throw throw_laws expr_tokens expr_takes expr_alone
  throw_settled word e fits settled = prefix_settled (word_reads w.Throw) X (λ place fits. apart_none expr_first) t.throw expr_tokens after_without half_without (λ place x at fits. refl) (λ place x at fits. within_self (after_expr x)) (λ place x at fits. within_self (half_expr x)) word e tt fits settled

-- ---- expressions without cascade

pub plain_list : (x : Operand) (m : List Token) → open_spelling expr_tokens (t.plain x t.no_cascades, None) ++ m ≡ open_spelling operand_tokens (x, None) ++ m
unfolding expr_tokens cascades_tokens
plain_list x m = simp append-nil

assign_of : (x : Operand) (op : Operator) (e : Open Expr) → Within (after_open after_without half_without e) (after_open after_without half_without (with_half (t.assign x op) e))
unfolding expr_takes expr_alone
assign_of x op (e, None) = within_self (after_without e)
assign_of x op (e, Some g) = within_self (half_without e)

pub plain_on : (x : Operand) → Within ((after_operand question x ++ given (assigns x) (these s.Greater)) ++ given (assigns x) (sign_codes assignment_signs)) (after_without (t.plain x t.no_cascades))
unfolding expr_takes expr_alone
plain_on x =
    let takes : Taking = λ next opens. operand_takes next opens question x in
    let own : List ℕ = given (assigns x) assigning ++ operand_alone x in
    within_union (within_union (within_union (within_left (taken takes) own) (within_then (within_right (given (assigns x) assigning) (operand_alone x)) (within_right (taken takes) own)))
    (within_given (assigns x) (λ e. within_then (within_at 6 nexts (these s.Greater) takes refl (target_takes x e)) (within_left (taken takes) own))))
    (within_then (within_left (given (assigns x) assigning) (operand_alone x)) (within_right (taken takes) own))

pub half_third : (takes : Taking) (b c : Bool) (xs ys : List ℕ) → (has xs (sign_code s.Assign) ≡ true → has ys (sign_code s.Assign) ≡ true) → Within (half_of takes xs) (half_of takes ys)
half_third takes b c xs ys on =
    let shifts : List ℕ = given (takes (sign_level s.ShiftLeft) opens_nothing) (these s.Greater) in
    let compared : List ℕ = given (takes compares opens_nothing) operand_first in
    within_union (within_left shifts (compared ++ given (has ys (sign_code s.Assign)) (these s.GreaterEqual)))
    (within_then (within_union (within_left compared (given (has ys (sign_code s.Assign)) (these s.GreaterEqual))) (within_then (given_more (has xs (sign_code s.Assign)) (has ys (sign_code s.Assign)) (these s.GreaterEqual) on) (within_right compared (given (has ys (sign_code s.Assign)) (these s.GreaterEqual))))) (within_right shifts (compared ++ given (has ys (sign_code s.Assign)) (these s.GreaterEqual))))

assigning_has : (b : Bool) (ys : List ℕ) → b ≡ true → has (given b assigning ++ ys) (sign_code s.Assign) ≡ true
assigning_has true ys e = refl
assigning_has false ys e = absurd cc

half_has : (takes : Taking) (xs : List ℕ) → has xs (sign_code s.Assign) ≡ true → Within (these s.GreaterEqual) (half_of takes xs)
half_has takes xs e =
    let shifts : List ℕ = given (takes (sign_level s.ShiftLeft) opens_nothing) (these s.Greater) in
    let compared : List ℕ = given (takes compares opens_nothing) operand_first in
    let own : List ℕ = given (has xs (sign_code s.Assign)) (these s.GreaterEqual) in
    within_then (given_more true (has xs (sign_code s.Assign)) (these s.GreaterEqual) (λ h. e)) (within_then (within_right compared own) (within_right shifts (compared ++ own)))

pub half_plain_on : (x : Operand) → Within (half_operand question x ++ given (assigns x) (these s.GreaterEqual)) (half_without (t.plain x t.no_cascades))
unfolding expr_takes expr_alone
half_plain_on x =
    let takes : Taking = λ next opens. operand_takes next opens question x in
    let own : List ℕ = given (assigns x) assigning ++ operand_alone x in
    within_union (half_third takes true true (operand_alone x) own (λ h. has_right (given (assigns x) assigning) (operand_alone x) (sign_code s.Assign) h))
    (within_given (assigns x) (λ e. half_has takes own (assigning_has (assigns x) (operand_alone x) e)))

module _ (inner : ExprReaders) (levels : LevelReaders) (nodes : g.ExprNodes)
    (W : OpenLaws inner.without expr_tokens nodes.without.Fits nodes.without.front expr_first after_without half_without)
    {R : Operand → Type 0} {rfront : Front Token} (Row : OpenLaws (levels.row (length rows)) operand_tokens R rfront operand_first (after_operand question) (half_operand question))
    (decide : (x : Operand) → R x → assigns x ≡ true → Settled Row x)
    {T : Operand → Type 0} {tfront : Front Token} (to_target : (x : Operand) → R x → assigns x ≡ true → T x) (of_target : (x : Operand) → T x → R x × (assigns x ≡ true)) (begun : (ts : List Token) → tfront ts → rfront ts) where
  abbrev row_half : OpenLaws (halved assigns (levels.row (length rows))) operand_tokens R (Joint operand_tokens R assigns rfront (l.sign s.Greater).front) operand_first (λ x. after_operand question x ++ given (assigns x) (these s.Greater)) (half_operand question)
  row_half = halved_laws Row assigns decide

  no_assign : (x : Operand) → R x → assigns x ≡ true → Apart (after_operand question x ++ given (assigns x) (these s.Greater)) (sign_codes assignment_signs)
  no_assign x fits on = target_assign x on

  no_equal : (x : Operand) → R x → assigns x ≡ true → Apart (half_operand question x) (these s.GreaterEqual)
  no_equal x fits on = target_equal x on

  halves : (x : Operand) (g : Place) → R x → assigns x ≡ true → row_half.Fits (x, Some g)
  halves x g fits on = inr (fits, on)

  abbrev reader : Reader Token (Open Operand × Option Assigned)
  reader = parts assigns row_half W no_assign no_equal

  abbrev Part : Open Operand × Option Assigned → Type 0
  Part = PartsFit assigns row_half W no_assign no_equal

  abbrev spelled : Open Operand × Option Assigned → List Token
  spelled = parts_spell assigns row_half W no_assign no_equal

  abbrev said_front : Front Token
  said_front = Said assigns row_half W no_assign no_equal

  abbrev after_half : Operand → List ℕ
  after_half x = after_operand question x ++ given (assigns x) (these s.Greater)

  abbrev after_part : Open Operand × Option Assigned → List ℕ
  after_part = after_followed_by (after_open after_half (half_operand question)) (λ (x : Open Operand). assigns x.0) (λ (x : Open Operand). assign_codes x.1) (λ x y. after_open after_without half_without y.1)

  part_laws : Laws class_of reader spelled Part said_front operand_first after_part false
  part_laws = parts_laws assigns row_half W no_assign no_equal halves

  -- ---- which trees

  abbrev Assigning : Expr → Type 0
  Assigning = Made (λ (x : Operand × (Operator × Expr)). t.assign x.0 x.1.0 x.1.1) (BothFit T (BothFit g.assigning.Fits nodes.without.Fits))

  abbrev Plain : Expr → Type 0
  Plain = Made (λ (x : Operand). t.plain x t.no_cascades) R

  abbrev Of : Expr → Type 0
  Of = EitherFit Assigning Plain

  abbrev make : Open Operand × Option Assigned → Open Expr
  make (x, None) = with_half (λ operand. t.plain operand t.no_cascades) x
  make (x, Some (operator, value)) = with_half (t.assign x.0 operator) value

  plain_of : (x : Open Operand) → row_half.Fits x → Of (t.plain x.0 t.no_cascades)
  plain_of x fits = inr (x.0, tree_fits row_half x fits, refl)

  value_of : (x : Open Operand) (operator : Operator) (e : Open Expr) → row_half.Fits x → assigns x.0 ≡ true → AssignFits x.1 operator → W.Fits e → Of (t.assign x.0 operator e.0)
  value_of x operator e fits on known value = inl ((x.0, (operator, e.0)), (to_target x.0 (tree_fits row_half x fits) on, (assign_out x.1 operator known, tree_fits W e value)), refl)

  none_in : (c : Expr) → Of c → Made make Part (c, None)
  none_in c (inr (x, fits, is)) = (((x, None), None), (row_half.none_in x fits, refl), ap bare is)
  none_in c (inl ((x, (operator, e)), (target, (inl known, value)), is)) = let w = of_target x target in (((x, None), Some (operator, (e, None))), (row_half.none_in x w.0, (w.1, (known, W.none_in e value))), ap bare is)
  none_in c (inl ((x, (operator, e)), (target, (inr ((first, second), there, made), value)), is)) =
      let k = of_target x target in (((x, Some first), Some (operator, (e, None))), (halves x first k.0 k.1, (k.1, ((second, tt, made), W.none_in e value))), ap bare is)

  none_out : (c : Expr) → Made make Part (c, None) → Of c
  none_out c (((x, None), None), fits, e) = subst Of (ap tree e) (plain_of (x, None) fits.0)
  none_out c (((x, Some g), None), fits, e) = no_some (t.plain x t.no_cascades, Some g) (c, None) e refl refl
  none_out c ((x, Some (operator, (v, None))), fits, e) = subst Of (ap tree e) (value_of x operator (v, None) fits.0 fits.1.0 fits.1.1.0 fits.1.1.1)
  none_out c ((x, Some (operator, (v, Some g))), fits, e) = no_some (t.assign x.0 operator v, Some g) (c, None) e refl refl

  some_out : (c : Expr) (g : Place) → Made make Part (c, Some g) → Of c
  some_out c g (((x, None), None), fits, e) = no_some (c, Some g) (t.plain x t.no_cascades, None) (sym e) refl refl
  some_out c g (((x, Some h), None), fits, e) = subst Of (ap tree e) (plain_of (x, Some h) fits.0)
  some_out c g ((x, Some (operator, (v, None))), fits, e) = no_some (c, Some g) (t.assign x.0 operator v, None) (sym e) refl refl
  some_out c g ((x, Some (operator, (v, Some h))), fits, e) = subst Of (ap tree e) (value_of x operator (v, Some h) fits.0 fits.1.0 fits.1.1.0 fits.1.1.1)

  made_said : (p : Open Operand × Option Assigned) → Part p → open_spelling expr_tokens (make p) ≡ spelled p
  unfolding expr_tokens
  made_said ((x, h), None) fits = simp (append_assoc, append-nil)
  made_said ((x, None), Some (operator, (e, h))) fits =
      let same : second_tokens operator ≡ operator_tokens operator = one_of_said assignment_signs operator fits.1.1.0 in
      append_assoc (operand_tokens x) (operator_tokens operator ++ expr_tokens e) (option_spelling half_tokens h) ∙ ap (λ (m : List Token). operand_tokens x ++ m) (append_assoc (operator_tokens operator) (expr_tokens e) (option_spelling half_tokens h))
      ∙ ap (λ (m : List Token). operand_tokens x ++ (m ++ (expr_tokens e ++ option_spelling half_tokens h))) (sym same) ∙ ap (λ (m : List Token). m ++ (second_tokens operator ++ (expr_tokens e ++ option_spelling half_tokens h))) (sym (append-nil (operand_tokens x)))
  made_said ((x, Some g), Some (operator, (e, h))) (fits, (on, ((second, there, is), value))) = subst (λ z. open_spelling expr_tokens (make ((x, Some g), Some (z, (e, h)))) ≡ spelled ((x, Some g), Some (z, (e, h)))) is (simp append_assoc)

  made_on : (p : Open Operand × Option Assigned) → Part p → Within (after_part p) (after_open after_without half_without (make p))
  made_on ((x, None), None) fits = plain_on x
  made_on ((x, Some g), None) fits = half_plain_on x
  made_on (x, Some (operator, e)) fits = assign_of x.0 operator e

  -- ---- their fronts

  abbrev Behind_front : Front Token
  Behind_front = Joint operator_tokens g.assigning.Fits always g.assigning.front nodes.without.front

  abbrev of_front : Front Token
  of_front = Either (Joint operand_tokens T always tfront Behind_front) rfront

  out : (ts : List Token) → said_front ts → of_front ts
  out ts (inl f) = inr f
  out ts (inr (x, more, fits, on, e, f)) = inl (inr (x, more, to_target x fits on, refl, e, f))

  into : (ts : List Token) → of_front ts → said_front ts
  into ts (inr f) = inl f
  into ts (inl (inl f)) = inl (begun ts f)
  into ts (inl (inr (x, more, target, go, e, f))) = let k = of_target x target in inr (x, more, k.0, k.1, e, f)

  -- ---- the reader

  abbrev finished : Open Operand → Outcome Token Assigned → Outcome Token (Open Expr)
  finished x q = and_then (and_then (and_then q (λ y z. Ok (Some y, z))) (λ y z. Ok ((x, y), z))) (λ p z. Ok (make p, z))

  abbrev wrapped : Open Operand → Outcome Token Assigned → Outcome Token (Open Expr)
  wrapped x q = and_then (and_then (and_then (and_then q (λ y z. Ok (assigned y, z))) (λ y z. Ok (Some y, z))) (λ y z. Ok ((x, y), z))) (λ p z. Ok (an_expr p, z))

  same_wrapped : (x : Open Operand) (q : Outcome Token Assigned) → wrapped x q ≡ finished x q
  same_wrapped x (Ok y) = refl
  same_wrapped x (Err z) = refl

  abbrev raw_tail : Bool → Open Operand → List Token → Outcome Token (Open Expr)
  raw_tail c x mid = and_then (and_then (when c (mapped assigned (assignment x.1 inner.without)) mid) (λ y z. Ok ((x, y), z))) (λ p z. Ok (an_expr p, z))

  abbrev own_tail : Bool → Open Operand → List Token → Outcome Token (Open Expr)
  own_tail c x mid = and_then (and_then (when c (assignment x.1 inner.without) mid) (λ y z. Ok ((x, y), z))) (λ p z. Ok (make p, z))

  same_tail : (c : Bool) (x : Open Operand) (mid : List Token) → raw_tail c x mid ≡ own_tail c x mid
  same_tail true x mid = same_wrapped x (assignment x.1 inner.without mid)
  same_tail false x mid = refl

  abbrev raw_behind : Reader Token (Open Operand × Option Behind)
  raw_behind = continued_by class_of never always (λ (x : Open Operand). given (assigns x.0) (assign_codes x.1)) (halved assigns (levels.row (length rows))) (λ x. mapped assigned (assignment x.1 inner.without))

  same_by : (q : Outcome Token (Open Operand)) → and_then (and_then q (λ x mid. and_then (when (starts class_of (given (assigns x.0) (assign_codes x.1)) mid) (mapped assigned (assignment x.1 inner.without)) mid) (λ y z. Ok ((x, y), z)))) (λ p z. Ok (an_expr p, z))
      ≡ and_then (and_then q (λ x mid. and_then (when (starts class_of (given (assigns x.0) (assign_codes x.1)) mid) (assignment x.1 inner.without) mid) (λ y z. Ok ((x, y), z)))) (λ p z. Ok (make p, z))
  same_by (Ok x) = same_tail (starts class_of (given (assigns x.0.0) (assign_codes x.0.1)) x.1) x.0 x.1
  same_by (Err z) = refl

  same_reader : (ts : List Token) → mapped an_expr raw_behind ts ≡ mapped make reader ts
  same_reader ts = same_by (halved assigns (levels.row (length rows)) ts) ∙ ap (λ (q : Outcome Token (Open Operand × Option Assigned)). and_then q (λ p z. Ok (make p, z))) (same_parts assigns row_half W no_assign no_equal ts)

  assigned_laws : OpenLaws (mapped an_expr raw_behind) expr_tokens Of of_front operand_first after_without half_without
  assigned_laws = record {
    Fits = Made make Part;
    none_in = none_in;
    none_out = none_out;
    some_out = some_out;
    laws = reread (refront (made_laws part_laws make (open_spelling expr_tokens) (after_open after_without half_without) made_said made_on) out into) same_reader;
  }

  -- an assignment or a conditional expression, or `throw`
  pub without_laws : {E : Expr → Type 0} {efront : Front Token} (X : OpenLaws inner.expr expr_tokens E efront expr_first after_expr half_expr) →
      OpenLaws (without_over inner levels) expr_tokens (EitherFit (Throwing inner X) Of) (Either (throwing_front inner X) of_front) expr_first after_without half_without
  unfolding without_over opened
  without_laws X = open_by_first_laws (throw_laws inner X) assigned_laws (apart refl)

  -- ---- a `>` behind them is given as a half, or stopped before, as behind the last part

  pub thrown_settled : {E : Expr → Type 0} {efront : Front Token} (X : OpenLaws inner.expr expr_tokens E efront expr_first after_expr half_expr) (word : Place) (e : Expr) → E e → Settled X e → Settled (without_laws X) (t.throw word e)
  unfolding without_laws without_over opened
  thrown_settled X word e fits settled = first_settled (throw_laws inner X) assigned_laws (apart refl) (t.throw word e) ((word, e), (tt, fits), refl) (throw_settled inner X word e fits settled)

  abbrev asked_tail : Outcome Token (Open Operand) → Outcome Token (Open Expr)
  asked_tail q = and_then (and_then q (λ x mid. and_then (when (starts class_of (given (assigns x.0) (assign_codes x.1)) mid) (mapped assigned (assignment x.1 inner.without)) mid) (λ y z. Ok ((x, y), z)))) (λ p z. Ok (an_expr p, z))

  alone_settled : (x : Operand) → R x → (assigns x ≡ false → Settled Row x) → Settled assigned_laws (t.plain x t.no_cascades)
  unfolding assigned_laws class_of
  alone_settled x fits settled = elim (halved_settled Row assigns decide x fits settled) as (λ _. Settled assigned_laws (t.plain x t.no_cascades)) [
    | inl known ↦ inl (λ g. (((x, Some g), None), (known g, refl), refl))
    | inr stays ↦ inr (λ g ts. ap (mapped an_expr raw_behind) (plain_list x (sign_at g s.Greater ∷ ts)) ∙ ap asked_tail (stays g ts)
        ∙ ap (λ (c : Bool). raw_tail c (x, None) (sign_at g s.Greater ∷ ts)) (given_misses (assigns x) (sign_codes assignment_signs) (sign_code s.Greater) refl))
  ]

  pub plain_settled : {E : Expr → Type 0} {efront : Front Token} (X : OpenLaws inner.expr expr_tokens E efront expr_first after_expr half_expr) (x : Operand) → R x → (assigns x ≡ false → Settled Row x) → Settled (without_laws X) (t.plain x t.no_cascades)
  unfolding without_laws without_over opened
  plain_settled X x fits settled = second_settled (throw_laws inner X) assigned_laws (apart refl) (t.plain x t.no_cascades) (inr (x, fits, refl)) (alone_settled x fits settled)

  module _ (asks : Expr → Bool) (settled : (e : Expr) → nodes.without.Fits e → asks e ≡ true → Settled W e) where
    sharp_parts : Laws class_of reader spelled Part said_front operand_first (after_followed_by (after_open after_half (half_operand question)) (λ (x : Open Operand). assigns x.0) (λ (x : Open Operand). assign_codes x.1) (λ x y. after_open (sharp W asks settled) half_without y.1)) false
    sharp_parts = parts_laws assigns row_half (refined_open W asks settled) no_assign no_equal halves

    value_part : (x : Operand) (operator : Operator) (e : Expr) (k : Option Place) → T x → g.assigning.Fits operator → W.Fits (e, k) → (h : Option Place) × Part ((x, h), Some (operator, (e, k)))
    value_part x operator e k target (inl known) value = let w = of_target x target in (None, (row_half.none_in x w.0, (w.1, (known, value))))
    value_part x operator e k target (inr ((first, second), there, made)) value = let w = of_target x target in (Some first, (halves x first w.0 w.1, (w.1, ((second, tt, made), value))))

    value_stays : (x : Operand) (h : Option Place) (operator : Operator) (e : Expr) → Part ((x, h), Some (operator, (e, None))) → asks e ≡ true → reads_half W e ≡ false → (place : Place) (ts : List Token) →
        mapped an_expr raw_behind (open_spelling expr_tokens (t.assign x operator e, None) ++ sign_at place s.Greater ∷ ts) ≡ Ok ((t.assign x operator e, None), sign_at place s.Greater ∷ ts)
    unfolding class_of
    value_stays x h operator e known asked none place ts =
        let p : Open Operand × Option Assigned = ((x, h), Some (operator, (e, None))) in
        let rest : List Token = sign_at place s.Greater ∷ ts in
        ap (λ (m : List Token). mapped an_expr raw_behind (m ++ rest)) (made_said ((x, h), Some (operator, (e, None))) known) ∙ same_reader (spelled p ++ rest)
        ∙ ap (λ (r : Outcome Token (Open Operand × Option Assigned)). and_then r (λ y z. Ok (make y, z))) (sharp_parts.complete p rest known (sharp_stops W asks settled e asked none))

    assign_settled : (x : Operand) (operator : Operator) (e : Expr) → T x → g.assigning.Fits operator → nodes.without.Fits e → asks e ≡ true → Settled assigned_laws (t.assign x operator e)
    unfolding assigned_laws
    assign_settled x operator e target known value asked = by_half (reads_half W e) refl where
      by_half : (b : Bool) → reads_half W e ≡ b → Settled assigned_laws (t.assign x operator e)
      by_half true is = inl (λ g. let p = value_part x operator e (Some g) target known (half_read W e (settled e value asked) is g) in (((x, p.0), Some (operator, (e, Some g))), p.1, refl))
      by_half false is = inr (λ g ts. let p = value_part x operator e None target known (W.none_in e value) in value_stays x p.0 operator e p.1 asked is g ts)

    pub value_settled : {E : Expr → Type 0} {efront : Front Token} (X : OpenLaws inner.expr expr_tokens E efront expr_first after_expr half_expr) (x : Operand) (operator : Operator) (e : Expr) → T x → g.assigning.Fits operator → nodes.without.Fits e → asks e ≡ true → Settled (without_laws X) (t.assign x operator e)
    unfolding without_laws without_over opened
    value_settled X x operator e target known value asked = second_settled (throw_laws inner X) assigned_laws (apart refl) (t.assign x operator e) (inl ((x, (operator, e)), (target, (known, value)), refl)) (assign_settled x operator e target known value asked)
