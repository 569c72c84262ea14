-- An expression, by its first operand and what stands behind it.
use Rattle.std.proofs.Common.{◌≡◌, ℕ, suc, ◌+◌, max, Bool, true, false, ◌&&◌, ◌||◌, List, [], ◌∷◌, ◌++◌, Option, Some, None, Ok, Err, refl, sym, ap, ap₂, subst, ◌∙◌, arith}
use Rattle.dart_base.specs.declared.place.Place.{Place}
use Rattle.dart_token.specs.declared.sign.Sign.TheVariants as s
use Rattle.dart_token.specs.declared.word.Word.TheVariants as w
use Rattle.dart_token.specs.declared.token.Token.{Token}
use Rattle.dart_tree.specs.declared.expression.Cascade.{Cascade}
use Rattle.dart_tree.specs.Depth as height
use Rattle.dart_tree.specs.Lists.{cascades_of}
use Rattle.dart_tree.specs.Tree as t
use Rattle.dart_syntax.specs.Edges.{dots, leaves}
use Rattle.grammar_laws.specs.Codes.{given}
use Rattle.grammar_laws.specs.Halves.{no_half}
use Rattle.grammar_laws.specs.Readers.{Reader, Outcome, and_then, mapped, starts, when}
use Rattle.grammar_laws.proofs.Codes.{not_true, and_both, clash, apart}
use Rattle.token_codes.specs.Codes.{class_of, these, this_word}
use Rattle.parse_type.proofs.Looking.{starts_either}
use Rattle.parse_nest.specs.Stages.{expr_at, exprs_at, levels_at}
use Rattle.syntax_readers.specs.Combinators.{Open, with_half}
use Rattle.syntax_readers.specs.Expressions as e
use Rattle.syntax_readers.specs.Expressions.{assign_codes, assignment, assigned, cascaded, an_expr, assigned_or_cascaded, cascade_codes, cascades, to_cascades, expr_over, without_over, cascaded_over, opened, throw}
use Rattle.syntax_readers.specs.Levels.{assigns}
use Rattle.syntax_readers.specs.Statements.{stage, nodes_over}
use Rattle.parse_expr.specs.Views.{sees_cascades, sees_value, cascades_behind, value_behind, behind, operand_first, cascades_reader}

-- ---- tests

both_true : (b : Bool) → b ≡ (b && true)
both_true true = refl
both_true false = refl

both_false : (b : Bool) → false ≡ (b && false)
both_false true = refl
both_false false = refl

and_first : (a b c : Bool) → (b && (a && c)) ≡ (a && (b && c))
and_first true b c = refl
and_first false true c = refl
and_first false false c = refl

and_last : (a b c : Bool) → ((a && c) && b) ≡ (a && (b && c))
and_last true true true = refl
and_last true true false = refl
and_last true false true = refl
and_last true false false = refl
and_last false b c = refl

given_starts : (may : Bool) (codes : List ℕ) (ts : List Token) → starts class_of (given may codes) ts ≡ (starts class_of codes ts && may)
given_starts true codes [] = refl
given_starts true codes (t ∷ ts) = both_true (starts class_of codes (t ∷ ts))
given_starts false codes [] = refl
given_starts false codes (t ∷ ts) = both_false (starts class_of codes (t ∷ ts))

pub given_is : (may : Bool) (codes : List ℕ) (ts : List Token) → starts class_of (given may codes) ts ≡ (may && starts class_of codes ts)
given_is true codes ts = refl
given_is false codes [] = refl
given_is false codes (t ∷ ts) = refl

-- no operator that assigns is `..`
never_both : (half : Option Place) (ts : List Token) → starts class_of (these s.DotDot) ts ≡ true → starts class_of (assign_codes half) ts ≡ true → ⊥
never_both half [] h k = absurd cc
never_both None (t ∷ ts) h k = (apart {xs = these s.DotDot} {ys = assign_codes None} refl).never_both (class_of t) h k
never_both (Some greater) (t ∷ ts) h k = (apart {xs = these s.DotDot} {ys = assign_codes (Some greater)} refl).never_both (class_of t) h k

given_never : (may : Bool) (half : Option Place) (ts : List Token) → starts class_of (these s.DotDot) ts ≡ true → starts class_of (given may (assign_codes half)) ts ≡ false
given_never may half ts h = given_starts may (assign_codes half) ts ∙ rw (not_true (starts class_of (assign_codes half) ts) (never_both half ts h)) refl

-- ---- readings put into another shape twice

twice : {A B C : Type 0} (f : A → B) (g : B → C) (o : Outcome Token A) → and_then (and_then {B = B} o (λ a rest. Ok (f a, rest))) (λ b rest. Ok (g b, rest)) ≡ and_then o (λ a rest. Ok (g (f a), rest))
twice f g (Ok x) = refl
twice f g (Err rest) = refl

-- the second of two, put into a shape with the first
abbrev second : {A B C : Type 0} → (A × Option B → C) → A → Outcome Token B → Outcome Token C
second {C = C} f x o = and_then {B = C} (and_then {B = _ × Option _} (and_then {B = Option _} o (λ b rest. Ok (Some b, rest))) (λ b rest. Ok ((x, b), rest))) (λ y rest. Ok (f y, rest))

second_is : {A B C : Type 0} (f : A × Option B → C) (x : A) (o : Outcome Token B) → second f x o ≡ and_then o (λ b rest. Ok (f (x, Some b), rest))
second_is f x (Ok y) = refl
second_is f x (Err rest) = refl

-- ---- an operand, and what is read behind it where its tokens come

abbrev whole_of : Bool → Reader Token e.Behind → Open t.Operand → Reader Token (Open t.Expr)
whole_of c q x ts = and_then {B = Open t.Expr} (and_then {B = Open t.Operand × Option e.Behind} (when c q ts) (λ b rest. Ok ((x, b), rest))) (λ y rest. Ok (an_expr y, rest))

whole_on : (q : Reader Token e.Behind) (x : Open t.Operand) (ts : List Token) → whole_of true q x ts ≡ and_then (q ts) (λ b rest. Ok (an_expr (x, Some b), rest))
whole_on q x ts = second_is an_expr x (q ts)

abbrev codes : Open t.Operand → List ℕ
codes x = given (assigns x.0) (assign_codes x.1) ++ cascade_codes x

codes_start : (x : Open t.Operand) (ts : List Token) → starts class_of (codes x) ts ≡ (sees_value x ts || sees_cascades x ts)
codes_start x ts = starts_either (given (assigns x.0) (assign_codes x.1)) (cascade_codes x) ts ∙ ap (λ (b : Bool). sees_value x ts || b) (given_starts (no_half x && leaves dots x.0) (these s.DotDot) ts ∙ and_first (no_half x) (starts class_of (these s.DotDot) ts) (leaves dots x.0))

or_at : (a b v c : Bool) → a ≡ v → b ≡ c → (a || b) ≡ (v || c)
or_at a b v c e f = ap₂ (λ (m n : Bool). m || n) e f

on_right : (v : Bool) → (v || true) ≡ true
on_right true = refl
on_right false = refl

module _ (d : ℕ) (x : Open t.Operand) (ts : List Token) where
  cascades_then : starts class_of (these s.DotDot) ts ≡ true → assigned_or_cascaded x.1 (exprs_at d) ts ≡ mapped cascaded (cascades (exprs_at d)) ts
  unfolding assigned_or_cascaded
  cascades_then on = rw on refl

  value_then : starts class_of (these s.DotDot) ts ≡ false → assigned_or_cascaded x.1 (exprs_at d) ts ≡ mapped assigned (assignment x.1 (exprs_at d).expr) ts
  unfolding assigned_or_cascaded
  value_then off = rw off refl

  abbrev on_some : Outcome Token e.Behind → Outcome Token (Open t.Expr)
  on_some o = and_then o (λ b rest. Ok (an_expr (x, Some b), rest))

  cascades_made : on_some (mapped cascaded (cascades (exprs_at d)) ts) ≡ cascades_behind d x.0 ts
  cascades_made = twice cascaded (λ b. an_expr (x, Some b)) (cascades (exprs_at d) ts) ∙ sym (twice to_cascades (with_half (t.plain x.0)) (cascades (exprs_at d) ts))

  value_made : (cascades : Bool) → on_some (mapped assigned (assignment x.1 (expr_at d cascades)) ts) ≡ value_behind d cascades x ts
  value_made cascades = twice assigned (λ b. an_expr (x, Some b)) (assignment x.1 (expr_at d cascades) ts)

  dots_come : sees_cascades x ts ≡ true → starts class_of (these s.DotDot) ts ≡ true
  dots_come h = (and_both (starts class_of (these s.DotDot) ts) (leaves dots x.0) (and_both (no_half x) (starts class_of (these s.DotDot) ts && leaves dots x.0) h).1).0

  no_dots : sees_value x ts ≡ true → starts class_of (these s.DotDot) ts ≡ false
  no_dots h = not_true (starts class_of (these s.DotDot) ts) (λ on. clash (sees_value x ts) h (given_never (assigns x.0) x.1 ts on))

  chosen_first : sees_cascades x ts ≡ true → behind d true x ts ≡ cascades_behind d x.0 ts
  chosen_first ec = rw ec refl

  chosen_second : sees_cascades x ts ≡ false → sees_value x ts ≡ true → behind d true x ts ≡ value_behind d true x ts
  chosen_second ec ev = rw (ec, ev) refl

  chosen_none : sees_cascades x ts ≡ false → sees_value x ts ≡ false → behind d true x ts ≡ Ok ((t.plain x.0 t.no_cascades, x.1), ts)
  chosen_none ec ev = rw (ec, ev) refl

  plainly_second : sees_value x ts ≡ true → behind d false x ts ≡ value_behind d false x ts
  plainly_second ev = rw ev refl

  plainly_none : sees_value x ts ≡ false → behind d false x ts ≡ Ok ((t.plain x.0 t.no_cascades, x.1), ts)
  plainly_none ev = rw ev refl

  with_cascades : (c v : Bool) → sees_cascades x ts ≡ c → sees_value x ts ≡ v → whole_of (starts class_of (codes x) ts) (assigned_or_cascaded x.1 (exprs_at d)) x ts ≡ behind d true x ts
  with_cascades true v ec ev =
      ap (λ (b : Bool). whole_of b (assigned_or_cascaded x.1 (exprs_at d)) x ts) (codes_start x ts ∙ or_at (sees_value x ts) (sees_cascades x ts) v true ev ec ∙ on_right v)
      ∙ whole_on (assigned_or_cascaded x.1 (exprs_at d)) x ts
      ∙ ap on_some (cascades_then (dots_come ec))
      ∙ cascades_made
      ∙ sym (chosen_first ec)
  with_cascades false true ec ev =
      ap (λ (b : Bool). whole_of b (assigned_or_cascaded x.1 (exprs_at d)) x ts) (codes_start x ts ∙ or_at (sees_value x ts) (sees_cascades x ts) true false ev ec)
      ∙ whole_on (assigned_or_cascaded x.1 (exprs_at d)) x ts
      ∙ ap on_some (value_then (no_dots ev))
      ∙ value_made true
      ∙ sym (chosen_second ec ev)
  with_cascades false false ec ev =
      ap (λ (b : Bool). whole_of b (assigned_or_cascaded x.1 (exprs_at d)) x ts) (codes_start x ts ∙ or_at (sees_value x ts) (sees_cascades x ts) false false ev ec)
      ∙ sym (chosen_none ec ev)

  without_cascades : (v : Bool) → sees_value x ts ≡ v → whole_of (sees_value x ts) (mapped assigned (assignment x.1 (exprs_at d).without)) x ts ≡ behind d false x ts
  without_cascades true ev =
      ap (λ (b : Bool). whole_of b (mapped assigned (assignment x.1 (exprs_at d).without)) x ts) ev
      ∙ whole_on (mapped assigned (assignment x.1 (exprs_at d).without)) x ts
      ∙ value_made false
      ∙ sym (plainly_second ev)
  without_cascades false ev = ap (λ (b : Bool). whole_of b (mapped assigned (assignment x.1 (exprs_at d).without)) x ts) ev ∙ sym (plainly_none ev)

-- ---- an expression that is no `throw`

each_true : (d : ℕ) (o : Outcome Token (Open t.Operand)) → and_then {B = Open t.Expr} (and_then {B = Open t.Operand × Option e.Behind} o (λ x mid. and_then {B = Open t.Operand × Option e.Behind} (when (starts class_of (codes x) mid) (assigned_or_cascaded x.1 (exprs_at d)) mid) (λ b rest. Ok ((x, b), rest)))) (λ y rest. Ok (an_expr y, rest)) ≡ and_then o (behind d true)
each_true d (Ok y) = with_cascades d y.0 y.1 (sees_cascades y.0 y.1) (sees_value y.0 y.1) refl refl
each_true d (Err rest) = refl

each_false : (d : ℕ) (o : Outcome Token (Open t.Operand)) → and_then {B = Open t.Expr} (and_then {B = Open t.Operand × Option e.Behind} o (λ x mid. and_then {B = Open t.Operand × Option e.Behind} (when (sees_value x mid) (mapped assigned (assignment x.1 (exprs_at d).without)) mid) (λ b rest. Ok ((x, b), rest)))) (λ y rest. Ok (an_expr y, rest)) ≡ and_then o (behind d false)
each_false d (Ok y) = without_cascades d y.0 y.1 (sees_value y.0 y.1) refl
each_false d (Err rest) = refl

expr_is : (d : ℕ) (ts : List Token) → expr_at (suc d) true ts ≡ expr_over (exprs_at d) (levels_at d) ts
unfolding stage nodes_over
expr_is d ts = refl

without_is : (d : ℕ) (ts : List Token) → expr_at (suc d) false ts ≡ without_over (exprs_at d) (levels_at d) ts
unfolding stage nodes_over
without_is d ts = refl

thrown_at : (d : ℕ) (cascades : Bool) (ts : List Token) → starts class_of (this_word w.Throw) ts ≡ true → expr_at (suc d) cascades ts ≡ throw (exprs_at d) ts
unfolding expr_over without_over
thrown_at d true ts on = expr_is d ts ∙ rw on refl
thrown_at d false ts on = without_is d ts ∙ rw on refl

unthrown_at : (d : ℕ) (cascades : Bool) (ts : List Token) → starts class_of (this_word w.Throw) ts ≡ false → expr_at (suc d) cascades ts ≡ operand_first d cascades ts
unfolding expr_over without_over
unthrown_at d true ts off = expr_is d ts ∙ rw off (each_true d (opened (levels_at d) ts))
unthrown_at d false ts off = without_is d ts ∙ rw off (each_false d (opened (levels_at d) ts))

pub thrown : (d : ℕ) (cascades : Bool) (ts : List Token) → starts class_of (this_word w.Throw) ts ≡ true → expr_at (d + 1) cascades ts ≡ throw (exprs_at d) ts
thrown d cascades ts on =
    let e : suc d ≡ d + 1 = omega arith in
    subst (λ (n : ℕ). expr_at n cascades ts ≡ throw (exprs_at d) ts) e (thrown_at d cascades ts on)

pub unthrown : (d : ℕ) (cascades : Bool) (ts : List Token) → starts class_of (this_word w.Throw) ts ≡ false → expr_at (d + 1) cascades ts ≡ operand_first d cascades ts
unthrown d cascades ts off =
    let e : suc d ≡ d + 1 = omega arith in
    subst (λ (n : ℕ). expr_at n cascades ts ≡ operand_first d cascades ts) e (unthrown_at d cascades ts off)

-- ---- heights

pub plain_height : (x : t.Operand) (l : t.Cascades) → height.expr_height (t.plain x l) ≡ suc (max (height.operand_height x) (height.cascades_height l))
unfolding height.expr_height
plain_height x l = refl

pub alone_height : (x : t.Operand) → height.expr_height (t.plain x t.no_cascades) ≡ height.operand_height x + 1
unfolding height.expr_height height.cascades_height
alone_height x = omega arith

pub assign_height : (x : t.Operand) (operator : _) (value : t.Expr) → height.expr_height (t.assign x operator value) ≡ suc (max (height.operand_height x) (height.expr_height value))
unfolding height.expr_height
assign_height x operator value = refl

-- ---- an operand with cascades behind it

abbrev pub beside : t.Operand → Open t.Cascades → Open (t.Operand × t.Cascades)
beside x = with_half (λ (l : t.Cascades). (x, l))

pub cascaded_fails : (d : ℕ) (ts rest : List Token) → (levels_at d).row 11 ts ≡ Err rest → cascaded_over (exprs_at d) (levels_at d) ts ≡ Err rest
unfolding cascaded_over
cascaded_fails d ts rest e = rw e refl

pub cascaded_alone : (d : ℕ) (ts mid : List Token) (x : Open t.Operand) → (levels_at d).row 11 ts ≡ Ok (x, mid) → sees_cascades x mid ≡ false → cascaded_over (exprs_at d) (levels_at d) ts ≡ Ok (((x.0, t.no_cascades), x.1), mid)
unfolding cascaded_over
cascaded_alone d ts mid x e off = rw (e, and_last (no_half x) (starts class_of (these s.DotDot) mid) (leaves dots x.0) ∙ off) refl

pub cascaded_more : (d : ℕ) (ts mid : List Token) (x : Open t.Operand) → (levels_at d).row 11 ts ≡ Ok (x, mid) → sees_cascades x mid ≡ true → cascaded_over (exprs_at d) (levels_at d) ts ≡ mapped (beside x.0) (cascades_reader d) mid
unfolding cascaded_over
cascaded_more d ts mid x r on =
    rw (r, and_last (no_half x) (starts class_of (these s.DotDot) mid) (leaves dots x.0) ∙ on)
    (second_is e.with_cascades x (cascades (exprs_at d) mid) ∙ sym (twice to_cascades (beside x.0) (cascades (exprs_at d) mid)))

pub alone_high : (x : t.Operand) (l : List Cascade) (h : ℕ) → l ≡ [] → h ≡ height.operand_height x → h ≡ max (height.operand_height x) (height.cascades_height (cascades_of l))
unfolding height.cascades_height
alone_high x l h none high = let e = ap (λ (m : List Cascade). height.cascades_height (cascades_of m)) none in omega arith
