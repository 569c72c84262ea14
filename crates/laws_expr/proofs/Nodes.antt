-- Expressions, those without cascade, and the parts of cascades at a depth (ECMA-408, 16 Expressions), over the last row and the same one node less deep.
use Rattle.std.proofs.Common.{◌≡◌, ℕ, zero, suc, ◌≤◌, true, List, [], ◌∷◌, length, inl, inr, ap, sym, ◌∙◌, subst, arith}
use Rattle.dart_base.specs.declared.place.Place.{Place}
use Rattle.dart_token.specs.declared.token.Token.{Token}
use Rattle.dart_token.specs.declared.sign.Sign.TheVariants as s
use Rattle.dart_token.specs.declared.word.Word.TheVariants as w
use Rattle.dart_tree.specs.declared.operator.Operator.{Operator}
use Rattle.dart_tree.specs.LeafTokens.{operator_tokens}
use Rattle.dart_tree.specs.Tree as t
use Rattle.dart_tree.specs.Tree.{Expr, Operand, Selectors, Value, Cascades}
use Rattle.dart_tree.specs.Tokens.{expr_tokens, operand_tokens, primary_tokens, selector_tokens, cascades_tokens}
use Rattle.grammar_laws.specs.Readers.{always}
use Rattle.grammar_laws.specs.Fronts.{Front, Empty, Joint, Several, Either, EitherFit, BothFit, GoesOn, SomeFit, Made, both_spelling}
use Rattle.grammar_laws.proofs.Codes.{clash}
use Rattle.dart_syntax.specs.Phrases.{Phrase, Anything}
use Rattle.dart_syntax.specs.Leaves as l
use Rattle.dart_syntax.specs.Leaves.{word_tokens}
use Rattle.dart_syntax.specs.Agreement.{section_tokens}
use Rattle.dart_syntax.specs.Edges.{dots, question, opens_nothing, leaves, leaves_cascade, expr_takes, operand_takes}
use Rattle.dart_syntax.specs.Expressions as g
use Rattle.dart_syntax.specs.Statements as gs
use Rattle.dart_syntax.specs.Statements.{within}
use Rattle.dart_syntax.proofs.AgreeingStages.{within_agrees}
use Rattle.token_codes.specs.Codes.{these}
use Rattle.syntax_readers.specs.Primaries.{operand_first, expr_first}
use Rattle.syntax_readers.specs.Levels.{assigns}
use Rattle.syntax_readers.specs.Expressions.{expr_over, without_over, cascaded_over}
use Rattle.syntax_readers.specs.Statements as rs
use Rattle.syntax_readers.specs.Statements.{stage}
use Rattle.syntax_measures.specs.Relations.{LevelsRelate}
use Rattle.syntax_measures.specs.Fronts.{Grows, grows}
use Rattle.syntax_measures.proofs.Grows.{grows_walk}
use Rattle.syntax_measures.proofs.WalkLevels.{walk_cascaded, walk_expr, walk_without}
use Rattle.laws_expr.specs.Nexts.{after_expr, after_without, after_operand, after_cascade, after_cascaded}
use Rattle.laws_expr.specs.Statements.{InsideReadAt}
use Rattle.laws_expr.specs.Statements.{cascaded_over as initialised}
use Rattle.laws_expr.proofs.Open.{OpenLaws, Settled, open_restated, restated_settled}
use Rattle.laws_expr.proofs.Chain.{half_operand}
use Rattle.laws_expr.proofs.Once.{half_without}
use Rattle.laws_expr.proofs.Functions.{half_expr}
use Rattle.laws_expr.proofs.Cascades.{half_cascade, cascade_laws, cascade_settled}
use Rattle.laws_expr.proofs.Cascaded.{half_cascaded, cascaded_laws}
use Rattle.laws_expr.proofs.Throwing.{without_laws}
use Rattle.laws_expr.proofs.Throwing as th
use Rattle.laws_expr.proofs.Expressions.{expr_laws}
use Rattle.laws_expr.proofs.Expressions as ex
use Rattle.laws_expr.proofs.Refusing.{refuses, expr_refuses, cascade_refuses, value_refuses, cascades_refuse}
use Rattle.laws_expr.proofs.Stages.{known_at}
use Rattle.laws_expr.proofs.Depths.{row_of}
use Rattle.laws_expr.proofs.Rising.{rising_at, target_down}
use Rattle.laws_expr.proofs.Stacked.{plainly, nodes_at, from_plain, to_plain, nodes_from, nodes_to}

-- ---- what may be assigned to, as an operand of the last row

target_row : (n : ℕ) (x : Operand) → ((within n).levels.target).Fits x → (row_of n 0).Fits x × (assigns x ≡ true)
unfolding gs.within gs.nodes_over
target_row zero x (p, (fits, on), is) = ((p, fits, is), ap assigns (sym is) ∙ on)
target_row (suc n) x (inl (p, (fits, on), is)) = (inl (inl (p, fits, is)), ap assigns (sym is) ∙ on)
target_row (suc n) x (inr (parts, (fits, on), is)) = (inl (inr (inl (parts, fits, is))), ap assigns (sym is) ∙ on)

row_target : (n : ℕ) (x : Operand) → (row_of n 0).Fits x → assigns x ≡ true → ((within n).levels.target).Fits x
unfolding gs.within gs.nodes_over
row_target zero x (p, fits, is) on = (p, (fits, ap assigns is ∙ on), is)
row_target (suc n) x (inl (inl (p, fits, is))) on = inl (p, (fits, ap assigns is ∙ on), is)
row_target (suc n) x (inl (inr (inl (parts, fits, is)))) on = inr (parts, (fits, ap assigns is ∙ on), is)
row_target (suc n) x (inl (inr (inr (inl (parts, fits, is))))) on = clash (assigns x) on (ap assigns (sym is))
row_target (suc n) x (inl (inr (inr (inr (parts, fits, is))))) on = clash (assigns x) on (ap assigns (sym is))
row_target (suc n) x (inr (inl (parts, fits, is))) on = clash (assigns x) on (ap assigns (sym is))
row_target (suc n) x (inr (inr (inl (parts, fits, is)))) on = clash (assigns x) on (ap assigns (sym is))
row_target (suc n) x (inr (inr (inr (parts, fits, is)))) on = clash (assigns x) on (ap assigns (sym is))

fits_up : (n i : ℕ) (x : Operand) → (row_of n 0).Fits x → (row_of n i).Fits x
unfolding gs.within gs.nodes_over
fits_up zero i x fits = fits
fits_up (suc n) zero x fits = fits
fits_up (suc n) (suc i) x fits = inl (fits_up (suc n) i x fits)

front_up : (n i : ℕ) (ts : List Token) → (row_of n 0).front ts → (row_of n i).front ts
unfolding gs.within gs.nodes_over
front_up zero i ts f = f
front_up (suc n) zero ts f = f
front_up (suc n) (suc i) ts f = inl (front_up (suc n) i ts f)

target_begins : (n : ℕ) (ts : List Token) → ((within n).levels.target).front ts → (row_of n 0).front ts
unfolding gs.within gs.nodes_over
target_begins zero ts f = f
target_begins (suc n) ts (inl f) = inl (inl f)
target_begins (suc n) ts (inr f) = inl (inr (inl f))

-- ---- the phrases, with the tokens that their trees have

module _ (n : ℕ) where
  abbrev nodes : g.ExprNodes
  nodes = (within n).nodes.expr_nodes

  abbrev levels : g.Levels
  levels = (within n).levels

  abbrev levels_at : g.Levels
  levels_at = record {
    primary = plainly primary_tokens levels.primary;
    bracketed = plainly selector_tokens levels.bracketed;
    target = plainly operand_tokens levels.target;
    postfix = plainly operand_tokens levels.postfix;
    row = λ i. plainly operand_tokens (levels.row i);
  }

  levels_from : LevelsRelate grows levels_at levels
  levels_from =
      let A = (within_agrees n).levels in
      record { primary = from_plain A.primary; bracketed = from_plain A.bracketed; target = from_plain A.target; postfix = from_plain A.postfix; row = λ i. from_plain (A.row i) }

  levels_to : LevelsRelate grows levels levels_at
  levels_to =
      let A = (within_agrees n).levels in
      record { primary = to_plain A.primary; bracketed = to_plain A.bracketed; target = to_plain A.target; postfix = to_plain A.postfix; row = λ i. to_plain (A.row i) }

  expr_from : Grows (g.expr_over (nodes_at n) levels_at) (g.expr_over nodes levels)
  expr_from = walk_expr grows_walk {m = n} (nodes_from n) levels_from

  expr_to : Grows (g.expr_over nodes levels) (g.expr_over (nodes_at n) levels_at)
  expr_to = walk_expr grows_walk {m = n} (nodes_to n) levels_to

  cascaded_from : Grows (g.cascaded_over (nodes_at n) levels_at) (g.cascaded_over nodes levels)
  cascaded_from = walk_cascaded grows_walk {m = n} (nodes_from n) levels_from

  cascaded_to : Grows (g.cascaded_over nodes levels) (g.cascaded_over (nodes_at n) levels_at)
  cascaded_to = walk_cascaded grows_walk {m = n} (nodes_to n) levels_to

  abbrev whole_cascaded : Phrase (Operand × Cascades)
  whole_cascaded = initialised nodes levels

  without_from : Grows (g.without_over (nodes_at n) levels_at) (g.without_over nodes levels)
  without_from = walk_without grows_walk {m = n} (nodes_from n) levels_from

  without_to : Grows (g.without_over nodes levels) (g.without_over (nodes_at n) levels_at)
  without_to = walk_without grows_walk {m = n} (nodes_to n) levels_to

  -- ---- which trees, by kinds

  abbrev Last : Operand → Type 0
  Last = (row_of n 11).Fits

  abbrev last_front : Front Token
  last_front = (row_of n 11).front

  abbrev Thrown : Expr → Type 0
  Thrown = Made (λ (x : Place × Expr). t.throw x.0 x.1) (BothFit Anything nodes.expr.Fits)

  abbrev thrown_front : Front Token
  thrown_front = Joint (word_tokens w.Throw) Anything always (l.word w.Throw).front nodes.expr.front

  abbrev Assigned : (Expr → Type 0) → Expr → Type 0
  Assigned F = Made (λ (x : Operand × (Operator × Expr)). t.assign x.0 x.1.0 x.1.1) (BothFit levels.target.Fits (BothFit g.assigning.Fits F))

  abbrev assigned_front : Front Token → Front Token
  assigned_front front = Joint operand_tokens levels.target.Fits always levels.target.front (Joint operator_tokens g.assigning.Fits always g.assigning.front front)

  abbrev Plain : Expr → Type 0
  Plain = Made (λ (x : Operand × List (Place × (Selectors × Value))). t.plain x.0 (g.to_cascades x.1)) (EitherFit (BothFit Last (λ all. all ≡ [])) (BothFit (GoesOn Last (leaves dots)) (SomeFit nodes.cascade.Fits leaves_cascade)))

  abbrev plain_front : Front Token
  plain_front = Either (Joint operand_tokens Last always last_front Empty) (Joint operand_tokens Last (leaves dots) last_front (Several section_tokens nodes.cascade.Fits leaves_cascade nodes.cascade.front))

  expr_forth : (x : Expr) → EitherFit Thrown (EitherFit (Assigned nodes.expr.Fits) Plain) x → (within (suc n)).nodes.expr_nodes.expr.Fits x
  unfolding gs.within gs.nodes_over
  expr_forth x (inl fits) = expr_from.fits x (inr (inr fits))
  expr_forth x (inr (inl fits)) = expr_from.fits x (inl fits)
  expr_forth x (inr (inr fits)) = expr_from.fits x (inr (inl fits))

  expr_back : (x : Expr) → (within (suc n)).nodes.expr_nodes.expr.Fits x → EitherFit Thrown (EitherFit (Assigned nodes.expr.Fits) Plain) x
  unfolding gs.within gs.nodes_over
  expr_back x fits = elim (expr_to.fits x fits) [
    | inl fits ↦ inr (inl fits)
    | inr (inl fits) ↦ inr (inr fits)
    | inr (inr fits) ↦ inl fits
  ]

  expr_out : (ts : List Token) → Either thrown_front (Either (assigned_front nodes.expr.front) plain_front) ts → (within (suc n)).nodes.expr_nodes.expr.front ts
  unfolding gs.within gs.nodes_over
  expr_out ts (inl f) = expr_from.begins ts (inr (inr f))
  expr_out ts (inr (inl f)) = expr_from.begins ts (inl f)
  expr_out ts (inr (inr f)) = expr_from.begins ts (inr (inl f))

  expr_into : (ts : List Token) → (within (suc n)).nodes.expr_nodes.expr.front ts → Either thrown_front (Either (assigned_front nodes.expr.front) plain_front) ts
  unfolding gs.within gs.nodes_over
  expr_into ts f = elim (expr_to.begins ts f) [
    | inl f ↦ inr (inl f)
    | inr (inl f) ↦ inr (inr f)
    | inr (inr f) ↦ inl f
  ]

  abbrev Alone : Expr → Type 0
  Alone = Made (λ (x : Operand). t.plain x t.no_cascades) Last

  without_forth : (x : Expr) → EitherFit Thrown (EitherFit (Assigned nodes.without.Fits) Alone) x → (within (suc n)).nodes.expr_nodes.without.Fits x
  unfolding gs.within gs.nodes_over
  without_forth x (inl fits) = without_from.fits x (inr (inr fits))
  without_forth x (inr (inl fits)) = without_from.fits x (inl fits)
  without_forth x (inr (inr fits)) = without_from.fits x (inr (inl fits))

  without_back : (x : Expr) → (within (suc n)).nodes.expr_nodes.without.Fits x → EitherFit Thrown (EitherFit (Assigned nodes.without.Fits) Alone) x
  unfolding gs.within gs.nodes_over
  without_back x fits = elim (without_to.fits x fits) [
    | inl fits ↦ inr (inl fits)
    | inr (inl fits) ↦ inr (inr fits)
    | inr (inr fits) ↦ inl fits
  ]

  without_out : (ts : List Token) → Either thrown_front (Either (assigned_front nodes.without.front) last_front) ts → (within (suc n)).nodes.expr_nodes.without.front ts
  unfolding gs.within gs.nodes_over
  without_out ts (inl f) = without_from.begins ts (inr (inr f))
  without_out ts (inr (inl f)) = without_from.begins ts (inl f)
  without_out ts (inr (inr f)) = without_from.begins ts (inr (inl f))

  without_into : (ts : List Token) → (within (suc n)).nodes.expr_nodes.without.front ts → Either thrown_front (Either (assigned_front nodes.without.front) last_front) ts
  unfolding gs.within gs.nodes_over
  without_into ts f = elim (without_to.begins ts f) [
    | inl f ↦ inr (inl f)
    | inr (inl f) ↦ inr (inr f)
    | inr (inr f) ↦ inl f
  ]

  -- ---- the nodes

  module _ (Below : InsideReadAt n)
      (X : OpenLaws (stage n).nodes.exprs.expr expr_tokens nodes.expr.Fits nodes.expr.front expr_first after_expr half_expr)
      (W : OpenLaws (stage n).nodes.exprs.without expr_tokens nodes.without.Fits nodes.without.front expr_first after_without half_without)
      (C : OpenLaws (stage n).nodes.exprs.cascade section_tokens nodes.cascade.Fits nodes.cascade.front (these s.DotDot) after_cascade half_cascade)
      (Row : OpenLaws ((stage n).levels.row (length g.rows)) operand_tokens Last last_front operand_first (after_operand question) (half_operand question))
      (decide : (x : Operand) → Last x → assigns x ≡ true → Settled Row x) where
    to_target : (x : Operand) → Last x → assigns x ≡ true → levels.target.Fits x
    to_target x fits on = row_target n x (target_down n 11 x on fits) on

    of_target : (x : Operand) → levels.target.Fits x → Last x × (assigns x ≡ true)
    of_target x fits = let k = target_row n x fits in (fits_up n 11 x k.0, k.1)

    begun : (ts : List Token) → levels.target.front ts → last_front ts
    begun ts f = front_up n 11 ts (target_begins n ts f)

    dotted : (x : Operand) → Last x → operand_takes dots opens_nothing dots x ≡ true
    dotted x fits = rising_at n 11 x fits dots opens_nothing (omega arith)

    pub expr_at : OpenLaws (stage (suc n)).nodes.exprs.expr expr_tokens (within (suc n)).nodes.expr_nodes.expr.Fits (within (suc n)).nodes.expr_nodes.expr.front expr_first after_expr half_expr
    unfolding rs.stage rs.nodes_over
    expr_at = open_restated (expr_laws (stage n).nodes.exprs X C (stage n).levels Row decide dotted to_target of_target begun) expr_forth expr_back expr_out expr_into

    pub without_at : OpenLaws (stage (suc n)).nodes.exprs.without expr_tokens (within (suc n)).nodes.expr_nodes.without.Fits (within (suc n)).nodes.expr_nodes.without.front expr_first after_without half_without
    unfolding rs.stage rs.nodes_over
    without_at = open_restated (without_laws (stage n).nodes.exprs (stage n).levels nodes W Row decide to_target of_target begun X) without_forth without_back without_out without_into

    pub cascade_at : OpenLaws (stage (suc n)).nodes.exprs.cascade section_tokens (within (suc n)).nodes.expr_nodes.cascade.Fits (within (suc n)).nodes.expr_nodes.cascade.front (these s.DotDot) after_cascade half_cascade
    unfolding rs.stage rs.nodes_over gs.within gs.nodes_over
    cascade_at = cascade_laws (known_at n Below) W

    -- a conditional expression with its cascades, as an initialiser has it
    pub cascaded_at : OpenLaws (cascaded_over (stage n).nodes.exprs (stage n).levels) (both_spelling operand_tokens cascades_tokens) (whole_cascaded.Fits) (whole_cascaded.front) operand_first after_cascaded half_cascaded
    cascaded_at = open_restated (cascaded_laws (stage n).nodes.exprs C (stage n).levels Row dotted) (λ x fits. fits) (λ x fits. fits) cascaded_from.begins cascaded_to.begins

    -- ---- a `>` behind them is given as a half, or stopped before, where their edges take no operator that binds so

    module _ (next : ℕ) (reached : question ≤ next)
        (expr_settled : (x : Expr) → nodes.expr.Fits x → expr_refuses next x ≡ true → Settled X x) (without_settled : (x : Expr) → nodes.without.Fits x → expr_refuses next x ≡ true → Settled W x)
        (part_settled : (x : Place × (Selectors × Value)) → nodes.cascade.Fits x → cascade_refuses next x ≡ true → Settled C x) (row_settled : (x : Operand) → Last x → refuses next x ≡ true → Settled Row x) where
      abbrev read_expr : OpenLaws (expr_over (stage n).nodes.exprs (stage n).levels) expr_tokens (EitherFit Thrown (EitherFit (Assigned nodes.expr.Fits) Plain)) (Either thrown_front (Either (assigned_front nodes.expr.front) plain_front)) expr_first after_expr half_expr
      read_expr = expr_laws (stage n).nodes.exprs X C (stage n).levels Row decide dotted to_target of_target begun

      expr_kind : (x : Expr) → EitherFit Thrown (EitherFit (Assigned nodes.expr.Fits) Plain) x → expr_refuses next x ≡ true → Settled read_expr x
      unfolding expr_takes
      expr_kind x (inl ((word, e), (at, fits), is)) off = subst (Settled read_expr) is (ex.thrown_settled (stage n).nodes.exprs X C (stage n).levels Row decide dotted to_target of_target begun word e fits (expr_settled e fits (subst (λ (z : Expr). expr_refuses next z ≡ true) (sym is) off)))
      expr_kind x (inr (inl ((y, (op, e)), (target, (known, fits)), is))) off =
          subst (Settled read_expr) is (ex.value_settled (stage n).nodes.exprs X C (stage n).levels Row decide dotted to_target of_target begun (expr_refuses next) expr_settled (cascade_refuses next) part_settled y op e target known fits (subst (λ (z : Expr). expr_refuses next z ≡ true) (sym is) off))
      expr_kind x (inr (inr ((y, all), inl (fits, none), is))) off =
          let whole : t.plain y t.no_cascades ≡ x = ap (λ (m : List (Place × (Selectors × Value))). t.plain y (g.to_cascades m)) (sym none) ∙ is in
          subst (Settled read_expr) whole (ex.plain_settled (stage n).nodes.exprs X C (stage n).levels Row decide dotted to_target of_target begun y fits (λ plain. row_settled y fits (subst (λ (z : Expr). expr_refuses next z ≡ true) (sym whole) off)))
      expr_kind x (inr (inr ((y, []), inr (fits, (some, each)), is))) off = absurd cc
      expr_kind x (inr (inr ((y, z ∷ more), inr ((fits, on), (some, each)), is))) off =
          subst (Settled read_expr) is (ex.cascades_settled (stage n).nodes.exprs X C (stage n).levels Row decide dotted to_target of_target begun (expr_refuses next) expr_settled (cascade_refuses next) part_settled y z more fits on each (cascades_refuse next y z more (subst (λ (v : Expr). expr_refuses next v ≡ true) (sym is) off)))

      pub expr_known : (x : Expr) → (within (suc n)).nodes.expr_nodes.expr.Fits x → expr_refuses next x ≡ true → Settled expr_at x
      unfolding expr_at rs.stage rs.nodes_over
      expr_known x fits off = restated_settled read_expr expr_forth expr_back expr_out expr_into x (expr_kind x (expr_back x fits) off)

      abbrev read_without : OpenLaws (without_over (stage n).nodes.exprs (stage n).levels) expr_tokens (EitherFit Thrown (EitherFit (Assigned nodes.without.Fits) Alone)) (Either thrown_front (Either (assigned_front nodes.without.front) last_front)) expr_first after_without half_without
      read_without = without_laws (stage n).nodes.exprs (stage n).levels nodes W Row decide to_target of_target begun X

      without_kind : (x : Expr) → EitherFit Thrown (EitherFit (Assigned nodes.without.Fits) Alone) x → expr_refuses next x ≡ true → Settled read_without x
      unfolding expr_takes
      without_kind x (inl ((word, e), (at, fits), is)) off = subst (Settled read_without) is (th.thrown_settled (stage n).nodes.exprs (stage n).levels nodes W Row decide to_target of_target begun X word e fits (expr_settled e fits (subst (λ (z : Expr). expr_refuses next z ≡ true) (sym is) off)))
      without_kind x (inr (inl ((y, (op, e)), (target, (known, fits)), is))) off = subst (Settled read_without) is (th.value_settled (stage n).nodes.exprs (stage n).levels nodes W Row decide to_target of_target begun (expr_refuses next) without_settled X y op e target known fits (subst (λ (z : Expr). expr_refuses next z ≡ true) (sym is) off))
      without_kind x (inr (inr (y, fits, is))) off = subst (Settled read_without) is (th.plain_settled (stage n).nodes.exprs (stage n).levels nodes W Row decide to_target of_target begun X y fits (λ plain. row_settled y fits (subst (λ (z : Expr). expr_refuses next z ≡ true) (sym is) off)))

      pub without_known : (x : Expr) → (within (suc n)).nodes.expr_nodes.without.Fits x → expr_refuses next x ≡ true → Settled without_at x
      unfolding without_at rs.stage rs.nodes_over
      without_known x fits off = restated_settled read_without without_forth without_back without_out without_into x (without_kind x (without_back x fits) off)

      pub cascade_known : (x : Place × (Selectors × Value)) → (within (suc n)).nodes.expr_nodes.cascade.Fits x → cascade_refuses next x ≡ true → Settled cascade_at x
      unfolding cascade_at rs.stage rs.nodes_over gs.within gs.nodes_over
      cascade_known (place, (behind, value)) fits off = cascade_settled (known_at n Below) W (expr_refuses next) without_settled place behind value fits
          (λ op e is. value_refuses next reached place behind op e (subst (λ (y : Value). cascade_refuses next (place, (behind, y)) ≡ true) is off))
