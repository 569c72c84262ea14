-- Primaries at a depth (ECMA-408, 16 Expressions), from the expressions and arguments there, and from the expressions, parameters and blocks one node less deep.
use Rattle.std.proofs.Common.{ℕ, suc, false, List, inl, inr, ◌≡◌, true, None, ap, sym, subst, ◌∙◌, ◌||◌}
use Rattle.dart_base.specs.declared.place.Place.{Place}
use Rattle.dart_token.specs.declared.token.Token.{Token}
use Rattle.dart_token.specs.declared.sign.Sign.TheVariants as s
use Rattle.dart_token.specs.declared.word.Word.TheVariants as w
use Rattle.dart_tree.specs.Tree as t
use Rattle.dart_tree.specs.Tree.{Primary, Selector, Expr, Parameters}
use Rattle.dart_tree.specs.Tokens.{expr_tokens, primary_tokens}
use Rattle.grammar_laws.specs.Codes.{nowhere}
use Rattle.grammar_laws.specs.Fronts.{Front, Either, EitherFit, Made}
use Rattle.dart_syntax.specs.Phrases.{Phrase, ◌~◌, Anything, made}
use Rattle.dart_syntax.specs.Leaves as l
use Rattle.dart_syntax.specs.Expressions as g
use Rattle.dart_syntax.specs.Statements as gs
use Rattle.dart_syntax.specs.Statements.{within}
use Rattle.dart_syntax.proofs.AgreeingStages.{within_agrees}
use Rattle.token_codes.specs.Codes.{these}
use Rattle.token_codes.specs.Reads.{Reads}
use Rattle.syntax_readers.specs.Primaries.{expr_first, parenthesis, primary}
use Rattle.syntax_readers.specs.Statements as rs
use Rattle.syntax_readers.specs.Statements.{stage}
use Rattle.laws_expr.specs.Nexts.{after_expr, after_primary}
use Rattle.laws_expr.specs.Statements.{OthersReadAt, InsideReadAt, collection_first, objects_over, collections_within, functions_within}
use Rattle.laws_expr.proofs.Open.{OpenLaws, open_restated, Settled, stops_before, restated_settled}
use Rattle.laws_expr.proofs.Functions.{half_expr, half_primary, body_laws, function_laws, function_settled}
use Rattle.laws_expr.proofs.Enclosed.{within_encloses}
use Rattle.laws_expr.proofs.Bracketed.{parameters_bracketed, parenthesized_bracketed, parenthesized_of}
use Rattle.laws_expr.proofs.Parentheses.{Bodied, function_bodied, parenthesis_laws, literal_settled, parenthesized_settled}
use Rattle.laws_expr.proofs.Primaries.{primary_laws, is_arrow, primary_closed, primary_settled}
use Rattle.laws_expr.proofs.Stages.{known_at, names_dot_at, productions_at}
use Rattle.laws_expr.proofs.Unary.{primary_first}
use Rattle.grammar_laws.proofs.Codes.{or_false}
use Rattle.dart_syntax.specs.Edges.{dots, opens_nothing, leaves, binds_between, expr_takes, operand_takes}
use Rattle.dart_syntax.specs.Edges as edge
use Rattle.laws_expr.proofs.Sets.{not_false}

-- `super` alone
abbrev pub AloneFits : Primary → Type 0
AloneFits = Made t.bare_super Anything

abbrev pub PrimaryFits : ℕ → Primary → Type 0
PrimaryFits n = EitherFit (g.primary_of (within n).nodes.expr_nodes).Fits AloneFits

abbrev pub primary_front : ℕ → Front Token
primary_front n = Either (g.primary_of (within n).nodes.expr_nodes).front (l.word w.Super).front

module _ (n : ℕ) (Inside : InsideReadAt (suc n)) (Below : InsideReadAt n) (Others : OthersReadAt n)
    (E : OpenLaws (stage n).nodes.exprs.expr expr_tokens (within n).nodes.expr_nodes.expr.Fits (within n).nodes.expr_nodes.expr.front expr_first after_expr half_expr) where
  -- ---- what begins with a parenthesis, and lists and maps

  pub function_at : OpenLaws (stage (suc n)).nodes.exprs.function primary_tokens (functions_within (suc n)).Fits (functions_within (suc n)).front (these s.LeftParenthesis) after_primary half_primary
  unfolding rs.stage rs.nodes_over functions_within
  function_at = function_laws (stage n).nodes.exprs (within_agrees n).nodes.expr_nodes E Others.parameters Others.block

  function_ends : Bodied (functions_within (suc n)).Fits (functions_within (suc n)).front
  unfolding functions_within
  function_ends = function_bodied (within n).nodes.expr_nodes (parameters_bracketed n) (within_agrees n).nodes.expr_nodes.parameters (body_laws (stage n).nodes.exprs (within_agrees n).nodes.expr_nodes E Others.parameters Others.block)

  collection_at : Reads (stage (suc n)).nodes.exprs.collection (collections_within (suc n)) collection_first nowhere false
  collection_at = (productions_at n Below).collection

  pub parenthesis_at : OpenLaws (parenthesis (stage (suc n)).nodes.exprs) primary_tokens (EitherFit (functions_within (suc n)).Fits (parenthesized_of (within (suc n)).nodes.expr_nodes.expr).Fits)
      (Either (functions_within (suc n)).front (parenthesized_of (within (suc n)).nodes.expr_nodes.expr).front) (these s.LeftParenthesis) after_primary half_primary
  parenthesis_at = parenthesis_laws (stage (suc n)).nodes.exprs Inside.expr (within_agrees (suc n)).nodes.expr_nodes.expr (parenthesized_bracketed (within_encloses (suc n)).nodes.expr_nodes.expr) function_at function_ends

  -- ---- the grammar's primaries, and `super` alone

  abbrev nodes : g.ExprNodes
  nodes = (within (suc n)).nodes.expr_nodes

  abbrev Access : Phrase Primary
  Access = made primary_tokens (λ (x : Place × Selector). t.super_access x.0 x.1) (l.word w.Super ~ g.selector_of nodes)

  abbrev Atoms : Phrase Primary
  Atoms = made primary_tokens t.atom l.atom

  abbrev Texts : Phrase Primary
  Texts = made primary_tokens t.text (g.strings nodes.expr)

  abbrev ReadFits : Primary → Type 0
  ReadFits = EitherFit Atoms.Fits (EitherFit Texts.Fits (EitherFit (EitherFit Access.Fits AloneFits) (EitherFit (objects_over nodes).Fits (EitherFit (EitherFit (functions_within (suc n)).Fits (parenthesized_of nodes.expr).Fits) (collections_within (suc n)).Fits))))

  abbrev read_front : Front Token
  read_front = Either Atoms.front (Either Texts.front (Either Access.front (Either (objects_over nodes).front (Either (Either (functions_within (suc n)).front (parenthesized_of nodes.expr).front) (collections_within (suc n)).front))))

  forth : (x : Primary) → ReadFits x → PrimaryFits (suc n) x
  unfolding gs.within gs.nodes_over functions_within collections_within
  forth x (inl fits) = inl (inl fits)
  forth x (inr (inl fits)) = inl (inr (inl fits))
  forth x (inr (inr (inl (inl fits)))) = inl (inr (inr (inl fits)))
  forth x (inr (inr (inl (inr fits)))) = inr fits
  forth x (inr (inr (inr (inl fits)))) = inl (inr (inr (inr (inl fits))))
  forth x (inr (inr (inr (inr (inl (inl fits)))))) = inl (inr (inr (inr (inr (inr (inr (inr fits)))))))
  forth x (inr (inr (inr (inr (inl (inr fits)))))) = inl (inr (inr (inr (inr (inl fits)))))
  forth x (inr (inr (inr (inr (inr (inl fits)))))) = inl (inr (inr (inr (inr (inr (inl fits))))))
  forth x (inr (inr (inr (inr (inr (inr fits)))))) = inl (inr (inr (inr (inr (inr (inr (inl fits)))))))

  back : (x : Primary) → PrimaryFits (suc n) x → ReadFits x
  unfolding gs.within gs.nodes_over functions_within collections_within
  back x (inl (inl fits)) = inl fits
  back x (inl (inr (inl fits))) = inr (inl fits)
  back x (inl (inr (inr (inl fits)))) = inr (inr (inl (inl fits)))
  back x (inr fits) = inr (inr (inl (inr fits)))
  back x (inl (inr (inr (inr (inl fits))))) = inr (inr (inr (inl fits)))
  back x (inl (inr (inr (inr (inr (inl fits)))))) = inr (inr (inr (inr (inl (inr fits)))))
  back x (inl (inr (inr (inr (inr (inr (inl fits))))))) = inr (inr (inr (inr (inr (inl fits)))))
  back x (inl (inr (inr (inr (inr (inr (inr (inl fits)))))))) = inr (inr (inr (inr (inr (inr fits)))))
  back x (inl (inr (inr (inr (inr (inr (inr (inr fits)))))))) = inr (inr (inr (inr (inl (inl fits)))))

  out : (ts : List Token) → read_front ts → primary_front (suc n) ts
  unfolding gs.within gs.nodes_over functions_within collections_within
  out ts (inl f) = inl (inl f)
  out ts (inr (inl f)) = inl (inr (inl f))
  out ts (inr (inr (inl f))) = inl (inr (inr (inl f)))
  out ts (inr (inr (inr (inl f)))) = inl (inr (inr (inr (inl f))))
  out ts (inr (inr (inr (inr (inl (inl f)))))) = inl (inr (inr (inr (inr (inr (inr (inr f)))))))
  out ts (inr (inr (inr (inr (inl (inr f)))))) = inl (inr (inr (inr (inr (inl f)))))
  out ts (inr (inr (inr (inr (inr (inl f)))))) = inl (inr (inr (inr (inr (inr (inl f))))))
  out ts (inr (inr (inr (inr (inr (inr f)))))) = inl (inr (inr (inr (inr (inr (inr (inl f)))))))

  into : (ts : List Token) → primary_front (suc n) ts → read_front ts
  unfolding gs.within gs.nodes_over functions_within collections_within
  into ts (inl (inl f)) = inl f
  into ts (inl (inr (inl f))) = inr (inl f)
  into ts (inl (inr (inr (inl f)))) = inr (inr (inl f))
  into ts (inr f) = inr (inr (inl (inl f)))
  into ts (inl (inr (inr (inr (inl f))))) = inr (inr (inr (inl f)))
  into ts (inl (inr (inr (inr (inr (inl f)))))) = inr (inr (inr (inr (inl (inr f)))))
  into ts (inl (inr (inr (inr (inr (inr (inl f))))))) = inr (inr (inr (inr (inr (inl f)))))
  into ts (inl (inr (inr (inr (inr (inr (inr (inl f)))))))) = inr (inr (inr (inr (inr (inr f)))))
  into ts (inl (inr (inr (inr (inr (inr (inr (inr f)))))))) = inr (inr (inr (inr (inl (inl f)))))

  pub primary_at : OpenLaws (primary (stage (suc n)).nodes.exprs) primary_tokens (PrimaryFits (suc n)) (primary_front (suc n)) primary_first after_primary half_primary
  unfolding collections_within
  primary_at = open_restated (primary_laws (known_at (suc n) Inside) (names_dot_at (suc n)) collection_at parenthesis_at) forth back out into

  -- ---- a `>` behind a primary is given as a half, or stopped before, where that holds of the expressions behind `=>`

  module _ (next : ℕ) (known : (x : Expr) → (within n).nodes.expr_nodes.expr.Fits x → expr_takes next opens_nothing dots x ≡ false → Settled E x) where
    value_off : (given : Parameters) (arrow : Place) (value : Expr) → leaves next (t.primary (t.function_literal given (t.arrow_body arrow value None))) ≡ true → expr_takes next opens_nothing dots value ≡ false
    unfolding operand_takes
    value_off given arrow value left = (or_false (binds_between next opens_nothing edge.nowhere edge.nowhere) (expr_takes next opens_nothing dots value) (not_false (binds_between next opens_nothing edge.nowhere edge.nowhere || expr_takes next opens_nothing dots value) left)).1

    function_known : (x : Primary) → (functions_within (suc n)).Fits x → leaves next (t.primary x) ≡ true → Settled function_at x
    unfolding functions_within function_at rs.stage rs.nodes_over
    function_known x ((given, body), (fits, inl ((arrow, value), (at, value_fits), same)), is) left =
        let e : t.function_literal given (t.arrow_body arrow value None) ≡ x = ap (t.function_literal given) same ∙ is in
        subst (Settled function_at) e (function_settled (stage n).nodes.exprs (within_agrees n).nodes.expr_nodes E Others.parameters Others.block given arrow value fits value_fits
        (known value value_fits (value_off given arrow value (subst (λ (y : Primary). leaves next (t.primary y) ≡ true) (sym e) left))))
    function_known x ((given, body), (fits, inr (block, block_fits, same)), is) left =
        let e : t.function_literal given (t.block_body block) ≡ x = ap (t.function_literal given) same ∙ is in
        stops_before function_at x ((given, body), (fits, inr (block, block_fits, same)), is) (primary_closed x (ap is_arrow (sym e)))

    parenthesis_known : (x : Primary) → EitherFit (functions_within (suc n)).Fits (parenthesized_of (within (suc n)).nodes.expr_nodes.expr).Fits x → leaves next (t.primary x) ≡ true → Settled parenthesis_at x
    unfolding parenthesis_at
    parenthesis_known x (inl fits) left = literal_settled (stage (suc n)).nodes.exprs Inside.expr (within_agrees (suc n)).nodes.expr_nodes.expr (parenthesized_bracketed (within_encloses (suc n)).nodes.expr_nodes.expr) function_at function_ends x fits (function_known x fits left)
    parenthesis_known x (inr fits) left = parenthesized_settled (stage (suc n)).nodes.exprs Inside.expr (within_agrees (suc n)).nodes.expr_nodes.expr (parenthesized_bracketed (within_encloses (suc n)).nodes.expr_nodes.expr) function_at function_ends x fits

    collection_plain : (x : Primary) → (collections_within (suc n)).Fits x → is_arrow x ≡ false
    unfolding collections_within
    collection_plain x (inl (parts, fits, is)) = ap is_arrow (sym is)
    collection_plain x (inr (parts, fits, is)) = ap is_arrow (sym is)

    pub primary_known : (x : Primary) → PrimaryFits (suc n) x → leaves next (t.primary x) ≡ true → Settled primary_at x
    unfolding primary_at collections_within
    primary_known x fits left = restated_settled (primary_laws (known_at (suc n) Inside) (names_dot_at (suc n)) collection_at parenthesis_at) forth back out into x
        (primary_settled (known_at (suc n) Inside) (names_dot_at (suc n)) collection_at parenthesis_at collection_plain next parenthesis_known x (back x fits) left)
