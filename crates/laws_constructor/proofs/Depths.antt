-- At every depth one of `behind_init` stands behind each brace that closes in initialisers outside all other brackets.
use Rattle.std.proofs.Common.{◌≡◌, ℕ, zero, suc, Bool, true, false, List, [], ◌++◌, inl, inr, ◌⊎◌, refl, ap, ◌∙◌}
use Rattle.dart_token.specs.declared.token.Token.{Token}
use Rattle.dart_token.specs.declared.sign.Sign.TheVariants as s
use Rattle.dart_token.specs.declared.word.Word.TheVariants as w
use Rattle.dart_tree.specs.Tree as t
use Rattle.dart_tree.specs.Tree.{Arguments, Block, Operand, Parameters, Primary}
use Rattle.dart_tree.specs.Tokens.{arguments_tokens, block_tokens, expr_tokens, operand_tokens, parameters_tokens, primary_tokens, value_tokens, selectors_tokens}
use Rattle.dart_tree.specs.LeafTokens.{type_tokens}
use Rattle.dart_tree.specs.UnitTokens.{init_kind_tokens, initializers_tokens}
use Rattle.dart_syntax.specs.Phrases.{Phrase, made}
use Rattle.dart_syntax.specs.Leaves.{this_dot_tokens}
use Rattle.dart_syntax.specs.Expressions.{ExprNodes, arguments_over, literal_over, primary_assigns}
use Rattle.dart_syntax.specs.Statements.{nodes_over, this_dot, within}
use Rattle.dart_syntax.specs.Agreement.{section_tokens}
use Rattle.dart_syntax.specs.Declarations as c
use Rattle.dart_syntax.proofs.AgreeingDeclarations.{said_inits}
use Rattle.dart_syntax.proofs.AgreeingExpressions.{said_cascades}
use Rattle.dart_syntax.proofs.AgreeingStages.{within_agrees}
use Rattle.syntax_measures.specs.Relations.{ExprsRelate}
use Rattle.syntax_measures.proofs.BracketKinds.{parentheses, braces}
use Rattle.syntax_measures.proofs.WalkExpressions.{walk_argument_items}
use Rattle.laws_expr.proofs.Bracketed.{parameters_bracketed}
use Rattle.laws_expr.proofs.Enclosed.{encloses, encloses_walk, within_encloses}
use Rattle.laws_unit.specs.Members.{inits_at}
use Rattle.laws_constructor.proofs.Blocks.{block_begins, block_closes}
use Rattle.laws_constructor.proofs.Calm.{Leads, Opens, early, late, no_tree, enclosed, bracket_calm, bracket_begun, both, maybe, all, one, good_when, make}
use Rattle.laws_constructor.proofs.Operands.{ExprsLead, LevelsLead, the_sign, the_word, an_identifier, a_dot_name, type_leads, lead_bracketed, lead_primary, lead_assigns, lead_literal, lead_cascade, lead_rows, lead_cascaded, lead_postfix, lead_target, lead_unary, lead_expr, lead_without}

-- ---- parameters, blocks and arguments, which end with their own bracket

parameters_open : (x : Parameters) (rest : List Token) → Opens parentheses (parameters_tokens x ++ rest)
unfolding parameters_tokens
parameters_open (t.the_parameters opening required brackets optional closing) rest = (opening, _, refl)

parameters_begun : (n : ℕ) (ts : List Token) → (within n).nodes.expr_nodes.parameters.front ts → (ts ≡ []) ⊎ Opens parentheses ts
unfolding within nodes_over
parameters_begun zero ts is = inl is
parameters_begun (suc n) ts (inl (inl (inl is))) = inl is
parameters_begun (suc n) ts (inl (inl (inr (place, is)))) = inr (place, [], is)
parameters_begun (suc n) ts (inl (inr (place, more, at, on, e, f))) = inr (place, more, e)
parameters_begun (suc n) ts (inr (inl (inl (inl is)))) = inl is
parameters_begun (suc n) ts (inr (inl (inl (inr (place, is))))) = inr (place, [], is)
parameters_begun (suc n) ts (inr (inl (inr (place, more, at, on, e, f)))) = inr (place, more, e)
parameters_begun (suc n) ts (inr (inr (inl (inl is)))) = inl is
parameters_begun (suc n) ts (inr (inr (inl (inr (place, is))))) = inr (place, [], is)
parameters_begun (suc n) ts (inr (inr (inr (place, more, at, on, e, f)))) = inr (place, more, e)

parameters_lead : (n : ℕ) → Leads true false parameters_tokens (within n).nodes.expr_nodes.parameters
parameters_lead n = record {
  same = (within_agrees n).nodes.expr_nodes.parameters.spells;
  ends = λ x fits rest k. bracket_calm parentheses (parameters_tokens x ++ rest) rest (parameters_open x rest) ((parameters_bracketed n).ends x fits rest) k;
  holds = λ ts f. bracket_begun parentheses ts (parameters_begun n ts f) ((parameters_bracketed n).begins ts f);
}

block_open : (x : Block) (rest : List Token) → Opens braces (block_tokens x ++ rest)
unfolding block_tokens
block_open (t.the_block opening stmts closing) rest = (opening, _, refl)

block_begun : (n : ℕ) (ts : List Token) → (within n).nodes.expr_nodes.block.front ts → (ts ≡ []) ⊎ Opens braces ts
unfolding within nodes_over
block_begun zero ts is = inl is
block_begun (suc n) ts (inl (inl is)) = inl is
block_begun (suc n) ts (inl (inr (place, is))) = inr (place, [], is)
block_begun (suc n) ts (inr (place, more, at, on, e, f)) = inr (place, more, e)

block_lead : (n : ℕ) → Leads true true block_tokens (within n).nodes.expr_nodes.block
block_lead n = record {
  same = (within_agrees n).nodes.expr_nodes.block.spells;
  ends = λ x fits rest k. bracket_calm braces (block_tokens x ++ rest) rest (block_open x rest) (block_closes n x rest fits) k;
  holds = λ ts f. bracket_begun braces ts (block_begun n ts f) (block_begins n ts f);
}

lead_arguments : (n : ℕ) {p : ExprNodes} → ExprsRelate (encloses n) p p → Leads true false arguments_tokens (arguments_over p)
unfolding arguments_tokens
lead_arguments n {p} E = make arguments_tokens _ (enclosed parentheses (walk_argument_items encloses_walk {m = n} {p = p} {q = p} E)) (λ x. refl)

-- ---- literals are no targets

no_literal : (p : ExprNodes) (x : Primary) → (literal_over p).Fits x → primary_assigns x ≡ true → ⊥
no_literal p x (inl ((types, (opening, ((items, comma), closing))), fits, is)) on = let bad : false ≡ true = ap primary_assigns is ∙ on in absurd cc
no_literal p x (inr (inl ((types, (opening, ((parts, comma), closing))), fits, is))) on = let bad : false ≡ true = ap primary_assigns is ∙ on in absurd cc
no_literal p x (inr (inr ((given, body), fits, is))) on = let bad : false ≡ true = ap primary_assigns is ∙ on in absurd cc

-- ---- at each depth

module _ (n : ℕ) (L : ExprsLead (within n).nodes.expr_nodes) (U : LevelsLead (within n).levels) where
  abbrev E : ExprsRelate (encloses n) (within n).nodes.expr_nodes (within n).nodes.expr_nodes
  E = (within_encloses n).nodes.expr_nodes

  exprs_over : ExprsLead (within (suc n)).nodes.expr_nodes
  unfolding within nodes_over operand_tokens primary_tokens
  exprs_over = record {
    type = type_leads (suc n);
    expr = lead_expr U L (lead_cascaded n E L U);
    without = lead_without U L (lead_cascaded n E L U);
    cascade = lead_cascade n E L;
    bare = make operand_tokens (λ word. t.primary (t.bare_super word)) (the_word w.Super refl) (λ x. refl);
    literal = lead_literal n E L;
    no_target = no_literal (within n).nodes.expr_nodes;
    arguments = lead_arguments n E;
    parameters = parameters_lead (suc n);
    block = block_lead (suc n);
  }

  lead_operand : {q : Phrase Primary} {to : Bool} → Leads false to primary_tokens q → Leads false to operand_tokens (made operand_tokens t.primary q)
  unfolding operand_tokens
  lead_operand P = make operand_tokens t.primary P (λ x. refl)

  levels_more : ExprsLead (within (suc n)).nodes.expr_nodes → LevelsLead (within (suc n)).levels
  unfolding within
  levels_more H =
      let here = (within_encloses (suc n)).nodes.expr_nodes in
      let primary = lead_primary (suc n) here H in
      let postfix = one (lead_operand primary) (late (lead_postfix U)) in
      record {
        primary = primary;
        assigns = lead_assigns (suc n) here H;
        bracketed = lead_bracketed (suc n) here H;
        target = lead_target U (lead_assigns (suc n) here H);
        postfix = postfix;
        row = lead_rows n E L (one postfix (lead_unary U L.bare)) (within n).levels.row U.row;
      }

exprs_none : ExprsLead (within zero).nodes.expr_nodes
unfolding within value_tokens selectors_tokens
exprs_none = record {
  type = no_tree false type_tokens false;
  expr = no_tree false expr_tokens true;
  without = no_tree false expr_tokens true;
  cascade = no_tree true section_tokens true;
  bare = no_tree false operand_tokens false;
  literal = no_tree false primary_tokens true;
  no_target = λ x fits on. absurd fits;
  arguments = no_tree true arguments_tokens false;
  parameters = parameters_lead zero;
  block = block_lead zero;
}

levels_flat : LevelsLead (within zero).levels
unfolding within operand_tokens
levels_flat =
    let here = (within_encloses zero).nodes.expr_nodes in
    let operand = make operand_tokens t.primary (lead_primary 0 here exprs_none) (λ x. refl) in
    record {
      primary = lead_primary 0 here exprs_none;
      assigns = lead_assigns 0 here exprs_none;
      bracketed = lead_bracketed 0 here exprs_none;
      target = make operand_tokens t.primary (good_when primary_assigns (lead_assigns 0 here exprs_none)) (λ x. refl);
      postfix = operand;
      row = λ i. operand;
    }

all_lead : (n : ℕ) → ExprsLead (within n).nodes.expr_nodes × LevelsLead (within n).levels
all_lead zero = (exprs_none, levels_flat)
all_lead (suc n) = let below = all_lead n in let here = exprs_over n below.0 below.1 in (here, levels_more n below.0 below.1 here)

-- ---- initialisers (10.6.1 Generative Constructors)

lead_this : (p : ExprNodes) → Leads false false this_dot_tokens (this_dot p)
lead_this p = make this_dot_tokens _ (both (the_word w.This refl) (the_sign s.Dot refl refl)) (λ x. refl)

init_lead : (n : ℕ) → Leads false true init_kind_tokens (c.init_within n)
init_lead zero = no_tree false init_kind_tokens true
init_lead (suc n) = one
    (make init_kind_tokens _ (late (both (the_word w.Super refl) (both (maybe (early a_dot_name)) (early (all_lead n).0.arguments)))) (λ x. refl))
    (make init_kind_tokens _ (both (maybe (lead_this (within n).nodes.expr_nodes)) (both an_identifier (both (the_sign s.Assign refl refl) (lead_cascaded n (within_encloses n).nodes.expr_nodes (all_lead n).0 (all_lead n).1)))) (λ x. simp said_cascades))

pub inits_lead : (n : ℕ) → Leads false true initializers_tokens (inits_at n)
inits_lead n = make initializers_tokens _ (both (the_sign s.Colon refl refl) (both (init_lead n) (all (both (the_sign s.Comma refl refl) (init_lead n))))) (λ x. simp said_inits)
