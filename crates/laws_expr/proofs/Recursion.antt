-- The recursion over depths: all that is known where there is no room for a node, and of each depth from the one before.
use Rattle.std.proofs.Common.{◌≡◌, ℕ, zero, suc, ◌<◌, ◌≤◌, true, false, not, inl, inr, refl, ap, arith}
use Rattle.dart_token.specs.declared.sign.Sign.TheVariants as s
use Rattle.dart_tree.specs.LeafTokens.{type_tokens}
use Rattle.dart_tree.specs.Tree as t
use Rattle.dart_tree.specs.Tree.{Expr, Operand, Primary, Selectors, Value}
use Rattle.dart_tree.specs.Tokens.{expr_tokens, operand_tokens, primary_tokens}
use Rattle.grammar_laws.specs.Codes.{nowhere}
use Rattle.grammar_laws.specs.Laws.{Laws}
use Rattle.dart_syntax.specs.Agreement.{section_tokens}
use Rattle.dart_syntax.specs.Edges.{dots, question, opens_nothing, leaves, expr_takes}
use Rattle.dart_syntax.specs.Statements as gs
use Rattle.dart_syntax.specs.Statements.{within}
use Rattle.dart_syntax.proofs.AgreeingStages.{within_agrees}
use Rattle.token_codes.specs.Codes.{class_of, these}
use Rattle.syntax_readers.specs.Types.{type_first}
use Rattle.syntax_readers.specs.Levels as rl
use Rattle.syntax_readers.specs.Levels.{assigns, selected, postfix, unary}
use Rattle.syntax_readers.specs.Statements as rs
use Rattle.syntax_readers.specs.Statements.{stage}
use Rattle.syntax_readers.specs.Primaries.{operand_first, expr_first, selectors, primary}
use Rattle.laws_type.specs.Nexts.{after_type}
use Rattle.laws_expr.specs.Nexts.{after_without, after_operand, after_primary, after_cascade}
use Rattle.laws_expr.specs.Statements.{OthersReadAt, InsideReadAt, ExpressionsReadAt, collection_first, collections_within}
use Rattle.laws_expr.proofs.Open.{OpenLaws, Settled, open_strict_laws}
use Rattle.laws_expr.proofs.Chain.{half_operand}
use Rattle.laws_expr.proofs.Once.{half_without}
use Rattle.laws_expr.proofs.Functions.{half_primary}
use Rattle.laws_expr.proofs.Cascades.{half_cascade}
use Rattle.laws_expr.proofs.Unary.{primary_first}
use Rattle.laws_expr.proofs.Stages.{type_at, productions_at}
use Rattle.laws_expr.proofs.Depths.{RowFits, row_front}
use Rattle.laws_expr.proofs.Refusing.{refused_leaves}
use Rattle.laws_expr.proofs.Rising.{target_leaves}
use Rattle.laws_expr.proofs.Primary.{PrimaryFits, primary_front, function_at, primary_at, primary_known}
use Rattle.laws_expr.proofs.Heads.{target_at, target_known, unary_at, unary_known}
use Rattle.laws_expr.proofs.Table.{r11, low_at, low_settled, target_settled, settled11, high_settled}
use Rattle.laws_expr.proofs.Floor.{no_laws, expr_none, inside_none, function_none, collection_none, row_none, row_none_settled, row_flat, row_flat_settled, first_none, first_none_settled, target_none, target_none_settled}
use Rattle.laws_expr.proofs.Nodes.{expr_at, without_at, cascade_at, expr_known, without_known, cascade_known}
use Rattle.laws_expr.proofs.Reading.{Asked, ReadAt, of_phrase, of_trees, inside_at, claimed_at}

read_none : ReadAt 0
unfolding rs.stage gs.within
read_none = record {
  arguments = inside_none.arguments;
  collection = collection_none;
  function = function_none;
  expr = expr_none;
  expr_settled = λ next asked x wrong off. absurd wrong;
  without = no_laws expr_tokens expr_first after_without half_without;
  without_settled = λ next asked x wrong off. absurd wrong;
  cascade = no_laws section_tokens (these s.DotDot) after_cascade half_cascade;
  cascade_settled = λ next asked x wrong off. absurd wrong;
  target = target_none;
  target_settled = λ next asked x fits left. target_none_settled next x fits left;
  unary = first_none;
  unary_settled = λ next asked x fits left. first_none_settled next x fits left;
  rows = λ i lt. row_none i;
  low_settled = λ i lt low next asked x fits left. row_none_settled i next x fits left;
  high_settled = λ i lt high next asked x fits off. row_none_settled i next x fits (refused_leaves next x off);
  last = row_flat 11;
  last_settled = λ next asked x fits off. row_flat_settled 11 next x fits (refused_leaves next x off);
  assign_settled = λ x fits on. row_flat_settled 11 9 x fits (target_leaves 9 x (inl refl) on);
}

module _ (n : ℕ) (Others : OthersReadAt n) (R : ReadAt n) where
  abbrev Below : InsideReadAt n
  Below = inside_at n R

  types : Laws class_of (stage n).nodes.exprs.type type_tokens (within n).nodes.expr_nodes.type.Fits (within n).nodes.expr_nodes.type.front type_first after_type false
  types = of_trees (within_agrees n).nodes.expr_nodes.type (type_at n)

  Inside : InsideReadAt (suc n)
  Inside = record {
    expr = of_phrase (within_agrees (suc n)).nodes.expr_nodes.expr (open_strict_laws (expr_at n Below R.expr R.without R.cascade R.last R.assign_settled));
    arguments = (productions_at n Below).arguments;
  }

  -- ---- primaries, targets and unary expressions

  abbrev primaries : OpenLaws (primary (stage (suc n)).nodes.exprs) primary_tokens (PrimaryFits (suc n)) (primary_front (suc n)) primary_first after_primary half_primary
  primaries = primary_at n Inside Below Others R.expr

  expr_off : (next : ℕ) → Asked next → (x : Expr) → (within n).nodes.expr_nodes.expr.Fits x → expr_takes next opens_nothing dots x ≡ false → Settled R.expr x
  expr_off next asked x fits off = R.expr_settled next asked x fits (ap not off)

  primary_off : (next : ℕ) → Asked next → (x : Primary) → PrimaryFits (suc n) x → leaves next (t.primary x) ≡ true → Settled primaries x
  primary_off next asked x fits left = primary_known n Inside Below Others R.expr next (expr_off next asked) x fits left

  abbrev units : OpenLaws (unary (postfix (suc n) (selected (suc n) (primary (stage (suc n)).nodes.exprs) (selectors (stage n).nodes.exprs))) ((stage n).levels.row 0) (stage n).levels.target) operand_tokens (RowFits (suc n) 0) (row_front (suc n) 0) operand_first (after_operand 12) (half_operand 12)
  units = unary_at n Below primaries R.unary R.target (R.rows 0 (omega arith))

  unit_off : (next : ℕ) → Asked next → (x : Operand) → RowFits (suc n) 0 x → leaves next x ≡ true → Settled units x
  unit_off next asked x fits left = unary_known n Below primaries R.unary R.target (R.rows 0 (omega arith)) next (primary_off next asked) (R.unary_settled next asked) (R.target_settled next asked) (R.low_settled 0 (omega arith) (omega arith) next asked) x fits left

  -- ---- the next depth

  question_over : (next : ℕ) → Asked next → question ≤ next
  question_over next (inl is) = omega (arith, is)
  question_over next (inr is) = omega (arith, is)

  collections : Laws class_of (stage (suc n)).nodes.exprs.collection primary_tokens (collections_within (suc n)).Fits (collections_within (suc n)).front collection_first nowhere false
  unfolding collections_within
  collections = (productions_at n Below).collection

  read_more : ReadAt (suc n)
  unfolding rs.stage rl.levels_over rl.rows_over
  read_more = record {
    arguments = (productions_at n Below).arguments;
    collection = collections;
    function = function_at n Inside Below Others R.expr;
    expr = expr_at n Below R.expr R.without R.cascade R.last R.assign_settled;
    expr_settled = λ next asked x fits off. expr_known n Below R.expr R.without R.cascade R.last R.assign_settled next (question_over next asked) (R.expr_settled next asked) (R.without_settled next asked) (R.cascade_settled next asked) (R.last_settled next asked) x fits off;
    without = without_at n Below R.expr R.without R.cascade R.last R.assign_settled;
    without_settled = λ next asked x fits off. without_known n Below R.expr R.without R.cascade R.last R.assign_settled next (question_over next asked) (R.expr_settled next asked) (R.without_settled next asked) (R.cascade_settled next asked) (R.last_settled next asked) x fits off;
    cascade = cascade_at n Below R.expr R.without R.cascade R.last R.assign_settled;
    cascade_settled = λ next asked x fits off. cascade_known n Below R.expr R.without R.cascade R.last R.assign_settled next (question_over next asked) (R.expr_settled next asked) (R.without_settled next asked) (R.cascade_settled next asked) (R.last_settled next asked) x fits off;
    target = target_at n Below primaries;
    target_settled = λ next asked x fits left. target_known n Below primaries next (primary_off next asked) x fits left;
    unary = units;
    unary_settled = unit_off;
    rows = low_at n units R.rows unit_off R.low_settled types R.without;
    low_settled = low_settled n units R.rows unit_off R.low_settled types R.without;
    high_settled = high_settled n units R.rows unit_off R.low_settled types R.without R.high_settled R.without_settled;
    last = r11 n units R.rows unit_off R.low_settled types R.without;
    last_settled = settled11 n units R.rows unit_off R.low_settled types R.without R.high_settled R.without_settled;
    assign_settled = target_settled n units R.rows unit_off R.low_settled types R.without;
  }

read_at : (n : ℕ) → ((m : ℕ) → m < n → OthersReadAt m) → ReadAt n
read_at zero others = read_none
read_at (suc n) others = read_more n (others n (omega arith)) (read_at n (λ m lt. others m (omega (arith, lt))))

-- at each depth, where parameters and blocks are read at the smaller ones
pub expressions_at : (n : ℕ) → ((m : ℕ) → m < n → OthersReadAt m) → ExpressionsReadAt n
expressions_at n others = claimed_at n (read_at n others)
