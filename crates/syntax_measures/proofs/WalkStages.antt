-- The walk over statements, and over all that stands within a depth.
use Rattle.std.proofs.Common.{◌≡◌, ℕ, zero, suc, max, ◌≤◌, arith, List, [], ◌∷◌, Option, None, Some, refl, ap, inl, inr, sym, subst, append_assoc}
use Rattle.std.proofs.lemmas.List.{append-nil}
use Rattle.grammar_laws.specs.Fronts.{both_spelling, Alone}
use Rattle.dart_base.specs.declared.place.Place.{Place}
use Rattle.dart_token.specs.declared.token.Token.{Token}
use Rattle.dart_token.specs.declared.sign.Sign.TheVariants as s
use Rattle.dart_token.specs.declared.word.Word.TheVariants as w
use Rattle.dart_tree.specs.declared.identifier.Label.{Label}
use Rattle.dart_tree.specs.declared.statement.Catch.{Catch}
use Rattle.dart_tree.specs.LeafTokens.{on_text}
use Rattle.dart_tree.specs.Tree as t
use Rattle.dart_tree.specs.Tree.{Expr, Operand, Primary, Stmt, Loop, Arguments, Parameters, Variables, Function, Block, Items, SwitchParts, TryParts}
use Rattle.dart_tree.specs.Tokens.{expr_tokens, operand_tokens, primary_tokens, stmt_tokens, loop_tokens, block_tokens, items_tokens, switch_parts_tokens, try_parts_tokens}
use Rattle.dart_tree.specs.Depth as height
use Rattle.dart_tree.specs.Depth.{height_if, highest, catch_height}
use Rattle.dart_syntax.specs.Phrases.{made}
use Rattle.dart_syntax.specs.Leaves.{sign_tokens, word, word_tokens, begins_with_no_brace}
use Rattle.dart_syntax.specs.Expressions.{ExprNodes, literal_over}
use Rattle.dart_syntax.specs.Statements.{StmtNodes, Within, to_stmts, to_default, to_cases, to_finally, is_shut, condition_over, block_over, if_over, updates_over, for_over, while_over, do_over, switch_parts_over, switch_over, try_part_over, append_parts, join_parts, finally_over, try_over, compound_over, jump_of, expression_of, declaration_of, other_statement_of, unlabelled_of, stmt_of, nodes_over, no_nodes, within}
use Rattle.dart_syntax.specs.Agreement.{StmtsAgree}
use Rattle.dart_syntax.proofs.AgreeingStages.{said_stmts, said_labels, said_switch_parts, said_finally, said_append, said_parts, within_agrees}
use Rattle.syntax_measures.specs.Relations.{Relation, StmtsRelate, WithinRelate, written_catch_height}
use Rattle.syntax_measures.proofs.Walk.{Walk, higher}
use Rattle.syntax_measures.proofs.Walking.{emptied, the_sign, the_word, the_name, an_identifier, after, closing_after, maybe_flat, all_flat, before, enclosed}
use Rattle.syntax_measures.proofs.WalkTypes.{some_height, walk_some_kind, walk_type_within}
use Rattle.syntax_measures.proofs.WalkExpressions.{a_label, walk_maybe_expr, walk_plain_list, walk_arguments_node, walk_literal, walk_cascade}
use Rattle.syntax_measures.proofs.WalkLevels.{walk_expr, walk_without, walk_flat, walk_levels, walk_raised, walk_lowered}
use Rattle.syntax_measures.proofs.WalkStatements.{walk_parameter, walk_parameters, walk_variables, walk_local_function, walk_catch}
use Rattle.syntax_measures.proofs.BracketKinds.{Bracket, parentheses, braces}

-- ---- heights

high_stmts : (xs : List Stmt) → height.stmts_height (to_stmts xs) ≡ highest height.stmt_height xs
unfolding height.stmts_height
high_stmts [] = refl
high_stmts (x ∷ xs) = ap (λ (k : ℕ). max (height.stmt_height x) k) (high_stmts xs)

high_labels : (xs : List Label) (x : Stmt) → height.stmt_height (t.with_labels xs x) ≡ height.stmt_height x
unfolding height.stmt_height
high_labels [] x = refl
high_labels (y ∷ ys) x = high_labels ys x

high_catch : (x : Option Catch) → catch_height x ≡ height_if written_catch_height x
high_catch None = refl
high_catch (Some x) = refl

high_cases : (xs : List (List Label × (Place × (Expr × (Place × List Stmt))))) (rest : SwitchParts) → height.switch_parts_height (to_cases xs rest) ≡ max (highest (λ x. max (height.expr_height x.1.1.0) (highest height.stmt_height x.1.1.1.1)) xs) (height.switch_parts_height rest)
unfolding height.switch_parts_height height.value_height
high_cases [] rest = omega arith
high_cases (x ∷ xs) rest = omega (arith, high_cases xs rest, high_stmts x.1.1.1.1)

high_default : (x : Option (List Label × (Place × (Place × List Stmt)))) → height.switch_parts_height (to_default x) ≡ height_if (λ x. highest height.stmt_height x.1.1.1) x
unfolding height.switch_parts_height height.value_height
high_default None = refl
high_default (Some x) = omega (arith, high_stmts x.1.1.1)

high_finally : (x : Option (Place × Block)) → height.try_parts_height (to_finally x) ≡ height_if (λ x. height.block_height x.1) x
unfolding height.try_parts_height
high_finally None = refl
high_finally (Some x) = omega arith

high_append : (x rest : TryParts) → height.try_parts_height (append_parts x rest) ≡ max (height.try_parts_height x) (height.try_parts_height rest)
unfolding height.try_parts_height
high_append t.no_try_parts rest = omega arith
high_append (t.try_part kind block more) rest = omega (arith, high_append more rest)

high_parts : (xs : List TryParts) (rest : TryParts) → height.try_parts_height (join_parts xs rest) ≡ max (highest height.try_parts_height xs) (height.try_parts_height rest)
unfolding height.try_parts_height
high_parts [] rest = omega arith
high_parts (x ∷ xs) rest = omega (arith, high_append x (join_parts xs rest), high_parts xs rest)

abbrev condition_tokens : Place × (Expr × Place) → List Token
condition_tokens = both_spelling (sign_tokens s.LeftParenthesis) (both_spelling expr_tokens (sign_tokens s.RightParenthesis))

abbrev updates_tokens : Items × (Place × Stmt) → List Token
updates_tokens = both_spelling items_tokens (both_spelling (sign_tokens s.RightParenthesis) stmt_tokens)

abbrev finally_tokens : Place × Block → List Token
finally_tokens = both_spelling (word_tokens w.Finally) block_tokens

module _ {R : ℕ → Relation} {C : Bracket → ℕ → Relation} {Pair : ℕ → ℕ → Type 0} (W : Walk R C Pair) {m : ℕ} where
  -- ---- statements that hold statements

  module _ {p q : Within} (I : WithinRelate (R m) p q) where
    walk_condition : R m (Place × (Expr × Place)) (λ x. height.expr_height x.1.0) condition_tokens (condition_over p) (condition_over q)
    walk_condition = enclosed W parentheses I.nodes.expr_nodes.expr

    walk_block : R (suc m) Block height.block_height block_tokens (block_over p) (block_over q)
    unfolding block_tokens height.block_height
    walk_block = W.make block_tokens height.block_height _ (W.node (enclosed W braces (W.all I.stmt))) (λ x. simp said_stmts) (λ x. simp high_stmts)

    walk_if : R (suc m) Stmt height.stmt_height stmt_tokens (if_over p) (if_over q)
    unfolding stmt_tokens height.stmt_height
    walk_if = W.one (W.make stmt_tokens height.stmt_height _ (W.node (after W (the_word W w.If) (W.both walk_condition I.stmt))) (λ x. simp append_assoc) (λ x. refl))
        (W.make stmt_tokens height.stmt_height _ (W.node (after W (the_word W w.If) (W.both walk_condition (W.both_if is_shut I.stmt (after W (the_word W w.Else) I.stmt))))) (λ x. simp append_assoc) (λ x. refl))

    walk_updates : C parentheses m (Items × (Place × Stmt)) (higher height.items_height (λ x. height.stmt_height x.1)) updates_tokens (updates_over p) (updates_over q)
    unfolding items_tokens height.items_height
    walk_updates = W.closing (W.or_none t.no_items refl refl (walk_plain_list W I.nodes.expr_nodes.expr)) (W.right_then parentheses I.stmt)

    walk_for : R (suc m) Loop height.loop_height loop_tokens (for_over p) (for_over q)
    unfolding loop_tokens height.loop_height
    walk_for = W.one
        (W.make loop_tokens height.loop_height _ (W.node (after W (the_word W w.For) (W.left parentheses (W.closing (walk_maybe_expr W I.nodes.expr_nodes.expr) (closing_after W (the_sign W s.Semicolon refl) (W.closing (walk_maybe_expr W I.nodes.expr_nodes.expr) (closing_after W (the_sign W s.Semicolon refl) walk_updates))))))) (λ x. refl) (λ x. refl))
        (W.one
        (W.make loop_tokens height.loop_height _ (W.node (after W (the_word W w.For) (W.left parentheses (W.closing I.nodes.variables (W.closing (walk_maybe_expr W I.nodes.expr_nodes.expr) (closing_after W (the_sign W s.Semicolon refl) walk_updates)))))) (λ x. refl) (λ x. refl))
        (W.make loop_tokens height.loop_height _ (W.node (after W (the_word W w.For) (W.left parentheses (W.closing (walk_some_kind W I.nodes.expr_nodes.type) (closing_after W (an_identifier W) (closing_after W (the_word W w.In) (W.closing I.nodes.expr_nodes.expr (W.right_then parentheses I.stmt)))))))) (λ x. refl) (λ x. refl)))

    walk_while : R (suc m) Loop height.loop_height loop_tokens (while_over p) (while_over q)
    unfolding loop_tokens height.loop_height
    walk_while = W.make loop_tokens height.loop_height _ (W.node (after W (the_word W w.While) (W.both walk_condition I.stmt))) (λ x. simp append_assoc) (λ x. refl)

    walk_do : R (suc m) Loop height.loop_height loop_tokens (do_over p) (do_over q)
    unfolding loop_tokens height.loop_height
    walk_do = W.make loop_tokens height.loop_height _ (W.node (after W (the_word W w.Do) (W.both I.stmt (after W (the_word W w.While) (before W walk_condition (the_sign W s.Semicolon refl)))))) (λ x. simp append_assoc) (λ x. refl)

    walk_switch_parts : R m SwitchParts height.switch_parts_height switch_parts_tokens (switch_parts_over p) (switch_parts_over q)
    walk_switch_parts = W.make switch_parts_tokens height.switch_parts_height _ (W.both
        (W.all (after W (all_flat W (a_label W)) (after W (the_word W w.Case) (W.both I.nodes.expr_nodes.expr (after W (the_sign W s.Colon refl) (W.all I.stmt))))))
        (W.maybe (after W (all_flat W (a_label W)) (after W (the_word W w.Default) (after W (the_sign W s.Colon refl) (W.all I.stmt))))))
        (λ x. said_switch_parts x.0 x.1) (λ x. omega (arith, high_cases x.0 (to_default x.1), high_default x.1))

    walk_switch : R (suc m) Stmt height.stmt_height stmt_tokens (switch_over p) (switch_over q)
    unfolding stmt_tokens height.stmt_height
    walk_switch = W.make stmt_tokens height.stmt_height _ (W.node (after W (the_word W w.Switch) (W.both walk_condition (enclosed W braces walk_switch_parts)))) (λ x. simp append_assoc) (λ x. refl)

    walk_try_part : R m TryParts height.try_parts_height try_parts_tokens (try_part_over p) (try_part_over q)
    unfolding try_parts_tokens height.try_parts_height
    walk_try_part = W.one
        (W.make try_parts_tokens height.try_parts_height _ (after W (the_name W on_text) (W.both I.nodes.expr_nodes.type (W.both (W.maybe I.nodes.catch_clause) I.nodes.expr_nodes.block))) (λ x. simp (append_assoc, append-nil)) (λ x. omega (arith, high_catch x.1.1.0)))
        (W.make try_parts_tokens height.try_parts_height _ (W.both I.nodes.catch_clause I.nodes.expr_nodes.block) (λ x. simp append-nil) (λ x. omega arith))

    walk_finally : R m (Place × Block) (λ x. height.block_height x.1) finally_tokens (finally_over p) (finally_over q)
    walk_finally = after W (the_word W w.Finally) I.nodes.expr_nodes.block

    walk_try : R (suc m) Stmt height.stmt_height stmt_tokens (try_over p) (try_over q)
    unfolding stmt_tokens height.stmt_height try_parts_tokens height.try_parts_height
    walk_try = W.make stmt_tokens height.stmt_height _ (W.node (after W (the_word W w.Try) (W.both I.nodes.expr_nodes.block (W.one
        (W.make try_parts_tokens height.try_parts_height _ (W.both (W.both walk_try_part (W.all walk_try_part)) (W.maybe walk_finally)) (λ x. simp (said_append, said_parts, said_finally, append_assoc))
        (λ x. omega (arith, high_append x.0.0 (join_parts x.0.1 (to_finally x.1)), high_parts x.0.1 (to_finally x.1), high_finally x.1)))
        (W.make try_parts_tokens height.try_parts_height _ walk_finally (λ x. simp append-nil) (λ x. omega arith)))))) (λ x. refl) (λ x. refl)

    walk_compound : R (suc m) Stmt height.stmt_height stmt_tokens (compound_over p) (compound_over q)
    unfolding stmt_tokens height.stmt_height
    walk_compound = W.one walk_if (W.one (W.make stmt_tokens height.stmt_height t.loop (W.one walk_for (W.one walk_while walk_do)) (λ x. refl) (λ x. refl)) (W.one walk_switch walk_try))

  -- ---- statements of the same depth

  module _ {p q : StmtNodes} (H : StmtsRelate (R m) p q) where
    walk_jump : R m Stmt height.stmt_height stmt_tokens (jump_of p) (jump_of q)
    unfolding stmt_tokens height.stmt_height
    walk_jump = W.one (W.make stmt_tokens height.stmt_height _ (after W (the_word W w.Return) (before W (walk_maybe_expr W H.expr_nodes.expr) (the_sign W s.Semicolon refl))) (λ x. refl) (λ x. refl))
        (W.one (W.make stmt_tokens height.stmt_height _ (after W (the_word W w.Break) (after W (maybe_flat W (an_identifier W)) (the_sign W s.Semicolon refl))) (λ x. refl) (λ x. refl))
        (W.one (W.make stmt_tokens height.stmt_height _ (after W (the_word W w.Continue) (after W (maybe_flat W (an_identifier W)) (the_sign W s.Semicolon refl))) (λ x. refl) (λ x. refl))
        (W.make stmt_tokens height.stmt_height _ (after W (the_word W w.Rethrow) (the_sign W s.Semicolon refl)) (λ x. refl) (λ x. refl))))

    walk_expression : R m Stmt height.stmt_height stmt_tokens (expression_of p) (expression_of q)
    unfolding stmt_tokens height.stmt_height
    walk_expression = W.good_tokens begins_with_no_brace (λ x. refl) (W.make stmt_tokens height.stmt_height _ (before W (walk_maybe_expr W H.expr_nodes.expr) (the_sign W s.Semicolon refl)) (λ x. refl) (λ x. refl))

    -- what was no declaration is none still
    abbrev pub Still : Type 0
    Still = (x : Stmt) → (other_statement_of p).Fits x → Alone stmt_tokens (declaration_of p).Fits x → Alone stmt_tokens (declaration_of q).Fits x

    walk_unlabelled : Still → R m Stmt height.stmt_height stmt_tokens (unlabelled_of p) (unlabelled_of q)
    unfolding stmt_tokens height.stmt_height
    walk_unlabelled still = W.first still (W.one (W.make stmt_tokens height.stmt_height t.variables_stmt H.variables (λ x. refl) (λ x. refl)) (W.make stmt_tokens height.stmt_height t.function_stmt H.local_function (λ x. refl) (λ x. refl)))
        (W.one (W.make stmt_tokens height.stmt_height t.block_stmt H.expr_nodes.block (λ x. refl) (λ x. refl)) (W.one H.compound (W.one walk_jump walk_expression)))

    walk_stmt : Still → R m Stmt height.stmt_height stmt_tokens (stmt_of p) (stmt_of q)
    walk_stmt still = W.make stmt_tokens height.stmt_height _ (after W (all_flat W (a_label W)) (walk_unlabelled still)) (λ x. said_labels x.0 x.1) (λ x. high_labels x.0 x.1)

-- ---- no node has room where there is none

module _ (p : ExprNodes) where
  literal_high : (x : Primary) → (literal_over p).Fits x → height.primary_height x ≤ 0 → ⊥
  unfolding height.primary_height
  literal_high x (inl (parts, fits, is)) low = let high : height.primary_height (t.list_literal parts.0 parts.1.0 parts.1.1.0.0 parts.1.1.0.1 parts.1.1.1) ≤ 0 = subst (λ c. height.primary_height c ≤ 0) (sym is) low in omega arith
  literal_high x (inr (inl (parts, fits, is))) low = let high : height.primary_height (t.map_literal parts.0 parts.1.0 parts.1.1.0.0 parts.1.1.0.1 parts.1.1.1) ≤ 0 = subst (λ c. height.primary_height c ≤ 0) (sym is) low in omega arith
  literal_high x (inr (inr (parts, fits, is))) low = let high : height.primary_height (t.function_literal parts.0 parts.1) ≤ 0 = subst (λ c. height.primary_height c ≤ 0) (sym is) low in omega arith

expr_high : (x : Expr) → height.expr_height x ≤ 0 → ⊥
unfolding height.expr_height
expr_high (t.assign target operator value) low = omega arith
expr_high (t.plain first more) low = omega arith
expr_high (t.throw word value) low = omega arith

arguments_high : (x : Arguments) → height.arguments_height x ≤ 0 → ⊥
unfolding height.arguments_height
arguments_high (t.the_arguments opening items closing) low = omega arith

parameters_high : (x : Parameters) → height.parameters_height x ≤ 0 → ⊥
unfolding height.parameters_height
parameters_high (t.the_parameters opening required brackets optional closing) low = omega arith

block_high : (x : Block) → height.block_height x ≤ 0 → ⊥
unfolding height.block_height
block_high (t.the_block opening statements closing) low = omega arith

variables_high : (x : Variables) → height.variables_height x ≤ 0 → ⊥
unfolding height.variables_height
variables_high (t.the_variables kind name value more semicolon) low = omega arith

pub function_high : (x : Function) → height.function_height x ≤ 0 → ⊥
unfolding height.function_height
function_high (t.the_function external result name parameters body) low = omega arith

loop_high : (x : Loop) → height.loop_height x ≤ 0 → ⊥
unfolding height.loop_height
loop_high (t.for_loop word opening start first condition second updates closing body) low = omega arith
loop_high (t.for_variables word opening variables condition semicolon updates closing body) low = omega arith
loop_high (t.for_in word opening kind name inside iterated closing body) low = omega arith
loop_high (t.while_loop word opening condition closing body) low = omega arith
loop_high (t.do_loop word body again opening condition closing semicolon) low = omega arith

bare_high : (x : Operand) → (made operand_tokens (λ x. t.primary (t.bare_super x)) (word w.Super)).Fits x → height.operand_height x ≤ 0 → ⊥
unfolding height.operand_height height.primary_height
bare_high x (place, anything, is) low = let high : height.operand_height (t.primary (t.bare_super place)) ≤ 0 = subst (λ c. height.operand_height c ≤ 0) (sym is) low in omega arith

module _ (p : Within) where
  compound_high : (x : Stmt) → (compound_over p).Fits x → height.stmt_height x ≤ 0 → ⊥
  unfolding height.stmt_height
  compound_high x (inl (inl (parts, fits, is))) low = let high : height.stmt_height (t.if_stmt parts.0 parts.1.0.0 parts.1.0.1.0 parts.1.0.1.1 parts.1.1) ≤ 0 = subst (λ c. height.stmt_height c ≤ 0) (sym is) low in omega arith
  compound_high x (inl (inr (parts, fits, is))) low = let high : height.stmt_height (t.if_else parts.0 parts.1.0.0 parts.1.0.1.0 parts.1.0.1.1 parts.1.1.0 parts.1.1.1.0 parts.1.1.1.1) ≤ 0 = subst (λ c. height.stmt_height c ≤ 0) (sym is) low in omega arith
  compound_high x (inr (inl (inner, fits, is))) low = loop_high inner (subst (λ c. height.stmt_height c ≤ 0) (sym is) low)
  compound_high x (inr (inr (inl (parts, fits, is)))) low = let high : height.stmt_height (t.switch_stmt parts.0 parts.1.0.0 parts.1.0.1.0 parts.1.0.1.1 parts.1.1.0 parts.1.1.1.0 parts.1.1.1.1) ≤ 0 = subst (λ c. height.stmt_height c ≤ 0) (sym is) low in omega arith
  compound_high x (inr (inr (inr (parts, fits, is)))) low = let high : height.stmt_height (t.try_stmt parts.0 parts.1.0 parts.1.1) ≤ 0 = subst (λ c. height.stmt_height c ≤ 0) (sym is) low in omega arith

-- ---- the whole, by depth

-- where no statement that declares something has the tokens of another at one depth, none has at the other
abbrev pub StillActs : (ℕ → ℕ → Type 0) → Type 0
StillActs Pair = (n m : ℕ) → Pair n m → (x : Stmt) → (other_statement_of (within n).nodes).Fits x → Alone stmt_tokens (declaration_of (within n).nodes).Fits x → Alone stmt_tokens (declaration_of (within m).nodes).Fits x

module _ {R : ℕ → Relation} {C : Bracket → ℕ → Relation} {Pair : ℕ → ℕ → Type 0} (W : Walk R C Pair) where
  -- a `super` alone
  walk_bare : {m : ℕ} → R (suc m) Operand height.operand_height operand_tokens (made operand_tokens (λ x. t.primary (t.bare_super x)) (word w.Super)) (made operand_tokens (λ x. t.primary (t.bare_super x)) (word w.Super))
  unfolding operand_tokens primary_tokens height.operand_height height.primary_height
  walk_bare = W.make operand_tokens height.operand_height _ (W.node (the_word W w.Super)) (λ x. refl) (λ x. refl)

  walk_nodes : (n m : ℕ) (p q : Within) → Pair (suc n) (suc m) → WithinRelate (R m) p q → StmtsRelate (R (suc m)) (nodes_over n p) (nodes_over m q)
  unfolding nodes_over
  walk_nodes n m p q pair I = record {
    expr_nodes = record {
      type = walk_type_within W (suc n) (suc m) pair;
      expr = walk_expr W I.nodes.expr_nodes I.levels;
      without = walk_without W I.nodes.expr_nodes I.levels;
      cascade = walk_cascade W I.nodes.expr_nodes;
      bare = walk_bare;
      literal = walk_literal W I.nodes.expr_nodes;
      arguments = walk_arguments_node W I.nodes.expr_nodes;
      parameters = walk_parameters W I.nodes;
      block = walk_block W I;
    };
    variables = walk_variables W I.nodes;
    local_function = walk_local_function W I.nodes;
    parameter = walk_parameter W I.nodes;
    catch_clause = walk_catch W I.nodes;
    compound = walk_compound W I;
  }

  -- from where there is no room for a node
  walk_no_nodes : {m : ℕ} {q : StmtNodes} → StmtsAgree q → StmtsRelate (R m) no_nodes q
  walk_no_nodes H = record {
    expr_nodes = record {
      type = emptied W H.expr_nodes.type;
      expr = emptied W H.expr_nodes.expr;
      without = emptied W H.expr_nodes.without;
      cascade = emptied W H.expr_nodes.cascade;
      bare = emptied W H.expr_nodes.bare;
      literal = emptied W H.expr_nodes.literal;
      arguments = emptied W H.expr_nodes.arguments;
      parameters = emptied W H.expr_nodes.parameters;
      block = emptied W H.expr_nodes.block;
    };
    variables = emptied W H.variables;
    local_function = emptied W H.local_function;
    parameter = emptied W H.parameter;
    catch_clause = emptied W H.catch_clause;
    compound = emptied W H.compound;
  }

  -- to where there is none
  walk_high : (n : ℕ) (inner : Within) → Pair (suc n) zero → StmtsRelate (R zero) (nodes_over n inner) no_nodes
  unfolding nodes_over
  walk_high n inner pair = record {
    expr_nodes = record {
      type = W.high pair (λ x fits low. some_height x low);
      expr = W.high pair (λ x fits low. expr_high x low);
      without = W.high pair (λ x fits low. expr_high x low);
      cascade = W.high pair (λ x fits low. omega arith);
      bare = W.high pair bare_high;
      literal = W.high pair (literal_high inner.nodes.expr_nodes);
      arguments = W.high pair (λ x fits low. arguments_high x low);
      parameters = W.high pair (λ x fits low. parameters_high x low);
      block = W.high pair (λ x fits low. block_high x low);
    };
    variables = W.high pair (λ x fits low. variables_high x low);
    local_function = W.high pair (λ x fits low. function_high x low);
    parameter = W.high pair (λ x fits low. omega arith);
    catch_clause = W.high pair (λ x fits low. omega arith);
    compound = W.high pair (compound_high inner);
  }

  module _ (still : StillActs Pair) where
    pub walk_within : (n m : ℕ) → Pair n m → WithinRelate (R m) (within n) (within m)
    unfolding within
    walk_within zero zero pair =
        let nodes : StmtsRelate (R zero) no_nodes no_nodes = walk_no_nodes (within_agrees zero).nodes in
        record { nodes = nodes; levels = walk_flat W no_nodes.expr_nodes no_nodes.expr_nodes nodes.expr_nodes; stmt = walk_stmt W nodes (still zero zero pair) }
    walk_within zero (suc m) pair =
        let there : StmtNodes = nodes_over m (within m) in
        let nodes : StmtsRelate (R (suc m)) no_nodes there = walk_no_nodes (within_agrees (suc m)).nodes in
        record {
          nodes = nodes;
          levels = walk_raised W pair no_nodes.expr_nodes there.expr_nodes (within m).nodes.expr_nodes (within m).levels nodes.expr_nodes;
          stmt = walk_stmt W nodes (still zero (suc m) pair);
        }
    walk_within (suc n) zero pair =
        let here : StmtNodes = nodes_over n (within n) in
        let nodes : StmtsRelate (R zero) here no_nodes = walk_high n (within n) pair in
        record {
          nodes = nodes;
          levels = walk_lowered W pair here.expr_nodes no_nodes.expr_nodes (within n).nodes.expr_nodes (within n).levels nodes.expr_nodes;
          stmt = walk_stmt W nodes (still (suc n) zero pair);
        }
    walk_within (suc n) (suc m) pair =
        let below : WithinRelate (R m) (within n) (within m) = walk_within n m (W.under pair) in
        let here : StmtNodes = nodes_over n (within n) in
        let there : StmtNodes = nodes_over m (within m) in
        let nodes : StmtsRelate (R (suc m)) here there = walk_nodes n m (within n) (within m) pair below in
        record {
          nodes = nodes;
          levels = walk_levels W m here.expr_nodes there.expr_nodes (within n).nodes.expr_nodes (within m).nodes.expr_nodes (within n).levels (within m).levels nodes.expr_nodes below.nodes.expr_nodes below.levels;
          stmt = walk_stmt W nodes (still (suc n) (suc m) pair);
        }

-- at one depth that is so
pub still_at_same : StillActs (λ n m. n ≡ m)
still_at_same n m same x fits alone = subst (λ k. Alone stmt_tokens (declaration_of (within k).nodes).Fits x) same alone
