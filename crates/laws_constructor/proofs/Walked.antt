-- The walk over initialisers, over lists of statements, and over what stands inside the brackets of lists and maps, for any relation.
use Rattle.std.proofs.Common.{◌≡◌, ℕ, suc, max, arith, List, [], ◌∷◌, Option, None, refl, ap, append_assoc, flat_map}
use Rattle.grammar_laws.specs.Fronts.{both_spelling, option_spelling}
use Rattle.dart_base.specs.declared.place.Place.{Place}
use Rattle.dart_token.specs.declared.sign.Sign.TheVariants as s
use Rattle.dart_token.specs.declared.word.Word.TheVariants as w
use Rattle.dart_tree.specs.Tree as t
use Rattle.dart_tree.specs.Tree.{Expr, Stmt, Items, Entries}
use Rattle.dart_tree.specs.Tokens.{expr_tokens, stmt_tokens, items_tokens, entries_tokens}
use Rattle.dart_tree.specs.Unit.{InitKind, Initializers}
use Rattle.dart_tree.specs.UnitTokens.{init_kind_tokens, initializers_tokens}
use Rattle.dart_tree.specs.Depth as height
use Rattle.dart_tree.specs.Depth.{highest, init_kind_height, init_height, initializers_height}
use Rattle.dart_syntax.specs.Phrases.{Phrase, many, opt, perhaps, seq}
use Rattle.dart_syntax.specs.Leaves.{sign, sign_tokens}
use Rattle.dart_syntax.specs.Expressions.{ExprNodes, plain_list, entries_over, to_entries, more_entries}
use Rattle.dart_syntax.specs.Statements.{StmtNodes, Within}
use Rattle.dart_syntax.specs.Declarations.{more_inits, init_over, initializers_over}
use Rattle.dart_syntax.proofs.AgreeingExpressions.{said_cascades, said_entries}
use Rattle.dart_syntax.proofs.AgreeingDeclarations.{said_inits}
use Rattle.syntax_measures.specs.Relations.{Relation, ExprsRelate, StmtsRelate, WithinRelate}
use Rattle.syntax_measures.proofs.BracketKinds.{Bracket}
use Rattle.syntax_measures.proofs.Walk.{Walk}
use Rattle.syntax_measures.proofs.Walking.{the_sign, the_word, an_identifier, a_dot_name, after, before, maybe_flat, with_commas}
use Rattle.syntax_measures.proofs.WalkExpressions.{high_cascades, walk_plain_list}
use Rattle.syntax_measures.proofs.WalkLevels.{walk_cascaded}
use Rattle.syntax_measures.proofs.WalkStatements.{walk_this_dot}

-- an initialiser without its comma, which is a node
abbrev pub bare_init_height : InitKind → ℕ
bare_init_height x = suc (init_kind_height x)

high_inits : (xs : List (Place × InitKind)) → highest init_height (more_inits xs) ≡ highest (λ x. bare_init_height x.1) xs
high_inits [] = refl
high_inits (x ∷ xs) = ap (λ (k : ℕ). max (bare_init_height x.1) k) (high_inits xs)

high_entries : (xs : List (Place × (Expr × (Place × Expr)))) → height.entries_height (more_entries xs) ≡ highest (λ x. max (height.expr_height x.1.0) (height.expr_height x.1.1.1)) xs
unfolding height.entries_height
high_entries [] = refl
high_entries (x ∷ xs) = omega (arith, high_entries xs)

module _ {R : ℕ → Relation} {C : Bracket → ℕ → Relation} {Pair : ℕ → ℕ → Type 0} (W : Walk R C Pair) {m : ℕ} where
  pub walk_init : {p q : Within} → WithinRelate (R m) p q → R (suc m) InitKind bare_init_height init_kind_tokens (init_over p) (init_over q)
  walk_init I = W.one (W.make init_kind_tokens bare_init_height _ (W.node (after W (the_word W w.Super) (after W (maybe_flat W (a_dot_name W)) I.nodes.expr_nodes.arguments))) (λ x. refl) (λ x. refl))
      (W.make init_kind_tokens bare_init_height _ (W.node (after W (maybe_flat W (walk_this_dot W I.nodes.expr_nodes)) (after W (an_identifier W) (after W (the_sign W s.Assign refl) (walk_cascaded W I.nodes.expr_nodes I.levels))))) (λ x. simp said_cascades) (λ x. simp high_cascades))

  pub walk_initializers : {p q : StmtNodes} → StmtsRelate (R m) p q → {init other : Phrase InitKind} → R m InitKind bare_init_height init_kind_tokens init other → (class : List ℕ) → R m Initializers initializers_height initializers_tokens (initializers_over p init class) (initializers_over q other class)
  walk_initializers I N class = W.make initializers_tokens initializers_height _ (after W (the_sign W s.Colon refl) (with_commas W N)) (λ x. simp said_inits) (λ x. simp high_inits)

  pub walk_stmts : {p q : Phrase Stmt} → R m Stmt height.stmt_height stmt_tokens p q → R m (List Stmt) (highest height.stmt_height) (flat_map stmt_tokens) (many p) (many q)
  walk_stmts S = W.all S

  pub walk_list_inside : {p q : Phrase Expr} → R m Expr height.expr_height expr_tokens p q → R m (Items × Option Place) (λ x. height.items_height x.0) (both_spelling items_tokens (option_spelling (sign_tokens s.Comma))) (perhaps (t.no_items, None) (seq (plain_list p) (opt (sign s.Comma)))) (perhaps (t.no_items, None) (seq (plain_list q) (opt (sign s.Comma))))
  unfolding items_tokens height.items_height
  walk_list_inside P = W.or_none (t.no_items, None) refl refl (before W (walk_plain_list W P) (maybe_flat W (the_sign W s.Comma refl)))

  module _ {p q : ExprNodes} (I : ExprsRelate (R m) p q) where
    walk_entries : R m Entries height.entries_height entries_tokens (entries_over p) (entries_over q)
    unfolding entries_tokens height.entries_height
    walk_entries = W.make entries_tokens height.entries_height to_entries (with_commas W (W.both I.expr (after W (the_sign W s.Colon refl) I.expr))) (λ x. simp (said_entries, append_assoc)) (λ x. omega (arith, high_entries x.1))

    pub walk_map_inside : R m (Entries × Option Place) (λ x. height.entries_height x.0) (both_spelling entries_tokens (option_spelling (sign_tokens s.Comma))) (perhaps (t.no_entries, None) (seq (entries_over p) (opt (sign s.Comma)))) (perhaps (t.no_entries, None) (seq (entries_over q) (opt (sign s.Comma))))
    unfolding entries_tokens height.entries_height
    walk_map_inside = W.or_none (t.no_entries, None) refl refl (before W walk_entries (maybe_flat W (the_sign W s.Comma refl)))
