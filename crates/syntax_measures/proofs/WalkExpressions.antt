-- The walk over the nodes that expressions are made of.
use Rattle.std.proofs.Common.{◌≡◌, ℕ, suc, max, arith, Bool, true, ◌&&◌, List, [], ◌∷◌, ◌++◌, None, refl, ap, ◌∙◌, append_assoc}
use Rattle.std.proofs.lemmas.List.{append-nil}
use Rattle.dart_base.specs.declared.place.Place.{Place}
use Rattle.dart_token.specs.declared.token.Quote.{Quote}
use Rattle.dart_token.specs.declared.token.Token.{Token}
use Rattle.dart_token.specs.declared.sign.Sign.{Sign}
use Rattle.dart_token.specs.declared.sign.Sign.TheVariants as s
use Rattle.dart_tree.specs.declared.identifier.Label.{Label}
use Rattle.dart_tree.specs.declared.operator.Operator.{Operator}
use Rattle.dart_tree.specs.declared.operator.Operator.TheVariants as o
use Rattle.dart_tree.specs.declared.expression.Atom.{Atom}
use Rattle.dart_tree.specs.declared.expression.Atom.TheVariants as a
use Rattle.dart_tree.specs.declared.expression.Creation.{Creation}
use Rattle.dart_tree.specs.declared.expression.Creation.TheVariants as c
use Rattle.dart_tree.specs.declared.expression.PieceKind.{PieceKind}
use Rattle.dart_tree.specs.declared.expression.PieceKind.TheVariants as pk
use Rattle.dart_tree.specs.LeafTokens.{operator_tokens, atom_tokens, label_tokens, piece_token}
use Rattle.dart_tree.specs.Tree as t
use Rattle.dart_tree.specs.Tree.{Expr, Primary, Selector, Value, Body, Arguments, Pieces, Selectors, Cascades, Items, Entries}
use Rattle.dart_tree.specs.Tokens.{expr_tokens, primary_tokens, selector_tokens, value_tokens, body_tokens, arguments_tokens, pieces_tokens, selectors_tokens, items_tokens, entries_tokens}
use Rattle.dart_tree.specs.Depth as height
use Rattle.dart_tree.specs.Depth.{highest}
use Rattle.dart_syntax.specs.Phrases.{Phrase, made, seq}
use Rattle.dart_syntax.specs.Leaves.{sign, label, atom, creation, creation_tokens, piece, one_of}
use Rattle.dart_syntax.specs.Expressions.{ExprNodes, to_selectors, one_or_more_selectors, to_cascades, more_items, more_named, plain_items, plain_then_named, named_items, more_entries, to_entries, middles, append_pieces, joined, join_pieces, selectors_assign, maybe_expr, after_sign, plain_list, one_string, strings, argument_items, arguments_over, list_over, entries_over, map_over, literal_body_over, function_literal_over, literal_over, member, bracketed_of, selector_of, section_over, assignment_signs, assigning, cascade_over, head}
use Rattle.dart_syntax.proofs.AgreeingExpressions.{said_items, said_named, said_entries, said_middles, said_append, said_joined, said_selectors, said_sign, head_tokens}
use Rattle.dart_syntax.specs.Agreement.{section_tokens}
use Rattle.syntax_measures.specs.Relations.{Relation, ExprsRelate, section_height}
use Rattle.syntax_measures.proofs.Scanning.{both_true}
use Rattle.syntax_measures.proofs.BracketKinds.{Bracket, parentheses, squares, braces, is_plain, Plain, single_leaf}
use Rattle.syntax_measures.proofs.Walk.{Walk, flat}
use Rattle.syntax_measures.proofs.Walking.{the_sign, the_empty, an_identifier, after, before, maybe_flat, with_commas, enclosed, one_name_plain}
use Rattle.syntax_measures.proofs.WalkTypes.{walk_arguments, walk_one_type, walk_two_types}

-- ---- heights of the lists of the trees

high_items : (xs : List (Place × Expr)) (rest : Items) → height.items_height (more_items xs rest) ≡ max (highest (λ x. height.expr_height x.1) xs) (height.items_height rest)
unfolding height.items_height
high_items [] rest = omega arith
high_items (x ∷ xs) rest = omega (arith, high_items xs rest)

high_named : (xs : List (Place × (Label × Expr))) → height.items_height (more_named xs) ≡ highest (λ x. height.expr_height x.1.1) xs
unfolding height.items_height
high_named [] = refl
high_named (x ∷ xs) = ap (λ (k : ℕ). max (height.expr_height x.1.1) k) (high_named xs)

high_entries : (xs : List (Place × (Expr × (Place × Expr)))) → height.entries_height (more_entries xs) ≡ highest (λ x. max (height.expr_height x.1.0) (height.expr_height x.1.1.1)) xs
unfolding height.entries_height
high_entries [] = refl
high_entries (x ∷ xs) = omega (arith, high_entries xs)

high_middles : (xs : List ((Place × List ℕ) × Expr)) (rest : Pieces) → height.pieces_height (middles xs rest) ≡ max (highest (λ x. height.expr_height x.1) xs) (height.pieces_height rest)
unfolding height.pieces_height height.value_height
high_middles [] rest = omega arith
high_middles (x ∷ xs) rest = omega (arith, high_middles xs rest)

high_append : (x rest : Pieces) → height.pieces_height (append_pieces x rest) ≡ max (height.pieces_height x) (height.pieces_height rest)
unfolding height.pieces_height
high_append t.no_pieces rest = omega arith
high_append (t.piece kind place text value more) rest = omega (arith, high_append more rest)

high_joined : (xs : List Pieces) → height.pieces_height (joined xs) ≡ highest height.pieces_height xs
unfolding height.pieces_height
high_joined [] = refl
high_joined (x ∷ xs) = omega (arith, high_append x (joined xs), high_joined xs)

pub high_selectors : (xs : List Selector) → height.selectors_height (to_selectors xs) ≡ highest height.selector_height xs
unfolding height.selectors_height
high_selectors [] = refl
high_selectors (x ∷ xs) = ap (λ (k : ℕ). max (height.selector_height x) k) (high_selectors xs)

pub high_cascades : (xs : List (Place × (Selectors × Value))) → height.cascades_height (to_cascades xs) ≡ highest section_height xs
unfolding height.cascades_height
high_cascades [] = refl
high_cascades (x ∷ xs) = ap (λ (k : ℕ). max (section_height x) k) (high_cascades xs)

-- ---- leaves

one_atom_plain : (x : Atom) → Plain (atom_tokens x)
one_atom_plain (a.This place) = (refl, tt)
one_atom_plain (a.Null place) = (refl, tt)
one_atom_plain (a.True place) = (refl, tt)
one_atom_plain (a.False place) = (refl, tt)
one_atom_plain (a.Integer place digits) = (refl, tt)
one_atom_plain (a.Name name) = one_name_plain name

one_creation_plain : (x : Creation) → Plain (creation_tokens x)
one_creation_plain (c.New place) = (refl, tt)
one_creation_plain (c.Const place) = (refl, tt)

abbrev piece_tokens : PieceKind → Place × List ℕ → List Token
piece_tokens kind x = piece_token kind x.0 x.1 ∷ []

one_piece_plain : (kind : PieceKind) (x : Place × List ℕ) → Plain (piece_tokens kind x)
one_piece_plain pk.Whole x = (refl, tt)
one_piece_plain (pk.Head quote) x = (refl, tt)
one_piece_plain pk.Middle x = (refl, tt)
one_piece_plain pk.Tail x = (refl, tt)

-- [ Expr ]
abbrev index_of : ExprNodes → Phrase Selector
index_of inner = made selector_tokens (λ x. t.index x.0 x.1.0 x.1.1) (seq (sign s.LeftBracket) (seq inner.expr (sign s.RightBracket)))

abbrev pub all_plain : List Sign → Bool
all_plain [] = true
all_plain (x ∷ xs) = is_plain x && all_plain xs

module _ {R : ℕ → Relation} {C : Bracket → ℕ → Relation} {Pair : ℕ → ℕ → Type 0} (W : Walk R C Pair) {m : ℕ} where
  pub an_atom : R m Atom flat atom_tokens atom atom
  an_atom = W.same atom (λ x fits. refl) (single_leaf atom_tokens one_atom_plain)

  pub a_creation : R m Creation flat creation_tokens creation creation
  a_creation = W.same creation (λ x fits. refl) (single_leaf creation_tokens one_creation_plain)

  pub a_label : R m Label flat label_tokens label label
  a_label = W.make label_tokens flat _ (before W (an_identifier W) (the_sign W s.Colon refl)) (λ x. refl) (λ x. refl)

  a_head : R m (Quote × (Place × List ℕ)) flat head_tokens head head
  a_head = W.same head (λ x fits. refl) (single_leaf head_tokens (λ x. (refl, tt)))

  a_piece : (kind : PieceKind) → R m (Place × List ℕ) flat (piece_tokens kind) (piece kind) (piece kind)
  a_piece kind = W.same (piece kind) (λ x fits. refl) (single_leaf (piece_tokens kind) (one_piece_plain kind))

  pub the_one_of : (xs : List Sign) → all_plain xs ≡ true → R m Operator flat operator_tokens (one_of xs) (one_of xs)
  the_one_of [] plain = W.empty (λ a. refl) refl
  the_one_of (x ∷ xs) plain =
      let both : (is_plain x ≡ true) × (all_plain xs ≡ true) = both_true (is_plain x) (all_plain xs) plain in
      W.one (W.make operator_tokens flat (λ place. o.Sign place x) (the_sign W x both.0) (λ place. refl) (λ place. refl)) (the_one_of xs both.1)

  pub an_assigning : R m Operator flat operator_tokens assigning assigning
  an_assigning = W.one (the_one_of assignment_signs refl)
      (W.make operator_tokens flat _ (after W (the_sign W s.Greater refl) (the_sign W s.GreaterEqual refl)) (λ x. refl) (λ x. refl))

  -- ---- expressions that may be missing, and strings

  module _ {p q : Phrase Expr} (P : R m Expr height.expr_height expr_tokens p q) where
    pub walk_maybe_expr : R m Value height.value_height value_tokens (maybe_expr p) (maybe_expr q)
    unfolding value_tokens height.value_height
    walk_maybe_expr = W.or_none t.omitted refl refl (W.make value_tokens height.value_height _ P (λ x. refl) (λ x. refl))

    pub walk_after_sign : (which : Sign) → is_plain which ≡ true → R m Value height.value_height value_tokens (after_sign which p) (after_sign which q)
    unfolding value_tokens height.value_height
    walk_after_sign which plain = W.or_none t.omitted refl refl (W.make value_tokens height.value_height _ (after W (the_sign W which plain) P) (λ x. refl) (λ x. refl))

    pub walk_plain_list : R m Items height.items_height items_tokens (plain_list p) (plain_list q)
    unfolding items_tokens height.items_height
    walk_plain_list = W.make items_tokens height.items_height plain_items (with_commas W P) (λ x. simp (said_items, append-nil)) (λ x. omega (arith, high_items x.1 t.no_items))

    walk_one_string : R m Pieces height.pieces_height pieces_tokens (one_string p) (one_string q)
    unfolding pieces_tokens height.pieces_height height.value_height
    walk_one_string = W.one (W.make pieces_tokens height.pieces_height _ (a_piece pk.Whole) (λ x. refl) (λ x. refl))
        (W.make pieces_tokens height.pieces_height _ (W.both (after W a_head P) (before W (W.all (after W (a_piece pk.Middle) P)) (a_piece pk.Tail)))
        (λ x. simp said_middles) (λ x. omega (arith, high_middles x.1.0 (t.piece pk.Tail x.1.1.0 x.1.1.1 t.omitted t.no_pieces))))

    pub walk_strings : R m Pieces height.pieces_height pieces_tokens (strings p) (strings q)
    walk_strings = W.make pieces_tokens height.pieces_height join_pieces (W.both walk_one_string (W.all walk_one_string))
        (λ x. said_append x.0 (joined x.1) ∙ ap (λ l. pieces_tokens x.0 ++ l) (said_joined x.1)) (λ x. high_append x.0 (joined x.1) ∙ ap (λ (k : ℕ). max (height.pieces_height x.0) k) (high_joined x.1))

  pub walk_member : R m Selector height.selector_height selector_tokens member member
  unfolding selector_tokens height.selector_height
  walk_member = W.make selector_tokens height.selector_height _ (after W (the_sign W s.Dot refl) (an_identifier W)) (λ x. refl) (λ x. refl)

  -- ---- the nodes, over those inside

  module _ {p q : ExprNodes} (I : ExprsRelate (R m) p q) where
    pub walk_argument_items : R m Items height.items_height items_tokens (argument_items p) (argument_items q)
    unfolding items_tokens height.items_height
    walk_argument_items = W.or_none t.no_items refl refl (W.one
        (W.make items_tokens height.items_height plain_then_named (W.both (with_commas W I.expr) (W.all (after W (the_sign W s.Comma refl) (after W a_label I.expr))))
        (λ x. simp (said_items, said_named, append_assoc)) (λ x. omega (arith, high_items x.0.1 (more_named x.1), high_named x.1)))
        (W.make items_tokens height.items_height named_items (with_commas W (after W a_label I.expr)) (λ x. simp (said_named, append_assoc)) (λ x. simp high_named)))

    pub walk_arguments_node : R (suc m) Arguments height.arguments_height arguments_tokens (arguments_over p) (arguments_over q)
    unfolding arguments_tokens height.arguments_height
    walk_arguments_node = W.make arguments_tokens height.arguments_height _ (W.node (enclosed W parentheses walk_argument_items)) (λ x. refl) (λ x. refl)

    walk_list : R (suc m) Primary height.primary_height primary_tokens (list_over p) (list_over q)
    unfolding primary_tokens height.primary_height height.items_height
    walk_list = W.make primary_tokens height.primary_height _ (W.node (W.both (walk_arguments W (walk_one_type W I.type))
        (enclosed W squares (W.or_none (t.no_items, None) refl refl (before W (walk_plain_list I.expr) (maybe_flat W (the_sign W s.Comma refl)))))))
        (λ x. simp (said_sign, append_assoc)) (λ x. refl)

    walk_entries : R m Entries height.entries_height entries_tokens (entries_over p) (entries_over q)
    unfolding entries_tokens height.entries_height
    walk_entries = W.make entries_tokens height.entries_height to_entries (with_commas W (W.both I.expr (after W (the_sign W s.Colon refl) I.expr))) (λ x. simp (said_entries, append_assoc)) (λ x. omega (arith, high_entries x.1))

    walk_map : R (suc m) Primary height.primary_height primary_tokens (map_over p) (map_over q)
    unfolding primary_tokens height.primary_height height.entries_height
    walk_map = W.make primary_tokens height.primary_height _ (W.node (W.both (walk_arguments W (walk_two_types W I.type))
        (enclosed W braces (W.or_none (t.no_entries, None) refl refl (before W walk_entries (maybe_flat W (the_sign W s.Comma refl)))))))
        (λ x. simp (said_sign, append_assoc)) (λ x. refl)

    walk_literal_body : R m Body height.body_height body_tokens (literal_body_over p) (literal_body_over q)
    unfolding body_tokens height.body_height
    walk_literal_body = W.one (W.make body_tokens height.body_height _ (after W (the_sign W s.Arrow refl) I.expr) (λ x. simp append-nil) (λ x. refl)) (W.make body_tokens height.body_height t.block_body I.block (λ x. refl) (λ x. refl))

    walk_function_literal : R (suc m) Primary height.primary_height primary_tokens (function_literal_over p) (function_literal_over q)
    unfolding primary_tokens height.primary_height
    walk_function_literal = W.make primary_tokens height.primary_height _ (W.node (W.both I.parameters walk_literal_body)) (λ x. refl) (λ x. refl)

    pub walk_literal : R (suc m) Primary height.primary_height primary_tokens (literal_over p) (literal_over q)
    walk_literal = W.one walk_list (W.one walk_map walk_function_literal)

    walk_index : R m Selector height.selector_height selector_tokens (index_of p) (index_of q)
    unfolding selector_tokens height.selector_height
    walk_index = W.make selector_tokens height.selector_height _ (enclosed W squares I.expr) (λ x. refl) (λ x. refl)

    pub walk_bracketed : R m Selector height.selector_height selector_tokens (bracketed_of p) (bracketed_of q)
    unfolding selector_tokens height.selector_height
    walk_bracketed = W.one walk_index (W.make selector_tokens height.selector_height t.call I.arguments (λ x. refl) (λ x. refl))

    pub walk_selector : R m Selector height.selector_height selector_tokens (selector_of p) (selector_of q)
    walk_selector = W.one walk_member walk_bracketed

    walk_section : R m Selectors height.selectors_height selectors_tokens (section_over p) (section_over q)
    unfolding selector_tokens selectors_tokens height.selector_height height.selectors_height
    walk_section = W.make selectors_tokens height.selectors_height one_or_more_selectors (W.both
        (W.one (W.make selector_tokens height.selector_height _ (an_identifier W) (λ x. refl) (λ x. refl)) walk_index)
        (W.all walk_selector)) (λ x. ap (λ l. selector_tokens x.0 ++ l) (said_selectors x.1)) (λ x. ap (λ (k : ℕ). max (height.selector_height x.0) k) (high_selectors x.1))

    pub walk_cascade : R (suc m) (Place × (Selectors × Value)) section_height section_tokens (cascade_over p) (cascade_over q)
    unfolding value_tokens height.value_height
    walk_cascade = W.node (after W (the_sign W s.DotDot refl) (W.one
        (W.both walk_section (the_empty W value_tokens t.omitted refl refl))
        (W.both_if selectors_assign walk_section (W.make value_tokens height.value_height _ (after W an_assigning I.without) (λ x. refl) (λ x. refl)))))
