-- In types, primaries, operands and expressions one of `behind_init` stands behind each brace that closes outside all other brackets.
use Rattle.std.proofs.Common.{◌≡◌, ℕ, zero, suc, Bool, true, false, ◌&&◌, List, [], ◌∷◌, ◌++◌, inl, inr, refl, ap, ◌∙◌, length, append_assoc, flat_map}
use Rattle.std.proofs.lemmas.List.{append-nil}
use Rattle.std.specs.List.{AllByRecursion}
use Rattle.dart_base.specs.declared.place.Place.{Place}
use Rattle.dart_token.specs.declared.token.Token.{Token}
use Rattle.dart_token.specs.declared.sign.Sign.{Sign}
use Rattle.dart_token.specs.declared.sign.Sign.TheVariants as s
use Rattle.dart_token.specs.declared.word.Word.{Word}
use Rattle.dart_token.specs.declared.word.Word.TheVariants as w
use Rattle.dart_tree.specs.declared.identifier.Identifier.{Identifier}
use Rattle.dart_tree.specs.declared.identifier.Identifier.TheVariants as i
use Rattle.dart_tree.specs.declared.operator.Operator.{Operator}
use Rattle.dart_tree.specs.declared.operator.Operator.TheVariants as o
use Rattle.dart_tree.specs.declared.expression.Atom.{Atom}
use Rattle.dart_tree.specs.declared.expression.Atom.TheVariants as a
use Rattle.dart_tree.specs.declared.expression.PieceKind.{PieceKind}
use Rattle.dart_tree.specs.declared.expression.PieceKind.TheVariants as pk
use Rattle.dart_tree.specs.LeafTokens.{sign_at, word_at, identifier_tokens, dot_name_tokens, atom_tokens, operator_tokens, piece_token, type_tokens, type_list_tokens, type_arguments_tokens}
use Rattle.dart_tree.specs.Types.{TypeNode, TypeList, dynamic_type}
use Rattle.dart_tree.specs.Tree as t
use Rattle.dart_tree.specs.Tree.{Expr, Operand, Primary, Selector, Selectors, Value, Body, Arguments, Parameters, Block, Pieces}
use Rattle.dart_tree.specs.Tokens.{expr_tokens, operand_tokens, primary_tokens, selector_tokens, selectors_tokens, value_tokens, body_tokens, arguments_tokens, parameters_tokens, block_tokens, pieces_tokens, tails_tokens}
use Rattle.grammar_laws.specs.Fronts.{both_spelling}
use Rattle.grammar_laws.proofs.Codes.{and_both}
use Rattle.dart_syntax.specs.Phrases.{Phrase, either, made, such, seq, opt}
use Rattle.dart_syntax.specs.Leaves.{sign, sign_tokens, word, word_tokens, identifier, dot_name, atom, creation, creation_tokens, piece, one_of}
use Rattle.dart_syntax.specs.Levels.{sign_level}
use Rattle.dart_syntax.specs.Edges.{dots, question, compares, opens_dot, opens_nothing, leaves, leaves_less, primary_leaves, leaves_cascade}
use Rattle.dart_syntax.specs.Types.{in_angles, type_arguments, type_list, type_over, type_within, types, pair_of_types}
use Rattle.dart_syntax.specs.Expressions.{ExprNodes, Levels, one_or_more_selectors, primary_assigns, ends_in_target, selectors_assign, type_takes_names, join_pieces, joined, head, one_string, strings, member, list_over, map_over, literal_body_over, literal_over, bracketed_of, selector_of, section_over, assignment_signs, assigning, cascade_over, primary_of, prefixed, shifting, selected_over, postfix_over, target_of, unary_over, Row, chained, shifts, single, comparison, logical, choice, no_row, rows, row_at, row_over, rows_over, cascaded_over, expr_over, without_over}
use Rattle.dart_syntax.specs.Agreement.{section_tokens}
use Rattle.dart_syntax.proofs.AgreeingTypes.{said_more, said_angles}
use Rattle.dart_syntax.proofs.AgreeingExpressions.{head_tokens, said_append, said_cascades, said_joined, said_middles, said_selectors, said_sign, said_tails}
use Rattle.token_codes.specs.Codes.{class_of, sign_code, word_code}
use Rattle.token_codes.proofs.Only.{sign_class, word_class}
use Rattle.syntax_measures.specs.Relations.{ExprsRelate}
use Rattle.syntax_measures.proofs.BracketKinds.{parentheses, squares, braces, is_plain, single_leaf}
use Rattle.syntax_measures.proofs.Walk.{flat}
use Rattle.syntax_measures.proofs.Walking as walk
use Rattle.syntax_measures.proofs.WalkExpressions as walk_leaf
use Rattle.syntax_measures.proofs.WalkExpressions.{all_plain}
use Rattle.syntax_measures.proofs.WalkLevels.{cascaded_tokens}
use Rattle.laws_expr.proofs.Enclosed.{encloses, encloses_walk}
use Rattle.laws_constructor.proofs.Walked.{walk_list_inside, walk_map_inside}
use Rattle.laws_constructor.proofs.Calm.{allowed, calm, Leads, When, One, early, late, no_tree, empty, leaf_leads, enclosed, both, both_if, both_when, maybe, all, some, none, one, good, good_when, make}

-- ---- leaves

sign_goes : (from : Bool) (which : Sign) (place : Place) → allowed from (sign_code which) ≡ true → allowed from (class_of (sign_at place which)) ≡ true
sign_goes from which place on = ap (allowed from) (sign_class which place) ∙ on

pub the_sign : {from : Bool} (which : Sign) → is_plain which ≡ true → allowed from (sign_code which) ≡ true → Leads from false (sign_tokens which) (sign which)
the_sign {from} which plain on = leaf_leads from (sign_tokens which) (walk.the_sign encloses_walk {m = 0} which plain) (λ place. (sign_at place which, refl, sign_goes from which place on))

pub the_word : {from : Bool} (which : Word) → allowed from (word_code which) ≡ true → Leads from false (word_tokens which) (word which)
the_word {from} which on = leaf_leads from (word_tokens which) (walk.the_word encloses_walk {m = 0} which) (λ place. (word_at place which, refl, ap (allowed from) (word_class which place) ∙ on))

name_alone : (x : Identifier) → One false (identifier_tokens x)
name_alone (i.Name place text) = (_, refl, refl)
name_alone (i.Get place) = (_, refl, refl)
name_alone (i.Set place) = (_, refl, refl)

pub an_identifier : Leads false false identifier_tokens identifier
an_identifier = leaf_leads false identifier_tokens (walk.an_identifier encloses_walk {m = 0}) name_alone

pub a_dot_name : Leads true false dot_name_tokens dot_name
a_dot_name = make dot_name_tokens _ (both (the_sign s.Dot refl refl) an_identifier) (λ x. refl)

atom_alone : (x : Atom) → One false (atom_tokens x)
atom_alone (a.This place) = (_, refl, refl)
atom_alone (a.Null place) = (_, refl, refl)
atom_alone (a.True place) = (_, refl, refl)
atom_alone (a.False place) = (_, refl, refl)
atom_alone (a.Integer place digits) = (_, refl, refl)
atom_alone (a.Name name) = name_alone name

an_atom : Leads false false atom_tokens atom
an_atom = leaf_leads false atom_tokens (walk_leaf.an_atom encloses_walk {m = 0}) atom_alone

a_creation : Leads false false creation_tokens creation
a_creation = leaf_leads false creation_tokens (walk_leaf.a_creation encloses_walk {m = 0}) (λ x. (_, refl, refl))

a_head : Leads false false head_tokens head
a_head = leaf_leads false head_tokens (encloses_walk.same {m = 0} {f = flat} head (λ x fits. refl) (single_leaf head_tokens (λ x. (refl, tt)))) (λ x. (_, refl, refl))

abbrev piece_tokens : PieceKind → Place × List ℕ → List Token
piece_tokens kind x = piece_token kind x.0 x.1 ∷ []

whole_piece : Leads false false (piece_tokens pk.Whole) (piece pk.Whole)
whole_piece = leaf_leads false (piece_tokens pk.Whole) (encloses_walk.same {m = 0} {f = flat} (piece pk.Whole) (λ x fits. refl) (single_leaf (piece_tokens pk.Whole) (λ x. (refl, tt)))) (λ x. (_, refl, refl))

middle_piece : Leads true false (piece_tokens pk.Middle) (piece pk.Middle)
unfolding class_of
middle_piece = leaf_leads true (piece_tokens pk.Middle) (encloses_walk.same {m = 0} {f = flat} (piece pk.Middle) (λ x fits. refl) (single_leaf (piece_tokens pk.Middle) (λ x. (refl, tt)))) (λ x. (_, refl, refl))

tail_piece : Leads true false (piece_tokens pk.Tail) (piece pk.Tail)
unfolding class_of
tail_piece = leaf_leads true (piece_tokens pk.Tail) (encloses_walk.same {m = 0} {f = flat} (piece pk.Tail) (λ x fits. refl) (single_leaf (piece_tokens pk.Tail) (λ x. (refl, tt)))) (λ x. (_, refl, refl))

-- signs that may stand there
abbrev all_allowed : Bool → List Sign → Bool
all_allowed from [] = true
all_allowed from (x ∷ xs) = allowed from (sign_code x) && all_allowed from xs

the_one_of : {from : Bool} (xs : List Sign) → all_plain xs ≡ true → all_allowed from xs ≡ true → Leads from false operator_tokens (one_of xs)
the_one_of {from} [] plain on = no_tree from operator_tokens false
the_one_of {from} (x ∷ xs) plain on =
    let p = and_both (is_plain x) (all_plain xs) plain in
    let q = and_both (allowed from (sign_code x)) (all_allowed from xs) on in
    one (make operator_tokens (λ place. o.Sign place x) (the_sign x p.0 q.0) (λ place. refl)) (the_one_of xs p.1 q.1)

an_assigning : Leads false false operator_tokens assigning
an_assigning = one (the_one_of assignment_signs refl refl) (make operator_tokens _ (both (the_sign s.Greater refl refl) (the_sign s.GreaterEqual refl refl)) (λ x. refl))

a_shifting : Leads true false operator_tokens shifting
a_shifting = one (the_one_of (s.ShiftLeft ∷ []) refl refl) (make operator_tokens _ (both (the_sign s.Greater refl refl) (the_sign s.Greater refl refl)) (λ x. refl))

-- ---- types (19.1 Static Types)

lead_angles : {q : Phrase TypeList} → Leads false false type_list_tokens q → Leads false false type_arguments_tokens (type_arguments q)
lead_angles P = make type_arguments_tokens in_angles (maybe (both (the_sign s.Less refl refl) (both P (the_sign s.Greater refl refl)))) said_angles

lead_types : {p : Phrase TypeNode} → Leads false false type_tokens p → Leads false false type_list_tokens (types p)
lead_types P = make type_list_tokens type_list (both P (all (both (the_sign s.Comma refl refl) P))) (λ x. ap (λ l. type_tokens x.0 ++ l) (said_more x.1))

lead_type : {p : Phrase TypeNode} → Leads false false type_tokens p → Leads false false type_tokens (type_over p)
lead_type P = one (make type_tokens dynamic_type (the_word w.Dynamic refl) (λ x. refl))
    (make type_tokens _ (both an_identifier (both (maybe (early a_dot_name)) (lead_angles (lead_types P)))) (λ x. refl))

pub type_leads : (n : ℕ) → Leads false false type_tokens (type_within n)
unfolding type_within
type_leads zero = no_tree false type_tokens false
type_leads (suc n) = lead_type (type_leads n)

-- ---- what stands inside

pub record ExprsLead (p : ExprNodes) : Type 0 where
  pub type : Leads false false type_tokens p.type
  pub expr : Leads false true expr_tokens p.expr
  pub without : Leads false true expr_tokens p.without
  pub cascade : Leads true true section_tokens p.cascade
  pub bare : Leads false false operand_tokens p.bare
  pub literal : Leads false true primary_tokens p.literal
  -- no literal is a target
  pub no_target : (x : Primary) → p.literal.Fits x → primary_assigns x ≡ true → ⊥
  pub arguments : Leads true false arguments_tokens p.arguments
  pub parameters : Leads true false parameters_tokens p.parameters
  pub block : Leads true true block_tokens p.block

pub record LevelsLead (p : Levels) : Type 0 where
  pub primary : Leads false true primary_tokens p.primary
  pub assigns : When false false primary_assigns primary_tokens p.primary
  pub bracketed : Leads true false selector_tokens p.bracketed
  pub target : Leads false false operand_tokens p.target
  pub postfix : Leads false true operand_tokens p.postfix
  pub row : (i : ℕ) → Leads false true operand_tokens (p.row i)

abbrev selected_tokens : Primary × (Selector × List Selector) → List Token
selected_tokens = both_spelling primary_tokens (both_spelling selector_tokens (flat_map selector_tokens))

abbrev stepping : List Sign
stepping = s.PlusPlus ∷ s.MinusMinus ∷ []

lead_member : Leads true false selector_tokens member
unfolding selector_tokens
lead_member = make selector_tokens _ (both (the_sign s.Dot refl refl) an_identifier) (λ x. refl)

-- the signs of each row may stand there
abbrev goes_row : Row → Bool
goes_row (chained sign more) = all_plain (sign ∷ more) && all_allowed true (sign ∷ more)
goes_row (single sign more) = all_plain (sign ∷ more) && all_allowed true (sign ∷ more)
goes_row (logical sign) = all_plain (sign ∷ []) && all_allowed true (sign ∷ [])
goes_row row = true

goes_at : (all : List Row) → AllByRecursion (λ row. goes_row row ≡ true) all → (i : ℕ) → goes_row (row_at all i) ≡ true
goes_at [] plain i = refl
goes_at (row ∷ more) plain zero = plain.0
goes_at (row ∷ more) plain (suc i) = goes_at more plain.1 i

each_row_goes : (i : ℕ) → goes_row (row_at rows i) ≡ true
each_row_goes = goes_at rows (refl, (refl, (refl, (refl, (refl, (refl, (refl, (refl, (refl, (refl, (refl, tt)))))))))))

some_of : (xs : List Sign) → (all_plain xs && all_allowed true xs) ≡ true → Leads true false operator_tokens (one_of xs)
some_of xs h = let c = and_both (all_plain xs) (all_allowed true xs) h in the_one_of xs c.0 c.1

module _ (n : ℕ) {p : ExprNodes} (E : ExprsRelate (encloses n) p p) (L : ExprsLead p) where
  -- ---- selectors and strings

  lead_index : Leads true false selector_tokens (made selector_tokens (λ x. t.index x.0 x.1.0 x.1.1) (seq (sign s.LeftBracket) (seq p.expr (sign s.RightBracket))))
  unfolding selector_tokens
  lead_index = make selector_tokens _ (enclosed squares E.expr) (λ x. refl)

  pub lead_bracketed : Leads true false selector_tokens (bracketed_of p)
  unfolding selector_tokens
  lead_bracketed = one lead_index (make selector_tokens t.call L.arguments (λ x. refl))

  lead_selector : Leads true false selector_tokens (selector_of p)
  lead_selector = one lead_member lead_bracketed

  lead_one_string : Leads false false pieces_tokens (one_string p.expr)
  unfolding pieces_tokens
  lead_one_string = one (make pieces_tokens _ whole_piece (λ x. refl))
      (make pieces_tokens _ (both (both a_head L.expr) (both (all (both middle_piece L.expr)) tail_piece)) (λ x. simp said_middles))

  lead_strings : Leads false false pieces_tokens (strings p.expr)
  lead_strings = make pieces_tokens join_pieces (both lead_one_string (all lead_one_string)) (λ x. said_append x.0 (joined x.1) ∙ ap (λ l. pieces_tokens x.0 ++ l) (said_joined x.1))

  -- ---- primaries

  lead_atom : Leads false false primary_tokens (made primary_tokens t.atom atom)
  unfolding primary_tokens
  lead_atom = make primary_tokens t.atom an_atom (λ x. refl)

  lead_text : Leads false false primary_tokens (made primary_tokens t.text (strings p.expr))
  unfolding primary_tokens
  lead_text = make primary_tokens t.text lead_strings (λ x. refl)

  lead_super : Leads false false primary_tokens (made primary_tokens (λ x. t.super_access x.0 x.1) (seq (word w.Super) (selector_of p)))
  unfolding primary_tokens
  lead_super = make primary_tokens _ (both (the_word w.Super refl) (early lead_selector)) (λ x. refl)

  lead_new : Leads false false primary_tokens (made primary_tokens (λ x. t.new_object x.0 x.1.0 x.1.1.0 x.1.1.1) (seq creation (such type_takes_names (seq p.type (seq (opt dot_name) p.arguments)))))
  unfolding primary_tokens
  lead_new = make primary_tokens _ (both a_creation (good type_takes_names (both L.type (both (maybe (early a_dot_name)) (early L.arguments))))) (λ x. refl)

  lead_parenthesized : Leads false false primary_tokens (made primary_tokens (λ x. t.parenthesized x.0 x.1.0 x.1.1) (seq (sign s.LeftParenthesis) (seq p.expr (sign s.RightParenthesis))))
  unfolding primary_tokens
  lead_parenthesized = early (make primary_tokens _ (enclosed parentheses E.expr) (λ x. refl))

  pub lead_primary : Leads false true primary_tokens (primary_of p)
  lead_primary = one (late lead_atom) (one (late lead_text) (one (late lead_super) (one (late lead_new) (one (late lead_parenthesized) L.literal))))

  target_ends : (x : Primary) → (primary_of p).Fits x → primary_assigns x ≡ true → (rest : List Token) → calm 0 false rest ≡ true → calm 0 false (primary_tokens x ++ rest) ≡ true
  target_ends x (inl fits) on = lead_atom.ends x fits
  target_ends x (inr (inl fits)) on = lead_text.ends x fits
  target_ends x (inr (inr (inl fits))) on = lead_super.ends x fits
  target_ends x (inr (inr (inr (inl fits)))) on = lead_new.ends x fits
  target_ends x (inr (inr (inr (inr (inl fits))))) on = lead_parenthesized.ends x fits
  target_ends x (inr (inr (inr (inr (inr fits))))) on = absurd (L.no_target x fits on)

  pub lead_assigns : When false false primary_assigns primary_tokens (primary_of p)
  lead_assigns = record { same = lead_primary.same; ends = target_ends; holds = lead_primary.holds }

  -- ---- literals

  pub lead_list : Leads false false primary_tokens (list_over p)
  unfolding primary_tokens
  lead_list = make primary_tokens _ (both (lead_angles (make type_list_tokens _ L.type (λ x. append-nil (type_tokens x)))) (early (enclosed squares (walk_list_inside encloses_walk {m = n} {p = p.expr} {q = p.expr} E.expr)))) (λ x. simp (said_sign, append_assoc))

  pub lead_map : Leads false true primary_tokens (map_over p)
  unfolding primary_tokens
  lead_map = make primary_tokens _ (both (lead_angles (make type_list_tokens pair_of_types (both L.type (both (the_sign s.Comma refl refl) L.type)) (λ x. simp append-nil))) (early (enclosed braces (walk_map_inside encloses_walk {m = n} {p = p} {q = p} E)))) (λ x. simp (said_sign, append_assoc))

  lead_body : Leads false true body_tokens (literal_body_over p)
  unfolding body_tokens
  lead_body = one (make body_tokens _ (both (the_sign s.Arrow refl refl) L.expr) (λ x. simp append-nil)) (make body_tokens t.block_body (early L.block) (λ x. refl))

  pub lead_literal : Leads false true primary_tokens (literal_over p)
  unfolding primary_tokens
  lead_literal = one (late lead_list) (one lead_map (make primary_tokens _ (both (early L.parameters) lead_body) (λ x. refl)))

  -- ---- cascades

  lead_section : Leads false false selectors_tokens (section_over p)
  unfolding selector_tokens selectors_tokens
  lead_section = make selectors_tokens one_or_more_selectors (both (one (make selector_tokens _ an_identifier (λ x. refl)) (early lead_index)) (all (early lead_selector))) (λ x. ap (λ l. selector_tokens x.0 ++ l) (said_selectors x.1))

  pub lead_cascade : Leads true true section_tokens (cascade_over p)
  unfolding value_tokens
  lead_cascade = both (the_sign s.DotDot refl refl) (one
      (late (both lead_section (empty false value_tokens value_tokens (λ x. refl) t.omitted refl)))
      (both_if selectors_assign lead_section (make value_tokens _ (both an_assigning L.without) (λ x. refl))))

  -- ---- the rows of operators

  lead_row : (row : Row) → goes_row row ≡ true → {under : Phrase Operand} → Leads false true operand_tokens under → Leads false true operand_tokens (row_over row p under)
  unfolding operand_tokens tails_tokens
  lead_row (chained sign more) h P = make operand_tokens _ (both_if (leaves (sign_level sign)) (one P (late L.bare)) (some (both (some_of (sign ∷ more) h) P) (λ x. leaves (sign_level sign) x.1))) (λ x. simp said_tails)
  lead_row shifts h P = make operand_tokens _ (both_if (leaves (sign_level s.ShiftLeft)) (one P (late L.bare)) (some (both a_shifting P) (λ x. leaves (sign_level s.ShiftLeft) x.1))) (λ x. simp said_tails)
  lead_row (single sign more) h P = make operand_tokens _ (both_if (leaves (sign_level sign)) (one P (late L.bare)) (both (some_of (sign ∷ more) h) P)) (λ x. simp append-nil)
  lead_row comparison h P = one (make operand_tokens _ (both_if leaves_less (one P (late L.bare)) (both (the_one_of (s.Less ∷ []) refl refl) P)) (λ x. simp append-nil))
      (one (make operand_tokens _ (both_if (leaves compares) (one P (late L.bare)) (both (the_one_of (s.Greater ∷ s.LessEqual ∷ s.GreaterEqual ∷ []) refl refl) P)) (λ x. simp append-nil))
      (one (make operand_tokens _ (both_if (leaves compares) P (both (the_word w.Is refl) (late (both (maybe (the_sign s.Bang refl refl)) L.type)))) (λ x. simp said_sign))
      (make operand_tokens _ (both_if (leaves compares) P (both (the_word w.As refl) (late L.type))) (λ x. refl))))
  lead_row (logical sign) h P = make operand_tokens _ (both_if (leaves (sign_level sign)) P (some (both (some_of (sign ∷ []) h) P) (λ x. leaves (sign_level sign) x.1))) (λ x. simp said_tails)
  lead_row choice h P = make operand_tokens _ (both_if (leaves question) P (both (the_sign s.Question refl refl) (both L.without (both (the_sign s.Colon refl refl) L.without)))) (λ x. refl)
  lead_row no_row h P = no_tree false operand_tokens true

  pub lead_rows : {unary : Phrase Operand} → Leads false true operand_tokens unary → (under : ℕ → Phrase Operand) → ((i : ℕ) → Leads false true operand_tokens (under i)) → (i : ℕ) → Leads false true operand_tokens (rows_over unary p under i)
  lead_rows N under U zero = N
  lead_rows N under U (suc i) = one (lead_rows N under U i) (lead_row (row_at rows i) (each_row_goes i) (U i))

  -- ---- expressions

  module _ {under : Levels} (U : LevelsLead under) where
    pub lead_cascaded : Leads false true cascaded_tokens (cascaded_over p under)
    lead_cascaded = one (both (U.row (length rows)) (none L.cascade)) (both_if (leaves dots) (U.row (length rows)) (some L.cascade leaves_cascade))

module _ {under : Levels} (U : LevelsLead under) where
  lead_any_selector : Leads true false selector_tokens (either member under.bracketed)
  lead_any_selector = one lead_member U.bracketed

  lead_selected : Leads false false selected_tokens (selected_over under)
  lead_selected = one (both_if (primary_leaves opens_dot) U.primary (both lead_member (all (early lead_any_selector))))
      (both_if (primary_leaves opens_nothing) U.primary (both U.bracketed (all (early lead_any_selector))))

  pub lead_postfix : Leads false false operand_tokens (postfix_over under)
  unfolding operand_tokens
  lead_postfix = one (make operand_tokens _ lead_selected (λ x. simp (said_selectors, append-nil)))
      (one (make operand_tokens _ (both_when primary_assigns U.assigns (the_one_of stepping refl refl)) (λ x. refl))
      (make operand_tokens _ (both_if ends_in_target lead_selected (the_one_of stepping refl refl)) (λ x. simp (said_selectors, append_assoc))))

  pub lead_target : {q : Phrase Primary} → When false false primary_assigns primary_tokens q → Leads false false operand_tokens (target_of q under)
  unfolding operand_tokens
  lead_target P = one (make operand_tokens t.primary (good_when primary_assigns P) (λ x. refl))
      (make operand_tokens _ (good ends_in_target lead_selected) (λ x. simp (said_selectors, append-nil)))

  lead_prefixed : {from to : Bool} {operator : Phrase Operator} {q : Phrase Operand} → Leads from false operator_tokens operator → Leads false to operand_tokens q → Leads from to operand_tokens (prefixed operator q)
  unfolding operand_tokens
  lead_prefixed O P = make operand_tokens _ (both O P) (λ x. refl)

  pub lead_unary : {bare : Phrase Operand} → Leads false false operand_tokens bare → Leads false true operand_tokens (unary_over bare under)
  lead_unary B = one (lead_prefixed (the_one_of (s.Minus ∷ s.Tilde ∷ []) refl refl) (one (U.row 0) (late B)))
      (one (lead_prefixed (the_one_of (s.Bang ∷ []) refl refl) (U.row 0)) (lead_prefixed (the_one_of stepping refl refl) (late U.target)))

  module _ {p : ExprNodes} (L : ExprsLead p) (C : Leads false true cascaded_tokens (cascaded_over p under)) where
    pub lead_expr : Leads false true expr_tokens (expr_over p under)
    unfolding expr_tokens
    lead_expr = one (make expr_tokens _ (both U.target (both an_assigning L.expr)) (λ x. refl))
        (one (make expr_tokens _ C (λ x. simp said_cascades))
        (make expr_tokens _ (both (the_word w.Throw refl) L.expr) (λ x. refl)))

    pub lead_without : Leads false true expr_tokens (without_over p under)
    unfolding expr_tokens
    lead_without = one (make expr_tokens _ (both U.target (both an_assigning L.without)) (λ x. refl))
        (one (make expr_tokens _ (U.row (length rows)) (λ x. append-nil (operand_tokens x)))
        (make expr_tokens _ (both (the_word w.Throw refl) L.expr) (λ x. refl)))
