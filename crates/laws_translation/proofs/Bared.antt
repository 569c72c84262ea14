-- The core of a tree without annotations and columns is what is left of the core of the tree.
use Rattle.std.proofs.Common.{◌≡◌, refl, sym, ap, ◌∙◌, ℕ, List, [], ◌∷◌, ◌++◌, map, Option, None, Some, Bool, false}
use Rattle.std.proofs.lemmas.List.{map-append}
use Rattle.dart_base.specs.declared.place.Place.{Place}
use Rattle.dart_tree.specs.declared.identifier.Label.{Label}
use Rattle.dart_tree.specs.Places.{place_of}
use Rattle.dart_tree.specs.UnitView.{maybe}
use Rattle.dart_tree.specs.Types as y
use Rattle.dart_tree.specs.Tree as t
use Rattle.dart_ir.specs.Ty.{dynamic}
use Rattle.core_program.specs.Core as c
use Rattle.laws_translation.specs.LinedLeaf as leaf
use Rattle.laws_translation.specs.Lined as lined
use Rattle.dart_erase.specs.Erased as erased
use Rattle.translation.specs.Surroundings.{Text, Core}
use Rattle.translation.specs.Walk.{Asked, unasked, State, went, on, bad_constructor}
use Rattle.translation.specs.Strings.{constant_units, parts_of}
use Rattle.translation.specs.Firsts as first
use Rattle.translation.specs.Types.{word_of, text_of, kept_type, asked_of_kind, asked_of_result, function_type, result_type, is_final, is_const}
use Rattle.translation.specs.References.{Reference, evaluated, super_member, super_item, null, block, own_name}
use Rattle.translation.specs.Expressions as e
use Rattle.translation.specs.Statements as st
use Rattle.translation.specs.Functions as f
use Rattle.translation.specs.Productions as pr
use Rattle.laws_translation.proofs.Kept as k
use Rattle.laws_translation.proofs.Kept.{line, Goes, ends}
use Rattle.laws_translation.proofs.Ends.{on_ends, done, stop, scoped_goes}
use Rattle.laws_translation.proofs.Firsts.{place_line, operator_line, creation_line, type_line, arguments_line, pieces_line, parameters_line, expr_line, operand_line, primary_line, variables_line}
use Rattle.laws_translation.proofs.TypesSame.{word_same, text_same, kept_type_goes, kept_arguments_goes, asked_kind, final_same, const_same, asked_result, signature_loose}
use Rattle.laws_translation.proofs.Referred.{block_kept, read_goes, callable_goes, member_goes}
use Rattle.laws_translation.proofs.Expressed as x
use Rattle.laws_translation.proofs.Stated as s
use Rattle.laws_translation.proofs.Closed.{inner_goes, local_goes}
use Rattle.laws_translation.proofs.Parameters.{parameters_goes}

label_same : (o : Option Label) (q : State) → pr.label_name (maybe leaf.label o) (k.state q) ≡ pr.label_name o q
label_same None q = refl
label_same (Some label) q = ap (λ (w : _). own_name w q ∷ []) (word_same label.name)

throw_kept : (word : Place) (form : Core) → c.at (line word) (c.unary c.throw (k.core form)) ≡ k.core (c.at word (c.unary c.throw form))
unfolding k.core
throw_kept word form = refl

closure_kept : (p' p : Place) (n : ℕ) → p' ≡ line p → f.closure p' n ≡ k.core (f.closure p n)
unfolding k.core
closure_kept p' p n h = ap (λ (z : Place). f.closure z n) h

null_kept : (p' p : Place) → p' ≡ line p → null p' ≡ k.core (null p)
unfolding k.core
null_kept p' p h = ap null h

mutual
  unfolding erased.expr erased.operand erased.primary erased.selector erased.value erased.stmt erased.loop erased.body erased.arguments erased.variables erased.function erased.block erased.tails erased.pieces erased.selectors erased.cascades erased.items erased.entries erased.stmts erased.more_variables erased.switch_parts erased.try_parts lined.expr lined.operand lined.primary lined.selector lined.value lined.stmt lined.loop lined.body lined.arguments lined.variables lined.function lined.block lined.tails lined.pieces lined.selectors lined.cascades lined.items lined.entries lined.stmts lined.more_variables lined.switch_parts lined.try_parts

  pub law_expr : (z : t.Expr) → Goes k.core (pr.expr (lined.expr (erased.expr z))) (pr.expr z)
  law_expr (t.assign target operator given) q = on_ends _ _ _ _ _ _ (law_reference target q)
      (λ r q. x.assigning_goes _ _ _ (first.first_of_operand target) _ (first.first_of_expr given) (pr.expr (lined.expr (erased.expr given))) (pr.expr given) r
      (x.compound_same operator) (operand_line target) (expr_line given) (law_expr given) q)
  law_expr (t.plain base more) q = on_ends _ _ _ _ _ _ (law_operand base q)
      (λ form q. x.cascaded_goes _ (e.has_cascades more) _ (first.first_of_operand base) (λ z. pr.sections z (lined.cascades (erased.cascades more))) (λ z. pr.sections z more) form
      (x.has_cascades_same more) (operand_line base) (λ z. law_sections z more) q)
  law_expr (t.throw word given) q = on_ends _ _ _ _ _ _ (law_expr given q) (λ form q. done _ _ (c.at word (c.unary c.throw form)) _ q (throw_kept word form) refl)

  law_sections : (z : Core) (all : t.Cascades) → Goes (map k.core) (pr.sections (k.core z) (lined.cascades (erased.cascades all))) (pr.sections z all)
  law_sections z t.no_cascades q = done _ _ [] _ q refl refl
  law_sections z (t.cascade dots more term rest) q = on_ends _ _ _ _ _ _ (law_selectors _ dots more (evaluated z) refl q)
      (λ r q. on_ends _ _ _ _ _ _ (law_section dots term r q) (λ form q. on_ends _ _ _ _ _ _ (law_sections z rest q) (λ forms q. done _ _ (form ∷ forms) _ q refl refl)))

  law_section : (dots : Place) (term : t.Value) (r : Reference) → Goes k.core (pr.section (line dots) (lined.value (erased.value term)) (k.reference r)) (pr.section dots term r)
  law_section dots t.omitted r q = read_goes _ dots _ r refl refl q
  law_section dots (t.given operator given) r q = x.assigning_goes _ _ _ dots _ (first.first_of_expr given) (pr.expr (lined.expr (erased.expr given))) (pr.expr given) r
      (x.option_compound_same operator) refl (expr_line given) (law_expr given) q

  pub law_operand : (z : t.Operand) → Goes k.core (pr.operand (lined.operand (erased.operand z))) (pr.operand z)
  law_operand (t.conditional condition question one colon other) q = x.conditional_goes _ (first.first_of_operand condition)
      (pr.operand (lined.operand (erased.operand condition))) (pr.operand condition) (pr.expr (lined.expr (erased.expr one))) (pr.expr one) (pr.expr (lined.expr (erased.expr other))) (pr.expr other)
      (operand_line condition) (law_operand condition) (law_expr one) (law_expr other) q
  law_operand (t.binary base more) q = x.chained_goes _ (e.super_of base) (pr.operand (lined.operand (erased.operand base))) (pr.operand base)
      (λ form. pr.tails (first.first_of_operand (lined.operand (erased.operand base))) form (lined.tails (erased.tails more))) (λ form. pr.tails (first.first_of_operand base) form more)
      (λ word. pr.super_tails word (lined.tails (erased.tails more))) (λ word. pr.super_tails word more)
      (x.super_same base) (law_operand base) (λ form. law_tails _ (first.first_of_operand base) form more (operand_line base)) (λ word. law_super_tails word more) q
  law_operand (t.is_type base word bang of) q = on_ends _ _ _ _ _ _ (law_operand base q) (λ form q. on_ends _ _ _ _ _ _ (kept_type_goes of q)
      (λ typed q. x.type_tested_goes _ (first.first_of_operand base) bang typed form (operand_line base) q))
  law_operand (t.as_type base word of) q = on_ends _ _ _ _ _ _ (law_operand base q) (λ form q. on_ends _ _ _ _ _ _ (kept_type_goes of q)
      (λ typed q. done _ _ (e.cast (first.first_of_operand base) typed form) _ q (x.cast_kept _ (first.first_of_operand base) typed form (operand_line base)) refl))
  law_operand (t.prefix operator base) q = x.prefixed_goes _ (e.super_of base) _ (e.prefix operator) _ (first.place_of_operator operator) _ (first.first_of_operand base)
      (pr.operand (lined.operand (erased.operand base))) (pr.operand base) (pr.reference (lined.operand (erased.operand base))) (pr.reference base)
      (x.super_same base) (x.prefix_same operator) (operator_line operator) (operand_line base) (law_operand base) (law_reference base) q
  law_operand (t.postfix base more operator) q = on_ends _ _ _ _ _ _ (law_primary base q) (λ r q. on_ends _ _ _ _ _ _ (law_selectors _ (first.first_of_primary base) more r (primary_line base) q)
      (λ r q. x.postfixed_goes operator _ (first.first_of_primary base) r (primary_line base) q))
  law_operand (t.primary base) q = on_ends _ _ _ _ _ _ (law_primary base q) (λ r q. read_goes _ (first.first_of_primary base) _ r (primary_line base) refl q)

  law_reference : (z : t.Operand) → Goes k.reference (pr.reference (lined.operand (erased.operand z))) (pr.reference z)
  law_reference (t.postfix base more operator) q = on_ends _ _ _ _ _ _ (law_primary base q) (λ r q. law_selectors _ (first.first_of_primary base) more r (primary_line base) q)
  law_reference (t.primary base) q = law_primary base q
  law_reference (t.conditional condition question one colon other) q = x.no_target_goes _ question refl q
  law_reference (t.binary base more) q = x.no_target_goes _ (first.first_of_operand base) (operand_line base) q
  law_reference (t.is_type base word bang of) q = x.no_target_goes _ word refl q
  law_reference (t.as_type base word of) q = x.no_target_goes _ word refl q
  law_reference (t.prefix operator base) q = x.no_target_goes _ (first.place_of_operator operator) (operator_line operator) q

  law_super_tails : (word : Place) (z : t.Tails) → Goes k.core (pr.super_tails (line word) (lined.tails (erased.tails z))) (pr.super_tails word z)
  law_super_tails word t.no_tails q = x.this_goes word q
  law_super_tails word (t.tail operator next rest) q = on_ends _ _ _ _ _ _
      (x.with_instance_goes k.core word (e.super_binary (line word) (e.operation (leaf.operator operator)) (pr.operand (lined.operand (erased.operand next)))) (e.super_binary word (e.operation operator) (pr.operand next))
      (x.super_binary_goes word _ (e.operation operator) (pr.operand (lined.operand (erased.operand next))) (pr.operand next) (x.operation_same operator) (law_operand next)) q)
      (λ form q. law_tails _ word form rest refl q)

  law_tails : (p' p : Place) (form : Core) (z : t.Tails) → p' ≡ line p → Goes k.core (pr.tails p' (k.core form) (lined.tails (erased.tails z))) (pr.tails p form z)
  law_tails p' p form t.no_tails h q = done _ _ form _ q refl refl
  law_tails p' p form (t.tail operator next rest) h q = on_ends _ _ _ _ _ _
      (x.binary_goes p' p _ (e.operation operator) form _ (first.first_of_operand next) (pr.operand (lined.operand (erased.operand next))) (pr.operand next) h (x.operation_same operator) (operand_line next) (law_operand next) q)
      (λ form q. law_tails p' p form rest h q)

  pub law_primary : (z : t.Primary) → Goes k.reference (pr.primary (lined.primary (erased.primary z))) (pr.primary z)
  law_primary (t.super_access word next) q = law_super_selected word next q
  law_primary (t.bare_super word) q = x.value_goes (e.this_form (line word)) (e.this_form word) (x.this_goes word) q
  law_primary (t.atom atom) q = x.atom_goes atom q
  law_primary (t.text all) q = x.value_goes (e.string_form (first.first_of_pieces (lined.pieces (erased.pieces all))) (constant_units (lined.pieces (erased.pieces all))) (pr.pieces (first.first_of_pieces (lined.pieces (erased.pieces all))) (lined.pieces (erased.pieces all)) []))
      (e.string_form (first.first_of_pieces all) (constant_units all) (pr.pieces (first.first_of_pieces all) all []))
      (λ q. (λ i. e.string_form (first.first_of_pieces (lined.pieces (erased.pieces all))) (s.units_same all i) (pr.pieces (first.first_of_pieces (lined.pieces (erased.pieces all))) (lined.pieces (erased.pieces all)) []) (k.state q)) ∙
      x.string_goes _ (first.first_of_pieces all) (constant_units all) (pr.pieces (first.first_of_pieces (lined.pieces (erased.pieces all))) (lined.pieces (erased.pieces all)) []) (pr.pieces (first.first_of_pieces all) all [])
      (pieces_line all) (law_pieces _ (first.first_of_pieces all) all [] (pieces_line all)) q) q
  law_primary (t.list_literal types opening all comma closing) q = on_ends _ _ _ _ _ _ (kept_arguments_goes types q) (λ ts q. on_ends _ _ _ _ _ _ (law_elements _ (e.asked_at 0 ts) all (x.asked_at_kept 0 ts) q)
      (λ forms q. done _ _ (evaluated (e.list_form (first.first_of_arguments types opening) ts forms)) _ q (ap evaluated (x.list_kept _ (first.first_of_arguments types opening) ts forms (arguments_line types opening))) refl))
  law_primary (t.map_literal types opening all comma closing) q = on_ends _ _ _ _ _ _ (kept_arguments_goes types q) (λ ts q. x.value_goes
      (e.map_form (first.first_of_arguments (leaf.type_arguments types) (line opening)) ts (λ m. pr.entries (e.asked_at 0 ts) (e.asked_at 1 ts) (first.first_of_arguments (leaf.type_arguments types) (line opening)) m (lined.entries (erased.entries all))))
      (e.map_form (first.first_of_arguments types opening) ts (λ m. pr.entries (e.asked_at 0 ts) (e.asked_at 1 ts) (first.first_of_arguments types opening) m all))
      (x.map_goes _ (first.first_of_arguments types opening) ts (λ m. pr.entries (e.asked_at 0 ts) (e.asked_at 1 ts) (first.first_of_arguments (leaf.type_arguments types) (line opening)) m (lined.entries (erased.entries all)))
      (λ m. pr.entries (e.asked_at 0 ts) (e.asked_at 1 ts) (first.first_of_arguments types opening) m all) (arguments_line types opening)
      (λ m. law_entries _ (e.asked_at 0 ts) _ (e.asked_at 1 ts) _ (first.first_of_arguments types opening) m all (x.asked_at_kept 0 ts) (x.asked_at_kept 1 ts) (arguments_line types opening))) q)
  law_primary (t.new_object creation of constructor given) q = on_ends _ _ _ _ _ _
      ((λ i. kept_type (x.creating_node q of constructor i) (x.meeting_same _ (e.is_constant creation) q (x.constant_same creation) i)) ∙ kept_type_goes (e.creating q of constructor).node (e.meeting_constant (e.is_constant creation) q))
      (λ typed after. on_ends _ _ _ _ _ _ (law_arguments given after) (λ all after. x.value_goes
      (e.created (first.place_of_creation (leaf.creation creation)) typed (e.type_name (k.state q) (e.creating (k.state q) (leaf.type_node of) (maybe leaf.dot_name constructor)).node) (e.creating (k.state q) (leaf.type_node of) (maybe leaf.dot_name constructor)).id (k.arguments all))
      (e.created (first.place_of_creation creation) typed (e.type_name q (e.creating q of constructor).node) (e.creating q of constructor).id all)
      (x.created_goes _ (first.place_of_creation creation) typed _ (e.type_name q (e.creating q of constructor).node) _ (e.creating q of constructor).id all
      (creation_line creation) (x.type_name_same q _ (e.creating q of constructor).node (x.creating_node q of constructor)) (x.creating_id q of constructor)) after))
  law_primary (t.function_literal given inner) q = on_ends _ _ _ _ _ _
      (inner_goes [] [] _ (function_type q dynamic given) _ unasked (f.bind_parameters false (k.state q) (lined.parameters (erased.parameters given))) (f.bind_parameters false q given)
      (pr.body (lined.body (erased.body inner))) (pr.body inner) refl (signature_loose q dynamic given) refl (parameters_goes false q given) (law_body inner) q)
      (λ n q. done _ _ (evaluated (f.closure (first.first_of_parameters given) n)) _ q (ap evaluated (closure_kept _ (first.first_of_parameters given) n (parameters_line given))) refl)
  law_primary (t.parenthesized opening given closing) q = x.value_goes (pr.expr (lined.expr (erased.expr given))) (pr.expr given) (law_expr given) q

  law_super_selected : (word : Place) (z : t.Selector) → Goes k.reference (pr.super_selected (line word) (lined.selector (erased.selector z))) (pr.super_selected word z)
  law_super_selected word (t.member dot name) q = x.with_instance_goes k.reference word
      (λ q. went (super_member (own_name (word_of (leaf.identifier name)) q)) q) (λ q. went (super_member (own_name (word_of name) q)) q)
      (λ q. done _ _ (super_member (own_name (word_of name) q)) _ q (ap (λ (w : _). super_member (own_name w q)) (word_same name)) refl) q
  law_super_selected word (t.index opening given closing) q = x.with_instance_goes k.reference word
      (λ q. on (pr.expr (lined.expr (erased.expr given)) q) (λ form q. went (super_item form) q)) (λ q. on (pr.expr given q) (λ form q. went (super_item form) q))
      (λ q. on_ends _ _ _ _ _ _ (law_expr given q) (λ form q. done _ _ (super_item form) _ q refl refl)) q
  law_super_selected word (t.call given) q = stop _ _ (bad_constructor word) refl

  law_selectors : (p' p : Place) (z : t.Selectors) (r : Reference) → p' ≡ line p → Goes k.reference (pr.selectors p' (lined.selectors (erased.selectors z)) (k.reference r)) (pr.selectors p z r)
  law_selectors p' p t.no_selectors r h q = done _ _ r _ q refl refl
  law_selectors p' p (t.selector next rest) r h q = on_ends _ _ _ _ _ _ (law_selected p' p next r h q) (λ r q. law_selectors p' p rest r h q)

  law_selected : (p' p : Place) (z : t.Selector) (r : Reference) → p' ≡ line p → Goes k.reference (pr.selected p' (lined.selector (erased.selector z)) (k.reference r)) (pr.selected p z r)
  law_selected p' p (t.member dot name) r h q = member_goes p' p _ (word_of name) r h (word_same name) q
  law_selected p' p (t.index opening given closing) r h q = on_ends _ _ _ _ _ _ (read_goes p' p _ r h refl q) (λ form q. x.indexed_goes (pr.expr (lined.expr (erased.expr given))) (pr.expr given) form (law_expr given) q)
  law_selected p' p (t.call given) r h q = on_ends _ _ _ _ _ _ (callable_goes r q) (λ r q. x.call_of_goes p' p (pr.arguments (lined.arguments (erased.arguments given))) (pr.arguments given) r h (law_arguments given) q)

  pub law_arguments : (z : t.Arguments) → Goes k.arguments (pr.arguments (lined.arguments (erased.arguments z))) (pr.arguments z)
  law_arguments (t.the_arguments opening all closing) q = law_items all q

  law_items : (z : t.Items) → Goes k.arguments (pr.items (lined.items (erased.items z))) (pr.items z)
  law_items t.no_items q = done _ _ pr.no_arguments _ q refl refl
  law_items (t.item comma label given rest) q = on_ends _ _ _ _ _ _ (law_expr given q) (λ form q. on_ends _ _ _ _ _ _ (law_items rest q)
      (λ more q. done _ _ (pr.with_argument form (pr.label_name label q) more) _ q (ap (λ (n : List Text). pr.with_argument (k.core form) n (k.arguments more)) (label_same label q)) refl))

  law_elements : (a' a : Asked) (z : t.Items) → a' ≡ k.asked a → Goes (map k.core) (pr.elements a' (lined.items (erased.items z))) (pr.elements a z)
  law_elements a' a t.no_items h q = done _ _ [] _ q refl refl
  law_elements a' a (t.item comma label given rest) h q = on_ends _ _ _ _ _ _
      (x.element_goes a' a _ (first.first_of_expr given) (pr.expr (lined.expr (erased.expr given))) (pr.expr given) h (expr_line given) (law_expr given) q)
      (λ form q. on_ends _ _ _ _ _ _ (law_elements a' a rest h q) (λ forms q. done _ _ (form ∷ forms) _ q refl refl))

  law_entries : (b' b a' a : Asked) (p' p : Place) (m : Core) (z : t.Entries) → b' ≡ k.asked b → a' ≡ k.asked a → p' ≡ line p →
      Goes (map k.core) (pr.entries b' a' p' (k.core m) (lined.entries (erased.entries z))) (pr.entries b a p m z)
  law_entries b' b a' a p' p m t.no_entries g h l q = done _ _ [] _ q refl refl
  law_entries b' b a' a p' p m (t.entry comma key colon given rest) g h l q = on_ends _ _ _ _ _ _
      (x.element_goes b' b _ (first.first_of_expr key) (pr.expr (lined.expr (erased.expr key))) (pr.expr key) g (expr_line key) (law_expr key) q) (λ one q. on_ends _ _ _ _ _ _
      (x.element_goes a' a _ (first.first_of_expr given) (pr.expr (lined.expr (erased.expr given))) (pr.expr given) h (expr_line given) (law_expr given) q) (λ other q. on_ends _ _ _ _ _ _
      (law_entries b' b a' a p' p m rest g h l q) (λ forms q. done _ _ (e.put p m one other ∷ forms) _ q (ap (λ (z : Core). z ∷ map k.core forms) (x.put_kept p' p m one other l)) refl)))

  law_pieces : (p' p : Place) (z : t.Pieces) (pending : Text) → p' ≡ line p → Goes (map k.core) (pr.pieces p' (lined.pieces (erased.pieces z)) pending) (pr.pieces p z pending)
  law_pieces p' p t.no_pieces pending h q = x.pending_goes p' p pending h q
  law_pieces p' p (t.piece kind at text term rest) pending h q = on_ends _ _ _ _ _ _ (x.join_goes p' p at (parts_of kind text) pending h q) (λ joined q. on_ends _ _ _ _ _ _ (law_interpolated p' p term joined.pending h q)
      (λ next q. on_ends _ _ _ _ _ _ (law_pieces p' p rest next.pending h q) (λ forms q. done _ _ (joined.forms ++ next.forms ++ forms) _ q
      ((λ i. sym (map-append k.core joined.forms next.forms) i ++ map k.core forms) ∙ sym (map-append k.core (joined.forms ++ next.forms) forms)) refl)))

  law_interpolated : (p' p : Place) (z : t.Value) (pending : Text) → p' ≡ line p → Goes x.joined (pr.interpolated p' (lined.value (erased.value z)) pending) (pr.interpolated p z pending)
  law_interpolated p' p t.omitted pending h q = done _ _ (record { forms = []; pending = pending }) _ q refl refl
  law_interpolated p' p (t.given operator given) pending h q = on_ends _ _ _ _ _ _ (x.pending_goes p' p pending h q) (λ before q. on_ends _ _ _ _ _ _ (law_expr given q)
      (λ form q. done _ _ (record { forms = before ++ e.to_string p form ∷ []; pending = [] }) _ q
      (ap (λ (z : List Core). record { forms = z; pending = [] }) (x.more_kept _ before _ (e.to_string p form) [] refl (x.to_string_kept p' p form h))) refl))

  -- ---- bodies and statements

  pub law_body : (z : t.Body) → Goes k.part (pr.body (lined.body (erased.body z))) (pr.body z)
  law_body (t.arrow_body arrow given semicolon) q = on_ends _ _ _ _ _ _ (s.returned_goes _ (first.first_of_expr given) _ (first.first_of_expr given) (pr.expr (lined.expr (erased.expr given))) (pr.expr given) (expr_line given) (expr_line given) (law_expr given) q)
      (λ form q. done _ _ (c.given form) _ q (s.given_kept form) refl)
  law_body (t.block_body inside) q = on_ends _ _ _ _ _ _ (law_block inside q) (λ form q. done _ _ (c.given form) _ q (s.given_kept form) refl)
  law_body (t.no_body semicolon) q = done _ _ c.missing _ q s.missing_kept refl

  pub law_block : (z : t.Block) → Goes k.core (pr.block_of (lined.block (erased.block z))) (pr.block_of z)
  law_block (t.the_block opening statements closing) q = on_ends _ _ _ _ _ _ (scoped_goes (map k.core) (pr.stmts (lined.stmts (erased.stmts statements))) (pr.stmts statements) (law_stmts statements) q)
      (λ forms q. done _ _ (block opening forms) _ q (block_kept opening forms) refl)

  law_stmts : (z : t.Stmts) → Goes (map k.core) (pr.stmts (lined.stmts (erased.stmts z))) (pr.stmts z)
  law_stmts t.no_stmts q = done _ _ [] _ q refl refl
  law_stmts (t.stmt one rest) q = on_ends _ _ _ _ _ _ (law_stmt one [] q) (λ forms q. on_ends _ _ _ _ _ _ (law_stmts rest q) (λ more q. done _ _ (forms ++ more) _ q (sym (map-append k.core forms more)) refl))

  law_stmt : (z : t.Stmt) (labels : List Text) → Goes (map k.core) (pr.stmt (lined.stmt (erased.stmt z)) labels) (pr.stmt z labels)
  law_stmt (t.labelled label inner) labels q = (λ i. pr.stmt (lined.stmt (erased.stmt inner)) (text_same label.name i ∷ labels) (k.state q)) ∙ law_stmt inner (st.label_text label ∷ labels) q
  law_stmt (t.block_stmt inside) labels q = s.labelling_goes labels (st.alone (pr.block_of (lined.block (erased.block inside)))) (st.alone (pr.block_of inside))
      (s.alone_goes (pr.block_of (lined.block (erased.block inside))) (pr.block_of inside) (law_block inside)) q
  law_stmt (t.variables_stmt declared) labels q = s.labelling_goes labels (pr.variables (lined.variables (erased.variables declared))) (pr.variables declared) (law_variables declared) q
  law_stmt (t.function_stmt made) labels q = s.labelling_goes labels (pr.local_function (lined.function (erased.function made))) (pr.local_function made) (law_function made) q
  law_stmt (t.if_stmt word opening condition closing one) labels q = s.labelling_goes labels
      (st.if_form (line word) (first.first_of_expr (lined.expr (erased.expr condition))) (pr.expr (lined.expr (erased.expr condition))) (st.part (pr.stmt (lined.stmt (erased.stmt one)) [])) st.no_part)
      (st.if_form word (first.first_of_expr condition) (pr.expr condition) (st.part (pr.stmt one [])) st.no_part)
      (s.if_goes word _ (first.first_of_expr condition) (pr.expr (lined.expr (erased.expr condition))) (pr.expr condition) (st.part (pr.stmt (lined.stmt (erased.stmt one)) [])) (st.part (pr.stmt one [])) st.no_part st.no_part
      (expr_line condition) (law_expr condition) (s.part_goes (pr.stmt (lined.stmt (erased.stmt one)) []) (pr.stmt one []) (law_stmt one [])) s.no_part_goes) q
  law_stmt (t.if_else word opening condition closing one other two) labels q = s.labelling_goes labels
      (st.if_form (line word) (first.first_of_expr (lined.expr (erased.expr condition))) (pr.expr (lined.expr (erased.expr condition))) (st.part (pr.stmt (lined.stmt (erased.stmt one)) [])) (st.part (pr.stmt (lined.stmt (erased.stmt two)) [])))
      (st.if_form word (first.first_of_expr condition) (pr.expr condition) (st.part (pr.stmt one [])) (st.part (pr.stmt two [])))
      (s.if_goes word _ (first.first_of_expr condition) (pr.expr (lined.expr (erased.expr condition))) (pr.expr condition) (st.part (pr.stmt (lined.stmt (erased.stmt one)) [])) (st.part (pr.stmt one [])) (st.part (pr.stmt (lined.stmt (erased.stmt two)) [])) (st.part (pr.stmt two []))
      (expr_line condition) (law_expr condition) (s.part_goes (pr.stmt (lined.stmt (erased.stmt one)) []) (pr.stmt one []) (law_stmt one [])) (s.part_goes (pr.stmt (lined.stmt (erased.stmt two)) []) (pr.stmt two []) (law_stmt two []))) q
  law_stmt (t.loop again) labels q = law_loop again labels q
  law_stmt (t.switch_stmt word opening given closing left parts right) labels q = s.switch_goes labels word _ (first.first_of_expr given) parts (pr.expr (lined.expr (erased.expr given))) (pr.expr given)
      (pr.cases (line word) (st.kind_of_cases (lined.switch_parts (erased.switch_parts parts))) (lined.switch_parts (erased.switch_parts parts))) (pr.cases word (st.kind_of_cases parts) parts)
      (expr_line given) (law_expr given) (law_cases word _ (st.kind_of_cases parts) parts (s.kind_same parts)) q
  law_stmt (t.try_stmt word inside parts) labels q = s.labelling_goes labels
      (st.try_form (line word) (pr.block_of (lined.block (erased.block inside))) (pr.try_parts (lined.try_parts (erased.try_parts parts)))) (st.try_form word (pr.block_of inside) (pr.try_parts parts))
      (s.try_goes word (pr.block_of (lined.block (erased.block inside))) (pr.block_of inside) (pr.try_parts (lined.try_parts (erased.try_parts parts))) (pr.try_parts parts) (law_block inside) (law_try_parts parts)) q
  law_stmt (t.return_stmt word term semicolon) labels q = s.labelling_goes labels (st.alone (pr.return_value (line word) (lined.value (erased.value term)))) (st.alone (pr.return_value word term))
      (s.alone_goes (pr.return_value (line word) (lined.value (erased.value term))) (pr.return_value word term) (law_return word term)) q
  law_stmt (t.jump jump) labels q = s.labelling_goes labels (st.jumping (leaf.jump jump)) (st.jumping jump) (s.jumping_goes jump) q
  law_stmt (t.expression_stmt term semicolon) labels q = s.labelling_goes labels (pr.expression (lined.value (erased.value term))) (pr.expression term) (law_expression term) q

  law_expression : (z : t.Value) → Goes (map k.core) (pr.expression (lined.value (erased.value z))) (pr.expression z)
  law_expression t.omitted q = done _ _ [] _ q refl refl
  law_expression (t.given operator given) q = s.alone_goes (pr.expr (lined.expr (erased.expr given))) (pr.expr given) (law_expr given) q

  law_return : (word : Place) (z : t.Value) → Goes k.core (pr.return_value (line word) (lined.value (erased.value z))) (pr.return_value word z)
  law_return word t.omitted q = done _ _ (st.return_form word c.missing) _ q (s.return_kept _ word _ c.missing refl s.missing_kept) refl
  law_return word (t.given operator given) q = s.returned_if_goes q.inside.gives_value word _ (first.first_of_expr given) (pr.expr (lined.expr (erased.expr given))) (pr.expr given) (expr_line given) (law_expr given) q

  law_loop : (z : t.Loop) (labels : List Text) → Goes (map k.core) (pr.loop (lined.loop (erased.loop z)) labels) (pr.loop z labels)
  law_loop (t.for_loop word opening start first_semicolon condition semicolon updates closing inner) labels q = s.for_goes labels word
      (pr.expression (lined.value (erased.value start))) (pr.expression start) (pr.condition_part (lined.value (erased.value condition))) (pr.condition_part condition)
      (pr.steps (lined.items (erased.items updates))) (pr.steps updates) (st.part (pr.stmt (lined.stmt (erased.stmt inner)) [])) (st.part (pr.stmt inner []))
      (law_expression start) (law_condition condition) (law_steps updates) (s.part_goes (pr.stmt (lined.stmt (erased.stmt inner)) []) (pr.stmt inner []) (law_stmt inner [])) q
  law_loop (t.for_variables word opening declared condition semicolon updates closing inner) labels q = s.for_goes labels word
      (pr.variables (lined.variables (erased.variables declared))) (pr.variables declared) (pr.condition_part (lined.value (erased.value condition))) (pr.condition_part condition)
      (pr.steps (lined.items (erased.items updates))) (pr.steps updates) (st.part (pr.stmt (lined.stmt (erased.stmt inner)) [])) (st.part (pr.stmt inner []))
      (law_variables declared) (law_condition condition) (law_steps updates) (s.part_goes (pr.stmt (lined.stmt (erased.stmt inner)) []) (pr.stmt inner []) (law_stmt inner [])) q
  law_loop (t.for_in word opening kind name inside iterated closing inner) labels q = s.for_in_goes labels word _ (first.first_of_expr iterated)
      (pr.expr (lined.expr (erased.expr iterated))) (pr.expr iterated)
      (st.next (line word) (word_of (leaf.identifier name)) (asked_of_kind (k.state q) (leaf.variable_kind (erased.variable_kind name kind))) (leaf.variable_kind (erased.variable_kind name kind))) (st.next word (word_of name) (asked_of_kind q kind) kind)
      (pr.stmt (lined.stmt (erased.stmt inner)) []) (pr.stmt inner []) (expr_line iterated) (law_expr iterated)
      (λ form. s.next_goes word name _ (word_of name) _ (asked_of_kind q kind) kind form (word_same name) (asked_kind name (k.state q) q kind)) (law_stmt inner []) q
  law_loop (t.while_loop word opening condition closing inner) labels q = s.while_goes labels word _ (first.first_of_expr condition) (pr.expr (lined.expr (erased.expr condition))) (pr.expr condition)
      (st.part (pr.stmt (lined.stmt (erased.stmt inner)) [])) (st.part (pr.stmt inner [])) (expr_line condition) (law_expr condition) (s.part_goes (pr.stmt (lined.stmt (erased.stmt inner)) []) (pr.stmt inner []) (law_stmt inner [])) q
  law_loop (t.do_loop word inner again opening condition closing semicolon) labels q = s.do_goes labels word _ (first.first_of_expr condition)
      (st.part (pr.stmt (lined.stmt (erased.stmt inner)) [])) (st.part (pr.stmt inner [])) (pr.expr (lined.expr (erased.expr condition))) (pr.expr condition) (expr_line condition) (s.part_goes (pr.stmt (lined.stmt (erased.stmt inner)) []) (pr.stmt inner []) (law_stmt inner [])) (law_expr condition) q

  law_condition : (z : t.Value) → Goes k.part (pr.condition_part (lined.value (erased.value z))) (pr.condition_part z)
  law_condition t.omitted q = s.no_part_goes q
  law_condition (t.given operator given) q = on_ends _ _ _ _ _ _ (s.condition_goes _ (first.first_of_expr given) (pr.expr (lined.expr (erased.expr given))) (pr.expr given) (expr_line given) (law_expr given) q)
      (λ form q. done _ _ (c.given form) _ q (s.given_kept form) refl)

  law_steps : (z : t.Items) → Goes (map k.core) (pr.steps (lined.items (erased.items z))) (pr.steps z)
  law_steps t.no_items q = done _ _ [] _ q refl refl
  law_steps (t.item comma label given rest) q = on_ends _ _ _ _ _ _ (law_expr given q) (λ form q. on_ends _ _ _ _ _ _ (law_steps rest q) (λ forms q. done _ _ (form ∷ forms) _ q refl refl))

  law_cases : (p : Place) (d' d : st.CaseKind) (z : t.SwitchParts) → d' ≡ d → Goes (map k.case) (pr.cases (line p) d' (lined.switch_parts (erased.switch_parts z))) (pr.cases p d z)
  law_cases p d' d t.no_switch_parts h q = done _ _ [] _ q refl refl
  law_cases p d' d (t.switch_part labels word term colon statements rest) h q = on_ends _ _ _ _ _ _
      (s.case_goes p (st.case_value d' (lined.value (erased.value term))) (st.case_value d term) (pr.stmts (lined.stmts (erased.stmts statements))) (pr.stmts statements) (s.case_value_goes d' d term h) (law_stmts statements) q)
      (λ one q. on_ends _ _ _ _ _ _ (law_cases p d' d rest h q) (λ more q. done _ _ (one ∷ more) _ q refl refl))

  law_try_parts : (z : t.TryParts) → Goes s.try_parts (pr.try_parts (lined.try_parts (erased.try_parts z))) (pr.try_parts z)
  law_try_parts t.no_try_parts q = done _ _ pr.without_parts _ q (ap (λ (z : c.Part Text). record { handlers = []; last = z }) s.missing_kept) refl
  law_try_parts (t.try_part (y.on_part word of names) inside rest) q = on_ends _ _ _ _ _ _ (kept_type_goes of q) (λ typed q. on_ends _ _ _ _ _ _
      (s.caught_goes names (pr.block_of (lined.block (erased.block inside))) (pr.block_of inside) (law_block inside) q) (λ caught q. on_ends _ _ _ _ _ _ (law_try_parts rest q)
      (λ parts q. done _ _ (st.with_handler (st.handler_of (st.test_of (first.first_of_type of) typed) caught) parts) _ q
      (ap (λ (z : c.Handler Text). st.with_handler z (s.try_parts parts)) (s.handler_kept _ (st.test_of (first.first_of_type of) typed) caught (s.test_kept _ (first.first_of_type of) typed (type_line of)))) refl)))
  law_try_parts (t.try_part (y.catch_part names) inside rest) q = on_ends _ _ _ _ _ _
      (s.caught_goes (Some names) (pr.block_of (lined.block (erased.block inside))) (pr.block_of inside) (law_block inside) q) (λ caught q. on_ends _ _ _ _ _ _ (law_try_parts rest q)
      (λ parts q. done _ _ (st.with_handler (st.handler_of c.everything caught) parts) _ q
      (ap (λ (z : c.Handler Text). st.with_handler z (s.try_parts parts)) (s.handler_kept _ c.everything caught s.everything_kept)) refl))
  law_try_parts (t.try_part (y.finally_part word) inside rest) q = on_ends _ _ _ _ _ _ (law_block inside q) (λ form q. on_ends _ _ _ _ _ _ (law_try_parts rest q)
      (λ parts q. done _ _ (pr.with_last form parts) _ q (ap (λ (z : c.Part Text). record { handlers = map k.handler parts.handlers; last = z }) (s.given_kept form)) refl))

  -- ---- local variables and functions

  law_initial : (p' p : Place) (a' a : Asked) (z : t.Value) → p' ≡ line p → a' ≡ k.asked a → Goes k.core (pr.initial p' a' (lined.value (erased.value z))) (pr.initial p a z)
  law_initial p' p a' a t.omitted h l q = done _ _ (null p) _ q (null_kept p' p h) refl
  law_initial p' p a' a (t.given operator given) h l q = s.initial_goes _ (first.first_of_expr given) p' p a' a (pr.expr (lined.expr (erased.expr given))) (pr.expr given) (expr_line given) l (law_expr given) q

  pub law_variables : (z : t.Variables) → Goes (map k.core) (pr.variables (lined.variables (erased.variables z))) (pr.variables z)
  law_variables (t.the_variables kind name term more semicolon) q = on_ends _ _ _ _ _ _
      ((λ i. st.variable (first.first_of_variables (leaf.variable_kind (erased.variable_kind name kind)) (leaf.identifier name)) (asked_of_kind (k.state q) (leaf.variable_kind (erased.variable_kind name kind)))
      (is_final (leaf.variable_kind (erased.variable_kind name kind))) (text_of (leaf.identifier name))
      (pr.initial (first.first_of_variables (leaf.variable_kind (erased.variable_kind name kind)) (leaf.identifier name)) (asked_of_kind (k.state q) (leaf.variable_kind (erased.variable_kind name kind))) (lined.value (erased.value term)))
      (x.meeting_same _ (is_const kind) q (const_same name kind) i)) ∙
      s.variable_goes _ (first.first_of_variables kind name) _ (asked_of_kind q kind) _ (is_final kind) _ (text_of name)
      (pr.initial (first.first_of_variables (leaf.variable_kind (erased.variable_kind name kind)) (leaf.identifier name)) (asked_of_kind (k.state q) (leaf.variable_kind (erased.variable_kind name kind))) (lined.value (erased.value term)))
      (pr.initial (first.first_of_variables kind name) (asked_of_kind q kind) term)
      (variables_line name kind) (asked_kind name (k.state q) q kind) (final_same name kind) (text_same name)
      (law_initial _ (first.first_of_variables kind name) _ (asked_of_kind q kind) term (variables_line name kind) (asked_kind name (k.state q) q kind)) (e.meeting_constant (is_const kind) q))
      (λ form after. on_ends _ _ _ _ _ _ (law_more_variables _ (first.first_of_variables kind name) _ (asked_of_kind q kind) _ (is_final kind) more (variables_line name kind) (asked_kind name (k.state q) q kind) (final_same name kind) after)
      (λ forms after. done _ _ (form ∷ forms) _ after refl refl))

  law_more_variables : (p' p : Place) (a' a : Asked) (b' b : Bool) (z : t.MoreVariables) → p' ≡ line p → a' ≡ k.asked a → b' ≡ b →
      Goes (map k.core) (pr.more_variables p' a' b' (lined.more_variables (erased.more_variables z))) (pr.more_variables p a b z)
  law_more_variables p' p a' a b' b t.no_variables h l m q = done _ _ [] _ q refl refl
  law_more_variables p' p a' a b' b (t.variable comma name term rest) h l m q = on_ends _ _ _ _ _ _
      (s.variable_goes p' p a' a b' b _ (text_of name) (pr.initial p' a' (lined.value (erased.value term))) (pr.initial p a term) h l m (text_same name) (law_initial p' p a' a term h l) q)
      (λ form q. on_ends _ _ _ _ _ _ (law_more_variables p' p a' a b' b rest h l m q) (λ forms q. done _ _ (form ∷ forms) _ q refl refl))

  law_function : (z : t.Function) → Goes (map k.core) (pr.local_function (lined.function (erased.function z))) (pr.local_function z)
  law_function (t.the_function external result name given inner) q = local_goes _ (place_of name) _ (text_of name)
      (λ outer. f.inner_function (own_name (word_of (leaf.identifier name)) (k.state q)) (function_type outer (result_type outer None) (lined.parameters (erased.parameters given))) (asked_of_result outer None)
      (f.bind_parameters false outer (lined.parameters (erased.parameters given))) (pr.body (lined.body (erased.body inner))) outer)
      (λ outer. f.inner_function (own_name (word_of name) q) (function_type outer (result_type outer result) given) (asked_of_result outer result) (f.bind_parameters false outer given) (pr.body inner) outer)
      (place_line name) (text_same name)
      (λ outer. inner_goes _ (own_name (word_of name) q) _ (function_type outer (result_type outer result) given) _ (asked_of_result outer result)
      (f.bind_parameters false (k.state outer) (lined.parameters (erased.parameters given))) (f.bind_parameters false outer given) (pr.body (lined.body (erased.body inner))) (pr.body inner)
      (ap (λ (w : _). own_name w q) (word_same name)) (signature_loose outer (result_type outer result) given) (asked_result (k.state outer) outer result) (parameters_goes false outer given) (law_body inner) outer) q
