-- Rows of operators, arguments, lists, maps and strings, while they are walked over.
use Rattle.std.proofs.Common.{◌≡◌, ◌∙◌, ℕ, ◌+◌, ◌<◌, ◌≤◌, List, [], ◌∷◌, ◌++◌, length, drop, get_or, Option, Some, None, refl, sym, ap, subst, append_assoc, append-nil}
use Rattle.std.proofs.lemmas.List.{drop_all}
use Rattle.dart_base.specs.declared.place.Place.{Place}
use Rattle.dart_tree.specs.declared.operator.Operator.{Operator}
use Rattle.dart_tree.specs.declared.expression.Tail.{Tail}
use Rattle.dart_tree.specs.declared.expression.Item.{Item}
use Rattle.dart_tree.specs.declared.expression.Entry.{Entry}
use Rattle.dart_tree.specs.declared.expression.StringPiece.{StringPiece}
use Rattle.dart_tree.specs.Lists.{tails_of, items_of, entries_of, pieces_of}
use Rattle.dart_tree.specs.Tree as t
use Rattle.dart_tree.specs.View as view
use Rattle.translation.specs.Surroundings.{Text, Core}
use Rattle.translation.specs.Expressions as e
use Rattle.translation.specs.Firsts.{first_of_expr, first_of_operand}
use Rattle.translation.specs.Productions as low
use Rattle.translation.specs.References.{Arguments}
use Rattle.translation.specs.Strings.{parts_of}
use Rattle.translation.specs.Walk as w
use Rattle.lower_expr.specs.Made.{behind_super, interpolated_behind, piece_joined}
use Rattle.lower_expr.specs.Behind.{label_names, shown_value}
use Rattle.lower_expr.proofs.Rest.{behind_forms, rest_of}
use Rattle.lower_expr.proofs.Walking.{rest_at, on_on, behind_one}

-- an answer that is only kept
pub kept_as : {A B : Type 0} (f : A → B) (walk : w.Went A) (x : A) (st : w.State) → walk ≡ w.went x st →
    w.on walk (λ a st. w.went (f a) st) ≡ w.went (f x) st
unfolding w.on
kept_as {A} f walk x st h = ap (λ (went : w.Went A). w.on went (λ a st. w.went (f a) st)) h

-- nothing before the forms of a walk
pub behind_no_forms : (walk : w.Went (List Core)) → behind_forms [] walk ≡ walk
unfolding w.on
behind_no_forms (w.went more st) = refl
behind_no_forms (w.refused reason) = refl

-- ---- rows of operators

abbrev pub row_next : Place → Tail → Core → w.Walk Core
row_next place x before st =
    e.binary place (e.operation x.operator) before (first_of_operand (view.operand x.operand)) (low.operand (view.operand x.operand)) st

abbrev pub row_from : Place → List Tail → Core → w.Walk Core
row_from place xs before st = low.tails place before (tails_of xs) st

pub row_law : (place : Place) (x : Tail) (xs : List Tail) (before : Core) (st : w.State) →
    row_from place (x ∷ xs) before st ≡ w.on (row_next place x before st) (row_from place xs)
row_law place x xs before st = refl

abbrev pub super_next : Place → Tail → Option Core → w.Walk (Option Core)
super_next word x before st = w.on (behind_super word before x.operator (view.operand x.operand) st) (λ form st. w.went (Some form) st)

abbrev pub super_from : Place → List Tail → Option Core → w.Walk Core
super_from word xs before st = rest_of word before (tails_of xs) st

pub super_law : (word : Place) (x : Tail) (xs : List Tail) (before : Option Core) (st : w.State) →
    super_from word (x ∷ xs) before st ≡ w.on (super_next word x before st) (super_from word xs)
unfolding w.on
super_law word x xs None st = on_on (behind_super word None x.operator (view.operand x.operand) st) (λ form st. w.went (Some form) st) (super_from word xs)
super_law word x xs (Some form) st =
    on_on (behind_super word (Some form) x.operator (view.operand x.operand) st) (λ form st. w.went (Some form) st) (super_from word xs)

-- ---- arguments

abbrev pub arguments_of : List Core → List Text → Arguments
arguments_of forms names = record { forms = forms; names = names }

abbrev pub with_names : t.Items → List Core → w.Walk Arguments
with_names xs forms st = w.went (arguments_of forms (label_names xs st)) st

-- Arguments are their values with their names.
pub items_law : (xs : t.Items) (st : w.State) → low.items xs st ≡ w.on (low.steps xs st) (with_names xs)
unfolding w.on
items_law t.no_items st = refl
items_law (t.item comma label given rest) st = first (items_law rest) (low.expr given st) where
  third : (form : Core) (walk : w.Went (List Core)) →
      w.on (w.on walk (with_names rest)) (λ more st. w.went (low.with_argument form (low.label_name label st) more) st)
      ≡ w.on (w.on walk (λ forms st. w.went (form ∷ forms) st)) (with_names (t.item comma label given rest))
  third form (w.went forms st) = refl
  third form (w.refused reason) = refl

  second : ((st : w.State) → low.items rest st ≡ w.on (low.steps rest st) (with_names rest)) → (form : Core) (st : w.State) →
      w.on (low.items rest st) (λ more st. w.went (low.with_argument form (low.label_name label st) more) st)
      ≡ w.on (w.on (low.steps rest st) (λ forms st. w.went (form ∷ forms) st)) (with_names (t.item comma label given rest))
  second others form st =
      ap (λ (walk : w.Went Arguments). w.on walk (λ more st. w.went (low.with_argument form (low.label_name label st) more) st)) (others st)
      ∙ third form (low.steps rest st)

  first : ((st : w.State) → low.items rest st ≡ w.on (low.steps rest st) (with_names rest)) → (walk : w.Went Core) →
      w.on walk (λ form st. w.on (low.items rest st) (λ more st. w.went (low.with_argument form (low.label_name label st) more) st))
      ≡ w.on (w.on walk (λ form st. w.on (low.steps rest st) (λ forms st. w.went (form ∷ forms) st))) (with_names (t.item comma label given rest))
  first others (w.went form st) = second others form st
  first others (w.refused reason) = refl

abbrev pub value_next : Item → List Core → w.Walk (List Core)
value_next x before st = w.on (low.expr (view.expr x.value) st) (λ form st. w.went (before ++ form ∷ []) st)

abbrev pub values_from : List Item → List Core → w.Walk (List Core)
values_from xs before st = behind_forms before (low.steps (items_of xs) st)

pub values_law : (x : Item) (xs : List Item) (before : List Core) (st : w.State) →
    values_from (x ∷ xs) before st ≡ w.on (value_next x before st) (values_from xs)
values_law x xs before st = behind_one before (low.expr (view.expr x.value) st) (low.steps (items_of xs))

abbrev pub labels_from : w.State → List Item → List Text → List Text
labels_from st xs before = before ++ label_names (items_of xs) st

-- the next label
pub label_next : (st : w.State) (all ys : List Item) (i : ℕ) (x : Item) (before : List Text) (whole : List Text) →
    ys ≡ all → i < length ys → x ≡ get_or ys i x → labels_from st (drop i all) before ≡ whole →
    labels_from st (drop (i + 1) all) (before ++ low.label_name x.label st) ≡ whole
label_next st all ys i x before whole same below is done =
    append_assoc before (low.label_name x.label st) (label_names (items_of (drop (i + 1) all)) st)
    ∙ ap (λ (l : List Item). labels_from st l before) (sym (rest_at all i x
    (let P : List Item → Type 0 = λ l. i < length l in subst P same below) (is ∙ ap (λ (l : List Item). get_or l i x) same)))
    ∙ done

-- ---- lists and maps

abbrev pub element_next : w.Asked → Item → List Core → w.Walk (List Core)
element_next asked x before st = w.on (e.element asked (first_of_expr (view.expr x.value)) (low.expr (view.expr x.value)) st)
    (λ form st. w.went (before ++ form ∷ []) st)

abbrev pub elements_from : w.Asked → List Item → List Core → w.Walk (List Core)
elements_from asked xs before st = behind_forms before (low.elements asked (items_of xs) st)

pub elements_law : (asked : w.Asked) (x : Item) (xs : List Item) (before : List Core) (st : w.State) →
    elements_from asked (x ∷ xs) before st ≡ w.on (element_next asked x before st) (elements_from asked xs)
elements_law asked x xs before st =
    behind_one before (e.element asked (first_of_expr (view.expr x.value)) (low.expr (view.expr x.value)) st) (low.elements asked (items_of xs))

abbrev pub entry_next : w.Asked → w.Asked → Place → Core → Entry → List Core → w.Walk (List Core)
entry_next of_keys of_values place map x before st =
    w.on (e.element of_keys (first_of_expr (view.expr x.key)) (low.expr (view.expr x.key)) st) (λ key st.
    w.on (e.element of_values (first_of_expr (view.expr x.value)) (low.expr (view.expr x.value)) st) (λ value st.
    w.went (before ++ e.put place map key value ∷ []) st))

abbrev pub entries_from : w.Asked → w.Asked → Place → Core → List Entry → List Core → w.Walk (List Core)
entries_from of_keys of_values place map xs before st = behind_forms before (low.entries of_keys of_values place map (entries_of xs) st)

behind_entry : (before : List Core) (make : Core → Core → Core) (key : w.Went Core) (value : w.Walk Core) (rest : w.Walk (List Core)) →
    behind_forms before (w.on key (λ one st. w.on (value st) (λ other st. w.on (rest st) (λ forms st. w.went (make one other ∷ forms) st))))
    ≡ w.on (w.on key (λ one st. w.on (value st) (λ other st. w.went (before ++ make one other ∷ []) st))) (λ (all : List Core) st. behind_forms all (rest st))
unfolding w.on
behind_entry before make (w.went one st) value rest = second (value st) where
  third : (other : Core) (walk : w.Went (List Core)) →
      behind_forms before (w.on walk (λ forms st. w.went (make one other ∷ forms) st)) ≡ behind_forms (before ++ make one other ∷ []) walk
  third other (w.went forms st) = ap (λ (l : List Core). w.went l st) (sym (append_assoc before (make one other ∷ []) forms))
  third other (w.refused reason) = refl

  second : (walk : w.Went Core) →
      behind_forms before (w.on walk (λ other st. w.on (rest st) (λ forms st. w.went (make one other ∷ forms) st)))
      ≡ w.on (w.on walk (λ other st. w.went (before ++ make one other ∷ []) st)) (λ (all : List Core) st. behind_forms all (rest st))
  second (w.went other st) = third other (rest st)
  second (w.refused reason) = refl
behind_entry before make (w.refused reason) value rest = refl

pub entries_law : (of_keys of_values : w.Asked) (place : Place) (map : Core) (x : Entry) (xs : List Entry) (before : List Core) (st : w.State) →
    entries_from of_keys of_values place map (x ∷ xs) before st
    ≡ w.on (entry_next of_keys of_values place map x before st) (entries_from of_keys of_values place map xs)
entries_law of_keys of_values place map x xs before st =
    behind_entry before (e.put place map) (e.element of_keys (first_of_expr (view.expr x.key)) (low.expr (view.expr x.key)) st)
    (e.element of_values (first_of_expr (view.expr x.value)) (low.expr (view.expr x.value)))
    (low.entries of_keys of_values place map (entries_of xs))

-- ---- strings

abbrev pub joined_of : List Core → Text → e.Joined
joined_of forms pending = record { forms = forms; pending = pending }

abbrev pub joined_behind : List Core → e.Joined → e.Joined
joined_behind before more = record more { forms = before ++ more.forms }

abbrev pub piece_next : Place → StringPiece → e.Joined → w.Walk e.Joined
piece_next place x before st = w.on (piece_joined place x.kind x.place x.text (view.value x.value) before.pending st)
    (λ more st. w.went (joined_behind before.forms more) st)

abbrev pub pieces_from : Place → List StringPiece → e.Joined → w.Walk (List Core)
pieces_from place xs before st = behind_forms before.forms (low.pieces place (pieces_of xs) before.pending st)

behind_piece : (before : List Core) (parts : w.Went e.Joined) (value : Text → w.Walk e.Joined) (rest : Text → w.Walk (List Core)) →
    behind_forms before (w.on parts (λ joined st. w.on (value joined.pending st) (λ next st. w.on (rest next.pending st)
    (λ forms st. w.went (joined.forms ++ next.forms ++ forms) st))))
    ≡ w.on (w.on (w.on parts (λ joined st. w.on (value joined.pending st) (λ next st. w.went (joined_behind joined.forms next) st)))
    (λ more st. w.went (joined_behind before more) st)) (λ b st. behind_forms b.forms (rest b.pending st))
unfolding w.on
behind_piece before (w.went joined st) value rest = second (value joined.pending st) where
  third : (next : e.Joined) (walk : w.Went (List Core)) →
      behind_forms before (w.on walk (λ forms st. w.went (joined.forms ++ next.forms ++ forms) st))
      ≡ behind_forms (before ++ (joined.forms ++ next.forms)) walk
  third next (w.went forms st) = ap (λ (l : List Core). w.went l st) (sym (append_assoc before (joined.forms ++ next.forms) forms))
  third next (w.refused reason) = refl

  second : (walk : w.Went e.Joined) →
      behind_forms before (w.on walk (λ next st. w.on (rest next.pending st) (λ forms st. w.went (joined.forms ++ next.forms ++ forms) st)))
      ≡ w.on (w.on (w.on walk (λ next st. w.went (joined_behind joined.forms next) st)) (λ more st. w.went (joined_behind before more) st))
      (λ b st. behind_forms b.forms (rest b.pending st))
  second (w.went next st) = third next (rest next.pending st)
  second (w.refused reason) = refl
behind_piece before (w.refused reason) value rest = refl

pub pieces_law : (place : Place) (x : StringPiece) (xs : List StringPiece) (before : e.Joined) (st : w.State) →
    pieces_from place (x ∷ xs) before st ≡ w.on (piece_next place x before st) (pieces_from place xs)
pieces_law place x xs before st =
    behind_piece before.forms (e.join_parts place x.place (parts_of x.kind x.text) before.pending st)
    (low.interpolated place (view.value x.value)) (low.pieces place (pieces_of xs))

pub interpolated_omitted : (place : Place) (value : t.Value) (before : e.Joined) (st : w.State) → value ≡ t.omitted →
    interpolated_behind place value before st ≡ w.went before st
unfolding w.on
interpolated_omitted place value before st is =
    ap (λ (v : t.Value). interpolated_behind place v before st) is ∙ ap (λ (l : List Core). w.went (joined_of l before.pending) st) (append-nil before.forms)

given_behind : (place : Place) (value : w.Walk Core) (before : e.Joined) (pending : w.Went (List Core)) →
    w.on (w.on pending (λ b st. w.on (value st) (λ form st. w.went (joined_of (b ++ e.to_string place form ∷ []) []) st)))
    (λ next st. w.went (joined_behind before.forms next) st)
    ≡ w.on (w.on pending (λ b st. w.on (value st) (λ form st. w.went (b ++ e.to_string place form ∷ []) st)))
    (λ more st. w.went (joined_of (before.forms ++ more) []) st)
unfolding w.on
given_behind place value before (w.went b st) = ended (value st) where
  ended : (walk : w.Went Core) →
      w.on (w.on walk (λ form st. w.went (joined_of (b ++ e.to_string place form ∷ []) []) st)) (λ next st. w.went (joined_behind before.forms next) st)
      ≡ w.on (w.on walk (λ form st. w.went (b ++ e.to_string place form ∷ []) st)) (λ more st. w.went (joined_of (before.forms ++ more) []) st)
  ended (w.went form st) = refl
  ended (w.refused reason) = refl
given_behind place value before (w.refused reason) = refl

pub interpolated_given : (place : Place) (value : t.Value) (operator : Option Operator) (given : t.Expr) (before : e.Joined) (st : w.State) →
    value ≡ t.given operator given → interpolated_behind place value before st
    ≡ w.on (shown_value place (low.expr given) before.pending st) (λ more st. w.went (joined_of (before.forms ++ more) []) st)
interpolated_given place value operator given before st is =
    ap (λ (v : t.Value). interpolated_behind place v before st) is
    ∙ given_behind place (low.expr given) before (e.pending_literal place before.pending st)

-- behind the last piece
pub pieces_end : (place : Place) (all ys : List StringPiece) (i : ℕ) (before : e.Joined) (st : w.State) (whole : w.Went (List Core)) →
    ys ≡ all → length ys ≤ i → pieces_from place (drop i all) before st ≡ whole →
    whole ≡ w.on (e.pending_literal place before.pending st) (λ more st. w.went (before.forms ++ more) st)
pieces_end place all ys i before st whole same past done =
    sym done ∙ ap (λ (l : List StringPiece). pieces_from place l before st)
    (drop_all i all (let P : List StringPiece → Type 0 = λ l. length l ≤ i in subst P same past))
