-- The forms of statements go alike where those of their parts do.
use Rattle.std.proofs.Common.{◌≡◌, refl, sym, ap, ◌∙◌, ℕ, List, [], ◌∷◌, ◌++◌, map, length, Option, None, Some, Bool, true, false, pos}
use Rattle.std.proofs.lemmas.List.{map-append}
use Rattle.std.specs.Prelude.{codes}
use Rattle.std.specs.List.{flat_map}
use Rattle.dart_base.specs.declared.place.Place.{Place}
use Rattle.dart_tree.specs.declared.identifier.Identifier.{Identifier}
use Rattle.dart_tree.specs.declared.identifier.CommaName.{CommaName}
use Rattle.dart_tree.specs.declared.identifier.Label.{Label}
use Rattle.dart_tree.specs.declared.expression.Atom.{Atom}
use Rattle.dart_tree.specs.declared.expression.Atom.TheVariants as a
use Rattle.dart_tree.specs.declared.operator.Operator.{Operator}
use Rattle.dart_tree.specs.declared.operator.Operator.TheVariants as o
use Rattle.dart_tree.specs.declared.statement.Catch.{Catch}
use Rattle.dart_tree.specs.declared.statement.Jump.{Jump}
use Rattle.dart_tree.specs.declared.statement.Jump.TheVariants as j
use Rattle.dart_tree.specs.UnitView.{maybe}
use Rattle.dart_tree.specs.Types as y
use Rattle.dart_tree.specs.Tree as t
use Rattle.dart_ir.specs.declared.kind.SiteKind.TheVariants as kind
use Rattle.dart_ir.specs.declared.kind.ThrowKind.TheVariants.{MalformedTypeError}
use Rattle.dart_ir.specs.declared.value.Value.{Value}
use Rattle.dart_ir.specs.declared.value.Value.TheVariants as v
use Rattle.dart_ir.specs.Integer.{integer_value}
use Rattle.core_program.specs.Core as c
use Rattle.core_program.specs.Alike as alike
use Rattle.core_program.specs.declared.form.Way.TheVariants as way
use Rattle.laws_translation.specs.LinedLeaf as leaf
use Rattle.laws_translation.specs.Lined as lined
use Rattle.dart_erase.specs.Erased as erased
use Rattle.translation.specs.Surroundings.{Text, Core}
use Rattle.translation.specs.Walk.{Asked, unasked, a_loop, a_switch, another, State, Went, Walk, went, on, bad_label, bad_switch, bad_constructor, bad_word, place_of_core, tested, declared, scoped, targeted}
use Rattle.translation.specs.Strings.{constant_units, also, no_value, units_alone, parts_of}
use Rattle.translation.specs.Firsts.{first_of_expr}
use Rattle.translation.specs.Types.{PlacedName, Typed, well_formed, malformed}
use Rattle.translation.specs.References as r
use Rattle.translation.specs.References.{by_place}
use Rattle.translation.specs.Statements as st
use Rattle.laws_translation.proofs.Kept as k
use Rattle.laws_translation.proofs.Kept.{line, Goes, ends}
use Rattle.laws_translation.proofs.Ends.{on_ends, done, stop, checked_goes, tested_goes, declared_goes, scoped_goes, in_handler_goes, targeted_goes, with_literal_goes}
use Rattle.laws_translation.proofs.Firsts.{expr_line}
use Rattle.laws_translation.proofs.TypesSame.{text_same}
use Rattle.laws_translation.proofs.Referred.{block_kept, send_kept, in_let_goes, identifier_kept, write_goes}
use Rattle.laws_translation.proofs.Expressed.{block_at}

-- ---- parts

first_place : (form : Core) → place_of_core (k.core form) ≡ line (place_of_core form)
unfolding k.core
first_place (c.at place form) = refl

one_part_kept : (forms : List Core) → st.one_part (map k.core forms) ≡ k.part (st.one_part forms)
unfolding k.part k.core
one_part_kept [] = refl
one_part_kept (form ∷ []) = refl
one_part_kept (form ∷ more ∷ rest) = ap c.given (block_at _ (place_of_core form) (form ∷ more ∷ rest) (first_place form))

pub part_goes : (w' w : Walk (List Core)) → Goes (map k.core) w' w → Goes k.part (st.part w') (st.part w)
part_goes w' w h s = on_ends _ _ _ _ _ _ (scoped_goes (map k.core) w' w h s) (λ forms s. done _ _ (st.one_part forms) _ s (one_part_kept forms) refl)

pub alone_goes : (w' w : Walk Core) → Goes k.core w' w → Goes (map k.core) (st.alone w') (st.alone w)
alone_goes w' w h s = on_ends _ _ _ _ _ _ (h s) (λ form s. done _ _ (form ∷ []) _ s refl refl)

pub forms_kept : (x : c.Part Text) → st.forms_of (k.part x) ≡ map k.core (st.forms_of x)
unfolding k.part k.core
forms_kept c.missing = refl
forms_kept (c.given form) = refl

-- ---- labels and jumps

labelled_kept : (n : ℕ) (forms : List Core) → st.labelled_forms n (map k.core forms) ≡ map k.core (st.labelled_forms n forms)
unfolding k.core
labelled_kept n [] = refl
labelled_kept n (form ∷ []) = ap (λ (x : Place). c.at x (c.labelled n (k.core form)) ∷ []) (first_place form)
labelled_kept n (form ∷ more ∷ rest) = λ i. c.at (first_place form i) (c.labelled n (block_at _ (place_of_core form) (form ∷ more ∷ rest) (first_place form) i)) ∷ []

pub labelling_goes : (labels : List Text) (w' w : Walk (List Core)) → Goes (map k.core) w' w → Goes (map k.core) (st.labelling labels w') (st.labelling labels w)
labelling_goes [] w' w h s = h s
labelling_goes (label ∷ labels) w' w h s = on_ends _ _ _ _ _ _ (targeted_goes (map k.core) (record { labels = label ∷ labels; kind = another }) w' w h s)
    (λ forms after. done _ _ (st.labelled_forms (length s.targets) forms) _ after (labelled_kept (length s.targets) forms) refl)

jump_goes : (place : Place) (o : Option st.Landing) → Goes (map k.core) (st.jump_to (line place) o) (st.jump_to place o)
unfolding k.core
jump_goes place None s = stop _ _ (bad_label place) refl
jump_goes place (Some to) s = done _ _ (c.at place (c.leaf (c.jump to.way to.target)) ∷ []) _ s refl refl

rethrow_goes : (b : Bool) (place : Place) → Goes (map k.core) (st.rethrow_if b (line place)) (st.rethrow_if b place)
unfolding k.core
rethrow_goes true place s = done _ _ (c.at place (c.leaf c.rethrow) ∷ []) _ s refl refl
rethrow_goes false place s = stop _ _ (bad_word place) refl

option_text_same : (o : Option Identifier) → st.option_text (maybe leaf.identifier o) ≡ st.option_text o
option_text_same None = refl
option_text_same (Some name) = ap Some (text_same name)

pub jumping_goes : (x : Jump) → Goes (map k.core) (st.jumping (leaf.jump x)) (st.jumping x)
jumping_goes (j.Break word label semicolon) s = (λ i. st.jump_to (line word) (st.break_from 0 (option_text_same label i) s.targets None) (k.state s)) ∙
    jump_goes word (st.break_from 0 (st.option_text label) s.targets None) s
jumping_goes (j.Continue word label semicolon) s = (λ i. st.jump_to (line word) (st.continue_from 0 (option_text_same label i) s.targets None) (k.state s)) ∙
    jump_goes word (st.continue_from 0 (st.option_text label) s.targets None) s
jumping_goes (j.Rethrow word semicolon) s = rethrow_goes s.inside.in_handler word s

-- ---- if and loops

pub condition_goes : (a' a : Place) (w' w : Walk Core) → a' ≡ line a → Goes k.core w' w → Goes k.core (st.condition a' w') (st.condition a w)
condition_goes a' a w' w h n s = on_ends _ _ _ _ _ _ (n s) (λ form s. tested_goes a' a form h s)

pub no_part_goes : Goes k.part st.no_part st.no_part
unfolding k.part
no_part_goes s = done _ _ c.missing _ s refl refl

choice_part : (p : Place) (test : Core) (one other : c.Part Text) → c.at (line p) (c.choice (k.core test) (k.part one) (k.part other)) ≡ k.core (c.at p (c.choice test one other))
unfolding k.core k.part
choice_part p test one other = refl

pub if_goes : (p : Place) (a' a : Place) (w' w : Walk Core) (f' f g' g : Walk (c.Part Text)) → a' ≡ line a → Goes k.core w' w → Goes k.part f' f → Goes k.part g' g →
    Goes (map k.core) (st.if_form (line p) a' w' f' g') (st.if_form p a w f g)
if_goes p a' a w' w f' f g' g h l m n s = on_ends _ _ _ _ _ _ (condition_goes a' a w' w h l s) (λ test s. on_ends _ _ _ _ _ _ (m s) (λ one s. on_ends _ _ _ _ _ _ (n s)
    (λ other s. done _ _ (c.at p (c.choice test one other) ∷ []) _ s (ap (λ (x : Core). x ∷ []) (choice_part p test one other)) refl)))

loop_kept : (p : Place) (n : ℕ) (xs : List ℕ) (test update body : c.Part Text) → st.loop (line p) n xs (k.part test) (k.part update) (k.part body) ≡ k.core (st.loop p n xs test update body)
unfolding k.core k.part
loop_kept p n xs test update body = refl

pub given_kept : (form : Core) → c.given (k.core form) ≡ k.part (c.given form)
unfolding k.core k.part
given_kept form = refl

pub missing_kept : c.missing ≡ k.part c.missing
unfolding k.part
missing_kept = refl

ended : (f : List Core → List Core) (w' w : Went (List Core)) → w' ≡ ends f w → on w' went ≡ ends f (on w went)
ended f w' w h = on_ends _ _ _ _ _ _ h (λ forms s. done _ _ forms _ s refl refl)

pub while_goes : (labels : List Text) (p : Place) (a' a : Place) (w' w : Walk Core) (b' b : Walk (c.Part Text)) → a' ≡ line a → Goes k.core w' w → Goes k.part b' b →
    Goes (map k.core) (st.while_form labels (line p) a' w' b') (st.while_form labels p a w b)
while_goes labels p a' a w' w b' b h l n s = ended (map k.core) _ _ (targeted_goes (map k.core) (record { labels = labels; kind = a_loop })
    (λ after. on (st.condition a' w' after) (λ test after. on (b' after) (λ body after. went (st.loop (line p) (length s.targets) [] (c.given test) c.missing body ∷ []) after)))
    (λ after. on (st.condition a w after) (λ test after. on (b after) (λ body after. went (st.loop p (length s.targets) [] (c.given test) c.missing body ∷ []) after)))
    (λ after. on_ends _ _ _ _ _ _ (condition_goes a' a w' w h l after) (λ test after. on_ends _ _ _ _ _ _ (n after)
    (λ body after. done _ _ (st.loop p (length s.targets) [] (c.given test) c.missing body ∷ []) _ after
    ((λ i. st.loop (line p) (length s.targets) [] (given_kept test i) (missing_kept i) (k.part body) ∷ []) ∙ ap (λ (x : Core). x ∷ []) (loop_kept p (length s.targets) [] (c.given test) c.missing body)) refl))) s)

abbrev leaves : Place → ℕ → Core → Core
leaves p n test = c.at p (c.choice test c.missing (c.given (c.at p (c.leaf (c.jump way.Break n)))))

leaves_kept : (p : Place) (n : ℕ) (test : Core) → leaves (line p) n (k.core test) ≡ k.core (leaves p n test)
unfolding k.core
leaves_kept p n test = refl

pub do_goes : (labels : List Text) (p : Place) (a' a : Place) (b' b : Walk (c.Part Text)) (w' w : Walk Core) → a' ≡ line a → Goes k.part b' b → Goes k.core w' w →
    Goes (map k.core) (st.do_form labels (line p) a' b' w') (st.do_form labels p a b w)
do_goes labels p a' a b' b w' w h n l s = ended (map k.core) _ _ (targeted_goes (map k.core) (record { labels = labels; kind = a_loop })
    (λ after. on (b' after) (λ body after. on (st.condition a' w' after) (λ test after. went (st.loop (line p) (length s.targets) [] c.missing (c.given (leaves (line p) (length s.targets) test)) body ∷ []) after)))
    (λ after. on (b after) (λ body after. on (st.condition a w after) (λ test after. went (st.loop p (length s.targets) [] c.missing (c.given (leaves p (length s.targets) test)) body ∷ []) after)))
    (λ after. on_ends _ _ _ _ _ _ (n after) (λ body after. on_ends _ _ _ _ _ _ (condition_goes a' a w' w h l after)
    (λ test after. done _ _ (st.loop p (length s.targets) [] c.missing (c.given (leaves p (length s.targets) test)) body ∷ []) _ after
    ((λ i. st.loop (line p) (length s.targets) [] (missing_kept i) (((λ j. c.given (leaves_kept p (length s.targets) test j)) ∙ given_kept (leaves p (length s.targets) test)) i) (k.part body) ∷ []) ∙
    ap (λ (x : Core). x ∷ []) (loop_kept p (length s.targets) [] c.missing (c.given (leaves p (length s.targets) test)) body)) refl))) s)

update_kept : (p : Place) (forms : List Core) → st.update_part (line p) (map k.core forms) ≡ k.part (st.update_part p forms)
update_kept p [] = missing_kept
update_kept p (form ∷ forms) = ap c.given (block_kept p (form ∷ forms)) ∙ given_kept (r.block p (form ∷ forms))

unary_vars : (u : c.Unary Text) (place : Place) (form : Core) → st.var_of (c.at (line place) (c.unary u (k.core form))) ≡ st.var_of (c.at place (c.unary u form))
unary_vars (c.var x) place form = refl
unary_vars (c.write x) place form = refl
unary_vars (c.static_write x) place form = refl
unary_vars (c.field_write x) place form = refl
unary_vars (c.get x) place form = refl
unary_vars (c.check x) place form = refl
unary_vars c.throw place form = refl

var_same : (x : Core) → st.var_of (k.core x) ≡ st.var_of x
unfolding k.core
var_same (c.at place (c.unary u form)) = unary_vars u place form
var_same (c.at place (c.leaf x)) = refl
var_same (c.at place (c.type_literal of)) = refl
var_same (c.at place (c.binary x one other)) = refl
var_same (c.at place (c.row x forms names)) = refl
var_same (c.at place (c.let_in x form body)) = refl
var_same (c.at place (c.block forms)) = refl
var_same (c.at place (c.choice test one other)) = refl
var_same (c.at place (c.new n q types forms names)) = refl
var_same (c.at place (c.list types forms)) = refl
var_same (c.at place (c.is_type form of)) = refl
var_same (c.at place (c.as_type form of)) = refl
var_same (c.at place (c.loop n xs test update body)) = refl
var_same (c.at place (c.return x)) = refl
var_same (c.at place (c.try body all last)) = refl
var_same (c.at place (c.switch n form all)) = refl
var_same (c.at place (c.labelled n form)) = refl

vars_same : (forms : List Core) → flat_map st.var_of (map k.core forms) ≡ flat_map st.var_of forms
vars_same [] = refl
vars_same (form ∷ forms) = λ i. var_same form i ++ vars_same forms i

abbrev for_loop : Place → ℕ → List Core → c.Part Text → List Core → c.Part Text → Core
for_loop p n forms test steps body = st.loop p n (flat_map st.var_of forms) test (st.update_part p steps) body

for_kept : (p : Place) (n : ℕ) (forms : List Core) (test : c.Part Text) (steps : List Core) (body : c.Part Text) →
    r.block (line p) (map k.core forms ++ for_loop (line p) n (map k.core forms) (k.part test) (map k.core steps) (k.part body) ∷ []) ≡
    k.core (r.block p (forms ++ for_loop p n forms test steps body ∷ []))
for_kept p n forms test steps body =
    (λ i. r.block (line p) (map k.core forms ++ (((λ j. st.loop (line p) n (vars_same forms j) (k.part test) (update_kept p steps j) (k.part body)) ∙
    loop_kept p n (flat_map st.var_of forms) test (st.update_part p steps) body) i) ∷ [])) ∙
    (λ i. r.block (line p) (sym (map-append k.core forms (for_loop p n forms test steps body ∷ [])) i)) ∙ block_kept p (forms ++ for_loop p n forms test steps body ∷ [])

abbrev for_turns : Place → ℕ → Walk (c.Part Text) → Walk (List Core) → Walk (c.Part Text) → List Core → Walk (List Core)
for_turns p n test updates body forms after = on (test after) (λ test after. on (updates after) (λ steps after. on (body after)
    (λ body after. went (r.block p (forms ++ for_loop p n forms test steps body ∷ []) ∷ []) after)))

pub for_goes : (labels : List Text) (p : Place) (i' i : Walk (List Core)) (w' w : Walk (c.Part Text)) (u' u : Walk (List Core)) (b' b : Walk (c.Part Text)) →
    Goes (map k.core) i' i → Goes k.part w' w → Goes (map k.core) u' u → Goes k.part b' b → Goes (map k.core) (st.for_form labels (line p) i' w' u' b') (st.for_form labels p i w u b)
for_goes labels p i' i w' w u' u b' b h l m n s = scoped_goes (map k.core)
    (λ after. on (i' after) (λ forms after. on (st.looping labels (for_turns (line p) (length s.targets) w' u' b' forms) after) went))
    (λ after. on (i after) (λ forms after. on (st.looping labels (for_turns p (length s.targets) w u b forms) after) went))
    (λ after. on_ends _ _ _ _ _ _ (h after) (λ forms after. ended (map k.core) _ _ (targeted_goes (map k.core) (record { labels = labels; kind = a_loop })
    (for_turns (line p) (length s.targets) w' u' b' (map k.core forms)) (for_turns p (length s.targets) w u b forms)
    (λ after. on_ends _ _ _ _ _ _ (l after) (λ test after. on_ends _ _ _ _ _ _ (m after) (λ steps after. on_ends _ _ _ _ _ _ (n after)
    (λ body after. done _ _ (r.block p (forms ++ for_loop p (length s.targets) forms test steps body ∷ []) ∷ []) _ after
    (ap (λ (x : Core). x ∷ []) (for_kept p (length s.targets) forms test steps body)) refl)))) after))) s

next_variable_goes : (p : Place) (w' w : PlacedName) (q' q : Asked) (b : Bool) (form : Core) → w' ≡ k.word w → q' ≡ k.asked q →
    Goes k.core (st.next_variable (line p) w' q' b (k.core form)) (st.next_variable p w q b form)
unfolding k.core
next_variable_goes p w' w q' q b form e d s = on_ends _ _ _ _ _ _ (checked_goes kind.VarInit w'.place w.place q' q form (ap (λ (x : PlacedName). x.place) e) d s)
    (λ form s. on_ends _ _ _ _ _ _ (declared_goes _ _ q' q b b (ap (λ (x : PlacedName). x.text) e) d refl s) (λ x s. done _ _ (c.at p (c.unary (c.var x) form)) _ s refl refl))

next_assigned_goes : (p : Place) (w' w : PlacedName) (form : Core) → w' ≡ k.word w → Goes k.core (st.next_assigned (line p) w' (k.core form)) (st.next_assigned p w form)
next_assigned_goes p w' w form e s = write_goes _ p _ w.place _ (r.identifier w s) form refl (ap (λ (x : PlacedName). x.place) e) (identifier_kept w' w s e) s

pub next_goes : (p : Place) (name : Identifier) (w' w : PlacedName) (q' q : Asked) (x : y.VariableKind) (form : Core) → w' ≡ k.word w → q' ≡ k.asked q →
    Goes k.core (st.next (line p) w' q' (leaf.variable_kind (erased.variable_kind name x)) (k.core form)) (st.next p w q x form)
next_goes p name w' w q' q y.no_kind form e d s = next_assigned_goes p w' w form e s
next_goes p name w' w q' q (y.var_kind at) form e d s = next_variable_goes p w' w q' q false form e d s
next_goes p name w' w q' q (y.final_kind at of) form e d s = next_variable_goes p w' w q' q true form e d s
next_goes p name w' w q' q (y.const_kind at of) form e d s = next_variable_goes p w' w q' q true form e d s
next_goes p name w' w q' q (y.typed_kind of) form e d s = next_variable_goes p w' w q' q false form e d s

get_kept : (p : Place) (form : Core) (name : Text) → st.get (line p) (k.core form) name ≡ k.core (st.get p form name)
unfolding k.core
get_kept p form name = refl

abbrev turn : Place → (Core → Walk Core) → Walk (List Core) → Core → Walk Core
turn p next body x after = scoped (λ after. on (next (st.get p x (codes "current")) after) (λ first after. on (st.part body after)
    (λ rest after. went (r.block p (first ∷ st.forms_of rest)) after))) after

turn_goes : (p : Place) (f' f : Core → Walk Core) (b' b : Walk (List Core)) (x : Core) → ((form : Core) → Goes k.core (f' (k.core form)) (f form)) → Goes (map k.core) b' b →
    Goes k.core (turn (line p) f' b' (k.core x)) (turn p f b x)
turn_goes p f' f b' b x h n = scoped_goes k.core
    (λ after. on (f' (st.get (line p) (k.core x) (codes "current")) after) (λ first after. on (st.part b' after) (λ rest after. went (r.block (line p) (first ∷ st.forms_of rest)) after)))
    (λ after. on (f (st.get p x (codes "current")) after) (λ first after. on (st.part b after) (λ rest after. went (r.block p (first ∷ st.forms_of rest)) after)))
    (λ after. on_ends _ _ _ _ _ _ ((λ i. f' (get_kept p x (codes "current") i) (k.state after)) ∙ h (st.get p x (codes "current")) after)
    (λ first after. on_ends _ _ _ _ _ _ (part_goes b' b n after) (λ rest after. done _ _ (r.block p (first ∷ st.forms_of rest)) _ after
    ((λ i. r.block (line p) (k.core first ∷ forms_kept rest i)) ∙ block_kept p (first ∷ st.forms_of rest)) refl)))

abbrev turns : Place → Place → ℕ → (Core → Walk Core) → Walk (List Core) → Core → Walk Core
turns p at n next body x after = on (tested at (r.send p x (codes "moveNext") (by_place [])) after) (λ test after.
    on (turn p next body x after) (λ body after. went (st.loop p n [] (c.given test) c.missing (c.given body)) after))

turns_goes : (p a' a : Place) (n : ℕ) (f' f : Core → Walk Core) (b' b : Walk (List Core)) (x : Core) → a' ≡ line a → ((form : Core) → Goes k.core (f' (k.core form)) (f form)) → Goes (map k.core) b' b →
    Goes k.core (turns (line p) a' n f' b' (k.core x)) (turns p a n f b x)
turns_goes p a' a n f' f b' b x e h m after = on_ends _ _ _ _ _ _
    ((λ i. tested a' (send_kept p x (codes "moveNext") (by_place []) i) (k.state after)) ∙ tested_goes a' a (r.send p x (codes "moveNext") (by_place [])) e after)
    (λ test after. on_ends _ _ _ _ _ _ (turn_goes p f' f b' b x h m after) (λ body after. done _ _ (st.loop p n [] (c.given test) c.missing (c.given body)) _ after
    ((λ i. st.loop (line p) n [] (given_kept test i) (missing_kept i) (given_kept body i)) ∙ loop_kept p n [] (c.given test) c.missing (c.given body)) refl))

core_ended : (w' w : Went Core) → w' ≡ ends k.core w → on w' went ≡ ends k.core (on w went)
core_ended w' w h = on_ends _ _ _ _ _ _ h (λ form s. done _ _ form _ s refl refl)

pub for_in_goes : (labels : List Text) (p a' a : Place) (w' w : Walk Core) (f' f : Core → Walk Core) (b' b : Walk (List Core)) → a' ≡ line a → Goes k.core w' w →
    ((form : Core) → Goes k.core (f' (k.core form)) (f form)) → Goes (map k.core) b' b → Goes (map k.core) (st.for_in_form labels (line p) a' w' f' b') (st.for_in_form labels p a w f b)
for_in_goes labels p a' a w' w f' f b' b e l h m s = on_ends _ _ _ _ _ _ (l s) (λ form after. on_ends _ _ _ _ _ _
    ((λ i. r.in_let (line p) (get_kept p form (codes "iterator") i) (λ x after. on (st.looping labels (turns (line p) a' (length s.targets) f' b' x) after) went) (k.state after)) ∙
    in_let_goes _ p (st.get p form (codes "iterator")) (λ x after. on (st.looping labels (turns (line p) a' (length s.targets) f' b' x) after) went)
    (λ x after. on (st.looping labels (turns p a (length s.targets) f b x) after) went) refl
    (λ x after. core_ended _ _ (targeted_goes k.core (record { labels = labels; kind = a_loop }) (turns (line p) a' (length s.targets) f' b' (k.core x)) (turns p a (length s.targets) f b x)
    (turns_goes p a' a (length s.targets) f' f b' b x e h m) after)) after)
    (λ form after. done _ _ (form ∷ []) _ after refl refl))

-- ---- literals

value_none_same : (x : t.Value) → no_value (lined.value (erased.value x)) ≡ no_value x
unfolding erased.value lined.value
value_none_same t.omitted = refl
value_none_same (t.given operator given) = refl

pub units_same : (x : t.Pieces) → constant_units (lined.pieces (erased.pieces x)) ≡ constant_units x
unfolding erased.pieces lined.pieces
units_same t.no_pieces = refl
units_same (t.piece kind place text term rest) = λ i. also (units_alone (parts_of kind text)) (also (value_none_same term i) (units_same rest i))

atom_literal_same : (x : Atom) → st.atom_literal (leaf.atom x) ≡ st.atom_literal x
atom_literal_same (a.This place) = refl
atom_literal_same (a.Null place) = refl
atom_literal_same (a.True place) = refl
atom_literal_same (a.False place) = refl
atom_literal_same (a.Integer place text) = refl
atom_literal_same (a.Name name) = refl

primary_literal_same : (x : t.Primary) → st.primary_literal (lined.primary (erased.primary x)) ≡ st.primary_literal x
unfolding erased.primary lined.primary
primary_literal_same (t.atom atom) = atom_literal_same atom
primary_literal_same (t.text all) = ap st.string_literal (units_same all)
primary_literal_same (t.bare_super word) = refl
primary_literal_same (t.super_access word next) = refl
primary_literal_same (t.list_literal types opening all comma closing) = refl
primary_literal_same (t.map_literal types opening all comma closing) = refl
primary_literal_same (t.new_object creation of constructor given) = refl
primary_literal_same (t.function_literal given inner) = refl
primary_literal_same (t.parenthesized opening given closing) = refl

minus_same : (x : Operator) → st.is_minus (leaf.operator x) ≡ st.is_minus x
minus_same (o.Sign place sign) = refl
minus_same (o.ShiftRight first second) = refl
minus_same (o.ShiftRightAssign first second) = refl

minus_literal_same : (x : Operator) (base : t.Operand) → st.minus_literal (leaf.operator x) (lined.operand (erased.operand base)) ≡ st.minus_literal x base
unfolding erased.operand lined.operand
minus_literal_same x (t.primary inner) = λ i. st.negative (minus_same x i) (primary_literal_same inner i)
minus_literal_same x (t.conditional condition question one colon other) = refl
minus_literal_same x (t.binary base more) = refl
minus_literal_same x (t.is_type base word bang of) = refl
minus_literal_same x (t.as_type base word of) = refl
minus_literal_same x (t.prefix operator base) = refl
minus_literal_same x (t.postfix base more operator) = refl

operand_literal_same : (x : t.Operand) → st.operand_literal (lined.operand (erased.operand x)) ≡ st.operand_literal x
unfolding erased.operand lined.operand
operand_literal_same (t.primary inner) = primary_literal_same inner
operand_literal_same (t.prefix operator base) = minus_literal_same operator base
operand_literal_same (t.conditional condition question one colon other) = refl
operand_literal_same (t.binary base more) = refl
operand_literal_same (t.is_type base word bang of) = refl
operand_literal_same (t.as_type base word of) = refl
operand_literal_same (t.postfix base more operator) = refl

plain_literal_same : (base : t.Operand) (x : t.Cascades) → st.literal_of (lined.expr (erased.expr (t.plain base x))) ≡ st.literal_of (t.plain base x)
unfolding erased.expr lined.expr erased.cascades lined.cascades
plain_literal_same base t.no_cascades = operand_literal_same base
plain_literal_same base (t.cascade dots more term rest) = refl

pub literal_same : (x : t.Expr) → st.literal_of (lined.expr (erased.expr x)) ≡ st.literal_of x
unfolding erased.expr lined.expr
literal_same (t.plain base more) = plain_literal_same base more
literal_same (t.assign target operator given) = refl
literal_same (t.throw word given) = refl

-- ---- switch

kind_value_same : (x : t.Value) (later' later : st.CaseKind) → later' ≡ later → st.kind_of_value (lined.value (erased.value x)) later' ≡ st.kind_of_value x later
unfolding erased.value lined.value
kind_value_same t.omitted later' later h = h
kind_value_same (t.given operator given) later' later h = ap st.kind_of_literal (literal_same given)

pub kind_same : (x : t.SwitchParts) → st.kind_of_cases (lined.switch_parts (erased.switch_parts x)) ≡ st.kind_of_cases x
unfolding erased.switch_parts lined.switch_parts
kind_same t.no_switch_parts = refl
kind_same (t.switch_part labels word term colon statements rest) = kind_value_same term _ _ (kind_same rest)

labels_same : (x : List Label) → map st.label_text (map leaf.label x) ≡ map st.label_text x
labels_same [] = refl
labels_same (label ∷ labels) = λ i. text_same label.name i ∷ labels_same labels i

case_labels_same : (x : t.SwitchParts) → st.labels_of_cases (lined.switch_parts (erased.switch_parts x)) ≡ st.labels_of_cases x
unfolding erased.switch_parts lined.switch_parts
case_labels_same t.no_switch_parts = refl
case_labels_same (t.switch_part labels word term colon statements rest) = λ i. labels_same labels i ∷ case_labels_same rest i

asked_cases_kept : (x : st.CaseKind) (s : State) → st.asked_of_cases x (k.state s) ≡ k.asked (st.asked_of_cases x s)
asked_cases_kept st.no_kind s = refl
asked_cases_kept st.integers s = refl
asked_cases_kept st.strings s = refl

case_literal_goes : (x : st.Literal) → Goes (λ v. v) (st.case_literal x) (st.case_literal x)
case_literal_goes (st.a_string units) s = on_ends _ _ _ _ _ _ (with_literal_goes units s) (λ n s. done _ _ (v.Literal n) _ s refl refl)
case_literal_goes (st.an_integer n) s = done _ _ (integer_value (pos n)) _ s refl refl
case_literal_goes st.no_literal s = done _ _ v.Null _ s refl refl
case_literal_goes st.a_null s = done _ _ v.Null _ s refl refl
case_literal_goes (st.a_bool b) s = done _ _ v.Null _ s refl refl
case_literal_goes (st.a_negative n) s = done _ _ v.Null _ s refl refl

case_if_goes : (b : Bool) (place : Place) (x : st.Literal) → Goes (λ v. v) (st.case_if b (line place) x) (st.case_if b place x)
case_if_goes true place x s = on_ends _ _ _ _ _ _ (case_literal_goes x s) (λ value s. done _ _ (Some value) _ s refl refl)
case_if_goes false place x s = stop _ _ (bad_switch place) refl

pub case_value_goes : (kind' kind : st.CaseKind) (x : t.Value) → kind' ≡ kind → Goes (λ v. v) (st.case_value kind' (lined.value (erased.value x))) (st.case_value kind x)
unfolding erased.value lined.value
case_value_goes kind' kind t.omitted h s = done _ _ None _ s refl refl
case_value_goes kind' kind (t.given operator given) h s =
    (λ i. st.case_if (st.fits_case (h i) (literal_same given i)) (expr_line given i) (literal_same given i) (k.state s)) ∙
    case_if_goes (st.fits_case kind (st.literal_of given)) (first_of_expr given) (st.literal_of given) s

pub case_goes : (place : Place) (v' v : Walk (Option Value)) (w' w : Walk (List Core)) → Goes (λ v. v) v' v → Goes (map k.core) w' w → Goes k.case (st.case_form (line place) v' w') (st.case_form place v w)
unfolding k.case k.core
case_goes place v' v w' w h n s = on_ends _ _ _ _ _ _ (h s) (λ value s. on_ends _ _ _ _ _ _ (scoped_goes (map k.core) w' w n s)
    (λ forms s. done _ _ (c.case value (r.block place forms)) _ s (ap (c.case value) (block_kept place forms)) refl))

cases_row : (all : List (c.Case Text)) → c.cases (map k.case all) ≡ alike.all_cases (c.cases all)
unfolding k.case
cases_row [] = refl
cases_row (one ∷ more) = ap (c.case_more (k.case one)) (cases_row more)

cases_kept : (all : List (c.Case Text)) (place : Place) (n : ℕ) (form : Core) → c.at (line place) (c.switch n (k.core form) (c.cases (map k.case all))) ≡ k.core (c.at place (c.switch n form (c.cases all)))
unfolding k.core
cases_kept all place n form = ap (λ (x : c.Cases Text). c.at (line place) (c.switch n (k.core form) x)) (cases_row all)

pub switch_goes : (labels : List Text) (p a' a : Place) (x : t.SwitchParts) (w' w : Walk Core) (v' v : Walk (List (c.Case Text))) → a' ≡ line a → Goes k.core w' w → Goes (map k.case) v' v →
    Goes (map k.core) (st.switch_form labels (line p) a' (lined.switch_parts (erased.switch_parts x)) w' v') (st.switch_form labels p a x w v)
switch_goes labels p a' a x w' w v' v e h n s = on_ends _ _ _ _ _ _ (h s) (λ form after. on_ends _ _ _ _ _ _
    (checked_goes kind.SwitchClass a' a _ (st.asked_of_cases (st.kind_of_cases x) after) form e (ap (λ (y : st.CaseKind). st.asked_of_cases y (k.state after)) (kind_same x) ∙ asked_cases_kept (st.kind_of_cases x) after) after)
    (λ form after. on_ends _ _ _ _ _ _
    ((λ i. targeted (record { labels = labels; kind = a_switch (case_labels_same x i) }) v' (k.state after)) ∙ targeted_goes (map k.case) (record { labels = labels; kind = a_switch (st.labels_of_cases x) }) v' v n after)
    (λ all after. done _ _ (c.at p (c.switch (length s.targets) form (c.cases all)) ∷ []) _ after (ap (λ (y : Core). y ∷ []) (cases_kept all p (length s.targets) form)) refl)))

-- ---- try

abbrev pub try_parts : st.TryParts → st.TryParts
try_parts x = record { handlers = map k.handler x.handlers; last = k.part x.last }

abbrev pub caught : st.Caught → st.Caught
caught x = record { exception = x.exception; trace = x.trace; body = k.core x.body }

pub test_kept : (p' p : Place) (x : Typed) → p' ≡ line p → st.test_of p' x ≡ k.test (st.test_of p x)
unfolding k.test
test_kept p' p (well_formed of) h = refl
test_kept p' p (malformed name) h = ap (λ (y : Place). c.malformed (r.raise y MalformedTypeError name false)) h

pub everything_kept : c.everything ≡ k.test c.everything
unfolding k.test
everything_kept = refl

trace_goes : (n : ℕ) (o : Option Text) (w' w : Walk Core) → Goes k.core w' w → Goes caught (st.caught_trace n o w') (st.caught_trace n o w)
trace_goes n None w' w h s = on_ends _ _ _ _ _ _ (in_handler_goes k.core w' w h s) (λ form s. done _ _ (record { exception = Some n; trace = None; body = form }) _ s refl refl)
trace_goes n (Some name) w' w h s = on_ends _ _ _ _ _ _ (declared_goes name name _ unasked false false refl refl refl s) (λ trace s. on_ends _ _ _ _ _ _ (in_handler_goes k.core w' w h s)
    (λ form s. done _ _ (record { exception = Some n; trace = Some trace; body = form }) _ s refl refl))

caught_ends : (o : Option (Text × Option Text)) (w' w : Walk Core) → Goes k.core w' w → Goes caught (st.caught o w') (st.caught o w)
caught_ends None w' w h s = on_ends _ _ _ _ _ _ (in_handler_goes k.core w' w h s) (λ form s. done _ _ (record { exception = None; trace = None; body = form }) _ s refl refl)
caught_ends (Some names) w' w h s = scoped_goes caught
    (λ s. on (declared names.0 unasked false s) (λ exception s. st.caught_trace exception names.1 w' s)) (λ s. on (declared names.0 unasked false s) (λ exception s. st.caught_trace exception names.1 w s))
    (λ s. on_ends _ _ _ _ _ _ (declared_goes names.0 names.0 _ unasked false false refl refl refl s) (λ exception s. trace_goes exception names.1 w' w h s)) s

comma_same : (o : Option CommaName) → st.comma_text (maybe leaf.comma_name o) ≡ st.comma_text o
comma_same None = refl
comma_same (Some x) = ap Some (text_same x.name)

names_same : (o : Option Catch) → st.catch_names (maybe leaf.catch o) ≡ st.catch_names o
names_same None = refl
names_same (Some x) = λ i. Some (text_same x.exception i, comma_same x.trace i)

pub caught_goes : (o : Option Catch) (w' w : Walk Core) → Goes k.core w' w → Goes caught (st.caught (st.catch_names (maybe leaf.catch o)) w') (st.caught (st.catch_names o) w)
caught_goes o w' w h s = (λ i. st.caught (names_same o i) w' (k.state s)) ∙ caught_ends (st.catch_names o) w' w h s

pub handler_kept : (x' x : c.Test Text) (y : st.Caught) → x' ≡ k.test x → st.handler_of x' (caught y) ≡ k.handler (st.handler_of x y)
unfolding k.handler k.test k.core
handler_kept x' x y h = ap (λ (z : c.Test Text). c.handler z y.exception y.trace (k.core y.body)) h

handlers_row : (all : List (c.Handler Text)) → c.handlers (map k.handler all) ≡ alike.all_handlers (c.handlers all)
unfolding k.handler
handlers_row [] = refl
handlers_row (one ∷ more) = ap (c.handler_more (k.handler one)) (handlers_row more)

try_kept : (p : Place) (form : Core) (all : st.TryParts) → c.at (line p) (c.try (k.core form) (c.handlers (map k.handler all.handlers)) (k.part all.last)) ≡ k.core (c.at p (c.try form (c.handlers all.handlers) all.last))
unfolding k.core k.part
try_kept p form all = ap (λ (x : c.Handlers Text). c.at (line p) (c.try (k.core form) x (k.part all.last))) (handlers_row all.handlers)

pub try_goes : (p : Place) (w' w : Walk Core) (v' v : Walk st.TryParts) → Goes k.core w' w → Goes try_parts v' v → Goes (map k.core) (st.try_form (line p) w' v') (st.try_form p w v)
try_goes p w' w v' v h n s = on_ends _ _ _ _ _ _ (h s) (λ form s. on_ends _ _ _ _ _ _ (n s)
    (λ all s. done _ _ (c.at p (c.try form (c.handlers all.handlers) all.last) ∷ []) _ s (ap (λ (x : Core). x ∷ []) (try_kept p form all)) refl))

-- ---- return and variables

pub return_kept : (p' p : Place) (x' x : c.Part Text) → p' ≡ line p → x' ≡ k.part x → st.return_form p' x' ≡ k.core (st.return_form p x)
unfolding k.core k.part
return_kept p' p x' x h l = λ i. st.return_form (h i) (l i)

pub returned_goes : (p' p a' a : Place) (w' w : Walk Core) → p' ≡ line p → a' ≡ line a → Goes k.core w' w → Goes k.core (st.returned p' a' w') (st.returned p a w)
returned_goes p' p a' a w' w h l n s = on_ends _ _ _ _ _ _ (n s) (λ form s. on_ends _ _ _ _ _ _ (checked_goes kind.Return a' a _ s.inside.result form l refl s)
    (λ form s. done _ _ (st.return_form p (c.given form)) _ s (return_kept p' p _ (c.given form) h (given_kept form)) refl))

pub returned_if_goes : (b : Bool) (p a' a : Place) (w' w : Walk Core) → a' ≡ line a → Goes k.core w' w → Goes k.core (st.returned_if b (line p) a' w') (st.returned_if b p a w)
returned_if_goes true p a' a w' w l n s = returned_goes _ p a' a w' w refl l n s
returned_if_goes false p a' a w' w l n s = stop _ _ (bad_constructor p) refl

pub initial_goes : (a' a : Place) (p' p : Place) (q' q : Asked) (w' w : Walk Core) → a' ≡ line a → q' ≡ k.asked q → Goes k.core w' w → Goes k.core (st.initial p' a' q' w') (st.initial p a q w)
initial_goes a' a p' p q' q w' w h d n s = on_ends _ _ _ _ _ _ (n s) (λ form s. checked_goes kind.VarInit a' a q' q form h d s)

variable_form_goes : (p' p : Place) (n' n : Text) (q' q : Asked) (b' b : Bool) (form : Core) → p' ≡ line p → n' ≡ n → q' ≡ k.asked q → b' ≡ b →
    Goes k.core (st.variable_form p' n' q' b' (k.core form)) (st.variable_form p n q b form)
unfolding k.core
variable_form_goes p' p n' n q' q b' b form h l d e s = on_ends _ _ _ _ _ _ (declared_goes n' n q' q b' b l d e s)
    (λ x s. done _ _ (c.at p (c.unary (c.var x) form)) _ s (ap (λ (y : Place). c.at y (c.unary (c.var x) (k.core form))) h) refl)

pub variable_goes : (p' p : Place) (q' q : Asked) (b' b : Bool) (n' n : Text) (w' w : Walk Core) → p' ≡ line p → q' ≡ k.asked q → b' ≡ b → n' ≡ n → Goes k.core w' w →
    Goes k.core (st.variable p' q' b' n' w') (st.variable p q b n w)
variable_goes p' p q' q b' b n' n w' w h d e l m s = on_ends _ _ _ _ _ _ (m s) (λ form s. variable_form_goes p' p n' n q' q b' b form h l d e s)
