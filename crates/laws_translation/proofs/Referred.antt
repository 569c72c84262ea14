-- References are read, called and written alike where annotations and columns are forgotten.
use Rattle.std.proofs.Common.{◌≡◌, refl, sym, ap, ◌∙◌, ℕ, List, [], ◌∷◌, ◌++◌, map, Option, None, Some, Bool, true, false}
use Rattle.std.proofs.lemmas.List.{map-append}
use Rattle.std.specs.Prelude.{codes}
use Rattle.dart_base.specs.declared.place.Place.{Place}
use Rattle.dart_base.specs.declared.feature.Feature.TheVariants.{FunctionTypes}
use Rattle.dart_ir.specs.declared.class.Role.TheVariants as role
use Rattle.dart_ir.specs.declared.kind.SiteKind.TheVariants as kind
use Rattle.dart_ir.specs.declared.kind.ThrowKind.{ThrowKind}
use Rattle.dart_ir.specs.declared.kind.ThrowKind.TheVariants.{NoSuchMethodError, MalformedTypeError}
use Rattle.core_program.specs.Core as c
use Rattle.translation.specs.Surroundings.{Text, Ty, Core, Meaning}
use Rattle.translation.specs.Surroundings as m
use Rattle.translation.specs.Walk.{Asked, unasked, Entry, State, Walk, went, on, left_out, entry_of}
use Rattle.translation.specs.Types.{PlacedName, argument_in}
use Rattle.translation.specs.References as r
use Rattle.translation.specs.References.{Arguments, by_place, Bound, local, outer, alias_behind, Reference, evaluated, named, member, item, super_member, super_item}
use Rattle.laws_translation.proofs.Kept as k
use Rattle.laws_translation.proofs.Kept.{line, Goes, ends}
use Rattle.laws_translation.proofs.Ends.{on_ends, done, stop, checked_goes, fresh_goes, option_entry, entry_same, cores_map}

-- ---- forms

pub block_kept : (place : Place) (forms : List Core) → r.block (line place) (map k.core forms) ≡ k.core (r.block place forms)
unfolding k.core k.cores
block_kept place forms = ap (λ (x : c.Cores Text). c.at (line place) (c.block x)) (cores_map forms)

pub row_kept : (place : Place) (job : c.Job Text) (arguments : Arguments) → r.row (line place) job (k.arguments arguments) ≡ k.core (r.row place job arguments)
unfolding k.core k.cores
row_kept place job arguments = ap (λ (x : c.Cores Text). c.at (line place) (c.row job x arguments.names)) (cores_map arguments.forms)

pub send_kept : (place : Place) (receiver : Core) (name : Text) (arguments : Arguments) → r.send (line place) (k.core receiver) name (k.arguments arguments) ≡ k.core (r.send place receiver name arguments)
send_kept place receiver name arguments = row_kept place (c.send name) (record arguments { forms = receiver ∷ arguments.forms })

pub apply_kept : (place : Place) (callee : Core) (arguments : Arguments) → r.apply (line place) (k.core callee) (k.arguments arguments) ≡ k.core (r.apply place callee arguments)
apply_kept place callee arguments = row_kept place c.apply (record arguments { forms = callee ∷ arguments.forms })

pub raised_kept : (place : Place) (forms : List Core) (thrown : ThrowKind) (name : Text) (is_setter : Bool) →
    r.raised_behind (line place) (map k.core forms) thrown name is_setter ≡ k.core (r.raised_behind place forms thrown name is_setter)
unfolding k.core
raised_kept place forms thrown name is_setter = ap (r.block (line place)) (sym (map-append k.core forms (r.raise place thrown name is_setter ∷ []))) ∙
    block_kept place (forms ++ r.raise place thrown name is_setter ∷ [])

pub in_let_goes : (p' p : Place) (form : Core) (b' b : Core → Walk Core) → p' ≡ line p →
    ((x : Core) → Goes k.core (b' (k.core x)) (b x)) → Goes k.core (r.in_let p' (k.core form) b') (r.in_let p form b)
unfolding k.core
in_let_goes p' p form b' b e h s = (λ i. r.in_let (e i) (k.core form) b' (k.state s)) ∙
    on_ends _ _ _ _ _ _ (fresh_goes s) (λ x s. on_ends _ _ _ _ _ _ (h (r.variable p x) s)
    (λ inner s. done _ _ (c.at p (c.let_in x form inner)) _ s refl refl))

-- ---- reading

bound_kept : (o : Option Entry) (of_this : Bool) (meaning : Meaning) → r.bound_of (option_entry o) of_this meaning ≡ k.bound (r.bound_of o of_this meaning)
bound_kept None of_this meaning = refl
bound_kept (Some e) of_this meaning = refl

pub identifier_kept : (w' w : PlacedName) (s : State) → w' ≡ k.word w → r.identifier w' (k.state s) ≡ k.reference (r.identifier w s)
identifier_kept w' w s e = (λ i. r.identifier (e i) (k.state s)) ∙
    (λ i. named (k.word w) (r.bound_of (entry_same s w.text i) s.inside.has_instance (s.names.meaning w.text))) ∙
    ap (named (k.word w)) (bound_kept (entry_of s w.text) s.inside.has_instance (s.names.meaning w.text))

or_kept : (b : Bool) (of_this missing : Core) → r.or_of_this b (k.core of_this) (k.core missing) ≡ k.core (r.or_of_this b of_this missing)
or_kept true of_this missing = refl
or_kept false of_this missing = refl

unknown_kept : (b : Bool) (place : Place) (name : Text) → r.read_unknown b (line place) name ≡ k.core (r.read_unknown b place name)
unfolding k.core
unknown_kept b place name = or_kept b (c.at place (c.unary (c.get name) (r.this place))) (r.raise place NoSuchMethodError name false)

parameter_kept : (place : Place) (o : Option ℕ) (n : Ty) (name : Text) → r.parameter_value (line place) o n name ≡ k.core (r.parameter_value place o n name)
unfolding k.core
parameter_kept place None n name = refl
parameter_kept place (Some around) n name = refl

getter_kept : (place : Place) (o : Option ℕ) (name : Text) → r.read_getter (line place) o name ≡ k.core (r.read_getter place o name)
unfolding k.core
getter_kept place None name = refl
getter_kept place (Some n) name = refl

read_outer_goes : (of_this : Bool) (place : Place) (name : Text) (m : Meaning) → Goes k.core (r.read_outer of_this (line place) name m) (r.read_outer of_this place name m)
unfolding k.core
read_outer_goes of_this place name (m.function n) s = done _ _ _ _ s refl refl
read_outer_goes of_this place name (m.variable n is_final) s = done _ _ _ _ s refl refl
read_outer_goes of_this place name (m.accessors getter setter) s = done _ _ (r.read_getter place getter name) _ s (getter_kept place getter name) refl
read_outer_goes of_this place name (m.class n) s = done _ _ (r.class_value place n s) _ s refl refl
read_outer_goes of_this place name (m.alias n) s = stop _ _ (left_out place FunctionTypes) refl
read_outer_goes of_this place name (m.type_parameter n) s = done _ _ (r.parameter_value place s.inside.class (argument_in s.inside.arguments n) name) _ s (parameter_kept place s.inside.class (argument_in s.inside.arguments n) name) refl
read_outer_goes of_this place name m.prefix s = done _ _ (r.raise place NoSuchMethodError name false) _ s refl refl
read_outer_goes of_this place name m.member s = done _ _ (r.read_unknown of_this place name) _ s (unknown_kept of_this place name) refl
read_outer_goes of_this place name m.ambiguous s = done _ _ (r.read_unknown of_this place name) _ s (unknown_kept of_this place name) refl
read_outer_goes of_this place name m.unknown s = done _ _ (r.read_unknown of_this place name) _ s (unknown_kept of_this place name) refl

read_bound_goes : (w : PlacedName) (b : Bound) → Goes k.core (r.read_bound (k.word w) (k.bound b)) (r.read_bound w b)
unfolding k.core
read_bound_goes w (local e) s = done _ _ (r.variable w.place e.variable) _ s refl refl
read_bound_goes w (outer of_this meaning) s = read_outer_goes of_this w.place (r.own_name w s) meaning s
read_bound_goes w (alias_behind at) s = stop _ _ (left_out at FunctionTypes) refl

read_ends : (place : Place) (x : Reference) → Goes k.core (r.read (line place) (k.reference x)) (r.read place x)
unfolding k.core
read_ends place (evaluated form) s = done _ _ form _ s refl refl
read_ends place (named w b) s = read_bound_goes w b s
read_ends place (member form name) s = done _ _ (c.at place (c.unary (c.get name) form)) _ s refl refl
read_ends place (item form index) s = done _ _ (r.send place form (codes "[]") (by_place (index ∷ []))) _ s (send_kept place form (codes "[]") (by_place (index ∷ []))) refl
read_ends place (super_member name) s = done _ _ (r.row place (c.super role.Getter name) (by_place [])) _ s refl refl
read_ends place (super_item index) s = done _ _ (r.row place (c.super role.Method (codes "[]")) (by_place (index ∷ []))) _ s (row_kept place (c.super role.Method (codes "[]")) (by_place (index ∷ []))) refl

pub read_goes : (p' p : Place) (x' x : Reference) → p' ≡ line p → x' ≡ k.reference x → Goes k.core (r.read p' x') (r.read p x)
read_goes p' p x' x e h s = (λ i. r.read (e i) (h i) (k.state s)) ∙ read_ends p x s

-- ---- calling

call_getter_kept : (place : Place) (o : Option ℕ) (name : Text) (all : Arguments) → r.call_getter (line place) o name (k.arguments all) ≡ k.core (r.call_getter place o name all)
call_getter_kept place None name all = raised_kept place all.forms NoSuchMethodError name false
call_getter_kept place (Some n) name all = (λ i. r.apply (line place) (row_kept place (c.call n) (by_place []) i) (k.arguments all)) ∙ apply_kept place (r.call place n (by_place [])) all

call_parameter_kept : (place : Place) (o : Option ℕ) (n : Ty) (name : Text) (all : Arguments) → r.call_parameter (line place) o n name (k.arguments all) ≡ k.core (r.call_parameter place o n name all)
unfolding k.core
call_parameter_kept place None n name all = raised_kept place all.forms MalformedTypeError name false
call_parameter_kept place (Some around) n name all = apply_kept place (c.at place (c.type_literal n)) all

call_unknown_kept : (b : Bool) (place : Place) (name : Text) (all : Arguments) → r.call_unknown b (line place) name (k.arguments all) ≡ k.core (r.call_unknown b place name all)
unfolding k.core
call_unknown_kept true place name all = send_kept place (r.this place) name all
call_unknown_kept false place name all = raised_kept place all.forms NoSuchMethodError name false

call_outer_goes : (of_this : Bool) (place : Place) (name : Text) (m : Meaning) (all : Arguments) → Goes k.core (r.call_outer of_this (line place) name m (k.arguments all)) (r.call_outer of_this place name m all)
unfolding k.core
call_outer_goes of_this place name (m.function n) all s = done _ _ (r.call place n all) _ s (row_kept place (c.call n) all) refl
call_outer_goes of_this place name (m.variable n is_final) all s = done _ _ (r.apply place (c.at place (c.leaf (c.static_read n))) all) _ s (apply_kept place (c.at place (c.leaf (c.static_read n))) all) refl
call_outer_goes of_this place name (m.accessors getter setter) all s = done _ _ (r.call_getter place getter name all) _ s (call_getter_kept place getter name all) refl
call_outer_goes of_this place name (m.class n) all s = done _ _ (r.apply place (r.class_value place n s) all) _ s (apply_kept place (r.class_value place n s) all) refl
call_outer_goes of_this place name (m.alias n) all s = stop _ _ (left_out place FunctionTypes) refl
call_outer_goes of_this place name (m.type_parameter n) all s = done _ _ (r.call_parameter place s.inside.class (argument_in s.inside.arguments n) name all) _ s (call_parameter_kept place s.inside.class (argument_in s.inside.arguments n) name all) refl
call_outer_goes of_this place name m.prefix all s = done _ _ (r.raised_behind place all.forms NoSuchMethodError name false) _ s (raised_kept place all.forms NoSuchMethodError name false) refl
call_outer_goes of_this place name m.member all s = done _ _ (r.call_unknown of_this place name all) _ s (call_unknown_kept of_this place name all) refl
call_outer_goes of_this place name m.ambiguous all s = done _ _ (r.call_unknown of_this place name all) _ s (call_unknown_kept of_this place name all) refl
call_outer_goes of_this place name m.unknown all s = done _ _ (r.call_unknown of_this place name all) _ s (call_unknown_kept of_this place name all) refl

call_bound_goes : (w : PlacedName) (b : Bound) (all : Arguments) → Goes k.core (r.call_bound (k.word w) (k.bound b) (k.arguments all)) (r.call_bound w b all)
unfolding k.core
call_bound_goes w (local e) all s = done _ _ (r.apply w.place (r.variable w.place e.variable) all) _ s (apply_kept w.place (r.variable w.place e.variable) all) refl
call_bound_goes w (outer of_this meaning) all s = call_outer_goes of_this w.place (r.own_name w s) meaning all s
call_bound_goes w (alias_behind at) all s = stop _ _ (left_out at FunctionTypes) refl

called_ends : (place : Place) (x : Reference) (all : Arguments) → Goes k.core (r.called (line place) (k.reference x) (k.arguments all)) (r.called place x all)
called_ends place (evaluated form) all s = done _ _ (r.apply place form all) _ s (apply_kept place form all) refl
called_ends place (named w b) all s = call_bound_goes w b all s
called_ends place (member form name) all s = done _ _ (r.send place form name all) _ s (send_kept place form name all) refl
called_ends place (item form index) all s = done _ _ (r.apply place (r.send place form (codes "[]") (by_place (index ∷ []))) all) _ s
    ((λ i. r.apply (line place) (send_kept place form (codes "[]") (by_place (index ∷ [])) i) (k.arguments all)) ∙ apply_kept place (r.send place form (codes "[]") (by_place (index ∷ []))) all) refl
called_ends place (super_member name) all s = done _ _ (r.row place (c.super role.Method name) all) _ s (row_kept place (c.super role.Method name) all) refl
called_ends place (super_item index) all s = done _ _ (r.apply place (r.row place (c.super role.Method (codes "[]")) (by_place (index ∷ []))) all) _ s
    ((λ i. r.apply (line place) (row_kept place (c.super role.Method (codes "[]")) (by_place (index ∷ [])) i) (k.arguments all)) ∙ apply_kept place (r.row place (c.super role.Method (codes "[]")) (by_place (index ∷ []))) all) refl

pub called_goes : (p' p : Place) (x : Reference) (all : Arguments) → p' ≡ line p → Goes k.core (r.called p' (k.reference x) (k.arguments all)) (r.called p x all)
called_goes p' p x all e s = (λ i. r.called (e i) (k.reference x) (k.arguments all) (k.state s)) ∙ called_ends p x all s

no_alias_goes : (w : PlacedName) (b : Bound) (x : Reference) → Goes k.reference (r.no_alias_at (k.word w) (k.bound b) (k.reference x)) (r.no_alias_at w b x)
no_alias_goes w (local e) x s = done _ _ x _ s refl refl
no_alias_goes w (outer of_this (m.alias n)) x s = stop _ _ (left_out w.place FunctionTypes) refl
no_alias_goes w (alias_behind at) x s = stop _ _ (left_out at FunctionTypes) refl
no_alias_goes w (outer of_this (m.class n)) x s = done _ _ x _ s refl refl
no_alias_goes w (outer of_this (m.type_parameter n)) x s = done _ _ x _ s refl refl
no_alias_goes w (outer of_this (m.function n)) x s = done _ _ x _ s refl refl
no_alias_goes w (outer of_this (m.variable n is_final)) x s = done _ _ x _ s refl refl
no_alias_goes w (outer of_this (m.accessors getter setter)) x s = done _ _ x _ s refl refl
no_alias_goes w (outer of_this m.member) x s = done _ _ x _ s refl refl
no_alias_goes w (outer of_this m.prefix) x s = done _ _ x _ s refl refl
no_alias_goes w (outer of_this m.ambiguous) x s = done _ _ x _ s refl refl
no_alias_goes w (outer of_this m.unknown) x s = done _ _ x _ s refl refl

pub callable_goes : (x : Reference) → Goes k.reference (r.callable (k.reference x)) (r.callable x)
callable_goes (evaluated form) s = done _ _ (evaluated form) _ s refl refl
callable_goes (named w b) s = no_alias_goes w b (named w b) s
callable_goes (member form name) s = done _ _ (member form name) _ s refl refl
callable_goes (item form index) s = done _ _ (item form index) _ s refl refl
callable_goes (super_member name) s = done _ _ (super_member name) _ s refl refl
callable_goes (super_item index) s = done _ _ (super_item index) _ s refl refl

read_first : (place : Place) (w f : PlacedName) (b : Bound) (s : State) →
    on (r.read_bound (k.word f) (k.bound b) (k.state s)) (λ form st. went (member form (r.own_name (k.word w) st)) st) ≡
    ends k.reference (on (r.read_bound f b s) (λ form st. went (member form (r.own_name w st)) st))
read_first place w f b s = on_ends _ _ _ _ _ _ (read_bound_goes f b s) (λ form s. done _ _ (member form (r.own_name w s)) _ s refl refl)

behind_kept : (at : Place) (meaning : Meaning) → r.behind (line at) meaning ≡ k.bound (r.behind at meaning)
behind_kept at (m.function n) = refl
behind_kept at (m.variable n is_final) = refl
behind_kept at (m.accessors getter setter) = refl
behind_kept at (m.class n) = refl
behind_kept at (m.alias n) = refl
behind_kept at (m.type_parameter n) = refl
behind_kept at m.member = refl
behind_kept at m.prefix = refl
behind_kept at m.ambiguous = refl
behind_kept at m.unknown = refl

behind_goes : (place : Place) (w f : PlacedName) (b : Bound) → Goes k.reference (r.member_behind (line place) (k.word w) (k.word f) (k.bound b)) (r.member_behind place w f b)
behind_goes place w f (local e) s = read_first place w f (local e) s
behind_goes place w f (outer of_this (m.class n)) s = done _ _ (named (record { place = place; text = w.text }) (outer false (s.tables.static n (r.own_name w s)))) _ s refl refl
behind_goes place w f (outer of_this m.prefix) s = done _ _ (named (record { place = place; text = w.text }) (r.behind w.place (s.names.prefixed f.text w.text))) _ s
    (ap (named (record { place = line place; text = w.text })) (behind_kept w.place (s.names.prefixed f.text w.text))) refl
behind_goes place w f (alias_behind at) s = read_first place w f (alias_behind at) s
behind_goes place w f (outer of_this (m.alias n)) s = read_first place w f (outer of_this (m.alias n)) s
behind_goes place w f (outer of_this (m.type_parameter n)) s = read_first place w f (outer of_this (m.type_parameter n)) s
behind_goes place w f (outer of_this (m.function n)) s = read_first place w f (outer of_this (m.function n)) s
behind_goes place w f (outer of_this (m.variable n is_final)) s = read_first place w f (outer of_this (m.variable n is_final)) s
behind_goes place w f (outer of_this (m.accessors getter setter)) s = read_first place w f (outer of_this (m.accessors getter setter)) s
behind_goes place w f (outer of_this m.member) s = read_first place w f (outer of_this m.member) s
behind_goes place w f (outer of_this m.ambiguous) s = read_first place w f (outer of_this m.ambiguous) s
behind_goes place w f (outer of_this m.unknown) s = read_first place w f (outer of_this m.unknown) s

member_ends : (place : Place) (w : PlacedName) (x : Reference) → Goes k.reference (r.member_of (line place) (k.word w) (k.reference x)) (r.member_of place w x)
member_ends place w (named f b) s = behind_goes place w f b s
member_ends place w (evaluated form) s = on_ends _ _ _ _ _ _ (read_ends place (evaluated form) s) (λ form s. done _ _ (member form (r.own_name w s)) _ s refl refl)
member_ends place w (member form name) s = on_ends _ _ _ _ _ _ (read_ends place (member form name) s) (λ form s. done _ _ (member form (r.own_name w s)) _ s refl refl)
member_ends place w (item form index) s = on_ends _ _ _ _ _ _ (read_ends place (item form index) s) (λ form s. done _ _ (member form (r.own_name w s)) _ s refl refl)
member_ends place w (super_member name) s = on_ends _ _ _ _ _ _ (read_ends place (super_member name) s) (λ form s. done _ _ (member form (r.own_name w s)) _ s refl refl)
member_ends place w (super_item index) s = on_ends _ _ _ _ _ _ (read_ends place (super_item index) s) (λ form s. done _ _ (member form (r.own_name w s)) _ s refl refl)

pub member_goes : (p' p : Place) (w' w : PlacedName) (x : Reference) → p' ≡ line p → w' ≡ k.word w → Goes k.reference (r.member_of p' w' (k.reference x)) (r.member_of p w x)
member_goes p' p w' w x e h s = (λ i. r.member_of (e i) (h i) (k.reference x) (k.state s)) ∙ member_ends p w x s

-- ---- writing

unwritable_kept : (place : Place) (form : Core) (name : Text) → r.unwritable (line place) (k.core form) name ≡ k.core (r.unwritable place form name)
unwritable_kept place form name = raised_kept place (form ∷ []) NoSuchMethodError name true

write_if_goes : (b : Bool) (job : c.Unary Text) (place at : Place) (name : Text) (asked : Asked) (form : Core) →
    Goes k.core (r.write_if b job (line place) (line at) name (k.asked asked) (k.core form)) (r.write_if b job place at name asked form)
unfolding k.core
write_if_goes true job place at name asked form s = done _ _ (r.unwritable place form name) _ s (unwritable_kept place form name) refl
write_if_goes false job place at name asked form s = on_ends _ _ _ _ _ _ (checked_goes kind.Assign _ at _ asked form refl refl s)
    (λ form s. done _ _ (c.at place (c.unary job form)) _ s refl refl)

asked_by_kept : (o : Option Ty) → unasked ≡ k.asked (r.asked_by o)
asked_by_kept None = refl
asked_by_kept (Some of) = refl

write_variable_goes : (n : ℕ) (b : Bool) (place at : Place) (name : Text) (form : Core) → Goes k.core (r.write_outer false (line place) (line at) name (m.variable n b) (k.core form)) (r.write_outer false place at name (m.variable n b) form)
write_variable_goes n b place at name form s =
    (λ i. r.write_if b (c.static_write n) (line place) (line at) name (asked_by_kept (s.tables.variable_type n) i) (k.core form) (k.state s)) ∙
    write_if_goes b (c.static_write n) place at name (r.asked_by (s.tables.variable_type n)) form s

write_setter_goes : (place : Place) (o : Option ℕ) (name : Text) (form : Core) → Goes k.core (r.write_setter (line place) o name (k.core form)) (r.write_setter place o name form)
write_setter_goes place None name form s = done _ _ (r.unwritable place form name) _ s (unwritable_kept place form name) refl
write_setter_goes place (Some n) name form s = in_let_goes _ place form (λ x st. went (r.block (line place) (r.call (line place) n (by_place (x ∷ [])) ∷ x ∷ [])) st) (λ x st. went (r.block place (r.call place n (by_place (x ∷ [])) ∷ x ∷ [])) st) refl
    (λ x s. done _ _ _ _ s ((λ i. r.block (line place) (row_kept place (c.call n) (by_place (x ∷ [])) i ∷ k.core x ∷ [])) ∙ block_kept place (r.call place n (by_place (x ∷ [])) ∷ x ∷ [])) refl) s

write_parameter_kept : (place : Place) (o : Option ℕ) (name : Text) (form : Core) → r.write_parameter (line place) o name (k.core form) ≡ k.core (r.write_parameter place o name form)
write_parameter_kept place None name form = raised_kept place (form ∷ []) MalformedTypeError name false
write_parameter_kept place (Some around) name form = unwritable_kept place form name

write_unknown_kept : (b : Bool) (place : Place) (name : Text) (form : Core) → r.write_unknown b (line place) name (k.core form) ≡ k.core (r.write_unknown b place name form)
unfolding k.core
write_unknown_kept true place name form = refl
write_unknown_kept false place name form = unwritable_kept place form name

write_outer_goes : (of_this : Bool) (place at : Place) (name : Text) (m : Meaning) (form : Core) → Goes k.core (r.write_outer of_this (line place) (line at) name m (k.core form)) (r.write_outer of_this place at name m form)
write_outer_goes of_this place at name (m.function n) form s = done _ _ (r.unwritable place form name) _ s (unwritable_kept place form name) refl
write_outer_goes of_this place at name (m.variable n b) form s = write_variable_goes n b place at name form s
write_outer_goes of_this place at name (m.accessors getter setter) form s = write_setter_goes place setter name form s
write_outer_goes of_this place at name (m.class n) form s = done _ _ (r.unwritable place form name) _ s (unwritable_kept place form name) refl
write_outer_goes of_this place at name (m.alias n) form s = done _ _ (r.unwritable place form name) _ s (unwritable_kept place form name) refl
write_outer_goes of_this place at name (m.type_parameter n) form s = done _ _ (r.write_parameter place s.inside.class name form) _ s (write_parameter_kept place s.inside.class name form) refl
write_outer_goes of_this place at name m.prefix form s = done _ _ (r.unwritable place form name) _ s (unwritable_kept place form name) refl
write_outer_goes of_this place at name m.member form s = done _ _ (r.write_unknown of_this place name form) _ s (write_unknown_kept of_this place name form) refl
write_outer_goes of_this place at name m.ambiguous form s = done _ _ (r.write_unknown of_this place name form) _ s (write_unknown_kept of_this place name form) refl
write_outer_goes of_this place at name m.unknown form s = done _ _ (r.write_unknown of_this place name form) _ s (write_unknown_kept of_this place name form) refl

write_bound_goes : (place at : Place) (w : PlacedName) (b : Bound) (form : Core) → Goes k.core (r.write_bound (line place) (line at) (k.word w) (k.bound b) (k.core form)) (r.write_bound place at w b form)
write_bound_goes place at w (local e) form s = write_if_goes e.is_final (c.write e.variable) place at (r.own_name w s) e.asked form s
write_bound_goes place at w (outer of_this meaning) form s = write_outer_goes of_this place at (r.own_name w s) meaning form s
write_bound_goes place at w (alias_behind _) form s = done _ _ (r.unwritable place form (r.own_name w s)) _ s (unwritable_kept place form (r.own_name w s)) refl

write_item_goes : (place : Place) (f' f : Arguments → Core) (index form : Core) → ((all : Arguments) → f' (k.arguments all) ≡ k.core (f all)) →
    Goes k.core (r.write_item (line place) f' (k.core index) (k.core form)) (r.write_item place f index form)
write_item_goes place f' f index form h s = in_let_goes _ place form (λ x st. went (r.block (line place) (f' (by_place (k.core index ∷ x ∷ [])) ∷ x ∷ [])) st) (λ x st. went (r.block place (f (by_place (index ∷ x ∷ [])) ∷ x ∷ [])) st) refl
    (λ x s. done _ _ _ _ s ((λ i. r.block (line place) (h (by_place (index ∷ x ∷ [])) i ∷ k.core x ∷ [])) ∙ block_kept place (f (by_place (index ∷ x ∷ [])) ∷ x ∷ [])) refl) s

write_ends : (place at : Place) (x : Reference) (form : Core) → Goes k.core (r.write (line place) (line at) (k.reference x) (k.core form)) (r.write place at x form)
unfolding k.core
write_ends place at (evaluated target) form s = done _ _ (r.block place (target ∷ form ∷ [])) _ s (block_kept place (target ∷ form ∷ [])) refl
write_ends place at (named w b) form s = write_bound_goes place at w b form s
write_ends place at (member target name) form s = done _ _ (c.at place (c.binary (c.set name) target form)) _ s refl refl
write_ends place at (item target index) form s = write_item_goes place (r.send (line place) (k.core target) (codes "[]=")) (r.send place target (codes "[]=")) index form (send_kept place target (codes "[]=")) s
write_ends place at (super_member name) form s = done _ _ (r.row place (c.super role.Setter name) (by_place (form ∷ []))) _ s (row_kept place (c.super role.Setter name) (by_place (form ∷ []))) refl
write_ends place at (super_item index) form s = write_item_goes place (r.row (line place) (c.super role.Method (codes "[]="))) (r.row place (c.super role.Method (codes "[]="))) index form (row_kept place (c.super role.Method (codes "[]="))) s

pub write_goes : (p' p a' a : Place) (x' x : Reference) (form : Core) → p' ≡ line p → a' ≡ line a → x' ≡ k.reference x →
    Goes k.core (r.write p' a' x' (k.core form)) (r.write p a x form)
write_goes p' p a' a x' x form e h l s = (λ i. r.write (e i) (h i) (l i) (k.core form) (k.state s)) ∙ write_ends p a x form s

-- ---- assignment

in_lets_goes : (p' p : Place) (x : Reference) (b' b : Reference → Walk Core) → p' ≡ line p → ((y : Reference) → Goes k.core (b' (k.reference y)) (b y)) →
    Goes k.core (r.in_lets p' (k.reference x) b') (r.in_lets p x b)
in_lets_goes p' p (evaluated form) b' b e h s = h (evaluated form) s
in_lets_goes p' p (named w bound) b' b e h s = h (named w bound) s
in_lets_goes p' p (member form name) b' b e h s = in_let_goes p' p form (λ x st. b' (member x name) st) (λ x st. b (member x name) st) e (λ x s. h (member x name) s) s
in_lets_goes p' p (item form index) b' b e h s = in_let_goes p' p form (λ x st. r.in_let p' (k.core index) (λ y st. b' (item x y) st) st) (λ x st. r.in_let p index (λ y st. b (item x y) st) st) e
    (λ x s. in_let_goes p' p index (λ y st. b' (item (k.core x) y) st) (λ y st. b (item x y) st) e (λ y s. h (item x y) s) s) s
in_lets_goes p' p (super_member name) b' b e h s = h (super_member name) s
in_lets_goes p' p (super_item index) b' b e h s = in_let_goes p' p index (λ y st. b' (super_item y) st) (λ y st. b (super_item y) st) e (λ y s. h (super_item y) s) s

in_item_lets_goes : (p' p : Place) (x : Reference) (b' b : Reference → Walk Core) → p' ≡ line p → ((y : Reference) → Goes k.core (b' (k.reference y)) (b y)) →
    Goes k.core (r.in_item_lets p' (k.reference x) b') (r.in_item_lets p x b)
in_item_lets_goes p' p (member form name) b' b e h s = h (member form name) s
in_item_lets_goes p' p (evaluated form) b' b e h s = in_lets_goes p' p (evaluated form) b' b e h s
in_item_lets_goes p' p (named w bound) b' b e h s = in_lets_goes p' p (named w bound) b' b e h s
in_item_lets_goes p' p (item form index) b' b e h s = in_lets_goes p' p (item form index) b' b e h s
in_item_lets_goes p' p (super_member name) b' b e h s = in_lets_goes p' p (super_member name) b' b e h s
in_item_lets_goes p' p (super_item index) b' b e h s = in_lets_goes p' p (super_item index) b' b e h s

pub assigned_goes : (p' p a' a : Place) (v' v : Walk Core) (x : Reference) → p' ≡ line p → a' ≡ line a → Goes k.core v' v →
    Goes k.core (r.assigned p' a' v' (k.reference x)) (r.assigned p a v x)
assigned_goes p' p a' a v' v x e h l s = in_item_lets_goes p' p x (λ y st. on (v' st) (λ form st. r.write p' a' y form st)) (λ y st. on (v st) (λ form st. r.write p a y form st)) e
    (λ y s. on_ends _ _ _ _ _ _ (l s) (λ form s. write_goes p' p a' a _ y form e h refl s)) s

send_at : (p' p : Place) (x : Core) (name : Text) (y : Core) → p' ≡ line p → r.send p' (k.core x) name (by_place (k.core y ∷ [])) ≡ k.core (r.send p x name (by_place (y ∷ [])))
send_at p' p x name y e = (λ i. r.send (e i) (k.core x) name (by_place (k.core y ∷ []))) ∙ send_kept p x name (by_place (y ∷ []))

pub compound_goes : (p' p : Place) (operator : Text) (v' v : Walk Core) (x : Reference) → p' ≡ line p → Goes k.core v' v →
    Goes k.core (r.compound p' operator v' (k.reference x)) (r.compound p operator v x)
compound_goes p' p operator v' v x e l s = in_lets_goes p' p x (λ y st. on (r.read p' y st) (λ old st. on (v' st)
    (λ form st. r.write p' p' y (r.send p' old operator (by_place (form ∷ []))) st))) (λ y st. on (r.read p y st) (λ old st. on (v st)
    (λ form st. r.write p p y (r.send p old operator (by_place (form ∷ []))) st))) e
    (λ y s. on_ends _ _ _ _ _ _ (read_goes p' p _ y e refl s) (λ old s. on_ends _ _ _ _ _ _ (l s)
    (λ form s. (λ i. r.write p' p' (k.reference y) (send_at p' p old operator form e i) (k.state s)) ∙
    write_goes p' p p' p _ y (r.send p old operator (by_place (form ∷ []))) e e refl s))) s

pub stepped_goes : (p' p : Place) (operator : Text) (o' one : Core) (x : Reference) → p' ≡ line p → o' ≡ k.core one →
    Goes k.core (r.stepped p' operator o' (k.reference x)) (r.stepped p operator one x)
stepped_goes p' p operator o' one x e l s = in_lets_goes p' p x (λ y st. on (r.read p' y st) (λ old st. r.in_let p' old
    (λ z st. on (r.write p' p' y (r.send p' z operator (by_place (o' ∷ []))) st) (λ form st. went (r.block p' (form ∷ z ∷ [])) st)) st))
    (λ y st. on (r.read p y st) (λ old st. r.in_let p old
    (λ z st. on (r.write p p y (r.send p z operator (by_place (one ∷ []))) st) (λ form st. went (r.block p (form ∷ z ∷ [])) st)) st)) e
    (λ y s. on_ends _ _ _ _ _ _ (read_goes p' p _ y e refl s) (λ old s. in_let_goes p' p old
    (λ z st. on (r.write p' p' (k.reference y) (r.send p' z operator (by_place (o' ∷ []))) st) (λ form st. went (r.block p' (form ∷ z ∷ [])) st))
    (λ z st. on (r.write p p y (r.send p z operator (by_place (one ∷ []))) st) (λ form st. went (r.block p (form ∷ z ∷ [])) st)) e
    (λ z s. on_ends _ _ _ _ _ _
    ((λ i. r.write p' p' (k.reference y) (((λ j. r.send p' (k.core z) operator (by_place (l j ∷ []))) ∙ send_at p' p z operator one e) i) (k.state s)) ∙
    write_goes p' p p' p _ y (r.send p z operator (by_place (one ∷ []))) e e refl s)
    (λ form s. done _ _ (r.block p (form ∷ z ∷ [])) _ s ((λ i. r.block (e i) (k.core form ∷ k.core z ∷ [])) ∙ block_kept p (form ∷ z ∷ [])) refl)) s)) s
