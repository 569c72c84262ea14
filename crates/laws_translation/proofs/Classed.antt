-- Classes, their fields and constructors go alike once annotations and columns are forgotten.
use Rattle.std.proofs.Common.{◌≡◌, refl, sym, ap, ◌∙◌, ℕ, zero, suc, ◌+◌, List, [], ◌∷◌, ◌++◌, map, length, drop, Option, None, Some, Bool, true, false, ◌||◌, if◌then◌else◌}
use Rattle.std.proofs.lemmas.List.{map-append, length-map}
use Rattle.std.specs.List.{list_any}
use Rattle.std.specs.Prelude.{bytes_eq, cond}
use Rattle.dart_base.specs.declared.place.Place.{Place}
use Rattle.dart_tree.specs.declared.identifier.Identifier.{Identifier}
use Rattle.dart_tree.specs.declared.identifier.DotName.{DotName}
use Rattle.dart_tree.specs.declared.parameter.ThisDot.{ThisDot}
use Rattle.dart_tree.specs.declared.declaration.Modifier.{Modifier}
use Rattle.dart_tree.specs.declared.declaration.Modifier.TheVariants as mo
use Rattle.dart_tree.specs.declared.declaration.ConstructorName.{ConstructorName}
use Rattle.dart_tree.specs.Places.{place_of}
use Rattle.dart_tree.specs.UnitView.{maybe}
use Rattle.dart_tree.specs.Tree as t
use Rattle.dart_tree.specs.Unit as u
use Rattle.dart_ir.specs.Ty.{dynamic}
use Rattle.dart_ir.specs.declared.kind.SiteKind.TheVariants as kind
use Rattle.dart_ir.specs.declared.kind.ThrowKind.TheVariants.{NoSuchMethodError}
use Rattle.core_program.specs.Core as c
use Rattle.core_program.specs.Program as p
use Rattle.laws_translation.specs.LinedLeaf as leaf
use Rattle.laws_translation.specs.Lined as lined
use Rattle.laws_translation.specs.LinedUnit as unit_lined
use Rattle.dart_erase.specs.Erased as erased
use Rattle.dart_erase.specs.UnitErased as unit_erased
use Rattle.translation.specs.Surroundings.{Text, Ty, Core, name_in}
use Rattle.translation.specs.Walk.{Asked, unasked, Inside, State, Went, Walk, went, refused, on, bad_constructor, scoped}
use Rattle.translation.specs.Firsts as first
use Rattle.translation.specs.Types.{text_of, asked_of_kind, is_final, is_const, parameter_name}
use Rattle.translation.specs.References.{Arguments, variable, raised_behind, row}
use Rattle.translation.specs.Expressions as e
use Rattle.translation.specs.Functions as f
use Rattle.translation.specs.Productions as pr
use Rattle.translation.specs.Declarations as d
use Rattle.translation.specs.Classes as cl
use Rattle.laws_translation.proofs.Kept as k
use Rattle.laws_translation.proofs.Kept.{line, Goes, ends}
use Rattle.laws_translation.proofs.Ends.{on_ends, done, stop, checked_goes, scoped_goes}
use Rattle.laws_translation.proofs.Firsts.{place_line, expr_line, operand_line, variables_line}
use Rattle.laws_translation.proofs.TypesSame.{word_same, text_same, asked_kind, final_same, const_same, signature_loose, name_parameter}
use Rattle.laws_translation.proofs.Referred.{raised_kept, row_kept}
use Rattle.laws_translation.proofs.Expressed.{meeting_same}
use Rattle.laws_translation.proofs.Closed.{head, numbered_goes}
use Rattle.laws_translation.proofs.Parameters.{this_same}
use Rattle.laws_translation.proofs.Bared.{law_block, law_expr, law_arguments}
use Rattle.laws_translation.proofs.Declared.{outermost_goes, vars_all, count_same}

abbrev pub bare_member : u.Member → u.Member
bare_member x = unit_lined.member (unit_erased.member x)

abbrev pub bare_kind : u.MemberKind → u.MemberKind
bare_kind x = unit_lined.member_kind (unit_erased.member_kind x)

-- ---- fields

abbrev pub field : cl.Field → cl.Field
field x = record { name = k.word x.name; index = x.index; asked = k.asked x.asked; is_final = x.is_final }

more_fields_kept : (a' a : Asked) (b' b : Bool) (n : ℕ) (z : t.MoreVariables) → a' ≡ k.asked a → b' ≡ b →
    cl.more_fields a' b' n (lined.more_variables (erased.more_variables z)) ≡ map field (cl.more_fields a b n z)
unfolding lined.more_variables erased.more_variables
more_fields_kept a' a b' b n t.no_variables h l = refl
more_fields_kept a' a b' b n (t.variable comma name value rest) h l =
    λ i. record { name = word_same name i; index = n; asked = h i; is_final = l i } ∷ more_fields_kept a' a b' b (n + 1) rest h l i

fields_kept : (s' s : State) (n : ℕ) (z : t.Variables) → cl.fields_of s' n (lined.variables (erased.variables z)) ≡ map field (cl.fields_of s n z)
unfolding lined.variables erased.variables
fields_kept s' s n (t.the_variables kind name value more semicolon) =
    λ i. record { name = word_same name i; index = n; asked = asked_kind name s' s kind i; is_final = final_same name kind i } ∷
    more_fields_kept _ (asked_of_kind s kind) _ (is_final kind) (n + 1) more (asked_kind name s' s kind) (final_same name kind) i

member_fields_kept : (s' s : State) (n : ℕ) (b : Bool) (x : u.MemberKind) → cl.member_fields s' n b (bare_kind x) ≡ map field (cl.member_fields s n b x)
member_fields_kept s' s n false (u.variables_member x) = fields_kept s' s n x
member_fields_kept s' s n true (u.variables_member x) = refl
member_fields_kept s' s n false (u.constructor_member x) = refl
member_fields_kept s' s n true (u.constructor_member x) = refl
member_fields_kept s' s n false (u.function_member x) = refl
member_fields_kept s' s n true (u.function_member x) = refl
member_fields_kept s' s n false (u.accessor_member x) = refl
member_fields_kept s' s n true (u.accessor_member x) = refl
member_fields_kept s' s n false (u.operator_member x) = refl
member_fields_kept s' s n true (u.operator_member x) = refl

pub static_same : (x : Modifier) → cl.is_static (unit_lined.modifier x) ≡ cl.is_static x
static_same mo.Omitted = refl
static_same (mo.Static place) = refl
static_same (mo.ExternalStatic first second) = refl

first_fields : (s' s : State) (n : ℕ) (x : u.Member) → cl.member_fields s' n (cl.is_static (unit_lined.modifier x.modifier)) (bare_kind x.kind) ≡ map field (cl.member_fields s n (cl.is_static x.modifier) x.kind)
first_fields s' s n x = (λ i. cl.member_fields s' n (static_same x.modifier i) (bare_kind x.kind)) ∙ member_fields_kept s' s n (cl.is_static x.modifier) x.kind

pub own_fields_kept : (s' s : State) (n : ℕ) (xs : List u.Member) → cl.own_fields s' n (map bare_member xs) ≡ map field (cl.own_fields s n xs)
own_fields_kept s' s n [] = refl
own_fields_kept s' s n (x ∷ xs) =
    (λ i. first_fields s' s n x i ++ cl.own_fields s' (n + length (first_fields s' s n x i)) (map bare_member xs)) ∙
    (λ i. map field (cl.member_fields s n (cl.is_static x.modifier) x.kind) ++ cl.own_fields s' (n + length-map (cl.member_fields s n (cl.is_static x.modifier) x.kind) field i) (map bare_member xs)) ∙
    (λ i. map field (cl.member_fields s n (cl.is_static x.modifier) x.kind) ++ own_fields_kept s' s (n + length (cl.member_fields s n (cl.is_static x.modifier) x.kind)) xs i) ∙
    sym (map-append field (cl.member_fields s n (cl.is_static x.modifier) x.kind) (cl.own_fields s (n + length (cl.member_fields s n (cl.is_static x.modifier) x.kind)) xs))

abbrev option_field : Option cl.Field → Option cl.Field
option_field None = None
option_field (Some x) = Some (field x)

named_if : (b : Bool) (x : cl.Field) (o : Option cl.Field) → cond b (Some (field x)) (option_field o) ≡ option_field (cond b (Some x) o)
named_if true x o = refl
named_if false x o = refl

named_kept : (xs : List cl.Field) (name : Text) → cl.field_named (map field xs) name ≡ option_field (cl.field_named xs name)
named_kept [] name = refl
named_kept (x ∷ xs) name = (λ i. cond (bytes_eq x.name.text name) (Some (field x)) (named_kept xs name i)) ∙ named_if (bytes_eq x.name.text name) x (cl.field_named xs name)

abbrev pub around : cl.Around → cl.Around
around x = record { class = x.class; arguments = x.arguments; name = x.name; fields = map field x.fields; count = x.count }

pub field_write_at : (p' p : Place) (n : ℕ) (form : Core) → p' ≡ line p → cl.field_write p' n (k.core form) ≡ k.core (cl.field_write p n form)
unfolding k.core
field_write_at p' p n form h = ap (λ (z : Place). cl.field_write z n (k.core form)) h

write_field_goes : (p' p a' a : Place) (o : Option cl.Field) (name : Text) (form : Core) → p' ≡ line p → a' ≡ line a →
    Goes k.core (cl.write_field p' a' (option_field o) name (k.core form)) (cl.write_field p a o name form)
write_field_goes p' p a' a None name form h l q = done _ _ (raised_behind p (form ∷ []) NoSuchMethodError (name_in q.names.library name) true) _ q
    ((λ i. raised_behind (h i) (k.core form ∷ []) NoSuchMethodError (name_in q.names.library name) true) ∙ raised_kept p (form ∷ []) NoSuchMethodError (name_in q.names.library name) true) refl
write_field_goes p' p a' a (Some x) name form h l q = on_ends _ _ _ _ _ _ (checked_goes kind.FieldInit a' a _ x.asked form l refl q)
    (λ form q. done _ _ (cl.field_write p x.index form) _ q (field_write_at p' p x.index form h) refl)

write_named : (r : cl.Around) (p' p a' a : Place) (n' name : Text) (form : Core) → p' ≡ line p → a' ≡ line a → n' ≡ name →
    Goes k.core (cl.write_field p' a' (cl.field_named (around r).fields n') n' (k.core form)) (cl.write_field p a (cl.field_named r.fields name) name form)
write_named r p' p a' a n' name form h l d q = (λ i. cl.write_field p' a' (cl.field_named (map field r.fields) (d i)) (d i) (k.core form) (k.state q)) ∙
    (λ i. cl.write_field p' a' (named_kept r.fields name i) name (k.core form) (k.state q)) ∙ write_field_goes p' p a' a (cl.field_named r.fields name) name form h l q

-- ---- initial values

pub entering_goes : {A : Type 0} (g : A → A) (i' i : Inside) (w' w : Walk A) → i' ≡ k.inside i → Goes g w' w → Goes g (cl.entering i' w') (cl.entering i w)
entering_goes g i' i w' w h n q = (λ j. cl.entering (h j) w' (k.state q)) ∙ on_ends _ _ _ _ _ _ (n (record q { inside = i })) (λ a q2. done _ _ a _ _ refl refl)

counted_kept : (n : ℕ) (before after : State) → cl.counted_since n (k.state before) (k.state after) ≡ k.state (cl.counted_since n before after)
counted_kept n before after = λ i. record (k.state (cl.counted_since n before after)) { functions = vars_all n before after i }

value_goes : (r : cl.Around) (p' p : Place) (n' name : Text) (z : t.Value) → p' ≡ line p → n' ≡ name →
    Goes (map k.core) (cl.initial_value (around r) p' n' (lined.value (erased.value z))) (cl.initial_value r p name z)
unfolding lined.value erased.value
value_goes r p' p n' name t.omitted h d q = done _ _ [] _ q refl refl
value_goes r p' p n' name (t.given operator given) h d q = on_ends _ _ _ _ _ _ (law_expr given q) (λ form after. on_ends _ _ _ _ _ _
    ((λ i. cl.write_field p' (first.first_of_expr (lined.expr (erased.expr given))) (cl.field_named (map field r.fields) n') n' (k.core form) (counted_kept r.count q after i)) ∙
    write_named r p' p _ (first.first_of_expr given) n' name form h (expr_line given) d (cl.counted_since r.count q after))
    (λ form after. done _ _ (form ∷ []) _ after refl refl))

field_numbered_goes : (o : Option (List Ty)) → Goes (λ n. n) (cl.field_numbered o) (cl.field_numbered o)
field_numbered_goes None q = numbered_goes q
field_numbered_goes (Some arguments) q = done _ _ 0 _ q refl refl

field_value_goes : (r : cl.Around) (p' p : Place) (name : Identifier) (z : t.Value) → p' ≡ line p →
    Goes (map k.core) (cl.field_value (around r) p' (leaf.identifier name) (lined.value (erased.value z))) (cl.field_value r p name z)
field_value_goes r p' p name z h q = on_ends _ _ _ _ _ _ (field_numbered_goes r.arguments q) (λ n q. value_goes r p' p _ (text_of name) z h (text_same name) q)

more_values_goes : (r : cl.Around) (p' p : Place) (z : t.MoreVariables) → p' ≡ line p →
    Goes (map k.core) (cl.more_values (around r) p' (lined.more_variables (erased.more_variables z))) (cl.more_values r p z)
unfolding lined.more_variables erased.more_variables
more_values_goes r p' p t.no_variables h q = done _ _ [] _ q refl refl
more_values_goes r p' p (t.variable comma name value rest) h q = on_ends _ _ _ _ _ _ (field_value_goes r p' p name value h q)
    (λ forms q. on_ends _ _ _ _ _ _ (more_values_goes r p' p rest h q) (λ more q. done _ _ (forms ++ more) _ q (sym (map-append k.core forms more)) refl))

pub field_values_goes : (r : cl.Around) (z : t.Variables) → Goes (map k.core) (cl.field_values (around r) (lined.variables (erased.variables z))) (cl.field_values r z)
unfolding lined.variables erased.variables
field_values_goes r (t.the_variables kind name value more semicolon) q = on_ends _ _ _ _ _ _
    ((λ i. cl.field_value (around r) (first.first_of_variables (leaf.variable_kind (erased.variable_kind name kind)) (leaf.identifier name)) (leaf.identifier name) (lined.value (erased.value value))
    (meeting_same _ (is_const kind) q (const_same name kind) i)) ∙
    field_value_goes r _ (first.first_of_variables kind name) name value (variables_line name kind) (e.meeting_constant (is_const kind) q))
    (λ forms q. on_ends _ _ _ _ _ _ (more_values_goes r _ (first.first_of_variables kind name) more (variables_line name kind) q)
    (λ rest q. done _ _ (forms ++ rest) _ q (sym (map-append k.core forms rest)) refl))

values_of_goes : (r : cl.Around) (b : Bool) (x : u.MemberKind) → Goes (map k.core) (cl.values_of (around r) b (bare_kind x)) (cl.values_of r b x)
values_of_goes r false (u.variables_member x) q = entering_goes (map k.core) _ (d.inside (cl.without_instance r) unasked)
    (cl.field_values (around r) (lined.variables (erased.variables x))) (cl.field_values r x) refl (field_values_goes r x) q
values_of_goes r true (u.variables_member x) q = done _ _ [] _ q refl refl
values_of_goes r false (u.constructor_member x) q = done _ _ [] _ q refl refl
values_of_goes r true (u.constructor_member x) q = done _ _ [] _ q refl refl
values_of_goes r false (u.function_member x) q = done _ _ [] _ q refl refl
values_of_goes r true (u.function_member x) q = done _ _ [] _ q refl refl
values_of_goes r false (u.accessor_member x) q = done _ _ [] _ q refl refl
values_of_goes r true (u.accessor_member x) q = done _ _ [] _ q refl refl
values_of_goes r false (u.operator_member x) q = done _ _ [] _ q refl refl
values_of_goes r true (u.operator_member x) q = done _ _ [] _ q refl refl

pub all_values_goes : (r : cl.Around) (xs : List u.Member) → Goes (map k.core) (cl.all_values (around r) (map bare_member xs)) (cl.all_values r xs)
all_values_goes r [] q = done _ _ [] _ q refl refl
all_values_goes r (x ∷ xs) q = on_ends _ _ _ _ _ _
    ((λ i. cl.values_of (around r) (static_same x.modifier i) (bare_kind x.kind) (k.state q)) ∙ values_of_goes r (cl.is_static x.modifier) x.kind q)
    (λ forms q. on_ends _ _ _ _ _ _ (all_values_goes r xs q) (λ more q. done _ _ (forms ++ more) _ q (sym (map-append k.core forms more)) refl))

after_same : (w : Went (List Core)) → cl.variables_after (ends (map k.core) w) ≡ cl.variables_after w
unfolding ends
after_same (went forms q) = refl
after_same (refused why) = refl

pub count_kept : (r : cl.Around) (xs : List u.Member) (q : State) → cl.value_count (around r) (map bare_member xs) (k.state q) ≡ cl.value_count r xs q
count_kept r xs q = ap cl.variables_after (all_values_goes r xs (cl.blank q)) ∙ after_same (cl.all_values r xs (cl.blank q))

-- ---- constructors

abbrev pub draft : cl.Draft → cl.Draft
draft x = record {
  place = line x.place;
  id = x.id;
  head = head x.head;
  parameters = x.parameters;
  has_values = x.has_values;
  forms = map k.core x.forms;
  vars = x.vars;
}

abbrev pub parts : cl.Parts → cl.Parts
parts x = record { values = map k.core x.values; drafts = map draft x.drafts }

pub id_same : (o : Option DotName) → cl.id_of (maybe leaf.dot_name o) ≡ cl.id_of o
id_same None = refl
id_same (Some dot) = text_same dot.name

pub generative_same : (n : ℕ) (o : Option DotName) (q : State) → cl.generative n (maybe leaf.dot_name o) (k.state q) ≡ cl.generative n o q
generative_same n o q = ap (λ (id : Text). cl.generative_of (q.tables.constructor n (name_in q.names.library id))) (id_same o)

pub super_new_goes : (place : Place) (o : Option ℕ) (w' w : Walk Arguments) → Goes k.arguments w' w → Goes (map k.core) (cl.super_new (line place) o w') (cl.super_new place o w)
super_new_goes place None w' w h q = stop _ _ (bad_constructor place) refl
super_new_goes place (Some n) w' w h q = on_ends _ _ _ _ _ _ (h q) (λ all q. done _ _ (row place (c.super_new n) all ∷ []) _ q (ap (λ (z : Core). z ∷ []) (row_kept place (c.super_new n) all)) refl)

super_named : (place : Place) (n : ℕ) (o : Option DotName) (w' w : Walk Arguments) → Goes k.arguments w' w →
    Goes (map k.core) (λ q. cl.super_new (line place) (cl.generative n (maybe leaf.dot_name o) q) w' q) (λ q. cl.super_new place (cl.generative n o q) w q)
super_named place n o w' w h q = (λ i. cl.super_new (line place) (generative_same n o q i) w' (k.state q)) ∙ super_new_goes place (cl.generative n o q) w' w h q

super_goes : (place : Place) (n : Option ℕ) (o : Option DotName) (w' w : Walk Arguments) → Goes k.arguments w' w →
    Goes (map k.core) (cl.super_of (line place) n (maybe leaf.dot_name o) w') (cl.super_of place n o w)
super_goes place None o w' w h q = stop _ _ (bad_constructor place) refl
super_goes place (Some zero) None w' w h q = on_ends _ _ _ _ _ _ (h q) (λ all q. done _ _ all.forms _ q refl refl)
super_goes place (Some zero) (Some dot) w' w h q = super_named place zero (Some dot) w' w h q
super_goes place (Some (suc n)) o w' w h q = super_named place (suc n) o w' w h q

no_arguments_goes : Goes k.arguments (λ q. went pr.no_arguments q) (λ q. went pr.no_arguments q)
no_arguments_goes q = done _ _ pr.no_arguments _ q refl refl

pub implicit_goes : (b' b : Bool) (p' place : Place) (o : Option ℕ) → b' ≡ b → p' ≡ line place → Goes (map k.core) (cl.implicit_super b' p' o) (cl.implicit_super b place o)
implicit_goes b' b p' place o h l q = (λ i. cl.implicit_super (h i) (l i) o (k.state q)) ∙ by_test b o where
  by_test : (b : Bool) (o : Option ℕ) → cl.implicit_super b (line place) o (k.state q) ≡ ends (map k.core) (cl.implicit_super b place o q)
  by_test true o = done _ _ [] _ q refl refl
  by_test false None = done _ _ [] _ q refl refl
  by_test false (Some n) = super_goes place (Some n) None (λ q. went pr.no_arguments q) (λ q. went pr.no_arguments q) no_arguments_goes q

formal_write_goes : (r : cl.Around) (o : Option ThisDot) (n' name : Text) (x : ℕ) → n' ≡ name → Goes (map k.core) (cl.formal_write (around r) (maybe leaf.this_dot o) n' x) (cl.formal_write r o name x)
unfolding k.core
formal_write_goes r None n' name x h q = done _ _ [] _ q refl refl
formal_write_goes r (Some this_dot) n' name x h q = on_ends _ _ _ _ _ _ (write_named r _ this_dot.this _ this_dot.this n' name (variable this_dot.this x) refl refl h q)
    (λ form q. done _ _ (form ∷ []) _ q refl refl)

kind_same : (x : t.Parameter) → cl.kind_of_parameter (lined.parameter (erased.parameter x)) ≡ lined.parameter_kind (erased.parameter_kind (cl.kind_of_parameter x))
unfolding lined.parameter erased.parameter
kind_same (t.the_parameter comma _ kind value) = refl

parameter_this : (x : t.Parameter) → f.this_of (cl.kind_of_parameter (lined.parameter (erased.parameter x))) ≡ maybe leaf.this_dot (f.this_of (cl.kind_of_parameter x))
parameter_this x = ap f.this_of (kind_same x) ∙ this_same (cl.kind_of_parameter x)

parameter_text : (x : t.Parameter) → text_of (parameter_name (cl.kind_of_parameter (lined.parameter (erased.parameter x)))) ≡ text_of (parameter_name (cl.kind_of_parameter x))
parameter_text x = ap (λ (z : t.ParameterKind). text_of (parameter_name z)) (kind_same x) ∙ ap text_of (name_parameter (cl.kind_of_parameter x)) ∙ text_same (parameter_name (cl.kind_of_parameter x))

formals_goes : (r : cl.Around) (z : t.ParameterList) (bound : List (p.Parameter Text)) → Goes (map k.core) (cl.formals (around r) (lined.parameter_list (erased.parameter_list z)) bound) (cl.formals r z bound)
unfolding lined.parameter_list erased.parameter_list
formals_goes r t.no_parameters bound q = done _ _ [] _ q refl refl
formals_goes r (t.parameter one more) [] q = done _ _ [] _ q refl refl
formals_goes r (t.parameter one more) (x ∷ xs) q = on_ends _ _ _ _ _ _
    ((λ i. cl.formal_write (around r) (parameter_this one i) (text_of (parameter_name (cl.kind_of_parameter (lined.parameter (erased.parameter one))))) x.var (k.state q)) ∙
    formal_write_goes r (f.this_of (cl.kind_of_parameter one)) _ (text_of (parameter_name (cl.kind_of_parameter one))) x.var (parameter_text one) q)
    (λ forms q. on_ends _ _ _ _ _ _ (formals_goes r more xs q) (λ rest q. done _ _ (forms ++ rest) _ q (sym (map-append k.core forms rest)) refl))

pub all_formals_goes : (r : cl.Around) (z : t.Parameters) (bound : List (p.Parameter Text)) → Goes (map k.core) (cl.all_formals (around r) (lined.parameters (erased.parameters z)) bound) (cl.all_formals r z bound)
unfolding lined.parameters erased.parameters
all_formals_goes r (t.the_parameters opening required brackets optional closing) bound q = on_ends _ _ _ _ _ _ (formals_goes r required bound q) (λ forms q. on_ends _ _ _ _ _ _
    ((λ i. cl.formals (around r) (lined.parameter_list (erased.parameter_list optional)) (drop (count_same required i) bound) (k.state q)) ∙ formals_goes r optional (drop (d.count required) bound) q)
    (λ rest q. done _ _ (forms ++ rest) _ q (sym (map-append k.core forms rest)) refl))

this_or_line : (o : Option ThisDot) (p' p : Place) → p' ≡ line p → cl.this_or (maybe leaf.this_dot o) p' ≡ line (cl.this_or o p)
this_or_line None p' p h = h
this_or_line (Some this_dot) p' p h = refl

abbrev bare_init : u.Init → u.Init
bare_init x = unit_lined.init (unit_erased.init x)

plain_goes : (base : t.Operand) (more : t.Cascades) → Goes k.core (pr.expr (t.plain (lined.operand (erased.operand base)) (lined.cascades (erased.cascades more)))) (pr.expr (t.plain base more))
unfolding lined.expr erased.expr
plain_goes base more q = law_expr (t.plain base more) q

field_init_goes : (r : cl.Around) (o : Option ThisDot) (name : Identifier) (base : t.Operand) (more : t.Cascades) (q : State) →
    on (pr.expr (t.plain (lined.operand (erased.operand base)) (lined.cascades (erased.cascades more))) (k.state q)) (λ form st.
    on (cl.write_field (cl.this_or (maybe leaf.this_dot o) (place_of (leaf.identifier name))) (first.first_of_operand (lined.operand (erased.operand base))) (cl.field_named (map field r.fields) (text_of (leaf.identifier name)))
    (text_of (leaf.identifier name)) form st) (λ form st. went (form ∷ []) st)) ≡
    ends (map k.core) (on (pr.expr (t.plain base more) q) (λ form st. on (cl.write_field (cl.this_or o (place_of name)) (first.first_of_operand base) (cl.field_named r.fields (text_of name)) (text_of name) form st) (λ form st. went (form ∷ []) st)))
field_init_goes r o name base more q = on_ends _ _ _ _ _ _ (plain_goes base more q) (λ form q. on_ends _ _ _ _ _ _
    (write_named r _ (cl.this_or o (place_of name)) _ (first.first_of_operand base) _ (text_of name) form (this_or_line o _ (place_of name) (place_line name)) (operand_line base) (text_same name) q)
    (λ form q. done _ _ (form ∷ []) _ q refl refl))

initializer_goes : (r : cl.Around) (xs : List u.Init) (z : u.InitKind) → Goes (map k.core) (cl.initializer (around r) (map bare_init xs) (unit_lined.init_kind (unit_erased.init_kind z))) (cl.initializer r xs z)
initializer_goes r (x ∷ xs) (u.super_init word dot given) q = stop _ _ (bad_constructor word) refl
initializer_goes r [] (u.super_init word dot given) q = super_goes word (q.tables.superclass r.class) dot (pr.arguments (lined.arguments (erased.arguments given))) (pr.arguments given) (law_arguments given) q
initializer_goes r [] (u.field_init this_dot name equals base more) q = field_init_goes r this_dot name base more q
initializer_goes r (x ∷ xs) (u.field_init this_dot name equals base more) q = field_init_goes r this_dot name base more q

pub inits_goes : (r : cl.Around) (xs : List u.Init) → Goes (map k.core) (cl.initializers (around r) (map bare_init xs)) (cl.initializers r xs)
inits_goes r [] q = done _ _ [] _ q refl refl
inits_goes r (x ∷ xs) q = on_ends _ _ _ _ _ _ (initializer_goes r xs x.kind q) (λ forms q. on_ends _ _ _ _ _ _ (inits_goes r xs q)
    (λ more q. done _ _ (forms ++ more) _ q (sym (map-append k.core forms more)) refl))

abbrev pub bare_inits : Option u.Initializers → Option u.Initializers
bare_inits o = maybe unit_lined.initializers (maybe unit_erased.initializers o)

double_map : (xs : List u.Init) → map unit_lined.init (map unit_erased.init xs) ≡ map bare_init xs
double_map [] = refl
double_map (x ∷ xs) = ap (λ (z : List u.Init). bare_init x ∷ z) (double_map xs)

pub init_list_same : (o : Option u.Initializers) → cl.init_list (bare_inits o) ≡ map bare_init (cl.init_list o)
init_list_same None = refl
init_list_same (Some x) = double_map x.items

super_init_same : (z : u.InitKind) → cl.is_super (unit_lined.init_kind (unit_erased.init_kind z)) ≡ cl.is_super z
super_init_same (u.super_init word dot given) = refl
super_init_same (u.field_init this_dot name equals base more) = refl

any_super_same : (xs : List u.Init) → list_any (λ (x : u.Init). cl.is_super x.kind) (map bare_init xs) ≡ list_any (λ (x : u.Init). cl.is_super x.kind) xs
any_super_same [] = refl
any_super_same (x ∷ xs) = λ i. super_init_same x.kind i || any_super_same xs i

pub writes_super_same : (o : Option u.Initializers) → cl.writes_super (bare_inits o) ≡ cl.writes_super o
writes_super_same o = ap (list_any (λ (x : u.Init). cl.is_super x.kind)) (init_list_same o) ∙ any_super_same (cl.init_list o)

pub own_block_goes : (z : t.Body) → Goes (map k.core) (cl.own_block (lined.body (erased.body z))) (cl.own_block z)
unfolding lined.body erased.body
own_block_goes (t.block_body inside) q = on_ends _ _ _ _ _ _ (law_block inside q) (λ form q. done _ _ (form ∷ []) _ q refl refl)
own_block_goes (t.arrow_body arrow given semicolon) q = done _ _ [] _ q refl refl
own_block_goes (t.no_body semicolon) q = done _ _ [] _ q refl refl

pub constructor_head_kept : (r : cl.Around) (n : ℕ) (i' id : Text) (z : t.Parameters) (q : State) → i' ≡ id →
    cl.constructor_head (around r) n i' (lined.parameters (erased.parameters z)) (k.state q) ≡ head (cl.constructor_head r n id z q)
constructor_head_kept r n i' id z q h = λ i. record (head (cl.constructor_head r n id z q)) { name = name_in q.names.library (cl.constructor_name r.name (h i)); signature = signature_loose q dynamic z i }

abbrev drafted_in : ConstructorName → Bool → f.Head → List (p.Parameter Text) → List Core → State → cl.Parts
drafted_in name b h ps all s = cl.drafted (place_of name.class) (cl.id_of name.name) b h ps all s

pub constructed_goes : (r : cl.Around) (name : ConstructorName) (b : Bool) (h' h : f.Head) (q' q : Walk (List (p.Parameter Text))) (w' w : List (p.Parameter Text) → Walk (List Core)) → h' ≡ head h → Goes (λ ps. ps) q' q →
    ((ps : List (p.Parameter Text)) → Goes (map k.core) (w' ps) (w ps)) → Goes parts (cl.constructed (around r) (unit_lined.constructor_name name) b h' q' w') (cl.constructed r name b h q w)
constructed_goes r name b h' h q' q w' w l m n s = (λ i. cl.constructed (around r) (unit_lined.constructor_name name) b (l i) q' w' (k.state s)) ∙
    outermost_goes parts (if b then r.count else 0)
    (cl.entering (head h).inside (scoped (λ s. on (q' s) (λ ps s. on (w' ps s) (λ all s. went (drafted_in (unit_lined.constructor_name name) b (head h) ps all s) s)))))
    (cl.entering h.inside (scoped (λ s. on (q s) (λ ps s. on (w ps s) (λ all s. went (drafted_in name b h ps all s) s)))))
    (entering_goes parts _ h.inside
    (scoped (λ s. on (q' s) (λ ps s. on (w' ps s) (λ all s. went (drafted_in (unit_lined.constructor_name name) b (head h) ps all s) s))))
    (scoped (λ s. on (q s) (λ ps s. on (w ps s) (λ all s. went (drafted_in name b h ps all s) s)))) refl
    (scoped_goes parts (λ s. on (q' s) (λ ps s. on (w' ps s) (λ all s. went (drafted_in (unit_lined.constructor_name name) b (head h) ps all s) s)))
    (λ s. on (q s) (λ ps s. on (w ps s) (λ all s. went (drafted_in name b h ps all s) s)))
    (λ s. on_ends _ _ _ _ _ _ (m s) (λ ps s. on_ends _ _ _ _ _ _ (n ps s) (λ all s. done _ _ (drafted_in name b h ps all s) _ s (λ i. cl.drafted (place_line name.class i) (id_same name.name i) b (head h) ps (map k.core all) (k.state s)) refl))))) s
