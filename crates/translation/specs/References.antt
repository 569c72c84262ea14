-- What names and assignable expressions are read, called and written as (ECMA-408, 16.33 Identifier Reference, 16.32 Assignable
-- Expressions, 16.19 Assignment, 16.17 Method Invocation and 16.18 Property Extraction).
use Rattle.std.specs.Prelude.{ℕ, List, [], ◌∷◌, ◌++◌, Option, None, Some, Bool, true, false, codes}
use Rattle.dart_base.specs.declared.place.Place.{Place}
use Rattle.dart_base.specs.declared.feature.Feature.TheVariants.{FunctionTypes}
use Rattle.dart_ir.specs.declared.class.Role.TheVariants as role
use Rattle.dart_ir.specs.declared.kind.SiteKind.TheVariants as kind
use Rattle.dart_ir.specs.declared.kind.ThrowKind.{ThrowKind}
use Rattle.dart_ir.specs.declared.kind.ThrowKind.TheVariants.{NoSuchMethodError, MalformedTypeError}
use Rattle.dart_ir.specs.declared.value.Value.{Value}
use Rattle.dart_ir.specs.declared.value.Value.TheVariants as v
use Rattle.dart_ir.specs.Ty.{class}
use Rattle.core_program.specs.Core as c
use Rattle.translation.specs.Surroundings.{Text, Ty, Core, Meaning, name_in}
use Rattle.translation.specs.Surroundings as m
use Rattle.translation.specs.Walk.{Asked, unasked, Entry, State, Walk, went, refused, on, left_out, checked, fresh, entry_of}
use Rattle.translation.specs.Types.{PlacedName, tys, fitting, argument_in}

-- ---- forms

abbrev pub constant : Place → Value → Core
constant place value = c.at place (c.leaf (c.constant value))

abbrev pub null : Place → Core
null place = constant place v.Null

abbrev pub truth : Place → Bool → Core
truth place value = constant place (v.Bool value)

abbrev pub this : Place → Core
this place = c.at place (c.leaf c.this)

abbrev pub variable : Place → ℕ → Core
variable place x = c.at place (c.leaf (c.read x))

abbrev pub block : Place → List Core → Core
block place forms = c.at place (c.block (c.cores forms))

abbrev pub raise : Place → ThrowKind → Text → Bool → Core
raise place thrown name is_setter = c.at place (c.leaf (c.raise thrown name is_setter))

-- arguments by place, and then those by the names
pub record Arguments : Type 0 where
  pub forms : List Core
  pub names : List Text

abbrev pub by_place : List Core → Arguments
by_place forms = record { forms = forms; names = [] }

abbrev pub row : Place → c.Job Text → Arguments → Core
row place job arguments = c.at place (c.row job (c.cores arguments.forms) arguments.names)

-- e.n(arguments), and e(arguments)
abbrev pub send : Place → Core → Text → Arguments → Core
send place receiver name arguments = row place (c.send name) (record arguments { forms = receiver ∷ arguments.forms })

abbrev pub apply : Place → Core → Arguments → Core
apply place callee arguments = row place c.apply (record arguments { forms = callee ∷ arguments.forms })

abbrev pub call : Place → ℕ → Arguments → Core
call place function arguments = row place (c.call function) arguments

-- Let(x, e, body), in which x is read
abbrev pub in_let : Place → Core → (Core → Walk Core) → Walk Core
in_let place form body st = on (fresh st) (λ x st. on (body (variable place x) st)
    (λ inner st. went (c.at place (c.let_in x form inner)) st))

-- the arguments, and then an error whose message is the name
abbrev pub raised_behind : Place → List Core → ThrowKind → Text → Bool → Core
raised_behind place forms thrown name is_setter = block place (forms ++ raise place thrown name is_setter ∷ [])

-- ---- references

-- What a name is bound to: a local entry, or what it means outside, with whether a name that nothing gives is one of `this`.
pub data Bound : Type 0 where
  local : Entry → Bound
  outer : Bool → Meaning → Bound
  -- an alias behind a prefix, with the place of its own name
  alias_behind : Place → Bound

-- what can be read, called or assigned
pub data Reference : Type 0 where
  -- a value, which isn't assignable
  evaluated : Core → Reference
  named : PlacedName → Bound → Reference
  -- e.n and e[i]
  member : Core → Text → Reference
  item : Core → Core → Reference
  -- super.n and super[i]
  super_member : Text → Reference
  super_item : Core → Reference

abbrev pub bound_of : Option Entry → Bool → Meaning → Bound
bound_of None of_this meaning = outer of_this meaning
bound_of (Some entry) of_this meaning = local entry

-- an identifier by itself
abbrev pub identifier : PlacedName → State → Reference
identifier word st = named word (bound_of (entry_of st word.text) st.inside.has_instance (st.names.meaning word.text))

abbrev pub own_name : PlacedName → State → Text
own_name word st = name_in st.names.library word.text

-- ---- reading

-- A name that nothing outside of instances gives is one of this, where there is one.
abbrev pub or_of_this : Bool → Core → Core → Core
or_of_this true of_this missing = of_this
or_of_this false of_this missing = missing

abbrev pub class_value : Place → ℕ → State → Core
class_value place n st = c.at place (c.type_literal (class n (tys (fitting (st.tables.parameters n) []))))

abbrev pub parameter_value : Place → Option ℕ → Ty → Text → Core
parameter_value place None of name = raise place MalformedTypeError name false
parameter_value place (Some around) of name = c.at place (c.type_literal of)

abbrev pub read_getter : Place → Option ℕ → Text → Core
read_getter place None name = raise place NoSuchMethodError name false
read_getter place (Some getter) name = call place getter (by_place [])

abbrev pub read_unknown : Bool → Place → Text → Core
read_unknown of_this place name =
    or_of_this of_this (c.at place (c.unary (c.get name) (this place))) (raise place NoSuchMethodError name false)

abbrev pub read_outer : Bool → Place → Text → Meaning → Walk Core
read_outer of_this place name (m.function n) st = went (constant place (v.Code (record { 0 = n }))) st
read_outer of_this place name (m.variable n is_final) st = went (c.at place (c.leaf (c.static_read n))) st
read_outer of_this place name (m.accessors getter setter) st = went (read_getter place getter name) st
read_outer of_this place name (m.class n) st = went (class_value place n st) st
read_outer of_this place name (m.alias n) st = refused (left_out place FunctionTypes)
read_outer of_this place name (m.type_parameter n) st =
    went (parameter_value place st.inside.class (argument_in st.inside.arguments n) name) st
read_outer of_this place name m.prefix st = went (raise place NoSuchMethodError name false) st
read_outer of_this place name m.member st = went (read_unknown of_this place name) st
read_outer of_this place name m.ambiguous st = went (read_unknown of_this place name) st
read_outer of_this place name m.unknown st = went (read_unknown of_this place name) st

abbrev pub read_bound : PlacedName → Bound → Walk Core
read_bound word (local entry) st = went (variable word.place entry.variable) st
read_bound word (outer of_this meaning) st = read_outer of_this word.place (own_name word st) meaning st
read_bound word (alias_behind at) st = refused (left_out at FunctionTypes)

abbrev pub read : Place → Reference → Walk Core
read place (evaluated form) st = went form st
read place (named word bound) st = read_bound word bound st
read place (member form name) st = went (c.at place (c.unary (c.get name) form)) st
read place (item form index) st = went (send place form (codes "[]") (by_place (index ∷ []))) st
read place (super_member name) st = went (row place (c.super role.Getter name) (by_place [])) st
read place (super_item index) st = went (row place (c.super role.Method (codes "[]")) (by_place (index ∷ []))) st

-- ---- calling

abbrev pub call_getter : Place → Option ℕ → Text → Arguments → Core
call_getter place None name arguments = raised_behind place arguments.forms NoSuchMethodError name false
call_getter place (Some getter) name arguments = apply place (call place getter (by_place [])) arguments

abbrev pub call_parameter : Place → Option ℕ → Ty → Text → Arguments → Core
call_parameter place None of name arguments = raised_behind place arguments.forms MalformedTypeError name false
call_parameter place (Some around) of name arguments = apply place (c.at place (c.type_literal of)) arguments

abbrev pub call_unknown : Bool → Place → Text → Arguments → Core
call_unknown of_this place name arguments =
    or_of_this of_this (send place (this place) name arguments) (raised_behind place arguments.forms NoSuchMethodError name false)

abbrev pub call_outer : Bool → Place → Text → Meaning → Arguments → Walk Core
call_outer of_this place name (m.function n) arguments st = went (call place n arguments) st
call_outer of_this place name (m.variable n is_final) arguments st = went (apply place (c.at place (c.leaf (c.static_read n))) arguments) st
call_outer of_this place name (m.accessors getter setter) arguments st = went (call_getter place getter name arguments) st
call_outer of_this place name (m.class n) arguments st = went (apply place (class_value place n st) arguments) st
call_outer of_this place name (m.alias n) arguments st = refused (left_out place FunctionTypes)
call_outer of_this place name (m.type_parameter n) arguments st =
    went (call_parameter place st.inside.class (argument_in st.inside.arguments n) name arguments) st
call_outer of_this place name m.prefix arguments st = went (raised_behind place arguments.forms NoSuchMethodError name false) st
call_outer of_this place name m.member arguments st = went (call_unknown of_this place name arguments) st
call_outer of_this place name m.ambiguous arguments st = went (call_unknown of_this place name arguments) st
call_outer of_this place name m.unknown arguments st = went (call_unknown of_this place name arguments) st

abbrev pub call_bound : PlacedName → Bound → Arguments → Walk Core
call_bound word (local entry) arguments st = went (apply word.place (variable word.place entry.variable) arguments) st
call_bound word (outer of_this meaning) arguments st = call_outer of_this word.place (own_name word st) meaning arguments st
call_bound word (alias_behind at) arguments st = refused (left_out at FunctionTypes)

-- a reference with the arguments behind it; the receiver comes first
abbrev pub called : Place → Reference → Arguments → Walk Core
called place (evaluated form) arguments st = went (apply place form arguments) st
called place (named word bound) arguments st = call_bound word bound arguments st
called place (member form name) arguments st = went (send place form name arguments) st
called place (item form index) arguments st = went (apply place (send place form (codes "[]") (by_place (index ∷ []))) arguments) st
called place (super_member name) arguments st = went (row place (c.super role.Method name) arguments) st
called place (super_item index) arguments st =
    went (apply place (row place (c.super role.Method (codes "[]")) (by_place (index ∷ []))) arguments) st

-- the name of an alias is no value
abbrev pub no_alias_at : PlacedName → Bound → Reference → Walk Reference
no_alias_at word (outer of_this (m.alias n)) reference st = refused (left_out word.place FunctionTypes)
no_alias_at word (alias_behind at) reference st = refused (left_out at FunctionTypes)
no_alias_at word other reference st = went reference st

abbrev pub callable : Reference → Walk Reference
callable (named word bound) st = no_alias_at word bound (named word bound) st
callable reference st = went reference st

-- what a prefix gives under a name at a place
abbrev pub behind : Place → Meaning → Bound
behind at (m.alias n) = alias_behind at
behind at meaning = outer false meaning

-- r.n: behind the name of a class a static member of it, behind a prefix what it gives
abbrev pub member_behind : Place → PlacedName → PlacedName → Bound → Walk Reference
member_behind place word first (outer of_this (m.class n)) st =
    went (named (record { place = place; text = word.text }) (outer false (st.tables.static n (own_name word st)))) st
member_behind place word first (outer of_this m.prefix) st =
    went (named (record { place = place; text = word.text }) (behind word.place (st.names.prefixed first.text word.text))) st
member_behind place word first bound st = on (read_bound first bound st) (λ form st. went (member form (own_name word st)) st)

abbrev pub member_of : Place → PlacedName → Reference → Walk Reference
member_of place word (named first bound) st = member_behind place word first bound st
member_of place word reference st = on (read place reference st) (λ form st. went (member form (own_name word st)) st)

-- ---- writing

-- Block(e, an error for `x=`)
abbrev pub unwritable : Place → Core → Text → Core
unwritable place form name = raised_behind place (form ∷ []) NoSuchMethodError name true

-- a variable takes the tested value, unless it is final
abbrev pub write_if : Bool → c.Unary Text → Place → Place → Text → Asked → Core → Walk Core
write_if true job place at name asked form st = went (unwritable place form name) st
write_if false job place at name asked form st =
    on (checked kind.Assign at asked form st) (λ form st. went (c.at place (c.unary job form)) st)

abbrev pub asked_by : Option Ty → Asked
asked_by None = unasked
asked_by (Some of) = record { of = Some of; annotated = true }

-- a setter, whose value goes by a Let
abbrev pub write_setter : Place → Option ℕ → Text → Core → Walk Core
write_setter place None name form st = went (unwritable place form name) st
write_setter place (Some setter) name form st =
    in_let place form (λ x st. went (block place (call place setter (by_place (x ∷ [])) ∷ x ∷ [])) st) st

abbrev pub write_parameter : Place → Option ℕ → Text → Core → Core
write_parameter place None name form = raised_behind place (form ∷ []) MalformedTypeError name false
write_parameter place (Some around) name form = unwritable place form name

abbrev pub write_unknown : Bool → Place → Text → Core → Core
write_unknown of_this place name form =
    or_of_this of_this (c.at place (c.binary (c.set name) (this place) form)) (unwritable place form name)

abbrev pub write_outer : Bool → Place → Place → Text → Meaning → Core → Walk Core
write_outer of_this place at name (m.function n) form st = went (unwritable place form name) st
write_outer of_this place at name (m.variable n is_final) form st =
    write_if is_final (c.static_write n) place at name (asked_by (st.tables.variable_type n)) form st
write_outer of_this place at name (m.accessors getter setter) form st = write_setter place setter name form st
write_outer of_this place at name (m.class n) form st = went (unwritable place form name) st
write_outer of_this place at name (m.alias n) form st = went (unwritable place form name) st
write_outer of_this place at name (m.type_parameter n) form st = went (write_parameter place st.inside.class name form) st
write_outer of_this place at name m.prefix form st = went (unwritable place form name) st
write_outer of_this place at name m.member form st = went (write_unknown of_this place name form) st
write_outer of_this place at name m.ambiguous form st = went (write_unknown of_this place name form) st
write_outer of_this place at name m.unknown form st = went (write_unknown of_this place name form) st

abbrev pub write_bound : Place → Place → PlacedName → Bound → Core → Walk Core
write_bound place at word (local entry) form st =
    write_if entry.is_final (c.write entry.variable) place at (own_name word st) entry.asked form st
write_bound place at word (outer of_this meaning) form st = write_outer of_this place at (own_name word st) meaning form st
write_bound place at word (alias_behind _) form st = went (unwritable place form (own_name word st)) st

-- a[i] = v is Let(t, v, Block(Send(a, []=, [i, t]), t)), where a and i are variables
abbrev pub write_item : Place → (Arguments → Core) → Core → Core → Walk Core
write_item place assign index form st =
    in_let place form (λ x st. went (block place (assign (by_place (index ∷ x ∷ [])) ∷ x ∷ [])) st) st

-- A reference takes the value of a form. A test of the value stands at `at`.
abbrev pub write : Place → Place → Reference → Core → Walk Core
write place at (evaluated target) form st = went (block place (target ∷ form ∷ [])) st
write place at (named word bound) form st = write_bound place at word bound form st
write place at (member target name) form st = went (c.at place (c.binary (c.set name) target form)) st
write place at (item target index) form st = write_item place (send place target (codes "[]=")) index form st
write place at (super_member name) form st = went (row place (c.super role.Setter name) (by_place (form ∷ []))) st
write place at (super_item index) form st = write_item place (row place (c.super role.Method (codes "[]="))) index form st

-- ---- assignment

-- the receiver and the index of a reference in Lets, so that they are evaluated once
abbrev pub in_lets : Place → Reference → (Reference → Walk Core) → Walk Core
in_lets place (evaluated form) body st = body (evaluated form) st
in_lets place (named word bound) body st = body (named word bound) st
in_lets place (member form name) body st = in_let place form (λ x st. body (member x name) st) st
in_lets place (item form index) body st = in_let place form (λ x st. in_let place index (λ y st. body (item x y) st) st) st
in_lets place (super_member name) body st = body (super_member name) st
in_lets place (super_item index) body st = in_let place index (λ y st. body (super_item y) st) st

-- the index of a reference in Lets, with its receiver
abbrev pub in_item_lets : Place → Reference → (Reference → Walk Core) → Walk Core
in_item_lets place (member form name) body st = body (member form name) st
in_item_lets place reference body st = in_lets place reference body st

-- x = v
abbrev pub assigned : Place → Place → Walk Core → Reference → Walk Core
assigned place at value reference st =
    in_item_lets place reference (λ reference st. on (value st) (λ form st. write place at reference form st)) st

-- x op= v is x = x op v
abbrev pub compound : Place → Text → Walk Core → Reference → Walk Core
compound place operator value reference st =
    in_lets place reference (λ reference st. on (read place reference st) (λ old st. on (value st)
    (λ form st. write place place reference (send place old operator (by_place (form ∷ []))) st))) st

-- x++ is Let(t, x, Block(x = t + 1, t))
abbrev pub stepped : Place → Text → Core → Reference → Walk Core
stepped place operator one reference st =
    in_lets place reference (λ reference st. on (read place reference st) (λ old st. in_let place old
    (λ x st. on (write place place reference (send place x operator (by_place (one ∷ []))) st)
    (λ form st. went (block place (form ∷ x ∷ [])) st)) st)) st
