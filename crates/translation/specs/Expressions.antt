-- The forms of expressions over walks that give the forms of their parts (ECMA-408, 16 Expressions).
use Rattle.std.specs.Prelude.{ℕ, List, [], ◌∷◌, ◌++◌, Option, None, Some, Bool, true, false, codes, bytes_eq, zero, suc, pos}
use Rattle.dart_base.specs.declared.place.Place.{Place}
use Rattle.dart_token.specs.declared.sign.Sign.{Sign}
use Rattle.dart_token.specs.declared.sign.Sign.TheVariants as s
use Rattle.dart_token.specs.Sign.{sign_text}
use Rattle.dart_pieces.specs.Numbers as numbers
use Rattle.dart_tree.specs.declared.identifier.DotName.{DotName}
use Rattle.dart_tree.specs.declared.operator.Operator.{Operator}
use Rattle.dart_tree.specs.declared.operator.Operator.TheVariants as o
use Rattle.dart_tree.specs.declared.expression.Atom.{Atom}
use Rattle.dart_tree.specs.declared.expression.Atom.TheVariants as a
use Rattle.dart_tree.specs.declared.expression.Creation.{Creation}
use Rattle.dart_tree.specs.declared.expression.Creation.TheVariants as n
use Rattle.dart_tree.specs.Types as y
use Rattle.dart_tree.specs.Tree as t
use Rattle.dart_ir.specs.Integer.{integer_value}
use Rattle.dart_ir.specs.declared.class.Role.TheVariants as role
use Rattle.dart_ir.specs.declared.kind.SiteKind.TheVariants as kind
use Rattle.dart_ir.specs.declared.kind.ThrowKind.TheVariants.{NoSuchMethodError, MalformedTypeError}
use Rattle.dart_ir.specs.declared.value.Value.{Value}
use Rattle.dart_ir.specs.declared.value.Value.TheVariants as v
use Rattle.dart_ir.specs.Ty.{TysOf, class, nil, cons}
use Rattle.core_program.specs.Core as c
use Rattle.translation.specs.Surroundings.{Text, Ty, Core, Meaning}
use Rattle.translation.specs.Surroundings as m
use Rattle.translation.specs.Walk.{Asked, unasked, State, Walk, went, refused, on, bad_word, checked, tested, with_literal}
use Rattle.translation.specs.Strings.{Part, units, shown}
use Rattle.translation.specs.Types.{PlacedName, word_of, option_word, last_of, tys, Typed, well_formed, malformed, meaning_of, fitting}
use Rattle.translation.specs.References.{Arguments, by_place, Reference, evaluated, item, constant, null, truth, this, block, raised_behind, row, send, in_let, own_name, identifier, read, called, assigned, compound, stepped}

-- ---- constants, this and identifiers (16.2 Null to 16.5 Strings, 16.11 This)

-- the integer of a literal
abbrev pub integer_of : Text → Value
integer_of text = integer_value (pos (numbers.integer_value text))

abbrev pub instance_or : {A : Type 0} → Bool → Place → Walk A → Walk A
instance_or true place walk st = walk st
instance_or false place walk st = refused (bad_word place)

-- only where there is a `this`
abbrev pub with_instance : {A : Type 0} → Place → Walk A → Walk A
with_instance place walk st = instance_or st.inside.has_instance place walk st

abbrev pub this_form : Place → Walk Core
this_form place st = with_instance place (went (this place)) st

abbrev pub atom_reference : Atom → Walk Reference
atom_reference (a.This place) st = on (this_form place st) (λ form st. went (evaluated form) st)
atom_reference (a.Null place) st = went (evaluated (null place)) st
atom_reference (a.True place) st = went (evaluated (truth place true)) st
atom_reference (a.False place) st = went (evaluated (truth place false)) st
atom_reference (a.Integer place text) st = went (evaluated (constant place (integer_of text))) st
atom_reference (a.Name name) st = went (identifier (word_of name) st) st

abbrev pub as_value : Walk Core → Walk Reference
as_value walk st = on (walk st) (λ form st. went (evaluated form) st)

-- what is never assigned
abbrev pub no_target : Place → Walk Reference
no_target place st = went (evaluated (null place)) st

-- ---- strings (16.5 Strings)

abbrev pub literal : Place → Text → Walk Core
literal place text st = on (with_literal text st) (λ n st. went (constant place (v.Literal n)) st)

-- the constant text that stands before an interpolation
abbrev pub pending_literal : Place → Text → Walk (List Core)
pending_literal place [] st = went [] st
pending_literal place (first ∷ rest) st = on (literal place (first ∷ rest) st) (λ form st. went (form ∷ []) st)

-- Send(e, toString)
abbrev pub to_string : Place → Core → Core
to_string place form = send place form (codes "toString") (by_place [])

abbrev pub is_this : Text → Bool
is_this text = bytes_eq text (codes "this")

abbrev pub shown_if : Bool → Place → Text → Walk Core
shown_if true place text st = this_form place st
shown_if false place text st = read place (identifier (record { place = place; text = text }) st) st

-- a name behind `$`
abbrev pub shown_form : Place → Text → Walk Core
shown_form place text st = shown_if (is_this text) place text st

-- the operands that a piece of a string adds, with the constant text before it, and the constant text at its end
pub record Joined : Type 0 where
  pub forms : List Core
  pub pending : Text

abbrev pub joined_more : List Core → Core → Joined → Joined
joined_more before form joined = record joined { forms = before ++ form ∷ joined.forms }

-- the names in a piece; the forms carry the place of the string
abbrev pub join_parts : Place → Place → List Part → Text → Walk Joined
join_parts place at [] pending st = went (record { forms = []; pending = pending }) st
join_parts place at (units text ∷ parts) pending st = join_parts place at parts (pending ++ text) st
join_parts place at (shown text ∷ parts) pending st =
    on (pending_literal place pending st) (λ before st. on (shown_form at text st)
    (λ form st. on (join_parts place at parts [] st) (λ joined st. went (joined_more before (to_string place form) joined) st)))

-- Join, or the one literal that the string is
abbrev pub string_form : Place → Option Text → Walk (List Core) → Walk Core
string_form place (Some text) operands st = literal place text st
string_form place None operands st = on (operands st) (λ forms st. went (row place c.join (by_place forms)) st)

-- ---- conditions (16.4.1 Boolean Conversion, 16.21 Logical Boolean Expressions, 16.20 Conditional)

abbrev pub choice : Place → Core → Core → Core → Core
choice place test first second = c.at place (c.choice test (c.given first) (c.given second))

-- `!e`, e being tested at its place
abbrev pub negated : Place → Place → Core → Walk Core
negated place at form st = on (tested at form st) (λ test st. went (choice place test (truth place false) (truth place true)) st)

-- a && b
abbrev pub both : Place → Core → Place → Walk Core → Walk Core
both place first at second st = on (tested place first st) (λ test st. on (second st) (λ form st. on (tested at form st)
    (λ inner st. went (choice place test (choice place inner (truth place true) (truth place false)) (truth place false)) st)))

-- a || b
abbrev pub either : Place → Core → Place → Walk Core → Walk Core
either place first at second st = on (tested place first st) (λ test st. on (second st) (λ form st. on (tested at form st)
    (λ inner st. went (choice place test (truth place true) (choice place inner (truth place true) (truth place false))) st)))

-- c ? a : b
abbrev pub conditional : Place → Walk Core → Walk Core → Walk Core → Walk Core
conditional place condition first second st =
    on (condition st) (λ form st. on (tested place form st) (λ test st. on (first st) (λ one st. on (second st)
    (λ other st. went (choice place test one other) st))))

-- ---- operators (16.22 Equality to 16.31 Postfix Expressions)

pub data Operation : Type 0 where
  conjunction : Operation
  disjunction : Operation
  equality : Operation
  inequality : Operation
  method : Text → Operation

abbrev pub sign_operation : Sign → Operation
sign_operation s.AndAnd = conjunction
sign_operation s.OrOr = disjunction
sign_operation s.EqualEqual = equality
sign_operation s.NotEqual = inequality
sign_operation sign = method (sign_text sign)

abbrev pub operation : Operator → Operation
operation (o.Sign place sign) = sign_operation sign
operation (o.ShiftRight first second) = method (codes ">>")
operation (o.ShiftRightAssign first second) = method (codes ">>=")

abbrev pub equal : Place → Core → Core → Core
equal place first second = c.at place (c.binary c.equal first second)

-- an operand with an operator and the next operand
abbrev pub binary : Place → Operation → Core → Place → Walk Core → Walk Core
binary place conjunction first at second st = both place first at second st
binary place disjunction first at second st = either place first at second st
binary place equality first at second st = on (second st) (λ form st. went (equal place first form) st)
binary place inequality first at second st = on (second st) (λ form st. negated place place (equal place first form) st)
binary place (method name) first at second st = on (second st) (λ form st. went (send place first name (by_place (form ∷ []))) st)

-- super == b is Let(t, b, If(Equal(t, null), false, Super(Method, ==, t)))
abbrev pub super_equal : Place → Core → Walk Core
super_equal place form st = in_let place form (λ x st. went (choice place (equal place x (null place)) (truth place false)
    (row place (c.super role.Method (codes "==")) (by_place (x ∷ [])))) st) st

-- `super` with an operator and the next operand; the grammar has no `&&` and `||` behind it
abbrev pub super_binary : Place → Operation → Walk Core → Walk Core
super_binary place equality second st = on (second st) (super_equal place)
super_binary place inequality second st = on (second st) (λ form st. on (super_equal place form st) (negated place place))
super_binary place (method name) second st =
    on (second st) (λ form st. went (row place (c.super role.Method name) (by_place (form ∷ []))) st)
super_binary place conjunction second st = second st
super_binary place disjunction second st = second st

-- what stands before an operand
pub data Prefix : Type 0 where
  negation : Prefix
  step : Text → Prefix
  unary : Text → Prefix

abbrev pub sign_prefix : Sign → Prefix
sign_prefix s.Bang = negation
sign_prefix s.PlusPlus = step (codes "+")
sign_prefix s.MinusMinus = step (codes "-")
sign_prefix s.Minus = unary (codes "unary-")
sign_prefix sign = unary (sign_text sign)

abbrev pub prefix : Operator → Prefix
prefix (o.Sign place sign) = sign_prefix sign
prefix (o.ShiftRight first second) = unary (codes ">>")
prefix (o.ShiftRightAssign first second) = unary (codes ">>=")

abbrev pub one : Place → Core
one place = constant place (integer_value (pos 1))

abbrev pub went_one : Place → Walk Core
went_one place st = went (one place) st

-- ++x is x += 1
abbrev pub prefixed : Prefix → Place → Place → Walk Core → Walk Reference → Walk Core
prefixed negation place at form reference st = on (form st) (negated place at)
prefixed (step name) place at form reference st = on (reference st) (compound place name (went_one place))
prefixed (unary name) place at form reference st = on (form st) (λ form st. went (send place form name (by_place [])) st)

abbrev pub prefix_name : Prefix → Text
prefix_name negation = codes "!"
prefix_name (step name) = name
prefix_name (unary name) = name

-- -super and ~super
abbrev pub super_prefixed : Place → Text → Core
super_prefixed place name = row place (c.super role.Method name) (by_place [])

abbrev pub prefixed_on : Option Place → Prefix → Place → Place → Walk Core → Walk Reference → Walk Core
prefixed_on None before place at form reference st = prefixed before place at form reference st
prefixed_on (Some word) before place at form reference st = with_instance word (went (super_prefixed place (prefix_name before))) st

-- x++
abbrev pub postfixed : Option Operator → Place → Reference → Walk Core
postfixed None place reference st = read place reference st
postfixed (Some operator) place reference st = stepped place (prefix_name (prefix operator)) (one place) reference st

-- the word where an operand is `super` alone
abbrev pub super_of_primary : t.Primary → Option Place
super_of_primary (t.bare_super word) = Some word
super_of_primary other = None

abbrev pub super_of : t.Operand → Option Place
super_of (t.primary inner) = super_of_primary inner
super_of other = None

-- a row of operators behind its first operand
abbrev pub chained : Option Place → Walk Core → (Core → Walk Core) → (Place → Walk Core) → Walk Core
chained None base more behind_super st = on (base st) more
chained (Some word) base more behind_super st = behind_super word st

-- ---- assignment (16.19 Assignment)

abbrev pub sign_compound : Sign → Option Text
sign_compound s.PlusAssign = Some (codes "+")
sign_compound s.MinusAssign = Some (codes "-")
sign_compound s.StarAssign = Some (codes "*")
sign_compound s.SlashAssign = Some (codes "/")
sign_compound s.TildeSlashAssign = Some (codes "~/")
sign_compound s.PercentAssign = Some (codes "%")
sign_compound s.AmpersandAssign = Some (codes "&")
sign_compound s.BarAssign = Some (codes "|")
sign_compound s.CaretAssign = Some (codes "^")
sign_compound s.ShiftLeftAssign = Some (codes "<<")
sign_compound sign = None

-- the operator of a compound assignment
abbrev pub compound_operator : Operator → Option Text
compound_operator (o.Sign place sign) = sign_compound sign
compound_operator (o.ShiftRight first second) = None
compound_operator (o.ShiftRightAssign first second) = Some (codes ">>")

-- x = v or x op= v, v beginning at its place
abbrev pub assigning : Option Text → Place → Place → Walk Core → Reference → Walk Core
assigning None place at value reference st = assigned place at value reference st
assigning (Some operator) place at value reference st = compound place operator value reference st

abbrev pub option_compound : Option Operator → Option Text
option_compound None = None
option_compound (Some operator) = compound_operator operator

-- a[i], and a call of what stands before
abbrev pub indexed : Walk Core → Core → Walk Reference
indexed index form st = on (index st) (λ at st. went (item form at) st)

abbrev pub call_of : Place → Walk Arguments → Reference → Walk Reference
call_of place arguments target st = on (arguments st) (λ all st. on (called place target all st) (λ form st. went (evaluated form) st))

-- ---- cascades (16.17.2 Cascaded Invocations)

abbrev pub has_cascades : t.Cascades → Bool
has_cascades t.no_cascades = false
has_cascades (t.cascade dots more value rest) = true

-- Let(t, e, Block(sections, t))
abbrev pub cascaded : Bool → Place → (Core → Walk (List Core)) → Core → Walk Core
cascaded false place sections form st = went form st
cascaded true place sections form st =
    in_let place form (λ x st. on (sections x st) (λ forms st. went (block place (forms ++ x ∷ [])) st)) st

-- ---- type tests (16.34 Type Test, 16.35 Type Cast)

-- Block(e, an error) where the type is malformed
abbrev pub malformed_or : Place → Typed → Core → (Ty → Core) → Core
malformed_or place (well_formed of) form made = made of
malformed_or place (malformed name) form made = raised_behind place (form ∷ []) MalformedTypeError name false

abbrev pub is_form : Place → Typed → Core → Core
is_form place type_node form = malformed_or place type_node form (λ of. c.at place (c.is_type form of))

-- e is T, and e is! T
abbrev pub type_tested : Place → Option Place → Typed → Core → Walk Core
type_tested place None type_node form st = went (is_form place type_node form) st
type_tested place (Some bang) type_node form st = negated place place (is_form place type_node form) st

-- e as T
abbrev pub cast : Place → Typed → Core → Core
cast place type_node form = malformed_or place type_node form (λ of. c.at place (c.as_type form of))

-- ---- lists and maps (16.7 Lists, 16.8 Maps)

-- what an element, a key or a value is asked for: erasure keeps the type
abbrev pub asked_at : ℕ → List Ty → Asked
asked_at n [] = unasked
asked_at zero (of ∷ more) = record { of = Some of; annotated = false }
asked_at (suc n) (of ∷ more) = asked_at n more

abbrev pub element : Asked → Place → Walk Core → Walk Core
element asked at form st = on (form st) (checked kind.Element at asked)

abbrev pub list_form : Place → List Ty → List Core → Core
list_form place types items = c.at place (c.list (fitting 1 types) (c.cores items))

abbrev pub constructor_number : m.Made → ℕ
constructor_number (m.generative n) = n
constructor_number (m.factory n) = n
constructor_number m.no_constructor = 0

-- a new Map with the type arguments
abbrev pub new_map : Place → List Ty → State → Core
new_map place types st = c.at place (c.new st.tables.map_class
    (constructor_number (st.tables.constructor st.tables.map_class [])) (fitting 2 types) c.no_cores [])

abbrev pub put : Place → Core → Core → Core → Core
put place map key entry = send place map (codes "[]=") (by_place (key ∷ entry ∷ []))

-- Let(m, new Map, Block(m[k] = v .., m))
abbrev pub map_form : Place → List Ty → (Core → Walk (List Core)) → Walk Core
map_form place types entries st =
    in_let place (new_map place types st) (λ x st. on (entries x st) (λ forms st. went (block place (forms ++ x ∷ [])) st)) st

-- ---- new objects (16.12 Instance Creation)

-- The type and the constructor's id: in `new A.b()` b is a constructor unless A is a prefix.
pub record Creating : Type 0 where
  pub node : y.TypeNode
  pub id : Option PlacedName

abbrev pub creating_as : Meaning → y.TypeNode → y.TypeNode → PlacedName → Creating
creating_as m.prefix node class_node id = record { node = node; id = None }
creating_as other node class_node id = record { node = class_node; id = Some id }

abbrev pub creating : State → y.TypeNode → Option DotName → Creating
creating st (y.named_type name (Some dot) y.no_types) None = creating_as (meaning_of st (word_of name).text)
    (y.named_type name (Some dot) y.no_types) (y.named_type name None y.no_types) (word_of dot.name)
creating st node constructor = record { node = node; id = option_word constructor }

-- the last id of the type's name
abbrev pub type_name : State → y.TypeNode → Text
type_name st (y.dynamic_type place) = codes "dynamic"
type_name st (y.named_type name dot types) = own_name (last_of (word_of name) (option_word dot)) st

abbrev pub id_text : Option PlacedName → State → Text
id_text None st = []
id_text (Some id) st = own_name id st

-- what an error for a missing constructor names
abbrev pub missing_name : Option PlacedName → Text → State → Text
missing_name None name st = name
missing_name (Some id) name st = own_name id st

-- a type whose arguments are tested against the bounds of its class; erasure keeps it
abbrev pub bound_if : Bool → Place → Ty → Core → Walk Core
bound_if false place of form st = went form st
bound_if true place of form st = checked kind.Bound place (record { of = Some of; annotated = false }) form st

abbrev pub new_form : Place → ℕ → ℕ → List Ty → Arguments → Walk Core
new_form place n constructor types arguments st = bound_if (st.tables.is_bounded n) place (class n (tys types))
    (c.at place (c.new n constructor types (c.cores arguments.forms) arguments.names)) st

abbrev pub created_by : m.Made → Place → ℕ → List Ty → Text → Arguments → Walk Core
created_by (m.generative k) place n types missing arguments st = new_form place n k types arguments st
created_by (m.factory k) place n types missing arguments st = new_form place n k types arguments st
created_by m.no_constructor place n types missing arguments st =
    went (raised_behind place arguments.forms NoSuchMethodError missing false) st

abbrev pub listed : TysOf Text → List Ty
listed nil = []
listed (cons of more) = of ∷ listed more

abbrev pub no_class : Place → Text → Arguments → Core
no_class place name arguments = raised_behind place arguments.forms MalformedTypeError name false

-- new T.id(arguments)
abbrev pub created : Place → Typed → Text → Option PlacedName → Arguments → Walk Core
created place (malformed name) of id arguments st = went (no_class place name arguments) st
created place (well_formed (class n types)) of id arguments st =
    created_by (st.tables.constructor n (id_text id st)) place n (listed types) (missing_name id of st) arguments st
created place (well_formed other) of id arguments st = went (no_class place of arguments) st

abbrev pub is_constant : Creation → Bool
is_constant (n.New place) = false
is_constant (n.Const place) = true

-- Constants are met; what they are is left open here.
abbrev pub meeting_constant : Bool → State → State
meeting_constant false st = st
meeting_constant true st = record st { has_constants = true }
