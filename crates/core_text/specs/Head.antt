-- What the line of a form says of the form itself.
use Rattle.std.specs.Prelude.{ℕ, List, [], ◌∷◌, ◌++◌, codes, Option, Some, None, Bool, true, false, slice_get}
use Rattle.dart_ir.specs.Ty.{Ty, of_list}
use Rattle.dart_ir.specs.Kind.{site_kind_text}
use Rattle.dart_ir.specs.declared.class.Role.{Role}
use Rattle.dart_ir.specs.declared.class.Role.TheVariants as role
use Rattle.dart_ir.specs.declared.native.NativeId.{NativeId}
use Rattle.dart_ir.specs.declared.kind.ThrowKind.{ThrowKind}
use Rattle.dart_ir.specs.declared.kind.ThrowKind.TheVariants as e
use Rattle.native_name.specs.Name.{class_text, member_text}
use Rattle.core_program.specs.declared.form.Way.{Way}
use Rattle.core_program.specs.declared.form.Way.TheVariants as w
use Rattle.core_program.specs.declared.program.CoreProgram.{CoreProgram}
use Rattle.core_program.specs.declared.program.Site.{Site}
use Rattle.core_program.specs.Core as c
use Rattle.core_program.specs.Program as p
use Rattle.core_program.specs.ProgramView as view
use Rattle.core_text.specs.Line.{after_blank, numbers, place, word}
use Rattle.core_text.specs.Name.{class_name, function, function_name, name, names, owner_name, static}
use Rattle.core_text.specs.Constant.{constant}
use Rattle.core_text.specs.Types.{type_text, arguments}

abbrev pub error_text : ThrowKind → List ℕ
error_text e.Exception = codes "Exception"
error_text e.Error = codes "Error"
error_text e.ArgumentError = codes "ArgumentError"
error_text e.RangeError = codes "RangeError"
error_text e.StateError = codes "StateError"
error_text e.UnsupportedError = codes "UnsupportedError"
error_text e.NoSuchMethodError = codes "NoSuchMethodError"
error_text e.CastError = codes "CastError"
error_text e.TypeError = codes "TypeError"
error_text e.NullThrownError = codes "NullThrownError"
error_text e.FallThroughError = codes "FallThroughError"
error_text e.CyclicInitializationError = codes "CyclicInitializationError"
error_text e.AbstractClassInstantiationError = codes "AbstractClassInstantiationError"
error_text e.MalformedTypeError = codes "MalformedTypeError"
error_text e.FormatException = codes "FormatException"
error_text e.IntegerDivisionByZeroException = codes "IntegerDivisionByZeroException"

abbrev pub setter_sign : Bool → List ℕ
setter_sign true = codes "="
setter_sign false = []

-- an error that is thrown, and its message
abbrev pub raise : ThrowKind → List ℕ → Bool → List ℕ
raise thrown message is_setter = codes "raise " ++ (error_text thrown ++ (word message ++ setter_sign is_setter))

-- a jump and its target
abbrev pub jump : Way → ℕ → List ℕ
jump w.Break target = codes "break" ++ after_blank target
jump w.Continue target = codes "continue" ++ after_blank target
jump (w.Case n) target = codes "continue" ++ (after_blank target ++ (codes " case" ++ after_blank n))

abbrev pub leaf : CoreProgram → c.Leaf ℕ → List ℕ
leaf x (c.constant value) = codes "const " ++ constant x value
leaf x c.this = codes "this"
leaf x (c.read n) = codes "read" ++ after_blank n
leaf x (c.static_read d) = codes "static-read " ++ static x d
leaf x (c.field i) = codes "field" ++ after_blank i
leaf x (c.closure f) = codes "function " ++ function x f
leaf x (c.jump way target) = jump way target
leaf x c.rethrow = codes "rethrow"
leaf x (c.raise thrown n is_setter) = raise thrown (name x n) is_setter

-- a type behind a blank, where there is one
abbrev pub asked : CoreProgram → Option Ty → List ℕ
asked x None = []
asked x (Some of) = codes " " ++ type_text x of

abbrev pub mark : Bool → List ℕ
mark true = codes " annotated"
mark false = []

-- the type that a site asks for, and whether an annotation wrote it
abbrev pub required : CoreProgram → p.Site ℕ → List ℕ
required x site = asked x site.required ++ mark site.annotated

-- the kind of a site, its place, and the type that it asks for
unfoldable pub site_text : CoreProgram → Site → List ℕ
site_text x site = codes " " ++ (site_kind_text site.kind ++ (codes " " ++ (place x site.place ++ required x (view.site site))))

abbrev pub site_in : CoreProgram → Option Site → List ℕ
site_in x None = []
site_in x (Some site) = site_text x site

abbrev pub site : CoreProgram → ℕ → List ℕ
site x n = site_in x (slice_get x.sites.items n)

abbrev pub unary : CoreProgram → c.Unary ℕ → List ℕ
unary x (c.var n) = codes "var" ++ after_blank n
unary x (c.write n) = codes "write" ++ after_blank n
unary x (c.static_write d) = codes "static-write " ++ static x d
unary x (c.field_write i) = codes "field-write" ++ after_blank i
unary x (c.get n) = codes "get " ++ name x n
unary x (c.check n) = codes "check" ++ site x n
unary x c.throw = codes "throw"

abbrev pub binary : CoreProgram → c.Binary ℕ → List ℕ
binary x c.equal = codes "equal"
binary x (c.set n) = codes "set " ++ name x n

abbrev pub role_text : Role → List ℕ
role_text role.Method = codes "method"
role_text role.Getter = codes "getter"
role_text role.Setter = codes "setter"

-- a member of the superclass
abbrev pub super_member : Role → List ℕ → List ℕ
super_member called text = codes "super " ++ (role_text called ++ word text)

abbrev pub native : NativeId → List ℕ
native n = codes "native" ++ (word (class_text n) ++ word (member_text n))

-- a constructor that goes on with `this`
abbrev pub super_new : CoreProgram → ℕ → List ℕ
super_new x f = codes "super-new" ++ (word (owner_name x f) ++ word (function_name x f))

abbrev pub job : CoreProgram → c.Job ℕ → List ℕ
job x (c.send n) = codes "send " ++ name x n
job x (c.super called n) = super_member called (name x n)
job x (c.call f) = codes "call " ++ function x f
job x c.apply = codes "apply"
job x (c.super_new f) = super_new x f
job x c.join = codes "join"
job x (c.native n) = native n

-- the names of the last operands, if any go by name
abbrev pub named : CoreProgram → List ℕ → List ℕ
named x [] = []
named x (first ∷ rest) = codes " named" ++ names x (first ∷ rest)

abbrev pub row : CoreProgram → c.Job ℕ → List ℕ → List ℕ
row x one ns = job x one ++ named x ns

-- the class with its type arguments, and the constructor
abbrev pub new_object : CoreProgram → ℕ → ℕ → List Ty → List ℕ → List ℕ
new_object x k f types ns =
    codes "new " ++ (class_name x k ++ (arguments x (of_list types) ++ (word (function_name x f) ++ named x ns)))

abbrev pub typed : CoreProgram → List ℕ → Ty → List ℕ
typed x text of = text ++ type_text x of

abbrev pub list : CoreProgram → List Ty → List ℕ
list x types = codes "list" ++ arguments x (of_list types)

-- its number as a target, and the variables that are copied
abbrev pub loop : ℕ → List ℕ → List ℕ
loop target copies = (codes "loop" ++ after_blank target) ++ (codes " copies" ++ numbers copies)

abbrev pub head : CoreProgram → c.Form ℕ → List ℕ
head x (c.leaf one) = leaf x one
head x (c.type_literal of) = typed x (codes "type ") of
head x (c.unary one operand) = unary x one
head x (c.binary one first second) = binary x one
head x (c.row one operands ns) = row x one ns
head x (c.let_in n value body) = codes "let" ++ after_blank n
head x (c.block forms) = codes "block"
head x (c.choice condition first second) = codes "if"
head x (c.new k f types operands ns) = new_object x k f types ns
head x (c.list types items) = list x types
head x (c.is_type value of) = typed x (codes "is ") of
head x (c.as_type value of) = typed x (codes "as ") of
head x (c.loop target copies condition update body) = loop target copies
head x (c.return value) = codes "return"
head x (c.try body handled last) = codes "try"
head x (c.switch target value cases) = codes "switch" ++ after_blank target
head x (c.labelled target body) = codes "labelled" ++ after_blank target
