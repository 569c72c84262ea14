-- Means of proof, which no definition cites: small programs, and what they do.
use Rattle.std.specs.Prelude.{◌≡◌, ℕ, ◌-◌, nat_eq, List, [], ◌∷◌, Bool, true, false, Option, Some, None, codes, map}
use Rattle.dart_base.specs.declared.place.Place.{Place}
use Rattle.dart_ir.specs.declared.class.Role.TheVariants.{Method}
use Rattle.dart_ir.specs.declared.ending.Line.{Line}
use Rattle.dart_ir.specs.declared.ending.Line.TheVariants.{Printed, Report}
use Rattle.dart_ir.specs.declared.kind.Shape.TheVariants.{Required, Named}
use Rattle.dart_ir.specs.declared.kind.SiteKind.TheVariants.{VarInit}
use Rattle.dart_ir.specs.declared.native.Answer.TheVariants as a
use Rattle.dart_ir.specs.declared.native.NativeId.TheVariants.{Print}
use Rattle.dart_ir.specs.declared.value.Value.{Value}
use Rattle.dart_ir.specs.declared.value.Value.TheVariants.{Null, Literal}
use Rattle.dart_ir.specs.Ty.{Ty, dynamic, class, nil}
use Rattle.dart_store.specs.declared.store.Static.TheVariants.{Unset}
use Rattle.core_program.specs.declared.form.Way.TheVariants as way
use Rattle.core_program.specs.declared.program.FunctionKind.{FunctionKind}
use Rattle.core_program.specs.declared.program.FunctionKind.TheVariants.{Plain, Inner, Generative}
use Rattle.core_program.specs.Core.{Core, Form, Cores, Part, cores}
use Rattle.core_program.specs.Core as c
use Rattle.core_program.specs.Program.{Class, Parameter, Function, Static, Site, Program}
use Rattle.core_program.specs.Stripped as stripped
use Rattle.evaluation.specs.State.{Setting, Natives, gives, out_of_depth, out_of_steps, out_of_objects}
use Rattle.evaluation.specs.Checks.{Checking, OnFailure, lets_pass, reports, world}
use Rattle.evaluation.specs.Prelude.{known}
use Rattle.evaluation.specs.Turn.{main, Isolate, End, returned, uncaught, limit, Turn, turn}

-- ---- programs

abbrev pub place : Place
place = record { unit = 0; line = 1; column = 1 }

abbrev pub at : Form ℕ → Core ℕ
at form = c.at place form

abbrev pub const : Value → Core ℕ
const v = at (c.leaf (c.constant v))

abbrev pub read : ℕ → Core ℕ
read x = at (c.leaf (c.read x))

abbrev pub block : List (Core ℕ) → Core ℕ
block forms = at (c.block (cores forms))

-- what `print` comes to
abbrev pub print : Core ℕ → Core ℕ
print form = at (c.row (c.native Print) (cores (form ∷ [])) [])

abbrev pub unary : c.Unary ℕ → Core ℕ → Core ℕ
unary one operand = at (c.unary one operand)

abbrev pub a_class : ℕ → Option Ty → ℕ → List ℕ → Class ℕ
a_class name superclass fields members = record {
  name = name;
  library = 0;
  place = record { unit = 1; line = 1; column = 1 };
  bounds = [];
  superclass = superclass;
  interfaces = [];
  is_abstract = false;
  declaration = None;
  fields = fields;
  members = members;
  callable = false;
}

abbrev pub of_object : ℕ → Class ℕ
of_object name = a_class name (Some (class 0 nil)) 0 []

abbrev pub a_function : FunctionKind → Option ℕ → List (Parameter ℕ) → ℕ → List ℕ → List ℕ → Core ℕ → Function ℕ
a_function kind owner parameters vars cells captures body = record {
  name = 0;
  kind = kind;
  class = owner;
  parameters = parameters;
  vars = vars;
  cells = cells;
  captures = captures;
  signature = dynamic;
  body = c.given body;
}

abbrev pub names : List (List ℕ)
names = codes "Object" ∷ codes "Null" ∷ codes "String" ∷ codes "Invocation" ∷ codes "Error" ∷ codes "TypeError" ∷ codes "A"
    ∷ codes "noSuchMethod" ∷ codes "foo" ∷ codes "NoSuchMethodError" ∷ codes "CyclicInitializationError" ∷ codes "FallThroughError" ∷ []

abbrev pub required : ℕ → Parameter ℕ
required x = record { var = x; name = 8; shape = Required; default = Null; site = 0 }

abbrev pub named : ℕ → ℕ → Value → Parameter ℕ
named x name default = record { var = x; name = name; shape = Named; default = default; site = 0 }

-- A program of these functions, of which the first is `main`, static variables and sites, with a class A that has a method
-- `noSuchMethod`, function 1.
abbrev pub a_program : List (Function ℕ) → List (Static ℕ) → List (Site ℕ) → Program ℕ
a_program functions statics sites = record {
  units = [];
  classes = a_class 0 None 0 [] ∷ of_object 1 ∷ of_object 2 ∷ a_class 3 (Some (class 0 nil)) 5 [] ∷ a_class 4 (Some (class 0 nil)) 1 []
      ∷ a_class 5 (Some (class 4 nil)) 1 [] ∷ a_class 6 (Some (class 0 nil)) 0 (0 ∷ []) ∷ a_class 9 (Some (class 4 nil)) 1 []
      ∷ a_class 10 (Some (class 4 nil)) 1 [] ∷ a_class 11 (Some (class 4 nil)) 1 [] ∷ [];
  members = record { name = 7; role = Method; owner = 6; function = 1; signature = dynamic; place = place; has_body = true } ∷ [];
  function_class = 0;
  functions = functions;
  statics = statics;
  sites = sites;
  literals = codes "a" ∷ codes "b" ∷ codes "c" ∷ [];
  constants = [];
  main = 0;
}

abbrev pub natives : Natives
natives = record { steps = λ id vs h. 1; call = λ id ts vs h. gives (a.Value Null) h }

abbrev pub same_class : Ty → Ty → Bool
same_class (class k ts) (class d us) = nat_eq k d
same_class t u = false

abbrev pub a_setting : Program ℕ → Setting
a_setting p = record {
  program = stripped.program p;
  names = names;
  known = known p names;
  is_subtype = same_class;
  natives = natives;
  isolate = 0;
  parcel_cost = λ h v. None;
}

abbrev pub checking : Program ℕ → Checking
checking p = record { program = p; bool_class = 99; is_subtype = same_class }

abbrev pub isolate : ℕ → ℕ → Program ℕ → Isolate
isolate steps units p = record {
  left = steps;
  heap = record { objects = []; statics = map (λ _. Unset) p.statics; used = 0; limit = units };
  ports = [];
}

-- a turn with so many steps and units, and calls that nest ten deep
abbrev pub run : OnFailure → ℕ → ℕ → Program ℕ → Turn
run how steps units p = turn (world (checking p) (a_setting p) how 10) (main 0) (isolate steps units p)

-- what it writes, how it ends, the steps left and the units used
pub record Result : Type 0 where
  pub output : List Line
  pub end : End
  pub left : ℕ
  pub used : ℕ

abbrev pub result : Turn → Result
result t = record { output = t.output; end = t.end; left = t.after.left; used = t.after.heap.used }

abbrev pub does : Program ℕ → List Line → End → ℕ → ℕ → Type 0
does p output end steps units =
    result (run lets_pass 100 50 p) ≡ record { output = output; end = end; left = 100 - steps; used = units }

abbrev pub line : List ℕ → Line
line units = Printed units

abbrev pub main_of : ℕ → List ℕ → List (Core ℕ) → Function ℕ
main_of vars cells forms = a_function Plain None [] vars cells [] (block forms)

-- ---- main() { print('a'); }

abbrev pub printing : Program ℕ
printing = a_program (main_of 0 [] (print (const (Literal 0)) ∷ []) ∷ []) [] []

abbrev pub PrintsOneLine : Type 0
PrintsOneLine = does printing (line (codes "a") ∷ []) returned 4 0

-- ---- main() { var x = 'a'; f() { x = 'b'; } f(); print(x); }

abbrev pub closing : Program ℕ
closing = a_program
    (main_of 2 (0 ∷ []) (unary (c.var 0) (const (Literal 0)) ∷ unary (c.var 1) (at (c.leaf (c.closure 1)))
    ∷ at (c.row c.apply (cores (read 1 ∷ [])) []) ∷ print (read 0) ∷ [])
    ∷ a_function Inner None [] 2 [] (0 ∷ []) (block (unary (c.write 0) (const (Literal 1)) ∷ [])) ∷ []) [] []

abbrev pub ClosureSharesVariable : Type 0
ClosureSharesVariable = does closing (line (codes "b") ∷ []) returned 13 3

-- ---- main() { try { throw 'a'; } catch (e) { print(e); } finally { print('c'); } }

abbrev pub catching : Program ℕ
catching = a_program
    (main_of 1 [] (at (c.try (block (unary c.throw (const (Literal 0)) ∷ []))
    (c.handler_more (c.handler c.everything (Some 0) None (block (print (read 0) ∷ []))) c.no_handlers)
    (c.given (block (print (const (Literal 2)) ∷ [])))) ∷ []) ∷ []) [] []

abbrev pub CatchesAndGoesOn : Type 0
CatchesAndGoesOn = does catching (line (codes "a") ∷ line (codes "c") ∷ []) returned 12 0

-- ---- throw 'b', which nothing catches

abbrev pub throwing : Program ℕ
throwing = a_program (main_of 0 [] (unary c.throw (const (Literal 1)) ∷ []) ∷ []) [] []

abbrev pub EndsUncaught : Type 0
EndsUncaught = does throwing [] (uncaught place (codes "b")) 4 0

-- ---- var s = f(); f() { print('a'); return 'b'; } main() { print(s); print(s); }

abbrev pub starting : Program ℕ
starting = a_program
    (main_of 0 [] (print (at (c.leaf (c.static_read 0))) ∷ print (at (c.leaf (c.static_read 0))) ∷ [])
    ∷ a_function Plain None [] 0 [] [] (block (print (const (Literal 0)) ∷ at (c.return (c.given (const (Literal 1)))) ∷ [])) ∷ [])
    (record { name = 0; vars = 0; cells = []; init = c.given (at (c.row (c.call 1) c.no_cores [])); is_final = false } ∷ []) []

abbrev pub InitialisesOnce : Type 0
InitialisesOnce = does starting (line (codes "a") ∷ line (codes "b") ∷ line (codes "b") ∷ []) returned 12 0

-- ---- class A { noSuchMethod(i) { print('c'); } } main() { new A().foo('a'); }

abbrev pub missing : Program ℕ
missing = a_program
    (main_of 0 [] (at (c.row (c.send 8) (cores (at (c.new 6 2 [] c.no_cores []) ∷ const (Literal 0) ∷ [])) []) ∷ [])
    ∷ a_function Plain (Some 6) (required 0 ∷ []) 1 [] [] (block (print (const (Literal 2)) ∷ []))
    ∷ a_function Generative (Some 6) [] 0 [] [] (block []) ∷ []) [] []

abbrev pub CallsNoSuchMethod : Type 0
CallsNoSuchMethod = does missing (line (codes "c") ∷ []) returned 10 12

-- ---- the same where noSuchMethod takes two arguments: it is called for in its turn

abbrev pub unfit : Program ℕ
unfit = a_program
    (main_of 0 [] (at (c.row (c.send 8) (cores (at (c.new 6 2 [] c.no_cores []) ∷ const (Literal 0) ∷ [])) []) ∷ [])
    ∷ a_function Plain (Some 6) (required 0 ∷ required 1 ∷ []) 2 [] [] (block (print (const (Literal 2)) ∷ []))
    ∷ a_function Generative (Some 6) [] 0 [] [] (block []) ∷ []) [] []

abbrev pub RunsOutOfObjects : Type 0
RunsOutOfObjects = does unfit [] (limit out_of_objects) 6 50

-- ---- main() { var f; for (var x = 'a'; ; x = 'b') { if (f == null) f = () => x; else break; } print(f()); }

abbrev pub turning : Program ℕ
turning = a_program
    (main_of 2 (0 ∷ []) (unary (c.var 0) (const (Literal 0)) ∷ unary (c.var 1) (const Null)
    ∷ at (c.loop 0 (0 ∷ []) c.missing (c.given (unary (c.write 0) (const (Literal 1))))
    (c.given (block (at (c.choice (at (c.binary c.equal (read 1) (const Null)))
    (c.given (unary (c.write 1) (at (c.leaf (c.closure 1))))) (c.given (at (c.leaf (c.jump way.Break 0))))) ∷ []))))
    ∷ print (at (c.row c.apply (cores (read 1 ∷ [])) [])) ∷ [])
    ∷ a_function Inner None [] 2 [] (0 ∷ []) (at (c.return (c.given (read 0)))) ∷ []) [] []

abbrev pub TurnsHaveVariables : Type 0
TurnsHaveVariables = does turning (line (codes "a") ∷ []) returned 28 4

-- ---- var s = s; main() { print(s); }

abbrev pub circling : Program ℕ
circling = a_program (main_of 0 [] (print (at (c.leaf (c.static_read 0))) ∷ []) ∷ [])
    (record { name = 0; vars = 0; cells = []; init = c.given (at (c.leaf (c.static_read 0))); is_final = false } ∷ []) []

abbrev pub ThrowsOnCycle : Type 0
ThrowsOnCycle = does circling [] (uncaught place (codes "CyclicInitializationError")) 5 2

-- ---- main() { switch ('a') { case 'a': print('a'); case 'b': print('b'); } }

abbrev pub falling : Program ℕ
falling = a_program
    (main_of 0 [] (at (c.switch 0 (const (Literal 0)) (c.case_more (c.case (Some (Literal 0)) (block (print (const (Literal 0)) ∷ [])))
    (c.case_more (c.case (Some (Literal 1)) (block (print (const (Literal 1)) ∷ []))) c.no_cases))) ∷ []) ∷ []) [] []

abbrev pub ThrowsOnFallingThrough : Type 0
ThrowsOnFallingThrough = does falling (line (codes "a") ∷ []) (uncaught place (codes "FallThroughError")) 7 2

-- ---- while (true) {}, and f() => f()

abbrev pub looping : Program ℕ
looping = a_program (main_of 0 [] (at (c.loop 0 [] c.missing c.missing (c.given (block []))) ∷ []) ∷ []) [] []

abbrev pub RunsOutOfSteps : Type 0
RunsOutOfSteps = does looping [] (limit out_of_steps) 100 0

abbrev pub recurring : Program ℕ
recurring = a_program (a_function Plain None [] 0 [] [] (at (c.row (c.call 0) c.no_cores [])) ∷ []) [] []

abbrev pub RunsOutOfDepth : Type 0
RunsOutOfDepth = does recurring [] (limit out_of_depth) 11 0

-- ---- f({x: 'a'}) { print(x); } main() { f(x: 'b'); f(); }

abbrev pub naming : Program ℕ
naming = a_program
    (main_of 0 [] (at (c.row (c.call 1) (cores (const (Literal 1) ∷ [])) (8 ∷ [])) ∷ at (c.row (c.call 1) c.no_cores []) ∷ [])
    ∷ a_function Plain None (named 0 8 (Literal 0) ∷ []) 1 [] [] (block (print (read 0) ∷ [])) ∷ []) [] []

abbrev pub TakesNamedArguments : Type 0
TakesNamedArguments = does naming (line (codes "b") ∷ line (codes "a") ∷ []) returned 13 0

-- ---- A x = 'a'; in checked mode

abbrev pub annotated : Program ℕ
annotated = a_program (main_of 1 [] (unary (c.var 0) (unary (c.check 0) (const (Literal 0))) ∷ print (const (Literal 1)) ∷ []) ∷ []) []
    (record { place = place; kind = VarInit; required = Some (class 6 nil); annotated = true } ∷ [])

abbrev pub PassesInProduction : Type 0
PassesInProduction = does annotated (line (codes "b") ∷ []) returned 7 0

abbrev pub FailsWhenChecked : Type 0
FailsWhenChecked = result (run reports 100 50 annotated) ≡ record {
  output = Report (record { 0 = 0 }) VarInit ∷ [];
  end = uncaught place (codes "TypeError");
  left = 95;
  used = 2;
}
