-- When a program in the core language is one that a source can have.
use Rattle.std.specs.Prelude.{◌≡◌, ◌≢◌, ℕ, suc, ◌+◌, ◌<◌, ◌≤◌, List, [], ◌∷◌, length, map, All, Option, Some, None, Bool, true, false, slice_get, IsTrue, nat_eq, ◌↔◌}
use Rattle.std.specs.List.{list_any}
use Rattle.std.specs.List.Sorted.{IsStrictlyIncreasing}
use Rattle.dart_base.specs.declared.place.Place.{Place}
use Rattle.dart_ir.specs.declared.class.Classes.{Classes}
use Rattle.dart_ir.specs.declared.class.ClassInfo.{ClassInfo}
use Rattle.dart_ir.specs.declared.value.Value.{Value}
use Rattle.dart_ir.specs.declared.value.Value.TheVariants as val
use Rattle.dart_ir.specs.Ty.{Ty, class as class_ty, of_list}
use Rattle.dart_ir.specs.Classes.{class_at, parameter_count, IsFormed, AreFormed, ArePlain}
use Rattle.dart_ir.specs.Classes as table
use Rattle.dart_ir.specs.Object.{HeapObject, instance}
use Rattle.core_program.specs.declared.program.CoreProgram.{CoreProgram}
use Rattle.core_program.specs.declared.program.FunctionKind.{FunctionKind}
use Rattle.core_program.specs.declared.program.FunctionKind.TheVariants.{Plain, Inner, Generative, Factory, Absent}
use Rattle.core_program.specs.Core.{Core, Form, Cores, Part, Handler, Handlers, Cases}
use Rattle.core_program.specs.Core as c
use Rattle.core_program.specs.Program.{Class, Member, Parameter, Function, Static, Site, Program}
use Rattle.core_program.specs.ProgramView.{program}
use Rattle.core_program.specs.Captured.{nodes, part_nodes, form_of, any_form, declares, names as names_var, makes, is_parameter, function_captures, Declares, CapturesWithin, ListCaptures}
use Rattle.core_program.specs.Jumps.{PartLands}

-- ---- what a body stands in

-- The program and its table of classes, how many names there are, the class whose type parameters and `this` may stand
-- there, and how many variables are numbered.
pub record Around : Type 0 where
  pub program : Program ℕ
  pub classes : Classes
  pub names : ℕ
  pub class : Option ℕ
  pub vars : ℕ

abbrev pub type_parameters : Classes → Option ℕ → ℕ
type_parameters k None = 0
type_parameters k (Some n) = parameter_count (class_at k n)

-- a type that may stand there
abbrev pub IsType : Around → Ty → Type 0
IsType a t = IsFormed a.classes (type_parameters a.classes a.class) t

abbrev pub AreTypes : Around → List Ty → Type 0
AreTypes a ts = AreFormed a.classes (type_parameters a.classes a.class) (of_list ts)

abbrev pub IsOptionalType : Around → Option Ty → Type 0
IsOptionalType a None = Unit {0}
IsOptionalType a (Some t) = IsType a t

-- ---- functions that forms name

-- A free function: static or of a library, so no type parameter stands in it, and it names no variable declared outside.
abbrev pub IsFree : Option (Function ℕ) → Type 0
IsFree None = ⊥
IsFree (Some f) = (f.kind ≡ Plain) × (f.class ≡ None) × (f.captures ≡ [])

-- a function literal or local function of the same class, whose variables are numbered with those around
abbrev pub StandsIn : Around → Option (Function ℕ) → Type 0
StandsIn a None = ⊥
StandsIn a (Some f) = (f.kind ≡ Inner) × (f.class ≡ a.class) × (f.vars ≤ a.vars)

abbrev pub IsGenerative : Option (Function ℕ) → Type 0
IsGenerative None = ⊥
IsGenerative (Some f) = f.kind ≡ Generative

-- a constructor or factory of class k
abbrev pub MakesInstance : ℕ → Option (Function ℕ) → Type 0
MakesInstance k None = ⊥
MakesInstance k (Some f) = ((f.kind ≢ Plain) × (f.kind ≢ Inner) × (f.kind ≢ Absent)) × (f.class ≡ Some k)

-- ---- values and names

abbrev pub IsValue : Program ℕ → Value → Type 0
IsValue p (val.Literal n) = n < length p.literals
IsValue p (val.Code f) = IsFree (slice_get p.functions f.0)
IsValue p (val.At r) = r.0 < length p.constants
IsValue p constant = Unit {0}

abbrev pub IsOptionalValue : Program ℕ → Option Value → Type 0
IsOptionalValue p None = Unit {0}
IsOptionalValue p (Some v) = IsValue p v

abbrev pub IsOptionalVar : Around → Option ℕ → Type 0
IsOptionalVar a None = Unit {0}
IsOptionalVar a (Some x) = x < a.vars

abbrev pub IsPlace : Program ℕ → Place → Type 0
IsPlace p place = place.unit < length p.units

abbrev pub fields_of : Option ClassInfo → ℕ
fields_of None = 0
fields_of (Some i) = i.fields

abbrev pub field_count : Around → Option ℕ → ℕ
field_count a None = 0
field_count a (Some n) = fields_of (class_at a.classes n)

-- a site that is there, whose type may stand where the form stands
abbrev pub IsSiteThere : Around → Option (Site ℕ) → Type 0
IsSiteThere a None = ⊥
IsSiteThere a (Some site) = IsOptionalType a site.required

-- ---- a form by itself, without those in it

abbrev pub operand_count : Cores ℕ → ℕ
operand_count c.no_cores = 0
operand_count (c.core_more x xs) = suc (operand_count xs)

-- The names are names, and so many operands besides the first ones are there.
abbrev pub AreArguments : Around → ℕ → Cores ℕ → List ℕ → Type 0
AreArguments a skipped operands ns = (skipped + length ns ≤ operand_count operands) × All (λ n. n < a.names) ns

abbrev pub IsLeaf : Around → c.Leaf ℕ → Type 0
IsLeaf a (c.constant v) = IsValue a.program v
IsLeaf a (c.read x) = x < a.vars
IsLeaf a (c.static_read d) = d < length a.program.statics
IsLeaf a (c.field i) = i < field_count a a.class
IsLeaf a (c.closure f) = StandsIn a (slice_get a.program.functions f)
IsLeaf a (c.raise thrown n is_setter) = n < a.names
IsLeaf a leaf = Unit {0}

abbrev pub IsUnary : Around → c.Unary ℕ → Type 0
IsUnary a (c.var x) = x < a.vars
IsUnary a (c.write x) = x < a.vars
IsUnary a (c.static_write d) = d < length a.program.statics
IsUnary a (c.field_write i) = i < field_count a a.class
IsUnary a (c.get n) = n < a.names
IsUnary a (c.check s) = IsSiteThere a (slice_get a.program.sites s)
IsUnary a c.throw = Unit {0}

abbrev pub IsBinary : Around → c.Binary ℕ → Type 0
IsBinary a c.equal = Unit {0}
IsBinary a (c.set n) = n < a.names

-- a call with arguments
abbrev pub IsRow : Around → c.Job ℕ → Cores ℕ → List ℕ → Type 0
IsRow a (c.send n) operands ns = (n < a.names) × AreArguments a 1 operands ns
IsRow a (c.super role n) operands ns = (n < a.names) × AreArguments a 0 operands ns
IsRow a (c.call f) operands ns = IsFree (slice_get a.program.functions f) × AreArguments a 0 operands ns
IsRow a c.apply operands ns = AreArguments a 1 operands ns
IsRow a (c.super_new f) operands ns = IsGenerative (slice_get a.program.functions f) × AreArguments a 0 operands ns
IsRow a c.join operands ns = ns ≡ []
IsRow a (c.native native) operands ns = ns ≡ []

abbrev pub IsTest : Around → c.Test ℕ → Type 0
IsTest a (c.on t) = IsType a t
IsTest a test = Unit {0}

abbrev pub IsHandler : Around → Handler ℕ → Type 0
IsHandler a (c.handler test exception trace body) = IsTest a test × IsOptionalVar a exception × IsOptionalVar a trace

abbrev pub AreHandlers : Around → Handlers ℕ → Type 0
AreHandlers a c.no_handlers = Unit {0}
AreHandlers a (c.handler_more x xs) = IsHandler a x × AreHandlers a xs

abbrev pub AreCases : Around → Cases ℕ → Type 0
AreCases a c.no_cases = Unit {0}
AreCases a (c.case_more (c.case v body) xs) = IsOptionalValue a.program v × AreCases a xs

abbrev pub IsForm : Around → Form ℕ → Type 0
IsForm a (c.leaf x) = IsLeaf a x
IsForm a (c.type_literal t) = IsType a t
IsForm a (c.unary x operand) = IsUnary a x
IsForm a (c.binary x first second) = IsBinary a x
IsForm a (c.row x operands ns) = IsRow a x operands ns
IsForm a (c.let_in x value body) = x < a.vars
IsForm a (c.new k f ts operands ns) =
    IsType a (class_ty k (of_list ts)) × MakesInstance k (slice_get a.program.functions f) × AreArguments a 0 operands ns
IsForm a (c.list ts items) = (length ts ≡ 1) × AreTypes a ts
IsForm a (c.is_type value t) = IsType a t
IsForm a (c.as_type value t) = IsType a t
IsForm a (c.loop n copies condition update body) = All (λ x. x < a.vars) copies
IsForm a (c.try body handlers last) = AreHandlers a handlers
IsForm a (c.switch n value cases) = AreCases a cases
IsForm a form = Unit {0}

abbrev pub IsNode : Around → Core ℕ → Type 0
IsNode a (c.at place form) = IsPlace a.program place × IsForm a form

-- Every form in the body may stand there, and each jump stands inside its target.
pub record IsBody (a : Around) (body : Part ℕ) : Type 0 where
  pub forms : All (IsNode a) (part_nodes body)
  pub jumps : PartLands [] body

-- ---- functions, static variables, sites and constants

abbrev pub IsParameter : Around → Parameter ℕ → Type 0
IsParameter a q =
    (q.var < a.vars) × (q.name < a.names) × IsValue a.program q.default × IsSiteThere a (slice_get a.program.sites q.site)

abbrev pub around : Program ℕ → Classes → ℕ → Option ℕ → ℕ → Around
around p k names class vars = record { program = p; classes = k; names = names; class = class; vars = vars }

-- what holds of function number f
pub record IsValidFunction (p : Program ℕ) (k : Classes) (names f : ℕ) (i : Function ℕ) : Type 0 where
  pub name : i.name < names
  pub signature : IsFormed k (type_parameters k i.class) i.signature
  pub parameters : All (IsParameter (around p k names i.class i.vars)) i.parameters
  pub body : IsBody (around p k names i.class i.vars) i.body
  -- Only a function literal or local function names variables of functions around it.
  pub outermost : i.kind ≢ Inner → i.captures ≡ []
  pub ascending : IsStrictlyIncreasing i.captures × IsStrictlyIncreasing i.cells
  -- It lists the variables that it declares and that a function directly in it takes along.
  pub cells : (x : ℕ) → IsTrue (list_any (nat_eq x) i.cells) ↔ (Declares p.functions f x × CapturesWithin p.functions f x)

-- The initialiser names no variable but its own, and no type parameter stands in it.
pub record IsValidStatic (p : Program ℕ) (k : Classes) (names : ℕ) (i : Static ℕ) : Type 0 where
  pub name : i.name < names
  pub init : IsBody (around p k names None i.vars) i.init
  pub named : (x : ℕ) → IsTrue (any_form (names_var x) i.init) → IsTrue (any_form (declares x) i.init)
  pub taken : (g x : ℕ) → IsTrue (any_form (makes g) i.init) → IsTrue (function_captures x (slice_get p.functions g))
      → IsTrue (any_form (declares x) i.init)
  pub ascending : IsStrictlyIncreasing i.cells
  pub cells : (x : ℕ) → IsTrue (list_any (nat_eq x) i.cells)
      ↔ ((g : ℕ) × (IsTrue (any_form (makes g) i.init) × IsTrue (function_captures x (slice_get p.functions g))))

abbrev pub IsClassNamed : ℕ → Class ℕ → Type 0
IsClassNamed names i = i.name < names

-- a member, whose function stands in a class
abbrev pub IsMemberNamed : Program ℕ → ℕ → Member ℕ → Type 0
IsMemberNamed p names i = (i.name < names) × IsPlace p i.place × (i.function < length p.functions)

-- A constant is an instance: as many type arguments as its class has parameters, none of them a parameter, as many
-- values as the class has fields, and the objects that these name are constants.
abbrev pub IsConstant : Program ℕ → Classes → HeapObject → Type 0
IsConstant p k (instance n ts fields) =
    IsFormed k 0 (class_ty n (of_list ts)) × ArePlain (of_list ts) × (length fields ≡ fields_of (class_at k n)) × All (IsValue p) fields
IsConstant p k object = ⊥

-- ---- programs

-- Each number names an entry of its list, and each type has as many arguments as its class has parameters.
pub record IsValid (p : CoreProgram) : Type 0 where
  pub classes : table.IsValid p.classes
  pub class_names : All (IsClassNamed (length p.names)) (program p).classes
  pub members : All (IsMemberNamed (program p) (length p.names)) (program p).members
  pub functions : (f : ℕ) (i : Function ℕ) → slice_get (program p).functions f ≡ Some i
      → IsValidFunction (program p) p.classes (length p.names) f i
  pub captures : ListCaptures (program p).functions
  pub statics : All (IsValidStatic (program p) p.classes (length p.names)) (program p).statics
  pub sites : All (λ (s : Site ℕ). IsPlace (program p) s.place) (program p).sites
  pub constants : All (IsConstant (program p) p.classes) (program p).constants
  pub main : IsFree (slice_get (program p).functions p.main.0)
