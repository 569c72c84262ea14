-- What an evaluation goes over, and how a form ends (ECMA-408, 16 Expressions and 17 Statements).
use Rattle.std.specs.Prelude.{ℕ, List, [], ◌∷◌, ◌++◌, Bool, Option}
use Rattle.dart_base.specs.declared.place.Place.{Place}
use Rattle.dart_ir.specs.declared.ending.Line.{Line}
use Rattle.dart_ir.specs.declared.native.Answer.{Answer}
use Rattle.dart_ir.specs.declared.native.NativeId.{NativeId}
use Rattle.dart_ir.specs.declared.kind.ThrowKind.{ThrowKind}
use Rattle.dart_ir.specs.declared.value.Value.{Value}
use Rattle.dart_ir.specs.Object.{HeadTy}
use Rattle.dart_ir.specs.Ty.{Ty}
use Rattle.dart_store.specs.Heap.{Heap}
use Rattle.core_program.specs.declared.form.Way.{Way}
use Rattle.core_program.specs.Program.{Program}

-- ---- what is there at a moment

-- what was thrown, and the place of the form that threw it first
pub record Thrown : Type 0 where
  pub value : Value
  pub place : Place

-- whose body is at work: a function's, or the initialiser of a static variable, by their numbers
pub data Source : Type 0 where
  a_function : ℕ → Source
  an_initialiser : ℕ → Source

-- A body at work. A variable that a function inside names has its cell in its slot; the closure has those of variables outside.
pub record Activation : Type 0 where
  pub source : Source
  -- the class at whose declaration a member was found
  pub owner : ℕ
  pub slots : List Value
  pub this : Value
  pub closure : Value
  -- the type arguments of the `new` that a factory answers
  pub types : List Ty
  -- what the handler at work has caught
  pub caught : Option Thrown

-- a port of the isolate, and the function that takes its messages
pub record Port : Type 0 where
  pub is_open : Bool
  pub handler : Option Value

-- what others see of a turn: a line that is printed; a message to a port of an isolate, and a function that a new isolate starts
-- with a message, each the value as the heap had it then
pub data Note : Type 0 where
  printed : List ℕ → Note
  sent : ℕ → ℕ → Value → Heap → Note
  spawned : ℕ → Value → Heap → Note

-- What happened, with the steps left and the units used then.
pub data Event : Type 0 where
  told : Note → ℕ → ℕ → Event
  -- the value of this head came to the site, where these type arguments were in scope
  tested : ℕ → HeadTy → List Ty → ℕ → ℕ → Event
  -- the failed check of the site was reported
  reported : ℕ → ℕ → ℕ → Event

pub record State : Type 0 where
  -- the steps left
  pub left : ℕ
  pub activation : Activation
  pub heap : Heap
  pub ports : List Port
  pub output : List Line
  pub events : List Event

-- ---- how a form ends

-- the limits that end a turn, and a check that ends it
pub data Ending : Type 0 where
  out_of_steps : Ending
  out_of_objects : Ending
  out_of_depth : Ending
  integer_limit : Ending
  needs_double : Ending
  type_limit : Ending
  check_failed : ℕ → Ending

pub data Completion : Type 0 where
  answer : Value → Completion
  -- out of the target of the number, or on with it
  jumps : Way → ℕ → Completion
  returns : Value → Completion
  throws : Value → Place → Completion
  ended : Ending → Completion

pub data Outcome : Type 0 where
  ends : Completion → State → Outcome

-- what a form does, from each state
abbrev pub Meaning : Type 0
Meaning = State → Outcome

-- ---- what stands around it

-- the numbers of the prelude's classes and names
pub record Known : Type 0 where
  pub null_class : ℕ
  pub bool_class : ℕ
  pub int_class : ℕ
  pub string_class : ℕ
  pub list_class : ℕ
  pub type_class : ℕ
  pub invocation_class : ℕ
  pub trace_class : ℕ
  pub send_port_class : ℕ
  pub receive_port_class : ℕ
  pub error_class : ThrowKind → ℕ
  -- the names `call`, `==` and `noSuchMethod`
  pub call : ℕ
  pub equals : ℕ
  pub no_such_method : ℕ

-- what a native leaves: an answer and the heap, or nothing where the units don't suffice
pub data NativeEnd : Type 0 where
  gives : Answer → Heap → NativeEnd
  full : NativeEnd

-- What natives do with arguments and a heap: the steps that each takes, and for type arguments what it leaves.
pub record Natives : Type 0 where
  pub steps : NativeId → List Value → Heap → ℕ
  pub call : NativeId → List Ty → List Value → Heap → NativeEnd

-- The program without what annotations ask for, and what evaluation asks of other parts of the language.
pub record Setting : Type 0 where
  pub program : Program ℕ
  -- the text of each name
  pub names : List (List ℕ)
  pub known : Known
  -- whether the first type is a subtype of the second
  pub is_subtype : Ty → Ty → Bool
  pub natives : Natives
  -- the number of the isolate
  pub isolate : ℕ
  -- what a message costs in units; none where it can't be sent
  pub parcel_cost : Heap → Value → Option ℕ

-- what is given to a call: the values, the last of which go by these names
pub record Given : Type 0 where
  pub values : List Value
  pub names : List ℕ

-- what a body is entered with, beside what is given
pub record Callee : Type 0 where
  pub this : Value
  pub owner : ℕ
  pub closure : Value
  pub types : List Ty

-- what follows a value of this head that came to the site, where these type arguments were in scope
abbrev pub Reaction : Type 0
Reaction = ℕ → HeadTy → List Ty → Value → Meaning

-- What a form stands in: what follows a value that came to a site; what the body of each function does; and what the initialiser
-- of each static variable does.
pub record World : Type 0 where
  pub setting : Setting
  pub react : Reaction
  pub calls : ℕ → Callee → Given → Meaning
  pub inits : ℕ → Meaning

-- ---- what is read of a state, and what becomes of it

-- what the meaning of a form may look at
pub record Now : Type 0 where
  pub left : ℕ
  pub activation : Activation
  pub heap : Heap
  pub ports : List Port

abbrev pub now : State → Now
now st = record { left = st.left; activation = st.activation; heap = st.heap; ports = st.ports }

-- one event more
abbrev pub with_event : State → (ℕ → ℕ → Event) → State
with_event st event = record st { events = st.events ++ event st.left st.heap.used ∷ [] }

-- one line more
abbrev pub with_line : State → Line → State
with_line st line = record st { output = st.output ++ line ∷ [] }
