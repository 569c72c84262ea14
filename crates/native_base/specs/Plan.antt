-- What a native does, and what it leaves.
use Rattle.std.specs.Prelude.{ℕ, List, length, Bool, Option, Some, None, nat_lt, nat_le, if◌then◌else◌, ℤ, pos, negsuc, slice_get}
use Rattle.dart_ir.specs.declared.kind.ThrowKind.{ThrowKind}
use Rattle.dart_ir.specs.declared.native.Answer.{Answer}
use Rattle.dart_ir.specs.declared.native.Answer.TheVariants as a
use Rattle.dart_ir.specs.declared.value.Value.{Value}
use Rattle.dart_ir.specs.declared.value.Value.TheVariants as v
use Rattle.dart_ir.specs.Integer.{integer_value}
use Rattle.dart_ir.specs.Object.{HeapObject, text}
use Rattle.dart_store.specs.Heap.{Heap, with_object}
use Rattle.native_number.specs.Number.{number_of}

-- What a native does where the store has room for it.
pub data Plan : Type 0 where
  -- it answers, and the store stays as it is
  answers : Answer → Plan
  -- it adds an object, which is the answer
  makes : HeapObject → Plan
  -- it leaves this heap, which uses no more units, with this answer, and so many items of a list at another place
  changes : Heap → Answer → ℕ → Plan
  -- the same of a heap that uses more units
  grows : Heap → Answer → ℕ → Plan

-- What a native leaves: an answer and the heap, or nothing where the units don't suffice.
pub data Outcome : Type 0 where
  done : Answer → Heap → Outcome
  full : Outcome

-- the heap with the answer, where the units that it uses are within its limit
abbrev pub within : Heap → Answer → Outcome
within h answer = if nat_le h.used h.limit then done answer h else full

abbrev pub outcome : Heap → Plan → Outcome
outcome h (answers answer) = done answer h
outcome h (makes object) = within (with_object h object) (a.Value (v.At (record { 0 = length h.objects })))
outcome h (changes new answer moved) = done answer new
outcome h (grows new answer moved) = within new answer

-- the units of a text
abbrev pub text_length : HeapObject → ℕ
text_length (text units) = length units
text_length object = 0

-- the text units that it makes and the items that it moves
abbrev pub work : Plan → ℕ
work (answers answer) = 0
work (makes object) = text_length object
work (changes new answer moved) = moved
work (grows new answer moved) = moved

-- ---- plans

abbrev pub throw : ThrowKind → Plan
throw kind = answers (a.Throw kind)

abbrev pub value : Value → Plan
value v = answers (a.Value v)

abbrev pub truth : Bool → Plan
truth b = value (v.Bool b)

abbrev pub number : ℤ → Plan
number n = value (integer_value n)

-- goes on with what is there, and else throws
abbrev pub needs : {A : Type 0} → ThrowKind → Option A → (A → Plan) → Plan
needs kind (Some x) go = go x
needs kind None go = throw kind

-- ---- what natives ask of their arguments

-- the place that a number is among so many, if it is one
abbrev pub place : ℕ → ℤ → Option ℕ
place n (pos i) = if nat_lt i n then Some i else None
place n (negsuc i) = None

-- a number that may be left out
abbrev pub number_or : ℤ → Value → Option ℤ
number_or n v.Null = Some n
number_or n x = number_of x

abbrev pub text_of : Option HeapObject → Option (List ℕ)
text_of (Some (text units)) = Some units
text_of object = None

-- the units of a string: of a literal, or of one that was made at run time
abbrev pub text_at : List (List ℕ) → Heap → Value → Option (List ℕ)
text_at literals h (v.Literal i) = slice_get literals i
text_at literals h (v.At r) = text_of (slice_get h.objects r.0)
text_at literals h x = None
