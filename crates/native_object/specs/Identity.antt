-- When two values are the same, and the number that a value shows (ECMA-408, 16.12 Object Identity).
use Rattle.std.specs.Prelude.{ℕ, suc, zero, ◌+◌, ◌*◌, ◌%◌, ◌^◌, List, fold, slice_get, Option, Some, None, Bool, true, false, ◌&&◌, ◌==◌, nat_eq, ℤ, pos}
use Rattle.std.specs.Cmp.Lexicographic.{pointwise}
use Rattle.std.specs.Int.{int_rem_euclid}
use Rattle.dart_ir.specs.declared.value.Value.{Value}
use Rattle.dart_ir.specs.declared.value.Value.TheVariants as v
use Rattle.dart_ir.specs.Integer.{integer_of}
use Rattle.dart_ir.specs.Object.{HeapObject, text, bound, type_value, send_port}
use Rattle.dart_ir.specs.Ty.{Ty, Tys, dynamic, bottom, void, class, parameter, nil, cons}
use Rattle.dart_store.specs.declared.store.Kind.{Kind}
use Rattle.dart_store.specs.declared.store.Kind.TheVariants as kind
use Rattle.dart_store.specs.Heap.{Heap, kind_of, receiver_of, number_at}

-- ---- types

-- a function type is the value of no expression
abbrev mutual
  pub same_type : Ty → Ty → Bool
  same_type dynamic dynamic = true
  same_type bottom bottom = true
  same_type void void = true
  same_type (class c ts) (class d us) = c == d && same_types ts us
  same_type (parameter i) (parameter j) = i == j
  same_type t u = false

  pub same_types : Tys → Tys → Bool
  same_types nil nil = true
  same_types (cons t ts) (cons u us) = same_type t u && same_types ts us
  same_types ts us = false

-- ---- identity

abbrev pub same_bool : Bool → Bool → Bool
same_bool true b = b
same_bool false true = false
same_bool false false = true

-- What of a value tells whether another one is the same.
pub data Identity : Type 0 where
  nothing : Identity
  truth : Bool → Identity
  -- an integer, by its words
  integer : ℕ → ℕ → Identity
  string : List ℕ → Identity
  type : Ty → Identity
  static_function : ℕ → Identity
  object : ℕ → Identity

abbrev pub object_identity : ℕ → Option HeapObject → Identity
object_identity r (Some (text units)) = string units
object_identity r (Some (type_value t)) = type t
object_identity r o = object r

abbrev pub string_identity : Option (List ℕ) → Identity
string_identity (Some units) = string units
string_identity None = nothing

abbrev pub identity : List (List ℕ) → Heap → Value → Identity
identity literals h v.Null = nothing
identity literals h (v.Bool b) = truth b
identity literals h (v.Int high low) = integer high low
identity literals h (v.Literal i) = string_identity (slice_get literals i)
identity literals h (v.Code f) = static_function f.0
identity literals h (v.At r) = object_identity r.0 (slice_get h.objects r.0)

-- strings, integers and types by value, others as objects
abbrev pub same_identity : Identity → Identity → Bool
same_identity nothing nothing = true
same_identity (truth a) (truth b) = same_bool a b
same_identity (integer high low) (integer other_high other_low) = high == other_high && low == other_low
same_identity (string s) (string t) = pointwise nat_eq s t
same_identity (type t) (type u) = same_type t u
same_identity (static_function f) (static_function g) = f == g
same_identity (object r) (object q) = r == q
same_identity a b = false

-- a method that was taken off an object: the receiver and the method
abbrev pub method_of : Kind → Value → Option (Value × ℕ)
method_of (kind.Bound m) receiver = Some (receiver, m.0)
method_of other receiver = None

abbrev pub method_at : Heap → Value → Option (Value × ℕ)
method_at h (v.At r) = method_of (kind_of (slice_get h.objects r.0)) (receiver_of (slice_get h.objects r.0))
method_at h x = None

-- two methods are the same where the receivers and the method are
abbrev pub same_methods : (Value → Value → Bool) → Bool → Option (Value × ℕ) → Option (Value × ℕ) → Bool
same_methods same plain (Some p) (Some q) = p.1 == q.1 && same p.0 q.0
same_methods same plain (Some p) None = plain
same_methods same plain None o = plain

-- A receiver may itself be a method that was taken off an object: fewer than so many are looked through.
abbrev pub same_within : ℕ → List (List ℕ) → Heap → Value → Value → Bool
same_within zero literals h x y = false
same_within (suc n) literals h x y =
    same_methods (same_within n literals h) (same_identity (identity literals h x) (identity literals h y)) (method_at h x) (method_at h y)

-- Each receiver is an older object, so a value has no more of them than its number says.
abbrev pub depth : Value → ℕ
depth (v.At r) = r.0
depth x = 0

abbrev pub identical : List (List ℕ) → Heap → Value → Value → Bool
identical literals h x y = same_within (suc (depth x)) literals h x y

-- ---- the number that a value shows

abbrev pub text_hash : List ℕ → ℕ
text_hash units = fold (λ n u. (31 * n + u) % 2 ^ 30) 0 units

abbrev pub string_hash : Option (List ℕ) → ℕ
string_hash (Some units) = text_hash units
string_hash None = 0

abbrev pub object_hash : Heap → ℕ → Option HeapObject → ℕ
object_hash h r (Some (text units)) = text_hash units
object_hash h r (Some (type_value t)) = 3
object_hash h r (Some (bound receiver m)) = 4
object_hash h r (Some (send_port isolate port)) = port
object_hash h r o = number_at h r

abbrev pub hash : List (List ℕ) → Heap → Value → ℤ
hash literals h v.Null = pos 0
hash literals h (v.Bool true) = pos 1
hash literals h (v.Bool false) = pos 2
hash literals h (v.Int high low) = int_rem_euclid (integer_of high low) (pos (2 ^ 30))
hash literals h (v.Literal i) = pos (string_hash (slice_get literals i))
hash literals h (v.Code f) = pos 5
hash literals h (v.At r) = pos (object_hash h r.0 (slice_get h.objects r.0))
