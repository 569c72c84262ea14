-- What natives do that are not the evaluator's, and those of numbers.
use Rattle.std.proofs.Common.{◌≡◌, ℕ, ◌+◌, ◌-◌, ◌/◌, List, [], ◌∷◌, take, sum_by, refl, ap, ◌∙◌, Bool, true, false, if◌then◌else◌, ℤ, ◌==◌, ◌&&◌, Option, Some, None, slice_get, pos, arith}
use Rattle.std.proofs.lemmas.Option.{none-some, same_Some}
use Rattle.dart_base.specs.declared.place.Place.{Place}
use Rattle.dart_ir.specs.declared.native.Answer.{Answer}
use Rattle.dart_ir.specs.declared.native.Answer.TheVariants as a
use Rattle.dart_ir.specs.declared.native.NativeId.{NativeId}
use Rattle.dart_ir.specs.declared.native.NativeId.TheVariants as n
use Rattle.dart_ir.specs.declared.value.Value.{Value}
use Rattle.dart_ir.specs.declared.value.Value.TheVariants.{Null, Bool as Truth, Int, Literal, Code, At}
use Rattle.dart_ir.specs.declared.kind.ThrowKind.TheVariants.{ArgumentError, RangeError}
use Rattle.dart_ir.specs.declared.number.Ref.{Ref}
use Rattle.dart_ir.specs.Integer.{integer_value}
use Rattle.dart_ir.specs.Object.{HeapObject, text}
use Rattle.dart_ir.specs.Ty.{Ty}
use Rattle.dart_store.specs.declared.store.Kind.TheVariants as kind
use Rattle.dart_store.specs.Heap.{Heap, kind_of, length_of, field_at}
use Rattle.native_base.specs.Plan.{outcome, work, text_at, text_of, needs, value, place}
use Rattle.native_list.specs.List.{fixed_of, of_list, item}
use Rattle.native_number.specs.Number.{is_unary, unary, is_binary, binary, number_of, with_one, with_two, number_native}
use Rattle.dart_native.specs.Native.{argument, arity, is_of_evaluator, or_null, plan_on, plan, units_in}
use Rattle.evaluation.specs.State.{State, answer, gives, ends, Meaning}
use Rattle.evaluation.specs.Sequence.{taken, taking}
use Rattle.evaluation.specs.Externals.{native, native_left, native_call, native_answer, stepped_native}
use Rattle.machine_frame.specs.declared.around.Around.{Around}
use Rattle.machine_frame.specs.Natives.{read_of, end_of, native_steps, native_end}
use Rattle.machine_frame.specs.Outside.{setting_of}
use Rattle.machine_frame.proofs.Steps.{none_below}

free : (next : Meaning) (st : State) → taking 0 next st ≡ next st
free next st = ap (λ b. taken b 0 next st) (none_below st.left) ∙ ap (λ m. next (record st { left = m })) (let e : st.left - 0 ≡ st.left = omega arith in e)

-- ---- those that are not the evaluator's

pub native_does : (around : Around) (at : Place) (id : NativeId) (vs : List Value) (st : State) → is_of_evaluator id ≡ false
    → native (setting_of around) at id vs st
    ≡ stepped_native (setting_of around) id vs (λ st. native_call (setting_of around).natives id st.activation.types vs (native_answer (setting_of around) at) st) st
native_does around at n.Print vs st e = absurd (cc)
native_does around at n.IsolateSpawn vs st e = absurd (cc)
native_does around at n.ReceivePortNew vs st e = absurd (cc)
native_does around at n.ReceivePortSendPort vs st e = absurd (cc)
native_does around at n.ReceivePortListen vs st e = absurd (cc)
native_does around at n.ReceivePortClose vs st e = absurd (cc)
native_does around at n.SendPortSend vs st e = absurd (cc)
native_does around at id vs st e = refl

-- ---- those of numbers

unary_own : (id : NativeId) → is_unary id ≡ true → is_of_evaluator id ≡ false
unary_own n.NumNegate e = refl
unary_own n.IntComplement e = refl
unary_own id e = absurd (cc)

unary_arity : (id : NativeId) → is_unary id ≡ true → arity id ≡ 1
unary_arity n.NumNegate e = refl
unary_arity n.IntComplement e = refl
unary_arity id e = absurd (cc)

unary_plan : (around : Around) (id : NativeId) (ts : List Ty) (h : Heap) (x y z : Value) → is_unary id ≡ true
    → plan_on (read_of around) id ts h x y z ≡ or_null (number_native id x y)
unary_plan around n.NumNegate ts h x y z e = refl
unary_plan around n.IntComplement ts h x y z e = refl
unary_plan around id ts h x y z e = absurd (cc)

binary_own : (id : NativeId) → is_binary id ≡ true → is_of_evaluator id ≡ false
binary_own n.NumAdd e = refl
binary_own n.NumSubtract e = refl
binary_own n.NumMultiply e = refl
binary_own n.NumDivide e = refl
binary_own n.NumTruncatingDivide e = refl
binary_own n.NumModulo e = refl
binary_own n.NumLess e = refl
binary_own n.NumLessEqual e = refl
binary_own n.NumGreater e = refl
binary_own n.NumGreaterEqual e = refl
binary_own n.NumCompareTo e = refl
binary_own n.IntAnd e = refl
binary_own n.IntOr e = refl
binary_own n.IntXor e = refl
binary_own n.IntShiftLeft e = refl
binary_own n.IntShiftRight e = refl
binary_own id e = absurd (cc)

binary_arity : (id : NativeId) → is_binary id ≡ true → arity id ≡ 2
binary_arity n.NumAdd e = refl
binary_arity n.NumSubtract e = refl
binary_arity n.NumMultiply e = refl
binary_arity n.NumDivide e = refl
binary_arity n.NumTruncatingDivide e = refl
binary_arity n.NumModulo e = refl
binary_arity n.NumLess e = refl
binary_arity n.NumLessEqual e = refl
binary_arity n.NumGreater e = refl
binary_arity n.NumGreaterEqual e = refl
binary_arity n.NumCompareTo e = refl
binary_arity n.IntAnd e = refl
binary_arity n.IntOr e = refl
binary_arity n.IntXor e = refl
binary_arity n.IntShiftLeft e = refl
binary_arity n.IntShiftRight e = refl
binary_arity id e = absurd (cc)

binary_plan : (around : Around) (id : NativeId) (ts : List Ty) (h : Heap) (x y z : Value) → is_binary id ≡ true
    → plan_on (read_of around) id ts h x y z ≡ or_null (number_native id x y)
binary_plan around n.NumAdd ts h x y z e = refl
binary_plan around n.NumSubtract ts h x y z e = refl
binary_plan around n.NumMultiply ts h x y z e = refl
binary_plan around n.NumDivide ts h x y z e = refl
binary_plan around n.NumTruncatingDivide ts h x y z e = refl
binary_plan around n.NumModulo ts h x y z e = refl
binary_plan around n.NumLess ts h x y z e = refl
binary_plan around n.NumLessEqual ts h x y z e = refl
binary_plan around n.NumGreater ts h x y z e = refl
binary_plan around n.NumGreaterEqual ts h x y z e = refl
binary_plan around n.NumCompareTo ts h x y z e = refl
binary_plan around n.IntAnd ts h x y z e = refl
binary_plan around n.IntOr ts h x y z e = refl
binary_plan around n.IntXor ts h x y z e = refl
binary_plan around n.IntShiftLeft ts h x y z e = refl
binary_plan around n.IntShiftRight ts h x y z e = refl
binary_plan around id ts h x y z e = absurd (cc)

-- one that answers a value is given numbers
one_number : (f : ℤ → Answer) (x : Option ℤ) (z : Value) → with_one f x ≡ a.Value z → (i : ℤ) × (x ≡ Some i)
one_number f (Some i) z e = (i, refl)
one_number f None z e = absurd (cc)

two_numbers : (f : ℤ → ℤ → Answer) (x y : Option ℤ) (z : Value) → with_two f x y ≡ a.Value z → ((i : ℤ) × (x ≡ Some i)) × ((i : ℤ) × (y ≡ Some i))
two_numbers f (Some i) (Some j) z e = ((i, refl), (j, refl))
two_numbers f (Some i) None z e = absurd (cc)
two_numbers f None y z e = absurd (cc)

-- a number has no units
module _ (around : Around) (h : Heap) where
  abbrev units : Value → ℕ
  units x = units_in (text_at (read_of around).literals h x)

  no_units : (x : Value) (i : ℤ) → number_of x ≡ Some i → units x ≡ 0
  no_units Null i e = refl
  no_units (Truth b) i e = refl
  no_units (Int high low) i e = refl
  no_units (Literal s) i e = absurd (none-some i e)
  no_units (Code f) i e = refl
  no_units (At r) i e = absurd (none-some i e)

  one_unit : (vs : List Value) → units (argument vs 0) ≡ 0 → sum_by units (take 1 vs) ≡ 0
  one_unit [] e = refl
  one_unit (x ∷ vs) e = omega (arith, e)

  two_units : (vs : List Value) → units (argument vs 0) ≡ 0 → units (argument vs 1) ≡ 0 → sum_by units (take 2 vs) ≡ 0
  two_units [] e f = refl
  two_units (x ∷ []) e f = omega (arith, e)
  two_units (x ∷ y ∷ vs) e f = omega (arith, e, f)

  one_step : (id : NativeId) (vs : List Value) (k : ℕ) (r : Answer) → arity id ≡ k → sum_by units (take k vs) ≡ 0
      → ((ts : List Ty) → plan (read_of around) id ts vs h ≡ or_null (Some r)) → native_steps around id vs h ≡ 1
  unfolding native_steps
  one_step id vs k r m u p =
      ap (λ k. 1 + (sum_by units (take k vs) + work (plan (read_of around) id [] vs h)) / 16) m
      ∙ ap (λ s. 1 + (s + work (plan (read_of around) id [] vs h)) / 16) u ∙ ap (λ q. 1 + (0 + work q) / 16) (p [])

  same_heap : (id : NativeId) (ts : List Ty) (vs : List Value) (r : Answer) → plan (read_of around) id ts vs h ≡ or_null (Some r)
      → native_end around id ts vs h ≡ gives r h
  unfolding native_end
  same_heap id ts vs r p = ap (λ q. end_of (outcome h q)) p

module _ (around : Around) (at : Place) (id : NativeId) (vs : List Value) (st : State) (z : Value) where
  -- with one step, and the heap as it is
  answers : is_of_evaluator id ≡ false → native_steps around id vs st.heap ≡ 1 → native_end around id st.activation.types vs st.heap ≡ gives (a.Value z) st.heap
      → native (setting_of around) at id vs st ≡ ends (answer z) st
  answers own m e =
      let go = native_answer (setting_of around) at in
      native_does around at id vs st own
      ∙ ap (λ k. taking (k - 1) (λ st. native_call (setting_of around).natives id st.activation.types vs go st) st) m
      ∙ free (λ st. native_call (setting_of around).natives id st.activation.types vs go st) st
      ∙ ap (λ x. native_left go x st) e

  planned : (k : ℕ) → is_of_evaluator id ≡ false → arity id ≡ k → sum_by (units around st.heap) (take k vs) ≡ 0
      → ((ts : List Ty) → plan (read_of around) id ts vs st.heap ≡ or_null (Some (a.Value z))) → native (setting_of around) at id vs st ≡ ends (answer z) st
  planned k own m u p =
      answers own (one_step around st.heap id vs k (a.Value z) m u p) (same_heap around st.heap id st.activation.types vs (a.Value z) (p st.activation.types))

  by_kind : (one two : Bool) → is_unary id ≡ one → is_binary id ≡ two
      → (if one then Some (with_one (unary id) (number_of (argument vs 0)))
      else if two then Some (with_two (binary id) (number_of (argument vs 0)) (number_of (argument vs 1))) else None) ≡ Some (a.Value z)
      → number_native id (argument vs 0) (argument vs 1) ≡ Some (a.Value z) → native (setting_of around) at id vs st ≡ ends (answer z) st
  by_kind true two u v e whole =
      let i = one_number (unary id) (number_of (argument vs 0)) z (same_Some (with_one (unary id) (number_of (argument vs 0))) (a.Value z) e) in
      planned 1 (unary_own id u) (unary_arity id u) (one_unit around st.heap vs (no_units around st.heap (argument vs 0) i.0 i.1))
      (λ ts. unary_plan around id ts st.heap (argument vs 0) (argument vs 1) (argument vs 2) u ∙ ap or_null whole)
  by_kind false true u v e whole =
      let i = two_numbers (binary id) (number_of (argument vs 0)) (number_of (argument vs 1)) z
      (same_Some (with_two (binary id) (number_of (argument vs 0)) (number_of (argument vs 1))) (a.Value z) e) in
      planned 2 (binary_own id v) (binary_arity id v)
      (two_units around st.heap vs (no_units around st.heap (argument vs 0) i.0.0 i.0.1) (no_units around st.heap (argument vs 1) i.1.0 i.1.1))
      (λ ts. binary_plan around id ts st.heap (argument vs 0) (argument vs 1) (argument vs 2) v ∙ ap or_null whole)
  by_kind false false u v e whole = absurd (none-some (a.Value z) e)

  -- a native of numbers that answers a value
  pub number_answers : number_native id (argument vs 0) (argument vs 1) ≡ Some (a.Value z) → native (setting_of around) at id vs st ≡ ends (answer z) st
  number_answers e = by_kind (is_unary id) (is_binary id) refl refl e e

pub native_gives : (around : Around) (at : Place) (id : NativeId) (x y : Value) (st : State) (z : Value) → number_native id x y ≡ Some (a.Value z)
    → native (setting_of around) at id (x ∷ y ∷ []) st ≡ ends (answer z) st
native_gives around at id x y st z e = number_answers around at id (x ∷ y ∷ []) st z e

-- two integers are equal by their words
pub integers_equal : (around : Around) (at : Place) (high low other_high other_low : ℕ) (st : State)
    → native (setting_of around) at n.ObjectEqual (Int high low ∷ Int other_high other_low ∷ []) st ≡ ends (answer (Truth (high == other_high && low == other_low))) st
integers_equal around at high low other_high other_low st =
    planned around at n.ObjectEqual (Int high low ∷ Int other_high other_low ∷ []) st (Truth (high == other_high && low == other_low)) 2 refl refl refl (λ ts. refl)

-- ---- those of lists that only read

no_text : (o : Option HeapObject) (fixed : Bool) → kind_of o ≡ kind.List fixed → units_in (text_of o) ≡ 0
no_text (Some (text units)) fixed e = absurd (cc)
no_text (Some object) fixed e = refl
no_text None fixed e = refl

module _ (around : Around) (at : Place) (r : Ref) (fixed : Bool) (st : State) (is_list : kind_of (slice_get st.heap.objects r.0) ≡ kind.List fixed) where
  -- the item of a list at an index
  pub list_item : (y : Value) (i : ℤ) (k : ℕ) → number_of y ≡ Some i → place (length_of (slice_get st.heap.objects r.0)) i ≡ Some k
      → native (setting_of around) at n.ListIndex (At r ∷ y ∷ []) st ≡ ends (answer (field_at st.heap r.0 k)) st
  list_item y i k number inside =
      planned around at n.ListIndex (At r ∷ y ∷ []) st (field_at st.heap r.0 k) 2 refl refl
      (two_units around st.heap (At r ∷ y ∷ []) (no_text (slice_get st.heap.objects r.0) fixed is_list) (no_units around st.heap y i number))
      (λ ts. ap (λ q. needs ArgumentError (fixed_of q) (λ fixed. of_list n.ListIndex st.heap r.0 fixed y Null)) is_list
      ∙ ap (λ q. needs ArgumentError q (item st.heap r.0)) number ∙ ap (λ q. needs RangeError q (λ k. value (field_at st.heap r.0 k))) inside)

  -- how many items a list has
  pub list_length : native (setting_of around) at n.ListLength (At r ∷ []) st ≡ ends (answer (integer_value (pos (length_of (slice_get st.heap.objects r.0))))) st
  list_length =
      planned around at n.ListLength (At r ∷ []) st (integer_value (pos (length_of (slice_get st.heap.objects r.0)))) 1 refl refl
      (one_unit around st.heap (At r ∷ []) (no_text (slice_get st.heap.objects r.0) fixed is_list))
      (λ ts. ap (λ q. needs ArgumentError (fixed_of q) (λ fixed. of_list n.ListLength st.heap r.0 fixed Null Null)) is_list)
