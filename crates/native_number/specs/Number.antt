-- What the natives of whole numbers answer. A number has 128 bits.
use Rattle.std.specs.Prelude.{ℕ, zero, ◌^◌, nat_lt, Option, Some, None, Bool, true, false, if◌then◌else◌, ℤ, pos, negsuc, neg_ℤ, ◌+ℤ◌, ◌-ℤ◌, ◌*ℤ◌, int_lt, int_le, int_div, bit_and, bit_or, bit_xor}
use Rattle.std.specs.Int.{w128, cast_signed, cast_unsigned, int_div_euclid, int_rem_euclid}
use Rattle.dart_ir.specs.declared.kind.ThrowKind.TheVariants.{ArgumentError, IntegerDivisionByZeroException}
use Rattle.dart_ir.specs.declared.native.Answer.{Answer}
use Rattle.dart_ir.specs.declared.native.Answer.TheVariants as a
use Rattle.dart_ir.specs.declared.native.NativeId.{NativeId}
use Rattle.dart_ir.specs.declared.native.NativeId.TheVariants as n
use Rattle.dart_ir.specs.declared.value.Value.{Value}
use Rattle.dart_ir.specs.declared.value.Value.TheVariants.{Bool as Truth, Int}
use Rattle.dart_ir.specs.Integer.{integer_of, integer_value}

-- ---- answers

-- it lies from -2^127 to 2^127 - 1
abbrev pub has_128_bits : ℤ → Bool
has_128_bits (pos n) = nat_lt n (2 ^ 127)
has_128_bits (negsuc n) = nat_lt n (2 ^ 127)

abbrev pub whole_if : Bool → ℤ → Answer
whole_if true n = a.Value (integer_value n)
whole_if false n = a.IntegerLimit

-- the number, or the limit where it has no 128 bits
abbrev pub whole : ℤ → Answer
whole x = whole_if (has_128_bits x) x

abbrev pub truth : Bool → Answer
truth b = a.Value (Truth b)

-- ---- arithmetic

abbrev pub is_zero : ℤ → Bool
is_zero (pos zero) = true
is_zero x = false

abbrev pub unless_zero : ℤ → Answer → Answer
unless_zero y answer = if is_zero y then a.Throw IntegerDivisionByZeroException else answer

-- the quotient without its fraction, and the remainder that isn't negative
abbrev pub truncated : ℤ → ℤ → Answer
truncated x y = unless_zero y (whole (int_div x y))

abbrev pub modulo : ℤ → ℤ → Answer
modulo x y = unless_zero y (whole (int_rem_euclid x y))

abbrev pub order_of : Bool → Bool → ℤ
order_of true more = negsuc 0
order_of false true = pos 1
order_of false false = pos 0

-- -1, 0 or 1
abbrev pub order : ℤ → ℤ → Answer
order x y = whole (order_of (int_lt x y) (int_lt y x))

-- ---- the bits of two's complement

abbrev pub by_bits : (ℕ → ℕ → ℕ) → ℤ → ℤ → Answer
by_bits f x y = whole (cast_signed w128 (f (cast_unsigned w128 x) (cast_unsigned w128 y)))

-- x times 2^y, and x over 2^y without its fraction, towards the lesser; a negative count is an ArgumentError
abbrev pub shifted_left : ℤ → ℤ → Answer
shifted_left x (pos k) = whole (x *ℤ pos (2 ^ k))
shifted_left x (negsuc k) = a.Throw ArgumentError

abbrev pub shifted_right : ℤ → ℤ → Answer
shifted_right x (pos k) = whole (int_div_euclid x (pos (2 ^ k)))
shifted_right x (negsuc k) = a.Throw ArgumentError

-- ---- the table

abbrev pub is_unary : NativeId → Bool
is_unary n.NumNegate = true
is_unary n.IntComplement = true
is_unary native = false

-- of one number
abbrev pub unary : NativeId → ℤ → Answer
unary n.NumNegate i = whole (neg_ℤ i)
unary n.IntComplement i = whole (neg_ℤ i -ℤ pos 1)
unary native i = a.NeedsDouble

abbrev pub is_binary : NativeId → Bool
is_binary n.NumAdd = true
is_binary n.NumSubtract = true
is_binary n.NumMultiply = true
is_binary n.NumDivide = true
is_binary n.NumTruncatingDivide = true
is_binary n.NumModulo = true
is_binary n.NumLess = true
is_binary n.NumLessEqual = true
is_binary n.NumGreater = true
is_binary n.NumGreaterEqual = true
is_binary n.NumCompareTo = true
is_binary n.IntAnd = true
is_binary n.IntOr = true
is_binary n.IntXor = true
is_binary n.IntShiftLeft = true
is_binary n.IntShiftRight = true
is_binary native = false

-- of two numbers; `/` has no whole number for an answer
abbrev pub binary : NativeId → ℤ → ℤ → Answer
binary n.NumAdd i j = whole (i +ℤ j)
binary n.NumSubtract i j = whole (i -ℤ j)
binary n.NumMultiply i j = whole (i *ℤ j)
binary n.NumTruncatingDivide i j = truncated i j
binary n.NumModulo i j = modulo i j
binary n.NumLess i j = truth (int_lt i j)
binary n.NumLessEqual i j = truth (int_le i j)
binary n.NumGreater i j = truth (int_lt j i)
binary n.NumGreaterEqual i j = truth (int_le j i)
binary n.NumCompareTo i j = order i j
binary n.IntAnd i j = by_bits bit_and i j
binary n.IntOr i j = by_bits bit_or i j
binary n.IntXor i j = by_bits bit_xor i j
binary n.IntShiftLeft i j = shifted_left i j
binary n.IntShiftRight i j = shifted_right i j
binary native i j = a.NeedsDouble

abbrev pub number_of : Value → Option ℤ
number_of (Int high low) = Some (integer_of high low)
number_of value = None

-- another receiver or argument is an ArgumentError
abbrev pub with_one : (ℤ → Answer) → Option ℤ → Answer
with_one f (Some i) = f i
with_one f None = a.Throw ArgumentError

abbrev pub with_two : (ℤ → ℤ → Answer) → Option ℤ → Option ℤ → Answer
with_two f (Some i) (Some j) = f i j
with_two f x y = a.Throw ArgumentError

-- what a native of numbers answers for a receiver and an argument
abbrev pub number_native : NativeId → Value → Value → Option Answer
number_native native x y =
    if is_unary native then Some (with_one (unary native) (number_of x))
    else if is_binary native then Some (with_two (binary native) (number_of x) (number_of y)) else None
