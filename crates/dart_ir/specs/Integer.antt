-- An integer as the two words of its 128 bits.
use Rattle.std.specs.Prelude.{ℤ, ℕ, ◌+◌, ◌*◌, ◌/◌, ◌%◌, ◌^◌}
use Rattle.std.specs.Int.{w128, cast_signed, cast_unsigned}
use Rattle.dart_ir.specs.declared.value.Value.{Value}
use Rattle.dart_ir.specs.declared.value.Value.TheVariants.{Int}

-- the integer of two words
abbrev pub integer_of : ℕ → ℕ → ℤ
integer_of high low = cast_signed w128 (high * 2 ^ 64 + low)

-- the value that is the integer
abbrev pub integer_value : ℤ → Value
integer_value n = Int (cast_unsigned w128 n / 2 ^ 64) (cast_unsigned w128 n % 2 ^ 64)
