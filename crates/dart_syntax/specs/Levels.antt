-- How tightly a binary operator binds.
use Rattle.std.specs.Prelude.{ℕ}
use Rattle.dart_token.specs.declared.sign.Sign.{Sign}
use Rattle.dart_token.specs.declared.sign.Sign.TheVariants as s
use Rattle.dart_tree.specs.declared.operator.Operator.{Operator}
use Rattle.dart_tree.specs.declared.operator.Operator.TheVariants as o

-- from `||` at 2 to `*` at 11; 0 where a sign is no binary operator (16.22 to 16.28)
abbrev pub sign_level : Sign → ℕ
sign_level s.OrOr = 2
sign_level s.AndAnd = 3
sign_level s.EqualEqual = 4
sign_level s.NotEqual = 4
sign_level s.Less = 5
sign_level s.Greater = 5
sign_level s.LessEqual = 5
sign_level s.GreaterEqual = 5
sign_level s.Bar = 6
sign_level s.Caret = 7
sign_level s.Ampersand = 8
sign_level s.ShiftLeft = 9
sign_level s.Plus = 10
sign_level s.Minus = 10
sign_level s.Star = 11
sign_level s.Slash = 11
sign_level s.TildeSlash = 11
sign_level s.Percent = 11
sign_level _ = 0

abbrev pub level : Operator → ℕ
level (o.Sign place sign) = sign_level sign
level (o.ShiftRight first second) = 9
level (o.ShiftRightAssign first second) = 0
