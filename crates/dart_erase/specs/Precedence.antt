-- How tightly an operand binds, and whether it can be assigned.
use Rattle.std.specs.Prelude.{ℕ, Bool, true, false, None}
use Rattle.dart_token.specs.declared.sign.Sign.{Sign}
use Rattle.dart_token.specs.declared.sign.Sign.TheVariants as s
use Rattle.dart_tree.specs.declared.operator.Operator.{Operator}
use Rattle.dart_tree.specs.declared.operator.Operator.TheVariants as o
use Rattle.dart_tree.specs.declared.expression.Atom.{Atom}
use Rattle.dart_tree.specs.declared.expression.Atom.TheVariants as a
use Rattle.dart_tree.specs.Tree as t

-- ---- operators

-- how tightly a binary operator binds, from `||` at 2 to `*` at 11; 0 where a sign is no binary operator
abbrev pub sign_level : Sign → ℕ
sign_level s.OrOr = 2
sign_level s.AndAnd = 3
sign_level s.EqualEqual = 4
sign_level s.NotEqual = 4
sign_level s.Less = 5
sign_level s.Greater = 5
sign_level s.LessEqual = 5
sign_level s.GreaterEqual = 5
sign_level s.Bar = 6
sign_level s.Caret = 7
sign_level s.Ampersand = 8
sign_level s.ShiftLeft = 9
sign_level s.Plus = 10
sign_level s.Minus = 10
sign_level s.Star = 11
sign_level s.Slash = 11
sign_level s.TildeSlash = 11
sign_level s.Percent = 11
sign_level _ = 0

abbrev pub level : Operator → ℕ
level (o.Sign place sign) = sign_level sign
level (o.ShiftRight first second) = 9
level (o.ShiftRightAssign first second) = 0

-- how tightly an operand binds
abbrev pub binds : t.Operand → ℕ
binds (t.conditional condition question first colon second) = 1
binds (t.binary first t.no_tails) = 0
binds (t.binary first (t.tail operator x rest)) = level operator
binds (t.is_type x word bang of) = 5
binds (t.as_type x word of) = 5
binds (t.prefix operator x) = 12
binds (t.postfix x more operator) = 13
binds (t.primary x) = 14

-- ---- targets

abbrev pub is_place : t.Selector → Bool
is_place (t.member dot name) = true
is_place (t.index opening x closing) = true
is_place (t.call x) = false

abbrev pub ends_in_place : t.Selectors → Bool
ends_in_place t.no_selectors = false
ends_in_place (t.selector x t.no_selectors) = is_place x
ends_in_place (t.selector x (t.selector x2 rest)) = ends_in_place (t.selector x2 rest)

abbrev pub is_name : Atom → Bool
is_name (a.Name x) = true
is_name _ = false

abbrev pub is_primary_target : t.Primary → Bool
is_primary_target (t.atom x) = is_name x
is_primary_target (t.super_access place x) = is_place x
is_primary_target _ = false

abbrev pub is_target : t.Operand → Bool
is_target (t.primary x) = is_primary_target x
is_target (t.postfix x more None) = ends_in_place more
is_target _ = false
