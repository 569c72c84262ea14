-- An erased operand binds as tightly as before, and is a target exactly where it was one.
use Rattle.std.proofs.Common.{◌≡◌, refl, None, Some}
use Rattle.dart_tree.specs.Tree as t
use Rattle.dart_erase.specs.Erased as erased
use Rattle.dart_erase.specs.Precedence.{binds, is_place, ends_in_place, is_primary_target, is_target}

pub binds_as_before : (x : t.Operand) → binds (erased.operand x) ≡ binds x
unfolding erased.operand erased.tails
binds_as_before (t.conditional condition question first colon second) = refl
binds_as_before (t.binary first t.no_tails) = refl
binds_as_before (t.binary first (t.tail operator x rest)) = refl
binds_as_before (t.is_type x word bang of) = refl
binds_as_before (t.as_type x word of) = refl
binds_as_before (t.prefix operator x) = refl
binds_as_before (t.postfix x more operator) = refl
binds_as_before (t.primary x) = refl

place_as_before : (x : t.Selector) → is_place (erased.selector x) ≡ is_place x
unfolding erased.selector
place_as_before (t.member dot name) = refl
place_as_before (t.index opening x closing) = refl
place_as_before (t.call x) = refl

ends_as_before : (xs : t.Selectors) → ends_in_place (erased.selectors xs) ≡ ends_in_place xs
unfolding erased.selectors
ends_as_before t.no_selectors = refl
ends_as_before (t.selector x t.no_selectors) = place_as_before x
ends_as_before (t.selector x (t.selector z rest)) = ends_as_before (t.selector z rest)

primary_as_before : (x : t.Primary) → is_primary_target (erased.primary x) ≡ is_primary_target x
unfolding erased.primary
primary_as_before (t.super_access word x) = place_as_before x
primary_as_before (t.bare_super word) = refl
primary_as_before (t.atom x) = refl
primary_as_before (t.text all) = refl
primary_as_before (t.list_literal kinds opening all comma closing) = refl
primary_as_before (t.map_literal kinds opening all comma closing) = refl
primary_as_before (t.new_object creation class name given) = refl
primary_as_before (t.function_literal given inner) = refl
primary_as_before (t.parenthesized opening x closing) = refl

pub target_as_before : (x : t.Operand) → is_target (erased.operand x) ≡ is_target x
unfolding erased.operand
target_as_before (t.conditional condition question first colon second) = refl
target_as_before (t.binary first more) = refl
target_as_before (t.is_type x word bang of) = refl
target_as_before (t.as_type x word of) = refl
target_as_before (t.prefix operator x) = refl
target_as_before (t.postfix x more None) = ends_as_before more
target_as_before (t.postfix x more (Some operator)) = refl
target_as_before (t.primary x) = primary_as_before x
