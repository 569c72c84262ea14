-- What contracts see of rows behind `super` and of the pieces of strings.
use Rattle.std.specs.Prelude.{◌++◌, Option, Some, None}
use Rattle.core_program.specs.declared.form.Core.{Core as Form}
use Rattle.dart_base.specs.declared.place.Place.{Place}
use Rattle.dart_tree.specs.declared.expression.PieceKind.{PieceKind}
use Rattle.dart_tree.specs.declared.operator.Operator.{Operator}
use Rattle.dart_tree.specs.Tree as t
use Rattle.translation.specs.Surroundings.{Text, Core}
use Rattle.translation.specs.Walk as w
use Rattle.translation.specs.Expressions as e
use Rattle.translation.specs.Firsts.{first_of_operand}
use Rattle.translation.specs.Productions as low
use Rattle.translation.specs.Strings.{parts_of}
use Rattle.lower_leaf.specs.Around.{Around}
use Rattle.lower_leaf.specs.Forms.{core}

-- the next operator of a row behind `super`: the first, or one behind what is made
abbrev pub option_core : Around → Option Form → Option Core
option_core a None = None
option_core a (Some form) = Some (core a form)

abbrev pub behind_super : Place → Option Core → Operator → t.Operand → w.Walk Core
behind_super word None operator next st =
    e.with_instance word (e.super_binary word (e.operation operator) (low.operand next)) st
behind_super word (Some form) operator next st =
    e.binary word (e.operation operator) form (first_of_operand next) (low.operand next) st

-- the operands of a piece of a string, with those before it
abbrev pub interpolated_behind : Place → t.Value → e.Joined → w.Walk e.Joined
interpolated_behind place value before st = w.on (low.interpolated place value before.pending st)
    (λ next st. w.went (record next { forms = before.forms ++ next.forms }) st)

abbrev pub piece_joined : Place → PieceKind → Place → Text → t.Value → Text → w.Walk e.Joined
piece_joined place kind at text value pending st =
    w.on (e.join_parts place at (parts_of kind text) pending st) (λ before st. interpolated_behind place value before st)
