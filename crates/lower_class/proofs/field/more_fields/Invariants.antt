use Rattle.std.proofs.Common.{◌≡◌, ◌+◌, ◌++◌, length, drop}
use Rattle.dart_tree.specs.Lists.{more_variables_of}
use Rattle.translation.specs.Classes as cl
use Rattle.lower_leaf.specs.Seen.{asked}
use Rattle.lower_class.specs.Views.{fields}
use Rattle.lower_class.proofs.Fields.{fields_behind}
use Rattle.lower_class.proofs.field.more_fields.Given as goal

abbrev pub invariant-loop-one : goal.invariant-loop-one
invariant-loop-one g l = let a = g.S.Surroundings.around l.outside in
    fields_behind a (asked a l.wanted) l.final_one l.first l.found.items (drop l.one-index l.all.items)
    ≡ fields a l.initial.found ++ cl.more_fields (asked a l.wanted) l.final_one (l.first + length l.initial.found.items) (more_variables_of l.all.items)
