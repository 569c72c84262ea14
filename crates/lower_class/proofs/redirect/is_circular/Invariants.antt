use Rattle.std.proofs.Common.{◌≡◌, ◌-◌, map, length}
use Rattle.std.specs.Option.{option_map}
use Rattle.dart_tree.specs.UnitView as unit_view
use Rattle.translation.specs.Classes as cl
use Rattle.lower_class.proofs.redirect.is_circular.Given as goal

abbrev pub invariant-loop-turn : goal.invariant-loop-turn
invariant-loop-turn l = let ms = map unit_view.member l.members.items in
    cl.leads_to (length l.members.items - l._turn) ms l.id (option_map (λ x. x.now) l.at) ≡ cl.is_circular ms l.id
