use Rattle.std.proofs.Common.{◌≡◌, ◌++◌, ◌-◌, ◌&&◌, ◌||◌, not}
use Rattle.std.specs.List.{list_any, filter, range_with_len}
use Rattle.lower_function.specs.Uses.{is_declared, names, takes}
use Rattle.lower_function.proofs.shared.captures_by.Given as goal

abbrev pub invariant-loop-x : goal.invariant-loop-x
invariant-loop-x l = l.made.items ++ filter (λ x. not (is_declared x l.parameters.items l.uses.items) && (list_any (names x) l.uses.items || list_any (takes x) l.uses.items)) (range_with_len l.x (l.count - l.x))
    ≡ filter (λ x. not (is_declared x l.parameters.items l.uses.items) && (list_any (names x) l.uses.items || list_any (takes x) l.uses.items)) (range_with_len 0 l.count)
