use Rattle.std.proofs.Common.{◌∙◌, ap, rules}
use Rattle.dart_tree.specs.declared.expression.Selector.{Selector}
use Rattle.dart_tree.specs.View as view
use Rattle.scope_declared.specs.Last.{selector_last}
use Rattle.scope_declared.proofs.Ending.{last_member, last_index, last_call}
use Rattle.scope_declared.proofs.last.selector_last.Goals as goal

pub returns-in-Member : goal.returns-in-Member
returns-in-Member c =
    let e = ap (λ (x : Selector). selector_last (view.selector x)) c.in-Member.is ∙ last_member _ _ in
    rw e (first_of (cc, search rules))

pub returns-in-Index : goal.returns-in-Index
returns-in-Index c =
    let e = ap (λ (x : Selector). selector_last (view.selector x)) c.in-Index.is ∙ last_index _ _ _ in
    rw e (first_of (cc, search rules))

pub returns-in-Call : goal.returns-in-Call
returns-in-Call c =
    let e = ap (λ (x : Selector). selector_last (view.selector x)) c.in-Call.is ∙ last_call _ in
    rw e (first_of (cc, search rules))
