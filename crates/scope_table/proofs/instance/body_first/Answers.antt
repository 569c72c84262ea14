use Rattle.std.proofs.Common.{◌∙◌, ap, rules}
use Rattle.dart_tree.specs.declared.statement.Body.{Body}
use Rattle.dart_tree.specs.View as view
use Rattle.dart_tree.proofs.Rows.{view_arrow_body, view_block_body, view_no_body}
use Rattle.scope_table.specs.Instance.{body_first}
use Rattle.scope_table.proofs.instance.body_first.Goals as goal

pub returns-in-Arrow : goal.returns-in-Arrow
returns-in-Arrow c =
    let e = ap (λ (x : Body). body_first (view.body x)) c.in-Arrow.is ∙ ap body_first (view_arrow_body _ _ _) in
    rw e (first_of (cc, search rules))

pub returns-in-Block : goal.returns-in-Block
returns-in-Block c =
    let e = ap (λ (x : Body). body_first (view.body x)) c.in-Block.is ∙ ap body_first (view_block_body _) in
    rw e (first_of (cc, search rules))

pub returns-in-Omitted : goal.returns-in-Omitted
returns-in-Omitted c =
    let e = ap (λ (x : Body). body_first (view.body x)) c.in-Omitted.is ∙ ap body_first (view_no_body _) in
    rw e (first_of (cc, search rules))
