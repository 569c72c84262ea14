use Rattle.std.proofs.Common.{◌≡◌, ℕ, ◌-◌, take, drop, length, ap, ◌∙◌, arith}
use Rattle.std.proofs.lemmas.Result.{err_from_is_err_and}
use Rattle.dart_tree.specs.Depth as height
use Rattle.dart_tree.specs.UnitView as view
use Rattle.syntax_readers.specs.Declarations as spec
use Rattle.parse_constructor.proofs.Cutting.{cut_passes}
use Rattle.parse_constructor.proofs.rest.own_initializers.Goals as goal

pub returns-in_err-found : goal.returns-in_err-found
returns-in_err-found g c =
    let p = err_from_is_err_and c.from_residual.result c.from_residual.ensures.1 in
    let d = c.args.depth in
    let ts = c.args.cursor.now in
    let is : c.up_to-cut.result ≡ take (spec.before_body 0 ts) ts = c.up_to-cut.ensures ∙ ap (λ (m : ℕ). take m ts) c.before_body-count.ensures in
    let at : c.behind.result ≡ drop (spec.before_body 0 ts - length c.initializers-read.new.cursor) ts =
    c.behind.ensures ∙ ap (λ (m : ℕ). drop m ts) (omega (arith, c.saturating_sub.ensures, c.left.ensures, c.before_body-count.ensures)) in
    rw (p.1, p.2) (cut_passes (spec.before_body 0 ts) (spec.initializers (spec.init d)) ts
    c.up_to-cut.result is view.initializers height.initializers_height d c.initializers-read.new.cursor c.behind.result at c.in_err-found.field-0.0
    c.in_err-found.ensures)
