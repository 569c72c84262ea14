use Rattle.std.proofs.Common.{◌≡◌, ◌∙◌, ℕ, List, sym, ap}
use Rattle.std.specs.Option.{option_and_then}
use Rattle.std.proofs.lemmas.List.{length-map}
use Rattle.std.proofs.lemmas.Result.{IfOk-weaker}
use Rattle.translation.specs.Surroundings.{Ty}
use Rattle.lower_table.specs.Rows.{declared_mixin, mixin_as, mixin_at}
use Rattle.lower_table.specs.Seen.{mixin, row, rows, ty}
use Rattle.lower_table.proofs.mixin.mixin_at.Goals as goal

pub returns-in_ok-declared-in-Some : goal.returns-in_ok-declared-in-Some
returns-in_ok-declared-in-Some c =
    let classes = c.args.classes.now in
    let all = c.args.applications.now in
    IfOk-weaker c.mixin_as.result (λ made. (texts : List (List ℕ)) → mixin texts made ≡ mixin_as (ty texts c.in_ok-declared-in-Some.declared))
    (λ made. (texts : List (List ℕ)) → mixin texts made ≡ mixin_at (rows texts classes) all c.args.place)
    (λ made is texts. is texts ∙ ap mixin_as (c.in_ok-declared-in-Some.ensures texts)
    ∙ (λ i. option_and_then (λ (of : Ty). mixin_as (declared_mixin (rows texts classes) all (sym (length-map classes (row texts)) i) of)) (c.in-Some.ensures texts i)))
    c.mixin_as.ensures
