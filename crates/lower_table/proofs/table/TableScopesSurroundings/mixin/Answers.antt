use Rattle.std.proofs.Common.{◌≡◌, ◌∙◌, ℕ, List, Option, Some, None, refl}
use Rattle.std.proofs.lemmas.Result.{IfOk-weaker}
use Rattle.lower_leaf.specs.Around.{Around, mixin, ty}
use Rattle.lower_leaf.specs.declared.meaning.Mixin.{Mixin}
use Rattle.lower_table.specs.Made.{around_made}
use Rattle.lower_table.specs.Rows.{mixin_at, rows_of}
use Rattle.lower_table.specs.Seen.{rows}
use Rattle.lower_table.specs.Seen as seen
use Rattle.lower_table.proofs.table.TableScopesSurroundings.mixin.Goals as goal

same-mixin : (a : Around) (made : Option Mixin) → mixin a made ≡ seen.mixin a.texts made
unfolding ty
same-mixin a None = refl
same-mixin a (Some x) = refl

pub returns : goal.returns
returns c =
    let t = c.args.self.now in
    let of = c.args.of.0 in
    IfOk-weaker c.mixin_at.result (λ made. (texts : List (List ℕ)) → seen.mixin texts made ≡ mixin_at (rows texts c.deref.result.now) c.deref-2.result.now of)
    (λ made. mixin (around_made t) made ≡ mixin_at (rows_of t.scopes.now.names t.classes.now) t.applications.items of)
    (λ made is. same-mixin (around_made t) made ∙ is t.scopes.now.names
    ∙ (λ i. mixin_at (rows t.scopes.now.names (c.deref.ensures.value i)) (c.deref-2.ensures.value i) of))
    c.mixin_at.ensures
