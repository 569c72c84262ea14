use Rattle.std.proofs.Common.{◌≡◌, ◌+◌, List, [], ◌∷◌, ◌++◌, map, sym, ap, ◌∙◌, arith}
use Rattle.std.proofs.lemmas.List.{map-append}
use Rattle.std.proofs.lemmas.List.FromFn.{map-range_with_len_more}
use Rattle.std.specs.List.{range_with_len}
use Rattle.translation.specs.References as r
use Rattle.translation.specs.Surroundings.{Core}
use Rattle.lower_leaf.specs.Forms.{core, cores}
use Rattle.lower_decl.proofs.native.variables.Goals as goal

pub loop-x-preserved : goal.loop-x-preserved
loop-x-preserved g c =
    let a = g.S.Surroundings.around c.args.outside.now in
    let here : 0 + c.loop-x.x ≡ c.loop-x.x = omega arith in
    ap (cores a) c.in_ok-push.ensures.items ∙ map-append (core a) c.loop-x.forms.items (c.variable.result ∷ [])
    ∙ ap (λ (l : List Core). l ++ core a c.variable.result ∷ []) c.loop-x.invariant
    ∙ ap (λ (z : Core). map (r.variable c.args.place) (range_with_len 0 c.loop-x.x) ++ z ∷ []) c.variable.ensures
    ∙ sym (map-range_with_len_more (r.variable c.args.place) 0 c.loop-x.x c.loop-x.x here)
