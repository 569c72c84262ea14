use Rattle.std.proofs.Common.{◌≡◌, ◌+◌, List, [], ◌∷◌, ◌++◌, map, sym, ap, ◌∙◌, arith}
use Rattle.std.proofs.lemmas.List.{map-append}
use Rattle.std.proofs.lemmas.List.FromFn.{map-range_with_len_more}
use Rattle.std.specs.List.{range_with_len}
use Rattle.dart_ir.specs.Ty.{parameter}
use Rattle.dart_ir.specs.declared.types.TypeRef as k
use Rattle.translation.specs.Surroundings.{Ty}
use Rattle.lower_leaf.specs.Around.{ty, types}
use Rattle.lower_class.proofs.Constructed.{parameter_seen}
use Rattle.lower_class.proofs.factory.own_parameters.Goals as goal

pub loop-index-preserved : goal.loop-index-preserved
loop-index-preserved g c =
    let a = g.S.Surroundings.around c.args.outside.now in
    let here : 0 + c.loop-index.index ≡ c.loop-index.index = omega arith in
    ap (types a) c.in_ok-push.ensures.items ∙ map-append (ty a) c.loop-index.given.items (k.Param c.loop-index.index ∷ [])
    ∙ ap (λ (l : List Ty). l ++ ty a (k.Param c.loop-index.index) ∷ []) c.loop-index.invariant
    ∙ ap (λ (z : Ty). map parameter (range_with_len 0 c.loop-index.index) ++ z ∷ []) (parameter_seen a c.loop-index.index)
    ∙ sym (map-range_with_len_more parameter 0 c.loop-index.index c.loop-index.index here)
