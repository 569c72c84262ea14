use Rattle.std.proofs.Common.{◌≡◌, arith, ◌∙◌, map, take, true, Some, None, refl, sym, ap}
use Rattle.std.proofs.lemmas.List.{take_all}
use Rattle.std.proofs.lemmas.Result.{IfOk-weaker}
use Rattle.dart_tree.specs.Unit as u
use Rattle.dart_tree.specs.View as view
use Rattle.lower_leaf.specs.Around.{ty}
use Rattle.lower_leaf.specs.Seen.{seen}
use Rattle.translation.specs.Types as y
use Rattle.translation.specs.Walk.{State}
use Rattle.lower_annotation.specs.Numbered as d
use Rattle.lower_annotation.specs.Seen.{alias, around_seen, entries, place_at, texts}
use Rattle.lower_annotation.specs.Written as w
use Rattle.lower_annotation.proofs.Law.{texts-seen}
use Rattle.lower_annotation.proofs.Views.{ty-same}
use Rattle.lower_annotation.proofs.round.alias_read.Goals as goal

pub returns : goal.returns
returns g c =
    let a = g.S.Surroundings.around c.args.outside.now in
    let parameters = c.items_of-parameters.result.now in
    let x = alias c.args.one in
    let aliases = w.waiting_type (place_at c.args.places.now) (entries a c.args.all.now) in
    let b = around_seen a c.in-Ok.count parameters true c.args.places.now c.args.all.now None in
    let named : texts (take c.in-Ok.count parameters) ≡ w.parameters_of x.written =
    ap texts (take_all c.in-Ok.count parameters (omega (arith, c.in-Ok.ensures))) ∙ texts-seen parameters
    ∙ ap (map (λ (p : u.TypeParameter). y.text_of p.name)) c.items_of-parameters.ensures in
    let same : b ≡ w.with_aliases (w.parameters_of x.written) aliases a =
    λ j. record a { names = λ outer. w.with_parameters (named j) (a.names outer); tables = record a.tables { alias_type = aliases } } in
    let st : seen b c.reading-state.result ≡ w.reading (w.with_aliases (w.parameters_of x.written) aliases a) (d.library_outer c.args.one.library) (Some 0) =
    c.reading-state.ensures ∙ (λ j. w.reading (same j) (c.library_outer.ensures j) (Some 0)) in
    let result = view.result_option c.args.one.written.now.result_type in
    let answer = c.in_ok-answer.ensures ∙ ap (λ (s : State). y.result_type s result) st in
    IfOk-weaker c.function_type.result
    (λ made. ty b made ≡ y.function_type (seen b c.reading-state.result) (ty b c.in_ok-answer.answer) (view.parameters c.args.one.written.now.parameters))
    (λ made. ty a made ≡ w.alias_read a aliases x)
    (λ made known. sym (ty-same b a refl made) ∙ known ∙ (λ j. y.function_type (st j) (answer j) (view.parameters c.args.one.written.now.parameters)))
    c.function_type.ensures
