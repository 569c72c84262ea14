use Rattle.std.proofs.Common.{◌≡◌, ◌∙◌, ℕ, map, false, None, [], sym, ap, refl}
use Rattle.dart_tree.specs.UnitView as unit_view
use Rattle.lower_annotation.specs.Annotated.{alias_type, aliased, place_in, variable_type}
use Rattle.lower_annotation.specs.Numbered as d
use Rattle.lower_annotation.specs.Seen.{alias, around_seen, entries, place_at, placed, types_in, variable}
use Rattle.lower_annotation.specs.Written as w
use Rattle.lower_annotation.specs.declared.alias.Alias.{Alias}
use Rattle.lower_annotation.proofs.Law.{twice}
use Rattle.lower_annotation.proofs.Views.{variables-same}
use Rattle.lower_annotation.proofs.annotations.annotations_of.Goals as goal

pub returns : goal.returns
returns g c =
    let a = g.S.Surroundings.around c.args.base.now in
    let number = g.N.Numbers.numbers c.args.numbers.now in
    let declared = d.declarations c.args.homes.now (map unit_view.unit c.args.units.now) in
    let aliases = d.aliases_of number declared in
    let places = c.in_ok-places.places in
    let written = c.in_ok-entries.entries.items in
    let variables = c.in_ok-variables.variables in
    let numbered : d.Alias → ℕ = λ x. x.number in
    let is_aliases : map alias c.in_ok-aliases.aliases.items ≡ aliases =
    c.in_ok-aliases.ensures ∙ ap (λ l. d.aliases_of number (map placed l)) c.deref.ensures.value ∙ ap (d.aliases_of number) c.in_ok-all.ensures in
    let numbers : c.in_ok-alias_numbers.alias_numbers.items ≡ map numbered aliases =
    c.in_ok-alias_numbers.ensures ∙ ap (map (λ (x : Alias). x.number)) c.deref-2.ensures.value ∙ twice numbered alias c.in_ok-aliases.aliases.items ∙ ap (map numbered) is_aliases in
    let place : (n : ℕ) → place_at places n ≡ place_in (map numbered aliases) n =
    λ n. c.in_ok-places.ensures n ∙ ap (λ l. place_in l n) (c.deref-3.ensures.value ∙ numbers) in
    let out : entries a written ≡ w.written_out a (place_in (map numbered aliases)) aliases =
    c.in_ok-entries.ensures ∙ (λ j. w.written_out a (λ n. place n j) ((ap (map alias) c.deref-4.ensures.value ∙ is_aliases) j)) in
    let types : w.final_type (place_at places) (entries a written) ≡ alias_type a aliases = λ j. w.final_type (λ n. place n j) (out j) in
    let b = around_seen a 0 [] false places c.deref-6.result.now None in
    let same : b ≡ aliased a (alias_type a aliases) =
    λ j. record a { tables = record a.tables { alias_type = (ap (λ l. w.final_type (place_at places) (entries a l)) c.deref-6.ensures.value ∙ types) j } } in
    let is_variables : map variable c.in_ok-declared.declared.items ≡ d.variables_of number a declared =
    c.in_ok-declared.ensures ∙ ap (λ l. d.variables_of number a (map placed l)) c.deref-5.ensures.value ∙ ap (d.variables_of number a) c.in_ok-all.ensures in
    let asked : (n : ℕ) → types_in a variables n ≡ variable_type (aliased a (alias_type a aliases)) (d.variables_of number a declared) n =
    λ n. sym (variables-same b a refl variables n) ∙ c.in_ok-variables.ensures n
    ∙ (λ j. variable_type (same j) ((ap (map variable) c.deref-7.ensures.value ∙ is_variables) j) n) in
    λ j. record a { tables = record a.tables { alias_type = types j; variable_type = λ n. asked n j } }
