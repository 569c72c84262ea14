use Rattle.std.proofs.Common.{◌≡◌, ◌∙◌, ℕ, map, slice_get, ap}
use Rattle.std.specs.Prelude.{option_and_then}
use Rattle.lower_annotation.specs.Annotated.{annotation_of, place_in}
use Rattle.lower_annotation.specs.Numbered as d
use Rattle.lower_annotation.specs.Seen.{optional, place_at, variable}
use Rattle.lower_annotation.proofs.Law.{found-at, twice}
use Rattle.lower_annotation.proofs.annotations.types_of.Goals as goal

pub returns : goal.returns
returns g c = λ n.
    let a = g.S.Surroundings.around c.args.outside.now in
    let all = c.args.all.now in
    let number : d.OuterVariable → ℕ = λ x. x.number in
    let types = c.in_ok-types.types.items in
    let place : place_at c.in_ok-places.places n ≡ place_in (map number (map variable all)) n =
    c.in_ok-places.ensures n ∙ ap (λ l. place_in l n) (c.deref.ensures.value ∙ c.in_ok-numbers.ensures ∙ twice number variable all) in
    ap (λ o. option_and_then (optional a) (option_and_then (slice_get types) o)) place
    ∙ found-at (optional a) (annotation_of a) types (map variable all) (c.in_ok-types.ensures ∙ twice (annotation_of a) variable all) (place_in (map number (map variable all)) n)
