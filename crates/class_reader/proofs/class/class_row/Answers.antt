use Rattle.std.proofs.Common.{List, [], ◌∙◌, ap, map}
use Rattle.dart_tree.specs.Unit as u
use Rattle.dart_tree.specs.UnitView as unit_view
use Rattle.translation.specs.Surroundings.{Text, name_in}
use Rattle.translation.specs.Types.{text_of}
use Rattle.class_source.specs.Members as m
use Rattle.class_source.specs.Source.{standing}
use Rattle.class_reader.specs.Given.{outer_of, reading_in, source_unit}
use Rattle.class_reader.specs.Seen.{members_in}
use Rattle.class_reader.proofs.Rows.{class_joined}
use Rattle.class_reader.proofs.class.class_row.Goals as goal

pub returns : goal.returns
returns g c =
    let headers = g.S.Surroundings.around c.args.headers.now in
    let around = g.S.Surroundings.around c.args.members.now in
    let libraries = g.P.Positions.libraries c.args.positions.now in
    let number = g.P.Positions.numbers c.args.positions.now in
    let x = unit_view.class c.args.x.now in
    let unit = source_unit c.args.home [] in
    class_joined headers around libraries number c.args.home c.args.number.0 x c.in_ok-name_in.field-0 c.place_of.result c.in_ok-number_at.field-0
    c.is_some.result c.is_mixed.result c.in_ok-standing.field-0 c.in_ok-heading.heading c.in_ok-found.found c.in_ok-field_count.field-0 c.requires
    (c.in_ok-name_in.ensures ∙ ap (name_in c.args.home.library) c.text_of.ensures)
    c.place_of.ensures
    (c.in_ok-number_at.ensures ∙ ap number c.place_of-2.ensures)
    c.is_some.ensures
    c.is_mixed.ensures
    (c.in_ok-standing.ensures ∙ ap (λ (name : Text). standing unit name (map unit_view.member c.members_of-all.result.now)) c.text_of-2.ensures ∙ ap (λ (all : List u.Member). standing unit (text_of x.name) all) c.members_of-all.ensures)
    c.in_ok-heading.ensures
    (c.in_ok-found.ensures ∙ ap (members_in number (reading_in around (outer_of libraries c.args.number.0))) c.members_of-all.ensures)
    (c.in_ok-field_count.ensures ∙ ap m.field_count c.members_of-all.ensures)
