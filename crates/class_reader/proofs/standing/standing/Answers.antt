use Rattle.std.proofs.Common.{◌≡◌, map, ◌∙◌}
use Rattle.std.specs.List.{list_any}
use Rattle.dart_tree.specs.UnitView as unit_view
use Rattle.class_source.specs.Members as m
use Rattle.class_reader.proofs.Tests.{any_seen}
use Rattle.class_reader.proofs.standing.standing.Goals as goal

pub returns : goal.returns
returns c =
    let all = c.args.members.now in
    let external : c.has_external.result ≡ list_any m.is_external_member (map unit_view.member all) =
    c.has_external.ensures ∙ any_seen m.is_external_member unit_view.member all in
    let made : c.has_constructor.result ≡ list_any m.is_constructor_member (map unit_view.member all) =
    c.has_constructor.ensures ∙ any_seen m.is_constructor_member unit_view.member all in
    cc (c.is_basic.ensures, c.in_ok-names_super.ensures)
