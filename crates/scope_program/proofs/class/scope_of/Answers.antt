use Rattle.std.proofs.Common.{◌≡◌, ◌∙◌, List, Some, map, refl, sym, ap, subst}
use Rattle.std.proofs.lemmas.List.{length-map}
use Rattle.dart_tree.specs.Places.{place_of}
use Rattle.dart_tree.specs.declared.declaration.TypeParameter.{TypeParameter}
use Rattle.dart_tree.specs.Unit as u
use Rattle.dart_tree.specs.UnitView as view
use Rattle.translation.specs.Surroundings.{Text}
use Rattle.translation.specs.Types.{text_of}
use Rattle.scope_class.specs.Constructors.{constructor_of}
use Rattle.scope_class.specs.Inside.{AreClassNames}
use Rattle.scope_program.specs.Classes.{number_at, position_of}
use Rattle.scope_program.specs.Places.{at_place}
use Rattle.scope_program.proofs.Scopes.{number-found, texts-seen}
use Rattle.scope_program.proofs.Trees.{bounded, has-constructor}
use Rattle.scope_program.proofs.class.scope_of.Goals as goal

pub returns : goal.returns
returns c =
    let texts = c.args.declarations.names.now in
    let numbered = c.args.declarations.numbered.now in
    let parameters = c.args.parameters.now in
    let place = place_of c.args.name.now in
    let found : position_of numbered place ≡ Some c.in-Some.declaration =
    sym (c.requires.placed place) ∙ ap (at_place c.args.declarations.places.now) (sym c.place_of.ensures) ∙ sym c.in-Some.ensures in
    let same : c.in-Some.declaration ≡ number_at numbered place = sym (number-found numbered place c.in-Some.declaration found) in
    let written : List Text = map (λ (p : TypeParameter). text_of p.name) parameters in
    let seen : List Text = map (λ (p : u.TypeParameter). text_of p.name) (map view.type_parameter parameters) in
    record {
      library = refl;
      declaration = same;
      name = c.in_ok-from_slice.ensures ∙ c.text_of.ensures;
      parameters = c.in-Ok.ensures.1 ∙ sym (length-map (map view.type_parameter parameters) (λ (p : u.TypeParameter). text_of p.name) ∙ length-map parameters view.type_parameter);
      is_bounded = c.is_bounded.ensures ∙ bounded parameters;
      is_mixed = refl;
      has_constructor = c.has_constructor.ensures ∙ has-constructor c.args.members.now;
      accessors = c.in_ok-accessor_count.ensures;
      ways = c.in_ok-ways.ensures;
      names = subst (λ n. AreClassNames texts numbered c.args.library n seen c.in_ok-names.names) same
          (subst (λ (l : List Text). AreClassNames texts numbered c.args.library c.in-Some.declaration l c.in_ok-names.names) (texts-seen parameters) c.in_ok-names.ensures);
      constructors = λ id. c.in_ok-constructors.ensures id ∙ ap (λ n. constructor_of texts numbered n c.deref.result.now id) same
          ∙ ap (λ ways. constructor_of texts numbered (number_at numbered place) ways id) (c.deref.ensures.value ∙ c.in_ok-ways.ensures);
    }
