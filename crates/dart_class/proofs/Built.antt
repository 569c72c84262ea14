-- What is read of a loaded program, as what its names mean.
use Rattle.std.proofs.Common.{◌≡◌, ◌∙◌, true, false, List, map, sym, ap, subst}
use Rattle.dart_tree.specs.UnitView as view
use Rattle.dart_tree.specs.declared.unit.Unit.{Unit}
use Rattle.scope_load.specs.State.{State}
use Rattle.scope_library.specs.Library.{homes_of}
use Rattle.translation.specs.Surroundings.{Text}
use Rattle.class_source.specs.Source.{Given, SourceUnit}
use Rattle.lower_annotation.specs.Annotated.{annotated}
use Rattle.lower_annotation.specs.Seen.{annotations_seen}
use Rattle.lower_annotation.specs.declared.annotations.Annotations.{Annotations}
use Rattle.scope_program.specs.Places.{at_place}
use Rattle.class_reader.specs.Given as reader
use Rattle.class_reader.specs.Given.{given_of}
use Rattle.class_reader.specs.declared.home.Home.{Home}
use Rattle.scope_program.specs.Made.{AreScopesOf}
use Rattle.scope_program.specs.Program.{IsScoping, Scoping}
use Rattle.scope_program.specs.declared.program.ProgramScopes.{ProgramScopes}
use Rattle.dart_class.specs.Around.{around, library_of, number_of}
use Rattle.dart_class.specs.Given.{class_given, source_units, source_units_from}
use Rattle.dart_class.specs.Homes.{homes_from}
use Rattle.dart_class.proofs.Same.{given-same}
use Rattle.dart_class.proofs.Units.{units-same}

module _ (state : State) (s : Scoping) (is : IsScoping state s) (scopes : ProgramScopes) (are : AreScopesOf s scopes)
    (homes : List Home) (units : List Unit) (stand : homes ≡ homes_from state.names 0 scopes.homes.items) (seen : map view.unit units ≡ state.units)
    (made : Annotations)
    (asked : annotations_seen (around false scopes) made ≡ annotated (at_place scopes.places) (around false scopes) scopes.homes.items (map view.unit units)) where
  units-read : reader.source_units homes units ≡ source_units state
  units-read =
      ap (λ (l : List Home). reader.source_units l units) stand ∙ units-same state.names 0 scopes.homes.items units
      ∙ ap (λ l. source_units_from state.names 0 l (map view.unit units)) (are.homes ∙ is.homes) ∙ ap (source_units_from state.names 0 (homes_of state)) seen

  abbrev given : Given
  given = given_of (annotations_seen (around true scopes) made) (annotations_seen (around false scopes) made) (library_of scopes) (number_of scopes)

  given-read : given ≡ class_given state s
  given-read = given-same s scopes are state made (map view.unit units) seen asked

  -- what holds of what is read holds of what names mean
  pub read-as : (P : Given → List SourceUnit → List Text → Type 0) → P given (reader.source_units homes units) scopes.names
      → P (class_given state s) (source_units state) s.texts
  read-as P h =
      subst (P (class_given state s) (source_units state)) are.texts (subst (λ (l : List SourceUnit). P (class_given state s) l scopes.names) units-read
      (subst (λ (g : Given). P g (reader.source_units homes units) scopes.names) given-read h))

  -- and the other way round
  pub read-from : (P : Given → List SourceUnit → Type 0) → P (class_given state s) (source_units state) → P given (reader.source_units homes units)
  read-from P h =
      subst (λ (g : Given). P g (reader.source_units homes units)) (sym given-read) (subst (P (class_given state s)) (sym units-read) h)
