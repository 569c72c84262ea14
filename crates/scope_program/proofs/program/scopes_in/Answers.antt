use Rattle.std.proofs.Common.{◌≡◌, ◌∙◌, ◌<◌, ℕ, List, length, map, refl, sym, ap, subst, rules}
use Rattle.std.specs.Prelude.{codes, slice_index_or, All}
use Rattle.std.proofs.lemmas.List.{length-map}
use Rattle.dart_tree.specs.UnitView as view
use Rattle.scope_declared.specs.declared.declaration.Declared.{Declared}
use Rattle.translation.specs.Surroundings.{Text}
use Rattle.scope_library.specs.declared.library.TheConstants.{CORE_UNIT}
use Rattle.scope_dictionary.specs.Names.{AreAllNames, names_of}
use Rattle.scope_program.specs.Classes.{ClassScope, class_called, class_scopes, position_of}
use Rattle.scope_program.specs.Made.{AreClassesOf, made_called}
use Rattle.scope_program.specs.declared.class.ClassScope as made
use Rattle.scope_program.proofs.Programs.{called, housed}
use Rattle.scope_program.proofs.program.scopes_in.Goals as goal

pub returns : goal.returns
returns c =
    let texts = c.args.kept in
    let numbered = c.args.numbered.items in
    let homes = c.args.homes.items in
    let units = map view.unit c.args.units.now in
    let libraries = c.in_ok-libraries.libraries.items in
    let made_classes = c.in_ok-classes.classes.items in
    let all : List ClassScope = class_scopes numbered homes units in
    let declared : c.as_slice-declared.result.now ≡ numbered = c.as_slice-declared.ensures.value in
    let names : AreAllNames texts (record { libraries = c.args.spaces.now; numbered = numbered }) libraries =
    subst (λ (l : List Declared). AreAllNames texts (record { libraries = c.args.spaces.now; numbered = l }) libraries) declared c.in_ok-libraries.ensures in
    let classes : AreClassesOf texts numbered all made_classes =
    subst (λ (l : List Declared). AreClassesOf texts l (class_scopes l homes units) made_classes) declared
    (subst (λ h. AreClassesOf texts c.as_slice-declared.result.now (class_scopes c.as_slice-declared.result.now h units) made_classes) c.as_slice-unit_homes.ensures.value c.in_ok-classes.ensures) in
    let found : c.as_slice-all.result.now ≡ made_classes = c.as_slice-all.ensures.value in
    let kept : All (λ (x : made.ClassScope). x.library < length c.as_slice-known.result.now) c.as_slice-all.result.now =
    search (rules, c.if-not-are_housed.ensures, c.are_housed.ensures, c.if-not-are_housed.false) in
    let count : length c.as_slice-known.result.now ≡ length (map names_of libraries) = ap length c.as_slice-known.ensures.value ∙ sym (length-map libraries names_of) in
    let within : All (λ (x : made.ClassScope). x.library < length (map names_of libraries)) made_classes =
    subst (λ (l : List made.ClassScope). All (λ (x : made.ClassScope). x.library < length (map names_of libraries)) l) found
    (subst (λ n. All (λ (x : made.ClassScope). x.library < n) c.as_slice-all.result.now) count kept) in
    let core : c.core_library-core.result ≡ slice_index_or homes CORE_UNIT 0 =
    c.core_library-core.ensures ∙ ap (λ h. slice_index_or h CORE_UNIT 0) c.as_slice-unit_homes.ensures.value in
    let class_is : (name : Text) (n : ℕ) → n ≡ made_called c.as_slice-all.result.now c.core_library-core.result name → n ≡ class_called all (slice_index_or homes CORE_UNIT 0) name =
    λ name n is. is ∙ ap (λ (l : List made.ClassScope). made_called l c.core_library-core.result name) found
    ∙ ap (λ k. made_called made_classes k name) core ∙ called texts numbered all made_classes classes (slice_index_or homes CORE_UNIT 0) name in (
      libraries,
      names,
      record {
        kept = refl;
        texts = refl;
        homes = refl;
        numbered = refl;
        places = λ place. c.in_ok-places.ensures place ∙ ap (λ (l : List Declared). position_of l place) declared;
        libraries = refl;
        classes = classes;
        housed = housed texts numbered all made_classes classes (length (map names_of libraries)) within;
        core = core;
        main = c.in_ok-main.ensures;
        int_class = class_is (codes "int") c.in_ok-int_class.int_class c.in_ok-int_class.ensures;
        string_class = class_is (codes "String") c.in_ok-string_class.string_class c.in_ok-string_class.ensures;
        map_class = class_is (codes "Map") c.in_ok-map_class.map_class c.in_ok-map_class.ensures;
      },
    )
