-- Declarations within a table come back from what they are with texts for names.
use Rattle.std.proofs.Common.{◌≡◌, ℕ, ◌<◌, List, [], ◌∷◌, ◌++◌, map, length, Option, Some, None, refl, sym, ap, ap₂, ◌∙◌}
use Rattle.std.specs.List.{flat_map}
use Rattle.std.proofs.lemmas.List.Elements.{All-weaker, recursion_from_All}
use Rattle.dart_base.specs.Names.{AreDistinct}
use Rattle.dart_ir.specs.Ty.{ty, function_ty}
use Rattle.dart_ir.specs.declared.types.TypeRef.{TypeRef}
use Rattle.core_program.specs.Named as named
use Rattle.core_program.specs.ProgramView.{ty_option, text_at}
use Rattle.core_names.specs.Names.{ty_option_names}
use Rattle.core_names.specs.Within.{number_at}
use Rattle.core_names.proofs.Back as back
use Rattle.core_names.proofs.Found.{number_back}
use Rattle.class_fault.specs.declared.program.HeaderType.{HeaderType}
use Rattle.class_fault.specs.declared.program.Member.{Member}
use Rattle.class_fault.specs.declared.program.Declaration.{Declaration}
use Rattle.class_fault.specs.declared.program.Program.{Program}
use Rattle.translation.specs.Surroundings.{Text}
use Rattle.class_source.specs.Rows as r
use Rattle.class_source.specs.Source.{SourceUnit, Given}
use Rattle.class_source.specs.View as source
use Rattle.class_within.specs.Seen as s
use Rattle.class_within.specs.View as view
use Rattle.class_within.specs.Names.{superclass_names, header_type_names, member_names, class_names, program_names}
use Rattle.class_within.specs.Within.{AreWithin}

module _ (texts : List Text) where
  abbrev Back : List ℕ → Type 0
  Back = back.Back (text_at texts) (number_at texts)

  abbrev halves : (xs ys : List ℕ) → Back (xs ++ ys) → Back xs × Back ys
  halves = back.halves (text_at texts) (number_at texts)

  all_back : {A B C : Type 0} (names : B → List ℕ) (show : A → B) (there : A → C) (again : C → B)
      → ((x : A) → Back (names (show x)) → again (there x) ≡ show x)
      → (xs : List A) → Back (flat_map names (map show xs)) → map again (map there xs) ≡ map show xs
  all_back names show there again each [] h = refl
  all_back names show there again each (x ∷ xs) h =
      let parts = halves (names (show x)) (flat_map names (map show xs)) h in
      ap₂ (λ y ys. y ∷ ys) (each x parts.0) (all_back names show there again each xs parts.1)

  -- ---- what is said with texts for names, with their numbers

  abbrev pub header_type : r.HeaderType → s.HeaderType
  header_type t = record { place = t.place; of = named.ty (number_at texts) t.of }

  abbrev pub superclass : Option r.HeaderType → Option s.HeaderType
  superclass None = None
  superclass (Some t) = Some (header_type t)

  abbrev pub member : r.Member → s.Member
  member m = record {
    name = number_at texts m.name;
    role = m.role;
    function = m.function;
    signature = named.ty (number_at texts) m.signature;
    place = m.place;
    has_body = m.has_body;
  }

  abbrev pub class : r.Class → s.Class
  class x = record {
    name = number_at texts x.name;
    library = x.library;
    place = x.place;
    declaration = x.declaration;
    is_abstract = x.is_abstract;
    is_application = x.is_application;
    standing = x.standing;
    bounds = map (named.ty_option (number_at texts)) x.bounds;
    superclass = superclass x.superclass;
    mixins = map header_type x.mixins;
    interfaces = map header_type x.interfaces;
    members = map member x.members;
    fields = x.fields;
  }

  -- ---- they are what they were

  bound_back : (o : Option TypeRef) → Back (ty_option_names (ty_option o)) → named.ty_option (number_at texts) (source.bound texts o) ≡ ty_option o
  bound_back None h = refl
  bound_back (Some t) h = ap Some (back.ty_back (text_at texts) (number_at texts) (ty t) h)

  header_type_back : (t : HeaderType) → Back (header_type_names (view.header_type t)) → header_type (source.header_type texts t) ≡ view.header_type t
  header_type_back t h = λ i. record { place = t.place; of = back.ty_back (text_at texts) (number_at texts) (ty t.of) h i }

  superclass_back : (o : Option HeaderType) → Back (superclass_names (view.superclass o)) → superclass (source.superclass texts o) ≡ view.superclass o
  superclass_back None h = refl
  superclass_back (Some t) h = ap Some (header_type_back t h)

  member_back : (m : Member) → Back (member_names (view.member m)) → member (source.member texts m) ≡ view.member m
  member_back m h = λ i. record {
    name = h.0 i;
    role = m.role;
    function = m.function.0;
    signature = back.ty_back (text_at texts) (number_at texts) (function_ty m.signature) h.1 i;
    place = m.place;
    has_body = m.has_body;
  }

  class_back : (x : Declaration) → Back (class_names (view.class x)) → class (source.class texts x) ≡ view.class x
  class_back x h =
      let c = view.class x in
      let bounds = flat_map ty_option_names c.bounds in
      let above = superclass_names c.superclass in
      let mixins = flat_map header_type_names c.mixins in
      let interfaces = flat_map header_type_names c.interfaces in
      let members = flat_map member_names c.members in
      let four = halves (bounds ++ above ++ mixins ++ interfaces) members h.1 in
      let three = halves (bounds ++ above ++ mixins) interfaces four.0 in
      let two = halves (bounds ++ above) mixins three.0 in
      let one = halves bounds above two.0 in
      λ i. record {
        name = h.0 i;
        library = x.library;
        place = x.place;
        declaration = x.decl.0;
        is_abstract = x.is_abstract;
        is_application = x.is_application;
        standing = x.standing;
        bounds = all_back ty_option_names ty_option (source.bound texts) (named.ty_option (number_at texts)) bound_back x.bounds.items one.0 i;
        superclass = superclass_back x.superclass one.1 i;
        mixins = all_back header_type_names view.header_type (source.header_type texts) header_type header_type_back x.mixins.items two.1 i;
        interfaces = all_back header_type_names view.header_type (source.header_type texts) header_type header_type_back x.interfaces.items three.1 i;
        members = all_back member_names view.member (source.member texts) member member_back x.members.items four.1 i;
        fields = x.fields;
      }

  module _ (distinct : AreDistinct texts) where
    back_within : (p : Program) → AreWithin (length texts) p → Back (program_names (view.program p))
    back_within p within =
        recursion_from_All (λ n. number_at texts (text_at texts n) ≡ n) (program_names (view.program p))
        (All-weaker (λ n. n < length texts) (λ n. number_at texts (text_at texts n) ≡ n) (number_back texts distinct) (program_names (view.program p)) within)

    pub classes_back : (p : Program) → AreWithin (length texts) p → map class (map (source.class texts) p.declarations.items) ≡ map view.class p.declarations.items
    classes_back p within =
        all_back class_names view.class (source.class texts) class class_back p.declarations.items (back_within p within).1

    pub call_back : (p : Program) → AreWithin (length texts) p → number_at texts (text_at texts p.call.0) ≡ p.call.0
    call_back p within = (back_within p within).0

    pub same_program : (given : Given) (units : List SourceUnit) (p q : Program) → source.IsSource given units texts p → source.IsSource given units texts q
        → AreWithin (length texts) p → AreWithin (length texts) q → view.program p ≡ view.program q
    same_program given units p q a b v w =
        let classes = sym (classes_back p v) ∙ ap (map class) (a.classes ∙ sym b.classes) ∙ classes_back q w in
        let object = a.object ∙ sym b.object in
        let function = a.function ∙ sym b.function in
        let call = sym (call_back p v) ∙ ap (number_at texts) (a.call ∙ sym b.call) ∙ call_back q w in
        λ i. record { classes = classes i; object = object i; function = function i; call = call i }
