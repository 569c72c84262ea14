-- What units have under a table of names they have under one that begins with it.
use Rattle.std.proofs.Common.{◌≡◌, ◌∙◌, ℕ, ◌<◌, arith, List, [], ◌∷◌, ◌++◌, map, length, Option, Some, None, refl, sym, ap, ap₂}
use Rattle.std.specs.List.{flat_map}
use Rattle.std.proofs.lemmas.List.{length-append}
use Rattle.std.proofs.lemmas.List.Elements.{All-weaker}
use Rattle.dart_base.specs.declared.place.Place.{Place}
use Rattle.dart_ir.specs.Ty.{ty, function_ty}
use Rattle.dart_ir.specs.declared.types.TypeRef.{TypeRef}
use Rattle.dart_ir.specs.declared.class.Classes.{Classes}
use Rattle.core_names.specs.Names.{ty_option_names}
use Rattle.core_program.specs.ProgramView.{ty_option, text_at}
use Rattle.class_fault.specs.declared.fault.Fault.{Fault}
use Rattle.class_fault.specs.declared.program.HeaderType.{HeaderType}
use Rattle.class_fault.specs.declared.program.Member.{Member}
use Rattle.class_fault.specs.declared.program.Declaration.{Declaration}
use Rattle.class_fault.specs.declared.program.Program.{Program}
use Rattle.class_source.specs.Source.{SourceUnit, Given}
use Rattle.class_source.specs.View as source
use Rattle.class_within.specs.Built.{IsTableFrom, IsFaultFrom, IsLargeFrom}
use Rattle.class_within.specs.Names.{superclass_names, header_type_names, member_names, class_names, program_names}
use Rattle.class_within.specs.View as view
use Rattle.class_within.specs.Within.{AreWithin}
use Rattle.translation.specs.Surroundings.{Text}
use Rattle.laws_table.proofs.Agreed.{Agree, halves, ty_agreed, agree_within}

module _ (texts more : List Text) where
  abbrev pub longer : List Text
  longer = texts ++ more

  abbrev pub Kept : List ℕ → Type 0
  Kept = Agree (text_at texts) (text_at longer)

  abbrev parts : (xs ys : List ℕ) → Kept (xs ++ ys) → Kept xs × Kept ys
  parts = halves (text_at texts) (text_at longer)

  pub all_kept : {A B C : Type 0} (names : B → List ℕ) (show : A → B) (one other : A → C) → ((x : A) → Kept (names (show x)) → one x ≡ other x)
      → (xs : List A) → Kept (flat_map names (map show xs)) → map one xs ≡ map other xs
  all_kept names show one other each [] h = refl
  all_kept names show one other each (x ∷ xs) h =
      let r = parts (names (show x)) (flat_map names (map show xs)) h in ap₂ (λ y ys. y ∷ ys) (each x r.0) (all_kept names show one other each xs r.1)

  -- ---- declarations

  bound_kept : (o : Option TypeRef) → Kept (ty_option_names (ty_option o)) → source.bound texts o ≡ source.bound longer o
  bound_kept None h = refl
  bound_kept (Some t) h = ap Some (ty_agreed (text_at texts) (text_at longer) (ty t) h)

  header_type_kept : (t : HeaderType) → Kept (header_type_names (view.header_type t)) → source.header_type texts t ≡ source.header_type longer t
  header_type_kept t h = λ i. record { place = t.place; of = ty_agreed (text_at texts) (text_at longer) (ty t.of) h i }

  superclass_kept : (o : Option HeaderType) → Kept (superclass_names (view.superclass o)) → source.superclass texts o ≡ source.superclass longer o
  superclass_kept None h = refl
  superclass_kept (Some t) h = ap Some (header_type_kept t h)

  member_kept : (m : Member) → Kept (member_names (view.member m)) → source.member texts m ≡ source.member longer m
  member_kept m h = λ i. record (source.member texts m) {
    name = h.0 i;
    signature = ty_agreed (text_at texts) (text_at longer) (function_ty m.signature) h.1 i;
  }

  class_kept : (x : Declaration) → Kept (class_names (view.class x)) → source.class texts x ≡ source.class longer x
  class_kept x h =
      let c = view.class x in
      let bounds = flat_map ty_option_names c.bounds in
      let above = superclass_names c.superclass in
      let mixins = flat_map header_type_names c.mixins in
      let interfaces = flat_map header_type_names c.interfaces in
      let members = flat_map member_names c.members in
      let four = parts (bounds ++ above ++ mixins ++ interfaces) members h.1 in
      let three = parts (bounds ++ above ++ mixins) interfaces four.0 in
      let two = parts (bounds ++ above) mixins three.0 in
      let one = parts bounds above two.0 in
      λ i. record (source.class texts x) {
        name = h.0 i;
        bounds = all_kept ty_option_names ty_option (source.bound texts) (source.bound longer) bound_kept x.bounds.items one.0 i;
        superclass = superclass_kept x.superclass one.1 i;
        mixins = all_kept header_type_names view.header_type (source.header_type texts) (source.header_type longer) header_type_kept x.mixins.items two.1 i;
        interfaces = all_kept header_type_names view.header_type (source.header_type texts) (source.header_type longer) header_type_kept x.interfaces.items three.1 i;
        members = all_kept member_names view.member (source.member texts) (source.member longer) member_kept x.members.items four.1 i;
      }

  -- ---- a program that has the classes of units

  within_longer : (q : Program) → AreWithin (length texts) q → AreWithin (length longer) q
  within_longer q within = All-weaker (λ x. x < length texts) (λ x. x < length longer)
      (λ x less. let e = length-append texts more in omega (arith, e, less)) (program_names (view.program q)) within

  source_longer : (given : Given) (units : List SourceUnit) (q : Program) → source.IsSource given units texts q → AreWithin (length texts) q
      → source.IsSource given units longer q
  source_longer given units q a within =
      let kept = agree_within texts more (program_names (view.program q)) within in
      record {
        classes = sym (all_kept class_names view.class (source.class texts) (source.class longer) class_kept q.declarations.items kept.1) ∙ a.classes;
        object = a.object;
        function = a.function;
        call = sym kept.0 ∙ a.call;
      }

  pub table_longer : (given : Given) (units : List SourceUnit) (k : Classes) → IsTableFrom given units texts k → IsTableFrom given units longer k
  table_longer given units k (q, a, within, sized) = (q, source_longer given units q a within, within_longer q within, sized)

  pub fault_longer : (given : Given) (units : List SourceUnit) (f : Fault) → IsFaultFrom given units texts f → IsFaultFrom given units longer f
  fault_longer given units f (q, a, within, refused) = (q, source_longer given units q a within, within_longer q within, refused)

  pub large_longer : (given : Given) (units : List SourceUnit) (place : Place) → IsLargeFrom given units texts place → IsLargeFrom given units longer place
  large_longer given units place (q, a, within, large) = (q, source_longer given units q a within, within_longer q within, large)
