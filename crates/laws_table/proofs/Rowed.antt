-- Programs of one shape, from class declarations in which names are texts.
use Rattle.std.proofs.Common.{◌≡◌, List, [], ◌∷◌, map, length, refl, sym, ap, ◌∙◌}
use Rattle.dart_base.specs.Names.{AreDistinct}
use Rattle.dart_ir.specs.Ty.{TyOf, TysOf, NamedTysOf, dynamic, bottom, void, class as class_ty, parameter, function, nil, cons, unnamed, named}
use Rattle.core_program.specs.Named as names
use Rattle.core_program.specs.Stripped.{loose, all_dynamic, all_named_dynamic}
use Rattle.core_names.specs.Within.{number_at}
use Rattle.class_fault.specs.declared.program.Program.{Program}
use Rattle.translation.specs.Surroundings.{Text}
use Rattle.class_source.specs.Rows as r
use Rattle.class_source.specs.Source.{SourceUnit, Given, classes_of}
use Rattle.class_source.specs.View as source
use Rattle.class_within.specs.Within.{AreWithin}
use Rattle.class_within.proofs.Told as told
use Rattle.laws_table.specs.Loose as l
use Rattle.laws_table.specs.Shape as shape
use Rattle.laws_table.proofs.Rows.{classes_shaped}

-- ---- other names for a signature without types

module _ {N M : Type 0} (f : N → M) where
  all_named_as : (ts : TysOf N) → all_dynamic (names.tys f ts) ≡ names.tys f (all_dynamic ts)
  all_named_as nil = refl
  all_named_as (cons t ts) = λ i. cons dynamic (all_named_as ts i)

  named_named_as : (ts : NamedTysOf N) → all_named_dynamic (names.named_tys f ts) ≡ names.named_tys f (all_named_dynamic ts)
  named_named_as unnamed = refl
  named_named_as (named n t ts) = λ i. named (f n) dynamic (named_named_as ts i)

  pub loose_named : (t : TyOf N) → loose (names.ty f t) ≡ names.ty f (loose t)
  loose_named dynamic = refl
  loose_named bottom = refl
  loose_named void = refl
  loose_named (class_ty c ts) = refl
  loose_named (parameter i) = refl
  loose_named (function result required optional names) = λ i. function dynamic (all_named_as required i) (all_named_as optional i) (named_named_as names i)

-- ---- declarations

module _ (texts : List Text) where
  members_told : (ms : List r.Member) → map shape.loose_member (map (told.member texts) ms) ≡ map (told.member texts) (map l.loose_member ms)
  members_told [] = refl
  members_told (m ∷ ms) = λ i. record (told.member texts m) { signature = loose_named (number_at texts) m.signature i } ∷ members_told ms i

  classes_told : (cs : List r.Class) → map shape.loose_class (map (told.class texts) cs) ≡ map (told.class texts) (map l.loose_class cs)
  classes_told [] = refl
  classes_told (c ∷ cs) = λ i. record (told.class texts c) { members = members_told c.members i } ∷ classes_told cs i

  module _ (distinct : AreDistinct texts) where
    -- the shape of a program's declarations, by what they are with texts for names
    shaped : (p : Program) → AreWithin (length texts) p → map shape.class p.declarations.items ≡ map (told.class texts) (map l.loose_class (map (source.class texts) p.declarations.items))
    shaped p within =
        classes_shaped p.declarations.items ∙ ap (map shape.loose_class) (sym (told.classes_back texts distinct p within))
        ∙ classes_told (map (source.class texts) p.declarations.items)

    pub same_shape : (given other : Given) (units others : List SourceUnit) → l.loose_classes (classes_of other others) ≡ l.loose_classes (classes_of given units)
        → (p q : Program) → source.IsSource given units texts p → source.IsSource other others texts q → AreWithin (length texts) p → AreWithin (length texts) q
        → shape.program p ≡ shape.program q
    same_shape given other units others alike p q a b v w =
        let rows : map l.loose_class (map (source.class texts) p.declarations.items) ≡ map l.loose_class (map (source.class texts) q.declarations.items) =
        ap (map l.loose_class) a.classes ∙ sym (ap (λ (z : r.Classes). z.classes) alike) ∙ ap (map l.loose_class) (sym b.classes) in
        let classes = shaped p v ∙ ap (map (told.class texts)) rows ∙ sym (shaped q w) in
        let object = a.object ∙ sym (ap (λ (z : r.Classes). z.object) alike) ∙ sym b.object in
        let function = a.function ∙ sym (ap (λ (z : r.Classes). z.function) alike) ∙ sym b.function in
        let call = sym (told.call_back texts distinct p v) ∙ ap (number_at texts) (a.call ∙ sym b.call) ∙ told.call_back texts distinct q w in
        λ i. record { classes = classes i; object = object i; function = function i; call = call i }
