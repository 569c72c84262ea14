-- Units have one table of classes under a table of names, or one reason against it.
use Rattle.std.proofs.Common.{◌≡◌, List, length, Some, None, arith, sym, ap, ◌∙◌}
use Rattle.std.proofs.lemmas.List.{length-map}
use Rattle.std.proofs.lemmas.Option.{same_Some}
use Rattle.dart_base.specs.Names.{AreDistinct}
use Rattle.dart_base.specs.declared.place.Place.{Place}
use Rattle.dart_ir.specs.declared.class.Classes.{Classes}
use Rattle.class_order.specs.Order.{AreListed}
use Rattle.class_fault.specs.declared.fault.Fault.{Fault}
use Rattle.class_fault.specs.declared.program.Program.{Program}
use Rattle.class_table.specs.Built.{IsBuilt}
use Rattle.translation.specs.Surroundings.{Text}
use Rattle.class_source.specs.Source.{SourceUnit, Given, classes_of}
use Rattle.class_source.specs.View as source
use Rattle.class_within.specs.View as view
use Rattle.class_within.specs.Within.{AreWithin}
use Rattle.class_within.specs.Built.{IsTableFrom, IsFaultFrom, IsLargeFrom}
use Rattle.class_within.proofs.Told.{same_program}
use Rattle.laws_class.specs.Same.{IsSameTable}
use Rattle.laws_class.proofs.Tables.{table_one}
use Rattle.laws_class.proofs.Faults.{not_both, fault_one}
use Rattle.laws_class.proofs.Sizes.{place_one}
use Rattle.laws_table.specs.Roots.{DeclaresRoots}
use Rattle.laws_table.specs.Loose.{loose_classes}
use Rattle.laws_table.specs.Shape.{IsSameShape}
use Rattle.laws_table.proofs.Large.{found_one}
use Rattle.laws_table.proofs.Rowed.{same_shape}
use Rattle.laws_table.proofs.Shapes.{shape_one}
use Rattle.laws_table.proofs.Sizes.{built_like, refused_like, refused_shape, sized_like}
use Rattle.laws_table.proofs.Declared.{are_listed}

module _ (given : Given) (units : List SourceUnit) (texts : List Text) where
  as_many : (p : Program) → source.IsSource given units texts p → length p.declarations.items ≡ length (classes_of given units).classes
  as_many p a = sym (length-map p.declarations.items (source.class texts)) ∙ ap length a.classes

  names_declared : (p : Program) (k : Classes) (a : IsBuilt p k) → source.IsSource given units texts p → DeclaresRoots (classes_of given units) → AreListed a.headers
  names_declared p k a from roots =
      let size = as_many p from in
      let object = from.object in
      let function = from.function in
      let o = roots.object in
      let f = roots.function in
      are_listed p a.headers a.graph a.no_fault (omega (arith, size, object, o)) (omega (arith, size, function, f))

  module _ (distinct : AreDistinct texts) where
    alike : (p q : Program) → source.IsSource given units texts p → source.IsSource given units texts q → AreWithin (length texts) p → AreWithin (length texts) q
        → view.program p ≡ view.program q
    alike = same_program texts distinct given units

    pub one_table : (k l : Classes) → DeclaresRoots (classes_of given units) → IsTableFrom given units texts k → IsTableFrom given units texts l → IsSameTable k l
    one_table k l roots (p, a, v, x) (q, b, w, y) =
        table_one p k l x.table (built_like p q (alike p q a b v w) l y.table) (names_declared p k x.table a roots)

    pub one_fault : (f g : Fault) → IsFaultFrom given units texts f → IsFaultFrom given units texts g → f ≡ g
    one_fault f g (p, a, v, x) (q, b, w, y) = fault_one p f g x (refused_like p q (alike p q a b v w) g y)

    pub one_place : (place other : Place) → DeclaresRoots (classes_of given units) → IsLargeFrom given units texts place → IsLargeFrom given units texts other → place ≡ other
    one_place place other roots (p, a, v, (k, x)) (q, b, w, (l, y)) =
        same_Some place other
        (place_one p k l (Some place) (Some other) x (sized_like p q (alike p q a b v w) l (Some other) y) (names_declared p k x.table a roots))

    pub no_table_with_a_fault : (k : Classes) (f : Fault) → IsTableFrom given units texts k → IsFaultFrom given units texts f → ⊥
    no_table_with_a_fault k f (p, a, v, x) (q, b, w, y) = not_both p k f x.table (refused_like p q (alike p q a b v w) f y)

    pub no_table_with_a_large_type : (k : Classes) (place : Place) → DeclaresRoots (classes_of given units) → IsTableFrom given units texts k
        → IsLargeFrom given units texts place → ⊥
    no_table_with_a_large_type k place roots (p, a, v, x) (q, b, w, (l, y)) =
        let e : None ≡ Some place = place_one p k l None (Some place) x (sized_like p q (alike p q a b v w) l (Some place) y) (names_declared p k x.table a roots) in
        absurd (cc)

    pub no_large_type_with_a_fault : (f : Fault) (place : Place) → IsFaultFrom given units texts f → IsLargeFrom given units texts place → ⊥
    no_large_type_with_a_fault f place (p, a, v, x) (q, b, w, (l, y)) =
        not_both q l f y.table (refused_like q p (alike q p b a w v) f x)

-- units whose classes differ in the types of signatures alone
module _ (given other : Given) (units others : List SourceUnit) (texts : List Text) (distinct : AreDistinct texts)
    (same : loose_classes (classes_of other others) ≡ loose_classes (classes_of given units)) where
  pub tables_of_a_shape : (k l : Classes) → DeclaresRoots (classes_of given units) → IsTableFrom given units texts k → IsTableFrom other others texts l → IsSameShape k l
  tables_of_a_shape k l roots (p, a, v, x) (q, b, w, y) =
      shape_one p q (same_shape texts distinct given other units others same p q a b v w) k l x.table y.table (names_declared given units texts p k x.table a roots)

  pub fault_of_a_shape : (f g : Fault) → IsFaultFrom given units texts f → IsFaultFrom other others texts g → f ≡ g
  fault_of_a_shape f g (p, a, v, x) (q, b, w, y) =
      fault_one p f g x (refused_shape p q (same_shape texts distinct given other units others same p q a b v w) g y)

  pub no_fault_of_a_shape : (k : Classes) (f : Fault) → IsTableFrom given units texts k → IsFaultFrom other others texts f → ⊥
  no_fault_of_a_shape k f (p, a, v, x) (q, b, w, y) =
      not_both p k f x.table (refused_shape p q (same_shape texts distinct given other units others same p q a b v w) f y)

  pub large_of_a_shape : (place at : Place) → DeclaresRoots (classes_of given units) → IsLargeFrom given units texts place → IsLargeFrom other others texts at
      → place ≡ at
  large_of_a_shape place at roots (p, a, v, (k, x)) (q, b, w, (l, y)) =
      same_Some place at
      (found_one p q (same_shape texts distinct given other units others same p q a b v w) k l (Some place) (Some at) x y (names_declared given units texts p k x.table a roots))

  pub no_large_of_a_shape : (k : Classes) (place : Place) → DeclaresRoots (classes_of given units) → IsTableFrom given units texts k → IsLargeFrom other others texts place → ⊥
  no_large_of_a_shape k place roots (p, a, v, x) (q, b, w, (l, y)) =
      let e : None ≡ Some place =
      found_one p q (same_shape texts distinct given other units others same p q a b v w) k l None (Some place) x y (names_declared given units texts p k x.table a roots) in
      absurd (cc)
