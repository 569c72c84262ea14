-- Of programs of one shape the same header type is the first that is too large.
use Rattle.std.proofs.Common.{◌≡◌, ℕ, List, [], ◌∷◌, ◌++◌, map, Option, refl, sym, ap, ◌∙◌, subst as transport}
use Rattle.dart_base.specs.declared.place.Place.{Place}
use Rattle.dart_ir.specs.declared.class.Classes.{Classes}
use Rattle.class_order.specs.Order.{AreListed}
use Rattle.class_fault.specs.declared.program.HeaderType.{HeaderType}
use Rattle.class_fault.specs.declared.program.Declaration.{Declaration}
use Rattle.class_fault.specs.declared.program.Program.{Program}
use Rattle.class_size.specs.Size.{IsFirst, all_user_types}
use Rattle.class_size.specs.Built.{IsSizedTo}
use Rattle.class_within.specs.Seen as s
use Rattle.class_within.specs.View as view
use Rattle.laws_class.proofs.Sizes.{too_large_same, first_one}
use Rattle.laws_table.specs.Shape as shape
use Rattle.laws_table.proofs.Like.{declarations_like}
use Rattle.laws_table.proofs.Shapes.{one_numbers, shape_one}
use Rattle.laws_table.proofs.Sizes.{user_seen, users_seen, users_read, first_like}

-- signatures are no header types
users_shaped : (is : List Declaration) → users_seen (map view.class is) ≡ users_seen (map shape.class is)
users_shaped [] = refl
users_shaped (i ∷ is) = ap (λ (z : List s.HeaderType). user_seen (view.class i) ++ z) (users_shaped is)

module _ (p q : Program) (same : shape.program p ≡ shape.program q) where
  users_like : map view.header_type (all_user_types q.declarations.items) ≡ map view.header_type (all_user_types p.declarations.items)
  users_like =
      users_read q.declarations.items ∙ users_shaped q.declarations.items ∙ ap users_seen (sym (declarations_like p q same))
      ∙ sym (users_shaped p.declarations.items) ∙ sym (users_read p.declarations.items)

  pub found_one : (k l : Classes) (f g : Option Place) (a : IsSizedTo p k f) (b : IsSizedTo q l g) → AreListed a.table.headers → f ≡ g
  found_one k l f g a b listed =
      let classes = (shape_one p q same k l a.table b.table listed).classes in
      let users : List HeaderType = all_user_types q.declarations.items in
      let moved : IsFirst l a.table.numbers users g =
      transport (λ (z : List ℕ). IsFirst l z users g) (sym (one_numbers p q same k l a.table b.table listed)) b.first in
      first_one k l a.table.numbers (too_large_same k l classes) (too_large_same l k (sym classes)) (all_user_types p.declarations.items) f g a.first
      (first_like l a.table.numbers users (all_user_types p.declarations.items) g users_like moved)
