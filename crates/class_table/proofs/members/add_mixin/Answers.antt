use Rattle.std.proofs.Common.{map, length, refl, sym, ap, ◌∙◌, subst as transport}
use Rattle.std.proofs.lemmas.Option.{slice_get_read}
use Rattle.dart_ir.specs.Ty.{ty}
use Rattle.dart_ir.specs.declared.class.ClassInfo.{ClassInfo}
use Rattle.dart_ir.proofs.View.{ty_dynamic, ty_bottom, ty_void, ty_param, ty_function, function_out}
use Rattle.class_table.specs.Renumbered.{renumbered}
use Rattle.class_table.specs.Members.{Adds, AreBelow}
use Rattle.class_table.proofs.Mixed.{of_mixin, past_mixin, no_mixin}
use Rattle.class_table.proofs.members.add_mixin.Goals as goal

pub returns-then-number-before : goal.returns-then-number-before
returns-then-number-before c = past_mixin c.args.members.now.items c.args.before.now c.args.draft.now.numbers.now c.args.draft.now.row c.number_of-number.result c.args.mixin.now c.in-Class.class c.in-Class.given c.new-none.result.items c.in-Class.is c.number_of-number.ensures c.if-number-before.true c.new-none.ensures.items

pub add_mixed-requires : goal.add_mixed-requires
add_mixed-requires c =
    transport (AreBelow (length c.args.members.now.items)) (sym (c.deref-in-Class-2.ensures.value ∙ ap (λ (z : ClassInfo). z.members.items) (sym c.index-before-number.is)))
    (c.requires c.number_of-number.result c.index-before-number.result (slice_get_read c.args.before.now (length c.args.before.now) c.number_of-number.result c.index-before-number.result refl c.if-number-before.false c.index-before-number.is))

pub returns-in_ok-ids-in-Class : goal.returns-in_ok-ids-in-Class
returns-in_ok-ids-in-Class c =
    transport (λ z. Adds c.args.members.now.items c.add_mixed.new.members.items c.in_ok-ids-in-Class.ids.items z c.args.draft.now.row)
    (of_mixin c.args.members.now.items c.args.before.now c.args.draft.now.numbers.now c.args.draft.now.row c.number_of-number.result c.args.mixin.now c.in-Class.class c.in-Class.given c.deref-in-Class.result.now c.index-before-number.result c.deref-in-Class-2.result.now c.in-Class.is
    (ap (map ty) c.deref-in-Class.ensures.value ∙ c.in_ok-arguments-in-Class.ensures ∙ ap (map (λ t. renumbered c.args.draft.now.numbers.now (ty t))) c.deref.ensures.value)
    c.number_of-number.ensures c.if-number-before.false c.index-before-number.is (c.deref-in-Class-2.ensures.value ∙ ap (λ (z : ClassInfo). z.members.items) (sym c.index-before-number.is)))
    c.in_ok-ids-in-Class.ensures

pub returns-in-Dynamic : goal.returns-in-Dynamic
returns-in-Dynamic c = no_mixin c.args.members.now.items c.args.before.now c.args.draft.now.numbers.now c.args.draft.now.row c.args.mixin.now _ c.new-none.result.items (ap ty c.in-Dynamic.is ∙ ty_dynamic) refl c.new-none.ensures.items

pub returns-in-Bottom : goal.returns-in-Bottom
returns-in-Bottom c = no_mixin c.args.members.now.items c.args.before.now c.args.draft.now.numbers.now c.args.draft.now.row c.args.mixin.now _ c.new-none.result.items (ap ty c.in-Bottom.is ∙ ty_bottom) refl c.new-none.ensures.items

pub returns-in-Void : goal.returns-in-Void
returns-in-Void c = no_mixin c.args.members.now.items c.args.before.now c.args.draft.now.numbers.now c.args.draft.now.row c.args.mixin.now _ c.new-none.result.items (ap ty c.in-Void.is ∙ ty_void) refl c.new-none.ensures.items

pub returns-in-Param : goal.returns-in-Param
returns-in-Param c = no_mixin c.args.members.now.items c.args.before.now c.args.draft.now.numbers.now c.args.draft.now.row c.args.mixin.now _ c.new-none.result.items (ap ty c.in-Param.is ∙ ty_param c.in-Param.field-0) refl c.new-none.ensures.items

pub returns-in-Function : goal.returns-in-Function
returns-in-Function c = no_mixin c.args.members.now.items c.args.before.now c.args.draft.now.numbers.now c.args.draft.now.row c.args.mixin.now _ c.new-none.result.items (ap ty c.in-Function.is ∙ ty_function c.in-Function.field-0 ∙ function_out c.in-Function.field-0.value) refl c.new-none.ensures.items
