use Rattle.class_size.proofs.Firsts.{superclass_first, mixin_first, interface_first}
use Rattle.class_size.proofs.first.Scan.first_of_header.Goals as goal

pub returns-in-Some : goal.returns-in-Some
returns-in-Some c = superclass_first c.args.self.now.sizes.classes.now c.args.self.now.numbers.now c.args.declaration.now c.listed-superclass.result.now c.listed-superclass.ensures c.in_ok-place.field-0 c.in-Some.place c.in-Some.is c.in_ok-place.ensures

pub returns-in-Some-2 : goal.returns-in-Some-2
returns-in-Some-2 c = mixin_first c.args.self.now.sizes.classes.now c.args.self.now.numbers.now c.args.declaration.now c.listed-superclass.result.now c.listed-superclass.ensures c.in_ok-place.field-0 c.in_ok-place-2.field-0 c.in-Some-2.place c.in_default.is c.in_ok-place.ensures c.deref.result.now c.deref.ensures.value c.in-Some-2.is c.in_ok-place-2.ensures

pub returns : goal.returns
returns c = interface_first c.args.self.now.sizes.classes.now c.args.self.now.numbers.now c.args.declaration.now c.listed-superclass.result.now c.listed-superclass.ensures c.in_ok-place.field-0 c.in_ok-place-2.field-0 c.in_ok-last.last c.in_default.is c.in_ok-place.ensures c.deref.result.now c.deref-2.result.now c.deref.ensures.value c.deref-2.ensures.value c.in_default-2.is c.in_ok-place-2.ensures c.in_ok-last.ensures
