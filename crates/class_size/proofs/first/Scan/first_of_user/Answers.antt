use Rattle.std.proofs.Common.{refl}
use Rattle.class_size.proofs.Firsts.{user_first, none_first}
use Rattle.class_size.proofs.first.Scan.first_of_user.Goals as goal

pub returns-then-not-declaration : goal.returns-then-not-declaration
returns-then-not-declaration c = none_first c.args.self.now.sizes.classes.now c.args.self.now.numbers.now c.args.declaration.now c.if-not-declaration.true

pub returns : goal.returns
returns c = user_first c.args.self.now.sizes.classes.now c.args.self.now.numbers.now c.args.declaration.now c.args.declaration.now.standing.is_user c.in_ok-found.found refl c.if-not-declaration.false c.in_ok-found.ensures
