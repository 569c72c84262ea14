use Rattle.std.proofs.Common.{◌≡◌, length, vec_len, rules, sym, ◌∙◌}
use Rattle.std.proofs.lemmas.Bool.{eqb-true}
use Rattle.type_tests.proofs.Tested.{nothing_in, class_object}
use Rattle.type_tests.proofs.tests.valid.is_object.Goals as goal

pub returns-else-e-ne0 : goal.returns-else-e-ne0
returns-else-e-ne0 c = λ h.
    let e : vec_len c.in-Class.ts ≡ 0 = eqb-true (vec_len c.in-Class.ts) 0 (sym c.is_empty.ensures ∙ h) in
    let l : length c.in-Class.ts.items ≡ vec_len c.in-Class.ts = search rules in
    class_object c.args.t.now c.in-Class.e c.in-Class.ts c.in-Class.is c.if-e-ne0.false (nothing_in c.in-Class.ts.items (l ∙ e))
