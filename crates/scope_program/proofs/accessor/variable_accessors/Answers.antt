use Rattle.std.proofs.Common.{◌≡◌, ◌∙◌, ◌+◌, length, sym, ap}
use Rattle.dart_tree.specs.declared.statement.Variables.{out-Variables}
use Rattle.scope_program.proofs.Accessors.{final-counted, other-counted}
use Rattle.scope_program.proofs.accessor.variable_accessors.Goals as goal

pub returns-then-is_final : goal.returns-then-is_final
returns-then-is_final c =
    let names : c.in-Some.names ≡ length (out-Variables c.args.x.now).more.items + 1 =
    c.in-Some.ensures.1 ∙ ap (λ n. n + 1) (c.in-Ok.ensures.1 ∙ ap length c.as_slice-behind.ensures.value) in
    final-counted c.args.x.now c.in-Some.names names (sym c.is_final.ensures ∙ c.if-is_final.true)

pub returns-in-Some-checked_mul : goal.returns-in-Some-checked_mul
returns-in-Some-checked_mul c =
    let names : c.in-Some.names ≡ length (out-Variables c.args.x.now).more.items + 1 =
    c.in-Some.ensures.1 ∙ ap (λ n. n + 1) (c.in-Ok.ensures.1 ∙ ap length c.as_slice-behind.ensures.value) in
    other-counted c.args.x.now c.in-Some.names c.in-Some-checked_mul.all names c.in-Some-checked_mul.ensures.1 (sym c.is_final.ensures ∙ c.if-is_final.false)
