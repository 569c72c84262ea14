use Rattle.std.proofs.Common.{◌∙◌, ◌++◌, cond, codes, sym, ap}
use Rattle.native_name.specs.Name.{native_named}
use Rattle.lower_added.proofs.native.role_native.Goals as goal

pub returns : goal.returns
returns c =
    c.native_named.ensures.named
    ∙ ap (λ b. native_named c.args.class.now (cond b (c.args.name.now ++ codes "=") c.args.name.now)) (sym (sym c.is_setter.ensures ∙ c.if-is_setter.false))
