use Rattle.std.proofs.Common.{◌∙◌, Some, ap}
use Rattle.std.specs.Option.{option_map}
use Rattle.lower_annotation.specs.Instance.{instance}
use Rattle.lower_table.specs.Seen.{tys}
use Rattle.lower_table.proofs.mixin.mixin_with.Goals as goal

pub returns-in-None : goal.returns-in-None
returns-in-None c = λ texts. ap (option_map (instance (tys texts c.args.given.now))) (c.in-None.ensures texts)

pub returns-in_ok-instance-in-Some : goal.returns-in_ok-instance-in-Some
returns-in_ok-instance-in-Some c = λ texts.
    ap Some (c.in_ok-instance-in-Some.ensures texts) ∙ ap (option_map (instance (tys texts c.args.given.now))) (c.in-Some.ensures texts)
