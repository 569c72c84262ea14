use Rattle.std.proofs.Common.{◌≡◌, length, rules}
use Rattle.dart_type.proofs.Interned.{push_gives}
use Rattle.dart_type.proofs.intern.intern.Goals as goal

pub returns-in_ok-push-in-None : goal.returns-in_ok-push-in-None
returns-in_ok-push-in-None c =
    let e : length c.args.nodes.now.items ≡ c.len-i.result = search rules in
    rw (c.in_ok-push-in-None.ensures.items, ← e) (push_gives c.args.nodes.now.items c.args.node c.requires.built c.requires.over)
