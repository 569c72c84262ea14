use Rattle.std.proofs.Common.{◌++◌, ◌∷◌, [], sym, subst}
use Rattle.scope_space.specs.declared.handed.Handed.{Handed}
use Rattle.scope_space.specs.Hands.{Hands.own}
use Rattle.scope_space.specs.Building.{AreHanded, Lists}
use Rattle.scope_space.proofs.Entries.{item_at, more_handed, last_listed, only_owner}
use Rattle.scope_space.proofs.handed.hand_alone.Goals as goal

pub returns-clause-sound : goal.returns-clause-sound
returns-clause-sound c =
    let libraries = c.args.libraries.now in
    let library = item_at libraries c.args.owner c.requires.listed in
    let one : Handed = record { library = c.args.owner; name = c.args.name; owner = c.args.owner; is_dart = c.is_of_dart-is_dart.result } in
    subst (AreHanded libraries) (sym c.in_ok-push.ensures.items)
    (more_handed libraries c.args.handed.now.items one c.requires.are
    (record { hands = own library.item library.is (c.requires.shared library.item library.is); dart = c.is_of_dart-is_dart.ensures }))

pub returns-clause-complete : goal.returns-clause-complete
returns-clause-complete c =
    let libraries = c.args.libraries.now in
    let one : Handed = record { library = c.args.owner; name = c.args.name; owner = c.args.owner; is_dart = c.is_of_dart-is_dart.result } in
    record {
      each = λ at hands. subst (λ list. Lists list c.args.owner c.args.name.0 at) (sym c.in_ok-push.ensures.items)
          (subst (λ at. Lists (c.args.handed.now.items ++ one ∷ []) c.args.owner c.args.name.0 at) (sym (only_owner libraries c.args.name.0 c.args.owner at c.requires.alone hands))
          (last_listed c.args.handed.now.items one));
    }
