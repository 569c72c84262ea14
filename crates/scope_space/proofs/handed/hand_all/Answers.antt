use Rattle.std.proofs.Common.{◌≡◌, ◌∙◌, ◌<◌, ◌+◌, length, sym, ap, subst, arith}
use Rattle.std.proofs.lemmas.Option.{slice_get_read, same_Some}
use Rattle.scope_space.specs.Building.{AreHanded, Keeps}
use Rattle.scope_space.proofs.Entries.{AreListed, keeps_then, shared_by, one_more, private_more, all_listed}
use Rattle.scope_space.proofs.handed.hand_all.Goals.{then-is_exported+in_ok-hand_on, else-is_exported+in_ok-hand_alone}
use Rattle.scope_space.proofs.handed.hand_all.Goals as goal

pub loop-declaration-preserved-then-declaration : goal.loop-declaration-preserved-then-declaration
loop-declaration-preserved-then-declaration c = record {
  are = c.loop-declaration.invariant.are;
  kept = c.loop-declaration.invariant.kept;
  listed = private_more c.args.libraries.now c.items-declarations.result.now c.args.owner c.loop-declaration.handed.items c.loop-declaration.declaration-index _
      c.loop-declaration.invariant.listed c.if-declaration.true;
}

pub hand_alone-requires-clause-shared : goal.hand_alone-requires-clause-shared
hand_alone-requires-clause-shared c library is =
    let libraries = c.args.libraries.now in
    let here = c.index-libraries-owner.result in
    let read = slice_get_read libraries (length libraries) c.args.owner here (λ _. length libraries) c.requires.listed c.index-libraries-owner.is in
    let same = same_Some library here (sym is ∙ read) in
    let listed : c.loop-declaration.declaration-index < length c.items-declarations.result.now = omega (arith, c.loop-declaration-test.true) in
    shared_by library here c.items-declarations.result.now c.loop-declaration.declaration-index _ same
    (c.items-declarations.ensures ∙ ap (λ library. library.declarations) (sym c.index-libraries-owner.is)) listed c.if-declaration.false

pub loop-declaration-preserved : goal.loop-declaration-preserved
loop-declaration-preserved c =
    let libraries = c.args.libraries.now in
    let declarations = c.items-declarations.result.now in
    let owner = c.args.owner in
    let i = c.loop-declaration.declaration-index in
    let old = c.args.handed.now.items in
    let now = c.loop-declaration.handed.items in
    let before = c.loop-declaration.invariant in
    elim c.if-is_exported.branch [
      | then-is_exported+in_ok-hand_on w ↦
          let next = w.hand_on.new.handed.items in
          let same : c.if-is_exported.handed.items ≡ next = ap (λ v. v.items) w.handed-is in
          record {
            are = subst (AreHanded libraries) (sym same) w.in_ok-hand_on.ensures.sound;
            kept = subst (Keeps old) (sym same) (keeps_then old now next before.kept w.in_ok-hand_on.ensures.kept);
            listed = subst (λ list. AreListed libraries declarations owner list (i + 1)) (sym same)
                (one_more libraries declarations owner now next i _ w.in_ok-hand_on.ensures.kept before.listed w.in_ok-hand_on.ensures.complete);
          }
      | else-is_exported+in_ok-hand_alone w ↦
          let next = w.hand_alone.new.handed.items in
          let same : c.if-is_exported.handed.items ≡ next = ap (λ v. v.items) w.handed-is in
          record {
            are = subst (AreHanded libraries) (sym same) w.in_ok-hand_alone.ensures.sound;
            kept = subst (Keeps old) (sym same) (keeps_then old now next before.kept w.in_ok-hand_alone.ensures.kept);
            listed = subst (λ list. AreListed libraries declarations owner list (i + 1)) (sym same)
                (one_more libraries declarations owner now next i _ w.in_ok-hand_alone.ensures.kept before.listed w.in_ok-hand_alone.ensures.complete);
          }
    ]

pub returns-clause-complete : goal.returns-clause-complete
returns-clause-complete c =
    let libraries = c.args.libraries.now in
    let here = c.index-libraries-owner.result in
    let read = slice_get_read libraries (length libraries) c.args.owner here (λ _. length libraries) c.requires.listed c.index-libraries-owner.is in
    all_listed libraries c.items-declarations.result.now c.args.owner c.loop-declaration.handed.items here c.loop-declaration.declaration-index read
    (c.items-declarations.ensures ∙ ap (λ library. library.declarations) (sym c.index-libraries-owner.is)) (omega (arith, c.loop-declaration-test.false)) c.loop-declaration.invariant.listed
