use Rattle.std.proofs.Common.{subst}
use Rattle.scope_space.specs.Building.{IsAllHanded, AreSpacesFrom}
use Rattle.scope_space.proofs.Entries.{all_sorted}
use Rattle.scope_space.proofs.spaces.Spaces.new.Goals as goal

pub invariant_of-result : goal.invariant_of-result
invariant_of-result c =
    let list = c.in_ok-handed_of in
    let handed = c.in_ok-handed.handed in
    record {
      handed = handed;
      all = subst (λ libraries. IsAllHanded libraries handed) c.deref.ensures.value
          (all_sorted c.deref.result.now list.field-0.items handed c.in_ok-handed.ensures list.ensures.sound list.ensures.complete);
      from = subst (λ libraries. AreSpacesFrom handed libraries c.in_ok-tables.tables.items) c.deref-2.ensures.value c.in_ok-tables.ensures;
    }
