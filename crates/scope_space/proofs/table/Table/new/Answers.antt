use Rattle.std.proofs.Common.{rules}
use Rattle.std.proofs.lemmas.List.Sorted.{IsNonDecreasingBy-from_sort_by_key, answers_always}
use Rattle.scope_space.proofs.Parts.{kept_by_key}
use Rattle.scope_space.proofs.table.Table.new.Goals as goal

pub invariant_of-result : goal.invariant_of-result
invariant_of-result g c = IsNonDecreasingBy-from_sort_by_key g.T.Keyed.key_of _ c.in_ok-sort_by_key.ensures.sorted (λ a r q k. search rules)

pub returns : goal.returns
returns g c key =
    kept_by_key g.T.Keyed.key_of key c.args.items.items c.sort_by_key.new.self.items c.in_ok-sort_by_key.ensures.permutation
    (c.in_ok-sort_by_key.ensures.stable g.T.Keyed.key_of (answers_always _ _ _ (λ f a r q k. search rules)))
