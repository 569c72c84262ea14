use Rattle.std.proofs.Common.{◌∙◌, List, length, ap, subst, rules, of_calls}
use Rattle.std.proofs.lemmas.List.Sorted.{answers_always}
use Rattle.scope_declared.specs.declared.declaration.Declared.{Declared}
use Rattle.scope_table.specs.Order.{Encloses}
use Rattle.scope_table.proofs.Ordered.{key, order-from_sorted}
use Rattle.scope_table.proofs.lookup.Scopes.new.Goals as goal

pub invariant_of-result : goal.invariant_of-result
invariant_of-result c = record {
  in_order = order-from_sorted _ (c.in_ok-sort_by_key.ensures.sorted key (answers_always _ _ _ (λ f a r g h. search (rules, of_calls))));
  one_each = c.in_ok-outer.ensures.0 ∙ ap length c.deref.ensures.value;
  enclosing = subst (λ (l : List Declared). Encloses l c.in_ok-outer.outer.items) c.deref.ensures.value c.in_ok-outer.ensures.1;
}
