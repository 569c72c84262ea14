use Rattle.std.proofs.Common.{◌≡◌, ◌∙◌, ◌-◌, ◌<◌, ◌≤◌, false, List, length, get_or, sym, subst, arith, rules, of_calls}
use Rattle.std.proofs.lemmas.List.{get_or_default}
use Rattle.std.proofs.lemmas.List.Elements.{All-from_get_or}
use Rattle.std.proofs.lemmas.List.Sorted.{IsPartitionPoint-from_clause}
use Rattle.scope_declared.specs.declared.declaration.Declared.{Declared}
use Rattle.scope_table.specs.Lookup.{begins_before}
use Rattle.scope_table.specs.Order.{IsInOrder}
use Rattle.scope_table.proofs.Best.{Begun, Silent, OutlastsFrom, begins_split, finds-none, finds-some, goes-on, nothing, partitioned}
use Rattle.scope_table.proofs.lookup.Scopes.lookup.Goals as goal

pub loop-end-init : goal.loop-end-init
loop-end-init c =
    let order : IsInOrder c.deref.result.now = subst IsInOrder (sym c.deref.ensures.value) c.args.self.now.in_order in
    let point = IsPartitionPoint-from_clause (begins_before c.args.at c.args.name) _ _ c.partition_point-end.ensures.partitioned (partitioned c.args.at c.args.name _ order) (λ a r q k. search (rules, of_calls)) in
    let split = begins_split c.args.at c.args.name _ _ _ c.deref.ensures.value point in
    record {
      silent = split.0;
      begun = split.1;
      within = subst (λ (l : List Declared). c.partition_point-end.result ≤ length l) c.deref.ensures.value c.partition_point-end.ensures.bound;
    }

pub returns-then-one-name : goal.returns-then-one-name
returns-then-one-name c =
    finds-none c.args.at c.args.name c.args.self.now.entries.items (c.loop-end.end - 1) c.loop-end.end c.index-one.result.now
    (omega arith) (omega arith) c.index-one.ensures c.args.self.now.in_order c.loop-end.invariant.silent
    (subst (Begun c.args.at c.args.name) (sym c.index-one.ensures) (c.loop-end.invariant.begun (c.loop-end.end - 1) c.index-one.result.now (omega arith) (omega arith)))
    c.if-one-name.true

pub returns-then-not-place_before : goal.returns-then-not-place_before
returns-then-not-place_before c =
    finds-some c.args.at c.args.name c.args.self.now.entries.items (c.loop-end.end - 1) c.loop-end.end c.index-one.result.now
    (omega arith) (omega arith) c.index-one.ensures c.args.self.now.in_order c.loop-end.invariant.silent
    (subst (Begun c.args.at c.args.name) (sym c.index-one.ensures) (c.loop-end.invariant.begun (c.loop-end.end - 1) c.index-one.result.now (omega arith) (omega arith)))
    c.if-one-name.false (sym c.if-not-place_before.ensures)

pub loop-end-smaller : goal.loop-end-smaller
loop-end-smaller c =
    let within : c.loop-end.end - 1 < length c.args.self.now.outer.items = omega (arith, c.args.self.now.one_each) in
    let low : OutlastsFrom c.args.self.now.entries.items (c.loop-end.end - 1) c.index-end.result.now =
    subst (OutlastsFrom c.args.self.now.entries.items (c.loop-end.end - 1)) (get_or_default c.args.self.now.outer.items (c.loop-end.end - 1) 0 c.index-end.result.now within ∙ sym c.index-end.ensures)
    (c.args.self.now.enclosing (c.loop-end.end - 1) within) in
    omega (arith, low.0)

pub loop-end-preserved : goal.loop-end-preserved
loop-end-preserved c =
    let within : c.loop-end.end - 1 < length c.args.self.now.outer.items = omega (arith, c.args.self.now.one_each) in
    let low : OutlastsFrom c.args.self.now.entries.items (c.loop-end.end - 1) c.index-end.result.now =
    subst (OutlastsFrom c.args.self.now.entries.items (c.loop-end.end - 1)) (get_or_default c.args.self.now.outer.items (c.loop-end.end - 1) 0 c.index-end.result.now within ∙ sym c.index-end.ensures)
    (c.args.self.now.enclosing (c.loop-end.end - 1) within) in
    record {
      silent = goes-on c.args.at c.args.name c.args.self.now.entries.items (c.loop-end.end - 1) c.loop-end.end c.index-one.result.now
          (omega arith) (omega arith) c.index-one.ensures c.index-end.result.now low.1 (sym c.if-not-place_before.ensures) c.loop-end.invariant.silent;
      begun = λ k d from below. c.loop-end.invariant.begun k d from (omega (arith, low.0, below));
      within = omega (arith, low.0);
    }

pub returns : goal.returns
returns c = All-from_get_or (Silent c.args.at c.args.name) c.args.self.now.entries.items nothing (λ k inside. c.loop-end.invariant.silent k nothing (omega arith) inside)
