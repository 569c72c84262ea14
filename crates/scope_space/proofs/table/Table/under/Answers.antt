use Rattle.std.proofs.Common.{◌≡◌, ◌∙◌, ◌-◌, ◌≤◌, true, false, length, take, drop, ltb, leb, sym, ap, subst, rules, arith}
use Rattle.std.specs.List.Sorted.{IsNonDecreasingBy, IsPartitionPoint}
use Rattle.std.proofs.lemmas.List.Sorted.{IsPartitionPoint-from_clause, IsPartitionedBy-leb, IsPartitionedBy-ltb}
use Rattle.scope_space.proofs.Parts.{ordered, found}
use Rattle.scope_space.proofs.table.Table.under.Goals as goal

pub slice_bounds-result-count : goal.slice_bounds-result-count
slice_bounds-result-count g c =
    let n = g.T.Keyed.key_of in
    let up : IsNonDecreasingBy n c.deref.result.now = subst (IsNonDecreasingBy n) (sym c.deref.ensures.value) c.self.invariant in
    let up-2 : IsNonDecreasingBy n c.deref-2.result.now = subst (IsNonDecreasingBy n) (sym c.deref-2.ensures.value) c.self.invariant in
    let first = IsPartitionPoint-from_clause (λ y. ltb (n y) c.args.key) _ _ c.partition_point-first.ensures.partitioned (IsPartitionedBy-ltb n _ c.args.key up) (λ a r q k. search rules) in
    let last = IsPartitionPoint-from_clause (λ y. leb (n y) c.args.key) _ _ c.partition_point-end.ensures.partitioned (IsPartitionedBy-leb n _ c.args.key up-2) (λ a r q k. search rules) in
    ordered n c.args.key c.deref.result.now _ _ c.partition_point-first.ensures.bound first
    (subst (λ xs. IsPartitionPoint (λ y. leb (n y) c.args.key ≡ true) (λ y. leb (n y) c.args.key ≡ false) xs c.partition_point-end.result) (c.deref-2.ensures.value ∙ sym c.deref.ensures.value) last)

pub slice_bounds-result-start : goal.slice_bounds-result-start
slice_bounds-result-start g c =
    let up = slice_bounds-result-count g c in
    let first : c.partition_point-first.result ≤ length c.deref-3.result.now =
    subst (λ xs. c.partition_point-first.result ≤ length xs) (c.deref.ensures.value ∙ sym c.deref-3.ensures.value) c.partition_point-first.ensures.bound in
    let last : c.partition_point-end.result ≤ length c.deref-3.result.now =
    subst (λ xs. c.partition_point-end.result ≤ length xs) (c.deref-2.ensures.value ∙ sym c.deref-3.ensures.value) c.partition_point-end.ensures.bound in
    omega (arith, up, first, last)

pub returns : goal.returns
returns g c =
    let n = g.T.Keyed.key_of in
    let same : c.deref.result.now ≡ c.args.self.now = c.deref.ensures.value ∙ c.self.view_is in
    let same-2 : c.deref-2.result.now ≡ c.args.self.now = c.deref-2.ensures.value ∙ c.self.view_is in
    let same-3 : c.deref-3.result.now ≡ c.args.self.now = c.deref-3.ensures.value ∙ c.self.view_is in
    let up : IsNonDecreasingBy n c.deref.result.now = subst (IsNonDecreasingBy n) (sym c.deref.ensures.value) c.self.invariant in
    let up-2 : IsNonDecreasingBy n c.deref-2.result.now = subst (IsNonDecreasingBy n) (sym c.deref-2.ensures.value) c.self.invariant in
    let first = IsPartitionPoint-from_clause (λ y. ltb (n y) c.args.key) _ _ c.partition_point-first.ensures.partitioned (IsPartitionedBy-ltb n _ c.args.key up) (λ a r q k. search rules) in
    let last = IsPartitionPoint-from_clause (λ y. leb (n y) c.args.key) _ _ c.partition_point-end.ensures.partitioned (IsPartitionedBy-leb n _ c.args.key up-2) (λ a r q k. search rules) in
    let first-now = subst (λ xs. IsPartitionPoint (λ y. ltb (n y) c.args.key ≡ true) (λ y. ltb (n y) c.args.key ≡ false) xs c.partition_point-first.result) same first in
    let last-now = subst (λ xs. IsPartitionPoint (λ y. leb (n y) c.args.key ≡ true) (λ y. leb (n y) c.args.key ≡ false) xs c.partition_point-end.result) same-2 last in
    let inside : c.partition_point-first.result ≤ length c.args.self.now = subst (λ xs. c.partition_point-first.result ≤ length xs) same c.partition_point-first.ensures.bound in
    let inside-2 : c.partition_point-end.result ≤ length c.args.self.now = subst (λ xs. c.partition_point-end.result ≤ length xs) same-2 c.partition_point-end.ensures.bound in
    ap (λ xs. take (c.partition_point-end.result - c.partition_point-first.result) (drop c.partition_point-first.result xs)) same-3
    ∙ sym (found n c.args.key c.args.self.now _ _ (ordered n c.args.key c.args.self.now _ _ inside first-now last-now) inside-2 first-now last-now)
