use Rattle.std.proofs.Common.{◌≡◌, ℕ, ◌<◌, ◌≤◌, false, List, [], ◌∷◌, ◌++◌, get_or, length, length-append, sym, ap, subst, arith}
use Rattle.scope_declared.specs.declared.declaration.Declared.{Declared}
use Rattle.scope_table.specs.Order.{Encloses, place_before}
use Rattle.scope_table.proofs.Best.{Encloses-push}
use Rattle.scope_table.proofs.lookup.enclosing.Goals as goal

pub first_within-first-requires-clause-enclosing : goal.first_within-first-requires-clause-enclosing
first_within-first-requires-clause-enclosing c =
    subst (λ (l : List ℕ). Encloses c.args.entries.now l) (sym c.deref.ensures.value) c.loop-index.invariant.enclosing

pub loop-index-preserved : goal.loop-index-preserved
loop-index-preserved c =
    let long : length c.push.new.self.items ≡ length (c.loop-index.outer.items ++ c.first_within-first.result ∷ []) = ap length c.in_ok-push.ensures.items in
    record {
      one_each = omega (arith, long, length-append c.loop-index.outer.items (c.first_within-first.result ∷ []), c.loop-index.invariant.one_each);
      enclosing =
          subst (λ (l : List ℕ). Encloses c.args.entries.now l) (sym c.in_ok-push.ensures.items)
          (Encloses-push c.args.entries.now c.loop-index.outer.items c.first_within-first.result c.loop-index.invariant.enclosing
          (omega (arith, c.loop-index.invariant.one_each, c.first_within-first.ensures.below))
          (subst (λ (n : ℕ). (j : ℕ) (d : Declared) → c.first_within-first.result ≤ j → j < n → place_before (get_or c.args.entries.now n d).extent.last (get_or c.args.entries.now j d).extent.last ≡ false)
          (sym c.loop-index.invariant.one_each) c.first_within-first.ensures.shorter));
    }
