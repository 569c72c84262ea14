use Rattle.std.proofs.Common.{◌≡◌, ◌∙◌, ◌||◌, Bool, true, false, get_or, take, sym, ap₂}
use Rattle.std.specs.HashSet.{contains}
use Rattle.std.specs.List.{list_any}
use Rattle.std.proofs.lemmas.List.{get_or_default}
use Rattle.scope_table.specs.Duplicate.{NameKey, clashes, duplicate_of, same_key}
use Rattle.scope_table.proofs.Best.{nothing}
use Rattle.scope_table.proofs.Clash.{clash_found, first_true, reads_more, search_ends, search_more, search_over, second_true, sets_more}
use Rattle.scope_table.proofs.duplicate.duplicate.Goals as goal
use Rattle.scope_table.proofs.duplicate.duplicate.Goals.{then-is_read_before-via-then-is_read_before, then-is_read_before-via-else-is_read_before+then-is_set_before}

pub returns-then-is_read_before : goal.returns-then-is_read_before
unfolding duplicate_of
returns-then-is_read_before c =
    let x = get_or c.args.declared.now c.loop-one.one-index nothing in
    let is = get_or_default c.args.declared.now c.loop-one.one-index nothing x c.loop-one-test.true in
    let either : (c.in_ok-is_read_before.is_read_before || c.in_ok-is_set_before.is_set_before) ≡ true =
    elim c.then-is_read_before.branch [
      | then-is_read_before-via-then-is_read_before w ↦ first_true _ _ w.if-is_read_before.true
      | then-is_read_before-via-else-is_read_before+then-is_set_before w ↦ second_true _ _ w.if-is_set_before.true
    ] in
    let found : list_any (clashes x) (take c.loop-one.one-index c.args.declared.now) ≡ true =
    sym (clash_found (take c.loop-one.one-index c.args.declared.now) x (λ q. contains same_key c.loop-one.read q) (λ q. contains same_key c.loop-one.set q) _ _ _ _ _
    c.loop-one.invariant.reads c.loop-one.invariant.sets c.key_of-key.ensures c.is_read.ensures c.is_set.ensures c.in_ok-is_read_before.ensures.taken c.in_ok-is_set_before.ensures.taken) ∙ either in
    sym (search_ends c.args.declared.now c.loop-one.one-index x c.loop-one-test.true is found) ∙ c.loop-one.invariant.search

pub loop-one-preserved : goal.loop-one-preserved
loop-one-preserved c =
    let x = get_or c.args.declared.now c.loop-one.one-index nothing in
    let is = get_or_default c.args.declared.now c.loop-one.one-index nothing x c.loop-one-test.true in
    let none : list_any (clashes x) (take c.loop-one.one-index c.args.declared.now) ≡ false =
    sym (clash_found (take c.loop-one.one-index c.args.declared.now) x (λ q. contains same_key c.loop-one.read q) (λ q. contains same_key c.loop-one.set q) _ _ _ _ _
    c.loop-one.invariant.reads c.loop-one.invariant.sets c.key_of-key.ensures c.is_read.ensures c.is_set.ensures c.in_ok-is_read_before.ensures.taken c.in_ok-is_set_before.ensures.taken)
    ∙ ap₂ (λ (a b : Bool). a || b) c.if-is_read_before.false c.if-is_set_before.false in
    record {
      reads = reads_more c.args.declared.now c.loop-one.one-index x (λ q. contains same_key c.loop-one.read q) (λ q. contains same_key c.is_taken.new.seen q) _ _
          c.loop-one-test.true is c.loop-one.invariant.reads c.key_of-key.ensures c.is_read.ensures (c.in_ok-is_read_before.ensures.put c.if-is_read_before.false);
      sets = sets_more c.args.declared.now c.loop-one.one-index x (λ q. contains same_key c.loop-one.set q) (λ q. contains same_key c.is_taken-in-loop-one.new.seen q) _ _
          c.loop-one-test.true is c.loop-one.invariant.sets c.key_of-key.ensures c.is_set.ensures (c.in_ok-is_set_before.ensures.put c.if-is_set_before.false);
      search = sym (search_more c.args.declared.now c.loop-one.one-index x c.loop-one-test.true is none) ∙ c.loop-one.invariant.search;
    }

pub returns : goal.returns
unfolding duplicate_of
returns c = sym (search_over c.args.declared.now c.loop-one.one-index c.loop-one-test.false) ∙ c.loop-one.invariant.search
