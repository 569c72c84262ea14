use Rattle.std.proofs.Common.{◌≡◌, ◌<◌, ◌+◌, ◌*◌, length, sym, get_or, subst as transport}
use Rattle.dart_type.specs.declared.clauses.Comparison.{Comparison}
use Rattle.dart_type.specs.Relation.{table_of}
use Rattle.dart_type.specs.Search.{AnyWay, AllClauses, measure, largest, largest_of}
use Rattle.dart_type.specs.Intern.{types, read}
use Rattle.dart_type.specs.Clauses.{ways_of, clauses_of, AreListed, AllListed}
use Rattle.dart_type.specs.Answers.{Holds, Decides, IsKept}
use Rattle.dart_type.proofs.Interned.{grows_trans}
use Rattle.dart_type.proofs.Assigned.{clause_listed}
use Rattle.dart_type.proofs.Searched.{kept_decides, right_kept, clauses_decide, clause_fails, clause_holds, way_holds, way_fails, way_listed_t, way_listed_s, one_smaller, way_smaller, goals_smaller}
use Rattle.dart_type.proofs.search.+searching.Goals as goal

pub do_all_hold-does_one_hold-requires : goal.do_all_hold-does_one_hold-requires
do_all_hold-does_one_hold-requires t c =
    let k = table_of c.args.classes.now in
    let n = length c.args.classes.now.classes.items in
    let e : 3 * largest_of k n (clauses_of (types c.args.nodes.now.items) c.args.clauses.now) + 2 ≡ t = c.decreases in
    let m = one_smaller k n c.args.nodes.now.items c.loop-ways.nodes.items c.args.clauses.now c.loop-ways.ways-index c.ways-item.result c.deref.result.now c.requires.listed c.loop-ways-test.true c.ways-item.is c.loop-ways.invariant.grows c.deref.ensures.value in (
      transport (λ x. 3 * largest k n (ways_of (types c.loop-ways.nodes.items) c.deref.result.now) + 1 < x) e m,
      (
        c.requires.valid,
        (
          c.loop-ways.invariant.grows.built,
          (
            c.loop-ways.invariant.right,
            transport (AreListed (length c.loop-ways.nodes.items)) (sym c.deref.ensures.value) (clause_listed c.args.nodes.now.items c.loop-ways.nodes.items c.args.clauses.now c.loop-ways.ways-index c.ways-item.result c.requires.listed c.loop-ways-test.true c.ways-item.is c.loop-ways.invariant.grows),
          ),
        ),
      ),
    )

pub do_all_hold-returns-then-not-branch : goal.do_all_hold-returns-then-not-branch
do_all_hold-returns-then-not-branch t c =
    let k = table_of c.args.classes.now in
    let w = transport (λ x. Decides k c.loop-ways.nodes.items c.does_one_hold.new.nodes.items c.does_one_hold.new.answers.items c.in_ok-does_one_hold.field-0 (AnyWay (Holds k) (ways_of (types c.loop-ways.nodes.items) x))) c.deref.ensures.value c.in_ok-does_one_hold.ensures in
    clause_fails k c.args.nodes.now.items c.loop-ways.nodes.items c.does_one_hold.new.nodes.items c.args.clauses.now c.does_one_hold.new.answers.items c.loop-ways.ways-index c.ways-item.result c.requires.listed c.loop-ways-test.true c.ways-item.is c.loop-ways.invariant.grows c.loop-ways.invariant.rest
    c.in_ok-does_one_hold.field-0 c.if-not-branch.true w

pub do_all_hold-loop-ways-preserved : goal.do_all_hold-loop-ways-preserved
do_all_hold-loop-ways-preserved t c =
    let k = table_of c.args.classes.now in
    let w = transport (λ x. Decides k c.loop-ways.nodes.items c.does_one_hold.new.nodes.items c.does_one_hold.new.answers.items c.in_ok-does_one_hold.field-0 (AnyWay (Holds k) (ways_of (types c.loop-ways.nodes.items) x))) c.deref.ensures.value c.in_ok-does_one_hold.ensures in
    record {
      grows = grows_trans c.args.nodes.now.items c.loop-ways.nodes.items c.does_one_hold.new.nodes.items c.loop-ways.invariant.grows w.grows;
      right = w.right;
      rest =
          clause_holds k c.args.nodes.now.items c.loop-ways.nodes.items c.does_one_hold.new.nodes.items c.args.clauses.now c.does_one_hold.new.answers.items c.loop-ways.ways-index c.ways-item.result c.requires.listed c.loop-ways-test.true c.ways-item.is c.loop-ways.invariant.grows c.loop-ways.invariant.rest
          c.in_ok-does_one_hold.field-0 c.if-not-branch.false w;
    }

pub does_one_hold-is_below-requires : goal.does_one_hold-is_below-requires
does_one_hold-is_below-requires t c =
    let k = table_of c.args.classes.now in
    let n = length c.args.classes.now.classes.items in
    let d : Comparison = record { t = 0; s = 0 } in
    let e : 3 * largest k n (ways_of (types c.args.nodes.now.items) c.args.ways.now) + 1 ≡ t = c.decreases in
    let m = way_smaller k n c.args.nodes.now.items c.loop-way.nodes.items c.args.ways.now c.loop-way.way-index d c.requires.listed c.loop-way-test.true c.loop-way.invariant.grows in (
      transport (λ x. 3 * measure k n (read (types c.loop-way.nodes.items) (get_or c.args.ways.now c.loop-way.way-index d).t, read (types c.loop-way.nodes.items) (get_or c.args.ways.now c.loop-way.way-index d).s) < x) e m,
      (
        c.requires.valid,
        (
          c.loop-way.invariant.grows.built,
          (
            c.loop-way.invariant.right,
            (
              way_listed_t k c.args.nodes.now.items c.loop-way.nodes.items c.args.nodes.now.items c.args.ways.now c.loop-way.answers.items c.loop-way.way-index d c.requires.listed c.loop-way-test.true c.loop-way.invariant.grows c.loop-way.invariant.rest,
              way_listed_s k c.args.nodes.now.items c.loop-way.nodes.items c.args.nodes.now.items c.args.ways.now c.loop-way.answers.items c.loop-way.way-index d c.requires.listed c.loop-way-test.true c.loop-way.invariant.grows c.loop-way.invariant.rest,
            ),
          ),
        ),
      ),
    )

pub does_one_hold-returns-then-branch : goal.does_one_hold-returns-then-branch
does_one_hold-returns-then-branch t c =
    way_holds (table_of c.args.classes.now) c.args.nodes.now.items c.loop-way.nodes.items c.is_below.new.nodes.items c.args.ways.now c.is_below.new.answers.items c.loop-way.way-index (record { t = 0; s = 0 }) c.requires.listed c.loop-way-test.true c.loop-way.invariant.grows c.loop-way.invariant.rest
    c.in_ok-is_below.field-0 c.if-branch.true c.in_ok-is_below.ensures

pub does_one_hold-loop-way-preserved : goal.does_one_hold-loop-way-preserved
does_one_hold-loop-way-preserved t c = record {
  grows = grows_trans c.args.nodes.now.items c.loop-way.nodes.items c.is_below.new.nodes.items c.loop-way.invariant.grows c.in_ok-is_below.ensures.grows;
  right = c.in_ok-is_below.ensures.right;
  rest =
      way_fails (table_of c.args.classes.now) c.args.nodes.now.items c.loop-way.nodes.items c.is_below.new.nodes.items c.args.ways.now c.is_below.new.answers.items c.loop-way.way-index (record { t = 0; s = 0 }) c.requires.listed c.loop-way-test.true c.loop-way.invariant.grows c.loop-way.invariant.rest
      c.in_ok-is_below.field-0 c.if-branch.false c.in_ok-is_below.ensures;
}

pub is_below-returns-in-Some : goal.is_below-returns-in-Some
is_below-returns-in-Some t c =
    kept_decides (table_of c.args.classes.now) c.args.nodes.now.items c.args.answers.now.items c.args.t c.args.s c.in-Some.holds c.requires.built c.requires.right
    (transport (λ bs. IsKept bs c.args.t c.args.s c.in-Some.holds) c.deref.ensures.value c.in-Some.ensures)

pub is_below-do_all_hold-requires : goal.is_below-do_all_hold-requires
is_below-do_all_hold-requires t c =
    let k = table_of c.args.classes.now in
    let n = length c.args.classes.now.classes.items in
    let a = c.args.nodes.now.items in
    let b = c.goals_of.new.nodes.items in
    let e : 3 * measure k n (read (types a) c.args.t, read (types a) c.args.s) ≡ t = c.decreases in
    let g = c.in_ok-clauses.ensures in
    let m = goals_smaller c.args.classes.now b c.in_ok-clauses.clauses.items c.deref-2.result.now (read (types a) c.args.t) (read (types a) c.args.s) c.requires.valid c.deref-2.ensures.value g.are in (
      transport (λ x. 3 * largest_of k n (clauses_of (types b) c.deref-2.result.now) + 2 < x) e m,
      (c.requires.valid, (g.grows.built, (right_kept k a b g.grows c.args.answers.now.items c.requires.right, transport (AllListed (length b)) (sym c.deref-2.ensures.value) g.listed))),
    )

pub is_below-returns : goal.is_below-returns
is_below-returns t c =
    let k = table_of c.args.classes.now in
    let b = c.goals_of.new.nodes.items in
    let h = transport (λ x. Decides k b c.do_all_hold.new.nodes.items c.do_all_hold.new.answers.items c.in_ok-holds.holds (AllClauses (Holds k) (clauses_of (types b) x))) c.deref-2.ensures.value c.in_ok-holds.ensures in
    clauses_decide c.args.classes.now c.args.nodes.now.items b c.do_all_hold.new.nodes.items c.in_ok-clauses.clauses.items c.do_all_hold.new.answers.items c.push.new.self.items c.args.t c.args.s c.in_ok-holds.holds c.requires.valid c.requires.t_listed c.requires.s_listed
    c.in_ok-clauses.ensures h c.in_ok-push.ensures.items
