use Rattle.std.proofs.Common.{◌+◌, ◌*◌, ◌↔◌, length, drop}
use Rattle.dart_type.specs.Relation.{table_of}
use Rattle.dart_type.specs.Search.{AllClauses, AnyWay, measure, largest, largest_of}
use Rattle.dart_type.specs.Intern.{types, read, Grows}
use Rattle.dart_type.specs.Clauses.{ways_of, clauses_of}
use Rattle.dart_type.specs.Answers.{AreRight, Holds}
use Rattle.dart_type.proofs.search.+searching.Given as goal

abbrev pub decreases-is_below : goal.decreases-is_below
decreases-is_below l = 3 * measure (table_of l.classes.now) (length l.classes.now.classes.items) (read (types l.nodes.now.items) l.t, read (types l.nodes.now.items) l.s)

abbrev pub decreases-do_all_hold : goal.decreases-do_all_hold
decreases-do_all_hold l = 3 * largest_of (table_of l.classes.now) (length l.classes.now.classes.items) (clauses_of (types l.nodes.now.items) l.clauses.now) + 2

abbrev pub decreases-does_one_hold : goal.decreases-does_one_hold
decreases-does_one_hold l = 3 * largest (table_of l.classes.now) (length l.classes.now.classes.items) (ways_of (types l.nodes.now.items) l.ways.now) + 1

abbrev pub invariant-do_all_hold-loop-ways : goal.invariant-do_all_hold-loop-ways
invariant-do_all_hold-loop-ways l = record {
  grows : Grows l.initial.nodes.items l.nodes.items;
  right : AreRight (table_of l.classes) l.nodes.items l.answers.items;
  rest : AllClauses (Holds (table_of l.classes)) (clauses_of (types l.initial.nodes.items) (drop l.ways-index l.clauses)) ↔ AllClauses (Holds (table_of l.classes)) (clauses_of (types l.initial.nodes.items) l.clauses);
}

abbrev pub invariant-does_one_hold-loop-way : goal.invariant-does_one_hold-loop-way
invariant-does_one_hold-loop-way l = record {
  grows : Grows l.initial.nodes.items l.nodes.items;
  right : AreRight (table_of l.classes) l.nodes.items l.answers.items;
  rest : AnyWay (Holds (table_of l.classes)) (ways_of (types l.initial.nodes.items) (drop l.way-index l.ways)) ↔ AnyWay (Holds (table_of l.classes)) (ways_of (types l.initial.nodes.items) l.ways);
}
