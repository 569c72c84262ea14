use Rattle.std.proofs.Common.{◌≡◌, ℕ, List, length, ap, sym, ◌∙◌, arith, subst as transport}
use Rattle.dart_ir.specs.Ty.{Ty, class}
use Rattle.dart_type.specs.Relation.{table_of}
use Rattle.dart_type.specs.Search.{above, each_below, facing}
use Rattle.dart_type.specs.Intern.{types, read, reads, node_type, AreBelow, IsOver}
use Rattle.dart_type.specs.Clauses.{ways_of, clauses_of, AreListed, AllListed, GivesWays}
use Rattle.dart_type.proofs.Interned.{below_more}
use Rattle.dart_type.proofs.Taken.{if_both, class_facing}
use Rattle.dart_type.proofs.goals.class_goals.Goals as goal

pub returns-then-c-d : goal.returns-then-c-d
returns-then-c-d c =
    let a = c.args.nodes.now.items in
    let b = c.ways_up.new.nodes.items in
    let k = table_of c.args.classes.now in
    let ts = c.deref.result.now in
    let ways = c.deref-then-c-d.result.now in
    let over = transport (IsOver c.args.t) c.in-Class.is c.in_ok-node_of.ensures.over in
    let lt : AreBelow (length a) ts = transport (AreBelow (length a)) (sym c.deref.ensures.value) (below_more c.args.t (length a) (let h = c.requires.t_listed in omega (arith, h)) c.in-Class.ts.items over) in
    let g : GivesWays a b ways (each_below (above k (read (types a) c.args.t)) (read (types a) c.args.s)) =
    transport (λ w. GivesWays a b w (each_below (above k (read (types a) c.args.t)) (read (types a) c.args.s))) (sym c.deref-then-c-d.ensures.value) c.in_ok-ways-in-Class.ensures in
    if_both c.facing_of.result
    (λ cs. (us : List Ty) → clauses_of us cs.items ≡ facing (reads us ts) (reads us c.args.ss.now) (ways_of us ways))
    (λ cs. (n : ℕ) → AreBelow n ts → AreBelow n c.args.ss.now → AreListed n ways → AllListed n cs.items)
    _
    (λ cs are listed.
    class_facing k a b c.args.t c.args.s c.in-Class.c c.args.d ts c.args.ss.now ways cs.items
    (c.in_ok-node_of.ensures.shows ∙ ap (node_type (types a)) c.in-Class.is ∙ ap (λ z. class c.in-Class.c (reads (types a) z)) (sym c.deref.ensures.value))
    c.requires.s_is c.if-c-d.true lt c.requires.ss_listed g are listed)
    c.facing_of.ensures.are c.facing_of.ensures.listed
