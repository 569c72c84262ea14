use Rattle.std.proofs.Common.{◌≡◌, ◌++◌, length, nat_le, ap, sym, ◌∙◌, rules, subst as transport}
use Rattle.dart_ir.specs.Classes.{count}
use Rattle.dart_type.specs.Relation.{append}
use Rattle.dart_type.specs.Search.{truth}
use Rattle.dart_type.specs.Intern.{types, read, reads, named_reads, AreBelow, AreNamedBelow}
use Rattle.dart_type.specs.Clauses.{clauses_of, AllListed, result_pairs, positional_pairs, named_pairs}
use Rattle.dart_type.proofs.Paired.{four, count_reads, pairs_over, tests_over}
use Rattle.dart_type.proofs.Risen.{reads_append, below_append}
use Rattle.dart_type.proofs.clauses.rule_pairs_of.Goals as goal

pub returns-clause-are : goal.returns-clause-are
returns-clause-are c =
    let T = types c.args.nodes.now.items in
    let f = c.args.f.now in
    let g = c.args.g.now in
    let lf : c.len.result ≡ length f.required.items = search rules in
    let lg : c.len-2.result ≡ length g.required.items = search rules in
    let ts = c.deref.ensures.value ∙ c.in_ok-ts.ensures in
    let ss = c.deref-2.ensures.value ∙ c.in_ok-ss.ensures in
    four (clauses_of T c.add_result.new.clauses.items) (clauses_of T c.add_test.new.clauses.items) (clauses_of T c.add_positional.new.clauses.items) (clauses_of T c.add_named.new.clauses.items)
    (result_pairs (read T f.result) (read T g.result)) (truth (nat_le (count (reads T f.required.items)) (count (reads T g.required.items))))
    (positional_pairs (append (reads T f.required.items) (reads T f.optional.items)) (append (reads T g.required.items) (reads T g.optional.items))) (named_pairs (named_reads T f.named.items) (named_reads T g.named.items))
    (c.in_ok-add_result.ensures.are ∙ ap (λ z. clauses_of T z ++ result_pairs (read T f.result) (read T g.result)) c.new-clauses.ensures.items)
    (c.in_ok-add_test.ensures.are T ∙ ap (λ z. clauses_of T c.add_result.new.clauses.items ++ truth z) (tests_over nat_le c.len.result (count (reads T f.required.items)) c.len-2.result (count (reads T g.required.items)) (lf ∙ sym (count_reads T f.required.items)) (lg ∙ sym (count_reads T g.required.items))))
    (c.in_ok-add_positional.ensures.are T
    ∙ ap (λ z. clauses_of T c.add_test.new.clauses.items ++ z)
    (pairs_over positional_pairs (reads T c.deref.result.now) (append (reads T f.required.items) (reads T f.optional.items)) (reads T c.deref-2.result.now) (append (reads T g.required.items) (reads T g.optional.items))
    (ap (reads T) ts ∙ reads_append T f.required.items f.optional.items) (ap (reads T) ss ∙ reads_append T g.required.items g.optional.items)))
    (c.in_ok-add_named.ensures.are T
    ∙ ap (λ z. clauses_of T c.add_positional.new.clauses.items ++ named_pairs (named_reads T z) (named_reads T c.deref-4.result.now)) c.deref-3.ensures.value
    ∙ ap (λ z. clauses_of T c.add_positional.new.clauses.items ++ named_pairs (named_reads T f.named.items) (named_reads T z)) c.deref-4.ensures.value)

pub returns-clause-listed : goal.returns-clause-listed
returns-clause-listed c =
    let n = length c.args.nodes.now.items in
    let ts = c.deref.ensures.value ∙ c.in_ok-ts.ensures in
    let ss = c.deref-2.ensures.value ∙ c.in_ok-ss.ensures in
    c.in_ok-add_named.ensures.listed n
    (transport (AreNamedBelow n) (sym c.deref-3.ensures.value) c.requires.f_over.3)
    (transport (AreNamedBelow n) (sym c.deref-4.ensures.value) c.requires.g_over.3)
    (c.in_ok-add_positional.ensures.listed n
    (transport (AreBelow n) (sym ts) (below_append n c.args.f.now.required.items c.args.f.now.optional.items c.requires.f_over.1 c.requires.f_over.2))
    (transport (AreBelow n) (sym ss) (below_append n c.args.g.now.required.items c.args.g.now.optional.items c.requires.g_over.1 c.requires.g_over.2))
    (c.in_ok-add_test.ensures.listed n (c.in_ok-add_result.ensures.listed (transport (AllListed n) (sym c.new-clauses.ensures.items) tt))))
