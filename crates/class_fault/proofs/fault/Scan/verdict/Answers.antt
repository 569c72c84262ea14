use Rattle.std.proofs.Common.{◌<◌, ◌≡◌, length, sym, ◌∙◌, arith}
use Rattle.class_fault.specs.Fault.{no_class, leads_back}
use Rattle.class_fault.proofs.Found.{decided_read}
use Rattle.class_fault.proofs.fault.Scan.verdict.Goals as goal

pub leads_back-requires-clause-e : goal.leads_back-requires-clause-e
leads_back-requires-clause-e c = (c.requires.named c.in-Some.e (sym c.class_named.ensures ∙ c.in-Some.is)).0

pub returns-then-branch : goal.returns-then-branch
returns-then-branch c = leads_back c.in-Some.e (sym c.class_named.ensures ∙ c.in-Some.is) (c.in_ok-leads_back-in-Some.ensures.0 c.if-branch.true)

pub index-requires-in-Some : goal.index-requires-in-Some
index-requires-in-Some c =
    let m = (c.requires.named c.in-Some.e (sym c.class_named.ensures ∙ c.in-Some.is)).0 in
    let s = c.requires.scan.graph.size in
    omega (arith, m, s, c.args.self.now.program.now.declarations.ok.0)

pub returns-in-None : goal.returns-in-None
returns-in-None c = no_class (sym c.class_named.ensures ∙ c.in-None.is)

pub returns-else-branch : goal.returns-else-branch
returns-else-branch c =
    let m = (c.requires.named c.in-Some.e (sym c.class_named.ensures ∙ c.in-Some.is)).0 in
    let s = c.requires.scan.graph.size in
    let l : c.in-Some.e < length c.args.self.now.program.now.declarations.items = omega (arith, m, s) in
    decided_read c.args.self.now.program.now c.args.self.now.headers.now c.args.class c.in-Some.e c.args.clause c.args.t.now c.index.result.now c.index-in-Some.result.now c.in_ok-leads_back-in-Some.field-0 c.static_reason.result
    (sym c.class_named.ensures ∙ c.in-Some.is) c.requires.class l c.index.ensures c.index-in-Some.ensures c.in_ok-leads_back-in-Some.ensures c.if-branch.false c.static_reason.ensures
