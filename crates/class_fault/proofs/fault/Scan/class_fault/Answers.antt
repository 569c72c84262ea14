use Rattle.std.proofs.Common.{◌≡◌, ℕ, Some, refl, length, ap, sym, ◌∙◌, slice_get, subst as transport}
use Rattle.std.proofs.lemmas.Option.{slice_get_read}
use Rattle.class_fault.specs.Scan.{AreNamed}
use Rattle.class_fault.specs.Program.{declaration_at}
use Rattle.class_fault.specs.declared.program.Program.{Program}
use Rattle.class_fault.specs.declared.program.Declaration.{Declaration}
use Rattle.std.proofs.Common.{◌<◌, get_or}
use Rattle.class_fault.proofs.Graphs.{superclass_is_named, mixins_are_named, interfaces_are_named}
use Rattle.class_fault.proofs.Found.{superclass_first, mixin_first, interface_first}
use Rattle.class_fault.proofs.fault.Scan.class_fault.Goals as goal

at : (p : Program) (d : ℕ) (i : Declaration) → d < length p.declarations.items → i ≡ get_or p.declarations.items d i → declaration_at p d ≡ Some i
at p d i l e = slice_get_read p.declarations.items (length p.declarations.items) d i refl l e

pub superclass_fault-requires-clause-named : goal.superclass_fault-requires-clause-named
superclass_fault-requires-clause-named c =
    superclass_is_named c.args.self.now.program.now c.args.self.now.headers.now c.requires.scan.graph c.requires.scan.listed c.args.class c.index-declaration.result.now (at c.args.self.now.program.now c.args.class c.index-declaration.result.now c.requires.class c.index-declaration.ensures)

pub returns-in-Some : goal.returns-in-Some
returns-in-Some c =
    superclass_first c.args.self.now.program.now c.args.self.now.headers.now c.args.class c.index-declaration.result.now (at c.args.self.now.program.now c.args.class c.index-declaration.result.now c.requires.class c.index-declaration.ensures) c.in_ok-fault.field-0 c.in-Some.fault c.in-Some.is c.in_ok-fault.ensures

pub clause_fault-requires-clause-named : goal.clause_fault-requires-clause-named
clause_fault-requires-clause-named c =
    transport (AreNamed c.args.self.now.headers.now c.args.class) (sym c.deref.ensures.value)
    (mixins_are_named c.args.self.now.program.now c.args.self.now.headers.now c.requires.scan.graph c.requires.scan.listed c.args.class c.index-declaration.result.now (at c.args.self.now.program.now c.args.class c.index-declaration.result.now c.requires.class c.index-declaration.ensures))

pub returns-in-Some-2 : goal.returns-in-Some-2
returns-in-Some-2 c =
    mixin_first c.args.self.now.program.now c.args.self.now.headers.now c.args.class c.index-declaration.result.now (at c.args.self.now.program.now c.args.class c.index-declaration.result.now c.requires.class c.index-declaration.ensures) c.in_ok-fault.field-0 c.in_ok-fault-2.field-0 c.in-Some-2.fault c.in_default.is c.in_ok-fault.ensures c.deref.result.now c.deref.ensures.value c.in-Some-2.is c.in_ok-fault-2.ensures

pub clause_fault-requires-2-clause-named : goal.clause_fault-requires-2-clause-named
clause_fault-requires-2-clause-named c =
    transport (AreNamed c.args.self.now.headers.now c.args.class) (sym c.deref-2.ensures.value)
    (interfaces_are_named c.args.self.now.program.now c.args.self.now.headers.now c.requires.scan.graph c.requires.scan.listed c.args.class c.index-declaration.result.now (at c.args.self.now.program.now c.args.class c.index-declaration.result.now c.requires.class c.index-declaration.ensures))

pub returns : goal.returns
returns c =
    interface_first c.args.self.now.program.now c.args.self.now.headers.now c.args.class c.index-declaration.result.now (at c.args.self.now.program.now c.args.class c.index-declaration.result.now c.requires.class c.index-declaration.ensures) c.in_ok-fault.field-0 c.in_ok-fault-2.field-0 c.in_ok-last.last c.in_default.is c.in_ok-fault.ensures c.deref.result.now c.deref-2.result.now c.deref.ensures.value c.deref-2.ensures.value c.in_default-2.is c.in_ok-fault-2.ensures c.in_ok-last.ensures
