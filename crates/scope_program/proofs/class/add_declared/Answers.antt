use Rattle.std.proofs.Common.{◌++◌, sym, subst}
use Rattle.dart_tree.specs.declared.declaration.DeclKind.{DeclKind}
use Rattle.dart_tree.specs.UnitView as view
use Rattle.translation.specs.ClassBodies.{members_of, is_mixed}
use Rattle.scope_program.specs.Classes.{class_scope, enum_scope, declared_scope, parameters_of}
use Rattle.scope_program.specs.Made.{AreClassesOf}
use Rattle.scope_program.proofs.Scopes.{class-more, scope-as}
use Rattle.scope_program.proofs.class.add_declared.Goals as goal

pub returns-in_ok-push-in-Class : goal.returns-in_ok-push-in-Class
returns-in_ok-push-in-Class c =
    let texts = c.args.declarations.names.now in
    let numbered = c.args.declarations.numbered.now in
    let x = c.in-Class.x in
    λ before h.
    let P : DeclKind → Type 0 = λ kind. AreClassesOf texts numbered (before ++ declared_scope numbered c.args.library (view.decl_kind kind)) c.push.new.self.items in
    subst P (sym c.in-Class.is)
    (class-more texts numbered before c.args.made.now.items _ (class_scope numbered c.args.library (view.class x)) c.in_ok-scope-in-Class.scope c.in_ok-push-in-Class.ensures.items h
    (scope-as texts numbered c.args.library x.name c.in_ok-scope-in-Class.scope _ (parameters_of (view.class x).parameters) _ (is_mixed (view.class x).kind) _ (members_of (view.class x).kind)
    c.parameters_of-parameters.ensures c.is_mixed-mixed.ensures c.members_of-members.ensures c.in_ok-scope-in-Class.ensures))

pub returns-in_ok-push-in-Enum : goal.returns-in_ok-push-in-Enum
returns-in_ok-push-in-Enum c =
    let texts = c.args.declarations.names.now in
    let numbered = c.args.declarations.numbered.now in
    λ before h.
    let P : DeclKind → Type 0 = λ kind. AreClassesOf texts numbered (before ++ declared_scope numbered c.args.library (view.decl_kind kind)) c.push-in-Enum.new.self.items in
    subst P (sym c.in-Enum.is)
    (class-more texts numbered before c.args.made.now.items _ (enum_scope numbered c.args.library (view.enum c.in-Enum.x)) c.in_ok-scope-in-Enum.scope c.in_ok-push-in-Enum.ensures.items h
    c.in_ok-scope-in-Enum.ensures)
