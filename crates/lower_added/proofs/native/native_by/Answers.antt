use Rattle.std.proofs.Common.{◌≡◌, IfOk, sym, subst}
use Rattle.native_name.specs.Name.{native_named}
use Rattle.scope_declared.specs.declared.declaration.DeclaredKind.{DeclaredKind}
use Rattle.lower_added.specs.Natives.{native_by, role_text}
use Rattle.lower_added.proofs.native.native_by.Goals as goal

pub returns-in-Owned : goal.returns-in-Owned
returns-in-Owned c =
    subst (λ (kind : DeclaredKind). IfOk c.role_native.result (λ made. made ≡ native_by c.args.class.now kind c.args.name.now)) (sym c.in-Owned.is)
    (subst (λ class. IfOk c.role_native.result (λ made. made ≡ native_named class (role_text c.in-Owned.role c.args.name.now))) c.owner_text.ensures c.role_native.ensures)
