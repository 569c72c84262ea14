use Rattle.std.proofs.Common.{ap}
use Rattle.dart_ir.proofs.View.{ty_dynamic}
use Rattle.core_program.specs.Named as with_names
use Rattle.core_program.specs.ProgramView.{text_at}
use Rattle.lower_leaf.specs.Around.{ty}
use Rattle.dart_class.proofs.scopes.DeclaredScopesSurroundings.alias_type.Goals as goal

pub returns : goal.returns
unfolding ty
returns c = ap (with_names.ty (text_at c.args.self.now.scopes.now.names)) ty_dynamic
