-- How functions and variables are seen.
use Rattle.std.proofs.Common.{◌≡◌, refl}
use Rattle.core_program.specs.Named as with_names
use Rattle.core_program.specs.ProgramView as pv
use Rattle.core_program.specs.declared.program.Function.{Function}
use Rattle.core_program.specs.declared.program.StaticVar.{StaticVar}
use Rattle.core_program.proofs.Views.{view_missing}
use Rattle.lower_leaf.specs.Around.{Around}
use Rattle.lower_leaf.specs.Seen.{function, static}

pub seen_function : (a : Around) (x : Function) → function a x ≡ with_names.function (pv.text_at a.texts) (pv.function x)
unfolding function
seen_function a x = refl

pub seen_static : (a : Around) (x : StaticVar) → static a x ≡ with_names.static (pv.text_at a.texts) (pv.static x)
unfolding static
seen_static a x = refl

pub ruleset slots = (seen_function, seen_static, view_missing)
