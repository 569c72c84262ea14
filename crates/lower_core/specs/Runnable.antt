-- The program that a machine runs.
use Rattle.std.specs.Prelude.{map}
use Rattle.dart_ir.specs.Ty.{TyOf, dynamic, nil, unnamed, function as function_ty}
use Rattle.core_program.specs.declared.program.FunctionKind.{FunctionKind}
use Rattle.core_program.specs.declared.program.FunctionKind.TheVariants.{Absent}
use Rattle.core_program.specs.Program as p

-- the type of a function without parameters that answers anything
abbrev pub no_parameters : {N : Type 0} → TyOf N
no_parameters = function_ty dynamic nil nil unnamed

-- In the core of a program, a declaration that is no function has the type dynamic. A machine's table of functions has a function type
-- for every number, so there it has the plainest one. The forms of a valid program name no such declaration as a function (`IsForm` of
-- `core_program`).
abbrev pub signature_of : {N : Type 0} → FunctionKind → TyOf N → TyOf N
signature_of Absent signature = no_parameters
signature_of kind signature = signature

abbrev pub function : {N : Type 0} → p.Function N → p.Function N
function x = record x { signature = signature_of x.kind x.signature }

-- All else stays.
abbrev pub program : {N : Type 0} → p.Program N → p.Program N
program x = record x { functions = map function x.functions }
