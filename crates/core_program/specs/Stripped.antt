-- A program without what annotations ask for.
use Rattle.std.specs.Prelude.{ℕ, map, Option, Some, None, Bool, if◌then◌else◌}
use Rattle.dart_ir.specs.Ty.{TyOf, TysOf, NamedTysOf, dynamic, bottom, void, class, parameter, function as function_ty, nil, cons, unnamed, named}
use Rattle.core_program.specs.Program as p

-- ---- a signature of the same shape, in which every type is dynamic

abbrev pub all_dynamic : {N : Type 0} → TysOf N → TysOf N
all_dynamic nil = nil
all_dynamic (cons t ts) = cons dynamic (all_dynamic ts)

abbrev pub all_named_dynamic : {N : Type 0} → NamedTysOf N → NamedTysOf N
all_named_dynamic unnamed = unnamed
all_named_dynamic (named n t ts) = named n dynamic (all_named_dynamic ts)

abbrev pub loose : {N : Type 0} → TyOf N → TyOf N
loose (function_ty result required optional names) =
    function_ty dynamic (all_dynamic required) (all_dynamic optional) (all_named_dynamic names)
loose t = t

abbrev pub member : {N : Type 0} → p.Member N → p.Member N
member x = record x { signature = loose x.signature }

abbrev pub function : {N : Type 0} → p.Function N → p.Function N
function x = record x { signature = loose x.signature }

-- ---- a site that asks for nothing where an annotation asked

abbrev pub asked : {N : Type 0} → Bool → Option (TyOf N) → Option (TyOf N)
asked annotated required = if annotated then None else required

abbrev pub site : {N : Type 0} → p.Site N → p.Site N
site x = record x { required = asked x.annotated x.required }

-- Everything else stays, the mark included.
abbrev pub program : {N : Type 0} → p.Program N → p.Program N
program x = record x {
  members = map member x.members;
  functions = map function x.functions;
  sites = map site x.sites;
}
