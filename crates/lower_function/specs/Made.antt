-- What contracts see of functions, and of the state as they begin and end.
use Rattle.std.specs.Prelude.{ℕ, List, [], ◌∷◌, ◌++◌, map, take}
use Rattle.std.specs.Global.{Vec}
use Rattle.dart_ir.specs.Ty.{function_ty}
use Rattle.dart_ir.specs.declared.types.FunctionType.{FunctionType}
use Rattle.core_program.specs.Core as c
use Rattle.core_program.specs.Named as with_names
use Rattle.core_program.specs.Program as p
use Rattle.core_program.specs.ProgramView as pv
use Rattle.core_program.specs.declared.program.Parameter.{Parameter}
use Rattle.translation.specs.Surroundings.{Text, Ty}
use Rattle.translation.specs.Functions as f
use Rattle.translation.specs.Walk as w
use Rattle.lower_leaf.specs.Around.{Around, text, class}
use Rattle.lower_leaf.specs.Seen.{inside, target}
use Rattle.lower_function.specs.declared.function.Head.{Head}
use Rattle.lower_function.specs.declared.inside.Before.{Before}

abbrev pub parameter : Around → Parameter → p.Parameter Text
parameter a x = with_names.parameter (pv.text_at a.texts) (pv.parameter x)

abbrev pub parameters : Around → Vec Parameter → List (p.Parameter Text)
parameters a xs = map (parameter a) xs.items

unfoldable pub signature : Around → FunctionType → Ty
signature a x = with_names.ty (pv.text_at a.texts) (function_ty x)

-- another context
abbrev pub with_inside : w.Inside → w.State → w.State
with_inside around st = record st { inside = around }

-- where a function begins
abbrev pub entered : w.Inside → w.State → w.State
entered around st = record st { inside = around; targets = [] }

-- what was in scope before a function is so again
abbrev pub put_back : Around → Before → w.State → w.State
put_back a before st = record st {
  inside = inside a before.inside;
  scopes = take before.depth st.scopes;
  targets = map target before.targets.items;
}

abbrev pub function_made : Around → Head → w.State → List (p.Parameter Text) → c.Part Text → p.Function Text
function_made a head st bound body = record {
  name = text a head.name;
  kind = head.kind;
  class = class head.class;
  parameters = bound;
  vars = st.variables;
  cells = f.cells st.functions st.variables bound body;
  captures = f.captures st.functions st.variables bound body;
  signature = signature a head.signature;
  body = body;
}

-- where a function ends
abbrev pub closed : Around → Before → Head → List (p.Parameter Text) → c.Part Text → w.State → w.State
closed a before head bound body st = record (put_back a before st) {
  functions = st.functions ++ record { number = head.number; made = function_made a head st bound body } ∷ [];
}
