-- What contracts see of parameters with what they ask for.
use Rattle.std.specs.Prelude.{ℕ, ◌+◌, List, [], ◌∷◌, ◌++◌, map, length, Bool}
use Rattle.std.specs.Global.{Vec}
use Rattle.dart_ir.specs.declared.kind.Shape.{Shape}
use Rattle.dart_ir.specs.declared.kind.Shape.TheVariants as shape
use Rattle.dart_tree.specs.Tree as t
use Rattle.dart_tree.specs.View as view
use Rattle.core_program.specs.Program as p
use Rattle.translation.specs.Surroundings.{Text}
use Rattle.translation.specs.Functions as f
use Rattle.translation.specs.Types as y
use Rattle.translation.specs.Walk as w
use Rattle.lower_leaf.specs.Around.{Around}
use Rattle.lower_leaf.specs.Seen.{asked}
use Rattle.lower_function.specs.declared.parameter.Formal.{Formal}
use Rattle.lower_function.specs.declared.parameter.Formals.{Formals}

abbrev pub formal : Around → Formal → f.Declared
formal a x = record {
  name = y.word_of (y.parameter_name (view.parameter_kind x.kind.now));
  this_dot = f.this_of (view.parameter_kind x.kind.now);
  asked = asked a x.wanted;
  is_final = f.final_parameter (view.parameter_kind x.kind.now);
  value = view.value x.value.now;
}

abbrev pub formal_list : Around → Vec Formal → List f.Declared
formal_list a xs = map (formal a) xs.items

-- the required ones, the optional ones, and the shape of these
pub record AllFormals : Type 0 where
  pub required : List f.Declared
  pub optional : List f.Declared
  pub shape : Shape

abbrev pub formals : Around → Formals → AllFormals
formals a x = record { required = formal_list a x.required; optional = formal_list a x.optional; shape = x.shape }

abbrev pub declared_one : w.State → t.Parameter → f.Declared
declared_one outer (t.the_parameter comma _ kind value) = f.declared_by outer kind value

abbrev pub declared_list : w.State → t.ParameterList → List f.Declared
declared_list outer t.no_parameters = []
declared_list outer (t.parameter one more) = declared_one outer one ∷ declared_list outer more

abbrev pub formals_of : w.State → t.Parameters → AllFormals
formals_of outer (t.the_parameters opening required brackets optional closing) = record {
  required = declared_list outer required;
  optional = declared_list outer optional;
  shape = f.optional_shape brackets;
}

-- bound one after another, with so many before them
abbrev pub bind_all : Bool → ℕ → Shape → List f.Declared → w.Walk (List (p.Parameter Text))
bind_all allowed n of [] st = w.went [] st
bind_all allowed n of (one ∷ more) st = w.on (f.bind allowed n of one st)
    (λ bound st. w.on (bind_all allowed (n + 1) of more st) (λ rest st. w.went (bound ∷ rest) st))

abbrev pub bind_formals : Bool → AllFormals → w.Walk (List (p.Parameter Text))
bind_formals allowed x st = w.on (bind_all allowed 0 shape.Required x.required st) (λ first st.
    w.on (bind_all allowed (length first) x.shape x.optional st) (λ rest st. w.went (first ++ rest) st))
