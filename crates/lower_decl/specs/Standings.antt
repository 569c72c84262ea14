-- What contracts see of declared functions and variables, and of where they stand.
use Rattle.std.specs.Prelude.{ℕ, [], ◌∷◌, ◌++◌, map, take, drop, Bool, Option, Some, None, false}
use Rattle.dart_base.specs.declared.place.Place.{Place}
use Rattle.dart_ir.specs.declared.native.NativeId.{NativeId}
use Rattle.core_program.specs.Core as c
use Rattle.translation.specs.Declarations as d
use Rattle.translation.specs.Functions as f
use Rattle.translation.specs.Productions as pr
use Rattle.translation.specs.References.{own_name}
use Rattle.translation.specs.Surroundings.{Text, Ty}
use Rattle.translation.specs.Types as y
use Rattle.translation.specs.Walk as w
use Rattle.dart_tree.specs.Tree as t
use Rattle.dart_tree.specs.View as view
use Rattle.lower_leaf.specs.Around.{Around, text, class, option_types}
use Rattle.lower_leaf.specs.Seen.{asked, inside}
use Rattle.lower_leaf.specs.declared.state.NumberedFunction.{NumberedFunction}
use Rattle.lower_function.specs.Formals.{AllFormals, formals, formals_of}
use Rattle.lower_function.specs.Made.{signature}
use Rattle.lower_decl.specs.declared.standing.Standing.{Standing}
use Rattle.lower_decl.specs.declared.declare.Declared.{Declared}
use Rattle.lower_decl.specs.declared.declare.Heading.{Heading}
use Rattle.lower_decl.specs.declared.declare.Prepared.{Prepared}

abbrev pub standing : Around → Standing → d.Standing
standing a x = record { class = class x.class; arguments = option_types a x.arguments; has_instance = x.has_instance }

abbrev pub declared : Declared → d.Declared
declared x = record {
  external = x.external;
  name = y.word_of x.name.now;
  result = view.result_option x.result_type.now;
  parameters = view.parameters x.parameters.now;
  body = view.body x.body.now;
}

abbrev pub heading : Around → Heading → f.Head
heading a x = record {
  number = x.number;
  kind = x.kind;
  name = text a x.name;
  signature = signature a x.signature;
  inside = inside a x.inside;
}

-- what the types of a declaration stand for
pub record Signed : Type 0 where
  pub name : Text
  pub signature : Ty
  pub asked : w.Asked
  pub formals : AllFormals

abbrev pub prepared : Around → Prepared → Signed
prepared a x = record {
  name = text a x.name;
  signature = signature a x.signature;
  asked = asked a x.wanted;
  formals = formals a x.formals;
}

abbrev pub prepared_of : d.Declared → w.State → Signed
prepared_of x st = record {
  name = own_name x.name st;
  signature = y.function_type st (y.result_type st x.result) x.parameters;
  asked = y.asked_of_result st x.result;
  formals = formals_of st x.parameters;
}

-- where an external function stands that nothing is native for
abbrev pub missing_native : Option Place → Option NativeId → Option Place
missing_native external None = external
missing_native external (Some native) = None

-- a function whose native is there, if it needs one
abbrev pub written_function : d.Standing → d.Declared → Option NativeId → ℕ → w.Walk ℕ
written_function of x native n st = d.outermost 0 (f.function (d.head_of of n x (d.standing_in of st))
    (f.bind_parameters false (d.standing_in of st) x.parameters)
    (d.native_body x.external native of.has_instance x.parameters (pr.body x.body))) st

-- variables are numbered from a first one on
abbrev pub numbered_from : ℕ → w.State → w.State
numbered_from first st = record st { variables = first }

-- the function with so many variables
abbrev pub with_count : ℕ → NumberedFunction → NumberedFunction
with_count count x = record x { made = record x.made { vars = count } }

-- the functions made since have so many variables
abbrev pub ended : ℕ → ℕ → w.State → w.State
ended variables functions st = record st {
  variables = variables;
  functions = take functions st.functions ++ map (d.with_vars st.variables) (drop functions st.functions);
}

abbrev pub with_static : ℕ → Text → Bool → c.Part Text → w.State → w.State
with_static n name is_final init st =
    record st { statics = st.statics ++ record { number = n; made = d.static_made name is_final st init } ∷ [] }

-- the initialiser of a variable, and the variable
abbrev pub static_made : y.PlacedName → w.Asked → Bool → t.Value → ℕ → w.Walk ℕ
static_made name asked is_final value n st =
    w.on (d.static_init asked value st) (d.with_static n (own_name name st) is_final)
