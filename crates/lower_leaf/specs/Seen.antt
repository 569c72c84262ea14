-- What contracts see of the state of a walk.
use Rattle.std.specs.Prelude.{ℕ, List, map, take}
use Rattle.std.specs.Global.{Vec}
use Rattle.std.specs.Rc.{rc_value}
use Rattle.core_program.specs.Named as with_names
use Rattle.core_program.specs.Program as p
use Rattle.core_program.specs.ProgramView as pv
use Rattle.core_program.specs.declared.program.Function.{Function}
use Rattle.core_program.specs.declared.program.Site.{Site}
use Rattle.core_program.specs.declared.program.StaticVar.{StaticVar}
use Rattle.translation.specs.Surroundings.{Text}
use Rattle.translation.specs.Walk as w
use Rattle.lower_leaf.specs.Around.{Around, option_type, option_types, class}
use Rattle.lower_leaf.specs.declared.state.Asked.{Asked}
use Rattle.lower_leaf.specs.declared.state.Entry.{Entry}
use Rattle.lower_leaf.specs.declared.state.TargetKind.{TargetKind}
use Rattle.lower_leaf.specs.declared.state.TargetKind.TheVariants as k
use Rattle.lower_leaf.specs.declared.state.Target.{Target}
use Rattle.lower_leaf.specs.declared.state.Inside.{Inside}
use Rattle.lower_leaf.specs.declared.state.NumberedFunction.{NumberedFunction}
use Rattle.lower_leaf.specs.declared.state.NumberedStatic.{NumberedStatic}
use Rattle.lower_leaf.specs.declared.state.State.{State}

abbrev pub asked : Around → Asked → w.Asked
asked a x = record { of = option_type a x.of; annotated = x.annotated }

abbrev pub entry : Around → Entry → w.Entry
entry a x = record { name = x.name; variable = x.variable; asked = asked a x.asked; is_final = x.is_final }

abbrev pub labels : Vec Text → List Text
labels x = x.items

abbrev pub target_kind : TargetKind → w.TargetKind
target_kind k.Loop = w.a_loop
target_kind (k.Switch cases) = w.a_switch (map labels cases.items)
target_kind k.Another = w.another

abbrev pub target : Target → w.Target
target x = record { labels = x.labels.items; kind = target_kind x.kind }

abbrev pub inside : Around → Inside → w.Inside
inside a x = record {
  class = class x.class;
  arguments = option_types a x.arguments;
  has_instance = x.has_instance;
  result = asked a x.result;
  gives_value = x.gives_value;
  in_handler = x.in_handler;
}

-- with names as their texts
abbrev pub site : Around → Site → p.Site Text
site a x = record { place = x.place; kind = x.kind; required = option_type a x.required; annotated = x.annotated }

unfoldable pub function : Around → Function → p.Function Text
function a x = with_names.function (pv.text_at a.texts) (pv.function x)

unfoldable pub static : Around → StaticVar → p.Static Text
static a x = with_names.static (pv.text_at a.texts) (pv.static x)

abbrev pub numbered_function : Around → NumberedFunction → w.Made (p.Function Text)
numbered_function a x = record { number = x.number; made = function a x.made }

abbrev pub numbered_static : Around → NumberedStatic → w.Made (p.Static Text)
numbered_static a x = record { number = x.number; made = static a x.made }

abbrev pub seen : Around → State → w.State
seen a s = record {
  names = a.names s.outer;
  tables = a.tables;
  inside = inside a s.inside;
  scopes = map (λ e. entry a (rc_value e)) s.scopes.items;
  targets = map target s.targets.items;
  variables = s.variables;
  declarations = s.declarations;
  sites = map (site a) s.sites.items;
  literals = s.literals.items;
  functions = map (numbered_function a) s.functions.items;
  statics = map (numbered_static a) s.statics.items;
  has_constants = s.has_constants;
}

-- What was declared behind so many names is out of scope.
abbrev pub left : ℕ → w.State → w.State
left depth st = record st { scopes = take depth st.scopes }
