-- Lists of parameters, as lists that each further parameter makes longer.
use Rattle.std.specs.Prelude.{is_some, ◌==◌}
use Rattle.std.proofs.Common.{◌≡◌, ℕ, length, max, Bool, true, false, ◌&&◌, ◌||◌, List, [], ◌∷◌, ◌++◌, Option, Some, None, Ok, Err, refl, sym, ap, ◌∙◌, arith}
use Rattle.dart_base.specs.declared.place.Place.{Place}
use Rattle.dart_token.specs.declared.token.Token.{Token}
use Rattle.dart_token.specs.declared.sign.Sign.{Sign}
use Rattle.dart_token.specs.declared.sign.Sign.TheVariants as s
use Rattle.dart_tree.specs.declared.parameter.Parameter.{Parameter}
use Rattle.dart_tree.specs.Depth as height
use Rattle.dart_tree.specs.Lists.{parameter_list_of}
use Rattle.dart_tree.specs.Tree as t
use Rattle.dart_tree.specs.View as view
use Rattle.dart_syntax.specs.Statements.{to_required, more_required, to_optional, more_optional}
use Rattle.grammar_laws.specs.Readers.{Reader, Outcome, and_then, both, trailed, starts}
use Rattle.syntax_readers.specs.Combinators.{◌~◌}
use Rattle.syntax_readers.specs.Parameters as spec
use Rattle.syntax_readers.specs.Parameters.{after_sign}
use Rattle.token_codes.specs.Codes.{class_of, these}
use Rattle.token_codes.specs.Leaves.{sign}
use Rattle.parse_loop.specs.Lists.{Growing}
use Rattle.parse_parameter.specs.Views.{Bare, Default, node_height, default_height, some_required}

-- ---- lists of parameters

abbrev pub snoc_parameter : t.ParameterList → t.Parameter → t.ParameterList
snoc_parameter t.no_parameters x = t.parameter x t.no_parameters
snoc_parameter (t.parameter y more) x = t.parameter y (snoc_parameter more x)

pushed_to : (l : List Parameter) (x : Parameter) → parameter_list_of (l ++ x ∷ []) ≡ snoc_parameter (parameter_list_of l) (view.parameter x)
pushed_to [] x = refl
pushed_to (y ∷ l) x = ap (t.parameter (view.parameter y)) (pushed_to l x)

pub pushed : (items new : List Parameter) (x : Parameter) (y : t.Parameter) → new ≡ items ++ x ∷ [] → view.parameter x ≡ y → parameter_list_of new ≡ snoc_parameter (parameter_list_of items) y
pushed items new x y e is = ap parameter_list_of e ∙ pushed_to items x ∙ ap (snoc_parameter (parameter_list_of items)) is

-- a list of one
pub one_pushed : (new : List Parameter) (x : Parameter) (y : t.Parameter) → new ≡ x ∷ [] → view.parameter x ≡ y → parameter_list_of new ≡ t.parameter y t.no_parameters
one_pushed new x y e is = ap parameter_list_of e ∙ ap (λ (z : t.Parameter). t.parameter z t.no_parameters) is

taller_by : (l : t.ParameterList) (x : t.Parameter) → height.parameter_list_height (snoc_parameter l x) ≡ max (height.parameter_list_height l) (height.parameter_height x)
unfolding height.parameter_list_height
taller_by t.no_parameters x = omega arith
taller_by (t.parameter y more) x = let e = taller_by more x in omega arith

-- ---- parameters with defaults

abbrev pub a_default : Option Place → Default → t.Parameter
a_default comma x = t.the_parameter comma x.0.0 x.0.1 x.1

pub default_high : (comma : Option Place) (x : Default) → height.parameter_height (a_default comma x) ≡ default_height x
unfolding height.parameter_height
default_high comma x = refl

abbrev pub snoc_default : t.ParameterList → Place × Default → t.ParameterList
snoc_default l x = snoc_parameter l (a_default (Some x.0) x.1)

more_defaults : (items : List (Place × Default)) (x : Place × Default) → more_optional (items ++ x ∷ []) ≡ snoc_default (more_optional items) x
more_defaults [] x = refl
more_defaults (y ∷ items) x = ap (t.parameter (a_default (Some y.0) y.1)) (more_defaults items x)

pub grow_defaults : (first : Default) (items : List (Place × Default)) (x : Place × Default) → to_optional (first, items ++ x ∷ []) ≡ snoc_default (to_optional (first, items)) x
grow_defaults first items x = ap (t.parameter (a_default None first)) (more_defaults items x)

pub taller_default : (l : t.ParameterList) (x : Place × Default) → height.parameter_list_height (snoc_default l x) ≡ max (height.parameter_list_height l) (default_height x.1)
taller_default l x = taller_by l (a_default (Some x.0) x.1) ∙ ap (max (height.parameter_list_height l)) (default_high (Some x.0) x.1)

abbrev pub defaults : Sign → Reader Token Bare → Reader Token t.Expr → Growing Default (Place × Default) t.ParameterList
defaults before parameter expr = record {
  codes = these s.Comma;
  item = sign s.Comma ~ (parameter ~ after_sign before expr);
  give = λ first items. to_optional (first, items);
  snoc = snoc_default;
  high = height.parameter_list_height;
  tall = λ x. default_height x.1;
  grows = grow_defaults;
  taller = taller_default;
}

pub one_default_high : (l : t.ParameterList) (x : Default) (h : ℕ) → l ≡ t.parameter (a_default None x) t.no_parameters → h ≡ default_height x → h ≡ height.parameter_list_height l
unfolding height.parameter_list_height
one_default_high l x h is high = let k = ap height.parameter_list_height is in let m = default_high None x in omega arith

-- ---- required parameters

abbrev pub a_required : Option Place → Bare → t.Parameter
a_required comma x = t.the_parameter comma x.0 x.1 t.omitted

pub required_high : (comma : Option Place) (x : Bare) → height.parameter_height (a_required comma x) ≡ node_height x
unfolding height.parameter_height height.value_height
required_high comma x = omega arith

abbrev pub snoc_required : t.ParameterList → Place × Bare → t.ParameterList
snoc_required l x = snoc_parameter l (a_required (Some x.0) x.1)

more_grow : (items : List (Place × Bare)) (x : Place × Bare) → more_required (items ++ x ∷ []) ≡ snoc_required (more_required items) x
more_grow [] x = refl
more_grow (y ∷ items) x = ap (t.parameter (a_required (Some y.0) y.1)) (more_grow items x)

pub grow_required : (first : Bare) (items : List (Place × Bare)) (x : Place × Bare) → to_required (first, items ++ x ∷ []) ≡ snoc_required (to_required (first, items)) x
grow_required first items x = ap (t.parameter (a_required None first)) (more_grow items x)

pub taller_required : (l : t.ParameterList) (x : Place × Bare) → height.parameter_list_height (snoc_required l x) ≡ max (height.parameter_list_height l) (node_height x.1)
taller_required l x = taller_by l (a_required (Some x.0) x.1) ∙ ap (max (height.parameter_list_height l)) (required_high (Some x.0) x.1)

abbrev pub required_list : Reader Token Bare → Growing Bare (Place × Bare) t.ParameterList
required_list parameter = record {
  codes = these s.Comma;
  item = sign s.Comma ~ parameter;
  give = λ first items. to_required (first, items);
  snoc = snoc_required;
  high = height.parameter_list_height;
  tall = λ x. node_height x.1;
  grows = grow_required;
  taller = taller_required;
}

pub one_required_high : (l : t.ParameterList) (x : Bare) (h : ℕ) → l ≡ t.parameter (a_required None x) t.no_parameters → h ≡ node_height x → h ≡ height.parameter_list_height l
unfolding height.parameter_list_height
one_required_high l x h is high = let k = ap height.parameter_list_height is in let m = required_high None x in omega arith

-- ---- none, or some

pub none_required : (parameter : Reader Token Bare) (ts : List Token) → starts class_of spec.parameter_first ts ≡ false → spec.required parameter ts ≡ Ok ((t.no_parameters, None), ts)
unfolding spec.required
none_required parameter ts off = rw off refl

pub no_parameters_high : (l : t.ParameterList) → l ≡ t.no_parameters → 0 ≡ height.parameter_list_height l
unfolding height.parameter_list_height
no_parameters_high l is = ap height.parameter_list_height (sym is)

abbrev All : Type 0
All = Bare × (List (Place × Bare) × Option Place)

by_outcome : (o : Outcome Token All) →
    and_then {B = spec.Required} (and_then {B = Option All} o (λ b rest. Ok (Some b, rest))) (λ x rest. Ok (spec.required_of x, rest)) ≡ and_then o (λ x rest. Ok ((to_required (x.0, x.1.0), x.1.1), rest))
by_outcome (Ok x) = refl
by_outcome (Err rest) = refl

pub some_are_required : (parameter : Reader Token Bare) (ts : List Token) → starts class_of spec.parameter_first ts ≡ true → spec.required parameter ts ≡ some_required parameter ts
unfolding spec.required
some_are_required parameter ts on = rw on (by_outcome (both parameter (trailed class_of (these s.Comma) spec.parameter_first (sign s.Comma) parameter) ts))

-- ---- whether optional ones follow

pub follow_some : (items : List Parameter) (n : ℕ) (comma : Option Place) (b : Bool) → n ≡ length items → (n == 0) ≡ false → is_some comma ≡ (spec.has_comma (parameter_list_of items, comma) || (spec.allows_optional (parameter_list_of items, comma) && b))
follow_some [] n comma b is some = let none : true ≡ false = sym (ap (λ (m : ℕ). m == 0) is) ∙ some in absurd cc
follow_some (x ∷ items) n None b is some = refl
follow_some (x ∷ items) n (Some comma) b is some = refl
