-- A list of types, as a list that each further type makes longer.
use Rattle.std.proofs.Common.{◌≡◌, ℕ, max, List, [], ◌∷◌, ◌++◌, Some, None, refl, ap, ◌∙◌, arith}
use Rattle.dart_base.specs.declared.place.Place.{Place}
use Rattle.dart_token.specs.declared.token.Token.{Token}
use Rattle.dart_token.specs.declared.sign.Sign.TheVariants as s
use Rattle.dart_tree.specs.declared.types.TypeArgument.{TypeArgument}
use Rattle.dart_tree.specs.declared.types.TypeNode.{TypeNode}
use Rattle.dart_tree.specs.Depth as height
use Rattle.dart_tree.specs.Lists.{type_list_of}
use Rattle.dart_tree.specs.Types as y
use Rattle.dart_tree.specs.View as view
use Rattle.grammar_laws.specs.Readers.{Reader, both}
use Rattle.dart_syntax.specs.Types.{type_list, more_types}
use Rattle.token_codes.specs.Codes.{these}
use Rattle.token_codes.specs.Leaves.{sign}
use Rattle.parse_loop.specs.Lists.{Growing}

abbrev pub snoc : y.TypeList → Place × y.TypeNode → y.TypeList
snoc y.no_more_types x = y.type_more (Some x.0) x.1 y.no_more_types
snoc (y.type_more comma argument rest) x = y.type_more comma argument (snoc rest x)

more_grow : (items : List (Place × y.TypeNode)) (x : Place × y.TypeNode) → more_types (items ++ x ∷ []) ≡ snoc (more_types items) x
more_grow [] x = refl
more_grow (i ∷ items) x = ap (y.type_more (Some i.0) i.1) (more_grow items x)

pub grow : (first : y.TypeNode) (items : List (Place × y.TypeNode)) (x : Place × y.TypeNode) → type_list (first, items ++ x ∷ []) ≡ snoc (type_list (first, items)) x
grow first items x = ap (y.type_more None first) (more_grow items x)

pub taller : (l : y.TypeList) (x : Place × y.TypeNode) → height.type_list_height (snoc l x) ≡ max (height.type_list_height l) (height.type_height x.1)
taller y.no_more_types x = omega arith
taller (y.type_more comma argument rest) x = let e = taller rest x in omega arith

abbrev pub types_list : Reader Token y.TypeNode → Growing y.TypeNode (Place × y.TypeNode) y.TypeList
types_list inner = record {
  codes = these s.Comma;
  item = both (sign s.Comma) inner;
  give = λ first items. type_list (first, items);
  snoc = snoc;
  high = height.type_list_height;
  tall = λ x. height.type_height x.1;
  grows = grow;
  taller = taller;
}

-- what is pushed stands behind the others
abbrev behind_comma : Place → TypeNode → TypeArgument
behind_comma place x = record { comma = Some place; argument = x }

pushed_to : (items : List TypeArgument) (place : Place) (x : TypeNode) → type_list_of (items ++ behind_comma place x ∷ []) ≡ snoc (type_list_of items) (place, view.type_node x)
pushed_to [] place x = refl
pushed_to (i ∷ items) place x = ap (y.type_more i.comma (view.type_node i.argument)) (pushed_to items place x)

pub pushed : (items new : List TypeArgument) (place : Place) (x : TypeNode) → new ≡ items ++ behind_comma place x ∷ [] → type_list_of new ≡ snoc (type_list_of items) (place, view.type_node x)
pushed items new place x e = ap type_list_of e ∙ pushed_to items place x

-- a list of one
pub one_pushed : (new : List TypeArgument) (x : TypeNode) → new ≡ record { comma = None; argument = x } ∷ [] → type_list_of new ≡ type_list (view.type_node x, [])
one_pushed new x e = ap type_list_of e

pub one_high : (l : y.TypeList) (x : y.TypeNode) (h : ℕ) → l ≡ type_list (x, []) → h ≡ height.type_height x → h ≡ height.type_list_height l
one_high l x h is e = let k = ap height.type_list_height is in omega arith
