-- Initialisers, as a list that each further one makes longer.
use Rattle.std.proofs.Common.{◌≡◌, ℕ, max, List, [], ◌∷◌, ◌++◌, map, Option, Some, None, Ok, Err, refl, ap, arith}
use Rattle.dart_base.specs.declared.place.Place.{Place}
use Rattle.dart_token.specs.declared.sign.Sign.TheVariants as s
use Rattle.dart_token.specs.declared.token.Token.{Token}
use Rattle.dart_tree.specs.declared.declaration.Init.{Init}
use Rattle.dart_tree.specs.Depth as height
use Rattle.dart_tree.specs.Unit as u
use Rattle.dart_tree.specs.UnitView as view
use Rattle.dart_syntax.specs.Declarations.{to_inits, more_inits}
use Rattle.grammar_laws.specs.Readers.{Reader, Outcome, and_then, separated}
use Rattle.syntax_readers.specs.Combinators.{◌~◌}
use Rattle.syntax_readers.specs.Declarations.{initializers}
use Rattle.token_codes.specs.Codes.{class_of, these}
use Rattle.token_codes.specs.Leaves.{sign}
use Rattle.parse_loop.specs.Lists.{Growing}
use Rattle.parse_loop.proofs.Alike as alike
use Rattle.parse_constructor.specs.Views.{init_height, comma_init_height, inits_height, initializers_parts}

abbrev pub an_init : Option Place → u.InitKind → u.Init
an_init comma kind = record { comma = comma; kind = kind }

abbrev pub snoc_init : List u.Init → Place × u.InitKind → List u.Init
snoc_init l x = alike.behind l (an_init (Some x.0) x.1)

more_grow : (items : List (Place × u.InitKind)) (x : Place × u.InitKind) → more_inits (items ++ x ∷ []) ≡ snoc_init (more_inits items) x
more_grow [] (c, k) = refl
more_grow ((comma, kind) ∷ items) (c, k) = ap (λ (l : List u.Init). an_init (Some comma) kind ∷ l) (more_grow items (c, k))

pub grow_inits : (first : u.InitKind) (items : List (Place × u.InitKind)) (x : Place × u.InitKind) →
    to_inits (first, items ++ x ∷ []) ≡ snoc_init (to_inits (first, items)) x
grow_inits first items x = ap (λ (l : List u.Init). an_init None first ∷ l) (more_grow items x)

pub taller_inits : (l : List u.Init) (x : Place × u.InitKind) → inits_height (snoc_init l x) ≡ max (inits_height l) (comma_init_height x)
taller_inits l x = alike.behind_taller height.init_height l (an_init (Some x.0) x.1)

abbrev pub inits_list : Reader Token u.InitKind → Growing u.InitKind (Place × u.InitKind) (List u.Init)
inits_list init = record {
  codes = these s.Comma;
  item = sign s.Comma ~ init;
  give = λ first items. to_inits (first, items);
  snoc = snoc_init;
  high = inits_height;
  tall = comma_init_height;
  grows = grow_inits;
  taller = taller_inits;
}

pub pushed : (items new : List Init) (x : Init) → new ≡ items ++ x ∷ [] → map view.init new ≡ alike.behind (map view.init items) (view.init x)
pushed items new x e = alike.pushed view.init items new x e

-- a list of one
pub one_pushed : (new : List Init) (x : Init) → new ≡ x ∷ [] → map view.init new ≡ view.init x ∷ []
one_pushed new x e = ap (map view.init) e

pub one_high : (l : List u.Init) (x : u.InitKind) (h : ℕ) → l ≡ an_init None x ∷ [] → h ≡ init_height x → h ≡ inits_height l
one_high l x h is high = let k = ap inits_height is in omega arith

-- ---- behind the colon

abbrev Listed : Type 0
Listed = u.InitKind × List (Place × u.InitKind)

abbrev behind : {X : Type 0} → Place → Outcome Token X → Outcome Token (Place × X)
behind colon o = and_then o (λ x rest. Ok ((colon, x), rest))

abbrev listed : Place × Listed → List Token → Outcome Token u.Initializers
listed x rest = Ok (record { colon = x.0; items = to_inits x.1 }, rest)

abbrev whole : Place × List u.Init → List Token → Outcome Token u.Initializers
whole x rest = Ok (record { colon = x.0; items = x.1 }, rest)

abbrev inits_in : Outcome Token Listed → Outcome Token (List u.Init)
inits_in o = and_then o (λ x rest. Ok (to_inits x, rest))

by_list : (colon : Place) (o : Outcome Token Listed) → and_then (behind colon o) listed ≡ and_then (behind colon (inits_in o)) whole
by_list colon (Ok x) = refl
by_list colon (Err rest) = refl

by_colon : (o : Outcome Token Place) (list : Reader Token Listed) →
    and_then (and_then o (λ colon mid. behind colon (list mid))) listed
    ≡ and_then (and_then o (λ colon mid. behind colon (inits_in (list mid)))) whole
by_colon (Ok x) list = by_list x.0 (list x.1)
by_colon (Err rest) list = refl

pub parts_are : (init : Reader Token u.InitKind) (ts : List Token) → initializers init ts ≡ initializers_parts init ts
unfolding initializers
parts_are init ts = by_colon (sign s.Colon ts) (separated class_of (these s.Comma) init (sign s.Comma))
