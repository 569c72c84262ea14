-- The items of lists and the entries of maps, as lists that each further one makes longer.
use Rattle.std.proofs.Common.{◌≡◌, ℕ, max, true, false, List, [], ◌∷◌, ◌++◌, Ok, Err, Some, None, Option, refl, sym, subst, ap, ◌∙◌, arith}
use Rattle.dart_base.specs.declared.place.Place.{Place}
use Rattle.dart_token.specs.declared.token.Token.{Token}
use Rattle.dart_token.specs.declared.sign.Sign.TheVariants as s
use Rattle.dart_tree.specs.declared.expression.Entry.{Entry}
use Rattle.dart_tree.specs.declared.expression.Expr.{Expr}
use Rattle.dart_tree.specs.declared.expression.Item.{Item}
use Rattle.dart_tree.specs.declared.identifier.Label.{Label}
use Rattle.dart_tree.specs.Depth as height
use Rattle.dart_tree.specs.Lists.{items_of, entries_of}
use Rattle.dart_tree.specs.Tree as t
use Rattle.dart_tree.specs.View as view
use Rattle.dart_syntax.specs.Expressions.{more_items, more_entries}
use Rattle.grammar_laws.specs.Readers.{Reader, Outcome, and_then, mapped, both, option, starts, trailed}
use Rattle.token_codes.specs.Codes.{class_of, these}
use Rattle.token_codes.specs.Leaves.{sign}
use Rattle.syntax_readers.specs.Primaries.{entry, to_list, to_map, list_items, map_entries, expr_first}
use Rattle.parse_loop.specs.Lists.{Growing}
use Rattle.parse_literal.specs.Views.{some_items, some_entries, entry_height}

-- ---- items of lists

abbrev pub snoc_item : t.Items → Option Place → Option Label → t.Expr → t.Items
snoc_item t.no_items comma label e = t.item comma label e t.no_items
snoc_item (t.item c n x more) comma label e = t.item c n x (snoc_item more comma label e)

pub item_taller : (l : t.Items) (comma : Option Place) (label : Option Label) (e : t.Expr) → height.items_height (snoc_item l comma label e) ≡ max (height.items_height l) (height.expr_height e)
unfolding height.items_height
item_taller t.no_items comma label e = omega arith
item_taller (t.item c n x more) comma label e = let h = item_taller more comma label e in omega arith

pub items_pushed : (items : List Item) (comma : Option Place) (label : Option Label) (e : Expr) → items_of (items ++ record { comma = comma; label = label; value = e } ∷ []) ≡ snoc_item (items_of items) comma label (view.expr e)
items_pushed [] comma label e = refl
items_pushed (x ∷ items) comma label e = ap (t.item x.comma x.label (view.expr x.value)) (items_pushed items comma label e)

pub pushed : (items new : List Item) (comma : Option Place) (label : Option Label) (e : Expr) → new ≡ items ++ record { comma = comma; label = label; value = e } ∷ [] → items_of new ≡ snoc_item (items_of items) comma label (view.expr e)
pushed items new comma label e is = ap items_of is ∙ items_pushed items comma label e

abbrev pub list_of : t.Expr → List (Place × t.Expr) → t.Items
list_of first items = t.item None None first (more_items items t.no_items)

abbrev pub snoc_plain : t.Items → Place × t.Expr → t.Items
snoc_plain l y = snoc_item l (Some y.0) None y.1

more_items_grow : (items : List (Place × t.Expr)) (y : Place × t.Expr) → more_items (items ++ y ∷ []) t.no_items ≡ snoc_plain (more_items items t.no_items) y
more_items_grow [] y = refl
more_items_grow (x ∷ items) y = ap (t.item (Some x.0) None x.1) (more_items_grow items y)

pub items_grow : (first : t.Expr) (items : List (Place × t.Expr)) (y : Place × t.Expr) → list_of first (items ++ y ∷ []) ≡ snoc_plain (list_of first items) y
items_grow first items y = ap (t.item None None first) (more_items_grow items y)

pub plain_taller : (l : t.Items) (y : Place × t.Expr) → height.items_height (snoc_plain l y) ≡ max (height.items_height l) (height.expr_height y.1)
plain_taller l y = item_taller l (Some y.0) None y.1

abbrev pub items_list : Reader Token t.Expr → Growing t.Expr (Place × t.Expr) t.Items
items_list expr = record {
  codes = these s.Comma;
  item = both (sign s.Comma) expr;
  give = list_of;
  snoc = snoc_plain;
  high = height.items_height;
  tall = λ y. height.expr_height y.1;
  grows = items_grow;
  taller = plain_taller;
}

pub one_item_height : (first : t.Expr) → height.items_height (list_of first []) ≡ height.expr_height first
unfolding height.items_height
one_item_height first = omega arith

-- ---- entries of maps

abbrev pub Pair : Type 0
Pair = t.Expr × (Place × t.Expr)

abbrev pub map_of : Pair → List (Place × Pair) → t.Entries
map_of first entries = t.entry None first.0 first.1.0 first.1.1 (more_entries entries)

abbrev pub snoc_entry : t.Entries → Option Place → Pair → t.Entries
snoc_entry t.no_entries comma x = t.entry comma x.0 x.1.0 x.1.1 t.no_entries
snoc_entry (t.entry c k p v more) comma x = t.entry c k p v (snoc_entry more comma x)

abbrev pub snoc_pair : t.Entries → Place × Pair → t.Entries
snoc_pair l y = snoc_entry l (Some y.0) y.1

more_entries_grow : (entries : List (Place × Pair)) (y : Place × Pair) → more_entries (entries ++ y ∷ []) ≡ snoc_pair (more_entries entries) y
more_entries_grow [] y = refl
more_entries_grow (x ∷ entries) y = ap (t.entry (Some x.0) x.1.0 x.1.1.0 x.1.1.1) (more_entries_grow entries y)

pub entries_grow : (first : Pair) (entries : List (Place × Pair)) (y : Place × Pair) → map_of first (entries ++ y ∷ []) ≡ snoc_pair (map_of first entries) y
entries_grow first entries y = ap (t.entry None first.0 first.1.0 first.1.1) (more_entries_grow entries y)

entry_taller : (l : t.Entries) (comma : Option Place) (x : Pair) → height.entries_height (snoc_entry l comma x) ≡ max (height.entries_height l) (entry_height x)
unfolding height.entries_height
entry_taller t.no_entries comma x = omega arith
entry_taller (t.entry c k p v more) comma x = let h = entry_taller more comma x in omega arith

pub pair_taller : (l : t.Entries) (y : Place × Pair) → height.entries_height (snoc_pair l y) ≡ max (height.entries_height l) (entry_height y.1)
pair_taller l y = entry_taller l (Some y.0) y.1

abbrev pub entries_list : Reader Token t.Expr → Growing Pair (Place × Pair) t.Entries
entries_list expr = record {
  codes = these s.Comma;
  item = both (sign s.Comma) (entry expr);
  give = map_of;
  snoc = snoc_pair;
  high = height.entries_height;
  tall = λ y. entry_height y.1;
  grows = entries_grow;
  taller = pair_taller;
}

pub one_entry_height : (first : Pair) → height.entries_height (map_of first []) ≡ entry_height first
unfolding height.entries_height
one_entry_height first = omega arith

pub entries_pushed : (entries : List Entry) (comma : Option Place) (key value : Expr) (colon : Place) → entries_of (entries ++ record { comma = comma; key = key; colon = colon; value = value } ∷ []) ≡ snoc_entry (entries_of entries) comma (view.expr key, (colon, view.expr value))
entries_pushed [] comma key value colon = refl
entries_pushed (x ∷ entries) comma key value colon = ap (t.entry x.comma (view.expr x.key) x.colon (view.expr x.value)) (entries_pushed entries comma key value colon)

-- ---- none, or some

module _ {A B : Type 0} (f : Option A → B) (first : List ℕ) (p : Reader Token A) where
  pub option_off : (ts : List Token) → starts class_of first ts ≡ false → mapped f (option class_of first p) ts ≡ Ok (f None, ts)
  option_off ts off = rw off refl

  by_outcome : (o : Outcome Token A) → and_then {B = B} (and_then {B = Option A} o (λ b rest. Ok (Some b, rest))) (λ x rest. Ok (f x, rest)) ≡ and_then o (λ x rest. Ok (f (Some x), rest))
  by_outcome (Ok x) = refl
  by_outcome (Err rest) = refl

  pub option_on : (ts : List Token) → starts class_of first ts ≡ true → mapped f (option class_of first p) ts ≡ mapped (λ x. f (Some x)) p ts
  option_on ts on = rw on (by_outcome (p ts))

-- ---- the lists and maps in brackets

pub no_items_are : (expr : Reader Token t.Expr) (ts : List Token) (l : t.Items) → starts class_of expr_first ts ≡ false → l ≡ t.no_items → list_items expr ts ≡ Ok ((l, None), ts)
unfolding list_items
no_items_are expr ts l off is =
    subst (λ (x : t.Items). list_items expr ts ≡ Ok ((x, None), ts)) (sym is)
    (option_off to_list expr_first (both expr (trailed class_of (these s.Comma) expr_first (sign s.Comma) expr)) ts off)

pub no_items_height : (l : t.Items) → l ≡ t.no_items → 0 ≡ height.items_height l
unfolding height.items_height
no_items_height l is = sym (ap height.items_height is)

pub no_entries_are : (expr : Reader Token t.Expr) (ts : List Token) (l : t.Entries) → starts class_of expr_first ts ≡ false → l ≡ t.no_entries → map_entries expr ts ≡ Ok ((l, None), ts)
unfolding map_entries
no_entries_are expr ts l off is =
    subst (λ (x : t.Entries). map_entries expr ts ≡ Ok ((x, None), ts)) (sym is)
    (option_off to_map expr_first (both (entry expr) (trailed class_of (these s.Comma) expr_first (sign s.Comma) (entry expr))) ts off)

pub no_entries_height : (l : t.Entries) → l ≡ t.no_entries → 0 ≡ height.entries_height l
unfolding height.entries_height
no_entries_height l is = sym (ap height.entries_height is)

pub some_items_are : (expr : Reader Token t.Expr) (ts : List Token) → starts class_of expr_first ts ≡ true → list_items expr ts ≡ some_items expr ts
unfolding list_items
some_items_are expr ts on = option_on to_list expr_first (both expr (trailed class_of (these s.Comma) expr_first (sign s.Comma) expr)) ts on

pub some_entries_are : (expr : Reader Token t.Expr) (ts : List Token) → starts class_of expr_first ts ≡ true → map_entries expr ts ≡ some_entries expr ts
unfolding map_entries
some_entries_are expr ts on = option_on to_map expr_first (both (entry expr) (trailed class_of (these s.Comma) expr_first (sign s.Comma) (entry expr))) ts on
