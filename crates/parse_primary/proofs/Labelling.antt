-- Arguments, of which none without a label stands behind one with a label.
use Rattle.std.proofs.Common.{◌≡◌, ℕ, ◌+◌, ◌-◌, ◌<◌, ◌≤◌, max, Bool, true, false, List, [], ◌∷◌, ◌++◌, Ok, Err, Some, None, Option, length, refl, sym, ap, ◌∙◌, arith}
use Rattle.dart_base.specs.declared.place.Place.{Place}
use Rattle.dart_token.specs.declared.token.Token.{Token}
use Rattle.dart_token.specs.declared.sign.Sign.TheVariants as s
use Rattle.dart_tree.specs.declared.expression.Expr.{Expr}
use Rattle.dart_tree.specs.declared.expression.Item.{Item}
use Rattle.dart_tree.specs.declared.identifier.Label.{Label}
use Rattle.dart_tree.specs.Depth as height
use Rattle.dart_tree.specs.Lists.{items_of}
use Rattle.dart_tree.specs.Tree as t
use Rattle.dart_tree.specs.View as view
use Rattle.std.specs.Prelude.{is_some}
use Rattle.grammar_laws.specs.Readers.{Reader, Outcome, and_then, mapped, both, prepend, many_from_turns, option, starts, starts_two}
use Rattle.grammar_laws.proofs.Cuts.{gave}
use Rattle.grammar_laws.proofs.Turns.{from_over, from_stops, from_fails, from_more}
use Rattle.token_codes.specs.Codes.{class_of, names, these}
use Rattle.token_codes.specs.Leaves.{sign}
use Rattle.syntax_readers.specs.Combinators.{past_name}
use Rattle.syntax_readers.specs.Primaries.{Argument, is_labelled, more_arguments, to_arguments, named_argument, argument, argument_list, arguments_over, expr_first}
use Rattle.parse_primary.specs.Views.{unlabelled, some_arguments, maybe_arguments, arguments_of}

-- ---- items behind one another

abbrev pub snoc_item : t.Items → Option Place → Option Label → t.Expr → t.Items
snoc_item t.no_items comma label e = t.item comma label e t.no_items
snoc_item (t.item c n x more) comma label e = t.item c n x (snoc_item more comma label e)

pub item_taller : (l : t.Items) (comma : Option Place) (label : Option Label) (e : t.Expr) → height.items_height (snoc_item l comma label e) ≡ max (height.items_height l) (height.expr_height e)
unfolding height.items_height
item_taller t.no_items comma label e = omega arith
item_taller (t.item c n x more) comma label e = let h = item_taller more comma label e in omega arith

pub items_pushed : (items : List Item) (comma : Option Place) (label : Option Label) (e : Expr) → items_of (items ++ record { comma = comma; label = label; value = e } ∷ []) ≡ snoc_item (items_of items) comma label (view.expr e)
items_pushed [] comma label e = refl
items_pushed (x ∷ items) comma label e = ap (t.item x.comma x.label (view.expr x.value)) (items_pushed items comma label e)

abbrev pub snoc : t.Items → Place × Argument → t.Items
snoc l y = snoc_item l (Some y.0) y.1.0 y.1.1

more_grow : (items : List (Place × Argument)) (y : Place × Argument) → more_arguments (items ++ y ∷ []) ≡ snoc (more_arguments items) y
more_grow [] y = refl
more_grow (x ∷ items) y = ap (t.item (Some x.0) x.1.0 x.1.1) (more_grow items y)

abbrev pub all_of : Argument → List (Place × Argument) → t.Items
all_of first items = to_arguments (Some (first, items))

grow : (first : Argument) (items : List (Place × Argument)) (y : Place × Argument) → all_of first (items ++ y ∷ []) ≡ snoc (all_of first items) y
grow first items y = ap (t.item None first.0 first.1) (more_grow items y)

-- ---- the loop

abbrev comma_first : Bool → List ℕ
comma_first named = these s.Comma

abbrev item : Reader Token t.Expr → Bool → Reader Token (Place × Argument)
item expr named = both (sign s.Comma) (argument expr named)

abbrev goes : Bool → Place × Argument → Bool
goes named y = true

abbrev next : Bool → Place × Argument → Bool
next named y = is_labelled y.1

abbrev turns : Reader Token t.Expr → ℕ → Bool → List Token → Outcome Token (List (Place × Argument))
turns expr left named rest = many_from_turns class_of comma_first (item expr) goes next left named rest

abbrev given : Argument → Outcome Token (List (Place × Argument)) → Outcome Token t.Items
given first o = and_then o (λ items rest. Ok (all_of first items, rest))

-- these arguments were read, the last with a label or not, and so many turns are left
pub record ArgumentsSoFar (expr : Reader Token t.Expr) (depth : ℕ) (start : List Token) (named : Bool) (list : t.Items) (highest left : ℕ) (rest : List Token) : Type 0 where
  pub first : Argument
  pub items : List (Place × Argument)
  pub same : list ≡ all_of first items
  pub high : highest ≡ height.items_height list
  pub low : highest ≤ depth
  pub read : some_arguments expr start ≡ given first (prepend items (turns expr left named rest))

behind_first : (first : Argument) (o : Outcome Token (List (Place × Argument))) →
    and_then {B = t.Items} (and_then {B = Argument × List (Place × Argument)} o (λ items rest. Ok ((first, items), rest))) (λ x rest. Ok (all_of x.0 x.1, rest)) ≡ given first (prepend [] o)
behind_first first (Ok x) = refl
behind_first first (Err rest) = refl

module _ (expr : Reader Token t.Expr) (depth : ℕ) (start : List Token) where
  abbrev So : Bool → t.Items → ℕ → ℕ → List Token → Type 0
  So named list h left rest = ArgumentsSoFar expr depth start named list h left rest

  pub begins : (mid : List Token) (first : Argument) (named : Bool) (list : t.Items) (h left : ℕ) → argument expr false start ≡ Ok (first, mid) → named ≡ is_labelled first → list ≡ all_of first [] → h ≡ height.items_height list → h ≤ depth → left ≡ length mid → So named list h left mid
  unfolding argument_list
  begins mid first named list h left e is same high low few = record {
    first = first;
    items = [];
    same = same;
    high = high;
    low = low;
    read = rw (e, is, few) (behind_first first (turns expr (length mid) (is_labelled first) mid));
  }

  pub no_first : (end : List Token) → argument expr false start ≡ Err end → some_arguments expr start ≡ Err end
  unfolding argument_list
  no_first end e = rw e refl

  ended : (named : Bool) (list : t.Items) (h left : ℕ) (rest end : List Token) (i : So named list h left rest) → prepend i.items (turns expr left named rest) ≡ Ok (i.items, end) → some_arguments expr start ≡ Ok (list, end)
  ended named list h left rest end i e = i.read ∙ ap (given i.first) e ∙ ap (λ (x : t.Items). gave x end) (sym i.same)

  pub stops : (named : Bool) (list : t.Items) (h n at : ℕ) (rest : List Token) → So named list h (n - at) rest → at < n → starts class_of (these s.Comma) rest ≡ false → some_arguments expr start ≡ Ok (list, rest)
  stops named list h n at rest i below off = ended named list h (n - at) rest rest i (from_stops class_of comma_first (item expr) goes next n at named i.items rest below off)

  pub over : (named : Bool) (list : t.Items) (h n at : ℕ) (rest : List Token) → So named list h (n - at) rest → n ≤ at → some_arguments expr start ≡ Ok (list, rest)
  over named list h n at rest i done = ended named list h (n - at) rest rest i (from_over class_of comma_first (item expr) goes next n at named i.items rest done)

  pub fails : (named : Bool) (list : t.Items) (h n at : ℕ) (rest end : List Token) → So named list h (n - at) rest → at < n → starts class_of (these s.Comma) rest ≡ true → item expr named rest ≡ Err end → some_arguments expr start ≡ Err end
  fails named list h n at rest end i below on e = i.read ∙ ap (given i.first) (from_fails class_of comma_first (item expr) goes next n at named i.items rest end below on e)

  pub goes_on : (named then : Bool) (list longer : t.Items) (h high n at : ℕ) (rest mid : List Token) (y : Place × Argument) → So named list h (n - at) rest → at < n → starts class_of (these s.Comma) rest ≡ true → item expr named rest ≡ Ok (y, mid) →
      then ≡ is_labelled y.1 → longer ≡ snoc list y → high ≡ max h (height.expr_height y.1.1) → height.expr_height y.1.1 ≤ depth → So then longer high (n - (at + 1)) mid
  goes_on named then list longer h high n at rest mid y i below on e is same hi le = record {
    first = i.first;
    items = i.items ++ y ∷ [];
    same = same ∙ ap (λ (x : t.Items). snoc x y) i.same ∙ sym (grow i.first i.items y);
    high = let a = i.high in let k = item_taller list (Some y.0) y.1.0 y.1.1 in let j = ap height.items_height same in omega arith;
    low = let l = i.low in omega arith;
    read = i.read ∙ ap (given i.first) (from_more class_of comma_first (item expr) goes next n at named i.items rest mid y below on e refl
        ∙ ap (λ (b : Bool). prepend (i.items ++ y ∷ []) (turns expr (n - (at + 1)) b mid)) (sym is));
  }

-- ---- one of them

pub named_is : (expr : Reader Token t.Expr) (named : Bool) (ts : List Token) → named ≡ true → argument expr named ts ≡ named_argument expr ts
unfolding argument
named_is expr named ts on = rw on refl

pub label_is : (expr : Reader Token t.Expr) (named : Bool) (ts : List Token) → named ≡ false → starts_two class_of names (these s.Colon) ts ≡ true → argument expr named ts ≡ named_argument expr ts
unfolding argument
label_is expr named ts off on = rw (off, on) refl

pub plain_is : (expr : Reader Token t.Expr) (named : Bool) (ts : List Token) → named ≡ false → starts_two class_of names (these s.Colon) ts ≡ false → argument expr named ts ≡ past_name (unlabelled expr) ts
unfolding argument
plain_is expr named ts off no_label = rw (off, no_label) refl

-- ---- none, or some

pub none_are : (expr : Reader Token t.Expr) (ts : List Token) → starts class_of expr_first ts ≡ false → maybe_arguments expr ts ≡ Ok (t.no_items, ts)
none_are expr ts off = rw off refl

pub none_given : (expr : Reader Token t.Expr) (d : ℕ) (ts : List Token) (items : List Item) → starts class_of expr_first ts ≡ false → items ≡ [] →
    (maybe_arguments expr ts ≡ Ok (items_of items, ts)) × (0 ≡ height.items_height (items_of items)) × (0 ≤ d)
unfolding height.items_height
none_given expr d ts items off none =
    (none_are expr ts off ∙ ap (λ (l : List Item). gave (items_of l) ts) (sym none), ap (λ (l : List Item). height.items_height (items_of l)) (sym none), omega arith)

by_outcome : (o : Outcome Token (Argument × List (Place × Argument))) →
    and_then {B = t.Items} (and_then {B = Option (Argument × List (Place × Argument))} o (λ b rest. Ok (Some b, rest))) (λ x rest. Ok (to_arguments x, rest)) ≡ and_then o (λ x rest. Ok (to_arguments (Some x), rest))
by_outcome (Ok x) = refl
by_outcome (Err rest) = refl

pub some_are : (expr : Reader Token t.Expr) (ts : List Token) → starts class_of expr_first ts ≡ true → maybe_arguments expr ts ≡ some_arguments expr ts
some_are expr ts on = rw on (by_outcome (argument_list expr ts))

-- ---- in parentheses

module _ {A B C D X : Type 0} (f : A → D → C → X) (g : B → D) (p : Reader Token A) (q : Reader Token B) (r : Reader Token C) where
  by_third : (a : A) (b : B) (o : Outcome Token C) →
      and_then {B = X} (and_then {B = A × (B × C)} (and_then {B = B × C} o (λ c rest. Ok ((b, c), rest))) (λ x rest. Ok ((a, x), rest))) (λ x rest. Ok (f x.0 (g x.1.0) x.1.1, rest))
      ≡ and_then {B = X} (and_then {B = A × (D × C)} (and_then {B = D × C} o (λ c rest. Ok ((g b, c), rest))) (λ x rest. Ok ((a, x), rest))) (λ x rest. Ok (f x.0 x.1.0 x.1.1, rest))
  by_third a b (Ok c) = refl
  by_third a b (Err rest) = refl

  by_second : (a : A) (o : Outcome Token B) →
      and_then {B = X} (and_then {B = A × (B × C)} (and_then {B = B × C} o (λ b mid. and_then (r mid) (λ c rest. Ok ((b, c), rest)))) (λ x rest. Ok ((a, x), rest))) (λ x rest. Ok (f x.0 (g x.1.0) x.1.1, rest))
      ≡ and_then {B = X} (and_then {B = A × (D × C)} (and_then {B = D × C} (and_then {B = D} o (λ b rest. Ok (g b, rest))) (λ d mid. and_then (r mid) (λ c rest. Ok ((d, c), rest)))) (λ x rest. Ok ((a, x), rest))) (λ x rest. Ok (f x.0 x.1.0 x.1.1, rest))
  by_second a (Ok b) = by_third a b.0 (r b.1)
  by_second a (Err rest) = refl

  by_opening : (o : Outcome Token A) →
      and_then {B = X} (and_then {B = A × (B × C)} o (λ a mid. and_then (both q r mid) (λ x rest. Ok ((a, x), rest)))) (λ x rest. Ok (f x.0 (g x.1.0) x.1.1, rest))
      ≡ and_then {B = X} (and_then {B = A × (D × C)} o (λ a mid. and_then (both (mapped g q) r mid) (λ x rest. Ok ((a, x), rest)))) (λ x rest. Ok (f x.0 x.1.0 x.1.1, rest))
  by_opening (Ok a) = by_second a.0 (q a.1)
  by_opening (Err rest) = refl

pub arguments_are : (expr : Reader Token t.Expr) (ts : List Token) → arguments_over expr ts ≡ arguments_of expr ts
unfolding arguments_over
arguments_are expr ts = by_opening t.the_arguments to_arguments (sign s.LeftParenthesis) (option class_of expr_first (argument_list expr)) (sign s.RightParenthesis) (sign s.LeftParenthesis ts)

-- ---- what the loop pushes

pub labelled_is : (o : Option Label) (e : t.Expr) → is_some o ≡ is_labelled (o, e)
labelled_is None e = refl
labelled_is (Some x) e = refl

pub one_high : (l : t.Items) (first : Argument) (h : ℕ) → l ≡ all_of first [] → h ≡ height.expr_height first.1 → h ≡ height.items_height l
unfolding height.items_height
one_high l first h is e = let k = ap height.items_height is in omega arith

pub pushed : (items new : List Item) (comma : Option Place) (label : Option Label) (e : Expr) → new ≡ items ++ record { comma = comma; label = label; value = e } ∷ [] → items_of new ≡ snoc_item (items_of items) comma label (view.expr e)
pushed items new comma label e is = ap items_of is ∙ items_pushed items comma label e
