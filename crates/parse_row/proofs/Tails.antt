-- Operators with their operands, turn by turn.
use Rattle.std.proofs.Common.{◌≡◌, ℕ, suc, ◌+◌, ◌-◌, ◌<◌, ◌≤◌, max, Bool, true, false, ◌&&◌, if◌then◌else◌, List, [], ◌∷◌, ◌++◌, length, Option, Ok, Err, refl, sym, ap, subst, ◌∙◌, arith}
use Rattle.std.proofs.lemmas.List.{append-nil}
use Rattle.dart_base.specs.declared.place.Place.{Place}
use Rattle.dart_token.specs.declared.token.Token.{Token}
use Rattle.dart_tree.specs.declared.expression.Tail.{Tail}
use Rattle.dart_tree.specs.declared.operator.Operator.{Operator}
use Rattle.dart_tree.specs.Depth as height
use Rattle.dart_tree.specs.Lists.{tails_of}
use Rattle.dart_tree.specs.Tree as t
use Rattle.dart_tree.specs.View as view
use Rattle.grammar_laws.specs.Readers.{Outcome, and_then, starts, prepend, cons_to, many_turns, many_from_turns}
use Rattle.grammar_laws.proofs.Cuts.{gave}
use Rattle.grammar_laws.proofs.Turns.{prepend_one}
use Rattle.token_codes.specs.Codes.{class_of}
use Rattle.syntax_readers.specs.Combinators.{Open}
use Rattle.syntax_readers.specs.Levels.{Item, to_tails, shift_codes}
use Rattle.parse_row.specs.Rows.{item, item_repeats, row_codes, tails_behind, shift_item, shift_leaves, shift_step, shifts_behind, view_item, item_height, TailsSoFar, left_of, left_from}

-- ---- one more at the end of a list

snoc : t.Tails → Operator → t.Operand → t.Tails
snoc t.no_tails o x = t.tail o x t.no_tails
snoc (t.tail p y rest) o x = t.tail p y (snoc rest o x)

some_more : (items : List Item) (y z : Item) → to_tails (y ∷ (items ++ z ∷ [])) ≡ (t.tail y.0 y.1.0 (to_tails (items ++ z ∷ [])).0, (to_tails (items ++ z ∷ [])).1)
some_more [] y z = refl
some_more (x ∷ items) y z = refl

push_item : (items : List Item) (z : Item) → to_tails (items ++ z ∷ []) ≡ (snoc (to_tails items).0 z.0 z.1.0, z.1.1)
unfolding snoc
push_item [] z = refl
push_item (y ∷ items) z = some_more items y z ∙ ap (λ (r : Open t.Tails). (t.tail y.0 y.1.0 r.0, r.1)) (push_item items z)

push_tail : (found : List Tail) (x : Tail) → tails_of (found ++ x ∷ []) ≡ snoc (tails_of found) x.operator (view.operand x.operand)
unfolding snoc
push_tail [] x = refl
push_tail (y ∷ found) x = ap (t.tail y.operator (view.operand y.operand)) (push_tail found x)

push_height : (found : List Tail) (x : Tail) → height.tails_height (tails_of (found ++ x ∷ [])) ≡ max (height.tails_height (tails_of found)) (height.operand_height (view.operand x.operand))
unfolding height.tails_height
push_height [] x = omega arith
push_height (y ∷ found) x = let e = push_height found x in omega arith

one_height : (x : Tail) → height.tails_height (tails_of (x ∷ [])) ≡ height.operand_height (view.operand x.operand)
unfolding height.tails_height
one_height x = omega arith

-- ---- what is read so far

module _ (depth : ℕ) (whole : Outcome Token (Open t.Tails)) where
  -- before the first turn
  pub begins : (x : Tail) (half : Option Place) (new : List Tail) (h : ℕ) (left : Outcome Token (List Item)) →
      whole ≡ and_then (cons_to (view_item (x, half)) left) (λ l rest. Ok (to_tails l, rest)) → new ≡ x ∷ [] → h ≡ item_height (view_item (x, half)) → h ≤ depth → TailsSoFar depth whole new half h left
  begins x half new h left is e high low = subst (λ (l : List Tail). TailsSoFar depth whole l half h left) (sym e) (record {
    items = view_item (x, half) ∷ [];
    same = refl;
    high = high ∙ sym (one_height x);
    low = low;
    read = is;
  })

  -- no further one is read
  pub stops : (found : List Tail) (half : Option Place) (h : ℕ) (left : Outcome Token (List Item)) (rest : List Token) → TailsSoFar depth whole found half h left → left ≡ Ok ([], rest) → whole ≡ Ok ((tails_of found, half), rest)
  stops found half h left rest i e =
      i.read ∙ ap (λ (o : Outcome Token (List Item)). and_then {B = Open t.Tails} (prepend i.items o) (λ l end. Ok (to_tails l, end))) e
      ∙ ap (λ (l : List Item). gave (to_tails l) rest) (append-nil i.items) ∙ ap (λ (x : Open t.Tails). gave x rest) i.same

  -- one begins that is none
  pub fails : (found : List Tail) (half : Option Place) (h : ℕ) (left : Outcome Token (List Item)) (end : List Token) → TailsSoFar depth whole found half h left → left ≡ Err end → whole ≡ Err end
  fails found half h left end i e = i.read ∙ ap (λ (o : Outcome Token (List Item)). and_then {B = Open t.Tails} (prepend i.items o) (λ l rest. Ok (to_tails l, rest))) e

  -- one more is read
  pub goes_on : (found new : List Tail) (half behind : Option Place) (h high : ℕ) (left more : Outcome Token (List Item)) (x : Tail) → TailsSoFar depth whole found half h left → left ≡ cons_to (view_item (x, behind)) more → new ≡ found ++ x ∷ [] →
      high ≡ max h (item_height (view_item (x, behind))) → item_height (view_item (x, behind)) ≤ depth → TailsSoFar depth whole new behind high more
  goes_on found new half behind h high left more x i e is hi le = subst (λ (l : List Tail). TailsSoFar depth whole l behind high more) (sym is) (record {
    items = i.items ++ view_item (x, behind) ∷ [];
    same = push_item i.items (view_item (x, behind)) ∙ ap (λ (r : Open t.Tails). (snoc r.0 x.operator (view.operand x.operand), behind)) i.same ∙ ap (λ (r : t.Tails). (r, behind)) (sym (push_tail found x));
    high = let a = i.high in let p = push_height found x in omega arith;
    low = let l = i.low in omega arith;
    read = i.read ∙ ap (λ (o : Outcome Token (List Item)). and_then {B = Open t.Tails} o (λ l rest. Ok (to_tails l, rest))) (ap (λ (o : Outcome Token (List Item)). prepend i.items o) e ∙ prepend_one i.items (view_item (x, behind)) more);
  })

one_less : (n at : ℕ) → at < n → n - at ≡ suc (n - (at + 1))
one_less n at below = omega arith

none_left : (n at : ℕ) → n ≤ at → n - at ≡ 0
none_left n at over = omega arith

-- ---- operators of one sign

module _ (depth row : ℕ) where
  pub none_first : (start end : List Token) → item depth row start ≡ Err end → tails_behind depth row start ≡ Err end
  unfolding tails_behind
  none_first start end e = rw e refl

  left_same : (b : Bool) (n : ℕ) (ts : List Token) → (if b then many_turns class_of (item_repeats row) (row_codes row) (item depth row) n ts else Ok ([], ts)) ≡ left_of depth row b n ts
  left_same true n ts = refl
  left_same false n ts = refl

  pub first_read : (start mid : List Token) (y : Item) (b : Bool) (n : ℕ) → item depth row start ≡ Ok (y, mid) → b ≡ item_repeats row y → n ≡ length mid →
      tails_behind depth row start ≡ and_then (cons_to y (left_of depth row b n mid)) (λ l rest. Ok (to_tails l, rest))
  unfolding tails_behind
  first_read start mid y b n e is few =
      rw e (ap (λ (o : Outcome Token (List Item)). and_then {B = Open t.Tails} (cons_to y o) (λ l rest. Ok (to_tails l, rest)))
      (left_same (item_repeats row y) (length mid) mid ∙ ap (λ (c : Bool). left_of depth row c (length mid) mid) (sym is) ∙ ap (λ (k : ℕ). left_of depth row b k mid) (sym few)))

  pub left_over : (b : Bool) (n at : ℕ) (ts : List Token) → n ≤ at → left_of depth row b (n - at) ts ≡ Ok ([], ts)
  left_over true n at ts over = ap (λ (k : ℕ). left_of depth row true k ts) (none_left n at over)
  left_over false n at ts over = refl

  pub left_stops : (b : Bool) (n at : ℕ) (ts : List Token) → at < n → (b && starts class_of (row_codes row) ts) ≡ false → left_of depth row b (n - at) ts ≡ Ok ([], ts)
  left_stops true n at ts below off = rw (one_less n at below, off) refl
  left_stops false n at ts below off = refl

  pub left_fails : (b : Bool) (n at : ℕ) (ts end : List Token) → at < n → (b && starts class_of (row_codes row) ts) ≡ true → item depth row ts ≡ Err end → left_of depth row b (n - at) ts ≡ Err end
  left_fails true n at ts end below on e = rw (one_less n at below, on, e) refl
  left_fails false n at ts end below on e = absurd cc

  pub left_more : (b c : Bool) (n at : ℕ) (ts mid : List Token) (y : Item) → at < n → (b && starts class_of (row_codes row) ts) ≡ true → item depth row ts ≡ Ok (y, mid) → c ≡ item_repeats row y → left_of depth row b (n - at) ts ≡ cons_to y (left_of depth row c (n - (at + 1)) mid)
  left_more true c n at ts mid y below on e is =
      rw (one_less n at below, on, e) (ap (λ (o : Outcome Token (List Item)). cons_to y o) (left_same (item_repeats row y) (n - (at + 1)) mid ∙ ap (λ (d : Bool). left_of depth row d (n - (at + 1)) mid) (sym is)))
  left_more false c n at ts mid y below on e is = absurd cc

-- ---- shifts

module _ (depth row : ℕ) where
  pub none_shifts : (half : Option Place) (start end : List Token) → shift_item depth row half start ≡ Err end → shifts_behind depth row half start ≡ Err end
  unfolding shifts_behind
  none_shifts half start end e = rw e refl

  from_same : (b : Bool) (half : Option Place) (n : ℕ) (ts : List Token) → (if b then many_from_turns class_of shift_codes (shift_item depth row) shift_leaves shift_step n half ts else Ok ([], ts)) ≡ left_from depth row b half n ts
  from_same true half n ts = refl
  from_same false half n ts = refl

  pub first_shift : (half : Option Place) (start mid : List Token) (y : Item) (b : Bool) (n : ℕ) → shift_item depth row half start ≡ Ok (y, mid) → b ≡ shift_leaves half y → n ≡ length mid →
      shifts_behind depth row half start ≡ and_then (cons_to y (left_from depth row b y.1.1 n mid)) (λ l rest. Ok (to_tails l, rest))
  unfolding shifts_behind
  first_shift half start mid y b n e is few =
      rw e (ap (λ (o : Outcome Token (List Item)). and_then {B = Open t.Tails} (cons_to y o) (λ l rest. Ok (to_tails l, rest)))
      (from_same (shift_leaves half y) y.1.1 (length mid) mid ∙ ap (λ (c : Bool). left_from depth row c y.1.1 (length mid) mid) (sym is) ∙ ap (λ (k : ℕ). left_from depth row b y.1.1 k mid) (sym few)))

  pub from_over : (b : Bool) (half : Option Place) (n at : ℕ) (ts : List Token) → n ≤ at → left_from depth row b half (n - at) ts ≡ Ok ([], ts)
  from_over true half n at ts over = ap (λ (k : ℕ). left_from depth row true half k ts) (none_left n at over)
  from_over false half n at ts over = refl

  pub from_stops : (b : Bool) (half : Option Place) (n at : ℕ) (ts : List Token) → at < n → (b && starts class_of (shift_codes half) ts) ≡ false → left_from depth row b half (n - at) ts ≡ Ok ([], ts)
  from_stops true half n at ts below off = rw (one_less n at below, off) refl
  from_stops false half n at ts below off = refl

  pub from_fails : (b : Bool) (half : Option Place) (n at : ℕ) (ts end : List Token) → at < n → (b && starts class_of (shift_codes half) ts) ≡ true → shift_item depth row half ts ≡ Err end → left_from depth row b half (n - at) ts ≡ Err end
  from_fails true half n at ts end below on e = rw (one_less n at below, on, e) refl
  from_fails false half n at ts end below on e = absurd cc

  pub from_more : (b c : Bool) (half : Option Place) (n at : ℕ) (ts mid : List Token) (y : Item) → at < n → (b && starts class_of (shift_codes half) ts) ≡ true → shift_item depth row half ts ≡ Ok (y, mid) → c ≡ shift_leaves half y → left_from depth row b half (n - at) ts ≡ cons_to y (left_from depth row c y.1.1 (n - (at + 1)) mid)
  from_more true c half n at ts mid y below on e is =
      rw (one_less n at below, on, e) (ap (λ (o : Outcome Token (List Item)). cons_to y o) (from_same (shift_leaves half y) y.1.1 (n - (at + 1)) mid ∙ ap (λ (d : Bool). left_from depth row d y.1.1 (n - (at + 1)) mid) (sym is)))
  from_more false c half n at ts mid y below on e is = absurd cc
