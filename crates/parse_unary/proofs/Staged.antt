-- Operands outcome by outcome, at a depth that the code counts down from.
use Rattle.std.proofs.Common.{◌≡◌, ℕ, zero, suc, ◌+◌, ◌-◌, ◌<◌, ◌≤◌, max, map, true, false, ◌&&◌, List, [], ◌∷◌, Option, Some, None, Ok, Err, refl, sym, ap, subst, ◌∙◌, arith}
use Rattle.std.specs.Global.{Vec}
use Rattle.dart_base.specs.declared.place.Place.{Place}
use Rattle.dart_token.specs.declared.token.Token.{Token}
use Rattle.dart_tree.specs.declared.operator.Operator.{Operator}
use Rattle.dart_tree.specs.declared.expression.Primary.{Primary}
use Rattle.dart_tree.specs.declared.expression.Selector.{Selector}
use Rattle.dart_tree.specs.Depth as height
use Rattle.dart_tree.specs.Lists.{selectors_of}
use Rattle.dart_tree.specs.Tree as t
use Rattle.dart_tree.specs.View as view
use Rattle.dart_syntax.specs.Expressions.{to_selectors, primary_assigns}
use Rattle.grammar_laws.specs.Depth.{is_below}
use Rattle.grammar_laws.specs.Readers.{Outcome, starts}
use Rattle.grammar_laws.proofs.Codes.{and_both}
use Rattle.grammar_laws.proofs.Cuts.{gave}
use Rattle.grammar_laws.proofs.Depth.{below_is}
use Rattle.token_codes.specs.Codes.{class_of, sign_codes}
use Rattle.token_codes.specs.Leaves.{one_of}
use Rattle.token_cursor.specs.declared.error.ReadFault.{ReadFault}
use Rattle.token_cursor.specs.declared.error.ReadFault.TheVariants.{Stuck, Memory}
use Rattle.token_cursor.specs.Gives.{Gives, GivesHigh}
use Rattle.syntax_readers.specs.Combinators.{Open, with_half}
use Rattle.syntax_readers.specs.Levels.{selects, selected, target, whole, assigns, is_bare, steps_behind, step_signs, stepped, postfix, unary, levels_over, flat_levels, rows_over}
use Rattle.syntax_readers.specs.Primaries.{primary, selectors}
use Rattle.syntax_readers.specs.Statements.{stage}
use Rattle.parse_primary.specs.Views.{GivesPrimary}
use Rattle.parse_unary.specs.Views.{row_reader, target_reader, selected_reader, operand_room, selected_view, selected_height, GivesSelected}

-- ---- the readers over those of one node less

pub target_is : (n : ℕ) (ts : List Token) → target_reader n ts ≡ target (selected_reader n) ts
unfolding stage levels_over flat_levels
target_is zero ts = refl
target_is (suc n) ts = refl

row_flat : (ts : List Token) → row_reader 0 0 ts ≡ whole (selected_reader 0) ts
unfolding stage flat_levels
row_flat ts = refl

pub row_never : (depth : ℕ) (ts : List Token) → depth ≡ 0 → row_reader depth 0 ts ≡ whole (selected_reader depth) ts
row_never depth ts none = subst (λ (d : ℕ). row_reader d 0 ts ≡ whole (selected_reader d) ts) (sym none) (row_flat ts)

row_is : (n : ℕ) (ts : List Token) → row_reader (suc n) 0 ts ≡ unary (postfix (suc n) (selected_reader (suc n))) (row_reader n 0) (target_reader n) ts
unfolding stage levels_over rows_over
row_is n ts = refl

pub row_roomy : (depth : ℕ) (ts : List Token) → 0 < depth → row_reader depth 0 ts ≡ unary (postfix depth (selected_reader depth)) (row_reader (depth - 1) 0) (target_reader (depth - 1)) ts
row_roomy depth ts some =
    let d : suc (depth - 1) ≡ depth = omega arith in
    subst (λ (m : ℕ). row_reader m 0 ts ≡ unary (postfix m (selected_reader m)) (row_reader (depth - 1) 0) (target_reader (depth - 1)) ts) d (row_is (depth - 1) ts)

selected_is : (depth : ℕ) (ts : List Token) → 0 < depth → selected_reader depth ts ≡ selected depth (primary (stage depth).nodes.exprs) (selectors (stage (depth - 1)).nodes.exprs) ts
selected_is depth ts some =
    let d : suc (depth - 1) ≡ depth = omega arith in
    subst (λ (m : ℕ). selected_reader m ts ≡ selected m (primary (stage m).nodes.exprs) (selectors (stage (depth - 1)).nodes.exprs) ts) d refl

-- ---- a primary with selectors behind it or none

pub first_fails : (depth : ℕ) (ts rest : List Token) → primary (stage depth).nodes.exprs ts ≡ Err rest → selected_reader depth ts ≡ Err rest
unfolding selected
first_fails zero ts rest e = rw e refl
first_fails (suc n) ts rest e = rw e refl

pub first_alone : (depth : ℕ) (ts mid : List Token) (x : Open t.Primary) → primary (stage depth).nodes.exprs ts ≡ Ok (x, mid) → starts class_of (selects depth x) mid ≡ false → selected_reader depth ts ≡ Ok (with_half t.primary x, mid)
unfolding selected
first_alone zero ts mid x e off = rw e refl
first_alone (suc n) ts mid x e off = rw (e, off) refl

pub more_fails : (depth : ℕ) (ts mid rest : List Token) (x : Open t.Primary) → 0 < depth → primary (stage depth).nodes.exprs ts ≡ Ok (x, mid) → starts class_of (selects depth x) mid ≡ true → selectors (stage (depth - 1)).nodes.exprs mid ≡ Err rest → selected_reader depth ts ≡ Err rest
unfolding selected
more_fails depth ts mid rest x some e on f = selected_is depth ts some ∙ rw (e, on, f) refl

pub more_gives : (depth : ℕ) (ts mid rest : List Token) (x : Open t.Primary) (more : List t.Selector) → 0 < depth → primary (stage depth).nodes.exprs ts ≡ Ok (x, mid) → starts class_of (selects depth x) mid ≡ true → selectors (stage (depth - 1)).nodes.exprs mid ≡ Ok (more, rest) → selected_reader depth ts ≡ Ok ((t.postfix x.0 (to_selectors more) None, None), rest)
unfolding selected
more_gives depth ts mid rest x more some e on f = selected_is depth ts some ∙ rw (e, on, f) refl

pub selectors_are : (items : List Selector) → selectors_of items ≡ to_selectors (map view.selector items)
selectors_are [] = refl
selectors_are (x ∷ items) = ap (t.selector (view.selector x)) (selectors_are items)

pub postfix_height : (x : t.Primary) (l : t.Selectors) (operator : Option Operator) → height.operand_height (t.postfix x l operator) ≡ suc (max (height.primary_height x) (height.selectors_height l))
unfolding height.operand_height
postfix_height x l operator = refl

pub more_high : (x : t.Primary) (items : List Selector) (tall highest top : ℕ) → tall ≡ height.primary_height x → highest ≡ height.selectors_height (to_selectors (map view.selector items)) → top ≡ max tall highest → top + 1 ≡ height.operand_height (t.postfix x (selectors_of items) None)
more_high x items tall highest top first more is =
    let same = ap height.selectors_height (selectors_are items) in
    let k = postfix_height x (selectors_of items) None in
    omega arith

pub primary_height : (x : t.Primary) → height.operand_height (t.primary x) ≡ height.primary_height x
unfolding height.operand_height
primary_height x = refl

-- ---- how high an operand is

pub low_whole : (x : t.Operand) (h d : ℕ) → is_bare x ≡ false → h ≤ d + operand_room x → h ≤ d
low_whole (t.primary (t.bare_super word)) h d whole le = absurd cc
low_whole (t.primary x) h d whole le = omega arith
low_whole x h d whole le = omega arith

pub low_target : (x : t.Operand) (h d : ℕ) → assigns x ≡ true → h ≤ d + operand_room x → h ≤ d
low_target (t.primary (t.bare_super word)) h d may le = absurd cc
low_target (t.primary x) h d may le = omega arith
low_target x h d may le = omega arith

room_for : (x : t.Operand) (h d : ℕ) → 0 < d → h ≡ height.operand_height x → h ≤ d + operand_room x → h ≤ d
unfolding height.operand_height
room_for (t.primary (t.bare_super word)) h d some high le = omega arith
room_for (t.primary x) h d some high le = omega arith
room_for x h d some high le = omega arith

pub low_roomy : (x : t.Operand) (h d : ℕ) → 0 < d → h ≡ height.operand_height x → h ≤ d + operand_room x → h ≤ d
low_roomy = room_for

-- ---- what stands behind an error

pub passes_primary : (d : ℕ) (o : Outcome Token (Open t.Primary)) (o' : Outcome Token (Open t.Operand)) (e : ReadFault) (new : List Token) → ((rest : List Token) → o ≡ Err rest → o' ≡ Err rest) → GivesPrimary d o (Err e) new → GivesSelected d o' (Err e) new
passes_primary d o o' Stuck new f h = f new h
passes_primary d o o' Memory new f h = tt

pub passes_inside : {X A : Type 0} (view : X → A) (height : A → ℕ) (inner d : ℕ) (o : Outcome Token A) (o' : Outcome Token (Open t.Operand)) (e : ReadFault) (new : List Token) → ((rest : List Token) → o ≡ Err rest → o' ≡ Err rest) → GivesHigh view height inner o (Err e) new → GivesSelected d o' (Err e) new
passes_inside view height inner d o o' Stuck new f h = f new h
passes_inside view height inner d o o' Memory new f h = tt

pub passes_flat : {X A Y B : Type 0} (view : X → A) (o : Outcome Token A) (view' : Y → B) (height : B → ℕ) (d : ℕ) (o' : Outcome Token B) (e : ReadFault) (new : List Token) → ((rest : List Token) → o ≡ Err rest → o' ≡ Err rest) → Gives view o (Err e) new → GivesHigh view' height d o' (Err e) new
passes_flat view o view' height d o' Stuck new f h = f new h
passes_flat view o view' height d o' Memory new f h = tt

pub passes_selected : {X A : Type 0} (view : X → A) (height : A → ℕ) (d outer : ℕ) (o : Outcome Token (Open t.Operand)) (o' : Outcome Token A) (e : ReadFault) (new : List Token) → ((rest : List Token) → o ≡ Err rest → o' ≡ Err rest) → GivesSelected d o (Err e) new → GivesHigh view height outer o' (Err e) new
passes_selected view height d outer o o' Stuck new f h = f new h
passes_selected view height d outer o o' Memory new f h = tt

-- ---- `++` and `--` behind an operand

pub step_absent : (depth : ℕ) (ts mid : List Token) (x : Open t.Operand) → selected_reader depth ts ≡ Ok (x, mid) → (steps_behind depth x && starts class_of (sign_codes step_signs) mid) ≡ false → postfix depth (selected_reader depth) ts ≡ Ok (x, mid)
unfolding postfix
step_absent depth ts mid x e off = rw (e, off) refl

pub step_fails : (depth : ℕ) (ts mid rest : List Token) (x : Open t.Operand) → selected_reader depth ts ≡ Ok (x, mid) → (steps_behind depth x && starts class_of (sign_codes step_signs) mid) ≡ true → one_of step_signs mid ≡ Err rest → postfix depth (selected_reader depth) ts ≡ Err rest
unfolding postfix
step_fails depth ts mid rest x e on f = rw (e, on, f) refl

pub step_gives : (depth : ℕ) (ts mid rest : List Token) (x : Open t.Operand) (operator : Operator) → selected_reader depth ts ≡ Ok (x, mid) → (steps_behind depth x && starts class_of (sign_codes step_signs) mid) ≡ true → one_of step_signs mid ≡ Ok (operator, rest) → postfix depth (selected_reader depth) ts ≡ Ok (stepped (x, Some operator), rest)
unfolding postfix
step_gives depth ts mid rest x operator e on f = rw (e, on, f) refl

pub given_open : (x y : Open t.Operand) (rest : List Token) → y ≡ x → gave x rest ≡ gave y rest
given_open x y rest same = ap (λ (z : Open t.Operand). gave z rest) (sym same)

pub postfix_fails : (depth : ℕ) (ts rest : List Token) → selected_reader depth ts ≡ Err rest → postfix depth (selected_reader depth) ts ≡ Err rest
unfolding postfix
postfix_fails depth ts rest e = rw e refl

-- ---- operands that may not be `super` alone, and those that may be assigned

pub whole_fails : (depth : ℕ) (ts rest : List Token) → selected_reader depth ts ≡ Err rest → whole (selected_reader depth) ts ≡ Err rest
unfolding whole
whole_fails depth ts rest e = rw e refl

pub whole_refuses : (depth : ℕ) (ts rest : List Token) (x y : Open t.Operand) → selected_reader depth ts ≡ Ok (x, rest) → y ≡ x → is_bare y.0 ≡ true → whole (selected_reader depth) ts ≡ Err rest
unfolding whole
whole_refuses depth ts rest x y e same bare =
    let b : is_bare x.0 ≡ true = ap (λ (z : Open t.Operand). is_bare z.0) (sym same) ∙ bare in
    rw (e, b) refl

pub whole_gives : (depth : ℕ) (ts rest : List Token) (x y : Open t.Operand) → selected_reader depth ts ≡ Ok (x, rest) → y ≡ x → is_bare y.0 ≡ false → whole (selected_reader depth) ts ≡ Ok (y, rest)
unfolding whole
whole_gives depth ts rest x y e same bare =
    let b : is_bare x.0 ≡ false = ap (λ (z : Open t.Operand). is_bare z.0) (sym same) ∙ bare in
    rw (e, b) (ap (λ (z : Open t.Operand). Ok (z, rest)) (sym same))

pub target_fails : (depth : ℕ) (ts rest : List Token) → selected_reader depth ts ≡ Err rest → target (selected_reader depth) ts ≡ Err rest
unfolding target
target_fails depth ts rest e = rw e refl

pub target_refuses : (depth : ℕ) (ts rest : List Token) (x y : Open t.Operand) → selected_reader depth ts ≡ Ok (x, rest) → y ≡ x → assigns y.0 ≡ false → target (selected_reader depth) ts ≡ Err rest
unfolding target
target_refuses depth ts rest x y e same off =
    let b : assigns x.0 ≡ false = ap (λ (z : Open t.Operand). assigns z.0) (sym same) ∙ off in
    rw (e, b) refl

pub target_gives : (depth : ℕ) (ts rest : List Token) (x y : Open t.Operand) → selected_reader depth ts ≡ Ok (x, rest) → y ≡ x → assigns y.0 ≡ true → target (selected_reader depth) ts ≡ Ok (y, rest)
unfolding target
target_gives depth ts rest x y e same may =
    let b : assigns x.0 ≡ true = ap (λ (z : Open t.Operand). assigns z.0) (sym same) ∙ may in
    rw (e, b) (ap (λ (z : Open t.Operand). Ok (z, rest)) (sym same))

-- what is known of the parts of an operand is known of the operand
pub joined_high : (x y : Open t.Operand) (h : ℕ) → y ≡ x → h ≡ height.operand_height x.0 → h ≡ height.operand_height y.0
joined_high x y h same high = high ∙ sym (ap (λ (z : Open t.Operand). height.operand_height z.0) same)

pub joined_low : (x y : Open t.Operand) (h d : ℕ) → y ≡ x → h ≤ d + operand_room x.0 → h ≤ d + operand_room y.0
joined_low x y h d same low = let e = ap (λ (z : Open t.Operand). operand_room z.0) same in omega arith

abbrev closed : t.Operand → Open t.Operand
closed x = (x, None)

pub alone_same : (x : Primary × Option Place) (more : Option (Vec Selector)) (new : t.Operand) (operator : Operator) → more ≡ None → new ≡ t.postfix (view.primary x.0) t.no_selectors (Some operator) → closed new ≡ stepped (selected_view (x, more), Some operator)
alone_same x None new operator none made = ap closed made
alone_same x (Some v) new operator none made = absurd cc

pub alone_room : (depth : ℕ) (x : Primary × Option Place) (more : Option (Vec Selector)) (tall : ℕ) → more ≡ None → steps_behind depth (selected_view (x, more)) ≡ true → tall ≡ selected_height (x, more) → tall < depth
alone_room depth x None tall none may high =
    let b = and_both (primary_assigns (view.primary x.0)) (is_below height.primary_height depth (view.primary x.0)) may in
    let low = below_is height.primary_height depth (view.primary x.0) b.1 in
    let same = primary_height (view.primary x.0) in
    omega arith
alone_room depth x (Some v) tall none may high = absurd cc

bare_height : (x : t.Primary) (operator : Operator) → height.operand_height (t.postfix x t.no_selectors (Some operator)) ≡ height.primary_height x + 1
unfolding height.operand_height height.selectors_height
bare_height x operator = omega arith

pub alone_high : (x : Primary × Option Place) (more : Option (Vec Selector)) (new : t.Operand) (operator : Operator) (tall : ℕ) → more ≡ None → new ≡ t.postfix (view.primary x.0) t.no_selectors (Some operator) → tall ≡ selected_height (x, more) → tall + 1 ≡ height.operand_height new
alone_high x None new operator tall none made high =
    let same = primary_height (view.primary x.0) in
    let k = ap height.operand_height made ∙ bare_height (view.primary x.0) operator in
    omega arith
alone_high x (Some v) new operator tall none made high = absurd cc

pub several_same : (x : Primary × Option Place) (more : Option (Vec Selector)) (v : Vec Selector) (new : t.Operand) (operator : Operator) → more ≡ Some v → new ≡ t.postfix (view.primary x.0) (selectors_of v.items) (Some operator) → closed new ≡ stepped (selected_view (x, more), Some operator)
several_same x more v new operator some made = subst (λ (m : Option (Vec Selector)). closed new ≡ stepped (selected_view (x, m), Some operator)) (sym some) (ap closed made)

pub several_high : (x : Primary × Option Place) (more : Option (Vec Selector)) (v : Vec Selector) (new : t.Operand) (operator : Operator) (tall : ℕ) → more ≡ Some v → new ≡ t.postfix (view.primary x.0) (selectors_of v.items) (Some operator) → tall ≡ selected_height (x, more) → tall ≡ height.operand_height new
several_high x more v new operator tall some made high =
    let e = ap (λ (m : Option (Vec Selector)). selected_height (x, m)) some in
    let k = ap height.operand_height made in
    let a = postfix_height (view.primary x.0) (selectors_of v.items) (Some operator) in
    let b = postfix_height (view.primary x.0) (selectors_of v.items) None in
    omega arith
