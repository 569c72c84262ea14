-- The last of a list goes on, and an expression with cascades goes on as the last of them.
use Rattle.std.proofs.Common.{◌≡◌, ℕ, suc, max, ◌+◌, ◌-◌, ◌<◌, ◌≤◌, Bool, true, false, ◌||◌, ◌&&◌, List, [], ◌∷◌, drop, length, get_or, refl, sym, ap, subst, ◌∙◌, arith}
use Rattle.std.proofs.lemmas.List.{drop_more, drop_all, length-drop}
use Rattle.dart_base.specs.declared.place.Place.{Place}
use Rattle.dart_tree.specs.declared.expression.Cascade.{Cascade}
use Rattle.dart_tree.specs.declared.expression.Tail.{Tail}
use Rattle.dart_tree.specs.Lists.{tails_of, cascades_of, selectors_of}
use Rattle.dart_tree.specs.declared.operator.Operator.{Operator}
use Rattle.dart_tree.specs.Tree as t
use Rattle.dart_tree.specs.Types.{TypeNode}
use Rattle.dart_tree.specs.View as view
use Rattle.dart_syntax.specs.Edges.{binds_between, repeats, expr_takes, operand_takes, tails_take, cascades_take}
use Rattle.dart_syntax.specs.Levels.{level}

module _ (next : ℕ) (opens : TypeNode → Bool) (from : ℕ) where
  pub plain_alone : (x : t.Operand) (items : List Cascade) → length items ≡ 0 → expr_takes next opens from (t.plain x (cascades_of items)) ≡ operand_takes next opens from x
  unfolding expr_takes
  plain_alone x [] none = refl
  plain_alone x (y ∷ items) none = absurd (omega arith)

  pub plain_behind : (x : t.Operand) (items : List Cascade) → (length items ≡ 0 → ⊥) → expr_takes next opens from (t.plain x (cascades_of items)) ≡ cascades_take next opens from (cascades_of items)
  unfolding expr_takes
  plain_behind x [] some = absurd (some refl)
  plain_behind x (y ∷ items) some = refl

  tail_behind : (o : Operator) (x : t.Operand) (p : Operator) (y : t.Operand) (rest : t.Tails) → tails_take next opens from (t.tail o x (t.tail p y rest)) ≡ tails_take next opens from (t.tail p y rest)
  unfolding tails_take
  tail_behind o x p y rest = refl

  pub tail_more : (x : Tail) (rest : List Tail) → 0 < length rest → tails_take next opens from (tails_of (x ∷ rest)) ≡ tails_take next opens from (tails_of rest)
  tail_more x [] some = absurd (omega arith)
  tail_more x (y ∷ rest) some = tail_behind x.operator (view.operand x.operand) y.operator (view.operand y.operand) (tails_of rest)

  cascade_behind : (place : Place) (s : t.Selectors) (v : t.Value) (dots : Place) (r : t.Selectors) (w : t.Value) (rest : t.Cascades) → cascades_take next opens from (t.cascade place s v (t.cascade dots r w rest)) ≡ cascades_take next opens from (t.cascade dots r w rest)
  unfolding cascades_take
  cascade_behind place s t.omitted dots r w rest = refl
  cascade_behind place s (t.given operator e) dots r w rest = refl

  pub cascade_more : (x : Cascade) (rest : List Cascade) → 0 < length rest → cascades_take next opens from (cascades_of (x ∷ rest)) ≡ cascades_take next opens from (cascades_of rest)
  cascade_more x [] some = absurd (omega arith)
  cascade_more x (y ∷ rest) some = cascade_behind x.dots (selectors_of x.selectors.items) (view.value x.value) y.dots (selectors_of y.selectors.items) (view.value y.value) (cascades_of rest)

  pub tail_alone : (x : Tail) (rest : List Tail) → length rest ≡ 0 → tails_take next opens from (tails_of (x ∷ rest)) ≡ tails_take next opens from (t.tail x.operator (view.operand x.operand) t.no_tails)
  tail_alone x [] none = refl
  tail_alone x (y ∷ rest) none = absurd (omega arith)

  pub cascade_alone : (x : Cascade) (rest : List Cascade) → length rest ≡ 0 → cascades_take next opens from (cascades_of (x ∷ rest)) ≡ cascades_take next opens from (cascades_of (x ∷ []))
  cascade_alone x [] none = refl
  cascade_alone x (y ∷ rest) none = absurd (omega arith)

  pub no_tails_take : tails_take next opens from t.no_tails ≡ false
  unfolding tails_take
  no_tails_take = refl

  pub no_cascades_take : cascades_take next opens from t.no_cascades ≡ false
  unfolding cascades_take
  no_cascades_take = refl

-- ---- an operator with its operand, the last of its row

or_assoc : (a b c : Bool) → (a || (b || c)) ≡ ((a || b) || c)
or_assoc true b c = refl
or_assoc false b c = refl

module _ (next : ℕ) (opens : TypeNode → Bool) (from : ℕ) where
  abbrev there : ℕ → Bool
  there n = binds_between next opens from n || (binds_between next opens from (n + 1) && repeats n)

  tail_is : (o : Operator) (x : t.Operand) → tails_take next opens from (t.tail o x t.no_tails) ≡ (there (level o) || operand_takes next opens (max from (level o + 1)) x)
  unfolding tails_take
  tail_is o x =
      let n = level o in
      let e : suc n ≡ n + 1 = omega arith in
      ap (λ (m : ℕ). binds_between next opens from n || ((binds_between next opens from m && repeats n) || operand_takes next opens (max from m) x)) e
      ∙ or_assoc (binds_between next opens from n) (binds_between next opens from (n + 1) && repeats n) (operand_takes next opens (max from (n + 1)) x)

  pub tail_here : (o : Operator) (x : t.Operand) (n : ℕ) → n ≡ level o → there n ≡ true → true ≡ tails_take next opens from (t.tail o x t.no_tails)
  tail_here o x n same h =
      let on : there (level o) ≡ true = subst (λ (m : ℕ). there m ≡ true) same h in
      sym (tail_is o x ∙ ap (λ (b : Bool). b || operand_takes next opens (max from (level o + 1)) x) on)

  pub tail_inside : (o : Operator) (x : t.Operand) (n m : ℕ) (b : Bool) → n ≡ level o → there n ≡ false → m ≡ max from (n + 1) → b ≡ operand_takes next opens m x → b ≡ tails_take next opens from (t.tail o x t.no_tails)
  tail_inside o x n m b same h top e =
      let off : there (level o) ≡ false = subst (λ (m : ℕ). there m ≡ false) same h in
      e ∙ ap (λ (k : ℕ). operand_takes next opens k x) (top ∙ ap (λ (k : ℕ). max from (k + 1)) same)
      ∙ sym (tail_is o x ∙ ap (λ (b : Bool). b || operand_takes next opens (max from (level o + 1)) x) off)

-- ---- the items that are left, one by one

module _ {A : Type 0} (xs ys : List A) (i : ℕ) (x : A) (same : ys ≡ xs) (below : i < length ys) (is : x ≡ get_or ys i x) where
  below_all : i < length xs
  below_all = let P : List A → Type 0 = λ l. i < length l in subst P same below

  pub cut : drop i xs ≡ x ∷ drop (i + 1) xs
  cut = drop_more xs i x below_all ∙ ap (λ (y : A). y ∷ drop (i + 1) xs) (sym (is ∙ ap (λ (l : List A). get_or l i x) same))

  rest_long : (left : ℕ) → left + i ≡ length xs → length (drop (i + 1) xs) ≡ left - 1
  rest_long left few = length-drop (i + 1) xs ∙ omega arith

  -- one that is not the last
  pub moves : (F : List A → Bool) (left : ℕ) → ((y : A) (rest : List A) → 0 < length rest → F (y ∷ rest) ≡ F rest) → left + i ≡ length xs → 1 < left → F (drop i xs) ≡ F xs → F (drop (i + 1) xs) ≡ F xs
  moves F left more few some inv = let e = rest_long left few in sym (more x (drop (i + 1) xs) (omega arith)) ∙ ap F (sym cut) ∙ inv

  -- the last
  pub ends : (F : List A → Bool) (b : Bool) (left : ℕ) → ((rest : List A) → length rest ≡ 0 → F (x ∷ rest) ≡ b) → left + i ≡ length xs → left ≡ 1 → F (drop i xs) ≡ F xs → b ≡ F xs
  ends F b left alone few one inv = let e = rest_long left few in sym (alone (drop (i + 1) xs) (omega arith)) ∙ ap F (sym cut) ∙ inv

-- none is left
pub none_left : {A : Type 0} (F : List A → Bool) (xs ys : List A) (i : ℕ) → ys ≡ xs → length ys ≤ i → F [] ≡ false → F (drop i xs) ≡ F xs → false ≡ F xs
none_left {A} F xs ys i same past none inv =
    let P : List A → Type 0 = λ l. length l ≤ i in
    sym none ∙ ap F (sym (drop_all i xs (subst P same past))) ∙ inv
