-- What an edge takes in one place it takes in a place for looser operators, and what is looser than a place is taken inside alone.
use Rattle.std.proofs.Common.{◌≡◌, ℕ, zero, suc, max, ◌≤◌, ◌<◌, Bool, true, false, not, ◌&&◌, ◌||◌, List, [], ◌∷◌, None, Some, ◌⊎◌, inl, inr, refl, ap, sym, ◌∙◌, arith}
use Rattle.std.specs.Prelude.{nat_lt}
use Rattle.std.proofs.Math.Nat.{le-max_left, le-max_right, max-le}
use Rattle.std.proofs.lemmas.Bool.{cases_lt, ltb-true, lt-ltb}
use Rattle.dart_tree.specs.Types.{TypeNode}
use Rattle.dart_tree.specs.Tree as t
use Rattle.dart_tree.specs.Tree.{Expr, Operand, Tails, Cascades}
use Rattle.grammar_laws.specs.Codes.{disjoint, within, Apart, Within, given}
use Rattle.grammar_laws.proofs.Codes.{apart, apart_none, apart_union, inside, and_both, and_true, or_cases, or_left, or_right, within_none, within_then, within_union, within_left, within_right}
use Rattle.dart_syntax.specs.Edges.{dots, question, compares, selects, nowhere, repeats, binds_between, expr_takes, operand_takes, tails_take, cascades_take}
use Rattle.dart_syntax.specs.Levels.{level}
use Rattle.laws_expr.specs.Nexts.{Next, Taking, taken_of}
use Rattle.laws_expr.proofs.Sets.{apart_when, given_off, given_on, given_more}

-- ---- the table of what goes on

abbrev pub at : ℕ → List Next → Taking → Bool
at n [] takes = false
at zero (x ∷ more) takes = takes x.binds x.opens
at (suc n) (x ∷ more) takes = at n more takes

abbrev pub codes_at : ℕ → List Next → List ℕ
codes_at n [] = []
codes_at zero (x ∷ more) = x.codes
codes_at (suc n) (x ∷ more) = codes_at n more

abbrev pub all_apart : List Next → List ℕ → Bool
all_apart [] codes = true
all_apart (x ∷ more) codes = disjoint x.codes codes && all_apart more codes

-- no row but this one has one of the codes
abbrev pub others_apart : ℕ → List Next → List ℕ → Bool
others_apart n [] codes = true
others_apart zero (x ∷ more) codes = all_apart more codes
others_apart (suc n) (x ∷ more) codes = disjoint x.codes codes && others_apart n more codes

pub apart_all : (table : List Next) (codes : List ℕ) (takes : Taking) → all_apart table codes ≡ true → Apart (taken_of table takes) codes
apart_all [] codes takes h = apart_none codes
apart_all (x ∷ more) codes takes h = let w = and_both (disjoint x.codes codes) (all_apart more codes) h in apart_union (apart_when (takes x.binds x.opens) (λ e. apart w.0)) (apart_all more codes takes w.1)

pub apart_but : (n : ℕ) (table : List Next) (codes : List ℕ) (takes : Taking) → others_apart n table codes ≡ true → at n table takes ≡ false → Apart (taken_of table takes) codes
apart_but n [] codes takes h off = apart_none codes
apart_but zero (x ∷ more) codes takes h off = apart_union (given_off (takes x.binds x.opens) x.codes codes off) (apart_all more codes takes h)
apart_but (suc n) (x ∷ more) codes takes h off = let w = and_both (disjoint x.codes codes) (others_apart n more codes) h in apart_union (apart_when (takes x.binds x.opens) (λ e. apart w.0)) (apart_but n more codes takes w.1 off)

pub within_at : (n : ℕ) (table : List Next) (codes : List ℕ) (takes : Taking) → within codes (codes_at n table) ≡ true → at n table takes ≡ true → Within codes (taken_of table takes)
within_at n [] codes takes h on = absurd cc
within_at zero (x ∷ more) codes takes h on = within_then (inside h) (within_then (given_on (takes x.binds x.opens) x.codes on) (within_left (given (takes x.binds x.opens) x.codes) (taken_of more takes)))
within_at (suc n) (x ∷ more) codes takes h on = within_then (within_at n more codes takes h on) (within_right (given (takes x.binds x.opens) x.codes) (taken_of more takes))

pub taken_moves : (table : List Next) (takes takes' : Taking) → ((n : ℕ) (opens : TypeNode → Bool) → takes n opens ≡ true → takes' n opens ≡ true) → Within (taken_of table takes) (taken_of table takes')
taken_moves [] takes takes' on = within_none []
taken_moves (x ∷ more) takes takes' on = within_union (within_then (given_more (takes x.binds x.opens) (takes' x.binds x.opens) x.codes (on x.binds x.opens)) (within_left (given (takes' x.binds x.opens) x.codes) (taken_of more takes')))
    (within_then (taken_moves more takes takes' on) (within_right (given (takes' x.binds x.opens) x.codes) (taken_of more takes')))

-- ---- from one place to another

pub or_moves : (a b c d : Bool) → (a ≡ true → c ≡ true) → (b ≡ true → d ≡ true) → (a || b) ≡ true → (c || d) ≡ true
or_moves a b c d on too h = elim (or_cases a b h) [
  | inl e ↦ or_left c d (on e)
  | inr e ↦ or_right c d (too e)
]

and_moves : (a b c : Bool) → (a ≡ true → c ≡ true) → (a && b) ≡ true → (c && b) ≡ true
and_moves a b c on h = let w = and_both a b h in and_true c b (on w.0) w.1

module _ (next : ℕ) (opens : TypeNode → Bool) where
  -- the second place is for looser operators, or what comes is looser than the first, or as tight as the second
  abbrev pub Moves : ℕ → ℕ → Type 0
  Moves a b = (b ≤ a) ⊎ ((next < a) ⊎ (b ≤ next))

  free_by : (a b : ℕ) (c : Bool) → b ≤ a → nat_lt next b ≡ c → not (nat_lt next a) ≡ true → not c ≡ true
  free_by a b false le e h = refl
  free_by a b true le e h =
      let below : next < a = omega (arith, ltb-true next b e, le) in
      let bad : false ≡ true = sym (ap not (lt-ltb next a below)) ∙ h in absurd cc

  reaches : (b : ℕ) (c : Bool) → b ≤ next → nat_lt next b ≡ c → not c ≡ true
  reaches b false le e = refl
  reaches b true le e = absurd (omega (arith, ltb-true next b e, le))

  binds_moves : (a b below : ℕ) → Moves a b → binds_between next opens a below ≡ true → binds_between next opens b below ≡ true
  binds_moves a b below (inl le) h =
      let w = and_both (not (nat_lt next a)) (nat_lt next below) h in
      and_true (not (nat_lt next b)) (nat_lt next below) (free_by a b (nat_lt next b) le refl w.0) w.1
  binds_moves a b below (inr (inr reached)) h =
      let w = and_both (not (nat_lt next a)) (nat_lt next below) h in
      and_true (not (nat_lt next b)) (nat_lt next below) (reaches b (nat_lt next b) reached refl) w.1
  binds_moves a b below (inr (inl lt)) h =
      let w = and_both (not (nat_lt next a)) (nat_lt next below) h in
      let bad : false ≡ true = sym (ap not (lt-ltb next a lt)) ∙ w.0 in absurd cc

  max_moves : (a b c : ℕ) → Moves a b → Moves (max a c) (max b c)
  max_moves a b c (inl le) = inl (max-le (omega (arith, le, le-max_left a c)) (le-max_right a c))
  max_moves a b c (inr (inl lt)) = inr (inl (omega (arith, lt, le-max_left a c)))
  max_moves a b c (inr (inr reached)) = elim (cases_lt next c) [
    | inl above ↦ inr (inl (omega (arith, above, le-max_right a c)))
    | inr at ↦ inr (inr (max-le reached at))
  ]

  mutual
    unfolding expr_takes operand_takes tails_take cascades_take

    pub expr_moves : (x : Expr) (a b : ℕ) → Moves a b → expr_takes next opens a x ≡ true → expr_takes next opens b x ≡ true
    expr_moves (t.assign target operator value) a b m h = expr_moves value a b m h
    expr_moves (t.plain x t.no_cascades) a b m h = operand_moves x a b m h
    expr_moves (t.plain x (t.cascade place behind value more)) a b m h = cascades_moves (t.cascade place behind value more) a b m h
    expr_moves (t.throw word value) a b m h = h

    pub operand_moves : (x : Operand) (a b : ℕ) → Moves a b → operand_takes next opens a x ≡ true → operand_takes next opens b x ≡ true
    operand_moves (t.conditional condition mark first colon second) a b m h = or_moves (binds_between next opens a question) (expr_takes next opens (max a question) second) (binds_between next opens b question) (expr_takes next opens (max b question) second)
        (binds_moves a b question m) (expr_moves second (max a question) (max b question) (max_moves a b question m)) h
    operand_moves (t.binary first more) a b m h = tails_moves more a b m h
    operand_moves (t.is_type x word bang of) a b m h = or_moves (binds_between next opens a compares) (binds_between next opens a nowhere && opens of) (binds_between next opens b compares) (binds_between next opens b nowhere && opens of)
        (binds_moves a b compares m) (and_moves (binds_between next opens a nowhere) (opens of) (binds_between next opens b nowhere) (binds_moves a b nowhere m)) h
    operand_moves (t.as_type x word of) a b m h = or_moves (binds_between next opens a compares) (binds_between next opens a nowhere && opens of) (binds_between next opens b compares) (binds_between next opens b nowhere && opens of)
        (binds_moves a b compares m) (and_moves (binds_between next opens a nowhere) (opens of) (binds_between next opens b nowhere) (binds_moves a b nowhere m)) h
    operand_moves (t.prefix operator x) a b m h = or_moves (binds_between next opens a selects) (operand_takes next opens (max a selects) x) (binds_between next opens b selects) (operand_takes next opens (max b selects) x)
        (binds_moves a b selects m) (operand_moves x (max a selects) (max b selects) (max_moves a b selects m)) h
    operand_moves (t.postfix x behind None) a b m h = binds_moves a b nowhere m h
    operand_moves (t.postfix x behind (Some operator)) a b m h = binds_moves a b selects m h
    operand_moves (t.primary (t.function_literal parameters (t.arrow_body arrow value semicolon))) a b m h = or_moves (binds_between next opens a nowhere) (expr_takes next opens dots value) (binds_between next opens b nowhere) (expr_takes next opens dots value) (binds_moves a b nowhere m) (λ e. e) h
    operand_moves (t.primary (t.function_literal parameters (t.block_body block))) a b m h = binds_moves a b nowhere m h
    operand_moves (t.primary (t.function_literal parameters (t.no_body semicolon))) a b m h = binds_moves a b nowhere m h
    operand_moves (t.primary (t.super_access word x)) a b m h = binds_moves a b nowhere m h
    operand_moves (t.primary (t.bare_super word)) a b m h = binds_moves a b nowhere m h
    operand_moves (t.primary (t.atom x)) a b m h = binds_moves a b nowhere m h
    operand_moves (t.primary (t.text x)) a b m h = binds_moves a b nowhere m h
    operand_moves (t.primary (t.list_literal types opening _ comma closing)) a b m h = binds_moves a b nowhere m h
    operand_moves (t.primary (t.map_literal types opening _ comma closing)) a b m h = binds_moves a b nowhere m h
    operand_moves (t.primary (t.new_object creation of constructor arguments)) a b m h = binds_moves a b nowhere m h
    operand_moves (t.primary (t.parenthesized opening value closing)) a b m h = binds_moves a b nowhere m h

    pub tails_moves : (x : Tails) (a b : ℕ) → Moves a b → tails_take next opens a x ≡ true → tails_take next opens b x ≡ true
    tails_moves t.no_tails a b m h = h
    tails_moves (t.tail operator x t.no_tails) a b m h =
        or_moves (binds_between next opens a (level operator)) ((binds_between next opens a (suc (level operator)) && repeats (level operator)) || operand_takes next opens (max a (suc (level operator))) x)
        (binds_between next opens b (level operator)) ((binds_between next opens b (suc (level operator)) && repeats (level operator)) || operand_takes next opens (max b (suc (level operator))) x)
        (binds_moves a b (level operator) m)
        (or_moves (binds_between next opens a (suc (level operator)) && repeats (level operator)) (operand_takes next opens (max a (suc (level operator))) x) (binds_between next opens b (suc (level operator)) && repeats (level operator)) (operand_takes next opens (max b (suc (level operator))) x)
        (and_moves (binds_between next opens a (suc (level operator))) (repeats (level operator)) (binds_between next opens b (suc (level operator))) (binds_moves a b (suc (level operator)) m))
        (operand_moves x (max a (suc (level operator))) (max b (suc (level operator))) (max_moves a b (suc (level operator)) m))) h
    tails_moves (t.tail operator x (t.tail other y more)) a b m h = tails_moves (t.tail other y more) a b m h

    pub cascades_moves : (x : Cascades) (a b : ℕ) → Moves a b → cascades_take next opens a x ≡ true → cascades_take next opens b x ≡ true
    cascades_moves t.no_cascades a b m h = h
    cascades_moves (t.cascade place _ t.omitted t.no_cascades) a b m h = or_moves (binds_between next opens a question) (binds_between next opens (max a selects) nowhere) (binds_between next opens b question) (binds_between next opens (max b selects) nowhere)
        (binds_moves a b question m) (binds_moves (max a selects) (max b selects) nowhere (max_moves a b selects m)) h
    cascades_moves (t.cascade place _ (t.given operator value) t.no_cascades) a b m h = or_moves (binds_between next opens a question) (expr_takes next opens (max a question) value) (binds_between next opens b question) (expr_takes next opens (max b question) value)
        (binds_moves a b question m) (expr_moves value (max a question) (max b question) (max_moves a b question m)) h
    cascades_moves (t.cascade place _ t.omitted (t.cascade other behind content more)) a b m h = cascades_moves (t.cascade other behind content more) a b m h
    cascades_moves (t.cascade place _ (t.given operator value) (t.cascade other behind content more)) a b m h = cascades_moves (t.cascade other behind content more) a b m h
