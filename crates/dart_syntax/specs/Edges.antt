-- What goes on at the right edge of an operand. The body behind `=>` of a function literal and the
-- operand of `throw` go on with every token that may follow inside them, so what such a body takes
-- does not stand behind it.
use Rattle.std.specs.Prelude.{ℕ, ◌==◌, nat_lt, suc, max, not, Bool, true, false, ◌&&◌, ◌||◌, None, Some}
use Rattle.dart_base.specs.declared.place.Place.{Place}
use Rattle.dart_tree.specs.Types.{TypeNode, dynamic_type, named_type, no_types}
use Rattle.dart_tree.specs.Tree as t
use Rattle.dart_tree.specs.Tree.{Expr, Operand, Primary, Parameters, Selectors, Value, Tails, Cascades}
use Rattle.dart_syntax.specs.Levels.{level}

-- ---- what may come next, by how tightly it binds: `..` 0, `?` 1, the operators 2 to 11 as `level`
-- says, a selector 13

abbrev pub dots : ℕ
dots = 0

abbrev pub question : ℕ
question = 1

abbrev pub equals : ℕ
equals = 4

abbrev pub compares : ℕ
compares = 5

abbrev pub selects : ℕ
selects = 13

-- where nothing may go on
abbrev pub nowhere : ℕ
nowhere = 14

-- operators of one level stand behind one another, but for those that compare
abbrev pub repeats : ℕ → Bool
repeats n = not (n == equals || n == compares)

-- ---- the types that take what comes next: `<`, `.`, or nothing

-- `<` behind a type's name opens its arguments; behind `dynamic`, which has none, it is wrong
abbrev pub opens_less : TypeNode → Bool
opens_less (named_type name member no_types) = true
opens_less (dynamic_type place) = true
opens_less x = false

abbrev pub opens_dot : TypeNode → Bool
opens_dot (named_type name None no_types) = true
opens_dot x = false

abbrev pub opens_nothing : TypeNode → Bool
opens_nothing x = false

-- ---- a tree takes what comes next, itself or at its right edge

module _ (next : ℕ) (opens : TypeNode → Bool) where
  -- what comes next binds at least as tightly as the first number and less tightly than the second
  abbrev pub binds_between : ℕ → ℕ → Bool
  binds_between from below = not (nat_lt next from) && nat_lt next below

  unfoldable mutual
    -- in a place for what binds at least so tightly
    pub expr_takes : ℕ → Expr → Bool
    expr_takes from (t.assign target operator value) = expr_takes from value
    expr_takes from (t.plain x t.no_cascades) = operand_takes from x
    expr_takes from (t.plain x several) = cascades_take from several
    expr_takes from (t.throw word value) = expr_takes dots value

    pub operand_takes : ℕ → Operand → Bool
    operand_takes from (t.conditional condition mark first colon second) =
        binds_between from question || expr_takes (max from question) second
    operand_takes from (t.binary first more) = tails_take from more
    operand_takes from (t.is_type x word bang of) =
        binds_between from compares || (binds_between from nowhere && opens of)
    operand_takes from (t.as_type x word of) =
        binds_between from compares || (binds_between from nowhere && opens of)
    operand_takes from (t.prefix operator x) =
        binds_between from selects || operand_takes (max from selects) x
    operand_takes from (t.postfix x _ None) = binds_between from nowhere
    operand_takes from (t.postfix x _ (Some operator)) = binds_between from selects
    operand_takes from (t.primary (t.function_literal _ (t.arrow_body arrow value semicolon))) =
        binds_between from nowhere || expr_takes dots value
    operand_takes from (t.primary x) = binds_between from nowhere

    pub tails_take : ℕ → Tails → Bool
    tails_take from t.no_tails = false
    tails_take from (t.tail operator x t.no_tails) =
        binds_between from (level operator)
        || ((binds_between from (suc (level operator)) && repeats (level operator))
        || operand_takes (max from (suc (level operator))) x)
    tails_take from (t.tail operator x more) = tails_take from more

    pub cascades_take : ℕ → Cascades → Bool
    cascades_take from t.no_cascades = false
    cascades_take from (t.cascade place _ t.omitted t.no_cascades) =
        binds_between from question || binds_between (max from selects) nowhere
    cascades_take from (t.cascade place _ (t.given operator value) t.no_cascades) =
        binds_between from question || expr_takes (max from question) value
    cascades_take from (t.cascade place _ value more) = cascades_take from more

-- ---- so it leaves this to what stands around it

abbrev pub leaves : ℕ → Operand → Bool
leaves next x = not (operand_takes next opens_nothing nowhere x)

abbrev pub leaves_less : Operand → Bool
leaves_less x = not (operand_takes compares opens_less nowhere x)

abbrev pub primary_leaves : (TypeNode → Bool) → Primary → Bool
primary_leaves opens x = not (operand_takes selects opens nowhere (t.primary x))

-- another cascade
abbrev pub leaves_cascade : Place × (Selectors × Value) → Bool
leaves_cascade (place, (selectors, value)) =
    not (cascades_take dots opens_nothing nowhere (t.cascade place selectors value t.no_cascades))

-- ---- a function literal with this behind `=>`

abbrev pub arrow_literal : Parameters → Place → Operand → Primary
arrow_literal parameters arrow body =
    t.function_literal parameters (t.arrow_body arrow (t.plain body t.no_cascades) None)
