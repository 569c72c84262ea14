-- The rows, one over the other: a row gives what stands behind an operand of the row before.
use Rattle.std.proofs.Common.{◌≡◌, ℕ, zero, suc, ◌+◌, ◌-◌, ◌≤◌, Bool, true, false, not, ◌&&◌, if◌then◌else◌, List, [], ◌∷◌, Option, Some, None, Ok, Err, refl, sym, ap, subst, ◌∙◌, arith}
use Rattle.dart_base.specs.declared.place.Place.{Place}
use Rattle.dart_token.specs.declared.sign.Sign.{Sign}
use Rattle.dart_token.specs.declared.sign.Sign.TheVariants as s
use Rattle.dart_token.specs.declared.word.Word.TheVariants as w
use Rattle.dart_token.specs.declared.token.Token.{Token}
use Rattle.dart_tree.specs.declared.operator.Operator.{Operator}
use Rattle.dart_tree.specs.declared.operator.Operator.TheVariants as op
use Rattle.dart_tree.specs.Depth as height
use Rattle.dart_tree.specs.Tree as t
use Rattle.dart_tree.specs.Tree.{Expr, Operand}
use Rattle.dart_tree.specs.Types.{TypeNode}
use Rattle.dart_syntax.specs.Edges.{question, leaves}
use Rattle.dart_syntax.specs.Expressions.{Row, chained, shifts, single, comparison, logical, choice, no_row, rows, row_at}
use Rattle.dart_syntax.specs.Levels.{sign_level}
use Rattle.grammar_laws.specs.Depth.{is_below}
use Rattle.grammar_laws.specs.Halves.{strict, no_half}
use Rattle.grammar_laws.specs.Readers.{Reader, Outcome, and_then, mapped, starts, either, option, followed, continued_by, never, some}
use Rattle.grammar_laws.proofs.Codes.{and_false}
use Rattle.token_codes.specs.Codes.{class_of, these, this_word, sign_codes}
use Rattle.token_codes.specs.Leaves.{sign, word, one_of}
use Rattle.syntax_readers.specs.Combinators.{◌~◌, always_gives, Open, with_half, take_half, halved}
use Rattle.syntax_readers.specs.Levels.{Item, to_tails, joined, joined_once, has_room, whole, is_bare, chain, once, shift, shift_codes, shift_tails, relational, Compared, compared, tested, cast, joined_compared, joined_conditional, compared_with, compare_codes, comparing, conditional, row_over, rows_over, levels_over, flat_levels}
use Rattle.syntax_readers.specs.Primaries.{ExprReaders}
use Rattle.syntax_readers.specs.Statements.{stage, nodes_over}
use Rattle.syntax_readers.specs.Types.{type_reader}
use Rattle.parse_nest.specs.Stages.{expr_at}
use Rattle.parse_unary.specs.Views.{row_reader}
use Rattle.parse_row.proofs.Signs.{starts_none}
use Rattle.parse_row.specs.Rows.{behind, whole_row, row_signs, row_binds, row_repeats, stands_before, item, tails_behind, sign_row, half_behind, may_shift, halved_row, shift_item, shifts_behind, shift_from, shift_row, with_one, one_behind, operator_behind, tested_behind, cast_behind, compare_behind, compare_row, choice_behind, choice_row}

-- ---- a row reads the row before first

row_by : (n : ℕ) (inner : ExprReaders) (row : Row) (lower : Reader Token (Open Operand)) (o : Outcome Token (Open Operand)) (ts : List Token) →
    row_over n inner row (λ _. o) lower ts ≡ and_then o (λ x rest. row_over n inner row (always_gives x) lower rest)
unfolding row_over chain shift once relational conditional whole
row_by n inner (chained sign more) lower (Ok x) ts = refl
row_by n inner (chained sign more) lower (Err rest) ts = refl
row_by n inner shifts lower (Ok x) ts = refl
row_by n inner shifts lower (Err rest) ts = refl
row_by n inner (single sign more) lower (Ok x) ts = refl
row_by n inner (single sign more) lower (Err rest) ts = refl
row_by n inner comparison lower (Ok x) ts = refl
row_by n inner comparison lower (Err rest) ts = refl
row_by n inner (logical sign) lower (Ok x) ts = refl
row_by n inner (logical sign) lower (Err rest) ts = refl
row_by n inner choice lower (Ok x) ts = refl
row_by n inner choice lower (Err rest) ts = refl
row_by n inner no_row lower (Ok x) ts = refl
row_by n inner no_row lower (Err rest) ts = refl

row_once : (n : ℕ) (inner : ExprReaders) (row : Row) (here lower : Reader Token (Open Operand)) (ts : List Token) →
    row_over n inner row here lower ts ≡ row_over n inner row (λ _. here ts) lower ts
unfolding row_over chain shift once relational conditional whole
row_once n inner (chained sign more) here lower ts = refl
row_once n inner shifts here lower ts = refl
row_once n inner (single sign more) here lower ts = refl
row_once n inner comparison here lower ts = refl
row_once n inner (logical sign) here lower ts = refl
row_once n inner choice here lower ts = refl
row_once n inner no_row here lower ts = refl

row_is : (n row : ℕ) (ts : List Token) → row_reader (suc n) (suc row) ts ≡ row_over (suc n) (stage n).nodes.exprs (row_at rows row) (row_reader (suc n) row) (row_reader n row) ts
unfolding stage levels_over rows_over
row_is n row ts = refl

flat_is : (row : ℕ) (ts : List Token) → row_reader 0 (suc row) ts ≡ row_reader 0 row ts
unfolding stage flat_levels
flat_is row ts = refl

-- without room for a node each row is the same
pub flat_row : (row : ℕ) (ts : List Token) → row_reader 0 row ts ≡ row_reader 0 0 ts
unfolding stage flat_levels
flat_row row ts = refl

given_back : (o : Outcome Token (Open Operand)) → o ≡ and_then o (λ x rest. Ok (x, rest))
given_back (Ok x) = refl
given_back (Err rest) = refl

pub climb_by : (depth row : ℕ) (ts : List Token) → row_reader depth (suc row) ts ≡ and_then (row_reader depth row ts) (λ x rest. behind depth row x rest)
unfolding behind
climb_by zero row ts = flat_is row ts ∙ given_back (row_reader 0 row ts)
climb_by (suc n) row ts =
    row_is n row ts
    ∙ row_once (suc n) (stage n).nodes.exprs (row_at rows row) (row_reader (suc n) row) (row_reader n row) ts
    ∙ row_by (suc n) (stage n).nodes.exprs (row_at rows row) (row_reader n row) (row_reader (suc n) row ts) ts

climbs : (depth row : ℕ) (ts : List Token) → row_reader depth (row + 1) ts ≡ and_then (row_reader depth row ts) (λ x rest. behind depth row x rest)
climbs depth row ts =
    let e : row + 1 ≡ suc row = omega arith in
    ap (λ (r : ℕ). row_reader depth r ts) e ∙ climb_by depth row ts

-- where an operand of a row was read, the next row gives what stands behind it
pub climbs_on : (depth row : ℕ) (ts mid : List Token) (x : Open Operand) → row_reader depth row ts ≡ Ok (x, mid) → row_reader depth (row + 1) ts ≡ behind depth row x mid
climbs_on depth row ts mid x e = climbs depth row ts ∙ ap (λ (o : Outcome Token (Open Operand)). and_then o (λ y rest. behind depth row y rest)) e

-- what fails at a row fails at each above it
fails_next : (depth row : ℕ) (ts end : List Token) → row_reader depth row ts ≡ Err end → row_reader depth (suc row) ts ≡ Err end
fails_next depth row ts end e = climb_by depth row ts ∙ ap (λ (o : Outcome Token (Open Operand)). and_then o (λ y rest. behind depth row y rest)) e

fails_above : (depth row more : ℕ) (ts end : List Token) → row_reader depth row ts ≡ Err end → row_reader depth (more + row) ts ≡ Err end
fails_above depth row zero ts end e = subst (λ (r : ℕ). row_reader depth r ts ≡ Err end) (omega arith) e
fails_above depth row (suc more) ts end e = subst (λ (r : ℕ). row_reader depth r ts ≡ Err end) (omega arith) (fails_next depth (more + row) ts end (fails_above depth row more ts end e))

pub row_fails : (depth low high : ℕ) (ts end : List Token) → low ≤ high → row_reader depth low ts ≡ Err end → row_reader depth high ts ≡ Err end
row_fails depth low high ts end le e = subst (λ (r : ℕ). row_reader depth r ts ≡ Err end) (omega arith) (fails_above depth low (high - low) ts end e)

-- ---- where there is no room for a node

pub flat_behind : (depth row : ℕ) (x : Open Operand) (ts : List Token) → depth ≡ 0 → behind depth row x ts ≡ Ok (x, ts)
unfolding behind
flat_behind zero row x ts none = refl
flat_behind (suc n) row x ts none = absurd (omega arith)

-- ---- rows of signs

joined_by : (x : Open Operand) (o : Outcome Token (List Item)) →
    and_then {B = Open Operand} (and_then {B = Open Operand × Option (List Item)} (and_then {B = Option (List Item)} o (λ l rest. Ok (Some l, rest))) (λ l rest. Ok ((x, l), rest))) (λ y rest. Ok (joined y, rest))
    ≡ and_then (and_then {B = Open t.Tails} o (λ l rest. Ok (to_tails l, rest))) (λ y rest. Ok (with_half (t.binary x.0) y, rest))
joined_by x (Ok l) = refl
joined_by x (Err rest) = refl

signed : ℕ → ℕ → List Sign → Bool → Reader Token (Open Operand) → Open Operand → Reader Token (Open Operand)
signed next n signs again lower x = either
    (λ ts. stands_before next n x && starts class_of (sign_codes signs) ts)
    (mapped (with_half (t.binary x.0)) (mapped to_tails (some class_of (λ y. again && (no_half y.1 && leaves next y.1.0)) (sign_codes signs) (one_of signs ~ whole lower)))) (always_gives x)

chain_by : (next n : ℕ) (signs : List Sign) (lower : Reader Token (Open Operand)) (x : Open Operand) (ts : List Token) (c : Bool) → (stands_before next n x && starts class_of (sign_codes signs) ts) ≡ c → chain next n signs (always_gives x) lower ts ≡ signed next n signs true lower x ts
unfolding chain signed
chain_by next n signs lower x ts true on = rw on (joined_by x (some class_of (λ y. no_half y.1 && leaves next y.1.0) (sign_codes signs) (one_of signs ~ whole lower) ts))
chain_by next n signs lower x ts false off = rw off refl

chain_is : (next n : ℕ) (signs : List Sign) (lower : Reader Token (Open Operand)) (x : Open Operand) (ts : List Token) → chain next n signs (always_gives x) lower ts ≡ signed next n signs true lower x ts
chain_is next n signs lower x ts = chain_by next n signs lower x ts (stands_before next n x && starts class_of (sign_codes signs) ts) refl

no_signs : (next n : ℕ) (again : Bool) (lower : Reader Token (Open Operand)) (x : Open Operand) (ts : List Token) → Ok (x, ts) ≡ signed next n [] again lower x ts
unfolding signed
no_signs next n again lower x ts = rw (and_false (stands_before next n x) (starts class_of [] ts) (starts_none ts)) refl

pub sign_rows : (n row : ℕ) (x : Open Operand) (ts : List Token) → (row ≡ 2 → ⊥) → (row ≡ 6 → ⊥) → (row ≡ 7 → ⊥) → (row ≡ 10 → ⊥) → behind (suc n) row x ts ≡ sign_row (suc n) n row x ts
unfolding behind row_over sign_row tails_behind item whole_row row_signs row_binds row_repeats signed
sign_rows n zero x ts a b c d = chain_is (sign_level s.Star) (suc n) (s.Star ∷ s.Slash ∷ s.TildeSlash ∷ s.Percent ∷ []) (row_reader n 0) x ts
sign_rows n (suc zero) x ts a b c d = chain_is (sign_level s.Plus) (suc n) (s.Plus ∷ s.Minus ∷ []) (row_reader n 1) x ts
sign_rows n (suc (suc zero)) x ts a b c d = absurd (a refl)
sign_rows n (suc (suc (suc zero))) x ts a b c d = chain_is (sign_level s.Ampersand) (suc n) (s.Ampersand ∷ []) (row_reader n 3) x ts
sign_rows n (suc (suc (suc (suc zero)))) x ts a b c d = chain_is (sign_level s.Caret) (suc n) (s.Caret ∷ []) (row_reader n 4) x ts
sign_rows n (suc (suc (suc (suc (suc zero))))) x ts a b c d = chain_is (sign_level s.Bar) (suc n) (s.Bar ∷ []) (row_reader n 5) x ts
sign_rows n (suc (suc (suc (suc (suc (suc zero)))))) x ts a b c d = absurd (b refl)
sign_rows n (suc (suc (suc (suc (suc (suc (suc zero))))))) x ts a b c d = absurd (c refl)
sign_rows n (suc (suc (suc (suc (suc (suc (suc (suc zero)))))))) x ts a b c d = chain_is (sign_level s.AndAnd) (suc n) (s.AndAnd ∷ []) (row_reader n 8) x ts
sign_rows n (suc (suc (suc (suc (suc (suc (suc (suc (suc zero))))))))) x ts a b c d = chain_is (sign_level s.OrOr) (suc n) (s.OrOr ∷ []) (row_reader n 9) x ts
sign_rows n (suc (suc (suc (suc (suc (suc (suc (suc (suc (suc zero)))))))))) x ts a b c d = absurd (d refl)
sign_rows n (suc (suc (suc (suc (suc (suc (suc (suc (suc (suc (suc row))))))))))) x ts a b c d = no_signs 0 (suc n) true (row_reader n (suc (suc (suc (suc (suc (suc (suc (suc (suc (suc (suc row)))))))))))) x ts

pub sign_behind : (depth under row : ℕ) (x : Open Operand) (ts : List Token) → under + 1 ≡ depth → (row ≡ 2 → ⊥) → (row ≡ 6 → ⊥) → (row ≡ 7 → ⊥) → (row ≡ 10 → ⊥) → behind depth row x ts ≡ sign_row depth under row x ts
sign_behind depth under row x ts more a b c d =
    let e : suc under ≡ depth = omega arith in
    subst (λ (m : ℕ). behind m row x ts ≡ sign_row m under row x ts) e (sign_rows under row x ts a b c d)

-- ---- one operator at most, and no `super` alone

whole_same : (p q : Reader Token (Open Operand)) (ts : List Token) → p ts ≡ q ts → whole p ts ≡ whole q ts
unfolding whole
whole_same p q ts e = ap (λ (o : Outcome Token (Open Operand)). and_then {B = Open Operand} o (λ x rest. if not (is_bare x.0) then Ok (x, rest) else Err rest)) e

one_by : (x : Open Operand) (o : Outcome Token Item) →
    and_then {B = Open Operand} (and_then {B = Open Operand × Option Item} (and_then {B = Option Item} o (λ i rest. Ok (Some i, rest))) (λ i rest. Ok ((x, i), rest))) (λ y rest. Ok (joined_once y, rest))
    ≡ and_then (and_then {B = Open t.Tails} (and_then {B = List Item} o (λ i rest. Ok (i ∷ [], rest))) (λ l rest. Ok (to_tails l, rest))) (λ y rest. Ok (with_half (t.binary x.0) y, rest))
one_by x (Ok i) = refl
one_by x (Err rest) = refl

once_one : ℕ → ℕ → List Sign → Reader Token (Open Operand) → Open Operand → Reader Token (Open Operand)
once_one next n signs lower x = mapped joined_once (followed class_of (λ y. no_half y && has_room n y && leaves next y.0) (sign_codes signs) (always_gives x) (one_of signs ~ whole lower))

once_by : (next n : ℕ) (signs : List Sign) (lower : Reader Token (Open Operand)) (x : Open Operand) (ts : List Token) (c : Bool) → (stands_before next n x && starts class_of (sign_codes signs) ts) ≡ c → once_one next n signs lower x ts ≡ signed next n signs false lower x ts
unfolding once_one signed
once_by next n signs lower x ts true on = rw on (one_by x ((one_of signs ~ whole lower) ts))
once_by next n signs lower x ts false off = rw off refl

once_is : (next n : ℕ) (signs : List Sign) (lower : Reader Token (Open Operand)) (x : Open Operand) (ts : List Token) → once next n signs (always_gives x) lower ts ≡ whole (signed next n signs false lower x) ts
unfolding once once_one
once_is next n signs lower x ts = whole_same (once_one next n signs lower x) (signed next n signs false lower x) ts (once_by next n signs lower x ts (stands_before next n x && starts class_of (sign_codes signs) ts) refl)

once_row : (n : ℕ) (x : Open Operand) (ts : List Token) → behind (suc n) 7 x ts ≡ whole (sign_row (suc n) n 7 x) ts
unfolding behind row_over sign_row tails_behind item whole_row row_signs row_binds row_repeats signed
once_row n x ts = once_is (sign_level s.EqualEqual) (suc n) (s.EqualEqual ∷ s.NotEqual ∷ []) (row_reader n 7) x ts

pub once_behind : (depth under row : ℕ) (x : Open Operand) (ts : List Token) → under + 1 ≡ depth → row ≡ 7 → behind depth row x ts ≡ whole (sign_row depth under row x) ts
once_behind depth under row x ts more is =
    let e : suc under ≡ depth = omega arith in
    subst (λ (r : ℕ). behind depth r x ts ≡ whole (sign_row depth under r x) ts) (sym is) (subst (λ (m : ℕ). behind m 7 x ts ≡ whole (sign_row m under 7 x) ts) e (once_row under x ts))

-- ---- shifts

taken : (a : Operand) (o : Outcome Token (Option Place)) →
    and_then {B = Open Operand} (and_then {B = Open Operand × Option Place} o (λ h rest. Ok (((a, None), h), rest))) (λ y rest. Ok (take_half y, rest)) ≡ and_then o (λ h rest. Ok ((a, h), rest))
taken a (Ok (None, rest)) = refl
taken a (Ok (Some greater, rest)) = refl
taken a (Err rest) = refl

halved_by : (may : Operand → Bool) (a : Operand) (ts : List Token) (c : Bool) → may a ≡ c → halved may (always_gives (a, None)) ts ≡ and_then (half_behind c None ts) (λ h rest. Ok ((a, h), rest))
halved_by may a ts true on = rw on (taken a (option class_of (these s.Greater) (sign s.Greater) ts))
halved_by may a ts false off = rw off refl

halved_is : (may : Operand → Bool) (x : Open Operand) (ts : List Token) → halved may (always_gives x) ts ≡ and_then (half_behind (may x.0) x.1 ts) (λ h rest. Ok ((x.0, h), rest))
halved_is may (a, None) ts = halved_by may a ts (may a) refl
halved_is may (a, Some greater) ts = refl

-- an operand that is read, and what may stand behind it
pub halved_both : (may : Operand → Bool) (o : Outcome Token (Open Operand)) (ts : List Token) → halved may (λ _. o) ts ≡ and_then o (λ x mid. and_then (half_behind (may x.0) x.1 mid) (λ h rest. Ok ((x.0, h), rest)))
halved_both may (Ok x) ts = halved_is may x.0 x.1
halved_both may (Err rest) ts = refl

then_same : {A B : Type 0} (o : Outcome Token A) (f g : A → Reader Token B) → ((a : A) (rest : List Token) → f a rest ≡ g a rest) → and_then o f ≡ and_then o g
then_same (Ok x) f g e = e x.0 x.1
then_same (Err rest) f g e = refl

then_then : {A B C : Type 0} (o : Outcome Token A) (f : A → B) (g : B → Reader Token C) → and_then (and_then o (λ a rest. Ok (f a, rest))) g ≡ and_then o (λ a rest. g (f a) rest)
then_then (Ok x) f g = refl
then_then (Err rest) f g = refl

-- behind an operand with its half, or none
shift_here : ℕ → Reader Token (Open Operand) → Open Operand → Reader Token (Open Operand)
shift_here n lower y = mapped joined
    (continued_by class_of never (λ x. has_room n x && leaves (sign_level s.ShiftLeft) x.0) (λ x. shift_codes x.1) (always_gives y) (λ x. shift_tails x.1 lower))

shift_once : (n : ℕ) (lower here : Reader Token (Open Operand)) (ts : List Token) (o : Outcome Token (Open Operand)) → halved (λ x. is_below height.operand_height n x && leaves (sign_level s.ShiftLeft) x) here ts ≡ o →
    shift n here lower ts ≡ and_then o (shift_here n lower)
unfolding shift shift_here
shift_once n lower here ts (Ok x) e = rw e refl
shift_once n lower here ts (Err rest) e = rw e refl

shift_here_by : (n row : ℕ) (a : Operand) (h : Option Place) (ts : List Token) (c : Bool) → (may_shift (suc n) a && starts class_of (shift_codes h) ts) ≡ c → shift_here (suc n) (row_reader n row) (a, h) ts ≡ shift_from (suc n) n row a h ts
unfolding shift_here shift_tails shift_from shifts_behind shift_item halved_row whole_row
shift_here_by n row a h ts true on = rw on (joined_by (a, h) (shift_tails h (row_reader n row) ts))
shift_here_by n row a h ts false off = rw off refl

shift_is : (n row : ℕ) (x : Open Operand) (ts : List Token) → shift (suc n) (always_gives x) (row_reader n row) ts ≡ shift_row (suc n) n row x ts
unfolding shift_row
shift_is n row x ts =
    shift_once (suc n) (row_reader n row) (always_gives x) ts _ (halved_is (may_shift (suc n)) x ts)
    ∙ then_then (half_behind (may_shift (suc n) x.0) x.1 ts) (λ h. (x.0, h)) (shift_here (suc n) (row_reader n row))
    ∙ then_same (half_behind (may_shift (suc n) x.0) x.1 ts) (λ h. shift_here (suc n) (row_reader n row) (x.0, h)) (λ h. shift_from (suc n) n row x.0 h)
    (λ h rest. shift_here_by n row x.0 h rest (may_shift (suc n) x.0 && starts class_of (shift_codes h) rest) refl)

shift_two : (n : ℕ) (x : Open Operand) (ts : List Token) → behind (suc n) 2 x ts ≡ shift_row (suc n) n 2 x ts
unfolding behind row_over
shift_two n x ts = shift_is n 2 x ts

pub shift_behind : (depth under row : ℕ) (x : Open Operand) (ts : List Token) → under + 1 ≡ depth → row ≡ 2 → behind depth row x ts ≡ shift_row depth under row x ts
shift_behind depth under row x ts more is =
    let e : suc under ≡ depth = omega arith in
    subst (λ (r : ℕ). behind depth r x ts ≡ shift_row depth under r x ts) (sym is) (subst (λ (m : ℕ). behind m 2 x ts ≡ shift_row m under 2 x ts) e (shift_two under x ts))

-- ---- comparisons

type_same : (n : ℕ) → (stage n).nodes.exprs.type ≡ type_reader n
unfolding stage nodes_over type_reader
type_same zero = refl
type_same (suc n) = refl

one_compared : (x : Open Operand) (operator : Operator) (o : Outcome Token (Open Operand)) →
    and_then {B = Open Operand} (and_then {B = Open Operand × Option Compared} (and_then {B = Option Compared} (and_then {B = Compared} o (λ y rest. Ok (compared operator y, rest))) (λ y rest. Ok (Some y, rest))) (λ y rest. Ok ((x, y), rest))) (λ y rest. Ok (joined_compared y, rest))
    ≡ and_then o (λ y rest. Ok (with_half (with_one x.0 operator) y, rest))
one_compared x operator (Ok y) = refl
one_compared x operator (Err rest) = refl

-- a comparison that was read, put behind its operand
abbrev put : Open Operand → Outcome Token Compared → Outcome Token (Open Operand)
put x o = and_then (and_then {B = Open Operand × Option Compared} (and_then {B = Option Compared} o (λ y rest. Ok (Some y, rest))) (λ y rest. Ok ((x, y), rest))) (λ y rest. Ok (joined_compared y, rest))

pair_by : (x : Open Operand) (operator : Operator) (o : Outcome Token (Open Operand)) →
    put x (and_then (and_then {B = Operator × Open Operand} o (λ y rest. Ok ((operator, y), rest))) (λ y rest. Ok (compared y.0 y.1, rest)))
    ≡ and_then o (λ y rest. Ok (with_half (with_one x.0 operator) y, rest))
pair_by x operator (Ok y) = refl
pair_by x operator (Err rest) = refl

operator_by : (x : Open Operand) (o : Outcome Token Operator) (q : Reader Token (Open Operand)) →
    put x (and_then (and_then {B = Operator × Open Operand} o (λ operator mid. and_then (q mid) (λ y rest. Ok ((operator, y), rest)))) (λ y rest. Ok (compared y.0 y.1, rest)))
    ≡ and_then o (λ operator mid. and_then (q mid) (λ y rest. Ok (with_half (with_one x.0 operator) y, rest)))
operator_by x (Ok y) q = pair_by x y.0 (q y.1)
operator_by x (Err rest) q = refl

tested_by : (a : Operand) (o : Outcome Token (Place × (Option Place × TypeNode))) →
    put (a, None) (and_then o (λ y rest. Ok (tested y.0 y.1.0 y.1.1, rest))) ≡ and_then o (λ y rest. Ok ((t.is_type a y.0 y.1.0 y.1.1, None), rest))
tested_by a (Ok y) = refl
tested_by a (Err rest) = refl

cast_by : (a : Operand) (o : Outcome Token (Place × TypeNode)) →
    put (a, None) (and_then o (λ y rest. Ok (cast y.0 y.1, rest))) ≡ and_then o (λ y rest. Ok ((t.as_type a y.0 y.1, None), rest))
cast_by a (Ok y) = refl
cast_by a (Err rest) = refl

compared_by : (n row : ℕ) (a : Operand) (ts : List Token) (c d : Bool) → starts class_of (this_word w.Is) ts ≡ c → starts class_of (this_word w.As) ts ≡ d →
    put (a, None) (compared_with None (type_reader n) (row_reader n row) ts) ≡ compare_behind n row a None ts
unfolding compared_with compare_behind tested_behind cast_behind operator_behind one_behind whole_row
compared_by n row a ts true d tests casts = rw tests (tested_by a ((word w.Is ~ option class_of (these s.Bang) (sign s.Bang) ~ type_reader n) ts))
compared_by n row a ts false true tests casts = rw (tests, casts) (cast_by a ((word w.As ~ type_reader n) ts))
compared_by n row a ts false false tests casts = rw (tests, casts) (operator_by (a, None) (one_of comparing ts) (whole (row_reader n row)))

compared_is : (n row : ℕ) (x : Open Operand) (ts : List Token) → put x (compared_with x.1 (type_reader n) (row_reader n row) ts) ≡ compare_behind n row x.0 x.1 ts
unfolding compared_with compare_behind one_behind whole_row
compared_is n row (a, None) ts = compared_by n row a ts (starts class_of (this_word w.Is) ts) (starts class_of (this_word w.As) ts) refl refl
compared_is n row (a, Some greater) ts = one_compared (a, Some greater) (op.Sign greater s.Greater) (whole (row_reader n row) ts)

compare_by : (n row : ℕ) (x : Open Operand) (ts : List Token) (c : Bool) → starts class_of (compare_codes (suc n) x) ts ≡ c → relational (suc n) (type_reader n) (always_gives x) (row_reader n row) ts ≡ compare_row (suc n) n row x ts
unfolding relational compare_row
compare_by n row x ts true on = rw on (compared_is n row x ts)
compare_by n row x ts false off = rw off refl

compare_six : (n : ℕ) (x : Open Operand) (ts : List Token) → behind (suc n) 6 x ts ≡ compare_row (suc n) n 6 x ts
unfolding behind row_over
compare_six n x ts =
    ap (λ (r : Reader Token TypeNode). relational (suc n) r (always_gives x) (row_reader n 6) ts) (type_same n)
    ∙ compare_by n 6 x ts (starts class_of (compare_codes (suc n) x) ts) refl

pub compare_is_behind : (depth under row : ℕ) (x : Open Operand) (ts : List Token) → under + 1 ≡ depth → row ≡ 6 → behind depth row x ts ≡ compare_row depth under row x ts
compare_is_behind depth under row x ts more is =
    let e : suc under ≡ depth = omega arith in
    subst (λ (r : ℕ). behind depth r x ts ≡ compare_row depth under r x ts) (sym is) (subst (λ (m : ℕ). behind m 6 x ts ≡ compare_row m under 6 x ts) e (compare_six under x ts))

-- ---- conditionals

choice_put : (x : Open Operand) (o : Outcome Token (Place × (Expr × (Place × Open Expr)))) →
    and_then {B = Open Operand} (and_then {B = Open Operand × Option (Place × (Expr × (Place × Open Expr)))} (and_then {B = Option (Place × (Expr × (Place × Open Expr)))} o (λ y rest. Ok (Some y, rest))) (λ y rest. Ok ((x, y), rest))) (λ y rest. Ok (joined_conditional y, rest))
    ≡ and_then o (λ y rest. Ok (with_half (t.conditional x.0 y.0 y.1.0 y.1.1.0) y.1.1.1, rest))
choice_put x (Ok y) = refl
choice_put x (Err rest) = refl

choice_by : (n : ℕ) (x : Open Operand) (ts : List Token) (c : Bool) → (stands_before question (suc n) x && starts class_of (these s.Question) ts) ≡ c → conditional (suc n) (expr_at n false) (always_gives x) ts ≡ choice_row (suc n) n x ts
unfolding conditional choice_row choice_behind
choice_by n x ts true on = rw on (choice_put x ((sign s.Question ~ strict (expr_at n false) ~ sign s.Colon ~ expr_at n false) ts))
choice_by n x ts false off = rw off refl

choice_ten : (n : ℕ) (x : Open Operand) (ts : List Token) → behind (suc n) 10 x ts ≡ choice_row (suc n) n x ts
unfolding behind row_over
choice_ten n x ts = choice_by n x ts (stands_before question (suc n) x && starts class_of (these s.Question) ts) refl

pub choice_is_behind : (depth under row : ℕ) (x : Open Operand) (ts : List Token) → under + 1 ≡ depth → row ≡ 10 → behind depth row x ts ≡ choice_row depth under x ts
choice_is_behind depth under row x ts more is =
    let e : suc under ≡ depth = omega arith in
    subst (λ (r : ℕ). behind depth r x ts ≡ choice_row depth under x ts) (sym is) (subst (λ (m : ℕ). behind m 10 x ts ≡ choice_row m under x ts) e (choice_ten under x ts))
