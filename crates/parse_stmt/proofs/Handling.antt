-- The parts of a `try`: parts that handle exceptions, each of which makes the list longer, and the part that `finally` begins.
use Rattle.std.proofs.Common.{◌≡◌, ℕ, ◌≤◌, max, Bool, true, false, if◌then◌else◌, List, [], ◌∷◌, ◌++◌, Option, Some, None, Ok, Err, refl, sym, ap, ◌∙◌, arith}
use Rattle.dart_base.specs.declared.place.Place.{Place}
use Rattle.dart_token.specs.declared.token.Token.{Token}
use Rattle.dart_token.specs.declared.word.Word.TheVariants as w
use Rattle.dart_tree.specs.declared.statement.TryPart.{TryPart}
use Rattle.dart_tree.specs.Depth as height
use Rattle.dart_tree.specs.Lists.{try_parts_of}
use Rattle.dart_tree.specs.Tree as t
use Rattle.dart_tree.specs.Types as y
use Rattle.dart_syntax.specs.Statements.{append_parts, join_parts, to_finally, on_parts}
use Rattle.grammar_laws.specs.Readers.{Reader, Outcome, and_then, mapped, both, prepend, option, starts}
use Rattle.grammar_laws.proofs.Cuts.{gave}
use Rattle.token_codes.specs.Codes.{class_of, this_word}
use Rattle.syntax_readers.specs.Statements as spec
use Rattle.parse_loop.specs.Lists.{Growing, given}
use Rattle.parse_jump.proofs.Loops.{ReadSoFar}
use Rattle.parse_nest.specs.Stages.{block_at}
use Rattle.parse_stmt.specs.Views.{part_of, try_part_at, some_parts_at, handlers_at, finally_at, handled_at}

-- ---- parts behind one another

append_none : (l : t.TryParts) → append_parts l t.no_try_parts ≡ l
append_none t.no_try_parts = refl
append_none (t.try_part kind block more) = ap (t.try_part kind block) (append_none more)

append_append : (l m n : t.TryParts) → append_parts (append_parts l m) n ≡ append_parts l (append_parts m n)
append_append t.no_try_parts m n = refl
append_append (t.try_part kind block more) m n = ap (t.try_part kind block) (append_append more m n)

join_before : (items : List t.TryParts) (rest : t.TryParts) → join_parts items rest ≡ append_parts (join_parts items t.no_try_parts) rest
join_before [] rest = refl
join_before (x ∷ items) rest = ap (append_parts x) (join_before items rest) ∙ sym (append_append x (join_parts items t.no_try_parts) rest)

join_more : (items : List t.TryParts) (y : t.TryParts) → join_parts (items ++ y ∷ []) t.no_try_parts ≡ append_parts (join_parts items t.no_try_parts) y
join_more [] y = append_none y
join_more (x ∷ items) y = ap (append_parts x) (join_more items y) ∙ sym (append_append x (join_parts items t.no_try_parts) y)

abbrev pub parts_of : t.TryParts → List t.TryParts → t.TryParts
parts_of first items = on_parts (first, items) None

pub grows : (first : t.TryParts) (items : List t.TryParts) (y : t.TryParts) → parts_of first (items ++ y ∷ []) ≡ append_parts (parts_of first items) y
grows first items y = ap (append_parts first) (join_more items y) ∙ sym (append_append first (join_parts items t.no_try_parts) y)

pub taller : (l y : t.TryParts) → height.try_parts_height (append_parts l y) ≡ max (height.try_parts_height l) (height.try_parts_height y)
unfolding height.try_parts_height
taller t.no_try_parts y = omega arith
taller (t.try_part kind block more) y = let e = taller more y in omega arith

abbrev pub parts_list : ℕ → Growing t.TryParts t.TryParts t.TryParts
parts_list n = record {
  codes = [];
  item = try_part_at n;
  give = parts_of;
  snoc = append_parts;
  high = height.try_parts_height;
  tall = height.try_parts_height;
  grows = grows;
  taller = taller;
}

pub one_part : (x : t.TryParts) → parts_of x [] ≡ x
one_part x = append_none x

-- what is pushed stands behind the others
pushed_one : (items : List TryPart) (x : TryPart) → try_parts_of (items ++ x ∷ []) ≡ append_parts (try_parts_of items) (part_of x)
pushed_one [] x = refl
pushed_one (z ∷ items) x = ap (λ (more : t.TryParts). append_parts (part_of z) more) (pushed_one items x)

pub pushed : (items new : List TryPart) (x : TryPart) → new ≡ items ++ x ∷ [] → try_parts_of new ≡ append_parts (try_parts_of items) (part_of x)
pushed items new x is = ap try_parts_of is ∙ pushed_one items x

-- ---- before the first turn of a loop that reads further items behind a first

module _ {F Y L : Type 0} (g : Growing F Y L) (depth : ℕ) (whole : Outcome Token L) where
  behind_first : (first : F) (o : Outcome Token (List Y)) →
      and_then {B = L} (and_then {B = F × List Y} o (λ items rest. Ok ((first, items), rest))) (λ x rest. Ok (g.give x.0 x.1, rest)) ≡ given (g.give first) (prepend [] o)
  behind_first first (Ok x) = refl
  behind_first first (Err rest) = refl

  pub begins_behind : (p : Reader Token F) (q : Reader Token (List Y)) (first : F) (start mid : List Token) (list : L) (h : ℕ) (left : Outcome Token (List Y)) →
      whole ≡ mapped (λ x. g.give x.0 x.1) (both p q) start → p start ≡ Ok (first, mid) → left ≡ q mid → list ≡ g.give first [] → h ≡ g.high list → h ≤ depth → ReadSoFar g depth whole list h left
  begins_behind p q first start mid list h left is e at same high low = record {
    first = first;
    items = [];
    same = same;
    high = high;
    low = low;
    read = is ∙ rw (e, at) (behind_first first (q mid));
  }

  pub no_first : (p : Reader Token F) (q : Reader Token (List Y)) (start end : List Token) → whole ≡ mapped (λ x. g.give x.0 x.1) (both p q) start → p start ≡ Err end → whole ≡ Err end
  no_first p q start end is e = is ∙ rw e refl

-- ---- `finally` behind them

on_parts_are : (x : t.TryParts × List t.TryParts) (last : Option (Place × t.Block)) → on_parts x last ≡ append_parts (on_parts x None) (to_finally last)
on_parts_are x last = ap (append_parts x.0) (join_before x.1 (to_finally last)) ∙ sym (append_append x.0 (join_parts x.1 t.no_try_parts) (to_finally last))

abbrev or_none : Option t.TryParts → t.TryParts
or_none None = t.no_try_parts
or_none (Some x) = x

abbrev a_finally : Place × t.Block → t.TryParts
a_finally x = t.try_part (y.finally_part x.0) x.1 t.no_try_parts

-- what stands behind parts that were read, or where they stop
abbrev finished : Reader Token t.TryParts → Outcome Token t.TryParts → Outcome Token t.TryParts
finished q o = and_then o (λ l mid. and_then (option class_of (this_word w.Finally) q mid) (λ last rest. Ok (append_parts l (or_none last), rest)))

by_last : (x : t.TryParts × List t.TryParts) (mid : List Token) (c : Bool) (o : Outcome Token (Place × t.Block)) →
    and_then {B = t.TryParts} (and_then {B = (t.TryParts × List t.TryParts) × Option (Place × t.Block)} (if c then and_then {B = Option (Place × t.Block)} o (λ b rest. Ok (Some b, rest)) else Ok (None, mid)) (λ b rest. Ok ((x, b), rest))) (λ z rest. Ok (on_parts z.0 z.1, rest))
    ≡ and_then {B = t.TryParts} (if c then and_then {B = Option t.TryParts} (and_then {B = t.TryParts} o (λ z rest. Ok (a_finally z, rest))) (λ b rest. Ok (Some b, rest)) else Ok (None, mid)) (λ last rest. Ok (append_parts (on_parts x None) (or_none last), rest))
by_last x mid true (Ok z) = ap (λ (l : t.TryParts). gave l z.1) (on_parts_are x (Some z.0))
by_last x mid true (Err rest) = refl
by_last x mid false o = ap (λ (l : t.TryParts). gave l mid) (on_parts_are x None)

module _ (q : Reader Token (Place × t.Block)) where
  by_parts : (o : Outcome Token (t.TryParts × List t.TryParts)) →
      and_then {B = t.TryParts} (and_then {B = (t.TryParts × List t.TryParts) × Option (Place × t.Block)} o (λ x mid. and_then (option class_of (this_word w.Finally) q mid) (λ b rest. Ok ((x, b), rest)))) (λ z rest. Ok (on_parts z.0 z.1, rest))
      ≡ finished (mapped a_finally q) (and_then {B = t.TryParts} o (λ x rest. Ok (on_parts x None, rest)))
  by_parts (Ok x) = by_last x.0 x.1 (starts class_of (this_word w.Finally) x.1) (q x.1)
  by_parts (Err rest) = refl

handled_are : (n : ℕ) (ts : List Token) → handled_at n ts ≡ finished (finally_at n) (handlers_at n ts)
handled_are n ts = by_parts (spec.finally_over (block_at n)) (some_parts_at n ts)

module _ (q : Reader Token t.TryParts) (l : t.TryParts) (mid : List Token) where
  finished_alone : starts class_of (this_word w.Finally) mid ≡ false → finished q (Ok (l, mid)) ≡ Ok (l, mid)
  finished_alone off = rw off (ap (λ (x : t.TryParts). gave x mid) (append_none l))

  finished_fails : (end : List Token) → starts class_of (this_word w.Finally) mid ≡ true → q mid ≡ Err end → finished q (Ok (l, mid)) ≡ Err end
  finished_fails end on e = rw (on, e) refl

  finished_reads : (last : t.TryParts) (end : List Token) → starts class_of (this_word w.Finally) mid ≡ true → q mid ≡ Ok (last, end) → finished q (Ok (l, mid)) ≡ Ok (append_parts l last, end)
  finished_reads last end on e = rw (on, e) refl

module _ (n : ℕ) (ts : List Token) where
  pub no_handlers : (end : List Token) → handlers_at n ts ≡ Err end → handled_at n ts ≡ Err end
  no_handlers end e = handled_are n ts ∙ ap (finished (finally_at n)) e

  module _ (l : t.TryParts) (mid : List Token) where
    pub handlers_alone : handlers_at n ts ≡ Ok (l, mid) → starts class_of (this_word w.Finally) mid ≡ false → handled_at n ts ≡ Ok (l, mid)
    handlers_alone e off = handled_are n ts ∙ ap (finished (finally_at n)) e ∙ finished_alone (finally_at n) l mid off

    pub no_finally : (end : List Token) → handlers_at n ts ≡ Ok (l, mid) → starts class_of (this_word w.Finally) mid ≡ true → finally_at n mid ≡ Err end → handled_at n ts ≡ Err end
    no_finally end e on stops = handled_are n ts ∙ ap (finished (finally_at n)) e ∙ finished_fails (finally_at n) l mid end on stops

    pub with_finally : (last : t.TryParts) (end : List Token) → handlers_at n ts ≡ Ok (l, mid) → starts class_of (this_word w.Finally) mid ≡ true → finally_at n mid ≡ Ok (last, end) → handled_at n ts ≡ Ok (append_parts l last, end)
    with_finally last end e on reads = handled_are n ts ∙ ap (finished (finally_at n)) e ∙ finished_reads (finally_at n) l mid last end on reads
