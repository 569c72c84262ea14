-- Cascades in a row, of which the last may have the half of an operator behind it.
use Rattle.std.proofs.Common.{◌≡◌, ℕ, suc, ◌+◌, ◌-◌, ◌<◌, ◌≤◌, max, map, Bool, true, false, if◌then◌else◌, length, List, [], ◌∷◌, ◌++◌, Option, Some, None, Ok, Err, refl, sym, ap, subst, ◌∙◌, arith}
use Rattle.std.proofs.lemmas.List.{map-append}
use Rattle.dart_base.specs.declared.place.Place.{Place}
use Rattle.dart_token.specs.declared.sign.Sign.TheVariants as s
use Rattle.dart_token.specs.declared.token.Token.{Token}
use Rattle.dart_tree.specs.declared.expression.Cascade.{Cascade}
use Rattle.dart_tree.specs.Depth as height
use Rattle.dart_tree.specs.Lists.{cascades_of}
use Rattle.dart_tree.specs.Tree as t
use Rattle.dart_syntax.specs.Expressions.{selectors_assign}
use Rattle.grammar_laws.specs.Codes.{is_empty, given}
use Rattle.grammar_laws.specs.Readers.{Reader, Outcome, and_then, starts, when, prepend, many_turns}
use Rattle.grammar_laws.proofs.Cuts.{gave}
use Rattle.grammar_laws.proofs.Turns.{many_over, many_stops, many_fails, many_more, many_last}
use Rattle.token_codes.specs.Codes.{class_of, these}
use Rattle.token_codes.specs.Leaves.{sign}
use Rattle.syntax_readers.specs.Combinators.{Open}
use Rattle.syntax_readers.specs.Expressions as e
use Rattle.syntax_readers.specs.Expressions.{to_cascades, cascades, cascade_over}
use Rattle.syntax_readers.specs.Statements.{stage, nodes_over}
use Rattle.parse_expr.specs.Views.{cascade_of, cascade_height, cascades_reader, section_reader, value_reader, a_value, closed_cascade, goes_on_behind, CascadesSoFar}
use Rattle.parse_nest.specs.Stages.{exprs_at}

-- ---- the trees

abbrev no_place : Option Place
no_place = None

none_either : (b : Bool) → (if b then no_place else no_place) ≡ no_place
none_either true = refl
none_either false = refl

ends_full : {A : Type 0} (items : List A) (x : A) → is_empty (items ++ x ∷ []) ≡ false
ends_full [] x = refl
ends_full (y ∷ items) x = refl

all_closed : (items : List Cascade) → to_cascades (map closed_cascade items) ≡ (cascades_of items, None)
all_closed [] = refl
all_closed (x ∷ items) = rw (all_closed items, none_either (is_empty (map closed_cascade items))) refl

last_open : (items : List Cascade) (x : Cascade) (half : Option Place) → to_cascades (map closed_cascade items ++ (cascade_of x, half) ∷ []) ≡ (cascades_of (items ++ x ∷ []), half)
last_open [] x half = refl
last_open (y ∷ items) x half = rw (last_open items x half, ends_full (map closed_cascade items) (cascade_of x, half)) refl

one_height : (x : Cascade) → height.cascades_height (cascades_of (x ∷ [])) ≡ cascade_height (cascade_of x)
unfolding height.cascades_height
one_height x = omega arith

more_height : (items : List Cascade) (x : Cascade) → height.cascades_height (cascades_of (items ++ x ∷ [])) ≡ max (height.cascades_height (cascades_of items)) (cascade_height (cascade_of x))
unfolding height.cascades_height
more_height [] x = omega arith
more_height (y ∷ items) x = let r = more_height items x in omega arith

pub only_height : (new : List Cascade) (x : Cascade) (h : ℕ) → new ≡ x ∷ [] → h ≡ cascade_height (cascade_of x) → h ≡ height.cascades_height (cascades_of new)
only_height new x h is high = high ∙ sym (ap (λ (l : List Cascade). height.cascades_height (cascades_of l)) is ∙ one_height x)

pub longer_height : (found new : List Cascade) (x : Cascade) (h high : ℕ) → h ≡ height.cascades_height (cascades_of found) → new ≡ found ++ x ∷ [] → high ≡ max h (cascade_height (cascade_of x)) → high ≡ height.cascades_height (cascades_of new)
longer_height found new x h high tall is top =
    let r = more_height found x in
    let k = ap (λ (l : List Cascade). height.cascades_height (cascades_of l)) is in
    omega arith

-- where another cascade may follow no half was read
free : (x : e.Cascade) (half : Option Place) → goes_on_behind (x, half) ≡ true → half ≡ None
free x (Some greater) may = absurd cc
free x None may = refl

closes : (x : Cascade) (half : Option Place) → goes_on_behind (cascade_of x, half) ≡ true → (cascade_of x, half) ≡ closed_cascade x
closes x half may = ap (λ (h : Option Place). (cascade_of x, h)) (free (cascade_of x) half may)

module _ (depth : ℕ) (start : List Token) where
  abbrev one : Reader Token (Open e.Cascade)
  one = (exprs_at depth).cascade

  abbrev turns : ℕ → Reader Token (List (Open e.Cascade))
  turns = many_turns class_of goes_on_behind (these s.DotDot) one

  given_by : (l : List (Open e.Cascade)) (new : Open t.Cascades) (rest : List Token) → cascades (exprs_at depth) start ≡ Ok (l, rest) → to_cascades l ≡ new → cascades_reader depth start ≡ Ok (new, rest)
  given_by l new rest r is = rw r (ap (λ (x : Open t.Cascades). gave x rest) is)

  pub no_first : (rest : List Token) → one start ≡ Err rest → cascades_reader depth start ≡ Err rest
  unfolding cascades
  no_first rest r = rw r refl

  first_alone : (x : Open e.Cascade) (mid : List Token) → one start ≡ Ok (x, mid) → goes_on_behind x ≡ false → cascades (exprs_at depth) start ≡ Ok (x ∷ [], mid)
  unfolding cascades
  first_alone x mid r off = rw (r, off) refl

  first_more : (x : Open e.Cascade) (mid : List Token) → one start ≡ Ok (x, mid) → goes_on_behind x ≡ true → cascades (exprs_at depth) start ≡ prepend (x ∷ []) (turns (length mid) mid)
  unfolding cascades
  first_more x mid r on = rw (r, on) refl

  pub only : (x : Cascade) (half : Option Place) (new : List Cascade) (mid : List Token) → one start ≡ Ok ((cascade_of x, half), mid) → goes_on_behind (cascade_of x, half) ≡ false → new ≡ x ∷ [] → cascades_reader depth start ≡ Ok ((cascades_of new, half), mid)
  only x half new mid r off is = given_by ((cascade_of x, half) ∷ []) (cascades_of new, half) mid (first_alone (cascade_of x, half) mid r off) (last_open [] x half ∙ ap (λ (l : List Cascade). (cascades_of l, half)) (sym is))

  pub begins : (x : Cascade) (half : Option Place) (new : List Cascade) (h left : ℕ) (mid : List Token) → one start ≡ Ok ((cascade_of x, half), mid) → goes_on_behind (cascade_of x, half) ≡ true → new ≡ x ∷ [] → h ≡ cascade_height (cascade_of x) → h ≤ depth → left ≡ length mid → CascadesSoFar depth start new h left mid
  begins x half new h left mid r on is high low few = record {
    high = only_height new x h is high;
    low = low;
    read = first_more (cascade_of x, half) mid r on
        ∙ ap (λ (y : Open e.Cascade). prepend (y ∷ []) (turns (length mid) mid)) (closes x half on)
        ∙ ap (λ (l : List Cascade). prepend (map closed_cascade l) (turns (length mid) mid)) (sym is)
        ∙ ap (λ (n : ℕ). prepend (map closed_cascade new) (turns n mid)) (sym few);
  }

  pub stops : (found : List Cascade) (h n at : ℕ) (rest : List Token) → CascadesSoFar depth start found h (n - at) rest → at < n → starts class_of (these s.DotDot) rest ≡ false → cascades_reader depth start ≡ Ok ((cascades_of found, None), rest)
  stops found h n at rest i below off = given_by (map closed_cascade found) (cascades_of found, None) rest (i.read ∙ many_stops class_of goes_on_behind (these s.DotDot) one n at (map closed_cascade found) rest below off) (all_closed found)

  pub over : (found : List Cascade) (h n at : ℕ) (rest : List Token) → CascadesSoFar depth start found h (n - at) rest → n ≤ at → cascades_reader depth start ≡ Ok ((cascades_of found, None), rest)
  over found h n at rest i done = given_by (map closed_cascade found) (cascades_of found, None) rest (i.read ∙ many_over class_of goes_on_behind (these s.DotDot) one n at (map closed_cascade found) rest done) (all_closed found)

  pub fails : (found : List Cascade) (h n at : ℕ) (rest end : List Token) → CascadesSoFar depth start found h (n - at) rest → at < n → starts class_of (these s.DotDot) rest ≡ true → one rest ≡ Err end → cascades_reader depth start ≡ Err end
  fails found h n at rest end i below on r =
      let whole : cascades (exprs_at depth) start ≡ Err end = i.read ∙ many_fails class_of goes_on_behind (these s.DotDot) one n at (map closed_cascade found) rest end below on r in
      rw whole refl

  pub last : (found new : List Cascade) (x : Cascade) (half : Option Place) (h n at : ℕ) (rest mid : List Token) → CascadesSoFar depth start found h (n - at) rest → at < n → starts class_of (these s.DotDot) rest ≡ true → one rest ≡ Ok ((cascade_of x, half), mid) → goes_on_behind (cascade_of x, half) ≡ false → new ≡ found ++ x ∷ [] → cascades_reader depth start ≡ Ok ((cascades_of new, half), mid)
  last found new x half h n at rest mid i below on r off is =
      given_by (map closed_cascade found ++ (cascade_of x, half) ∷ []) (cascades_of new, half) mid
      (i.read ∙ many_last class_of goes_on_behind (these s.DotDot) one n at (map closed_cascade found) rest mid (cascade_of x, half) below on r off)
      (last_open found x half ∙ ap (λ (l : List Cascade). (cascades_of l, half)) (sym is))

  pub goes_on : (found new : List Cascade) (x : Cascade) (half : Option Place) (h high n at : ℕ) (rest mid : List Token) → CascadesSoFar depth start found h (n - at) rest → at < n → starts class_of (these s.DotDot) rest ≡ true → one rest ≡ Ok ((cascade_of x, half), mid) → goes_on_behind (cascade_of x, half) ≡ true → new ≡ found ++ x ∷ [] → high ≡ max h (cascade_height (cascade_of x)) → cascade_height (cascade_of x) ≤ depth →
      CascadesSoFar depth start new high (n - (at + 1)) mid
  goes_on found new x half h high n at rest mid i below on r may is top le = record {
    high = longer_height found new x h high i.high is top;
    low = let l = i.low in omega arith;
    read = i.read
        ∙ many_more class_of goes_on_behind (these s.DotDot) one n at (map closed_cascade found) rest mid (cascade_of x, half) below on r may
        ∙ ap (λ (y : Open e.Cascade). prepend (map closed_cascade found ++ y ∷ []) (turns (n - (at + 1)) mid)) (closes x half may)
        ∙ ap (λ (l : List (Open e.Cascade)). prepend l (turns (n - (at + 1)) mid)) (sym (ap (map closed_cascade) is ∙ map-append closed_cascade found (x ∷ [])));
  }

-- ---- one cascade

module _ (depth : ℕ) (ts : List Token) where
  pub no_dots : (rest : List Token) → sign s.DotDot ts ≡ Err rest → cascade_over (exprs_at depth) ts ≡ Err rest
  unfolding cascade_over
  no_dots rest r = rw r refl

  pub no_section : (dots : Place) (mid rest : List Token) → sign s.DotDot ts ≡ Ok (dots, mid) → section_reader depth mid ≡ Err rest → cascade_over (exprs_at depth) ts ≡ Err rest
  unfolding cascade_over
  no_section dots mid rest r f = rw (r, f) refl

  with_value : Place → t.Selectors → Open t.Value → Open e.Cascade
  with_value dots selectors x = ((dots, (selectors, x.0)), x.1)

  value_is : (dots : Place) (x : Open t.Selectors) (o : Outcome Token (Option e.Assigned)) →
      and_then {B = Open e.Cascade} (and_then {B = Place × (Open t.Selectors × Option e.Assigned)} (and_then {B = Open t.Selectors × Option e.Assigned} o (λ b rest. Ok ((x, b), rest))) (λ b rest. Ok ((dots, b), rest))) (λ y rest. Ok (e.a_cascade y.0 y.1, rest))
      ≡ and_then (and_then {B = Open t.Value} o (λ b rest. Ok (a_value x.1 b, rest))) (λ v rest. Ok (with_value dots x.0 v, rest))
  unfolding with_value
  value_is dots x (Ok (None, rest)) = refl
  value_is dots x (Ok (Some value, rest)) = refl
  value_is dots x (Err rest) = refl

  cascade_step : (dots : Place) (mid end : List Token) (x : Open t.Selectors) → sign s.DotDot ts ≡ Ok (dots, mid) → section_reader depth mid ≡ Ok (x, end) → cascade_over (exprs_at depth) ts ≡ and_then (value_reader depth (selectors_assign x.0) x.1 end) (λ v rest. Ok (with_value dots x.0 v, rest))
  unfolding cascade_over
  cascade_step dots mid end x r f = rw (r, f) (value_is dots x (when (starts class_of (given (selectors_assign x.0) (e.assign_codes x.1)) end) (e.assignment x.1 (exprs_at depth).without) end))

  pub no_value : (dots : Place) (mid end rest : List Token) (x : Open t.Selectors) (may : Bool) → sign s.DotDot ts ≡ Ok (dots, mid) → section_reader depth mid ≡ Ok (x, end) → may ≡ selectors_assign x.0 → value_reader depth may x.1 end ≡ Err rest → cascade_over (exprs_at depth) ts ≡ Err rest
  no_value dots mid end rest x may r f same v =
      let v' : value_reader depth (selectors_assign x.0) x.1 end ≡ Err rest = ap (λ (b : Bool). value_reader depth b x.1 end) (sym same) ∙ v in
      cascade_step dots mid end x r f ∙ rw v' refl

  pub with_all : (dots : Place) (mid end rest : List Token) (x : Open t.Selectors) (may : Bool) (v : Open t.Value) → sign s.DotDot ts ≡ Ok (dots, mid) → section_reader depth mid ≡ Ok (x, end) → may ≡ selectors_assign x.0 → value_reader depth may x.1 end ≡ Ok (v, rest) → cascade_over (exprs_at depth) ts ≡ Ok (((dots, (x.0, v.0)), v.1), rest)
  unfolding with_value
  with_all dots mid end rest x may v r f same h =
      let h' : value_reader depth (selectors_assign x.0) x.1 end ≡ Ok (v, rest) = ap (λ (b : Bool). value_reader depth b x.1 end) (sym same) ∙ h in
      cascade_step dots mid end x r f ∙ rw h' refl

never_cascade : (ts : List Token) → (exprs_at 0).cascade ts ≡ Err ts
unfolding stage
never_cascade ts = refl

pub cascade_never : (depth : ℕ) (ts : List Token) → depth ≡ 0 → (exprs_at depth).cascade ts ≡ Err ts
cascade_never depth ts none = subst (λ (d : ℕ). (exprs_at d).cascade ts ≡ Err ts) (sym none) (never_cascade ts)

cascade_is : (n : ℕ) (ts : List Token) → (exprs_at (suc n)).cascade ts ≡ cascade_over (exprs_at n) ts
unfolding stage nodes_over
cascade_is n ts = refl

pub cascade_at : (depth : ℕ) (ts : List Token) → 0 < depth → (exprs_at depth).cascade ts ≡ cascade_over (exprs_at (depth - 1)) ts
cascade_at depth ts some =
    let d : suc (depth - 1) ≡ depth = omega arith in
    subst (λ (m : ℕ). (exprs_at m).cascade ts ≡ cascade_over (exprs_at (depth - 1)) ts) d (cascade_is (depth - 1) ts)
