-- The bounds on calls of a value, on cases that are gone on with, and on calls of `noSuchMethod` are never met.
use Rattle.std.proofs.Common.{◌≡◌, ℕ, zero, suc, List, [], ◌∷◌, ◌++◌, ◌-◌, ◌+◌, ◌≤◌, ◌<◌, drop, map, refl, ap, ◌∙◌, arith, Bool, true, false, nat_eq, nat_le, Option, Some, None}
use Rattle.std.proofs.lemmas.Bool.{leb-true}
use Rattle.dart_base.specs.declared.place.Place.{Place}
use Rattle.dart_ir.specs.declared.class.Role.{Role}
use Rattle.dart_ir.specs.declared.class.Role.TheVariants.{Method, Getter}
use Rattle.dart_ir.specs.declared.kind.ThrowKind.TheVariants.{FallThroughError}
use Rattle.dart_ir.specs.declared.value.Value.{Value}
use Rattle.dart_ir.specs.declared.value.Value.TheVariants.{Null}
use Rattle.dart_ir.specs.Object.{HeapObject, instance, text}
use Rattle.dart_store.specs.Heap.{cost}
use Rattle.core_program.specs.declared.form.Way.{Way}
use Rattle.core_program.specs.declared.form.Way.TheVariants as way
use Rattle.core_program.specs.Core.{Cores, Cases}
use Rattle.core_program.specs.Core as c
use Rattle.evaluation.specs.State.{State, answer, jumps, returns, throws, ended, Outcome, ends, Meaning, Setting, Given, World}
use Rattle.evaluation.specs.Sequence.{on_answer, on_answers, chosen}
use Rattle.evaluation.specs.Classes.{member, member_at, member_function}
use Rattle.evaluation.specs.Values.{class_of, shown_name, ending_in}
use Rattle.evaluation.specs.Objects.{added, add}
use Rattle.evaluation.specs.Arguments.{alone, nothing_given, placed, named_values}
use Rattle.evaluation.specs.Invocation.{Callable, a_code, a_closure, a_method, an_object, callable, getter_has_body, object_call, applied, apply_within, apply, member_call, member_fits, missing, is_setter, list_of, name_string, names_list, invocation_parts, invocation_object, invocation, told, missing_within, missing_from}
use Rattle.evaluation.specs.Statements.{Branch, falls, falls_to, run_cases, switch_jump, after_cases, cases_within, from_case}
use Rattle.evaluation.specs.Evaluation.{branches}
use Rattle.evaluation.specs.Checks.{Checking, OnFailure, world}
use Rattle.evaluation.specs.Laws.{CallsUnroll, SwitchesUnroll, MissingUnrolls}
use Rattle.evaluation.proofs.Takes.{IsLess, Takes, called_takes, form_takes}

-- ---- calls of a value

on_less : (n : ℕ) (go go' : Value → Meaning) → ((u : Value) (st : State) → st.left < n → go u st ≡ go' u st) → (o : Outcome) → IsLess n o
    → on_answer go o ≡ on_answer go' o
on_less n go go' h (ends (answer v) st) less = h v st less
on_less n go go' h (ends (jumps w m) st) less = refl
on_less n go go' h (ends (returns v) st) less = refl
on_less n go go' h (ends (throws v place) st) less = refl
on_less n go go' h (ends (ended e) st) less = refl

module _ (k : Checking) (s : Setting) (how : OnFailure) (depth : ℕ) where
  abbrev here : World
  here = world k s how depth

  module _ (at : Place) (g : Given) (go go' : Value → Meaning) (v : Value) (st : State)
      (h : (u : Value) (st' : State) → st'.left < st.left → go u st' ≡ go' u st') where
    getter_same : (m : ℕ) (b : Bool) → getter_has_body s.program m ≡ b →
        chosen b (λ st. on_answer go (member_call here at m v nothing_given st)) (missing here at Method s.known.call v g) st
        ≡ chosen b (λ st. on_answer go' (member_call here at m v nothing_given st)) (missing here at Method s.known.call v g) st
    getter_same m true e =
        on_less st.left go go' h (member_call here at m v nothing_given st)
        (called_takes k s how depth at (member_function (member_at s.program m)) _ nothing_given e st)
    getter_same m false e = refl

    object_same : (m o : Option ℕ) → object_call here at v g go m o st ≡ object_call here at v g go' m o st
    object_same (Some m) o = refl
    object_same None (Some m) = getter_same m (getter_has_body s.program m) refl
    object_same None None = refl

    applied_same : (x : Callable) → applied here at v g go x st ≡ applied here at v g go' x st
    applied_same (a_code i) = refl
    applied_same (a_closure i receiver) = refl
    applied_same (a_method m receiver) = refl
    applied_same an_object =
        object_same (member s.program (class_of s st.heap v) s.known.call Method)
        (member s.program (class_of s st.heap v) s.known.call Getter)

  apply_more : (m : ℕ) (at : Place) (g : Given) (v : Value) (st : State) → st.left ≤ m → apply_within (suc (suc (suc m))) here at g v st
      ≡ apply_within (suc (suc m)) here at g v st
  apply_more zero at g v st le =
      applied_same at g (apply_within (suc (suc zero)) here at g) (apply_within (suc zero) here at g) v st
      (λ u st' lt. absurd (omega (arith, lt, le))) (callable st.heap v)
  apply_more (suc m) at g v st le =
      applied_same at g (apply_within (suc (suc (suc m))) here at g) (apply_within (suc (suc m)) here at g) v st
      (λ u st' lt. apply_more m at g u st' (omega (arith, lt, le))) (callable st.heap v)

  apply_enough : (j m : ℕ) (at : Place) (g : Given) (v : Value) (st : State) → st.left ≤ m → apply_within (j + suc (suc m)) here at g v st
      ≡ apply_within (suc (suc m)) here at g v st
  apply_enough zero m at g v st le = ap (λ n. apply_within n here at g v st) (let e : zero + suc (suc m) ≡ suc (suc m) = omega arith in e)
  apply_enough (suc j) m at g v st le =
      ap (λ n. apply_within n here at g v st) (let e : suc j + suc (suc m) ≡ suc (suc (suc (j + m))) = omega arith in e)
      ∙ apply_more (j + m) at g v st (omega arith)
      ∙ ap (λ n. apply_within n here at g v st) (let e : suc (suc (j + m)) ≡ j + suc (suc m) = omega arith in e)
      ∙ apply_enough j m at g v st le

  apply_least : (n : ℕ) (at : Place) (g : Given) (v : Value) (st : State) → suc (suc st.left) ≤ n → apply_within n here at g v st
      ≡ apply here at v g st
  apply_least n at g v st le =
      ap (λ m. apply_within m here at g v st) (let e : n ≡ (n - suc (suc st.left)) + suc (suc st.left) = omega arith in e)
      ∙ apply_enough (n - suc (suc st.left)) st.left at g v st (omega arith)

  apply_unrolled : (at : Place) (v : Value) (g : Given) (st : State) → apply here at v g st
      ≡ applied here at v g (λ u. apply here at u g) (callable st.heap v) st
  apply_unrolled at v g st =
      applied_same at g (apply_within (suc st.left) here at g) (λ u. apply here at u g) v st
      (λ u st' lt. apply_least (suc st.left) at g u st' (omega (arith, lt))) (callable st.heap v)

pub calls_unroll : CallsUnroll
calls_unroll k s how depth at v g st = apply_unrolled k s how depth at v g st

-- ---- cases of a switch

-- the body of each takes a step
abbrev CaseTakes : List Branch → Type 0
CaseTakes [] = Unit {0}
CaseTakes (b ∷ bs) = Takes b.body × CaseTakes bs

-- a jump leaves fewer steps
abbrev JumpsLess : ℕ → Outcome → Type 0
JumpsLess n (ends (jumps w m) st) = st.left < n
JumpsLess n (ends (answer v) st) = Unit {0}
JumpsLess n (ends (returns v) st) = Unit {0}
JumpsLess n (ends (throws v place) st) = Unit {0}
JumpsLess n (ends (ended e) st) = Unit {0}

jumps_below : (n m : ℕ) (o : Outcome) → m < n → JumpsLess m o → JumpsLess n o
jumps_below n m (ends (jumps w i) st) lt h = omega (arith, lt, h)
jumps_below n m (ends (answer v) st) lt h = tt
jumps_below n m (ends (returns v) st) lt h = tt
jumps_below n m (ends (throws v place) st) lt h = tt
jumps_below n m (ends (ended e) st) lt h = tt

module _ (s : Setting) (at : Place) where
  throw_jumps : (n : ℕ) (b : Bool) (object : HeapObject) (st : State)
      → JumpsLess n (on_answer (λ error st. ends (throws error at) st) (added b object st))
  throw_jumps n true object st = tt
  throw_jumps n false object st = tt

  falls_jumps : (n : ℕ) (b : Bool) (next : Meaning) (st : State) → JumpsLess n (next st) → JumpsLess n (falls s at b next st)
  falls_jumps n true next st h = h
  falls_jumps n false next st h =
      throw_jumps n (nat_le (st.heap.used + cost (instance (s.known.error_class FallThroughError) [] (Null ∷ []))) st.heap.limit)
      (instance (s.known.error_class FallThroughError) [] (Null ∷ [])) st

  falls_to_jumps : (n : ℕ) (b : Bool) (bs : List Branch) (next : Meaning) (st : State) → JumpsLess n (next st)
      → JumpsLess n (falls_to s at b bs next st)
  falls_to_jumps n b [] next st h = tt
  falls_to_jumps n b (d ∷ ds) next st h = falls_jumps n b next st h

  after_jumps : (bs : List Branch) (n : ℕ) (b : Bool) → ((st : State) → JumpsLess st.left (run_cases s at bs st)) →
      (o : Outcome) → IsLess n o →
      JumpsLess n (on_answer (λ _. falls_to s at b bs (run_cases s at bs)) o)
  after_jumps bs n b rest (ends (answer v) st) h =
      falls_to_jumps n b bs (run_cases s at bs) st (jumps_below n st.left (run_cases s at bs st) h (rest st))
  after_jumps bs n b rest (ends (jumps w m) st) h = h
  after_jumps bs n b rest (ends (returns v) st) h = tt
  after_jumps bs n b rest (ends (throws v place) st) h = tt
  after_jumps bs n b rest (ends (ended e) st) h = tt

  run_jumps : (bs : List Branch) → CaseTakes bs → (st : State) → JumpsLess st.left (run_cases s at bs st)
  run_jumps [] t st = tt
  run_jumps (b ∷ bs) t st = after_jumps bs st.left b.is_empty (run_jumps bs t.1) (b.body st) (t.0 st)

  module _ (n target : ℕ) (go go' : ℕ → Meaning) (h : (i : ℕ) (st : State) → st.left < n → go i st ≡ go' i st) where
    jump_same : (b : Bool) (w : Way) (m : ℕ) (st : State) → st.left < n → switch_jump b w m go st ≡ switch_jump b w m go' st
    jump_same true way.Break m st lt = refl
    jump_same true (way.Case i) m st lt = h i st lt
    jump_same b w m st lt = refl

    after_same : (o : Outcome) → JumpsLess n o → after_cases target go o ≡ after_cases target go' o
    after_same (ends (jumps w m) st) less = jump_same (nat_eq m target) w m st less
    after_same (ends (answer v) st) less = refl
    after_same (ends (returns v) st) less = refl
    after_same (ends (throws v place) st) less = refl
    after_same (ends (ended e) st) less = refl

  drop_takes : (i : ℕ) (bs : List Branch) → CaseTakes bs → CaseTakes (drop i bs)
  drop_takes zero bs t = t
  drop_takes (suc i) [] t = tt
  drop_takes (suc i) (b ∷ bs) t = drop_takes i bs t.1

  module _ (n : ℕ) (all : List Branch) (t : CaseTakes all) where
    run_less : (i : ℕ) (st : State) → JumpsLess st.left (run_cases s at (drop i all) st)
    run_less i st = run_jumps (drop i all) (drop_takes i all t) st

    cases_more : (m i : ℕ) (st : State) → st.left ≤ m → cases_within (suc (suc m)) s at n all i st ≡ cases_within (suc m) s at n all i st
    cases_more zero i st le =
        after_same st.left n (cases_within (suc zero) s at n all) (cases_within zero s at n all)
        (λ j st' lt. absurd (omega (arith, lt, le))) (run_cases s at (drop i all) st) (run_less i st)
    cases_more (suc m) i st le =
        after_same st.left n (cases_within (suc (suc m)) s at n all) (cases_within (suc m) s at n all)
        (λ j st' lt. cases_more m j st' (omega (arith, lt, le)))
        (run_cases s at (drop i all) st) (run_less i st)

    cases_enough : (j m i : ℕ) (st : State) → st.left ≤ m → cases_within (j + suc m) s at n all i st ≡ cases_within (suc m) s at n all i st
    cases_enough zero m i st le = ap (λ x. cases_within x s at n all i st) (let e : zero + suc m ≡ suc m = omega arith in e)
    cases_enough (suc j) m i st le =
        ap (λ x. cases_within x s at n all i st) (let e : suc j + suc m ≡ suc (suc (j + m)) = omega arith in e)
        ∙ cases_more (j + m) i st (omega arith)
        ∙ ap (λ x. cases_within x s at n all i st) (let e : suc (j + m) ≡ j + suc m = omega arith in e)
        ∙ cases_enough j m i st le

    cases_least : (x i : ℕ) (st : State) → suc st.left ≤ x → cases_within x s at n all i st ≡ from_case s at n all i st
    cases_least x i st le =
        ap (λ y. cases_within y s at n all i st) (let e : x ≡ (x - suc st.left) + suc st.left = omega arith in e)
        ∙ cases_enough (x - suc st.left) st.left i st (omega arith)

    pub cases_unrolled : (i : ℕ) (st : State) → from_case s at n all i st
        ≡ after_cases n (from_case s at n all) (run_cases s at (drop i all) st)
    cases_unrolled i st =
        after_same st.left n (cases_within st.left s at n all) (from_case s at n all)
        (λ j st' lt. cases_least st.left j st' (omega (arith, lt)))
        (run_cases s at (drop i all) st) (run_less i st)

branches_take : (k : Checking) (s : Setting) (how : OnFailure) (depth : ℕ) (cases : Cases ℕ)
    → CaseTakes (branches cases (world k s how depth))
branches_take k s how depth c.no_cases = tt
branches_take k s how depth (c.case_more (c.case v body) more) = (form_takes k s how depth body, branches_take k s how depth more)

pub switches_unroll : SwitchesUnroll
switches_unroll k s how depth at n cases i st =
    cases_unrolled s at n (branches cases (world k s how depth)) (branches_take k s how depth cases) i st

-- ---- noSuchMethod

-- the units left
abbrev pub room : State → ℕ
room st = st.heap.limit - st.heap.used

abbrev pub RoomLess : ℕ → Outcome → Type 0
RoomLess n (ends (answer v) st) = room st < n
RoomLess n (ends (jumps w m) st) = Unit {0}
RoomLess n (ends (returns v) st) = Unit {0}
RoomLess n (ends (throws v place) st) = Unit {0}
RoomLess n (ends (ended e) st) = Unit {0}

-- an answer leaves fewer units
abbrev pub Falls : Meaning → Type 0
Falls d = (st : State) → RoomLess (room st) (d st)

room_below : (n m : ℕ) (o : Outcome) → m < n → RoomLess m o → RoomLess n o
room_below n m (ends (answer v) st) lt h = omega (arith, lt, h)
room_below n m (ends (jumps w i) st) lt h = tt
room_below n m (ends (returns v) st) lt h = tt
room_below n m (ends (throws v place) st) lt h = tt
room_below n m (ends (ended e) st) lt h = tt

added_falls : (object : HeapObject) → 1 ≤ cost object → (st : State) (b : Bool) → nat_le (st.heap.used + cost object) st.heap.limit ≡ b
    → RoomLess (room st) (added b object st)
added_falls object some st true e = let fits : st.heap.used + cost object ≤ st.heap.limit = leb-true
    (st.heap.used + cost object) st.heap.limit e in omega (arith, some, fits)
added_falls object some st false e = tt

add_falls : (object : HeapObject) → 1 ≤ cost object → Falls (add object)
add_falls object some st = added_falls object some st (nat_le (st.heap.used + cost object) st.heap.limit) refl

answer_falls : (go : Value → Meaning) → ((v : Value) → Falls (go v)) → (n : ℕ) (o : Outcome) → RoomLess n o → RoomLess n (on_answer go o)
answer_falls go k n (ends (answer v) st) h = room_below n (room st) (go v st) h (k v st)
answer_falls go k n (ends (jumps w i) st) h = tt
answer_falls go k n (ends (returns v) st) h = tt
answer_falls go k n (ends (throws v place) st) h = tt
answer_falls go k n (ends (ended e) st) h = tt

abbrev AllFall : List Meaning → Type 0
AllFall [] = Unit {0}
AllFall (d ∷ ds) = Falls d × AllFall ds

answers_fall : (go : List Value → Meaning) → ((vs : List Value) → Falls (go vs)) → (ds : List Meaning) → AllFall ds →
    (vs : List Value) → Falls (on_answers go ds vs)
answers_fall go k [] t vs st = k vs st
answers_fall go k (d ∷ ds) t vs st =
    answer_falls (λ v. on_answers go ds (vs ++ v ∷ [])) (λ v. answers_fall go k ds t.1 (vs ++ v ∷ [])) (room st) (d st) (t.0 st)

module _ (s : Setting) where
  text_falls : (units : List ℕ) → Falls (add (text units))
  text_falls units = add_falls (text units) (omega arith)

  list_falls : (vs : List Value) → Falls (add (list_of vs))
  list_falls vs = add_falls (list_of vs) (omega arith)

  strings_fall : (names : List ℕ) → AllFall (map (name_string s) names)
  strings_fall [] = tt
  strings_fall (x ∷ xs) = (text_falls (shown_name s.names x), strings_fall xs)

  names_fall : (g : Given) → Falls (names_list s g)
  names_fall g st = answers_fall (λ vs. add (list_of vs)) list_falls (map (name_string s) g.names) (strings_fall g.names) [] st

  pub invocation_falls : (role : Role) (name : ℕ) (g : Given) → Falls (invocation s role name g)
  invocation_falls role name g st =
      answers_fall (λ vs. add (invocation_object s role vs)) (λ vs. add_falls (invocation_object s role vs) (omega arith))
      (invocation_parts s role name g) (
        text_falls (ending_in (is_setter role) (shown_name s.names name)),
        (list_falls (placed g), (names_fall g, (list_falls (named_values g), tt))),
      ) [] st

module _ (k : Checking) (s : Setting) (how : OnFailure) (depth : ℕ) (at : Place) (c : Option ℕ) (this : Value) where
  abbrev there : World
  there = world k s how depth

  module _ (go go' : Value → Meaning) where
    told_same : (o : Option ℕ) (i : Value) (st : State) → go i st ≡ go' i st → told there at o this go i st ≡ told there at o this go' i st
    told_same None i st h = refl
    told_same (Some m) i st h = told_if (member_fits s.program m (alone i)) m i st h
      where
        told_if : (b : Bool) (m : ℕ) (i : Value) (st : State) → go i st ≡ go' i st →
            chosen b (member_call there at m this (alone i)) (go i) st ≡ chosen b (member_call there at m this (alone i)) (go' i) st
        told_if true m i st h = refl
        told_if false m i st h = h

    told_less : (o : Option ℕ) (n : ℕ) → ((i : Value) (st : State) → room st < n → go i st ≡ go' i st) → (x : Outcome) → RoomLess n x →
        on_answer (told there at o this go) x ≡ on_answer (told there at o this go') x
    told_less o n h (ends (answer v) st) less = told_same o v st (h v st less)
    told_less o n h (ends (jumps w m) st) less = refl
    told_less o n h (ends (returns v) st) less = refl
    told_less o n h (ends (throws v place) st) less = refl
    told_less o n h (ends (ended e) st) less = refl

  abbrev again : ℕ → Value → Meaning
  again n i = missing_within n there at c Method s.known.no_such_method this (alone i)

  abbrev found : Option ℕ
  found = member s.program c s.known.no_such_method Method

  missing_more : (m : ℕ) (role : Role) (name : ℕ) (g : Given) (st : State) → room st ≤ m →
      missing_within (suc (suc m)) there at c role name this g st ≡ missing_within (suc m) there at c role name this g st
  missing_more zero role name g st le =
      told_less (again (suc zero)) (again zero) found (room st) (λ i st' lt. absurd (omega (arith, lt, le))) (invocation s role name g st)
      (invocation_falls s role name g st)
  missing_more (suc m) role name g st le =
      told_less (again (suc (suc m))) (again (suc m)) found (room st)
      (λ i st' lt. missing_more m Method s.known.no_such_method (alone i) st' (omega (arith, lt, le)))
      (invocation s role name g st) (invocation_falls s role name g st)

  missing_enough : (j m : ℕ) (role : Role) (name : ℕ) (g : Given) (st : State) → room st ≤ m →
      missing_within (j + suc m) there at c role name this g st ≡ missing_within (suc m) there at c role name this g st
  missing_enough zero m role name g st le = ap (λ x. missing_within x there at c role name this g st)
      (let e : zero + suc m ≡ suc m = omega arith in e)
  missing_enough (suc j) m role name g st le =
      ap (λ x. missing_within x there at c role name this g st) (let e : suc j + suc m ≡ suc (suc (j + m)) = omega arith in e)
      ∙ missing_more (j + m) role name g st (omega arith)
      ∙ ap (λ x. missing_within x there at c role name this g st) (let e : suc (j + m) ≡ j + suc m = omega arith in e)
      ∙ missing_enough j m role name g st le

  missing_least : (x : ℕ) (role : Role) (name : ℕ) (g : Given) (st : State) → suc (room st) ≤ x →
      missing_within x there at c role name this g st ≡ missing_from there at c role name this g st
  missing_least x role name g st le =
      ap (λ y. missing_within y there at c role name this g st) (let e : x ≡ (x - suc (room st)) + suc (room st) = omega arith in e)
      ∙ missing_enough (x - suc (room st)) (room st) role name g st (omega arith)

  missing_unrolled : (role : Role) (name : ℕ) (g : Given) (st : State) → missing_from there at c role name this g st
      ≡ on_answer (told there at found this (λ i. missing_from there at c Method s.known.no_such_method this (alone i)))
      (invocation s role name g st)
  missing_unrolled role name g st =
      told_less (again (room st)) (λ i. missing_from there at c Method s.known.no_such_method this (alone i)) found (room st)
      (λ i st' lt. missing_least (room st) Method s.known.no_such_method (alone i) st' (omega (arith, lt))) (invocation s role name g st)
      (invocation_falls s role name g st)

pub missing_unrolls : MissingUnrolls
missing_unrolls k s how depth at c role name this g st = missing_unrolled k s how depth at c this role name g st
