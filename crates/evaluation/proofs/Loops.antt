-- A loop's bound on turns is never met, since each turn takes a step.
use Rattle.std.proofs.Common.{◌≡◌, ℕ, zero, suc, List, ◌+◌, ◌-◌, ◌≤◌, refl, sym, ap, ◌∙◌, arith, Bool, true, false, nat_lt, le_trans}
use Rattle.dart_ir.specs.declared.ending.Line.TheVariants.{Printed}
use Rattle.dart_ir.specs.declared.native.Answer.{Answer}
use Rattle.dart_ir.specs.declared.value.Value.{Value}
use Rattle.dart_store.specs.Heap.{with_field_at, with_static}
use Rattle.core_program.specs.Core.{Core, Part}
use Rattle.core_program.specs.Core as c
use Rattle.evaluation.specs.State.{State, now, Note, printed, sent, spawned, told, with_event, with_line, out_of_steps, Completion, answer, ended, Outcome, ends, Meaning, Setting, NativeEnd, gives, full}
use Rattle.evaluation.specs.Sequence.{on_answer, taken, entering, branch}
use Rattle.evaluation.specs.Statements.{done, body_of_turn, turn, turns, loop}
use Rattle.evaluation.specs.Externals.{noted, native_left}
use Rattle.evaluation.specs.Evaluation.{part}
use Rattle.evaluation.specs.Checks.{Checking, OnFailure, world}
use Rattle.evaluation.specs.Laws.{left_of, LoopsUnroll, StepsNeverComeBack}
use Rattle.evaluation.proofs.Logic.{Logic, answers}
use Rattle.evaluation.proofs.Chapters.{turn_rest_rel, turns_rel}
use Rattle.evaluation.proofs.Kept.{Kept, kept_logic, kept_ends, kept}

-- two that do the same where at most n steps are left
pub record SameTo (n : ℕ) (d e : Meaning) : Type 0 where
  pub one : Kept d
  pub other : Kept e
  pub same : (st : State) → st.left ≤ n → d st ≡ e st

on : (n : ℕ) (f f' : Outcome → Outcome) → ((c : Completion) → SameTo n (λ st. f (ends c st)) (λ st. f' (ends c st))) →
    (o : Outcome) → left_of o ≤ n → f o ≡ f' o
on n f f' k (ends c st) le = (k c).same st le

native_same : (n : ℕ) (go go' : Answer → Meaning) → ((x : Answer) → SameTo n (go x) (go' x)) → (x : NativeEnd) (st : State) → st.left ≤ n
    → native_left go x st ≡ native_left go' x st
native_same n go go' q (gives result h) st le = (q result).same (record st { heap = h }) le
native_same n go go' q full st le = refl

note_same : (n : ℕ) (note : Note) (d d' : Meaning) → SameTo n d d' → (st : State) → st.left ≤ n → noted note d st ≡ noted note d' st
note_same n (printed units) d d' q st le = q.same (with_event (with_line st (Printed units)) (told (printed units))) le
note_same n (sent i port v x) d d' q st le = q.same (with_event st (told (sent i port v x))) le
note_same n (spawned f v x) d d' q st le = q.same (with_event st (told (spawned f v x))) le

pub same_logic : (n : ℕ) → Logic (SameTo n)
same_logic n = record {
  stays = λ c. record { one = kept_ends c; other = kept_ends c; same = λ st le. refl };
  bind = λ f f' c c' k d d' q. record {
    one = kept_logic.bind f f c c (λ c. (k c).one) d d q.one;
    other = kept_logic.bind f' f' c' c' (λ c. (k c).other) d' d' q.other;
    same = λ st le. ap f (q.same st le) ∙ on n f f' k (d' st) (le_trans (q.other.within st) le);
  };
  reads = λ g g' q. record {
    one = kept_logic.reads g g (λ x. (q x).one);
    other = kept_logic.reads g' g' (λ x. (q x).other);
    same = λ st le. (q (now st)).same st le;
  };
  lefts = λ m d d' q. record {
    one = kept_logic.lefts m d d q.one;
    other = kept_logic.lefts m d' d' q.other;
    same = λ st le. q.same (record st { left = st.left - m }) (omega arith);
  };
  spent = record { one = kept_logic.spent; other = kept_logic.spent; same = λ st le. refl };
  activations = λ a d d' q. record {
    one = kept_logic.activations a d d q.one;
    other = kept_logic.activations a d' d' q.other;
    same = λ st le. q.same (record st { activation = a }) le;
  };
  adds = λ object. record { one = kept_logic.adds object; other = kept_logic.adds object; same = λ st le. refl };
  fields = λ r i v d d' q. record {
    one = kept_logic.fields r i v d d q.one;
    other = kept_logic.fields r i v d' d' q.other;
    same = λ st le. q.same (record st { heap = with_field_at st.heap r i v }) le;
  };
  statics = λ i x d d' q. record {
    one = kept_logic.statics i x d d q.one;
    other = kept_logic.statics i x d' d' q.other;
    same = λ st le. q.same (record st { heap = with_static st.heap i x }) le;
  };
  natives = λ ns id ts vs go go' q. record {
    one = kept_logic.natives ns id ts vs go go (λ x. (q x).one);
    other = kept_logic.natives ns id ts vs go' go' (λ x. (q x).other);
    same = λ st le. native_same n go go' q (ns.call id ts vs st.heap) st le;
  };
  ports = λ ps d d' q. record {
    one = kept_logic.ports ps d d q.one;
    other = kept_logic.ports ps d' d' q.other;
    same = λ st le. q.same (record st { ports = ps }) le;
  };
  notes = λ note d d' q. record {
    one = kept_logic.notes note d d q.one;
    other = kept_logic.notes note d' d' q.other;
    same = note_same n note d d' q;
  };
}

module _ (s : Setting) (l : ℕ) (xs : List ℕ) (c u b : Meaning) (kc : Kept c) (ku : Kept u) (kb : Kept b) where
  pub self : (n : ℕ) (d : Meaning) → Kept d → SameTo n d d
  self n d k = record { one = k; other = k; same = λ st le. refl }

  pub inner : (n : ℕ) (next next' : Meaning) → SameTo n next next' →
      SameTo n (λ st. on_answer (λ v. branch v (body_of_turn s l xs u b next) done) (c st))
      (λ st. on_answer (λ v. branch v (body_of_turn s l xs u b next') done) (c st))
  inner n next next' q =
      answers (same_logic n) (λ v. branch v (body_of_turn s l xs u b next) done) (λ v. branch v (body_of_turn s l xs u b next') done)
      (turn_rest_rel (same_logic n) s l xs c c u u b b (self n c kc) (self n u ku) (self n b kb) next next' q) c c (self n c kc)

  same_entered : (n : ℕ) (d e : Meaning) → SameTo n d e → (st : State) → st.left ≤ suc n → (x : Bool) → taken x 1 d st ≡ taken x 1 e st
  same_entered n d e q st le true = refl
  same_entered n d e q st le false = q.same (record st { left = st.left - 1 }) (omega arith)

  same_turn : (n : ℕ) (next next' : Meaning) → SameTo n next next' → (st : State) → st.left ≤ suc n → turn s l xs c u b next st
      ≡ turn s l xs c u b next' st
  same_turn n next next' q st le = same_entered n _ _ (inner n next next' q) st le (nat_lt st.left 1)

  none_left : (d : Meaning) (st : State) → st.left ≤ 0 → entering d st ≡ ends (ended out_of_steps) st
  none_left d st le =
      let e : st.left ≡ 0 = omega arith in
      ap (λ n. taken (nat_lt n 1) 1 d st) e ∙ ap (λ n. ends (ended out_of_steps) (record st { left = n })) (sym e)

  turns_kept : (n : ℕ) → Kept (turns n s l xs c u b)
  turns_kept n = turns_rel kept_logic s l xs c c u u b b kc ku kb n

  one_more : (n : ℕ) (st : State) → st.left ≤ n → turns (suc n) s l xs c u b st ≡ turns n s l xs c u b st
  one_more zero st le = none_left _ st le
  one_more (suc n) st le = same_turn n _ _ (record { one = turns_kept (suc n); other = turns_kept n; same = one_more n }) st le

  enough : (k n : ℕ) (st : State) → st.left ≤ n → turns (k + n) s l xs c u b st ≡ turns n s l xs c u b st
  enough zero n st le = ap (λ m. turns m s l xs c u b st) (let e : zero + n ≡ n = omega arith in e)
  enough (suc k) n st le =
      ap (λ m. turns m s l xs c u b st) (let e : suc k + n ≡ suc (k + n) = omega arith in e) ∙ one_more (k + n) st (omega arith)
      ∙ enough k n st le

  at_least : (n : ℕ) (st : State) → st.left ≤ n → turns n s l xs c u b st ≡ loop s l xs c u b st
  at_least n st le =
      ap (λ m. turns m s l xs c u b st) (let e : n ≡ (n - st.left) + st.left = omega arith in e)
      ∙ enough (n - st.left) st.left st (omega arith)

  pub loop_kept : Kept (loop s l xs c u b)
  loop_kept = kept_logic.reads (λ x. turns x.left s l xs c u b) (λ x. turns x.left s l xs c u b) (λ x. turns_kept x.left)

  unrolled_at : (n : ℕ) (st : State) → st.left ≡ n → turns n s l xs c u b st ≡ turn s l xs c u b (loop s l xs c u b) st
  unrolled_at zero st e = sym (none_left _ st (omega arith))
  unrolled_at (suc n) st e = same_turn n _ _ (record { one = turns_kept n; other = loop_kept; same = at_least n }) st (omega arith)

  pub unrolled : (st : State) → loop s l xs c u b st ≡ turn s l xs c u b (loop s l xs c u b) st
  unrolled st = unrolled_at st.left st refl

pub part_kept : (k : Checking) (s : Setting) (how : OnFailure) (depth : ℕ) (form : Part ℕ) (v : Value)
    → Kept (part form (world k s how depth) v)
part_kept k s how depth c.missing v = kept_ends (answer v)
part_kept k s how depth (c.given form) v = kept k s how depth form

pub loops_unroll : LoopsUnroll
loops_unroll k s how depth n xs condition update body v u w st =
    unrolled s n xs (part condition (world k s how depth) v) (part update (world k s how depth) u) (part body (world k s how depth) w)
    (part_kept k s how depth condition v) (part_kept k s how depth update u) (part_kept k s how depth body w) st

pub steps_never_come_back : StepsNeverComeBack
steps_never_come_back k s how depth form st = (kept k s how depth form).within st
