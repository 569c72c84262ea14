-- How `main` is called.
use Rattle.std.proofs.Common.{◌≡◌, ℕ, ◌+◌, List, [], ◌∷◌, ◌++◌, map, nat_lt, not, Bool, true, false, Option, Some, None, sym, ap, ◌∙◌, arith}
use Rattle.std.proofs.lemmas.Bool.{lt-ltb}
use Rattle.dart_ir.specs.declared.kind.Shape.{Shape}
use Rattle.dart_ir.specs.declared.kind.Shape.TheVariants as shape
use Rattle.dart_ir.specs.declared.number.ClassId.{ClassId}
use Rattle.dart_ir.specs.declared.types.TypeRef.{TypeRef}
use Rattle.dart_ir.specs.declared.types.TypeRef as type
use Rattle.dart_ir.specs.Ty.{ty, class, nil, of_list}
use Rattle.std.specs.Global.{Vec}
use Rattle.dart_ir.proofs.View.{ty_class}
use Rattle.core_program.specs.declared.program.Parameter.{Parameter}
use Rattle.core_program.specs.ProgramView as p
use Rattle.dart_ir.specs.declared.object.Object.{Object}
use Rattle.dart_ir.specs.declared.value.Value.{Value}
use Rattle.dart_ir.specs.Object.{heap_object}
use Rattle.evaluation.specs.State.{Meaning, World, ended, out_of_objects, ends}
use Rattle.evaluation.specs.Sequence.{on_answer, entering}
use Rattle.evaluation.specs.Arguments.{is_named, one_if, positional_count, alone}
use Rattle.evaluation.specs.Classes.{function_at}
use Rattle.evaluation.specs.Objects.{add}
use Rattle.evaluation.specs.Invocation.{static_call}
use Rattle.evaluation.specs.Turn.{takes_argument, start_place, no_words, call_main, started, main}
use Rattle.machine_frame.specs.declared.around.Around.{Around}
use Rattle.machine_frame.specs.declared.run.Control.TheVariants.{Leave}
use Rattle.machine_frame.specs.declared.run.Exit.TheVariants as exit
use Rattle.machine_frame.specs.declared.run.Limit.TheVariants as limit
use Rattle.machine_frame.specs.declared.run.Run.{Run}
use Rattle.machine_frame.specs.Outside.{setting_of, world_in}
use Rattle.machine_frame.specs.Frames.{seen, below_of, resume, mute, going, does, value_or_full, IsBeside}
use Rattle.machine_frame.proofs.Beside.{beside_does}

some_below : (n : ℕ) → nat_lt 0 (1 + n) ≡ true
some_below n = lt-ltb 0 (1 + n) (omega arith)

by_shape : (s : Shape) (n : ℕ) → one_if (not (is_named s)) ≡ 1 → nat_lt 0 (one_if (not (is_named s)) + n) ≡ true
by_shape s n e = ap (λ k. nat_lt 0 (k + n)) e ∙ some_below n

pub none_by_place : (qs : List Parameter) → qs ≡ [] → nat_lt 0 (positional_count (map p.parameter qs)) ≡ false
none_by_place qs e = ap (λ l. nat_lt 0 (positional_count (map p.parameter l))) e

pub first_by_place : (qs rest : List Parameter) (q : Parameter) → qs ≡ q ∷ rest → one_if (not (is_named q.shape)) ≡ 1
    → nat_lt 0 (positional_count (map p.parameter qs)) ≡ true
first_by_place qs rest q e s =
    ap (λ l. nat_lt 0 (positional_count (map p.parameter l))) e ∙ by_shape q.shape (positional_count (map p.parameter rest)) s

pub later_by_place : (qs rest : List Parameter) (q : Parameter) → qs ≡ q ∷ rest → q.shape ≡ shape.Named
    → nat_lt 0 (positional_count (map p.parameter qs)) ≡ nat_lt 0 (positional_count (map p.parameter rest))
later_by_place qs rest q e s =
    ap (λ l. nat_lt 0 (positional_count (map p.parameter l))) e
    ∙ ap (λ (x : Shape). nat_lt 0 (one_if (not (is_named x)) + positional_count (map p.parameter rest))) s
    ∙ ap (nat_lt 0) (let f : 0 + positional_count (map p.parameter rest) ≡ positional_count (map p.parameter rest) = omega arith in f)

-- the type argument of a list of strings
pub words_type : (us : List TypeRef) (c : ClassId) (none : Vec TypeRef) → us ≡ [] → none.items ≡ []
    → map ty (us ++ type.Class c none ∷ []) ≡ class c.0 nil ∷ []
words_type us c none e n =
    ap (λ l. map ty (l ++ type.Class c none ∷ [])) e
    ∙ ap (λ t. t ∷ []) (ty_class c none ∙ ap (λ (ts : List TypeRef). class c.0 (of_list (map ty ts))) n)

-- `main` is called with an empty list of strings, where this is made
module _ (a : Around) (r r' : Run) (made : Option Value) (object : Object) (same : heap_object object ≡ no_words (setting_of a)) (added : add (heap_object object) (seen r) ≡ ends (value_or_full made) (seen r')) (beside : IsBeside r r') where
  abbrev called : Value → World → Meaning
  called words w = entering (static_call w (start_place w.setting) a.program.now.main.0 (alone words))

  with_words : mute (resume a (below_of r) r.frames.items (on_answer (λ words. called words (world_in a r.depth)) (ends (value_or_full made) (seen r'))))
      ≡ does a r (λ w. call_main true w a.program.now.main.0)
  with_words = ap (λ o. mute (resume a (below_of r) r.frames.items (on_answer (λ words. called words (world_in a r.depth)) o))) (sym added ∙ ap (λ h. add h (seen r)) same)

  pub none_made : made ≡ None → going a r' (Leave (exit.Over limit.OutOfObjects)) ≡ does a r (λ w. call_main true w a.program.now.main.0)
  none_made none =
      beside_does a r r' beside (λ w st. ends (ended out_of_objects) st)
      ∙ ap (λ (m : Option Value). mute (resume a (below_of r) r.frames.items (on_answer (λ words. called words (world_in a r.depth)) (ends (value_or_full m) (seen r'))))) (sym none)
      ∙ with_words

  pub one_made : (words : Value) → made ≡ Some words → does a r' (called words) ≡ does a r (λ w. call_main true w a.program.now.main.0)
  one_made words some =
      beside_does a r r' beside (called words)
      ∙ ap (λ (m : Option Value). mute (resume a (below_of r) r.frames.items (on_answer (λ words. called words (world_in a r.depth)) (ends (value_or_full m) (seen r'))))) (sym some)
      ∙ with_words

pub call_chosen : (a : Around) (r : Run) (b : Bool) → b ≡ takes_argument (function_at (p.program a.program.now) a.program.now.main.0)
    → does a r (λ w. call_main b w a.program.now.main.0) ≡ does a r (λ w. started w (main a.program.now.main.0))
call_chosen a r b e = ap (λ b. does a r (λ w. call_main b w a.program.now.main.0)) e
