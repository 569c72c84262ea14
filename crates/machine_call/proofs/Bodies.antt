-- Functions that answer null as they are called, and the type arguments of a list of dynamic items.
use Rattle.std.specs.Global.{Box}
use Rattle.std.proofs.Common.{◌≡◌, ◌≢◌, ℕ, true, false, not, ◌&&◌, List, [], ◌∷◌, ◌++◌, length, map, Option, Some, None, refl, sym, ap, ◌∙◌, arith}
use Rattle.dart_ir.specs.declared.types.TypeRef.{TypeRef}
use Rattle.dart_ir.specs.declared.types.TypeRef as type
use Rattle.dart_ir.specs.Ty.{ty, dynamic}
use Rattle.dart_ir.proofs.View.{ty_dynamic}
use Rattle.core_program.specs.declared.form.Core.{Core}
use Rattle.core_program.specs.declared.form.Part as part
use Rattle.core_program.specs.declared.program.Parameter.{Parameter}
use Rattle.core_program.specs.Core.{Part}
use Rattle.core_program.specs.Core as c
use Rattle.core_program.specs.Program as program
use Rattle.core_program.specs.ProgramView as p
use Rattle.core_program.specs.View as v
use Rattle.core_program.proofs.Views.{view_given}
use Rattle.evaluation.specs.State.{State, answer, ends, World, Callee, Given}
use Rattle.dart_ir.specs.declared.value.Value.TheVariants.{Null}
use Rattle.evaluation.specs.Parts.{is_given, is_block_part}
use Rattle.evaluation.specs.Evaluation.{eval, part as part_of, binding, activation, returned, body_of}
use Rattle.machine_frame.specs.declared.around.Around.{Around}
use Rattle.machine_frame.specs.declared.run.Run.{Run}
use Rattle.machine_frame.specs.Frames.{does}
use Rattle.machine_call.specs.Bodies.{is_nil, answers_null}

pub no_parameters : (qs : List Parameter) → length qs ≡ 0 → is_nil (map p.parameter qs) ≡ true
no_parameters [] e = refl
no_parameters (q ∷ qs) e = cc

pub some_parameters : (qs : List Parameter) → length qs ≢ 0 → is_nil (map p.parameter qs) ≡ false
some_parameters [] h = absurd (h refl)
some_parameters (q ∷ qs) h = refl

pub nothing_entered : (body : Part ℕ) (qs : List Parameter) → body ≡ c.missing → length qs ≡ 0 → (not (is_given body) && is_nil (map p.parameter qs)) ≡ true
nothing_entered body qs e h = ap (λ b. not (is_given b) && is_nil (map p.parameter qs)) e ∙ no_parameters qs h

pub none_there : (qs : List Parameter) → length qs ≡ 0 → [] ≡ qs
none_there [] e = refl
none_there (q ∷ qs) e = absurd (omega (arith, e))

-- the form of a body without parameters
pub body_goes : (a : Around) (r : Run) (g : Given) (qs : List Parameter) (body : part.Part) (x : Box Core) (core : Core) → length qs ≡ 0 → body ≡ part.Given x → core ≡ x.value
    → does a r (eval (v.core core)) ≡ does a r (λ w. binding w g (map p.parameter qs) 0 (part_of (v.part body) w Null))
body_goes a r g qs body x core e is h =
    ap (λ (o : Core). does a r (eval (v.core o))) h
    ∙ ap (λ (y : Part ℕ). does a r (λ w. part_of y w Null)) (sym (ap v.part is ∙ view_given x))
    ∙ ap (λ (l : List Parameter). does a r (λ w. binding w g (map p.parameter l) 0 (part_of (v.part body) w Null))) (none_there qs e)

bound_none : (body : Part ℕ) (qs : List (program.Parameter ℕ)) (f vars : ℕ) (w : World) (callee : Callee) (g : Given) (st : State)
    → (not (is_given body) && is_nil qs) ≡ true
    → returned (is_block_part body) st.activation (binding w g qs 0 (part_of body w Null) (record st { activation = activation f vars callee }))
    ≡ ends (answer Null) st
bound_none c.missing [] f vars w callee g st e = refl
bound_none c.missing (q ∷ qs) f vars w callee g st e = cc
bound_none (c.given x) qs f vars w callee g st e = cc

pub null_of_body : (o : Option (program.Function ℕ)) (f : ℕ) (w : World) (callee : Callee) (g : Given) (st : State) → answers_null o ≡ true
    → body_of o f w callee g st ≡ ends (answer Null) st
null_of_body None f w callee g st e = refl
null_of_body (Some one) f w callee g st e = bound_none one.body one.parameters f one.vars w callee g st e

pub dynamic_alone : (us : List TypeRef) → us ≡ [] → map ty (us ++ type.Dynamic ∷ []) ≡ dynamic ∷ []
dynamic_alone us e = ap (λ l. map ty (l ++ type.Dynamic ∷ [])) e ∙ ap (λ t. t ∷ []) ty_dynamic
