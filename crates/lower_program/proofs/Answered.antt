-- What a walk over a program is answered by.
use Rattle.std.proofs.Common.{◌≡◌, ◌∙◌, ℕ, sym, ap, Err}
use Rattle.std.specs.Global.{Vec}
use Rattle.dart_ir.specs.declared.class.Classes.{Classes}
use Rattle.dart_ir.specs.declared.number.DeclId.{DeclId}
use Rattle.std.proofs.Common.{List, map}
use Rattle.core_program.specs.Program as c
use Rattle.translation.specs.Program as p
use Rattle.translation.specs.Surroundings.{Text}
use Rattle.translation.specs.Walk as w
use Rattle.lower_leaf.specs.Around.{Around}
use Rattle.lower_leaf.specs.declared.fault.LowerFault.{LowerFault}
use Rattle.lower_leaf.specs.declared.fault.LowerFault.TheVariants as f
use Rattle.lower_leaf.specs.Gives.{Gives}
use Rattle.lower_body.specs.Views.{nothing}
use Rattle.lower_mixin.specs.Views.{class_info}
use Rattle.lower_program.specs.Views.{IsReason, answer_of, first_state, given, program_of, source_unit, walk_of}
use Rattle.lower_program.specs.declared.declaration.SourceUnit.{SourceUnit}

-- the walk over the program from its start
abbrev pub whole : Around → List SourceUnit → Classes → w.State → w.Went ℕ
whole a units classes st = walk_of (map (source_unit a) units) (map (class_info a) classes.classes.items) st

-- where it ends
pub answer_went : (a : Around) (units : List SourceUnit) (classes : Classes) (files : Vec Text) (main : DeclId) (st0 st : w.State) →
    st0 ≡ first_state a → whole a units classes st0 ≡ w.went 0 st →
    p.built st.has_constants (program_of a classes files main st) ≡ answer_of (given a units classes files main)
answer_went a units classes files main st0 st begun ends =
    sym (ap (λ (z : w.State). p.answer (given a units classes files main) (whole a units classes z)) (sym begun)
    ∙ ap (λ (r : w.Went ℕ). p.answer (given a units classes files main) r) ends)

refused_as : (x : p.Given) (fault : LowerFault) (st : w.State) (walk : w.Went ℕ) (why : w.Reason) →
    Gives nothing (Err fault) st walk → IsReason fault why → p.rejected why ≡ p.answer x walk
refused_as x (f.LeftOut place feature) st walk why stopped is = ap p.rejected is ∙ sym (ap (p.answer x) stopped)
refused_as x (f.NotConstant place) st walk why stopped is = ap p.rejected is ∙ sym (ap (p.answer x) stopped)
refused_as x (f.BadLabel place) st walk why stopped is = ap p.rejected is ∙ sym (ap (p.answer x) stopped)
refused_as x (f.BadConstructor place) st walk why stopped is = ap p.rejected is ∙ sym (ap (p.answer x) stopped)
refused_as x (f.BadSwitch place) st walk why stopped is = ap p.rejected is ∙ sym (ap (p.answer x) stopped)
refused_as x (f.BadWord place) st walk why stopped is = ap p.rejected is ∙ sym (ap (p.answer x) stopped)
refused_as x (f.TooLarge place) st walk why stopped is = ap p.rejected is ∙ sym (ap (p.answer x) stopped)
refused_as x f.Memory st walk why stopped is = absurd is

-- where a reason stops it
pub answer_refused : (a : Around) (units : List SourceUnit) (classes : Classes) (files : Vec Text) (main : DeclId) (fault : LowerFault) (st0 st : w.State) (why : w.Reason) →
    st0 ≡ first_state a → Gives nothing (Err fault) st (whole a units classes st0) → IsReason fault why →
    p.rejected why ≡ answer_of (given a units classes files main)
answer_refused a units classes files main fault st0 st why begun stopped is =
    refused_as (given a units classes files main) fault st (whole a units classes st0) why stopped is
    ∙ ap (λ (z : w.State). p.answer (given a units classes files main) (whole a units classes z)) begun

-- ---- programs

-- a program with these functions and variables
abbrev tabled : Around → Classes → Vec Text → DeclId → w.State → List (c.Function Text) → List (c.Static Text) → c.Program Text
tabled a classes files main st functions statics = record (program_of a classes files main st) { functions = functions; statics = statics }

pub program_same : (a : Around) (classes : Classes) (files : Vec Text) (main : DeclId) (st : w.State) (functions : List (c.Function Text)) (statics : List (c.Static Text)) →
    functions ≡ p.table p.no_function st.functions st.declarations → statics ≡ p.table p.no_static st.statics st.declarations →
    tabled a classes files main st functions statics ≡ program_of a classes files main st
program_same a classes files main st functions statics ef es =
    ap (λ (l : List (c.Function Text)). tabled a classes files main st l statics) ef
    ∙ ap (λ (l : List (c.Static Text)). tabled a classes files main st (p.table p.no_function st.functions st.declarations) l) es
