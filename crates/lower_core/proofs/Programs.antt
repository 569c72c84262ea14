-- How a program as a machine takes it is seen.
use Rattle.std.proofs.Common.{◌≡◌, ◌∙◌, List, [], ◌∷◌, map, Option, None, Some, refl, sym, ap}
use Rattle.std.specs.Global.{Vec}
use Rattle.dart_ir.specs.Object.{HeapObject, heap_object}
use Rattle.dart_ir.specs.declared.class.ClassInfo.{ClassInfo}
use Rattle.dart_ir.specs.declared.object.Object.{Object}
use Rattle.dart_ir.specs.declared.types.TypeRef.{TypeRef}
use Rattle.core_program.specs.Named as with_names
use Rattle.core_program.specs.Program as c
use Rattle.core_program.specs.ProgramView as pv
use Rattle.core_program.specs.declared.program.CoreProgram.{CoreProgram}
use Rattle.core_program.specs.declared.program.Function.{Function}
use Rattle.core_program.specs.declared.program.Site.{Site}
use Rattle.core_program.specs.declared.program.StaticVar.{StaticVar}
use Rattle.translation.specs.Surroundings.{Text, Ty}
use Rattle.lower_leaf.specs.Around.{Around, ty, option_type}
use Rattle.lower_leaf.specs.Seen as seen
use Rattle.lower_program.specs.Views as views
use Rattle.lower_program.specs.declared.program.Program.{Program}
use Rattle.lower_core.specs.Runnable as runnable
use Rattle.lower_core.proofs.Slots.{seen_function, seen_static}

-- a list made into another one by two steps, as by one
twice : {X Y Z : Type 0} (g : Y → Z) (f : X → Y) (h : X → Z) → ((x : X) → g (f x) ≡ h x) → (xs : List X) → map g (map f xs) ≡ map h xs
twice g f h each [] = refl
twice {Z = Z} g f h each (x ∷ xs) = ap (λ (z : Z). z ∷ map g (map f xs)) (each x) ∙ ap (λ (l : List Z). h x ∷ l) (twice g f h each xs)

seen_type : (a : Around) (of : Option TypeRef) → with_names.ty_option (pv.text_at a.texts) (pv.ty_option of) ≡ option_type a of
unfolding ty
seen_type a None = refl
seen_type a (Some of) = refl

seen_site : (a : Around) (x : Site) → with_names.site (pv.text_at a.texts) (pv.site x) ≡ seen.site a x
seen_site a x = ap (λ (of : Option Ty). record (seen.site a x) { required = of }) (seen_type a x.required)

-- a program with these tables
abbrev pub with_tables : List Text → Program → Vec Function → Vec StaticVar → Vec Object → CoreProgram
with_tables names lowered functions statics constants = record {
  names = names;
  units = lowered.units;
  classes = lowered.classes;
  functions = functions;
  statics = statics;
  sites = lowered.sites;
  literals = lowered.literals;
  constants = constants;
  main = lowered.main;
}

-- a program that is seen with these lists
abbrev listed : Around → Program → List (c.Class Text) → List (c.Member Text) → List (c.Function Text) → List (c.Static Text) →
    List (c.Site Text) → List HeapObject → c.Program Text
listed a lowered classes members functions statics sites constants = record (views.program a lowered) {
  classes = classes;
  members = members;
  functions = functions;
  statics = statics;
  sites = sites;
  constants = constants;
}

same_lists : (a : Around) (lowered : Program) (classes classes2 : List (c.Class Text)) (members members2 : List (c.Member Text))
    (functions functions2 : List (c.Function Text)) (statics statics2 : List (c.Static Text)) (sites sites2 : List (c.Site Text))
    (constants constants2 : List HeapObject) →
    classes ≡ classes2 → members ≡ members2 → functions ≡ functions2 → statics ≡ statics2 → sites ≡ sites2 → constants ≡ constants2 →
    listed a lowered classes members functions statics sites constants
    ≡ listed a lowered classes2 members2 functions2 statics2 sites2 constants2
same_lists a lowered classes classes2 members members2 functions functions2 statics statics2 sites sites2 constants constants2
    same_classes same_members same_functions same_statics same_sites same_constants = cc

pub seen_program : (a : Around) (names : List Text) (lowered : Program) (functions : Vec Function) (statics : Vec StaticVar)
    (constants : Vec Object) →
    a.texts ≡ names → map (seen.function a) functions.items ≡ map runnable.function (map (views.function_slot a) lowered.functions.items) →
    map (seen.static a) statics.items ≡ map (views.static_slot a) lowered.statics.items → constants.items ≡ [] →
    pv.text_program (with_tables names lowered functions statics constants) ≡ runnable.program (views.program a lowered)
seen_program a names lowered functions statics constants same made_functions made_statics none =
    let with = pv.text_at a.texts in
    let made = pv.program (with_tables names lowered functions statics constants) in
    ap (λ (texts : List Text). with_names.program (pv.text_at texts) made) (sym same)
    ∙ same_lists a lowered _ _ _ _ _ _ _ _ _ _ _ _
    (twice (with_names.class with) pv.class (λ (x : ClassInfo). with_names.class with (pv.class x)) (λ x. refl) lowered.classes.classes.items)
    (twice (with_names.member with) pv.member (views.member_info a) (λ x. refl) lowered.classes.members.items)
    (twice (with_names.function with) pv.function (seen.function a) (λ x. sym (seen_function a x)) functions.items ∙ made_functions)
    (twice (with_names.static with) pv.static (seen.static a) (λ x. sym (seen_static a x)) statics.items ∙ made_statics)
    (twice (with_names.site with) pv.site (seen.site a) (seen_site a) lowered.sites.items)
    (ap (map heap_object) none)
