-- What contracts see of mixin applications, and of the classes that were added to.
use Rattle.std.specs.Prelude.{ℕ, ◌+◌, List, [], ◌∷◌, map, Option, Some, slice_get}
use Rattle.std.specs.Global.{Vec}
use Rattle.dart_base.specs.declared.place.Place.{Place}
use Rattle.dart_ir.specs.declared.class.ClassInfo.{ClassInfo}
use Rattle.dart_ir.specs.declared.kind.SiteKind.TheVariants as kind
use Rattle.dart_tree.specs.Unit as u
use Rattle.core_program.specs.Named as with_names
use Rattle.core_program.specs.Program as p
use Rattle.core_program.specs.ProgramView as pv
use Rattle.translation.specs.Applications as ap
use Rattle.translation.specs.ClassBodies as b
use Rattle.translation.specs.Classes as cl
use Rattle.translation.specs.Surroundings.{Text, Ty, Names}
use Rattle.translation.specs.Walk as w
use Rattle.lower_leaf.specs.Around.{Around}
use Rattle.lower_body.specs.Views.{all_generated}
use Rattle.lower_body.specs.declared.finish.Generated.{Generated}
use Rattle.lower_mixin.specs.Built.{built_from}

-- a class of the table, with names as texts
abbrev pub class_info : Around → ClassInfo → p.Class Text
class_info a x = with_names.class (pv.text_at a.texts) (pv.class x)

-- ---- forwarding constructors

abbrev pub forwarded_one : Place → ℕ → p.Parameter Text → w.Walk (p.Parameter Text)
forwarded_one place x q st = w.on (w.with_site kind.Param (ap.site_place place (slice_get st.sites q.site)) w.unasked st)
    (λ site st. w.went (record q { var = x; site = site }) st)

abbrev pub names_handed : List (p.Parameter Text) → List Text
names_handed all = map (λ q. q.name) (ap.of_shape ap.is_named all)

-- ---- mixin applications

abbrev pub application_with : cl.Around → p.Class Text → List u.Member → List cl.Generated → w.Walk (List cl.Generated)
application_with around x members above st = w.on (b.accessors_added around.class around.fields st) (λ j st.
    w.on (cl.all_values around members st) (λ values st. ap.forwarders around x values above st))

-- with its members inside of the class
abbrev pub application_inside : ℕ → p.Class Text → List Ty → Text → List u.Member → List cl.Generated → w.Walk (List cl.Generated)
application_inside n x arguments name members above st =
    application_with (b.around_in n (Some arguments) name members st) x members above st

abbrev pub application_at : ℕ → p.Class Text → List Ty → Names → Text → List u.Member → List cl.Generated → w.Walk (List cl.Generated)
application_at n x arguments names name members above st =
    b.in_class names (application_inside n x arguments name members above) st

-- the classes that were added to
abbrev pub built_of : Around → List (Vec Generated) → List ap.Built
built_of a xs = built_from 0 (map (all_generated a) xs) []
