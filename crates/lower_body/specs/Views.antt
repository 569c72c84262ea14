-- What contracts see of whole classes, and of their constructors as mixin applications forward them.
use Rattle.std.specs.Prelude.{◌≡◌, ◌∷◌, ℕ, List, [], ◌++◌, map, slice_get, Option, None, Some, Bool, ◌||◌, if◌then◌else◌}
use Rattle.std.specs.Borrow.{Bor}
use Rattle.std.specs.Global.{Vec}
use Rattle.dart_base.specs.declared.place.Place.{Place}
use Rattle.dart_ir.specs.declared.number.ClassId.{ClassId}
use Rattle.dart_tree.specs.UnitView as unit_view
use Rattle.dart_tree.specs.Unit as u
use Rattle.dart_tree.specs.declared.declaration.Member.{Member}
use Rattle.translation.specs.ClassBodies as b
use Rattle.translation.specs.Classes as cl
use Rattle.translation.specs.Declarations as d
use Rattle.translation.specs.Types as y
use Rattle.translation.specs.Walk as w
use Rattle.lower_leaf.specs.Around.{Around}
use Rattle.lower_leaf.specs.Forms.{cores}
use Rattle.lower_leaf.specs.declared.meaning.Outer.{Outer}
use Rattle.lower_function.specs.Made.{parameters}
use Rattle.lower_class.specs.Views.{fields}
use Rattle.lower_body.specs.declared.finish.Generated.{Generated}
use Rattle.lower_body.specs.declared.class.ClassMade.{ClassMade}

-- the answer of a walk that has none of its own
abbrev pub nothing : Unit {0} → ℕ
nothing x = 0

-- ---- inside of a class

-- where names are looked up inside of a class
abbrev pub outer_of : ℕ → ClassId → Outer
outer_of library of = record { library = library; class = Some of }

-- What names mean inside of a class is what the table of classes says.
pub record NamesClasses (a : Around) : Type 0 where
  pub inside : (library : ℕ) (of : ClassId) → a.names (outer_of library of) ≡ a.tables.class_names of.0

-- ---- classes

abbrev pub generated : Around → Generated → cl.Generated
generated a x = record { number = x.number; id = x.id; parameters = parameters a x.parameters }

abbrev pub all_generated : Around → Vec Generated → List cl.Generated
all_generated a xs = map (generated a) xs.items

abbrev pub member_trees : List Member → List u.Member
member_trees xs = map unit_view.member xs

abbrev pub option_members : Option (Bor (Vec Member)) → List u.Member
option_members None = []
option_members (Some xs) = member_trees xs.now.items

abbrev pub class_made : Around → ClassMade → b.ClassMade
class_made a x = record {
  class = x.class.0;
  names = a.names x.outer;
  name = y.word_of x.name.now;
  members = option_members x.members;
  fields = fields a x.fields;
  values = cores a x.values.items;
  count = x.count;
  has_constructor = x.has_constructor;
  constructors = all_generated a x.constructors;
}

-- the fields of a class, whose types are looked up in it
abbrev pub fields_in : cl.Around → List u.Member → w.State → List cl.Field
fields_in around all st = cl.own_fields (d.standing_in (cl.without_instance around) st) (st.tables.first_field around.class) all

-- it writes a constructor, or is written as a mixin application
abbrev pub has_own : u.ClassKind → Bool
has_own kind = b.has_constructor (b.members_of kind) || b.is_mixed kind

-- the accessors of a class and its unnamed constructor, inside of the class
abbrev pub added_inside : b.ClassMade → w.Walk (List cl.Generated)
added_inside x st = w.on (b.accessors_added x.class x.fields st) (λ k st. b.constructor_added x.has_constructor x st)
