-- What contracts see of what bodies are translated in, and of names and types, in which names are texts.
use Rattle.std.specs.Prelude.{ℕ, List, map, Option, Some, None}
use Rattle.std.specs.Global.{Vec}
use Rattle.dart_base.specs.declared.name.Name.{Name}
use Rattle.dart_ir.specs.declared.number.ClassId.{ClassId}
use Rattle.dart_ir.specs.declared.number.DeclId.{DeclId}
use Rattle.dart_ir.specs.declared.types.TypeRef.{TypeRef}
use Rattle.dart_ir.specs.Ty as dart
use Rattle.core_program.specs.Named as with_names
use Rattle.core_program.specs.ProgramView.{text_at}
use Rattle.translation.specs.Surroundings.{Text, Ty, Names, Tables}
use Rattle.translation.specs.Surroundings as m
use Rattle.lower_leaf.specs.declared.meaning.Outer.{Outer}
use Rattle.lower_leaf.specs.declared.meaning.Meaning.{Meaning}
use Rattle.lower_leaf.specs.declared.meaning.Meaning.TheVariants as k
use Rattle.lower_leaf.specs.declared.meaning.Constructor.{Constructor}
use Rattle.lower_leaf.specs.declared.meaning.Mixin.{Mixin}
use Rattle.lower_leaf.specs.declared.meaning.Constructor.TheVariants as made

-- the texts of names by their numbers, what names mean in a library or class, and the tables
pub record Around : Type 0 where
  pub texts : List Text
  pub names : Outer → Names
  pub tables : Tables

abbrev pub text : Around → Name → Text
text a name = text_at a.texts name.0

unfoldable pub ty : Around → TypeRef → Ty
ty a of = with_names.ty (text_at a.texts) (dart.ty of)

abbrev pub types : Around → List TypeRef → List Ty
types a ts = map (ty a) ts

abbrev pub option_type : Around → Option TypeRef → Option Ty
option_type a None = None
option_type a (Some of) = Some (ty a of)

abbrev pub option_types : Around → Option (Vec TypeRef) → Option (List Ty)
option_types a None = None
option_types a (Some given) = Some (types a given.items)

abbrev pub declaration : Option DeclId → Option ℕ
declaration None = None
declaration (Some d) = Some d.0

abbrev pub class : Option ClassId → Option ℕ
class None = None
class (Some k) = Some k.0

abbrev pub meaning : Meaning → m.Meaning
meaning (k.Function d) = m.function d.0
meaning (k.Variable d is_final) = m.variable d.0 is_final
meaning (k.Accessors getter setter) = m.accessors (declaration getter) (declaration setter)
meaning (k.Class n) = m.class n.0
meaning (k.Alias d) = m.alias d.0
meaning (k.TypeParameter n) = m.type_parameter n
meaning k.Member = m.member
meaning k.Prefix = m.prefix
meaning k.Ambiguous = m.ambiguous
meaning k.Unknown = m.unknown

abbrev pub constructor : Constructor → m.Made
constructor (made.Generative d) = m.generative d.0
constructor (made.Factory d) = m.factory d.0
constructor made.Missing = m.no_constructor

abbrev pub mixin : Around → Option Mixin → Option m.Mixin
mixin a None = None
mixin a (Some x) = Some (record { class = x.class.0; arguments = types a x.arguments.items })
