-- Class declarations without what erasure may change of them: the types in the signatures of their members.
use Rattle.std.specs.Prelude.{map}
use Rattle.core_program.specs.Stripped as stripped
use Rattle.class_source.specs.Rows.{Member, Class, Classes}

abbrev pub loose_member : Member → Member
loose_member m = record m { signature = stripped.loose m.signature }

-- without the types in signatures
abbrev pub loose_class : Class → Class
loose_class c = record c { members = map loose_member c.members }

abbrev pub loose_classes : Classes → Classes
loose_classes x = record x { classes = map loose_class x.classes }
