-- What contracts see of references.
use Rattle.std.specs.Rc.{rc_value}
use Rattle.dart_base.specs.declared.place.Place.{Place}
use Rattle.translation.specs.References as r
use Rattle.translation.specs.Types as y
use Rattle.translation.specs.Walk as w
use Rattle.lower_leaf.specs.Around.{Around, text, meaning}
use Rattle.lower_leaf.specs.Forms.{core}
use Rattle.lower_leaf.specs.Seen.{entry}
use Rattle.lower_reference.specs.declared.reference.PlacedName.{PlacedName}
use Rattle.lower_reference.specs.declared.reference.Bound.{Bound}
use Rattle.lower_reference.specs.declared.reference.Bound.TheVariants as b
use Rattle.lower_reference.specs.declared.reference.Reference.{Reference}
use Rattle.lower_reference.specs.declared.reference.Reference.TheVariants as k

abbrev pub word : PlacedName → y.PlacedName
word x = record { place = x.place; text = x.text }

abbrev pub bound : Around → Bound → r.Bound
bound a (b.Local e) = r.local (entry a (rc_value e))
bound a (b.Outer of_this of) = r.outer of_this (meaning of)
bound a (b.AliasBehind at) = r.alias_behind at

abbrev pub reference : Around → Reference → r.Reference
reference a (k.Evaluated form) = r.evaluated (core a form)
reference a (k.Named name of) = r.named (word name) (bound a of)
reference a (k.Member form name) = r.member (core a form) (text a name)
reference a (k.Item form index) = r.item (core a form) (core a index)
reference a (k.SuperMember name) = r.super_member (text a name)
reference a (k.SuperItem index) = r.super_item (core a index)

-- a member of what a name, or a reference, is read as
abbrev pub member_read : y.PlacedName → y.PlacedName → r.Bound → w.Walk r.Reference
member_read name first of st = w.on (r.read_bound first of st) (λ form st. w.went (r.member form (r.own_name name st)) st)

abbrev pub reference_read : Place → y.PlacedName → r.Reference → w.Walk r.Reference
reference_read place name of st = w.on (r.read place of st) (λ form st. w.went (r.member form (r.own_name name st)) st)
