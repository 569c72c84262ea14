-- What the code keeps of a value's identity.
use Rattle.std.specs.Prelude.{ℕ, Option, Some, None}
use Rattle.dart_ir.specs.Ty.{ty}
use Rattle.dart_ir.specs.declared.value.Value.{Value}
use Rattle.native_object.specs.declared.identity.Identity.{Identity}
use Rattle.native_object.specs.declared.identity.Identity.TheVariants as code
use Rattle.native_object.specs.declared.identity.Method.{Method}
use Rattle.native_object.specs.Identity as spec

abbrev pub seen : Identity → spec.Identity
seen code.Nothing = spec.nothing
seen (code.Truth b) = spec.truth b
seen (code.Integer high low) = spec.integer high low
seen (code.Text units) = spec.string units.now
seen (code.Type t) = spec.type (ty t.now)
seen (code.Function f) = spec.static_function f.0
seen (code.Object r) = spec.object r.0

abbrev pub method : Option Method → Option (Value × ℕ)
method None = None
method (Some m) = Some (m.receiver, m.member.0)
