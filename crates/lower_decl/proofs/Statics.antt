-- How library and static variables are seen.
use Rattle.std.proofs.Common.{◌≡◌, refl}
use Rattle.core_program.specs.declared.program.StaticVar.{StaticVar}
use Rattle.lower_leaf.specs.Around.{Around, text}
use Rattle.lower_leaf.specs.Forms.{part}
use Rattle.lower_leaf.specs.Seen.{static}

pub static_seen : (a : Around) (x : StaticVar) →
    static a x ≡ record { name = text a x.name; vars = x.vars; cells = x.cells.items; init = part a x.init; is_final = x.is_final }
unfolding static part
static_seen a x = refl
