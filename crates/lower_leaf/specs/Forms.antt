-- What contracts see of forms, in which names are texts.
use Rattle.std.specs.Prelude.{List, map}
use Rattle.core_program.specs.Core as c
use Rattle.core_program.specs.Named as with_names
use Rattle.core_program.specs.View as v
use Rattle.core_program.specs.ProgramView.{text_at}
use Rattle.core_program.specs.declared.form.Core.{Core as Form}
use Rattle.core_program.specs.declared.form.Part.{Part}
use Rattle.core_program.specs.declared.form.Leaf.{Leaf}
use Rattle.core_program.specs.declared.form.Unary.{Unary}
use Rattle.core_program.specs.declared.form.Binary.{Binary}
use Rattle.core_program.specs.declared.form.Job.{Job}
use Rattle.translation.specs.Surroundings.{Text, Core}
use Rattle.translation.specs.References.{Arguments}
use Rattle.lower_leaf.specs.declared.form.Operands.{Operands}
use Rattle.lower_leaf.specs.Around.{Around, text}

unfoldable pub core : Around → Form → Core
core a form = with_names.core (text_at a.texts) (v.core form)

unfoldable pub part : Around → Part → c.Part Text
part a x = with_names.part (text_at a.texts) (v.part x)

abbrev pub cores : Around → List Form → List Core
cores a forms = map (core a) forms

-- operands, the last of which go by name
abbrev pub row_of : Around → Operands → Arguments
row_of a x = record { forms = cores a x.forms.items; names = map (text a) x.names.items }

abbrev pub leaf : Around → Leaf → c.Leaf Text
leaf a x = with_names.leaf (text_at a.texts) (v.leaf x)

abbrev pub unary : Around → Unary → c.Unary Text
unary a x = with_names.unary (text_at a.texts) (v.unary x)

abbrev pub binary : Around → Binary → c.Binary Text
binary a x = with_names.binary (text_at a.texts) (v.binary x)

abbrev pub job : Around → Job → c.Job Text
job a x = with_names.job (text_at a.texts) (v.job x)
