use Rattle.std.proofs.Common.{◌∙◌, Bool, List, sym, ap, subst}
use Rattle.scope_table.specs.declared.instance.Stretch.{Stretch}
use Rattle.dart_scope.specs.declared.meaning.Meaning.{Meaning}
use Rattle.dart_scope.specs.Meaning.{has_instance, meaning_of}
use Rattle.dart_scope.specs.Program.{MeansIn, MeansIn.inside, MeansIn.outside}
use Rattle.dart_scope.proofs.program.meaning_in.Goals as goal

pub returns-in-Some : goal.returns-in-Some
returns-in-Some c =
    let unit = c.args.unit.now in
    let P : Meaning → Type 0 = λ meaning. MeansIn unit c.args.spaces.now c.args.at c.args.name meaning in
    let instance = c.has_instance.ensures ∙ ap (λ (stretches : List Stretch). has_instance stretches c.args.at) c.deref.ensures.value in
    subst P (sym (c.meaning_of.ensures ∙ ap (λ (b : Bool). meaning_of b c.in-Some.one) instance)) (inside c.in-Some.one c.in-Some.ensures)

pub returns-in-None : goal.returns-in-None
returns-in-None c = outside c.binding.result c.in-None.ensures c.binding.ensures
