use Rattle.std.proofs.Common.{Option, sym, subst}
use Rattle.dart_base.specs.declared.name.Name.{Name}
use Rattle.lower_leaf.specs.Around.{meaning}
use Rattle.scope_outer.specs.Outside.{scopes_of}
use Rattle.scope_dictionary.specs.Dictionary.{MeansAt}
use Rattle.scope_dictionary.proofs.dictionary.means_at.Goals as goal

pub returns-in-None : goal.returns-in-None
returns-in-None c =
    let P : Option Name → Type 0 = λ p. MeansAt (scopes_of c.args.home.scopes) c.args.home.library p c.args.name.0 (meaning c.means.result) in
    subst P (sym c.in-None.is) c.means.ensures

pub returns-in-Some : goal.returns-in-Some
returns-in-Some c =
    let P : Option Name → Type 0 = λ p. MeansAt (scopes_of c.args.home.scopes) c.args.home.library p c.args.name.0 (meaning c.means_behind.result) in
    subst P (sym c.in-Some.is) c.means_behind.ensures
