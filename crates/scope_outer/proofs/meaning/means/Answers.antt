use Rattle.std.proofs.Common.{ℕ, sym, subst}
use Rattle.scope_space.specs.Namespace.{IsBinding}
use Rattle.scope_space.specs.declared.bound.Binding.{Binding}
use Rattle.scope_space.specs.declared.bound.Binding.TheVariants.{Own, Prefix, Imported}
use Rattle.translation.specs.Surroundings.{Meaning}
use Rattle.scope_outer.specs.Outside.{Means, Means.bound_to, scopes_of}
use Rattle.scope_outer.proofs.meaning.means.Goals as goal

pub returns-in-Own : goal.returns-in-Own
returns-in-Own c =
    let P : Meaning → Type 0 = λ m. Means (scopes_of c.args.scopes) c.args.library c.args.name.0 m in
    let B : Binding → Type 0 = λ b. IsBinding c.args.scopes.spaces.now c.args.library c.args.name.0 b in
    subst P (sym c.own_sense.ensures) (bound_to Own (subst B c.in-Own.is c.binding.ensures))

pub returns-in-Prefix : goal.returns-in-Prefix
returns-in-Prefix c =
    let B : Binding → Type 0 = λ b. IsBinding c.args.scopes.spaces.now c.args.library c.args.name.0 b in
    bound_to Prefix (subst B c.in-Prefix.is c.binding.ensures)

pub returns-in-Imported : goal.returns-in-Imported
returns-in-Imported c =
    let P : Meaning → Type 0 = λ m. Means (scopes_of c.args.scopes) c.args.library c.args.name.0 m in
    let B : Binding → Type 0 = λ b. IsBinding c.args.scopes.spaces.now c.args.library c.args.name.0 b in
    subst P (sym c.bound_sense.ensures) (bound_to (Imported c.in-Imported.bound) (subst B c.in-Imported.is c.binding.ensures))
