-- Means of proof, which no public contract cites: how the senses of members are built, one declaration at a time.
use Rattle.std.specs.Prelude.{ℕ, Bool, true, false, ◌==◌, List, Option, Some, None, if◌then◌else◌}
use Rattle.std.specs.Option.{option_or}
use Rattle.scope_declared.specs.Number.{number_in}
use Rattle.scope_declared.specs.declared.declaration.DeclaredKind.{DeclaredKind}
use Rattle.scope_declared.specs.declared.declaration.DeclaredKind.TheVariants as k
use Rattle.scope_declared.specs.declared.declaration.Owner.{Owner}
use Rattle.scope_declared.specs.declared.declaration.Owner.TheVariants as owner
use Rattle.scope_declared.specs.declared.declaration.Role.{Role}
use Rattle.scope_declared.specs.declared.declaration.Role.TheVariants as role
use Rattle.scope_declared.specs.declared.declaration.Declared.{Declared}
use Rattle.translation.specs.Surroundings.{Meaning}
use Rattle.translation.specs.Surroundings as m
use Rattle.scope_dictionary.specs.Written.{named}
use Rattle.scope_class.specs.Members.{is_static_getter, is_static_setter}

-- what a getter or setter has been, or else this one
abbrev pub or_number : Option ℕ → Bool → ℕ → Option ℕ
or_number had is n = option_or had (if is then Some n else None)

-- what a name means with one declaration more, of number n
abbrev pub joined_to : Meaning → ℕ → DeclaredKind → Meaning
joined_to (m.accessors getter setter) n kind =
    m.accessors (or_number getter (is_static_getter kind) n) (or_number setter (is_static_setter kind) n)
joined_to other n kind = other

abbrev pub first_static : ℕ → Role → Meaning
first_static n role.Function = m.function n
first_static n role.Variable = m.variable n false
first_static n role.Final = m.variable n true
first_static n role.Getter = m.accessors (Some n) None
first_static n role.Setter = m.accessors None (Some n)

abbrev pub first_owned : ℕ → Owner → Role → Meaning
first_owned n owner.Class role = first_static n role
first_owned n owner.Object role = m.member
first_owned n owner.Library role = m.member

abbrev pub first_sense : ℕ → DeclaredKind → Meaning
first_sense n (k.Owned whose role) = first_owned n whose role
first_sense n other = m.member

abbrev pub joined : Option Meaning → ℕ → DeclaredKind → Meaning
joined None n kind = first_sense n kind
joined (Some had) n kind = joined_to had n kind

-- what a text means with declaration n more, whose name may be another's
abbrev pub added : List (List ℕ) → List ℕ → ℕ → Declared → Option Meaning → List ℕ → Option Meaning
added texts suffix n one had text =
    if one.name.0 == number_in texts (named suffix text) then Some (joined had n one.kind) else had
