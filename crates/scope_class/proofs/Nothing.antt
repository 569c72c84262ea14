-- What stands past the end of a list of declarations.
use Rattle.scope_declared.specs.declared.declaration.Declared.{Declared}
use Rattle.scope_declared.specs.declared.declaration.DeclaredKind.TheVariants.{LocalVariable}

abbrev pub nothing : Declared
nothing = record {
  name = record { 0 = 0 };
  place = record { unit = 0; line = 0; column = 0 };
  kind = LocalVariable;
  extent = record {
    scope = record { unit = 0; line = 0; column = 0 };
    after = record { unit = 0; line = 0; column = 0 };
    last = record { unit = 0; line = 0; column = 0 };
  };
}
