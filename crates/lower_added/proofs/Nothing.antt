-- What stands past the ends of lists.
use Rattle.std.specs.Prelude.{None, false}
use Rattle.lower_added.specs.declared.added.Row.{Row}
use Rattle.lower_added.specs.declared.written.Generative.{Generative}

abbrev pub no_generative : Generative
no_generative = record { id = None; number = 0 }

abbrev pub no_row : Row
no_row = record { writes = None; is_application = false; superclass = None }
