-- That a program has the classes which each program has.
use Rattle.std.specs.Prelude.{◌<◌, length}
use Rattle.class_source.specs.Rows.{Classes}

-- Object and Function are declared
pub record DeclaresRoots (cs : Classes) : Type 0 where
  pub object : cs.object < length cs.classes
  pub function : cs.function < length cs.classes
