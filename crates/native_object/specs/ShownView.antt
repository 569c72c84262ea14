-- What the code keeps of a program for natives.
use Rattle.std.specs.Prelude.{ℕ, map}
use Rattle.native_object.specs.declared.shown.Around.{Around}
use Rattle.native_object.specs.Shown as spec

abbrev pub around : Around → spec.Around
around a = record {
  literals = a.literals.now;
  names = a.names.now;
  class_names = map spec.name_number a.classes.now;
  known = a.known;
}
