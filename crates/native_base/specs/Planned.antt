-- What the code keeps of a native that changes no object.
use Rattle.dart_ir.specs.Object.{heap_object}
use Rattle.native_base.specs.declared.plan.Planned.{Planned}
use Rattle.native_base.specs.declared.plan.Planned.TheVariants as code
use Rattle.native_base.specs.Plan.{Plan, answers, makes}

abbrev pub planned : Planned → Plan
planned (code.Answers answer) = answers answer
planned (code.Makes object) = makes (heap_object object)
