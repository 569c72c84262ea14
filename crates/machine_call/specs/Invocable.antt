-- A value as what is called.
use Rattle.evaluation.specs.Invocation.{Callable, a_code, a_closure, a_method, an_object}
use Rattle.machine_call.specs.declared.callables.Invocable.{Invocable}
use Rattle.machine_call.specs.declared.callables.Invocable.TheVariants as i

abbrev pub callable_as : Invocable → Callable
callable_as (i.Function f) = a_code f
callable_as (i.Closure f receiver) = a_closure f receiver
callable_as (i.Method m receiver) = a_method m receiver
callable_as i.Object = an_object
