use Rattle.prelude_numbers.proofs.numbers.known_numbers.Goals as goal

pub returns : goal.returns
returns c = λ i. record {
  null_class = c.core_class-null_class.ensures i;
  bool_class = c.core_class-bool_class.ensures i;
  int_class = c.core_class-int_class.ensures i;
  string_class = c.core_class-string_class.ensures i;
  list_class = c.core_class-list_class.ensures i;
  type_class = c.core_class-type_class.ensures i;
  invocation_class = c.core_class-invocation_class.ensures i;
  trace_class = c.core_class-trace_class.ensures i;
  send_port_class = c.isolate_class-send_port_class.ensures i;
  receive_port_class = c.isolate_class-receive_port_class.ensures i;
  error_class = λ thrown. c.error_classes-errors.ensures thrown i;
  call = c.name_number-call.ensures i;
  equals = c.name_number-equals.ensures i;
  no_such_method = c.name_number-no_such_method.ensures i;
}
