use Rattle.std.proofs.Common.{List, ap, map, sym}
use Rattle.dart_base.specs.declared.name.Name.{Name}
use Rattle.dart_ir.specs.Ty.{ty}
use Rattle.core_program.specs.View as v
use Rattle.core_program.proofs.Views.{arguments_out}
use Rattle.core_text.specs.Line.{word}
use Rattle.core_text.specs.Head.{named, new_object}
use Rattle.core_text.proofs.Added.{behind, told}
use Rattle.core_text.proofs.head.push_new.Goals as goal

pub returns : goal.returns
returns c =
    told (ap (λ (r : v.Row). new_object c.args.program.now c.args.class.0 c.args.constructor.0 (map ty c.args.types.now.items) r.1)
    (sym (arguments_out c.args.arguments.now)))
    (behind c.in_ok-push_text.ensures (behind (told c.class_name.ensures c.in_ok-push_text-2.ensures)
    (behind c.in_ok-push_type_arguments.ensures
    (behind (told (ap word c.function_name.ensures) c.in_ok-push_word.ensures)
    (told (ap (λ (ns : List Name). named c.args.program.now (v.names ns)) c.deref.ensures.value) c.push_named.ensures)))))
