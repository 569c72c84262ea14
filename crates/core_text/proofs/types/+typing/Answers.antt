use Rattle.std.proofs.Common.{ℕ, ap, sym, ◌∙◌}
use Rattle.dart_ir.specs.Ty.{Ty, ty}
use Rattle.dart_ir.proofs.View.{ty_class, ty_param, function_out, named_out}
use Rattle.core_text.specs.Types.{entry, type_text}
use Rattle.core_text.proofs.Added.{behind, told}
use Rattle.core_text.proofs.Listed.{arguments_listed, optionals_listed, named_types_listed}
use Rattle.core_text.proofs.types.+typing.Goals as goal

pub push_type-returns-in_ok-push_text-in-Class : goal.push_type-returns-in_ok-push_text-in-Class
push_type-returns-in_ok-push_text-in-Class t c =
    told (ap (type_text c.args.program.now) (sym (ap ty c.in-Class.is ∙ ty_class c.in-Class.class c.in-Class.types)))
    (behind (told c.class_name.ensures c.in_ok-push_text-in-Class.ensures) c.push_type_arguments.ensures)

pub push_type-returns-in_ok-push_text-in-Param : goal.push_type-returns-in_ok-push_text-in-Param
push_type-returns-in_ok-push_text-in-Param t c =
    told (ap (type_text c.args.program.now) (sym (ap ty c.in-Param.is ∙ ty_param c.in-Param.index)))
    (behind c.in_ok-push_text-in-Param.ensures c.push_number.ensures)

pub push_type_arguments-returns-in_ok-push_types-in-len1-up : goal.push_type_arguments-returns-in_ok-push_types-in-len1-up
push_type_arguments-returns-in_ok-push_types-in-len1-up t c =
    told (arguments_listed c.args.program.now c.args.types.now.items c.as_slice.result.now c.as_slice.ensures.value c.in-len1-up.len_at_least)
    (behind c.in_ok-push_text-in-len1-up.ensures (behind c.in_ok-push_types-in-len1-up.ensures c.push_text-in-len1-up.ensures))

pub push_optional_types-returns-in_ok-push_types-in-len1-up : goal.push_optional_types-returns-in_ok-push_types-in-len1-up
push_optional_types-returns-in_ok-push_types-in-len1-up t c =
    told (optionals_listed c.args.program.now c.args.types.now.items c.as_slice.result.now c.as_slice.ensures.value c.in-len1-up.len_at_least)
    (behind c.in_ok-push_text-in-len1-up.ensures (behind c.in_ok-push_types-in-len1-up.ensures c.push_text-in-len1-up.ensures))

pub push_named_types-returns-in_ok-push_entries-in-len1-up : goal.push_named_types-returns-in_ok-push_entries-in-len1-up
push_named_types-returns-in_ok-push_entries-in-len1-up t c =
    told (named_types_listed c.args.program.now c.args.named.now.items c.as_slice.result.now c.as_slice.ensures.value c.in-len1-up.len_at_least)
    (behind c.in_ok-push_text-in-len1-up.ensures (behind c.in_ok-push_entries-in-len1-up.ensures c.push_text-in-len1-up.ensures))

pub push_function_type-returns : goal.push_function_type-returns
push_function_type-returns t c =
    told (ap (type_text c.args.program.now) (sym (function_out c.args.of.now)))
    (behind c.in_ok-push_text.ensures (behind c.in_ok-push_types.ensures (behind c.in_ok-push_text-2.ensures
    (behind c.in_ok-push_optional_types.ensures (behind c.in_ok-push_named_types.ensures
    (behind c.in_ok-push_text-3.ensures c.push_type.ensures))))))

pub push_entry-returns : goal.push_entry-returns
push_entry-returns t c =
    told (ap (λ (n : ℕ × Ty). entry c.args.program.now n.0 n.1) (sym (named_out c.args.named.now)))
    (behind (told c.name_text.ensures c.in_ok-push_text.ensures) (behind c.in_ok-push_text-2.ensures c.push_type.ensures))
