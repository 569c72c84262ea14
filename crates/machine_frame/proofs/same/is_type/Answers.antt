use Rattle.std.proofs.Common.{◌≡◌, ℕ, length, map, true, sym, subst, ap, ◌∙◌, rules, arith}
use Rattle.std.proofs.lemmas.List.{length-map}
use Rattle.dart_ir.specs.Classes.{class_at, parameter_count}
use Rattle.dart_ir.specs.Ty.{class, of_list, ty}
use Rattle.dart_ir.proofs.View.{ty_class}
use Rattle.machine_frame.specs.Above.{AllFit}
use Rattle.machine_frame.proofs.Itself.{is_of_class}
use Rattle.machine_frame.proofs.same.is_type.Goals as goal

pub returns : goal.returns
returns c = λ e args.
    let form = c.in-Class in
    let k = c.args.a.program.now.classes in
    let us = map ty form.given.items in
    let same_class : form.other.0 ≡ c.args.class = first_of (cc, search rules) in
    let taken : c.takes.result ≡ true = first_of (cc, search rules) in
    let counted : c.len.result ≡ length form.given.items = first_of (omega (arith, form.given.ok, c.len.ensures), search rules, grind arith) in
    let many : parameter_count (class_at k c.args.class) ≡ length us = c.takes.ensures.counted taken ∙ counted ∙ sym (length-map form.given.items ty) in
    is_of_class c.args.a c.args.class (map ty c.args.arguments.now) us (ty c.args.wanted.now)
    (ap ty form.is ∙ ty_class form.other form.given ∙ ap (λ (n : ℕ). class n (of_list us)) same_class)
    (c.takes.ensures.listed taken) many
    (subst (λ ts. AllFit k (map ty c.args.arguments.now) (map ty ts)) c.as_slice.ensures.value (c.all_fit.ensures e)) args
