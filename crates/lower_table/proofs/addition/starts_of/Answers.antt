use Rattle.std.proofs.Common.{◌≡◌, ◌∙◌, List, map, ap}
use Rattle.dart_ir.specs.declared.class.ClassInfo.{ClassInfo}
use Rattle.lower_added.specs.Added.{starts_added}
use Rattle.scope_program.specs.declared.class.ClassScope.{ClassScope}
use Rattle.lower_table.specs.Made.{source_made}
use Rattle.lower_table.specs.Rows.{added_rows, applications, class_declarations, classes_of, place_in, row_declarations, rows_of}
use Rattle.lower_table.specs.Seen.{rows}
use Rattle.lower_table.proofs.Law.{starts-made}
use Rattle.lower_table.proofs.addition.starts_of.Goals as goal

pub returns : goal.returns
returns c = λ s h.
    let x = c.args.scopes.now in
    let k = c.args.classes.now in
    let source = source_made x in
    let all = rows_of x.names k in
    let from_rows : c.in_ok-from_rows.from_rows.items ≡ row_declarations all =
    c.in_ok-from_rows.ensures x.names ∙ ap (λ (l : List ClassInfo). row_declarations (rows x.names l)) c.deref.ensures.value in
    let from_classes : c.in_ok-from_classes.from_classes.items ≡ class_declarations source.declarations =
    c.in_ok-from_classes.ensures ∙ ap (λ (l : List ClassScope). class_declarations (map (λ (m : ClassScope). m.declaration) l)) c.deref-2.ensures.value in
    let classes : c.in_ok-declared.declared.items ≡ classes_of source.declarations all = c.in_ok-declared.ensures
    ∙ (λ i. map (place_in ((c.deref-4.ensures.value ∙ from_classes) i)) ((c.deref-3.ensures.value ∙ from_rows) i)) in
    let mixed : c.in_ok-mixed.mixed.items ≡ source.mixed =
    c.in_ok-mixed.ensures ∙ ap (map (λ (m : ClassScope). m.is_mixed)) c.deref-5.ensures.value in
    let applied : c.in_ok-applications.applications.items ≡ applications source.mixed (classes_of source.declarations all) = c.in_ok-applications.ensures
    ∙ (λ i. applications ((c.deref-6.ensures.value ∙ mixed) i) ((c.deref-7.ensures.value ∙ classes) i)) in
    c.in_ok-added.ensures.starts
    ∙ (λ i. starts_added source.written source.count
    (added_rows all ((c.deref-8.ensures.value ∙ applied) i) ((c.deref-9.ensures.value ∙ classes) i)))
    ∙ starts-made s x h k
