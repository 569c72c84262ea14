use Rattle.std.proofs.Common.{◌≡◌, ◌∙◌, List, map, ap}
use Rattle.std.specs.Prelude.{unwrap_or}
use Rattle.dart_ir.specs.declared.class.ClassInfo.{ClassInfo}
use Rattle.lower_added.specs.Added.{constructors_added}
use Rattle.lower_added.specs.Natives.{natives}
use Rattle.scope_program.specs.declared.class.ClassScope.{ClassScope}
use Rattle.lower_table.specs.Made.{meanings_made, source_made}
use Rattle.lower_table.specs.Rows.{added_rows, applications, class_declarations, classes_of, found_at, parameter_counts, place_in, row_declarations, rows_declared, rows_of}
use Rattle.lower_table.specs.Seen.{rows}
use Rattle.lower_table.specs.Table.{around_by}
use Rattle.lower_table.proofs.Law.{around-made}
use Rattle.lower_table.proofs.table.table_scopes.Goals as goal

pub returns : goal.returns
returns c = λ s h.
    let x = c.args.scopes.now in
    let k = c.args.classes.now in
    let source = source_made x in
    let all = rows_of x.names k in
    let from_rows : c.in_ok-from_rows.from_rows.items ≡ row_declarations all =
    c.in_ok-from_rows.ensures x.names ∙ ap (λ (l : List ClassInfo). row_declarations (rows x.names l)) c.deref.ensures.value in
    let from_classes : c.in_ok-from_classes.from_classes.items ≡ class_declarations source.declarations =
    c.in_ok-from_classes.ensures ∙ ap (λ (l : List ClassScope). class_declarations (map (λ (m : ClassScope). m.declaration) l)) c.deref-2.ensures.value in
    let declared : c.in_ok-rows.rows.items ≡ rows_declared source.declarations all = c.in_ok-rows.ensures
    ∙ (λ i. map (place_in ((c.deref-4.ensures.value ∙ from_rows) i)) ((c.deref-3.ensures.value ∙ from_classes) i)) in
    let classes : c.in_ok-declared.declared.items ≡ classes_of source.declarations all = c.in_ok-declared.ensures
    ∙ (λ i. map (place_in ((c.deref-6.ensures.value ∙ from_classes) i)) ((c.deref-5.ensures.value ∙ from_rows) i)) in
    let mixed : c.in_ok-mixed.mixed.items ≡ source.mixed =
    c.in_ok-mixed.ensures ∙ ap (map (λ (m : ClassScope). m.is_mixed)) c.deref-7.ensures.value in
    let applied : c.in_ok-applications.applications.items ≡ applications source.mixed (classes_of source.declarations all) = c.in_ok-applications.ensures
    ∙ (λ i. applications ((c.deref-8.ensures.value ∙ mixed) i) ((c.deref-9.ensures.value ∙ classes) i)) in
    (λ i. around_by (meanings_made x) all (record {
      rows = declared i;
      classes = classes i;
      applications = applied i;
      parameters = (c.in_ok-parameter_counts.ensures x.names ∙ ap (λ (l : List ClassInfo). parameter_counts (rows x.names l)) c.deref-12.ensures.value) i;
      constructors = (c.in_ok-added.ensures.constructors
          ∙ (λ j. constructors_added source.written source.count (added_rows all ((c.deref-10.ensures.value ∙ applied) j) ((c.deref-11.ensures.value ∙ classes) j)))) i;
      natives = (c.in_ok-natives.ensures ∙ ap (natives x.kept) c.deref-13.ensures.value) i;
      int_class = (c.unwrap_or.ensures ∙ ap (λ o. unwrap_or o 0) (c.found_at.ensures ∙ ap (λ l. found_at l x.int_class) (c.deref-14.ensures.value ∙ declared))) i;
      string_class = (c.unwrap_or-2.ensures ∙ ap (λ o. unwrap_or o 0) (c.found_at-2.ensures ∙ ap (λ l. found_at l x.string_class) (c.deref-15.ensures.value ∙ declared))) i;
      map_class = (c.unwrap_or-3.ensures ∙ ap (λ o. unwrap_or o 0) (c.found_at-3.ensures ∙ ap (λ l. found_at l x.map_class) (c.deref-16.ensures.value ∙ declared))) i;
    })) ∙ around-made s x h k
