use Rattle.std.proofs.Common.{◌≡◌, ◌∙◌, map, Some, sym, ap, subst}
use Rattle.std.specs.List.{zip}
use Rattle.std.proofs.lemmas.Result.{IfOk-weaker}
use Rattle.core_program.specs.Named as with_names
use Rattle.core_program.specs.ProgramView as pv
use Rattle.dart_lower.specs.Given.{annotated_around, file_name, given_of, source_unit}
use Rattle.dart_tree.specs.UnitView as view
use Rattle.lower_annotation.specs.Annotated.{annotated}
use Rattle.lower_annotation.specs.Seen.{around_seen}
use Rattle.lower_leaf.specs.Around.{Around}
use Rattle.lower_program.specs.Views as translated
use Rattle.lower_table.specs.Made.{around_made}
use Rattle.scope_load.specs.State.{state_of}
use Rattle.scope_program.specs.Made.{AreScopesOf}
use Rattle.scope_program.specs.Program.{Scoping}
use Rattle.translation.specs.Program as p
use Rattle.dart_lower.proofs.Tables.{seen-alike}
use Rattle.dart_lower.proofs.lower.lower.Goals as goal

pub core_of-requires : goal.core_of-requires
core_of-requires c = record {
  inside = λ library of. ap (λ (a : Around). a.names (record { library = library; class = Some of })) c.over-outside.ensures
      ∙ sym (ap (λ (a : Around). a.tables.class_names of.0) c.over-outside.ensures);
}

pub returns : goal.returns
returns c =
    let x = c.args.scopes.now in
    let k = c.args.classes.now in
    let state = state_of c.args.loaded.now in
    let outside = c.over-outside.result in
    let seen = around_seen (around_made outside.base.now) outside.count outside.parameters.now outside.waits outside.aliases.now outside.entries.now outside.variables in
    let all = c.in_ok-all.all.items in
    let files = c.in_ok-files.files in
    let table = c.in_ok-table.table in
    let main = c.args.main in
    IfOk-weaker c.core_of.result
    (λ made. translated.outcome seen made ≡ p.core (translated.given seen all table files main))
    (λ made. (s : Scoping) → AreScopesOf s x → translated.outcome (annotated_around s state k) made ≡ p.core (given_of s state k main.0))
    (λ made known s h.
    let a = annotated_around s state k in
    let is : seen ≡ a = c.over-outside.ensures ∙ c.in_ok-annotations.ensures
    ∙ (λ i. annotated (λ place. h.places place i) (c.in_ok-base.ensures s h i) ((c.deref.ensures.value ∙ h.homes) i) (map view.unit (c.deref-2.ensures.value i))) in
    let given : translated.given a all table files main ≡ given_of s state k main.0 = λ i. record {
      units = (c.in_ok-all.ensures a ∙ (λ j. map (source_unit a) (zip ((c.deref-3.ensures.value ∙ h.homes) j) (map view.unit (c.deref-4.ensures.value j))))) i;
      first_names = a.names (translated.library_outer 0);
      tables = a.tables;
      files = (c.in_ok-files.ensures ∙ ap (map file_name) c.deref-5.ensures.value) i;
      classes = seen-alike (with_names.class (pv.text_at s.texts)) pv.class table.classes.items k.classes.items c.in_ok-table.ensures.classes i;
      members = seen-alike (with_names.member (pv.text_at s.texts)) pv.member table.members.items k.members.items c.in_ok-table.ensures.members i;
      function_class = (c.in_ok-table.ensures.function i).0;
      main = main.0;
    } in
    subst (λ (b : Around). translated.outcome b made ≡ p.core (translated.given b all table files main)) is known ∙ ap p.core given)
    c.core_of.ensures
