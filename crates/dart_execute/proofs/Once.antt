-- What becomes of a loaded program is one thing.
use Rattle.std.proofs.Common.{◌≡◌, ◌∙◌, refl, sym, ap, subst, ℕ, List, map, length, Bool, true, false, inl, inr, arith}
use Rattle.std.specs.List.{zip}
use Rattle.std.specs.Option.{option_map}
use Rattle.std.proofs.lemmas.List.{length-map}
use Rattle.std.proofs.lemmas.Option.{same_Some}
use Rattle.std.proofs.lemmas.Simd.{map-map}
use Rattle.dart_base.specs.Names.{AreDistinct}
use Rattle.dart_base.specs.declared.place.Place.{Place}
use Rattle.dart_ir.specs.declared.class.Classes.{Classes}
use Rattle.class_fault.specs.declared.fault.Fault.{Fault}
use Rattle.class_fault.specs.declared.program.Program as fault
use Rattle.class_reader.specs.Built.{IsRead, IsBuiltFrom, IsRefusedIn, IsOverlargeIn}
use Rattle.class_source.specs.Source.{SourceUnit, Given, classes_of}
use Rattle.class_source.specs.View as source
use Rattle.class_within.specs.Built.{IsTableFrom, IsFaultFrom, IsLargeFrom}
use Rattle.core_names.proofs.Found.{same_numbers}
use Rattle.core_program.specs.declared.program.CoreProgram.{CoreProgram}
use Rattle.core_program.specs.Named as named
use Rattle.core_program.specs.Program as c
use Rattle.core_program.specs.ProgramView as pv
use Rattle.dart_class.specs.Given.{class_given, source_units}
use Rattle.dart_lower.specs.Given.{annotated_around, given_of, source_unit}
use Rattle.dart_run.specs.Run.{IsRunOf, on_failure}
use Rattle.dart_run.specs.declared.mode.Mode.{Mode}
use Rattle.dart_run.specs.declared.written.Written.{Written}
use Rattle.dart_run.proofs.OneRun.{run_is_one}
use Rattle.evaluation.specs.Checks.{OnFailure, reports}
use Rattle.evaluation.specs.Turn.{Budget, new_isolate}
use Rattle.laws_class.specs.Same.{IsSameTable}
use Rattle.laws_scope.proofs.Scoped.{one_scoping}
use Rattle.laws_table.specs.Roots.{DeclaresRoots}
use Rattle.laws_table.proofs.Laws as table
use Rattle.lower_annotation.specs.Annotated.{annotated}
use Rattle.lower_program.specs.Views.{library_outer}
use Rattle.lower_table.specs.Rows.{rows_of, index_of}
use Rattle.lower_table.specs.Table.{table_around, around_by, meanings_of, source_of}
use Rattle.dart_run.specs.Written.{written}
use Rattle.evaluation.specs.Prelude.{known}
use Rattle.machine_frame.specs.Outside.{setting_of}
use Rattle.machine_turn.specs.Produced.{bare, main_turn}
use Rattle.scope_load.specs.State.{State}
use Rattle.scope_program.specs.Classes.{position_of}
use Rattle.scope_program.specs.Program.{Scoping}
use Rattle.table_accessor.proofs.Equal.{stay_equal}
use Rattle.translation.specs.Program as p
use Rattle.translation.specs.Surroundings.{Text}
use Rattle.dart_execute.specs.declared.execution.Execution.{Execution}
use Rattle.dart_execute.specs.declared.execution.Execution.TheVariants.{Refused, Ran}
use Rattle.dart_execute.specs.declared.cause.Cause.TheVariants as cause
use Rattle.dart_execute.specs.Execution.{mentions_isolate, with_names, IsCoreOf, RunsIf, Follows, IsTranslated, IsRefusedBy, IsTooLarge, ExecutesIn, Executes, class_cause}

-- ---- the table of classes

module _ (given : Given) (units : List SourceUnit) (texts : List Text) (distinct : AreDistinct texts) where
  roots : (q : fault.Program) → IsRead given units texts q → DeclaresRoots (classes_of given units)
  roots q read =
      let size : length q.declarations.items ≡ length (classes_of given units).classes =
      sym (length-map q.declarations.items (source.class texts)) ∙ ap length read.source.classes in
      let object = read.source.object in
      let function = read.source.function in
      let o = read.roots.object.declared in
      let f = read.roots.function.declared in
      record { object = omega (arith, size, object, o); function = omega (arith, size, function, f) }

  pub as_table : (k : Classes) → IsBuiltFrom given units texts k → IsTableFrom given units texts k
  as_table k (q, read, sized) = (q, read.source, read.within, sized)

  pub as_fault : (f : Fault) → IsRefusedIn given units texts f → IsFaultFrom given units texts f
  as_fault f (q, read, refused) = (q, read.source, read.within, refused)

  pub as_large : (place : Place) → IsOverlargeIn given units texts place → IsLargeFrom given units texts place
  as_large place (q, read, large) = (q, read.source, read.within, large)

  pub built_roots : (k : Classes) → IsBuiltFrom given units texts k → DeclaresRoots (classes_of given units)
  built_roots k (q, read, sized) = roots q read

  large_roots : (place : Place) → IsOverlargeIn given units texts place → DeclaresRoots (classes_of given units)
  large_roots place (q, read, large) = roots q read

  one_built : (k l : Classes) → IsBuiltFrom given units texts k → IsBuiltFrom given units texts l → IsSameTable k l
  one_built k l x y = table.one_table given units texts distinct k l (built_roots k x) (as_table k x) (as_table l y)

  one_fault : (f g : Fault) → IsRefusedIn given units texts f → IsRefusedIn given units texts g → f ≡ g
  one_fault f g x y = table.one_fault given units texts distinct f g (as_fault f x) (as_fault g y)

  one_place : (a b : Place) → IsOverlargeIn given units texts a → IsOverlargeIn given units texts b → a ≡ b
  one_place a b x y = table.one_place given units texts distinct a b (large_roots a x) (as_large a x) (as_large b y)

  fault_or_built : (f : Fault) (k : Classes) → IsRefusedIn given units texts f → IsBuiltFrom given units texts k → ⊥
  fault_or_built f k x y = table.no_table_with_a_fault given units texts distinct k f (as_table k y) (as_fault f x)

  large_or_built : (a : Place) (k : Classes) → IsOverlargeIn given units texts a → IsBuiltFrom given units texts k → ⊥
  large_or_built a k x y = table.no_table_with_a_large_type given units texts distinct k a (built_roots k y) (as_table k y) (as_large a x)

  fault_or_large : (f : Fault) (a : Place) → IsRefusedIn given units texts f → IsOverlargeIn given units texts a → ⊥
  fault_or_large f a x y = table.no_large_type_with_a_fault given units texts distinct f a (as_fault f x) (as_large a y)

-- ---- what is translated hangs on what is seen of the table

rows_same : (texts : List Text) (k l : Classes) → map pv.class k.classes.items ≡ map pv.class l.classes.items → rows_of texts k ≡ rows_of texts l
rows_same texts k l same =
    sym (map-map (named.class (pv.text_at texts)) pv.class k.classes.items)
    ∙ ap (map (named.class (pv.text_at texts))) same
    ∙ map-map (named.class (pv.text_at texts)) pv.class l.classes.items

members_same : (texts : List Text) (k l : Classes) → map pv.member k.members.items ≡ map pv.member l.members.items
    → map (λ x. named.member (pv.text_at texts) (pv.member x)) k.members.items ≡ map (λ x. named.member (pv.text_at texts) (pv.member x)) l.members.items
members_same texts k l same =
    sym (map-map (named.member (pv.text_at texts)) pv.member k.members.items)
    ∙ ap (map (named.member (pv.text_at texts))) same
    ∙ map-map (named.member (pv.text_at texts)) pv.member l.members.items

module _ (state : State) (s : Scoping) (main : ℕ) (k l : Classes) (classes : map pv.class k.classes.items ≡ map pv.class l.classes.items) (members : map pv.member k.members.items ≡ map pv.member l.members.items) (function : k.function ≡ l.function) where
  given_same : given_of s state k main ≡ given_of s state l main
  given_same = λ i. record (given_of s state k main) {
    units = map (source_unit (around_same i)) (zip s.homes state.units);
    first_names = (around_same i).names (library_outer 0);
    tables = (around_same i).tables;
    classes = rows i;
    members = members_same s.texts k l members i;
    function_class = (function i).0;
  }
    where
      rows : rows_of s.texts k ≡ rows_of s.texts l
      rows = rows_same s.texts k l classes

      table_same : table_around s k ≡ table_around s l
      table_same = λ i. around_by (meanings_of s) (rows i) (index_of (source_of s) (rows i))

      around_same : annotated_around s state k ≡ annotated_around s state l
      around_same = λ i. annotated (position_of s.numbered) (table_same i) s.homes state.units

-- ---- runs

-- what is run hangs on the program and its names
run_over : (x y : CoreProgram) (how : OnFailure) (b : Budget) (made : Written) → x.names ≡ y.names → pv.program x ≡ pv.program y
    → IsRunOf y how b made → IsRunOf x how b made
run_over x y how b made names same run =
    let renamed = sym names in
    let other = sym same in
    record {
      turn = run.turn;
      is_run = record {
        around = run.is_run.around;
        bare = record {
          program = run.is_run.bare.program ∙ ap bare other;
          names_same = run.is_run.bare.names_same ∙ renamed;
          known_same = run.is_run.bare.known_same ∙ (λ i. known (other i) (renamed i));
          failing_same = run.is_run.bare.failing_same;
          checked_same = λ (e : how ≡ reports). run.is_run.bare.checked_same e ∙ other;
        };
        valid = run.is_run.valid;
        first = run.is_run.first;
        is_turn = run.is_run.is_turn ∙ (λ i. option_map (main_turn (setting_of run.is_run.around) (other i) (renamed i) how b.depth) (new_isolate (other i) b));
      };
      is_written = run.is_written ∙ (λ i. written (other i).units (other i).sites run.turn);
    }

-- ---- one program in two modes

-- What holds of an answer and itself, and of what is written of one core's runs in these modes, holds of what becomes of one program.
module _ (mode other : Mode) (b : Budget) (Alike : Execution → Execution → Type 0) (itself : (x : Execution) → Alike x x)
    (runs : (x : CoreProgram) (made also : Written) → IsRunOf x (on_failure mode) b made → IsRunOf x (on_failure other) b also
    → Alike (Ran made) (Ran also)) where
  same : (x y : Execution) → x ≡ y → Alike x y
  same x y e = subst (Alike x) e (itself x)

  module _ (kept texts : List Text) (distinct : AreDistinct texts) where
    alike_runs : (k l : Classes) (of : c.Program Text) (x y : CoreProgram) (made also : Written) → IsCoreOf texts k of x → IsCoreOf texts l of y
        → IsRunOf (with_names kept x) (on_failure mode) b made → IsRunOf (with_names kept y) (on_failure other) b also → Alike (Ran made) (Ran also)
    alike_runs k l of x y made also is so run ran =
        let shown : named.program (pv.text_at texts) (pv.program x) ≡ named.program (pv.text_at texts) (pv.program y) =
        ap (λ (t : List Text). named.program (pv.text_at t) (pv.program x)) (sym is.names) ∙ is.same ∙ sym so.same
        ∙ ap (λ (t : List Text). named.program (pv.text_at t) (pv.program y)) so.names in
        let programs : pv.program x ≡ pv.program y = same_numbers texts distinct (pv.program x) (pv.program y) is.within so.within shown in
        runs (with_names kept x) made also run (run_over (with_names kept x) (with_names kept y) (on_failure other) b also refl programs ran)

    alike_runs_if : (isolates : Bool) (k l : Classes) (of : c.Program Text) (x y : Execution) → RunsIf isolates kept texts k of mode b x
        → RunsIf isolates kept texts l of other b y → Alike x y
    alike_runs_if true k l of x y is so = same x y (is ∙ sym so)
    alike_runs_if false k l of x y (core, made, is, run, e) (again, also, so, ran, f) =
        subst (λ u. Alike u y) (sym e) (subst (Alike (Ran made)) (sym f) (alike_runs k l of core again made also is so run ran))

    alike_follows : (state : State) (k l : Classes) (answer : p.Answer) (x y : Execution) → Follows state kept texts k mode b answer x
        → Follows state kept texts l other b answer y → Alike x y
    alike_follows state k l (p.accepted of) x y is so = alike_runs_if (mentions_isolate state) k l of x y is so
    alike_follows state k l (p.rejected why) x y is so = same x y (is ∙ sym so)
    alike_follows state k l p.not_built x y is so = same x y (is ∙ sym so)

  -- ---- the whole

  module _ (state : State) (s : Scoping) (distinct : AreDistinct s.texts) where
    alike_translated : (x y : Execution) → IsTranslated state s mode b x → IsTranslated state s other b y → Alike x y
    alike_translated x y is so =
        let tables = one_built (class_given state s) (source_units state) s.texts distinct is.table.built so.table.built is.table.is_built so.table.is_built in
        let seen = stay_equal s is.table.built so.table.built is.classes so.classes is.table.numbered so.table.numbered tables.classes tables.members tables.function in
        let mains : is.main ≡ so.main = same_Some is.main so.main (sym is.starts ∙ so.starts) in
        let given : given_of s state so.classes so.main ≡ given_of s state is.classes is.main =
        ap (given_of s state so.classes) (sym mains) ∙ sym (given_same state s is.main is.classes so.classes seen.0 seen.1 (is.table.numbered.function ∙ tables.function ∙ sym so.table.numbered.function)) in
        alike_follows s.kept s.texts distinct state is.classes so.classes (p.core (given_of s state is.classes is.main)) x y is.follows
        (subst (λ (g : p.Given). Follows state s.kept s.texts so.classes other b (p.core g) y) given so.follows)

    refusal_or_translated : (how : Mode) (x y : Execution) → IsRefusedBy state s x → IsTranslated state s how b y → ⊥
    refusal_or_translated how x y (f, refused, e) so = fault_or_built (class_given state s) (source_units state) s.texts distinct f so.table.built refused so.table.is_built

    large_or_translated : (how : Mode) (x y : Execution) → IsTooLarge state s x → IsTranslated state s how b y → ⊥
    large_or_translated how x y (place, large, e) so = large_or_built (class_given state s) (source_units state) s.texts distinct place so.table.built large so.table.is_built

    refusal_or_large : (x y : Execution) → IsRefusedBy state s x → IsTooLarge state s y → ⊥
    refusal_or_large x y (f, refused, e) (place, large, g) = fault_or_large (class_given state s) (source_units state) s.texts distinct f place refused large

    one_refusal : (x y : Execution) → IsRefusedBy state s x → IsRefusedBy state s y → x ≡ y
    one_refusal x y (f, refused, e) (g, also, h) =
        e ∙ ap (λ (t : Fault). Refused t.place (class_cause t.reason)) (one_fault (class_given state s) (source_units state) s.texts distinct f g refused also) ∙ sym h

    one_large : (x y : Execution) → IsTooLarge state s x → IsTooLarge state s y → x ≡ y
    one_large x y (place, large, e) (at, also, h) =
        e ∙ ap (λ (t : Place). Refused t cause.TypesTooLarge) (one_place (class_given state s) (source_units state) s.texts distinct place at large also) ∙ sym h

    alike_in : (x y : Execution) → ExecutesIn state s mode b x → ExecutesIn state s other b y → Alike x y
    alike_in x y (inl is) (inl so) = same x y (one_refusal x y is so)
    alike_in x y (inl is) (inr (inl so)) = absurd (refusal_or_large x y is so)
    alike_in x y (inl is) (inr (inr so)) = absurd (refusal_or_translated other x y is so)
    alike_in x y (inr (inl is)) (inl so) = absurd (refusal_or_large y x so is)
    alike_in x y (inr (inl is)) (inr (inl so)) = same x y (one_large x y is so)
    alike_in x y (inr (inl is)) (inr (inr so)) = absurd (large_or_translated other x y is so)
    alike_in x y (inr (inr is)) (inl so) = absurd (refusal_or_translated mode y x so is)
    alike_in x y (inr (inr is)) (inr (inl so)) = absurd (large_or_translated mode y x so is)
    alike_in x y (inr (inr is)) (inr (inr so)) = alike_translated x y is so

  pub alike_executions : (state : State) (x y : Execution) → Executes state mode b x → Executes state other b y → Alike x y
  alike_executions state x y (s, is, distinct, found) (t, so, also, found_too) =
      alike_in state s distinct x y found (subst (λ (r : Scoping). ExecutesIn state r other b y) (one_scoping state s t is so) found_too)

-- What becomes of a loaded program in a mode and within a budget is one thing.
pub one_execution : (state : State) (mode : Mode) (b : Budget) (x y : Execution) → Executes state mode b x → Executes state mode b y → x ≡ y
one_execution state mode b =
    alike_executions mode mode b (λ x y. x ≡ y) (λ x. refl) (λ x made also r s. ap Ran (run_is_one x (on_failure mode) b made also r s)) state
