-- In production the erased program runs where the program runs, and writes the same, each with its own table of names.
use Rattle.std.proofs.Common.{◌≡◌, ◌∙◌, refl, sym, ap, subst, ℕ, Bool, false, List, ◌++◌, length, Option, Some, None, inl, inr}
use Rattle.std.proofs.lemmas.Option.{same_Some}
use Rattle.dart_base.specs.Names.{AreDistinct}
use Rattle.dart_base.specs.declared.place.Place.{Place}
use Rattle.class_fault.specs.declared.fault.Fault.{Fault}
use Rattle.class_reader.specs.Built.{IsOverlargeIn, IsRefusedIn}
use Rattle.class_source.specs.Source.{classes_of}
use Rattle.class_within.specs.Built.{IsFaultFrom, IsLargeFrom, IsTableFrom}
use Rattle.core_names.specs.Within.{AreWithin}
use Rattle.core_program.specs.declared.program.CoreProgram.{CoreProgram}
use Rattle.core_program.specs.Named as named
use Rattle.core_program.specs.Program as c
use Rattle.core_program.specs.ProgramView as pv
use Rattle.dart_class.specs.Given.{class_given, source_units}
use Rattle.dart_execute.specs.Execution.{Executes, ExecutesIn, Follows, IsTableOf, IsTranslated, RunsIf, with_names}
use Rattle.dart_execute.specs.declared.execution.Execution.{Execution}
use Rattle.dart_execute.specs.declared.execution.Execution.TheVariants.{Ran}
use Rattle.dart_execute.proofs.Once.{as_fault, as_large, as_table, built_roots}
use Rattle.dart_ir.specs.declared.class.Classes.{Classes}
use Rattle.dart_lower.specs.Given.{given_of}
use Rattle.dart_run.proofs.AlikeRuns.{alike_runs_are_one}
use Rattle.dart_run.specs.declared.mode.Mode.TheVariants.{Production}
use Rattle.dart_run.specs.declared.written.Written.{Written}
use Rattle.dart_run.specs.Laws.{AreAlikeStripped}
use Rattle.evaluation.specs.Turn.{Budget}
use Rattle.laws_annotation.proofs.Given.{lines_same}
use Rattle.laws_annotation.proofs.Scopes.{own_scoping}
use Rattle.laws_annotation.proofs.Tabled.{no_fault, no_large_type, tables_differ}
use Rattle.laws_annotation.specs.Erased.{erased_scoping, erased_state}
use Rattle.laws_annotation.specs.Tables.{DifferInSignaturesAlone}
use Rattle.laws_scope.proofs.Absorbing.{all_begin}
use Rattle.laws_table.proofs.More.{fault_longer, large_longer, table_longer}
use Rattle.laws_table.specs.Roots.{DeclaresRoots}
use Rattle.laws_translation.proofs.Again.{read_again}
use Rattle.laws_translation.proofs.Whole.{named_refused}
use Rattle.laws_translation.specs.Bare.{forgotten}
use Rattle.lower_core.specs.Runnable as runnable
use Rattle.scope_load.specs.State.{State}
use Rattle.scope_library.specs.Library.{homes_of}
use Rattle.scope_program.specs.Program.{Scoping}
use Rattle.translation.specs.Program as p
use Rattle.translation.specs.Surroundings.{Text}
use Rattle.laws_execution.proofs.Across.{same_across}
use Rattle.laws_execution.proofs.Bare.{bare_of, program_bare}
use Rattle.laws_execution.proofs.Kept.{AreBelow, own, given_same, numbered_below, numbered_same, table_below}
use Rattle.laws_execution.proofs.Ran.{HasRun, has_run}

-- the core of an answer, or this one
abbrev core_in : c.Program Text → p.Answer → c.Program Text
core_in otherwise (p.accepted made) = made
core_in otherwise other = otherwise

-- a program with a core has no member with a result type and its class's name
unnamed : (x : p.Given) (of : c.Program Text) → p.core x ≡ p.accepted of → (found : Option Place) → p.named_as_class x.units ≡ found
    → p.named_as_class x.units ≡ None
unnamed x of accepted None e = e
unnamed x of accepted (Some place) e = absurd (named_refused x place of e accepted)

-- an answer that is a core but for annotations is one
accepted_of : (answer : p.Answer) (of : c.Program Text) → forgotten answer ≡ forgotten (p.accepted of) → (made : c.Program Text) × (answer ≡ p.accepted made)
accepted_of (p.accepted made) of e = (made, refl)
accepted_of (p.rejected why) of e = absurd cc
accepted_of p.not_built of e = absurd cc

module _ (state : State) (s : Scoping) (more : List Text) (begins : s.texts ≡ s.kept ++ more) (distinct : AreDistinct s.texts)
    (own_distinct : AreDistinct s.kept) (b : Budget) (made : Written) (is : HasRun state s b made) where
  abbrev without : Scoping
  without = erased_scoping s

  -- what names mean in the erased program, with its own table of names
  abbrev bare : Scoping
  bare = own without more begins

  abbrev given : p.Given
  given = given_of s state is.classes is.main

  from : IsTableFrom (class_given state s) (source_units state) s.texts is.table.built
  from = as_table (class_given state s) (source_units state) s.texts distinct is.table.built is.table.is_built

  roots : DeclaresRoots (classes_of (class_given state s) (source_units state))
  roots = built_roots (class_given state s) (source_units state) s.texts distinct is.table.built is.table.is_built

  -- ---- no header of the erased program has a reason

  no_fault_there : (f : Fault) → IsRefusedIn (class_given (erased_state state) without) (source_units (erased_state state)) s.kept f → ⊥
  no_fault_there f refused =
      no_fault s state is.table.built distinct f from
      (subst (λ (t : List Text). IsFaultFrom (class_given (erased_state state) without) (source_units (erased_state state)) t f) (sym begins)
      (fault_longer s.kept more (class_given (erased_state state) without) (source_units (erased_state state)) f
      (as_fault (class_given (erased_state state) without) (source_units (erased_state state)) s.kept own_distinct f refused)))

  no_large_there : (place : Place) → IsOverlargeIn (class_given (erased_state state) without) (source_units (erased_state state)) s.kept place → ⊥
  no_large_there place large =
      no_large_type s state is.table.built distinct place roots from
      (subst (λ (t : List Text). IsLargeFrom (class_given (erased_state state) without) (source_units (erased_state state)) t place) (sym begins)
      (large_longer s.kept more (class_given (erased_state state) without) (source_units (erased_state state)) place
      (as_large (class_given (erased_state state) without) (source_units (erased_state state)) s.kept own_distinct place large)))

  -- ---- the erased program over the program's table of names

  module _ (l : Classes) (table : IsTableOf (erased_state state) bare l) where
    abbrev erased : p.Given
    erased = given_of without (erased_state state) l is.main

    below : AreBelow (length s.kept) l
    below = numbered_below (length s.kept) bare table.built l table.numbered
        (table_below (length s.kept) table.is_built.0 table.built table.is_built.2.table table.is_built.1.within)

    from_erased : IsTableFrom (class_given (erased_state state) without) (source_units (erased_state state)) s.texts table.built
    from_erased = subst (λ (t : List Text). IsTableFrom (class_given (erased_state state) without) (source_units (erased_state state)) t table.built) (sym begins)
        (table_longer s.kept more (class_given (erased_state state) without) (source_units (erased_state state)) table.built
        (as_table (class_given (erased_state state) without) (source_units (erased_state state)) s.kept own_distinct table.built table.is_built))

    differ : DifferInSignaturesAlone s.texts l is.classes
    differ = tables_differ s state is.table.built table.built is.classes l distinct roots from is.table.numbered
        from_erased (numbered_same without more begins table.built l below table.numbered)

    answers : forgotten (p.core erased) ≡ forgotten (p.core given)
    answers = read_again given erased (unnamed given is.of is.is_core (p.named_as_class given.units) refl) (lines_same s state is.classes l is.main differ)

    own_core : p.core (given_of bare (erased_state state) l is.main) ≡ p.core erased
    own_core = ap p.core (given_same without more begins (erased_state state) l is.main below)

    accepted : (of : c.Program Text) × (p.core (given_of bare (erased_state state) l is.main) ≡ p.accepted of)
    accepted =
        let r = accepted_of (p.core erased) is.of (answers ∙ ap forgotten is.is_core) in (r.0, own_core ∙ r.1)

  mains : (main : ℕ) → bare.main ≡ Some main → is.main ≡ main
  mains main starts = same_Some is.main main (sym is.starts ∙ starts)

  -- ---- the cores, and what runs of them

  module _ (other : Written) (so : HasRun (erased_state state) bare b other) where
    core_of_erased : p.core (erased so.classes so.table) ≡ p.accepted so.of
    core_of_erased =
        sym (own_core so.classes so.table) ∙ ap (λ (n : ℕ). p.core (given_of bare (erased_state state) so.classes n)) (mains so.main so.starts) ∙ so.is_core

    cores : bare_of so.of ≡ bare_of is.of
    cores = ap (core_in (bare_of so.of)) (sym (ap forgotten core_of_erased) ∙ answers so.classes so.table ∙ ap forgotten is.is_core)

    -- what runs, with names as their texts
    shown : (texts : List Text) (z : CoreProgram) (of : c.Program Text) → z.names ≡ texts → pv.text_program z ≡ runnable.program of
        → bare_of (named.program (pv.text_at texts) (pv.program z)) ≡ runnable.program (bare_of of)
    shown texts z of names same = ap (λ (t : List Text). bare_of (named.program (pv.text_at t) (pv.program z))) (sym names) ∙ ap bare_of same ∙ program_bare of

    longer : List Text
    longer = s.kept ++ more

    alike_stripped : AreAlikeStripped (with_names s.kept is.program) (with_names s.kept so.program)
    unfolding longer
    alike_stripped = record {
      names = refl;
      alike = same_across s.kept more (subst AreDistinct begins distinct) (pv.program is.program) (pv.program so.program)
          (subst (λ (t : List Text). AreWithin (length t) (pv.program is.program)) begins is.core.within) so.core.within
          (shown longer is.program is.of (is.core.names ∙ begins) is.core.same ∙ ap runnable.program (sym cores)
          ∙ sym (shown s.kept so.program so.of so.core.names so.core.same));
    }

    same_run : other ≡ made
    same_run = sym (alike_runs_are_one (with_names s.kept is.program) (with_names s.kept so.program) b made other alike_stripped is.run so.run)

  -- ---- what becomes of the erased program

  module _ (out : Execution) where
    runs : (h : IsTranslated (erased_state state) bare Production b out) (of : c.Program Text)
        → p.core (given_of bare (erased_state state) h.classes h.main) ≡ p.accepted of
        → RunsIf false s.kept s.kept h.classes of Production b out → out ≡ Ran made
    runs h of e (x, other, core, run, ran) =
        let so : HasRun (erased_state state) bare b other =
        record { classes = h.classes; main = h.main; of = of; program = x; table = h.table; starts = h.starts; is_core = e; core = core; run = run; alone = is.alone } in
        ran ∙ ap Ran (same_run other so)

    translated : IsTranslated (erased_state state) bare Production b out → out ≡ Ran made
    translated h =
        let r = accepted h.classes h.table in
        let e : p.core (given_of bare (erased_state state) h.classes h.main) ≡ p.accepted r.0 =
        ap (λ (n : ℕ). p.core (given_of bare (erased_state state) h.classes n)) (sym (mains h.main h.starts)) ∙ r.1 in
        let follows : Follows (erased_state state) s.kept s.kept h.classes Production b (p.accepted r.0) out =
        subst (λ (answer : p.Answer). Follows (erased_state state) s.kept s.kept h.classes Production b answer out) e h.follows in
        runs h r.0 e (subst (λ (isolates : Bool). RunsIf isolates s.kept s.kept h.classes r.0 Production b out) is.alone follows)

    becomes : ExecutesIn (erased_state state) bare Production b out → out ≡ Ran made
    becomes (inl (f, refused, e)) = absurd (no_fault_there f refused)
    becomes (inr (inl (place, large, e))) = absurd (no_large_there place large)
    becomes (inr (inr h)) = translated h

pub erased_runs : (state : State) (b : Budget) (made : Written) (out : Execution) → Executes state Production b (Ran made)
    → Executes (erased_state state) Production b out → out ≡ Ran made
erased_runs state b made out run (t, own_is, own_distinct, found) =
    let (s, is, distinct, has) = has_run state b made run in
    let names = all_begin (homes_of state) state.units in
    let begins : s.texts ≡ s.kept ++ names.0 = is.texts ∙ names.1 ∙ ap (λ (kept : List Text). kept ++ names.0) (sym is.kept) in
    let same : t ≡ own (erased_scoping s) names.0 begins = own_scoping state s t is own_is in
    becomes state s names.0 begins distinct (subst (λ (r : Scoping). AreDistinct r.texts) same own_distinct) b made has out
    (subst (λ (r : Scoping). ExecutesIn (erased_state state) r Production b out) same found)
