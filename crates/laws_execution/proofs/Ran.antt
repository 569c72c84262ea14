-- What there is of a program that ran in production.
use Rattle.std.proofs.Common.{◌≡◌, refl, subst, ℕ, List, Bool, true, false, Some, inl, inr}
use Rattle.dart_base.specs.Names.{AreDistinct}
use Rattle.core_program.specs.declared.program.CoreProgram.{CoreProgram}
use Rattle.core_program.specs.Program as c
use Rattle.dart_execute.specs.Execution.{Executes, ExecutesIn, Follows, IsCoreOf, IsTableOf, IsTranslated, RunsIf, mentions_isolate, with_names}
use Rattle.dart_execute.specs.declared.execution.Execution.{Execution}
use Rattle.dart_execute.specs.declared.execution.Execution.TheVariants.{Ran}
use Rattle.dart_ir.specs.declared.class.Classes.{Classes}
use Rattle.dart_lower.specs.Given.{given_of}
use Rattle.dart_run.specs.declared.mode.Mode.TheVariants.{Production}
use Rattle.dart_run.specs.declared.written.Written.{Written}
use Rattle.dart_run.specs.Run.{IsRunOf}
use Rattle.evaluation.specs.Checks.{lets_pass}
use Rattle.evaluation.specs.Turn.{Budget}
use Rattle.scope_load.specs.State.{State}
use Rattle.scope_program.specs.Program.{Scoping, IsScoping}
use Rattle.translation.specs.Program as p
use Rattle.translation.specs.Surroundings.{Text}

-- its core over the table of its classes, from its function `main`, and what runs of it
pub record HasRun (state : State) (s : Scoping) (b : Budget) (made : Written) : Type 0 where
  pub classes : Classes
  pub main : ℕ
  pub of : c.Program Text
  pub program : CoreProgram
  pub table : IsTableOf state s classes
  pub starts : s.main ≡ Some main
  pub is_core : p.core (given_of s state classes main) ≡ p.accepted of
  pub core : IsCoreOf s.texts classes of program
  pub run : IsRunOf (with_names s.kept program) lets_pass b made
  pub alone : mentions_isolate state ≡ false

-- a core that runs, which may start no isolates
pub record RunsAs (isolates : Bool) (kept texts : List Text) (k : Classes) (b : Budget) (made : Written) (answer : p.Answer) : Type 0 where
  pub of : c.Program Text
  pub program : CoreProgram
  pub is : answer ≡ p.accepted of
  pub core : IsCoreOf texts k of program
  pub run : IsRunOf (with_names kept program) lets_pass b made
  pub alone : isolates ≡ false

module _ (kept texts : List Text) (k : Classes) (b : Budget) (made : Written) where
  runs_if : (isolates : Bool) (of : c.Program Text) (out : Execution) → out ≡ Ran made → RunsIf isolates kept texts k of Production b out
      → RunsAs isolates kept texts k b made (p.accepted of)
  runs_if true of out is e = absurd cc
  runs_if false of out is (x, also, core, run, e) =
      let same : also ≡ made = cc in
      record { of = of; program = x; is = refl; core = core; run = subst (IsRunOf (with_names kept x) lets_pass b) same run; alone = refl }

  follows : (state : State) (answer : p.Answer) (out : Execution) → out ≡ Ran made → Follows state kept texts k Production b answer out
      → RunsAs (mentions_isolate state) kept texts k b made answer
  follows state (p.accepted of) out is h = runs_if (mentions_isolate state) of out is h
  follows state (p.rejected why) out is h = absurd cc
  follows state p.not_built out is h = absurd cc

translated : (state : State) (s : Scoping) (b : Budget) (made : Written) (out : Execution) → out ≡ Ran made → IsTranslated state s Production b out
    → HasRun state s b made
translated state s b made out is h =
    let r = follows s.kept s.texts h.classes b made state (p.core (given_of s state h.classes h.main)) out is h.follows in
    record {
      classes = h.classes;
      main = h.main;
      of = r.of;
      program = r.program;
      table = h.table;
      starts = h.starts;
      is_core = r.is;
      core = r.core;
      run = r.run;
      alone = r.alone;
    }

executes_in : (state : State) (s : Scoping) (b : Budget) (made : Written) (out : Execution) → out ≡ Ran made → ExecutesIn state s Production b out
    → HasRun state s b made
executes_in state s b made out is (inl (f, refused, e)) = absurd cc
executes_in state s b made out is (inr (inl (place, large, e))) = absurd cc
executes_in state s b made out is (inr (inr h)) = translated state s b made out is h

pub has_run : (state : State) (b : Budget) (made : Written) → Executes state Production b (Ran made)
    → (s : Scoping) × IsScoping state s × AreDistinct s.texts × HasRun state s b made
has_run state b made (s, is, distinct, found) = (s, is, distinct, executes_in state s b made (Ran made) refl found)
