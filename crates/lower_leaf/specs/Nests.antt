-- A function that is handed in and translates function literals, at each depth up to a limit.
use Rattle.std.specs.Prelude.{ℕ, ◌≤◌, [], false, Result}
use Rattle.std.specs.declared.alloc.Global.{Global}
use denote.Ref.{Bor, MutBor}
use Rattle.dart_ir.specs.Ty.{dynamic}
use Rattle.dart_tree.specs.declared.parameter.Parameters.{Parameters}
use Rattle.dart_tree.specs.declared.statement.Body.{Body}
use Rattle.dart_tree.specs.Tree as t
use Rattle.dart_tree.specs.View as view
use Rattle.translation.specs.Functions as f
use Rattle.translation.specs.Productions as pr
use Rattle.translation.specs.Types.{function_type}
use Rattle.translation.specs.Walk as w
use Rattle.lower_leaf.specs.declared.fault.LowerFault.{LowerFault}
use Rattle.lower_leaf.specs.declared.state.State.{State}
use Rattle.lower_leaf.specs.Around.{Around}
use Rattle.lower_leaf.specs.Gives.{Gives, itself}
use Rattle.lower_leaf.specs.Seen.{seen}

-- a function literal, by the number of its declaration
abbrev pub literal : t.Parameters → t.Body → w.Walk ℕ
literal given body st =
    f.inner_function [] (function_type st dynamic given) w.unasked (f.bind_parameters false st given) (pr.body body) st

-- it translates function literals
pub record NestsFunction {S : Type 0} (around : S → Around) (limit : ℕ)
    (pre : Global → Bor S → MutBor State → ℕ → Bor Parameters → Bor Body → Type 0)
    (post : Global → Bor S → MutBor State → ℕ → Bor Parameters → Bor Body → Result ℕ LowerFault → MutBor State → Type 0) : Type 0 where
  pub callable : (alloc : Global) (outside : Bor S) (old : MutBor State) (depth : ℕ) (parameters : Bor Parameters) (body : Bor Body) →
      depth ≤ limit → pre alloc outside old depth parameters body
  pub gives : (alloc : Global) (outside : Bor S) (old new : MutBor State) (depth : ℕ) (parameters : Bor Parameters) (body : Bor Body)
      (result : Result ℕ LowerFault) → post alloc outside old depth parameters body result new →
      Gives itself result (seen (around outside.now) new.now)
      (literal (view.parameters parameters.now) (view.body body.now) (seen (around outside.now) old.now))
