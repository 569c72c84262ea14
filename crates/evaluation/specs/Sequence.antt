-- How parts follow one another: steps, answers and what passes them by.
use Rattle.std.specs.Prelude.{ℕ, ◌-◌, nat_lt, List, [], ◌∷◌, ◌++◌, Bool, true, false}
use Rattle.dart_ir.specs.declared.value.Value.{Value}
use Rattle.dart_ir.specs.declared.value.Value.TheVariants.{Bool as Truth}
use Rattle.evaluation.specs.State.{answer, ended, out_of_steps, Outcome, ends, Meaning}

-- goes on with an answer; all else passes
abbrev pub on_answer : (Value → Meaning) → Outcome → Outcome
on_answer go (ends (answer v) st) = go v st
on_answer go (ends c st) = ends c st

abbrev pub taken : Bool → ℕ → Meaning → Meaning
taken true n go st = ends (ended out_of_steps) (record st { left = 0 })
taken false n go st = go (record st { left = st.left - n })

-- takes so many steps first; where fewer are left the turn ends, and all are used
abbrev pub taking : ℕ → Meaning → Meaning
taking n go st = taken (nat_lt st.left n) n go st

-- takes the step of a form that is entered
abbrev pub entering : Meaning → Meaning
entering go st = taking 1 go st

abbrev pub chosen : Bool → Meaning → Meaning → Meaning
chosen true first second = first
chosen false first second = second

abbrev pub is_true : Value → Bool
is_true (Truth b) = b
is_true v = false

-- the first exactly where the value is `true`
abbrev pub branch : Value → Meaning → Meaning → Meaning
branch v first second = chosen (is_true v) first second

-- in order; the answer is the last one's, or v where there is none
abbrev pub in_order : List Meaning → Value → Meaning
in_order [] v st = ends (answer v) st
in_order (part ∷ parts) v st = on_answer (in_order parts) (part st)

-- in order, and goes on with all the answers, behind vs
abbrev pub on_answers : (List Value → Meaning) → List Meaning → List Value → Meaning
on_answers go [] vs st = go vs st
on_answers go (part ∷ parts) vs st = on_answer (λ v. on_answers go parts (vs ++ v ∷ [])) (part st)
