-- What a function is in short: a native of `this` and its parameter, a native of `this`, a field that is read, or a field that is
-- written (ECMA-408, 9.4 External Functions, 10.1.1 Operators, 10.2 Getters, 10.3 Setters).
use Rattle.std.specs.Prelude.{ℕ, List, [], ◌∷◌, Bool, true, false, ◌&&◌, nat_eq, nat_lt, Option, Some, None, cond}
use Rattle.dart_ir.specs.declared.class.Role.TheVariants.{Method}
use Rattle.dart_ir.specs.declared.native.NativeId.{NativeId}
use Rattle.core_program.specs.Core.{Leaf, Form, Cores, Part}
use Rattle.core_program.specs.Core as c
use Rattle.core_program.specs.Program.{Parameter, Function, Program}
use Rattle.evaluation.specs.Arguments.{is_required}
use Rattle.evaluation.specs.Classes.{function_at, member, member_at, member_function}
use Rattle.evaluation.specs.Parts.{form_of}

abbrev pub is_this_leaf : Leaf ℕ → Bool
is_this_leaf c.this = true
is_this_leaf leaf = false

abbrev pub is_this : Form ℕ → Bool
is_this (c.leaf leaf) = is_this_leaf leaf
is_this form = false

abbrev pub reads_leaf : Leaf ℕ → ℕ → Bool
reads_leaf (c.read y) x = nat_eq y x
reads_leaf leaf x = false

abbrev pub reads : Form ℕ → ℕ → Bool
reads (c.leaf leaf) x = reads_leaf leaf x
reads form x = false

abbrev pub native_of_job : c.Job ℕ → Option NativeId
native_of_job (c.native id) = Some id
native_of_job job = None

abbrev pub is_none : List ℕ → Bool
is_none [] = true
is_none (x ∷ xs) = false

-- ---- natives of `this` and a parameter

-- The operands are `this` and the variable.
abbrev pub are_operands : Cores ℕ → ℕ → Bool
are_operands (c.core_more first (c.core_more second c.no_cores)) x = is_this (form_of first) && reads (form_of second) x
are_operands forms x = false

-- the native of `this` and the variable that a form is
abbrev pub native_of_form : Form ℕ → ℕ → Option NativeId
native_of_form (c.row job forms []) x = cond (are_operands forms x) (native_of_job job) None
native_of_form form x = None

abbrev pub native_of_body : Part ℕ → ℕ → Option NativeId
native_of_body c.missing x = None
native_of_body (c.given one) x = native_of_form (form_of one) x

-- the parameter is given by place, and is a variable of the function
abbrev pub native_over : List (Parameter ℕ) → Function ℕ → Option NativeId
native_over (q ∷ []) f = cond (is_required q.shape && nat_lt q.var f.vars) (native_of_body f.body q.var) None
native_over parameters f = None

-- the native that a function is, none of whose variables has a cell
abbrev pub native_of : Function ℕ → Option NativeId
native_of f = cond (is_none f.cells && is_none f.captures) (native_over f.parameters f) None

abbrev pub native_of_function : Option (Function ℕ) → Option NativeId
native_of_function None = None
native_of_function (Some f) = native_of f

abbrev pub native_of_member : Program ℕ → Option ℕ → Option NativeId
native_of_member p None = None
native_of_member p (Some m) = native_of_function (function_at p (member_function (member_at p m)))

-- the native that the operator of the name is on objects of a class
abbrev pub operator : Program ℕ → ℕ → ℕ → Option NativeId
operator p k name = native_of_member p (member p (Some k) name Method)

-- ---- the site of an operator's parameter

abbrev pub site_of_parameters : List (Parameter ℕ) → Option ℕ
site_of_parameters [] = None
site_of_parameters (q ∷ qs) = Some q.site

abbrev pub site_of_function : Option (Function ℕ) → Option ℕ
site_of_function None = None
site_of_function (Some f) = site_of_parameters f.parameters

abbrev pub site_of_member : Program ℕ → Option ℕ → Option ℕ
site_of_member p None = None
site_of_member p (Some m) = site_of_function (function_at p (member_function (member_at p m)))

-- the site of the first parameter of the method of the name on objects of a class
abbrev pub operand_site : Program ℕ → ℕ → ℕ → Option ℕ
operand_site p k name = site_of_member p (member p (Some k) name Method)

-- ---- natives of `this`, and fields that are read

-- what a getter is that answers at once
pub data Reading : Type 0 where
  a_field : ℕ → Reading
  a_native : NativeId → Reading

abbrev pub native_reading : Bool → Option NativeId → Option Reading
native_reading true (Some id) = Some (a_native id)
native_reading b o = None

abbrev pub reading_of_row : c.Job ℕ → Cores ℕ → Option Reading
reading_of_row job (c.core_more first c.no_cores) = native_reading (is_this (form_of first)) (native_of_job job)
reading_of_row job forms = None

abbrev pub reading_of_leaf : Leaf ℕ → Option Reading
reading_of_leaf (c.field i) = Some (a_field i)
reading_of_leaf leaf = None

abbrev pub reading_of_form : Form ℕ → Option Reading
reading_of_form (c.leaf leaf) = reading_of_leaf leaf
reading_of_form (c.row job forms []) = reading_of_row job forms
reading_of_form form = None

abbrev pub reading_of_body : Part ℕ → Option Reading
reading_of_body c.missing = None
reading_of_body (c.given one) = reading_of_form (form_of one)

abbrev pub reading_over : List (Parameter ℕ) → Part ℕ → Option Reading
reading_over [] body = reading_of_body body
reading_over parameters body = None

abbrev pub reading_of_function : Option (Function ℕ) → Option Reading
reading_of_function None = None
reading_of_function (Some f) = reading_over f.parameters f.body

abbrev pub reading_of_member : Program ℕ → Option ℕ → Option Reading
reading_of_member p None = None
reading_of_member p (Some m) = reading_of_function (function_at p (member_function (member_at p m)))

-- ---- fields that are written

abbrev pub field_written : c.Unary ℕ → Option ℕ
field_written (c.field_write i) = Some i
field_written one = None

-- the field that a form writes with the variable
abbrev pub writing_of_form : Form ℕ → ℕ → Option ℕ
writing_of_form (c.unary one operand) x = cond (reads (form_of operand) x) (field_written one) None
writing_of_form form x = None

abbrev pub writing_of_body : Part ℕ → ℕ → Option ℕ
writing_of_body c.missing x = None
writing_of_body (c.given one) x = writing_of_form (form_of one) x

abbrev pub writing_over : List (Parameter ℕ) → Function ℕ → Option ℕ
writing_over (q ∷ []) f = cond (is_required q.shape && nat_lt q.var f.vars) (writing_of_body f.body q.var) None
writing_over parameters f = None

abbrev pub writing_of : Function ℕ → Option ℕ
writing_of f = cond (is_none f.cells && is_none f.captures) (writing_over f.parameters f) None

abbrev pub writing_of_function : Option (Function ℕ) → Option ℕ
writing_of_function None = None
writing_of_function (Some f) = writing_of f

abbrev pub writing_of_member : Program ℕ → Option ℕ → Option ℕ
writing_of_member p None = None
writing_of_member p (Some m) = writing_of_function (function_at p (member_function (member_at p m)))
