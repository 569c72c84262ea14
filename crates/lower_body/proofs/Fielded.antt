-- A class with its fields and their count.
use Rattle.std.proofs.Common.{◌≡◌, ◌∙◌, ℕ, List, Option, ap}
use Rattle.dart_tree.specs.Unit as u
use Rattle.translation.specs.ClassBodies as b
use Rattle.translation.specs.Classes as cl
use Rattle.translation.specs.Surroundings.{Text, Ty}
use Rattle.translation.specs.Walk.{State}
use Rattle.lower_body.specs.Views.{fields_in}

-- a class with these fields, whose values number so many variables
abbrev pub with_fields : ℕ → Option (List Ty) → Text → List cl.Field → ℕ → cl.Around
with_fields n arguments name fields count = record { class = n; arguments = arguments; name = name; fields = fields; count = count }

pub around_same : (n : ℕ) (arguments : Option (List Ty)) (name : Text) (none fields : List cl.Field) (count : ℕ) (members : List u.Member) (st st1 : State) →
    st1 ≡ st → fields ≡ fields_in (with_fields n arguments name none 0) members st → count ≡ cl.value_count (with_fields n arguments name fields 0) members st1 →
    with_fields n arguments name fields count ≡ b.around_in n arguments name members st
around_same n arguments name none fields count members st st1 same found counted =
    ap (λ (k : ℕ). with_fields n arguments name fields k) (counted ∙ ap (λ (z : State). cl.value_count (with_fields n arguments name fields 0) members z) same)
    ∙ ap (λ (l : List cl.Field). with_fields n arguments name l (cl.value_count (with_fields n arguments name l 0) members st)) found
