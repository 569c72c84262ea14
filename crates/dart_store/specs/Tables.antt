-- The tables that objects of a store share, which grow at their ends alone.
use Rattle.std.specs.Prelude.{◌≡◌, ℕ, zero, suc, ◌++◌, List, [], ◌∷◌, length, map, take, drop, slice_index_or}
use Rattle.std.specs.Global.{Vec}
use Rattle.dart_ir.specs.declared.types.TypeRef.{TypeRef}
use Rattle.dart_ir.specs.declared.value.Value.{Value}
use Rattle.dart_ir.specs.declared.value.Value.TheVariants.{Null}
use Rattle.dart_ir.specs.Ty.{Ty, ty, dynamic}

-- the types of a vector
abbrev pub type_list : Vec TypeRef → List Ty
type_list types = map ty types.items

-- the list of types of a number, of which 0 is the empty list
abbrev pub types_at : List (List Ty) → ℕ → List Ty
types_at lists zero = []
types_at lists (suc n) = slice_index_or lists n []

-- the first type of a list
abbrev pub first_type : List Ty → Ty
first_type [] = dynamic
first_type (t ∷ ts) = t

-- the receiver of a number, of which 0 is null
abbrev pub receiver_at : List Value → ℕ → Value
receiver_at receivers zero = Null
receiver_at receivers (suc n) = slice_index_or receivers n Null

-- so many units from a place on
abbrev pub text_at : List ℕ → ℕ → ℕ → List ℕ
text_at units start len = take len (drop start units)

-- the second list begins with the first one
abbrev pub Begins : {A : Type 0} → List A → List A → Type 0
Begins a b = b ≡ a ++ drop (length a) b
