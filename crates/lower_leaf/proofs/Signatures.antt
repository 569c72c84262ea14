-- The types of parameters as lists.
use Rattle.std.proofs.Common.{◌≡◌, List, [], ◌∷◌, refl, ap}
use Rattle.dart_ir.specs.Ty.{TysOf, NamedTysOf, cons, named}
use Rattle.dart_tree.specs.Tree as t
use Rattle.translation.specs.Surroundings.{Text, Ty, name_in}
use Rattle.translation.specs.Types as y
use Rattle.translation.specs.Walk.{State}
use Rattle.lower_leaf.specs.Kept.{in_order}

abbrev pub type_list : State → t.ParameterList → List Ty
type_list st t.no_parameters = []
type_list st (t.parameter one more) = y.type_of_parameter st one ∷ type_list st more

abbrev pub name_list : State → t.ParameterList → List (Text × Ty)
name_list st t.no_parameters = []
name_list st (t.parameter one more) =
    (name_in st.names.library (y.name_of_parameter one), y.type_of_parameter st one) ∷ name_list st more

pub types_listed : (st : State) (all : t.ParameterList) → y.parameter_types st all ≡ y.tys (type_list st all)
types_listed st t.no_parameters = refl
types_listed st (t.parameter one more) = ap (λ (rest : TysOf Text). cons (y.type_of_parameter st one) rest) (types_listed st more)

pub names_listed : (st : State) (all : t.ParameterList) → y.named_types st all ≡ in_order (name_list st all)
names_listed st t.no_parameters = refl
names_listed st (t.parameter one more) =
    ap (λ (rest : NamedTysOf Text). named (name_in st.names.library (y.name_of_parameter one)) (y.type_of_parameter st one) rest) (names_listed st more)

pub ruleset listed = (types_listed, names_listed)
