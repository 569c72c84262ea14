-- A type as the list of steps that make it: by it proofs tell types apart, where a value that contracts see holds types.
use Rattle.std.specs.Prelude.{◌≡◌, ℕ, zero, suc, List, [], ◌∷◌}
use Rattle.std.proofs.Common.{refl, ap, ◌∙◌}
use Rattle.std.specs.Coded.{Coded, code_by, coded×, coded_list, coded_ℕ}
use Rattle.dart_ir.specs.Ty.{Ty, Tys, NamedTys, dynamic, bottom, void, class, parameter, function, nil, cons, unnamed, named}

-- what was made and is not yet part of a type
pub data Part : Type 0 where
  a_type : Ty → Part
  some_types : Tys → Part
  some_named : NamedTys → Part

-- a kind of step and a number
abbrev pub Step : Type 0
Step = ℕ × ℕ

abbrev pub class_of : ℕ → List Part → List Part
class_of n (some_types ts ∷ parts) = a_type (class n ts) ∷ parts
class_of n parts = parts

abbrev pub function_of : List Part → List Part
function_of (some_named names ∷ some_types optional ∷ some_types required ∷ a_type result ∷ parts) =
    a_type (function result required optional names) ∷ parts
function_of parts = parts

abbrev pub cons_of : List Part → List Part
cons_of (some_types ts ∷ a_type t ∷ parts) = some_types (cons t ts) ∷ parts
cons_of parts = parts

abbrev pub named_of : ℕ → List Part → List Part
named_of n (some_named names ∷ a_type t ∷ parts) = some_named (named n t names) ∷ parts
named_of n parts = parts

abbrev pub made : ℕ → ℕ → List Part → List Part
made zero n parts = a_type dynamic ∷ parts
made (suc zero) n parts = a_type bottom ∷ parts
made (suc (suc zero)) n parts = a_type void ∷ parts
made (suc (suc (suc zero))) n parts = a_type (parameter n) ∷ parts
made (suc (suc (suc (suc zero)))) n parts = class_of n parts
made (suc (suc (suc (suc (suc zero))))) n parts = function_of parts
made (suc (suc (suc (suc (suc (suc zero)))))) n parts = some_types nil ∷ parts
made (suc (suc (suc (suc (suc (suc (suc zero))))))) n parts = cons_of parts
made (suc (suc (suc (suc (suc (suc (suc (suc zero)))))))) n parts = some_named unnamed ∷ parts
made (suc (suc (suc (suc (suc (suc (suc (suc (suc k))))))))) n parts = named_of n parts

abbrev pub made_by : List Step → List Part → List Part
made_by [] parts = parts
made_by (step ∷ more) parts = made_by more (made step.0 step.1 parts)

abbrev mutual
  pub steps : Ty → List Step → List Step
  steps dynamic more = (0, 0) ∷ more
  steps bottom more = (1, 0) ∷ more
  steps void more = (2, 0) ∷ more
  steps (parameter n) more = (3, n) ∷ more
  steps (class n ts) more = list_steps ts ((4, n) ∷ more)
  steps (function result required optional names) more =
      steps result (list_steps required (list_steps optional (named_steps names ((5, 0) ∷ more))))

  pub list_steps : Tys → List Step → List Step
  list_steps nil more = (6, 0) ∷ more
  list_steps (cons t ts) more = steps t (list_steps ts ((7, 0) ∷ more))

  pub named_steps : NamedTys → List Step → List Step
  named_steps unnamed more = (8, 0) ∷ more
  named_steps (named n t names) more = steps t (named_steps names ((9, n) ∷ more))

mutual
  made_again : (t : Ty) (more : List Step) (parts : List Part) → made_by (steps t more) parts ≡ made_by more (a_type t ∷ parts)
  made_again dynamic more parts = refl
  made_again bottom more parts = refl
  made_again void more parts = refl
  made_again (parameter n) more parts = refl
  made_again (class n ts) more parts = list_again ts ((4, n) ∷ more) parts
  made_again (function result required optional names) more parts =
      made_again result _ parts ∙ list_again required _ _ ∙ list_again optional _ _ ∙ named_again names _ _

  list_again : (ts : Tys) (more : List Step) (parts : List Part) → made_by (list_steps ts more) parts ≡ made_by more (some_types ts ∷ parts)
  list_again nil more parts = refl
  list_again (cons t ts) more parts = made_again t _ parts ∙ list_again ts _ _

  named_again : (names : NamedTys) (more : List Step) (parts : List Part) → made_by (named_steps names more) parts ≡ made_by more (some_named names ∷ parts)
  named_again unnamed more parts = refl
  named_again (named n t names) more parts = made_again t _ parts ∙ named_again names _ _

abbrev pub first_type : List Part → Ty
first_type (a_type t ∷ parts) = t
first_type parts = dynamic

abbrev pub type_of : List Step → Ty
type_of all = first_type (made_by all [])

pub again : (t : Ty) → type_of (steps t []) ≡ t
again t = ap first_type (made_again t [] [])

abbrev pub coded_ty : Coded Ty
coded_ty = code_by (List Step) (coded_list (coded× coded_ℕ coded_ℕ)) (λ t. steps t []) type_of again
