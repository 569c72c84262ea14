-- Signatures without their types: other numbers for classes, and type arguments that are put in, change nothing then.
use Rattle.std.proofs.Common.{◌≡◌, ℕ, List, [], ◌∷◌, map, option_map, Option, Some, None, refl}
use Rattle.dart_ir.specs.Ty.{Ty, Tys, NamedTys, dynamic, bottom, void, class, parameter, function, nil, cons, unnamed, named, function_ty}
use Rattle.dart_type.specs.Instance.{instance, instances, named_instances}
use Rattle.core_program.specs.Stripped.{loose, all_dynamic, all_named_dynamic}
use Rattle.class_fault.specs.declared.program.Member.{Member}
use Rattle.class_table.specs.Renumbered.{renumbered, renumbered_all, renumbered_named}
use Rattle.class_table.specs.Members.{Described, declared_in, mixed_in}
use Rattle.laws_table.specs.Shape as shape
use Rattle.laws_table.proofs.Rows.{declared_seen}

all_renumbered : (ns : List ℕ) (ts : Tys) → all_dynamic (renumbered_all ns ts) ≡ all_dynamic (renumbered_all ns (all_dynamic ts))
all_renumbered ns nil = refl
all_renumbered ns (cons t ts) = λ r. cons dynamic (all_renumbered ns ts r)

named_renumbered : (ns : List ℕ) (ts : NamedTys) → all_named_dynamic (renumbered_named ns ts) ≡ all_named_dynamic (renumbered_named ns (all_named_dynamic ts))
named_renumbered ns unnamed = refl
named_renumbered ns (named n t ts) = λ r. named n dynamic (named_renumbered ns ts r)

loose_renumbered : (ns : List ℕ) (t : Ty) → loose (renumbered ns t) ≡ loose (renumbered ns (loose t))
loose_renumbered ns dynamic = refl
loose_renumbered ns bottom = refl
loose_renumbered ns void = refl
loose_renumbered ns (class c ts) = refl
loose_renumbered ns (parameter i) = refl
loose_renumbered ns (function result required optional names) =
    λ r. function dynamic (all_renumbered ns required r) (all_renumbered ns optional r) (named_renumbered ns names r)

all_instances : (given : Tys) (ts : Tys) → all_dynamic (instances given ts) ≡ all_dynamic (instances given (all_dynamic ts))
all_instances given nil = refl
all_instances given (cons t ts) = λ r. cons dynamic (all_instances given ts r)

named_instanced : (given : Tys) (ts : NamedTys) → all_named_dynamic (named_instances given ts) ≡ all_named_dynamic (named_instances given (all_named_dynamic ts))
named_instanced given unnamed = refl
named_instanced given (named n t ts) = λ r. named n dynamic (named_instanced given ts r)

loose_instance : (given : Tys) (t : Ty) → loose (instance given t) ≡ loose (instance given (loose t))
loose_instance given dynamic = refl
loose_instance given bottom = refl
loose_instance given void = refl
loose_instance given (class c ts) = refl
loose_instance given (parameter i) = refl
loose_instance given (function result required optional names) =
    λ r. function dynamic (all_instances given required r) (all_instances given optional r) (named_instanced given names r)

-- ---- members of a table

abbrev pub loose_described : Described → Described
loose_described x = record x { signature = loose x.signature }

abbrev pub loosened : List (Option Described) → List (Option Described)
loosened xs = map (option_map loose_described) xs

-- those that a class declares
pub declared_loose : (ns : List ℕ) (c : ℕ) (ms : List Member) → loosened (map (λ m. Some (declared_in ns c m)) ms)
    ≡ map (λ m. Some (loose_described (declared_seen ns c m))) (map shape.member ms)
declared_loose ns c [] = refl
declared_loose ns c (m ∷ ms) = λ r. Some (record (declared_in ns c m) { signature = loose_renumbered ns (function_ty m.signature) r }) ∷ declared_loose ns c ms r

-- those that a mixin has
mixed_one : (c : ℕ) (given : Tys) (o : Option Described) → option_map loose_described (option_map (mixed_in c given) o)
    ≡ option_map loose_described (option_map (mixed_in c given) (option_map loose_described o))
mixed_one c given None = refl
mixed_one c given (Some x) = λ r. Some (record (mixed_in c given x) { signature = loose_instance given x.signature r })

pub mixed_loose : (c : ℕ) (given : Tys) (xs : List (Option Described)) → loosened (map (option_map (mixed_in c given)) xs)
    ≡ loosened (map (option_map (mixed_in c given)) (loosened xs))
mixed_loose c given [] = refl
mixed_loose c given (x ∷ xs) = λ r. mixed_one c given x r ∷ mixed_loose c given xs r
