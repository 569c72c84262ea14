-- Lists of types that are all dynamic.
use Rattle.std.proofs.Common.{◌≡◌, ℕ, List, [], ◌∷◌, map, refl, ap}
use Rattle.dart_ir.specs.Ty.{Ty, dynamic, cons, named, of_list, of_named}
use Rattle.core_program.specs.Stripped.{all_dynamic, all_named_dynamic}
use Rattle.core_program.specs.Loose.{loose_named}

pub loose_types : (ts : List Ty) → of_list (map (λ _. dynamic) ts) ≡ all_dynamic (of_list ts)
loose_types [] = refl
loose_types (t ∷ ts) = ap (cons dynamic) (loose_types ts)

pub loose_names : (ns : List (ℕ × Ty)) → of_named (map loose_named ns) ≡ all_named_dynamic (of_named ns)
loose_names [] = refl
loose_names (n ∷ ns) = ap (named n.0 dynamic) (loose_names ns)

pub ruleset loosened = (loose_types, loose_names)
