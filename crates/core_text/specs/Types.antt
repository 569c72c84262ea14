-- Types.
use Rattle.std.specs.Prelude.{ℕ, List, [], ◌++◌, Bool, true, false, codes}
use Rattle.std.specs.Fmt.{decimal}
use Rattle.dart_ir.specs.Ty.{Ty, Tys, NamedTys, dynamic, bottom, void, class as class_ty, parameter, function as function_ty, nil, cons, unnamed, named}
use Rattle.core_program.specs.declared.program.CoreProgram.{CoreProgram}
use Rattle.core_text.specs.Name.{class_name, name}

abbrev mutual
  -- a type parameter is # and its number
  pub type_text : CoreProgram → Ty → List ℕ
  type_text x dynamic = codes "dynamic"
  type_text x bottom = codes "bottom"
  type_text x void = codes "void"
  type_text x (class_ty k ts) = class_name x k ++ arguments x ts
  type_text x (parameter i) = codes "#" ++ decimal i
  type_text x (function_ty result required optional parameters) = codes "(" ++ (listed x true required ++ (codes ")" ++
      (optionals x optional ++ (named_types x parameters ++ (codes " -> " ++ type_text x result)))))

  -- <A, B>
  pub arguments : CoreProgram → Tys → List ℕ
  arguments x nil = []
  arguments x (cons t ts) = codes "<" ++ ((type_text x t ++ listed x false ts) ++ codes ">")

  -- [A, B]
  pub optionals : CoreProgram → Tys → List ℕ
  optionals x nil = []
  optionals x (cons t ts) = codes "[" ++ ((type_text x t ++ listed x false ts) ++ codes "]")

  -- {n: A, m: B}
  pub named_types : CoreProgram → NamedTys → List ℕ
  named_types x unnamed = []
  named_types x (named n t ts) = codes "{" ++
      (((name x n ++ (codes ": " ++ type_text x t)) ++ listed_named x false ts) ++ codes "}")

  -- with commas between them: the first one has none in front
  pub listed : CoreProgram → Bool → Tys → List ℕ
  listed x is_first nil = []
  listed x true (cons t ts) = type_text x t ++ listed x false ts
  listed x false (cons t ts) = codes ", " ++ (type_text x t ++ listed x false ts)

  pub listed_named : CoreProgram → Bool → NamedTys → List ℕ
  listed_named x is_first unnamed = []
  listed_named x true (named n t ts) = (name x n ++ (codes ": " ++ type_text x t)) ++ listed_named x false ts
  listed_named x false (named n t ts) = codes ", " ++ ((name x n ++ (codes ": " ++ type_text x t)) ++ listed_named x false ts)

-- n: A
abbrev pub entry : CoreProgram → ℕ → Ty → List ℕ
entry x n t = name x n ++ (codes ": " ++ type_text x t)
