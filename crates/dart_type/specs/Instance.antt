-- Type arguments put in for parameters, and how large a type is.
use Rattle.std.specs.Prelude.{ℕ, zero, suc, ◌+◌}
use Rattle.dart_ir.specs.Ty.{Ty, Tys, NamedTys, dynamic, bottom, void, class, parameter, function, nil, cons, unnamed, named}

-- the argument for a parameter, or dynamic where there is none
abbrev pub argument : Tys → ℕ → Ty
argument nil i = dynamic
argument (cons first others) zero = first
argument (cons first others) (suc i) = argument others i

-- the arguments put in for the parameters of a type
abbrev mutual
  pub instance : Tys → Ty → Ty
  instance arguments dynamic = dynamic
  instance arguments bottom = bottom
  instance arguments void = void
  instance arguments (class c given) = class c (instances arguments given)
  instance arguments (parameter i) = argument arguments i
  instance arguments (function result required optional names) =
      function (instance arguments result) (instances arguments required)
      (instances arguments optional) (named_instances arguments names)

  pub instances : Tys → Tys → Tys
  instances arguments nil = nil
  instances arguments (cons first others) =
      cons (instance arguments first) (instances arguments others)

  pub named_instances : Tys → NamedTys → NamedTys
  named_instances arguments unnamed = unnamed
  named_instances arguments (named name first others) =
      named name (instance arguments first) (named_instances arguments others)

-- a named parameter with the arguments put in
abbrev pub named_instance : Tys → ℕ × Ty → ℕ × Ty
named_instance arguments one = (one.0, instance arguments one.1)

-- how many nodes a type has: itself, and those of the types in it
abbrev mutual
  pub node_count : Ty → ℕ
  node_count dynamic = 1
  node_count bottom = 1
  node_count void = 1
  node_count (class c given) = 1 + node_counts given
  node_count (parameter i) = 1
  node_count (function result required optional names) =
      1 + (node_count result
      + (node_counts required + (node_counts optional + named_node_count names)))

  pub node_counts : Tys → ℕ
  node_counts nil = 0
  node_counts (cons first others) = node_count first + node_counts others

  pub named_node_count : NamedTys → ℕ
  named_node_count unnamed = 0
  named_node_count (named name first others) = node_count first + named_node_count others
