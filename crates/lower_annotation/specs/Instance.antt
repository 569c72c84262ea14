-- Type arguments put in for parameters, how large a type is, and whether the type of null is in it, whatever names are.
use Rattle.std.specs.Prelude.{ℕ, zero, suc, ◌+◌, Bool, true, false, ◌||◌}
use Rattle.dart_ir.specs.Ty.{TyOf, TysOf, NamedTysOf, dynamic, bottom, void, class, parameter, function, nil, cons, unnamed, named}

-- the argument for a parameter, or dynamic where there is none
abbrev pub argument : {N : Type 0} → TysOf N → ℕ → TyOf N
argument nil i = dynamic
argument (cons first others) zero = first
argument (cons first others) (suc i) = argument others i

-- the arguments put in for the parameters of a type
abbrev mutual
  pub instance : {N : Type 0} → TysOf N → TyOf N → TyOf N
  instance arguments dynamic = dynamic
  instance arguments bottom = bottom
  instance arguments void = void
  instance arguments (class c given) = class c (instances arguments given)
  instance arguments (parameter i) = argument arguments i
  instance arguments (function result required optional names) =
      function (instance arguments result) (instances arguments required)
      (instances arguments optional) (named_instances arguments names)

  pub instances : {N : Type 0} → TysOf N → TysOf N → TysOf N
  instances arguments nil = nil
  instances arguments (cons first others) = cons (instance arguments first) (instances arguments others)

  pub named_instances : {N : Type 0} → TysOf N → NamedTysOf N → NamedTysOf N
  named_instances arguments unnamed = unnamed
  named_instances arguments (named name first others) =
      named name (instance arguments first) (named_instances arguments others)

-- how many nodes a type has: itself, and those of the types in it
abbrev mutual
  pub node_count : {N : Type 0} → TyOf N → ℕ
  node_count dynamic = 1
  node_count bottom = 1
  node_count void = 1
  node_count (class c given) = 1 + node_counts given
  node_count (parameter i) = 1
  node_count (function result required optional names) =
      1 + (node_count result + (node_counts required + (node_counts optional + named_node_count names)))

  pub node_counts : {N : Type 0} → TysOf N → ℕ
  node_counts nil = 0
  node_counts (cons first others) = node_count first + node_counts others

  pub named_node_count : {N : Type 0} → NamedTysOf N → ℕ
  named_node_count unnamed = 0
  named_node_count (named name first others) = node_count first + named_node_count others

-- whether the type of null is in a type
abbrev mutual
  pub has_bottom : {N : Type 0} → TyOf N → Bool
  has_bottom dynamic = false
  has_bottom bottom = true
  has_bottom void = false
  has_bottom (class c given) = have_bottom given
  has_bottom (parameter i) = false
  has_bottom (function result required optional names) =
      has_bottom result || (have_bottom required || (have_bottom optional || named_have_bottom names))

  pub have_bottom : {N : Type 0} → TysOf N → Bool
  have_bottom nil = false
  have_bottom (cons first others) = has_bottom first || have_bottom others

  pub named_have_bottom : {N : Type 0} → NamedTysOf N → Bool
  named_have_bottom unnamed = false
  named_have_bottom (named name first others) = has_bottom first || named_have_bottom others
