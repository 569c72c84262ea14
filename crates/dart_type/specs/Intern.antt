-- Means of proof, which no public contract cites: interned types, a list of nodes, each over nodes
-- before it.
use Rattle.std.specs.Prelude.{◌≡◌, ℕ, ◌<◌, ◌≤◌, List, [], ◌∷◌, ◌++◌, length, map, All, slice_index_or}
use Rattle.dart_ir.specs.Ty.{Ty, Tys, NamedTys, dynamic, bottom, void, class, function, of_list, of_named}
use Rattle.dart_type.specs.declared.intern.NamedNode.{NamedNode}
use Rattle.dart_type.specs.declared.intern.Node.{Node}
use Rattle.dart_type.specs.declared.intern.Node.TheVariants.{Dynamic, Bottom, Void, Class, Function}

-- the type of a number
abbrev pub read : List Ty → ℕ → Ty
read ts i = slice_index_or ts i dynamic

abbrev pub reads : List Ty → List ℕ → Tys
reads ts is = of_list (map (read ts) is)

-- a named parameter with the type of its number
abbrev pub named_read : List Ty → NamedNode → ℕ × Ty
named_read ts n = (n.name, read ts n.of)

abbrev pub named_reads : List Ty → List NamedNode → NamedTys
named_reads ts ns = of_named (map (named_read ts) ns)

-- the type of a node over the types of the nodes before it
abbrev pub node_type : List Ty → Node → Ty
node_type ts Dynamic = dynamic
node_type ts Bottom = bottom
node_type ts Void = void
node_type ts (Class c is) = class c (reads ts is.items)
node_type ts (Function f) = function (read ts f.result) (reads ts f.required.items)
    (reads ts f.optional.items) (named_reads ts f.named.items)

unfoldable pub grow : List Ty → List Node → List Ty
grow ts [] = ts
grow ts (n ∷ ns) = grow (ts ++ node_type ts n ∷ []) ns

-- the types of the nodes in order
unfoldable pub types : List Node → List Ty
types ns = grow [] ns

abbrev pub AreBelow : ℕ → List ℕ → Type 0
AreBelow n is = All (λ i. i < n) is

abbrev pub AreNamedBelow : ℕ → List NamedNode → Type 0
AreNamedBelow n is = All (λ i. i.of < n) is

-- the nodes in a node come before number n
abbrev pub IsOver : ℕ → Node → Type 0
IsOver n Dynamic = Unit {0}
IsOver n Bottom = Unit {0}
IsOver n Void = Unit {0}
IsOver n (Class c is) = AreBelow n is.items
IsOver n (Function f) = (f.result < n) × AreBelow n f.required.items
    × AreBelow n f.optional.items × AreNamedBelow n f.named.items

-- each node is over nodes before it, and so has the type that it shows
pub record IsBuilt (ns : List Node) : Type 0 where
  pub over : (i : ℕ) (n : Node) → i < length ns → IsOver i (slice_index_or ns i n)
  pub shows : (i : ℕ) (n : Node) → i < length ns
      → read (types ns) i ≡ node_type (types ns) (slice_index_or ns i n)

-- the node of number t
pub record IsNodeOf (ns : List Node) (t : ℕ) (n : Node) : Type 0 where
  pub over : IsOver t n
  pub shows : read (types ns) t ≡ node_type (types ns) n

-- the same node, in other vectors
abbrev pub IsCopy : Node → Node → Type 0
IsCopy Dynamic Dynamic = Unit {0}
IsCopy Bottom Bottom = Unit {0}
IsCopy Void Void = Unit {0}
IsCopy (Class c is) (Class d js) = (c ≡ d) × (is.items ≡ js.items)
IsCopy (Function f) (Function g) = (f.result ≡ g.result)
    × (f.required.items ≡ g.required.items) × (f.optional.items ≡ g.optional.items) × (f.named.items ≡ g.named.items)
IsCopy m n = ⊥

-- more nodes, and the old ones with the types that they had
pub record Grows (old new : List Node) : Type 0 where
  pub built : IsBuilt new
  pub longer : length old ≤ length new
  pub same : (i : ℕ) → i < length old → read (types new) i ≡ read (types old) i

-- number i has type t
pub record Gives (old new : List Node) (i : ℕ) (t : Ty) : Type 0 where
  pub grows : Grows old new
  pub listed : i < length new
  pub shows : read (types new) i ≡ t

-- the numbers have these types
pub record GivesAll (old new : List Node) (is : List ℕ) (ts : List Ty) : Type 0 where
  pub grows : Grows old new
  pub listed : AreBelow (length new) is
  pub are : map (read (types new)) is ≡ ts

pub record GivesNamed (old new : List Node) (is : List NamedNode) (ts : List (ℕ × Ty)) : Type 0 where
  pub grows : Grows old new
  pub listed : AreNamedBelow (length new) is
  pub are : map (named_read (types new)) is ≡ ts
