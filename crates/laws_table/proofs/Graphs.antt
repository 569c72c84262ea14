-- Programs of one shape have one graph.
use Rattle.std.proofs.Common.{◌≡◌, ℕ, List, Some, sym, ◌∙◌}
use Rattle.class_order.specs.declared.header.Header.{Header}
use Rattle.class_fault.specs.declared.program.Declaration.{Declaration}
use Rattle.class_fault.specs.declared.program.Program.{Program}
use Rattle.class_fault.specs.Program.{declaration_at}
use Rattle.class_fault.specs.Graph.{IsGraph}
use Rattle.laws_class.proofs.Sizes.{other}
use Rattle.laws_table.specs.Shape as shape
use Rattle.laws_table.proofs.Like.{length_like, declarations_like, above_like, applied_like}

-- a declaration of a program that is seen as this one
abbrev pub Counterpart : Program → ℕ → Declaration → Type 0
Counterpart q d i = (j : Declaration) × (declaration_at q d ≡ Some j) × (shape.class i ≡ shape.class j)

module _ (p q : Program) (same : shape.program p ≡ shape.program q) where
  pub there : (d : ℕ) (i : Declaration) → declaration_at p d ≡ Some i → Counterpart q d i
  there d i at = other shape.class p.declarations.items q.declarations.items (declarations_like p q same) d i at

  pub graph_like : (hs : List Header) → IsGraph q hs → IsGraph p hs
  graph_like hs g = record {
    size = g.size ∙ sym (length_like shape.class p.declarations.items q.declarations.items (declarations_like p q same));
    above = λ d i at. let j = there d i at in g.above d j.0 j.1 ∙ sym (above_like p q same i j.0 j.2 d);
    applications = λ d i at. let j = there d i at in g.applications d j.0 j.1 ∙ sym (applied_like p q same i j.0 j.2);
  }
