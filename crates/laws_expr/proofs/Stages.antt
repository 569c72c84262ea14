-- The productions that end in no operand, at each depth.
use Rattle.std.proofs.Common.{◌≡◌, ℕ, zero, suc, false, [], ◌∷◌, inl, inr, refl, sym, ◌∙◌}
use Rattle.dart_token.specs.declared.token.Token.{Token}
use Rattle.dart_tree.specs.declared.identifier.Identifier.{Identifier}
use Rattle.dart_tree.specs.declared.expression.Atom.TheVariants as a
use Rattle.dart_tree.specs.LeafTokens.{type_tokens}
use Rattle.dart_tree.specs.Tree as t
use Rattle.grammar_laws.proofs.Restated.{nothing_laws}
use Rattle.dart_syntax.specs.Expressions as g
use Rattle.dart_syntax.specs.Statements as gs
use Rattle.dart_syntax.specs.Statements.{within}
use Rattle.dart_syntax.proofs.AgreeingStages.{within_agrees}
use Rattle.dart_syntax.proofs.AgreeingTypes.{one_name}
use Rattle.token_codes.specs.Reads.{Reads}
use Rattle.syntax_readers.specs.Types.{type_first}
use Rattle.syntax_readers.specs.Statements as rs
use Rattle.syntax_readers.specs.Statements.{stage}
use Rattle.laws_type.specs.Nexts.{after_type}
use Rattle.laws_type.proofs.Types.{types_read_at}
use Rattle.laws_expr.specs.Statements.{InsideReadAt, ProductionsReadAt, collections_within}
use Rattle.laws_expr.proofs.Known.{ClosedRead}
use Rattle.laws_expr.proofs.Strings.{strings_laws}
use Rattle.laws_expr.proofs.Selectors.{selector_laws, section_laws}
use Rattle.laws_expr.proofs.Literals.{collection_laws}
use Rattle.laws_expr.proofs.Arguments.{NamesFit, arguments_laws}
use Rattle.laws_expr.proofs.Objects.{NamesDot, names_dot, object_laws}

pub type_at : (n : ℕ) → Reads (stage n).nodes.exprs.type (within n).nodes.expr_nodes.type type_first after_type false
unfolding rs.stage gs.within rs.nodes_over gs.nodes_over
type_at zero = nothing_laws type_tokens type_first after_type false
type_at (suc n) = (types_read_at (suc n)).type

pub known_at : (n : ℕ) → InsideReadAt n → ClosedRead (stage n).nodes.exprs (within n).nodes.expr_nodes
known_at n known = record { type = type_at n; expr = known.expr; arguments = known.arguments; agrees = (within_agrees n).nodes.expr_nodes }

-- ---- a name alone is an expression wherever there is room for one

pub name_row : (n : ℕ) (x : Identifier) → (g.conditional (within n).levels).Fits (t.primary (t.atom (a.Name x)))
unfolding gs.within gs.nodes_over
name_row zero x = (t.atom (a.Name x), inl (a.Name x, tt, refl), refl)
name_row (suc n) x = inl (inl (inl (inl (inl (inl (inl (inl (inl (inl (inl (inl (inl (t.atom (a.Name x), inl (a.Name x, tt, refl), refl)))))))))))))

pub names_fit_at : (n : ℕ) → NamesFit (within n).nodes.expr_nodes.expr
unfolding gs.within gs.nodes_over
names_fit_at zero x = inr (λ e. none (one_name x).0 (sym (one_name x).1 ∙ e)) where
  none : (u : Token) → u ∷ [] ≡ [] → ⊥
  none u e = absurd cc
names_fit_at (suc n) x = inl (inr (inl ((t.primary (t.atom (a.Name x)), []), inl (name_row n x, refl), refl)))

pub names_dot_at : (n : ℕ) → NamesDot (within n).nodes.expr_nodes.type
unfolding gs.within gs.nodes_over
names_dot_at zero = record { fits = λ name dot fits. absurd fits; begun = λ name ts fits f. absurd fits }
names_dot_at (suc n) = names_dot (suc n)

pub productions_at : (n : ℕ) → InsideReadAt n → ProductionsReadAt n
unfolding rs.stage gs.within rs.nodes_over gs.nodes_over collections_within
productions_at n known =
    let N : ClosedRead (stage n).nodes.exprs (within n).nodes.expr_nodes = known_at n known in
    record {
      strings = strings_laws N.expr N.agrees.expr;
      selector = selector_laws N;
      section = section_laws N;
      object = object_laws N (names_dot_at n);
      collection = collection_laws N;
      arguments = arguments_laws N.expr N.agrees.expr (names_fit_at n);
    }
