-- Where there is no room for a node: nothing is read of what has one, and an operand of each row is a primary.
use Rattle.std.proofs.Common.{◌≡◌, ℕ, ◌-◌, not, false, List, None, Some, inl, inr, refl, ap, sym, ◌∙◌, arith, true, Ok, subst}
use Rattle.dart_base.specs.declared.place.Place.{Place}
use Rattle.dart_token.specs.declared.token.Token.{Token}
use Rattle.dart_token.specs.declared.sign.Sign.TheVariants as s
use Rattle.dart_token.specs.declared.word.Word.TheVariants as w
use Rattle.dart_tree.specs.Tree as t
use Rattle.dart_tree.specs.Tree.{Operand, Primary, Selector}
use Rattle.dart_tree.specs.Tokens.{expr_tokens, operand_tokens, primary_tokens, arguments_tokens, parameters_tokens, block_tokens}
use Rattle.grammar_laws.specs.Codes.{Within, nowhere}
use Rattle.grammar_laws.specs.Readers.{Reader, nothing, mapped, Outcome, and_then}
use Rattle.grammar_laws.specs.Fronts.{Front, Either, EitherFit, GoodFit, Made, Nothing, Empty}
use Rattle.grammar_laws.specs.Laws.{Laws}
use Rattle.grammar_laws.proofs.Codes.{clash, inside, within_then}
use Rattle.grammar_laws.proofs.Restated.{made_laws, nothing_laws}
use Rattle.dart_syntax.specs.Phrases.{Phrase, ◌~◌, made}
use Rattle.dart_syntax.specs.Leaves as l
use Rattle.dart_syntax.specs.Edges.{leaves}
use Rattle.dart_syntax.specs.Expressions as g
use Rattle.dart_syntax.specs.Statements as gs
use Rattle.dart_syntax.specs.Statements.{within}
use Rattle.dart_syntax.proofs.AgreeingStages.{within_agrees}
use Rattle.token_codes.specs.Codes.{class_of, these}
use Rattle.syntax_readers.specs.Combinators.{Open, behind_brackets, with_half}
use Rattle.syntax_readers.specs.Primaries.{expr_first, operand_first, parenthesis, primary}
use Rattle.syntax_readers.specs.Levels as rl
use Rattle.syntax_readers.specs.Levels.{whole, target, is_bare, assigns}
use Rattle.syntax_readers.specs.Statements as rs
use Rattle.syntax_readers.specs.Statements.{stage}
use Rattle.laws_expr.specs.Nexts.{after_expr, after_primary, after_operand}
use Rattle.laws_expr.specs.Statements.{OthersReadAt, InsideReadAt, collection_first, objects_over, collections_within, functions_within}
use Rattle.laws_expr.proofs.Open.{OpenLaws, open_spelling, after_open, bare, tree, no_some, open_checked_laws, open_restated, open_wider, open_first, open_strict_laws, Settled, restated_settled, checked_settled, wider_settled, first_kept}
use Rattle.laws_expr.proofs.Chain.{half_operand, looser, looser_half}
use Rattle.laws_expr.proofs.Functions.{half_expr, half_primary}
use Rattle.laws_expr.proofs.Enclosed.{within_encloses}
use Rattle.laws_expr.proofs.Bracketed.{parenthesized_bracketed, parenthesized_of}
use Rattle.laws_expr.proofs.Parentheses.{Bodied, parenthesis_laws, parenthesized_settled}
use Rattle.laws_expr.proofs.Primaries.{primary_laws, primary_settled}
use Rattle.laws_expr.proofs.Stages.{known_at, names_dot_at}
use Rattle.laws_expr.proofs.Unary.{primary_first}
use Rattle.laws_expr.proofs.Selected.{selected_on, primary_on, primary_on_half}
use Rattle.laws_expr.proofs.Sets.{not_false}
use Rattle.laws_expr.proofs.Depths.{row_of, RowFits, row_front}
use Rattle.laws_expr.proofs.Rising.{not_bare_at}
use Rattle.laws_expr.proofs.Primary.{PrimaryFits, AloneFits, primary_front}

-- ---- nodes

abbrev pub no_laws : {A : Type 0} (tokens : A → List Token) (first : List ℕ) (next half : A → List ℕ) → OpenLaws nothing tokens Nothing Empty first next half
no_laws tokens first next half = record {
  Fits = Nothing;
  none_in = λ x wrong. wrong;
  none_out = λ x wrong. wrong;
  some_out = λ x g wrong. wrong;
  laws = nothing_laws (open_spelling tokens) first (after_open next half) false;
}

pub expr_none : OpenLaws (stage 0).nodes.exprs.expr expr_tokens (within 0).nodes.expr_nodes.expr.Fits (within 0).nodes.expr_nodes.expr.front expr_first after_expr half_expr
unfolding rs.stage gs.within
expr_none = no_laws expr_tokens expr_first after_expr half_expr

pub inside_none : InsideReadAt 0
unfolding rs.stage gs.within
inside_none = record { expr = open_strict_laws expr_none; arguments = nothing_laws arguments_tokens (these s.LeftParenthesis) nowhere false }

-- parameters and blocks, of which there are none either
pub others_none : OthersReadAt 0
unfolding rs.stage gs.within
others_none = record { parameters = nothing_laws parameters_tokens (these s.LeftParenthesis) nowhere false; block = nothing_laws block_tokens (these s.LeftBrace) nowhere false }

pub function_none : OpenLaws (stage 0).nodes.exprs.function primary_tokens (functions_within 0).Fits (functions_within 0).front (these s.LeftParenthesis) after_primary half_primary
unfolding rs.stage functions_within
function_none = no_laws primary_tokens (these s.LeftParenthesis) after_primary half_primary

function_ends : Bodied (functions_within 0).Fits (functions_within 0).front
unfolding functions_within
function_ends = record { ends = λ x wrong rest. absurd wrong; begins = λ ts f. inl (ap behind_brackets f) }

pub collection_none : Laws class_of (stage 0).nodes.exprs.collection primary_tokens (collections_within 0).Fits (collections_within 0).front collection_first nowhere false
unfolding rs.stage collections_within
collection_none = nothing_laws primary_tokens collection_first nowhere false

-- ---- primaries

abbrev nodes : g.ExprNodes
nodes = (within 0).nodes.expr_nodes

parenthesis_none : OpenLaws (parenthesis (stage 0).nodes.exprs) primary_tokens (EitherFit (functions_within 0).Fits (parenthesized_of nodes.expr).Fits) (Either (functions_within 0).front (parenthesized_of nodes.expr).front) (these s.LeftParenthesis) after_primary half_primary
parenthesis_none = parenthesis_laws (stage 0).nodes.exprs inside_none.expr (within_agrees 0).nodes.expr_nodes.expr (parenthesized_bracketed (within_encloses 0).nodes.expr_nodes.expr) function_none function_ends

abbrev Access : Phrase Primary
Access = made primary_tokens (λ (x : Place × Selector). t.super_access x.0 x.1) (l.word w.Super ~ g.selector_of nodes)

abbrev Atoms : Phrase Primary
Atoms = made primary_tokens t.atom l.atom

abbrev Texts : Phrase Primary
Texts = made primary_tokens t.text (g.strings nodes.expr)

abbrev ReadFits : Primary → Type 0
ReadFits = EitherFit Atoms.Fits (EitherFit Texts.Fits (EitherFit (EitherFit Access.Fits AloneFits) (EitherFit (objects_over nodes).Fits (EitherFit (EitherFit (functions_within 0).Fits (parenthesized_of nodes.expr).Fits) (collections_within 0).Fits))))

abbrev read_front : Front Token
read_front = Either Atoms.front (Either Texts.front (Either Access.front (Either (objects_over nodes).front (Either (Either (functions_within 0).front (parenthesized_of nodes.expr).front) (collections_within 0).front))))

forth : (x : Primary) → ReadFits x → PrimaryFits 0 x
unfolding gs.within functions_within collections_within
forth x (inl fits) = inl (inl fits)
forth x (inr (inl fits)) = inl (inr (inl fits))
forth x (inr (inr (inl (inl fits)))) = inl (inr (inr (inl fits)))
forth x (inr (inr (inl (inr fits)))) = inr fits
forth x (inr (inr (inr (inl fits)))) = inl (inr (inr (inr (inl fits))))
forth x (inr (inr (inr (inr (inl (inl wrong)))))) = absurd wrong
forth x (inr (inr (inr (inr (inl (inr fits)))))) = inl (inr (inr (inr (inr (inl fits)))))
forth x (inr (inr (inr (inr (inr wrong))))) = absurd wrong

back : (x : Primary) → PrimaryFits 0 x → ReadFits x
unfolding gs.within functions_within collections_within
back x (inl (inl fits)) = inl fits
back x (inl (inr (inl fits))) = inr (inl fits)
back x (inl (inr (inr (inl fits)))) = inr (inr (inl (inl fits)))
back x (inr fits) = inr (inr (inl (inr fits)))
back x (inl (inr (inr (inr (inl fits))))) = inr (inr (inr (inl fits)))
back x (inl (inr (inr (inr (inr (inl fits)))))) = inr (inr (inr (inr (inl (inr fits)))))
back x (inl (inr (inr (inr (inr (inr wrong)))))) = absurd wrong

out : (ts : List Token) → read_front ts → primary_front 0 ts
unfolding gs.within functions_within collections_within
out ts (inl f) = inl (inl f)
out ts (inr (inl f)) = inl (inr (inl f))
out ts (inr (inr (inl f))) = inl (inr (inr (inl f)))
out ts (inr (inr (inr (inl f)))) = inl (inr (inr (inr (inl f))))
out ts (inr (inr (inr (inr (inl (inl f)))))) = inl (inr (inr (inr (inr (inr f)))))
out ts (inr (inr (inr (inr (inl (inr f)))))) = inl (inr (inr (inr (inr (inl f)))))
out ts (inr (inr (inr (inr (inr f))))) = inl (inr (inr (inr (inr (inr f)))))

into : (ts : List Token) → primary_front 0 ts → read_front ts
unfolding gs.within functions_within collections_within
into ts (inl (inl f)) = inl f
into ts (inl (inr (inl f))) = inr (inl f)
into ts (inl (inr (inr (inl f)))) = inr (inr (inl f))
into ts (inr f) = inr (inr (inl (inl f)))
into ts (inl (inr (inr (inr (inl f))))) = inr (inr (inr (inl f)))
into ts (inl (inr (inr (inr (inr (inl f)))))) = inr (inr (inr (inr (inl (inr f)))))
into ts (inl (inr (inr (inr (inr (inr f)))))) = inr (inr (inr (inr (inr f))))

pub primary_none : OpenLaws (primary (stage 0).nodes.exprs) primary_tokens (PrimaryFits 0) (primary_front 0) primary_first after_primary half_primary
primary_none = open_restated (primary_laws (known_at 0 inside_none) (names_dot_at 0) collection_none parenthesis_none) forth back out into

-- a `>` behind them is stopped before
parenthesis_settled : (x : Primary) → EitherFit (functions_within 0).Fits (parenthesized_of nodes.expr).Fits x → Settled parenthesis_none x
unfolding functions_within parenthesis_none
parenthesis_settled x (inl wrong) = absurd wrong
parenthesis_settled x (inr fits) = parenthesized_settled (stage 0).nodes.exprs inside_none.expr (within_agrees 0).nodes.expr_nodes.expr (parenthesized_bracketed (within_encloses 0).nodes.expr_nodes.expr) function_none function_ends x fits

primary_none_settled : (next : ℕ) (x : Primary) → PrimaryFits 0 x → leaves next (t.primary x) ≡ true → Settled primary_none x
unfolding primary_none collections_within
primary_none_settled next x fits left = restated_settled (primary_laws (known_at 0 inside_none) (names_dot_at 0) collection_none parenthesis_none) forth back out into x
    (primary_settled (known_at 0 inside_none) (names_dot_at 0) collection_none parenthesis_none (λ y wrong. absurd wrong) next (λ y known off. parenthesis_settled y known) x (back x fits) left)

-- ---- a primary as an operand

module _ {q : Reader Token (Open Primary)} {F : Primary → Type 0} {front : Front Token} {first : List ℕ} (Q : OpenLaws q primary_tokens F front first after_primary half_primary) where
  alone_none_out : (x : Operand) → Made (with_half t.primary) Q.Fits (x, None) → Made t.primary F x
  alone_none_out x ((p, None), fits, is) = (p, Q.none_out p fits, ap tree is)
  alone_none_out x ((p, Some g), fits, is) = no_some (t.primary p, Some g) (x, None) is refl refl

  alone_some_out : (x : Operand) (g : Place) → Made (with_half t.primary) Q.Fits (x, Some g) → Made t.primary F x
  alone_some_out x g ((p, None), fits, is) = no_some (x, Some g) (t.primary p, None) (sym is) refl refl
  alone_some_out x g ((p, Some other), fits, is) = (p, Q.some_out p other fits, ap tree is)

  said : (x : Open Primary) → Q.Fits x → open_spelling operand_tokens (with_half t.primary x) ≡ open_spelling primary_tokens x
  unfolding operand_tokens
  said (p, None) fits = refl
  said (p, Some g) fits = refl

  pub alone_laws : OpenLaws (mapped (with_half t.primary) q) operand_tokens (Made t.primary F) front first (after_operand 12) (half_operand 12)
  alone_laws = record {
    Fits = Made (with_half t.primary) Q.Fits;
    none_in = λ x fits. ((fits.0, None), Q.none_in fits.0 fits.1, ap bare fits.2);
    none_out = alone_none_out;
    some_out = alone_some_out;
    laws = made_laws Q.laws (with_half t.primary) (open_spelling operand_tokens) (after_open (after_operand 12) (half_operand 12)) said on;
  } where
    on : (x : Open Primary) → Q.Fits x → Within (after_open after_primary half_primary x) (after_open (after_operand 12) (half_operand 12) (with_half t.primary x))
    on (p, None) fits = within_then (primary_on p) (selected_on (t.primary p))
    on (p, Some g) fits = primary_on_half p

  alone_settled : (p : Primary) → Settled Q p → Settled alone_laws (t.primary p)
  unfolding alone_laws operand_tokens
  alone_settled p (inl known) = inl (λ g. ((p, Some g), known g, refl))
  alone_settled p (inr stays) = inr (λ g ts. ap (λ (o : Outcome Token (Open Primary)). and_then o (λ a rest. Ok (with_half t.primary a, rest))) (stays g ts))

-- ---- rows and targets

plain : (p : Primary) → PrimaryFits 0 p → is_bare (t.primary p) ≡ false → (g.primary_of nodes).Fits p
plain p (inl fits) off = fits
plain p (inr (word, at, same)) off = clash (is_bare (t.primary p)) (ap (λ (z : Primary). is_bare (t.primary z)) (sym same)) off

module _ (i : ℕ) where
  row_forth : (x : Operand) → GoodFit (GoodFit (Made t.primary (PrimaryFits 0)) (λ y. not (is_bare y))) (λ y. not (is_bare y)) x → (row_of 0 i).Fits x
  unfolding gs.within
  row_forth x (((p, fits, is), good), again) = (p, plain p fits (ap is_bare is ∙ not_false (is_bare x) good), is)

  row_back : (x : Operand) → (row_of 0 i).Fits x → GoodFit (GoodFit (Made t.primary (PrimaryFits 0)) (λ y. not (is_bare y))) (λ y. not (is_bare y)) x
  unfolding gs.within
  row_back x (p, fits, is) = let good = ap not (not_bare_at 0 i x (p, fits, is)) in (((p, inl fits, is), good), good)

  row_out : (ts : List Token) → primary_front 0 ts → (row_of 0 i).front ts
  unfolding gs.within
  row_out ts (inl f) = f
  row_out ts (inr f) = inr (inr (inl (inl f)))

  row_into : (ts : List Token) → (row_of 0 i).front ts → primary_front 0 ts
  unfolding gs.within
  row_into ts f = inl f

  flat_forth : (x : Operand) → GoodFit (Made t.primary (PrimaryFits 0)) (λ y. not (is_bare y)) x → (row_of 0 i).Fits x
  unfolding gs.within
  flat_forth x ((p, fits, is), good) = (p, plain p fits (ap is_bare is ∙ not_false (is_bare x) good), is)

  flat_back : (x : Operand) → (row_of 0 i).Fits x → GoodFit (Made t.primary (PrimaryFits 0)) (λ y. not (is_bare y)) x
  unfolding gs.within
  flat_back x (p, fits, is) = ((p, inl fits, is), ap not (not_bare_at 0 i x (p, fits, is)))

  -- the operands of each row
  pub row_flat : OpenLaws ((stage 0).levels.row i) operand_tokens (row_of 0 i).Fits (row_of 0 i).front operand_first (after_operand (12 - i)) (half_operand (12 - i))
  unfolding rs.stage rl.flat_levels whole
  row_flat = open_first (open_wider (open_restated (open_checked_laws (alone_laws primary_none) (λ y. not (is_bare y))) flat_forth flat_back row_out row_into)
      (λ x fits. looser 12 (12 - i) x (omega arith)) (λ x fits. looser_half 12 (12 - i) x (omega arith))) (inside refl)

  pub row_flat_settled : (next : ℕ) (x : Operand) → (row_of 0 i).Fits x → leaves next x ≡ true → Settled row_flat x
  unfolding rs.stage rl.flat_levels whole row_flat gs.within
  row_flat_settled next x (p, fits, is) left =
      let checked = open_checked_laws (alone_laws primary_none) (λ y. not (is_bare y)) in
      let restated = open_restated checked flat_forth flat_back row_out row_into in
      let good : not (is_bare (t.primary p)) ≡ true = ap not (not_bare_at 0 i (t.primary p) (p, fits, refl)) in
      let one = primary_none_settled next p (inl fits) (subst (λ (y : Operand). leaves next y ≡ true) (sym is) left) in
      subst (Settled row_flat) is
      (first_kept (open_wider restated (λ y known. looser 12 (12 - i) y (omega arith)) (λ y known. looser_half 12 (12 - i) y (omega arith))) (inside refl) (t.primary p)
      (wider_settled restated (λ y known. looser 12 (12 - i) y (omega arith)) (λ y known. looser_half 12 (12 - i) y (omega arith)) (t.primary p)
      (restated_settled checked flat_forth flat_back row_out row_into (t.primary p) (checked_settled (alone_laws primary_none) (λ y. not (is_bare y)) (t.primary p) good (alone_settled primary_none p one)))))

  -- where `super` alone is refused once more
  pub row_none : OpenLaws (whole ((stage 0).levels.row i)) operand_tokens (row_of 0 i).Fits (row_of 0 i).front operand_first (after_operand (12 - i)) (half_operand (12 - i))
  unfolding rs.stage rl.flat_levels whole
  row_none = open_first (open_wider (open_restated (open_checked_laws (open_checked_laws (alone_laws primary_none) (λ y. not (is_bare y))) (λ y. not (is_bare y))) row_forth row_back row_out row_into)
      (λ x fits. looser 12 (12 - i) x (omega arith)) (λ x fits. looser_half 12 (12 - i) x (omega arith))) (inside refl)

  pub row_none_settled : (next : ℕ) (x : Operand) → (row_of 0 i).Fits x → leaves next x ≡ true → Settled row_none x
  unfolding rs.stage rl.flat_levels whole row_none gs.within
  row_none_settled next x (p, fits, is) left =
      let once = open_checked_laws (alone_laws primary_none) (λ y. not (is_bare y)) in
      let twice = open_checked_laws once (λ y. not (is_bare y)) in
      let restated = open_restated twice row_forth row_back row_out row_into in
      let good : not (is_bare (t.primary p)) ≡ true = ap not (not_bare_at 0 i (t.primary p) (p, fits, refl)) in
      let one = primary_none_settled next p (inl fits) (subst (λ (y : Operand). leaves next y ≡ true) (sym is) left) in
      subst (Settled row_none) is
      (first_kept (open_wider restated (λ y known. looser 12 (12 - i) y (omega arith)) (λ y known. looser_half 12 (12 - i) y (omega arith))) (inside refl) (t.primary p)
      (wider_settled restated (λ y known. looser 12 (12 - i) y (omega arith)) (λ y known. looser_half 12 (12 - i) y (omega arith)) (t.primary p)
      (restated_settled twice row_forth row_back row_out row_into (t.primary p)
      (checked_settled once (λ y. not (is_bare y)) (t.primary p) good (checked_settled (alone_laws primary_none) (λ y. not (is_bare y)) (t.primary p) good (alone_settled primary_none p one))))))

target_forth : (x : Operand) → GoodFit (Made t.primary (PrimaryFits 0)) assigns x → ((within 0).levels.target).Fits x
unfolding gs.within
target_forth x ((p, inl fits, is), on) = (p, (fits, ap assigns is ∙ on), is)
target_forth x ((p, inr (word, at, same), is), on) = clash (assigns x) on (ap assigns (sym is) ∙ ap g.primary_assigns (sym same))

target_back : (x : Operand) → ((within 0).levels.target).Fits x → GoodFit (Made t.primary (PrimaryFits 0)) assigns x
unfolding gs.within
target_back x (p, (fits, on), is) = ((p, inl fits, is), ap assigns (sym is) ∙ on)

target_out : (ts : List Token) → primary_front 0 ts → ((within 0).levels.target).front ts
unfolding gs.within
target_out ts (inl f) = f
target_out ts (inr f) = inr (inr (inl (inl f)))

target_into : (ts : List Token) → ((within 0).levels.target).front ts → primary_front 0 ts
unfolding gs.within
target_into ts f = inl f

pub target_none : OpenLaws (stage 0).levels.target operand_tokens ((within 0).levels.target).Fits ((within 0).levels.target).front primary_first (after_operand 12) (half_operand 12)
unfolding rs.stage rl.flat_levels target
target_none = open_restated (open_checked_laws (alone_laws primary_none) assigns) target_forth target_back target_out target_into

pub target_none_settled : (next : ℕ) (x : Operand) → ((within 0).levels.target).Fits x → leaves next x ≡ true → Settled target_none x
unfolding rs.stage rl.flat_levels target target_none gs.within
target_none_settled next x (p, (fits, on), is) left =
    let one = primary_none_settled next p (inl fits) (subst (λ (y : Operand). leaves next y ≡ true) (sym is) left) in
    subst (Settled target_none) is
    (restated_settled (open_checked_laws (alone_laws primary_none) assigns) target_forth target_back target_out target_into (t.primary p) (checked_settled (alone_laws primary_none) assigns (t.primary p) on (alone_settled primary_none p one)))

-- ---- a first operand, for which `super` alone has no room either

first_forth : (x : Operand) → (row_of 0 0).Fits x → RowFits 0 0 x
first_forth x fits = inl fits

first_back : (x : Operand) → RowFits 0 0 x → (row_of 0 0).Fits x
unfolding gs.within
first_back x (inl fits) = fits
first_back x (inr wrong) = absurd wrong

first_out : (ts : List Token) → (row_of 0 0).front ts → row_front 0 0 ts
first_out ts f = inl f

first_into : (ts : List Token) → row_front 0 0 ts → (row_of 0 0).front ts
unfolding gs.within
first_into ts (inl f) = f
first_into ts (inr none) = subst (row_of 0 0).front (sym none) (row_flat 0).laws.none

pub first_none : OpenLaws ((stage 0).levels.row 0) operand_tokens (RowFits 0 0) (row_front 0 0) operand_first (after_operand 12) (half_operand 12)
first_none = open_restated (row_flat 0) first_forth first_back first_out first_into

pub first_none_settled : (next : ℕ) (x : Operand) → RowFits 0 0 x → leaves next x ≡ true → Settled first_none x
unfolding first_none
first_none_settled next x fits left = restated_settled (row_flat 0) first_forth first_back first_out first_into x (row_flat_settled 0 next x (first_back x fits) left)
