-- The laws of one directive behind its metadata, where it may stand, and with its metadata (ECMA-408, 18 Libraries and Scripts).
use Rattle.std.proofs.Common.{◌≡◌, ℕ, zero, suc, ◌<◌, arith, Bool, true, false, ◌&&◌, List, [], ◌∷◌, ◌++◌, ◌⊎◌, inl, inr, refl, sym, ap, ◌∙◌, subst}
use Rattle.dart_base.specs.declared.place.Place.{Place}
use Rattle.dart_token.specs.declared.token.Token.{Token}
use Rattle.dart_token.specs.declared.sign.Sign.TheVariants as s
use Rattle.dart_tree.specs.LeafTokens.{sign_at}
use Rattle.dart_tree.specs.Depth.{metadata_height}
use Rattle.dart_tree.specs.Tree.{Expr, Metadata}
use Rattle.dart_tree.specs.Tokens.{metadata_tokens}
use Rattle.dart_tree.specs.Unit.{DirectiveKind}
use Rattle.dart_tree.specs.UnitTokens.{directive_kind_tokens, directive_tokens, decl_kind_tokens, decl_tokens}
use Rattle.grammar_laws.specs.Codes.{Apart, nowhere}
use Rattle.grammar_laws.specs.Depth.{is_below}
use Rattle.grammar_laws.specs.Readers.{Reader}
use Rattle.grammar_laws.specs.Laws.{Laws}
use Rattle.grammar_laws.proofs.Codes.{and_both, and_true, within_none}
use Rattle.grammar_laws.proofs.Restated.{made_laws, nothing_laws}
use Rattle.grammar_laws.proofs.Combined.{both_laws}
use Rattle.dart_syntax.specs.Phrases.{Phrase, ◌~◌, made, no_room}
use Rattle.dart_syntax.specs.Leaves as l
use Rattle.dart_syntax.specs.Expressions.{ExprNodes}
use Rattle.dart_syntax.specs.Statements.{within}
use Rattle.dart_syntax.specs.Units as p
use Rattle.token_codes.specs.Codes.{class_of, these}
use Rattle.token_codes.specs.Reads.{Reads}
use Rattle.token_codes.proofs.Leaves.{sign_reads}
use Rattle.syntax_readers.specs.Statements.{stage, closed}
use Rattle.syntax_readers.specs.Declarations.{node}
use Rattle.syntax_readers.specs.Units as i
use Rattle.syntax_readers.specs.Units.{Item, a_directive, a_decl}
use Rattle.laws_unit.specs.Statements.{metadata_at, MetadataGrowsAt}
use Rattle.laws_unit.proofs.Conditions.{GivenFit, given_front, only_laws}

-- the tokens of an item, and those behind its metadata
abbrev pub item_tokens : Item → List Token
item_tokens (a_directive x) = directive_tokens x
item_tokens (a_decl x) = decl_tokens x

abbrev pub behind_tokens : Item → List Token
behind_tokens (a_directive x) = directive_kind_tokens x.kind ++ sign_at x.semicolon s.Semicolon ∷ []
behind_tokens (a_decl x) = decl_kind_tokens x.kind

abbrev pub to_directive : Metadata → DirectiveKind × Place → Item
to_directive m x = a_directive (record { metadata = m; kind = x.0; semicolon = x.1 })

-- ---- one kind of directive, whose phrase has the tokens of its trees

abbrev pub Same : (ExprNodes → Phrase DirectiveKind) → Type 1
Same K = (inner : ExprNodes) (k : DirectiveKind) → (K inner).spelling k ≡ directive_kind_tokens k

-- the kind over what is one node less deep
abbrev pub Kind : (ExprNodes → Phrase DirectiveKind) → ℕ → Phrase DirectiveKind
Kind K zero = no_room directive_kind_tokens
Kind K (suc j) = K (within j).nodes.expr_nodes

-- the directive with its metadata, and behind that metadata
abbrev pub Of : (ExprNodes → Phrase DirectiveKind) → ℕ → Phrase Item
Of K n = made item_tokens a_directive (p.directive_within (λ inner. p.directive_over inner (K inner)) n)

abbrev pub Behind : (ExprNodes → Phrase DirectiveKind) → ℕ → Metadata → Phrase Item
Behind K n m = made behind_tokens (to_directive m) (Kind K n ~ l.sign s.Semicolon)

module _ (K : ExprNodes → Phrase DirectiveKind) (same : Same K) where
  pub kind_spells : (n : ℕ) (k : DirectiveKind) → (Kind K n).spelling k ≡ directive_kind_tokens k
  kind_spells zero k = refl
  kind_spells (suc j) k = same (within j).nodes.expr_nodes k

  module _ (read : Reader Token Expr → Reader Token DirectiveKind) (first : List ℕ) (next : DirectiveKind → List ℕ) where
    pub node_laws : (n : ℕ) → ((m : ℕ) → m < n → Reads (read (closed (stage m).nodes.exprs)) (K (within m).nodes.expr_nodes) first next false) → Reads (node (λ m. read (closed (stage m).nodes.exprs)) n) (Kind K n) first next false
    node_laws zero D = nothing_laws directive_kind_tokens first next false
    node_laws (suc j) D = D j (omega arith)

    module _ (n : ℕ) (D : Reads (node (λ m. read (closed (stage m).nodes.exprs)) n) (Kind K n) first next false) (off : (x : DirectiveKind) → Apart (next x) (these s.Semicolon)) where
      pub directive_laws : (m : Metadata) (may : Bool) → Laws class_of (i.directive n m may read) behind_tokens (GivenFit (may && is_below metadata_height n m) (Behind K n m).Fits) (given_front (may && is_below metadata_height n m) (Behind K n m).front) first nowhere false
      unfolding i.directive
      directive_laws m may = only_laws (made_laws (both_laws D (sign_reads s.Semicolon) (λ x fits. off x)) (to_directive m) behind_tokens nowhere (λ x fits. ap (λ (z : List Token). z ++ sign_at x.1 s.Semicolon ∷ []) (sym (kind_spells n x.0))) (λ x fits. within_none [])) (may && is_below metadata_height n m)

  -- ---- with its metadata

  module _ (G : (m : ℕ) → MetadataGrowsAt m) where
    lifted : (n : ℕ) (m : Metadata) (x : DirectiveKind × Place) → is_below metadata_height n m ≡ true → (metadata_at n).Fits m → (Kind K n ~ l.sign s.Semicolon).Fits x → (Of K n).Fits (to_directive m x)
    lifted zero m x below own fits = absurd fits.0
    lifted (suc j) m x below own fits = (record { metadata = m; kind = x.0; semicolon = x.1 }, ((m, x), ((G j).fits_less m own below, fits), refl), refl)

    pub forth : (n : ℕ) (m : Metadata) (may : Bool) (a : Item) → (metadata_at n).Fits m → GivenFit (may && is_below metadata_height n m) (Behind K n m).Fits a → GivenFit may (Of K n).Fits a
    forth n m may a own (on, (x, fits, is)) = let w = and_both may (is_below metadata_height n m) on in (w.0, subst (Of K n).Fits is (lifted n m x w.1 own fits))

    pub said : (n : ℕ) (m : Metadata) (b : Bool) (a : Item) → GivenFit b (Behind K n m).Fits a → item_tokens a ≡ metadata_tokens m ++ behind_tokens a
    said n m b a (on, (x, fits, is)) = subst (λ (c : Item). item_tokens c ≡ metadata_tokens m ++ behind_tokens c) is refl

    abbrev pub Parted : ℕ → Bool → Item → Type 0
    Parted n may a = (m : Metadata) × (metadata_at n).Fits m × GivenFit (may && is_below metadata_height n m) (Behind K n m).Fits a

    pub back : (n : ℕ) (may : Bool) (a : Item) → GivenFit may (Of K n).Fits a → Parted n may a
    back zero may a (on, (x, fits, is)) = absurd fits
    back (suc j) may a (on, (x, ((m, y), fits, so), is)) = (m, (G j).fits_more m fits.0, (and_true may (is_below metadata_height (suc j) m) on ((G j).below m fits.0), (y, fits.1, ap a_directive so ∙ is)))

    pub begun : (n : ℕ) (m : Metadata) (may : Bool) (more : List Token) → (metadata_at n).Fits m → given_front (may && is_below metadata_height n m) (Behind K n m).front more → (more ≡ []) ⊎ given_front may (Of K n).front (metadata_tokens m ++ more)
    begun n m may more own (inl e) = inl e
    begun zero m may more own (inr (on, inl e)) = inl e
    begun zero m may more own (inr (on, inr (x, rest, fits, go, e, f))) = absurd fits
    begun (suc j) m may more own (inr (on, f)) = let w = and_both may (is_below metadata_height (suc j) m) on in inr (inr (w.0, inr (m, more, (G j).fits_less m own w.1, refl, refl, f)))

    abbrev pub Opened : ℕ → Bool → List Token → Type 0
    Opened n may ts = (metadata_at n).front ts ⊎ ((m : Metadata) × (more : List Token) × (metadata_at n).Fits m × (ts ≡ metadata_tokens m ++ more) × given_front (may && is_below metadata_height n m) (Behind K n m).front more)

    pub opens : (n : ℕ) (may : Bool) (ts : List Token) → (may ≡ true) → (Of K n).front ts → (metadata_at n).front [] → Opened n may ts
    opens zero may ts on e none = inl (subst (metadata_at zero).front (sym e) none)
    opens (suc j) may ts on (inl f) none = inl ((G j).begins_more ts f)
    opens (suc j) may ts on (inr (m, more, fits, go, e, f)) none = inr (m, more, (G j).fits_more m fits, e, inr (and_true may (is_below metadata_height (suc j) m) on ((G j).below m fits), f))
