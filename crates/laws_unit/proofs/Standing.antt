-- The law of an item of a unit with its metadata, where it may stand: a directive, or a declaration (ECMA-408, 18 Libraries and Scripts).
use Rattle.std.proofs.Common.{◌≡◌, ℕ, Bool, false, ◌&&◌, List, [], ◌++◌, inl, inr, refl, sym, ap, ◌∙◌, subst}
use Rattle.dart_token.specs.declared.token.Token.{Token}
use Rattle.dart_token.specs.declared.sign.Sign.TheVariants as s
use Rattle.dart_token.specs.declared.word.Word.TheVariants as w
use Rattle.dart_tree.specs.Depth.{metadata_height}
use Rattle.dart_tree.specs.Tree.{Expr, Metadata}
use Rattle.dart_tree.specs.Tokens.{metadata_tokens}
use Rattle.dart_tree.specs.Unit.{DirectiveKind, DeclKind}
use Rattle.grammar_laws.specs.Codes.{nowhere}
use Rattle.grammar_laws.specs.Depth.{is_below}
use Rattle.grammar_laws.specs.Readers.{Reader, always}
use Rattle.grammar_laws.specs.Fronts.{Front, JointBy, Either, EitherFit, BothFitBy}
use Rattle.grammar_laws.specs.Laws.{Laws}
use Rattle.grammar_laws.proofs.Codes.{apart, inside, within_none}
use Rattle.grammar_laws.proofs.Restated.{made_laws, mapped_laws, restated}
use Rattle.grammar_laws.proofs.Combined.{both_by_any_laws}
use Rattle.grammar_laws.proofs.Chosen.{by_first_laws}
use Rattle.dart_syntax.specs.Phrases.{Phrase, made}
use Rattle.dart_syntax.specs.Expressions as g
use Rattle.dart_syntax.specs.Statements.{within}
use Rattle.dart_syntax.specs.Declarations as c
use Rattle.token_codes.specs.Codes.{class_of, these, this_word}
use Rattle.syntax_readers.specs.Statements.{stage, closed}
use Rattle.syntax_readers.specs.Units as i
use Rattle.syntax_readers.specs.Units.{Item, a_directive, a_decl, Still, may_begin, may_import, may_have_parts, item_first}
use Rattle.laws_unit.specs.Statements.{library_kind, import_kind, export_kind, part_kind, behind_export, behind_import, decl_kind_of, decl_first, metadata_at, MetadataGrowsAt, UnitPartsReadAt}
use Rattle.laws_unit.proofs.Directives.{library_laws, import_laws, export_laws}
use Rattle.laws_unit.proofs.Conditions.{GivenFit, given_front}
use Rattle.laws_unit.proofs.Items.{item_tokens, behind_tokens, Of, Behind, node_laws, directive_laws, forth, said, back, begun, opens}
use Rattle.laws_unit.proofs.PartHeaders as h
use Rattle.laws_unit.proofs.PartHeaders.{PartOf, part_or_header_laws}

abbrev pub Library : g.ExprNodes → Phrase DirectiveKind
Library inner = library_kind

abbrev read_library : Reader Token Expr → Reader Token DirectiveKind
read_library expr = i.library

abbrev to_decl : Metadata → DeclKind → Item
to_decl m x = a_decl (record { metadata = m; kind = x })

abbrev pub OfDecl : ℕ → Phrase Item
OfDecl n = made item_tokens a_decl (c.decl_within n)

abbrev BehindDecl : ℕ → Metadata → Phrase Item
BehindDecl n m = made behind_tokens (to_decl m) (decl_kind_of n)

-- ---- what fits, and what begins it

abbrev pub ItemFits : ℕ → Still → Item → Type 0
ItemFits n still = EitherFit (GivenFit (may_begin still) (Of Library n).Fits) (EitherFit (GivenFit (may_import still) (Of import_kind n).Fits) (EitherFit (GivenFit (may_import still) (Of export_kind n).Fits)
    (EitherFit (EitherFit (GivenFit (may_begin still) (Of PartOf n).Fits) (GivenFit (may_have_parts still) (Of part_kind n).Fits)) (OfDecl n).Fits)))

abbrev pub item_front : ℕ → Still → Front Token
item_front n still = Either (given_front (may_begin still) (Of Library n).front) (Either (given_front (may_import still) (Of import_kind n).front) (Either (given_front (may_import still) (Of export_kind n).front)
    (Either (Either (given_front (may_begin still) (Of PartOf n).front) (given_front (may_have_parts still) (Of part_kind n).front)) (OfDecl n).front)))

module _ (n : ℕ) (U : UnitPartsReadAt n) (G : (m : ℕ) → MetadataGrowsAt m) (still : Still) where
  abbrev room : Metadata → Bool
  room m = is_below metadata_height n m

  abbrev BehindFits : Metadata → Item → Type 0
  BehindFits m = EitherFit (GivenFit (may_begin still && room m) (Behind Library n m).Fits) (EitherFit (GivenFit (may_import still && room m) (Behind import_kind n m).Fits) (EitherFit (GivenFit (may_import still && room m) (Behind export_kind n m).Fits)
      (EitherFit (h.Fits n still m) (BehindDecl n m).Fits)))

  abbrev behind_front : Metadata → Front Token
  behind_front m = Either (given_front (may_begin still && room m) (Behind Library n m).front) (Either (given_front (may_import still && room m) (Behind import_kind n m).front) (Either (given_front (may_import still && room m) (Behind export_kind n m).front)
      (Either (h.front n still m) (BehindDecl n m).front)))

  abbrev behind_first : List ℕ
  behind_first = this_word w.Library ++ (this_word w.Import ++ (this_word w.Export ++ (h.part_code ++ decl_first)))

  behind_laws : (m : Metadata) → Laws class_of (i.item_behind n still m) behind_tokens (BehindFits m) (behind_front m) behind_first nowhere false
  unfolding i.item_behind
  behind_laws m = by_first_laws
      (directive_laws Library (λ inner k. refl) read_library (this_word w.Library) (λ x. these s.Dot) n (node_laws Library (λ inner k. refl) read_library (this_word w.Library) (λ x. these s.Dot) n (λ j less. library_laws)) (λ x. apart refl) m (may_begin still))
      (by_first_laws
      (directive_laws import_kind (λ inner k. refl) i.import (this_word w.Import) (λ x. behind_import) n (node_laws import_kind (λ inner k. refl) i.import (this_word w.Import) (λ x. behind_import) n (λ j less. import_laws (closed (stage j).nodes.exprs) (within j).nodes.expr_nodes (U.strings j less))) (λ x. apart refl) m (may_import still))
      (by_first_laws
      (directive_laws export_kind (λ inner k. refl) i.export (this_word w.Export) (λ x. behind_export) n (node_laws export_kind (λ inner k. refl) i.export (this_word w.Export) (λ x. behind_export) n (λ j less. export_laws (closed (stage j).nodes.exprs) (within j).nodes.expr_nodes (U.strings j less))) (λ x. apart refl) m (may_import still))
      (by_first_laws (part_or_header_laws n U.strings still m) (made_laws U.decl_kind (to_decl m) behind_tokens nowhere (λ x fits. refl) (λ x fits. within_none [])) (apart refl)) (apart refl)) (apart refl)) (apart refl)

  -- ---- with the metadata

  fits_of : (m : Metadata) (a : Item) → (metadata_at n).Fits m → BehindFits m a → ItemFits n still a
  fits_of m a own (inl f) = inl (forth Library (λ inner k. refl) G n m (may_begin still) a own f)
  fits_of m a own (inr (inl f)) = inr (inl (forth import_kind (λ inner k. refl) G n m (may_import still) a own f))
  fits_of m a own (inr (inr (inl f))) = inr (inr (inl (forth export_kind (λ inner k. refl) G n m (may_import still) a own f)))
  fits_of m a own (inr (inr (inr (inl (inl f))))) = inr (inr (inr (inl (inl (forth PartOf (λ inner k. refl) G n m (may_begin still) a own f)))))
  fits_of m a own (inr (inr (inr (inl (inr f))))) = inr (inr (inr (inl (inr (forth part_kind (λ inner k. refl) G n m (may_have_parts still) a own f)))))
  fits_of m a own (inr (inr (inr (inr (x, fits, is))))) = inr (inr (inr (inr (record { metadata = m; kind = x }, ((m, x), (own, fits), refl), is))))

  said_of : (m : Metadata) (a : Item) → BehindFits m a → item_tokens a ≡ metadata_tokens m ++ behind_tokens a
  said_of m a (inl f) = said Library (λ inner k. refl) G n m (may_begin still && room m) a f
  said_of m a (inr (inl f)) = said import_kind (λ inner k. refl) G n m (may_import still && room m) a f
  said_of m a (inr (inr (inl f))) = said export_kind (λ inner k. refl) G n m (may_import still && room m) a f
  said_of m a (inr (inr (inr (inl (inl f))))) = said PartOf (λ inner k. refl) G n m (may_begin still && room m) a f
  said_of m a (inr (inr (inr (inl (inr f))))) = said part_kind (λ inner k. refl) G n m (may_have_parts still && room m) a f
  said_of m a (inr (inr (inr (inr (x, fits, is))))) = subst (λ (b : Item). item_tokens b ≡ metadata_tokens m ++ behind_tokens b) is refl

  abbrev Pair : Type 0
  Pair = Metadata × Item

  abbrev PairFits : Pair → Type 0
  PairFits = BothFitBy (metadata_at n).Fits BehindFits

  abbrev pair_of : Metadata → Item → Pair
  pair_of m a = (m, a)

  parted : (a : Item) → ItemFits n still a → (x : Pair) × PairFits x × (x.1 ≡ a)
  parted a (inl f) = let v = back Library (λ inner k. refl) G n (may_begin still) a f in (pair_of v.0 a, (v.1, inl v.2), refl)
  parted a (inr (inl f)) = let v = back import_kind (λ inner k. refl) G n (may_import still) a f in (pair_of v.0 a, (v.1, inr (inl v.2)), refl)
  parted a (inr (inr (inl f))) = let v = back export_kind (λ inner k. refl) G n (may_import still) a f in (pair_of v.0 a, (v.1, inr (inr (inl v.2))), refl)
  parted a (inr (inr (inr (inl (inl f))))) = let v = back PartOf (λ inner k. refl) G n (may_begin still) a f in (pair_of v.0 a, (v.1, inr (inr (inr (inl (inl v.2))))), refl)
  parted a (inr (inr (inr (inl (inr f))))) = let v = back part_kind (λ inner k. refl) G n (may_have_parts still) a f in (pair_of v.0 a, (v.1, inr (inr (inr (inl (inr v.2))))), refl)
  parted a (inr (inr (inr (inr (x, ((m, y), fits, so), is))))) = (pair_of m a, (fits.0, inr (inr (inr (inr (y, fits.1, ap a_decl so ∙ is))))), refl)

  -- ---- fronts

  abbrev joint : Front Token
  joint = JointBy metadata_tokens (metadata_at n).Fits always (metadata_at n).front behind_front

  bare : (m : Metadata) (more : List Token) → (metadata_at n).Fits m → more ≡ [] → item_front n still (metadata_tokens m ++ more)
  bare m more own e = inr (inr (inr (inr (inr (m, more, own, refl, refl, subst (decl_kind_of n).front (sym e) U.decl_kind.none)))))

  out_at : (m : Metadata) (more : List Token) → (metadata_at n).Fits m → behind_front m more → item_front n still (metadata_tokens m ++ more)
  out_at m more own (inl f) = elim (begun Library (λ inner k. refl) G n m (may_begin still) more own f) [ inl e ↦ bare m more own e | inr k ↦ inl k ]
  out_at m more own (inr (inl f)) = elim (begun import_kind (λ inner k. refl) G n m (may_import still) more own f) [ inl e ↦ bare m more own e | inr k ↦ inr (inl k) ]
  out_at m more own (inr (inr (inl f))) = elim (begun export_kind (λ inner k. refl) G n m (may_import still) more own f) [ inl e ↦ bare m more own e | inr k ↦ inr (inr (inl k)) ]
  out_at m more own (inr (inr (inr (inl (inl f))))) = elim (begun PartOf (λ inner k. refl) G n m (may_begin still) more own f) [ inl e ↦ bare m more own e | inr k ↦ inr (inr (inr (inl (inl k)))) ]
  out_at m more own (inr (inr (inr (inl (inr f))))) = elim (begun part_kind (λ inner k. refl) G n m (may_have_parts still) more own f) [ inl e ↦ bare m more own e | inr k ↦ inr (inr (inr (inl (inr k)))) ]
  out_at m more own (inr (inr (inr (inr f)))) = inr (inr (inr (inr (inr (m, more, own, refl, refl, f)))))

  out : (ts : List Token) → joint ts → item_front n still ts
  out ts (inl f) = inr (inr (inr (inr (inl f))))
  out ts (inr (m, more, own, on, e, f)) = subst (item_front n still) (sym e) (out_at m more own f)

  blank : (ts : List Token) → ts ≡ [] → joint ts
  blank ts e = inl (subst (metadata_at n).front (sym e) U.metadata.none)

  into : (ts : List Token) → item_front n still ts → joint ts
  into ts (inl (inl e)) = blank ts e
  into ts (inl (inr (on, f))) = elim (opens Library (λ inner k. refl) G n (may_begin still) ts on f U.metadata.none) [ inl k ↦ inl k | inr (m, more, own, e, k) ↦ inr (m, more, own, refl, e, inl k) ]
  into ts (inr (inl (inl e))) = blank ts e
  into ts (inr (inl (inr (on, f)))) = elim (opens import_kind (λ inner k. refl) G n (may_import still) ts on f U.metadata.none) [ inl k ↦ inl k | inr (m, more, own, e, k) ↦ inr (m, more, own, refl, e, inr (inl k)) ]
  into ts (inr (inr (inl (inl e)))) = blank ts e
  into ts (inr (inr (inl (inr (on, f))))) = elim (opens export_kind (λ inner k. refl) G n (may_import still) ts on f U.metadata.none) [ inl k ↦ inl k | inr (m, more, own, e, k) ↦ inr (m, more, own, refl, e, inr (inr (inl k))) ]
  into ts (inr (inr (inr (inl (inl (inl e)))))) = blank ts e
  into ts (inr (inr (inr (inl (inl (inr (on, f))))))) = elim (opens PartOf (λ inner k. refl) G n (may_begin still) ts on f U.metadata.none) [ inl k ↦ inl k | inr (m, more, own, e, k) ↦ inr (m, more, own, refl, e, inr (inr (inr (inl (inl k))))) ]
  into ts (inr (inr (inr (inl (inr (inl e)))))) = blank ts e
  into ts (inr (inr (inr (inl (inr (inr (on, f))))))) = elim (opens part_kind (λ inner k. refl) G n (may_have_parts still) ts on f U.metadata.none) [ inl k ↦ inl k | inr (m, more, own, e, k) ↦ inr (m, more, own, refl, e, inr (inr (inr (inl (inr k))))) ]
  into ts (inr (inr (inr (inr (inl f))))) = inl f
  into ts (inr (inr (inr (inr (inr (m, more, own, on, e, f)))))) = inr (m, more, own, refl, e, inr (inr (inr (inr f))))

  pub item_laws : Laws class_of (i.item n still) item_tokens (ItemFits n still) (item_front n still) item_first nowhere false
  unfolding i.item
  item_laws = restated (mapped_laws (both_by_any_laws U.metadata (λ m own. behind_laws m) (λ m own. apart refl)) (λ x. x.1) item_tokens {Fits_q = ItemFits n still} nowhere
      (λ x fits. (fits_of x.0 x.1 fits.0 fits.1, said_of x.0 x.1 fits.1, within_none [])) parted) (λ a fits. fits) (λ a fits. fits) out into (inside refl) (λ a fits. within_none []) (λ e. e)
