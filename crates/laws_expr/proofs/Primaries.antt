-- The law of the reader of primaries (ECMA-408, 16 Expressions), over that of what begins with a parenthesis.
use Rattle.std.proofs.Common.{◌≡◌, false, Option, None, Some, inl, inr, refl, ℕ, Bool, true, ap, sym}
use Rattle.dart_base.specs.declared.place.Place.{Place}
use Rattle.dart_token.specs.declared.token.Token.{Token}
use Rattle.dart_token.specs.declared.sign.Sign.TheVariants as s
use Rattle.dart_token.specs.declared.word.Word.TheVariants as w
use Rattle.dart_tree.specs.Tree as t
use Rattle.dart_tree.specs.Tree.{Primary, Selector}
use Rattle.dart_tree.specs.Tokens.{primary_tokens, selector_tokens}
use Rattle.grammar_laws.specs.Codes.{Within, nowhere, after_followed, has}
use Rattle.grammar_laws.specs.Readers.{always, mapped}
use Rattle.grammar_laws.specs.Halves.{strict}
use Rattle.grammar_laws.specs.Fronts.{Front, Either, EitherFit, BothFit, FollowedFit, Made, joined_spelling}
use Rattle.grammar_laws.specs.Laws.{Laws}
use Rattle.grammar_laws.proofs.Codes.{apart, apart_none, within_none, within_self, within_right}
use Rattle.grammar_laws.proofs.Restated.{made_laws, mapped_laws, wider}
use Rattle.grammar_laws.proofs.Followed.{followed_laws}
use Rattle.dart_syntax.specs.Phrases.{Phrase, ◌~◌, Anything, made}
use Rattle.dart_syntax.specs.Leaves as l
use Rattle.dart_syntax.specs.Edges.{operand_takes, leaves}
use Rattle.dart_syntax.specs.Edges as edge
use Rattle.dart_syntax.specs.Expressions as g
use Rattle.token_codes.specs.Codes.{class_of, atoms, creations, these, this_word, sign_code}
use Rattle.token_codes.specs.Reads.{Reads}
use Rattle.token_codes.specs.Leaves.{atom}
use Rattle.token_codes.proofs.Leaves.{word_reads}
use Rattle.syntax_readers.specs.Primaries.{ExprReaders, string_first, strings, selector_first, a_super, super, object, parenthesis, primary}
use Rattle.laws_expr.specs.Nexts.{taken, primary_alone, after_primary}
use Rattle.laws_expr.specs.Statements.{collection_first, objects_over}
use Rattle.laws_expr.proofs.Known.{ClosedRead}
use Rattle.laws_expr.proofs.Leaves.{atom_reads}
use Rattle.laws_expr.proofs.Strings.{strings_laws}
use Rattle.laws_expr.proofs.Selectors.{selector_laws}
use Rattle.laws_expr.proofs.Objects.{NamesDot, object_laws}
use Rattle.laws_expr.proofs.Open.{OpenLaws, shut_laws, open_by_first_laws, Settled, stops_before, first_settled, second_settled}
use Rattle.laws_expr.proofs.Functions.{half_primary}
use Rattle.laws_expr.proofs.Unary.{primary_first}

-- a primary that goes on with what it alone goes on with
pub alone_on : (x : Primary) → Within (primary_alone x) (after_primary x)
alone_on x = within_right (taken (λ next opens. operand_takes next opens edge.nowhere (t.primary x))) (primary_alone x)

-- a function literal with `=>`
abbrev pub is_arrow : Primary → Bool
is_arrow (t.function_literal given (t.arrow_body arrow value semicolon)) = true
is_arrow x = false

-- no other primary goes on with `>`
pub primary_closed : (x : Primary) → is_arrow x ≡ false → has (after_primary x) (sign_code s.Greater) ≡ false
unfolding operand_takes primary_alone
primary_closed (t.function_literal given (t.arrow_body arrow value semicolon)) plain = absurd cc
primary_closed (t.function_literal given (t.block_body block)) plain = refl
primary_closed (t.function_literal given (t.no_body semicolon)) plain = refl
primary_closed (t.super_access word x) plain = refl
primary_closed (t.bare_super word) plain = refl
primary_closed (t.atom x) plain = refl
primary_closed (t.text x) plain = refl
primary_closed (t.list_literal types opening _ comma closing) plain = refl
primary_closed (t.map_literal types opening _ comma closing) plain = refl
primary_closed (t.new_object creation of constructor arguments) plain = refl
primary_closed (t.parenthesized opening value closing) plain = refl

module _ {here : ExprReaders} {nodes : g.ExprNodes} (N : ClosedRead here nodes) (D : NamesDot nodes.type) where
  -- ---- `super`, alone or with a selector

  abbrev Bare : Primary → Type 0
  Bare = Made t.bare_super Anything

  abbrev Access : Primary → Type 0
  Access = Made (λ (x : Place × Selector). t.super_access x.0 x.1) (BothFit Anything (g.selector_of nodes).Fits)

  abbrev super_front : Front Token
  super_front = (l.word w.Super ~ g.selector_of nodes).front

  super_forth : (x : Place × Option Selector) → FollowedFit Anything always (g.selector_of nodes).Fits x → EitherFit Access Bare (a_super x) × (primary_tokens (a_super x) ≡ joined_spelling (l.word w.Super).spelling (g.selector_of nodes).spelling x) × Within (after_followed nowhere always selector_first nowhere x) (after_primary (a_super x))
  unfolding primary_tokens primary_alone selector_tokens
  super_forth (word, None) fits = (inr (word, tt, refl), refl, alone_on (t.bare_super word))
  super_forth (word, Some x) fits = (inl ((word, x), (tt, fits.1.1), refl), refl, within_none _)

  super_back : (y : Primary) → EitherFit Access Bare y → (x : Place × Option Selector) × FollowedFit Anything always (g.selector_of nodes).Fits x × (a_super x ≡ y)
  super_back y (inl ((word, x), fits, is)) = ((word, Some x), (tt, (refl, fits.1)), is)
  super_back y (inr (word, fits, is)) = ((word, None), (tt, tt), is)

  super_laws : Laws class_of (super here) primary_tokens (EitherFit Access Bare) super_front (this_word w.Super) after_primary false
  unfolding super
  super_laws = mapped_laws (followed_laws (word_reads w.Super) (selector_laws N) always (λ x fits on. apart_none selector_first)) a_super primary_tokens after_primary super_forth super_back

  -- ---- atoms, strings, objects, lists and maps

  abbrev Atoms : Phrase Primary
  Atoms = made primary_tokens t.atom l.atom

  abbrev Texts : Phrase Primary
  Texts = made primary_tokens t.text (g.strings nodes.expr)

  atom_laws : Reads (mapped t.atom atom) Atoms atoms after_primary false
  unfolding primary_tokens
  atom_laws = made_laws atom_reads t.atom primary_tokens after_primary (λ x fits. refl) (λ x fits. within_none _)

  text_laws : Reads (mapped t.text (strings (strict here.expr))) Texts string_first after_primary false
  unfolding primary_tokens primary_alone
  text_laws = made_laws (strings_laws N.expr N.agrees.expr) t.text primary_tokens after_primary (λ x fits. refl) (λ x fits. alone_on (t.text x))

  objects_laws : Laws class_of (object here) primary_tokens (objects_over nodes).Fits (objects_over nodes).front creations after_primary false
  objects_laws = wider (object_laws N D) (within_self creations) (λ x fits. within_none (after_primary x))

  module _ {C : Primary → Type 0} {cfront : Front Token} (Collections : Laws class_of here.collection primary_tokens C cfront collection_first nowhere false)
      {P : Primary → Type 0} {pfront : Front Token} (Parenthesis : OpenLaws (parenthesis here) primary_tokens P pfront (these s.LeftParenthesis) after_primary half_primary) where
    pub primary_laws : OpenLaws (primary here) primary_tokens
        (EitherFit Atoms.Fits (EitherFit Texts.Fits (EitherFit (EitherFit Access Bare) (EitherFit (objects_over nodes).Fits (EitherFit P C)))))
        (Either Atoms.front (Either Texts.front (Either super_front (Either (objects_over nodes).front (Either pfront cfront)))))
        primary_first after_primary half_primary
    unfolding primary
    primary_laws = open_by_first_laws (shut_laws atom_laws half_primary) (open_by_first_laws (shut_laws text_laws half_primary) (open_by_first_laws (shut_laws super_laws half_primary) (open_by_first_laws (shut_laws objects_laws half_primary)
        (open_by_first_laws Parenthesis (shut_laws (wider Collections (within_self collection_first) (λ x fits. within_none (after_primary x))) half_primary) (apart refl)) (apart refl)) (apart refl)) (apart refl)) (apart refl)

    -- a `>` behind a primary is given as a half, or stopped before, where that holds of what begins with a parenthesis
    pub primary_settled : ((x : Primary) → C x → is_arrow x ≡ false) → (next : ℕ) → ((x : Primary) → P x → leaves next (t.primary x) ≡ true → Settled Parenthesis x) → (x : Primary) →
        EitherFit Atoms.Fits (EitherFit Texts.Fits (EitherFit (EitherFit Access Bare) (EitherFit (objects_over nodes).Fits (EitherFit P C)))) x → leaves next (t.primary x) ≡ true → Settled primary_laws x
    unfolding primary primary_laws
    primary_settled plain next known x (inl (parts, fits, is)) left = stops_before primary_laws x (inl (parts, fits, is)) (primary_closed x (ap is_arrow (sym is)))
    primary_settled plain next known x (inr (inl (parts, fits, is))) left = stops_before primary_laws x (inr (inl (parts, fits, is))) (primary_closed x (ap is_arrow (sym is)))
    primary_settled plain next known x (inr (inr (inl (inl (parts, fits, is))))) left = stops_before primary_laws x (inr (inr (inl (inl (parts, fits, is))))) (primary_closed x (ap is_arrow (sym is)))
    primary_settled plain next known x (inr (inr (inl (inr (parts, fits, is))))) left = stops_before primary_laws x (inr (inr (inl (inr (parts, fits, is))))) (primary_closed x (ap is_arrow (sym is)))
    primary_settled plain next known x (inr (inr (inr (inl (parts, fits, is))))) left = stops_before primary_laws x (inr (inr (inr (inl (parts, fits, is))))) (primary_closed x (ap is_arrow (sym is)))
    primary_settled plain next known x (inr (inr (inr (inr (inr fits))))) left = stops_before primary_laws x (inr (inr (inr (inr (inr fits))))) (primary_closed x (plain x fits))
    primary_settled plain next known x (inr (inr (inr (inr (inl fits))))) left =
        let collections = shut_laws (wider Collections (within_self collection_first) (λ y fits. within_none (after_primary y))) half_primary in
        let brackets = open_by_first_laws Parenthesis collections (apart refl) in
        let objects = open_by_first_laws (shut_laws objects_laws half_primary) brackets (apart refl) in
        let supers = open_by_first_laws (shut_laws super_laws half_primary) objects (apart refl) in
        let texts = open_by_first_laws (shut_laws text_laws half_primary) supers (apart refl) in
        second_settled (shut_laws atom_laws half_primary) texts (apart refl) x (inr (inr (inr (inl fits))))
        (second_settled (shut_laws text_laws half_primary) supers (apart refl) x (inr (inr (inl fits)))
        (second_settled (shut_laws super_laws half_primary) objects (apart refl) x (inr (inl fits))
        (second_settled (shut_laws objects_laws half_primary) brackets (apart refl) x (inl fits)
        (first_settled Parenthesis collections (apart refl) x fits (known x fits left)))))
