-- The laws of constructors of every kind, and of members with their metadata (ECMA-408, 10 Classes, 10.6 Constructors).
use Rattle.std.proofs.Common.{◌≡◌, ℕ, suc, false, List, [], None, Some, inl, inr, refl}
use Rattle.dart_token.specs.declared.token.Token.{Token}
use Rattle.dart_token.specs.declared.word.Word.TheVariants as w
use Rattle.dart_tree.specs.declared.declaration.Modifier.{Modifier}
use Rattle.dart_tree.specs.declared.declaration.Modifier.TheVariants as m
use Rattle.dart_tree.specs.Tree as t
use Rattle.dart_tree.specs.Tree.{Metadata}
use Rattle.dart_tree.specs.Unit as d
use Rattle.dart_tree.specs.Unit.{Constructor, MemberKind, Member}
use Rattle.dart_tree.specs.UnitTokens.{constructor_tokens, modifier_tokens, member_kind_tokens, member_tokens}
use Rattle.grammar_laws.specs.Codes.{Within}
use Rattle.grammar_laws.specs.Readers.{tried}
use Rattle.grammar_laws.specs.Fronts.{Either, EitherFit, FirstFit}
use Rattle.grammar_laws.proofs.Codes.{apart, apart_none, inside, within_self, within_none, within_union}
use Rattle.grammar_laws.proofs.Restated.{made_laws, restated, wider}
use Rattle.grammar_laws.proofs.Combined.{both_any_laws}
use Rattle.grammar_laws.proofs.Chosen.{by_first_laws}
use Rattle.grammar_laws.proofs.TriedAlike.{tried_alike_laws}
use Rattle.dart_syntax.specs.Phrases.{Phrase}
use Rattle.dart_syntax.specs.Statements.{within}
use Rattle.dart_syntax.specs.Declarations as c
use Rattle.token_codes.specs.Codes.{plain_names, this_word}
use Rattle.token_codes.specs.Reads.{Reads}
use Rattle.syntax_readers.specs.Statements.{stage}
use Rattle.syntax_readers.specs.Declarations as r
use Rattle.syntax_readers.specs.Declarations.{behind_init}
use Rattle.laws_unit.specs.Statements.{MembersReadAt}
use Rattle.laws_unit.specs.Members.{factory_first, after_constructor, after_kind, generatives, redirections, constructor_first, other_first, WholePartsReadAt}
use Rattle.laws_unit.proofs.Given.{given_laws}
use Rattle.laws_unit.proofs.Members.{constant_laws, redirecting_laws}
use Rattle.laws_unit.proofs.Factories.{any_factory_laws}

-- what goes on behind a whole is a set of its own
under_constructor : (x : Constructor) → Within (after_constructor x) behind_init
under_constructor (d.generative None name given (Some inits) (t.block_body block)) = within_self behind_init
under_constructor (d.generative None name given (Some inits) (t.no_body place)) = within_none behind_init
under_constructor (d.generative None name given (Some inits) (t.arrow_body arrow value semicolon)) = within_none behind_init
under_constructor (d.generative None name given None body) = within_none behind_init
under_constructor (d.generative (Some word) name given inits body) = within_none behind_init
under_constructor (d.redirecting name given colon this other handed semicolon) = within_none behind_init
under_constructor (d.factory external word name given body) = within_none behind_init
under_constructor (d.redirecting_factory external word name given equals target other semicolon) = within_none behind_init

under_kind : (x : MemberKind) → Within (after_kind x) behind_init
under_kind (d.constructor_member x) = under_constructor x
under_kind (d.function_member x) = within_none behind_init
under_kind (d.accessor_member x) = within_none behind_init
under_kind (d.variables_member x) = within_none behind_init
under_kind (d.operator_member x) = within_none behind_init

module _ (n : ℕ) (W : WholePartsReadAt n) (class : List ℕ) where
  -- ---- constructors

  abbrev Constant : Phrase Constructor
  Constant = c.constant_over (within n).nodes (c.init_within n) class

  abbrev Factories : Phrase Constructor
  Factories = c.factory_over (within n).nodes (c.init_within n) class

  redirecting_wide : Reads (r.redirecting (stage n).nodes.exprs class) (redirections n class) plain_names after_constructor false
  redirecting_wide = wider (redirecting_laws n W.parts class) (within_self plain_names) (λ x fits. within_none (after_constructor x))

  constant_wide : Reads (r.constant (stage n).nodes.exprs (r.init n) class) Constant (this_word w.Const) after_constructor false
  constant_wide = wider (constant_laws n W.parts class) (within_self (this_word w.Const)) (λ x fits. within_none (after_constructor x))

  factory_wide : Reads (tried (r.factory (stage n).nodes.exprs class) (r.redirecting_factory (stage n).nodes.exprs class)) Factories factory_first after_constructor false
  factory_wide = wider (any_factory_laws n W.parts W.type class) (within_self factory_first) (λ x fits. within_none (after_constructor x))

  alone : (a b : Constructor) → (generatives n class).Fits a → (redirections n class).Fits b → constructor_tokens a ≡ constructor_tokens b → Within (after_constructor a) []
  alone a b fits own e = absurd ((W.redirecting_apart class).never_both a b fits own e)

  abbrev Parted : Constructor → Type 0
  Parted = EitherFit Factories.Fits (EitherFit Constant.Fits (FirstFit constructor_tokens (generatives n class).Fits (redirections n class).Fits))

  abbrev Whole : Phrase Constructor
  Whole = c.constructor_within class (suc n)

  forth : (a : Constructor) → Parted a → Whole.Fits a
  forth a (inl f) = inr (inr (inr f))
  forth a (inr (inl f)) = inr (inl f)
  forth a (inr (inr (inl f))) = inl f
  forth a (inr (inr (inr f))) = inr (inr (inl f.0))

  back : (a : Constructor) → Whole.Fits a → Parted a
  back a (inl f) = inr (inr (inl f))
  back a (inr (inl f)) = inr (inl f)
  back a (inr (inr (inl f))) = inr (inr (inr (f, λ b own e. (W.redirecting_apart class).never_both b a own f e)))
  back a (inr (inr (inr f))) = inl f

  out : (ts : List Token) → Either Factories.front (Either Constant.front (Either (generatives n class).front (redirections n class).front)) ts → Whole.front ts
  out ts (inl f) = inr (inr (inr f))
  out ts (inr (inl f)) = inr (inl f)
  out ts (inr (inr (inl f))) = inl f
  out ts (inr (inr (inr f))) = inr (inr (inl f))

  into : (ts : List Token) → Whole.front ts → Either Factories.front (Either Constant.front (Either (generatives n class).front (redirections n class).front)) ts
  into ts (inl f) = inr (inr (inl f))
  into ts (inr (inl f)) = inr (inl f)
  into ts (inr (inr (inl f))) = inr (inr (inr f))
  into ts (inr (inr (inr f))) = inl f

  constructor_laws : Reads (r.constructor class (suc n)) Whole constructor_first after_constructor false
  unfolding r.constructor r.constructor_over
  constructor_laws = restated (by_first_laws factory_wide (by_first_laws constant_wide (tried_alike_laws (W.generative class) redirecting_wide alone (W.redirecting_apart class).over_generative (W.redirecting_apart class).over_redirecting) (apart refl)) (apart refl))
      forth back out into (inside refl) (λ a fits. within_self (after_constructor a)) (λ e. e)

  -- ---- members without their metadata

  abbrev after_kinded : Modifier × MemberKind → List ℕ
  after_kinded x = after_kind x.1

  said : (x : Constructor) → Whole.Fits x → member_kind_tokens (d.constructor_member x) ≡ Whole.spelling x
  said x fits = refl

  kinded_constructor : Reads (r.constructor_member (suc n) class) (c.constructor_member (suc n) class) constructor_first after_kinded false
  unfolding r.constructor_member
  kinded_constructor = wider (both_any_laws (given_laws modifier_tokens m.Omitted refl) (made_laws constructor_laws d.constructor_member member_kind_tokens after_kind said (λ x fits. within_self (after_constructor x))) (λ x fits. apart_none constructor_first))
      (within_self constructor_first) (λ x fits. within_union (within_self (after_kind x.1)) (within_none (after_kind x.1)))

  kinded_other : Reads (r.other_member (suc n)) (c.other_member (suc n)) other_first after_kinded false
  kinded_other = wider W.others (within_self other_first) (λ x fits. within_none (after_kind x.1))

  -- ---- members

  abbrev to_member : Metadata × (Modifier × MemberKind) → Member
  to_member x = record { metadata = x.0; modifier = x.1.0; kind = x.1.1 }

  pub member_laws : Reads (r.member (suc n) class) (c.member_within (suc n) class) r.member_first (λ x. behind_init) false
  unfolding r.member
  member_laws = wider (made_laws (both_any_laws W.metadata (tried_alike_laws kinded_constructor kinded_other (W.member_apart class).still (W.member_apart class).over_constructor (W.member_apart class).over_other) (λ x fits. apart refl))
      to_member member_tokens (λ x. behind_init) (λ x fits. refl) (λ x fits. within_union (under_kind x.1.1) (within_none behind_init))) (inside refl) (λ x fits. within_self behind_init)

pub members_at : (n : ℕ) → WholePartsReadAt n → MembersReadAt (suc n)
members_at n W class = member_laws n W class
