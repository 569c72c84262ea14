-- The law of declarations behind their metadata, over classes, aliases, functions, accessors and variables (ECMA-408, 18 Libraries and Scripts).
use Rattle.std.proofs.Common.{◌≡◌, ℕ, zero, suc, ◌<◌, arith, Bool, true, false, if◌then◌else◌, List, [], ◌∷◌, ◌++◌, length, Ok, Err, inl, inr, refl, sym, ap, ◌∙◌, ltb}
use Rattle.std.proofs.lemmas.Bool.{ltb-true}
use Rattle.std.proofs.lemmas.List.{length-append}
use Rattle.dart_token.specs.declared.token.Token.{Token}
use Rattle.dart_token.specs.declared.word.Word.TheVariants as w
use Rattle.dart_tree.specs.Unit as d
use Rattle.dart_tree.specs.Unit.{DeclKind}
use Rattle.dart_tree.specs.UnitTokens.{class_tokens, alias_tokens, enum_tokens, decl_kind_tokens}
use Rattle.grammar_laws.specs.Codes.{has, Apart, nowhere}
use Rattle.grammar_laws.specs.Readers.{Outcome, Reader, starts, mapped, tried, farther}
use Rattle.grammar_laws.specs.Fronts.{Front, Either, EitherFit, FirstFit}
use Rattle.grammar_laws.specs.Laws.{Laws, Stuck}
use Rattle.grammar_laws.proofs.Codes.{apart, clash, inside, not_true, within_none}
use Rattle.grammar_laws.proofs.Joints.{begins}
use Rattle.grammar_laws.proofs.Restated.{made_laws, nothing_laws, restated, reread}
use Rattle.grammar_laws.proofs.Chosen.{by_first_laws}
use Rattle.grammar_laws.proofs.Tried.{tried_laws}
use Rattle.dart_syntax.specs.Phrases.{Phrase, made}
use Rattle.dart_syntax.specs.Declarations as c
use Rattle.dart_syntax.proofs.AgreeingStages.{within_agrees}
use Rattle.token_codes.specs.Codes.{class_of, word_code, this_word}
use Rattle.token_codes.specs.Reads.{Reads}
use Rattle.syntax_readers.specs.Statements.{stage}
use Rattle.syntax_readers.specs.Declarations as r
use Rattle.syntax_readers.specs.Declarations.{node}
use Rattle.laws_unit.specs.Statements.{ClassReadAt, AliasReadAt, callable_decl, variables_decl, callable_first, variable_first, CallableApartAt, DeclPartsReadAt, decl_kind_of, DeclKindReadAt}
use Rattle.laws_unit.proofs.Enums.{enum_laws}

-- ---- a reader refuses at once what begins with none of its tokens

module _ {A : Type 0} {read : Reader Token A} {spelling : A → List Token} {Fits : A → Type 0} {front : Front Token} {first : List ℕ} {next : A → List ℕ} (P : Laws class_of read spelling Fits front first next false) where
  stuck_here : (ts rest : List Token) → starts class_of first ts ≡ false → Stuck front ts rest → rest ≡ ts
  stuck_here ts rest off ([], e, f, ends) = sym e
  stuck_here ts rest off (t ∷ before, e, f, ends) = clash (has first (class_of t)) (P.firsts t before f) (ap (starts class_of first) (sym e) ∙ off)

  pub refuses_by : (ts : List Token) (o : Outcome Token A) → read ts ≡ o → starts class_of first ts ≡ false → o ≡ Err ts
  refuses_by ts (Ok (a, rest)) e off =
      let l : Fits a × (ts ≡ spelling a ++ rest) = P.sound ts a rest e in
      clash (starts class_of first (spelling a ++ rest)) (begins P a rest l.0) (ap (starts class_of first) (sym l.1) ∙ off)
  refuses_by ts (Err rest) e off = ap (λ (m : List Token). Err m) (stuck_here ts rest off (P.fault ts rest e))

  -- a fault stands no earlier than the list begins
  abbrev choose : Bool → List Token → List Token → Outcome Token A
  choose b e f = if b then Err e else Err f

  late : (ts e before : List Token) (b : Bool) → ltb (length ts) (length e) ≡ b → ts ≡ before ++ e → choose b ts e ≡ Err e
  late ts e before false h is = refl
  late ts e before true h is = absurd (omega (arith, ltb-true (length ts) (length e) h, ap length is, length-append before e))

  kept : (ts : List Token) (o : Outcome Token A) → read ts ≡ o → farther (Err ts) o ≡ o
  kept ts (Ok x) e = refl
  kept ts (Err rest) e = let k = P.fault ts rest e in late ts rest k.0 (ltb (length ts) (length rest)) refl k.1

-- a second try is the second where the first refuses at once
module _ {A : Type 0} {p q : Reader Token A} {spelling : A → List Token} {Fits_p Fits_q : A → Type 0} {front_p front_q : Front Token} {first_p first_q : List ℕ} {next_p next_q : A → List ℕ}
    (P : Laws class_of p spelling Fits_p front_p first_p next_p false) (Q : Laws class_of q spelling Fits_q front_q first_q next_q false) where
  second_only : (ts : List Token) → starts class_of first_p ts ≡ false → q ts ≡ tried p q ts
  second_only ts off = sym (ap (λ (o : Outcome Token A). farther o (q ts)) (refuses_by P ts (p ts) refl off) ∙ kept Q ts (q ts) refl)

  pub led : (leads : List ℕ) → Apart leads first_p → (ts : List Token) (b : Bool) → starts class_of leads ts ≡ b → (if b then q ts else tried p q ts) ≡ tried p q ts
  led leads off ts false h = refl
  led leads off [] true h = absurd cc
  led leads off (t ∷ ts) true h = second_only (t ∷ ts) (not_true (has first_p (class_of t)) (λ on. off.never_both (class_of t) h on))

-- ---- declarations

module _ (n : ℕ) (D : DeclPartsReadAt n) (G : CallableApartAt n) where
  class_node : (k : ℕ) → ((m : ℕ) → m < k → ClassReadAt m) → Reads (node r.class_over k) (c.class_within k) (word_code w.Abstract ∷ word_code w.Class ∷ []) nowhere false
  class_node zero C = nothing_laws class_tokens _ nowhere false
  class_node (suc j) C = C j (omega arith)

  alias_node : (k : ℕ) → ((m : ℕ) → m < k → AliasReadAt m) → Reads (node (λ m. r.alias (stage m).nodes.exprs) k) (c.alias_within k) (this_word w.Typedef) nowhere false
  alias_node zero C = nothing_laws alias_tokens _ nowhere false
  alias_node (suc j) C = C j (omega arith)

  enum_node : (k : ℕ) → Reads (node (λ m. r.enum) k) (c.enum_within k) (this_word w.Enum) nowhere false
  enum_node zero = nothing_laws enum_tokens _ nowhere false
  enum_node (suc j) = enum_laws

  spells_class : (k : ℕ) (x : d.Class) → decl_kind_tokens (d.class_decl x) ≡ (c.class_within k).spelling x
  spells_class zero x = refl
  spells_class (suc j) x = refl

  spells_alias : (k : ℕ) (x : d.Alias) → decl_kind_tokens (d.alias_decl x) ≡ (c.alias_within k).spelling x
  spells_alias zero x = refl
  spells_alias (suc j) x = refl

  spells_enum : (k : ℕ) (x : d.Enum) → decl_kind_tokens (d.enum_decl x) ≡ (c.enum_within k).spelling x
  spells_enum zero x = refl
  spells_enum (suc j) x = refl

  abbrev Classes : Phrase DeclKind
  Classes = made decl_kind_tokens d.class_decl (c.class_within n)

  abbrev Aliases : Phrase DeclKind
  Aliases = made decl_kind_tokens d.alias_decl (c.alias_within n)

  abbrev Enums : Phrase DeclKind
  Enums = made decl_kind_tokens d.enum_decl (c.enum_within n)

  -- ---- what a type may begin

  abbrev callable_reader : Reader Token DeclKind
  callable_reader = tried (mapped d.accessor_decl (r.accessor r.external_or_none n)) (mapped d.function_decl (r.function r.external_or_none n))

  abbrev variables_reader : Reader Token DeclKind
  variables_reader = mapped d.variables_decl (stage n).nodes.variables

  variables_laws : Reads variables_reader (variables_decl n) variable_first nowhere false
  variables_laws = made_laws D.variables d.variables_decl decl_kind_tokens nowhere (λ x fits. sym ((within_agrees n).nodes.variables.spells x)) (λ x fits. within_none [])

  abbrev leads : List ℕ
  leads = word_code w.Var ∷ word_code w.Final ∷ word_code w.Const ∷ []

  typed_laws : Laws class_of (r.typed_decl n) decl_kind_tokens (FirstFit decl_kind_tokens (callable_decl n).Fits (variables_decl n).Fits) (Either (callable_decl n).front (variables_decl n).front) (callable_first ++ variable_first) nowhere false
  unfolding r.typed_decl
  typed_laws = reread (tried_laws D.callable variables_laws G.over_callable G.over_variables) (λ ts. led D.callable variables_laws leads (apart refl) ts (starts class_of leads ts) refl)

  -- ---- all of them

  abbrev Parted : DeclKind → Type 0
  Parted = EitherFit Classes.Fits (EitherFit Aliases.Fits (EitherFit Enums.Fits (FirstFit decl_kind_tokens (callable_decl n).Fits (variables_decl n).Fits)))

  abbrev parted_front : Front Token
  parted_front = Either Classes.front (Either Aliases.front (Either Enums.front (Either (callable_decl n).front (variables_decl n).front)))

  forth : (a : DeclKind) → Parted a → (decl_kind_of n).Fits a
  forth a (inl f) = inl f
  forth a (inr (inl f)) = inr (inl f)
  forth a (inr (inr (inl f))) = inr (inr (inr (inr (inr f))))
  forth a (inr (inr (inr (inl (inl f))))) = inr (inr (inl f))
  forth a (inr (inr (inr (inl (inr f))))) = inr (inr (inr (inl f)))
  forth a (inr (inr (inr (inr (f, alone))))) = inr (inr (inr (inr (inl f))))

  back : (a : DeclKind) → (decl_kind_of n).Fits a → Parted a
  back a (inl f) = inl f
  back a (inr (inl f)) = inr (inl f)
  back a (inr (inr (inl f))) = inr (inr (inr (inl (inl f))))
  back a (inr (inr (inr (inl f)))) = inr (inr (inr (inl (inr f))))
  back a (inr (inr (inr (inr (inl f))))) = inr (inr (inr (inr (f, λ b fits same. G.never_both b a fits f same))))
  back a (inr (inr (inr (inr (inr f))))) = inr (inr (inl f))

  out : (ts : List Token) → parted_front ts → (decl_kind_of n).front ts
  out ts (inl f) = inl f
  out ts (inr (inl f)) = inr (inl f)
  out ts (inr (inr (inl f))) = inr (inr (inr (inr (inr f))))
  out ts (inr (inr (inr (inl (inl f))))) = inr (inr (inl f))
  out ts (inr (inr (inr (inl (inr f))))) = inr (inr (inr (inl f)))
  out ts (inr (inr (inr (inr f)))) = inr (inr (inr (inr (inl f))))

  into : (ts : List Token) → (decl_kind_of n).front ts → parted_front ts
  into ts (inl f) = inl f
  into ts (inr (inl f)) = inr (inl f)
  into ts (inr (inr (inl f))) = inr (inr (inr (inl (inl f))))
  into ts (inr (inr (inr (inl f)))) = inr (inr (inr (inl (inr f))))
  into ts (inr (inr (inr (inr (inl f))))) = inr (inr (inr (inr f)))
  into ts (inr (inr (inr (inr (inr f))))) = inr (inr (inl f))

  pub kind_laws : DeclKindReadAt n
  unfolding r.decl_kind
  kind_laws = restated (by_first_laws (made_laws (class_node n D.classes) d.class_decl decl_kind_tokens nowhere (λ x fits. spells_class n x) (λ x fits. within_none []))
      (by_first_laws (made_laws (alias_node n D.aliases) d.alias_decl decl_kind_tokens nowhere (λ x fits. spells_alias n x) (λ x fits. within_none []))
      (by_first_laws (made_laws (enum_node n) d.enum_decl decl_kind_tokens nowhere (λ x fits. spells_enum n x) (λ x fits. within_none [])) typed_laws (apart refl)) (apart refl)) (apart refl))
      forth back out into (inside refl) (λ x fits. within_none []) (λ e. e)

pub decl_kinds_at : (n : ℕ) → DeclPartsReadAt n → CallableApartAt n → DeclKindReadAt n
decl_kinds_at n D G = kind_laws n D G
