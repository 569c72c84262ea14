-- The laws of names with `this.` before them, of metadata, and of types and results that stand before a name.
use Rattle.std.proofs.Common.{◌≡◌, ℕ, zero, suc, true, false, List, [], ◌∷◌, ◌++◌, Option, None, Some, inl, inr, refl, ap, sym, ◌∙◌, subst}
use Rattle.std.proofs.lemmas.List.{append-nil}
use Rattle.dart_base.specs.declared.place.Place.{Place}
use Rattle.dart_token.specs.declared.token.Token.{Token}
use Rattle.dart_token.specs.declared.sign.Sign.TheVariants as s
use Rattle.dart_token.specs.declared.word.Word.TheVariants as w
use Rattle.dart_tree.specs.declared.identifier.Identifier.{Identifier}
use Rattle.dart_tree.specs.declared.identifier.DotName.{DotName}
use Rattle.dart_tree.specs.declared.parameter.ThisDot.{ThisDot}
use Rattle.dart_tree.specs.Types.{TypeNode, ResultType, named_type, no_types, void_result, typed_result}
use Rattle.dart_tree.specs.LeafTokens.{identifier_tokens, result_tokens, type_tokens}
use Rattle.dart_tree.specs.Tree.{Arguments}
use Rattle.dart_tree.specs.Tokens.{arguments_tokens, annotation_tokens, metadata_tokens}
use Rattle.grammar_laws.specs.Codes.{has, Apart, Within, nowhere, after_option}
use Rattle.grammar_laws.specs.Readers.{Reader, mapped, both, option, starts, many, always}
use Rattle.grammar_laws.proofs.Codes.{apart, apart_none, inside, within_self, within_none}
use Rattle.grammar_laws.proofs.Restated.{made_laws, wider}
use Rattle.grammar_laws.proofs.Combined.{both_laws, both_any_laws}
use Rattle.grammar_laws.proofs.Followed.{option_laws}
use Rattle.grammar_laws.proofs.Repeated.{many_plain_laws}
use Rattle.grammar_laws.proofs.Chosen.{by_first_laws}
use Rattle.grammar_laws.proofs.Joints.{begins}
use Rattle.dart_syntax.specs.Phrases.{Phrase, ◌~◌, opt, made, many as many_of}
use Rattle.dart_syntax.specs.Agreement.{Agrees}
use Rattle.dart_syntax.specs.Leaves as l
use Rattle.dart_syntax.specs.Leaves.{this_dot_tokens}
use Rattle.dart_syntax.specs.Types as y
use Rattle.dart_syntax.specs.Types.{type_within}
use Rattle.dart_syntax.specs.Expressions as g
use Rattle.dart_syntax.specs.Statements as p
use Rattle.dart_syntax.specs.Statements.{to_metadata, to_annotation}
use Rattle.dart_syntax.proofs.AgreeingTypes.{one_name, sign_agrees, identifier_agrees, dot_name_agrees}
use Rattle.dart_syntax.proofs.AgreeingStatements.{said_metadata, said_annotation}
use Rattle.dart_syntax.proofs.Agreeing.{parts_say, seq_agrees, opt_agrees, many_agrees}
use Rattle.token_codes.specs.Codes.{class_of, names, sign_code, word_code, these, this_word}
use Rattle.token_codes.specs.Leaves.{name_of, this_dot, identifier, sign, dot_name}
use Rattle.token_codes.specs.Reads.{Reads}
use Rattle.token_codes.proofs.Leaves.{sign_reads, word_reads, identifier_reads, dot_name_reads, name_said}
use Rattle.syntax_readers.specs.Types as i
use Rattle.syntax_readers.specs.Types.{type_first, behind_type_name}
use Rattle.syntax_readers.specs.Primaries.{ExprReaders}
use Rattle.syntax_readers.specs.Parameters as r
use Rattle.laws_type.specs.Nexts.{after_type, after_result}
use Rattle.laws_type.proofs.Types.{types_read_at, under_type}

-- ---- identifiers

pub name_begins : (t : Token) → has names (class_of t) ≡ true → l.identifier.front (t ∷ [])
name_begins t h = inr (name_of t, sym (name_said t h))

pub name_ends : (t u : Token) (ts : List Token) → l.identifier.front (t ∷ u ∷ ts) → ⊥
name_ends t u ts (inl e) = absurd cc
name_ends t u ts (inr (x, e)) = let one = one_name x in let two : t ∷ u ∷ ts ≡ one.0 ∷ [] = e ∙ one.1 in absurd cc

-- ---- [this .] id

abbrev pub this_first : List ℕ
this_first = this_word w.This ++ names

module _ (here : g.ExprNodes) where
  pub this_dot_laws : Reads this_dot (p.this_dot here) (this_word w.This) nowhere false
  unfolding this_dot
  this_dot_laws = made_laws (both_laws (word_reads w.This) (sign_reads s.Dot) (λ place fits. apart_none (these s.Dot))) (λ x. record { this = x.0; dot = x.1 }) this_dot_tokens nowhere (λ x fits. refl) (λ x fits. within_self [])

  abbrev pub named : Phrase (Option ThisDot × Identifier)
  named = opt (p.this_dot here) ~ l.identifier

  abbrev pub named_reader : Reader Token (Option ThisDot × Identifier)
  named_reader = both (option class_of (this_word w.This) this_dot) identifier

  this_apart : (x : Option ThisDot) → Apart (after_option (this_word w.This) nowhere x) names
  this_apart None = apart refl
  this_apart (Some x) = apart_none names

  pub named_laws : Reads named_reader named this_first nowhere false
  named_laws = wider (both_any_laws (option_laws this_dot_laws) identifier_reads (λ x fits. this_apart x)) (within_self this_first) (λ x fits. within_none [])

  pub named_begins : (t : Token) → has names (class_of t) ≡ true → named.front (t ∷ [])
  named_begins t h = inr (None, t ∷ [], tt, refl, refl, name_begins t h)

  no_this : (t : Token) (m : List Token) → has names (class_of t) ≡ true → starts class_of (this_word w.This) (t ∷ m) ≡ true → ⊥
  no_this t m n on = (apart {xs = names} {ys = this_word w.This} refl).never_both (class_of t) n on

  pub named_ends : (t u : Token) (ts : List Token) → has names (class_of t) ≡ true → named.front (t ∷ u ∷ ts) → ⊥
  named_ends t u ts n (inl f) = no_this t (u ∷ ts) n (this_dot_laws.firsts t (u ∷ ts) f)
  named_ends t u ts n (inr (None, more, fits, on, e, f)) = name_ends t u ts (subst l.identifier.front (sym e) f)
  named_ends t u ts n (inr (Some x, more, fits, on, e, f)) = no_this t (u ∷ ts) n (ap (starts class_of (this_word w.This)) e ∙ begins this_dot_laws x more fits)

-- ---- a type goes on behind a name with another name's part or with arguments

abbrev pub Goes : {A : Type 0} → Phrase A → Type 0
Goes p = (t u : Token) (ts : List Token) → has names (class_of t) ≡ true → p.front (t ∷ u ∷ ts) → has behind_type_name (class_of u) ≡ true

pub type_goes : (n : ℕ) → Goes (type_within n)
unfolding type_within
type_goes zero t u ts h f = absurd cc
type_goes (suc n) t u ts h f =
    let x : TypeNode = named_type (name_of t) None no_types in
    let is : t ∷ u ∷ ts ≡ type_tokens x ++ u ∷ ts = sym (ap (λ (m : List Token). m ++ u ∷ ts) (append-nil (identifier_tokens (name_of t)) ∙ name_said t h)) in
    let fits : (type_within (suc n)).Fits x = inr ((name_of t, (None, no_types)), (tt, (tt, (None, tt, refl))), refl) in
    (inside {xs = sign_code s.Less ∷ sign_code s.Dot ∷ []} {ys = behind_type_name} refl).in_second (class_of u) ((types_read_at (suc n)).type.nexts x u ts fits (subst (type_within (suc n)).front is f))

module _ {type : Reader Token TypeNode} {q : Phrase TypeNode} (T : Reads type q type_first after_type false) (A : Agrees type_tokens q) (G : Goes q) where
  pub result_laws : Reads (i.result type) (y.result_over q) (word_code w.Void ∷ type_first) after_result false
  unfolding i.result
  result_laws = by_first_laws (made_laws (word_reads w.Void) void_result result_tokens after_result (λ x fits. refl) (λ x fits. within_self []))
      (made_laws T typed_result result_tokens after_result (λ x fits. sym (A.spells x)) (λ x fits. within_self (after_type x))) (apart refl)

  pub result_goes : Goes (y.result_over q)
  result_goes t u ts h (inl (inl e)) = absurd cc
  result_goes t u ts h (inl (inr (place, e))) = absurd cc
  result_goes t u ts h (inr f) = G t u ts h f

pub under_result : (x : ResultType) → Within (after_result x) (sign_code s.Less ∷ sign_code s.Dot ∷ [])
under_result (void_result place) = within_none _
under_result (typed_result x) = under_type x

-- ---- metadata (ECMA-408, 15 Metadata)

abbrev pub behind_metadata : List ℕ
behind_metadata = sign_code s.AtSign ∷ sign_code s.Dot ∷ sign_code s.LeftParenthesis ∷ []

module _ (here : ExprReaders) (nodes : g.ExprNodes) (R : Reads here.arguments nodes.arguments (these s.LeftParenthesis) nowhere false) (A : Agrees arguments_tokens nodes.arguments) where
  abbrev Parts : Type 0
  Parts = Place × (Identifier × (List DotName × Option Arguments))

  call_apart : (x : List DotName) → Apart (these s.Dot ++ []) (these s.LeftParenthesis)
  call_apart x = apart refl

  annotation_laws : Reads (mapped to_annotation (both (sign s.AtSign) (both identifier (both (many class_of always (these s.Dot) dot_name) (option class_of (these s.LeftParenthesis) here.arguments)))))
      (made annotation_tokens to_annotation (l.sign s.AtSign ~ l.identifier ~ many_of l.dot_name ~ opt nodes.arguments)) (these s.AtSign) (λ x. sign_code s.Dot ∷ sign_code s.LeftParenthesis ∷ []) false
  annotation_laws = made_laws (both_laws (sign_reads s.AtSign) (both_any_laws identifier_reads (both_any_laws (many_plain_laws dot_name_reads {codes = []} (λ x fits. within_none []) (apart refl)) (option_laws R) (λ x fits. call_apart x)) (λ x fits. apart_none _)) (λ x fits. apart_none names))
      to_annotation annotation_tokens (λ x. sign_code s.Dot ∷ sign_code s.LeftParenthesis ∷ [])
      (parts_say annotation_tokens to_annotation (seq_agrees (sign_agrees s.AtSign) (seq_agrees identifier_agrees (seq_agrees (many_agrees dot_name_agrees) (opt_agrees A)))) (λ x fits. said_annotation x)) (λ x fits. under x.1.1.1) where
        under : (x : Option Arguments) → Within ((after_option (these s.LeftParenthesis) nowhere x ++ (these s.Dot ++ [])) ++ []) (sign_code s.Dot ∷ sign_code s.LeftParenthesis ∷ [])
        under None = inside refl
        under (Some x) = inside refl

  pub metadata_laws : Reads (r.metadata here) (p.metadata_of nodes) (these s.AtSign) (λ x. behind_metadata) true
  unfolding r.metadata
  metadata_laws = made_laws (many_plain_laws annotation_laws {codes = sign_code s.Dot ∷ sign_code s.LeftParenthesis ∷ []} (λ x fits. within_self _) (apart refl)) to_metadata metadata_tokens (λ x. behind_metadata) (λ x fits. said_metadata x) (λ x fits. within_self behind_metadata)
