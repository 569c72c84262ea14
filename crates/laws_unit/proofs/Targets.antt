-- The law of a redirecting factory's target (ECMA-408, 10.6.2 Factories): a dot and a name behind a type's name are its own.
use Rattle.std.proofs.Common.{◌≡◌, ℕ, zero, suc, Bool, true, false, List, [], ◌∷◌, ◌++◌, Option, None, Some, Ok, Err, inl, inr, refl, ap, sym, ◌∙◌, subst, append_assoc}
use Rattle.std.proofs.lemmas.List.{append-nil}
use Rattle.dart_base.specs.declared.place.Place.{Place}
use Rattle.dart_token.specs.declared.token.Token.{Token}
use Rattle.dart_token.specs.declared.sign.Sign.TheVariants as s
use Rattle.dart_tree.specs.declared.identifier.Identifier.{Identifier}
use Rattle.dart_tree.specs.declared.identifier.Identifier.TheVariants as i
use Rattle.dart_tree.specs.declared.identifier.DotName.{DotName}
use Rattle.dart_tree.specs.LeafTokens.{type_tokens, identifier_tokens, dot_name_tokens}
use Rattle.dart_tree.specs.Types.{TypeNode, dynamic_type, named_type, no_types, listed_types}
use Rattle.grammar_laws.specs.Codes.{has, Apart, Within, nowhere, after_option, after_followed_by}
use Rattle.grammar_laws.specs.Readers.{Outcome, Reader, and_then, always, mapped, both, option, starts, when, nothing, continued_by}
use Rattle.grammar_laws.specs.Fronts.{Front, Empty, Joint, JointBy, both_spelling, option_spelling, BothFit, OptionFit, NeedFit, Nothing}
use Rattle.grammar_laws.specs.Laws.{Laws}
use Rattle.grammar_laws.proofs.Codes.{apart, not_true, within_none, within_self}
use Rattle.grammar_laws.proofs.Restated.{mapped_laws, nothing_laws, refront, reread, wider}
use Rattle.grammar_laws.proofs.Combined.{both_any_laws}
use Rattle.grammar_laws.proofs.Continued.{continued_by_laws}
use Rattle.grammar_laws.proofs.Followed.{option_laws}
use Rattle.grammar_laws.proofs.Tried.{stops_nowhere}
use Rattle.dart_syntax.specs.Phrases.{Phrase, ◌~◌, such, opt}
use Rattle.dart_syntax.specs.Leaves as l
use Rattle.dart_syntax.specs.Types.{type_within}
use Rattle.dart_syntax.specs.Edges.{opens_dot}
use Rattle.dart_syntax.specs.Agreement.{Agrees}
use Rattle.dart_syntax.specs.Statements.{within, nodes_over}
use Rattle.dart_syntax.specs.Declarations.{target_takes_names}
use Rattle.token_codes.specs.Codes.{class_of, these}
use Rattle.token_codes.specs.Leaves.{sign, dot_name}
use Rattle.token_codes.specs.Reads.{Reads}
use Rattle.token_codes.proofs.Leaves.{sign_reads, dot_name_reads}
use Rattle.token_codes.proofs.Only.{only_sign}
use Rattle.syntax_readers.specs.Types.{type_first}
use Rattle.laws_type.specs.Nexts.{after_type}

abbrev alone : Identifier → TypeNode
alone name = named_type name None no_types

abbrev dotted : Identifier → DotName → TypeNode
dotted name dot = named_type name (Some dot) no_types

-- a type's name takes a dot and a name
pub record NamesDot (p : Phrase TypeNode) : Type 0 where
  pub fits : (name : Identifier) (dot : DotName) → p.Fits (alone name) → p.Fits (dotted name dot)
  pub begun : (name : Identifier) (ts : List Token) → p.Fits (alone name) → l.dot_name.front ts → p.front (type_tokens (alone name) ++ ts)

pub names_dot : (n : ℕ) → NamesDot (within n).nodes.expr_nodes.type
unfolding within nodes_over type_within
names_dot zero = record { fits = λ name dot fits. absurd fits; begun = λ name ts fits f. absurd fits }
names_dot (suc n) = record {
  fits = λ name dot fits. inr ((name, (Some dot, no_types)), (tt, (((dot.dot, dot.name), (tt, tt), refl), (None, tt, refl))), refl);
  begun = λ name ts fits f. inr (inr (name, ts, tt, refl, ap (λ (m : List Token). m ++ ts) (append-nil (identifier_tokens name)), inl f));
}

-- ---- behind a type: a dot and a name, unless it would have taken them

abbrev DotFits : Bool → Option DotName → Type 0
DotFits true = OptionFit Nothing
DotFits false = OptionFit l.dot_name.Fits

abbrev dot_front : Bool → Front Token
dot_front true = Empty
dot_front false = l.dot_name.front

abbrev dot_codes : Bool → List ℕ
dot_codes true = []
dot_codes false = these s.Dot

abbrev after_dot : Option DotName → List ℕ
after_dot x = these s.Dot

no_dot : (ts : List Token) → option class_of [] dot_name ts ≡ option class_of [] nothing ts
no_dot ts = rw (stops_nowhere class_of ts) refl

option_dot_laws : (b : Bool) → Laws class_of (option class_of (dot_codes b) dot_name) (option_spelling dot_name_tokens) (DotFits b) (dot_front b) (dot_codes b) after_dot true
option_dot_laws true = wider (reread (option_laws (nothing_laws dot_name_tokens [] nowhere false)) no_dot) (within_self []) (λ x fits. blank x fits) where
  blank : (x : Option DotName) → OptionFit Nothing x → Within (after_option [] nowhere x) (these s.Dot)
  blank None fits = within_none (these s.Dot)
  blank (Some x) fits = absurd fits
option_dot_laws false = wider (option_laws dot_name_reads) (within_self (these s.Dot)) (λ x fits. under x) where
  under : (x : Option DotName) → Within (after_option (these s.Dot) nowhere x) (these s.Dot)
  under None = within_self (these s.Dot)
  under (Some x) = within_none (these s.Dot)

abbrev pub Target : Type 0
Target = TypeNode × (Option DotName × Place)

module _ {type : Reader Token TypeNode} {p : Phrase TypeNode} (T : Reads type p type_first after_type false) (A : Agrees type_tokens p) (D : NamesDot p) where
  abbrev Ending : Type 0
  Ending = Option DotName × Place

  abbrev behind_type : Bool → Reader Token Ending
  behind_type b = both (option class_of (dot_codes b) dot_name) (sign s.Semicolon)

  abbrev BehindFits : Bool → Ending → Type 0
  BehindFits b = BothFit (DotFits b) (l.sign s.Semicolon).Fits

  abbrev behind_front : Bool → Front Token
  behind_front b = Joint (option_spelling dot_name_tokens) (DotFits b) always (dot_front b) (l.sign s.Semicolon).front

  abbrev end_tokens : Ending → List Token
  end_tokens = both_spelling (option_spelling dot_name_tokens) (l.sign s.Semicolon).spelling

  behind_laws : (b : Bool) → Laws class_of (behind_type b) end_tokens (BehindFits b) (behind_front b) (dot_codes b ++ these s.Semicolon) nowhere false
  behind_laws b = both_any_laws (option_dot_laws b) (sign_reads s.Semicolon) (λ x fits. apart refl)

  abbrev first : TypeNode → List ℕ
  first x = dot_codes (opens_dot x) ++ these s.Semicolon

  type_apart : (x : TypeNode) → Apart (after_type x) (first x)
  type_apart (dynamic_type place) = apart refl
  type_apart (named_type name None no_types) = apart refl
  type_apart (named_type name (Some member) no_types) = apart refl
  type_apart (named_type name None (listed_types opening listed closing)) = apart refl
  type_apart (named_type name (Some member) (listed_types opening listed closing)) = apart refl

  abbrev needs : TypeNode → Bool
  needs x = true

  abbrev typed : Reader Token (TypeNode × Option Ending)
  typed = continued_by class_of needs needs first type (λ x. behind_type (opens_dot x))

  abbrev place_in : TypeNode → Place
  place_in (dynamic_type place) = place
  place_in (named_type (i.Name place text) member types) = place
  place_in (named_type (i.Get place) member types) = place
  place_in (named_type (i.Set place) member types) = place

  abbrev a_target : TypeNode × Option Ending → Target
  a_target (x, Some y) = (x, y)
  a_target (x, None) = (x, (None, place_in x))

  abbrev target : Phrase Target
  target = such target_takes_names (p ~ opt l.dot_name ~ l.sign s.Semicolon)

  -- ---- which trees

  may_name : (x : TypeNode) (d : Option DotName) (a : Place) → DotFits (opens_dot x) d → OptionFit l.dot_name.Fits d × (target_takes_names (x, (d, a)) ≡ true)
  may_name (dynamic_type place) d a fits = (fits, refl)
  may_name (named_type name None no_types) None a fits = (tt, refl)
  may_name (named_type name None no_types) (Some d) a fits = absurd fits
  may_name (named_type name (Some member) no_types) d a fits = (fits, refl)
  may_name (named_type name None (listed_types opening listed closing)) d a fits = (fits, refl)
  may_name (named_type name (Some member) (listed_types opening listed closing)) d a fits = (fits, refl)

  named_fits : (x : TypeNode) (d : Option DotName) (a : Place) → OptionFit l.dot_name.Fits d → target_takes_names (x, (d, a)) ≡ true → DotFits (opens_dot x) d
  named_fits (dynamic_type place) d a fits good = fits
  named_fits (named_type name None no_types) None a fits good = tt
  named_fits (named_type name None no_types) (Some d) a fits good = absurd cc
  named_fits (named_type name (Some member) no_types) d a fits good = fits
  named_fits (named_type name None (listed_types opening listed closing)) d a fits good = fits
  named_fits (named_type name (Some member) (listed_types opening listed closing)) d a fits good = fits

  abbrev TypedFits : TypeNode × Option Ending → Type 0
  TypedFits x = p.Fits x.0 × NeedFit (BehindFits (opens_dot x.0)) true true x.1

  abbrev after_typed : TypeNode × Option Ending → List ℕ
  after_typed = after_followed_by after_type needs first (λ x y. [])

  forth : (x : TypeNode × Option Ending) → TypedFits x → target.Fits (a_target x) × (target.spelling (a_target x) ≡ p.spelling x.0 ++ option_spelling end_tokens x.1) × Within (after_typed x) []
  forth (x, None) fits = let bad : true ≡ false = fits.1 in absurd cc
  forth (x, Some (d, a)) fits = let m = may_name x d a fits.1.1.0 in (((fits.0, (m.0, fits.1.1.1)), m.1), refl, within_none [])

  back : (y : Target) → target.Fits y → (x : TypeNode × Option Ending) × TypedFits x × (a_target x ≡ y)
  back (x, (d, a)) ((fits, (dot, at)), good) = ((x, Some (d, a)), (fits, (refl, (named_fits x d a dot good, at))), refl)

  -- ---- and fronts

  abbrev dotted_front : Front Token
  dotted_front = Joint (option_spelling dot_name_tokens) (OptionFit l.dot_name.Fits) always l.dot_name.front (l.sign s.Semicolon).front

  abbrev typed_front : Front Token
  typed_front = JointBy p.spelling p.Fits needs p.front (λ x. behind_front (opens_dot x))

  abbrev plain_front : Front Token
  plain_front = Joint p.spelling p.Fits always p.front dotted_front

  wider_fits : (b : Bool) (d : Option DotName) → DotFits b d → OptionFit l.dot_name.Fits d
  wider_fits true None fits = tt
  wider_fits true (Some d) fits = absurd fits
  wider_fits false d fits = fits

  wider_front : (b : Bool) (ts : List Token) → behind_front b ts → dotted_front ts
  wider_front true ts (inl f) = inl (subst l.dot_name.front (sym f) dot_name_reads.none)
  wider_front false ts (inl f) = inl f
  wider_front b ts (inr (d, more, fits, on, e, f)) = inr (d, more, wider_fits b d fits, on, e, f)

  typed_out : (ts : List Token) → typed_front ts → plain_front ts
  typed_out ts (inl f) = inl f
  typed_out ts (inr (x, more, fits, on, e, f)) = inr (x, more, fits, on, e, wider_front (opens_dot x) more f)

  -- behind a type's name what begins with a dot is the type's
  name_into : (name : Identifier) (ts more : List Token) → p.Fits (alone name) → ts ≡ p.spelling (alone name) ++ more → dotted_front more → typed_front ts
  name_into name ts more fits e (inl f) = inl (subst p.front (sym (e ∙ ap (λ (m : List Token). m ++ more) (A.spells (alone name)))) (D.begun name more fits f))
  name_into name ts more fits e (inr (None, rest, at, on, e', f)) = inr (alone name, more, fits, refl, e, inr (None, rest, tt, on, e', f))
  name_into name ts more fits e (inr (Some d, rest, at, on, e', f)) =
      inr (dotted name d, rest, D.fits name d fits, refl, e ∙ ap (λ (m : List Token). p.spelling (alone name) ++ m) e' ∙ moved, inr (None, rest, tt, refl, refl, f)) where
        moved : p.spelling (alone name) ++ (dot_name_tokens d ++ rest) ≡ p.spelling (dotted name d) ++ rest
        moved = ap (λ (m : List Token). m ++ (dot_name_tokens d ++ rest)) (A.spells (alone name) ∙ append-nil (identifier_tokens name)) ∙ sym (append_assoc (identifier_tokens name) (dot_name_tokens d) rest)
            ∙ ap (λ (m : List Token). m ++ rest) (ap (λ (m : List Token). identifier_tokens name ++ m) (sym (append-nil (dot_name_tokens d))) ∙ sym (A.spells (dotted name d)))

  kept_into : (x : TypeNode) (ts more : List Token) → p.Fits x → ts ≡ p.spelling x ++ more → dotted_front more → typed_front ts
  kept_into (dynamic_type place) ts more fits e f = inr (dynamic_type place, more, fits, refl, e, f)
  kept_into (named_type name None no_types) ts more fits e f = name_into name ts more fits e f
  kept_into (named_type name (Some member) no_types) ts more fits e f = inr (named_type name (Some member) no_types, more, fits, refl, e, f)
  kept_into (named_type name None (listed_types opening listed closing)) ts more fits e f = inr (named_type name None (listed_types opening listed closing), more, fits, refl, e, f)
  kept_into (named_type name (Some member) (listed_types opening listed closing)) ts more fits e f = inr (named_type name (Some member) (listed_types opening listed closing), more, fits, refl, e, f)

  typed_into : (ts : List Token) → plain_front ts → typed_front ts
  typed_into ts (inl f) = inl f
  typed_into ts (inr (x, more, fits, on, e, f)) = kept_into x ts more fits e f

  -- ---- the reader, which looks for a dot behind any type

  dot_begins : (u : Token) → has (these s.Dot) (class_of u) ≡ true → l.dot_name.front (u ∷ [])
  dot_begins u h = inl (inr (u.place, ap (λ (x : Token). x ∷ []) (sym (only_sign s.Dot u h))))

  no_dot_comes : (name : Identifier) (ts rest : List Token) → type ts ≡ Ok (alone name, rest) → starts class_of (these s.Dot) rest ≡ false
  no_dot_comes name ts [] e = refl
  no_dot_comes name ts (u ∷ rest) e = not_true (has (these s.Dot) (class_of u)) (λ h.
      let fits = (T.sound ts (alone name) (u ∷ rest) e).0 in
      T.longest ts (alone name) u rest e (subst p.front (ap (λ (m : List Token). m ++ u ∷ []) (sym (A.spells (alone name)))) (D.begun name (u ∷ []) fits (dot_begins u h))))

  abbrev any_behind : Reader Token Ending
  any_behind = both (option class_of (these s.Dot) dot_name) (sign s.Semicolon)

  absent : (rest : List Token) → starts class_of (these s.Dot) rest ≡ false → any_behind rest ≡ behind_type true rest
  absent rest off = rw (off, stops_nowhere class_of rest) refl

  same_behind : (x : TypeNode) (ts rest : List Token) → type ts ≡ Ok (x, rest) → any_behind rest ≡ behind_type (opens_dot x) rest
  same_behind (dynamic_type place) ts rest e = refl
  same_behind (named_type name None no_types) ts rest e = absent rest (no_dot_comes name ts rest e)
  same_behind (named_type name (Some member) no_types) ts rest e = refl
  same_behind (named_type name None (listed_types opening listed closing)) ts rest e = refl
  same_behind (named_type name (Some member) (listed_types opening listed closing)) ts rest e = refl

  abbrev any_end : TypeNode → Outcome Token Ending → Outcome Token Target
  any_end x o = and_then o (λ y r. Ok ((x, y), r))

  abbrev some_end : TypeNode → Outcome Token Ending → Outcome Token Target
  some_end x o = and_then (and_then (and_then o (λ y r. Ok (Some y, r))) (λ y r. Ok ((x, y), r))) (λ y r. Ok (a_target y, r))

  same_end : (x : TypeNode) (o : Outcome Token Ending) → any_end x o ≡ some_end x o
  same_end x (Ok y) = refl
  same_end x (Err r) = refl

  same_type : (ts : List Token) (o : Outcome Token TypeNode) → type ts ≡ o →
      and_then o (λ x r. and_then {B = Target} (any_behind r) (λ y r2. Ok ((x, y), r2)))
      ≡ and_then (and_then o (λ x r. and_then (when true (behind_type (opens_dot x)) r) (λ y r2. Ok ((x, y), r2)))) (λ y r. Ok (a_target y, r))
  same_type ts (Ok y) e = ap (any_end y.0) (same_behind y.0 ts y.1 e) ∙ same_end y.0 (behind_type (opens_dot y.0) y.1)
  same_type ts (Err r) e = refl

  same_target : (ts : List Token) → both type any_behind ts ≡ mapped a_target typed ts
  same_target ts = same_type ts (type ts) refl

  pub target_laws : Reads (both type (both (option class_of (these s.Dot) dot_name) (sign s.Semicolon))) (such target_takes_names (p ~ opt l.dot_name ~ l.sign s.Semicolon)) type_first nowhere false
  target_laws = reread (refront (mapped_laws (continued_by_laws T (λ x fits. behind_laws (opens_dot x)) needs needs (λ x e. refl) (λ x fits on. type_apart x)) a_target target.spelling nowhere forth back) typed_out typed_into) same_target
