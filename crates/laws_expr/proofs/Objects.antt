-- The law of the reader of `new` and `const` (ECMA-408, 16.12.1 New, 16.12.2 Const): a dot and a name behind a type's name are its own.
use Rattle.std.proofs.Common.{◌≡◌, ℕ, zero, suc, Bool, true, false, List, [], ◌∷◌, ◌++◌, Option, None, Some, Ok, Err, inl, inr, refl, ap, sym, ◌∙◌, subst, append_assoc}
use Rattle.std.proofs.lemmas.List.{append-nil}
use Rattle.dart_base.specs.declared.place.Place.{Place}
use Rattle.dart_token.specs.declared.token.Token.{Token}
use Rattle.dart_token.specs.declared.sign.Sign.TheVariants as s
use Rattle.dart_tree.specs.declared.identifier.Identifier.{Identifier}
use Rattle.dart_tree.specs.declared.identifier.DotName.{DotName}
use Rattle.dart_tree.specs.declared.expression.Creation.{Creation}
use Rattle.dart_tree.specs.declared.expression.Creation.TheVariants as c
use Rattle.dart_tree.specs.LeafTokens.{type_tokens, identifier_tokens, dot_name_tokens, creation_token, maybe_dot_name}
use Rattle.dart_tree.specs.Types.{TypeNode, dynamic_type, named_type, no_types, listed_types}
use Rattle.dart_tree.specs.Tree as t
use Rattle.dart_tree.specs.Tree.{Primary, Arguments}
use Rattle.dart_tree.specs.Tokens.{primary_tokens}
use Rattle.grammar_laws.specs.Codes.{has, Apart, Within, nowhere, given, after_option, after_followed_by}
use Rattle.grammar_laws.specs.Readers.{Outcome, Reader, and_then, always, mapped, both, option, starts, when, nothing, continued_by}
use Rattle.grammar_laws.specs.Fronts.{Front, Empty, Joint, JointBy, both_spelling, option_spelling, BothFit, OptionFit, NeedFit, Nothing}
use Rattle.grammar_laws.specs.Laws.{Laws}
use Rattle.grammar_laws.proofs.Codes.{apart, apart_none, not_true, within_none, within_self}
use Rattle.grammar_laws.proofs.Restated.{mapped_laws, nothing_laws, refront, reread, wider}
use Rattle.grammar_laws.proofs.Combined.{both_laws, both_any_laws}
use Rattle.grammar_laws.proofs.Continued.{continued_by_laws}
use Rattle.grammar_laws.proofs.Followed.{option_laws}
use Rattle.grammar_laws.proofs.Tried.{stops_nowhere}
use Rattle.dart_syntax.specs.Phrases.{Phrase, ◌~◌, such, opt, made, Anything}
use Rattle.dart_syntax.specs.Leaves as l
use Rattle.dart_syntax.specs.Types.{type_within}
use Rattle.dart_syntax.specs.Edges.{opens_dot}
use Rattle.dart_syntax.specs.Expressions as g
use Rattle.dart_syntax.specs.Expressions.{type_takes_names}
use Rattle.token_codes.specs.Codes.{class_of, these, creations}
use Rattle.token_codes.specs.Leaves.{creation, dot_name}
use Rattle.token_codes.specs.Reads.{Reads}
use Rattle.token_codes.proofs.Leaves.{dot_name_reads}
use Rattle.token_codes.proofs.Only.{only_sign}
use Rattle.laws_type.specs.Nexts.{after_type}
use Rattle.syntax_readers.specs.Primaries.{ExprReaders, object}
use Rattle.laws_expr.proofs.Leaves.{creation_reads}
use Rattle.laws_expr.proofs.Known.{ClosedRead}

abbrev pub alone : Identifier → TypeNode
alone name = named_type name None no_types

abbrev pub dotted : Identifier → DotName → TypeNode
dotted name dot = named_type name (Some dot) no_types

-- a type's name takes a dot and a name
pub record NamesDot (p : Phrase TypeNode) : Type 0 where
  pub fits : (name : Identifier) (dot : DotName) → p.Fits (alone name) → p.Fits (dotted name dot)
  pub begun : (name : Identifier) (ts : List Token) → p.Fits (alone name) → l.dot_name.front ts → p.front (type_tokens (alone name) ++ ts)

pub names_dot : (n : ℕ) → NamesDot (type_within n)
unfolding type_within
names_dot zero = record { fits = λ name dot fits. absurd fits; begun = λ name ts fits f. absurd fits }
names_dot (suc n) = record {
  fits = λ name dot fits. inr ((name, (Some dot, no_types)), (tt, (((dot.dot, dot.name), (tt, tt), refl), (None, tt, refl))), refl);
  begun = λ name ts fits f. inr (inr (name, ts, tt, refl, ap (λ (m : List Token). m ++ ts) (append-nil (identifier_tokens name)), inl f));
}

-- ---- behind a type: a dot and a name, unless it would have taken them

abbrev DotFits : Bool → Option DotName → Type 0
DotFits true = OptionFit Nothing
DotFits false = OptionFit l.dot_name.Fits

abbrev dot_front : Bool → Front Token
dot_front true = Empty
dot_front false = l.dot_name.front

abbrev dot_codes : Bool → List ℕ
dot_codes true = []
dot_codes false = these s.Dot

abbrev after_dot : Option DotName → List ℕ
after_dot x = these s.Dot

no_dot : (ts : List Token) → option class_of [] dot_name ts ≡ option class_of [] nothing ts
no_dot ts = rw (stops_nowhere class_of ts) refl

option_dot_laws : (b : Bool) → Laws class_of (option class_of (dot_codes b) dot_name) (option_spelling dot_name_tokens) (DotFits b) (dot_front b) (dot_codes b) after_dot true
option_dot_laws true = wider (reread (option_laws (nothing_laws dot_name_tokens [] nowhere false)) no_dot) (within_self []) (λ x fits. blank x fits) where
  blank : (x : Option DotName) → OptionFit Nothing x → Within (after_option [] nowhere x) (these s.Dot)
  blank None fits = within_none (these s.Dot)
  blank (Some x) fits = absurd fits
option_dot_laws false = wider (option_laws dot_name_reads) (within_self (these s.Dot)) (λ x fits. under x) where
  under : (x : Option DotName) → Within (after_option (these s.Dot) nowhere x) (these s.Dot)
  under None = within_self (these s.Dot)
  under (Some x) = within_none (these s.Dot)

module _ {here : ExprReaders} {nodes : g.ExprNodes} (N : ClosedRead here nodes) (D : NamesDot nodes.type) where
  abbrev behind_type : Bool → Reader Token (Option DotName × Arguments)
  behind_type b = both (option class_of (dot_codes b) dot_name) here.arguments

  abbrev BehindFits : Bool → Option DotName × Arguments → Type 0
  BehindFits b = BothFit (DotFits b) nodes.arguments.Fits

  abbrev behind_front : Bool → Front Token
  behind_front b = Joint (option_spelling dot_name_tokens) (DotFits b) always (dot_front b) nodes.arguments.front

  behind_laws : (b : Bool) → Laws class_of (behind_type b) (both_spelling (option_spelling dot_name_tokens) nodes.arguments.spelling) (BehindFits b) (behind_front b) (dot_codes b ++ these s.LeftParenthesis) nowhere false
  behind_laws b = both_any_laws (option_dot_laws b) N.arguments (λ x fits. apart refl)

  abbrev first : TypeNode → List ℕ
  first x = dot_codes (opens_dot x) ++ these s.LeftParenthesis

  type_apart : (x : TypeNode) → Apart (after_type x) (first x)
  type_apart (dynamic_type place) = apart refl
  type_apart (named_type name None no_types) = apart refl
  type_apart (named_type name (Some member) no_types) = apart refl
  type_apart (named_type name None (listed_types opening listed closing)) = apart refl
  type_apart (named_type name (Some member) (listed_types opening listed closing)) = apart refl

  abbrev needs : TypeNode → Bool
  needs x = true

  abbrev typed : Reader Token (TypeNode × Option (Option DotName × Arguments))
  typed = continued_by class_of needs needs first here.type (λ x. behind_type (opens_dot x))

  abbrev place_of : Creation → Place
  place_of (c.New place) = place
  place_of (c.Const place) = place

  abbrev an_object : Creation × (TypeNode × Option (Option DotName × Arguments)) → Primary
  an_object (x, (of, Some (constructor, arguments))) = t.new_object x of constructor arguments
  an_object (x, (of, None)) = t.bare_super (place_of x)

  abbrev object_of : Creation × (TypeNode × (Option DotName × Arguments)) → Primary
  object_of x = t.new_object x.0 x.1.0 x.1.1.0 x.1.1.1

  abbrev objects : Phrase Primary
  objects = made primary_tokens object_of (l.creation ~ such type_takes_names (nodes.type ~ opt l.dot_name ~ nodes.arguments))

  -- ---- which trees

  may_name : (x : TypeNode) (d : Option DotName) (a : Arguments) → DotFits (opens_dot x) d → OptionFit l.dot_name.Fits d × (type_takes_names (x, (d, a)) ≡ true)
  may_name (dynamic_type place) d a fits = (fits, refl)
  may_name (named_type name None no_types) None a fits = (tt, refl)
  may_name (named_type name None no_types) (Some d) a fits = absurd fits
  may_name (named_type name (Some member) no_types) d a fits = (fits, refl)
  may_name (named_type name None (listed_types opening listed closing)) d a fits = (fits, refl)
  may_name (named_type name (Some member) (listed_types opening listed closing)) d a fits = (fits, refl)

  named_fits : (x : TypeNode) (d : Option DotName) (a : Arguments) → OptionFit l.dot_name.Fits d → type_takes_names (x, (d, a)) ≡ true → DotFits (opens_dot x) d
  named_fits (dynamic_type place) d a fits good = fits
  named_fits (named_type name None no_types) None a fits good = tt
  named_fits (named_type name None no_types) (Some d) a fits good = absurd cc
  named_fits (named_type name (Some member) no_types) d a fits good = fits
  named_fits (named_type name None (listed_types opening listed closing)) d a fits good = fits
  named_fits (named_type name (Some member) (listed_types opening listed closing)) d a fits good = fits

  said_dot : (d : Option DotName) → maybe_dot_name d ≡ option_spelling dot_name_tokens d
  said_dot None = refl
  said_dot (Some d) = refl

  object_said : (x : Creation) (of : TypeNode) (d : Option DotName) (a : Arguments) → primary_tokens (t.new_object x of d a) ≡ creation_token x ∷ (nodes.type.spelling of ++ (option_spelling dot_name_tokens d ++ nodes.arguments.spelling a))
  unfolding primary_tokens
  object_said x of d a = rw (N.agrees.type.spells of, N.agrees.arguments.spells a, said_dot d) refl

  abbrev TypedFits : TypeNode × Option (Option DotName × Arguments) → Type 0
  TypedFits x = nodes.type.Fits x.0 × NeedFit (BehindFits (opens_dot x.0)) true true x.1

  abbrev after_typed : TypeNode × Option (Option DotName × Arguments) → List ℕ
  after_typed = after_followed_by after_type needs first (λ x y. [])

  forth : (x : Creation × (TypeNode × Option (Option DotName × Arguments))) → BothFit Anything TypedFits x → objects.Fits (an_object x) × (primary_tokens (an_object x) ≡ both_spelling l.creation_tokens (λ y. nodes.type.spelling y.0 ++ option_spelling (both_spelling (option_spelling dot_name_tokens) nodes.arguments.spelling) y.1) x) × Within (after_typed x.1) []
  forth (x, (of, None)) fits = let bad : true ≡ false = fits.1.1 in absurd cc
  forth (x, (of, Some (d, a))) fits =
      let m = may_name of d a fits.1.1.1.0 in
      (((x, (of, (d, a))), (tt, ((fits.1.0, (m.0, fits.1.1.1.1)), m.1)), refl), object_said x of d a, within_none [])

  back : (y : Primary) → objects.Fits y → (x : Creation × (TypeNode × Option (Option DotName × Arguments))) × BothFit Anything TypedFits x × (an_object x ≡ y)
  back y ((x, (of, (d, a))), (at, ((fits, (dot, given)), good)), is) = ((x, (of, Some (d, a))), (tt, (fits, (refl, (named_fits of d a dot good, given)))), is)

  -- ---- and fronts

  abbrev dotted_front : Front Token
  dotted_front = Joint (option_spelling dot_name_tokens) (OptionFit l.dot_name.Fits) always l.dot_name.front nodes.arguments.front

  abbrev typed_front : Front Token
  typed_front = JointBy nodes.type.spelling nodes.type.Fits needs nodes.type.front (λ x. behind_front (opens_dot x))

  abbrev plain_front : Front Token
  plain_front = Joint nodes.type.spelling nodes.type.Fits always nodes.type.front dotted_front

  wider_fits : (b : Bool) (d : Option DotName) → DotFits b d → OptionFit l.dot_name.Fits d
  wider_fits true None fits = tt
  wider_fits true (Some d) fits = absurd fits
  wider_fits false d fits = fits

  wider_front : (b : Bool) (ts : List Token) → behind_front b ts → dotted_front ts
  wider_front true ts (inl f) = inl (subst l.dot_name.front (sym f) dot_name_reads.none)
  wider_front false ts (inl f) = inl f
  wider_front b ts (inr (d, more, fits, on, e, f)) = inr (d, more, wider_fits b d fits, on, e, f)

  typed_out : (ts : List Token) → typed_front ts → plain_front ts
  typed_out ts (inl f) = inl f
  typed_out ts (inr (x, more, fits, on, e, f)) = inr (x, more, fits, on, e, wider_front (opens_dot x) more f)

  -- behind a type's name what begins with a dot is the type's
  name_into : (name : Identifier) (ts more : List Token) → nodes.type.Fits (alone name) → ts ≡ nodes.type.spelling (alone name) ++ more → dotted_front more → typed_front ts
  name_into name ts more fits e (inl f) = inl (subst nodes.type.front (sym (e ∙ ap (λ (m : List Token). m ++ more) (N.agrees.type.spells (alone name)))) (D.begun name more fits f))
  name_into name ts more fits e (inr (None, rest, at, on, e', f)) = inr (alone name, more, fits, refl, e, inr (None, rest, tt, on, e', f))
  name_into name ts more fits e (inr (Some d, rest, at, on, e', f)) =
      inr (dotted name d, rest, D.fits name d fits, refl, e ∙ ap (λ (m : List Token). nodes.type.spelling (alone name) ++ m) e' ∙ moved, inr (None, rest, tt, refl, refl, f)) where
        moved : nodes.type.spelling (alone name) ++ (dot_name_tokens d ++ rest) ≡ nodes.type.spelling (dotted name d) ++ rest
        moved = ap (λ (m : List Token). m ++ (dot_name_tokens d ++ rest)) (N.agrees.type.spells (alone name) ∙ append-nil (identifier_tokens name)) ∙ sym (append_assoc (identifier_tokens name) (dot_name_tokens d) rest)
            ∙ ap (λ (m : List Token). m ++ rest) (ap (λ (m : List Token). identifier_tokens name ++ m) (sym (append-nil (dot_name_tokens d))) ∙ sym (N.agrees.type.spells (dotted name d)))

  kept_into : (x : TypeNode) (ts more : List Token) → nodes.type.Fits x → ts ≡ nodes.type.spelling x ++ more → dotted_front more → typed_front ts
  kept_into (dynamic_type place) ts more fits e f = inr (dynamic_type place, more, fits, refl, e, f)
  kept_into (named_type name None no_types) ts more fits e f = name_into name ts more fits e f
  kept_into (named_type name (Some member) no_types) ts more fits e f = inr (named_type name (Some member) no_types, more, fits, refl, e, f)
  kept_into (named_type name None (listed_types opening listed closing)) ts more fits e f = inr (named_type name None (listed_types opening listed closing), more, fits, refl, e, f)
  kept_into (named_type name (Some member) (listed_types opening listed closing)) ts more fits e f = inr (named_type name (Some member) (listed_types opening listed closing), more, fits, refl, e, f)

  typed_into : (ts : List Token) → plain_front ts → typed_front ts
  typed_into ts (inl f) = inl f
  typed_into ts (inr (x, more, fits, on, e, f)) = kept_into x ts more fits e f

  abbrev with_creation : Front Token → Front Token
  with_creation f = Joint l.creation_tokens Anything always l.creation.front f

  object_out : (ts : List Token) → with_creation typed_front ts → with_creation plain_front ts
  object_out ts (inl f) = inl f
  object_out ts (inr (x, more, at, on, e, f)) = inr (x, more, at, on, e, typed_out more f)

  object_into : (ts : List Token) → with_creation plain_front ts → with_creation typed_front ts
  object_into ts (inl f) = inl f
  object_into ts (inr (x, more, at, on, e, f)) = inr (x, more, at, on, e, typed_into more f)

  -- ---- the reader, which looks for a dot behind any type

  dot_begins : (u : Token) → has (these s.Dot) (class_of u) ≡ true → l.dot_name.front (u ∷ [])
  dot_begins u h = inl (inr (u.place, ap (λ (x : Token). x ∷ []) (sym (only_sign s.Dot u h))))

  no_dot_comes : (name : Identifier) (ts rest : List Token) → here.type ts ≡ Ok (alone name, rest) → starts class_of (these s.Dot) rest ≡ false
  no_dot_comes name ts [] e = refl
  no_dot_comes name ts (u ∷ rest) e = not_true (has (these s.Dot) (class_of u)) (λ h.
      let fits = (N.type.sound ts (alone name) (u ∷ rest) e).0 in
      N.type.longest ts (alone name) u rest e (subst nodes.type.front (ap (λ (m : List Token). m ++ u ∷ []) (sym (N.agrees.type.spells (alone name)))) (D.begun name (u ∷ []) fits (dot_begins u h))))

  abbrev any_behind : Reader Token (Option DotName × Arguments)
  any_behind = both (option class_of (these s.Dot) dot_name) here.arguments

  absent : (rest : List Token) → starts class_of (these s.Dot) rest ≡ false → any_behind rest ≡ behind_type true rest
  absent rest off = rw (off, stops_nowhere class_of rest) refl

  same_behind : (x : TypeNode) (ts rest : List Token) → here.type ts ≡ Ok (x, rest) → any_behind rest ≡ behind_type (opens_dot x) rest
  same_behind (dynamic_type place) ts rest e = refl
  same_behind (named_type name None no_types) ts rest e = absent rest (no_dot_comes name ts rest e)
  same_behind (named_type name (Some member) no_types) ts rest e = refl
  same_behind (named_type name None (listed_types opening listed closing)) ts rest e = refl
  same_behind (named_type name (Some member) (listed_types opening listed closing)) ts rest e = refl

  abbrev any_end : Creation → TypeNode → Outcome Token (Option DotName × Arguments) → Outcome Token Primary
  any_end x of o = and_then (and_then (and_then o (λ y r. Ok ((of, y), r))) (λ y r. Ok ((x, y), r))) (λ y r. Ok (object_of y, r))

  abbrev some_end : Creation → TypeNode → Outcome Token (Option DotName × Arguments) → Outcome Token Primary
  some_end x of o = and_then (and_then (and_then (and_then o (λ y r. Ok (Some y, r))) (λ y r. Ok ((of, y), r))) (λ y r. Ok ((x, y), r))) (λ y r. Ok (an_object y, r))

  same_end : (x : Creation) (of : TypeNode) (o : Outcome Token (Option DotName × Arguments)) → any_end x of o ≡ some_end x of o
  same_end x of (Ok y) = refl
  same_end x of (Err r) = refl

  same_type : (x : Creation) (ts : List Token) (o : Outcome Token TypeNode) → here.type ts ≡ o →
      and_then (and_then (and_then o (λ of r. and_then (any_behind r) (λ y r2. Ok ((of, y), r2)))) (λ y r. Ok ((x, y), r))) (λ y r. Ok (object_of y, r))
      ≡ and_then (and_then (and_then o (λ of r. and_then (when true (behind_type (opens_dot of)) r) (λ y r2. Ok ((of, y), r2)))) (λ y r. Ok ((x, y), r))) (λ y r. Ok (an_object y, r))
  same_type x ts (Ok y) e = ap (any_end x y.0) (same_behind y.0 ts y.1 e) ∙ same_end x y.0 (behind_type (opens_dot y.0) y.1)
  same_type x ts (Err r) e = refl

  same_creation : (o : Outcome Token Creation) →
      and_then (and_then o (λ x m. and_then (both here.type any_behind m) (λ y r. Ok ((x, y), r)))) (λ y r. Ok (object_of y, r)) ≡ and_then (and_then o (λ x m. and_then (typed m) (λ y r. Ok ((x, y), r)))) (λ y r. Ok (an_object y, r))
  same_creation (Ok y) = same_type y.0 y.1 (here.type y.1) refl
  same_creation (Err r) = refl

  same_object : (ts : List Token) → object here ts ≡ mapped an_object (both creation typed) ts
  unfolding object
  same_object ts = same_creation (creation ts)

  pub object_laws : Reads (object here) objects creations nowhere false
  object_laws = reread (refront (mapped_laws (both_laws creation_reads (continued_by_laws N.type (λ x fits. behind_laws (opens_dot x)) needs needs (λ x e. refl) (λ x fits on. type_apart x)) (λ x fits. apart_none _)) an_object primary_tokens nowhere forth back) object_out object_into) same_object
