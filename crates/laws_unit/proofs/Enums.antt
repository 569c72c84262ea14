-- The law of enums (ECMA-408, 13 Enums).
use Rattle.std.proofs.Common.{◌≡◌, ℕ, false, List, [], ◌∷◌, ◌++◌, Option, inl, inr, refl, sym, ap, ◌∙◌, append_assoc}
use Rattle.std.specs.List.{flat_map, AllByRecursion}
use Rattle.dart_base.specs.declared.place.Place.{Place}
use Rattle.dart_token.specs.declared.token.Token.{Token}
use Rattle.dart_token.specs.declared.sign.Sign.TheVariants as s
use Rattle.dart_token.specs.declared.word.Word.TheVariants as w
use Rattle.dart_tree.specs.declared.identifier.CommaName.{CommaName}
use Rattle.dart_tree.specs.declared.identifier.Identifier.{Identifier}
use Rattle.dart_tree.specs.LeafTokens.{identifier_tokens}
use Rattle.dart_tree.specs.Unit.{Enum}
use Rattle.dart_tree.specs.UnitTokens.{comma_name_tokens, enum_tokens}
use Rattle.grammar_laws.specs.Codes.{nowhere}
use Rattle.grammar_laws.specs.Readers.{always}
use Rattle.grammar_laws.specs.Fronts.{Front, Joint, Several, GoesOn, BothFit, OptionFit, both_spelling, option_spelling}
use Rattle.grammar_laws.proofs.Codes.{apart, apart_none, inside, within_none}
use Rattle.grammar_laws.proofs.Restated.{mapped_laws, refront}
use Rattle.grammar_laws.proofs.Combined.{both_laws, both_any_laws}
use Rattle.grammar_laws.proofs.Separated.{trailed_plain_laws}
use Rattle.dart_syntax.specs.Phrases.{◌~◌, opt, many, Anything}
use Rattle.dart_syntax.specs.Leaves as l
use Rattle.dart_syntax.specs.Leaves.{sign_tokens}
use Rattle.dart_syntax.specs.Declarations as p
use Rattle.dart_syntax.proofs.AgreeingExpressions.{said_sign}
use Rattle.token_codes.specs.Codes.{names, plain_names, sign_code, these, this_word}
use Rattle.token_codes.specs.Reads.{Reads}
use Rattle.token_codes.proofs.Leaves.{sign_reads, word_reads, identifier_reads}
use Rattle.syntax_readers.specs.Declarations as i
use Rattle.syntax_readers.specs.Declarations.{to_names}
use Rattle.laws_unit.proofs.Names.{plain_identifier_reads}

-- ---- names behind commas, as pairs and as nodes

abbrev Pair : Type 0
Pair = Place × Identifier

abbrev pair_tokens : Pair → List Token
pair_tokens = both_spelling (sign_tokens s.Comma) identifier_tokens

abbrev PairFits : Pair → Type 0
PairFits = BothFit Anything Anything

abbrev to_pairs : List CommaName → List Pair
to_pairs [] = []
to_pairs (x ∷ more) = (x.comma, x.name) ∷ to_pairs more

said_names : (all : List Pair) → flat_map comma_name_tokens (to_names all) ≡ flat_map pair_tokens all
said_names [] = refl
said_names (x ∷ more) = ap (λ (m : List Token). pair_tokens x ++ m) (said_names more)

said_pairs : (all : List CommaName) → flat_map pair_tokens (to_pairs all) ≡ flat_map comma_name_tokens all
said_pairs [] = refl
said_pairs (x ∷ more) = ap (λ (m : List Token). comma_name_tokens x ++ m) (said_pairs more)

names_of : (all : List CommaName) → to_names (to_pairs all) ≡ all
names_of [] = refl
names_of (x ∷ more) = ap (λ (m : List CommaName). x ∷ m) (names_of more)

names_fit : (all : List Pair) → AllByRecursion l.comma_name.Fits (to_names all)
names_fit [] = tt
names_fit (x ∷ more) = ((x, (tt, tt), refl), names_fit more)

pairs_fit : (all : List CommaName) → AllByRecursion PairFits (to_pairs all)
pairs_fit [] = tt
pairs_fit (x ∷ more) = ((tt, tt), pairs_fit more)

names_go : (all : List Pair) → AllByRecursion (GoesOn l.comma_name.Fits always) (to_names all)
names_go [] = tt
names_go (x ∷ more) = (((x, (tt, tt), refl), refl), names_go more)

pairs_go : (all : List CommaName) → AllByRecursion (GoesOn PairFits always) (to_pairs all)
pairs_go [] = tt
pairs_go (x ∷ more) = (((tt, tt), refl), pairs_go more)

-- ---- the names of an enum, a comma or none, and the brace

abbrev Trailed : Type 0
Trailed = List Pair × Option Place

abbrev trailed_tokens : Trailed → List Token
trailed_tokens x = flat_map pair_tokens x.0 ++ option_spelling (sign_tokens s.Comma) x.1

abbrev TrailedFits : Trailed → Type 0
TrailedFits x = AllByRecursion PairFits x.0 × OptionFit Anything x.1

abbrev trailed_front : Front Token
trailed_front = Several pair_tokens PairFits always (l.sign s.Comma ~ l.identifier).front

abbrev end_front : Front Token
end_front = Joint trailed_tokens TrailedFits always trailed_front (l.sign s.RightBrace).front

abbrev names_front : Front Token
names_front = (many l.comma_name ~ (opt (l.sign s.Comma) ~ l.sign s.RightBrace)).front

end_out : (ts : List Token) → end_front ts → names_front ts
end_out ts (inl (all, more, go, e, f)) = inl (to_names all, more, names_go all, e ∙ ap (λ (m : List Token). m ++ more) (sym (said_names all)), f)
end_out ts (inr ((all, comma), more, fits, on, e, f)) =
    inr (
      to_names all,
      option_spelling (sign_tokens s.Comma) comma ++ more,
      names_fit all,
      refl,
      e ∙ append_assoc (flat_map pair_tokens all) (option_spelling (sign_tokens s.Comma) comma) more ∙ ap (λ (m : List Token). m ++ (option_spelling (sign_tokens s.Comma) comma ++ more)) (sym (said_names all)),
      inr (comma, more, fits.1, refl, refl, f),
    )

-- a comma alone begins a further name
lone : (more : List Token) → (l.sign s.Comma).front more → (l.sign s.Comma ~ l.identifier).front more
lone more f = inl f

end_into : (ts : List Token) → names_front ts → end_front ts
end_into ts (inl (all, more, go, e, f)) = inl (to_pairs all, more, pairs_go all, e ∙ ap (λ (m : List Token). m ++ more) (sym (said_pairs all)), f)
end_into ts (inr (all, more, fits, on, e, inl f)) = inl (to_pairs all, more, pairs_go all, e ∙ ap (λ (m : List Token). m ++ more) (sym (said_pairs all)), inl f)
end_into ts (inr (all, more, fits, on, e, inr (comma, rest, own, go, is, f))) =
    inr (
      (to_pairs all, comma),
      rest,
      (pairs_fit all, own),
      refl,
      e ∙ ap (λ (m : List Token). flat_map comma_name_tokens all ++ m) is ∙ ap (λ (m : List Token). m ++ (option_spelling (sign_tokens s.Comma) comma ++ rest)) (sym (said_pairs all)) ∙ sym (append_assoc (flat_map pair_tokens (to_pairs all)) (option_spelling (sign_tokens s.Comma) comma) rest),
      f,
    )

-- ---- enums

abbrev Parts : Type 0
Parts = Place × (Identifier × (Place × (Identifier × (Trailed × Place))))

abbrev to_enum : Parts → Enum
to_enum x = record {
  word = x.0;
  name = x.1.0;
  opening = x.1.1.0;
  first = x.1.1.1.0;
  more = to_names x.1.1.1.1.0.0;
  comma = x.1.1.1.1.0.1;
  closing = x.1.1.1.1.1;
}

abbrev spelled : Parts → List Token
spelled = both_spelling (l.word w.Enum).spelling (both_spelling identifier_tokens (both_spelling (sign_tokens s.LeftBrace) (both_spelling identifier_tokens (both_spelling trailed_tokens (sign_tokens s.RightBrace)))))

abbrev PartsFit : Parts → Type 0
PartsFit = BothFit Anything (BothFit l.plain_identifier.Fits (BothFit Anything (BothFit Anything (BothFit TrailedFits Anything))))

-- what stands in front of the names
abbrev before : Front Token → Front Token
before rest = Joint (l.word w.Enum).spelling Anything always (l.word w.Enum).front (Joint identifier_tokens l.plain_identifier.Fits always l.plain_identifier.front
    (Joint (sign_tokens s.LeftBrace) Anything always (l.sign s.LeftBrace).front (Joint identifier_tokens Anything always l.identifier.front rest)))

before_more : (second other : Front Token) → ((ts : List Token) → second ts → other ts) → (ts : List Token) → before second ts → before other ts
before_more second other go ts (inl f) = inl f
before_more second other go ts (inr (word, a, aa, ab, ac, inl f)) = inr (word, a, aa, ab, ac, inl f)
before_more second other go ts (inr (word, a, aa, ab, ac, inr (name, b, ba, bb, bc, inl f))) = inr (word, a, aa, ab, ac, inr (name, b, ba, bb, bc, inl f))
before_more second other go ts (inr (word, a, aa, ab, ac, inr (name, b, ba, bb, bc, inr (opening, c, ca, cb, cd, inl f)))) = inr (word, a, aa, ab, ac, inr (name, b, ba, bb, bc, inr (opening, c, ca, cb, cd, inl f)))
before_more second other go ts (inr (word, a, aa, ab, ac, inr (name, b, ba, bb, bc, inr (opening, c, ca, cb, cd, inr (first, d, da, db, dc, f))))) =
    inr (word, a, aa, ab, ac, inr (name, b, ba, bb, bc, inr (opening, c, ca, cb, cd, inr (first, d, da, db, dc, go d f))))

enum_said : (x : Parts) → enum_tokens (to_enum x) ≡ spelled x
enum_said x = simp (said_names, said_sign, append_assoc)

forth : (x : Parts) → PartsFit x → p.enum_over.Fits (to_enum x)
forth (word, (name, (opening, (first, ((all, comma), closing))))) fits = ((word, (name, (opening, (first, (to_names all, (comma, closing)))))), (tt, (fits.1.0, (tt, (tt, (names_fit all, (fits.1.1.1.1.0.1, tt)))))), refl)

back : (x : Enum) → p.enum_over.Fits x → (y : Parts) × PartsFit y × (to_enum y ≡ x)
back x ((word, (name, (opening, (first, (all, (comma, closing)))))), fits, e) = (
  (word, (name, (opening, (first, ((to_pairs all, comma), closing))))),
  (tt, (fits.1.0, (tt, (tt, ((pairs_fit all, fits.1.1.1.1.1.0), tt))))),
  ap (λ (m : List CommaName). record { word = word; name = name; opening = opening; first = first; more = m; comma = comma; closing = closing }) (names_of all) ∙ e,
)

abbrev behind_names : List ℕ
behind_names = sign_code s.Comma ∷ names

pub enum_laws : Reads i.enum p.enum_over (this_word w.Enum) nowhere false
unfolding i.enum
enum_laws = refront (mapped_laws (both_laws (word_reads w.Enum) (both_laws plain_identifier_reads (both_laws (sign_reads s.LeftBrace) (both_laws identifier_reads
    (both_any_laws (trailed_plain_laws (sign_reads s.Comma) identifier_reads (λ x fits. apart_none names) {codes = behind_names} (inside refl) (inside refl) (λ x fits. within_none behind_names) (λ x fits. within_none behind_names) (λ x fits. apart_none (these s.Comma))) (sign_reads s.RightBrace) (λ x fits. apart refl))
    (λ x fits. apart_none _)) (λ x fits. apart_none names)) (λ x fits. apart_none (these s.LeftBrace))) (λ x fits. apart_none plain_names))
    to_enum enum_tokens {Fits_q = p.enum_over.Fits} nowhere (λ x fits. (forth x fits, enum_said x, within_none [])) back)
    (before_more end_front names_front end_out) (before_more names_front end_front end_into)
