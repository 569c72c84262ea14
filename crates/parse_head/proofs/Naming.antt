-- Names in lists, and the name of a class.
use Rattle.std.specs.Str.{bytes_eq}
use Rattle.std.proofs.Common.{◌≡◌, ℕ, zero, suc, ◌<◌, ◌≤◌, length, get_or, drop, arith, Bool, true, false, ◌||◌, List, [], ◌∷◌, map, Option, Ok, Err, refl, sym, ap, ◌∙◌}
use Rattle.std.proofs.lemmas.Slice.Eq.{bytes_eq-Decides}
use Rattle.dart_token.specs.declared.token.Token.{Token}
use Rattle.dart_token.specs.declared.token.TokenKind.{TokenKind}
use Rattle.dart_token.specs.declared.token.TokenKind.TheVariants as tk
use Rattle.dart_token.specs.declared.word.Word.TheVariants as w
use Rattle.dart_token.specs.Word.{word_text}
use Rattle.dart_base.specs.declared.place.Place.{Place}
use Rattle.std.proofs.lemmas.List.{drop_all}
use Rattle.dart_token.specs.declared.sign.Sign.{Sign}
use Rattle.dart_token.specs.declared.sign.Sign.TheVariants as s
use Rattle.dart_tree.specs.declared.declaration.OperatorName.TheVariants as o
use Rattle.dart_tree.specs.declared.identifier.CommaName.{CommaName}
use Rattle.dart_tree.specs.declared.identifier.Identifier.{Identifier}
use Rattle.dart_tree.specs.declared.identifier.Identifier.TheVariants as i
use Rattle.grammar_laws.specs.Codes.{has}
use Rattle.grammar_laws.specs.Readers.{Outcome, and_then, both, starts}
use Rattle.grammar_laws.proofs.Codes.{and_both}
use Rattle.grammar_laws.proofs.Cuts.{gave}
use Rattle.token_codes.specs.Codes.{class_of, kind_code, own_or_odd, word_code, plain_names, these, this_word, show_code, hide_code}
use Rattle.token_codes.specs.Leaves.{sign, word, identifier, plain_identifier, named, is_named, named_by, name_of}
use Rattle.syntax_readers.specs.Declarations.{to_names, operator_sign, operator_signs_of, enum}
use Rattle.syntax_readers.specs.Combinators.{◌~◌}
use Rattle.dart_tree.specs.Unit as u
use Rattle.parse_loop.specs.Lists.{Growing}
use Rattle.parse_loop.proofs.Alike.{flat}
use Rattle.parse_head.specs.Heads.{pair_of, class_named, accessor_words, enum_of, enum_behind, trailed_names}
use Rattle.parse_type.proofs.Looking.{starts_either}

abbrev pub names_list : Growing (Unit {0}) (Place × Identifier) (List (Place × Identifier))
names_list = flat (these s.Comma) (both (sign s.Comma) identifier)

pub named_back : (items : List CommaName) → to_names (map pair_of items) ≡ items
named_back [] = refl
named_back (x ∷ items) = ap (λ (l : List CommaName). x ∷ l) (named_back items)

-- ---- what comes

pub combinator_starts : (ts : List Token) → starts class_of (show_code ∷ hide_code ∷ []) ts ≡ (starts class_of (show_code ∷ []) ts || starts class_of (hide_code ∷ []) ts)
combinator_starts ts = starts_either (show_code ∷ []) (hide_code ∷ []) ts

pub accessor_word_starts : (ts : List Token) → starts class_of accessor_words ts ≡ (starts class_of (this_word w.Get) ts || starts class_of (this_word w.Set) ts)
accessor_word_starts ts = starts_either (this_word w.Get) (this_word w.Set) ts

-- ---- the name of a class

own_is_plain : (own : Bool) (code : ℕ) → has plain_names code ≡ false → has plain_names (own_or_odd own code) ≡ false
own_is_plain true code h = h
own_is_plain false code h = refl

never_plain : (own : Bool) (code : ℕ) → has plain_names code ≡ false → has plain_names (own_or_odd own code) ≡ true → ⊥
never_plain own code off on = let e : false ≡ true = sym (own_is_plain own code off) ∙ on in absurd cc

plain_is_name : (kind : TokenKind) (place : Place) (text : List ℕ) → has plain_names (kind_code kind text) ≡ true → named_by kind place text ≡ i.Name place text
plain_is_name (tk.Word w.Get) place text h = absurd (never_plain (bytes_eq text (word_text w.Get)) (word_code w.Get) refl h)
plain_is_name (tk.Word w.Set) place text h = absurd (never_plain (bytes_eq text (word_text w.Set)) (word_code w.Set) refl h)
plain_is_name kind place text h = refl

name_at : (t : Token) → has plain_names (class_of t) ≡ true → name_of t ≡ i.Name t.place t.lexeme
unfolding class_of
name_at t h = plain_is_name t.kind t.place t.lexeme h

-- where an identifier is written as the class is, it is the name of the class
pub named_is : (text : List ℕ) (ts : List Token) → is_named text ts ≡ true → class_named text ts ≡ plain_identifier ts
unfolding named plain_identifier
named_is text [] h = absurd cc
named_is text (t ∷ ts) h =
    let p = and_both (has plain_names (class_of t)) (bytes_eq t.lexeme text) h in
    let e : i.Name t.place text ≡ name_of t = ap (i.Name t.place) (sym ((bytes_eq-Decides t.lexeme text).0 p.1)) ∙ sym (name_at t p.0) in
    rw (p.0, p.1) (ap (λ (x : Identifier). gave x ts) e)

pub not_named : (text : List ℕ) (ts : List Token) → is_named text ts ≡ false → class_named text ts ≡ Err ts
unfolding named
not_named text ts h = rw h refl

-- ---- operators of one sign

pub signs_pass : (signs : List Sign) (i : ℕ) (d : Sign) (ts : List Token) → i < length signs → starts class_of (these (get_or signs i d)) ts ≡ false → operator_signs_of (drop i signs) ts ≡ operator_signs_of (drop (suc i) signs) ts
unfolding operator_signs_of
signs_pass [] i d ts below off = absurd (omega arith)
signs_pass (y ∷ ys) zero d ts below off = rw off refl
signs_pass (y ∷ ys) (suc i) d ts below off = signs_pass ys i d ts (omega arith) off

signs_take : (signs : List Sign) (i : ℕ) (d : Sign) (ts : List Token) → i < length signs → starts class_of (these (get_or signs i d)) ts ≡ true → operator_signs_of (drop i signs) ts ≡ operator_sign (get_or signs i d) ts
unfolding operator_signs_of
signs_take [] i d ts below on = absurd (omega arith)
signs_take (y ∷ ys) zero d ts below on = rw on refl
signs_take (y ∷ ys) (suc i) d ts below on = signs_take ys i d ts (omega arith) on

pub signs_give : (signs : List Sign) (i : ℕ) (d : Sign) (ts mid : List Token) (place : Place) → i < length signs → starts class_of (these (get_or signs i d)) ts ≡ true → sign (get_or signs i d) ts ≡ Ok (place, mid) → operator_signs_of (drop i signs) ts ≡ Ok (o.Sign place (get_or signs i d), mid)
signs_give signs i d ts mid place below on e = signs_take signs i d ts below on ∙ rw e refl

pub signs_stop : (signs : List Sign) (i : ℕ) (d : Sign) (ts end : List Token) → i < length signs → starts class_of (these (get_or signs i d)) ts ≡ true → sign (get_or signs i d) ts ≡ Err end → operator_signs_of (drop i signs) ts ≡ Err end
signs_stop signs i d ts end below on e = signs_take signs i d ts below on ∙ rw e refl

pub signs_over : (signs : List Sign) (i : ℕ) (ts : List Token) → length signs ≤ i → operator_signs_of (drop i signs) ts ≡ Err ts
unfolding operator_signs_of
signs_over signs i ts over = rw (drop_all i signs over) refl

-- ---- enums

enum_step : (place : Place) (outcome : Outcome Token (Identifier × (Place × (Identifier × ((List (Place × Identifier) × Option Place) × Place))))) →
    and_then {B = u.Enum} (and_then {B = Place × (Identifier × (Place × (Identifier × ((List (Place × Identifier) × Option Place) × Place))))} outcome (λ x rest. Ok ((place, x), rest))) (λ x rest. Ok (enum_of x.0 x.1, rest)) ≡ and_then outcome (λ x rest. Ok (enum_of place x, rest))
enum_step place (Ok x) = refl
enum_step place (Err rest) = refl

pub enum_gives : (ts mid : List Token) (place : Place) → word w.Enum ts ≡ Ok (place, mid) → enum ts ≡ enum_behind place mid
unfolding enum
enum_gives ts mid place e = rw e (enum_step place ((plain_identifier ~ sign s.LeftBrace ~ identifier ~ trailed_names ~ sign s.RightBrace) mid))

pub enum_stops : (ts end : List Token) → word w.Enum ts ≡ Err end → enum ts ≡ Err end
unfolding enum
enum_stops ts end e = rw e refl
