-- What stands behind `on` where another part of a `try` begins: a type's name, and behind that what goes on with a type.
use Rattle.std.proofs.Common.{◌≡◌, ℕ, zero, suc, Bool, true, false, ◌⊎◌, inl, inr, List, [], ◌∷◌, ◌++◌, None, Ok, refl, sym, ap, subst, ◌∙◌}
use Rattle.std.proofs.lemmas.List.{append-nil}
use Rattle.dart_token.specs.declared.token.Token.{Token}
use Rattle.dart_token.specs.declared.sign.Sign.TheVariants as s
use Rattle.dart_token.specs.declared.word.Word.TheVariants as w
use Rattle.dart_tree.specs.Types.{TypeNode, dynamic_type, named_type}
use Rattle.grammar_laws.specs.Codes.{has}
use Rattle.grammar_laws.proofs.Codes.{clash, has_cases}
use Rattle.dart_syntax.specs.Types.{type_within, in_angles}
use Rattle.token_codes.specs.Codes.{class_of, names, sign_code, this_word}
use Rattle.token_codes.specs.Leaves.{name_of, identifier, word}
use Rattle.syntax_readers.specs.Types.{type_first, type_reader, type_over, type_arguments}
use Rattle.laws_type.proofs.Types.{types_read_at, under_type}
use Rattle.laws_block.specs.Begun.{on_phrase}

-- a type's name is a type
abbrev IsRead : ℕ → Token → Type 0
IsRead k b = (y : TypeNode) × (type_reader (suc k) (b ∷ []) ≡ Ok (y, []))

one_by : (k : ℕ) (b : Token) (d : Bool) → has (this_word w.Dynamic) (class_of b) ≡ d → (has (this_word w.Dynamic) (class_of b) ≡ true) ⊎ (has names (class_of b) ≡ true) → IsRead k b
unfolding type_reader type_over word identifier type_arguments
one_by k b true e on = (dynamic_type b.place, rw e refl)
one_by k b false e (inl on) = clash (has (this_word w.Dynamic) (class_of b)) on e
one_by k b false e (inr on) = (named_type (name_of b) None (in_angles None), rw (e, on) refl)

type_one : (k : ℕ) (b : Token) → has type_first (class_of b) ≡ true → IsRead k b
type_one k b on = one_by k b (has (this_word w.Dynamic) (class_of b)) refl (has_cases (this_word w.Dynamic) names (class_of b) on)

none_within : (b c : Token) (ts : List Token) → (type_within zero).front (b ∷ c ∷ ts) → ⊥
unfolding type_within
none_within b c ts e = cc

-- behind the name the type goes on with a member or arguments
pub type_two : (k : ℕ) (b c : Token) (ts : List Token) → (type_within k).front (b ∷ c ∷ ts) → has (sign_code s.Less ∷ sign_code s.Dot ∷ []) (class_of c) ≡ true
type_two zero b c ts f = absurd (none_within b c ts f)
type_two (suc k) b c ts f =
    let T = (types_read_at (suc k)).type in
    let y = type_one k b (T.firsts b (c ∷ ts) f) in
    let l = T.sound (b ∷ []) y.0 [] y.1 in
    let said : b ∷ [] ≡ (type_within (suc k)).spelling y.0 = l.1 ∙ append-nil ((type_within (suc k)).spelling y.0) in
    (under_type y.0).in_second (class_of c) (T.nexts y.0 c ts l.0 (subst (type_within (suc k)).front (ap (λ (m : List Token). m ++ c ∷ ts) said) f))

pub on_second : (k : ℕ) (a c : Token) (ts : List Token) → (on_phrase k).front (a ∷ c ∷ ts) → (type_within k).front (c ∷ ts)
on_second k a c ts (inl (inl e)) = absurd cc
on_second k a c ts (inl (inr (place, e))) = absurd cc
on_second k a c ts (inr (place, more, fits, on, e, f)) = let tails : c ∷ ts ≡ more = cc in subst (type_within k).front (sym tails) f
