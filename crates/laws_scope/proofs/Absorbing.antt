-- What units spell comes behind a table of names, and nothing comes again.
use Rattle.std.proofs.Common.{◌≡◌, ◌∙◌, ℕ, Bool, true, false, cond, ◌||◌, List, [], ◌∷◌, ◌++◌, map, append_assoc, refl, sym, ap, bytes_eq}
use Rattle.std.specs.Prelude.{◌==◌, fold}
use Rattle.std.specs.List.{list_any, take_while}
use Rattle.std.specs.Str.{byte, is_utf8}
use Rattle.std.specs.Cmp.Lexicographic.{bytes_decides}
use Rattle.std.proofs.lemmas.List.{append-nil}
use Rattle.std.proofs.lemmas.List.Folds.{list_any-append}
use Rattle.dart_base.specs.Names.{interned}
use Rattle.dart_erase.specs.UnitErased as erased
use Rattle.dart_erase.proofs.Twice.{twice_unit}
use Rattle.dart_pieces.specs.Bytes.{is_name_byte}
use Rattle.dart_token.specs.declared.token.Token.{Token}
use Rattle.dart_token.specs.declared.token.TokenKind.{TokenKind}
use Rattle.dart_token.specs.declared.token.TokenKind.TheVariants as k
use Rattle.dart_tree.specs.Unit.{UnitTree}
use Rattle.dart_tree.specs.UnitTokens.{unit_tokens}
use Rattle.scope_declared.specs.Number.{name_text}
use Rattle.scope_name.specs.Names.{with_text, with_shown, with_piece, with_lexeme, with_token, with_unit, with_units, given_names, kept_names, all_names}

-- it puts what it adds behind the table, and where that stands already adds nothing
pub record IsAbsorbing (f : List (List ℕ) → List (List ℕ)) : Type 0 where
  pub more : List (List ℕ) → List (List ℕ)
  pub extends : (names : List (List ℕ)) → f names ≡ names ++ more names
  pub absorbs : (names others : List (List ℕ)) → f (f names ++ others) ≡ f names ++ others

nothing : IsAbsorbing (λ names. names)
nothing = record { more = λ names. []; extends = λ names. sym (append-nil names); absorbs = λ names others. refl }

both : (f g : List (List ℕ) → List (List ℕ)) → IsAbsorbing f → IsAbsorbing g → IsAbsorbing (λ names. g (f names))
both f g first second = record {
  more = λ names. first.more names ++ second.more (f names);
  extends = λ names. second.extends (f names) ∙ ap (λ xs. xs ++ second.more (f names)) (first.extends names)
      ∙ append_assoc names (first.more names) (second.more (f names));
  absorbs = λ names others.
      let shown : g (f names) ++ others ≡ f names ++ (second.more (f names) ++ others) =
      ap (λ xs. xs ++ others) (second.extends (f names)) ∙ append_assoc (f names) (second.more (f names)) others in
      ap g (ap f shown ∙ first.absorbs names (second.more (f names) ++ others) ∙ sym shown) ∙ second.absorbs (f names) others;
}

either : (b : Bool) (f g : List (List ℕ) → List (List ℕ)) → IsAbsorbing f → IsAbsorbing g → IsAbsorbing (λ names. cond b (f names) (g names))
either true f g first second = first
either false f g first second = second

-- ---- one text

module _ (text : List ℕ) where
  added : Bool → List (List ℕ) → List (List ℕ)
  added b names = cond b names (names ++ text ∷ [])

  has : (names : List (List ℕ)) → list_any (bytes_eq text) (interned names text) ≡ true
  has names = by (list_any (bytes_eq text) names) refl
    where
      by : (b : Bool) → list_any (bytes_eq text) names ≡ b → list_any (bytes_eq text) (cond b names (names ++ text ∷ [])) ≡ true
      by true e = e
      by false e = list_any-append (bytes_eq text) names (text ∷ []) ∙ ap (λ b. b || (bytes_eq text text || false)) e
          ∙ ap (λ b. b || false) ((bytes_decides text text).1 refl)

  one_text : IsAbsorbing (λ names. interned names text)
  one_text = record {
    more = λ names. cond (list_any (bytes_eq text) names) [] (text ∷ []);
    extends = λ names. by names (list_any (bytes_eq text) names);
    absorbs = λ names others.
        ap (λ b. cond b (interned names text ++ others) ((interned names text ++ others) ++ text ∷ []))
        (list_any-append (bytes_eq text) (interned names text) others ∙ ap (λ b. b || list_any (bytes_eq text) others) (has names));
  }
    where
      by : (names : List (List ℕ)) (b : Bool) → cond b names (names ++ text ∷ []) ≡ names ++ cond b [] (text ∷ [])
      by names true = sym (append-nil names)
      by names false = refl

  name : IsAbsorbing (λ names. with_text names text)
  name = either (is_utf8 text) (λ names. interned names text) (λ names. names) one_text nothing

-- ---- the tokens of a unit

module _ (library : ℕ) where
  shown : (text : List ℕ) → IsAbsorbing (λ names. with_shown library names text)
  shown [] = nothing
  shown (b ∷ bytes) = name (name_text library (b ∷ bytes))

  piece : (text : List ℕ) → IsAbsorbing (λ names. with_piece library names text)
  piece [] = nothing
  piece (b ∷ bytes) =
      both (λ names. cond (b == byte "$") (with_shown library names (take_while is_name_byte bytes)) names) (λ names. with_piece library names bytes)
      (either (b == byte "$") (λ names. with_shown library names (take_while is_name_byte bytes)) (λ names. names) (shown (take_while is_name_byte bytes)) nothing)
      (piece bytes)

  lexeme : (text : List ℕ) (kind : TokenKind) → IsAbsorbing (λ names. with_lexeme library names text kind)
  lexeme text k.Identifier = name (name_text library text)
  lexeme text k.Whole = piece text
  lexeme text (k.Head quote) = piece text
  lexeme text k.Middle = piece text
  lexeme text k.Tail = piece text
  lexeme text _ = nothing

  tokens : (all : List Token) → IsAbsorbing (λ names. fold (with_token library) names all)
  tokens [] = nothing
  tokens (x ∷ xs) = both (λ names. with_token library names x) (λ names. fold (with_token library) names xs) (lexeme x.lexeme x.kind) (tokens xs)

  one_unit : (x : UnitTree) → IsAbsorbing (λ names. with_unit library names x)
  unfolding with_unit
  one_unit x = tokens (unit_tokens x)

units_absorb : (homes : List ℕ) (units : List UnitTree) → IsAbsorbing (λ names. with_units names homes units)
units_absorb [] units = nothing
units_absorb (library ∷ homes) [] = nothing
units_absorb (library ∷ homes) (x ∷ units) =
    both (λ names. with_unit library names x) (λ names. with_units names homes units) (one_unit library x) (units_absorb homes units)

-- ---- a program

-- what only annotations spell comes behind what the units have without them
pub all_begin : (homes : List ℕ) (units : List UnitTree) → (more : List (List ℕ)) × (all_names homes units ≡ kept_names homes units ++ more)
all_begin homes units = let is = units_absorb homes units in (is.more (kept_names homes units), is.extends (kept_names homes units))

twice_units : (units : List UnitTree) → map erased.unit (map erased.unit units) ≡ map erased.unit units
twice_units [] = refl
twice_units (x ∷ units) = λ i. twice_unit x i ∷ twice_units units i

-- erased units have the names that the units have without their annotations, and no others
pub kept_erased : (homes : List ℕ) (units : List UnitTree) → kept_names homes (map erased.unit units) ≡ kept_names homes units
kept_erased homes units = ap (with_units given_names homes) (twice_units units)

pub all_erased : (homes : List ℕ) (units : List UnitTree) → all_names homes (map erased.unit units) ≡ kept_names homes units
all_erased homes units =
    let first = kept_names homes units in
    ap (λ names. with_units names homes (map erased.unit units)) (kept_erased homes units ∙ sym (append-nil first))
    ∙ (units_absorb homes (map erased.unit units)).absorbs given_names [] ∙ append-nil first
