-- A token is taken where its code is seen, and only there.
use Rattle.std.proofs.Common.{◌≡◌, ℕ, true, false, List, [], ◌∷◌, Ok, Err, Some, refl, sym, ap, ◌∙◌}
use Rattle.dart_token.specs.declared.token.Token.{Token}
use Rattle.dart_token.specs.declared.sign.Sign.{Sign}
use Rattle.dart_token.specs.declared.word.Word.{Word}
use Rattle.grammar_laws.specs.Codes.{has}
use Rattle.grammar_laws.specs.Readers.{mapped, one, option, starts}
use Rattle.token_codes.specs.Codes.{class_of, names, plain_names, atoms, heads, creations, sign_code, word_code, these, this_word}
use Rattle.token_codes.specs.Leaves.{place_of, sign, word, contextual, name_of, identifier, plain_identifier, atom_of, atom, placed_text, piece, headed, head, created, creation}

takes : {B : Type 0} (f : Token → B) (codes : List ℕ) (ts : List Token) (t : Token) (rest : List Token) → starts class_of codes ts ≡ true → ts ≡ t ∷ rest → mapped f (one class_of codes) ts ≡ Ok (f t, rest)
takes f codes ts t rest on e =
    let h : has codes (class_of t) ≡ true = ap (starts class_of codes) (sym e) ∙ on in
    ap (mapped f (one class_of codes)) e ∙ rw h refl

refuses : {B : Type 0} (f : Token → B) (codes : List ℕ) (ts : List Token) → starts class_of codes ts ≡ false → mapped f (one class_of codes) ts ≡ Err ts
refuses f codes [] off = refl
refuses f codes (t ∷ ts) off = rw off refl

maybe_takes : {B : Type 0} (f : Token → B) (codes : List ℕ) (ts : List Token) (t : Token) (rest : List Token) → starts class_of codes ts ≡ true → ts ≡ t ∷ rest → option class_of codes (mapped f (one class_of codes)) ts ≡ Ok (Some (f t), rest)
maybe_takes f codes ts t rest on e =
    let h : has codes (class_of t) ≡ true = ap (starts class_of codes) (sym e) ∙ on in
    ap (option class_of codes (mapped f (one class_of codes))) e ∙ rw h refl

pub sign_takes : (which : Sign) (ts : List Token) (t : Token) (rest : List Token) → starts class_of (these which) ts ≡ true → ts ≡ t ∷ rest → sign which ts ≡ Ok (t.place, rest)
unfolding sign
sign_takes which = takes place_of (sign_code which ∷ [])

pub sign_refuses : (which : Sign) (ts : List Token) → starts class_of (these which) ts ≡ false → sign which ts ≡ Err ts
unfolding sign
sign_refuses which = refuses place_of (sign_code which ∷ [])

pub word_takes : (which : Word) (ts : List Token) (t : Token) (rest : List Token) → starts class_of (this_word which) ts ≡ true → ts ≡ t ∷ rest → word which ts ≡ Ok (t.place, rest)
unfolding word
word_takes which = takes place_of (word_code which ∷ [])

pub word_refuses : (which : Word) (ts : List Token) → starts class_of (this_word which) ts ≡ false → word which ts ≡ Err ts
unfolding word
word_refuses which = refuses place_of (word_code which ∷ [])

pub code_takes : (code : ℕ) (ts : List Token) (t : Token) (rest : List Token) → starts class_of (code ∷ []) ts ≡ true → ts ≡ t ∷ rest → contextual code ts ≡ Ok (t.place, rest)
unfolding contextual
code_takes code = takes place_of (code ∷ [])

pub code_refuses : (code : ℕ) (ts : List Token) → starts class_of (code ∷ []) ts ≡ false → contextual code ts ≡ Err ts
unfolding contextual
code_refuses code = refuses place_of (code ∷ [])

pub name_takes : (ts : List Token) (t : Token) (rest : List Token) → starts class_of names ts ≡ true → ts ≡ t ∷ rest → identifier ts ≡ Ok (name_of t, rest)
unfolding identifier
name_takes = takes name_of names

pub name_refuses : (ts : List Token) → starts class_of names ts ≡ false → identifier ts ≡ Err ts
unfolding identifier
name_refuses = refuses name_of names

pub plain_name_takes : (ts : List Token) (t : Token) (rest : List Token) → starts class_of plain_names ts ≡ true → ts ≡ t ∷ rest → plain_identifier ts ≡ Ok (name_of t, rest)
unfolding plain_identifier
plain_name_takes = takes name_of plain_names

pub plain_name_refuses : (ts : List Token) → starts class_of plain_names ts ≡ false → plain_identifier ts ≡ Err ts
unfolding plain_identifier
plain_name_refuses = refuses name_of plain_names

pub atom_takes : (ts : List Token) (t : Token) (rest : List Token) → starts class_of atoms ts ≡ true → ts ≡ t ∷ rest → atom ts ≡ Ok (atom_of t, rest)
unfolding atom
atom_takes = takes atom_of atoms

pub atom_refuses : (ts : List Token) → starts class_of atoms ts ≡ false → atom ts ≡ Err ts
unfolding atom
atom_refuses = refuses atom_of atoms

pub piece_takes : (code : ℕ) (ts : List Token) (t : Token) (rest : List Token) → starts class_of (code ∷ []) ts ≡ true → ts ≡ t ∷ rest → piece code ts ≡ Ok (placed_text t, rest)
unfolding piece
piece_takes code = takes placed_text (code ∷ [])

pub piece_refuses : (code : ℕ) (ts : List Token) → starts class_of (code ∷ []) ts ≡ false → piece code ts ≡ Err ts
unfolding piece
piece_refuses code = refuses placed_text (code ∷ [])

pub creation_takes : (ts : List Token) (t : Token) (rest : List Token) → starts class_of creations ts ≡ true → ts ≡ t ∷ rest → creation ts ≡ Ok (created t, rest)
unfolding creation
creation_takes = takes created creations

pub creation_refuses : (ts : List Token) → starts class_of creations ts ≡ false → creation ts ≡ Err ts
unfolding creation
creation_refuses = refuses created creations

pub head_takes : (ts : List Token) (t : Token) (rest : List Token) → starts class_of heads ts ≡ true → ts ≡ t ∷ rest → head ts ≡ Ok (headed t, rest)
unfolding head
head_takes = takes headed heads

pub head_refuses : (ts : List Token) → starts class_of heads ts ≡ false → head ts ≡ Err ts
unfolding head
head_refuses = refuses headed heads

pub maybe_sign : (which : Sign) (ts : List Token) (t : Token) (rest : List Token) → starts class_of (these which) ts ≡ true → ts ≡ t ∷ rest → option class_of (these which) (sign which) ts ≡ Ok (Some t.place, rest)
unfolding sign
maybe_sign which = maybe_takes place_of (sign_code which ∷ [])

pub maybe_word : (which : Word) (ts : List Token) (t : Token) (rest : List Token) → starts class_of (this_word which) ts ≡ true → ts ≡ t ∷ rest → option class_of (this_word which) (word which) ts ≡ Ok (Some t.place, rest)
unfolding word
maybe_word which = maybe_takes place_of (word_code which ∷ [])
