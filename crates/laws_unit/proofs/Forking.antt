-- Two phrases that begin alike and go on with different tokens: no tree of the one begins the other.
use Rattle.std.proofs.Common.{◌≡◌, ℕ, Bool, true, false, List, [], ◌∷◌, ◌++◌, subst, append_assoc}
use Rattle.dart_token.specs.declared.token.Token.{Token}
use Rattle.grammar_laws.specs.Codes.{Apart}
use Rattle.grammar_laws.specs.Readers.{Reader, starts, always}
use Rattle.grammar_laws.specs.Fronts.{Front, Joint, both_spelling, BothFit}
use Rattle.grammar_laws.specs.Laws.{Laws}
use Rattle.grammar_laws.proofs.Joints.{begins, joint_second}
use Rattle.token_codes.specs.Codes.{class_of}

-- no list that begins with a tree of the one begins the other
abbrev pub NeverBegins : {A : Type 0} → (A → List Token) → (A → Type 0) → Front Token → Type 0
NeverBegins {A} spelling Fits front = (a : A) (ts : List Token) → Fits a → front (spelling a ++ ts) → ⊥

module _ {A B : Type 0} {p : Reader Token A} {spell_p : A → List Token} {Fits_p : A → Type 0} {front_p : Front Token} {first_p : List ℕ} {next_p : A → List ℕ}
    (P : Laws class_of p spell_p Fits_p front_p first_p next_p false)
    {q : Reader Token B} {spell_q : B → List Token} {Fits_q : B → Type 0} {front_q : Front Token} {first_q : List ℕ} {next_q : B → List ℕ}
    (Q : Laws class_of q spell_q Fits_q front_q first_q next_q false) where
  -- where they begin with different tokens
  told : Apart first_p first_q → (m : List Token) → starts class_of first_p m ≡ true → front_q m → ⊥
  told off [] h f = absurd cc
  told off (t ∷ m) h f = off.never_both (class_of t) h (Q.firsts t m f)

  pub by_firsts : Apart first_p first_q → NeverBegins spell_p Fits_p front_q
  by_firsts off a ts fits f = told off (spell_p a ++ ts) (begins P a ts fits) f

  -- behind the same first part
  module _ {H : Type 0} {h : Reader Token H} {spell_h : H → List Token} {Fits_h : H → Type 0} {front_h : Front Token} {first_h : List ℕ} {next_h : H → List ℕ} {empty_h : Bool}
      (L : Laws class_of h spell_h Fits_h front_h first_h next_h empty_h)
      (off_p : (x : H) → Fits_h x → Apart (next_h x) first_p) (off_q : (x : H) → Fits_h x → Apart (next_h x) first_q) (never : NeverBegins spell_p Fits_p front_q) where
    abbrev Both : Front Token
    Both = Joint spell_h Fits_h always front_h front_q

    second_at : (x : H) (m : List Token) → Fits_h x → starts class_of first_p m ≡ true → Both (spell_h x ++ m) → front_q m
    second_at x [] fits begun f = absurd cc
    second_at x (t ∷ m) fits begun f = (joint_second L always (λ _. front_q) (λ _. first_q) (λ y own. Q.closed) (λ y own. Q.firsts) (λ y own on. off_q y own)
        x t m fits (λ j. (off_p x fits).never_both (class_of t) (L.nexts x t [] fits j) begun) f).0

    pub forked : NeverBegins (both_spelling spell_h spell_p) (BothFit Fits_h Fits_p) Both
    forked x ts fits f = never x.1 ts fits.1 (second_at x.0 (spell_p x.1 ++ ts) fits.0 (begins P x.1 ts fits.1) (subst Both (append_assoc (spell_h x.0) (spell_p x.1) ts) f))
