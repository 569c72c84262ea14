-- Where the tokens of a phrase lead, whole trees and what begins one: this goes with the words of the phrases, whatever judges the tokens.
use Rattle.std.proofs.Common.{◌≡◌, ◌⊎◌, Bool, true, false, not, ◌&&◌, List, [], ◌∷◌, ◌++◌}
use Rattle.std.proofs.Common.{Option, None, Some, inl, inr, refl, sym, ap, ap₂, ◌∙◌, subst}
use Rattle.std.proofs.Common.{append_assoc, flat_map}
use Rattle.std.proofs.lemmas.List.{append-nil}
use Rattle.std.specs.List.{AllByRecursion}
use Rattle.dart_base.specs.declared.place.Place.{Place}
use Rattle.dart_token.specs.declared.token.Token.{Token}
use Rattle.dart_token.specs.declared.token.TokenKind.{TokenKind}
use Rattle.dart_token.specs.declared.token.TokenKind.TheVariants as tk
use Rattle.dart_token.specs.declared.sign.Sign.{Sign}
use Rattle.dart_token.specs.declared.sign.Sign.TheVariants as s
use Rattle.dart_token.specs.declared.word.Word.{Word}
use Rattle.dart_token.specs.declared.word.Word.TheVariants as w
use Rattle.dart_tree.specs.declared.identifier.Identifier.{Identifier}
use Rattle.dart_tree.specs.declared.identifier.Identifier.TheVariants as i
use Rattle.dart_tree.specs.LeafTokens.{sign_at, word_at, identifier_tokens, dot_name_tokens}
use Rattle.grammar_laws.specs.Fronts.{Front, Joint, Several, GoesOn, Made, EachFit, OptionFit, both_spelling, option_spelling}
use Rattle.grammar_laws.specs.Readers.{always}
use Rattle.grammar_laws.proofs.Codes.{and_both, clash}
use Rattle.dart_syntax.specs.Phrases.{Phrase, seq, seq_if, opt, many, some_if, either, perhaps, exactly, made, such, such_tokens, no_room, leaf}
use Rattle.dart_syntax.specs.Leaves.{sign, sign_tokens, word, word_tokens, identifier, dot_name}
use Rattle.dart_syntax.specs.Agreement.{Agrees}
use Rattle.syntax_readers.specs.Combinators.{behind_brackets}

-- ---- tests of lists of states

abbrev pub all_of : {State : Type 0} → (State → Bool) → List State → Bool
all_of g [] = true
all_of g (z ∷ zs) = g z && all_of g zs

pub each : {State : Type 0} (g : State → Bool) (zs : List State) → all_of g zs ≡ true → AllByRecursion (λ z. g z ≡ true) zs
each g [] h = tt
each g (z ∷ zs) h = let parts = and_both (g z) (all_of g zs) h in (parts.0, each g zs parts.1)

abbrev pub implies : Bool → Bool → Bool
implies true b = b
implies false b = true

pub implied : (a b : Bool) → implies a b ≡ true → a ≡ true → b ≡ true
implied true b h e = h
implied false b h e = absurd cc

-- ---- judges of tokens

-- from this state these tokens lead to one of the set, whatever follows
abbrev pub Through : {State : Type 0} → (State → List Token → State) → (State → Bool) → State → List Token → Type 0
Through {State} judge g z ts = (y : State) × (g y ≡ true) × ((rest : List Token) → judge z (ts ++ rest) ≡ judge y rest)

-- what reads lists of tokens from a state on, by the sorts of tokens
pub record Judge (State Sort : Type 0) : Type 0 where
  pub judge : State → List Token → State
  pub nothing : (z : State) → judge z [] ≡ z
  -- a test of all states
  pub every : (State → Bool) → Bool
  pub every_gives : (g : State → Bool) → every g ≡ true → (z : State) → g z ≡ true
  -- a token of this sort leads from each state of the first set to one of the second
  pub kind_sort : TokenKind → Sort
  pub goes : (State → Bool) → Sort → (State → Bool) → Bool
  pub goes_through : (f g : State → Bool) (t : Token) → goes f (kind_sort t.kind) g ≡ true → (z : State) → f z ≡ true → Through judge g z (t ∷ [])
  -- no token changes this state
  pub stay : State → Bool
  pub stays : (z : State) → stay z ≡ true → (ts : List Token) → judge z ts ≡ z

-- from each state of the first set the tokens of a whole tree lead to one of the second, and those that begin one to a fine one
pub record Leads {State Sort : Type 0} (J : Judge State Sort) (fine from end : State → Bool) {A : Type 0} (tokens : A → List Token) (p : Phrase A) :
    Type 0 where
  pub same : (a : A) → p.spelling a ≡ tokens a
  pub ends : (a : A) → p.Fits a → (z : State) → from z ≡ true → Through J.judge end z (tokens a)
  pub holds : (ts : List Token) → p.front ts → (z : State) → from z ≡ true → fine (J.judge z ts) ≡ true

module _ {State Sort : Type 0} (J : Judge State Sort) where
  -- each state of the first set is in the second
  abbrev pub under : (State → Bool) → (State → Bool) → Bool
  under f g = J.every (λ z. implies (f z) (g z))

  pub included : (f g : State → Bool) → under f g ≡ true → (z : State) → f z ≡ true → g z ≡ true
  included f g h z from = implied (f z) (g z) (J.every_gives (λ z. implies (f z) (g z)) h z) from

  pub through_both : (m g : State → Bool) (z : State) (xs ys : List Token) → Through J.judge m z xs →
      ((y : State) → m y ≡ true → Through J.judge g y ys) → Through J.judge g z (xs ++ ys)
  through_both m g z xs ys a b =
      let c = b a.0 a.1 in
      (c.0, c.1, λ rest. ap (J.judge z) (append_assoc xs ys rest) ∙ a.2 (ys ++ rest) ∙ c.2 rest)

  pub through_none : (g : State → Bool) (z : State) (ts : List Token) → g z ≡ true → ts ≡ [] → Through J.judge g z ts
  through_none g z ts at e = (z, at, λ rest. ap (λ (l : List Token). J.judge z (l ++ rest)) e)

  pub through_more : (g end : State → Bool) → under g end ≡ true → (z : State) (ts : List Token) → Through J.judge g z ts → Through J.judge end z ts
  through_more g end sub z ts a = (a.0, included g end sub a.0 a.1, a.2)

  -- where whole tokens lead to what is fine, they are fine, and so are none
  fine_through : (fine g : State → Bool) → under g fine ≡ true → (z : State) (ts : List Token) → Through J.judge g z ts → fine (J.judge z ts) ≡ true
  fine_through fine g sub z ts a = ap (λ (l : List Token). fine (J.judge z l)) (sym (append-nil ts)) ∙ ap fine (a.2 [] ∙ J.nothing a.0)
      ∙ included g fine sub a.0 a.1

  fine_none : (fine f : State → Bool) → under f fine ≡ true → (z : State) → f z ≡ true → (ts : List Token) → ts ≡ [] → fine (J.judge z ts) ≡ true
  fine_none fine f low z from ts e = ap fine (ap (J.judge z) e ∙ J.nothing z) ∙ included f fine low z from

  leaf_holds : (fine f g : State → Bool) → under f fine ≡ true → under g fine ≡ true → {A : Type 0} (tokens : A → List Token) →
      ((a : A) (z : State) → f z ≡ true → Through J.judge g z (tokens a)) → (ts : List Token) → (leaf tokens).front ts → (z : State) → f z ≡ true →
      fine (J.judge z ts) ≡ true
  leaf_holds fine f g low high tokens ends ts (inl e) z from = fine_none fine f low z from ts e
  leaf_holds fine f g low high tokens ends ts (inr (a, e)) z from = ap (λ (l : List Token). fine (J.judge z l)) e
      ∙ fine_through fine g high z (tokens a) (ends a z from)

  -- ---- single tokens, and none

  -- a token of this sort leads from the first set to the second, and both are fine
  abbrev pub leap : (State → Bool) → (State → Bool) → Sort → (State → Bool) → Bool
  leap fine f c g = J.goes f c g && (under f fine && under g fine)

  -- an identifier leads from the first set to the second, whether it is `get` or `set` or not
  abbrev pub names : (State → Bool) → (State → Bool) → Bool
  names f g = J.goes f (J.kind_sort tk.Identifier) g && (J.goes f (J.kind_sort (tk.Word w.Get)) g && J.goes f (J.kind_sort (tk.Word w.Set)) g)

  -- and both are fine
  abbrev pub leap_name : (State → Bool) → (State → Bool) → (State → Bool) → Bool
  leap_name fine f g = names f g && (under f fine && under g fine)

  pub name_through : (f g : State → Bool) → names f g ≡ true → (x : Identifier) (z : State) → f z ≡ true → Through J.judge g z (identifier_tokens x)
  name_through f g h x =
      let a = and_both (J.goes f (J.kind_sort tk.Identifier) g) (J.goes f (J.kind_sort (tk.Word w.Get)) g && J.goes f (J.kind_sort (tk.Word w.Set)) g) h in
      let b = and_both (J.goes f (J.kind_sort (tk.Word w.Get)) g) (J.goes f (J.kind_sort (tk.Word w.Set)) g) a.1 in
      elim x as (λ x. (z : State) → f z ≡ true → Through J.judge g z (identifier_tokens x)) [
        | i.Name place text ↦ J.goes_through f g (record { kind = tk.Identifier; place = place; lexeme = text }) a.0
        | i.Get place ↦ J.goes_through f g (word_at place w.Get) b.0
        | i.Set place ↦ J.goes_through f g (word_at place w.Set) b.1
      ]

  -- ---- what leads to a state that no token changes is no beginning of what never leads there

  abbrev pub refuses : (State → Bool) → State → Bool
  refuses good z = J.stay z && not (good z)

  refused_at : (good : State → Bool) (z : State) (ts : List Token) → refuses good z ≡ true → good (J.judge z ts) ≡ true → ⊥
  refused_at good z ts h begins =
      let parts = and_both (J.stay z) (not (good z)) h in
      clash (not (good z)) parts.1 (ap not (sym (ap good (J.stays z parts.0 ts)) ∙ begins))

  pub refuted : (z : State) (good f : State → Bool) → under f (refuses good) ≡ true → (xs ts : List Token) → Through J.judge f z xs →
      good (J.judge z (xs ++ ts)) ≡ true → ⊥
  refuted z good f h xs ts a begins = refused_at good a.0 ts (included f (refuses good) h a.0 a.1) (sym (ap good (a.2 ts)) ∙ begins)

  -- nor are the same tokens whole, of which some lead there and some never do
  pub distinct : (z : State) (good f g : State → Bool) → under f (refuses good) ≡ true → under g good ≡ true → (xs ys : List Token) →
      Through J.judge f z xs → Through J.judge g z ys → xs ≡ ys → ⊥
  distinct z good f g h k xs ys a b same = refuted z good f h xs [] a
      (ap (λ (l : List Token). good (J.judge z (l ++ []))) same ∙ ap good (b.2 [] ∙ J.nothing b.0) ∙ included g good k b.0 b.1)

module _ {State Sort : Type 0} {J : Judge State Sort} where
  module _ (fine f g : State → Bool) where
    module _ {A : Type 0} (tokens : A → List Token) (low : under J f fine ≡ true) where
      pub leaf_leads : under J g fine ≡ true → ((a : A) (z : State) → f z ≡ true → Through J.judge g z (tokens a)) → Leads J fine f g tokens (leaf tokens)
      leaf_leads high ends = record { same = λ a. refl; ends = λ a fits z from. ends a z from; holds = leaf_holds J fine f g low high tokens ends }

      pub none_leads : Leads J fine f g tokens (no_room tokens)
      none_leads = record { same = λ a. refl; ends = λ a fits z from. absurd fits; holds = λ ts e z from. fine_none J fine f low z from ts e }

      pub empty_leads : (spelling : A → List Token) → ((a : A) → spelling a ≡ tokens a) → (a : A) → tokens a ≡ [] → under J f g ≡ true →
          Leads J fine f g tokens (exactly spelling a)
      empty_leads spelling same a empty sub = record {
        same = same;
        ends = λ b is z from. through_none J g z (tokens b) (included J f g sub z from) (ap tokens is ∙ empty);
        holds = λ ts e z from. fine_none J fine f low z from ts e;
      }

    -- one token of this sort
    pub token_leads : {A : Type 0} (token : A → Token) (c : Sort) → ((a : A) → J.kind_sort (token a).kind ≡ c) → leap J fine f c g ≡ true →
        Leads J fine f g (λ a. token a ∷ []) (leaf (λ a. token a ∷ []))
    token_leads token c is h =
        let a = and_both (J.goes f c g) (under J f fine && under J g fine) h in
        let b = and_both (under J f fine) (under J g fine) a.1 in
        leaf_leads (λ a. token a ∷ []) b.0 b.1 (λ x z from. J.goes_through f g (token x) (ap (λ (k : Sort). J.goes f k g) (is x) ∙ a.0) z from)

    pub the_sign : (which : Sign) → leap J fine f (J.kind_sort (tk.Sign which)) g ≡ true → Leads J fine f g (sign_tokens which) (sign which)
    the_sign which = token_leads (λ place. sign_at place which) (J.kind_sort (tk.Sign which)) (λ place. refl)

    pub the_word : (which : Word) → leap J fine f (J.kind_sort (tk.Word which)) g ≡ true → Leads J fine f g (word_tokens which) (word which)
    the_word which = token_leads (λ place. word_at place which) (J.kind_sort (tk.Word which)) (λ place. refl)

    pub an_identifier : leap_name J fine f g ≡ true → Leads J fine f g identifier_tokens identifier
    an_identifier h =
        let a = and_both (names J f g) (under J f fine && under J g fine) h in
        let b = and_both (under J f fine) (under J g fine) a.1 in
        leaf_leads identifier_tokens b.0 b.1 (name_through J f g a.0)

  -- ---- states that no token changes

  -- any phrase goes on from there, by its own tokens
  pub absorbs_own : (fine f : State → Bool) → (under J f J.stay && under J f fine) ≡ true → {A : Type 0} (p : Phrase A) → Leads J fine f f p.spelling p
  absorbs_own fine f h p =
      let b = and_both (under J f J.stay) (under J f fine) h in
      record {
        same = λ a. refl;
        ends = λ x fits z from.
            let k = included J f J.stay b.0 z from in
            (z, from, λ rest. J.stays z k (p.spelling x ++ rest) ∙ sym (J.stays z k rest));
        holds = λ ts begins z from. ap fine (J.stays z (included J f J.stay b.0 z from) ts) ∙ included J f fine b.1 z from;
      }

-- by the tokens that the phrase speaks of
pub respelled : {State Sort : Type 0} {J : Judge State Sort} {fine f g : State → Bool} {A : Type 0} {u t : A → List Token} {p : Phrase A} → Agrees t p →
    Leads J fine f g u p → Leads J fine f g t p
respelled {J = J} {g = g} H P = record {
  same = H.spells;
  ends = λ x fits z from. subst (Through J.judge g z) (sym (P.same x) ∙ H.spells x) (P.ends x fits z from);
  holds = P.holds;
}

pub absorbs : {State Sort : Type 0} {J : Judge State Sort} (fine f : State → Bool) → (under J f J.stay && under J f fine) ≡ true → {A : Type 0}
    {t : A → List Token} {p : Phrase A} → Agrees t p → Leads J fine f f t p
absorbs fine f h {p = p} P = respelled P (absorbs_own fine f h p)

-- ---- words of the phrases

module _ {State Sort : Type 0} {J : Judge State Sort} {fine f m : State → Bool} {A : Type 0} {t : A → List Token} {p : Phrase A}
    (P : Leads J fine f m t p) where
  joint_holds : (n : State → Bool) (may : A → Bool) (second : Front Token) →
      ((a : A) → p.Fits a → may a ≡ true → (z : State) → f z ≡ true → Through J.judge n z (t a)) →
      ((ts : List Token) → second ts → (z : State) → n z ≡ true → fine (J.judge z ts) ≡ true) →
      (ts : List Token) → Joint p.spelling p.Fits may p.front second ts → (z : State) → f z ≡ true → fine (J.judge z ts) ≡ true
  joint_holds n may second narrow Q ts (inl h) z from = P.holds ts h z from
  joint_holds n may second narrow Q ts (inr (a, more, fits, on, e, h)) z from =
      let c = narrow a fits on z from in
      ap fine (ap (J.judge z) (e ∙ ap (λ (l : List Token). l ++ more) (P.same a)) ∙ c.2 more) ∙ Q more h c.0 c.1

  -- where those that another may follow lead to a smaller set
  module _ {n g : State → Bool} {B : Type 0} {u : B → List Token} {q : Phrase B} (Q : Leads J fine n g u q) where
    both_same : (x : A × B) → both_spelling p.spelling q.spelling x ≡ both_spelling t u x
    both_same x = ap₂ (λ (l r : List Token). l ++ r) (P.same x.0) (Q.same x.1)

    pub seq_narrow_leads : (may : A → Bool) → ((a : A) → p.Fits a → may a ≡ true → (z : State) → f z ≡ true → Through J.judge n z (t a)) →
        Leads J fine f g (both_spelling t u) (seq_if may p q)
    seq_narrow_leads may narrow = record {
      same = both_same;
      ends = λ x fits z from. through_both J n g z (t x.0) (u x.1) (narrow x.0 fits.0.0 fits.0.1 z from) (Q.ends x.1 fits.1);
      holds = joint_holds n may q.front narrow Q.holds;
    }

  module _ {g : State → Bool} {B : Type 0} {u : B → List Token} {q : Phrase B} (Q : Leads J fine m g u q) where
    pub seq_leads : Leads J fine f g (both_spelling t u) (seq p q)
    seq_leads = record {
      same = both_same Q;
      ends = λ x fits z from. through_both J m g z (t x.0) (u x.1) (P.ends x.0 fits.0 z from) (Q.ends x.1 fits.1);
      holds = joint_holds m always q.front (λ a fits on z from. P.ends a fits z from) Q.holds;
    }

    pub seq_if_leads : (may : A → Bool) → Leads J fine f g (both_spelling t u) (seq_if may p q)
    seq_if_leads may = seq_narrow_leads Q may (λ a fits on z from. P.ends a fits z from)

  module _ {q : Phrase A} (Q : Leads J fine f m t q) where
    either_ends : (a : A) → (either p q).Fits a → (z : State) → f z ≡ true → Through J.judge m z (t a)
    either_ends a (inl fits) z from = P.ends a fits z from
    either_ends a (inr fits) z from = Q.ends a fits z from

    either_holds : (ts : List Token) → (either p q).front ts → (z : State) → f z ≡ true → fine (J.judge z ts) ≡ true
    either_holds ts (inl h) z from = P.holds ts h z from
    either_holds ts (inr h) z from = Q.holds ts h z from

    pub either_leads : Leads J fine f m t (either p q)
    either_leads = record { same = P.same; ends = either_ends; holds = either_holds }

  maybe_same : (x : Option A) → option_spelling p.spelling x ≡ option_spelling t x
  maybe_same None = refl
  maybe_same (Some a) = P.same a

  maybe_ends : ((z : State) → f z ≡ true → m z ≡ true) → (x : Option A) → OptionFit p.Fits x → (z : State) → f z ≡ true →
      Through J.judge m z (option_spelling t x)
  maybe_ends sub None fits z from = through_none J m z [] (sub z from) refl
  maybe_ends sub (Some a) fits z from = P.ends a fits z from

  pub opt_leads : ((z : State) → f z ≡ true → m z ≡ true) → Leads J fine f m (option_spelling t) (opt p)
  opt_leads sub = record { same = maybe_same; ends = maybe_ends sub; holds = P.holds }

  pub such_leads : (good : A → Bool) → Leads J fine f m t (such good p)
  such_leads good = record { same = P.same; ends = λ a fits. P.ends a fits.0; holds = P.holds }

  pub such_tokens_leads : (good : List Token → Bool) → Leads J fine f m t (such_tokens good p)
  such_tokens_leads good = record { same = P.same; ends = λ a fits. P.ends a fits.0; holds = λ ts h. P.holds ts h.0 }

  module _ {B : Type 0} (tokens : B → List Token) (tree : A → B) (said : (a : A) → tokens (tree a) ≡ t a) where
    made_ends : (b : B) → Made tree p.Fits b → (z : State) → f z ≡ true → Through J.judge m z (tokens b)
    made_ends b (a, fits, is) z from = subst (λ (c : B). Through J.judge m z (tokens c)) is
        (subst (Through J.judge m z) (sym (said a)) (P.ends a fits z from))

    pub made_leads : Leads J fine f m tokens (made tokens tree p)
    made_leads = record { same = λ b. refl; ends = made_ends; holds = P.holds }

-- the phrase, or a tree without tokens
pub perhaps_leads : {State Sort : Type 0} {J : Judge State Sort} {fine f g : State → Bool} {A : Type 0} {t : A → List Token} {p : Phrase A} →
    Leads J fine f g t p → (a : A) → t a ≡ [] → under J f g ≡ true → under J f fine ≡ true → Leads J fine f g t (perhaps a p)
perhaps_leads {J = J} {fine = fine} {f = f} {g = g} {t = t} {p = p} P a none sub low =
    either_leads (empty_leads fine f g t low p.spelling P.same a none sub) P

-- a dot and a name
pub dot_name_leads : {State Sort : Type 0} {J : Judge State Sort} (fine f d g : State → Bool) → leap J fine f (J.kind_sort (tk.Sign s.Dot)) d ≡ true →
    leap_name J fine d g ≡ true → Leads J fine f g dot_name_tokens dot_name
dot_name_leads fine f d g first second = made_leads (seq_leads (the_sign fine f d s.Dot first) (an_identifier fine d g second)) dot_name_tokens _ (λ x. refl)

-- ---- lists of items

module _ {State Sort : Type 0} {J : Judge State Sort} {fine e : State → Bool} {A : Type 0} {t : A → List Token} {p : Phrase A} (P : Leads J fine e e t p) where
  all_through : (xs : List A) → AllByRecursion p.Fits xs → (z : State) → e z ≡ true → Through J.judge e z (flat_map t xs)
  all_through [] fits z from = through_none J e z [] from refl
  all_through (x ∷ xs) fits z from = through_both J e e z (t x) (flat_map t xs) (P.ends x fits.0 z from) (all_through xs fits.1)

  all_same : (xs : List A) → flat_map p.spelling xs ≡ flat_map t xs
  all_same [] = refl
  all_same (x ∷ xs) = ap₂ (λ (l r : List Token). l ++ r) (P.same x) (all_same xs)

  all_go_on : (may : A → Bool) (xs : List A) → AllByRecursion (GoesOn p.Fits may) xs → AllByRecursion p.Fits xs
  all_go_on may [] go = tt
  all_go_on may (x ∷ xs) go = (go.0.0, all_go_on may xs go.1)

  each_fits : (may : A → Bool) (xs : List A) → EachFit p.Fits may xs → AllByRecursion p.Fits xs
  each_fits may [] fits = tt
  each_fits may (x ∷ xs) fits = (fits.0, each_fits may xs fits.2)

  several_holds : (may : A → Bool) (ts : List Token) → Several p.spelling p.Fits may p.front ts → (z : State) → e z ≡ true → fine (J.judge z ts) ≡ true
  several_holds may ts (all, rest, go, is, h) z from =
      let c = all_through all (all_go_on may all go) z from in
      ap fine (ap (J.judge z) (is ∙ ap (λ (l : List Token). l ++ rest) (all_same all)) ∙ c.2 rest) ∙ P.holds rest h c.0 c.1

  pub many_leads : Leads J fine e e (flat_map t) (many p)
  many_leads = record { same = all_same; ends = all_through; holds = several_holds always }

  pub some_if_leads : (may : A → Bool) → Leads J fine e e (flat_map t) (some_if may p)
  some_if_leads may = record { same = all_same; ends = λ xs fits. all_through xs (each_fits may xs fits.1); holds = several_holds may }

-- ---- smaller and larger sets

module _ {State Sort : Type 0} {J : Judge State Sort} {fine f g : State → Bool} {A : Type 0} {t : A → List Token} {p : Phrase A}
    (P : Leads J fine f g t p) where
  pub eased : (high low end : State → Bool) → (under J low f && (under J g end && under J fine high)) ≡ true → Leads J high low end t p
  eased high low end h =
      let a = and_both (under J low f) (under J g end && under J fine high) h in
      let b = and_both (under J g end) (under J fine high) a.1 in
      record {
        same = P.same;
        ends = λ x fits z from. through_more J g end b.0 z (t x) (P.ends x fits z (included J low f a.0 z from));
        holds = λ ts begins z from. included J fine high b.1 (J.judge z ts) (P.holds ts begins z (included J low f a.0 z from));
      }

  -- from the states of two sets
  module _ {e : State → Bool} (Q : Leads J fine e g t p) where
    merged_ends : (a : A) → p.Fits a → (z : State) → (f z ≡ true) ⊎ (e z ≡ true) → Through J.judge g z (t a)
    merged_ends a fits z (inl from) = P.ends a fits z from
    merged_ends a fits z (inr from) = Q.ends a fits z from

    merged_holds : (ts : List Token) → p.front ts → (z : State) → (f z ≡ true) ⊎ (e z ≡ true) → fine (J.judge z ts) ≡ true
    merged_holds ts begins z (inl from) = P.holds ts begins z from
    merged_holds ts begins z (inr from) = Q.holds ts begins z from

    pub merged : (both : State → Bool) → ((z : State) → both z ≡ true → (f z ≡ true) ⊎ (e z ≡ true)) → Leads J fine both g t p
    merged both cases = record {
      same = P.same;
      ends = λ a fits z from. merged_ends a fits z (cases z from);
      holds = λ ts begins z from. merged_holds ts begins z (cases z from);
    }

-- to a larger set, by a function in place of a test
pub raised : {State Sort : Type 0} {J : Judge State Sort} {fine f g : State → Bool} {A : Type 0} {t : A → List Token} {p : Phrase A} (end : State → Bool) →
    ((z : State) → g z ≡ true → end z ≡ true) → Leads J fine f g t p → Leads J fine f end t p
raised end sub P = record {
  same = P.same;
  ends = λ x fits z from. let a = P.ends x fits z from in (a.0, sub a.0 a.1, a.2);
  holds = P.holds;
}

-- ---- what stands in parentheses

pub record Parenthesized {A : Type 0} (tokens : A → List Token) (p : Phrase A) : Type 0 where
  pub same : (a : A) → p.spelling a ≡ tokens a
  pub opens : (a : A) → (place : Place) × (more : List Token) × (tokens a ≡ sign_at place s.LeftParenthesis ∷ more)
  pub starts : (ts : List Token) → p.front ts → (ts ≡ []) ⊎ ((place : Place) × (more : List Token) × (ts ≡ sign_at place s.LeftParenthesis ∷ more))
  pub ends : (a : A) → p.Fits a → (rest : List Token) → behind_brackets (tokens a ++ rest) ≡ rest
  pub begins : (ts : List Token) → p.front ts → behind_brackets ts ≡ []

-- what begins with a parenthesis is judged from this state as what stands behind the parentheses is from one of the set
abbrev pub Past : {State Sort : Type 0} → Judge State Sort → (State → Bool) → State → Type 0
Past {State} J g z = (y : State) × (g y ≡ true) × ((place : Place) (more rest : List Token) → behind_brackets (sign_at place s.LeftParenthesis ∷ more) ≡ rest →
    J.judge z (sign_at place s.LeftParenthesis ∷ more) ≡ J.judge y rest)

module _ {State Sort : Type 0} (J : Judge State Sort) (fine f g : State → Bool) {A : Type 0} {t : A → List Token} {p : Phrase A} (P : Parenthesized t p)
    (low : under J f fine ≡ true) (high : under J g fine ≡ true) (past : (z : State) → f z ≡ true → Past J g z) where
  past_ends : (a : A) → p.Fits a → (z : State) → f z ≡ true → Through J.judge g z (t a)
  past_ends a fits z from =
      let o = P.opens a in
      let b = past z from in (
        b.0,
        b.1,
        λ rest. ap (λ (l : List Token). J.judge z (l ++ rest)) o.2
            ∙ b.2 o.0 (o.1 ++ rest) rest (ap (λ (l : List Token). behind_brackets (l ++ rest)) (sym o.2) ∙ P.ends a fits rest),
      )

  past_holds : (ts : List Token) → p.front ts → (z : State) → f z ≡ true →
      (ts ≡ []) ⊎ ((place : Place) × (more : List Token) × (ts ≡ sign_at place s.LeftParenthesis ∷ more)) → fine (J.judge z ts) ≡ true
  past_holds ts begins z from (inl e) = fine_none J fine f low z from ts e
  past_holds ts begins z from (inr (place, more, e)) =
      let b = past z from in
      ap fine (ap (J.judge z) e ∙ b.2 place more [] (ap behind_brackets (sym e) ∙ P.begins ts begins) ∙ J.nothing b.0) ∙ included J g fine high b.0 b.1

  pub past_leads : Leads J fine f g t p
  past_leads = record { same = P.same; ends = past_ends; holds = λ ts begins z from. past_holds ts begins z from (P.starts ts begins) }
