-- The laws of all judges at this one, and where names and what stands in parentheses lead it.
use Rattle.std.proofs.Common.{◌≡◌, ℕ, Bool, true, ◌&&◌, List, ◌∷◌, [], refl, sym, ◌∙◌}
use Rattle.dart_base.specs.declared.place.Place.{Place}
use Rattle.dart_token.specs.declared.token.Token.{Token}
use Rattle.dart_token.specs.declared.token.TokenKind.TheVariants as tk
use Rattle.dart_tree.specs.declared.identifier.Identifier.TheVariants as i
use Rattle.dart_tree.specs.LeafTokens.{identifier_tokens}
use Rattle.grammar_laws.proofs.Codes.{and_both}
use Rattle.dart_syntax.specs.Phrases.{Phrase}
use Rattle.dart_syntax.specs.Leaves.{plain_identifier}
use Rattle.laws_apart.proofs.Judges as j
use Rattle.laws_apart.proofs.Judges.{token_leads, made_leads, Parenthesized, past_leads}
use Rattle.laws_choice.proofs.Judging.{Sort, plain, left, State, kind_sort, step, judge, every, every_gives, under, included, goes, moved, stay, stays}

abbrev pub Through : (State → Bool) → State → List Token → Type 0
Through = j.Through judge

pub one_through : (f g : State → Bool) (t : Token) → goes f (kind_sort t.kind) g ≡ true → (z : State) → f z ≡ true → Through g z (t ∷ [])
one_through f g t h z from = (step z (kind_sort t.kind), moved f g (kind_sort t.kind) h z from, λ rest. refl)

abbrev pub judging : j.Judge State Sort
judging = record {
  judge = judge;
  nothing = λ z. refl;
  every = every;
  every_gives = every_gives;
  kind_sort = kind_sort;
  goes = goes;
  goes_through = one_through;
  stay = stay;
  stays = stays;
}

-- what the laws of all judges speak of, at this one

abbrev pub Leads : (State → Bool) → (State → Bool) → (State → Bool) → {A : Type 0} → (A → List Token) → Phrase A → Type 0
Leads fine from end tokens p = j.Leads judging fine from end tokens p

abbrev pub leap : (State → Bool) → (State → Bool) → Sort → (State → Bool) → Bool
leap = j.leap judging

abbrev pub leap_name : (State → Bool) → (State → Bool) → (State → Bool) → Bool
leap_name = j.leap_name judging

-- an identifier that is not `get` or `set`

abbrev plain_token : Place × List ℕ → Token
plain_token x = record { kind = tk.Identifier; place = x.0; lexeme = x.1 }

pub a_plain_identifier : (fine f g : State → Bool) → leap fine f plain g ≡ true → Leads fine f g identifier_tokens plain_identifier
a_plain_identifier fine f g h = made_leads (token_leads fine f g plain_token plain (λ x. refl) h) identifier_tokens (λ x. i.Name x.0 x.1) (λ x. refl)

-- what stands in parentheses leads to where no token changes anything
pub parenthesized_leads : (fine f g : State → Bool) {A : Type 0} {t : A → List Token} {p : Phrase A} → Parenthesized t p → leap fine f left g ≡ true →
    under g stay ≡ true → Leads fine f g t p
parenthesized_leads fine f g P opens lasts =
    let a = and_both (goes f left g) (under f fine && under g fine) opens in
    let b = and_both (under f fine) (under g fine) a.1 in
    past_leads judging fine f g P b.0 b.1 (λ z from.
    let at = moved f g left a.0 z from in
    let k = included g stay lasts (step z left) at in
    (step z left, at, λ place more rest e. stays (step z left) k more ∙ sym (stays (step z left) k rest)))
