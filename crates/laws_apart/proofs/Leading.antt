-- The laws of all judges at this one, and where what stands in parentheses leads it.
use Rattle.std.proofs.Common.{◌≡◌, Bool, true, false, ◌&&◌, if◌then◌else◌, List, ◌∷◌, [], refl, sym, ap, ◌∙◌}
use Rattle.dart_token.specs.declared.token.Token.{Token}
use Rattle.dart_token.specs.declared.sign.Sign.TheVariants as s
use Rattle.dart_tree.specs.LeafTokens.{sign_at}
use Rattle.grammar_laws.proofs.Codes.{and_both}
use Rattle.dart_syntax.specs.Phrases.{Phrase}
use Rattle.syntax_readers.specs.Combinators.{behind_brackets}
use Rattle.laws_apart.proofs.Judges as j
use Rattle.laws_apart.proofs.Judges.{implies, implied, Parenthesized, past_leads}
use Rattle.laws_apart.proofs.Telling.{Sort, left, State, called, kind_sort, step, calls, look, judge, every, every_gives}
use Rattle.laws_apart.proofs.Telling.{under, goes, moved, judge_by, stay, stays, look_is}

abbrev pub Through : (State → Bool) → State → List Token → Type 0
Through = j.Through judge

pub one_through : (f g : State → Bool) (t : Token) → goes f (kind_sort t.kind) g ≡ true → (z : State) → f z ≡ true → Through g z (t ∷ [])
one_through f g t h z from =
    let m = moved f g (kind_sort t.kind) h z from in
    (step z (kind_sort t.kind), m.1, λ rest. judge_by z t rest (kind_sort t.kind) refl m.0)

abbrev pub telling : j.Judge State Sort
telling = record {
  judge = judge;
  nothing = λ z. refl;
  every = every;
  every_gives = every_gives;
  kind_sort = kind_sort;
  goes = goes;
  goes_through = one_through;
  stay = stay;
  stays = stays;
}

-- what the laws of all judges speak of, at this one

abbrev pub Leads : (State → Bool) → (State → Bool) → (State → Bool) → {A : Type 0} → (A → List Token) → Phrase A → Type 0
Leads fine from end tokens p = j.Leads telling fine from end tokens p

abbrev pub leap : (State → Bool) → (State → Bool) → Sort → (State → Bool) → Bool
leap = j.leap telling

abbrev pub leap_name : (State → Bool) → (State → Bool) → (State → Bool) → Bool
leap_name = j.leap_name telling

-- ---- what stands in parentheses

-- behind a name they lead to what looks at the token behind them, and elsewhere to where no token changes anything
abbrev pub leap_left : State → (State → Bool) → Bool
leap_left z g = if calls z left then g called else stay (step z left) && g (step z left)

abbrev pub leaps : (State → Bool) → (State → Bool) → (State → Bool) → Bool
leaps fine f g = every (λ z. implies (f z) (leap_left z g)) && (under f fine && under g fine)

abbrev at : State → List Token → List Token → Bool → State
at z all ts b = if b then look (behind_brackets all) else judge (step z left) ts

past_left : (g : State → Bool) (z : State) (b : Bool) → calls z left ≡ b → (if b then g called else stay (step z left) && g (step z left)) ≡ true →
    j.Past telling g z
past_left g z true is h = (
  called,
  h,
  λ place more rest e. ap (at z (sign_at place s.LeftParenthesis ∷ more) more) is ∙ ap look e ∙ look_is rest,
)
past_left g z false is h =
    let c = and_both (stay (step z left)) (g (step z left)) h in (
      step z left,
      c.1,
      λ place more rest e. ap (at z (sign_at place s.LeftParenthesis ∷ more) more) is ∙ stays (step z left) c.0 more ∙ sym (stays (step z left) c.0 rest),
    )

pub parenthesized_leads : (fine f g : State → Bool) {A : Type 0} {t : A → List Token} {p : Phrase A} → Parenthesized t p → leaps fine f g ≡ true →
    Leads fine f g t p
parenthesized_leads fine f g P h =
    let a = and_both (every (λ z. implies (f z) (leap_left z g))) (under f fine && under g fine) h in
    let b = and_both (under f fine) (under g fine) a.1 in
    past_leads telling fine f g P b.0 b.1 (λ z from. past_left g z (calls z left) refl
    (implied (f z) (leap_left z g) (every_gives (λ z. implies (f z) (leap_left z g)) a.0 z) from))
