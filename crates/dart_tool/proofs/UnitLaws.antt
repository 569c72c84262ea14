-- A text is one unit, or none for one reason.
use Rattle.std.proofs.Common.{◌≡◌, ◌∙◌, sym, ap, refl, ℕ, List, Option, Some, None, Result, Ok, Err, inl, inr}
use Rattle.dart_token.specs.declared.token.Token.{Token}
use Rattle.dart_tree.specs.Unit.{UnitTree}
use Rattle.dart_syntax.specs.Syntax.{SyntaxReason, left_out_at, syntax_at, too_deep_at}
use Rattle.syntax_readers.specs.Units.{found}
use Rattle.parse_unit.specs.declared.fault.ParseFault.{ParseFault}
use Rattle.parse_unit.specs.declared.fault.ParseFault.TheVariants as p
use Rattle.parse_unit.specs.Finds.{Finds}
use Rattle.dart_front.specs.Texts.{IsUnit, ErasesTo, erased_bytes}
use Rattle.dart_lex.specs.declared.lexer.LexFault.{LexFault}
use Rattle.dart_lex.specs.declared.lexer.LexFault.TheVariants as e
use Rattle.dart_lex.specs.Spelling.{Spells, HasReason}
use Rattle.dart_lex.proofs.LexLaws.{one_reason, one_spelling, spelled_or_refused}
use Rattle.dart_lex.proofs.TextLaws.{no_memory_reason, some_answer}
use Rattle.dart_tool.specs.declared.status.Refusal.{Refusal}
use Rattle.dart_tool.specs.declared.status.Refusal.TheVariants.{LeftOut, Syntax, TooDeep}
use Rattle.dart_tool.specs.Language.{LexisRefuses, SyntaxRefuses, IsNoUnitFor}
use Rattle.dart_tool.specs.Status.{lexical_refusal, syntax_refusal}

refusal_of : SyntaxReason → Refusal
refusal_of (left_out_at place feature) = LeftOut place feature
refusal_of (syntax_at place) = Syntax place
refusal_of (too_deep_at place) = TooDeep place

-- what the readers answer where the tokens are refused
found_reason : (tokens : List Token) (fault : ParseFault) (why : Refusal) → Finds tokens (Err fault) → syntax_refusal fault ≡ Some why → (reason : SyntaxReason) × (found tokens ≡ Err reason) × (why ≡ refusal_of reason)
unfolding refusal_of
found_reason tokens (p.LeftOut place feature) why h e = (left_out_at place feature, h, cc)
found_reason tokens (p.Syntax place) why h e = (syntax_at place, h, cc)
found_reason tokens (p.TooDeep place) why h e = (too_deep_at place, h, cc)
found_reason tokens p.Memory why h e = absurd cc

reason_refuses : (text : List ℕ) (tokens : List Token) (reason : SyntaxReason) → Spells 0 text tokens → found tokens ≡ Err reason → SyntaxRefuses text (refusal_of reason)
unfolding refusal_of
reason_refuses text tokens (left_out_at place feature) spelled h = (p.LeftOut place feature, (tokens, spelled, h), refl)
reason_refuses text tokens (syntax_at place) spelled h = (p.Syntax place, (tokens, spelled, h), refl)
reason_refuses text tokens (too_deep_at place) spelled h = (p.TooDeep place, (tokens, spelled, h), refl)

one_lexical_refusal : (text : List ℕ) (a b : Refusal) → LexisRefuses text a → LexisRefuses text b → a ≡ b
one_lexical_refusal text a b (fault, x, e) (other, y, f) =
    let both : Some a ≡ Some b = sym e ∙ ap lexical_refusal (one_reason 0 text fault other x y) ∙ f in cc

one_syntax_refusal : (text : List ℕ) (a b : Refusal) → SyntaxRefuses text a → SyntaxRefuses text b → a ≡ b
one_syntax_refusal text a b (fault, (tokens, spelled, h), e) (other, (others, also, g), f) =
    let (reason, is, x) = found_reason tokens fault a h e in
    let (because, so, y) = found_reason others other b g f in
    let same : tokens ≡ others = one_spelling 0 text tokens others spelled also in
    let both : ◌≡◌ {A = Result UnitTree SyntaxReason} (Err reason) (Err because) = sym is ∙ ap found same ∙ so in
    let one : reason ≡ because = cc in
    x ∙ ap refusal_of one ∙ sym y

syntax_or_lexis : (text : List ℕ) (a b : Refusal) → SyntaxRefuses text a → LexisRefuses text b → ⊥
syntax_or_lexis text a b (fault, (tokens, spelled, h), e) (other, reason, f) = spelled_or_refused 0 text tokens other spelled reason

-- a text is no unit for one reason
pub one_reason_for : (text : List ℕ) (a b : Refusal) → IsNoUnitFor text a → IsNoUnitFor text b → a ≡ b
one_reason_for text a b (inl x) (inl y) = one_lexical_refusal text a b x y
one_reason_for text a b (inl x) (inr y) = absurd (syntax_or_lexis text b a y x)
one_reason_for text a b (inr x) (inl y) = absurd (syntax_or_lexis text a b x y)
one_reason_for text a b (inr x) (inr y) = one_syntax_refusal text a b x y

-- a text that is a unit is refused for none
pub unit_unrefused : (text : List ℕ) (unit : UnitTree) (why : Refusal) → IsUnit 0 text unit → IsNoUnitFor text why → ⊥
unit_unrefused text unit why (tokens, spelled, is) (inl (fault, reason, e)) = spelled_or_refused 0 text tokens fault spelled reason
unit_unrefused text unit why (tokens, spelled, is) (inr (fault, (others, also, h), e)) =
    let (reason, so, x) = found_reason others fault why h e in
    let same : tokens ≡ others = one_spelling 0 text tokens others spelled also in
    let both : ◌≡◌ {A = Result UnitTree SyntaxReason} (Ok unit) (Err reason) = sym is ∙ ap found same ∙ so in
    cc

one_unit : (text : List ℕ) (a b : UnitTree) → IsUnit 0 text a → IsUnit 0 text b → a ≡ b
one_unit text a b (tokens, spelled, is) (others, also, so) =
    let same : tokens ≡ others = one_spelling 0 text tokens others spelled also in
    let both : ◌≡◌ {A = Result UnitTree SyntaxReason} (Ok a) (Ok b) = sym is ∙ ap found same ∙ so in
    cc

-- a text has one erased text at most
pub one_erased : (text a b : List ℕ) → ErasesTo text a → ErasesTo text b → a ≡ b
one_erased text a b (unit, is, e) (other, so, f) = e ∙ ap erased_bytes (one_unit text unit other is so) ∙ sym f

-- and none where it is refused
pub erased_unrefused : (text bytes : List ℕ) (why : Refusal) → ErasesTo text bytes → IsNoUnitFor text why → ⊥
erased_unrefused text bytes why (unit, is, e) no_unit = unit_unrefused text unit why is no_unit

lexical_memory : (fault : LexFault) → lexical_refusal fault ≡ None → fault ≡ e.Memory
lexical_memory e.TooLarge f = absurd cc
lexical_memory (e.NotUtf8 offset) f = absurd cc
lexical_memory (e.BadToken place) f = absurd cc
lexical_memory (e.LeftOut place feature) f = absurd cc
lexical_memory (e.IntegerTooLarge place) f = absurd cc
lexical_memory e.Memory f = refl

refused_or_not : (text : List ℕ) (fault : LexFault) (why : Option Refusal) → lexical_refusal fault ≡ why → HasReason 0 text fault → ((why : Refusal) → IsNoUnitFor text why → ⊥) → ⊥
refused_or_not text fault (Some why) e reason none = none why (inl (fault, reason, e))
refused_or_not text fault None e reason none = no_memory_reason 0 text (rw (lexical_memory fault e) at reason)

found_or_not : (text : List ℕ) (tokens : List Token) (result : Result UnitTree SyntaxReason) → found tokens ≡ result → Spells 0 text tokens → ((why : Refusal) → IsNoUnitFor text why → ⊥) → ((bytes : List ℕ) → ErasesTo text bytes → ⊥) → ⊥
found_or_not text tokens (Ok unit) is spelled none no_unit = no_unit (erased_bytes unit) (unit, (tokens, spelled, is), refl)
found_or_not text tokens (Err reason) is spelled none no_unit = none (refusal_of reason) (inr (reason_refuses text tokens reason spelled is))

-- a text is refused, or has an erased text
pub erased_or_refused : (text : List ℕ) → ((why : Refusal) → IsNoUnitFor text why → ⊥) → ((bytes : List ℕ) → ErasesTo text bytes → ⊥) → ⊥
erased_or_refused text none no_unit = elim (some_answer 0 text) as (λ _. ⊥) [
  | inl (tokens, spelled) ↦ found_or_not text tokens (found tokens) refl spelled none no_unit
  | inr (fault, reason) ↦ refused_or_not text fault (lexical_refusal fault) refl reason none
]
