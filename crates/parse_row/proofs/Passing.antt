-- An error that is passed on.
use Rattle.std.proofs.Common.{◌≡◌, ℕ, List, Err, Result, subst, sym}
use Rattle.dart_token.specs.declared.token.Token.{Token}
use Rattle.grammar_laws.specs.Readers.{Outcome}
use Rattle.token_cursor.specs.declared.error.ReadFault.{ReadFault}
use Rattle.token_cursor.specs.declared.error.ReadFault.TheVariants.{Stuck, Memory}
use Rattle.token_cursor.specs.Gives.{Gives, GivesHigh}

pub passes_flat : {X A Y B : Type 0} (view : X → A) (o : Outcome Token A) (view' : Y → B) (o' : Outcome Token B) (e : ReadFault) (new : List Token) →
    ((rest : List Token) → o ≡ Err rest → o' ≡ Err rest) → Gives view o (Err e) new → Gives view' o' (Err e) new
passes_flat view o view' o' Stuck new f h = f new h
passes_flat view o view' o' Memory new f h = tt

-- from what names the operator to what has a height
pub passes_up : {X A Y B : Type 0} (view : X → A) (o : Outcome Token A) (view' : Y → B) (height : B → ℕ) (d : ℕ) (o' : Outcome Token B) (e : ReadFault) (new : List Token) →
    ((rest : List Token) → o ≡ Err rest → o' ≡ Err rest) → Gives view o (Err e) new → GivesHigh view' height d o' (Err e) new
passes_up view o view' height d o' Stuck new f h = f new h
passes_up view o view' height d o' Memory new f h = tt

-- the same reader under another name
pub gives_by : {X A : Type 0} (view : X → A) (height : A → ℕ) (d : ℕ) (o o' : Outcome Token A) (r : Result (X × ℕ) ReadFault) (new : List Token) →
    o ≡ o' → GivesHigh view height d o' r new → GivesHigh view height d o r new
gives_by view height d o o' r new e h = subst (λ (x : Outcome Token _). GivesHigh view height d x r new) (sym e) h
