-- An error of what has no height that is passed on.
use Rattle.std.proofs.Common.{◌≡◌, ℕ, List, Err}
use Rattle.dart_token.specs.declared.token.Token.{Token}
use Rattle.grammar_laws.specs.Readers.{Outcome}
use Rattle.token_cursor.specs.declared.error.ReadFault.{ReadFault}
use Rattle.token_cursor.specs.declared.error.ReadFault.TheVariants.{Stuck, Memory}
use Rattle.token_cursor.specs.Gives.{Gives, GivesHigh}

pub passes_on : {X A Y B : Type 0} (view : X → A) (o : Outcome Token A) (view' : Y → B) (height' : B → ℕ) (d' : ℕ) (o' : Outcome Token B) (e : ReadFault) (new : List Token) →
    ((rest : List Token) → o ≡ Err rest → o' ≡ Err rest) → Gives view o (Err e) new → GivesHigh view' height' d' o' (Err e) new
passes_on view o view' height' d' o' Stuck new f h = f new h
passes_on view o view' height' d' o' Memory new f h = tt
