-- Faults of what counts no nodes, that are passed on.
use Rattle.std.proofs.Common.{◌≡◌, ℕ, List, Err}
use Rattle.dart_token.specs.declared.token.Token.{Token}
use Rattle.grammar_laws.specs.Readers.{Outcome}
use Rattle.token_cursor.specs.declared.error.ReadFault.{ReadFault}
use Rattle.token_cursor.specs.declared.error.ReadFault.TheVariants.{Stuck, Memory}
use Rattle.token_cursor.specs.Gives.{Gives, GivesHigh}

pub passes_flat : {X A Y B : Type 0} (view : X → A) (o : Outcome Token A) (view' : Y → B) (whole : Outcome Token B) (e : ReadFault) (new : List Token) →
    ((rest : List Token) → o ≡ Err rest → whole ≡ Err rest) → Gives view o (Err e) new → Gives view' whole (Err e) new
passes_flat view o view' whole Stuck new f h = f new h
passes_flat view o view' whole Memory new f h = tt

pub passes_low : {X A Y B : Type 0} (view : X → A) (o : Outcome Token A) (view' : Y → B) (height : B → ℕ) (depth : ℕ) (whole : Outcome Token B) (e : ReadFault) (new : List Token) →
    ((rest : List Token) → o ≡ Err rest → whole ≡ Err rest) → Gives view o (Err e) new → GivesHigh view' height depth whole (Err e) new
passes_low view o view' height depth whole Stuck new f h = f new h
passes_low view o view' height depth whole Memory new f h = tt
