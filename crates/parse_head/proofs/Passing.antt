-- An error that is passed on.
use Rattle.std.proofs.Common.{◌≡◌, List, Err}
use Rattle.dart_token.specs.declared.token.Token.{Token}
use Rattle.grammar_laws.specs.Readers.{Outcome}
use Rattle.token_cursor.specs.declared.error.ReadFault.{ReadFault}
use Rattle.token_cursor.specs.declared.error.ReadFault.TheVariants.{Stuck, Memory}
use Rattle.token_cursor.specs.Gives.{Gives}

pub passes_flat : {X A Y B : Type 0} (view : X → A) (o : Outcome Token A) (view' : Y → B) (o' : Outcome Token B) (e : ReadFault) (new : List Token) →
    ((rest : List Token) → o ≡ Err rest → o' ≡ Err rest) → Gives view o (Err e) new → Gives view' o' (Err e) new
passes_flat view o view' o' Stuck new f h = f new h
passes_flat view o view' o' Memory new f h = tt
