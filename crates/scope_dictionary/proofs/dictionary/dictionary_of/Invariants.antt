use Rattle.scope_outer.specs.Outside.{scopes_of}
use Rattle.scope_dictionary.specs.Entries.{at_text}
use Rattle.scope_dictionary.specs.Dictionary.{MeansAt, sense}
use Rattle.scope_dictionary.proofs.Building.{KnowsBelow}
use Rattle.scope_dictionary.proofs.dictionary.dictionary_of.Given as goal

-- what is known once the first names went in
abbrev pub invariant-loop-number : goal.invariant-loop-number
invariant-loop-number l =
    KnowsBelow l.home.names.now l.home.library (MeansAt (scopes_of l.home.scopes) l.home.library l.prefix) sense (at_text l.senses) l.number
