use Rattle.scope_outer.specs.Outside.{scopes_of}
use Rattle.scope_dictionary.specs.Entries.{at_text}
use Rattle.scope_dictionary.specs.Dictionary.{AreDictionaries}
use Rattle.scope_dictionary.proofs.Prefixes.{KnowsPrefixes}
use Rattle.scope_dictionary.proofs.library.prefixes.Given as goal

-- what is known once the first imports went in
abbrev pub invariant-loop-import : goal.invariant-loop-import
invariant-loop-import l = record {
  sound : AreDictionaries l.home.names.now (scopes_of l.home.scopes) l.home.library l.behind;
  all : KnowsPrefixes l.home.names.now l.home.library l.import-items (at_text l.behind) l.import-index;
}
