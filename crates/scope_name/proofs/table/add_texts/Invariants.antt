use Rattle.std.proofs.Common.{◌≡◌, drop, map}
use Rattle.std.specs.Prelude.{fold}
use Rattle.scope_name.specs.Names.{with_text}
use Rattle.scope_name.proofs.table.add_texts.Given as goal

-- the texts that are left lead to the same table
abbrev pub invariant-loop-text : goal.invariant-loop-text
invariant-loop-text l = fold with_text l.names (map (λ text. text.now) (drop l.text-index l.texts)) ≡ fold with_text l.initial.names (map (λ text. text.now) l.texts)
