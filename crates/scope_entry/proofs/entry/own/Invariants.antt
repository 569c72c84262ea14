use Rattle.std.proofs.Common.{◌≡◌, ◌++◌, ℕ, drop, filter}
use Rattle.std.specs.List.{enumerate_from}
use Rattle.scope_declared.specs.declared.declaration.Declared.{Declared}
use Rattle.scope_entry.specs.Entries.{is_own}
use Rattle.scope_entry.proofs.entry.own.Given as goal

-- what was found and what is left to find are all
abbrev pub invariant-loop-number : goal.invariant-loop-number
invariant-loop-number l = l.found.items ++ filter (λ (p : ℕ × Declared). is_own p.1.kind) (enumerate_from l.number (drop l.number l.numbered))
    ≡ filter (λ (p : ℕ × Declared). is_own p.1.kind) (enumerate_from 0 l.numbered)
