-- What a call of the tool answers and writes, where some outcome is due.
use Rattle.std.specs.Prelude.{◌≡◌, ℕ, List, Option, Bool, true, false}
use Rattle.std.specs.Io.KnownBytes.{append_known}
use Rattle.dart_edge.specs.Writes.{IsPrefix, WrotePrefix}
use Rattle.dart_tool.specs.declared.outcome.Outcome.{Outcome}
use Rattle.dart_tool.specs.declared.status.Status.{Status}
use Rattle.dart_tool.specs.declared.status.Status.TheVariants.{ReadFault, WriteFault, Memory}

-- The call went through: its status and what it wrote are those of the outcome that is due.
abbrev pub Completed : (Outcome → Type 0) → Status → Option (List ℕ) → Option (List ℕ) → Type 0
Completed IsDue status before after =
    (out : Outcome) × IsDue out × (status ≡ out.status) × (after ≡ append_known before out.bytes)

-- The call was cut short: it wrote a prefix of the bytes of the outcome that is due.
abbrev pub CutShort : (Outcome → Type 0) → Option (List ℕ) → Option (List ℕ) → Type 0
CutShort IsDue before after =
    (prefix : List ℕ) × (after ≡ append_known before prefix) ×
    ((out : Outcome) → IsDue out → IsPrefix prefix out.bytes)

-- What a call answers, and what was written before and after it.
abbrev pub Answers : (Outcome → Type 0) → Status → Option (List ℕ) → Option (List ℕ) → Type 0
Answers IsDue ReadFault before after = after ≡ before
Answers IsDue WriteFault before after = CutShort IsDue before after
Answers IsDue Memory before after = CutShort IsDue before after
Answers IsDue status before after = Completed IsDue status before after

-- Writing an outcome: all its bytes with its status, or a prefix of them.
abbrev pub Delivers : Outcome → Status → Option (List ℕ) → Option (List ℕ) → Type 0
Delivers out ReadFault before after = ⊥
Delivers out WriteFault before after = WrotePrefix before after out.bytes
Delivers out Memory before after = WrotePrefix before after out.bytes
Delivers out status before after = (status ≡ out.status) × (after ≡ append_known before out.bytes)

-- the answer is that a read failed
abbrev pub is_read_fault : Status → Bool
is_read_fault ReadFault = true
is_read_fault status = false

-- the answer is that a write failed
abbrev pub is_write_fault : Status → Bool
is_write_fault WriteFault = true
is_write_fault status = false
