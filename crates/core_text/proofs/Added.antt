-- Texts that are added one behind the other.
use Rattle.std.proofs.Common.{◌≡◌, ℕ, List, ◌++◌, ap, ◌∙◌, append_assoc, append-nil, sym, [], Result, Ok, Err}
use Rattle.std.specs.declared.alloc.AllocError.{AllocError}
use Rattle.core_text.specs.Line.{Adds}

-- two texts, one behind the other, are one
pub both : {b1 b2 : List ℕ} (b0 x y : List ℕ) → b1 ≡ b0 ++ x → b2 ≡ b1 ++ y → b2 ≡ b0 ++ (x ++ y)
both b0 x y e f = f ∙ ap (λ (b : List ℕ). b ++ y) e ∙ append_assoc b0 x y

-- a text that was added, and one behind it whose addition may fail
pub behind : {r : Result (Unit {0}) AllocError} {u : Unit {0}} {b0 b1 b2 x y : List ℕ} → Adds (Ok u) b0 b1 x → Adds r b1 b2 y → Adds r b0 b2 (x ++ y)
behind {r = Ok u} {b0 = b0} {x = x} {y = y} e f = record { on_ok = both b0 x y e.on_ok f.on_ok }
behind {r = Err w} e f = record { on_ok = tt }

-- the text that was added, by another name of it
pub told : {r : Result (Unit {0}) AllocError} {b0 b1 x y : List ℕ} → x ≡ y → Adds r b0 b1 x → Adds r b0 b1 y
told {r = Ok u} {b0 = b0} e f = record { on_ok = f.on_ok ∙ ap (λ (x : List ℕ). b0 ++ x) e }
told {r = Err w} e f = record { on_ok = tt }

-- where nothing is added
pub nothing : {u : Unit {0}} (b : List ℕ) → Adds (Ok u) b b []
nothing b = record { on_ok = sym (append-nil b) }
