-- How the answer of a call and the state behind it are the end of a walk.
use Rattle.std.specs.Prelude.{◌≡◌, ℕ, Result, Ok, Err}
use Rattle.dart_ir.specs.declared.number.SiteId.{SiteId}
use Rattle.translation.specs.Walk as w
use Rattle.lower_leaf.specs.declared.fault.LowerFault.{LowerFault}
use Rattle.lower_leaf.specs.declared.fault.LowerFault.TheVariants as f

-- The walk has this answer, in this state, or this reason stops it; want of memory says nothing.
abbrev pub Gives : {X A : Type 0} → (X → A) → Result X LowerFault → w.State → w.Went A → Type 0
Gives view (Ok x) st walk = walk ≡ w.went (view x) st
Gives view (Err (f.LeftOut place feature)) st walk = walk ≡ w.refused (w.left_out place feature)
Gives view (Err (f.NotConstant place)) st walk = walk ≡ w.refused (w.not_constant place)
Gives view (Err (f.BadLabel place)) st walk = walk ≡ w.refused (w.bad_label place)
Gives view (Err (f.BadConstructor place)) st walk = walk ≡ w.refused (w.bad_constructor place)
Gives view (Err (f.BadSwitch place)) st walk = walk ≡ w.refused (w.bad_switch place)
Gives view (Err (f.BadWord place)) st walk = walk ≡ w.refused (w.bad_word place)
Gives view (Err (f.TooLarge place)) st walk = walk ≡ w.refused (w.too_large place)
Gives view (Err f.Memory) st walk = Unit {0}

abbrev pub itself : ℕ → ℕ
itself n = n

abbrev pub site_number : SiteId → ℕ
site_number n = n.0
