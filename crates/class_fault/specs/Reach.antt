-- Whether headers lead from a class to another, or it is that class.
use Rattle.std.specs.Prelude.{◌≡◌, ℕ, ◌⊎◌, List}
use Rattle.class_order.specs.declared.header.Header.{Header}
use Rattle.class_order.specs.Order.{Leads}

-- the class itself, or one that headers lead to from it
abbrev pub LeadsTo : List Header → ℕ → ℕ → Type 0
LeadsTo hs d e = (d ≡ e) ⊎ Leads hs d e
