-- What holds of two tables holds of those that they are.
use Rattle.std.proofs.Common.{◌≡◌, subst}
use Rattle.lower_leaf.specs.Around.{Around}

pub over-as : (P : Around → Around → Type 0) (a a2 b b2 : Around) → a ≡ a2 → b ≡ b2 → P a b → P a2 b2
over-as P a a2 b b2 p q h = subst (λ (x : Around). P x b2) p (subst (P a) q h)
