-- Formed types stay formed where formed arguments are put in.
use Rattle.std.proofs.Common.{◌≡◌, ℕ, zero, suc, ◌<◌, arith, refl, ap, ◌∙◌}
use Rattle.dart_ir.specs.Ty.{Ty, Tys, NamedTys, dynamic, bottom, void, class, parameter, function, nil, cons, unnamed, named}
use Rattle.dart_ir.specs.Classes.{count, IsFormed, AreFormed, AreNamedFormed}
use Rattle.dart_ir.specs.declared.class.Classes.{Classes}
use Rattle.dart_type.specs.Instance.{argument, instance, instances, named_instances}

count_instances : (ts us : Tys) → count (instances ts us) ≡ count us
count_instances ts nil = refl
count_instances ts (cons u us) = ap suc (count_instances ts us)

module _ (k : Classes) (n : ℕ) where
  argument_formed : (ts : Tys) (i : ℕ) → i < count ts → AreFormed k n ts → IsFormed k n (argument ts i)
  argument_formed nil i l h = absurd (omega (arith, l))
  argument_formed (cons t ts) zero l h = h.0
  argument_formed (cons t ts) (suc i) l h = argument_formed ts i (omega (arith, l)) h.1

  module _ (ts : Tys) (given : AreFormed k n ts) where
    mutual
      pub instance_formed : (t : Ty) → IsFormed k (count ts) t → IsFormed k n (instance ts t)
      instance_formed dynamic h = tt
      instance_formed bottom h = tt
      instance_formed void h = tt
      instance_formed (parameter i) h = argument_formed ts i h given
      instance_formed (class c us) h = (h.0, count_instances ts us ∙ h.1, instances_formed us h.2)
      instance_formed (function r q o m) h = (instance_formed r h.0, instances_formed q h.1, instances_formed o h.2, named_formed m h.3)

      instances_formed : (us : Tys) → AreFormed k (count ts) us → AreFormed k n (instances ts us)
      instances_formed nil h = tt
      instances_formed (cons u us) h = (instance_formed u h.0, instances_formed us h.1)

      named_formed : (us : NamedTys) → AreNamedFormed k (count ts) us → AreNamedFormed k n (named_instances ts us)
      named_formed unnamed h = tt
      named_formed (named x u us) h = (instance_formed u h.0, named_formed us h.1)
