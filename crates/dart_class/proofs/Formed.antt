-- Type arguments that are put into formed types leave them formed.
use Rattle.std.proofs.Common.{◌≡◌, ◌∙◌, ℕ, zero, suc, ◌+◌, Bool, true, false, List, length, replicate, nat_eq, refl, ap, if◌then◌else◌}
use Rattle.std.specs.Prelude.{nat_lt}
use Rattle.dart_base.specs.declared.limit.TheConstants.{TYPE_NODES}
use Rattle.dart_ir.specs.Ty.{TysOf, NamedTysOf, dynamic, bottom, void, class, parameter, function, nil, cons, unnamed, named}
use Rattle.translation.specs.Surroundings.{Text, Ty, Tables}
use Rattle.translation.specs.Types.{tys, fitting}
use Rattle.class_source.specs.Formed.{count, IsFormed, AreFormed, AreNamedFormed}
use Rattle.lower_annotation.specs.Instance.{argument, instance, instances, named_instances, node_count}
use Rattle.lower_annotation.specs.Written.{within_limit}

-- what is formed is so in all tables with as many type parameters for each class
module _ (from to : Tables) (same : (c : ℕ) → from.parameters c ≡ to.parameters c) (classes n : ℕ) where
  mutual
    pub formed-as : (t : Ty) → IsFormed from classes n t → IsFormed to classes n t
    formed-as dynamic h = tt
    formed-as bottom h = tt
    formed-as void h = tt
    formed-as (class c ts) h = (h.0, h.1 ∙ same c, all-formed-as ts h.2)
    formed-as (parameter i) h = h
    formed-as (function result required optional names) h =
        (formed-as result h.0, all-formed-as required h.1, all-formed-as optional h.2, named-formed-as names h.3)

    pub all-formed-as : (ts : TysOf Text) → AreFormed from classes n ts → AreFormed to classes n ts
    all-formed-as nil h = tt
    all-formed-as (cons t ts) h = (formed-as t h.0, all-formed-as ts h.1)

    named-formed-as : (ts : NamedTysOf Text) → AreNamedFormed from classes n ts → AreNamedFormed to classes n ts
    named-formed-as unnamed h = tt
    named-formed-as (named name t ts) h = (formed-as t h.0, named-formed-as ts h.1)

count-instances : (args ts : TysOf Text) → count (instances args ts) ≡ count ts
count-instances args nil = refl
count-instances args (cons t ts) = ap (λ k. 1 + k) (count-instances args ts)

module _ (tables : Tables) (classes n : ℕ) where
  argument-formed : (args : TysOf Text) → AreFormed tables classes n args → (i : ℕ) → IsFormed tables classes n (argument args i)
  argument-formed nil h i = tt
  argument-formed (cons t ts) h zero = h.0
  argument-formed (cons t ts) h (suc i) = argument-formed ts h.1 i

  module _ (args : TysOf Text) (formed : AreFormed tables classes n args) (k : ℕ) where
    mutual
      pub instance-formed : (t : Ty) → IsFormed tables classes k t → IsFormed tables classes n (instance args t)
      instance-formed dynamic h = tt
      instance-formed bottom h = tt
      instance-formed void h = tt
      instance-formed (class c ts) h = (h.0, count-instances args ts ∙ h.1, instances-formed ts h.2)
      instance-formed (parameter i) h = argument-formed args formed i
      instance-formed (function result required optional names) h =
          (instance-formed result h.0, instances-formed required h.1, instances-formed optional h.2, named-instances-formed names h.3)

      instances-formed : (ts : TysOf Text) → AreFormed tables classes k ts → AreFormed tables classes n (instances args ts)
      instances-formed nil h = tt
      instances-formed (cons t ts) h = (instance-formed t h.0, instances-formed ts h.1)

      named-instances-formed : (ts : NamedTysOf Text) → AreNamedFormed tables classes k ts → AreNamedFormed tables classes n (named_instances args ts)
      named-instances-formed unnamed h = tt
      named-instances-formed (named name t ts) h = (instance-formed t h.0, named-instances-formed ts h.1)

  dynamics-formed : (k : ℕ) → AreFormed tables classes n (tys (replicate k dynamic))
  dynamics-formed zero = tt
  dynamics-formed (suc k) = (tt, dynamics-formed k)

  chosen-formed : (b : Bool) (k : ℕ) (ts : List Ty) → AreFormed tables classes n (tys ts) → AreFormed tables classes n (tys (if b then ts else replicate k dynamic))
  chosen-formed true k ts h = h
  chosen-formed false k ts h = dynamics-formed k

  pub fitting-formed : (k : ℕ) (ts : List Ty) → AreFormed tables classes n (tys ts) → AreFormed tables classes n (tys (fitting k ts))
  fitting-formed k ts h = chosen-formed (nat_eq (length ts) k) k ts h

  limited-formed : (b : Bool) (t : Ty) → IsFormed tables classes n t → IsFormed tables classes n (if b then dynamic else t)
  limited-formed true t h = tt
  limited-formed false t h = h

  pub within-formed : (t : Ty) → IsFormed tables classes n t → IsFormed tables classes n (within_limit t)
  within-formed t h = limited-formed (nat_lt TYPE_NODES (node_count t)) t h
