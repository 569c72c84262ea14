-- Of two faults of one list the later one is a fault of both fronts.
use Rattle.std.proofs.Common.{◌≡◌, ◌≤◌, Bool, true, false, inl, inr, List, [], ◌∷◌, ◌++◌, length, sym, ap, subst, ◌∙◌, ltb, arith}
use Rattle.std.proofs.lemmas.Bool.{ltb-true, ltb-false}
use Rattle.std.proofs.lemmas.List.{length-append}
use Rattle.grammar_laws.specs.Fronts.{Front, Either}
use Rattle.grammar_laws.specs.Laws.{Ends, Stuck}
use Rattle.grammar_laws.proofs.Cuts.{same, longer, shorter, cut}
use Rattle.grammar_laws.proofs.Joints.{one_on}
use Rattle.grammar_laws.proofs.Tried.{by_length}

abbrev pub Closed : {T : Type 0} → Front T → Type 0
Closed {T} f = (x y : List T) → f (x ++ y) → f x

module _ {T : Type 0} {f : Front T} (shut : Closed f) where
  -- a front that goes on behind a list goes on by one token
  pub by_one : (a : List T) (t : T) (z : List T) → f (a ++ t ∷ z) → f (a ++ t ∷ [])
  by_one a t z h = shut (a ++ t ∷ []) z (subst f (one_on a t z) h)

  past : (x d y more : List T) (t : T) → x ++ d ≡ y ++ t ∷ more → length (t ∷ more) ≤ length d → f (y ++ t ∷ []) → Ends f x d → ⊥
  past x d y more t is few h none =
      elim (cut x d y (t ∷ more) is) as (λ _. ⊥) [
        | same a b ↦ none t more b (subst (λ (m : List T). f (m ++ t ∷ [])) (sym a) h)
        | longer s z a b ↦ none s (z ++ t ∷ more) b (by_one x s z (subst f a (shut y (t ∷ []) h)))
        | shorter s z a b ↦ omega (arith, few, ap length b, length-append z d)
      ]

module _ {T : Type 0} {f g : Front T} (shut_f : Closed f) (shut_g : Closed g) where
  pub later_stuck : {A : Type 0} (ts d e rest : List T) (c : Bool) → ltb (length d) (length e) ≡ c → Stuck f ts d → Stuck g ts e → by_length {A = A} c d e ≡ by_length true rest rest → Stuck (Either f g) ts rest
  later_stuck ts d e rest true c s u h =
      let is : d ≡ rest = cc in
      subst (Stuck (Either f g) ts) is (
        s.0,
        s.1,
        inl s.2,
        λ t more at j.
            elim j as (λ _. ⊥) [
              | inl k ↦ s.3 t more at k
              | inr k ↦ past shut_g u.0 e s.0 more t (sym u.1 ∙ s.1 ∙ ap (λ (m : List T). s.0 ++ m) at) (omega (arith, ltb-true (length d) (length e) c, ap length at)) k u.3
            ],
      )
  later_stuck ts d e rest false c s u h =
      let is : e ≡ rest = cc in
      subst (Stuck (Either f g) ts) is (
        u.0,
        u.1,
        inr u.2,
        λ t more at j.
            elim j as (λ _. ⊥) [
              | inl k ↦ past shut_f s.0 d u.0 more t (sym s.1 ∙ u.1 ∙ ap (λ (m : List T). u.0 ++ m) at) (omega (arith, ltb-false (length d) (length e) c, ap length at)) k s.3
              | inr k ↦ u.3 t more at k
            ],
      )
