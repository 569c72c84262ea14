-- Transitivity is admissible: the search through supertypes is closed under it.
use Rattle.std.proofs.Common.{◌≡◌, ℕ, zero, suc, ◌⊎◌, inl, inr, Bool, true, false, refl, sym, subst as transport}
use Rattle.dart_ir.specs.Ty.{Ty, Tys, NamedTys, dynamic, bottom, void, class, parameter, function, nil, cons}
use Rattle.dart_ir.specs.Classes.{IsPlain, ArePlain}
use Rattle.dart_type.specs.Instance.{argument, instance, instances}
use Rattle.dart_type.specs.Relation.{Table, In, Derives, DeriveAll, Meets, meets, same, from_bottom, to_dynamic, supertype, bound, arguments, function_to_class, call_to_class, call_to_function, function_rule, left, right, no_more, one_more}

abbrev pub IsBottom : Ty → Type 0
IsBottom bottom = Unit {0}
IsBottom _ = ⊥

abbrev pub IsVoid : Ty → Type 0
IsVoid void = Unit {0}
IsVoid _ = ⊥

abbrev pub IsParameter : ℕ → Ty → Type 0
IsParameter i (parameter j) = j ≡ i
IsParameter i _ = ⊥

-- one step up
pub data Edge (k : Table) : Ty → Ty → Type 0 where
  up : (c : ℕ) (ts : Tys) (u : Ty) → In u (k.supertypes c) → Edge k (class c ts) (instance ts u)
  up_bound : (i : ℕ) (u : Ty) → In u (k.bounds i) → Edge k (parameter i) u
  up_function : (r : Ty) (q o : Tys) (n : NamedTys) → Edge k (function r q o n) (class k.function_class nil)
  up_calls : (c : ℕ) (ts : Tys) → k.has_call c ≡ true → Edge k (class c ts) (class k.function_class nil)

pub data Reach (k : Table) : Ty → Ty → Type 0 where
  here : (t : Ty) → Reach k t t
  step : (t u v : Ty) → Edge k t u → Reach k u v → Reach k t v

abbrev pub Calls : Table → Ty → Type 0
Calls k (class c ts) = k.has_call c ≡ true
Calls k _ = ⊥

abbrev pub Ruled : Table → Bool → Ty → Ty → Type 0
Ruled k false f g = ⊥
Ruled k true f g = Meets k f g

-- what a type above must be, for a function type above it
abbrev pub Fits : Table → Bool → Ty → Ty → Type 0
Fits k b f g = Calls k f ⊎ (f ≡ g) ⊎ Ruled k b f g

-- the search
abbrev mutual
  pub Le : Table → Bool → Ty → Ty → Type 0
  Le k b dynamic t = Unit {0}
  Le k b bottom t = IsBottom t
  Le k b void t = IsBottom t ⊎ IsVoid t
  Le k b (parameter i) t = IsBottom t ⊎ IsParameter i t
  Le k b (class d bs) t = IsBottom t ⊎ ((ts : Tys) × Reach k t (class d ts) × Les k b bs ts)
  Le k b (function r q o n) t = IsBottom t ⊎ ((f : Ty) × Reach k t f × Fits k b f (function r q o n))

  pub Les : Table → Bool → Tys → Tys → Type 0
  Les k b nil nil = Unit {0}
  Les k b nil (cons a ts) = ⊥
  Les k b (cons s ss) nil = ⊥
  Les k b (cons s ss) (cons a ts) = Le k b s a × Les k b ss ts

-- a class, without function types among the arguments
abbrev pub IsSuper : Ty → Type 0
IsSuper (class c us) = ArePlain us
IsSuper _ = ⊥

-- only classes stand directly above a class or a parameter
pub record Good (k : Table) : Type 0 where
  pub supertypes : (c : ℕ) (u : Ty) → In u (k.supertypes c) → IsSuper u
  pub bounds : (i : ℕ) (u : Ty) → In u (k.bounds i) → IsSuper u

pub le_bot : (k : Table) (b : Bool) (s t : Ty) → IsBottom t → Le k b s t
le_bot k b dynamic t h = tt
le_bot k b bottom t h = h
le_bot k b void t h = inl h
le_bot k b (parameter i) t h = inl h
le_bot k b (class d bs) t h = inl h
le_bot k b (function r q o n) t h = inl h

mutual
  pub le_refl : (k : Table) (b : Bool) (t : Ty) → Le k b t t
  le_refl k b dynamic = tt
  le_refl k b bottom = tt
  le_refl k b void = inr tt
  le_refl k b (parameter i) = inr refl
  le_refl k b (class d bs) = inr (bs, here _, les_refl k b bs)
  le_refl k b (function r q o n) = inr (function r q o n, here _, inr (inl refl))

  pub les_refl : (k : Table) (b : Bool) (ts : Tys) → Les k b ts ts
  les_refl k b nil = tt
  les_refl k b (cons t ts) = (le_refl k b t, les_refl k b ts)

pub reach_trans : {k : Table} (t u v : Ty) → Reach k t u → Reach k u v → Reach k t v
reach_trans t u v (here _) r = r
reach_trans t u v (step _ w _ e p) r = step t w v e (reach_trans w u v p r)

-- one flag is below another
abbrev pub Sub : Bool → Bool → Type 0
Sub false c = Unit {0}
Sub true true = Unit {0}
Sub true false = ⊥

pub sub_refl : (b : Bool) → Sub b b
sub_refl false = tt
sub_refl true = tt

pub ruled_sub : (k : Table) (b c : Bool) → Sub b c → (f g : Ty) → Ruled k b f g → Ruled k c f g
ruled_sub k false c w f g h = absurd h
ruled_sub k true true w f g h = h
ruled_sub k true false w f g h = absurd w

fits_sub : (k : Table) (b c : Bool) → Sub b c → (f g : Ty) → Fits k b f g → Fits k c f g
fits_sub k b c w f g (inl h) = inl h
fits_sub k b c w f g (inr (inl h)) = inr (inl h)
fits_sub k b c w f g (inr (inr h)) = inr (inr (ruled_sub k b c w f g h))

mutual
  pub le_sub : (k : Table) (b c : Bool) (w : Sub b c) (s t : Ty) → Le k b s t → Le k c s t
  le_sub k b c w dynamic t h = tt
  le_sub k b c w bottom t h = h
  le_sub k b c w void t h = h
  le_sub k b c w (parameter i) t h = h
  le_sub k b c w (class d bs) t (inl h) = inl h
  le_sub k b c w (class d bs) t (inr (ts, r, l)) = inr (ts, r, les_sub k b c w bs ts l)
  le_sub k b c w (function r q o n) t (inl h) = inl h
  le_sub k b c w (function r q o n) t (inr (f, p, l)) = inr (f, p, fits_sub k b c w f _ l)

  pub les_sub : (k : Table) (b c : Bool) (w : Sub b c) (ss ts : Tys) → Les k b ss ts → Les k c ss ts
  les_sub k b c w nil nil l = tt
  les_sub k b c w nil (cons a ts) l = l
  les_sub k b c w (cons s ss) nil l = l
  les_sub k b c w (cons s ss) (cons a ts) l = (le_sub k b c w s a l.0, les_sub k b c w ss ts l.1)

pub super_plain : (u : Ty) → IsSuper u → IsPlain u
super_plain dynamic h = tt
super_plain bottom h = tt
super_plain void h = tt
super_plain (parameter i) h = tt
super_plain (class c us) h = h
super_plain (function r q o n) h = h

super_is : (P : Ty → Type 0) → ((c : ℕ) (us : Tys) → P (class c us) → ⊥) → (ts : Tys) (u : Ty) → IsSuper u → P (instance ts u) → ⊥
super_is P no_class ts (class c us) h p = no_class c (instances ts us) p
super_is P no_class ts dynamic h p = h
super_is P no_class ts bottom h p = h
super_is P no_class ts void h p = h
super_is P no_class ts (parameter i) h p = h
super_is P no_class ts (function r q o n) h p = h

super_none : (P : Ty → Type 0) → ((c : ℕ) (us : Tys) → P (class c us) → ⊥) → (u : Ty) → IsSuper u → P u → ⊥
super_none P no_class (class c us) h p = no_class c us p
super_none P no_class dynamic h p = h
super_none P no_class bottom h p = h
super_none P no_class void h p = h
super_none P no_class (parameter i) h p = h
super_none P no_class (function r q o n) h p = h

bot_below : (k : Table) (b : Bool) (u t : Ty) → IsBottom u → Le k b u t → IsBottom t
bot_below k b bottom t h l = l
bot_below k b dynamic t h l = absurd h
bot_below k b void t h l = absurd h
bot_below k b (parameter i) t h l = absurd h
bot_below k b (class c us) t h l = absurd h
bot_below k b (function r q o n) t h l = absurd h

vd_below : (k : Table) (b : Bool) (u t : Ty) → IsVoid u → Le k b u t → IsBottom t ⊎ IsVoid t
vd_below k b void t h l = l
vd_below k b bottom t h l = absurd h
vd_below k b dynamic t h l = absurd h
vd_below k b (parameter i) t h l = absurd h
vd_below k b (class c us) t h l = absurd h
vd_below k b (function r q o n) t h l = absurd h

par_below : (k : Table) (b : Bool) (i : ℕ) (u t : Ty) → IsParameter i u → Le k b u t → IsBottom t ⊎ IsParameter i t
par_below k b i (parameter j) t h l = transport (λ m. IsBottom t ⊎ IsParameter m t) h l
par_below k b i void t h l = absurd h
par_below k b i bottom t h l = absurd h
par_below k b i dynamic t h l = absurd h
par_below k b i (class c us) t h l = absurd h
par_below k b i (function r q o n) t h l = absurd h

calls_below : (k : Table) (b c : Bool) (f g t : Ty) → Calls k f → Le k b f t → IsBottom t ⊎ ((e : Ty) × Reach k t e × Fits k c e g)
calls_below k b c (class d us) g t h (inl l) = inl l
calls_below k b c (class d us) g t h (inr (ts, r, l)) = inr (class d ts, r, inl h)
calls_below k b c dynamic g t h l = absurd h
calls_below k b c bottom g t h l = absurd h
calls_below k b c void g t h l = absurd h
calls_below k b c (parameter i) g t h l = absurd h
calls_below k b c (function r q o n) g t h l = absurd h

calls_edge : (k : Table) (f : Ty) → Calls k f → Edge k f (class k.function_class nil)
calls_edge k (class d us) h = up_calls d us h
calls_edge k dynamic h = absurd h
calls_edge k bottom h = absurd h
calls_edge k void h = absurd h
calls_edge k (parameter i) h = absurd h
calls_edge k (function r q o n) h = absurd h

meets_edge : (k : Table) (f g : Ty) → Meets k f g → Edge k f (class k.function_class nil)
meets_edge k f g (meets r s q p o e n m a b c d) = up_function r q o n

abbrev pub IsFun : Ty → Type 0
IsFun (function r q o n) = Unit {0}
IsFun _ = ⊥

meets_fun : (k : Table) (f g : Ty) → Meets k f g → IsFun f
meets_fun k f g (meets r s q p o e n m a b c d) = tt

ruled_fun : (k : Table) (b : Bool) (f g : Ty) → Ruled k b f g → IsFun f
ruled_fun k false f g h = absurd h
ruled_fun k true f g h = meets_fun k f g h

ruled_edge : (k : Table) (b : Bool) (f g : Ty) → Ruled k b f g → Edge k f (class k.function_class nil)
ruled_edge k false f g h = absurd h
ruled_edge k true f g h = meets_edge k f g h

fits_edge : (k : Table) (b : Bool) (f : Ty) (r : Ty) (q o : Tys) (n : NamedTys) → Fits k b f (function r q o n) → Edge k f (class k.function_class nil)
fits_edge k b f r q o n (inl h) = calls_edge k f h
fits_edge k b f r q o n (inr (inl h)) = transport (λ x. Edge k x (class k.function_class nil)) (sym h) (up_function r q o n)
fits_edge k b f r q o n (inr (inr h)) = ruled_edge k b f (function r q o n) h

nth_mono : (k : Table) (b : Bool) (bs ts : Tys) → Les k b bs ts → (i : ℕ) → Le k b (argument bs i) (argument ts i)
nth_mono k b nil nil l i = tt
nth_mono k b nil (cons a ts) l i = absurd l
nth_mono k b (cons s bs) nil l i = absurd l
nth_mono k b (cons s bs) (cons a ts) l zero = l.0
nth_mono k b (cons s bs) (cons a ts) l (suc i) = nth_mono k b bs ts l.1 i

-- putting in arguments that are more specific gives a more specific type, where no function type turns them round
mutual
  pub mono : (k : Table) (b : Bool) (bs ts : Tys) (l : Les k b bs ts) (x : Ty) → IsPlain x → Le k b (instance bs x) (instance ts x)
  mono k b bs ts l dynamic h = tt
  mono k b bs ts l bottom h = tt
  mono k b bs ts l void h = inr tt
  mono k b bs ts l (parameter i) h = nth_mono k b bs ts l i
  mono k b bs ts l (class c us) h = inr (instances ts us, here _, monos k b bs ts l us h)
  mono k b bs ts l (function r q o n) h = absurd h

  pub monos : (k : Table) (b : Bool) (bs ts : Tys) (l : Les k b bs ts) (xs : Tys) → ArePlain xs → Les k b (instances bs xs) (instances ts xs)
  monos k b bs ts l nil h = tt
  monos k b bs ts l (cons x xs) h = (mono k b bs ts l x h.0, monos k b bs ts l xs h.1)

module _ (k : Table) (good : Good k) where
  edge_is : (P : Ty → Type 0) → ((c : ℕ) (us : Tys) → P (class c us) → ⊥) → (t u : Ty) → Edge k t u → P u → ⊥
  edge_is P no_class t u (up c ts x i) p = super_is P no_class ts x (good.supertypes c x i) p
  edge_is P no_class t u (up_bound i x j) p = super_none P no_class x (good.bounds i x j) p
  edge_is P no_class t u (up_function r q o n) p = no_class _ _ p
  edge_is P no_class t u (up_calls c ts h) p = no_class _ _ p

  -- only classes stand above another type
  down : (P : Ty → Type 0) → ((c : ℕ) (us : Tys) → P (class c us) → ⊥) → (t u : Ty) → Reach k t u → P u → P t
  down P no_class t u (here _) p = p
  down P no_class t u (step _ v _ e r) p = absurd (edge_is P no_class t v e (down P no_class v u r p))

  pub le_up : (b : Bool) (s t u : Ty) → Reach k t u → Le k b s u → Le k b s t
  le_up b dynamic t u r l = tt
  le_up b bottom t u r l = down IsBottom (λ c us h. h) t u r l
  le_up b void t u r (inl l) = inl (down IsBottom (λ c us h. h) t u r l)
  le_up b void t u r (inr l) = inr (down IsVoid (λ c us h. h) t u r l)
  le_up b (parameter i) t u r (inl l) = inl (down IsBottom (λ c us h. h) t u r l)
  le_up b (parameter i) t u r (inr l) = inr (down (IsParameter i) (λ c us h. h) t u r l)
  le_up b (class d bs) t u r (inl l) = inl (down IsBottom (λ c us h. h) t u r l)
  le_up b (class d bs) t u r (inr (ts, p, l)) = inr (ts, reach_trans t u (class d ts) r p, l)
  le_up b (function s q o n) t u r (inl l) = inl (down IsBottom (λ c us h. h) t u r l)
  le_up b (function s q o n) t u r (inr (f, p, l)) = inr (f, reach_trans t u f r p, l)

  bound_up : (b : Bool) (i : ℕ) (x : Ty) → In x (k.bounds i) → (t : Ty) → IsParameter i t → Le k b x t
  bound_up b i x j (parameter m) h =
      transport (λ l. Le k b x (parameter l)) (sym h) (le_up b x (parameter i) x (step _ _ _ (up_bound i x j) (here _)) (le_refl k b x))
  bound_up b i x j void h = absurd h
  bound_up b i x j bottom h = absurd h
  bound_up b i x j dynamic h = absurd h
  bound_up b i x j (class c us) h = absurd h
  bound_up b i x j (function r q o n) h = absurd h

  le_edge : (b : Bool) (u v t : Ty) → Edge k u v → Le k b u t → Le k b v t
  le_edge b _ _ t (up c bs x i) (inl h) = le_bot k b (instance bs x) t h
  le_edge b _ _ t (up c bs x i) (inr (ts, r, l)) =
      le_up b (instance bs x) t (instance ts x) (reach_trans t (class c ts) (instance ts x) r (step _ _ _ (up c ts x i) (here _))) (mono k b bs ts l x (super_plain x (good.supertypes c x i)))
  le_edge b _ _ t (up_bound i x j) (inl h) = le_bot k b x t h
  le_edge b _ _ t (up_bound i x j) (inr h) = bound_up b i x j t h
  le_edge b _ _ t (up_function r q o n) (inl h) = inl h
  le_edge b _ _ t (up_function r q o n) (inr (f, p, l)) = inr (nil, reach_trans t f _ p (step _ _ _ (fits_edge k b f r q o n l) (here _)), tt)
  le_edge b _ _ t (up_calls c bs e) (inl h) = inl h
  le_edge b _ _ t (up_calls c bs e) (inr (ts, r, l)) = inr (nil, reach_trans t (class c ts) _ r (step _ _ _ (up_calls c ts e) (here _)), tt)

  pub le_reach : (b : Bool) (u v t : Ty) → Reach k u v → Le k b u t → Le k b v t
  le_reach b u v t (here _) l = l
  le_reach b u v t (step _ w _ e r) l = le_reach b w v t r (le_edge b u w t e l)

  module _ (a b c : Bool) (w : Sub a c) (x : Sub b c) (once : (f g h : Ty) → Ruled k a f g → Ruled k b g h → ⊥) where
    ruled_below : (f g t : Ty) → Ruled k b f g → Le k a f t → IsBottom t ⊎ ((e : Ty) × Reach k t e × Fits k c e g)
    ruled_below (function r q o n) g t h (inl l) = inl l
    ruled_below (function r q o n) g t h (inr (e, p, inl l)) = inr (e, p, inl l)
    ruled_below (function r q o n) g t h (inr (e, p, inr (inl l))) =
        inr (e, p, inr (inr (transport (λ y. Ruled k c y g) (sym l) (ruled_sub k b c x (function r q o n) g h))))
    ruled_below (function r q o n) g t h (inr (e, p, inr (inr l))) = absurd (once e (function r q o n) g l h)
    ruled_below dynamic g t h l = absurd (ruled_fun k b dynamic g h)
    ruled_below bottom g t h l = absurd (ruled_fun k b bottom g h)
    ruled_below void g t h l = absurd (ruled_fun k b void g h)
    ruled_below (parameter i) g t h l = absurd (ruled_fun k b (parameter i) g h)
    ruled_below (class d us) g t h l = absurd (ruled_fun k b (class d us) g h)

    fits_below : (f r : Ty) (q o : Tys) (n : NamedTys) (t : Ty) → Fits k b f (function r q o n) → Le k a f t → Le k c (function r q o n) t
    fits_below f r q o n t (inl h) l = calls_below k a c f (function r q o n) t h l
    fits_below f r q o n t (inr (inl h)) l = le_sub k a c w (function r q o n) t (transport (λ g. Le k a g t) h l)
    fits_below f r q o n t (inr (inr h)) l = ruled_below f (function r q o n) t h l

    mutual
      pub le_trans : (s u t : Ty) → Le k b s u → Le k a u t → Le k c s t
      le_trans dynamic u t p q = tt
      le_trans bottom u t p q = bot_below k a u t p q
      le_trans void u t (inl p) q = inl (bot_below k a u t p q)
      le_trans void u t (inr p) q = vd_below k a u t p q
      le_trans (parameter i) u t (inl p) q = inl (bot_below k a u t p q)
      le_trans (parameter i) u t (inr p) q = par_below k a i u t p q
      le_trans (class d bs) u t (inl p) q = inl (bot_below k a u t p q)
      le_trans (class d bs) u t (inr (us, r, l)) q =
          elim (le_reach a u (class d us) t r q) [ inl h ↦ inl h | inr z ↦ inr (z.0, z.1, les_trans bs us z.0 l z.2) ]
      le_trans (function s y o n) u t (inl p) q = inl (bot_below k a u t p q)
      le_trans (function s y o n) u t (inr (f, r, l)) q = fits_below f s y o n t l (le_reach a u f t r q)

      pub les_trans : (ss us ts : Tys) → Les k b ss us → Les k a us ts → Les k c ss ts
      les_trans nil nil nil p q = tt
      les_trans nil nil (cons t ts) p q = q
      les_trans nil (cons u us) ts p q = absurd p
      les_trans (cons s ss) nil ts p q = absurd p
      les_trans (cons s ss) (cons u us) nil p q = q
      les_trans (cons s ss) (cons u us) (cons t ts) p q = (le_trans s u t p.0 q.0, les_trans ss us ts p.1 q.1)

  met : (f g : Ty) → Meets k f g → Le k true g f
  met f g (meets r s q p o e n m x y z w) = inr (function r q o n, here _, inr (inr (meets r s q p o e n m x y z w)))

  mutual
    -- what is derived is found
    pub complete : (b : Bool) (t s : Ty) → Derives k b t s → Le k b s t
    complete b t s (same _ _) = le_refl k b t
    complete b t s (from_bottom _ _) = le_bot k b s bottom tt
    complete b t s (to_dynamic _ _) = tt
    complete b t s (supertype _ c ts u i) = le_up b _ (class c ts) _ (step _ _ _ (up c ts u i) (here _)) (le_refl k b (instance ts u))
    complete b t s (bound _ i u h) = le_up b _ (parameter i) _ (step _ _ _ (up_bound i u h) (here _)) (le_refl k b u)
    complete b t s (arguments _ c ts bs l) = inr (ts, here _, completes b ts bs l)
    complete b t s (function_to_class _ r q o n) = inr (nil, step _ _ _ (up_function r q o n) (here _), tt)
    complete b t s (call_to_class _ c ts e) = inr (nil, step _ _ _ (up_calls c ts e) (here _), tt)
    complete b t s (call_to_function _ c ts r q o n e) = inr (class c ts, here _, inl e)
    complete b t s (function_rule f g m) = met f g m
    complete b t s (left _ _ u _ d e) = le_trans b false b (sub_refl b) tt (λ f g h p q. q) s u t (complete false u s e) (complete b t u d)
    complete b t s (right _ _ u _ d e) = le_trans false b b tt (sub_refl b) (λ f g h p q. p) s u t (complete b u s e) (complete false t u d)

    pub completes : (b : Bool) (ts ss : Tys) → DeriveAll k b ts ss → Les k b ss ts
    completes b ts ss (no_more _) = tt
    completes b ts ss (one_more _ a c us cs d l) = (complete b a c d, completes b us cs l)

edge_sound : (k : Table) (t u : Ty) → Edge k t u → Derives k false t u
edge_sound k t u (up c ts x i) = supertype false c ts x i
edge_sound k t u (up_bound i x j) = bound false i x j
edge_sound k t u (up_function r q o n) = function_to_class false r q o n
edge_sound k t u (up_calls c ts e) = call_to_class false c ts e

pub reach_sound : (k : Table) (t u : Ty) → Reach k t u → Derives k false t u
reach_sound k t u (here _) = same false t
reach_sound k t u (step _ v _ e r) = left false t v u (edge_sound k t v e) (reach_sound k v u r)

bot_sound : (k : Table) (b : Bool) (t s : Ty) → IsBottom t → Derives k b t s
bot_sound k b bottom s h = from_bottom b s
bot_sound k b dynamic s h = absurd h
bot_sound k b void s h = absurd h
bot_sound k b (parameter i) s h = absurd h
bot_sound k b (class c us) s h = absurd h
bot_sound k b (function r q o n) s h = absurd h

vd_sound : (k : Table) (b : Bool) (t : Ty) → IsVoid t → Derives k b t void
vd_sound k b void h = same b void
vd_sound k b dynamic h = absurd h
vd_sound k b bottom h = absurd h
vd_sound k b (parameter i) h = absurd h
vd_sound k b (class c us) h = absurd h
vd_sound k b (function r q o n) h = absurd h

par_sound : (k : Table) (b : Bool) (i : ℕ) (t : Ty) → IsParameter i t → Derives k b t (parameter i)
par_sound k b i (parameter j) h = transport (λ m. Derives k b (parameter j) (parameter m)) h (same b (parameter j))
par_sound k b i dynamic h = absurd h
par_sound k b i bottom h = absurd h
par_sound k b i void h = absurd h
par_sound k b i (class c us) h = absurd h
par_sound k b i (function r q o n) h = absurd h

calls_sound : (k : Table) (b : Bool) (f r : Ty) (q o : Tys) (n : NamedTys) → Calls k f → Derives k b f (function r q o n)
calls_sound k b (class c us) r q o n h = call_to_function b c us r q o n h
calls_sound k b dynamic r q o n h = absurd h
calls_sound k b bottom r q o n h = absurd h
calls_sound k b void r q o n h = absurd h
calls_sound k b (parameter i) r q o n h = absurd h
calls_sound k b (function s p e m) r q o n h = absurd h

ruled_sound : (k : Table) (b : Bool) (f g : Ty) → Ruled k b f g → Derives k b f g
ruled_sound k false f g h = absurd h
ruled_sound k true f g h = function_rule f g h

fits_sound : (k : Table) (b : Bool) (f r : Ty) (q o : Tys) (n : NamedTys) → Fits k b f (function r q o n) → Derives k b f (function r q o n)
fits_sound k b f r q o n (inl h) = calls_sound k b f r q o n h
fits_sound k b f r q o n (inr (inl h)) = transport (λ g. Derives k b f g) h (same b f)
fits_sound k b f r q o n (inr (inr h)) = ruled_sound k b f (function r q o n) h

-- what is found is derived
mutual
  pub sound : (k : Table) (b : Bool) (s t : Ty) → Le k b s t → Derives k b t s
  sound k b dynamic t l = to_dynamic b t
  sound k b bottom t l = bot_sound k b t bottom l
  sound k b void t (inl l) = bot_sound k b t void l
  sound k b void t (inr l) = vd_sound k b t l
  sound k b (parameter i) t (inl l) = bot_sound k b t (parameter i) l
  sound k b (parameter i) t (inr l) = par_sound k b i t l
  sound k b (class d bs) t (inl l) = bot_sound k b t (class d bs) l
  sound k b (class d bs) t (inr (ts, r, l)) = right b t (class d ts) (class d bs) (reach_sound k t (class d ts) r) (arguments b d ts bs (sounds k b bs ts l))
  sound k b (function r q o n) t (inl l) = bot_sound k b t (function r q o n) l
  sound k b (function r q o n) t (inr (f, p, l)) = right b t f (function r q o n) (reach_sound k t f p) (fits_sound k b f r q o n l)

  pub sounds : (k : Table) (b : Bool) (ss ts : Tys) → Les k b ss ts → DeriveAll k b ts ss
  sounds k b nil nil l = no_more b
  sounds k b nil (cons t ts) l = absurd l
  sounds k b (cons s ss) nil l = absurd l
  sounds k b (cons s ss) (cons t ts) l = one_more b t s ts ss (sound k b s t l.0) (sounds k b ss ts l.1)
